-- The report of the pruned tables. Assumes nothing.
use Rattle.std.specs.Prelude.{Option}
use Prim.Native.Nat.{ℕ, zero, suc, ◌≤◌, ◌<◌}
use mathlib.Core.Path.{◌≡◌, refl, ap}
use mathlib.Core.List.{List, [], ◌∷◌, ◌++◌}
use mathlib.Core.Bool.{Bool, true, false}
use native.Mathlib.Omega.{arith}
use Rattle.tables.specs.Layout.{tokens, rules, width}
use Rattle.grammar.specs.declared.Counts.{Counts}
use Rattle.grammar.specs.Sound.{Tables, Indexes}
use Rattle.sound.specs.Test.{count_at}
use Rattle.usage.specs.Report.{ExcusedRow, UnusedRule, UnusedToken, Picks, none, take, skip}
use Rattle.closing.specs.Close.{rank, closed}
use Rattle.closing.proofs.Numbers.{closed_row}
use Rattle.pruning.specs.Stays.{StayWork}
use Rattle.pruning.specs.Pruned.{rule_stays, token_stays, pruned}
use Rattle.pruning.specs.Again.{renumbered}
use Rattle.pruning.proofs.Forth.{Ready, same_cell}
use Rattle.pruning.proofs.Reached.{before, after, excuses, excuses_after, same_excuses}
use Rattle.pruning.proofs.Used.{used_back, used_forth, token_used_back, token_used_forth}

-- a list of numbers, limited and renumbered
module _ (stays : ℕ → Bool) where
  again_yes : (l : List ℕ) (n : ℕ) → stays n ≡ true → renumbered stays (l ++ (n ∷ [])) ≡ renumbered stays l ++ (rank stays n ∷ [])
  unfolding renumbered
  again_yes [] n e = rw (renumbered, e)
  again_yes (r ∷ l) n e = go (stays r) (again_yes l n e)
    where
      go : (b : Bool) → renumbered stays (l ++ (n ∷ [])) ≡ renumbered stays l ++ (rank stays n ∷ []) → ◌≡◌ {A = List ℕ} (elim b [ true ↦ rank stays r ∷ renumbered stays (l ++ (n ∷ [])) | false ↦ renumbered stays (l ++ (n ∷ [])) ]) (elim b [ true ↦ rank stays r ∷ renumbered stays l | false ↦ renumbered stays l ] ++ (rank stays n ∷ []))
      go true h = ap (λ (x : List ℕ). rank stays r ∷ x) h
      go false h = h

  again_no : (l : List ℕ) (n : ℕ) → stays n ≡ false → renumbered stays (l ++ (n ∷ [])) ≡ renumbered stays l
  unfolding renumbered
  again_no [] n e = rw (renumbered, e)
  again_no (r ∷ l) n e = go (stays r) (again_no l n e)
    where
      go : (b : Bool) → renumbered stays (l ++ (n ∷ [])) ≡ renumbered stays l → ◌≡◌ {A = List ℕ} (elim b [ true ↦ rank stays r ∷ renumbered stays (l ++ (n ∷ [])) | false ↦ renumbered stays (l ++ (n ∷ [])) ]) (elim b [ true ↦ rank stays r ∷ renumbered stays l | false ↦ renumbered stays l ])
      go true h = ap (λ (x : List ℕ). rank stays r ∷ x) h
      go false h = h

  rank_yes : (n : ℕ) → stays n ≡ true → rank stays (suc n) ≡ suc (rank stays n)
  unfolding rank
  rank_yes n e = rw (rank, e)

  rank_no : (n : ℕ) → stays n ≡ false → rank stays (suc n) ≡ rank stays n
  unfolding rank
  rank_no n e = rw (rank, e)

  pub picks_again : (P Q : ℕ → Type 0) (m : ℕ) → ((r : ℕ) → r < m → stays r ≡ true → (P r → Q (rank stays r)) × (Q (rank stays r) → P r)) → (n : ℕ) (l : List ℕ) → n ≤ m → Picks P n l → Picks Q (rank stays n) (renumbered stays l)
  unfolding renumbered rank
  picks_again P Q m f zero [] h none = none
  picks_again P Q m f zero (_ ∷ _) h x = elim x [ ]
  picks_again P Q m f (suc n) _ h (take {l = l} q a) = go (stays n) refl (picks_again P Q m f n l (omega arith) q)
    where
      go : (b : Bool) → stays n ≡ b → Picks Q (rank stays n) (renumbered stays l) → Picks Q (rank stays (suc n)) (renumbered stays (l ++ (n ∷ [])))
      go true e x = rw (rank_yes n e, again_yes l n e) (take x ((f n (omega arith) e).0 a))
      go false e x = rw (rank_no n e, again_no l n e) x
  picks_again P Q m f (suc n) l h (skip q a) = go (stays n) refl (picks_again P Q m f n l (omega arith) q)
    where
      go : (b : Bool) → stays n ≡ b → Picks Q (rank stays n) (renumbered stays l) → Picks Q (rank stays (suc n)) (renumbered stays l)
      go true e x = rw (rank_yes n e) (skip x (λ z. a ((f n (omega arith) e).1 z)))
      go false e x = rw (rank_no n e) x

module _ (src : List ℕ) (c : Counts) (from : Option (ℕ × ℕ)) (T : Tables) (X : Indexes) (ws : List ℕ) (ready : Ready c T) (work : StayWork (before src c from T X ws ready) (excuses src c from T X ws ready) ws) where
  -- excuses by name are the same
  Same : Type 0 → Type 0 → Type 0
  Same X Y = (X → Y) × (Y → X)

  rule_excused : (r : ℕ) → r < count_at c rules → rule_stays ws r ≡ true → Same (ExcusedRow (excuses_after src c from T X ws ready) (after src c from T X ws ready).rules (rank (rule_stays ws) r)) (ExcusedRow (excuses src c from T X ws ready) (before src c from T X ws ready).rules r)
  unfolding before after pruned Same
  rule_excused r h s =
      let e = closed_row (rule_stays ws) (width rules) (count_at c rules) T.t7 r ready.rules_fit h s in
      let u = (closed (rule_stays ws) (width rules) (count_at c rules) T.t7).cells in
      let a = same_cell (width rules) T.t7 u r (rank (rule_stays ws) r) 0 (omega arith) e in
      let b = same_cell (width rules) T.t7 u r (rank (rule_stays ws) r) 1 (omega arith) e in
      (λ z. rw (same_excuses src c from T X ws ready, a, b) at z, λ z. rw (same_excuses src c from T X ws ready, a, b) z)

  unused_iff : (r : ℕ) → r < count_at c rules → rule_stays ws r ≡ true → (UnusedRule (before src c from T X ws ready) (excuses src c from T X ws ready) r → UnusedRule (after src c from T X ws ready) (excuses_after src c from T X ws ready) (rank (rule_stays ws) r)) × (UnusedRule (after src c from T X ws ready) (excuses_after src c from T X ws ready) (rank (rule_stays ws) r) → UnusedRule (before src c from T X ws ready) (excuses src c from T X ws ready) r)
  unfolding Same
  unused_iff r h s =
      let e = rule_excused r h s in (
        λ x. record { unreached = λ u. x.unreached (used_back src c from T X ws ready r s u); unexcused = λ z. x.unexcused (e.0 z) },
        λ x. record { unreached = λ u. x.unreached (used_forth src c from T X ws ready work r u); unexcused = λ z. x.unexcused (e.1 z) },
      )

  -- The unused rules afterwards are the earlier ones limited to rows that stayed, renumbered.
  pub rules_again : (l : List ℕ) → Picks (UnusedRule (before src c from T X ws ready) (excuses src c from T X ws ready)) (count_at c rules) l → Picks (UnusedRule (after src c from T X ws ready) (excuses_after src c from T X ws ready)) (rank (rule_stays ws) (count_at c rules)) (renumbered (rule_stays ws) l)
  rules_again l q = picks_again (rule_stays ws) _ _ (count_at c rules) unused_iff (count_at c rules) l (omega arith) q

  -- and so are the unused tokens.
  token_excused : (t : ℕ) → t < count_at c tokens → token_stays c ws t ≡ true → Same (ExcusedRow (excuses_after src c from T X ws ready) (after src c from T X ws ready).tokens (rank (token_stays c ws) t)) (ExcusedRow (excuses src c from T X ws ready) (before src c from T X ws ready).tokens t)
  unfolding before after pruned Same
  token_excused t h s =
      let e = closed_row (token_stays c ws) (width tokens) (count_at c tokens) T.t1 t ready.tokens_fit h s in
      let u = (closed (token_stays c ws) (width tokens) (count_at c tokens) T.t1).cells in
      let a = same_cell (width tokens) T.t1 u t (rank (token_stays c ws) t) 0 (omega arith) e in
      let b = same_cell (width tokens) T.t1 u t (rank (token_stays c ws) t) 1 (omega arith) e in
      (λ z. rw (same_excuses src c from T X ws ready, a, b) at z, λ z. rw (same_excuses src c from T X ws ready, a, b) z)

  unused_token_iff : (t : ℕ) → t < count_at c tokens → token_stays c ws t ≡ true → (UnusedToken (before src c from T X ws ready) (excuses src c from T X ws ready) t → UnusedToken (after src c from T X ws ready) (excuses_after src c from T X ws ready) (rank (token_stays c ws) t)) × (UnusedToken (after src c from T X ws ready) (excuses_after src c from T X ws ready) (rank (token_stays c ws) t) → UnusedToken (before src c from T X ws ready) (excuses src c from T X ws ready) t)
  unfolding Same
  unused_token_iff t h s =
      let e = token_excused t h s in (
        λ x. record { unreached = λ u. x.unreached (token_used_back src c from T X ws ready t s u); unexcused = λ z. x.unexcused (e.0 z) },
        λ x. record { unreached = λ u. x.unreached (token_used_forth src c from T X ws ready work t s u); unexcused = λ z. x.unexcused (e.1 z) },
      )

  pub tokens_again : (l : List ℕ) → Picks (UnusedToken (before src c from T X ws ready) (excuses src c from T X ws ready)) (count_at c tokens) l → Picks (UnusedToken (after src c from T X ws ready) (excuses_after src c from T X ws ready)) (rank (token_stays c ws) (count_at c tokens)) (renumbered (token_stays c ws) l)
  tokens_again l q = picks_again (token_stays c ws) _ _ (count_at c tokens) unused_token_iff (count_at c tokens) l (omega arith) q
