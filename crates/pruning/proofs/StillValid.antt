-- "The pruned tables validate": every name that is left is still known. Assumes nothing.
use Rattle.std.specs.Prelude.{Option, Some, None, Ok}
use Prim.Native.Nat.{ℕ, ◌+◌, ◌-◌, ◌≤◌, ◌<◌}
use mathlib.Core.Path.{◌≡◌, refl, sym, ap, ◌∙◌}
use mathlib.Core.List.{List, []}
use mathlib.Core.Bool.{Bool, true, false, ◌||◌}
use native.Mathlib.Omega.{arith}
use lib.ListN.{length}
use Rattle.scan.proofs.Bytes.{told}
use Rattle.tables.specs.Table.{cell, find_name}
use Rattle.tables.specs.Rows.{row_at}
use Rattle.tables.specs.Layout.{tokens, precedences, implicit, epps, unused, rules, productions, symbols, key_name, symbols_from, symbols_to, prec, kind_name, known_row, width}
use Rattle.tables.proofs.Rows.{row_cell}
use Rattle.tables.proofs.Cases.{find_iff}
use Rattle.grammar.specs.declared.Counts.{Counts}
use Rattle.grammar.specs.declared.Singles.{Singles}
use Rattle.grammar.specs.Sound.{Tables, Indexes}
use Rattle.productions.specs.Cells.{production_at}
use Rattle.sound.specs.Test.{count_at}
use Rattle.sound.proofs.Iff.{sound_iff}
use Rattle.validation.specs.declared.Flaw.TheVariants.{InvalidStartRule, UnknownEppKey}
use Rattle.validation.specs.Faults.{is_row, known, start_faults, prec_faults, kind_faults, epp_faults, validity}
use Rattle.validation.proofs.Order.{validity_first}
use Rattle.reach.specs.Reach.{Calls}
use Rattle.closing.specs.Close.{rank}
use Rattle.closing.proofs.Numbers.{From, rank_from, kept_length, closed_row}
use Rattle.pruning.specs.Stays.{StayWork}
use Rattle.pruning.specs.Pruned.{rule_stays, token_stays, found_stays, name_stays, row_stays, production_stays, Pruned, pruned}
use Rattle.pruning.specs.Again.{grammar_in, excuses_in}
use Rattle.pruning.proofs.Rows.{offset}
use Rattle.pruning.proofs.Forth.{Ready, same_cell, count_epps, count_productions, rows, new_production, new_from, new_to, new_other, new_symbol_cell}
use Rattle.pruning.proofs.Find.{known_calls, calls_known}
use Rattle.pruning.proofs.Complete.{Complete, complete_none, unless_none, none_unless, rule_name_known, token_name_known, name_known}
use Rattle.pruning.proofs.Reached.{before, after, rule_calls, token_calls}
use Rattle.pruning.proofs.Kept.{sound, ready, same_count, asked, prec_known, known_prec, start_stays, expected_rule_stays, expected_token_stays, rule_called, token_called, rule_kept, token_kept, prec_stays}
use Rattle.pruning.proofs.StillSound.{still_sound}

-- one of two tests says yes
or_cases : (p q : Bool) → (p || q) ≡ true → (C : Type 0) → (p ≡ true → C) → (q ≡ true → C) → C
or_cases true q e C f g = f refl
or_cases false q e C f g = g e

or_first : (p q : Bool) → p ≡ true → (p || q) ≡ true
or_first p q e = rw e

or_second : (p q : Bool) → q ≡ true → (p || q) ≡ true
or_second true q e = refl
or_second false q e = e

module _ (src : List ℕ) (c : Counts) (g : Singles) (T : Tables) (X : Indexes) (ws : List ℕ) (ten : length c.n ≡ 10) (v : validity src c g T X ≡ Ok tt) (work : StayWork (grammar_in src g.start c T) (excuses_in src c T) ws) where
  abbrev ok : Ready c T
  ok = ready src c g T X ws ten v work

  abbrev were : Complete src c g T
  were = asked src c g T X ws ten v work

  unfoldable made : Pruned
  made = pruned src c T X ws

  abbrev left : List (List ℕ)
  left = rows src c T ws ok

  -- the name of a row that stays is known
  rule_still : (a b r : ℕ) → rule_stays ws r ≡ true → Calls src (before src c g.start T X ws ok).rules a b r → known src made.tables.t7 (width rules) (count_at made.counts rules) a b ≡ true
  unfolding made after
  rule_still a b r s x = calls_known src (after src c g.start T X ws ok).rules a b (rank (rule_stays ws) r) (rule_calls src c g.start T X ws ok s x)

  token_still : (a b t : ℕ) → token_stays c ws t ≡ true → Calls src (before src c g.start T X ws ok).tokens a b t → known src made.tables.t1 (width tokens) (count_at made.counts tokens) a b ≡ true
  unfolding made after
  token_still a b t s x = calls_known src (after src c g.start T X ws ok).tokens a b (rank (token_stays c ws) t) (token_calls src c g.start T X ws ok s x)

  -- the start
  start_still : (p : Option (ℕ × ℕ)) → p ≡ g.start → start_faults src p T.t7 (count_at c rules) ≡ [] → start_faults src p made.tables.t7 (count_at made.counts rules) ≡ []
  unfolding before
  start_still None q e = let z : ◌≡◌ {A = ℕ} 0 1 = cc in absurd (omega arith)
  start_still (Some (a, b)) q e =
      let x = known_calls src (before src c g.start T X ws ok).rules a b (unless_none (known src T.t7 (width rules) (count_at c rules) a b) (InvalidStartRule a b) e) in
      none_unless (known src made.tables.t7 (width rules) (count_at made.counts rules) a b) (InvalidStartRule a b)
      (rule_still a b x.0 (start_stays src c g T X ws ten v work x.0 (rw (← q) x.1)) x.1)

  -- productions
  module _ (p : ℕ) (there : p < count_at c productions) (stays : production_stays ws T.t8 p ≡ true) where
    abbrev j : ℕ
    j = new_production src c T ws ok p there stays

    prec_still : prec_faults src (production_at made.tables.t8 j).prec made.tables.t1 (count_at made.counts tokens) made.tables.t2 (count_at made.counts precedences) ≡ []
    unfolding made pruned rows before production_at
    prec_still =
        let same : (k : ℕ) → k < 3 → cell (width productions) made.tables.t8 j (prec + k) ≡ cell (width productions) T.t8 p (prec + k) = λ k l. new_other src c T ws ok p there stays (prec + k) (omega arith) (λ q. omega arith) (λ q. omega arith) (λ q. omega arith) in
        let f = cell (width productions) T.t8 p prec in
        let a = cell (width productions) T.t8 p (prec + 1) in
        let b = cell (width productions) T.t8 p (prec + 2) in
        let was : f ≡ 1 → (known src T.t1 (width tokens) (count_at c tokens) a b ≡ true) × (known src T.t2 (width precedences) (count_at c precedences) a b ≡ true) = λ k. prec_known src T.t1 (count_at c tokens) T.t2 (count_at c precedences) f a b k (were.precs p there) in
        let n = same_count src c g T X ws ten v work precedences (λ q. omega arith) (λ q. omega arith) (λ q. omega arith) (λ q. omega arith) (λ q. omega arith) (λ q. omega arith) in
        rw (same 0 (omega arith), same 1 (omega arith), same 2 (omega arith))
        (known_prec src made.tables.t1 (count_at made.counts tokens) T.t2 (count_at made.counts precedences) f a b
        (λ k. token_at_lem k (known_calls src (before src c g.start T X ws ok).tokens a b (was k).0))
        (λ k. ap (λ (m : ℕ). known src T.t2 (width precedences) m a b) (sym n) ∙ (was k).1))
      where
        token_at_lem : cell (width productions) T.t8 p prec ≡ 1 → ((t : ℕ) × Calls src (before src c g.start T X ws ok).tokens (cell (width productions) T.t8 p (prec + 1)) (cell (width productions) T.t8 p (prec + 2)) t) → known src made.tables.t1 (width tokens) (count_at made.counts tokens) (cell (width productions) T.t8 p (prec + 1)) (cell (width productions) T.t8 p (prec + 2)) ≡ true
        token_at_lem k x = token_still _ _ x.0 (prec_stays src c g T X ws ten v work p there stays k x.0 x.1) x.1

    symbol_still : (s : ℕ) → cell (width productions) made.tables.t8 j symbols_from ≤ s → s < cell (width productions) made.tables.t8 j symbols_to → kind_faults src (width symbols) made.tables.t9 made.tables.t1 (count_at made.counts tokens) made.tables.t7 (count_at made.counts rules) s ≡ []
    unfolding made pruned rows kind_faults
    symbol_still s h l =
        let from = cell (width productions) T.t8 p symbols_from in
        let o = offset left j in
        let a = new_from src c T ws ok p there stays in
        let b = new_to src c T ws ok p there stays in
        let k = s - o in
        let e : o + k ≡ s = omega arith in
        let low : from ≤ from + k = omega arith in
        let high : from + k < cell (width productions) T.t8 p symbols_to = omega arith in
        let same : (q : ℕ) → q < known_row → cell (width symbols) made.tables.t9 s q ≡ cell (width symbols) T.t9 (from + k) q = λ q d. ap (λ (n : ℕ). cell (width symbols) made.tables.t9 n q) (sym e) ∙ new_symbol_cell src c T ws ok p there stays k (omega arith) q d in
        rw (same 0 (omega arith), same kind_name (omega arith), same (kind_name + 1) (omega arith))
        (name_known src _ _ _ made.tables.t1 (count_at made.counts tokens) made.tables.t7 (count_at made.counts rules)
        (λ d. rule_still _ _ _ (rule_kept src c g T X ws ten v work p there stays (from + k) low high d) (rule_called src c g T X ws ten v work p (from + k) there low high d))
        (λ d. token_still _ _ _ (token_kept src c g T X ws ten v work p there stays (from + k) low high d) (token_called src c g T X ws ten v work p (from + k) there low high d)))

  production_from : (p : ℕ) → p < count_at made.counts productions → From (production_stays ws T.t8) (count_at c productions) p
  unfolding made pruned rows
  production_from p h =
      let e : count_at made.counts productions ≡ length left = count_productions c _ _ _ _ _ _ ten in
      let n = kept_length (production_stays ws T.t8) (width productions) T.t8 (count_at c productions) in
      rank_from (production_stays ws T.t8) (count_at c productions) p (omega arith)

  -- `%epp` rows that stayed: the key's token stayed, or it is an implicit one
  epp_row : (r : ℕ) → r < count_at c epps → row_stays src c T.t1 ws (width epps) key_name T.t5 r ≡ true → (known src made.tables.t1 (width tokens) (count_at made.counts tokens) (cell (width epps) T.t5 r key_name) (cell (width epps) T.t5 r (key_name + 1)) || known src made.tables.t4 (width implicit) (count_at made.counts implicit) (cell (width epps) T.t5 r key_name) (cell (width epps) T.t5 r (key_name + 1))) ≡ true
  unfolding row_stays name_stays epp_faults known before made pruned
  epp_row r h s =
      let a = cell (width epps) T.t5 r key_name in
      let b = cell (width epps) T.t5 r (key_name + 1) in
      let n = same_count src c g T X ws ten v work implicit (λ q. omega arith) (λ q. omega arith) (λ q. omega arith) (λ q. omega arith) (λ q. omega arith) (λ q. omega arith) in
      let now-token = known src made.tables.t1 (width tokens) (count_at made.counts tokens) a b in
      let now-implicit = known src made.tables.t4 (width implicit) (count_at made.counts implicit) a b in
      or_cases (known src T.t1 (width tokens) (count_at c tokens) a b) (known src T.t4 (width implicit) (count_at c implicit) a b) (unless_none _ (UnknownEppKey (cell (width epps) T.t5 r 0) (cell (width epps) T.t5 r 1)) (were.epps r h)) _
      (λ k. or_first now-token now-implicit (token (find_name src (width tokens) 0 (count_at c tokens) T.t1 a b) refl k s))
      (λ k. or_second now-token now-implicit (ap (λ (m : ℕ). known src T.t4 (width implicit) m a b) (sym n) ∙ k))
    where
      token : (f : Option ℕ) → find_name src (width tokens) 0 (count_at c tokens) T.t1 (cell (width epps) T.t5 r key_name) (cell (width epps) T.t5 r (key_name + 1)) ≡ f → is_row f ≡ true → found_stays f c ws ≡ true → known src made.tables.t1 (width tokens) (count_at made.counts tokens) (cell (width epps) T.t5 r key_name) (cell (width epps) T.t5 r (key_name + 1)) ≡ true
      token (Some t) e k d =
          let x = (find_iff src (width tokens) 0 (count_at c tokens) T.t1 (cell (width epps) T.t5 r key_name) (cell (width epps) T.t5 r (key_name + 1)) t).0 e in
          token_still _ _ t d (record { inside = x.inside; same = x.named })
      token None e k d = let z : ◌≡◌ {A = ℕ} 0 1 = cc in absurd (omega arith)

  epp_still : (r : ℕ) → r < count_at made.counts epps → epp_faults src made.tables.t1 (count_at made.counts tokens) made.tables.t4 (count_at made.counts implicit) made.tables.t5 r ≡ []
  unfolding epp_faults made pruned
  epp_still r h = go (rank_from (row_stays src c T.t1 ws (width epps) key_name T.t5) (count_at c epps) r (let n : count_at made.counts epps ≡ rank (row_stays src c T.t1 ws (width epps) key_name T.t5) (count_at c epps) = count_epps c _ _ _ _ _ _ ten in omega arith))
    where
      go : From (row_stays src c T.t1 ws (width epps) key_name T.t5) (count_at c epps) r → epp_faults src made.tables.t1 (count_at made.counts tokens) made.tables.t4 (count_at made.counts implicit) made.tables.t5 r ≡ []
      go x =
          let stays = row_stays src c T.t1 ws (width epps) key_name T.t5 in
          let e = ap (λ (n : ℕ). row_at (width epps) made.tables.t5 n) (sym x.same) ∙ closed_row stays (width epps) (count_at c epps) T.t5 x.row ok.epps_fit x.there x.kept in
          let same : (k : ℕ) → k < width epps → cell (width epps) made.tables.t5 r k ≡ cell (width epps) T.t5 x.row k = λ k l. same_cell (width epps) T.t5 made.tables.t5 x.row r k l e in
          rw (same 0 (omega arith), same 1 (omega arith), same key_name (omega arith), same (key_name + 1) (omega arith))
          (none_unless _ (UnknownEppKey (cell (width epps) T.t5 x.row 0) (cell (width epps) T.t5 x.row 1)) (epp_row x.row x.there x.kept))

  -- expected unused ones: a name excuses its row, which stays
  unused_still : (r : ℕ) → r < count_at c unused → kind_faults src (width unused) T.t6 made.tables.t1 (count_at made.counts tokens) made.tables.t7 (count_at made.counts rules) r ≡ []
  unfolding kind_faults before
  unused_still r h =
      let kd = cell (width unused) T.t6 r 0 in
      let a = cell (width unused) T.t6 r kind_name in
      let b = cell (width unused) T.t6 r (kind_name + 1) in
      let x = (sound src c g T X ws ten v work).rows unused r (omega arith) h in
      let least = x.least in
      let most = x.most in
      let d = row_cell (width unused) T.t6 r 0 (omega arith) in
      name_known src kd a b made.tables.t1 (count_at made.counts tokens) made.tables.t7 (count_at made.counts rules)
      (λ k. let y = known_calls src (before src c g.start T X ws ok).rules a b (rule_name_known src kd a b T.t1 (count_at c tokens) T.t7 (count_at c rules) (were.unused r h) k) in rule_still a b y.0 (expected_rule_stays src c g T X ws ten v work r y.0 h k y.1) y.1)
      (λ k. let y = known_calls src (before src c g.start T X ws ok).tokens a b (token_name_known src kd a b T.t1 (count_at c tokens) T.t7 (count_at c rules) (were.unused r h) k) in token_still a b y.0 (expected_token_stays src c g T X ws ten v work r y.0 h (omega arith) y.1) y.1)

  still_asked : Complete src made.counts g made.tables
  unfolding new_production made pruned rows
  still_asked =
      let n = same_count src c g T X ws ten v work unused (λ q. omega arith) (λ q. omega arith) (λ q. omega arith) (λ q. omega arith) (λ q. omega arith) (λ q. omega arith) in
      record {
        start = start_still g.start refl were.start;
        precs = λ p h. let x = production_from p h in told (λ (k : ℕ). prec_faults src (production_at made.tables.t8 k).prec made.tables.t1 (count_at made.counts tokens) made.tables.t2 (count_at made.counts precedences) ≡ []) x.same (prec_still x.row x.there x.kept);
        syms =
            λ p s h a b.
            let x = production_from p h in
            told (λ (k : ℕ). cell (width productions) made.tables.t8 k symbols_from ≤ s → s < cell (width productions) made.tables.t8 k symbols_to → kind_faults src (width symbols) made.tables.t9 made.tables.t1 (count_at made.counts tokens) made.tables.t7 (count_at made.counts rules) s ≡ []) x.same (symbol_still x.row x.there x.kept s) a b;
        epps = epp_still;
        unused = λ r h. unused_still r (omega arith);
      }

  -- "The pruned tables validate"
  pub still_valid : validity src (pruned src c T X ws).counts g (pruned src c T X ws).tables (pruned src c T X ws).indexes ≡ Ok tt
  unfolding made
  still_valid =
      let p = pruned src c T X ws in
      (validity_first src p.counts g p.tables p.indexes).0.1
      ((sound_iff src p.counts g p.tables p.indexes).1 (still_sound src c g T X ws ten v work), complete_none src p.counts g p.tables still_asked)
