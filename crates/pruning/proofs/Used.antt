-- Use is the same before and after: "the report afterwards is the earlier one limited to rows that stayed, renumbered". Assumes nothing.
use Rattle.std.specs.Prelude.{Option, Some, None}
use Prim.Native.Nat.{ℕ}
use mathlib.Core.Path.{◌≡◌, refl, sym, ◌∙◌}
use mathlib.Core.List.{List}
use mathlib.Core.Bool.{true}
use native.Mathlib.Omega.{arith}
use lib.ListN.{length}
use Rattle.scan.proofs.Bytes.{told}
use Rattle.grammar.specs.declared.Counts.{Counts}
use Rattle.grammar.specs.Sound.{Tables, Indexes}
use Rattle.reach.specs.Reach.{Grammar, Begins, Calls, Names, Chain, here, next, UsedRule, Uses, symbol, precedence, UsedToken}
use Rattle.closing.specs.Close.{rank}
use Rattle.closing.proofs.Numbers.{rank_inject}
use Rattle.pruning.specs.Stays.{start_rule, StaysRule, StayWork}
use Rattle.pruning.specs.Pruned.{rule_stays, token_stays, pruned}
use Rattle.pruning.proofs.Forth.{Ready, rows, count_productions}
use Rattle.pruning.proofs.Stays.{used_rule_stays}
use Rattle.pruning.proofs.Back.{Was, calls_back, NamedBy, named_exact, names_back, precs_back}
use Rattle.pruning.proofs.Reached.{before, after, excuses, rules_count, rule_calls, tokens_count, token_names, token_precs, chain_forth, stays_yes}

module _ (src : List ℕ) (c : Counts) (from : Option (ℕ × ℕ)) (T : Tables) (X : Indexes) (ws : List ℕ) (ready : Ready c T) where
  abbrev old : Grammar
  old = before src c from T X ws ready

  abbrev new : Grammar
  new = after src c from T X ws ready

  count_now : new.net.count ≡ length (rows src c T ws ready)
  unfolding after pruned rows
  count_now = count_productions c _ _ _ _ _ _ ready.ten

  -- the row that had a name which a row has
  rule_was : (x y j : ℕ) → Calls src new.rules x y j → Was src (rule_stays ws) old.rules x y j
  unfolding before after pruned
  rule_was x y j q = calls_back src (rule_stays ws) old.rules new.rules refl refl (rules_count src c from T X ws ready) ready.rules_fit (omega arith) q

  token_was : (x y j : ℕ) → Calls src new.tokens x y j → Was src (token_stays c ws) old.tokens x y j
  unfolding before after pruned
  token_was x y j q = calls_back src (token_stays c ws) old.tokens new.tokens refl refl (tokens_count src c from T X ws ready) ready.tokens_fit (omega arith) q

  -- what a rule names afterwards, its old row named
  rules_back : {a b : ℕ} → Names new.net new.rules a b → NamedBy Names src c T ws (rule_stays ws) old.rules a b
  unfolding before after pruned rows
  rules_back n = let e = count_now in names_back src c T ws ready (rule_stays ws) old.rules new.rules refl rule_was (rw e at n)

  pub rule_names_back : (a b : ℕ) → rule_stays ws a ≡ true → rule_stays ws b ≡ true → Names new.net new.rules (rank (rule_stays ws) a) (rank (rule_stays ws) b) → Names old.net old.rules a b
  unfolding before
  rule_names_back a b s t n = named_exact ws (rule_stays ws) a b s t (rules_back n)

  -- and so with the tokens that it uses
  pub uses_back : (a t : ℕ) → rule_stays ws a ≡ true → token_stays c ws t ≡ true → Uses new (rank (rule_stays ws) a) (rank (token_stays c ws) t) → Uses old a t
  unfolding before after pruned rows
  uses_back a t s y (symbol n) = let e = count_now in symbol (named_exact ws (token_stays c ws) a t s y (names_back src c T ws ready (token_stays c ws) old.tokens new.tokens refl token_was (rw e at n)))
  uses_back a t s y (precedence n) = let e = count_now in precedence (named_exact ws (token_stays c ws) a t s y (precs_back src c T ws ready (token_stays c ws) old.tokens new.tokens token_was (rw e at n)))

  pub uses_forth : (a t : ℕ) → rule_stays ws a ≡ true → token_stays c ws t ≡ true → Uses old a t → Uses new (rank (rule_stays ws) a) (rank (token_stays c ws) t)
  uses_forth a t s y (symbol n) = symbol (token_names src c from T X ws ready s y n)
  uses_forth a t s y (precedence n) = precedence (token_precs src c from T X ws ready s y n)

  -- a used rule of the pruned tables was a used one
  pub record UsedBefore (j : ℕ) : Type 0 where
    pub row : ℕ
    pub kept : rule_stays ws row ≡ true
    pub same : rank (rule_stays ws) row ≡ j
    pub used : UsedRule old row

  chain_back : {f j : ℕ} → Begins src new.rules from f → Chain new.net new.rules f j → UsedBefore j
  unfolding before after
  chain_back {f} b here = first from b (λ r s. s)
    where
      first : (q : Option (ℕ × ℕ)) → Begins src new.rules q f → ((r : ℕ) → Begins src old.rules q r → Begins src old.rules from r) → UsedBefore f
      first None x g = absurd x
      first (Some (a, e)) x g = let w = rule_was a e f x in record { row = w.row; kept = w.kept; same = w.same; used = record { first = w.row; begins = g w.row w.calls; chain = here } }
  chain_back b (next q n) = more (chain_back b q) (rules_back n)
    where
      more : {k j : ℕ} → UsedBefore k → NamedBy Names src c T ws (rule_stays ws) old.rules k j → UsedBefore j
      more u w =
          let g : w.by ≡ u.row = rank_inject (rule_stays ws) w.by u.row w.by_kept u.kept (w.by_same ∙ sym u.same) in
          let n : Names old.net old.rules u.row w.row = told (λ (z : ℕ). Names old.net old.rules z w.row) g w.names in
          record { row = w.row; kept = w.row_kept; same = w.row_same; used = record { first = u.used.first; begins = u.used.begins; chain = next u.used.chain n } }

  pub used_back : (r : ℕ) → rule_stays ws r ≡ true → UsedRule new (rank (rule_stays ws) r) → UsedRule old r
  unfolding after
  used_back r s u = go (chain_back u.begins u.chain)
    where
      go : UsedBefore (rank (rule_stays ws) r) → UsedRule old r
      go x = told (UsedRule old) (rank_inject (rule_stays ws) x.row r x.kept s x.same) x.used

  -- and the other way round
  begins_forth : (q : Option (ℕ × ℕ)) (r : ℕ) → rule_stays ws r ≡ true → Begins src old.rules q r → Begins src new.rules q (rank (rule_stays ws) r)
  begins_forth None r s x = absurd x
  begins_forth (Some (a, b)) r s x = rule_calls src c from T X ws ready s x

  pub used_forth : StayWork old (excuses src c from T X ws ready) ws → (r : ℕ) → UsedRule old r → UsedRule new (rank (rule_stays ws) r)
  unfolding before after
  used_forth work r u =
      let t : StaysRule old (excuses src c from T X ws ready) u.first = record { root = u.first; begins = start_rule u.begins; chain = here } in
      record { first = rank (rule_stays ws) u.first; begins = begins_forth from u.first (stays_yes src c from T X ws ready work t) u.begins; chain = (chain_forth src c from T X ws ready work t u.chain).1 }

  -- The same of tokens.
  pub token_used_back : (t : ℕ) → token_stays c ws t ≡ true → UsedToken new (rank (token_stays c ws) t) → UsedToken old t
  unfolding after
  token_used_back t s u = go (chain_back u.used.begins u.used.chain) u.uses
    where
      go : UsedBefore u.by → Uses new u.by (rank (token_stays c ws) t) → UsedToken old t
      go x y = record { by = x.row; used = x.used; uses = uses_back x.row t x.kept s (told (λ (k : ℕ). Uses new k (rank (token_stays c ws) t)) (sym x.same) y) }

  pub token_used_forth : StayWork old (excuses src c from T X ws ready) ws → (t : ℕ) → token_stays c ws t ≡ true → UsedToken old t → UsedToken new (rank (token_stays c ws) t)
  token_used_forth work t s u =
      record { by = rank (rule_stays ws) u.by; used = used_forth work u.by u.used; uses = uses_forth u.by t (stays_yes src c from T X ws ready work (used_rule_stays u.used)) s u.uses }
