-- What valid tables name: the names of a production that stays are those of rows that stay, and are found in their new rows. Assumes nothing.
use Rattle.std.specs.Prelude.{Some, None, Ok}
use Prim.Native.Nat.{ℕ, ◌+◌, ◌≤◌, ◌<◌}
use mathlib.Core.Path.{◌≡◌, refl, sym, ◌∙◌}
use mathlib.Core.List.{List, []}
use mathlib.Core.Bool.{Bool, true, false}
use native.Mathlib.Omega.{arith}
use lib.ListN.{length}
use lib.Dec.{eqb}
use borrow.Author.Tests.{eq-eqb, eqb-true}
use Rattle.tables.specs.Table.{cell, has_name, find_name}
use Rattle.tables.specs.Layout.{tokens, precedences, avoided, epps, unused, rules, productions, symbols, rule_row, symbols_from, symbols_to, prec, kind_name, known_row, width}
use Rattle.tables.proofs.Rows.{row_cell}
use Rattle.tables.proofs.Cases.{find_iff, same_part_sym}
use Rattle.symbols.proofs.Laws.{named_rule, named_token, symbol_is}
use Rattle.grammar.specs.declared.Counts.{Counts}
use Rattle.grammar.specs.declared.Singles.{Singles}
use Rattle.grammar.specs.Sound.{Tables, Indexes, Sound, lexicon_of}
use Rattle.productions.specs.Cells.{prec_of}
use Rattle.sound.specs.Test.{count_at}
use Rattle.sound.proofs.Iff.{sound_iff}
use Rattle.validation.specs.declared.Flaw.TheVariants.{NoPrecForToken}
use Rattle.validation.specs.Faults.{known, prec_given, prec_faults, kind_faults, validity}
use Rattle.validation.proofs.Order.{validity_first}
use Rattle.reach.specs.Reach.{Begins, Calls, here, precedence}
use Rattle.usage.specs.Report.{ExcusedRow, expected}
use Rattle.closing.specs.Close.{rank, closed}
use Rattle.pruning.specs.Stays.{start_rule, excused_rule, StaysRule, used_token, excused_token, StayWork}
use Rattle.pruning.specs.Pruned.{rule_stays, token_stays, production_stays, pruned}
use Rattle.pruning.specs.Again.{grammar_in, excuses_in}
use Rattle.pruning.proofs.Stays.{named_rule_stays, named_token_stays}
use Rattle.pruning.proofs.Forth.{Ready, Resolved}
use Rattle.pruning.proofs.Ready.{sound_ready}
use Rattle.pruning.proofs.Find.{find_new, found_row}
use Rattle.pruning.proofs.Complete.{Complete, complete, unless_none, rule_name_known, token_name_known}
use Rattle.pruning.proofs.Reached.{count_else, before, excuses, stays_yes, rule_of_bit, token_yes}

-- a `%prec` whose tests do not fail
module _ (src : List ℕ) (t1 : List ℕ) (n : ℕ) (t2 : List ℕ) (m : ℕ) where
  given_known : (k l : Bool) (a b : ℕ) → prec_given k l a b ≡ [] → (k ≡ true) × (l ≡ true)
  given_known true l a b e = (refl, unless_none l (NoPrecForToken a b) e)
  given_known false l a b e = let z : ◌≡◌ {A = ℕ} 0 1 = cc in absurd (omega arith)

  prec_is : (f a b : ℕ) → f ≡ 1 → prec_faults src (prec_of f a b) t1 n t2 m ≡ prec_given (known src t1 (width tokens) n a b) (known src t2 (width precedences) m a b) a b
  unfolding prec_of
  prec_is f a b e = rw (prec_of, eq-eqb f 1 e)

  pub prec_known : (f a b : ℕ) → f ≡ 1 → prec_faults src (prec_of f a b) t1 n t2 m ≡ [] → (known src t1 (width tokens) n a b ≡ true) × (known src t2 (width precedences) m a b ≡ true)
  prec_known f a b k e = given_known (known src t1 (width tokens) n a b) (known src t2 (width precedences) m a b) a b (sym (prec_is f a b k) ∙ e)

  pub known_prec : (f a b : ℕ) → (f ≡ 1 → known src t1 (width tokens) n a b ≡ true) → (f ≡ 1 → known src t2 (width precedences) m a b ≡ true) → prec_faults src (prec_of f a b) t1 n t2 m ≡ []
  unfolding prec_of
  known_prec f a b x y = go (eqb f 1) refl
    where
      given : known src t1 (width tokens) n a b ≡ true → known src t2 (width precedences) m a b ≡ true → prec_given (known src t1 (width tokens) n a b) (known src t2 (width precedences) m a b) a b ≡ []
      given p q = rw (p, q)

      go : (q : Bool) → eqb f 1 ≡ q → prec_faults src (elim q [ true ↦ Some (a, b) | false ↦ None ]) t1 n t2 m ≡ []
      go true e = let k = eqb-true f 1 e in given (x k) (y k)
      go false e = refl

module _ (src : List ℕ) (c : Counts) (g : Singles) (T : Tables) (X : Indexes) (ws : List ℕ) (ten : length c.n ≡ 10) (v : validity src c g T X ≡ Ok tt) (work : StayWork (grammar_in src g.start c T) (excuses_in src c T) ws) where
  pub sound : Sound src c g T X
  sound = (sound_iff src c g T X).0 ((validity_first src c g T X).0.0 v).0

  pub ready : Ready c T
  ready = sound_ready src c g T X ten sound

  pub asked : Complete src c g T
  asked = complete src c g T ready.owned ((validity_first src c g T X).0.0 v).1

  pub working : StayWork (before src c g.start T X ws ready) (excuses src c g.start T X ws ready) ws
  unfolding before excuses
  working = work

  -- the count of a table that pruning leaves
  pub same_count : (k : ℕ) → (k ≡ tokens → ⊥) → (k ≡ avoided → ⊥) → (k ≡ epps → ⊥) → (k ≡ rules → ⊥) → (k ≡ productions → ⊥) → (k ≡ symbols → ⊥) → count_at c k ≡ count_at (pruned src c T X ws).counts k
  unfolding pruned
  same_count k a b d e f h = sym (count_else c _ _ _ _ _ _ k a b d e f h)

  -- the start's rule stays
  pub start_stays : (r : ℕ) → Begins src (before src c g.start T X ws ready).rules g.start r → rule_stays ws r ≡ true
  unfolding before
  start_stays r x = stays_yes src c g.start T X ws ready working (record { root = r; begins = start_rule x; chain = here })

  -- and a rule or token that a declaration excuses
  pub excused_rule_stays : (r : ℕ) → r < count_at c rules → ExcusedRow (excuses src c g.start T X ws ready) (before src c g.start T X ws ready).rules r → rule_stays ws r ≡ true
  unfolding before
  excused_rule_stays r h x = stays_yes src c g.start T X ws ready working (record { root = r; begins = excused_rule h x; chain = here })

  pub excused_token_stays : (t : ℕ) → t < count_at c tokens → ExcusedRow (excuses src c g.start T X ws ready) (before src c g.start T X ws ready).tokens t → token_stays c ws t ≡ true
  unfolding before
  excused_token_stays t h x = token_yes src c g.start T X ws ready working t h (excused_token h x)

  -- the row of a name of table 6 stays
  pub expected_rule_stays : (e r : ℕ) → e < count_at c unused → cell (width unused) T.t6 e 0 ≡ 1 → Calls src (before src c g.start T X ws ready).rules (cell (width unused) T.t6 e kind_name) (cell (width unused) T.t6 e (kind_name + 1)) r → rule_stays ws r ≡ true
  unfolding before excuses has_name
  expected_rule_stays e r h k x =
      excused_rule_stays r x.inside
      (expected (record { entry = e; there = h; expects = record { kind = k; same = same_part_sym src (cell (width unused) T.t6 e kind_name) (cell (width unused) T.t6 e (kind_name + 1)) (cell (width rules) T.t7 r 0) (cell (width rules) T.t7 r 1) ∙ x.same } }))

  pub expected_token_stays : (e t : ℕ) → e < count_at c unused → cell (width unused) T.t6 e 0 ≡ 2 → Calls src (before src c g.start T X ws ready).tokens (cell (width unused) T.t6 e kind_name) (cell (width unused) T.t6 e (kind_name + 1)) t → token_stays c ws t ≡ true
  unfolding before excuses has_name
  expected_token_stays e t h k x =
      excused_token_stays t x.inside
      (expected (record { entry = e; there = h; expects = record { kind = k; same = same_part_sym src (cell (width unused) T.t6 e kind_name) (cell (width unused) T.t6 e (kind_name + 1)) (cell (width tokens) T.t1 t 0) (cell (width tokens) T.t1 t 1) ∙ x.same } }))

  -- a symbol of a production
  module _ (p s : ℕ) (there : p < count_at c productions) (from : cell (width productions) T.t8 p symbols_from ≤ s) (to : s < cell (width productions) T.t8 p symbols_to) where
    symbol_in : s < count_at c symbols
    symbol_in = let r = ready.ranges p there in omega arith

    -- is a token where it is no rule,
    pub token_kind : (cell (width symbols) T.t9 s 0 ≡ 1 → ⊥) → cell (width symbols) T.t9 s 0 ≡ 2
    token_kind k =
        let x = sound.rows symbols s (omega arith) symbol_in in
        let a = x.least in
        let b = x.most in
        let d = row_cell (width symbols) T.t9 s 0 (omega arith) in
        omega arith

    -- and is found in the row that it has
    pub rule_found : cell (width symbols) T.t9 s 0 ≡ 1 → find_name src (width rules) 0 (count_at c rules) T.t7 (cell (width symbols) T.t9 s kind_name) (cell (width symbols) T.t9 s (kind_name + 1)) ≡ Some (cell (width symbols) T.t9 s known_row)
    unfolding kind_faults known
    rule_found k =
        found_row _ _ (rule_name_known src (cell (width symbols) T.t9 s 0) (cell (width symbols) T.t9 s kind_name) (cell (width symbols) T.t9 s (kind_name + 1)) T.t1 (count_at c tokens) T.t7 (count_at c rules) (asked.syms p s there from to) k)
        (sound.known.row s symbol_in ∙ sym (symbol_is (lexicon_of src c T) T.t9 s _ _ _ _ refl refl refl (named_rule (lexicon_of src c T) _ _ _ _ k refl)))

    pub token_found_lem : (cell (width symbols) T.t9 s 0 ≡ 1 → ⊥) → find_name src (width tokens) 0 (count_at c tokens) T.t1 (cell (width symbols) T.t9 s kind_name) (cell (width symbols) T.t9 s (kind_name + 1)) ≡ Some (cell (width symbols) T.t9 s known_row)
    unfolding kind_faults known
    token_found_lem k =
        found_row _ _ (token_name_known src (cell (width symbols) T.t9 s 0) (cell (width symbols) T.t9 s kind_name) (cell (width symbols) T.t9 s (kind_name + 1)) T.t1 (count_at c tokens) T.t7 (count_at c rules) (asked.syms p s there from to) k)
        (sound.known.row s symbol_in ∙ sym (symbol_is (lexicon_of src c T) T.t9 s _ _ _ _ refl refl refl (named_token (lexicon_of src c T) _ _ _ _ k refl)))

    pub rule_called : cell (width symbols) T.t9 s 0 ≡ 1 → Calls src (before src c g.start T X ws ready).rules (cell (width symbols) T.t9 s kind_name) (cell (width symbols) T.t9 s (kind_name + 1)) (cell (width symbols) T.t9 s known_row)
    unfolding before
    rule_called k =
        let x = (find_iff src (width rules) 0 (count_at c rules) T.t7 (cell (width symbols) T.t9 s kind_name) (cell (width symbols) T.t9 s (kind_name + 1)) (cell (width symbols) T.t9 s known_row)).0 (rule_found k) in
        record { inside = x.inside; same = x.named }

    pub token_called : (cell (width symbols) T.t9 s 0 ≡ 1 → ⊥) → Calls src (before src c g.start T X ws ready).tokens (cell (width symbols) T.t9 s kind_name) (cell (width symbols) T.t9 s (kind_name + 1)) (cell (width symbols) T.t9 s known_row)
    unfolding before
    token_called k =
        let x = (find_iff src (width tokens) 0 (count_at c tokens) T.t1 (cell (width symbols) T.t9 s kind_name) (cell (width symbols) T.t9 s (kind_name + 1)) (cell (width symbols) T.t9 s known_row)).0 (token_found_lem k) in
        record { inside = x.inside; same = x.named }

  -- the rows that symbols have are rows
  pub resolved : Resolved c T
  unfolding before
  resolved = record { rule = λ p s h a b k. (rule_called p s h a b k).inside; token = λ p s h a b k. (token_called p s h a b k).inside }

  -- a production that stays
  module _ (p : ℕ) (there : p < count_at c productions) (stays : production_stays ws T.t8 p ≡ true) where
    owner : StaysRule (before src c g.start T X ws ready) (excuses src c g.start T X ws ready) (cell (width productions) T.t8 p rule_row)
    unfolding before production_stays
    owner = rule_of_bit src c g.start T X ws ready working (cell (width productions) T.t8 p rule_row) (ready.owned p there) stays

    module _ (s : ℕ) (from : cell (width productions) T.t8 p symbols_from ≤ s) (to : s < cell (width productions) T.t8 p symbols_to) where
      -- its symbols' rows stay,
      pub rule_kept : cell (width symbols) T.t9 s 0 ≡ 1 → rule_stays ws (cell (width symbols) T.t9 s known_row) ≡ true
      unfolding before
      rule_kept k =
          stays_yes src c g.start T X ws ready working
          (named_rule_stays owner (record { prod = p; there = there; of = refl; sym = s; holds = record { from = from; to = to; kind = k; row = rule_called p s there from to k } }))

      pub token_kept : (cell (width symbols) T.t9 s 0 ≡ 1 → ⊥) → token_stays c ws (cell (width symbols) T.t9 s known_row) ≡ true
      unfolding before
      token_kept k =
          let x = token_called p s there from to k in
          token_yes src c g.start T X ws ready working (cell (width symbols) T.t9 s known_row) x.inside
          (named_token_stays owner (record { prod = p; there = there; of = refl; sym = s; holds = record { from = from; to = to; kind = token_kind p s there from to k; row = x } }))

      -- and are found under their new numbers
      pub rule_new : cell (width symbols) T.t9 s 0 ≡ 1 → find_name src (width rules) 0 (rank (rule_stays ws) (count_at c rules)) (closed (rule_stays ws) (width rules) (count_at c rules) T.t7).cells (cell (width symbols) T.t9 s kind_name) (cell (width symbols) T.t9 s (kind_name + 1)) ≡ Some (rank (rule_stays ws) (cell (width symbols) T.t9 s known_row))
      rule_new k = find_new src (rule_stays ws) (width rules) (count_at c rules) T.t7 ready.rules_fit (omega arith) _ _ _ (rule_found p s there from to k) (rule_kept k)

      pub token_new : (cell (width symbols) T.t9 s 0 ≡ 1 → ⊥) → find_name src (width tokens) 0 (rank (token_stays c ws) (count_at c tokens)) (closed (token_stays c ws) (width tokens) (count_at c tokens) T.t1).cells (cell (width symbols) T.t9 s kind_name) (cell (width symbols) T.t9 s (kind_name + 1)) ≡ Some (rank (token_stays c ws) (cell (width symbols) T.t9 s known_row))
      token_new k = find_new src (token_stays c ws) (width tokens) (count_at c tokens) T.t1 ready.tokens_fit (omega arith) _ _ _ (token_found_lem p s there from to k) (token_kept k)

    -- the token of its `%prec` stays
    pub prec_stays : cell (width productions) T.t8 p prec ≡ 1 → (t : ℕ) → Calls src (before src c g.start T X ws ready).tokens (cell (width productions) T.t8 p (prec + 1)) (cell (width productions) T.t8 p (prec + 2)) t → token_stays c ws t ≡ true
    unfolding before
    prec_stays k t x =
        token_yes src c g.start T X ws ready working t x.inside
        (used_token (cell (width productions) T.t8 p rule_row) owner (precedence (record { prod = p; there = there; of = refl; holds = record { given = k; row = x } })))
