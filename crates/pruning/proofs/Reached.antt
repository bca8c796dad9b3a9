-- After pruning every rule stays: what stayed is reached again, by new numbers. Assumes nothing.
use Rattle.std.specs.Prelude.{Option, Some, None}
use Prim.Native.Nat.{ℕ, ◌+◌, ◌≤◌, ◌<◌}
use mathlib.Core.Path.{◌≡◌, refl, ◌∙◌}
use mathlib.Core.List.{List}
use mathlib.Core.Bool.{true}
use native.Mathlib.Omega.{arith}
use lib.ListN.{length, set}
use lib.Seq.{get_or-set_other}
use borrow.Author.Tests.{eq-eqb, eqb-true}
use Rattle.scan.proofs.Bytes.{told}
use Rattle.tables.specs.Layout.{tokens, avoided, implicit, epps, unused, rules, productions, symbols, width}
use Rattle.grammar.specs.declared.Counts.{Counts}
use Rattle.grammar.specs.Sound.{Tables, Indexes}
use Rattle.sound.specs.Test.{count_at}
use Rattle.bits.specs.Bits.{bit}
use Rattle.reach.specs.Reach.{token_sort, Uses, symbol, precedence, NamesPrec, Grammar, grammar_of, Begins, Calls, Names, Chain, here, next}
use Rattle.usage.specs.Report.{Excuses, excuses_of, ExcusedRow}
use Rattle.closing.specs.Close.{rank, closed}
use Rattle.closing.proofs.Numbers.{From, rank_from, rank_below, closed_row}
use Rattle.pruning.specs.Stays.{Root, start_rule, excused_rule, StaysRule, StaysToken, used_token, excused_token, Staying, rule, token, StayWork}
use Rattle.pruning.specs.Pruned.{rule_stays, token_stays, counts_left, pruned}
use Rattle.pruning.proofs.Stays.{named_rule_stays}
use Rattle.pruning.proofs.Forth.{Ready, same_cell, count_tokens, count_rules, count_productions, rows, names_forth, precs_forth, calls_forth}

-- a count that pruning leaves
pub count_else : (c : Counts) (a b d e f g k : ℕ) → (k ≡ tokens → ⊥) → (k ≡ avoided → ⊥) → (k ≡ epps → ⊥) → (k ≡ rules → ⊥) → (k ≡ productions → ⊥) → (k ≡ symbols → ⊥) → count_at (counts_left c a b d e f g) k ≡ count_at c k
count_else c a b d e f g k p q r s t u =
    get_or-set_other (set (set (set (set (set c.n tokens a) avoided b) epps d) rules e) productions f) symbols k g 0 u
    ∙ (get_or-set_other (set (set (set (set c.n tokens a) avoided b) epps d) rules e) productions k f 0 t
    ∙ (get_or-set_other (set (set (set c.n tokens a) avoided b) epps d) rules k e 0 s
    ∙ (get_or-set_other (set (set c.n tokens a) avoided b) epps k d 0 r ∙ (get_or-set_other (set c.n tokens a) avoided k b 0 q ∙ get_or-set_other c.n tokens k a 0 p))))

module _ (src : List ℕ) (c : Counts) (from : Option (ℕ × ℕ)) (T : Tables) (X : Indexes) (ws : List ℕ) (ready : Ready c T) where
  unfoldable pub before : Grammar
  before = grammar_of src c from T.t1 T.t7 T.t8 T.t9

  unfoldable pub after : Grammar
  after = let p = pruned src c T X ws in grammar_of src p.counts from p.tables.t1 p.tables.t7 p.tables.t8 p.tables.t9

  unfoldable pub excuses : Excuses
  excuses = excuses_of src c T.t4 T.t6

  pub rules_count : after.rules.sort.count ≡ rank (rule_stays ws) before.rules.sort.count
  unfolding after before pruned
  rules_count = count_rules c _ _ _ _ _ _ ready.ten

  -- a rule's name, and what it names, by new numbers
  pub rule_calls : {x y r : ℕ} → rule_stays ws r ≡ true → Calls src before.rules x y r → Calls src after.rules x y (rank (rule_stays ws) r)
  unfolding after before pruned
  rule_calls s q = calls_forth src (rule_stays ws) before.rules after.rules refl refl rules_count ready.rules_fit (omega arith) s q

  pub rule_names : {a b : ℕ} → rule_stays ws a ≡ true → rule_stays ws b ≡ true → Names before.net before.rules a b → Names after.net after.rules (rank (rule_stays ws) a) (rank (rule_stays ws) b)
  unfolding after before pruned rows
  rule_names s t n =
      let y = names_forth src c T ws ready before.rules after.rules (rank (rule_stays ws)) refl s (λ x y q. rule_calls t q) n in
      let q : after.net.count ≡ length (rows src c T ws ready) = count_productions c _ _ _ _ _ _ ready.ten in
      rw q y

  pub tokens_count : after.tokens.sort.count ≡ rank (token_stays c ws) before.tokens.sort.count
  unfolding after before pruned
  tokens_count = count_tokens c _ _ _ _ _ _ ready.ten

  pub token_calls : {x y r : ℕ} → token_stays c ws r ≡ true → Calls src before.tokens x y r → Calls src after.tokens x y (rank (token_stays c ws) r)
  unfolding after before pruned
  token_calls s q = calls_forth src (token_stays c ws) before.tokens after.tokens refl refl tokens_count ready.tokens_fit (omega arith) s q

  pub token_names : {a b : ℕ} → rule_stays ws a ≡ true → token_stays c ws b ≡ true → Names before.net before.tokens a b → Names after.net after.tokens (rank (rule_stays ws) a) (rank (token_stays c ws) b)
  unfolding after before pruned rows
  token_names s t n =
      let y = names_forth src c T ws ready before.tokens after.tokens (rank (token_stays c ws)) refl s (λ x y q. token_calls t q) n in
      let q : after.net.count ≡ length (rows src c T ws ready) = count_productions c _ _ _ _ _ _ ready.ten in
      rw q y

  pub token_precs : {a b : ℕ} → rule_stays ws a ≡ true → token_stays c ws b ≡ true → NamesPrec before.net before.tokens a b → NamesPrec after.net after.tokens (rank (rule_stays ws) a) (rank (token_stays c ws) b)
  unfolding after before pruned rows
  token_precs s t n =
      let y = precs_forth src c T ws ready before.tokens after.tokens (rank (token_stays c ws)) s (λ x y q. token_calls t q) n in
      let q : after.net.count ≡ length (rows src c T ws ready) = count_productions c _ _ _ _ _ _ ready.ten in
      rw q y

  pub base_above : before.rules.sort.count ≤ before.tokens.sort.base
  unfolding before
  base_above = omega arith

  -- the excuses are the same: tables 4 and 6 stay
  unfoldable pub excuses_after : Excuses
  excuses_after = let p = pruned src c T X ws in excuses_of src p.counts p.tables.t4 p.tables.t6

  pub same_excuses : excuses_after ≡ excuses
  unfolding excuses_after excuses pruned
  same_excuses =
      let a : count_at (pruned src c T X ws).counts implicit ≡ count_at c implicit = count_else c _ _ _ _ _ _ implicit (λ q. omega arith) (λ q. omega arith) (λ q. omega arith) (λ q. omega arith) (λ q. omega arith) (λ q. omega arith) in
      let b : count_at (pruned src c T X ws).counts unused ≡ count_at c unused = count_else c _ _ _ _ _ _ unused (λ q. omega arith) (λ q. omega arith) (λ q. omega arith) (λ q. omega arith) (λ q. omega arith) (λ q. omega arith) in
      λ i. record { src = src; implicits = T.t4; implicit_count = a i; expecteds = T.t6; expected_count = b i }

  -- chains between rules that stay
  module _ (work : StayWork before excuses ws) where
    stays_bit : {r : ℕ} → StaysRule before excuses r → r < before.rules.sort.count → rule_stays ws r ≡ true
    stays_bit {r} s h = let e : 0 + r ≡ r = omega arith in rw e (eq-eqb (bit ws r) 1 (work.all r (rule h s)))

    -- every rule on a chain is a row
    staying_in : {r : ℕ} → StaysRule before excuses r → r < before.rules.sort.count
    unfolding before
    staying_in s = chain_in s.chain (root_in s.begins)
      where
        begins_in : (q : Option (ℕ × ℕ)) {r : ℕ} → Begins src before.rules q r → r < before.rules.sort.count
        begins_in None x = absurd x
        begins_in (Some (a, b)) x = x.inside

        root_in : {r : ℕ} → Root before excuses r → r < before.rules.sort.count
        root_in (start_rule x) = begins_in from x
        root_in (excused_rule h x) = h

        chain_in : {a b : ℕ} → Chain before.net before.rules a b → a < before.rules.sort.count → b < before.rules.sort.count
        chain_in here h = h
        chain_in (next q n) h = n.holds.row.inside

    pub stays_yes : {r : ℕ} → StaysRule before excuses r → rule_stays ws r ≡ true
    stays_yes s = stays_bit s (staying_in s)

    -- a chain from a rule that stays, by new numbers
    pub chain_forth : {a b : ℕ} → StaysRule before excuses a → Chain before.net before.rules a b → StaysRule before excuses b × Chain after.net after.rules (rank (rule_stays ws) a) (rank (rule_stays ws) b)
    chain_forth s here = (s, here)
    chain_forth s (next q n) =
        let f = chain_forth s q in
        let t = named_rule_stays f.0 n in
        (t, next f.1 (rule_names (stays_yes f.0) (stays_yes t) n))

    root_forth : {r : ℕ} → rule_stays ws r ≡ true → Root before excuses r → Root after excuses_after (rank (rule_stays ws) r)
    unfolding before after pruned
    root_forth {r} s (start_rule x) = start_rule (begins from x)
      where
        begins : (q : Option (ℕ × ℕ)) → Begins src before.rules q r → Begins src after.rules q (rank (rule_stays ws) r)
        begins None y = absurd y
        begins (Some (a, b)) y = rule_calls s y
    root_forth {r} s (excused_rule h x) =
        let e = closed_row (rule_stays ws) (width rules) (count_at c rules) T.t7 r ready.rules_fit h s in
        let u = (closed (rule_stays ws) (width rules) (count_at c rules) T.t7).cells in
        let a = same_cell (width rules) T.t7 u r (rank (rule_stays ws) r) 0 (omega arith) e in
        let b = same_cell (width rules) T.t7 u r (rank (rule_stays ws) r) 1 (omega arith) e in
        excused_rule (rw rules_count (rank_below (rule_stays ws) r (count_at c rules) h s)) (rw (same_excuses, a, b) x)

    stays_forth : {r : ℕ} → StaysRule before excuses r → StaysRule after excuses_after (rank (rule_stays ws) r)
    stays_forth s =
        let t : StaysRule before excuses s.root = record { root = s.root; begins = s.begins; chain = here } in
        record { root = rank (rule_stays ws) s.root; begins = root_forth (stays_yes t) s.begins; chain = (chain_forth t s.chain).1 }

    -- a bit of a row says that it stays
    pub rule_of_bit : (r : ℕ) → r < before.rules.sort.count → rule_stays ws r ≡ true → StaysRule before excuses r
    rule_of_bit r l s = let e : 0 + r ≡ r = omega arith in by_mark (work.only r (eqb-true (bit ws r) 1 (rw e at s)))
      where
        by_mark : Staying before excuses r → StaysRule before excuses r
        by_mark (rule k s) = s
        by_mark (token t k e s) = absurd (omega (arith, base_above))

    pub token_yes : (t : ℕ) → t < before.tokens.sort.count → StaysToken before excuses t → token_stays c ws t ≡ true
    unfolding before
    token_yes t h s = eq-eqb (bit ws ((token_sort c).base + t)) 1 (work.all ((token_sort c).base + t) (token t h refl s))

    -- Every rule of the pruned tables stays.
    pub every_rule_stays : (i : ℕ) → i < after.rules.sort.count → StaysRule after excuses_after i
    every_rule_stays i h = go (rank_from (rule_stays ws) before.rules.sort.count i (let e = rules_count in omega arith))
      where
        go : From (rule_stays ws) before.rules.sort.count i → StaysRule after excuses_after i
        go x = told (StaysRule after excuses_after) x.same (stays_forth (rule_of_bit x.row x.there x.kept))

    -- and so does every token.
    token_bit : (t : ℕ) → token_stays c ws t ≡ true → Staying before excuses (before.tokens.sort.base + t)
    unfolding before
    token_bit t e = work.only ((token_sort c).base + t) (eqb-true (bit ws ((token_sort c).base + t)) 1 e)

    token_excused : {t : ℕ} → t < before.tokens.sort.count → token_stays c ws t ≡ true → ExcusedRow excuses before.tokens t → ExcusedRow excuses_after after.tokens (rank (token_stays c ws) t)
    unfolding before after pruned
    token_excused {t} h s x =
        let e = closed_row (token_stays c ws) (width tokens) (count_at c tokens) T.t1 t ready.tokens_fit h s in
        let u = (closed (token_stays c ws) (width tokens) (count_at c tokens) T.t1).cells in
        let a = same_cell (width tokens) T.t1 u t (rank (token_stays c ws) t) 0 (omega arith) e in
        let b = same_cell (width tokens) T.t1 u t (rank (token_stays c ws) t) 1 (omega arith) e in
        rw (same_excuses, a, b) x

    token_forth : {t : ℕ} → t < before.tokens.sort.count → token_stays c ws t ≡ true → StaysToken before excuses t → StaysToken after excuses_after (rank (token_stays c ws) t)
    token_forth {t} h y (used_token by s u) = by_way u
      where
        by_way : Uses before by t → StaysToken after excuses_after (rank (token_stays c ws) t)
        by_way (symbol n) = used_token (rank (rule_stays ws) by) (stays_forth s) (symbol (token_names (stays_yes s) y n))
        by_way (precedence n) = used_token (rank (rule_stays ws) by) (stays_forth s) (precedence (token_precs (stays_yes s) y n))
    token_forth {t} h y (excused_token k x) = excused_token (let e = tokens_count in let l = rank_below (token_stays c ws) t before.tokens.sort.count h y in omega arith) (token_excused h y x)

    pub every_token_stays : (i : ℕ) → i < after.tokens.sort.count → StaysToken after excuses_after i
    every_token_stays i h = go (rank_from (token_stays c ws) before.tokens.sort.count i (let e = tokens_count in omega arith))
      where
        by_mark : (t : ℕ) → t < before.tokens.sort.count → Staying before excuses (before.tokens.sort.base + t) → StaysToken before excuses t
        by_mark t l (rule k s) = absurd (omega (arith, base_above))
        by_mark t l (token q k e s) = let f : q ≡ t = omega arith in told (StaysToken before excuses) f s

        go : From (token_stays c ws) before.tokens.sort.count i → StaysToken after excuses_after i
        go x = told (StaysToken after excuses_after) x.same (token_forth x.there x.kept (by_mark x.row x.there (token_bit x.row x.kept)))
