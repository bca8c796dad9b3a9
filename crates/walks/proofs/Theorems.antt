-- Calls from a fresh record give the report's rows in order, and then the end for ever. Assumes nothing.
use Rattle.std.specs.Prelude.{Option, Some, None, Result, Ok}
use Prim.Native.Nat.{ℕ, zero, suc, ◌+◌, ◌<◌, ◌≤◌}
use mathlib.Core.Path.{◌≡◌, refl, ap, ◌∙◌}
use mathlib.Core.List.{List}
use native.Mathlib.Omega.{arith}
use native.Mathlib.Decide.{dec_lt}
use Rattle.tables.specs.Table.{cell}
use Rattle.tables.specs.Layout.{tokens, rules}
use Rattle.grammar.specs.declared.Counts.{Counts}
use Rattle.grammar.specs.declared.Singles.{Singles}
use Rattle.grammar.specs.Sound.{Tables, Indexes}
use Rattle.sound.specs.Test.{count_at}
use Rattle.sound.proofs.Iff.{sound_iff}
use Rattle.validation.proofs.Order.{validity_first}
use Rattle.reach.specs.Reach.{Grammar, grammar_of}
use Rattle.usage.specs.Report.{Excuses, excuses_of, Free, Reported, MarkedBits}
use Rattle.usage.specs.Standing.{StandsIn, UnusedRow, unused_rule, unused_token, Before, by_kind, by_row, UnusedRows}
use Rattle.usage.proofs.Outcome.{free_rule, rule_free, free_token, token_free, all_marked, report_marks}
use Rattle.usage.proofs.Standing.{report_rows}
use Rattle.walks.specs.declared.NextError.{NextError}
use Rattle.walks.specs.declared.Standing.{Standing}
use Rattle.walks.specs.Walk.{FirstFrom, NoneFrom, Passes, rule_next, token_next, none_next, Advanced, fitting, unfitting}
use Rattle.walks.specs.Sequence.{FreshCalls, passed_row, stands_behind}

-- ---- one sort of rows: those of its kind that stand in the report before row k lie below a, and those from row k on do not

module _ (out : List ℕ) (n : ℕ) (rises : (i j : ℕ) → i < j → j < n → Before out i j) (kd : ℕ) where
  record Split (a k : ℕ) : Type 0 where
    pub low : (p : ℕ) → p < k → p < n → cell 2 out p 0 ≡ kd → cell 2 out p 1 < a
    pub high : (p : ℕ) → k ≤ p → p < n → cell 2 out p 0 ≡ kd → a ≤ cell 2 out p 1

  split_fresh : Split 0 0
  split_fresh = record { low = λ p h k e. absurd (omega arith); high = λ p h k e. omega arith }

  -- a row of another kind is passed, or none is left
  split_other : {a k : ℕ} → (k < n → cell 2 out k 0 ≡ kd → ⊥) → Split a k → Split a (suc k)
  split_other {a} {k} h s = record { low = low; high = λ p l m e. s.high p (omega arith) m e }
    where
      low : (p : ℕ) → p < suc k → p < n → cell 2 out p 0 ≡ kd → cell 2 out p 1 < a
      low p l m e =
          elim (dec_lt p k) [
            | yes d ↦ s.low p d m e
            | no d ↦ let q : p ≡ k = omega arith in absurd (h (omega arith) (rw q at e))
          ]

  -- two rows of the kind
  row_rises : {i j : ℕ} → cell 2 out i 0 ≡ kd → cell 2 out j 0 ≡ kd → Before out i j → cell 2 out i 1 < cell 2 out j 1
  row_rises a b (by_kind h) = absurd (omega (arith, a, b))
  row_rises a b (by_row e h) = h

  -- a row of the kind is passed
  split_more : {k : ℕ} → k < n → cell 2 out k 0 ≡ kd → Split (cell 2 out k 1 + 1) (suc k)
  split_more {k} h e = record { low = low; high = high }
    where
      low : (p : ℕ) → p < suc k → p < n → cell 2 out p 0 ≡ kd → cell 2 out p 1 < cell 2 out k 1 + 1
      low p l m f =
          elim (dec_lt p k) [
            | yes d ↦ omega (arith, row_rises f e (rises p k d h))
            | no d ↦ let q : p ≡ k = omega arith in rw q (omega arith)
          ]

      high : (p : ℕ) → suc k ≤ p → p < n → cell 2 out p 0 ≡ kd → cell 2 out k 1 + 1 ≤ cell 2 out p 1
      high p l m f = omega (arith, row_rises e f (rises k p (omega arith) m))

  -- of a property that the rows of the kind have, and no other
  module _ (P : ℕ → Type 0) (count : ℕ) (listed : (r : ℕ) → r < count → P r → StandsIn out n kd r) {a k : ℕ} (s : Split a k) where
    -- nothing is found behind the rows,
    none_behind : (r : ℕ) → n ≤ k → FirstFrom P a count r → ⊥
    none_behind r h f = let y = listed r f.inside f.holds in omega (arith, s.low y.at (omega (arith, y.there)) y.there y.kind, y.row, f.from)

    module _ (h : k < n) where
      -- nor before a row of a later kind;
      none_before : (r : ℕ) → kd < cell 2 out k 0 → FirstFrom P a count r → ⊥
      none_before r l f =
          let y = listed r f.inside f.holds in
          elim (dec_lt y.at k) [
            | yes d ↦ omega (arith, s.low y.at d y.there y.kind, y.row, f.from)
            | no d ↦ elim (dec_lt k y.at) [
              | yes e ↦ later y (rises k y.at e y.there)
              | no e ↦ let q : y.at ≡ k = omega arith in omega (arith, y.kind, ap (λ (i : ℕ). cell 2 out i 0) q)
            ]
          ]
        where
          later : (y : StandsIn out n kd r) → Before out k y.at → ⊥
          later y (by_kind b) = omega (arith, y.kind)
          later y (by_row b m) = omega (arith, y.kind)

      module _ (e : cell 2 out k 0 ≡ kd) (inside : cell 2 out k 1 < count) (has : P (cell 2 out k 1)) where
        -- a row of the kind is found,
        one_there : NoneFrom P a count → ⊥
        one_there o = o (cell 2 out k 1) (s.high k (omega arith) h e) inside has

        -- and it is that one
        first_there : (r : ℕ) → FirstFrom P a count r → r ≡ cell 2 out k 1
        first_there r f =
            let y = listed r f.inside f.holds in
            elim (dec_lt (cell 2 out k 1) r) [
              | yes d ↦ absurd (f.first (cell 2 out k 1) (s.high k (omega arith) h e) d has)
              | no d ↦ elim (dec_lt r (cell 2 out k 1)) [
                | yes l ↦ absurd (early y l)
                | no l ↦ omega arith
              ]
            ]
          where
            early : (y : StandsIn out n kd r) → r < cell 2 out k 1 → ⊥
            early y l =
                elim (dec_lt y.at k) [
                  | yes d ↦ omega (arith, s.low y.at d y.there y.kind, y.row, f.from)
                  | no d ↦ elim (dec_lt k y.at) [
                    | yes m ↦ omega (arith, row_rises e y.kind (rises k y.at m y.there), y.row)
                    | no m ↦ let q : y.at ≡ k = omega arith in omega (arith, y.row, ap (λ (i : ℕ). cell 2 out i 1) q)
                  ]
                ]

-- ---- a call by the bits of the used rows

module _ (src : List ℕ) (c : Counts) (g : Singles) (T : Tables) (X : Indexes) where
  abbrev grammar : Grammar
  grammar = grammar_of src c g.start T.t1 T.t7 T.t8 T.t9

  abbrev excuses : Excuses
  excuses = excuses_of src c T.t4 T.t6

  module _ (ws₀ ws : List ℕ) (marked : MarkedBits src c g T X (Ok tt) ws₀ ws) (n : ℕ) (out : List ℕ) (rows : UnusedRows grammar excuses n out) where
    abbrev FreeRule : ℕ → Type 0
    FreeRule = Free ws excuses grammar.rules

    abbrev FreeToken : ℕ → Type 0
    FreeToken = Free ws excuses grammar.tokens

    -- where a walk stands that has passed the first k rows
    record Stands (s : Standing) (k : ℕ) : Type 0 where
      pub rules_split : Split out n rows.rises 1 s.rules k
      pub tokens_split : Split out n rows.rises 2 s.tokens k
      pub rules_inside : s.rules ≤ count_at c rules
      pub tokens_inside : s.tokens ≤ count_at c tokens

    rule_listed : (r : ℕ) → r < count_at c rules → FreeRule r → StandsIn out n 1 r
    rule_listed r h f = (rows.exactly 1 r).1 (unused_rule refl h (free_rule grammar excuses ws refl (omega arith) (all_marked src c g T X ws₀ ws marked).1.2 r h f))

    token_listed : (r : ℕ) → r < count_at c tokens → FreeToken r → StandsIn out n 2 r
    token_listed r h f = (rows.exactly 2 r).1 (unused_token refl h (free_token grammar excuses ws refl (omega arith) (all_marked src c g T X ws₀ ws marked).1.2 r h f))

    -- row k of the report is a free rule or a free token
    data RowIs (kd r : ℕ) : Type 0 where
      is_rule : kd ≡ 1 → r < count_at c rules → FreeRule r → RowIs kd r
      is_token : kd ≡ 2 → r < count_at c tokens → FreeToken r → RowIs kd r

    row_is : (k : ℕ) → k < n → RowIs (cell 2 out k 0) (cell 2 out k 1)
    row_is k h = go ((rows.exactly (cell 2 out k 0) (cell 2 out k 1)).0 (record { at = k; there = h; kind = refl; row = refl }))
      where
        go : UnusedRow grammar excuses (cell 2 out k 0) (cell 2 out k 1) → RowIs (cell 2 out k 0) (cell 2 out k 1)
        go (unused_rule e l u) = is_rule e l (rule_free grammar excuses ws refl (omega arith) (all_marked src c g T X ws₀ ws marked).1.2 (cell 2 out k 1) l u)
        go (unused_token e l u) = is_token e l (token_free grammar excuses ws refl (omega arith) (all_marked src c g T X ws₀ ws marked).1.2 (cell 2 out k 1) l u)

    -- what a call gives that has row k before it
    record Given (s t : Standing) (m : Result (Option (ℕ × ℕ)) NextError) (k : ℕ) : Type 0 where
      pub said : m ≡ Ok (Some (cell 2 out k 0, cell 2 out k 1))
      pub record_is : t ≡ passed_row (cell 2 out k 0) (cell 2 out k 1) s
      pub stands : Stands t (suc k)

    module _ (s t : Standing) (m : Result (Option (ℕ × ℕ)) NextError) (k : ℕ) (h : k < n) (z : Stands s k) where
      rule_given : (r : ℕ) → cell 2 out k 0 ≡ 1 → cell 2 out k 1 < count_at c rules → r ≡ cell 2 out k 1 → m ≡ Ok (Some (1, r)) → t ≡ record { rules = r + 1; tokens = s.tokens } → Given s t m k
      unfolding passed_row
      rule_given r e l q a b =
          record {
            said = a ∙ rw (e, q) refl;
            record_is = b ∙ rw (e, q) refl;
            stands =
                rw (b, q) (record {
                  rules_split = split_more out n rows.rises 1 h e;
                  tokens_split = split_other out n rows.rises 2 (λ y f. omega (arith, e, f)) z.tokens_split;
                  rules_inside = omega arith;
                  tokens_inside = z.tokens_inside;
                });
          }

      token_given : (r : ℕ) → cell 2 out k 0 ≡ 2 → cell 2 out k 1 < count_at c tokens → r ≡ cell 2 out k 1 → m ≡ Ok (Some (2, r)) → t ≡ record { rules = s.rules; tokens = r + 1 } → Given s t m k
      unfolding passed_row
      token_given r e l q a b =
          record {
            said = a ∙ rw (e, q) refl;
            record_is = b ∙ rw (e, q) refl;
            stands =
                rw (b, q) (record {
                  rules_split = split_other out n rows.rises 1 (λ y f. omega (arith, e, f)) z.rules_split;
                  tokens_split = split_more out n rows.rises 2 h e;
                  rules_inside = z.rules_inside;
                  tokens_inside = omega arith;
                });
          }

      given_of_lem : RowIs (cell 2 out k 0) (cell 2 out k 1) → Passes ws excuses grammar.rules grammar.tokens s m t → Given s t m k
      given_of_lem (is_rule e l f) (rule_next r x a b) = rule_given r e l (first_there out n rows.rises 1 FreeRule (count_at c rules) rule_listed z.rules_split h e l f r x) a b
      given_of_lem (is_rule e l f) (token_next r o x a b) = absurd (one_there out n rows.rises 1 FreeRule (count_at c rules) rule_listed z.rules_split h e l f o)
      given_of_lem (is_rule e l f) (none_next o x a b) = absurd (one_there out n rows.rises 1 FreeRule (count_at c rules) rule_listed z.rules_split h e l f o)
      given_of_lem (is_token e l f) (rule_next r x a b) = absurd (none_before out n rows.rises 1 FreeRule (count_at c rules) rule_listed z.rules_split h r (omega (arith, e)) x)
      given_of_lem (is_token e l f) (token_next r o x a b) = token_given r e l (first_there out n rows.rises 2 FreeToken (count_at c tokens) token_listed z.tokens_split h e l f r x) a b
      given_of_lem (is_token e l f) (none_next o x a b) = absurd (one_there out n rows.rises 2 FreeToken (count_at c tokens) token_listed z.tokens_split h e l f x)

    -- what a call gives behind the last row
    over_of : (s t : Standing) (m : Result (Option (ℕ × ℕ)) NextError) (k : ℕ) → n ≤ k → Stands s k → Passes ws excuses grammar.rules grammar.tokens s m t → (m ≡ Ok None) × (t ≡ s)
    over_of s t m k h z (rule_next r x a b) = absurd (none_behind out n rows.rises 1 FreeRule (count_at c rules) rule_listed z.rules_split r h x)
    over_of s t m k h z (token_next r o x a b) = absurd (none_behind out n rows.rises 2 FreeToken (count_at c tokens) token_listed z.tokens_split r h x)
    over_of s t m k h z (none_next o x a b) = (a, b)

    -- the tables are sound and the words enough, so that no call is refused
    passes_of : (s t : Standing) (m : Result (Option (ℕ × ℕ)) NextError) (k : ℕ) → Stands s k → Advanced src c g T X ws s m t → Passes ws excuses grammar.rules grammar.tokens s m t
    passes_of s t m k z (fitting f p) = p
    passes_of s t m k z (unfitting h a b) =
        let y = all_marked src c g T X ws₀ ws marked in
        absurd (h (record {
          sound = (sound_iff src c g T X).0 ((validity_first src c g T X).0.0 y.0).0;
          rules_passed_lem = z.rules_inside;
          tokens_passed = z.tokens_inside;
          words = omega (arith, y.1.0, y.1.1);
        }))

    -- ---- the sequence of calls

    module _ (N : ℕ) (at : ℕ → Standing) (said : ℕ → Result (Option (ℕ × ℕ)) NextError) (w : FreshCalls src c g T X ws N at said) where
      stands_fresh : Stands (at 0) 0
      stands_fresh = rw w.begins (record { rules_split = split_fresh out n rows.rises 1; tokens_split = split_fresh out n rows.rises 2; rules_inside = omega arith; tokens_inside = omega arith })

      given_at : (k : ℕ) → k < N → k < n → Stands (at k) k → Given (at k) (at (suc k)) (said k) k
      given_at k h l z = given_of_lem (at k) (at (suc k)) (said k) k l z (row_is k l) (passes_of (at k) (at (suc k)) (said k) k z (w.calls k h))

      over_at : (k : ℕ) → k < N → n ≤ k → Stands (at k) k → (said k ≡ Ok None) × (at (suc k) ≡ at k)
      over_at k h l z = over_of (at k) (at (suc k)) (said k) k l z (passes_of (at k) (at (suc k)) (said k) k z (w.calls k h))

      stands_at : (k : ℕ) → k ≤ N → Stands (at k) k
      stands_at zero h = stands_fresh
      stands_at (suc k) h =
          let z = stands_at k (omega arith) in
          elim (dec_lt k n) [
            | yes d ↦ (given_at k (omega arith) d z).stands
            | no d ↦ rw (over_at k (omega arith) (omega arith) z).1 (record {
              rules_split = split_other out n rows.rises 1 (λ y f. omega arith) z.rules_split;
              tokens_split = split_other out n rows.rises 2 (λ y f. omega arith) z.tokens_split;
              rules_inside = z.rules_inside;
              tokens_inside = z.tokens_inside;
            })
          ]

      -- call k gives row k of the report,
      pub walk_gives : (k : ℕ) → k < N → k < n → said k ≡ Ok (Some (cell 2 out k 0, cell 2 out k 1))
      walk_gives k h l = (given_at k h l (stands_at k (omega arith))).said

      -- and behind the last row each call says the end, and leaves the record
      pub walk_ends : (k : ℕ) → k < N → n ≤ k → (said k ≡ Ok None) × (at (suc k) ≡ at k)
      walk_ends k h l = over_at k h l (stands_at k (omega arith))

      -- the record after k calls, by the report's rows
      pub walk_stands : (k : ℕ) → k ≤ N → k ≤ n → at k ≡ stands_behind out k
      unfolding stands_behind
      walk_stands zero h l = w.begins
      walk_stands (suc k) h l = (given_at k (omega arith) (omega arith) (stands_at k (omega arith))).record_is ∙ ap (passed_row (cell 2 out k 0) (cell 2 out k 1)) (walk_stands k (omega arith) (omega arith))

      -- and past the last of them
      pub walk_stays : (k : ℕ) → k ≤ N → n ≤ k → at k ≡ stands_behind out n
      walk_stays zero h l = let e : n ≡ 0 = omega arith in rw e (walk_stands 0 h (omega arith))
      walk_stays (suc k) h l =
          elim (dec_lt k n) [
            | yes d ↦ let e : n ≡ suc k = omega arith in rw e (walk_stands (suc k) h (omega arith))
            | no d ↦ (walk_ends k (omega arith) (omega arith)).1 ∙ walk_stays k (omega arith) (omega arith)
          ]

  -- with the bits of a report that was given its own rows are walked
  module _ (n : ℕ) (ws₀ ws out₀ out : List ℕ) (p : Reported src c g T X (Ok n) ws₀ ws out₀ out) (N : ℕ) (at : ℕ → Standing) (said : ℕ → Result (Option (ℕ × ℕ)) NextError) (w : FreshCalls src c g T X ws N at said) where
    pub report_walked : (k : ℕ) → k < N → k < n → said k ≡ Ok (Some (cell 2 out k 0, cell 2 out k 1))
    report_walked = walk_gives ws₀ ws (report_marks src c g T X n ws₀ ws out₀ out p) n out (report_rows src c g T X n ws₀ ws out₀ out p) N at said w

    pub report_over : (k : ℕ) → k < N → n ≤ k → (said k ≡ Ok None) × (at (suc k) ≡ at k)
    report_over = walk_ends ws₀ ws (report_marks src c g T X n ws₀ ws out₀ out p) n out (report_rows src c g T X n ws₀ ws out₀ out p) N at said w
