-- Demand 3: the rows of the report are exactly the unused rules and tokens, each once, rules first and rows ascending. Assumes nothing.
use Rattle.std.specs.Prelude.{Result, Ok, Err}
use Prim.Native.Nat.{ℕ, zero, suc, ◌+◌, ◌*◌, ◌-◌, ◌<◌, ◌≤◌}
use mathlib.Core.Path.{◌≡◌, refl, sym, ap, ◌∙◌}
use mathlib.Core.List.{List, [], ◌∷◌, ◌++◌, append_assoc, Memᴰ}
use mathlib.Core.Logic.{◌↔◌, ◌⊎◌, inl, inr, ⊎_elim}
use native.Mathlib.Omega.{arith}
use native.Mathlib.Decide.{dec_lt}
use lib.ListN.{length, get_or, replicate, length-replicate}
use lib.Seq.{get_or-append-add}
use Rattle.tables.specs.Table.{cell}
use Rattle.grammar.specs.declared.Counts.{Counts}
use Rattle.grammar.specs.declared.Singles.{Singles}
use Rattle.grammar.specs.Sound.{Tables, Indexes}
use Rattle.validation.specs.Faults.{validity}
use Rattle.reach.specs.Reach.{Grammar, grammar_of, need}
use Rattle.usage.specs.declared.ListingError.{ListingError}
use Rattle.usage.specs.declared.ListingError.TheVariants.{OfUnsound, OfInvalid, NoWords, NoRoom}
use Rattle.usage.specs.Report.{Excuses, excuses_of, UnusedRule, UnusedToken, rows_of, total, Filled, Crowded, ValidReport, Reported}
use Rattle.usage.specs.Standing.{StandsIn, UnusedRow, unused_rule, unused_token, Before, by_kind, by_row, UnusedRows, TooMany}
use Rattle.usage.proofs.Picked.{rows_length, picks_has, picks_is, picks_rise}
use Rattle.usage.proofs.Outcome.{reported_rows}

-- ---- members by their places

mem_at : (l : List ℕ) (i : ℕ) → i < length l → Memᴰ (get_or l i 0) l
mem_at [] i h = absurd (omega arith)
mem_at (r ∷ l) zero h = Memᴰ.head refl
mem_at (r ∷ l) (suc i) h = Memᴰ.tail (mem_at l i (omega arith))

place_of : {r : ℕ} {l : List ℕ} → Memᴰ r l → (i : ℕ) × (i < length l) × (get_or l i 0 ≡ r)
place_of (Memᴰ.head e) = (0, omega arith, sym e)
place_of (Memᴰ.tail m) = let p = place_of m in (suc p.0, omega (arith, p.1), p.2)

-- ---- rows of one kind, and what stands behind them

rows_then : (kd : ℕ) (l s : List ℕ) (i : ℕ) → i < length l → (cell 2 (rows_of kd l ++ s) i 0 ≡ kd) × (cell 2 (rows_of kd l ++ s) i 1 ≡ get_or l i 0)
rows_then kd [] s i h = absurd (omega arith)
rows_then kd (r ∷ l) s zero h = (refl, refl)
rows_then kd (r ∷ l) s (suc i) h =
    let e : suc i * 2 + 0 ≡ suc (suc (i * 2 + 0)) = omega arith in
    let f : suc i * 2 + 1 ≡ suc (suc (i * 2 + 1)) = omega arith in
    let p = rows_then kd l s i (omega arith) in
    (rw e p.0, rw f p.1)

rows_behind : (kd : ℕ) (l s : List ℕ) (i k : ℕ) → cell 2 (rows_of kd l ++ s) (length l + i) k ≡ cell 2 s i k
rows_behind kd l s i k =
    let e : (length l + i) * 2 + k ≡ length (rows_of kd l) + (i * 2 + k) = omega (arith, rows_length kd l) in
    rw e (get_or-append-add (rows_of kd l) s (i * 2 + k) 0)

-- ---- a report that is filled

module _ {R T : ℕ → Type 0} {m n count : ℕ} {out₀ out : List ℕ} (f : Filled R T m n count out₀ out) where
  abbrev lr : List ℕ
  lr = f.lists.rules

  abbrev lt : List ℕ
  lt = f.lists.tokens

  abbrev rest : List ℕ
  rest = replicate (length out₀ - total f.lists * 2) 0

  cell_is : (i k : ℕ) → cell 2 out i k ≡ cell 2 (rows_of 1 lr ++ (rows_of 2 lt ++ rest)) i k
  cell_is i k = ap (λ o. cell 2 o i k) (f.cells ∙ append_assoc (rows_of 1 lr) (rows_of 2 lt) rest)

  rule_at : (i : ℕ) → i < length lr → (cell 2 out i 0 ≡ 1) × (cell 2 out i 1 ≡ get_or lr i 0)
  rule_at i h =
      let p = rows_then 1 lr (rows_of 2 lt ++ rest) i h in
      (cell_is i 0 ∙ p.0, cell_is i 1 ∙ p.1)

  token_at_lem : (i : ℕ) → i < length lt → (cell 2 out (length lr + i) 0 ≡ 2) × (cell 2 out (length lr + i) 1 ≡ get_or lt i 0)
  token_at_lem i h =
      let p = rows_then 2 lt rest i h in
      let s = rows_of 2 lt ++ rest in
      (cell_is (length lr + i) 0 ∙ rows_behind 1 lr s i 0 ∙ p.0, cell_is (length lr + i) 1 ∙ rows_behind 1 lr s i 1 ∙ p.1)

  -- a row of the report is one of the first list, or of the second
  each_row {κ} : (C : ℕ → Type κ) (i : ℕ) → i < count → (i < length lr → C i) → ((j : ℕ) → j < length lt → C (length lr + j)) → C i
  each_row C i h a b =
      elim (dec_lt i (length lr)) [
        | yes d ↦ a d
        | no d ↦
            let e : length lr + (i - length lr) ≡ i = omega arith in
            rw e at (b (i - length lr) (omega (arith, f.count_is)))
      ]

  abbrev Held : ℕ → ℕ → Type 0
  Held kd r = ((kd ≡ 1) × (r < m) × R r) ⊎ ((kd ≡ 2) × (r < n) × T r)

  rule_held : (kd r i : ℕ) → i < length lr → cell 2 out i 0 ≡ kd → cell 2 out i 1 ≡ r → Held kd r
  rule_held kd r i h a b =
      let p = rule_at i h in
      let e : get_or lr i 0 ≡ r = sym p.1 ∙ b in
      let q = picks_is f.lists.rules_are r (rw e at (mem_at lr i h)) in
      inl (sym a ∙ p.0, q.0, q.1)

  token_held : (kd r i : ℕ) → i < length lt → cell 2 out (length lr + i) 0 ≡ kd → cell 2 out (length lr + i) 1 ≡ r → Held kd r
  token_held kd r i h a b =
      let p = token_at_lem i h in
      let e : get_or lt i 0 ≡ r = sym p.1 ∙ b in
      let q = picks_is f.lists.tokens_are r (rw e at (mem_at lt i h)) in
      inr (sym a ∙ p.0, q.0, q.1)

  pub filled_is : (kd r : ℕ) → StandsIn out count kd r → Held kd r
  filled_is kd r s = each_row (λ i. cell 2 out i 0 ≡ kd → cell 2 out i 1 ≡ r → Held kd r) s.at s.there (rule_held kd r s.at) (token_held kd r) s.kind s.row

  pub filled_rule : (r : ℕ) → r < m → R r → StandsIn out count 1 r
  filled_rule r h q =
      let p = place_of (picks_has f.lists.rules_are r h q) in
      let a = rule_at p.0 p.1 in
      record { at = p.0; there = omega (arith, f.count_is, p.1); kind = a.0; row = a.1 ∙ p.2 }

  pub filled_token : (t : ℕ) → t < n → T t → StandsIn out count 2 t
  filled_token t h q =
      let p = place_of (picks_has f.lists.tokens_are t h q) in
      let a = token_at_lem p.0 p.1 in
      record { at = length lr + p.0; there = omega (arith, f.count_is, p.1); kind = a.0; row = a.1 ∙ p.2 }

  rules_rise : (i j : ℕ) → i < j → j < length lr → Before out i j
  rules_rise i j h k =
      let p = rule_at i (omega arith) in
      let q = rule_at j k in
      by_row (p.0 ∙ sym q.0) (rw (p.1, q.1) (picks_rise f.lists.rules_are i j h k))

  tokens_rise : (i j : ℕ) → i < j → j < length lt → Before out (length lr + i) (length lr + j)
  tokens_rise i j h k =
      let p = token_at_lem i (omega arith) in
      let q = token_at_lem j k in
      by_row (p.0 ∙ sym q.0) (rw (p.1, q.1) (picks_rise f.lists.tokens_are i j h k))

  rule_first : (i j : ℕ) → i < length lr → j < length lt → Before out i (length lr + j)
  rule_first i j h k =
      let p = rule_at i h in
      let q = token_at_lem j k in
      by_kind (omega (arith, p.0, q.0))

  pub filled_rises : (i j : ℕ) → i < j → j < count → Before out i j
  filled_rises i j h k = each_row (λ j. i < j → Before out i j) j k (λ b l. rules_rise i j l b) behind h
    where
      behind : (b : ℕ) → b < length lt → i < length lr + b → Before out i (length lr + b)
      behind b l g = each_row (λ i. i < length lr + b → Before out i (length lr + b)) i (omega arith) (λ a g. rule_first i b a l) (λ a m g. tokens_rise a b (omega arith) l) g

-- ---- of unused rules and tokens

module _ (g : Grammar) (x : Excuses) where
  abbrev FilledBy : ℕ → List ℕ → List ℕ → Type 0
  FilledBy n out₀ out = Filled (UnusedRule g x) (UnusedToken g x) g.rules.sort.count g.tokens.sort.count n out₀ out

  is_unused : {n : ℕ} {out₀ out : List ℕ} → FilledBy n out₀ out → (kd r : ℕ) → StandsIn out n kd r → UnusedRow g x kd r
  is_unused f kd r s = ⊎_elim (λ y. unused_rule y.0 y.1 y.2) (λ y. unused_token y.0 y.1 y.2) (filled_is f kd r s)

  is_listed : {n : ℕ} {out₀ out : List ℕ} → FilledBy n out₀ out → (kd r : ℕ) → UnusedRow g x kd r → StandsIn out n kd r
  is_listed f kd r (unused_rule e h u) = rw e (filled_rule f r h u)
  is_listed f kd r (unused_token e h u) = rw e (filled_token f r h u)

  filled_rows_lem : {n : ℕ} {out₀ out : List ℕ} → FilledBy n out₀ out → UnusedRows g x n out
  filled_rows_lem f = record { exactly = λ kd r. (is_unused f kd r, is_listed f kd r); rises = filled_rises f }

  -- rows that do not fit would fill a larger report
  crowded_rows : {out₀ : List ℕ} → Crowded (UnusedRule g x) (UnusedToken g x) g.rules.sort.count g.tokens.sort.count out₀ → TooMany g x out₀
  crowded_rows k =
      let n = total k.lists in
      let large : List ℕ = replicate (n * 2) 0 in
      let f : FilledBy n large ((rows_of 1 k.lists.rules ++ rows_of 2 k.lists.tokens) ++ replicate (length large - n * 2) 0) =
      record { lists = k.lists; count_is = refl; room = omega (arith, length-replicate {A = ℕ} (n * 2) 0); cells = refl } in
      record { count = n; list = _; rows = filled_rows_lem f; room = k.room }

-- ---- there are as many of them in one list as in another

module _ {g : Grammar} {x : Excuses} {m n : ℕ} {us vs : List ℕ} (a : UnusedRows g x m us) (b : UnusedRows g x n vs) where
  -- where row i of the one stands in the other
  other : (i : ℕ) → i < m → StandsIn vs n (cell 2 us i 0) (cell 2 us i 1)
  other i h = (b.exactly _ _).1 ((a.exactly _ _).0 (record { at = i; there = h; kind = refl; row = refl }))

  -- a row before another stands before it in both
  in_order : {i j : ℕ} → Before us i j → (p : StandsIn vs n (cell 2 us i 0) (cell 2 us i 1)) (q : StandsIn vs n (cell 2 us j 0) (cell 2 us j 1)) → p.at < q.at
  in_order {i} {j} s p q =
      elim (dec_lt p.at q.at) [
        | yes d ↦ d
        | no d ↦ elim (dec_lt q.at p.at) [
          | yes e ↦ absurd (twice s (b.rises q.at p.at e p.there))
          | no e ↦ absurd (once s (omega arith))
        ]
      ]
    where
      twice : Before us i j → Before vs q.at p.at → ⊥
      twice (by_kind h) (by_kind k) = omega (arith, p.kind, q.kind)
      twice (by_kind h) (by_row k l) = omega (arith, p.kind, q.kind)
      twice (by_row h l) (by_kind k) = omega (arith, p.kind, q.kind)
      twice (by_row h l) (by_row k r) = omega (arith, p.row, q.row)

      once : Before us i j → p.at ≡ q.at → ⊥
      once (by_kind h) e = omega (arith, ap (λ (k : ℕ). cell 2 vs k 0) e, p.kind, q.kind)
      once (by_row h l) e = omega (arith, ap (λ (k : ℕ). cell 2 vs k 1) e, p.row, q.row)

  further : (i : ℕ) (h : i < m) → i ≤ (other i h).at
  further zero h = omega arith
  further (suc i) h =
      let k : i < m = omega arith in
      omega (arith, further i k, in_order (a.rises i (suc i) (omega arith) h) (other i k) (other (suc i) h))

  no_more : m ≤ n
  no_more = go m refl
    where
      go : (k : ℕ) → k ≡ m → k ≤ n
      go zero e = omega arith
      go (suc k) e = let h : k < m = omega arith in omega (arith, further k h, (other k h).there)

pub unused_count : {g : Grammar} {x : Excuses} {m n : ℕ} {us vs : List ℕ} → UnusedRows g x m us → UnusedRows g x n vs → m ≡ n
unused_count a b = omega (arith, no_more a b, no_more b a)

-- ---- the report of a reading

module _ (src : List ℕ) (c : Counts) (g : Singles) (T : Tables) (X : Indexes) where
  abbrev grammar : Grammar
  grammar = grammar_of src c g.start T.t1 T.t7 T.t8 T.t9

  abbrev excuses : Excuses
  excuses = excuses_of src c T.t4 T.t6

  module _ (n : ℕ) (ws₀ ws out₀ out : List ℕ) (p : Reported src c g T X (Ok n) ws₀ ws out₀ out) where
    pub report_rows : UnusedRows grammar excuses n out
    report_rows = filled_rows_lem grammar excuses (reported_rows src c g T X n ws₀ ws out₀ out p).filled

    -- a row stands in the report exactly where it is unused
    pub unused_listed : (kd r : ℕ) → StandsIn out n kd r ↔ UnusedRow grammar excuses kd r
    unused_listed = report_rows.exactly

    -- the rows stand in order, so that each stands once
    pub report_rises : (i j : ℕ) → i < j → j < n → Before out i j
    report_rises = report_rows.rises

  -- of a valid reading, with words enough
  module _ (l : Result ℕ ListingError) (ws₀ ws out₀ out : List ℕ) (v : validity src c g T X ≡ Ok tt) (words : need grammar ≤ length ws₀) (p : Reported src c g T X l ws₀ ws out₀ out) where
    -- the report is given, or there are too many unused rows
    pub listed_or_many : ((n : ℕ) × (l ≡ Ok n)) ⊎ ((l ≡ Err NoRoom) × TooMany grammar excuses out₀)
    listed_or_many = go l (rw v at p)
      where
        go : (l : Result ℕ ListingError) → ValidReport grammar excuses l ws₀ ws out₀ out → ((n : ℕ) × (l ≡ Ok n)) ⊎ ((l ≡ Err NoRoom) × TooMany grammar excuses out₀)
        go (Ok n) q = inl (n, refl)
        go (Err OfUnsound) q = absurd q
        go (Err (OfInvalid f)) q = absurd q
        go (Err NoWords) q = absurd (omega (arith, q.0))
        go (Err NoRoom) q = inr (refl, crowded_rows grammar excuses q.1)

    -- they fit, and the report is given
    pub listed_in_room : (n : ℕ) (list : List ℕ) → UnusedRows grammar excuses n list → n * 2 ≤ length out₀ → l ≡ Ok n
    listed_in_room n list r h =
        ⊎_elim
        (λ y. let q = rw y.1 at p in y.1 ∙ ap (λ (k : ℕ). Ok k) (unused_count (report_rows y.0 ws₀ ws out₀ out q) r))
        (λ y. absurd (omega (arith, y.1.room, unused_count y.1.rows r)))
        listed_or_many

    -- 42 comes exactly where there are too many
    pub no_room_iff : (l ≡ Err NoRoom) ↔ TooMany grammar excuses out₀
    no_room_iff = (many, full)
      where
        many : l ≡ Err NoRoom → TooMany grammar excuses out₀
        many e = ⊎_elim (λ y. let n = y.1 in let z : ◌≡◌ {A = ℕ} 0 1 = cc in absurd (omega arith)) (λ y. y.1) listed_or_many

        full : TooMany grammar excuses out₀ → l ≡ Err NoRoom
        full m = ⊎_elim (λ y. absurd (never y.0 (rw y.1 at p))) (λ y. y.0) listed_or_many
          where
            never : (n : ℕ) → Reported src c g T X (Ok n) ws₀ ws out₀ out → ⊥
            never n q =
                let f = (reported_rows src c g T X n ws₀ ws out₀ out q).filled in
                omega (arith, m.room, f.count_is, f.room, unused_count m.rows (report_rows n ws₀ ws out₀ out q))
