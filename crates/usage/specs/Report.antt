-- Document 01: "Used: [..]. Excused: names of the same kind in table 6, and tokens named in table 4." Which rows stand in the unused report, and in what order.
use Rattle.std.specs.Prelude.{ℕ, suc, ◌+◌, ◌*◌, ◌-◌, ◌<◌, ◌≤◌, ◌≡◌, Bool, true, false, List, [], ◌∷◌, ◌++◌, length, replicate, set, Result, Ok, Err}
use Rattle.std.proofs.lemmas.List.Edits.{sets}
use Rattle.tables.specs.Table.{cell, has_name, zeroed}
use Rattle.tables.specs.Layout.{implicit, unused, kind_name, width}
use Rattle.grammar.specs.declared.Counts.{Counts}
use Rattle.grammar.specs.declared.Singles.{Singles}
use Rattle.grammar.specs.Sound.{Tables, Indexes}
use Rattle.sound.specs.Test.{count_at}
use Rattle.finder.specs.Finder.{LeadsTo, LedOf}
use Rattle.validation.specs.declared.ValidityError.{ValidityError}
use Rattle.validation.specs.declared.ValidityError.TheVariants.{UnsoundTables, Invalid}
use Rattle.validation.specs.Faults.{flaw_numbers, validity}
use Rattle.bits.specs.Bits.{bit}
use Rattle.reach.specs.Reach.{Named, Grammar, grammar_of, need, UsedRule, UsedToken, Work, Marks}
use Rattle.usage.specs.declared.ListingError.{ListingError}
use Rattle.usage.specs.declared.ListingError.TheVariants.{OfUnsound, OfInvalid, NoWords, NoRoom}
use Rattle.usage.specs.declared.MarkingError.{MarkingError}
use Rattle.usage.specs.declared.MarkingError.TheVariants.{MarksUnsound, MarksInvalid, MarksNoWords}

-- number, place, table number (0 unless 42) and count: "44, then (report) validate's number, then 42 for 11 [..], then for its output. Each also answers a count; a refusal zeroes it"
abbrev pub listing_numbers : Result ℕ ListingError → List ℕ
listing_numbers (Ok n) = 0 ∷ 0 ∷ 0 ∷ 0 ∷ n ∷ []
listing_numbers (Err OfUnsound) = 44 ∷ 0 ∷ 0 ∷ 0 ∷ 0 ∷ []
listing_numbers (Err (OfInvalid f)) = flaw_numbers f ++ (0 ∷ 0 ∷ [])
listing_numbers (Err NoWords) = 42 ∷ 0 ∷ 0 ∷ 11 ∷ 0 ∷ []
listing_numbers (Err NoRoom) = 42 ∷ 0 ∷ 0 ∷ 12 ∷ 0 ∷ []

-- the same of the marking, which answers no count: "with the report's refusals except the one for its output" (document 02, request Thirteen)
abbrev pub marking_numbers : Result (Unit {0}) MarkingError → List ℕ
marking_numbers (Ok _) = 0 ∷ 0 ∷ 0 ∷ 0 ∷ []
marking_numbers (Err MarksUnsound) = 44 ∷ 0 ∷ 0 ∷ 0 ∷ []
marking_numbers (Err (MarksInvalid f)) = flaw_numbers f ++ (0 ∷ [])
marking_numbers (Err MarksNoWords) = 42 ∷ 0 ∷ 0 ∷ 11 ∷ []

-- a yes or no says whether P
abbrev pub Says : Bool → Type 0 → Type 0
Says true P = P
Says false P = P → ⊥

-- the declarations that excuse: tables 4 and 6 with their counts
pub record Excuses : Type 0 where
  pub src : List ℕ
  pub implicits : List ℕ
  pub implicit_count : ℕ
  pub expecteds : List ℕ
  pub expected_count : ℕ

abbrev pub excuses_of : List ℕ → Counts → List ℕ → List ℕ → Excuses
excuses_of src c t4 t6 = record { src = src; implicits = t4; implicit_count = count_at c implicit; expecteds = t6; expected_count = count_at c unused }

-- row e of table 6 has the kind and the name from a to b
pub record Expects (src t : List ℕ) (kd a b e : ℕ) : Type 0 where
  pub kind : cell (width unused) t e 0 ≡ kd
  pub same : has_name src (width unused) kind_name t a b e ≡ true

-- "names of the same kind in table 6,
pub record Expected (src t : List ℕ) (n kd a b : ℕ) : Type 0 where
  pub entry : ℕ
  pub there : entry < n
  pub expects : Expects src t kd a b entry

-- and tokens named in table 4"
pub record Implicit (src t : List ℕ) (n kd a b : ℕ) : Type 0 where
  pub token : kd ≡ 2
  pub entry : ℕ
  pub there : entry < n
  pub same : has_name src (width implicit) 0 t a b entry ≡ true

-- a declaration excuses the name of kind kd from a to b
pub data Excused (x : Excuses) (kd a b : ℕ) : Type 0 where
  expected : Expected x.src x.expecteds x.expected_count kd a b → Excused x kd a b
  implied : Implicit x.src x.implicits x.implicit_count kd a b → Excused x kd a b

-- it excuses row r
abbrev pub ExcusedRow : Excuses → Named → ℕ → Type 0
ExcusedRow x d r = Excused x d.sort.kind (cell d.sort.wide d.cells r 0) (cell d.sort.wide d.cells r 1)

-- no chain reaches rule r, and no declaration excuses it
pub record UnusedRule (g : Grammar) (x : Excuses) (r : ℕ) : Type 0 where
  pub unreached : UsedRule g r → ⊥
  pub unexcused : ExcusedRow x g.rules r → ⊥

-- the same of a token
pub record UnusedToken (g : Grammar) (x : Excuses) (t : ℕ) : Type 0 where
  pub unreached : UsedToken g t → ⊥
  pub unexcused : ExcusedRow x g.tokens t → ⊥

-- the list of exactly those numbers below n of which P holds, each once, in ascending order
pub data Picks (P : ℕ → Type 0) : ℕ → List ℕ → Type 0 where
  none : Picks P 0 []
  take : {n : ℕ} {l : List ℕ} → Picks P n l → P n → Picks P (suc n) (l ++ (n ∷ []))
  skip : {n : ℕ} {l : List ℕ} → Picks P n l → (P n → ⊥) → Picks P (suc n) l

-- "12 report (kind, row)": rows of one kind, as cells
abbrev pub rows_of : ℕ → List ℕ → List ℕ
rows_of kd [] = []
rows_of kd (r ∷ l) = kd ∷ r ∷ rows_of kd l

-- the rules below m of which R holds and the tokens below n of which T holds
pub record Lists (R T : ℕ → Type 0) (m n : ℕ) : Type 0 where
  pub rules : List ℕ
  pub tokens : List ℕ
  pub rules_are : Picks R m rules
  pub tokens_are : Picks T n tokens

abbrev pub total : {R T : ℕ → Type 0} {m n : ℕ} → Lists R T m n → ℕ
total l = length l.rules + length l.tokens

-- the report holds those rows, rules first, and then zeros
pub record Filled (R T : ℕ → Type 0) (m n count : ℕ) (out₀ out : List ℕ) : Type 0 where
  pub lists : Lists R T m n
  pub count_is : count ≡ total lists
  pub room : total lists * 2 ≤ length out₀
  pub cells : out ≡ (rows_of 1 lists.rules ++ rows_of 2 lists.tokens) ++ replicate (length out₀ - total lists * 2) 0

-- the report has no room for them
pub record Crowded (R T : ℕ → Type 0) (m n : ℕ) (out₀ : List ℕ) : Type 0 where
  pub lists : Lists R T m n
  pub room : length out₀ < total lists * 2

-- ---- the outcome: what each answer says of the work bits and of the report, at entry and at exit

pub record Accepted (g : Grammar) (x : Excuses) (n : ℕ) (ws₀ ws out₀ out : List ℕ) : Type 0 where
  pub words : need g ≤ length ws₀
  pub size : length ws ≡ length ws₀
  pub work : Work g ws
  pub filled : Filled (UnusedRule g x) (UnusedToken g x) g.rules.sort.count g.tokens.sort.count n out₀ out

-- "a refusal zeroes [..] what they would have written"
pub record Zeroed (ws₀ ws out₀ out : List ℕ) : Type 0 where
  pub work : ws ≡ zeroed ws₀
  pub cells : out ≡ zeroed out₀

-- of a reading that is valid: "42 for 11 (fewer words than the bits below need), then for its output"
abbrev pub ValidReport : Grammar → Excuses → Result ℕ ListingError → List ℕ → List ℕ → List ℕ → List ℕ → Type 0
ValidReport g x (Ok n) ws₀ ws out₀ out = Accepted g x n ws₀ ws out₀ out
ValidReport g x (Err OfUnsound) ws₀ ws out₀ out = ⊥
ValidReport g x (Err (OfInvalid f)) ws₀ ws out₀ out = ⊥
ValidReport g x (Err NoWords) ws₀ ws out₀ out = (length ws₀ < need g) × Zeroed ws₀ ws out₀ out
ValidReport g x (Err NoRoom) ws₀ ws out₀ out = (need g ≤ length ws₀) × Crowded (UnusedRule g x) (UnusedToken g x) g.rules.sort.count g.tokens.sort.count out₀ × Zeroed ws₀ ws out₀ out

-- "44, then (report) validate's number", then what a valid reading gives
abbrev pub Told : Result (Unit {0}) ValidityError → Grammar → Excuses → Result ℕ ListingError → List ℕ → List ℕ → List ℕ → List ℕ → Type 0
Told (Ok _) g x l ws₀ ws out₀ out = ValidReport g x l ws₀ ws out₀ out
Told (Err UnsoundTables) g x l ws₀ ws out₀ out = (l ≡ Err OfUnsound) × Zeroed ws₀ ws out₀ out
Told (Err (Invalid f)) g x l ws₀ ws out₀ out = (l ≡ Err (OfInvalid f)) × Zeroed ws₀ ws out₀ out

abbrev pub Reported : List ℕ → Counts → Singles → Tables → Indexes → Result ℕ ListingError → List ℕ → List ℕ → List ℕ → List ℕ → Type 0
Reported src c g T X l ws₀ ws out₀ out =
    Told (validity src c g T X) (grammar_of src c g.start T.t1 T.t7 T.t8 T.t9) (excuses_of src c T.t4 T.t6) l ws₀ ws out₀ out

-- "A marking without the list writes the report's bits" (document 02, request Thirteen): of a valid reading the used rows, or zeros where there are too few words
abbrev pub ValidMarking : Grammar → Result (Unit {0}) MarkingError → List ℕ → List ℕ → Type 0
ValidMarking g (Ok _) ws₀ ws = Marks g true ws₀ ws
ValidMarking g (Err MarksUnsound) ws₀ ws = ⊥
ValidMarking g (Err (MarksInvalid f)) ws₀ ws = ⊥
ValidMarking g (Err MarksNoWords) ws₀ ws = Marks g false ws₀ ws

-- 44 and validate's number come first here too, "each leaving the bits zero"
abbrev pub MarkTold : Result (Unit {0}) ValidityError → Grammar → Result (Unit {0}) MarkingError → List ℕ → List ℕ → Type 0
MarkTold (Ok _) g m ws₀ ws = ValidMarking g m ws₀ ws
MarkTold (Err UnsoundTables) g m ws₀ ws = (m ≡ Err MarksUnsound) × (ws ≡ zeroed ws₀)
MarkTold (Err (Invalid f)) g m ws₀ ws = (m ≡ Err (MarksInvalid f)) × (ws ≡ zeroed ws₀)

abbrev pub MarkedBits : List ℕ → Counts → Singles → Tables → Indexes → Result (Unit {0}) MarkingError → List ℕ → List ℕ → Type 0
MarkedBits src c g T X m ws₀ ws = MarkTold (validity src c g T X) (grammar_of src c g.start T.t1 T.t7 T.t8 T.t9) m ws₀ ws

-- ---- what the steps promise

-- slots lead to the rows of the kind in table 6, and to those of table 4
-- a row of the kind, of the first n, that has every name that row r has, and to which the slots lead
pub record StandIn (src t : List ℕ) (n kd r : ℕ) (fx : List ℕ) : Type 0 where
  pub row : ℕ
  pub there : row < n
  pub kind : cell (width unused) t row 0 ≡ kd
  pub same : (a b : ℕ) → has_name src (width unused) kind_name t a b r ≡ true → has_name src (width unused) kind_name t a b row ≡ true
  pub leads : LeadsTo src (width unused) kind_name t fx row

abbrev pub ExpectedLed : List ℕ → List ℕ → ℕ → ℕ → List ℕ → Type 0
ExpectedLed src t n kd fx = (r : ℕ) → r < n → cell (width unused) t r 0 ≡ kd → StandIn src t n kd r fx

abbrev pub ImplicitLed : List ℕ → List ℕ → ℕ → List ℕ → Type 0
ImplicitLed src t n fx = LedOf (λ (r : ℕ). true) src (width implicit) 0 n t fx

-- they lead to all that may excuse a name of the kind
pub record Guides (x : Excuses) (kd : ℕ) (fx : List ℕ) : Type 0 where
  pub rows_expected : ExpectedLed x.src x.expecteds x.expected_count kd fx
  pub rows_implicit : kd ≡ 2 → ImplicitLed x.src x.implicits x.implicit_count fx

-- row r is to be listed, by the bits
pub record Free (ws : List ℕ) (x : Excuses) (d : Named) (r : ℕ) : Type 0 where
  pub off : bit ws (d.sort.base + r) ≡ 1 → ⊥
  pub unexcused : ExcusedRow x d r → ⊥

pub record Counted (P : ℕ → Type 0) (n count : ℕ) : Type 0 where
  pub list : List ℕ
  pub picks : Picks P n list
  pub count_is : count ≡ length list

-- whether the row was written, as row at
abbrev pub Wrote : Bool → Type 0 → ℕ → ℕ → ℕ → List ℕ → List ℕ → Type 0
Wrote true P kd r at out₀ out = P × (out ≡ set (set out₀ (at * 2) kd) (at * 2 + 1) r)
Wrote false P kd r at out₀ out = (P → ⊥) × (out ≡ out₀)

-- there is room from row at on for the rows of which P holds: for each, behind those before it
pub record Room (P : ℕ → Type 0) (n at : ℕ) (out : List ℕ) : Type 0 where
  pub room : (r : ℕ) (l : List ℕ) → r < n → Picks P r l → P r → (at + length l) * 2 + 2 ≤ length out

-- most rows are enough for the rules below m of which R holds and, behind them, the tokens below n of which T holds
pub record Fits (R T : ℕ → Type 0) (m n most : ℕ) : Type 0 where
  pub rules : (r : ℕ) (l : List ℕ) → r < m → Picks R r l → R r → length l < most
  pub tokens : (k : List ℕ) → Picks R m k → (r : ℕ) (l : List ℕ) → r < n → Picks T r l → T r → length k + length l < most
  pub both : (l : Lists R T m n) → total l ≤ most

-- they are more, or no more, than most
pub record Exceeds (R T : ℕ → Type 0) (m n most : ℕ) : Type 0 where
  pub lists : Lists R T m n
  pub more : most < total lists

abbrev pub Crowds : Bool → (ℕ → Type 0) → (ℕ → Type 0) → ℕ → ℕ → ℕ → Type 0
Crowds true R T m n most = Exceeds R T m n most
Crowds false R T m n most = Fits R T m n most

-- they are written from row at on, and next is the row behind them
pub record Written (P : ℕ → Type 0) (kd n at next : ℕ) (out₀ out : List ℕ) : Type 0 where
  pub list : List ℕ
  pub picks : Picks P n list
  pub next_is : next ≡ at + length list
  pub cells : out ≡ sets out₀ (at * 2) (rows_of kd list)

-- the report by the bits alone
abbrev pub ByBits : List ℕ → Excuses → Named → Named → Result ℕ ListingError → List ℕ → List ℕ → Type 0
ByBits ws x d e (Ok n) out₀ out = Filled (Free ws x d) (Free ws x e) d.sort.count e.sort.count n out₀ out
ByBits ws x d e (Err OfUnsound) out₀ out = ⊥
ByBits ws x d e (Err (OfInvalid f)) out₀ out = ⊥
ByBits ws x d e (Err NoWords) out₀ out = ⊥
ByBits ws x d e (Err NoRoom) out₀ out = Crowded (Free ws x d) (Free ws x e) d.sort.count e.sort.count out₀ × (out ≡ zeroed out₀)

-- the work bits behind the list: zero where it has no room
abbrev pub BitsLeft : Result ℕ ListingError → List ℕ → List ℕ → Type 0
BitsLeft (Ok n) ws vs = vs ≡ ws
BitsLeft (Err OfUnsound) ws vs = vs ≡ ws
BitsLeft (Err (OfInvalid f)) ws vs = vs ≡ ws
BitsLeft (Err NoWords) ws vs = vs ≡ ws
BitsLeft (Err NoRoom) ws vs = vs ≡ zeroed ws
