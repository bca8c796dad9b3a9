-- Document 02, request Eleven: "Refusals: 43 for any kind but 1 to 3 with the tables zero, then the read's number, then 41 if the text would pass 65,536 bytes, then 42 with table 13; text out is zero after each, and after the
-- last three the tables are as the read left them."
use Rattle.std.specs.Prelude.{ℕ, ◌≤◌, ◌<◌, ◌≡◌, Bool, true, false, List, [], ◌∷◌, ◌++◌, leb, ltb, length, drop, Ok, Err, Result}
use Rattle.tables.specs.Table.{zeroed}
use Rattle.grammar.specs.declared.Counts.{Counts}
use Rattle.grammar.specs.declared.Singles.{Singles}
use Rattle.grammar.specs.declared.Refusal.{Refusal}
use Rattle.grammar.specs.declared.Refusal.TheVariants.{NoRoom, TooLong}
use Rattle.grammar.specs.Numbers.{refusal_numbers}
use Rattle.grammar.specs.State.{no_counts, no_singles}
use Rattle.grammar.specs.Sound.{Tables, AllTables, tab, ten_of, Indexes}
use Rattle.reader.specs.Read.{ReadResult, read_all}
use Rattle.shipper.specs.Ship.{ship_all}

-- what a shipping answers, and what it leaves in the tables, the indexes and the text out
pub record ShipResult : Type 0 where
  pub answer : Result ℕ Refusal
  pub counts : Counts
  pub singles : Singles
  pub tables : Tables
  pub indexes : Indexes
  pub out : List ℕ

-- the answer and the text out alone
pub record Mailed : Type 0 where
  pub answer : Result ℕ Refusal
  pub out : List ℕ

-- the number of the text out among the tables
abbrev pub text_out : ℕ
text_out = 13

abbrev pub unsent : Refusal → List ℕ → Mailed
unsent f out = record { answer = Err f; out = zeroed out }

-- "42 with table 13"; a text that there is room for stands in the text out, and zeros behind it
abbrev pub mailed_room : Bool → List ℕ → List ℕ → Mailed
mailed_room true text out = record { answer = Ok (length text); out = text ++ drop (length text) (zeroed out) }
mailed_room false text out = unsent (NoRoom text_out 0 0) out

-- "41 if the text would pass 65,536 bytes"
abbrev pub mailed_text : Bool → List ℕ → List ℕ → Mailed
mailed_text true text out = unsent TooLong out
mailed_text false text out = mailed_room (leb (length text) (length out)) text out

-- "From a source that reads with no refusal"
abbrev pub mailed : Result ℕ Refusal → List ℕ → List ℕ → Mailed
mailed (Ok i) text out = mailed_text (ltb 65536 (length text)) text out
mailed (Err f) text out = unsent f out

-- kinds 1 to 3 are shipped; any other is read as 0, which is no kind: "43 for any kind but 1 to 3 with the tables zero"
unfoldable pub shipped_kind : ℕ → ℕ
shipped_kind kind = elim (ltb 3 kind) [ true ↦ 0 | false ↦ kind ]

-- the tables of the read: no kind that is shipped has rows in those of kind 4
abbrev pub lent_ten : Tables → AllTables
lent_ten T = record { t1 = T.t1; t2 = T.t2; t3 = T.t3; t4 = T.t4; t5 = T.t5; t6 = T.t6; t7 = T.t7; t8 = T.t8; t9 = T.t9; t10 = T.t10; t15 = []; t16 = []; t17 = [] }

abbrev pub with_mailed : ReadResult → Mailed → ShipResult
with_mailed o m = record { answer = m.answer; counts = o.counts; singles = o.singles; tables = ten_of o.tables; indexes = o.indexes; out = m.out }

abbrev pub shipped_read : ReadResult → List ℕ → List ℕ → ShipResult
shipped_read o text out = with_mailed o (mailed o.answer text out)

unfoldable pub shipping : List ℕ → ℕ → Tables → Indexes → List ℕ → ShipResult
shipping src kind T X out = shipped_read (read_all src (shipped_kind kind) (lent_ten T) X) (ship_all (shipped_kind kind) src) out

-- number, place and table of an answer, and how many bytes were sent
abbrev pub shipment_numbers : Result ℕ Refusal → List ℕ
shipment_numbers (Ok n) = 0 ∷ 0 ∷ 0 ∷ 0 ∷ n ∷ []
shipment_numbers (Err f) = refusal_numbers f ++ (0 ∷ [])

-- what the pass asks of a source that was read
abbrev pub Readable : List ℕ → Result ℕ Refusal → Type 0
Readable src (Ok i) = length src ≤ 65536
Readable src (Err f) = Unit {0}

-- "Any two outcomes allowed by it are proved equal": an outcome that the contract of `ship` allows, on tables that held T, indexes that held X and a text out that held out
abbrev pub Ships : List ℕ → ℕ → Tables → Indexes → List ℕ → ShipResult → Type 0
Ships src kind T X out o = o ≡ shipping src kind T X out

-- ---- what is promised, without the steps

-- "Stated once over kinds 1 to 3"
abbrev pub Shippable : ℕ → Type 0
Shippable kind = (1 ≤ kind) × (kind ≤ 3)

-- "From a source that reads with no refusal": n bytes are sent of a source of those kinds that is accepted and whose text is not too long and fits
pub record Sendable (src : List ℕ) (kind : ℕ) (T : Tables) (X : Indexes) (out : List ℕ) (n : ℕ) : Type 0 where
  pub kinds : Shippable kind
  pub end : ℕ
  pub accepted : (read_all src kind (lent_ten T) X).answer ≡ Ok end
  pub count : n ≡ length (ship_all kind src)
  pub short : n ≤ 65536
  pub room : n ≤ length out

-- the answer, counts and singles aside, the memory is zero: "with the tables zero"
pub record AllZero (T : Tables) (X : Indexes) (o : ShipResult) : Type 0 where
  pub tables : (k : ℕ) → k < 10 → tab o.tables k ≡ zeroed (tab T k)
  pub token_index : o.indexes.tokens ≡ zeroed X.tokens
  pub rule_index : o.indexes.rules ≡ zeroed X.rules
  pub counts : o.counts ≡ no_counts
  pub singles : o.singles ≡ no_singles

-- "the tables are as the read left them"
pub record AsRead (r : ReadResult) (o : ShipResult) : Type 0 where
  pub tables : o.tables ≡ ten_of r.tables
  pub indexes : o.indexes ≡ r.indexes
  pub counts : o.counts ≡ r.counts
  pub singles : o.singles ≡ r.singles
