-- The C names' numbers: the same operations over numbers and slices alone, each with its answer written as 32-bit numbers into a lent array of fixed size.
use Rattle.std.specs.Prelude.{ℕ, suc, ◌+◌, ◌/◌, ◌%◌, ◌-◌, ◌≤◌, ◌<◌, ◌≡◌, true, false, List, [], ◌∷◌, ◌++◌, ◌⊎◌, length, get_or, take, replicate, Option, Result, Ok, Err}
use Rattle.scan.specs.declared.Place.{Place}
use Rattle.tables.specs.Table.{put}
use Rattle.places.specs.declared.Spot.{Spot}
use Rattle.places.specs.Places.{Spotted, spot_at}
use Rattle.grammar.specs.declared.Counts.{Counts}
use Rattle.grammar.specs.declared.Singles.{Singles}
use Rattle.grammar.specs.State.{no_posix}
use Rattle.catalogue.specs.declared.Head.{Head}
use Rattle.catalogue.specs.Catalogue.{cells_at}
use Rattle.storing.specs.Storing.{StoreResult, storing_numbers, store_all}
use Rattle.restoring.specs.declared.RestoringError.{RestoringError}
use Rattle.restoring.specs.Restoring.{Restored, restoring_numbers, entered_indexes, restored}
use Rattle.grammar.specs.declared.Refusal.{Refusal}
use Rattle.shipping.specs.Shipping.{ShipResult, shipment_numbers, shipping}
use Rattle.singles.specs.Singles.{singles_cells, counts_cells, posix_cells, singles_of, counts_of, posix_of}
use Rattle.numbers.specs.Numbers.{answer_spot}
use Rattle.grammar.specs.Sound.{Tables, AllTables, Indexes, cells_of}
use Rattle.loading.specs.declared.LoadError.{LoadError}
use Rattle.loading.specs.Load.{judgement_numbers, LoadResult, load_all}
use Rattle.sound.specs.Test.{sound_test}
use Rattle.validation.specs.declared.ValidityError.{ValidityError}
use Rattle.validation.specs.Faults.{validity_numbers, validity}
use Rattle.validation.specs.declared.FaultsError.{FaultsError}
use Rattle.validation.specs.Walk.{AllFaults, fault_listing, fault_listing_numbers}
use Rattle.reach.specs.Reach.{Grammar}
use Rattle.usage.specs.declared.ListingError.{ListingError}
use Rattle.usage.specs.declared.MarkingError.{MarkingError}
use Rattle.usage.specs.Report.{listing_numbers, marking_numbers, Excuses, Reported, MarkedBits}
use Rattle.usage.specs.Standing.{UnusedRows, TooMany}
use Rattle.pruning.specs.declared.PruningError.{PruningError}
use Rattle.pruning.specs.Pruned.{pruning_numbers, Prunings}
use Rattle.walks.specs.declared.NextError.{NextError}
use Rattle.walks.specs.declared.Standing.{Standing}
use Rattle.walks.specs.Walk.{next_numbers, next_spot, Advanced}
use Rattle.names.specs.Name.{nowhere, name_place}
use Rattle.values.specs.declared.ValuationError.{ValuationError}
use Rattle.values.specs.Value.{valuation_numbers, Valued, epp_value}

-- a number of 64 bits, its low half first
abbrev pub halves : ℕ → List ℕ
halves v = v % 4294967296 ∷ v / 4294967296 ∷ []

-- ---- line and column

abbrev pub spot_cells : Spot → List ℕ
spot_cells s = s.line ∷ s.column ∷ []

-- they are what the lines of the source say, without a scan: of an array whose place starts in cell k, with line and column in the cells n and n + 1 (of an answer's numbers it is `AnswerSpotted`)
abbrev pub CellsSpotted : List ℕ → List ℕ → ℕ → ℕ → Type 0
CellsSpotted src a k n = Spotted src (get_or a k 0) (record { line = get_or a n 0; column = get_or a (n + 1) 0 })

-- ---- what a load answers

-- in the order number, from, to, table, the ten counts, then each single
unfoldable pub loading_cells : Result ℕ LoadError → Counts → Singles → List ℕ
loading_cells j c g = judgement_numbers j ++ counts_cells c ++ singles_cells g

abbrev pub loading_numbers : LoadResult → List ℕ
loading_numbers o = loading_cells o.answer o.counts o.singles

-- a load's answer, and what it left in the tables and the indexes
pub record LoadFace : Type 0 where
  pub answer : List ℕ
  pub tables : AllTables
  pub indexes : Indexes

-- the three counts stand behind them, and line and column last, so that no count and no single has moved for them
abbrev pub load_face_of : List ℕ → LoadResult → LoadFace
load_face_of src o = record { answer = loading_numbers o ++ (posix_cells o.posix ++ spot_cells (answer_spot src (judgement_numbers o.answer))); tables = o.tables; indexes = o.indexes }

abbrev pub load_face : List ℕ → ℕ → AllTables → Indexes → LoadFace
load_face src kind T X = load_face_of src (load_all src kind T X)

-- "0 accepted", or "20 Precedence, [..] 27 EPP repeated", or validation's 30 to 35: the numbers after which "all tables hold the full reading"
abbrev pub FullNumber : ℕ → Type 0
FullNumber n = (n ≡ 0) ⊎ (((20 ≤ n) × (n ≤ 27)) ⊎ ((30 ≤ n) × (n ≤ 35)))

-- ---- what the others answer

-- whether a reading is valid: number and place; "table number (0 unless 42)"; line and column
abbrev pub validity_cells : List ℕ → Result (Unit {0}) ValidityError → List ℕ
validity_cells src v = validity_numbers v ++ (0 ∷ []) ++ spot_cells (answer_spot src (validity_numbers v))

abbrev pub validate_face : List ℕ → List ℕ → Tables → Indexes → List ℕ
validate_face src m T X = validity_cells src (validity src (counts_of m) (singles_of m) T X)

-- number, place, table number and the count in halves: "Each also answers a count"; line and column
abbrev pub counted_cells : List ℕ → List ℕ → List ℕ
counted_cells src l = take 4 l ++ halves (get_or l 4 0) ++ spot_cells (answer_spot src l)

-- all faults: that, and table 14
pub record FaultsFace : Type 0 where
  pub answer : List ℕ
  pub cells : List ℕ

abbrev pub fault_listing_cells : List ℕ → Result ℕ FaultsError → List ℕ
fault_listing_cells src l = counted_cells src (fault_listing_numbers l)

abbrev pub faults_face_of : List ℕ → AllFaults → FaultsFace
faults_face_of src o = record { answer = fault_listing_cells src o.answer; cells = o.cells }

abbrev pub faults_face : List ℕ → List ℕ → Tables → Indexes → List ℕ → FaultsFace
faults_face src m T X t = faults_face_of src (fault_listing src (counts_of m) (singles_of m) T X t)

abbrev pub listing_cells : List ℕ → Result ℕ ListingError → List ℕ
listing_cells src l = counted_cells src (listing_numbers l)

-- the report, with its answer in numbers
pub record ReportFace (src m : List ℕ) (T : Tables) (X : Indexes) (ws₀ ws out₀ out answer : List ℕ) : Type 0 where
  pub listing : Result ℕ ListingError
  pub reported : Reported src (counts_of m) (singles_of m) T X listing ws₀ ws out₀ out
  pub numbers : answer ≡ listing_cells src listing

-- The third demand, of what the C name of report wrote: number 0, how many rows there are, line and column of the source's begin, and they are the unused rows;
pub record ExactlyFace (g : Grammar) (x : Excuses) (out answer : List ℕ) : Type 0 where
  pub count : ℕ
  pub numbers : answer ≡ 0 ∷ 0 ∷ 0 ∷ 0 ∷ halves count ++ (1 ∷ 1 ∷ [])
  pub rows : UnusedRows g x count out

-- or "42 no room [..] and table number", which is 12, and they are too many for the report that was lent.
pub record CrowdedFace (g : Grammar) (x : Excuses) (out answer : List ℕ) : Type 0 where
  pub numbers : answer ≡ 42 ∷ 0 ∷ 0 ∷ 12 ∷ 0 ∷ 0 ∷ 1 ∷ 1 ∷ []
  pub many : TooMany g x out

-- the marking: number and place; "table number (0 unless 42)"; line and column
abbrev pub marking_cells : List ℕ → Result (Unit {0}) MarkingError → List ℕ
marking_cells src k = marking_numbers k ++ spot_cells (answer_spot src (marking_numbers k))

pub record MarkFace (src m : List ℕ) (T : Tables) (X : Indexes) (ws₀ ws answer : List ℕ) : Type 0 where
  pub marking : Result (Unit {0}) MarkingError
  pub marked : MarkedBits src (counts_of m) (singles_of m) T X marking ws₀ ws
  pub numbers : answer ≡ marking_cells src marking

-- a record of where a walk stands: rule rows and token rows passed
abbrev pub standing_of : List ℕ → Standing
standing_of a = record { rules = get_or a 0 0; tokens = get_or a 1 0 }

abbrev pub standing_cells : Standing → List ℕ
standing_cells s = s.rules ∷ s.tokens ∷ []

-- the next unused row: number, place and table number, kind and row, line and column
abbrev pub next_cells : List ℕ → Result (Option (ℕ × ℕ)) NextError → List ℕ
next_cells src n = next_numbers n ++ spot_cells (next_spot src n)

-- from the record's numbers at entry to those at exit
pub record NextFace (src m : List ℕ) (T : Tables) (X : Indexes) (ws at₀ at answer : List ℕ) : Type 0 where
  pub next : Result (Option (ℕ × ℕ)) NextError
  pub stands : Standing
  pub advanced : Advanced src (counts_of m) (singles_of m) T X ws (standing_of at₀) next stands
  pub record_is : at ≡ standing_cells stands
  pub numbers : answer ≡ next_cells src next

-- the first N calls of the C name from a record of zeros, each with the record that the one before left
pub record FreshFaces (src m : List ℕ) (T : Tables) (X : Indexes) (ws : List ℕ) (N : ℕ) (at said : ℕ → List ℕ) : Type 0 where
  pub begins : at 0 ≡ 0 ∷ 0 ∷ []
  pub calls : (k : ℕ) → k < N → NextFace src m T X ws (at k) (at (suc k)) (said k)

-- pruning: number and place; "table number (0 unless 42)"; line and column
abbrev pub pruning_cells : List ℕ → Result (Unit {0}) PruningError → List ℕ
pruning_cells src k = pruning_numbers k ++ spot_cells (answer_spot src (pruning_numbers k))

-- a reading's numbers behind it: the ten counts are those that are left, and nothing else changes
abbrev pub reading_after : Result (Unit {0}) PruningError → Counts → List ℕ → List ℕ
reading_after (Ok _) d m = put m 4 (counts_cells d)
reading_after (Err e) d m = m

-- from the numbers, tables and indexes at entry to those at exit
pub record PruneFace (src m₀ m : List ℕ) (T₀ T : Tables) (X₀ X : Indexes) (ws₀ ws answer : List ℕ) : Type 0 where
  pub pruning : Result (Unit {0}) PruningError
  pub counts : Counts
  pub pruned : Prunings src (singles_of m₀) pruning (record { counts = counts_of m₀; tables = T₀; indexes = X₀; work = ws₀ }) (record { counts = counts; tables = T; indexes = X; work = ws })
  pub reading : m ≡ reading_after pruning counts m₀
  pub numbers : answer ≡ pruning_cells src pruning

-- the place of a row's name; 0, 0 where "another table number, a row number not below its count or unsound tables give an empty part"
unfoldable pub name_at : List ℕ → Counts → Singles → Tables → Indexes → ℕ → ℕ → Place
name_at src c g T X table row = elim (sound_test src c g T X) [ true ↦ name_place c T.t1 T.t7 table row | false ↦ nowhere ]

-- with line and column of its start
abbrev pub name_cells : List ℕ → Place → List ℕ
name_cells src p = p.from ∷ p.to ∷ spot_cells (spot_at src p.from)

abbrev pub name_face : List ℕ → List ℕ → Tables → Indexes → ℕ → ℕ → List ℕ
name_face src m T X table row = name_cells src (name_at src (counts_of m) (singles_of m) T X table row)

-- the value of an `%epp` row, with its answer in numbers
pub record ValueFace : Type 0 where
  pub answer : List ℕ
  pub out : List ℕ

abbrev pub valuation_cells : List ℕ → Result ℕ ValuationError → List ℕ
valuation_cells src v = counted_cells src (valuation_numbers v)

abbrev pub value_face_of : List ℕ → Valued → ValueFace
value_face_of src o = record { answer = valuation_cells src o.answer; out = o.out }

abbrev pub value_face : List ℕ → List ℕ → Tables → Indexes → ℕ → List ℕ → ValueFace
value_face src m T X row out = value_face_of src (epp_value src (counts_of m) (singles_of m) T X row out)

-- ---- the catalogue

-- writing: number, place, table, how many blocks in halves, line and column; and the blocks
pub record StoreFace : Type 0 where
  pub answer : List ℕ
  pub blocks : List ℕ

abbrev pub store_face_of : List ℕ → StoreResult → StoreFace
store_face_of src o = record { answer = counted_cells src (storing_numbers o.answer); blocks = o.blocks }

abbrev pub store_face : List ℕ → ℕ → List ℕ → AllTables → Indexes → List ℕ → StoreFace
store_face src kind m T X out = store_face_of src (store_all src kind (counts_of m) (posix_of m) (singles_of m) T X out)

-- loading back: a reading's numbers as load gives them, and behind them the kind and the source's length. Every place is 0 to 0, at line 1 and column 1.
abbrev pub restoring_cells : Result (Unit {0}) RestoringError → Head → List ℕ
restoring_cells a h = (restoring_numbers a ++ counts_cells h.counts ++ singles_cells h.singles) ++ (posix_cells h.posix ++ (1 ∷ 1 ∷ h.kind ∷ h.length ∷ []))

pub record RestoreFace : Type 0 where
  pub answer : List ℕ
  pub source : List ℕ
  pub tables : AllTables
  pub indexes : Indexes

abbrev pub restore_face_of : Restored → RestoreFace
restore_face_of o = record { answer = restoring_cells o.answer o.head; source = o.source; tables = o.tables; indexes = o.indexes }

abbrev pub restore_face : List ℕ → List ℕ → AllTables → Indexes → RestoreFace
restore_face s S T X = restore_face_of (restored s S T X)

-- "Loading those blocks [..] gives back the same tables and source and fills the indexes", in the C names' numbers: o is what loading left in a lent source S, lent tables T₀ and lent indexes X₀ of a reading with the numbers
-- m and the tables T. Counts and singles stand where the other C names look for them.
pub record BackFace (src : List ℕ) (kind : ℕ) (m : List ℕ) (T : AllTables) (S : List ℕ) (T₀ : AllTables) (X₀ : Indexes) (o : RestoreFace) : Type 0 where
  pub number : get_or o.answer 0 0 ≡ 0
  pub counts : counts_of o.answer ≡ counts_of m
  pub singles : singles_of o.answer ≡ singles_of m
  pub posix : posix_of o.answer ≡ posix_of m
  pub kind_is : get_or o.answer 43 0 ≡ kind
  pub length_is : get_or o.answer 44 0 ≡ length src
  pub source : o.source ≡ src ++ replicate (length S - length src) 0
  pub tables : (k : ℕ) → k < 13 → cells_of o.tables k ≡ take (cells_at (counts_of m) (posix_of m) k) (cells_of T k) ++ replicate (length (cells_of T₀ k) - cells_at (counts_of m) (posix_of m) k) 0
  pub indexes : o.indexes ≡ entered_indexes src (counts_of m) o.tables (length X₀.tokens) (length X₀.rules)

-- ---- the shipping form

-- a reading's numbers as load gives them, of a kind without tables 15 to 17, with line and column of the answer's place; and behind them how many bytes were sent, in halves
abbrev pub shipping_cells : Result ℕ Refusal → Counts → Singles → Spot → List ℕ
shipping_cells a c g s = (take 4 (shipment_numbers a) ++ counts_cells c ++ singles_cells g) ++ (posix_cells no_posix ++ spot_cells s ++ halves (get_or (shipment_numbers a) 4 0))

pub record ShipFace : Type 0 where
  pub answer : List ℕ
  pub tables : Tables
  pub indexes : Indexes
  pub out : List ℕ

abbrev pub ship_face_of : List ℕ → ShipResult → ShipFace
ship_face_of src o = record { answer = shipping_cells o.answer o.counts o.singles (answer_spot src (shipment_numbers o.answer)); tables = o.tables; indexes = o.indexes; out = o.out }

abbrev pub ship_face : List ℕ → ℕ → Tables → Indexes → List ℕ → ShipFace
ship_face src kind T X out = ship_face_of src (shipping src kind T X out)
