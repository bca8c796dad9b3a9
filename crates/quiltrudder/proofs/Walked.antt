-- The unused rows one by one, of the C names: calls of `quiltrudder_next_unused` from a record of zeros give the report's rows in order, and then the end for ever. Assumes nothing.
use Rattle.std.specs.Prelude.{Option, None, Result, Ok, Err}
use Prim.Native.Nat.{ℕ, zero, suc, ◌%◌, ◌/◌, ◌<◌, ◌≤◌}
use mathlib.Core.Path.{◌≡◌, refl, sym, ap, ◌∙◌}
use mathlib.Core.List.{List, [], ◌∷◌}
use native.Mathlib.Omega.{arith}
use native.Mathlib.Decide.{dec_lt}
use native.Mathlib.Nat.{div-add-mod'}
use lib.ListN.{get_or}
use Rattle.places.specs.declared.Spot.{Spot}
use Rattle.places.proofs.Meaning.{spot_first}
use Rattle.tables.specs.Table.{cell}
use Rattle.grammar.specs.Sound.{Tables, Indexes}
use Rattle.loading.proofs.Theorems.{flaw_number_lem}
use Rattle.reach.specs.Reach.{Grammar, grammar_of}
use Rattle.usage.specs.declared.ListingError.{ListingError}
use Rattle.usage.specs.declared.ListingError.TheVariants.{OfUnsound, OfInvalid, NoWords, NoRoom}
use Rattle.usage.specs.declared.MarkingError.{MarkingError}
use Rattle.usage.specs.declared.MarkingError.TheVariants.{MarksUnsound, MarksInvalid, MarksNoWords}
use Rattle.usage.specs.Report.{Excuses, excuses_of, Reported, MarkedBits}
use Rattle.usage.specs.Standing.{UnusedRows}
use Rattle.usage.proofs.Outcome.{report_marks}
use Rattle.usage.proofs.Standing.{report_rows}
use Rattle.walks.specs.declared.NextError.{NextError}
use Rattle.walks.specs.declared.Standing.{Standing}
use Rattle.walks.specs.Walk.{Advanced}
use Rattle.walks.specs.Sequence.{FreshCalls, stands_behind}
use Rattle.walks.proofs.Once.{next_one}
use Rattle.walks.proofs.Theorems.{walk_gives, walk_ends, walk_stands}
use Rattle.singles.specs.Singles.{singles_of, counts_of}
use Rattle.quiltrudder.specs.Face.{listing_cells, ReportFace, marking_cells, MarkFace, standing_of, standing_cells, next_cells, FreshFaces}

-- the number 0 of a marking
marking_0 : (src : List ℕ) (k : Result (Unit {0}) MarkingError) → get_or (marking_cells src k) 0 0 ≡ 0 → k ≡ Ok tt
marking_0 src (Ok _) e = refl
marking_0 src (Err MarksUnsound) e = absurd (omega arith)
marking_0 src (Err (MarksInvalid f)) e = let q = flaw_number_lem f in absurd (omega (arith, rw q.0 at e, q.1))
marking_0 src (Err MarksNoWords) e = absurd (omega arith)

-- the cells of a report that is given tell its count
listing_is : (src : List ℕ) (l : Result ℕ ListingError) (n : ℕ) → listing_cells src l ≡ listing_cells src (Ok n) → l ≡ Ok n
listing_is src (Ok k) n e =
    let low : k % 4294967296 ≡ n % 4294967296 = ap (λ (x : List ℕ). get_or x 4 0) e in
    let high : k / 4294967296 ≡ n / 4294967296 = ap (λ (x : List ℕ). get_or x 5 0) e in
    ap (λ (x : ℕ). Ok x) (sym (div-add-mod' k 4294967296) ∙ rw (low, high) (div-add-mod' n 4294967296))
listing_is src (Err OfUnsound) n e = let z : ◌≡◌ {A = ℕ} 44 0 = ap (λ (x : List ℕ). get_or x 0 0) e in absurd (omega arith)
listing_is src (Err (OfInvalid f)) n e =
    let q = flaw_number_lem f in
    let z = ap (λ (x : List ℕ). get_or x 0 0) e in
    absurd (omega (arith, rw q.0 at z, q.1))
listing_is src (Err NoWords) n e = let z : ◌≡◌ {A = ℕ} 42 0 = ap (λ (x : List ℕ). get_or x 0 0) e in absurd (omega arith)
listing_is src (Err NoRoom) n e = let z : ◌≡◌ {A = ℕ} 42 0 = ap (λ (x : List ℕ). get_or x 0 0) e in absurd (omega arith)

module _ (src m : List ℕ) (T : Tables) (X : Indexes) where
  abbrev grammar : Grammar
  grammar = grammar_of src (counts_of m) (singles_of m).start T.t1 T.t7 T.t8 T.t9

  abbrev excuses : Excuses
  excuses = excuses_of src (counts_of m) T.t4 T.t6

  module _ (ws : List ℕ) (N : ℕ) (at said : ℕ → List ℕ) (w : FreshFaces src m T X ws N at said) where
    -- what the numbers tell: the record before call k, and what it answers
    abbrev stood : ℕ → Standing
    stood k = standing_of (at k)

    abbrev next_of : (k : ℕ) → Dec (k < N) → Result (Option (ℕ × ℕ)) NextError
    next_of k (yes h) = (w.calls k h).next
    next_of k (no h) = Ok None

    abbrev answered : ℕ → Result (Option (ℕ × ℕ)) NextError
    answered k = next_of k (dec_lt k N)

    called : (k : ℕ) (h : k < N) → Advanced src (counts_of m) (singles_of m) T X ws (stood k) (w.calls k h).next (stood (suc k))
    called k h = let c = w.calls k h in rw c.record_is c.advanced

    walked : FreshCalls src (counts_of m) (singles_of m) T X ws N stood answered
    walked = record { begins = ap standing_of w.begins; calls = λ k h. go k h (dec_lt k N) }
      where
        go : (k : ℕ) → k < N → (d : Dec (k < N)) → Advanced src (counts_of m) (singles_of m) T X ws (stood k) (next_of k d) (stood (suc k))
        go k h (yes e) = called k e
        go k h (no e) = absurd (e h)

    said_is : (k : ℕ) (h : k < N) → said k ≡ next_cells src (answered k)
    said_is k h =
        let e = (next_one src (counts_of m) (singles_of m) T X ws (stood k) _ _ _ _ (called k h) (walked.calls k h)).0 in
        (w.calls k h).numbers ∙ ap (λ (n : Result (Option (ℕ × ℕ)) NextError). next_cells src n) e

    -- a record is its two numbers
    two_cells : (k : ℕ) → k ≤ N → at k ≡ standing_cells (stood k)
    two_cells zero h = rw w.begins refl
    two_cells (suc k) h = let c = w.calls k (omega arith) in rw c.record_is refl

    module _ (ws₀ : List ℕ) (marked : MarkedBits src (counts_of m) (singles_of m) T X (Ok tt) ws₀ ws) (n : ℕ) (out : List ℕ) (rows : UnusedRows grammar excuses n out) where
      gives : (k : ℕ) → k < N → k < n → said k ≡ 0 ∷ 0 ∷ 0 ∷ 0 ∷ cell 2 out k 0 ∷ cell 2 out k 1 ∷ 1 ∷ 1 ∷ []
      gives k h l =
          said_is k h
          ∙ ap (λ (x : Result (Option (ℕ × ℕ)) NextError). next_cells src x) (walk_gives src (counts_of m) (singles_of m) T X ws₀ ws marked n out rows N stood answered walked k h l)
          ∙ ap (λ (s : Spot). 0 ∷ 0 ∷ 0 ∷ 0 ∷ cell 2 out k 0 ∷ cell 2 out k 1 ∷ s.line ∷ s.column ∷ []) (spot_first src)

      ends : (k : ℕ) → k < N → n ≤ k → (said k ≡ 0 ∷ 0 ∷ 0 ∷ 0 ∷ 0 ∷ 0 ∷ 1 ∷ 1 ∷ []) × (at (suc k) ≡ at k)
      ends k h l =
          let y = walk_ends src (counts_of m) (singles_of m) T X ws₀ ws marked n out rows N stood answered walked k h l in (
            said_is k h ∙ ap (λ (x : Result (Option (ℕ × ℕ)) NextError). next_cells src x) y.0 ∙ ap (λ (s : Spot). 0 ∷ 0 ∷ 0 ∷ 0 ∷ 0 ∷ 0 ∷ s.line ∷ s.column ∷ []) (spot_first src),
            two_cells (suc k) (omega arith) ∙ ap standing_cells y.1 ∙ sym (two_cells k (omega arith)),
          )

      stands : (k : ℕ) → k ≤ N → k ≤ n → at k ≡ standing_cells (stands_behind out k)
      stands k h l = two_cells k h ∙ ap standing_cells (walk_stands src (counts_of m) (singles_of m) T X ws₀ ws marked n out rows N stood answered walked k h l)

    -- With the bits of a marking whose number is 0: call k gives row k of any list of the unused rows in order, and behind the last one the end, and the record stays.
    module _ (ws₀ a : List ℕ) (r : MarkFace src m T X ws₀ ws a) (zero_is : get_or a 0 0 ≡ 0) (n : ℕ) (out : List ℕ) (rows : UnusedRows grammar excuses n out) where
      marks : MarkedBits src (counts_of m) (singles_of m) T X (Ok tt) ws₀ ws
      marks = let e = marking_0 src r.marking (rw r.numbers at zero_is) in rw e at r.marked

      pub face_mark_walked : (k : ℕ) → k < N → k < n → said k ≡ 0 ∷ 0 ∷ 0 ∷ 0 ∷ cell 2 out k 0 ∷ cell 2 out k 1 ∷ 1 ∷ 1 ∷ []
      face_mark_walked = gives ws₀ marks n out rows

      pub face_mark_over : (k : ℕ) → k < N → n ≤ k → (said k ≡ 0 ∷ 0 ∷ 0 ∷ 0 ∷ 0 ∷ 0 ∷ 1 ∷ 1 ∷ []) × (at (suc k) ≡ at k)
      face_mark_over = ends ws₀ marks n out rows

      -- the record after k calls
      pub face_mark_stands : (k : ℕ) → k ≤ N → k ≤ n → at k ≡ standing_cells (stands_behind out k)
      face_mark_stands = stands ws₀ marks n out rows

    -- With the bits of a report whose answer has the number 0 and the count n: the rows that it wrote.
    module _ (ws₀ out₀ out a : List ℕ) (r : ReportFace src m T X ws₀ ws out₀ out a) (n : ℕ) (counted : a ≡ listing_cells src (Ok n)) where
      reported : Reported src (counts_of m) (singles_of m) T X (Ok n) ws₀ ws out₀ out
      reported = let e = listing_is src r.listing n (sym r.numbers ∙ counted) in rw e at r.reported

      pub face_report_walked : (k : ℕ) → k < N → k < n → said k ≡ 0 ∷ 0 ∷ 0 ∷ 0 ∷ cell 2 out k 0 ∷ cell 2 out k 1 ∷ 1 ∷ 1 ∷ []
      face_report_walked = gives ws₀ (report_marks src (counts_of m) (singles_of m) T X n ws₀ ws out₀ out reported) n out (report_rows src (counts_of m) (singles_of m) T X n ws₀ ws out₀ out reported)

      pub face_report_over : (k : ℕ) → k < N → n ≤ k → (said k ≡ 0 ∷ 0 ∷ 0 ∷ 0 ∷ 0 ∷ 0 ∷ 1 ∷ 1 ∷ []) × (at (suc k) ≡ at k)
      face_report_over = ends ws₀ (report_marks src (counts_of m) (singles_of m) T X n ws₀ ws out₀ out reported) n out (report_rows src (counts_of m) (singles_of m) T X n ws₀ ws out₀ out reported)
