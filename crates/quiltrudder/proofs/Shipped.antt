-- Shipping through the C names: number 0 tells that a text was sent and how long it is, and what the C name of ship wrote is what the others take, with the tables that it left. Assumes nothing.
use Rattle.std.specs.Prelude.{Result, Ok, Err}
use Prim.Native.Nat.{ℕ, ◌+◌, ◌/◌, ◌%◌}
use mathlib.Core.Path.{◌≡◌, refl, sym, ap, ◌∙◌}
use mathlib.Core.List.{List, ◌++◌}
use mathlib.Core.Bool.{true}
use native.Mathlib.Omega.{arith}
use lib.ListN.{length, get_or, take}
use lib.Seq.{get_or-take}
use Rattle.scan.proofs.Bytes.{told}
use Rattle.places.specs.declared.Spot.{Spot}
use Rattle.places.specs.Places.{Spotted}
use Rattle.grammar.specs.declared.Counts.{Counts}
use Rattle.grammar.specs.declared.Singles.{Singles}
use Rattle.grammar.specs.State.{no_posix}
use Rattle.grammar.specs.Sound.{Tables, Indexes, Sound}
use Rattle.grammar.specs.declared.Refusal.{Refusal}
use Rattle.reader.specs.Read.{read_all}
use Rattle.reader.specs.Allowed.{Full}
use Rattle.reader.proofs.Sound.{read_sound, read_ten}
use Rattle.sound.specs.Test.{sound_test}
use Rattle.sound.proofs.Iff.{sound_iff}
use Rattle.shipping.specs.Shipping.{ShipResult, mailed, shipped_kind, lent_ten, shipment_numbers, shipping}
use Rattle.shipping.proofs.Theorems.{ship_sent}
use Rattle.singles.specs.Singles.{singles_of, counts_of, posix_of, posix_cells}
use Rattle.numbers.specs.Numbers.{answer_spot}
use Rattle.quiltrudder.specs.Face.{halves, spot_cells, CellsSpotted, FullNumber, shipping_cells, ship_face}
use Rattle.quiltrudder.proofs.Face.{shipment_four, reading_behind, reading_singles, reading_counts}
use Rattle.quiltrudder.proofs.Promises.{refusal_full, refusal_some}
use Rattle.quiltrudder.proofs.Spots.{ship_spotted, reading_spotted}

-- the numbers behind the singles
module _ (a : Result ℕ Refusal) (c : Counts) (g : Singles) (s : Spot) where
  abbrev rest : List ℕ
  rest = posix_cells no_posix ++ spot_cells s ++ halves (get_or (shipment_numbers a) 4 0)

  behind : (i : ℕ) → get_or (shipping_cells a c g s) (38 + i) 0 ≡ get_or rest i 0
  behind i = reading_behind (take 4 (shipment_numbers a)) rest c g (shipment_four a) i

module _ (src : List ℕ) (kind : ℕ) (T : Tables) (X : Indexes) (out : List ℕ) where
  abbrev o : ShipResult
  o = shipping src kind T X out

  -- the numbers that the C name of ship wrote, and the tables and indexes that it left
  abbrev m : List ℕ
  m = (ship_face src kind T X out).answer

  abbrev left : Tables
  left = (ship_face src kind T X out).tables

  abbrev slots : Indexes
  slots = (ship_face src kind T X out).indexes

  abbrev spot : Spot
  spot = answer_spot src (shipment_numbers o.answer)

  -- Line and column are those of the answer's place.
  pub face_ship_spotted : CellsSpotted src m 1 41
  face_ship_spotted =
      let l = shipment_numbers o.answer in
      reading_spotted src (take 4 l) o.counts o.singles no_posix spot (halves (get_or l 4 0)) (shipment_four o.answer) (told (λ (k : ℕ). Spotted src k spot) (sym (get_or-take 4 l 1 0 (omega arith))) (ship_spotted src kind T X out))

  -- Number 0 tells that a text was sent; it has as many bytes as the low half of the count says, and the high half is 0.
  pub face_ship_sent : get_or m 0 0 ≡ 0 → (o.answer ≡ Ok (get_or m 43 0)) × (get_or m 44 0 ≡ 0)
  face_ship_sent = go o.answer o.counts o.singles spot refl
    where
      go : (a : Result ℕ Refusal) (c : Counts) (g : Singles) (s : Spot) → o.answer ≡ a → let l = shipping_cells a c g s in get_or l 0 0 ≡ 0 → (o.answer ≡ Ok (get_or l 43 0)) × (get_or l 44 0 ≡ 0)
      go (Ok n) c g s e z =
          let h = ((ship_sent src kind T X out n).0 e).short in
          let low : n % 4294967296 ≡ n = omega (arith, h) in
          let high : n / 4294967296 ≡ 0 = omega (arith, h) in
          (e ∙ ap Ok (sym (behind (Ok n) c g s 5 ∙ low)), behind (Ok n) c g s 6 ∙ high)
      go (Err f) c g s e z = absurd (refusal_some f z)

  ten : length o.counts.n ≡ 10
  unfolding shipping
  ten = read_ten src (shipped_kind kind) (lent_ten T) X

  -- What the others take out of those numbers is what was read, whatever the answer,
  pub face_ship_back : (counts_of m ≡ o.counts) × (singles_of m ≡ o.singles)
  face_ship_back =
      let h = take 4 (shipment_numbers o.answer) in
      let z = rest o.answer o.counts o.singles spot in
      let four = shipment_four o.answer in
      (reading_counts h z o.counts o.singles four ten, reading_singles h z o.counts o.singles four)

  -- and no row of tables 15 to 17 is counted.
  pub face_ship_posix_back : posix_of m ≡ no_posix
  face_ship_posix_back =
      let at = behind o.answer o.counts o.singles spot in
      rw (at 0, at 1, at 2) refl

  -- A full reading, accepted or refused for repeats only, is told by the number,
  pub face_ship_full : FullNumber (get_or m 0 0) → Full (read_all src (shipped_kind kind) (lent_ten T) X).answer
  unfolding shipping
  face_ship_full = go (read_all src (shipped_kind kind) (lent_ten T) X).answer _
    where
      go : (v : Result ℕ Refusal) (text : List ℕ) → FullNumber (get_or (shipping_cells (mailed v text out).answer o.counts o.singles spot) 0 0) → Full v
      go (Ok i) text n = tt
      go (Err f) text n = refusal_full f n

  ship_sound : Full (read_all src (shipped_kind kind) (lent_ten T) X).answer → Sound src o.counts o.singles o.tables o.indexes
  unfolding shipping
  ship_sound f = read_sound src (shipped_kind kind) (lent_ten T) X f

  -- and passes the test of soundness as the others take it.
  pub face_ship_passes : FullNumber (get_or m 0 0) → sound_test src (counts_of m) (singles_of m) left slots ≡ true
  face_ship_passes n =
      let s = ship_sound (face_ship_full n) in
      rw (face_ship_back.0, face_ship_back.1) ((sound_iff src o.counts o.singles o.tables o.indexes).1 s)
