-- "Loading those blocks, with room and indexes of a right size, gives back the same tables and source and fills the indexes." Assumes nothing.
use Rattle.std.specs.Prelude.{Ok}
use Prim.Native.Nat.{ℕ, ◌*◌, ◌/◌, ◌-◌, ◌≤◌, ◌<◌}
use mathlib.Core.Path.{◌≡◌, refl, sym, ap, ◌∙◌}
use mathlib.Core.List.{List, ◌++◌}
use mathlib.Core.Bool.{Bool, true, false, and-eq-true_iff}
use native.Mathlib.Omega.{arith}
use native.Mathlib.Decide.{dec_lt}
use mathlib.Core.Logic.{◌↔◌}
use borrow.Author.Tests.{le-leb, lt-ltb, eq-eqb}
use lib.Dec.{eqb, ltb}
use lib.ListN.{length, get_or, take, replicate, length-append, length-replicate, take-append-drop, drop_of_length-le, get_or-eq_default}
use lib.Seq.{ext_get_or, length-take-le, get_or-take, take_at, drop_at}
use Rattle.scan.proofs.Bytes.{told}
use Rattle.tables.specs.Table.{zeroed}
use Rattle.tables.specs.Layout.{tokens, rules, width}
use Rattle.tables.proofs.Tells.{both_iff}
use Rattle.index.specs.Index.{Sized}
use Rattle.index.proofs.Powers.{size_iff}
use Rattle.blocks.specs.Blocks.{words_in, content_at, content_to, content_of, first_fault, blocks_for, Stored}
use Rattle.blocks.proofs.Content.{content_is, at_below}
use Rattle.blocks.proofs.Content.{content_length as to-length}
use Rattle.blocks.proofs.Whole.{right_iff, right_same}
use Rattle.grammar.specs.declared.Counts.{Counts}
use Rattle.grammar.specs.declared.PosixCounts.{PosixCounts}
use Rattle.grammar.specs.declared.Singles.{Singles}
use Rattle.grammar.specs.Sound.{AllTables, Indexes, cells_of, zero_all}
use Rattle.sections.specs.Sections.{sizes_fit, sized}
use Rattle.catalogue.specs.declared.Head.{Head}
use Rattle.catalogue.specs.Catalogue.{head_cells, head_of, head_in, head_test, filled_test, cells_at, content_size, content, no_room, lengths_of, whole_test, sound_reading}
use Rattle.catalogue.proofs.Heads.{head_length, head_back, head_iff}
use Rattle.catalogue.proofs.Room.{short_none, filled_iff, lengths_at}
use Rattle.catalogue.proofs.Contents.{content_length, head_read, rows_read, source_read}
use Rattle.storing.specs.Storing.{head_with, store_all}
use Rattle.storing.proofs.Laws.{reading_iff, reading_fits}
use Rattle.storing.proofs.Theorems.{stored_iff, stored_holds}
use Rattle.restoring.specs.Restoring.{Restored, clear_indexes, filled_tables, filled_source, entered_indexes, kept_if, filled_from, restored}
use Rattle.roundtrip.specs.Roundtrip.{Plain, Back}
use Rattle.roundtrip.proofs.Cases.{Held, held_iff, restored_found, tables_ext, fresh_cells, fresh_length, fresh_source}
use Rattle.roundtrip.proofs.Rows.{sound_table, rows_sound}

-- ---- blocks without what is behind them

-- the first blocks alone hold the same content
pub stored_front : (b o : List ℕ) → Stored b o → Stored b (take (blocks_for (length b) * 512) o) × (length (take (blocks_for (length b) * 512) o) ≡ blocks_for (length b) * 512)
stored_front b o x = (
  record {
    room = omega (arith, l);
    content = ext_get_or 0 (content_to (m * 504) s) (content_to (m * 504) o) (to-length (m * 504) s ∙ sym (to-length (m * 504) o))
        (λ i h. let q : i < m * 504 = rw (to-length (m * 504) s) at h in content_is (m * 504) i s q ∙ at (content_at i) (at_below i m q) ∙ sym (content_is (m * 504) i o q))
        ∙ x.content;
    right = (right_iff m s).1 (λ k h. right_same s o k (λ i a c. at i (omega arith)) ((right_iff m o).0 x.right k h));
    behind = rw (l, drop_of_length-le s {i = m * 512} (omega (arith, l))) (ap (λ (n : ℕ). replicate n 0) (sym none));
    bytes = λ i. elim (dec_lt i (m * 512)) [ yes h ↦ rw (at i h) (x.bytes i) | no h ↦ rw (get_or-eq_default s 0 {n = i} (omega (arith, l))) (omega arith) ];
  },
  l,
)
  where
    m : ℕ
    m = blocks_for (length b)

    s : List ℕ
    s = take (m * 512) o

    l : length s ≡ m * 512
    l = length-take-le (m * 512) o x.room

    none : m * 512 - m * 512 ≡ 0
    none = omega arith

    at : (i : ℕ) → i < m * 512 → get_or s i 0 ≡ get_or o i 0
    at i h = get_or-take (m * 512) o i 0 h

module _ (b s : List ℕ) (x : Stored b s) (l : length s ≡ blocks_for (length b) * 512) where
  blocks_are : length s / 512 ≡ blocks_for (length b)
  blocks_are = omega arith

  content_are : content_of s ≡ b ++ replicate (blocks_for (length b) * 504 - length b) 0
  unfolding content_of
  content_are = rw blocks_are x.content

  whole_are : 0 < length b → whole_test s ≡ true
  unfolding whole_test
  whole_are h = (and-eq-true_iff (ltb 0 (length s)) (eqb (length s / 512 * 512) (length s))).1 (lt-ltb 0 (length s) (omega arith), eq-eqb (length s / 512 * 512) (length s) (omega arith))

-- ---- loading them

-- nothing is short where all tables and the source fit
room_is : (h : Head) (ls : List ℕ) (l : ℕ) → ((k : ℕ) → k < 13 → cells_at h.counts h.posix k ≤ get_or ls k 0) → h.length ≤ l → no_room h ls l ≡ 0
unfolding no_room
room_is h ls l f g = rw ((short_none h.counts h.posix ls 0 13).1 (λ k a b. f k (omega arith))) (ap (λ (q : Bool). elim q [ true ↦ 0 | false ↦ 19 ]) (le-leb h.length l g))

-- right sizes
pub sized_iff : (T : AllTables) (X : Indexes) → (sized T X ≡ true) ↔ (Sized (length X.tokens) (length T.t1) (width tokens) × Sized (length X.rules) (length T.t7) (width rules))
unfolding sizes_fit
sized_iff T X = both_iff (size_iff (length X.tokens) (length T.t1) (width tokens)) (size_iff (length X.rules) (length T.t7) (width rules))

module _ (src : List ℕ) (kind : ℕ) (c : Counts) (p : PosixCounts) (g : Singles) (T : AllTables) (X : Indexes) (s S : List ℕ) (T₀ : AllTables) (X₀ : Indexes) (plain : Plain src kind c p g T) (known : (1 ≤ kind) × (kind ≤ 4)) (sound : sound_reading src c p g T X ≡ true)
    (x : Stored (content (head_with src kind c p g) T src) s) (l : length s ≡ blocks_for (length (content (head_with src kind c p g) T src)) * 512)
    (fits : (k : ℕ) → k < 13 → cells_at c p k ≤ length (cells_of T₀ k)) (short : length src ≤ length S) (right : sized T₀ X₀ ≡ true) where
  abbrev h : Head
  h = head_with src kind c p g

  abbrev b : List ℕ
  b = content h T src

  abbrev z : List ℕ
  z = replicate (blocks_for (length b) * 504 - length b) 0

  size : length b ≡ content_size c p (length src)
  size = content_length h T src (reading_fits src c p g T X sound)

  words : words_in (content_of s) 0 39 ≡ head_cells h
  words = ap (λ (y : List ℕ). words_in y 0 39) (content_are b s x l) ∙ head_read h T src z plain.heads

  back : head_of (head_cells h) ≡ h
  back = head_back h plain.ten plain.three

  head_is : head_in s ≡ h
  head_is = ap head_of words ∙ back

  head_good : head_test (head_cells h) ≡ true
  head_good = let k : get_or (head_cells h) 38 0 ≡ kind = ap (λ (y : Head). y.kind) back in (head_iff (head_cells h) (head_length h) plain.heads).1 (ap head_cells (sym back), rw k known.0, rw k known.1)

  full : filled_test (b ++ z) (content_size c p (length src)) ≡ true
  full =
      let n = length b in
      let e : length (b ++ z) ≡ blocks_for n * 504 = rw (length-append b z, length-replicate {A = ℕ} (blocks_for n * 504 - n) 0) (omega arith) in
      rw (← size) ((filled_iff (b ++ z) n).1 (sym e, drop_at b z n refl ∙ ap (λ (i : ℕ). replicate (i - n) 0) (sym e)))

  long : 0 < length b
  unfolding content_size
  long = rw size (omega arith)

  held : Held s (sized T₀ X₀) (lengths_of T₀) (length S)
  held =
      record {
        whole = whole_are b s x l long;
        right = ap (λ (n : ℕ). first_fault n s) (blocks_are b s x l) ∙ x.right;
        head = ap head_test words ∙ head_good;
        filled = ap (λ (y : Head). filled_test (content_of s) (content_size y.counts y.posix y.length)) head_is ∙ ap (λ (y : List ℕ). filled_test y (content_size c p (length src))) (content_are b s x l) ∙ full;
        sized = right;
        room = ap (λ (y : Head). no_room y (lengths_of T₀) (length S)) head_is ∙ room_is h (lengths_of T₀) (length S) (λ k a. rw (lengths_at T₀ k) (fits k a)) short;
      }

  -- what is left is the rows and the source, with zeros behind
  abbrev left : AllTables
  left = filled_tables (b ++ z) c p (zero_all T₀)

  left_cells : (k : ℕ) → k < 13 → cells_of left k ≡ take (cells_at c p k) (cells_of T k) ++ replicate (length (cells_of T₀ k) - cells_at c p k) 0
  left_cells k a = fresh_cells (b ++ z) c p T₀ k a ∙ ap (λ (y : List ℕ). y ++ replicate (length (cells_of T₀ k) - cells_at c p k) 0) (rows_read h T src (reading_fits src c p g T X sound) z k a (plain.cells k a))

  left_length : (k : ℕ) → k < 13 → length (cells_of left k) ≡ length (cells_of T₀ k)
  left_length k a = fresh_length (b ++ z) c p T₀ k a (fits k a)

  left_source : filled_source (b ++ z) c p (length src) (zeroed S) ≡ src ++ replicate (length S - length src) 0
  unfolding content_size
  left_source = fresh_source (b ++ z) c p (length src) S ∙ ap (λ (y : List ℕ). y ++ replicate (length S - length src) 0) (source_read h T src (reading_fits src c p g T X sound) z)

  left_sound : sound_reading src c p g left (entered_indexes src c left (length X₀.tokens) (length X₀.rules)) ≡ true
  left_sound =
      let y = (reading_iff src c p g T X).0 sound in
      let q = (sized_iff T₀ X₀).0 right in
      let m = length X₀.tokens in
      let n = length X₀.rules in
      (reading_iff src c p g left (entered_indexes src c left m n)).1
      (rows_sound src c p g T X left m n y.0 y.1 (λ k a. rw (left_length k a) (fits k a)) (λ k a. rw (left_length k a) (left_cells k a))
      (told (λ (i : ℕ). Sized m i (width tokens)) (sym (left_length tokens (omega arith))) q.0) (told (λ (i : ℕ). Sized n i (width rules)) (sym (left_length rules (omega arith))) q.1) (entered_indexes src c left m n) refl)

  filled_is : filled_from (b ++ z) h (zeroed S) (zero_all T₀) (clear_indexes X₀) ≡ record { answer = Ok tt; head = h; source = src ++ replicate (length S - length src) 0; tables = left; indexes = entered_indexes src c left (length X₀.tokens) (length X₀.rules) }
  unfolding filled_from
  filled_is =
      ap (λ (y : List ℕ). made (take (length src) y) y (length (zeroed X₀.tokens)) (length (zeroed X₀.rules))) left_source
      ∙ ap (λ (y : List ℕ). made y (src ++ replicate (length S - length src) 0) (length (zeroed X₀.tokens)) (length (zeroed X₀.rules))) (take_at src (replicate (length S - length src) 0) (length src) refl)
      ∙ ap (λ (m : ℕ). made src (src ++ replicate (length S - length src) 0) m (length (zeroed X₀.rules))) (length-replicate {A = ℕ} (length X₀.tokens) 0)
      ∙ ap (λ (n : ℕ). made src (src ++ replicate (length S - length src) 0) (length X₀.tokens) n) (length-replicate {A = ℕ} (length X₀.rules) 0)
      ∙ ap (λ (q : Bool). kept_if q h (src ++ replicate (length S - length src) 0) left (entered_indexes src c left (length X₀.tokens) (length X₀.rules))) left_sound
    where
      made : List ℕ → List ℕ → ℕ → ℕ → Restored
      made a y m n = kept_if (sound_reading a c p g left (entered_indexes a c left m n)) h y left (entered_indexes a c left m n)

  restored_is : restored s S T₀ X₀ ≡ record { answer = Ok tt; head = h; source = src ++ replicate (length S - length src) 0; tables = left; indexes = entered_indexes src c left (length X₀.tokens) (length X₀.rules) }
  restored_is =
      restored_found S T₀ X₀ s (Ok tt) ((held_iff s (sized T₀ X₀) (lengths_of T₀) (length S)).1 held)
      ∙ ap (λ (y : Head). filled_from (content_of s) y (zeroed S) (zero_all T₀) (clear_indexes X₀)) head_is
      ∙ ap (λ (y : List ℕ). filled_from y h (zeroed S) (zero_all T₀) (clear_indexes X₀)) (content_are b s x l)
      ∙ filled_is

  pub held_back : Back src kind c p g T S T₀ X₀ (restored s S T₀ X₀)
  held_back = rw restored_is (record { answer = refl; head = refl; source = refl; tables = left_cells; indexes = refl })

-- ---- the theorem

module _ (src : List ℕ) (kind : ℕ) (c : Counts) (p : PosixCounts) (g : Singles) (T : AllTables) (X : Indexes) (out : List ℕ) (n : ℕ) (s S : List ℕ) (T₀ : AllTables) (X₀ : Indexes) where
  pub load_back : Plain src kind c p g T → (store_all src kind c p g T X out).answer ≡ Ok n → s ≡ take (n * 512) (store_all src kind c p g T X out).blocks
      → ((k : ℕ) → k < 13 → cells_at c p k ≤ length (cells_of T₀ k))
      → length src ≤ length S
      → sized T₀ X₀ ≡ true
      → Back src kind c p g T S T₀ X₀ (restored s S T₀ X₀)
  load_back plain e hs fits short right =
      let q = (stored_iff src kind c p g T X out n).0 e in
      let y = stored_holds src kind c p g T X out n e plain.heads plain.cells plain.bytes in
      let b = content (head_with src kind c p g) T src in
      let f = stored_front b (store_all src kind c p g T X out).blocks y.0 in
      let es : take (blocks_for (length b) * 512) (store_all src kind c p g T X out).blocks ≡ s = sym (hs ∙ ap (λ (i : ℕ). take (i * 512) (store_all src kind c p g T X out).blocks) y.1) in
      held_back src kind c p g T X s S T₀ X₀ plain (q.0, q.1) q.2 (rw es at f.0) (rw es at f.1) fits short right

  -- Tables and indexes of the same lengths are then the same: those of a sound reading are zero behind their rows, and its indexes are what entering its rows gives.
  pub load_same : Plain src kind c p g T → (store_all src kind c p g T X out).answer ≡ Ok n → s ≡ take (n * 512) (store_all src kind c p g T X out).blocks
      → ((k : ℕ) → k < 13 → length (cells_of T₀ k) ≡ length (cells_of T k))
      → length X₀.tokens ≡ length X.tokens
      → length X₀.rules ≡ length X.rules
      → length src ≤ length S
      → Back src kind c p g T S T₀ X₀ (restored s S T₀ X₀) × ((restored s S T₀ X₀).tables ≡ T) × ((restored s S T₀ X₀).indexes ≡ X)
  load_same plain e hs long et er short =
      let sound = ((stored_iff src kind c p g T X out n).0 e).2 in
      let y = (reading_iff src c p g T X).0 sound in
      let i = y.0.indexes in
      let right : sized T₀ X₀ ≡ true = (sized_iff T₀ X₀).1 (rw (et, long tokens (omega arith)) i.token_size, rw (er, long rules (omega arith)) i.rule_size) in
      let B = load_back plain e hs (λ k h. rw (long k h) (reading_fits src c p g T X sound k h)) short right in
      let same : (restored s S T₀ X₀).tables ≡ T = tables_ext (restored s S T₀ X₀).tables T
      (λ k h. let t = cells_of T k in
      B.tables k h ∙ ap (λ (m : ℕ). take (cells_at c p k) t ++ replicate (m - cells_at c p k) 0) (long k h) ∙ ap (λ (z : List ℕ). take (cells_at c p k) t ++ z) (sym (sound_table src c p g T X y.0 y.1 k h).clean.zeros) ∙ take-append-drop (cells_at c p k) t) in
      (B, same, B.indexes ∙ ap (λ (U : AllTables). entered_indexes src c U (length X₀.tokens) (length X₀.rules)) same ∙ rw (et, er, ← i.tokens.holds, ← i.rules.holds))
