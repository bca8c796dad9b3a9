-- What the functions' proofs cite: a text copied byte by byte, and one law for each answer. Assumes nothing.
use Rattle.std.specs.Prelude.{Option, Some, None, Result, Ok, Err}
use Prim.Native.Nat.{ℕ, suc, ◌+◌, ◌-◌, ◌≤◌, ◌<◌}
use mathlib.Core.Path.{◌≡◌, ap, ◌∙◌}
use mathlib.Core.List.{List, []}
use mathlib.Core.Bool.{Bool, true, false, not}
use native.Mathlib.Omega.{arith}
use native.Mathlib.Numerals.{add-one}
use native.Mathlib.Nat.{add-zero, zero-add}
use lib.ListN.{length, get_or, set, take, length-replicate, drop_of_length-le}
use lib.Seq.{slice, slice-cons, length-take-le}
use borrow.Author.Tests.{eq-eqb, ne_eqb, le-leb, lt-leb, lt-ltb, le-ltb, not-true, not-false}
use Rattle.words.specs.declared.QuoteError.{QuoteError}
use Rattle.words.specs.Strings.{string_at, Stringed}
use Rattle.words.proofs.Strings.{string_end_lem}
use Rattle.tables.specs.Table.{cell, zeroed, put}
use Rattle.tables.specs.Layout.{epps, value, width}
use Rattle.tables.proofs.Rows.{put_zeros}
use Rattle.tables.proofs.Laws.{put_length}
use Rattle.grammar.specs.declared.Counts.{Counts}
use Rattle.grammar.specs.declared.Singles.{Singles}
use Rattle.grammar.specs.Sound.{Tables, Indexes}
use Rattle.sound.specs.Test.{count_at, sound_test}
use Rattle.values.specs.declared.ValuationError.TheVariants.{OfUnsoundTables, PastCount, NotString, NoTextRoom}
use Rattle.values.specs.Value.{plain, Copied, copied, Within, text_by, text_at, Valued, text_value, epp_value}

-- what is left to copy, from index i of the source and from cell k on
unfoldable pub copy_from : List ℕ → ℕ → ℕ → List ℕ → ℕ → Copied
copy_from src i to out k = record { count = k + length (plain (slice i to src)); cells = put out k (plain (slice i to src)) }

pub copy_start : (src : List ℕ) (from to : ℕ) (out : List ℕ) → copy_from src from to out 0 ≡ copied src from to out
unfolding copy_from copied
copy_start src from to out = rw (zero-add (length (plain (slice from to src))))

module _ (src : List ℕ) (i to : ℕ) (out : List ℕ) (k : ℕ) (r : Copied) (h : to ≤ length src) (inv : copy_from src i to out k ≡ r) where
  pub copy_end : to ≤ i → record { count = k; cells = out } ≡ r
  unfolding copy_from plain
  copy_end e =
      let d : slice i to src ≡ [] = drop_of_length-le (take to src) {i = i} (rw (length-take-le to src h) e) in
      rw (d, plain, add-zero k) at inv

  module _ (l : i < to) (j : ℕ) (n : j ≡ i + 1) where
    pub copy_byte : (get_or src i 0 ≡ 92 → ⊥) → (m : ℕ) → m ≡ k + 1 → (cells : List ℕ) → cells ≡ set out k (get_or src i 0) → copy_from src j to cells m ≡ r
    unfolding copy_from plain
    copy_byte f m o cells e =
        let a : (n : ℕ) → k + 1 + n ≡ k + suc n = λ n. omega arith in
        rw (n, o, e, add-one i, a) (rw (slice-cons i to src 0 l h, plain, ne_eqb _ _ f) at inv)

    pub copy_escape : get_or src i 0 ≡ 92 → copy_from src j to out k ≡ r
    unfolding copy_from plain
    copy_escape e = rw (n, add-one i) (rw (slice-cons i to src 0 l h, plain, eq-eqb _ _ e) at inv)

-- a string that is closed has both its quotes in the source
pub closed_inside : (src : List ℕ) (from : ℕ) (r : Result ℕ QuoteError) (end : ℕ) → Stringed src from r → r ≡ Ok end → (from + 1 < end) × (end ≤ length src)
closed_inside src from r end s e = rw e at s

-- a value's place, and what stands there
module _ (src t5 : List ℕ) (row from to : ℕ) (f : from ≡ cell (width epps) t5 row value) (t : to ≡ cell (width epps) t5 row (value + 1)) where
  pub text_past : length src < from → None ≡ text_at src t5 row
  unfolding text_at
  text_past h = rw (text_at, ← f, ← string_end_lem src from (omega arith))

  module _ (r : Result ℕ QuoteError) (e : r ≡ string_at src from) where
    pub text_is : (x : Option (ℕ × ℕ)) → x ≡ text_by r from to → x ≡ text_at src t5 row
    unfolding text_at
    text_is x h = rw (text_at, ← f, ← t, ← e) h

    pub text_whole : (end : ℕ) → r ≡ Ok end → end ≡ to → Some (from + 1, end - 1) ≡ text_at src t5 row
    text_whole end g h = text_is _ (rw (g, eq-eqb end to h))

    pub text_other : (end : ℕ) → r ≡ Ok end → (end ≡ to → ⊥) → None ≡ text_at src t5 row
    text_other end g h = text_is _ (rw (g, ne_eqb end to h))

    pub text_none : (q : Result ℕ QuoteError) → r ≡ q → None ≡ text_by q from to → None ≡ text_at src t5 row
    text_none q g h = text_is _ (rw g h)

-- a text written in cells that were made zero
pub text_within : (src : List ℕ) (t : Option (ℕ × ℕ)) (a b : ℕ) → Within src t → t ≡ Some (a, b) → b ≤ length src
text_within src t a b w e = let x = rw e at w in x.1

module _ (src : List ℕ) (t : Option (ℕ × ℕ)) (out zeros : List ℕ) (z : zeros ≡ zeroed out) where
  pub write_none : t ≡ None → record { answer = Err NotString; out = zeros } ≡ text_value t src out
  write_none e = rw (e, z)

  module _ (a b : ℕ) (e : t ≡ Some (a, b)) (n : ℕ) (cells : List ℕ) (k : record { count = n; cells = cells } ≡ copied src a b zeros) where
    count : n ≡ length (plain (slice a b src))
    unfolding copied
    count = ap (λ (x : Copied). x.count) k

    stored : cells ≡ put (zeroed out) 0 (plain (slice a b src))
    unfolding copied
    stored = ap (λ (x : Copied). x.cells) k ∙ rw z

    room : length cells ≡ length out
    room = rw (stored, put_length, length-replicate (length out))

    pub write_whole : n ≤ length cells → record { answer = Ok n; out = cells } ≡ text_value t src out
    write_whole h =
        let l : length (plain (slice a b src)) ≤ length out = omega (arith, count, room) in
        rw (e, le-leb _ _ l, count, stored, put_zeros _ (length out) l)

    pub write_no_room : length cells < n → (left : List ℕ) → left ≡ zeroed cells → record { answer = Err NoTextRoom; out = left } ≡ text_value t src out
    write_no_room h left m =
        let l : length out < length (plain (slice a b src)) = omega (arith, count, room) in
        rw (e, lt-leb _ _ l, m, room)

-- the value of a row
module _ (src : List ℕ) (c : Counts) (g : Singles) (T : Tables) (X : Indexes) (row : ℕ) (out : List ℕ) (b : Bool) (q : b ≡ sound_test src c g T X) where
  pub value_unsound : not b ≡ true → (zeros : List ℕ) → zeros ≡ zeroed out → record { answer = Err OfUnsoundTables; out = zeros } ≡ epp_value src c g T X row out
  unfolding epp_value
  value_unsound h zeros z = rw (epp_value, ← q, not-true b h, z)

  module _ (h : not b ≡ false) (n : ℕ) (k : n ≡ count_at c epps) where
    pub value_past : n ≤ row → (zeros : List ℕ) → zeros ≡ zeroed out → record { answer = Err PastCount; out = zeros } ≡ epp_value src c g T X row out
    unfolding epp_value
    value_past l zeros z = rw (epp_value, ← q, not-false b h, ← k, le-ltb row n l, z)

    pub value_text : row < n → (t : Option (ℕ × ℕ)) → t ≡ text_at src T.t5 row → (o : Valued) → o ≡ text_value t src out → o ≡ epp_value src c g T X row out
    unfolding epp_value
    value_text l t e o f = f ∙ rw (epp_value, ← q, not-false b h, ← k, lt-ltb row n l, e)
