-- What the tag of a precedence line comes to, its row for a word, and the number behind a word: they are read where they stand, and no more than one row is added. Assumes nothing.
use Rattle.std.specs.Prelude.{Some, None, Result, Ok, Err, Option}
use Prim.Native.Nat.{ℕ, ◌+◌, ◌≤◌, ◌<◌}
use mathlib.Core.Path.{◌≡◌, refl, sym, ap, ◌∙◌}
use mathlib.Core.List.{List, [], ◌∷◌}
use mathlib.Core.Bool.{Bool, true, false, not, ◌&&◌}
use native.Mathlib.Omega.{arith}
use lib.Dec.{eqb, ltb}
use lib.ListN.{length}
use borrow.Author.Tests.{eqb-true, eqb-false, ne_eqb, ltb-false}
use Rattle.scan.specs.declared.Place.{Place}
use Rattle.scan.proofs.Bytes.{told, on_test}
use Rattle.spacing.specs.Spacing.{spaces_at, Spaces}
use Rattle.spacing.proofs.Places.{spaces}
use Rattle.words.specs.declared.IntError.{IntError}
use Rattle.words.specs.declared.IntError.TheVariants.{NoDigits, TooLarge}
use Rattle.words.specs.declared.TagError.{TagError}
use Rattle.words.specs.declared.TagError.TheVariants.{OpenTag, NoTag}
use Rattle.words.specs.Words.{token_at}
use Rattle.words.specs.Numbers.{int_at}
use Rattle.words.specs.Tags.{tag_at}
use Rattle.tables.specs.Layout.{tags, token_numbers, width}
use Rattle.grammar.specs.declared.State.{State}
use Rattle.grammar.specs.declared.Answer.{Answer}
use Rattle.grammar.specs.declared.Answer.TheVariants.{Going, Done, Refused}
use Rattle.grammar.specs.declared.Refusal.{Refusal}
use Rattle.grammar.specs.Cells.{tag_cells, number_cells}
use Rattle.grammar.specs.State.{Out0, Out1, count, with_at, with_count, push_row, tied1, behind1}
use Rattle.grammar.proofs.Counting.{same_high}
use Rattle.grammar.proofs.Steps.{past_done}
use Rattle.marks.specs.Marks.{Leading, tagged_by, tag_found, lead_tag, tag_row, number_given, number_behind, number_after, behind_word}
use Rattle.marks.specs.Appended.{Appended, FreeRows}
use Rattle.marks.specs.Worded.{Numberless, elsewhere, parted, digitless, Worded, plain, numbered, headless, bare, tagged, tag_rows, number_of}
use Rattle.marks.proofs.Appended.{appended_none}
use Rattle.marks.proofs.Laws.{lead_found}
use Rattle.marks.proofs.Worded.{line_ends, Taken, going_taken, done_taken, lead_goes, behind_reads}
use Rattle.lines.specs.Line.{Lead, onward, cut}
use Rattle.lines.specs.Met.{Still}
use Rattle.lines.proofs.Given.{free_none, still_none, still_at, push_cases}
use Rattle.lines.proofs.Grown.{past_cases}
use Rattle.lines.proofs.Worded.{spaces_gap, word_placed}

-- where a tag or none leads the words, or ends the line, it is read
lead_taken : (src : List ℕ) (s : State) {j n : ℕ} {tag : Option (ℕ × ℕ)} → Lead s.kind src s.at j n tag → Taken (lead_tag src s false true).answer
lead_taken src s (onward x) = going_taken (ap (λ (l : Leading). l.answer) (lead_goes src s false true x))
lead_taken src s (cut {end = end} {j = j} {n = n} {p = p} k e g l) =
    let over : (true && not (eqb n 0)) ≡ true = rw (ne_eqb n 0 (λ z. omega arith)) in
    done_taken (sym (ap (λ (l : Leading). l.answer) (lead_found src s false true k (Ok (p, end)) (sym e) p end Done (with_at s j) refl (past_done src true end s (Ok (j, n)) (sym g) j n refl over))))

-- The tag of a line, or none: the words follow, or a line end ends the line, or nothing such stands there and the tag is refused.
pub lead_cases {κ} : (C : Leading → Type κ) (src : List ℕ) (s : State)
    → ((j : ℕ) (tag : Option (ℕ × ℕ)) → Lead s.kind src s.at j 0 tag → C (record { answer = Going; state = with_at s j; tag = tag }))
    → ((j n : ℕ) (tag : Option (ℕ × ℕ)) → Lead s.kind src s.at j n tag → 0 < n → C (record { answer = Done; state = with_at s j; tag = tag }))
    → ((f : Refusal) (tag : Option (ℕ × ℕ)) → ((j n : ℕ) (tag : Option (ℕ × ℕ)) → Lead s.kind src s.at j n tag → ⊥) → C (record { answer = Refused f; state = s; tag = tag }))
    → C (lead_tag src s false true)
unfolding lead_tag
lead_cases C src s f g h = by (eqb s.kind 4) refl refl
  where
    tag : s.kind ≡ 4 → (t : Result (Place × ℕ) TagError) → tag_at src s.at ≡ t → (lead_tag src s false true).answer ≡ (tag_found t src s false true).answer → C (tag_found t src s false true)
    tag k (Ok (p, end)) e =
        past_cases (λ (o : Out0). (lead_tag src s false true).answer ≡ o.answer → C (tagged_by o p.from p.to)) src end s s.kind refl
        (λ i x z. f i _ (onward (tagged k e (spaces_gap s.kind true src end i 0 x) (λ y. refl))))
        (λ i n x l z. g i n _ (cut k e (spaces_gap s.kind true src end i n x) l) l)
        (λ r none z. h r _ (λ j n tag y. lead_taken src s y r z))
    tag k (Err (OpenTag i)) e = λ z. h _ _ (λ j n tag y. lead_taken src s y _ z)
    tag k (Err (NoTag i)) e = λ z. f s.at None (onward (bare k refl e))

    read : Bool → Leading
    read b = elim b [ true ↦ tag_found (tag_at src s.at) src s false true | false ↦ record { answer = Going; state = s; tag = None } ]

    by : (b : Bool) → eqb s.kind 4 ≡ b → (lead_tag src s false true).answer ≡ (read b).answer → C (read b)
    by true q = tag (eqb-true s.kind 4 q) (tag_at src s.at) refl
    by false q = λ z. f s.at None (onward (headless (eqb-false s.kind 4 q)))

-- A word's row for its line's tag: where there is a tag, it is added if there is room.
pub tag_cases : (C : Out1 → Type 0) (s : State) (tag : Option (ℕ × ℕ)) (p : Place) (t : List ℕ)
    → ((u : State) (a : List ℕ) → FreeRows (width tags) (count s tags) t (length (tag_rows tag (p ∷ []))) → (length s.posix.n ≡ 3 → Appended (width tags) (count s tags) t (tag_rows tag (p ∷ [])) (count u tags) a) → Still (λ (j : ℕ). j ≡ tags) s u → C (record { answer = Going; state = u; a = a }))
    → ((f : Refusal) → (FreeRows (width tags) (count s tags) t (length (tag_rows tag (p ∷ []))) → ⊥) → C (record { answer = Refused f; state = s; a = t }))
    → C (tag_row Going s tag p.from p.to t)
unfolding tag_row
tag_cases C s None p t f g = f s t free_none (λ e. appended_none) still_none
tag_cases C s (Some (i, j)) p t f g =
    push_cases s tags (tag_cells p.from p.to i j) t (omega arith) C
    (λ u a free rows still. f u a free (λ three. rows (same_high s tags (count s tags + 1) (omega arith) (rw three (omega arith)))) still)
    g

-- behind a word that begins at `at`, with its token's place p: the word's number or none, and the spacing behind it, which counts n line ends and ends at i; what that leaves of the state and table 16
pub record Behind (kind : ℕ) (src : List ℕ) (at : ℕ) (p : Place) (s : State) (t : List ℕ) (i n : ℕ) (u : State) (a : List ℕ) : Type 0 where
  pub end : ℕ
  pub number : Option ℕ
  pub worded : Worded kind true src at end (record { place = p; number = number })
  pub spaced : spaces_at kind true src end ≡ Ok (i, n)
  pub free : FreeRows (width token_numbers) (count s token_numbers) t (length (number_of p number))
  pub rows : length s.posix.n ≡ 3 → Appended (width token_numbers) (count s token_numbers) t (number_of p number) (count u token_numbers) a
  pub still : Still (λ (j : ℕ). j ≡ token_numbers) (with_at s i) u

-- no word stands there with spacing behind it, or there is no room for its number
pub record Fails (kind : ℕ) (src : List ℕ) (at : ℕ) (p : Place) (s : State) (t : List ℕ) (u : State) : Type 0 where
  pub none : {end i n : ℕ} {number : Option ℕ} → Worded kind true src at end (record { place = p; number = number }) → spaces_at kind true src end ≡ Ok (i, n) → FreeRows (width token_numbers) (count s token_numbers) t (length (number_of p number)) → ⊥
  pub onward : at ≤ u.at
  pub still : Still (λ (j : ℕ). j ≡ token_numbers) (with_at s u.at) u

-- What stands behind a token is read: a number of 32 bits in kind 4, and the spacing behind it; or it fails.
module _ (kind : ℕ) (src : List ℕ) (at : ℕ) (p : Place) (end : ℕ) (quoted : Bool) (e : token_at src at ≡ Ok (p, end, quoted)) (s : State) (q : s.kind ≡ kind) (here : s.at ≡ at) (t : List ℕ) where
  -- where it fails, the position and all else that is told of the state
  behind_moves : (C : Out1 → Type 0)
      → ((i : ℕ) (u : State) (a : List ℕ) → Behind kind src at p s t i 0 u a → C (record { answer = Going; state = u; a = a }))
      → ((i n : ℕ) (u : State) (a : List ℕ) → Behind kind src at p s t i n u a → 0 < n → C (record { answer = Done; state = u; a = a }))
      → ((f : Refusal) (u : State) (a : List ℕ) → at ≤ u.at → Still (λ (j : ℕ). j ≡ token_numbers) (with_at s u.at) u → C (record { answer = Refused f; state = u; a = a }))
      → C (behind_word src true p.from p.to end Going s t)
  unfolding behind_word number_behind
  behind_moves C f g h =
      past_cases (λ (o : Out0). C (number_after o src true p.from p.to o.answer t)) src end s kind q
      (λ i x. by i x (eqb s.kind 4) refl)
      (λ i n x l. g i n (with_at s i) t (plainly i n x (parted refl (spaces_gap kind true src end i n x) l)) l)
      (λ r none. h r s t (omega arith) still_none)
    where
      plainly : (i n : ℕ) → spaces_at kind true src end ≡ Ok (i, n) → Numberless kind true src end → Behind kind src at p s t i n (with_at s i) t
      plainly i n x y = record { end = end; number = None; worded = plain e y; spaced = x; free = free_none; rows = λ z. appended_none; still = still_none }

      further : (i n : ℕ) → spaces_at kind true src end ≡ Ok (i, n) → at ≤ i
      further i n x =
          let a = word_placed src at p end quoted e in
          let b = told (Spaces src end) x (spaces kind true src end a.3) in
          omega (arith, a.0, a.1, a.2, b.0)

      number : (i : ℕ) → spaces_at kind true src end ≡ Ok (i, 0) → kind ≡ 4 → (v to : ℕ) → int_at src i ≡ Ok (v, to) → v ≤ 4294967295 → C (behind1 src true to (push_row (with_at s i) token_numbers (number_cells p.from p.to v) t))
      number i x k v to d l =
          push_cases (with_at s i) token_numbers (number_cells p.from p.to v) t (omega arith) (λ (o : Out1). C (behind1 src true to o))
          (λ u a free rows still. past_cases (λ (o : Out0). C (tied1 o a)) src to u kind (still.kind ∙ q)
          (λ j y. f j (with_at u j) a (taken j 0 y u a free rows still))
          (λ j n y m. g j n (with_at u j) a (taken j n y u a free rows still) m)
          (λ r none. h r u a (rw still.at (further i 0 x)) (still_at still u.at)))
          (λ r none. h r (with_at s i) t (further i 0 x) still_none)
        where
          taken : (j n : ℕ) → spaces_at kind true src to ≡ Ok (j, n) → (u : State) (a : List ℕ) → FreeRows (width token_numbers) (count s token_numbers) t 1
              → (count (with_count (with_at s i) token_numbers (count s token_numbers + 1)) token_numbers ≡ count s token_numbers + 1 → Appended (width token_numbers) (count s token_numbers) t (number_cells p.from p.to v ∷ []) (count u token_numbers) a)
              → Still (λ (j : ℕ). j ≡ token_numbers) (with_at s i) u → Behind kind src at p s t j n (with_at u j) a
          taken j n y u a free rows still =
              record {
                end = to;
                number = Some v;
                worded = numbered k e (spaces_gap kind true src end i 0 x) (λ z. refl) d l;
                spaced = y;
                free = free;
                rows = λ three. rows (same_high (with_at s i) token_numbers (count s token_numbers + 1) (omega arith) (rw three (omega arith)));
                still = still_at still j;
              }

      int : (i : ℕ) → spaces_at kind true src end ≡ Ok (i, 0) → kind ≡ 4 → (r : Result (ℕ × ℕ) IntError) → int_at src i ≡ r → C (number_given r src true p.from p.to (with_at s i) t)
      int i x k (Ok (v, to)) d = on_test C (ltb 4294967295 v) _ _ (λ c. h _ (with_at s i) t (further i 0 x) still_none) (λ c. number i x k v to d (ltb-false 4294967295 v c))
      int i x k (Err (NoDigits j)) d = f i (with_at s i) t (plainly i 0 x (digitless (spaces_gap kind true src end i 0 x) d))
      int i x k (Err (TooLarge j)) d = h _ (with_at s i) t (further i 0 x) still_none

      by : (i : ℕ) → spaces_at kind true src end ≡ Ok (i, 0) → (b : Bool) → eqb s.kind 4 ≡ b → C (elim b [ true ↦ number_given (int_at src i) src true p.from p.to (with_at s i) t | false ↦ record { answer = Going; state = with_at s i; a = t } ])
      by i x true c = int i x (sym q ∙ eqb-true s.kind 4 c) (int_at src i) refl
      by i x false c = f i (with_at s i) t (plainly i 0 x (elsewhere (λ z. eqb-false s.kind 4 c (q ∙ z))))

  -- a word that stands there, with spacing behind it, is read where there is room for its number
  behind_taken : {b i n : ℕ} {number : Option ℕ} → Worded kind true src at b (record { place = p; number = number }) → spaces_at kind true src b ≡ Ok (i, n) → FreeRows (width token_numbers) (count s token_numbers) t (length (number_of p number)) → Taken (behind_word src true p.from p.to end Going s t).answer
  behind_taken {b} {i} {n} {number} w y free r h = go (line_ends true n) r (sym (behind_reads src true at p end quoted e s t (rw (← q) at w) (rw (← q) at (spaces_gap kind true src b i n y)) free).0 ∙ h)
    where
      go : (b : Bool) → Taken (elim b as (λ (x : Bool). Answer) [ true ↦ Done | false ↦ Going ])
      go true = done_taken refl
      go false = going_taken refl

  pub behind_cases : (C : Out1 → Type 0)
      → ((i : ℕ) (u : State) (a : List ℕ) → Behind kind src at p s t i 0 u a → C (record { answer = Going; state = u; a = a }))
      → ((i n : ℕ) (u : State) (a : List ℕ) → Behind kind src at p s t i n u a → 0 < n → C (record { answer = Done; state = u; a = a }))
      → ((f : Refusal) (u : State) (a : List ℕ) → Fails kind src at p s t u → C (record { answer = Refused f; state = u; a = a }))
      → C (behind_word src true p.from p.to end Going s t)
  behind_cases C f g h =
      behind_moves (λ (o : Out1). (behind_word src true p.from p.to end Going s t).answer ≡ o.answer → C o) (λ i u a x z. f i u a x) (λ i n u a x l z. g i n u a x l)
      (λ r u a l x z. h r u a (record { none = λ w y free. behind_taken w y free r z; onward = l; still = x })) refl
