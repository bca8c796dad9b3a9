-- Words of lists, in one source and in another where their bytes stand. Assumes nothing.
use Rattle.std.specs.Prelude.{Ok, Err}
use Prim.Native.Nat.{ℕ, suc, ◌+◌, ◌-◌, ◌≤◌, ◌<◌}
use mathlib.Core.Path.{◌≡◌, refl, sym, ◌∙◌, ap}
use mathlib.Core.List.{List, [], ◌∷◌, ◌++◌}
use mathlib.Core.Bool.{Bool, true, false}
use mathlib.Core.Logic.{◌⊎◌, inl, inr}
use native.Mathlib.Omega.{arith}
use lib.Dec.{eqb}
use lib.ListN.{length, get_or, drop}
use lib.Seq.{slice, length-slice, slice-cons}
use borrow.Author.Tests.{eqb-true, lt-leb}
use Rattle.scan.specs.declared.Place.{Place}
use Rattle.scan.specs.declared.Class.TheVariants.{NameStart}
use Rattle.scan.specs.Scan.{in_class, is_letter, is_digit}
use Rattle.scan.proofs.Bytes.{told}
use Rattle.words.specs.Words.{is_quote, word_at, named, name_at, token_at, Named, Tokened}
use Rattle.words.proofs.Words.{name_placed, token_placed}
use Rattle.words.proofs.Meaning.{quoted_iff}
use Rattle.grammar.specs.Cells.{kind_cells}
use Rattle.grammar.specs.State.{Gapped, gap_at}
use Rattle.grammar.proofs.Kept.{gapped}
use Rattle.lists.specs.declared.WordList.{WordList}
use Rattle.lists.specs.declared.WordList.TheVariants.{TokenList, UnusedList, TypeList}
use Rattle.lists.specs.Written.{UnusedWord, rule, quote as quoted}
use Rattle.alike.specs.Stands.{Breaks}
use Rattle.alike.proofs.Agree.{Agree, agree_slice, slice_agree, name_move}
use Rattle.alike.proofs.Tokens.{Shape, plain, quote, shape, token_move}
use Rattle.alike.proofs.Front.{Front, either, token_begins, name_begins}
use Rattle.alike.proofs.Again.{behind, breaks_token, breaks_name, token_lies, spelled_front, word_again}
use Rattle.printed.specs.Print.{words}
use Rattle.printed.specs.Stands.{UnusedAt, WordAt, Unused2, Words2}

-- what stands behind a shipped word ends it
pub words_break : (xs : List (List ℕ)) (rest : List ℕ) → Breaks (words xs ++ (10 ∷ rest))
unfolding words in_class is_letter is_digit
words_break [] rest = (refl, refl)
words_break (x ∷ xs) rest = (refl, refl)

-- no name begins with a quote
quote_no : (c : ℕ) → is_quote c ≡ true → in_class NameStart c ≡ false
unfolding is_quote in_class is_letter
quote_no c h = go (either _ _ h)
  where
    go : (eqb c 34 ≡ true) ⊎ (eqb c 39 ≡ true) → in_class NameStart c ≡ false
    go (inl e) = rw (eqb-true c 34 e)
    go (inr e) = rw (eqb-true c 39 e)

no_name : (s : List ℕ) (i : ℕ) → i < length s → in_class NameStart (get_or s i 0) ≡ false → name_at s i ≡ Err i
unfolding name_at named word_at
no_name s i h b = rw (lt-leb (length s) i h, b, word_at)

quoted_opens : (s : List ℕ) (i e : ℕ) (p : Place) → token_at s i ≡ Ok (p, e, true) → is_quote (get_or s i 0) ≡ true
quoted_opens s i e p h = go p e true (shape s i p e true h) h refl
  where
    go : (p : Place) (e : ℕ) (q : Bool) → Shape i p e q → token_at s i ≡ Ok (p, e, q) → q ≡ true → is_quote (get_or s i 0) ≡ true
    go _ _ _ (plain to) h z = let c : ◌≡◌ {A = ℕ} 0 1 = cc in absurd (omega arith)
    go _ _ _ (quote to) h z = ((quoted_iff s i to).0 h).opens

-- where a word of `%expect-unused` lies
unused_lies : (s : List ℕ) (i e : ℕ) (row : List ℕ) → UnusedWord s i e row → (i < e) × (e ≤ length s)
unused_lies s i e row (rule h) = told (Named s i) h (name_placed s i (name_at s i) refl).1
unused_lies s i e row (quoted {p = p} n h) =
    let y : Tokened s i (Ok (p, e, true)) = told (Tokened s i) h (token_placed s i (token_at s i) refl).1 in
    let a = y.0 in
    let b = y.1 in
    let c = y.2 in
    (omega arith, y.3)

unused_begins : (s : List ℕ) (i e : ℕ) (row : List ℕ) → UnusedWord s i e row → Front (get_or s i 0)
unused_begins s i e row (rule h) = name_begins s i e h
unused_begins s i e row (quoted {p = p} n h) = token_begins s i e p true h

unused_again : (src out : List ℕ) (i e j : ℕ) (x r : List ℕ) (w : UnusedAt src i e x) → drop j out ≡ x ++ r → j ≤ length out → Breaks r → Unused2 src out i e j (j + length x) x
unused_again src out i e j x r w q h b = go w.row w.is refl
  where
    m : ℕ
    m = length x

    lies : (i < e) × (e ≤ length src)
    lies = unused_lies src i e w.row w.is

    to : i + m ≡ e
    to = let a = lies.0 in let l = lies.1 in let n : m ≡ e - i = sym (ap length w.spelled) ∙ length-slice i e src l in omega arith

    agree : Agree src out i j m
    agree = let l = lies.1 in agree_slice src out i m j r (rw to l) (rw (to, w.spelled) q) h

    bytes : slice i e src ≡ slice j (j + m) out
    bytes = let a = lies.0 in let t = to in slice_agree src out i j m i e j (j + m) agree (omega arith) (omega arith) (omega arith) (omega arith) (omega arith)

    go : (row : List ℕ) → UnusedWord src i e row → w.row ≡ row → Unused2 src out i e j (j + m) x
    go row (rule n) z =
        let a = lies.0 in
        let l = lies.1 in
        let d = agree.there in
        record {
          here = record { row = kind_cells 1 i e; is = rule n; spelled = w.spelled };
          there = record { row = kind_cells 1 j (j + m); is = rule (name_move src out i j m agree (rw to n) (λ k. breaks_name out (j + m) r (behind out j x r q) b k)); spelled = sym bytes ∙ w.spelled };
          same = (refl, (record { here = (omega arith, l); there = (omega arith, d); bytes = bytes }, tt));
        }
    go row (quoted {p = p} n t) z =
        let a = lies.0 in
        let l = lies.1 in
        let d = agree.there in
        let u = to in
        let y = token_move src out i j m agree p true (rw to t) (λ k. breaks_token out (j + m) r (behind out j x r q) b k) in
        let c = agree.same i j (omega arith) (omega arith) (omega arith) in
        record {
          here = record { row = kind_cells 2 p.from p.to; is = quoted n t; spelled = w.spelled };
          there = record { row = kind_cells 2 y.place.from y.place.to; is = quoted (no_name out j (omega arith) (quote_no _ (told (λ (v : ℕ). is_quote v ≡ true) c (quoted_opens src i e p t)))) y.is; spelled = sym bytes ∙ w.spelled };
          same = (refl, (y.same, tt));
        }

-- a word of either list: where it lies, how it begins, that it is read again, and what it is there
pub word_lies : (what : WordList) (s : List ℕ) (i e : ℕ) (x : List ℕ) → WordAt what s i e x → (i < e) × (e ≤ length s)
word_lies TokenList s i e x w = let y = token_lies s i e x w in let a = y.0 in let b = y.1 in let c = y.2 in (omega arith, y.3)
word_lies UnusedList s i e x w = unused_lies s i e w.row w.is
word_lies TypeList s i e x w = absurd w

pub word_front : (what : WordList) (s : List ℕ) (i e : ℕ) (x : List ℕ) → WordAt what s i e x → (c : ℕ) × (cs : List ℕ) × (x ≡ c ∷ cs) × Front c
word_front TokenList s i e x w = spelled_front s i e x w
word_front UnusedList s i e x w =
    let y = unused_lies s i e w.row w.is in
    (get_or s i 0, slice (suc i) e s, sym w.spelled ∙ slice-cons i e s 0 y.0 y.1, unused_begins s i e w.row w.is)
word_front TypeList s i e x w = absurd w

pub words_again : (what : WordList) (src out : List ℕ) (i e j : ℕ) (x r : List ℕ) → WordAt what src i e x → drop j out ≡ x ++ r → j ≤ length out → Breaks r → Words2 what src out i e j (j + length x) x
words_again TokenList src out i e j x r w q h b = let t = word_again src out i e j x r w q h b in record { here = w; there = t.there; same = t.same }
words_again UnusedList src out i e j x r w q h b = unused_again src out i e j x r w q h b
words_again TypeList src out i e j x r w q h b = absurd w

abbrev pub word_here : (what : WordList) (src out : List ℕ) (i e j f : ℕ) (x : List ℕ) → Words2 what src out i e j f x → WordAt what src i e x
word_here TokenList src out i e j f x w = w.here
word_here UnusedList src out i e j f x w = w.here
word_here TypeList src out i e j f x w = absurd w

abbrev pub word_there : (what : WordList) (src out : List ℕ) (i e j f : ℕ) (x : List ℕ) → Words2 what src out i e j f x → WordAt what out j f x
word_there TokenList src out i e j f x w = w.there
word_there UnusedList src out i e j f x w = w.there
word_there TypeList src out i e j f x w = absurd w

-- a word and the spacing behind it go onward
pub word_further : (what : WordList) (kind : ℕ) (s : List ℕ) (i e m n : ℕ) (x : List ℕ) → WordAt what s i e x → gap_at kind true s e ≡ Ok (m, n) → (i < m) × (m ≤ length s)
word_further what kind s i e m n x w g =
    let y = word_lies what s i e x w in
    let z : Gapped s e (Ok (m, n)) = told (Gapped s e) g (gapped kind true s e y.1) in
    let a = y.0 in
    let b = z.0 in
    (omega arith, z.1)
