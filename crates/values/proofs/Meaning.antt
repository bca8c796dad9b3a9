-- What the value of an `%epp` row is without a scan: the quoted text without its escapes, written in full or not at all. Assumes nothing.
use Rattle.std.specs.Prelude.{Option, Some, None, Result, Ok, Err}
use Prim.Native.Nat.{ℕ, ◌+◌, ◌-◌, ◌≤◌, ◌<◌}
use mathlib.Core.Path.{◌≡◌, refl, sym, ap, ◌∙◌}
use mathlib.Core.List.{List, [], ◌∷◌, ◌++◌}
use mathlib.Core.Bool.{Bool, true, false, false≢true}
use native.Mathlib.Omega.{arith}
use lib.Dec.{eqb, leb, ltb}
use lib.ListN.{length, get_or, take, drop, replicate, take-append-drop}
use lib.Seq.{slice, take-add, take-append_seam, drop_at, drop-append-le, get_or-drop, get_or-append_seam, length-take-le, length-slice}
use borrow.Author.Tests.{eqb-true, eqb-false, eq-eqb, ne_eqb, leb-false, le-leb}
use Rattle.scan.proofs.Tuples.{some_2}
use Rattle.scan.specs.Scan.{is_eol}
use Rattle.scan.proofs.Bytes.{on_test, drop_key}
use Rattle.words.specs.declared.QuoteError.{QuoteError}
use Rattle.words.specs.declared.QuoteError.TheVariants.{NotOpened, LineInside, BadEscape, NotClosed}
use Rattle.words.specs.Words.{is_quote}
use Rattle.words.specs.Strings.{Mode, plain as bare, escape, string, string_from, string_at}
use Rattle.words.proofs.Strings.{string_opens, string_placed}
use Rattle.tables.specs.Table.{cell, zeroed}
use Rattle.tables.specs.Layout.{epps, value, width}
use Rattle.grammar.specs.declared.Counts.{Counts}
use Rattle.grammar.specs.declared.Singles.{Singles}
use Rattle.grammar.specs.Sound.{Tables, Indexes}
use Rattle.sound.specs.Test.{count_at, sound_test}
use Rattle.values.specs.Value.{valuation_numbers, plain, Spells, empty, byte, escaped, IsString, text_to, text_by, text_at, Valued, fitted, text_value, epp_value}
use Rattle.values.specs.Allowed.{Allowed, ValueAt, ValueIs}
use Rattle.values.proofs.Laws.{closed_inside, text_whole, value_text}

-- two constructors are never equal
clash : ◌≡◌ {A = ℕ} 0 1 → ⊥
clash z = omega arith

-- a quote is no backslash
quote_no_escape : (c : ℕ) → is_quote c ≡ true → c ≡ 92 → ⊥
unfolding is_quote
quote_no_escape c e f = false≢true (rw f at e)

-- What is spelled is the text without its backslashes.
pub spells_plain : {q : ℕ} {t v : List ℕ} → Spells q t v → v ≡ plain t
unfolding plain
spells_plain empty = refl
spells_plain (byte {c} f e g s) = rw (plain, ne_eqb c 92 g) (ap (λ (x : List ℕ). c ∷ x) (spells_plain s))
spells_plain (escaped {c} e s) = rw (plain, ne_eqb c 92 (quote_no_escape c e)) (ap (λ (x : List ℕ). c ∷ x) (spells_plain s))

-- parts of a source: up to an index, and one byte at it
module _ (s : List ℕ) (f n : ℕ) where
  part_of : (t rest : List ℕ) → f ≤ length s → drop f s ≡ t ++ rest → n ≡ f + length t → slice f n s ≡ t
  part_of t rest h e k =
      rw (k, take-add f (length t) s)
      (drop_at (take f s) (take (length t) (drop f s)) f (length-take-le f s h) ∙ rw e (take-append_seam t rest))

  part_cut : (q : ℕ) → f ≤ n → n < length s → get_or s n 0 ≡ q → drop f s ≡ slice f n s ++ q ∷ drop (n + 1) s
  part_cut q h k e =
      let l : length (take n s) ≡ n = length-take-le n s (omega arith) in
      ap (λ (x : List ℕ). drop f x) (sym (take-append-drop n s)) ∙ drop-append-le f (take n s) (drop n s) (rw l h) ∙ rw (drop_key s n q k e)

-- what was scanned up to its own quote, and behind a backslash
record Scanned (q : ℕ) (l : List ℕ) (i to : ℕ) : Type 0 where
  text : List ℕ
  rest : List ℕ
  is : l ≡ text ++ q ∷ rest
  ends : to ≡ i + length text + 1
  spells : Spells q text (plain text)

record Behind (q : ℕ) (l : List ℕ) (i to : ℕ) : Type 0 where
  first : ℕ
  more : List ℕ
  is : l ≡ first ∷ more
  quote : is_quote first ≡ true
  scanned : Scanned q more (i + 1) to

module _ (q to : ℕ) where
  abbrev Got : Mode → List ℕ → ℕ → Type 0
  Got bare l i = Scanned q l i to
  Got (escape b) l i = Behind q l i to

  scan_closed : (c : ℕ) (cs : List ℕ) (i : ℕ) → c ≡ q → i + 1 ≡ to → Scanned q (c ∷ cs) i to
  unfolding plain
  scan_closed c cs i e k = record { text = []; rest = cs; is = rw e; ends = omega arith; spells = empty }

  scan_byte : (c : ℕ) (cs : List ℕ) (i : ℕ) → (c ≡ q → ⊥) → is_eol c ≡ false → (c ≡ 92 → ⊥) → Scanned q cs (i + 1) to → Scanned q (c ∷ cs) i to
  unfolding plain
  scan_byte c cs i f e g r =
      let k = r.ends in
      record { text = c ∷ r.text; rest = r.rest; is = ap (λ (x : List ℕ). c ∷ x) r.is; ends = omega arith; spells = rw (plain, ne_eqb c 92 g) (byte f e g r.spells) }

  scan_escape : (c : ℕ) (cs : List ℕ) (i : ℕ) → c ≡ 92 → Behind q cs (i + 1) to → Scanned q (c ∷ cs) i to
  unfolding plain
  scan_escape c cs i e b =
      let r = b.scanned in
      let k = r.ends in
      let g = ne_eqb b.first 92 (quote_no_escape b.first b.quote) in
      record {
        text = 92 ∷ b.first ∷ r.text;
        rest = r.rest;
        is = rw (e, b.is) (ap (λ (x : List ℕ). 92 ∷ b.first ∷ x) r.is);
        ends = omega arith;
        spells = rw (plain, g) (escaped b.quote r.spells);
      }

  scan : (l : List ℕ) (mode : Mode) (i : ℕ) → string q mode l i ≡ Ok to → Got mode l i
  unfolding string
  scan [] bare i e = absurd (clash (cc))
  scan [] (escape b) i e = absurd (clash (cc))
  scan (c ∷ cs) bare i z =
      on_test Is (eqb c q) _ _ (λ t e. scan_closed c cs i (eqb-true c q t) (cc))
      (λ f. on_test Is (is_eol c) _ _ (λ t e. absurd (clash (cc)))
      (λ g. on_test Is (eqb c 92) _ _ (λ t e. scan_escape c cs i (eqb-true c 92 t) (scan cs (escape i) (i + 1) e))
      (λ t e. scan_byte c cs i (eqb-false c q f) g (eqb-false c 92 t) (scan cs bare (i + 1) e)))) z
    where
      Is : Result ℕ QuoteError → Type 0
      Is r = r ≡ Ok to → Scanned q (c ∷ cs) i to
  scan (c ∷ cs) (escape b) i z =
      on_test Is (is_quote c) _ _ (λ t e. record { first = c; more = cs; is = refl; quote = t; scanned = scan cs bare (i + 1) e }) (λ t e. absurd (clash (cc))) z
    where
      Is : Result ℕ QuoteError → Type 0
      Is r = r ≡ Ok to → Behind q (c ∷ cs) i to

  -- a backslash, and what may stand behind it
  run_backslash : (cs : List ℕ) (i : ℕ) → eqb 92 q ≡ false → string q bare (92 ∷ cs) i ≡ string q (escape i) cs (i + 1)
  unfolding string is_eol
  run_backslash cs i n = rw (string, n)

  run_behind : (c : ℕ) (cs : List ℕ) (b i : ℕ) → is_quote c ≡ true → string q (escape b) (c ∷ cs) i ≡ string q bare cs (i + 1)
  unfolding string
  run_behind c cs b i e = rw (string, e)

  -- and the other way
  run : {t v : List ℕ} (rest : List ℕ) (i : ℕ) → is_quote q ≡ true → Spells q t v → to ≡ i + length t + 1 → string q bare (t ++ q ∷ rest) i ≡ Ok to
  unfolding string is_eol
  run rest i o empty k = rw (string, eq-eqb q q refl) (ap Ok (omega arith))
  run rest i o (byte {c} f e g s) k = rw (string, ne_eqb c q f, e, ne_eqb c 92 g) (run rest (i + 1) o s (omega arith))
  run rest i o (escaped {c} {t} e s) k = run_backslash (c ∷ t ++ q ∷ rest) i (ne_eqb 92 q (λ z. quote_no_escape q o (sym z))) ∙ run_behind c (t ++ q ∷ rest) i (i + 1) e ∙ run rest (i + 1 + 1) o s (omega arith)

module _ (src : List ℕ) (from to : ℕ) where
  -- A string is read exactly where one stands, and spells its text without the backslashes.
  pub string_spells : string_at src from ≡ Ok to → IsString src from to (plain (slice (from + 1) (to - 1) src))
  unfolding string_at string_from
  string_spells z =
      on_test Is (leb (length src) from) _ _ (λ f e. absurd (clash (cc)))
      (λ f. on_test Is (is_quote (get_or src from 0)) _ _ (λ t e. here (leb-false _ _ f) t (scan (get_or src from 0) to (drop (from + 1) src) bare (from + 1) e)) (λ t e. absurd (clash (cc)))) z
    where
      Is : Result ℕ QuoteError → Type 0
      Is r = r ≡ Ok to → IsString src from to (plain (slice (from + 1) (to - 1) src))

      here : from < length src → is_quote (get_or src from 0) ≡ true → Scanned (get_or src from 0) (drop (from + 1) src) (from + 1) to → IsString src from to (plain (slice (from + 1) (to - 1) src))
      here h o r =
          let i = closed_inside src from _ to (string_placed src from _ refl).1 z in
          let k = r.ends in
          let n : to - 1 ≡ from + 1 + length r.text = omega arith in
          let p : slice (from + 1) (to - 1) src ≡ r.text = part_of src (from + 1) (to - 1) r.text _ (omega arith) r.is n in
          record {
            onward = i.0;
            inside = i.1;
            opens = o;
            closes = rw n (sym (get_or-drop (from + 1) src (length r.text) 0) ∙ ap (λ (x : List ℕ). get_or x (length r.text) 0) r.is ∙ get_or-append_seam r.text (get_or src from 0) r.rest 0);
            spells = rw p r.spells;
          }

  pub spells_string : (v : List ℕ) → IsString src from to v → string_at src from ≡ Ok to
  unfolding string_from
  spells_string v x =
      let a = x.onward in
      let b = x.inside in
      let h : from < length src = omega arith in
      let l = length-slice (from + 1) (to - 1) src (omega arith) in
      sym (string_opens src from true h (sym x.opens) refl)
      ∙ rw (part_cut src (from + 1) (to - 1) (get_or src from 0) (omega arith) (omega arith) x.closes)
      (run (get_or src from 0) to (drop (to - 1 + 1) src) (from + 1) x.opens x.spells (omega arith))

  -- a text is that of a whole string
  text_string : (a b : ℕ) (r : Result ℕ QuoteError) → text_by r from to ≡ Some (a, b) → (r ≡ Ok to) × (a ≡ from + 1) × (b ≡ to - 1)
  text_string a b (Ok end) e = go (eqb end to) refl e
    where
      go : (t : Bool) → eqb end to ≡ t → text_to t from end ≡ Some (a, b) → (◌≡◌ {A = Result ℕ QuoteError} (Ok end) (Ok to)) × (a ≡ from + 1) × (b ≡ to - 1)
      go true t e =
          let k = eqb-true end to t in
          let d = some_2 e in
          (ap Ok k, sym d.0, omega arith)
      go false t e = absurd (clash (cc))
  text_string a b (Err (NotOpened k)) e = absurd (clash (cc))
  text_string a b (Err (LineInside k)) e = absurd (clash (cc))
  text_string a b (Err (BadEscape k)) e = absurd (clash (cc))
  text_string a b (Err (NotClosed k)) e = absurd (clash (cc))

module _ (src : List ℕ) (c : Counts) (g : Singles) (T : Tables) (X : Indexes) (row : ℕ) (out : List ℕ) where
  abbrev start : ℕ
  start = cell (width epps) T.t5 row value

  abbrev end : ℕ
  end = cell (width epps) T.t5 row (value + 1)

  -- The value that is written is the quoted text without its escapes, with zeros behind it.
  pub value_is : (n : ℕ) → (epp_value src c g T X row out).answer ≡ Ok n → ValueIs src T.t5 row out n (epp_value src c g T X row out).out
  unfolding epp_value text_at
  value_is n =
      on_test Is (sound_test src c g T X) _ _
      (λ s. on_test Is (ltb row (count_at c epps)) _ _ (λ l. text (text_at src T.t5 row) refl) (λ l e. absurd (clash (cc))))
      (λ s e. absurd (clash (cc)))
    where
      Is : Valued → Type 0
      Is o = o.answer ≡ Ok n → ValueIs src T.t5 row out n o.out

      fits : (v : List ℕ) (b : Bool) → ValueAt src T.t5 row v → Is (fitted b v out)
      fits v true x e = record { text = v; there = x; count = sym (cc); cells = refl }
      fits v false x e = absurd (clash (cc))

      text : (t : Option (ℕ × ℕ)) → text_at src T.t5 row ≡ t → Is (text_value t src out)
      text (Some (a, b)) e k =
          let s = text_string src start end a b (string_at src start) e in
          let x : ValueAt src T.t5 row (plain (slice a b src)) = rw (s.1, s.2) (string_spells src start end s.0) in
          fits (plain (slice a b src)) (leb (length (plain (slice a b src))) (length out)) x k
      text None e k = absurd (clash (cc))

  -- after any other answer the text out is all zeros
  pub value_refused : ((n : ℕ) → (epp_value src c g T X row out).answer ≡ Ok n → ⊥) → (epp_value src c g T X row out).out ≡ zeroed out
  unfolding epp_value
  value_refused =
      on_test Is (sound_test src c g T X) _ _
      (λ s. on_test Is (ltb row (count_at c epps)) _ _ (λ l. text (text_at src T.t5 row)) (λ l e. refl))
      (λ s e. refl)
    where
      Is : Valued → Type 0
      Is o = ((n : ℕ) → o.answer ≡ Ok n → ⊥) → o.out ≡ zeroed out

      fits : (v : List ℕ) (b : Bool) → Is (fitted b v out)
      fits v true f = absurd (f (length v) refl)
      fits v false f = refl

      text : (t : Option (ℕ × ℕ)) → Is (text_value t src out)
      text (Some (a, b)) f = fits (plain (slice a b src)) (leb (length (plain (slice a b src))) (length out)) f
      text None f = refl

  -- Any two outcomes that the contract allows are equal.
  pub valued_one : (o p : Valued) → Allowed src c g T X row out o → Allowed src c g T X row out p → o ≡ p
  valued_one o p e h = e ∙ sym h

  module _ (s : sound_test src c g T X ≡ true) (l : row < count_at c epps) where
    at_string : string_at src start ≡ Ok end → epp_value src c g T X row out ≡ text_value (Some (start + 1, end - 1)) src out
    at_string e =
        sym (value_text src c g T X row out true (sym s) refl _ refl l _ (text_whole src T.t5 row start end refl refl _ refl end e refl) _ refl)

    -- Where a string stands at a row's value, and there is room for what it spells, that is written.
    pub value_there : (v : List ℕ) → ValueAt src T.t5 row v → length v ≤ length out → epp_value src c g T X row out ≡ record { answer = Ok (length v); out = v ++ replicate (length out - length v) 0 }
    value_there v x h =
        let p : plain (slice (start + 1) (end - 1) src) ≡ v = sym (spells_plain x.spells) in
        at_string (spells_string src start end v x) ∙ rw (p, le-leb (length v) (length out) h)

    -- A value whose place is that of a string is never refused as unsound.
    pub value_not_44 : string_at src start ≡ Ok end → get_or (valuation_numbers (epp_value src c g T X row out).answer) 0 0 ≡ 44 → ⊥
    value_not_44 e k = fits v (leb (length v) (length out)) (rw (at_string e) at k)
      where
        v : List ℕ
        v = plain (slice (start + 1) (end - 1) src)

        fits : (v : List ℕ) (b : Bool) → get_or (valuation_numbers (fitted b v out).answer) 0 0 ≡ 44 → ⊥
        fits v true k = omega arith
        fits v false k = omega arith
