-- Words of a line, their numbers and the tag in front of them, where they stand and as they are read: a word is one, holds no LF, and is what the reading comes to. Assumes nothing.
use Rattle.std.specs.Prelude.{Option, Some, None, Result, Ok, Err}
use Prim.Native.Nat.{ℕ, ◌≤◌, ◌<◌}
use mathlib.Core.Path.{◌≡◌, refl, sym, ◌∙◌, ap}
use mathlib.Core.List.{List}
use mathlib.Core.Bool.{Bool, true, false, ◌||◌, false≢true}
use mathlib.Core.Logic.{⊎_elim}
use native.Mathlib.Omega.{arith}
use lib.Dec.{eqb}
use lib.ListN.{length, get_or}
use borrow.Author.Tests.{ne_eqb}
use Rattle.scan.proofs.Tuples.{ok_2, ok_3}
use Rattle.scan.specs.declared.Place.{Place}
use Rattle.scan.specs.Scan.{is_letter, is_digit, is_eol, in_class}
use Rattle.scan.proofs.Bytes.{told, le_or_lt}
use Rattle.spacing.specs.declared.SpacingError.{SpacingError}
use Rattle.spacing.specs.declared.SpacingError.TheVariants.{LineEnd, OpenComment}
use Rattle.spacing.specs.Spacing.{spaces_at}
use Rattle.spacing.proofs.Lines.{counted_iff}
use Rattle.words.specs.declared.TagError.TheVariants.{NoTag}
use Rattle.words.specs.Words.{is_quote, token_at, Tokened, IsToken, bare_token, quoted_token}
use Rattle.words.specs.Numbers.{int_at, Counted}
use Rattle.words.specs.Tags.{tag_at, Tagged}
use Rattle.words.proofs.Words.{token_placed}
use Rattle.words.proofs.Feeds.{token_no_feed}
use Rattle.words.proofs.Meaning.{token_iff, no_tag_iff, int_iff}
use Rattle.words.proofs.Numbers.{int_placed}
use Rattle.words.proofs.Tags.{tag_placed}
use Rattle.grammar.specs.State.{Passed, gap_of, gap_at, Gapped}
use Rattle.grammar.proofs.Kept.{gapped}
use Rattle.marks.specs.Worded.{ListWord, Worded, plain, numbered, headless, bare, tagged}
use Rattle.marks.proofs.Worded.{worded_one}
use Rattle.lines.specs.Line.{Alone, alone, Lead, onward, cut, Untagged, untagged, is_feed, Without}

-- spacing by its two names
module _ (kind : ℕ) (ok : Bool) (src : List ℕ) (at i n : ℕ) where
  pub gap_spaces : gap_at kind ok src at ≡ Ok (i, n) → spaces_at kind ok src at ≡ Ok (i, n)
  unfolding gap_at gap_of
  gap_spaces = go (spaces_at kind ok src at)
    where
      go : (r : Result (ℕ × ℕ) SpacingError) → gap_of r ≡ Ok (i, n) → r ≡ Ok (i, n)
      go (Ok (i', n')) e = let d = ok_2 e in rw (d.0, d.1)
      go (Err (LineEnd k)) e = let z : ◌≡◌ {A = ℕ} 0 1 = cc in absurd (omega arith)
      go (Err (OpenComment k)) e = let z : ◌≡◌ {A = ℕ} 0 1 = cc in absurd (omega arith)

  pub spaces_gap : spaces_at kind ok src at ≡ Ok (i, n) → gap_at kind ok src at ≡ Ok (i, n)
  unfolding gap_at gap_of
  spaces_gap e = rw e

-- What is known of the words of a line, whatever they are: where one lies, that it is one, and that it holds no LF;
pub record Words (src : List ℕ) (Word : ℕ → ℕ → ListWord → Type 0) : Type 0 where
  pub placed : {i end : ℕ} {w : ListWord} → Word i end w → (i ≤ w.place.from) × (w.place.from < w.place.to) × (w.place.to ≤ end) × (end ≤ length src)
  pub one : {i end end' : ℕ} {w w' : ListWord} → Word i end w → Word i end' w' → (end ≡ end') × (w ≡ w')
  pub plain : {i end : ℕ} {w : ListWord} → Word i end w → Without is_feed src i end

-- and of what leads them.
pub record Leads (src : List ℕ) (Led : ℕ → ℕ → ℕ → Option (ℕ × ℕ) → Type 0) : Type 0 where
  pub onward : {i j n : ℕ} {tag : Option (ℕ × ℕ)} → Led i j n tag → i ≤ j
  pub inside : {i j n : ℕ} {tag : Option (ℕ × ℕ)} → i ≤ length src → Led i j n tag → j ≤ length src
  pub one : {i j j' n n' : ℕ} {tag tag' : Option (ℕ × ℕ)} → Led i j n tag → Led i j' n' tag' → (j ≡ j') × (n ≡ n') × (tag ≡ tag')

module _ (src : List ℕ) where
  -- a word lies behind where it is sought
  pub word_placed : (i : ℕ) (p : Place) (end : ℕ) (quoted : Bool) → token_at src i ≡ Ok (p, end, quoted) → Tokened src i (Ok (p, end, quoted))
  word_placed i p end quoted e = told (Tokened src i) e (token_placed src i (token_at src i) refl).1

  -- and holds no LF
  token_plain : (i : ℕ) (p : Place) (end : ℕ) (quoted : Bool) → token_at src i ≡ Ok (p, end, quoted) → Without is_feed src i end
  token_plain i p end quoted e k h l = ne_eqb _ 10 (λ f. token_no_feed src i p end quoted e k h l f)

  -- avoid and implicit lists
  pub alone_words : Words src (Alone src)
  alone_words = record { placed = placed; one = one; plain = whole }
    where
      placed : {i end : ℕ} {w : ListWord} → Alone src i end w → (i ≤ w.place.from) × (w.place.from < w.place.to) × (w.place.to ≤ end) × (end ≤ length src)
      placed (alone {i} {end} {p} {quoted} e) = word_placed i p end quoted e

      one : {i end end' : ℕ} {w w' : ListWord} → Alone src i end w → Alone src i end' w' → (end ≡ end') × (w ≡ w')
      one (alone e) (alone e') = let d = ok_3 (sym e ∙ e') in (cc, cc)

      whole : {i end : ℕ} {w : ListWord} → Alone src i end w → Without is_feed src i end
      whole (alone {i} {end} {p} {quoted} e) = token_plain i p end quoted e

  pub untagged_leads : Leads src Untagged
  untagged_leads = record { onward = on; inside = inside; one = one }
    where
      on : {i j n : ℕ} {tag : Option (ℕ × ℕ)} → Untagged i j n tag → i ≤ j
      on untagged = omega arith

      inside : {i j n : ℕ} {tag : Option (ℕ × ℕ)} → i ≤ length src → Untagged i j n tag → j ≤ length src
      inside h untagged = h

      one : {i j j' n n' : ℕ} {tag tag' : Option (ℕ × ℕ)} → Untagged i j n tag → Untagged i j' n' tag' → (j ≡ j') × (n ≡ n') × (tag ≡ tag')
      one untagged untagged = (refl, refl, refl)

-- LF is a line end
pub no_end_no_feed : (c : ℕ) → is_eol c ≡ false → is_feed c ≡ false
unfolding is_eol
no_end_no_feed c e = go (eqb c 10) refl e
  where
    go : (x : Bool) → eqb c 10 ≡ x → (x || eqb c 13) ≡ false → eqb c 10 ≡ false
    go true q f = absurd (false≢true (sym f))
    go false q f = q

-- two parts that follow one another, and a part of a part
module _ (p : ℕ → Bool) (src : List ℕ) where
  pub without_on : (a b c : ℕ) → Without p src a b → Without p src b c → Without p src a c
  without_on a b c f g k h l = ⊎_elim (λ m. g k m l) (λ m. f k h m) (le_or_lt b k)

  pub without_in : (a b c d : ℕ) → a ≤ b → c ≤ d → Without p src a d → Without p src b c
  without_in a b c d h k f i l m = f i (omega arith) (omega arith)

-- precedence lines
module _ (kind : ℕ) (src : List ℕ) where
  -- spacing that counts none passes no LF
  pub gap_plain : (end k : ℕ) → spaces_at kind true src end ≡ Ok (k, 0) → Without is_feed src end k
  gap_plain end k e i l m = no_end_no_feed _ ((counted_iff kind true src end k 0 e).0 refl i l m)

  gap_to : (at i n : ℕ) → at ≤ length src → gap_at kind true src at ≡ Ok (i, n) → Gapped src at (Ok (i, n))
  gap_to at i n h e = told (Gapped src at) e (gapped kind true src at h)

  -- digits, and no LF
  int_to : (at v end : ℕ) → at ≤ length src → int_at src at ≡ Ok (v, end) → (at < end) × (end ≤ length src)
  int_to at v end h e = told (Counted src at) e (int_placed src at h (int_at src at) refl).1

  int_plain : (at v end : ℕ) → at ≤ length src → int_at src at ≡ Ok (v, end) → Without is_feed src at end
  unfolding in_class is_digit
  int_plain at v end h e k a b = ne_eqb (get_or src k 0) 10 (λ f. false≢true (rw f at (((int_iff src at end v h).0 e).digits.each k a b)))

  pub prec_words : Words src (Worded kind true src)
  prec_words = record { placed = placed; one = worded_one; plain = whole }
    where
      placed : {i end : ℕ} {w : ListWord} → Worded kind true src i end w → (i ≤ w.place.from) × (w.place.from < w.place.to) × (w.place.to ≤ end) × (end ≤ length src)
      placed (plain {i} {end} {p} {quoted} e x) = word_placed src i p end quoted e
      placed (numbered {i} {e} {j} {n} {end} {v} {p} {quoted} k t g z d b) =
          let a = word_placed src i p e quoted t in
          let c = gap_to e j n a.3 g in
          let f = int_to j v end c.1 d in
          (a.0, a.1, omega (arith, a.2, c.0, f.0), f.1)

      whole : {i end : ℕ} {w : ListWord} → Worded kind true src i end w → Without is_feed src i end
      whole (plain {i} {end} {p} {quoted} e x) = token_plain src i p end quoted e
      whole (numbered {i} {e} {j} {n} {end} {v} {p} {quoted} k t g z d b) =
          let a = word_placed src i p e quoted t in
          let c = gap_to e j n a.3 g in
          let y : n ≡ 0 = z refl in
          without_on is_feed src i e end (token_plain src i p e quoted t) (without_on is_feed src e j end (gap_plain e j (rw y at (gap_spaces kind true src e j n g))) (int_plain j v end c.1 d))

  -- nothing leads the words but in kind 4, and but where a tag stands;
  pub not_four : {i j n : ℕ} {tag : Option (ℕ × ℕ)} → (kind ≡ 4 → ⊥) → Lead kind src i j n tag → (i ≡ j) × (0 ≡ n) × (None ≡ tag)
  not_four f (onward (headless g)) = (refl, refl, refl)
  not_four f (onward (bare k w e)) = absurd (f k)
  not_four f (onward (tagged k e g z)) = absurd (f k)
  not_four f (cut k e g l) = absurd (f k)

  pub lead_none : {i j n t : ℕ} {tag : Option (ℕ × ℕ)} → tag_at src i ≡ Err (NoTag t) → Lead kind src i j n tag → (i ≡ j) × (0 ≡ n) × (None ≡ tag)
  lead_none e (onward (headless g)) = (refl, refl, refl)
  lead_none e (onward (bare k w e')) = (refl, refl, refl)
  lead_none e (onward (tagged k e' g z)) = let x : ◌≡◌ {A = ℕ} 0 1 = cc in absurd (omega arith)
  lead_none e (cut k e' g l) = let x : ◌≡◌ {A = ℕ} 0 1 = cc in absurd (omega arith)

  -- and a tag is one.
  lead_tag_lem : {i j j' n n' end : ℕ} {p : Place} {tag : Option (ℕ × ℕ)} → kind ≡ 4 → tag_at src i ≡ Ok (p, end) → gap_at kind true src end ≡ Ok (j, n) → Lead kind src i j' n' tag → (j ≡ j') × (n ≡ n') × (Some (p.from, p.to) ≡ tag)
  lead_tag_lem k e g (onward (headless f)) = absurd (f k)
  lead_tag_lem k e g (onward (bare k' w e')) = let x : ◌≡◌ {A = ℕ} 0 1 = cc in absurd (omega arith)
  lead_tag_lem {end = end} k e g (onward (tagged {end = end'} k' e' g' z)) =
      let d = ok_2 (sym e ∙ e') in
      let x : end ≡ end' = d.1 in
      let q = ok_2 (sym g ∙ (rw (sym x) at g')) in
      let y = z refl in
      (cc, cc, ap (λ (p : Place). Some (p.from, p.to)) d.0)
  lead_tag_lem {end = end} k e g (cut {end = end'} k' e' g' l) =
      let d = ok_2 (sym e ∙ e') in
      let x : end ≡ end' = d.1 in
      let q = ok_2 (sym g ∙ (rw (sym x) at g')) in
      (cc, cc, ap (λ (p : Place). Some (p.from, p.to)) d.0)

  pub prec_leads : Leads src (Lead kind src)
  prec_leads = record { onward = on; inside = inside; one = one }
    where
      behind : (i j n end : ℕ) (p : Place) → tag_at src i ≡ Ok (p, end) → gap_at kind true src end ≡ Ok (j, n) → Passed src i j
      behind i j n end p e g =
          let a = told (Tagged src i) e (tag_placed src i (tag_at src i) refl).1 in
          let c = gap_to end j n a.3 g in
          record { onward = omega (arith, a.0, a.1, a.2, c.0); inside = c.1 }

      on : {i j n : ℕ} {tag : Option (ℕ × ℕ)} → Lead kind src i j n tag → i ≤ j
      on (onward (headless f)) = omega arith
      on (onward (bare k w e)) = omega arith
      on (onward (tagged {i} {end} {j} {n} {p} k e g z)) = (behind i j n end p e g).onward
      on (cut {i} {end} {j} {n} {p} k e g l) = (behind i j n end p e g).onward

      inside : {i j n : ℕ} {tag : Option (ℕ × ℕ)} → i ≤ length src → Lead kind src i j n tag → j ≤ length src
      inside h (onward (headless f)) = h
      inside h (onward (bare k w e)) = h
      inside h (onward (tagged {i} {end} {j} {n} {p} k e g z)) = (behind i j n end p e g).inside
      inside h (cut {i} {end} {j} {n} {p} k e g l) = (behind i j n end p e g).inside

      one : {i j j' n n' : ℕ} {tag tag' : Option (ℕ × ℕ)} → Lead kind src i j n tag → Lead kind src i j' n' tag' → (j ≡ j') × (n ≡ n') × (tag ≡ tag')
      one (onward (headless f)) y = not_four f y
      one (onward (bare k w e)) y = lead_none e y
      one (onward (tagged {n = n} k e g z)) y = let x : n ≡ 0 = z refl in lead_tag_lem k e (rw x at g) y
      one (cut k e g l) y = lead_tag_lem k e g y

  -- where a word stands, no tag leads it
  pub word_untagged : {i j n end : ℕ} {p : Place} {quoted : Bool} {tag : Option (ℕ × ℕ)} → token_at src i ≡ Ok (p, end, quoted) → Lead kind src i j n tag → (i ≡ j) × (0 ≡ n) × (None ≡ tag)
  unfolding in_class is_letter is_quote
  word_untagged {i} {j} {n} {end} {p} {quoted} e x = lead_none ((no_tag_iff src i i).1 (refl, λ f. opens f ((token_iff src i p end quoted).0 e))) x
    where
      opens : {p : Place} {end : ℕ} {quoted : Bool} → get_or src i 0 ≡ 60 → IsToken src i p end quoted → ⊥
      opens f (bare_token w) = false≢true (rw f at w.begins)
      opens f (quoted_token w) = false≢true (rw f at w.opens)
