-- What names, tokens, tags and integers are without a scan: the scan answers a place exactly where one stands. Assumes nothing.
use Rattle.std.specs.Prelude.{Option, Some, None, Result, Ok, Err}
use Prim.Native.Nat.{ℕ, ◌+◌, ◌^◌, ◌≤◌, ◌<◌}
use mathlib.Core.Path.{◌≡◌, refl, sym, ◌∙◌}
use mathlib.Core.List.{List}
use mathlib.Core.Bool.{Bool, true, false, ◌||◌, ◌&&◌, false≢true}
use mathlib.Core.Logic.{◌↔◌}
use native.Mathlib.Omega.{arith}
use native.Mathlib.Decide.{ℕ_discrete}
use lib.Dec.{leb, ltb, eqb}
use lib.ListN.{length, get_or}
use borrow.Author.Tests.{leb-false, ltb-true, eqb-true, eqb-false, eq-eqb, ne_eqb}
use Rattle.scan.proofs.Tuples.{ok_2}
use Rattle.scan.specs.declared.Place.{Place}
use Rattle.scan.specs.declared.Class.{Class}
use Rattle.scan.specs.declared.Class.TheVariants.{NameStart, NameByte, TokenStart, TokenByte, Digit, Unquoted, TagByte}
use Rattle.scan.specs.Scan.{is_at, is_letter, is_digit, is_eol, in_class, run_end_at, Runs}
use Rattle.scan.proofs.Bytes.{on_test, told, within_true, at_true, at_here, at_yes}
use Rattle.scan.proofs.Runs.{run_is, run_one}
use Rattle.words.specs.Words.{word_at, named, name_at, is_quote, found, closed, quoted_at, bare, token_at, IsWord, IsQuoted, IsToken, bare_token, quoted_token}
use Rattle.words.specs.Tags.{tag_closed, tag_at, IsTag}
use Rattle.words.specs.Numbers.{decimal_at, counted, int_at, IsInt}
use Rattle.words.specs.declared.TagError.{TagError}
use Rattle.words.specs.declared.TagError.TheVariants.{OpenTag, NoTag}
use Rattle.words.specs.declared.IntError.{IntError}
use Rattle.words.proofs.Words.{word_to, quoted_found_lem, token_quoted, token_bare}
use Rattle.words.proofs.Numbers.{int_value}

-- two constructors are never equal
clash : ◌≡◌ {A = ℕ} 0 1 → ⊥
clash z = omega arith

module _ (first rest : Class) (s : List ℕ) (from to : ℕ) where
  word_is : word_at first rest s from ≡ Some to → IsWord first rest s from to
  unfolding word_at
  word_is =
      on_test Is (leb (length s) from) _ _ (λ f q. absurd (clash (cc)))
      (λ f. on_test Is (in_class first (get_or s from 0)) _ _ (λ t q. here (leb-false _ _ f) t (cc)) (λ t q. absurd (clash (cc))))
    where
      Is : Option ℕ → Type 0
      Is w = w ≡ Some to → IsWord first rest s from to

      here : from < length s → in_class first (get_or s from 0) ≡ true → run_end_at (in_class rest) s (from + 1) ≡ to → IsWord first rest s from to
      here h t e = record { inside = h; begins = t; goes_on = rw e at (run_is (in_class rest) s (from + 1) (omega arith)) }

  is_word : IsWord first rest s from to → word_at first rest s from ≡ Some to
  is_word x =
      let h = x.inside in
      sym (word_to first rest s from true h (sym x.begins) to refl (run_one (in_class rest) s (from + 1) _ _ x.goes_on (run_is (in_class rest) s (from + 1) (omega arith))))

module _ (s : List ℕ) (from to : ℕ) where
  -- A name is read exactly where one stands: its first byte and each further one of the right class, the next byte not.
  pub name_iff : (name_at s from ≡ Ok to) ↔ IsWord NameStart NameByte s from to
  unfolding name_at named
  name_iff = (λ e. word_is NameStart NameByte s from to (back (word_at NameStart NameByte s from) e), λ x. rw (is_word NameStart NameByte s from to x))
    where
      back : (w : Option ℕ) → named from w ≡ Ok to → w ≡ Some to
      back (Some j) e = cc
      back None e = absurd (clash (cc))

  start_no_quote : (c : ℕ) → in_class TokenStart c ≡ true → is_quote c ≡ false
  unfolding in_class is_letter is_quote
  start_no_quote c t = go (high (is_letter c) (eqb c 95) refl refl t)
    where
      high : (x y : Bool) → is_letter c ≡ x → eqb c 95 ≡ y → (x || y) ≡ true → 65 ≤ c
      high true y d e t = upper (leb 65 c && leb c 90) (leb 97 c && leb c 122) refl refl d
        where
          upper : (u v : Bool) → (leb 65 c && leb c 90) ≡ u → (leb 97 c && leb c 122) ≡ v → (u || v) ≡ true → 65 ≤ c
          upper true v m n o = (within_true 65 90 c m).0
          upper false true m n o = let z = (within_true 97 122 c n).0 in omega arith
          upper false false m n o = absurd (clash (cc))
      high false true d e t = let z = eqb-true c 95 e in omega arith
      high false false d e t = absurd (clash (cc))

      go : 65 ≤ c → (eqb c 34 || eqb c 39) ≡ false
      go h = rw (ne_eqb c 34 (λ e. omega arith), ne_eqb c 39 (λ e. omega arith))

  bare_found_lem : IsWord TokenStart TokenByte s from to → token_at s from ≡ found from to to false
  bare_found_lem x = sym (token_bare s from false x.inside (sym (start_no_quote _ x.begins)) refl _ refl to (is_word TokenStart TokenByte s from to x))

  quote_found : IsQuoted s from to → token_at s from ≡ found (from + 1) to (to + 1) true
  quote_found x =
      let h = x.inside in
      let k = x.goes_on.onward in
      let b : is_at (get_or s from 0) s to ≡ true = sym (at_here s to (get_or s from 0) h) ∙ eq-eqb _ _ x.closes in
      sym
      (token_quoted s from true (omega arith) (sym x.opens) _ refl
      (quoted_found_lem (get_or s from 0) s from (omega arith) x.first to (run_one (in_class (Unquoted (get_or s from 0))) s (from + 1 + 1) _ _ x.goes_on (run_is (in_class (Unquoted (get_or s from 0))) s (from + 1 + 1) (omega arith))) true (sym b) refl))

module _ (s : List ℕ) (from : ℕ) where
  -- what the answer tells
  abbrev Told : Result (Place × ℕ × Bool) ℕ → Type 0
  Told (Ok (p, end, quoted)) = IsToken s from p end quoted
  Told (Err i) = i ≡ from

  tells : Told (token_at s from)
  unfolding token_at quoted_at closed bare
  tells =
      on_test Told (leb (length s) from) _ _ (λ f. refl)
      (λ f. on_test Told (is_quote (get_or s from 0)) _ _
      (λ t. on_test Told (leb (length s) (from + 1)) _ _ (λ n. refl)
      (λ n. on_test Told (eqb (get_or s (from + 1) 0) 10) _ _ (λ l. refl)
      (λ l. on_test Told (is_at (get_or s from 0) s to) _ _ (λ c. quoted_token (quoted t (leb-false _ _ n) (eqb-false _ _ l) (at_true s to _ c))) (λ c. refl))))
      (λ t. go (word_at TokenStart TokenByte s from) refl))
    where
      to : ℕ
      to = run_end_at (in_class (Unquoted (get_or s from 0))) s (from + 1 + 1)

      quoted : is_quote (get_or s from 0) ≡ true → from + 1 < length s → (get_or s (from + 1) 0 ≡ 10 → ⊥) → (to < length s) × (get_or s to 0 ≡ get_or s from 0) → IsQuoted s from to
      quoted t h l c = record { opens = t; first = l; goes_on = run_is (in_class (Unquoted (get_or s from 0))) s (from + 1 + 1) (omega arith); closes = c.1; inside = c.0 }

      go : (w : Option ℕ) → word_at TokenStart TokenByte s from ≡ w → Told (bare from w)
      go (Some j) e = bare_token (word_is TokenStart TokenByte s from j e)
      go None e = refl

  -- A token is read exactly where one stands, bare or quoted,
  pub token_iff : (p : Place) (end : ℕ) (quoted : Bool) → (token_at s from ≡ Ok (p, end, quoted)) ↔ IsToken s from p end quoted
  token_iff p end quoted = (λ e. told Told e tells, back)
    where
      back : {p : Place} {end : ℕ} {quoted : Bool} → IsToken s from p end quoted → token_at s from ≡ Ok (p, end, quoted)
      back (bare_token x) = bare_found_lem s from _ x
      back (quoted_token x) = quote_found s from _ x

  -- and is missed, where it was sought, exactly where none stands.
  pub no_token_iff : (i : ℕ) → (token_at s from ≡ Err i) ↔ ((i ≡ from) × ((p : Place) (end : ℕ) (quoted : Bool) → IsToken s from p end quoted → ⊥))
  no_token_iff i = (λ e. (told Told e tells, λ p end quoted x. clash (let f = (token_iff p end quoted).1 x in cc)), λ x. go (token_at s from) tells x.0 x.1)
    where
      go : (t : Result (Place × ℕ × Bool) ℕ) → Told t → i ≡ from → ((p : Place) (end : ℕ) (quoted : Bool) → IsToken s from p end quoted → ⊥) → t ≡ Err i
      go (Ok (p, end, quoted)) x h f = absurd (f p end quoted x)
      go (Err j) x h f = rw (x, h)

  word_of : {p : Place} {end : ℕ} {quoted : Bool} → IsToken s from p end quoted → quoted ≡ false → IsWord TokenStart TokenByte s from end
  word_of (bare_token x) e = x
  word_of (quoted_token x) e = absurd (false≢true (sym e))

  -- The same of a bare token,
  pub bare_iff : (to : ℕ) → (token_at s from ≡ found from to to false) ↔ IsWord TokenStart TokenByte s from to
  bare_iff to = (λ e. word_of (told Told e tells) refl, bare_found_lem s from to)

  -- of what is read where no quote stands,
  pub bare_is : (to : ℕ) (p : Place) (b : Bool) → is_quote (get_or s from 0) ≡ false → token_at s from ≡ Ok (p, to, b) → IsWord TokenStart TokenByte s from to
  bare_is to p b u e = go (told Told e tells)
    where
      go : {p : Place} {end : ℕ} {quoted : Bool} → IsToken s from p end quoted → IsWord TokenStart TokenByte s from end
      go (bare_token x) = x
      go (quoted_token x) = absurd (false≢true (sym u ∙ x.opens))

  -- and of a quoted one.
  pub quoted_iff : (to : ℕ) → (token_at s from ≡ found (from + 1) to (to + 1) true) ↔ IsQuoted s from to
  quoted_iff to = (λ e. go (told Told e tells) refl, quote_found s from to)
    where
      go : {p : Place} {end : ℕ} {quoted : Bool} → IsToken s from p end quoted → quoted ≡ true → IsQuoted s from p.to
      go (bare_token x) e = absurd (false≢true e)
      go (quoted_token x) e = x

-- "A bare token has no dots.": as a word,
pub no_dot : (s : List ℕ) (from to k : ℕ) → IsWord TokenStart TokenByte s from to → from ≤ k → k < to → get_or s k 0 ≡ 46 → ⊥
unfolding in_class is_letter is_digit
no_dot s from to k x h l e =
    elim (ℕ_discrete k from) [
      | yes q ↦ false≢true (rw (← q, e) at x.begins)
      | no q ↦ false≢true (rw e at (x.goes_on.each k (omega arith) l))
    ]

-- and as what is read.
pub token_no_dot : (s : List ℕ) (from : ℕ) (p : Place) (end : ℕ) → token_at s from ≡ Ok (p, end, false) → (k : ℕ) → p.from ≤ k → k < p.to → get_or s k 0 ≡ 46 → ⊥
token_no_dot s from p end e = go ((token_iff s from p end false).0 e) refl
  where
    go : {p : Place} {end : ℕ} {quoted : Bool} → IsToken s from p end quoted → quoted ≡ false → (k : ℕ) → p.from ≤ k → k < p.to → get_or s k 0 ≡ 46 → ⊥
    go (bare_token x) f = λ k h l. no_dot s from _ k x h l
    go (quoted_token x) f = absurd (false≢true (sym f))

-- the byte that closes a tag is none of its bytes
bracket_no_byte : in_class TagByte 62 ≡ false
unfolding in_class is_eol
bracket_no_byte = refl

module _ (s : List ℕ) (from : ℕ) where
  -- a tag's bytes are a run
  tag_run : (p : Place) (end : ℕ) → IsTag s from p end → Runs (in_class TagByte) s p.from p.to
  tag_run p end x = let h = x.inside in record { onward = x.onward; inside = omega arith; each = x.each; stops = λ k. rw x.closes bracket_no_byte }

  -- A tag has one place and one end.
  pub tag_one : (p p' : Place) (end end' : ℕ) → IsTag s from p end → IsTag s from p' end' → (p ≡ p') × (end ≡ end')
  tag_one p p' end end' x y =
      let a : p.from ≡ p'.from = x.behind ∙ sym y.behind in
      let b : p.to ≡ p'.to = run_one (in_class TagByte) s (from + 1) _ _ (rw x.behind at (tag_run p end x)) (rw y.behind at (tag_run p' end' y)) in
      let u = x.ended in
      let v = y.ended in
      (λ i. record { from = a i; to = b i }, omega arith)

  -- what the answer tells
  abbrev TagTold : Result (Place × ℕ) TagError → Type 0
  TagTold (Ok (p, end)) = IsTag s from p end
  TagTold (Err (OpenTag i)) = (i ≡ from) × (get_or s from 0 ≡ 60) × ((p : Place) (end : ℕ) → IsTag s from p end → ⊥)
  TagTold (Err (NoTag i)) = (i ≡ from) × (get_or s from 0 ≡ 60 → ⊥)

  tag_tells : TagTold (tag_at s from)
  unfolding tag_at tag_closed
  tag_tells =
      on_test TagTold (is_at 60 s from) _ _
      (λ t. let o = at_true s from 60 t in
      on_test TagTold (is_at 62 s to) _ _
      (λ u. stands o.0 o.1 (at_true s to 62 u))
      (λ u. (refl, o.1, λ p end x. false≢true (sym u ∙ shut o.0 p end x))))
      (λ f. (refl, λ e. false≢true (sym f ∙ at_yes s from 60 (omega arith) e)))
    where
      to : ℕ
      to = run_end_at (in_class TagByte) s (from + 1)

      stands : from < length s → get_or s from 0 ≡ 60 → (to < length s) × (get_or s to 0 ≡ 62) → IsTag s from (record { from = from + 1; to = to }) (to + 1)
      stands l o c =
          let r = run_is (in_class TagByte) s (from + 1) (omega arith) in
          record { opens = o; behind = refl; onward = r.onward; each = r.each; inside = c.0; closes = c.1; ended = refl }

      shut : from < length s → (p : Place) (end : ℕ) → IsTag s from p end → is_at 62 s to ≡ true
      shut l p end x =
          let e = run_one (in_class TagByte) s (from + 1) _ _ (rw x.behind at (tag_run p end x)) (run_is (in_class TagByte) s (from + 1) (omega arith)) in
          rw (← e) (at_yes s p.to 62 (omega arith) x.closes)

  -- A tag is read exactly where one stands, with its place and its end,
  pub tag_iff : (p : Place) (end : ℕ) → (tag_at s from ≡ Ok (p, end)) ↔ IsTag s from p end
  tag_iff p end = (λ e. told TagTold e tag_tells, λ x. go (tag_at s from) tag_tells x)
    where
      go : (t : Result (Place × ℕ) TagError) → TagTold t → IsTag s from p end → t ≡ Ok (p, end)
      go (Ok (p', end')) y x = let z = tag_one p' p end' end y x in rw (z.0, z.1)
      go (Err (OpenTag i)) y x = absurd (y.2 p end x)
      go (Err (NoTag i)) y x = absurd (y.1 x.opens)

  -- 50 is given at its `<` exactly where `<` stands and no tag,
  pub open_tag_iff : (i : ℕ) → (tag_at s from ≡ Err (OpenTag i)) ↔ ((i ≡ from) × (get_or s from 0 ≡ 60) × ((p : Place) (end : ℕ) → IsTag s from p end → ⊥))
  open_tag_iff i = (λ e. told TagTold e tag_tells, λ x. go (tag_at s from) tag_tells x)
    where
      go : (t : Result (Place × ℕ) TagError) → TagTold t → (i ≡ from) × (get_or s from 0 ≡ 60) × ((p : Place) (end : ℕ) → IsTag s from p end → ⊥) → t ≡ Err (OpenTag i)
      go (Ok (p, end)) y x = absurd (x.2 p end y)
      go (Err (OpenTag j)) y x = rw (y.0, x.0)
      go (Err (NoTag j)) y x = absurd (y.1 x.1)

  -- and there is none, where it was sought, exactly where no `<` stands.
  pub no_tag_iff : (i : ℕ) → (tag_at s from ≡ Err (NoTag i)) ↔ ((i ≡ from) × (get_or s from 0 ≡ 60 → ⊥))
  no_tag_iff i = (λ e. told TagTold e tag_tells, λ x. go (tag_at s from) tag_tells x)
    where
      go : (t : Result (Place × ℕ) TagError) → TagTold t → (i ≡ from) × (get_or s from 0 ≡ 60 → ⊥) → t ≡ Err (NoTag i)
      go (Ok (p, end)) y x = absurd (x.1 y.opens)
      go (Err (OpenTag j)) y x = absurd (x.1 y.1)
      go (Err (NoTag j)) y x = rw (y.0, x.0)

module _ (s : List ℕ) (from to : ℕ) where
  -- An integer is read exactly where digits stand whose decimal value fits 64 bits.
  pub int_iff : (v : ℕ) → from ≤ length s → (int_at s from ≡ Ok (v, to)) ↔ IsInt s from to v
  unfolding int_at counted
  int_iff v k = (there, λ x. let d = x.value in let f = x.fits in let h = x.some in sym (int_value s from to (run_one (in_class Digit) s from _ _ x.digits (run_is (in_class Digit) s from k)) h v to (sym d) (below f) (omega arith) (omega arith)))
    where
      below : v < 2 ^ 64 → v ≤ 18446744073709551615
      below f = omega arith

      Is : Result (ℕ × ℕ) IntError → Type 0
      Is r = r ≡ Ok (v, to) → IsInt s from to v

      end : ℕ
      end = run_end_at (in_class Digit) s from

      here : from < end → decimal_at s from end < 18446744073709551616 → end ≡ to → decimal_at s from end ≡ v → IsInt s from to v
      here h f e d = record { some = rw e at h; digits = rw e at (run_is (in_class Digit) s from k); value = rw e at d; fits = rw d at f }

      there : int_at s from ≡ Ok (v, to) → IsInt s from to v
      there =
          on_test Is (leb end from) _ _ (λ f q. absurd (clash (cc)))
          (λ f. on_test Is (ltb (decimal_at s from end) 18446744073709551616) _ _
          (λ t q. here (leb-false _ _ f) (ltb-true _ _ t) (ok_2 q).1 (ok_2 q).0)
          (λ t q. absurd (clash (cc))))
