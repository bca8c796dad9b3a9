-- Each region that is trimmed, from the answers of the scans that found it. Assumes nothing.
use Rattle.std.specs.Prelude.{Result, Ok, Err}
use Prim.Native.Nat.{ℕ, ◌+◌, ◌-◌, ◌≤◌, ◌<◌}
use mathlib.Core.Path.{◌≡◌, refl, sym, ◌∙◌, ap}
use mathlib.Core.List.{List, [], ◌∷◌}
use mathlib.Core.Logic.{inl}
use mathlib.Core.Bool.{Bool, true, false}
use native.Mathlib.Omega.{arith}
use lib.Dec.{eqb}
use lib.ListN.{length, get_or, take, drop, get_or-eq_default}
use borrow.Author.Tests.{eqb-true, eqb-false}
use Rattle.scan.proofs.Tuples.{ok_2, ok_3}
use Rattle.scan.specs.declared.Place.{Place}
use Rattle.scan.specs.Scan.{is_eol, starts_at}
use Rattle.scan.specs.Lines.{lines_here}
use Rattle.scan.proofs.Bytes.{told, on_test, drop_below, drop_next, drop_byte, drop_ended, starts_fits}
use Rattle.spacing.specs.declared.SpacingError.{SpacingError}
use Rattle.spacing.specs.declared.SpacingError.TheVariants.{LineEnd, OpenComment}
use Rattle.spacing.specs.Spacing.{spaces_at}
use Rattle.whole.specs.Encode.{Text}
use Rattle.whole.proofs.Boundaries.{begins_boundary, ascii_behind}
use Rattle.texts.specs.Colon.{plain, colon, single, single_from, single_at, colon_text, colon_text_at, ColonTexts}
use Rattle.texts.specs.Action.{action_at}
use Rattle.texts.proofs.Laws.{colon_placed}
use Rattle.texts.proofs.Balance.{action_is}
use Rattle.texts.proofs.Meaning.{edge_boundary, starts_boundary, colon_trimmed, action_trimmed}
use Rattle.grammar.specs.State.{gap_of, gap_at, Gapped}
use Rattle.grammar.proofs.Kept.{gapped}
use Rattle.meaning.specs.Regions.{Skips, skip_none, skip_byte, skip_pair, SingleColon, ColonTrimmed, ActionMade}

-- two constructors are never equal
clash : ◌≡◌ {A = ℕ} 0 1 → ⊥
clash z = omega arith

-- a gap is spacing
pub gap_spaces : (kind : ℕ) (ok : Bool) (src : List ℕ) (at i n : ℕ) → gap_at kind ok src at ≡ Ok (i, n) → spaces_at kind ok src at ≡ Ok (i, n)
unfolding gap_at gap_of
gap_spaces kind ok src at i n = go (spaces_at kind ok src at)
  where
    go : (r : Result (ℕ × ℕ) SpacingError) → gap_of r ≡ Ok (i, n) → r ≡ Ok (i, n)
    go (Ok (j, m)) e = cc
    go (Err (LineEnd j)) e = absurd (clash (cc))
    go (Err (OpenComment j)) e = absurd (clash (cc))

-- the single colon that is found is the first
single_is : (s l : List ℕ) (i n to m : ℕ) → drop i s ≡ l → i ≤ length s → single plain l i n ≡ Ok (to, m) → SingleColon s i to
unfolding single
single_is s [] i n to m q h e = absurd (clash (cc))
single_is s (c ∷ []) i n to m q h e = by_byte (eqb c 58) refl e
  where
    by_byte : (b : Bool) → eqb c 58 ≡ b → ◌≡◌ {A = Result (ℕ × ℕ) ℕ} (elim b [ true ↦ single (colon i) [] (i + 1) n | false ↦ elim (is_eol c) [ true ↦ single plain [] (i + 1) (n + lines_here c []) | false ↦ single plain [] (i + 1) n ] ]) (Ok (to, m)) → SingleColon s i to
    by_byte true t d =
        let k : i ≡ to = (ok_2 d).0 in
        let b = drop_below s i c [] q in
        let j = drop_ended s (i + 1) (drop_next s i c [] q) (omega arith) in
        let z : get_or s (i + 1) 0 ≡ 0 = get_or-eq_default s 0 {n = i + 1} (omega arith) in
        told (λ (x : ℕ). SingleColon s i x) k (record { skips = skip_none; inside = b; colon = drop_byte s i c [] q ∙ eqb-true c 58 t; alone = λ y. let w : 0 ≡ 58 = sym z ∙ y in omega arith })
    by_byte false t d = absurd (on_test (λ (x : Result (ℕ × ℕ) ℕ). x ≡ Ok (to, m) → ⊥) (is_eol c) _ _ (λ f y. clash (cc)) (λ f y. clash (cc)) d)
single_is s (c ∷ d ∷ cs) i n to m q h e = by_byte (eqb c 58) refl e (single_is s (d ∷ cs) (i + 1)) (single_is s cs (i + 1 + 1))
  where
    below : i < length s
    below = drop_below s i c (d ∷ cs) q

    next : drop (i + 1) s ≡ d ∷ cs
    next = drop_next s i c (d ∷ cs) q

    by_second : eqb c 58 ≡ true → (b : Bool) → eqb d 58 ≡ b → ◌≡◌ {A = Result (ℕ × ℕ) ℕ} (elim b [ true ↦ single plain cs (i + 1 + 1) n | false ↦ Ok (i, n) ]) (Ok (to, m))
        → ((n to m : ℕ) → drop (i + 1 + 1) s ≡ cs → i + 1 + 1 ≤ length s → single plain cs (i + 1 + 1) n ≡ Ok (to, m) → SingleColon s (i + 1 + 1) to) → SingleColon s i to
    by_second t true u y ih =
        let b = drop_below s (i + 1) d cs next in
        let r = ih n to m (drop_next s (i + 1) d cs next) (omega arith) y in
        record { skips = skip_pair (drop_byte s i c (d ∷ cs) q ∙ eqb-true c 58 t) (drop_byte s (i + 1) d cs next ∙ eqb-true d 58 u) r.skips; inside = r.inside; colon = r.colon; alone = r.alone }
    by_second t false u y ih =
        let k : i ≡ to = (ok_2 y).0 in
        told (λ (x : ℕ). SingleColon s i x) k (record { skips = skip_none; inside = below; colon = drop_byte s i c (d ∷ cs) q ∙ eqb-true c 58 t; alone = λ z. eqb-false d 58 u (sym (drop_byte s (i + 1) d cs next) ∙ z) })

    by_byte : (b : Bool) → eqb c 58 ≡ b → ◌≡◌ {A = Result (ℕ × ℕ) ℕ} (elim b [ true ↦ single (colon i) (d ∷ cs) (i + 1) n | false ↦ elim (is_eol c) [ true ↦ single plain (d ∷ cs) (i + 1) (n + lines_here c (d ∷ cs)) | false ↦ single plain (d ∷ cs) (i + 1) n ] ]) (Ok (to, m))
        → ((n to m : ℕ) → drop (i + 1) s ≡ d ∷ cs → i + 1 ≤ length s → single plain (d ∷ cs) (i + 1) n ≡ Ok (to, m) → SingleColon s (i + 1) to)
        → ((n to m : ℕ) → drop (i + 1 + 1) s ≡ cs → i + 1 + 1 ≤ length s → single plain cs (i + 1 + 1) n ≡ Ok (to, m) → SingleColon s (i + 1 + 1) to) → SingleColon s i to
    by_byte true t y one two = by_second t (eqb d 58) refl y two
    by_byte false t y one two = passed (is_eol c) y
      where
        rest : SingleColon s (i + 1) to → SingleColon s i to
        rest r = record { skips = skip_byte (λ z. eqb-false c 58 t (sym (drop_byte s i c (d ∷ cs) q) ∙ z)) r.skips; inside = r.inside; colon = r.colon; alone = r.alone }

        passed : (b : Bool) → ◌≡◌ {A = Result (ℕ × ℕ) ℕ} (elim b [ true ↦ single plain (d ∷ cs) (i + 1) (n + lines_here c (d ∷ cs)) | false ↦ single plain (d ∷ cs) (i + 1) n ]) (Ok (to, m)) → SingleColon s i to
        passed true z = let b = below in rest (one (n + lines_here c (d ∷ cs)) to m next (omega arith) z)
        passed false z = let b = below in rest (one n to m next (omega arith) z)

-- There is one such colon.
skips_one : {s : List ℕ} {i a b : ℕ} → Skips s i a → Skips s i b → get_or s a 0 ≡ 58 → (get_or s (a + 1) 0 ≡ 58 → ⊥) → get_or s b 0 ≡ 58 → (get_or s (b + 1) 0 ≡ 58 → ⊥) → a ≡ b
skips_one skip_none skip_none c n d m = refl
skips_one skip_none (skip_byte f y) c n d m = absurd (f c)
skips_one skip_none (skip_pair p q y) c n d m = absurd (n q)
skips_one (skip_byte f x) skip_none c n d m = absurd (f d)
skips_one (skip_byte f x) (skip_byte g y) c n d m = skips_one x y c n d m
skips_one (skip_byte f x) (skip_pair p q y) c n d m = absurd (f p)
skips_one (skip_pair p q x) skip_none c n d m = absurd (m q)
skips_one (skip_pair p q x) (skip_byte f y) c n d m = absurd (f p)
skips_one (skip_pair p q x) (skip_pair u v y) c n d m = skips_one x y c n d m

pub colon_one : (s : List ℕ) (from a b : ℕ) → SingleColon s from a → SingleColon s from b → a ≡ b
colon_one s from a b x y = skips_one x.skips y.skips x.colon x.alone y.colon y.alone

colon_single : (s : List ℕ) (from to n : ℕ) (p : Place) → from ≤ length s → colon_text_at s from ≡ Ok (to, n, p) → SingleColon s from to
unfolding colon_text_at colon_text single_from
colon_single s from to n p h = go (single_at s from) refl
  where
    go : (c : Result (ℕ × ℕ) ℕ) → single_at s from ≡ c → colon_text s from c ≡ Ok (to, n, p) → SingleColon s from to
    go (Ok (j, m)) q e = let k : j ≡ to = (ok_3 e).0 in told (λ (x : ℕ). SingleColon s from x) k (single_is s (drop from s) from 0 j m refl h q)
    go (Err j) q e = absurd (clash (cc))

module _ (src : List ℕ) (t : Text src) where
  -- a text to a single colon, behind spacing that began where a code point may
  pub colon_region : (kind : ℕ) (ok : Bool) (behind from lines to n : ℕ) (p : Place) → behind ≤ length src → Text (take behind src) → gap_at kind ok src behind ≡ Ok (from, lines) → colon_text_at src from ≡ Ok (to, n, p) → ColonTrimmed kind src ok behind p.from p.to
  colon_region kind ok behind from lines to n p h b g e =
      let x = told (Gapped src behind) g (gapped kind ok src behind h) in
      let c = told (ColonTexts src from) e (colon_placed src from x.1 (colon_text_at src from) refl).1 in
      let begins = edge_boundary src t behind from b x.1 x.2 in
      let u = c.0 in
      let l = c.1 in
      let w = c.2 in
      record {
        from = from;
        to = to;
        lines = lines;
        spacing = gap_spaces kind ok src behind from lines g;
        colon = colon_single src from to n p x.1 e;
        part = record { onward = omega arith; inside = omega arith; begins = begins; ends = begins_boundary src t to l (inl (omega arith)) };
        trimmed = colon_trimmed src t from to n p x.1 begins e;
      }

  -- the same behind a word that was looked ahead for, whose last byte is ASCII
  pub word_region : (kind : ℕ) (word : List ℕ) (ok : Bool) (at from lines to n : ℕ) (p : Place) → starts_at word src at ≡ true → 0 < length word → get_or word (length word - 1) 0 < 128 → gap_at kind ok src (at + length word) ≡ Ok (from, lines) → colon_text_at src from ≡ Ok (to, n, p) → ColonTrimmed kind src ok (at + length word) p.from p.to
  word_region kind word ok at from lines to n p s l a g e = colon_region kind ok (at + length word) from lines to n p (starts_fits word src at s l) (starts_boundary src t word at s l a) g e

  -- an action
  pub action_region : (at end n : ℕ) (p q : Place) → at < length src → get_or src at 0 ≡ 123 → action_at src at ≡ Ok (end, n, p, q) → ActionMade src at p.from p.to q.from q.to
  action_region at end n p q h k e =
      let x = action_is src at h end n p q e in
      let c = x.0 in
      let o = c.onward in
      let i = c.inside in
      let b = c.closes in
      let s = x.3 in
      record {
        brace = k;
        to = end - 1;
        closes = c;
        part = record { onward = omega arith; inside = omega arith; begins = ascii_behind src t at h (omega arith); ends = begins_boundary src t (end - 1) i (inl (omega arith)) };
        trimmed = action_trimmed src t at end n p q h (omega arith) e;
        span = ap (λ (r : Place). r.from) s;
        long = rw s;
      }
