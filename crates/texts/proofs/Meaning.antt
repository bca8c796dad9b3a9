-- Every region that is trimmed begins and ends at code point boundaries, so that its trimmed place is what trimming means without a scan. Assumes nothing.
use Rattle.std.specs.Prelude.{Option, Some, None, Result, Ok, Err}
use Prim.Native.Nat.{ℕ, ◌+◌, ◌-◌, ◌≤◌, ◌<◌}
use mathlib.Core.Path.{◌≡◌}
use mathlib.Core.List.{List}
use mathlib.Core.Logic.{inl, inr}
use mathlib.Core.Bool.{true}
use native.Mathlib.Omega.{arith}
use lib.ListN.{length, get_or, take}
use lib.Seq.{take-length}
use Rattle.scan.proofs.Tuples.{ok_3, ok_4}
use Rattle.scan.specs.declared.Place.{Place}
use Rattle.scan.specs.Scan.{starts_at, Edge}
use Rattle.scan.proofs.Bytes.{starts_fits, starts_byte}
use Rattle.whole.specs.Encode.{Text}
use Rattle.whole.proofs.Boundaries.{begins_boundary, ascii_behind}
use Rattle.trim.specs.Trim.{trimmed}
use Rattle.trim.proofs.Theorem.{trims_between}
use Rattle.texts.specs.Trimmed.{Trimmed}
use Rattle.texts.specs.Colon.{single_at, colon_text, colon_text_at, Singled}
use Rattle.texts.specs.Action.{braced_at, acted, action_at, Braced}
use Rattle.texts.proofs.Laws.{singles, braces}

module _ (s : List ℕ) (t : Text s) where
  -- Where spacing ends, a code point begins if one began where it started.
  pub edge_boundary : (from i : ℕ) → Text (take from s) → i ≤ length s → Edge s from i → Text (take i s)
  edge_boundary from i b h (inl e) = rw e b
  edge_boundary from i b h (inr (inl e)) = rw (e, take-length s) t
  edge_boundary from i b h (inr (inr x)) =
      let k = x.0 in
      let z : i - 1 + 1 ≡ i = omega arith in
      rw z at (ascii_behind s t (i - 1) (omega arith) x.1)

  -- A code point begins behind a word that was looked ahead for, if the word's last byte is ASCII.
  pub starts_boundary : (w : List ℕ) (i : ℕ) → starts_at w s i ≡ true → 0 < length w → get_or w (length w - 1) 0 < 128 → Text (take (i + length w) s)
  starts_boundary w i e h k =
      let f = starts_fits w s i e h in
      let b = starts_byte w s i e (length w - 1) (omega arith) in
      let z : i + (length w - 1) + 1 ≡ i + length w = omega arith in
      rw z at (ascii_behind s t (i + (length w - 1)) (omega arith) (rw b k))

  -- The text to a single colon is trimmed as it should be,
  pub colon_trimmed : (from to n : ℕ) (p : Place) → from ≤ length s → Text (take from s) → colon_text_at s from ≡ Ok (to, n, p) → Trimmed s from to p
  unfolding colon_text_at colon_text
  colon_trimmed from to n p h b = go (single_at s from) (singles s from h)
    where
      go : (c : Result (ℕ × ℕ) ℕ) → Singled s from c → colon_text s from c ≡ Ok (to, n, p) → Trimmed s from to p
      go (Ok (j, m)) x e =
          let k = x.0 in
          let l = x.1 in
          let d = ok_3 e in
          let u : j ≡ to = d.0 in
          let v : trimmed s from j ≡ p = d.2 in
          let y = trims_between s from j b (begins_boundary s t j l (inl (let w = x.2 in omega arith))) (omega arith) (omega arith) in
          rw (v, u) at y
      go (Err end) x e = let z : ◌≡◌ {A = ℕ} 0 1 = cc in absurd (omega arith)

  -- and so is an action, whose brace is ASCII.
  pub action_trimmed : (at end n : ℕ) (p q : Place) → at < length s → get_or s at 0 < 128 → action_at s at ≡ Ok (end, n, p, q) → Trimmed s (at + 1) (end - 1) p
  unfolding action_at acted
  action_trimmed at end n p q h a = go (braced_at s (at + 1)) (braces s (at + 1) (omega arith))
    where
      go : (b : Option (ℕ × ℕ)) → Braced s (at + 1) b → acted s at b ≡ Ok (end, n, p, q) → Trimmed s (at + 1) (end - 1) p
      go (Some (j, m)) x e =
          let k = x.0 in
          let l = x.1 in
          let d = ok_4 e in
          let u : j + 1 ≡ end = d.0 in
          let w : j ≡ end - 1 = omega arith in
          let v : trimmed s (at + 1) j ≡ p = d.2 in
          let y = trims_between s (at + 1) j (ascii_behind s t at h a) (begins_boundary s t j l (inl (let w = x.2 in omega arith))) (omega arith) (omega arith) in
          rw (v, w) at y
      go None x e = let z : ◌≡◌ {A = ℕ} 0 1 = cc in absurd (omega arith)
