-- Strings, actions and texts to a single colon that stand in one source stand in any where their bytes do; and trimming moves with its region. Assumes nothing.
use Rattle.std.specs.Prelude.{Some, Ok, Err, Option, Result}
use Prim.Native.Nat.{ℕ, suc, ◌+◌, ◌-◌, ◌≤◌, ◌<◌}
use mathlib.Core.Path.{◌≡◌, refl, sym, ◌∙◌, ap}
use mathlib.Core.List.{List, [], ◌∷◌, ◌++◌}
use mathlib.Core.Bool.{Bool, true, false}
use mathlib.Core.Logic.{◌⊎◌, inl, inr}
use native.Mathlib.Omega.{arith}
use lib.Dec.{eqb}
use lib.ListN.{length, take}
use lib.Seq.{slice, length-slice}
use borrow.Author.Tests.{eqb-true}
use Rattle.scan.proofs.Tuples.{ok_2, some_2}
use Rattle.words.specs.declared.QuoteError.{QuoteError}
use Rattle.scan.specs.declared.Place.{Place}
use Rattle.scan.specs.Scan.{is_eol}
use Rattle.scan.specs.Lines.{lines_here}
use Rattle.whole.specs.Encode.{Text}
use Rattle.trim.specs.Trim.{trimmed}
use Rattle.trim.specs.Trims.{Trims, size}
use Rattle.trim.proofs.Theorem.{trims, trims_inside}
use Rattle.trim.proofs.Unique.{trims_one}
use Rattle.words.specs.Words.{is_quote}
use Rattle.words.specs.Strings.{Mode, plain, escape, string}
use Rattle.words.specs.declared.QuoteError.TheVariants.{LineInside, BadEscape}
use Rattle.texts.specs.Action.{braced}
use Rattle.texts.specs.Colon.{Mode as Colons, plain as text, colon, single}
use Rattle.alike.specs.Like.{Same}
use Rattle.alike.proofs.Agree.{clash, Agree, slice_agree}

-- strings
abbrev Modes : Mode → Mode → Type 0
Modes plain plain = Unit {0}
Modes plain (escape b) = ⊥
Modes (escape b) plain = ⊥
Modes (escape b) (escape c) = Unit {0}

pub record StringMoves (q : ℕ) (mode : Mode) (l : List ℕ) (i e : ℕ) : Type 0 where
  pub size : ℕ
  pub ends : e ≡ i + size
  pub inside : size ≤ length l
  pub moves : (other : Mode) → Modes mode other → (r : List ℕ) (j : ℕ) → string q other (take size l ++ r) j ≡ Ok (j + size)

pub string_move : (q : ℕ) (mode : Mode) (l : List ℕ) (i e : ℕ) → string q mode l i ≡ Ok e → StringMoves q mode l i e
unfolding string
string_move q plain [] i e h = absurd (clash cc)
string_move q (escape b) [] i e h = absurd (clash cc)
string_move q plain (c ∷ cs) i e h = go (eqb c q) refl (is_eol c) refl (eqb c 92) refl (string_move q plain cs (i + 1) e) (string_move q (escape i) cs (i + 1) e) h
  where
    go : (a : Bool) → eqb c q ≡ a → (b : Bool) → is_eol c ≡ b → (d : Bool) → eqb c 92 ≡ d
        → (string q plain cs (i + 1) ≡ Ok e → StringMoves q plain cs (i + 1) e)
        → (string q (escape i) cs (i + 1) ≡ Ok e → StringMoves q (escape i) cs (i + 1) e)
        → ◌≡◌ {A = Result ℕ QuoteError} (elim a [ true ↦ Ok (i + 1) | false ↦ elim b [ true ↦ Err (LineInside i) | false ↦ elim d [ true ↦ string q (escape i) cs (i + 1) | false ↦ string q plain cs (i + 1) ] ] ]) (Ok e)
        → StringMoves q plain (c ∷ cs) i e
    go true x b y d z f g h = let k : i + 1 ≡ e = cc in record { size = 1; ends = sym k; inside = omega arith; moves = one }
      where
        one : (other : Mode) → Modes plain other → (r : List ℕ) (j : ℕ) → string q other (take 1 (c ∷ cs) ++ r) j ≡ Ok (j + 1)
        one plain m r j = rw (x, string)
        one (escape b) m r j = absurd m
    go false x true y d z f g h = absurd (clash cc)
    go false x false y true z f g h =
        let w = g h in
        let k = w.ends in
        record { size = suc w.size; ends = omega arith; inside = (let n = w.inside in omega arith); moves = more w.size w.moves }
      where
        more : (n : ℕ) → ((other : Mode) → Modes (escape i) other → (r : List ℕ) (j : ℕ) → string q other (take n cs ++ r) j ≡ Ok (j + n)) → (other : Mode) → Modes plain other → (r : List ℕ) (j : ℕ) → string q other (take (suc n) (c ∷ cs) ++ r) j ≡ Ok (j + suc n)
        more n rest plain m r j = let e : j + suc n ≡ j + 1 + n = omega arith in rw (x, y, z, string, e) (rest (escape j) tt r (j + 1))
        more n rest (escape b) m r j = absurd m
    go false x false y false z f g h =
        let w = f h in
        let k = w.ends in
        record { size = suc w.size; ends = omega arith; inside = (let n = w.inside in omega arith); moves = more w.size w.moves }
      where
        more : (n : ℕ) → ((other : Mode) → Modes plain other → (r : List ℕ) (j : ℕ) → string q other (take n cs ++ r) j ≡ Ok (j + n)) → (other : Mode) → Modes plain other → (r : List ℕ) (j : ℕ) → string q other (take (suc n) (c ∷ cs) ++ r) j ≡ Ok (j + suc n)
        more n rest plain m r j = let e : j + suc n ≡ j + 1 + n = omega arith in rw (x, y, z, string, e) (rest plain tt r (j + 1))
        more n rest (escape b) m r j = absurd m
string_move q (escape b) (c ∷ cs) i e h = go (is_quote c) refl (string_move q plain cs (i + 1) e) h
  where
    go : (a : Bool) → is_quote c ≡ a → (string q plain cs (i + 1) ≡ Ok e → StringMoves q plain cs (i + 1) e) → ◌≡◌ {A = Result ℕ QuoteError} (elim a [ true ↦ string q plain cs (i + 1) | false ↦ Err (BadEscape b) ]) (Ok e) → StringMoves q (escape b) (c ∷ cs) i e
    go false x f h = absurd (clash cc)
    go true x f h =
        let w = f h in
        let k = w.ends in
        record { size = suc w.size; ends = omega arith; inside = (let n = w.inside in omega arith); moves = more w.size w.moves }
      where
        more : (n : ℕ) → ((other : Mode) → Modes plain other → (r : List ℕ) (j : ℕ) → string q other (take n cs ++ r) j ≡ Ok (j + n)) → (other : Mode) → Modes (escape b) other → (r : List ℕ) (j : ℕ) → string q other (take (suc n) (c ∷ cs) ++ r) j ≡ Ok (j + suc n)
        more n rest (escape d) m r j = let e : j + suc n ≡ j + 1 + n = omega arith in rw (x, string, e) (rest plain tt r (j + 1))
        more n rest plain m r j = absurd m

-- trimming
moved : (a b : ℕ) (cs : List ℕ) (p : Place) (x : Trims a cs p) → Trims b cs (record { from = b + size x.before; to = b + size x.before + size x.mid })
moved a b cs p x = record { before = x.before; mid = x.mid; after = x.after; parts = x.parts; blank_before = x.blank_before; blank_after = x.blank_after; edges = x.edges; empty = x.empty; starts = refl; ends = refl }

-- The trimmed parts of two regions with the same bytes, which are a text, hold the same bytes.
pub trim_move : (s t : List ℕ) (i j m : ℕ) → Agree s t i j m → Text (slice i (i + m) s) → Same s t (trimmed s i (i + m)).from (trimmed s i (i + m)).to (trimmed t j (j + m)).from (trimmed t j (j + m)).to
trim_move s t i j m g x =
    let u = g.here in
    let v = g.there in
    let e = slice_agree s t i j m i (i + m) j (j + m) g (omega arith) (omega arith) (omega arith) (omega arith) (omega arith) in
    let y : Text (slice j (j + m) t) = record { points = x.points; scalars = x.scalars; same = x.same ∙ e } in
    go (trimmed s i (i + m)) (trimmed t j (j + m)) (trims s i (i + m) x (omega arith) (omega arith)) (trims t j (j + m) y (omega arith) (omega arith))
  where
    go : (p r : Place) → Trims i x.points p → Trims j x.points r → Same s t p.from p.to r.from r.to
    go p r a b =
        let u = g.here in
        let v = g.there in
        let o = trims_one j x.points r _ b (moved i j x.points p a) in
        let f : r.from ≡ j + size a.before = ap (λ (z : Place). z.from) o in
        let h : r.to ≡ j + size a.before + size a.mid = ap (λ (z : Place). z.to) o in
        let c = a.starts in
        let d = a.ends in
        let n = length-slice i (i + m) s u in
        let k : size x.points ≡ length (slice i (i + m) s) = ap length x.same in
        let z = trims_inside i (i + m) x.points p a (omega arith) in
        let z0 = z.0 in
        let z1 = z.1 in
        let z2 = z.2 in
        record { here = (z1, omega arith); there = (omega arith, omega arith); bytes = slice_agree s t i j m p.from p.to r.from r.to g z0 z1 z2 (omega arith) (omega arith) }

-- actions
pub record BraceMoves (d : ℕ) (l : List ℕ) (i e : ℕ) : Type 0 where
  pub size : ℕ
  pub ends : e ≡ i + size
  pub inside : size < length l
  pub moves : (r : List ℕ) (j n : ℕ) → (m : ℕ) × (braced d (take (suc size) l ++ r) j n ≡ Some (j + size, m))

pub brace_move : (d : ℕ) (l : List ℕ) (i n e m : ℕ) → braced d l i n ≡ Some (e, m) → BraceMoves d l i e
unfolding braced
brace_move d [] i n e m h = absurd (clash cc)
brace_move d (c ∷ cs) i n e m h = go (eqb c 123) refl (eqb c 125) refl (eqb d 0) refl (is_eol c) refl (λ d n. brace_move d cs (i + 1) n e m) h
  where
    -- one byte more, which leaves d' open
    on : (d' : ℕ) → BraceMoves d' cs (i + 1) e → ((r : List ℕ) (j k : ℕ) → (k' : ℕ) × (braced d (c ∷ r) j k ≡ braced d' r (j + 1) k')) → BraceMoves d (c ∷ cs) i e
    on d' w step =
        let k = w.ends in
        let o = w.inside in
        record {
          size = suc w.size;
          ends = omega arith;
          inside = omega arith;
          moves = λ r j n. let (k, p) = step (take (suc w.size) cs ++ r) j n in let (m, q) = w.moves r (j + 1) k in let z : j + 1 + w.size ≡ j + suc w.size = omega arith in (m, p ∙ q ∙ ap (λ (y : ℕ). Some (y, m)) z);
        }

    go : (a : Bool) → eqb c 123 ≡ a → (b : Bool) → eqb c 125 ≡ b → (z : Bool) → eqb d 0 ≡ z → (f : Bool) → is_eol c ≡ f
        → ((d n : ℕ) → braced d cs (i + 1) n ≡ Some (e, m) → BraceMoves d cs (i + 1) e)
        → ◌≡◌ {A = Option (ℕ × ℕ)} (elim a [ true ↦ braced (d + 1) cs (i + 1) n | false ↦ elim b [ true ↦ elim z [ true ↦ Some (i, n) | false ↦ braced (d - 1) cs (i + 1) n ] | false ↦ elim f [ true ↦ braced d cs (i + 1) (n + lines_here c cs) | false ↦ braced d cs (i + 1) n ] ] ]) (Some (e, m))
        → BraceMoves d (c ∷ cs) i e
    go true x b y z u f v ih h = on (d + 1) (ih (d + 1) n h) (λ r j k. (k, rw (x, braced)))
    go false x true y true u f v ih h = let k : i ≡ e = (some_2 h).0 in record { size = 0; ends = omega arith; inside = omega arith; moves = λ r j n. (n, (let z : j + 0 ≡ j = omega arith in rw (x, y, u, braced, z))) }
    go false x true y false u f v ih h = on (d - 1) (ih (d - 1) n h) (λ r j k. (k, rw (x, y, u, braced)))
    go false x false y z u true v ih h = on d (ih d (n + lines_here c cs) h) (λ r j k. (k + lines_here c r, rw (x, y, v, braced)))
    go false x false y z u false v ih h = on d (ih d n h) (λ r j k. (k, rw (x, y, v, braced)))

-- texts to a single colon; what stands behind the colon is no colon
abbrev pub NoColon : List ℕ → Type 0
NoColon [] = Unit {0}
NoColon (c ∷ cs) = eqb c 58 ≡ false

pub record ColonMoves (l : List ℕ) (i e : ℕ) : Type 0 where
  pub size : ℕ
  pub ends : e ≡ i + size
  pub inside : size < length l
  pub moves : (r : List ℕ) → NoColon r → (j n : ℕ) → (m : ℕ) × (single text (take (suc size) l ++ r) j n ≡ Ok (j + size, m))

-- behind a colon at b: it was the single one, or another follows and the text goes on
abbrev Colons2 : List ℕ → ℕ → ℕ → ℕ → Type 0
Colons2 l b i e = (e ≡ b) ⊎ ((cs : List ℕ) × (l ≡ 58 ∷ cs) × ColonMoves cs (i + 1) e)

abbrev Moves : Colons → List ℕ → ℕ → ℕ → Type 0
Moves text l i e = ColonMoves l i e
Moves (colon b) l i e = Colons2 l b i e

colon_end_lem : (b : ℕ) (r : List ℕ) → NoColon r → (i n : ℕ) → single (colon b) r i n ≡ Ok (b, n)
unfolding single
colon_end_lem b [] x i n = refl
colon_end_lem b (c ∷ cs) x i n = rw (x, single)

pub colon_move : (mode : Colons) (l : List ℕ) (i n e m : ℕ) → single mode l i n ≡ Ok (e, m) → Moves mode l i e
unfolding single
colon_move text [] i n e m h = absurd (clash cc)
colon_move (colon b) [] i n e m h = inl (sym (ok_2 h).0)
colon_move text (c ∷ cs) i n e m h = go (eqb c 58) refl (is_eol c) refl (λ n. colon_move (colon i) cs (i + 1) n e m) (λ n. colon_move text cs (i + 1) n e m) h
  where
    on : ColonMoves cs (i + 1) e → ((r : List ℕ) (j k : ℕ) → (k' : ℕ) × (single text (c ∷ r) j k ≡ single text r (j + 1) k')) → ColonMoves (c ∷ cs) i e
    on w step =
        let k = w.ends in
        let o = w.inside in
        record {
          size = suc w.size;
          ends = omega arith;
          inside = omega arith;
          moves = λ r x j n. let (k, p) = step (take (suc w.size) cs ++ r) j n in let (m, q) = w.moves r x (j + 1) k in let z : j + 1 + w.size ≡ j + suc w.size = omega arith in (m, p ∙ q ∙ ap (λ (y : ℕ). Ok (y, m)) z);
        }

    two : eqb c 58 ≡ true → Colons2 cs i (i + 1) e → ColonMoves (c ∷ cs) i e
    two x (inl z) = record { size = 0; ends = omega arith; inside = omega arith; moves = λ r y j n. (n, (let z : j + 0 ≡ j = omega arith in rw (x, single, z) (colon_end_lem j r y (j + 1) n))) }
    two x (inr (ds, q, w)) =
        let k = w.ends in
        let o = w.inside in
        rw q
        (record {
          size = suc (suc w.size);
          ends = omega arith;
          inside = omega arith;
          moves = λ r y j n. let (m, p) = w.moves r y (j + 1 + 1) n in let z : j + 1 + 1 + w.size ≡ j + suc (suc w.size) = omega arith in (m, pass x (take (suc w.size) ds ++ r) j n ∙ p ∙ ap (λ (y : ℕ). Ok (y, m)) z);
        })
      where
        pass : eqb c 58 ≡ true → (r : List ℕ) (j n : ℕ) → single text (c ∷ (58 ∷ r)) j n ≡ single text r (j + 1 + 1) n
        pass x r j n = rw (x, single)

    go : (a : Bool) → eqb c 58 ≡ a → (b : Bool) → is_eol c ≡ b → ((n : ℕ) → single (colon i) cs (i + 1) n ≡ Ok (e, m) → Colons2 cs i (i + 1) e) → ((n : ℕ) → single text cs (i + 1) n ≡ Ok (e, m) → ColonMoves cs (i + 1) e)
        → ◌≡◌ {A = Result (ℕ × ℕ) ℕ} (elim a [ true ↦ single (colon i) cs (i + 1) n | false ↦ elim b [ true ↦ single text cs (i + 1) (n + lines_here c cs) | false ↦ single text cs (i + 1) n ] ]) (Ok (e, m)) → ColonMoves (c ∷ cs) i e
    go true x b y f g h = two x (f n h)
    go false x true y f g h = on (g (n + lines_here c cs) h) (λ r j k. (k + lines_here c r, rw (x, y, single)))
    go false x false y f g h = on (g n h) (λ r j k. (k, rw (x, y, single)))
colon_move (colon b) (c ∷ cs) i n e m h = go (eqb c 58) refl (colon_move text cs (i + 1) n e m) h
  where
    go : (a : Bool) → eqb c 58 ≡ a → (single text cs (i + 1) n ≡ Ok (e, m) → ColonMoves cs (i + 1) e) → ◌≡◌ {A = Result (ℕ × ℕ) ℕ} (elim a [ true ↦ single text cs (i + 1) n | false ↦ Ok (b, n) ]) (Ok (e, m)) → Colons2 (c ∷ cs) b i e
    go true x f h = inr (cs, ap (λ (d : ℕ). d ∷ cs) (eqb-true c 58 x), f h)
    go false x f h = inl (sym (ok_2 h).0)
