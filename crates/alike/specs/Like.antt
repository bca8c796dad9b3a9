-- Request eleven, "the same tables and singles, places aside": two readings of two sources, each place taken for the bytes that it denotes.
use Rattle.std.specs.Prelude.{ℕ, ◌+◌, ◌*◌, ◌≤◌, ◌<◌, ◌≡◌, List, [], ◌∷◌, length, get_or, Option, Some, None}
use Rattle.std.proofs.Math.Seq.{slice}
use Rattle.tables.specs.Layout.{width}
use Rattle.tables.specs.Rows.{row_at}
use Rattle.grammar.specs.declared.Singles.{Singles}
use Rattle.grammar.specs.declared.State.{State}
use Rattle.grammar.specs.Sound.{AllTables, cells_of}
use Rattle.grammar.specs.State.{count}

-- kinds 1 to 3: those that are shipped
pub data Kind : ℕ → Type 0 where
  original : Kind 1
  grmtools : Kind 2
  eco : Kind 3

-- two places, each in its source, hold the same bytes
pub record Same (src out : List ℕ) (a b c d : ℕ) : Type 0 where
  pub here : (a ≤ b) × (b ≤ length src)
  pub there : (c ≤ d) × (d ≤ length out)
  pub bytes : slice a b src ≡ slice c d out

-- what is held against each other in a row: the number in cell k, or the text whose place is in the cells k and k + 1
pub data Field : Type 0 where
  num : ℕ → Field
  text : ℕ → Field

abbrev pub Fields : List ℕ → List ℕ → List Field → List ℕ → List ℕ → Type 0
Fields src out [] x y = Unit {0}
Fields src out (num k ∷ fs) x y = (get_or x k 0 ≡ get_or y k 0) × Fields src out fs x y
Fields src out (text k ∷ fs) x y = Same src out (get_or x k 0) (get_or x (k + 1) 0) (get_or y k 0) (get_or y (k + 1) 0) × Fields src out fs x y

-- the fields of the thirteen tables, in the order of their indexes; a production's own place, from its first item to its last, is the one place that is let aside
abbrev pub fields : ℕ → List Field
fields k =
    get_or (
    (text 0 ∷ num 2 ∷ [])
    ∷ (text 0 ∷ num 2 ∷ num 3 ∷ [])
    ∷ (text 0 ∷ [])
    ∷ (text 0 ∷ [])
    ∷ (text 0 ∷ text 2 ∷ text 4 ∷ [])
    ∷ (num 0 ∷ text 1 ∷ [])
    ∷ (text 0 ∷ num 2 ∷ text 3 ∷ [])
    ∷ (num 0 ∷ num 3 ∷ num 4 ∷ num 5 ∷ text 6 ∷ num 8 ∷ text 9 ∷ text 11 ∷ [])
    ∷ (num 0 ∷ text 1 ∷ num 3 ∷ [])
    ∷ (num 0 ∷ text 1 ∷ text 3 ∷ [])
    ∷ (text 0 ∷ text 2 ∷ [])
    ∷ (text 0 ∷ num 2 ∷ [])
    ∷ (num 0 ∷ text 1 ∷ [])
    ∷ []
    ) k []

-- n rows of width w, of two tables that are as long
pub record Alike (src out : List ℕ) (fs : List Field) (w n : ℕ) (t u : List ℕ) : Type 0 where
  pub long : length t ≡ length u
  pub fits : n * w ≤ length t
  pub rows : (r : ℕ) → r < n → Fields src out fs (row_at w t r) (row_at w u r)

-- the table of index k of two readings, n rows of it
abbrev pub Table : List ℕ → List ℕ → ℕ → ℕ → List ℕ → List ℕ → Type 0
Table src out k n t u = Alike src out (fields k) (width k) n t u

-- singles
abbrev pub LikePart : List ℕ → List ℕ → Option (ℕ × ℕ) → Option (ℕ × ℕ) → Type 0
LikePart src out None None = Unit {0}
LikePart src out None (Some (c, d)) = ⊥
LikePart src out (Some (a, b)) None = ⊥
LikePart src out (Some (a, b)) (Some (c, d)) = Same src out a b c d

abbrev pub LikeExpect : List ℕ → List ℕ → Option (ℕ × ℕ × ℕ) → Option (ℕ × ℕ × ℕ) → Type 0
LikeExpect src out None None = Unit {0}
LikeExpect src out None (Some (w, c, d)) = ⊥
LikeExpect src out (Some (v, a, b)) None = ⊥
LikeExpect src out (Some (v, a, b)) (Some (w, c, d)) = (v ≡ w) × Same src out a b c d

abbrev pub LikeParam : List ℕ → List ℕ → Option (ℕ × ℕ × ℕ × ℕ) → Option (ℕ × ℕ × ℕ × ℕ) → Type 0
LikeParam src out None None = Unit {0}
LikeParam src out None (Some (c, d, g, h)) = ⊥
LikeParam src out (Some (a, b, e, f)) None = ⊥
LikeParam src out (Some (a, b, e, f)) (Some (c, d, g, h)) = Same src out a b c d × Same src out e f g h

pub record LikeSingles (src out : List ℕ) (g h : Singles) : Type 0 where
  pub start : LikePart src out g.start h.start
  pub expect : LikeExpect src out g.expect h.expect
  pub expect_rr : LikeExpect src out g.expect_rr h.expect_rr
  pub param : LikeParam src out g.param h.param
  pub generics : LikePart src out g.generics h.generics
  pub programs : LikePart src out g.programs h.programs

-- two readings under way, of a kind that is shipped, but for where they stand
pub record Like (src out : List ℕ) (s u : State) : Type 0 where
  pub shipped : Kind s.kind
  pub kind : s.kind ≡ u.kind
  pub level : s.level ≡ u.level
  pub ten : length s.counts.n ≡ 10
  pub counts : s.counts ≡ u.counts
  pub posix : s.posix ≡ u.posix
  pub singles : LikeSingles src out s.singles u.singles
  pub actiontype : LikePart src out s.actiontype u.actiontype

-- the same with all their tables, by index
pub record Near (src out : List ℕ) (s u : State) (T W : AllTables) : Type 0 where
  pub like : Like src out s u
  pub tables : (k : ℕ) → Table src out k (count s k) (cells_of T k) (cells_of W k)
