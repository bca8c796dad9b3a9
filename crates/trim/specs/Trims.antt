-- What trimming is, without a scan: the code points of the region fall into blanks, the kept text, and blanks.
use Rattle.std.specs.Prelude.{ℕ, ◌+◌, ◌≡◌, List, [], ◌∷◌, ◌++◌, true, false, length}
use Rattle.scan.specs.declared.Place.{Place}
use Rattle.utf8.specs.White.{is_white}
use Rattle.whole.specs.Encode.{encoded}

-- Document 01: each is "a blank for trimming".
abbrev pub Blank : List ℕ → Type 0
Blank [] = Unit {0}
Blank (c ∷ cs) = (is_white c ≡ true) × Blank cs

-- Document 01, "trimmed text": the last code point of c ∷ cs.
unfoldable pub last_of : ℕ → List ℕ → ℕ
last_of c [] = c
last_of c (d ∷ ds) = last_of d ds

-- Document 01, "trimmed text": nothing, or a text whose first and last code point are no blanks.
abbrev pub Edges : List ℕ → Type 0
Edges [] = Unit {0}
Edges (c ∷ cs) = (is_white c ≡ false) × (is_white (last_of c cs) ≡ false)

-- RFC 3629, 4: how many octets the text has.
abbrev pub size : List ℕ → ℕ
size cs = length (encoded cs)

-- r is the trimmed place of the code points cs, which stand at `from`. Document 01: "An empty trimmed text sits at its region's start."
pub record Trims (from : ℕ) (cs : List ℕ) (r : Place) : Type 0 where
  pub before : List ℕ
  pub mid : List ℕ
  pub after : List ℕ
  pub parts : cs ≡ before ++ (mid ++ after)
  pub blank_before : Blank before
  pub blank_after : Blank after
  pub edges : Edges mid
  pub empty : mid ≡ [] → before ≡ []
  pub starts : r.from ≡ from + size before
  pub ends : r.to ≡ from + size before + size mid
