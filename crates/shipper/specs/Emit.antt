-- Request eleven: the text is written as it is made, as far as there is room, and counted; past 65,536 bytes it is too long, and the count stays at 65,537.
use Rattle.std.specs.Prelude.{ℕ, ◌+◌, List, [], ◌∷◌, true, false, ltb, set}
use Rattle.shipper.specs.Ship.{Shipped}

pub record Emitted : Type 0 where
  pub n : ℕ
  pub cells : List ℕ

unfoldable pub next_count : ℕ → ℕ
next_count n = elim (ltb n 65537) [ true ↦ n + 1 | false ↦ n ]

unfoldable pub emit : List ℕ → ℕ → List ℕ → Emitted
emit [] n cells = record { n = n; cells = cells }
emit (b ∷ bs) n cells = emit bs (next_count n) (set cells n b)

-- a step of the shipping: where it comes to stand, and what it wrote
pub record Wrote : Type 0 where
  pub at : ℕ
  pub n : ℕ
  pub cells : List ℕ

abbrev pub wrote : Shipped → ℕ → List ℕ → Wrote
wrote o n cells = record { at = o.at; n = (emit o.text n cells).n; cells = (emit o.text n cells).cells }
