-- `catalogue::head_in`: the 39 numbers fill the cells.
use Prim.Native.Nat.{ℕ}
use mathlib.Core.Path.{◌∙◌, ap}
use mathlib.Core.List.{List}
use Rattle.blocks.specs.Blocks.{content_of}
use Rattle.catalogue.specs.Catalogue.{head_of}
use Rattle.catalogue.proofs.Laws.{read_head}
use Rattle.catalogue.proofs.head_in.Goals as goal

pub returns : goal.returns
returns c = c.head_of.ensures ∙ ap (λ (m : List ℕ). head_of m) (read_head (content_of c.args.s.now) _ c.get_numbers.ensures)
