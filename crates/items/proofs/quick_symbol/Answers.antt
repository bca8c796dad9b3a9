-- `items::quick_symbol`: the first byte tells the sort.
use native.Mathlib.Omega.{arith}
use Rattle.items.proofs.Runs.{sort_quoted, sort_bare}
use Rattle.items.proofs.quick_symbol.Goals as goal

pub quick_quoted-requires : goal.quick_quoted-requires
quick_quoted-requires c = (c.requires.0, c.requires.1, sort_quoted _ _ c.if-src-at.false c.in-34.is)

pub quick_bare-requires : goal.quick_bare-requires
quick_bare-requires c =
    (c.requires.0, c.requires.1, sort_bare _ _ c.if-src-at.false (λ e. omega arith) (λ e. omega arith) (λ a b. omega arith))
