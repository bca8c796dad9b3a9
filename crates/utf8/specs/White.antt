-- The blanks for trimming: Unicode White_Space.
use Rattle.std.specs.Prelude.{ℕ, Bool, ◌||◌, eqb}
use Rattle.scan.specs.Scan.{within}

-- Document 01: "A blank for trimming is one of these code points, by ranges: 9 to 13, 32, 133, 160, 5760, 8192 to 8202, 8232, 8233, 8239, 8287, 12288."
unfoldable pub is_white : ℕ → Bool
is_white p =
    within 9 13 p || eqb p 32 || eqb p 133 || eqb p 160 || eqb p 5760 || within 8192 8202 p || eqb p 8232 || eqb p 8233 || eqb p 8239 || eqb p 8287 || eqb p 12288
