-- The singles with one of them given.
use Rattle.std.specs.Prelude.{Bool, true, false, Option, ℕ}
use Rattle.grammar.specs.declared.Singles.{Singles}

abbrev pub with_start : Singles → Option (ℕ × ℕ) → Singles
with_start g p = record { start = p; expect = g.expect; expect_rr = g.expect_rr; param = g.param; generics = g.generics; programs = g.programs }

-- "`%expect_rr`" where rr, else "`%expect`"
abbrev pub with_expected : Singles → Bool → Option (ℕ × ℕ × ℕ) → Singles
with_expected g true e = record { start = g.start; expect = g.expect; expect_rr = e; param = g.param; generics = g.generics; programs = g.programs }
with_expected g false e = record { start = g.start; expect = e; expect_rr = g.expect_rr; param = g.param; generics = g.generics; programs = g.programs }

abbrev pub expected_of : Bool → Singles → Option (ℕ × ℕ × ℕ)
expected_of true g = g.expect_rr
expected_of false g = g.expect

abbrev pub with_param : Singles → Option (ℕ × ℕ × ℕ × ℕ) → Singles
with_param g p = record { start = g.start; expect = g.expect; expect_rr = g.expect_rr; param = p; generics = g.generics; programs = g.programs }

abbrev pub with_generics : Singles → Option (ℕ × ℕ) → Singles
with_generics g p = record { start = g.start; expect = g.expect; expect_rr = g.expect_rr; param = g.param; generics = p; programs = g.programs }
