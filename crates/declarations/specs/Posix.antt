-- Document 02, request Nine: tables 15 to 17 are kind 4's; what of them a reading under way leaves as it was.
use Rattle.std.specs.Prelude.{◌≡◌}
use Rattle.grammar.specs.declared.State.{State}
use Rattle.declarations.specs.Declarations.{Declared, Out}

-- tables 15 to 17 and their counts, and the kind
pub record PosixLeft (s : State) (D : Declared) (o : Out) : Type 0 where
  pub kind : o.state.kind ≡ s.kind
  pub counts : o.state.posix ≡ s.posix
  pub tags : o.tables.t15 ≡ D.t15
  pub numbers : o.tables.t16 ≡ D.t16
  pub bodies : o.tables.t17 ≡ D.t17
