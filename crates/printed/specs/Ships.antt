-- Request eleven: what is shipped of a declaration is read as the declaration that it was.
use Rattle.std.specs.Prelude.{ℕ, ◌≡◌, List, drop}
use Rattle.grammar.specs.declared.State.{State}
use Rattle.grammar.specs.declared.Answer.{Answer}
use Rattle.grammar.specs.declared.Answer.TheVariants.{Going}
use Rattle.grammar.specs.Sound.{AllTables}
use Rattle.alike.specs.Like.{Near}

-- Two readings behind a declaration, of which the first stands at k and the second goes on: they are alike, before the second the rest of its source is left, and up to there stands the declaration.
pub record Ships (src out rest : List ℕ) (k : ℕ) (There : ℕ → Type 0) (x y : State) (answer : Answer) (T W : AllTables) : Type 0 where
  pub here : x.at ≡ k
  pub going : answer ≡ Going
  pub near : Near src out x y T W
  pub left : drop y.at out ≡ rest
  pub there : There y.at
