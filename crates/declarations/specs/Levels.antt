-- Where a precedence list stands: its keyword, and what lies behind it.
use Rattle.std.specs.Prelude.{ℕ, List}
use Rattle.keywords.specs.declared.Keyword.{Keyword}
use Rattle.keywords.specs.declared.Keyword.TheVariants.{LeftWord, RightWord, NonassocWord}
use Rattle.keywords.specs.Keywords.{seen_at}

-- the keywords of precedence lists, with "1 left, 2 right, 3 nonassoc"
pub data Precedence : Keyword → ℕ → Type 0 where
  left : Precedence LeftWord 1
  right : Precedence RightWord 2
  nonassoc : Precedence NonassocWord 3

-- what stands at an index: a keyword, and the index behind it
abbrev pub keyword : ℕ → List ℕ → ℕ → Keyword
keyword kind src at = (seen_at kind src at).word

abbrev pub behind : ℕ → List ℕ → ℕ → ℕ
behind kind src at = (seen_at kind src at).end
