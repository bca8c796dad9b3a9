-- Document 02, request Eight: "rows stay for rules reached from the start or from an excused rule, their productions and symbols, the tokens those use, and excused tokens".
use Rattle.std.specs.Prelude.{ℕ, ◌+◌, ◌<◌, ◌^◌, ◌≡◌, List, get_or}
use Rattle.bits.specs.Bits.{bit}
use Rattle.reach.specs.Reach.{Grammar, Begins, Chain, Uses}
use Rattle.usage.specs.Report.{Excuses, ExcusedRow}

-- where a chain may begin: "the start or [..] an excused rule"
pub data Root (g : Grammar) (x : Excuses) (r : ℕ) : Type 0 where
  start_rule : Begins g.net.src g.rules g.start r → Root g x r
  excused_rule : r < g.rules.sort.count → ExcusedRow x g.rules r → Root g x r

-- "rules reached" from there
pub record StaysRule (g : Grammar) (x : Excuses) (r : ℕ) : Type 0 where
  pub root : ℕ
  pub begins : Root g x root
  pub chain : Chain g.net g.rules root r

-- "the tokens those use", by a symbol or by a `%prec`, "and excused tokens"
pub data StaysToken (g : Grammar) (x : Excuses) (t : ℕ) : Type 0 where
  used_token : (by : ℕ) → StaysRule g x by → Uses g by t → StaysToken g x t
  excused_token : t < g.tokens.sort.count → ExcusedRow x g.tokens t → StaysToken g x t

-- "The work bits then mark the rows that stayed, by their old numbers."
pub data Staying (g : Grammar) (x : Excuses) (k : ℕ) : Type 0 where
  rule : k < g.rules.sort.count → StaysRule g x k → Staying g x k
  token : (t : ℕ) → t < g.tokens.sort.count → k ≡ g.tokens.sort.base + t → StaysToken g x t → Staying g x k

-- a 1 for each row that stays, and no other
pub record StayWork (g : Grammar) (x : Excuses) (ws : List ℕ) : Type 0 where
  pub words : (i : ℕ) → get_or ws i 0 < 2 ^ 32
  pub only : (k : ℕ) → bit ws k ≡ 1 → Staying g x k
  pub all : (k : ℕ) → Staying g x k → bit ws k ≡ 1
