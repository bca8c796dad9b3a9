-- Document 02, request Eleven: "Reading the result gives the same tables and singles, places aside".
use Rattle.std.specs.Prelude.{ℕ, ◌+◌, ◌<◌, ◌≡◌, List, length, get_or, Ok}
use Rattle.tables.specs.Layout.{repeats}
use Rattle.grammar.specs.Sound.{cells_of}
use Rattle.reader.specs.Read.{ReadResult}
use Rattle.alike.specs.Like.{Table, LikeSingles}
use Rattle.printed.specs.Decls.{Decl, Section1}
use Rattle.printed_rules.specs.Rules.{Rule, Programs, Rest1}

-- A source of kinds 1 to 3 as a text, without the tables and the loops of its reading: spacing and declarations, the `%%`, rules, and programs or none.
pub record Specified (kind : ℕ) (src : List ℕ) : Type 0 where
  pub decls : List Decl
  pub rules : List Rule
  pub programs : Programs
  -- where the declarations end
  pub to : ℕ
  pub section : Section1 kind src 0 to decls
  pub rest : Rest1 kind src to rules programs

-- What two reads came to, one of a source and one of what it is shipped as: the second is accepted and reaches its end; counts, singles and all tables are the same, each place taken for the bytes that it denotes, but for a
-- production's own place, which runs over spacing; and so are the indexes, slot by slot.
pub record Reread (src out : List ℕ) (a b : ReadResult) : Type 0 where
  pub accepted : b.answer ≡ Ok (length out)
  pub counts : a.counts ≡ b.counts
  pub posix : a.posix ≡ b.posix
  pub singles : LikeSingles src out a.singles b.singles
  pub tables : (k : ℕ) → k < repeats + 1 → Table src out k (get_or a.counts.n k 0) (cells_of a.tables k) (cells_of b.tables k)
  pub indexes : a.indexes ≡ b.indexes
