-- Request Twelve, writing: "Writing answers the count of blocks; bytes past them are zero." "Writing refuses 43, 44, then 42 for the blocks (table 18, 0..0), which are zero after each."
use Rattle.std.specs.Prelude.{ℕ, ◌*◌, List, [], ◌∷◌, Bool, true, false, ◌&&◌, leb, length, Result, Ok, Err}
use Rattle.blocks.specs.Blocks.{blocks_for, blocks_of}
use Rattle.tables.specs.Table.{zeroed}
use Rattle.grammar.specs.declared.Counts.{Counts}
use Rattle.grammar.specs.declared.PosixCounts.{PosixCounts}
use Rattle.grammar.specs.declared.Singles.{Singles}
use Rattle.grammar.specs.Sound.{AllTables, Indexes}
use Rattle.catalogue.specs.declared.Head.{Head}
use Rattle.catalogue.specs.Catalogue.{content_size, content, sound_reading}
use Rattle.storing.specs.declared.StoringError.{StoringError}
use Rattle.storing.specs.declared.StoringError.TheVariants.{UnknownKind, StoringUnsound, NoBlocks}

pub record StoreResult : Type 0 where
  pub answer : Result ℕ StoringError
  pub blocks : List ℕ

-- the head of what is written
abbrev pub head_with : List ℕ → ℕ → Counts → PosixCounts → Singles → Head
head_with src kind c p g = record { kind = kind; counts = c; posix = p; length = length src; singles = g }

-- how many blocks a reading takes
abbrev pub block_count : List ℕ → Counts → PosixCounts → ℕ
block_count src c p = blocks_for (content_size c p (length src))

-- "42 for the blocks"
abbrev pub stored_room : Bool → ℕ → List ℕ → List ℕ → StoreResult
stored_room true n b out = record { answer = Ok n; blocks = blocks_of b out }
stored_room false n b out = record { answer = Err NoBlocks; blocks = zeroed out }

abbrev pub stored_sound : Bool → ℕ → List ℕ → List ℕ → StoreResult
stored_sound true n b out = stored_room (leb (n * 512) (length out)) n b out
stored_sound false n b out = record { answer = Err StoringUnsound; blocks = zeroed out }

abbrev pub stored_kind : Bool → Bool → ℕ → List ℕ → List ℕ → StoreResult
stored_kind true sound n b out = stored_sound sound n b out
stored_kind false sound n b out = record { answer = Err UnknownKind; blocks = zeroed out }

unfoldable pub store_all : List ℕ → ℕ → Counts → PosixCounts → Singles → AllTables → Indexes → List ℕ → StoreResult
store_all src kind c p g T X out =
    stored_kind (leb 1 kind && leb kind 4) (sound_reading src c p g T X) (block_count src c p) (content (head_with src kind c p g) T src) out

-- number, place and table of an answer, and how many blocks were written
abbrev pub storing_numbers : Result ℕ StoringError → List ℕ
storing_numbers (Ok n) = 0 ∷ 0 ∷ 0 ∷ 0 ∷ n ∷ []
storing_numbers (Err UnknownKind) = 43 ∷ 0 ∷ 0 ∷ 0 ∷ 0 ∷ []
storing_numbers (Err StoringUnsound) = 44 ∷ 0 ∷ 0 ∷ 0 ∷ 0 ∷ []
storing_numbers (Err NoBlocks) = 42 ∷ 0 ∷ 0 ∷ 18 ∷ 0 ∷ []
