-- Request Twelve: "A block has 512 bytes: number from 0 (4 bytes, low first), 504 of content, 4 of check." The numbers 512, 504 and 65,535 stand as they are, for arithmetic to see them.
use Rattle.std.specs.Prelude.{ℕ, zero, suc, ◌+◌, ◌*◌, ◌/◌, ◌%◌, ◌-◌, ◌≤◌, ◌<◌, ◌≡◌, List, [], ◌∷◌, ◌++◌, Bool, true, false, ◌&&◌, eqb, length, get_or, set, drop, replicate, Result, Ok, Err}
use Rattle.tables.specs.Below.{below}
use Rattle.tables.specs.Table.{put}
use Rattle.blocks.specs.declared.Sums.{Sums}
use Rattle.blocks.specs.declared.BlockFault.{BlockFault}
use Rattle.blocks.specs.declared.BlockFault.TheVariants.{WrongNumber, WrongCheck}

-- ---- numbers as bytes

-- "Each number takes four bytes, low first"
abbrev pub bytes_of : ℕ → List ℕ
bytes_of v = v % 256 ∷ v / 256 % 256 ∷ v / 65536 % 256 ∷ v / 16777216 ∷ []

-- several, one behind the other
unfoldable pub bytes_of_all : List ℕ → List ℕ
bytes_of_all [] = []
bytes_of_all (v ∷ vs) = bytes_of v ++ bytes_of_all vs

-- the number whose bytes stand from index i on, and n numbers
unfoldable pub word_in : List ℕ → ℕ → ℕ
word_in b i = get_or b i 0 + 256 * get_or b (i + 1) 0 + 65536 * get_or b (i + 2) 0 + 16777216 * get_or b (i + 3) 0

unfoldable pub words_in : List ℕ → ℕ → ℕ → List ℕ
words_in b i zero = []
words_in b i (suc n) = word_in b i ∷ words_in b (i + 4) n

-- ---- content

-- where content byte i stands: behind the number of its block
unfoldable pub content_at : ℕ → ℕ
content_at i = i / 504 * 512 + 4 + i % 504

-- the first n bytes of content, and those of all whole blocks
unfoldable pub content_to : ℕ → List ℕ → List ℕ
content_to zero s = []
content_to (suc n) s = content_to n s ++ (get_or s (content_at n) 0 ∷ [])

abbrev pub capacity : List ℕ → ℕ
capacity s = length s / 512 * 504

unfoldable pub content_of : List ℕ → List ℕ
content_of s = content_to (capacity s) s

-- bytes put into the content from its byte i on
unfoldable pub put_content : List ℕ → ℕ → List ℕ → List ℕ
put_content s i [] = s
put_content s i (v ∷ vs) = put_content (set s (content_at i) v) (i + 1) vs

-- whether the n bytes of b from index i on are zero
unfoldable pub zero_bytes : List ℕ → ℕ → ℕ → Bool
zero_bytes b i n = below n (λ j. eqb (get_or b (i + j) 0) 0)

-- ---- the check

-- "two 16-bit sums over the 254 low-first words before it, modulo 65,535: the first starts at 1 and adds words, the second at 0 and adds the first after each"
abbrev pub add_word : Sums → ℕ → ℕ → Sums
add_word c lo hi = record { first = (c.first + lo + 256 * hi) % 65535; second = (c.second + (c.first + lo + 256 * hi) % 65535) % 65535 }

unfoldable pub sums_from : ℕ → List ℕ → ℕ → Sums → Sums
sums_from zero s at c = c
sums_from (suc n) s at c = sums_from n s (at + 2) (add_word c (get_or s at 0) (get_or s (at + 1) 0))

unfoldable pub sums_of : List ℕ → ℕ → Sums
sums_of s at = sums_from 254 s at (record { first = 1; second = 0 })

-- the same sums without a remainder on the way
unfoldable pub plain_from : ℕ → List ℕ → ℕ → Sums → Sums
plain_from zero s at c = c
plain_from (suc n) s at c =
    plain_from n s (at + 2) (record { first = c.first + get_or s at 0 + 256 * get_or s (at + 1) 0; second = c.second + (c.first + get_or s at 0 + 256 * get_or s (at + 1) 0) })

-- "both stored low first"
abbrev pub pair_at : List ℕ → ℕ → ℕ
pair_at s k = get_or s k 0 + 256 * get_or s (k + 1) 0

unfoldable pub ok_at : List ℕ → ℕ → Bool
ok_at s at = eqb (pair_at s (at + 508)) (sums_of s at).first && eqb (pair_at s (at + 510)) (sums_of s at).second

-- "block by block 61 wrong number and 62 wrong check"
unfoldable pub block_fault : List ℕ → ℕ → Result (Unit {0}) BlockFault
block_fault s k = elim (eqb (word_in s (k * 512)) k) [ true ↦ elim (ok_at s (k * 512)) [ true ↦ Ok tt | false ↦ Err WrongCheck ] | false ↦ Err WrongNumber ]

-- the first fault of n blocks
abbrev pub or_else : Result (Unit {0}) BlockFault → Result (Unit {0}) BlockFault → Result (Unit {0}) BlockFault
or_else (Ok _) f = f
or_else (Err WrongNumber) f = Err WrongNumber
or_else (Err WrongCheck) f = Err WrongCheck

unfoldable pub first_fault : ℕ → List ℕ → Result (Unit {0}) BlockFault
first_fault zero s = Ok tt
first_fault (suc n) s = or_else (first_fault n s) (block_fault s n)

-- What each answer says of block k. A wrong check is told only where the number is right.
abbrev pub BlockHas : Result (Unit {0}) BlockFault → List ℕ → ℕ → Type 0
BlockHas (Ok _) s k = (word_in s (k * 512) ≡ k) × (ok_at s (k * 512) ≡ true)
BlockHas (Err WrongNumber) s k = word_in s (k * 512) ≡ k → ⊥
BlockHas (Err WrongCheck) s k = (word_in s (k * 512) ≡ k) × (ok_at s (k * 512) ≡ false)

-- The first fault of n blocks, without a search: one of them has it, where every earlier block is right.
pub record FaultAt (n : ℕ) (s : List ℕ) (f : Result (Unit {0}) BlockFault) : Type 0 where
  pub block : ℕ
  pub inside : block < n
  pub earlier : (j : ℕ) → j < block → BlockHas (Ok tt) s j
  pub here : BlockHas f s block

-- ---- what a block is closed with: its number, and then its check
abbrev pub seal_with : List ℕ → ℕ → Sums → List ℕ
seal_with s at c = set (set (set (set s (at + 508) (c.first % 256)) (at + 509) (c.first / 256)) (at + 510) (c.second % 256)) (at + 511) (c.second / 256)

unfoldable pub seal_at : List ℕ → ℕ → List ℕ
seal_at s at = seal_with s at (sums_of s at)

unfoldable pub seal_block : List ℕ → ℕ → List ℕ
seal_block s k = seal_at (put s (k * 512) (bytes_of k)) (k * 512)

unfoldable pub seal_all : ℕ → List ℕ → List ℕ
seal_all zero s = s
seal_all (suc n) s = seal_block (seal_all n s) n

-- ---- blocks

-- "The last block is padded with zeros": how many blocks so many bytes of content take
abbrev pub blocks_for : ℕ → ℕ
blocks_for n = (n + 503) / 504

-- what is written where there is room for the blocks: the content, and every block closed
unfoldable pub blocks_of : List ℕ → List ℕ → List ℕ
blocks_of b out = seal_all (blocks_for (length b)) (put_content (replicate (length out) 0) 0 b)

-- The blocks that hold a content, without saying how they are written: every byte is determined.
pub record Stored (b out : List ℕ) : Type 0 where
  pub room : blocks_for (length b) * 512 ≤ length out
  pub content : content_to (blocks_for (length b) * 504) out ≡ b ++ replicate (blocks_for (length b) * 504 - length b) 0
  pub right : first_fault (blocks_for (length b)) out ≡ Ok tt
  -- "bytes past them are zero"
  pub behind : drop (blocks_for (length b) * 512) out ≡ replicate (length out - blocks_for (length b) * 512) 0
  pub bytes : (i : ℕ) → get_or out i 0 < 256

-- document 02's numbers
abbrev pub block_fault_number : Result (Unit {0}) BlockFault → ℕ
block_fault_number (Ok _) = 0
block_fault_number (Err WrongNumber) = 61
block_fault_number (Err WrongCheck) = 62
