-- Document 01: "Reached rows are kept as one bit each, 32 to a word, [..] lowest bit first".
use Rattle.std.specs.Prelude.{ℕ, zero, suc, ◌+◌, ◌*◌, ◌/◌, ◌%◌, ◌^◌, ◌≡◌, List, length, get_or, set}
use Rattle.std.specs.Int.Bits.{bit_or}

-- bit k of the words: bit k % 32 of word k / 32, a number below 2; 0 past the words
unfoldable pub bit : List ℕ → ℕ → ℕ
bit ws k = get_or ws (k / 32) 0 / 2 ^ (k % 32) % 2

-- the words with bit k set; as they were, where they do not reach so far
unfoldable pub set_bit : ℕ → List ℕ → List ℕ
set_bit k ws = set ws (k / 32) (bit_or (get_or ws (k / 32) 0) (2 ^ (k % 32)))

-- how many of the bits below n are 1
unfoldable pub ones_to : List ℕ → ℕ → ℕ
ones_to ws zero = 0
ones_to ws (suc n) = ones_to ws n + bit ws n

-- how many bits are 1
unfoldable pub ones : List ℕ → ℕ
ones ws = ones_to ws (length ws * 32)

-- vs is ws with bit k set
pub record BitSet (k : ℕ) (ws vs : List ℕ) : Type 0 where
  pub size : length vs ≡ length ws
  pub there : bit vs k ≡ 1
  pub others : (j : ℕ) → (j ≡ k → ⊥) → bit vs j ≡ bit ws j
