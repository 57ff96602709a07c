-- What is kept and counted of the program's input, which comes in parts: "Input of every length is read to its end; the first 1,088 bytes are
-- all that is kept."
use Rattle.std.specs.Prelude.{◌%◌, ◌+◌, ◌-◌, ◌<◌, min, ℕ, cond, List, ◌⊎◌, ◌≡◌, leb, get_or, length, take}
use Rattle.words.specs.Buffers.{written_at}

-- a length as it is counted: exact up to 1,088, the bytes of 17 records; over that 1,152 plus the remainder by 64, which is over 1,088 too
unfoldable pub counted : ℕ → ℕ
counted n = cond (leb n 1088) n (1152 + n % 64)

-- the buffer after the next part of an input of which so many bytes came before: it goes after those, up to 1,088 bytes and as far as there
-- is room
abbrev pub kept_after : List ℕ → List ℕ → ℕ → List ℕ
kept_after next kept size = written_at size (take (min 1088 (length kept) - size) next) kept

-- what a count tells of a length: it is the length, or both are over 1,088 with the same remainder by 64
abbrev pub CountOf : ℕ → ℕ → Type 0
CountOf n size = (size ≡ n) ⊎ ((1088 < size) × (1088 < n) × (size % 64 ≡ n % 64))

-- what the bytes kept and the count tell of an input
pub record Holds (input kept : List ℕ) (size : ℕ) : Type 0 where
  -- the kept bytes are its first ones, up to 1,088 and as far as there is room
  pub first : (i : ℕ) → i < length input → i < length kept → i < 1088 → get_or kept i 0 ≡ get_or input i 0
  pub count : CountOf (length input) size

-- they tell of some input: this says no more than that enough bytes are kept for the count
pub record ReadInput (kept : List ℕ) (size : ℕ) : Type 0 where
  pub input : List ℕ
  pub holds : Holds input kept size
