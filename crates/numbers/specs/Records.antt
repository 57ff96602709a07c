-- Records of numbers, as lists of bytes: "A record of numbers is 128 bytes: 64 signed 16-bit numbers, low byte first". "It has up to 63 numbers
-- from 1 to 1,000 or from -1 to -1,000, then zeros; the last number is always zero."
use Rattle.std.specs.Prelude.{ℕ, ◌+◌, ◌-◌, ◌*◌, ◌/◌, ◌%◌, Bool, not, List, [], ◌++◌, ◌∷◌, drop, eqb, length, replicate, take}
use Rattle.std.specs.List.{flat_map, take_while}
use Rattle.words.specs.Below.{below}

-- the bytes of a number, the low one first
abbrev pub number_bytes : ℕ → List ℕ
number_bytes x = (x % 256) ∷ (x / 256) ∷ []

-- the numbers in some bytes
abbrev pub numbers_in : List ℕ → List ℕ
numbers_in [] = []
numbers_in (low ∷ []) = []
numbers_in (low ∷ high ∷ r) = (low + high * 256) ∷ numbers_in r

abbrev pub is_zero : ℕ → Bool
is_zero x = eqb x 0

-- the word in a record: of its first 63 numbers those before the first zero
abbrev pub numbers_word : List ℕ → List ℕ
numbers_word r = take_while (λ x. not (is_zero x)) (take 63 (numbers_in r))

-- the record that holds a word
abbrev pub numbers_record : List ℕ → List ℕ
numbers_record w = flat_map number_bytes w ++ replicate (128 - length w * 2) 0

-- the record in a slot, the slots counted from 0
abbrev pub numbers_record_at : List ℕ → ℕ → List ℕ
numbers_record_at n k = take 128 (drop (k * 128) n)

-- how many records a system of them has
abbrev pub numbers_slots : List ℕ → ℕ
numbers_slots n = length n / 128

-- the words of a system, one for each slot
abbrev pub numbers_system_of : List ℕ → List (List ℕ)
numbers_system_of n = below (λ k. numbers_word (numbers_record_at n k)) (numbers_slots n)

-- the records of words, one after the other
abbrev pub numbers_bytes_of : List (List ℕ) → List ℕ
numbers_bytes_of ws = flat_map numbers_record ws
