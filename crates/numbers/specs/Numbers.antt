-- Signed generator numbers, as letters: "the generators are the numbers 1 to 1,000, and the inverse of x is -x." A number is held in 16
-- bits, "a negative number -x as 65,536 - x".
use Rattle.std.specs.Prelude.{ℕ, ◌+◌, ◌-◌, ◌%◌, Bool, ◌&&◌, cond, eqb, leb, ltb, min}
use Rattle.words.specs.Alphabet.{Alphabet}

-- -x for x; above 65,535, which no lent number is, the number itself
unfoldable pub flip_number : ℕ → ℕ
flip_number x = cond (ltb x 65536) ((65536 - x) % 65536) x

-- the numbers as letters of words, each with its inverse
abbrev pub signed_numbers : Alphabet ℕ
signed_numbers = record { flip = flip_number; same = eqb }

-- the absolute value: x for a number x, and for -x
abbrev pub absolute_value : ℕ → ℕ
absolute_value x = min x (65536 - x)

-- "numbers from 1 to 1,000 or from -1 to -1,000"
abbrev pub is_number : ℕ → Bool
is_number x = leb 1 (absolute_value x) && leb (absolute_value x) 1000

-- a number "from -26 to 26", 0 too
abbrev pub within_26 : ℕ → Bool
within_26 x = leb (absolute_value x) 26

-- "a is 1, A is -1, z is 26": the remainder of the letter's byte divided by 32, as 97 is a and 65 is A
unfoldable pub letter_number : ℕ → ℕ
letter_number letter = cond (leb 97 letter) (letter % 32) (flip_number (letter % 32))

-- the letter of a number within 26
unfoldable pub number_letter : ℕ → ℕ
number_letter x = cond (leb x 26) (96 + x) (64 + flip_number x % 32)
