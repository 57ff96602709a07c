-- Texts as bytes, and numbers as texts.
use Prim.Native.Char.{code}
use Rattle.std.specs.Prelude.{◌/◌, suc, zero, ℕ, Bool, cond, false, true, List, [], ◌∷◌, ltb}
use Prim.Native.String.{String, [] as no_text, ◌∷◌ as ◌then◌}
use Rattle.io.specs.Digits.{last_digits}

-- the bytes of a text
abbrev pub bytes_in : String → List ℕ
bytes_in no_text = []
bytes_in (c then s) = code c ∷ bytes_in s

-- how many decimal digits a number has: one, and at most so many more
abbrev pub digits_within : ℕ → ℕ → ℕ
digits_within zero n = 1
digits_within (suc most) n = cond (ltb n 10) 1 (suc (digits_within most (n / 10)))

-- a number in decimal digits, as few as hold it; a number of 64 bits has at most 20
unfoldable pub decimal : ℕ → List ℕ
decimal n = last_digits 10 (digits_within 19 n) n

-- "yes or no each"
abbrev pub yes_or_no : Bool → List ℕ
yes_or_no true = bytes_in "yes"
yes_or_no false = bytes_in "no"
