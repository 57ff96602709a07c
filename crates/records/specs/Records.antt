-- One record, as a list of bytes: the word in it, and the bytes that hold a given word.
use Rattle.std.specs.Prelude.{◌-◌, ◌≡◌, ℕ, Bool, true, ◌&&◌, ◌||◌, cond, not, List, [], ◌++◌, ◌∷◌, eqb, leb, length, replicate, take}
use Rattle.words.specs.Words.{Each}

-- "A generator is one of a to z; its inverse is the capital."
abbrev pub is_letter : ℕ → Bool
is_letter b = leb 65 b && leb b 90 || leb 97 b && leb b 122

-- a word of letters alone
abbrev pub AllLetters : List ℕ → Type 0
AllLetters w = Each (λ b. is_letter b ≡ true) w

-- a full stop, 0x2E
abbrev pub is_stop : ℕ → Bool
is_stop b = eqb b 46

abbrev pub is_letter_or_stop : ℕ → Bool
is_letter_or_stop b = is_letter b || is_stop b

abbrev pub not_letter : ℕ → Bool
not_letter b = not (is_letter b)

-- a list of full stops
abbrev pub blanks : ℕ → List ℕ
blanks n = replicate n 46

-- "A record is 64 bytes: the letters, then full stops (0x2E) up to byte 62, then a line feed (0x0A) at byte 63."
abbrev pub record_of : List ℕ → List ℕ
record_of w = w ++ (blanks (63 - length w) ++ (10 ∷ []))

-- the bytes before the first full stop
abbrev pub before_stop : List ℕ → List ℕ
before_stop [] = []
before_stop (b ∷ r) = cond (is_stop b) [] (b ∷ before_stop r)

-- the word in a record; "A blank record has 63 full stops and is the empty word."
abbrev pub word_of : List ℕ → List ℕ
word_of r = before_stop (take 63 r)
