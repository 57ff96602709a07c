-- How many moves the rules make at most on a system of freely reduced words.
use Rattle.std.specs.Prelude.{ℕ, ◌+◌, ◌-◌, ◌*◌, List, [], ◌∷◌, length}

-- the letters of the words of a system, in all
abbrev pub letters_of : {A : Type 0} → List (List A) → ℕ
letters_of [] = 0
letters_of (w ∷ S) = length w + letters_of S

-- on m words of g letters in all: "2 times m times (m - 1) times (g + 1), plus g"
abbrev pub most_moves : ℕ → ℕ → ℕ
most_moves m g = 2 * m * (m - 1) * (g + 1) + g
