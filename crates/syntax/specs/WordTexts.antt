-- The text of a word: "a run of two or more equal letters becomes one power of the small letter with a signed exponent in fewest digits, a
-- single letter stays".
use Rattle.std.specs.Prelude.{◌%◌, ◌+◌, ◌/◌, ◌≤◌, ℕ, ◌≡◌, cond, List, [], ◌++◌, ◌∷◌, eqb, ltb}
use Rattle.syntax.specs.Trees.{spelled_minus}
use Rattle.syntax.specs.TreeWords.{times}

-- a run of equal letters: which, and how many
pub record Run : Type 0 where
  pub letter : ℕ
  pub count : ℕ

abbrev pub run : ℕ → ℕ → Run
run x n = record { letter = x; count = n }

-- the word that a row of runs makes
abbrev pub unrolled : List Run → List ℕ
unrolled [] = []
unrolled (r ∷ rs) = times r.count (r.letter ∷ []) ++ unrolled rs

-- the runs of a word are as long as can be: none is empty, and no two neighbours are of one letter
abbrev pub Maximal : List Run → Type 0
Maximal [] = Unit
Maximal (r ∷ []) = 1 ≤ r.count
Maximal (r ∷ s ∷ rs) = (1 ≤ r.count) × (r.letter ≡ s.letter → ⊥) × Maximal (s ∷ rs)

pub record RunsOf (w : List ℕ) (rs : List Run) : Type 0 where
  pub maximal : Maximal rs
  pub word : unrolled rs ≡ w

-- a letter before a word with these runs
abbrev pub add_letter : ℕ → List Run → List Run
add_letter x [] = run x 1 ∷ []
add_letter x (r ∷ rs) = cond (eqb x r.letter) (run x (r.count + 1) ∷ rs) (run x 1 ∷ r ∷ rs)

-- the runs of a word
abbrev pub runs : List ℕ → List Run
runs [] = []
runs (x ∷ w) = add_letter x (runs w)

-- a number below 100 "in fewest digits"
abbrev pub numeral : ℕ → List ℕ
numeral n = cond (ltb n 10) ((48 + n) ∷ []) ((48 + n / 10) ∷ (48 + n % 10) ∷ [])

-- the small letter of a letter: a capital stands before 97
abbrev pub small_of : ℕ → ℕ
small_of x = cond (ltb x 97) (x + 32) x

-- the small letter, a caret (94), and a minus sign for a capital
abbrev pub power_text : ℕ → List ℕ
power_text x = small_of x ∷ 94 ∷ spelled_minus (ltb x 97)

-- the text of a run: the letter, or a power of the small letter
abbrev pub run_text : Run → List ℕ
run_text r = cond (eqb r.count 1) (r.letter ∷ []) (power_text r.letter ++ numeral r.count)

abbrev pub runs_text : List Run → List ℕ
runs_text [] = []
runs_text (r ∷ rs) = run_text r ++ runs_text rs

-- the text of a word
unfoldable pub text_of : List ℕ → List ℕ
text_of w = runs_text (runs w)
