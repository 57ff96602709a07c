-- The signs of a tree with their depths and its carets with their exponents, each with its place in the spelling.
use Rattle.std.specs.Prelude.{◌+◌, ◌<◌, ◌≤◌, ℕ, ◌≡◌, ◌⊎◌, List, [], ◌++◌, ◌∷◌, length}
use Rattle.syntax.specs.Trees.{Power, Product, bracket, group, letter, nothing, plain, raised, spelled, spelled_power}
use Rattle.syntax.specs.TreeWords.{number_of}

-- a byte of a text, and a number that belongs to it: how deep a sign nests, or the exponent after a caret without its minus sign
pub record Occurrence : Type 0 where
  pub place : ℕ
  pub number : ℕ

abbrev pub occurrence : ℕ → ℕ → Occurrence
occurrence k n = record { place = k; number = n }

-- the bytes of a group, and of a bracket, without the power
abbrev pub group_size : Product → ℕ
group_size u = length (spelled u) + 2

abbrev pub bracket_size : Product → Product → ℕ
bracket_size u v = length (spelled u) + 2 + length (spelled v) + 1

-- the place after a factor of so many bytes and its power
abbrev pub after : ℕ → ℕ → Power → ℕ
after k size p = k + size + length (spelled_power p)

-- the signs ( and [ of a product in the order of the text, each with its depth, where the product starts at place k and d signs are open
abbrev pub signs_from : ℕ → ℕ → Product → List Occurrence
signs_from d k nothing = []
signs_from d k (letter x p t) = signs_from d (after k 1 p) t
signs_from d k (group u p t) = occurrence k (d + 1) ∷ (signs_from (d + 1) (k + 1) u ++ signs_from d (after k (group_size u) p) t)
signs_from d k (bracket u v p t) =
    occurrence k (d + 1)
    ∷ (signs_from (d + 1) (k + 1) u ++ (signs_from (d + 1) (k + (length (spelled u) + 2)) v ++ signs_from d (after k (bracket_size u v) p) t))

-- the caret of a power, with its exponent
abbrev pub caret : ℕ → Power → List Occurrence
caret k plain = []
caret k (raised minus d) = occurrence k (number_of d) ∷ []

-- the carets of a product in the order of the text, where the product starts at place k
abbrev pub carets_from : ℕ → Product → List Occurrence
carets_from k nothing = []
carets_from k (letter x p t) = caret (k + 1) p ++ carets_from (after k 1 p) t
carets_from k (group u p t) = carets_from (k + 1) u ++ (caret (k + group_size u) p ++ carets_from (after k (group_size u) p) t)
carets_from k (bracket u v p t) =
    carets_from (k + 1) u
    ++ (carets_from (k + (length (spelled u) + 2)) v ++ (caret (k + bracket_size u v) p ++ carets_from (after k (bracket_size u v) p) t))

abbrev pub signs : Product → List Occurrence
signs t = signs_from 0 0 t

abbrev pub carets : Product → List Occurrence
carets t = carets_from 0 t

-- none of them has a number over n: "Nesting goes to 8 deep, counting both kinds; exponents run from -63 to 63"
abbrev pub NoneOver : ℕ → List Occurrence → Type 0
NoneOver n [] = Unit
NoneOver n (m ∷ ms) = (m.number ≤ n) × NoneOver n ms

-- the first of them whose number is over n stands at place k: "the first such sign's", "the first such caret's"
abbrev pub FirstOver : ℕ → List Occurrence → ℕ → Type 0
FirstOver n [] k = ⊥
FirstOver n (m ∷ ms) k = ((n < m.number) × (m.place ≡ k)) ⊎ ((m.number ≤ n) × FirstOver n ms k)
