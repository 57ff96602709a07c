-- The word that a tree stands for, before free reduction, and the words in it that refusal 12 measures.
use Rattle.std.specs.Prelude.{◌*◌, ◌+◌, ◌-◌, ◌<◌, suc, zero, ℕ, ◌⊎◌, List, [], ◌++◌, ◌∷◌, length}
use Rattle.words.specs.Alphabet.{bytes}
use Rattle.words.specs.Words.{freely_reduce, inverse, signed}
use Rattle.syntax.specs.Trees.{Digits, Power, Product, bracket, group, letter, nothing, one, plain, raised, two}

-- the number that digits write: 48 is the digit 0
abbrev pub number_of : Digits → ℕ
number_of (one d) = d - 48
number_of (two d e) = (d - 48) * 10 + (e - 48)

-- a word so many times
abbrev pub times : ℕ → List ℕ → List ℕ
times zero w = []
times (suc n) w = w ++ times n w

-- a factor's word with its power: so many times the word or, under a minus sign, its inverse; "power 0 give the empty word"
abbrev pub powered : Power → List ℕ → List ℕ
powered plain w = w
powered (raised minus d) w = times (number_of d) (signed bytes minus w)

-- [u,v]: "the inverse of u, the inverse of v, u, v"
abbrev pub commutator : List ℕ → List ℕ → List ℕ
commutator u v = inverse bytes u ++ (inverse bytes v ++ (u ++ v))

-- the word of a product: those of its factors, one after the other; "Parentheses only group", "Empty text .. give the empty word"
abbrev pub tree_word : Product → List ℕ
tree_word nothing = []
tree_word (letter x p t) = powered p (x ∷ []) ++ tree_word t
tree_word (group u p t) = powered p (tree_word u) ++ tree_word t
tree_word (bracket u v p t) = powered p (commutator (tree_word u) (tree_word v)) ++ tree_word t

-- a factor's word f "with or without its power", and the beginning of the product that ends with it
abbrev pub factor_measured : List ℕ → Power → List ℕ → List (List ℕ)
factor_measured before p f = f ∷ powered p f ∷ (before ++ powered p f) ∷ []

-- the words that 12 measures: "any factor, with or without its power, or any beginning of a product"; before is the word of the
-- earlier factors of the same product
abbrev pub measured_after : List ℕ → Product → List (List ℕ)
measured_after before nothing = []
measured_after before (letter x p t) = factor_measured before p (x ∷ []) ++ measured_after (before ++ powered p (x ∷ [])) t
measured_after before (group u p t) =
    measured_after [] u ++ (factor_measured before p (tree_word u) ++ measured_after (before ++ powered p (tree_word u)) t)
measured_after before (bracket u v p t) =
    let f = commutator (tree_word u) (tree_word v) in
    measured_after [] u ++ (measured_after [] v ++ (factor_measured before p f ++ measured_after (before ++ powered p f) t))

abbrev pub measured : Product → List (List ℕ)
measured t = measured_after [] t

-- one of them "freely reduces to over 63 letters"
abbrev pub SomeOver : List (List ℕ) → Type 0
SomeOver [] = ⊥
SomeOver (w ∷ ws) = (63 < length (freely_reduce bytes w)) ⊎ SomeOver ws
