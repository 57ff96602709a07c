-- Freely reduced words of at most 63 letters as values: products, powers and commutators of such words. No call's contract speaks of it.
use Rattle.std.specs.Prelude.{ℕ, Bool, cond, List, ◌++◌, None, Option, Some, option_and_then}
use Rattle.words.specs.Alphabet.{bytes}
use Rattle.words.specs.Words.{freely_reduce, signed}
use Rattle.syntax.specs.TreeWords.{commutator, times}
use Rattle.syntax.specs.Rules.{short}

-- a word freely reduced, none where it is too long then
unfoldable pub within : List ℕ → Option (List ℕ)
within w = cond (short w) (Some (freely_reduce bytes w)) None

-- one word after the other
abbrev pub join_of : Option (List ℕ) → Option (List ℕ) → Option (List ℕ)
join_of first second = option_and_then (λ u. option_and_then (λ v. within (u ++ v)) second) first

abbrev pub commute_of : Option (List ℕ) → Option (List ℕ) → Option (List ℕ)
commute_of first second = option_and_then (λ u. option_and_then (λ v. within (commutator u v)) second) first

-- a word, or its inverse, so many times
abbrev pub raise_of : Bool → ℕ → Option (List ℕ) → Option (List ℕ)
raise_of minus n word = option_and_then (λ w. within (times n (signed bytes minus w))) word
