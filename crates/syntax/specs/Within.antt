-- The limits on nesting and exponents by the parts of a tree, without places. No call's contract speaks of it.
use Rattle.std.specs.Prelude.{◌≤◌, suc, zero, ℕ}
use Rattle.syntax.specs.Trees.{Power, Product, bracket, group, letter, nothing, plain, raised}
use Rattle.syntax.specs.TreeWords.{number_of}

-- a product nests at most n deep
abbrev pub NestsWithin : ℕ → Product → Type 0
NestsWithin n nothing = Unit
NestsWithin n (letter x p t) = NestsWithin n t
NestsWithin zero (group u p t) = ⊥
NestsWithin (suc n) (group u p t) = NestsWithin n u × NestsWithin (suc n) t
NestsWithin zero (bracket u v p t) = ⊥
NestsWithin (suc n) (bracket u v p t) = NestsWithin n u × NestsWithin n v × NestsWithin (suc n) t

-- its exponents run from -63 to 63
abbrev pub PowerWithin : Power → Type 0
PowerWithin plain = Unit
PowerWithin (raised minus d) = number_of d ≤ 63

abbrev pub PowersWithin : Product → Type 0
PowersWithin nothing = Unit
PowersWithin (letter x p t) = PowerWithin p × PowersWithin t
PowersWithin (group u p t) = PowersWithin u × PowerWithin p × PowersWithin t
PowersWithin (bracket u v p t) = PowersWithin u × PowersWithin v × PowerWithin p × PowersWithin t
