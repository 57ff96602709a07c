-- What the search for a leading factor tests and finds, over a system. No call's contract speaks of these.
use Rattle.std.specs.Prelude.{◌<◌, ℕ, Bool, ◌&&◌, ◌||◌, not, List, eqb}
use Rattle.std.specs.Prelude.{IfSome, Option}
use Rattle.words.specs.Alphabet.{bytes}
use Rattle.words.specs.Words.{signed}
use Rattle.systems.specs.Factoring.{ends_other}
use Rattle.systems.specs.declared.Factor.{Factor}
use Rattle.systems.specs.Rules.{any_below, ends, second_half}

-- a factor found is one of the first n slots
abbrev pub LeadBelow : ℕ → Option Factor → Type 0
LeadBelow n r = IfSome r (λ x. x.slot < n)

-- a factor of slot j, whose word is v, other than the factor of slot k, ends with the second half of that: where the one is inverted and
-- the other is not they differ, and otherwise where their slots differ
unfoldable pub ends_apart : ℕ → Bool → List ℕ → ℕ → List ℕ → Bool
ends_apart k b u j v =
    ends bytes (second_half bytes (signed bytes b u)) (signed bytes (not b) v)
    || not (eqb j k) && ends bytes (second_half bytes (signed bytes b u)) (signed bytes b v)

-- a factor other than x, of the first m slots, ends with the second half of x
unfoldable pub ends_elsewhere : ℕ → List (List ℕ) → Factor → Bool
ends_elsewhere m S x = any_below (ends_other bytes S x) m
