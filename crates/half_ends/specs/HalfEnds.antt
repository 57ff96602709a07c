-- What the search for a half-end move tests. No call's contract speaks of these. The first half of the
-- inverse of a word of even length is the inverse of its second half.
use Rattle.std.specs.Prelude.{ℕ, Bool, ◌||◌, List}
use Rattle.words.specs.Alphabet.{bytes}
use Rattle.words.specs.Words.{inverse, signed}
use Rattle.systems.specs.Products.{word}
use Rattle.systems.specs.Rules.{any_below, begins, elsewhere, first_half}

-- a word v or its inverse begins with the first half of w, or of the inverse of w
unfoldable pub meets_half : Bool → List ℕ → List ℕ → Bool
meets_half b w v = begins bytes (first_half bytes (signed bytes b w)) v || begins bytes (first_half bytes (signed bytes b w)) (inverse bytes v)

-- another of the first m slots has such a word, for that of slot h
unfoldable pub half_elsewhere : Bool → ℕ → List (List ℕ) → ℕ → Bool
half_elsewhere b m S h = any_below (elsewhere bytes S h (first_half bytes (signed bytes b (word bytes S h)))) m
