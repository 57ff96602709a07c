-- What refusals 16, 17 and 18 mean, and when none of them is given: over the text and the trees that it spells.
use Rattle.std.specs.Prelude.{◌<◌, ◌≤◌, ℕ, ◌≡◌, ◌⊎◌, List, length}
use Rattle.syntax.specs.Trees.{MalformedAt, Product, Spells}
use Rattle.syntax.specs.Limits.{FirstOver, NoneOver, carets, signs}

-- 16: "The text is too long, more than 256 bytes, or malformed."
abbrev pub TooLongOrMalformed : List ℕ → ℕ → Type 0
TooLongOrMalformed text k = ((256 < length text) × (k ≡ 0)) ⊎ ((length text ≤ 256) × MalformedAt text k)

-- 17: "The text has nesting beyond 8.", at "the first such sign's" place
pub record TooDeepAt (text : List ℕ) (k : ℕ) : Type 0 where
  pub tree : Product
  pub size : length text ≤ 256
  pub spells : Spells text tree
  pub first : FirstOver 8 (signs tree) k

-- 18: "The text has an exponent out of range.", at "the first such caret's" place
pub record OutOfRangeAt (text : List ℕ) (k : ℕ) : Type 0 where
  pub tree : Product
  pub size : length text ≤ 256
  pub spells : Spells text tree
  pub nests : NoneOver 8 (signs tree)
  pub first : FirstOver 63 (carets tree) k

-- a text that none of them refuses, and its tree
pub record WithinLimits (text : List ℕ) (tree : Product) : Type 0 where
  pub size : length text ≤ 256
  pub spells : Spells text tree
  pub nests : NoneOver 8 (signs tree)
  pub exponents : NoneOver 63 (carets tree)
