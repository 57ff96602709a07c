-- The letters of a product. No call's contract speaks of it.
use Rattle.std.specs.Prelude.{ℕ, List, Option, map}
use Rattle.std.specs.Option.{option_map}
use Rattle.words.specs.Alphabet.{bytes}
use Rattle.systems.specs.Factoring.{factored}
use Rattle.systems.specs.Factors.{factor_byte}

-- the letters of the product, at most m factors long, that a word is; none where it is not one
unfoldable pub product_letters : ℕ → List (List ℕ) → List ℕ → Option (List ℕ)
product_letters m S w = option_map (map factor_byte) (factored bytes S m w)
