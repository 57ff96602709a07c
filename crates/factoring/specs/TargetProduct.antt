-- The product over a reduced system that a target is, and what it writes.
use Rattle.std.specs.Prelude.{ℕ, Bool, false, true, List, map}
use Rattle.std.specs.Prelude.{None, Option, Some}
use Rattle.words.specs.Alphabet.{bytes}
use Rattle.words.specs.Buffers.{written}
use Rattle.words.specs.Words.{freely_reduce}
use Rattle.systems.specs.Factoring.{factored}
use Rattle.systems.specs.declared.Factor.{Factor}
use Rattle.records.specs.Records.{record_of, word_of}
use Rattle.systems.specs.Factors.{factor_byte}

-- what a target freely reduces to
abbrev pub target_word : List ℕ → List ℕ
target_word t = freely_reduce bytes (word_of t)

-- the product over a reduced system that a word is, none where it is not one: such a product has no more factors than the word has letters,
-- so 63 are enough
abbrev pub product_for : List (List ℕ) → List ℕ → Option (List Factor)
product_for T w = factored bytes T 63 w

-- member or not
abbrev pub is_found : Option (List Factor) → Bool
is_found None = false
is_found (Some p) = true

-- "'Not a member' .. leaves the product buffer alone."
abbrev pub product_after : Option (List Factor) → List ℕ → List ℕ
product_after None buffer = buffer
product_after (Some p) buffer = written (record_of (map factor_byte p)) buffer
