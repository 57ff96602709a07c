-- The power at the beginning of a text as the struct that the readers use. No call's contract speaks of it.
use Rattle.std.specs.Prelude.{◌+◌, ℕ, Bool, cond, false, true, List, [], ◌∷◌, None, Option, Some, eqb}
use Rattle.syntax.specs.Trees.{is_digit}
use Rattle.syntax.specs.TreeWords.{number_of}
use Rattle.syntax.specs.Parse.{digits_of}
use Rattle.scanning.specs.declared.exponent.Exponent.{Exponent}

-- how many digits stand at the beginning of a text, two at most
abbrev pub digits_size : List ℕ → ℕ
digits_size [] = 0
digits_size (d ∷ []) = 1
digits_size (d ∷ e ∷ r) = cond (is_digit e) 2 1

-- a power whose digits stand at the beginning of a text, after so many of its bytes
abbrev pub digits_exponent : Bool → ℕ → List ℕ → Exponent
digits_exponent minus before text = record { minus = minus; number = number_of (digits_of text); used = before + digits_size text }

-- the power at the beginning of a text, if one stands there
abbrev pub exponent_of : List ℕ → Option Exponent
exponent_of [] = None
exponent_of (b ∷ []) = None
exponent_of (b ∷ c ∷ r) = cond (eqb b 94) (cond (eqb c 45) (Some (digits_exponent true 2 r)) (Some (digits_exponent false 1 (c ∷ r)))) None

-- how many bytes it has, and none where no power stands there
abbrev pub exponent_size : Option Exponent → ℕ
exponent_size None = 0
exponent_size (Some e) = e.used
