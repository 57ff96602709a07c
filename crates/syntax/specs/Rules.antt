-- Why a text is refused: 16, 17 and 18 in this order, "each tried over the whole text", and whether 12 is due.
use Rattle.std.specs.Prelude.{◌+◌, suc, zero, ℕ, Bool, ◌&&◌, ◌||◌, cond, false, true, List, [], ◌∷◌, length, eqb, leb}
use Rattle.words.specs.Alphabet.{bytes}
use Rattle.words.specs.Words.{freely_reduce}
use Rattle.records.specs.Refusals.{◌and_then◌, must, refusal}
use Rattle.syntax.specs.Trees.{Power, Product, plain, raised}
use Rattle.syntax.specs.TreeWords.{measured, number_of}
use Rattle.syntax.specs.Scan.{shape_rule}
use Rattle.syntax.specs.Parse.{power_of}
use Rattle.records.specs.declared.refusals.Reason.TheVariants.{ExponentOutOfRange, NestingTooDeep, TextMalformed}
use Rattle.std.specs.Prelude.{Ok}
use Rattle.records.specs.Refusals.{Checked}

-- 17: "The text has nesting beyond 8." So many more signs may stand open, and the next byte stands at a place.
abbrev pub nesting_rule : ℕ → List ℕ → ℕ → Checked
nesting_rule room [] k = Ok tt
nesting_rule room (b ∷ r) k = elim (eqb b 40 || eqb b 91) [
  | true ↦ elim room [ zero ↦ refusal NestingTooDeep k | suc n ↦ nesting_rule n r (k + 1) ]
  | false ↦ nesting_rule (cond (eqb b 41 || eqb b 93) (suc room) room) r (k + 1)
]

-- "exponents run from -63 to 63"
abbrev pub power_within : Power → Bool
power_within plain = true
power_within (raised minus d) = leb (number_of d) 63

-- 18: "The text has an exponent out of range."
abbrev pub exponent_rule : List ℕ → ℕ → Checked
exponent_rule [] k = Ok tt
exponent_rule (b ∷ r) k = must (power_within (power_of (b ∷ r))) ExponentOutOfRange k and_then exponent_rule r (k + 1)

-- 16, 17, 18
unfoldable pub text_rules : List ℕ → Checked
text_rules text = must (leb (length text) 256) TextMalformed 0 and_then shape_rule text and_then nesting_rule 8 text 0 and_then exponent_rule text 0

-- a word freely reduces to at most 63 letters
abbrev pub short : List ℕ → Bool
short w = leb (length (freely_reduce bytes w)) 63

abbrev pub all_short : List (List ℕ) → Bool
all_short [] = true
all_short (w ∷ ws) = short w && all_short ws

-- 12 is not due: none of the words that it measures freely reduces to over 63 letters
unfoldable pub fits : Product → Bool
fits t = all_short (measured t)
