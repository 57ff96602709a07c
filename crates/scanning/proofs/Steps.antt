-- A loop over a text at its next byte, which is passed: the answer of the whole text is the answer from the place after it on.
use Rattle.std.proofs.Common.{◌+◌, ◌-◌, ◌<◌, ℕ, ◌≡◌, Bool, List, ◌∷◌, drop, get_or, length, take}
use Rattle.records.specs.Refusals.{must}
use Rattle.records.proofs.Chains.{must_passed}
use Rattle.syntax.specs.Parse.{power_of}
use Rattle.syntax.specs.Rules.{exponent_rule, power_within}
use Rattle.records.specs.declared.refusals.Reason.TheVariants.{ExponentOutOfRange}
use Rattle.std.specs.Prelude.{Ok}
use Rattle.records.specs.Refusals.{Checked}
use Rattle.std.proofs.lemmas.List.{drop_more, take_rest}

pub exponents_pass : (text : List ℕ) (i : ℕ) {b : Bool} {x : Checked} → exponent_rule text 0 ≡ exponent_rule (drop i text) i → i < length text
    → b ≡ power_within (power_of (take (length text - i) (drop i text))) → x ≡ must b ExponentOutOfRange i → x ≡ Ok tt
    → exponent_rule text 0 ≡ exponent_rule (drop (i + 1) text) (i + 1)
exponents_pass text i {b} here inside told e good =
    let within : b ≡ power_within (power_of (get_or text i 0 ∷ drop (i + 1) text)) = rw (← drop_more text i 0 inside, ← take_rest text i) told in
    rw (here, drop_more text i 0 inside, ← within, must_passed b ExponentOutOfRange i e good)
