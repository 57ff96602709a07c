-- Writing a word as a product over a reduced system (Nielsen, section 3): one factor after the other is found at the word's beginning
-- and taken off. That this decides what is generated is proved (`Decides` of asking); a reader need not trust it.
use Rattle.std.specs.Prelude.{ℕ, zero, suc, ◌*◌, ◌%◌, Bool, true, false, cond, not, ◌&&◌, ◌||◌, List, [], ◌∷◌, ◌++◌, length, ltb, eqb}
use Rattle.std.specs.Prelude.{None, Option, Some}
use Rattle.words.specs.Alphabet.{Alphabet}
use Rattle.words.specs.Words.{freely_reduce, inverse, common_prefix}
use Rattle.systems.specs.Products.{factors, value}
use Rattle.systems.specs.declared.Factor.{Factor}
use Rattle.systems.specs.Rules.{first, any_below, begins, ends, first_half, second_half}

module _ {A : Type 0} (G : Alphabet A) where
  -- the two factors of a slot: its word, then the inverse
  abbrev pub either_of : (Factor → Bool) → ℕ → Option Factor
  either_of test k =
      let plain : Factor = record { slot = k; inverted = false } in
      let turned : Factor = record { slot = k; inverted = true } in
      cond (test plain) (Some plain) (cond (test turned) (Some turned) None)

  -- a factor of which more than half begins the word
  abbrev pub big_end : List (List A) → List A → Factor → Bool
  big_end S w x = ltb (length (value G S x)) (2 * common_prefix G (value G S x) w)

  -- some other factor, not x, ends with the second half of x
  abbrev pub ends_other : List (List A) → Factor → ℕ → Bool
  ends_other S x k =
      let plain : Factor = record { slot = k; inverted = false } in
      let turned : Factor = record { slot = k; inverted = true } in
      not (factors.same plain x) && ends G (second_half G (value G S x)) (value G S plain)
      || not (factors.same turned x) && ends G (second_half G (value G S x)) (value G S turned)

  -- a factor of even length whose first half begins the word, and with whose second half another factor ends
  abbrev pub half_start : List (List A) → List A → Factor → Bool
  half_start S w x =
      not (eqb (length (value G S x)) 0) && eqb (length (value G S x) % 2) 0 && begins G (first_half G (value G S x)) w
      && any_below (ends_other S x) (length S)

  -- the factor with which the word begins: a big end, or else a half
  unfoldable pub leading : List (List A) → List A → Option Factor
  leading S w =
      elim (first (either_of (big_end S w)) (length S)) [ None ↦ first (either_of (half_start S w)) (length S) | Some x ↦ Some x ]

  -- the product, at most n factors long, that the word is; none where it is not one
  abbrev pub factored : List (List A) → ℕ → List A → Option (List Factor)
  factored S zero w = elim w [ [] ↦ Some [] | a ∷ v ↦ None ]
  factored S (suc n) w =
      elim w [
        | [] ↦ Some []
        | a ∷ v ↦
            elim (leading S (a ∷ v)) [
              | None ↦ None
              | Some x ↦ elim (factored S n (freely_reduce G (inverse G (value G S x) ++ (a ∷ v)))) [ None ↦ None | Some p ↦ Some (x ∷ p) ]
            ]
      ]
