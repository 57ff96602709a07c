-- Factors as letters, and the words that they stand for: a product is itself a word over the factors, and an inverse factor stands for
-- the inverse word. Factors of slots that are not blank have letters.
use Prim.Native.Nat.{ℕ, ◌<◌}
use mathlib.Core.Path.{◌≡◌, refl, sym, ap}
use mathlib.Core.Bool.{Bool, true, false, not, beq, not-not, not-eq-not, true≢false}
use mathlib.Core.List.{List, [], ◌∷◌, cons-ne-nil}
use native.Mathlib.Omega.{arith}
use lib.ListN.{length}
use lib.Dec.{eqb}
use borrow.Author.Tests.{eqb-true, eq-eqb}
use Rattle.words.specs.Alphabet.{Alphabet}
use Rattle.words.specs.Words.{Irreducible, inverse}
use Rattle.words.proofs.Alphabet.{AlphabetLaws}
use Rattle.words.proofs.Inverse.{inverse_twice, inverse-length, inverse_irreducible, inverse-nil}
use Rattle.systems.specs.Products.{factors, word, value, NotBlank}
use Rattle.systems.specs.declared.Factor.{Factor}
use Rattle.systems.specs.Reduced.{size}
use Rattle.std.proofs.lemmas.Bool.{and_parts}

-- a word is empty or not
pub empty? : {A : Type 0} (w : List A) → Dec (w ≡ [])
empty? [] = yes refl
empty? (x ∷ w) = no (cons-ne-nil x w)

pub nonempty_word : {A : Type 0} (w : List A) → (w ≡ [] → ⊥) → 0 < length w
nonempty_word [] n = absurd (n refl)
nonempty_word (x ∷ w) n = omega arith

pub word_nonempty : {A : Type 0} (w : List A) → 0 < length w → w ≡ [] → ⊥
word_nonempty w h e = omega (arith, ap length e)

beq_sound : (a b : Bool) → beq a b ≡ true → a ≡ b
beq_sound true true e = refl
beq_sound true false e = absurd (true≢false (sym e))
beq_sound false true e = absurd (true≢false (sym e))
beq_sound false false e = refl

beq_refl : (a : Bool) → beq a a ≡ true
beq_refl true = refl
beq_refl false = refl

-- two factors are the same where their slots and signs are
pub factor_same : (f g : Factor) → f.slot ≡ g.slot → f.inverted ≡ g.inverted → f ≡ g
factor_same f g p q = λ i. record { slot = p i; inverted = q i }

-- factors are letters: the theory of words holds for products
pub factor_laws : AlphabetLaws factors
factor_laws =
    record {
      twice = λ f. factor_same _ _ refl (not-not f.inverted);
      same_sound = λ f g e.
          let slots = eqb f.slot g.slot in
          let signs = beq f.inverted g.inverted in
          factor_same f g (eqb-true _ _ (and_parts slots signs e).0) (beq_sound _ _ (and_parts slots signs e).1);
      same_refl = λ f. rw (eq-eqb f.slot f.slot refl) (beq_refl f.inverted);
    }

-- no factor is its own inverse
pub factor_no_own_inverse : (f : Factor) → factors.flip f ≡ f → ⊥
factor_no_own_inverse f e = (not-eq-not {a = not f.inverted} {b = f.inverted}).1 (ap (λ (g : Factor). g.inverted) e) refl

-- a slot has two factors: the one that is not the inverse of y is y itself
pub same_factor : (x y : Factor) → x.slot ≡ y.slot → (x ≡ factors.flip y → ⊥) → x ≡ y
same_factor x y e n = factor_same x y e (not-eq-not.0 (λ s. n (factor_same x (factors.flip y) e s)))

module _ {A : Type 0} (G : Alphabet A) (L : AlphabetLaws G) (S : List (List A)) where
  value_of : (b : Bool) (k : ℕ) → value G S (record { slot = k; inverted = not b }) ≡ inverse G (value G S (record { slot = k; inverted = b }))
  value_of true k = sym (inverse_twice G L (word G S k))
  value_of false k = refl

  -- the inverse factor stands for the inverse word
  pub value-flip : (f : Factor) → value G S (factors.flip f) ≡ inverse G (value G S f)
  value-flip f = value_of f.inverted f.slot

  -- a factor is as long as the word of its slot
  pub value-length : (f : Factor) → length (value G S f) ≡ length (word G S f.slot)
  value-length f = go f.inverted
    where
      go : (b : Bool) → length (value G S (record { slot = f.slot; inverted = b })) ≡ length (word G S f.slot)
      go true = inverse-length G L (word G S f.slot)
      go false = refl

  -- where the words are freely reduced, so are their inverses
  pub value_irreducible : (f : Factor) → Irreducible G (word G S f.slot) → Irreducible G (value G S f)
  value_irreducible f h = go f.inverted
    where
      go : (b : Bool) → Irreducible G (value G S (record { slot = f.slot; inverted = b }))
      go true = inverse_irreducible G L (word G S f.slot) h
      go false = h

  -- a blank slot stands for the empty word
  pub value_blank : (f : Factor) → word G S f.slot ≡ [] → value G S f ≡ []
  value_blank f e = go f.inverted
    where
      go : (b : Bool) → value G S (record { slot = f.slot; inverted = b }) ≡ []
      go true = rw e (inverse-nil G L)
      go false = e

  -- a factor of a slot that is not blank has letters
  pub not_blank_size : (x : Factor) → NotBlank G S x.slot → 0 < size G S x
  not_blank_size x h = rw (value-length x) (nonempty_word (word G S x.slot) h)

  pub size_not_blank : (x : Factor) → 0 < size G S x → NotBlank G S x.slot
  size_not_blank x h = word_nonempty (word G S x.slot) (rw (value-length x) at h)
