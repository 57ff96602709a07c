-- Membership (Nielsen, section 3): factoring a word over a reduced system finds its one freely reduced product, or there is none.
-- One factor after the other is taken off the word's beginning.
use Prim.Native.Nat.{ℕ, zero, suc, ◌≤◌, ◌<◌}
use mathlib.Core.Path.{◌≡◌, refl, sym, ◌∙◌}
use mathlib.Core.Logic.{inl, inr}
use Rattle.std.specs.Prelude.{None, Option, Some}
use Rattle.std.specs.Option.{option_map}
use Rattle.std.proofs.lemmas.Option.{none-some, same_Some}
use Rattle.systems.proofs.Logic.{option_map-some}
use mathlib.Core.List.{List, [], ◌∷◌, ◌++◌, cons-ne-nil}
use native.Mathlib.Omega.{arith}
use native.Mathlib.Decide.{dec_lt}
use lib.ListN.{length}
use Rattle.words.specs.Alphabet.{Alphabet}
use Rattle.words.specs.Words.{freely_reduce, Irreducible, inverse}
use Rattle.words.proofs.Alphabet.{AlphabetLaws}
use Rattle.words.proofs.FreeReduction.{freely_reduce_irreducible, freely_reduce-same}
use Rattle.words.proofs.Inverse.{freely_reduce-undo_left, freely_reduce_redo_left}
use Rattle.systems.specs.Products.{value, spelled, multiplied, Over, FreelyReducedOver, Generated, FreelyReduced}
use Rattle.systems.specs.declared.Factor.{Factor}
use Rattle.systems.specs.Reduced.{Reduced}
use Rattle.systems.specs.Factoring.{leading, factored}
use Rattle.systems.proofs.Logic.{option_cases}
use Rattle.systems.proofs.ProductLaws.{multiplied-cons, freely-reduced, freely-reduced_tail}
use Rattle.systems.proofs.ProductLemma.{product_empty, product-length}
use Rattle.systems.proofs.Unique.{reduced_unique}
use Rattle.systems.proofs.Leading.{leading_some, leading-first}

module _ {A : Type 0} (G : Alphabet A) (L : AlphabetLaws G) (S : List (List A)) where
  pub factored-nil : (n : ℕ) → factored G S n [] ≡ Some []
  factored-nil zero = refl
  factored-nil (suc n) = refl

  -- letters are left after the last factor
  pub factored_spent : (w : List A) → (w ≡ [] → ⊥) → factored G S zero w ≡ None
  factored_spent [] h = absurd (h refl)
  factored_spent (a ∷ w) h = refl

  -- nothing leads the word
  pub factored_stuck : (n : ℕ) (w : List A) → (w ≡ [] → ⊥) → leading G S w ≡ None → factored G S n w ≡ None
  factored_stuck n [] h e = absurd (h refl)
  factored_stuck zero (a ∷ w) h e = refl
  factored_stuck (suc n) (a ∷ w) h e = rw (e, factored)

  -- the leading factor is taken off
  pub factored-next : (n : ℕ) (w : List A) (x : Factor) → (w ≡ [] → ⊥) → leading G S w ≡ Some x
      → factored G S (suc n) w ≡ option_map (◌∷◌ x) (factored G S n (freely_reduce G (inverse G (value G S x) ++ w)))
  factored-next n [] x h e = absurd (h refl)
  factored-next n (a ∷ w) x h e = rw (e, factored) (go (factored G S n (freely_reduce G (inverse G (value G S x) ++ (a ∷ w)))))
    where
      go : (o : Option (List Factor)) → elim o as (λ q. Option (List Factor)) [ None ↦ None | Some p ↦ Some (x ∷ p) ] ≡ option_map (◌∷◌ x) o
      go None = refl
      go (Some p) = refl

  -- a product found: its first factor leads the word, and the others are found after that
  record Taken (n : ℕ) (w : List A) (p : List Factor) : Type 0 where
    head : Factor
    tail : List Factor
    leads : leading G S w ≡ Some head
    found : factored G S n (freely_reduce G (inverse G (value G S head) ++ w)) ≡ Some tail
    whole : head ∷ tail ≡ p

  factored-taken : (n : ℕ) (w : List A) (p : List Factor) → (w ≡ [] → ⊥) → factored G S (suc n) w ≡ Some p → Taken n w p
  factored-taken n w p h e = elim (option_cases (leading G S w)) [
    | inl l ↦ absurd (none-some p (sym (factored_stuck (suc n) w h l) ∙ e))
    | inr r ↦
        let rest : Option (List Factor) = factored G S n (freely_reduce G (inverse G (value G S r.0) ++ w)) in
        let (q, f, d) = option_map-some (◌∷◌ r.0) rest (sym (factored-next n w r.0 h r.1) ∙ e) in
        record { head = r.0; tail = q; leads = r.1; found = f; whole = d }
  ]

  -- a product found is one over the system's slots and multiplies out to the word
  pub factored_sound : (n : ℕ) (w : List A) (p : List Factor) → Irreducible G w → factored G S n w ≡ Some p
      → Over G S p × (multiplied G S p ≡ w) × (length p ≤ n)
  factored_sound zero [] p h e = rw (← same_Some [] p e) (tt, refl, omega arith)
  factored_sound (suc n) [] p h e = rw (← same_Some [] p e) (tt, refl, omega arith)
  factored_sound zero (a ∷ w) p h e = absurd (none-some p e)
  factored_sound (suc n) (a ∷ w) p h e =
      let t = factored-taken n (a ∷ w) p (cons-ne-nil a w) e in
      let u : List A = value G S t.head in
      let (o, m, k) = factored_sound n (freely_reduce G (inverse G u ++ (a ∷ w))) t.tail (freely_reduce_irreducible G L (inverse G u ++ (a ∷ w))) t.found in
      rw (← t.whole) (
        ((leading_some G L S (a ∷ w) t.head t.leads).0, o),
        rw (multiplied-cons G L S t.head t.tail, m, freely_reduce_redo_left G L u (a ∷ w)) (freely_reduce-same G L (a ∷ w) h),
        omega arith,
      )

  -- where a product is found the word is a member
  pub some_generated : (n : ℕ) (w : List A) (p : List Factor) → factored G S n (freely_reduce G w) ≡ Some p → Generated G S w
  some_generated n w p e = let (o, m, k) = factored_sound n (freely_reduce G w) p (freely_reduce_irreducible G L w) e in (p, o, m)

  module _ (freely : FreelyReduced G S) (reduced : Reduced G S) where
    product_nonempty : (f : Factor) (p : List Factor) → FreelyReducedOver G S (f ∷ p) → multiplied G S (f ∷ p) ≡ [] → ⊥
    product_nonempty f p r e = cons-ne-nil f p (product_empty G L S freely reduced (f ∷ p) r e)

    -- a turn takes the first factor off
    factored-first : (n : ℕ) (f : Factor) (p : List Factor) → FreelyReducedOver G S (f ∷ p)
        → factored G S (suc n) (multiplied G S (f ∷ p)) ≡ option_map (◌∷◌ f) (factored G S n (multiplied G S p))
    factored-first n f p r =
        factored-next n (multiplied G S (f ∷ p)) f (product_nonempty f p r) (leading-first G L S freely reduced f p r)
        ∙ rw (freely_reduce-undo_left G L (value G S f) (spelled G S p))

    product_found : (n : ℕ) (p : List Factor) → FreelyReducedOver G S p → length p ≤ n → factored G S n (multiplied G S p) ≡ Some p
    product_found n [] r h = factored-nil n
    product_found zero (f ∷ p) r h = absurd (omega arith)
    product_found (suc n) (f ∷ p) r h =
        factored-first n f p r ∙ rw (product_found n p (freely-reduced_tail G L S f p r) (omega arith))

    product_missed : (n : ℕ) (p : List Factor) → FreelyReducedOver G S p → n < length p → factored G S n (multiplied G S p) ≡ None
    product_missed n [] r h = absurd (omega arith)
    product_missed zero (f ∷ p) r h = factored_spent (multiplied G S (f ∷ p)) (product_nonempty f p r)
    product_missed (suc n) (f ∷ p) r h =
        factored-first n f p r ∙ rw (product_missed n p (freely-reduced_tail G L S f p r) (omega arith))

    -- the freely reduced product that a word is, is found where there are turns for its factors
    pub factored-complete : (n : ℕ) (w : List A) (p : List Factor) → FreelyReducedOver G S p → multiplied G S p ≡ w → length p ≤ n
        → factored G S n w ≡ Some p
    factored-complete n w p r e h = rw (← e) (product_found n p r h)

    -- with fewer turns nothing is found
    pub factored-short : (n : ℕ) (w : List A) (p : List Factor) → FreelyReducedOver G S p → multiplied G S p ≡ w → n < length p
        → factored G S n w ≡ None
    factored-short n w p r e h = rw (← e) (product_missed n p r h)

    -- what is found "is itself freely reduced over the reduced words that aren't empty"
    pub factored-freely : (n : ℕ) (w : List A) (p : List Factor) → Irreducible G w → factored G S n w ≡ Some p → FreelyReducedOver G S p
    factored-freely n w p h e =
        let (q, r, m) = freely-reduced G L S p in
        let d : multiplied G S q ≡ w = m ∙ (factored_sound n w p h e).1 in
        elim (dec_lt n (length q)) [
          | yes k ↦ absurd (none-some p (sym (factored-short n w q r d k) ∙ e))
          | no k ↦ rw (← same_Some q p (sym (factored-complete n w q r d (omega arith)) ∙ e)) r
        ]

    -- "and fits one record": it has no more factors than the word has letters
    pub factored-length : (n : ℕ) (w : List A) (p : List Factor) → Irreducible G w → factored G S n w ≡ Some p → length p ≤ length w
    factored-length n w p h e = rw (factored_sound n w p h e).1 at (product-length G L S freely reduced p (factored-freely n w p h e))

    -- "every other product that is freely reduced over those words, of whatever length, multiplies out to another word"
    pub factored-only : (n : ℕ) (w : List A) (p q : List Factor) → Irreducible G w → factored G S n w ≡ Some p
        → FreelyReducedOver G S q → multiplied G S q ≡ w → q ≡ p
    factored-only n w p q h e r d =
        reduced_unique G L S freely reduced q p r (factored-freely n w p h e) (d ∙ sym (factored_sound n w p h e).1)

    -- a member's product is found in as many turns as it has letters
    pub generated_some : (n : ℕ) (w : List A) → length (freely_reduce G w) ≤ n → Generated G S w
        → (p : List Factor) × (factored G S n (freely_reduce G w) ≡ Some p) × FreelyReducedOver G S p
        × (length p ≤ length (freely_reduce G w)) × (multiplied G S p ≡ freely_reduce G w)
    generated_some n w h g =
        let (q, r, m) = freely-reduced G L S g.0 in
        let e : multiplied G S q ≡ freely_reduce G w = m ∙ g.2 in
        let k : length q ≤ length (freely_reduce G w) = rw e at (product-length G L S freely reduced q r) in
        (q, factored-complete n (freely_reduce G w) q r e (omega arith), r, k, e)

    -- a word of which no product is found in so many turns is no member
    pub generated_none : (n : ℕ) (w : List A) → length (freely_reduce G w) ≤ n → factored G S n (freely_reduce G w) ≡ None → Generated G S w → ⊥
    generated_none n w h e g = let (p, f, r, k, m) = generated_some n w h g in none-some p (sym e ∙ f)
