-- Nielsen's product lemma (Nielsen, section 2, theorem 1): in a freely reduced product over a reduced system something of every
-- factor is left. The proof adds factors in front, one by one, and keeps how much of the first factor leads the word.
use Prim.Native.Nat.{ℕ, suc, ◌+◌, ◌-◌, ◌*◌, ◌≤◌, ◌<◌}
use mathlib.Core.Path.{◌≡◌, refl, sym, ap}
use mathlib.Core.List.{List, [], ◌∷◌, ◌++◌, append-nil}
use native.Mathlib.Omega.{arith}
use native.Mathlib.Decide.{ℕ_discrete}
use lib.ListN.{length, take}
use Rattle.words.specs.Alphabet.{Alphabet}
use Rattle.words.specs.Words.{freely_reduce, Irreducible, common_prefix, cancellation}
use Rattle.words.proofs.Alphabet.{AlphabetLaws, flip_turn}
use Rattle.words.proofs.FreeReduction.{irreducible_next, freely_reduce-same}
use Rattle.words.proofs.Cancellation.{common_prefix-most, cancellation_le_left, cancellation_le_right, cancellation_local, length-cancellation, freely_reduce-begins}
use Rattle.systems.specs.Products.{factors, value, multiplied, FreelyReducedOver, FreelyReduced, NotBlank}
use Rattle.systems.specs.declared.Factor.{Factor}
use Rattle.systems.specs.Reduced.{cancellation_of, size, Reduced}
use Rattle.systems.proofs.Factors.{factor_laws, factor_no_own_inverse, same_factor, value_irreducible}
use Rattle.systems.proofs.ProductLaws.{multiplied-cons, multiplied_irreducible, freely-reduced_tail}

-- a word led by a factor y: its first letters are y's, at least half of y and more than any other factor can cancel
pub record Led {A : Type 0} (G : Alphabet A) (S : List (List A)) (y : Factor) (w : List A) (n : ℕ) : Type 0 where
  pub kept : ℕ
  pub within : kept ≤ size G S y
  pub half : size G S y ≤ 2 * kept
  pub leads : take kept w ≡ take kept (value G S y)
  pub safe : (x : Factor) → NotBlank G S x.slot → (x ≡ factors.flip y → ⊥) → cancellation_of G S x y < kept
  -- the n factors so far leave at least n letters
  pub long : n + kept ≤ suc (length w)

-- no factor is its own inverse, so that a factor may be its own neighbour
not_own : (x : Factor) → x ≡ factors.flip x → ⊥
not_own x e = factor_no_own_inverse x (sym e)

pub not_turn : (x y : Factor) → (x ≡ factors.flip y → ⊥) → y ≡ factors.flip x → ⊥
not_turn x y n e = n (flip_turn factors factor_laws y x e)

module _ {A : Type 0} (G : Alphabet A) (L : AlphabetLaws G) (S : List (List A)) (freely : FreelyReduced G S) (reduced : Reduced G S) where
  irreducible : (x : Factor) → Irreducible G (value G S x)
  irreducible x = value_irreducible G L S x (freely x.slot)

  -- "no product of them cancels more than half of either", in one slot too
  pub cancellation-half : (x y : Factor) → NotBlank G S x.slot → NotBlank G S y.slot → (x ≡ factors.flip y → ⊥)
      → (2 * cancellation_of G S x y ≤ size G S x) × (2 * cancellation_of G S x y ≤ size G S y)
  cancellation-half x y h k n = elim (ℕ_discrete x.slot y.slot) [
    | no d ↦ reduced.half x y h k d
    | yes e ↦
        let m : cancellation_of G S y y + cancellation_of G S y y < size G S y = reduced.middle y y y k k k (not_own y) (not_own y) in
        rw (same_factor x y e n) (omega arith)
  ]

  -- against a led word as much cancels as against the factor that leads it
  pub led_cancellation : (x y : Factor) (w : List A) (n : ℕ) → Led G S y w n → NotBlank G S x.slot → (x ≡ factors.flip y → ⊥)
      → cancellation G (value G S x) w ≡ cancellation_of G S x y
  led_cancellation x y w n l h d = cancellation_local G L l.kept (value G S x) w (value G S y) l.leads (l.safe x h d)

  -- a factor is led by itself
  led_self : (y : Factor) → NotBlank G S y.slot → Led G S y (value G S y) 1
  led_self y k =
      record {
        kept = size G S y;
        within = omega arith;
        half = omega arith;
        leads = refl;
        safe = λ x h d. omega (arith, reduced.middle x y y h k k d (not_own y));
        long = omega arith;
      }

  -- a further factor in front then leads the product
  led_more : (x y : Factor) (w : List A) (n : ℕ) → Led G S y w n → Irreducible G w → NotBlank G S x.slot → NotBlank G S y.slot
      → (x ≡ factors.flip y → ⊥) → Led G S x (freely_reduce G (value G S x ++ w)) (suc n)
  led_more x y w n l i h k d =
      let c : cancellation G (value G S x) w ≡ cancellation_of G S x y = led_cancellation x y w n l h d in
      record {
        kept = size G S x - cancellation_of G S x y;
        within = omega arith;
        half = omega (arith, cancellation-half x y h k d);
        leads = rw (← c) (freely_reduce-begins G L (value G S x) w (irreducible x) i);
        safe = λ z e f. omega (arith, reduced.middle z x y e h k f (not_turn x y d));
        long = omega (
          arith,
          l.safe x h d,
          l.long,
          length-cancellation G L (value G S x) w (irreducible x) i,
          cancellation_le_left G L (value G S x) (value G S y),
          cancellation_le_right G L (value G S x) w,
        );
      }

  -- so the first factor leads every freely reduced product
  pub product_led : (f : Factor) (p : List Factor) → FreelyReducedOver G S (f ∷ p)
      → Led G S f (multiplied G S (f ∷ p)) (suc (length p))
  product_led f [] r = rw (append-nil (value G S f), freely_reduce-same G L (value G S f) (irreducible f)) (led_self f r.0.0)
  product_led f (g ∷ p) r = rw (multiplied-cons G L S f (g ∷ p))
      (led_more f g (multiplied G S (g ∷ p)) (suc (length p))
      (product_led g p (freely-reduced_tail G L S f (g ∷ p) r))
      (multiplied_irreducible G L S (g ∷ p))
      r.0.0 r.0.1.0
      (not_turn g f (irreducible_next factors factor_laws f g p r.1)))

  -- theorem 1, in parts. Only the empty product comes to the empty word.
  pub product_empty : (p : List Factor) → FreelyReducedOver G S p → multiplied G S p ≡ [] → p ≡ []
  product_empty [] r e = refl
  product_empty (f ∷ p) r e =
      let l = product_led f p r in
      absurd (omega (arith, l.long, l.safe f r.0.0 (not_own f), ap length e))

  -- "Faktorerne i dette Produkt efterlader ved Forkortelsen alle en Rest": each factor leaves a letter
  pub product-length : (p : List Factor) → FreelyReducedOver G S p → length p ≤ length (multiplied G S p)
  product-length [] r = omega arith
  product-length (f ∷ p) r =
      let l = product_led f p r in
      omega (arith, l.long, l.safe f r.0.0 (not_own f))

  -- the product begins with at least half of its first factor
  pub product-begins : (f : Factor) (p : List Factor) → FreelyReducedOver G S (f ∷ p)
      → (k : ℕ) × (k ≤ size G S f) × (size G S f ≤ 2 * k) × (take k (multiplied G S (f ∷ p)) ≡ take k (value G S f))
  product-begins f p r = let l = product_led f p r in (l.kept, l.within, l.half, l.leads)

  -- any factor but the first factor's inverse cancels against the product as it does against the first factor
  pub product-cancellation : (x f : Factor) (p : List Factor) → FreelyReducedOver G S (f ∷ p) → NotBlank G S x.slot → (x ≡ factors.flip f → ⊥)
      → cancellation G (value G S x) (multiplied G S (f ∷ p)) ≡ cancellation_of G S x f
  product-cancellation x f p r h d = led_cancellation x f (multiplied G S (f ∷ p)) (suc (length p)) (product_led f p r) h d

  -- all of the first factor is left but what the second cancels
  pub product-rest : (f g : Factor) (p : List Factor) → FreelyReducedOver G S (f ∷ g ∷ p)
      → size G S f ≤ cancellation_of G S f g + common_prefix G (value G S f) (multiplied G S (f ∷ g ∷ p))
  product-rest f g p r =
      let c : cancellation G (value G S f) (multiplied G S (g ∷ p)) ≡ cancellation_of G S f g =
      product-cancellation f g p (freely-reduced_tail G L S f (g ∷ p) r) r.0.0 (not_turn g f (irreducible_next factors factor_laws f g p r.1)) in
      let b : take (size G S f - cancellation_of G S f g) (multiplied G S (f ∷ g ∷ p)) ≡ take (size G S f - cancellation_of G S f g) (value G S f) =
      rw (multiplied-cons G L S f (g ∷ p), ← c)
      (freely_reduce-begins G L (value G S f) (multiplied G S (g ∷ p)) (irreducible f) (multiplied_irreducible G L S (g ∷ p))) in
      omega (arith, common_prefix-most G L (size G S f - cancellation_of G S f g) (value G S f) (multiplied G S (f ∷ g ∷ p)) (omega arith) (sym b))
