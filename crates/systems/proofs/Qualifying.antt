-- Which words qualify for a half-end move (docs/REQUIREMENTS.md, 'The moves'): where nothing shortens, some word qualifies exactly where the second
-- condition of a reduced system fails.
use Prim.Native.Nat.{ℕ, ◌+◌, ◌*◌, ◌/◌, ◌%◌, ◌≤◌, ◌<◌}
use mathlib.Core.Path.{◌≡◌, sym, ap}
use mathlib.Core.Logic.{◌↔◌, ◌⊎◌, inl, inr}
use mathlib.Core.Bool.{Bool, true, false, not, ◌||◌}
use mathlib.Core.List.{List}
use native.Mathlib.Omega.{arith}
use native.Mathlib.Decide.{dec_lt, ℕ_discrete}
use lib.ListN.{length}
use lib.Dec.{eqb}
use borrow.Author.Tests.{eqb-true, eqb-false, eq-eqb, ne_eqb, not-true}
use Rattle.words.specs.Alphabet.{Alphabet}
use Rattle.words.specs.Words.{inverse, common_prefix}
use Rattle.words.proofs.Alphabet.{AlphabetLaws}
use Rattle.words.proofs.Cancellation.{common_prefix_comm, common_prefix_le_right, cancellation-common_prefix, cancellation-inverse_left, cancellation_self}
use Rattle.systems.specs.Products.{factors, word, value, FreelyReduced, NotBlank}
use Rattle.systems.specs.declared.Factor.{Factor}
use Rattle.systems.specs.Reduced.{AtMostHalf, MiddleKept, cancellation_of, size}
use Rattle.systems.specs.Rules.{any_below, first_half, second_half, begins, elsewhere, begins_elsewhere, qualifies}
use Rattle.systems.proofs.Logic.{all_four, four_all, nonzero}
use Rattle.systems.proofs.Searching.{any_found, any_where, any_nowhere, any_each}
use Rattle.systems.proofs.Factors.{nonempty_word, word_nonempty, same_factor, value-flip, value-length, value_irreducible, not_blank_size, size_not_blank}
use Rattle.systems.proofs.ProductLaws.{word-slot}
use Rattle.systems.proofs.Halves.{begins-half, begins_back_half}
use Rattle.std.proofs.lemmas.Bool.{and_from, and_parts, both_ways, false_from_ne_true, or_cases, or_left, or_right}

module _ {A : Type 0} (G : Alphabet A) where
  -- a factor of another slot than h that begins with the first m letters of w
  pub record Beginning (S : List (List A)) (h m : ℕ) (w : List A) : Type 0 where
    pub factor : Factor
    pub apart : factor.slot ≡ h → ⊥
    pub agrees : m ≤ common_prefix G w (value G S factor)

  -- "It qualifies if another slot's word or its inverse begins with E1, and another slot's word or its inverse begins with the inverse of E2"
  pub record Qualified (S : List (List A)) (h : ℕ) : Type 0 where
    pub not_blank : 0 < length (word G S h)
    pub even : length (word G S h) % 2 ≡ 0
    pub at_front : Beginning S h (length (word G S h) / 2) (word G S h)
    pub at_back : Beginning S h (length (word G S h) / 2) (inverse G (word G S h))

module _ {A : Type 0} (G : Alphabet A) (L : AlphabetLaws G) where
  module _ (S : List (List A)) where
    -- a factor of another slot that begins with u
    pub elsewhere-found : (h : ℕ) (u : List A) → begins_elsewhere G S h u ≡ true
        → (x : Factor) × (x.slot ≡ h → ⊥) × (begins G u (value G S x) ≡ true)
    elsewhere-found h u e =
        let at_i = any_where (elsewhere G S h u) (length S) e in
        let i : ℕ = at_i.0 in
        let plain : Bool = begins G u (word G S i) in
        let turned : Bool = begins G u (inverse G (word G S i)) in
        let d : i ≡ h → ⊥ = eqb-false i h (not-true (eqb i h) (and_parts (not (eqb i h)) (plain || turned) at_i.2).0) in
        elim (or_cases plain turned (and_parts (not (eqb i h)) (plain || turned) at_i.2).1) [
          | inl b ↦ (record { slot = i; inverted = false }, d, b)
          | inr b ↦ (record { slot = i; inverted = true }, d, b)
        ]

    pub found-elsewhere : (h : ℕ) (u : List A) (x : Factor) → (x.slot ≡ h → ⊥) → x.slot < length S
        → begins G u (value G S x) ≡ true → begins_elsewhere G S h u ≡ true
    found-elsewhere h u x d l b = any_found (elsewhere G S h u) x.slot (length S) l
        (and_from (not (eqb x.slot h)) (plain || turned) (ap not (ne_eqb x.slot h d)) (either x.inverted b))
      where
        plain : Bool
        plain = begins G u (word G S x.slot)

        turned : Bool
        turned = begins G u (inverse G (word G S x.slot))

        either : (t : Bool) → begins G u (value G S (record { slot = x.slot; inverted = t })) ≡ true → plain || turned ≡ true
        either false b = or_left plain turned b
        either true b = or_right plain turned b

    pub qualifies_qualified : (h : ℕ) → qualifies G S h ≡ true → Qualified G S h
    qualifies_qualified h e =
        let w : List A = word G S h in
        let n : Bool = not (eqb (length w) 0) in
        let v : Bool = eqb (length w % 2) 0 in
        let f : Bool = begins_elsewhere G S h (first_half G w) in
        let b : Bool = begins_elsewhere G S h (inverse G (second_half G w)) in
        let (n-true, v-true, f-true, b-true) = all_four n v f b e in
        let even : length w % 2 ≡ 0 = eqb-true _ _ v-true in
        let front = elsewhere-found h (first_half G w) f-true in
        let back = elsewhere-found h (inverse G (second_half G w)) b-true in
        record {
          not_blank = nonzero (length w) n-true;
          even = even;
          at_front = record { factor = front.0; apart = front.1; agrees = (begins-half G L w (value G S front.0)).0 front.2 };
          at_back = record { factor = back.0; apart = back.1; agrees = (begins_back_half G L w (value G S back.0) even).0 back.2 };
        }

    -- a factor that has letters in common with another word is not blank, and so in a slot of the system
    beginning_word : (h m : ℕ) (w : List A) → 0 < m → (b : Beginning G S h m w) → NotBlank G S b.factor.slot
    beginning_word h m w n b = size_not_blank G L S b.factor (omega (arith, b.agrees, common_prefix_le_right G L w (value G S b.factor)))

    pub beginning_inside : (h m : ℕ) (w : List A) → 0 < m → (b : Beginning G S h m w) → b.factor.slot < length S
    beginning_inside h m w n b = word-slot G L S b.factor.slot (beginning_word h m w n b)

    beginning_elsewhere : (h m : ℕ) (w u : List A) → 0 < m → (b : Beginning G S h m w) → begins G u (value G S b.factor) ≡ true
        → begins_elsewhere G S h u ≡ true
    beginning_elsewhere h m w u n b t = found-elsewhere h u b.factor b.apart (beginning_inside h m w n b) t

    pub qualified_qualifies : (h : ℕ) → Qualified G S h → qualifies G S h ≡ true
    qualified_qualifies h q =
        let w : List A = word G S h in
        let m : ℕ = length w / 2 in
        let front = q.at_front in
        let back = q.at_back in
        let positive : 0 < m = omega (arith, q.not_blank, q.even) in
        let n-true : not (eqb (length w) 0) ≡ true = ap not (ne_eqb (length w) 0 (λ z. omega arith)) in
        let v-true : eqb (length w % 2) 0 ≡ true = eq-eqb (length w % 2) 0 q.even in
        let f-true = beginning_elsewhere h m w (first_half G w) positive front ((begins-half G L w (value G S front.factor)).1 front.agrees) in
        let back-begins = (begins_back_half G L w (value G S back.factor) q.even).1 back.agrees in
        let b-true = beginning_elsewhere h m (inverse G w) (inverse G (second_half G w)) positive back back-begins in
        four_all _ _ _ _ n-true v-true f-true b-true

    cancels_before : (x y : Factor) → cancellation_of G S x y ≡ common_prefix G (value G S y) (value G S (factors.flip x))
    cancels_before x y = rw (cancellation-common_prefix G L, value-flip G L S x) (common_prefix_comm G L (inverse G (value G S x)) (value G S y))

    cancels_turned : (u y : Factor) → cancellation_of G S (factors.flip u) y ≡ common_prefix G (value G S y) (value G S u)
    cancels_turned u y = rw (value-flip G L S u, cancellation-inverse_left G L) (common_prefix_comm G L (value G S u) (value G S y))

    cancels_after : (y z : Factor) → cancellation_of G S y z ≡ common_prefix G (value G S (factors.flip y)) (value G S z)
    cancels_after y z = rw (cancellation-common_prefix G L, value-flip G L S y)

    -- a word that qualifies is wholly cancelled between the two factors that have its halves
    pub qualified_cancellation : (h : ℕ) → Qualified G S h → MiddleKept G S → ⊥
    qualified_cancellation h q middle =
        let w : List A = word G S h in
        let u : Factor = q.at_front.factor in
        let y : Factor = record { slot = h; inverted = false } in
        let z : Factor = q.at_back.factor in
        let positive : 0 < length w / 2 = omega (arith, q.not_blank, q.even) in
        let slot_of : Factor → ℕ = λ f. f.slot in
        let u-word = beginning_word h (length w / 2) w positive q.at_front in
        let y-word = word_nonempty w q.not_blank in
        let z_word = beginning_word h (length w / 2) (inverse G w) positive q.at_back in
        omega (
          arith,
          middle (factors.flip u) y z u-word y-word z_word (λ e. q.at_front.apart (ap slot_of e)) (λ e. q.at_back.apart (ap slot_of e)),
          cancels_turned u y,
          cancels_after y z,
          q.at_front.agrees,
          q.at_back.agrees,
          q.even,
        )

    -- the halves of a factor, plain or inverted, are the halves of the word of its slot
    qualified_of : (h : ℕ) (b : Bool) → 0 < length (word G S h) → length (word G S h) % 2 ≡ 0
        → Beginning G S h (length (word G S h) / 2) (value G S (record { slot = h; inverted = b }))
        → Beginning G S h (length (word G S h) / 2) (value G S (record { slot = h; inverted = not b }))
        → Qualified G S h
    qualified_of h false n e p q = record { not_blank = n; even = e; at_front = p; at_back = q }
    qualified_of h true n e p q = record { not_blank = n; even = e; at_front = q; at_back = p }

    module _ (no_own_inverse : (x : A) → G.flip x ≡ x → ⊥) (freely : FreelyReduced G S) where
      -- less than half of a factor cancels against the factor itself
      pub cancellation_of_self : (y : Factor) → NotBlank G S y.slot → 2 * cancellation_of G S y y < size G S y
      cancellation_of_self y n = cancellation_self G L no_own_inverse (value G S y) (value_irreducible G L S y (freely y.slot))
          (not_blank_size G L S y n)

      -- where nothing shortens, a neighbour takes at most half of a factor, and the whole half only from another slot
      before-half : AtMostHalf G S → (x y : Factor) → NotBlank G S x.slot → NotBlank G S y.slot → (x ≡ factors.flip y → ⊥)
          → (2 * cancellation_of G S x y < size G S y) ⊎ ((x.slot ≡ y.slot → ⊥) × (2 * cancellation_of G S x y ≤ size G S y))
      before-half half x y p q n = elim (ℕ_discrete x.slot y.slot) [
        | yes e ↦ inl (rw (same_factor x y e n) (cancellation_of_self y q))
        | no d ↦ inr (d, (half x y p q d).1)
      ]

      after-half : AtMostHalf G S → (y z : Factor) → NotBlank G S y.slot → NotBlank G S z.slot → (z ≡ factors.flip y → ⊥)
          → (2 * cancellation_of G S y z < size G S y) ⊎ ((z.slot ≡ y.slot → ⊥) × (2 * cancellation_of G S y z ≤ size G S y))
      after-half half y z q r n = elim (ℕ_discrete z.slot y.slot) [
        | yes e ↦ inl (rw (same_factor z y e n) (cancellation_of_self y q))
        | no d ↦ inr (d, (half y z q r (λ s. d (sym s))).0)
      ]

      -- so the word of a factor that they cancel wholly qualifies
      wholly_qualified : (x y z : Factor) → NotBlank G S y.slot → (x.slot ≡ y.slot → ⊥) → (z.slot ≡ y.slot → ⊥)
          → 2 * cancellation_of G S x y ≡ size G S y → 2 * cancellation_of G S y z ≡ size G S y → Qualified G S y.slot
      wholly_qualified x y z q d e f g =
          let w : List A = word G S y.slot in
          let long : length (value G S y) ≡ length w = value-length G L S y in
          qualified_of y.slot y.inverted (nonempty_word w q) (omega arith)
          (record { factor = factors.flip x; apart = d; agrees = omega (arith, cancels_before x y) })
          (record { factor = z; apart = e; agrees = omega (arith, cancels_after y z) })

      -- where nothing shortens and no word qualifies, the second condition holds
      pub unqualified_kept : AtMostHalf G S → ((h : ℕ) → Qualified G S h → ⊥) → MiddleKept G S
      unqualified_kept half un x y z p q r d e = elim (before-half half x y p q d) [
        | inl b ↦ elim (after-half half y z q r e) [ inl a ↦ omega arith | inr a ↦ omega arith ]
        | inr b ↦ elim (after-half half y z q r e) [
          | inl a ↦ omega arith
          | inr a ↦ elim (dec_lt (cancellation_of G S x y + cancellation_of G S y z) (size G S y)) [
            | yes l ↦ l
            | no l ↦ absurd (un y.slot (wholly_qualified x y z q b.0 a.0 (omega arith) (omega arith)))
          ]
        ]
      ]

      -- where nothing shortens, no word qualifies exactly where the second condition holds
      pub none-qualifies : AtMostHalf G S → (any_below (qualifies G S) (length S) ≡ false) ↔ MiddleKept G S
      none-qualifies half = (to, of)
        where
          to : any_below (qualifies G S) (length S) ≡ false → MiddleKept G S
          to e = unqualified_kept half (λ h q. both_ways (qualifies G S h) (any_each (qualifies G S) (length S) e h (word-slot G L S h (word_nonempty (word G S h) q.not_blank))) (qualified_qualifies h q))

          of : MiddleKept G S → any_below (qualifies G S) (length S) ≡ false
          of middle = any_nowhere (qualifies G S) (length S)
              (λ h l. false_from_ne_true (qualifies G S h) (λ t. qualified_cancellation h (qualifies_qualified h t) middle))
