-- The search for the factor with which a word begins: a big end, or else a half start. What of a factor begins the word, and what another
-- factor ends with, is counted. One law for each turn and each way out.
use Prim.Native.Nat.{◌%◌, ◌*◌, ◌+◌, ◌/◌, ◌<◌, ◌≤◌, ℕ, suc, zero}
use mathlib.Core.Bool.{Bool, cond, not-not, ◌&&◌, ◌||◌, false, not, true}
use mathlib.Core.List.{List, [], ◌∷◌}
use Rattle.std.specs.Prelude.{None, Option, Some}
use Rattle.std.proofs.Common.{slice_index_or}
use mathlib.Core.Path.{◌∙◌, ◌≡◌, ap, ap₂, refl, sym}
use native.Mathlib.Numerals.{add-one}
use native.Mathlib.Omega.{arith}
use lib.Dec.{eqb, leb, ltb}
use lib.ListN.{length}
use borrow.Author.Tests.{eq-eqb, le-leb, lt-leb, ne_eqb}
use Rattle.words.specs.Alphabet.{bytes}
use Rattle.words.specs.Words.{common_prefix, inverse, signed}
use Rattle.words.proofs.Alphabet.{byte_laws}
use Rattle.words.proofs.Inverse.{signed-length}
use Rattle.systems.specs.Factoring.{big_end, either_of, ends_other, half_start, leading}
use Rattle.systems.specs.Products.{value, word}
use Rattle.systems.specs.declared.Factor.{Factor}
use Rattle.systems.specs.Rules.{ends, first, second_half}
use Rattle.systems.proofs.Logic.{some_not-none}
use Rattle.systems.proofs.Halves.{begins-signed, ends-signed}
use Rattle.systems.proofs.Searching.{any_found, any_more-one, first_found}
use Rattle.leading.specs.Leads.{ends_apart, ends_elsewhere}

-- a factor of slot j other than that of slot k ends with the second half of that, by the counts
ends-counted : (b c : Bool) (u v : List ℕ) (r : ℕ) → length u % 2 ≡ 0 → r ≡ common_prefix bytes (signed bytes (not b) u) (signed bytes (not c) v)
    → ends bytes (second_half bytes (signed bytes b u)) (signed bytes c v) ≡ leb (length u / 2) r
ends-counted b c u v r even e = ends-signed bytes byte_laws b c u v even ∙ ap (leb (length u / 2)) (sym e)

module _ (k j : ℕ) (b : Bool) (u v : List ℕ) (even : length u % 2 ≡ 0) (r : ℕ)
    (opposite : r ≡ common_prefix bytes (signed bytes (not b) u) (signed bytes b v)) where
  opposite_counted : ends bytes (second_half bytes (signed bytes b u)) (signed bytes (not b) v) ≡ leb (length u / 2) r
  opposite_counted = ends-counted b (not b) u v r even (rw (not-not b) opposite)

  pub apart_opposite : length u / 2 ≤ r → leb (length u / 2) r ≡ ends_apart k b u j v
  unfolding ends_apart
  apart_opposite h = rw (opposite_counted, le-leb (length u / 2) r h)

  module _ (short : r < length u / 2) where
    pub apart_same : j ≡ k → not (eqb j k) ≡ ends_apart k b u j v
    unfolding ends_apart
    apart_same e = rw (opposite_counted, lt-leb (length u / 2) r short, eq-eqb j k e)

    pub apart_alike : (j ≡ k → ⊥) → (c : ℕ) → c ≡ common_prefix bytes (signed bytes (not b) u) (signed bytes (not b) v)
        → leb (length u / 2) c ≡ ends_apart k b u j v
    unfolding ends_apart
    apart_alike n c e =
        rw (opposite_counted, lt-leb (length u / 2) r short, ne_eqb j k n, ends-counted b b u v c even e)

-- the two factors of slot j in the order in which they are tried
other-plain : (same p t : Bool) → not (same && true) && p || not (same && false) && t ≡ t || not same && p
other-plain true true true = refl
other-plain true true false = refl
other-plain true false true = refl
other-plain true false false = refl
other-plain false true true = refl
other-plain false true false = refl
other-plain false false true = refl
other-plain false false false = refl

other_turned : (same p t : Bool) → not (same && false) && p || not (same && true) && t ≡ p || not same && t
other_turned true p t = refl
other_turned false p t = refl

other_apart : (S : List (List ℕ)) (k j : ℕ) (b : Bool)
    → ends_other bytes S (record { slot = k; inverted = b }) j ≡ ends_apart k b (word bytes S k) j (word bytes S j)
unfolding ends_apart
other_apart S k j true =
    let half : List ℕ = second_half bytes (inverse bytes (word bytes S k)) in
    other_turned (eqb j k) (ends bytes half (word bytes S j)) (ends bytes half (inverse bytes (word bytes S j)))
other_apart S k j false =
    let half : List ℕ = second_half bytes (word bytes S k) in
    other-plain (eqb j k) (ends bytes half (word bytes S j)) (ends bytes half (inverse bytes (word bytes S j)))

-- the loop over the slots whose factors may end with the second half
module _ (S : List (List ℕ)) (x : Factor) where
  pub elsewhere_begin : ends_elsewhere 0 S x ≡ false
  unfolding ends_elsewhere
  elsewhere_begin = refl

  module _ (j : ℕ) (none_yet : ends_elsewhere j S x ≡ false) where
    module _ (whole other : List ℕ) (met : Bool) (told : met ≡ ends_apart x.slot x.inverted whole j other)
        (mine : whole ≡ word bytes S x.slot) (yours : other ≡ word bytes S j) where
      apart_told : ends_other bytes S x j ≡ met
      apart_told =
          other_apart S x.slot j x.inverted
          ∙ ap₂ (λ (u v : List ℕ). ends_apart x.slot x.inverted u j v) (sym mine) (sym yours)
          ∙ sym told

      pub elsewhere_turn : met ≡ false → ends_elsewhere (j + 1) S x ≡ false
      unfolding ends_elsewhere
      elsewhere_turn e = any_more-one (ends_other bytes S x) j none_yet (apart_told ∙ e)

      pub elsewhere_met : j < length S → met ≡ true → true ≡ ends_elsewhere (length S) S x
      unfolding ends_elsewhere
      elsewhere_met inside e = sym (any_found (ends_other bytes S x) j (length S) inside (apart_told ∙ e))

-- whether a factor leads the word w, by the count of the letters of it that begin w
module _ (S : List (List ℕ)) (w whole : List ℕ) (x : Factor) (mine : whole ≡ word bytes S x.slot) (begun : ℕ)
    (told : begun ≡ common_prefix bytes (value bytes S x) w) where
  pub big_counted : ltb (length whole) (2 * begun) ≡ big_end bytes S w x
  big_counted = ap₂ (λ (m c : ℕ). ltb m (2 * c)) (ap length mine ∙ sym (signed-length bytes byte_laws x.inverted (word bytes S x.slot))) told

  half_counted : half_start bytes S w x
      ≡ not (eqb (length whole) 0) && eqb (length whole % 2) 0 && leb (length whole / 2) begun && ends_elsewhere (length S) S x
  unfolding ends_elsewhere
  half_counted =
      rw (
        begins-signed bytes byte_laws x.inverted (word bytes S x.slot) w,
        signed-length bytes byte_laws x.inverted (word bytes S x.slot),
        ← told,
        ← mine,
      )

  pub half_blank : (r : Bool) → r ≡ false → length whole ≡ 0 → r ≡ half_start bytes S w x
  half_blank r e z = rw (half_counted, eq-eqb (length whole) 0 z) e

  module _ (filled : length whole ≡ 0 → ⊥) where
    pub half_odd : (r : Bool) → r ≡ false → (length whole % 2 ≡ 0 → ⊥) → r ≡ half_start bytes S w x
    half_odd r e odd = rw (half_counted, ne_eqb (length whole) 0 filled, ne_eqb (length whole % 2) 0 odd) e

    module _ (even : length whole % 2 ≡ 0) where
      pub half-short : (r : Bool) → r ≡ false → begun < length whole / 2 → r ≡ half_start bytes S w x
      half-short r e less =
          rw (half_counted, ne_eqb (length whole) 0 filled, eq-eqb (length whole % 2) 0 even, lt-leb (length whole / 2) begun less) e

      pub half-begins : length whole / 2 ≤ begun → (r : Bool) → r ≡ ends_elsewhere (length S) S x → r ≡ half_start bytes S w x
      half-begins reached r e =
          rw (half_counted, ne_eqb (length whole) 0 filled, eq-eqb (length whole % 2) 0 even, le-leb (length whole / 2) begun reached) e

-- the factor x where none is found yet and it passes its test
abbrev or_next : Option Factor → Bool → Factor → Option Factor
or_next found passes x = elim found [ None ↦ cond passes (Some x) None | Some y ↦ Some y ]

-- the first factor that passes a test, of those of the first k slots and the first m of slot k
abbrev pub sought : (Factor → Bool) → ℕ → ℕ → Option Factor
sought test k zero = first (either_of bytes test) k
sought test k (suc m) = let x : Factor = record { slot = k; inverted = eqb m 1 } in or_next (sought test k m) (test x) x

-- both factors of a slot, one after the other
next_two : (found : Option Factor) (p q : Bool) (x y : Factor)
    → or_next (or_next found p x) q y ≡ elim found [ None ↦ cond p (Some x) (cond q (Some y) None) | Some z ↦ Some z ]
next_two None true q x y = refl
next_two None false q x y = refl
next_two (Some z) p q x y = refl

next_none : (found : Option Factor) (p : Bool) (x : Factor) → or_next found p x ≡ None → (found ≡ None) × (p ≡ false)
next_none None true x e = absurd (some_not-none _ _ refl e)
next_none None false x e = (refl, refl)
next_none (Some z) p x e = absurd (some_not-none _ _ refl e)

module _ (test : Factor → Bool) (k : ℕ) where
  sought_both : sought test k 2 ≡ first (either_of bytes test) (suc k)
  sought_both =
      let plain : Factor = record { slot = k; inverted = false } in
      let turned : Factor = record { slot = k; inverted = true } in
      next_two (first (either_of bytes test) k) (test plain) (test turned) plain turned

  sought_found : (m n : ℕ) → m < 2 → k < n → sought test k m ≡ None → test (record { slot = k; inverted = eqb m 1 }) ≡ true
      → first (either_of bytes test) n ≡ Some (record { slot = k; inverted = eqb m 1 })
  sought_found zero n l inside none e = first_found (either_of bytes test) k n _ inside none (rw e)
  sought_found (suc zero) n l inside none e =
      let before = next_none (first (either_of bytes test) k) (test (record { slot = k; inverted = false })) _ none in
      first_found (either_of bytes test) k n _ inside before.0 (rw (before.1, e))
  sought_found (suc (suc m)) n l inside none e = absurd (omega arith)

-- the loops over the slots and the two factors of each: of those passed none passes the test
module _ (test : Factor → Bool) (k m : ℕ) (none_yet : sought test k m ≡ None) where
  pub sought_turn : m ≤ 2 → 2 ≤ m → sought test (k + 1) 0 ≡ None
  sought_turn l r =
      let both : m ≡ 2 = omega arith in
      rw add-one (sym (sought_both test k) ∙ (rw both at none_yet))

  pub sought_end : (n : ℕ) → m ≡ 0 → k ≤ n → n ≤ k → None ≡ first (either_of bytes test) n
  sought_end n z l r =
      let whole : k ≡ n = omega arith in
      sym (rw (z, whole) at none_yet)

  module _ (b passes : Bool) (sign : b ≡ eqb m 1) (told : passes ≡ test (record { slot = k; inverted = b })) where
    pub sought_taken : passes ≡ true → (n : ℕ) → k < n → m < 2 → Some (record { slot = k; inverted = b }) ≡ first (either_of bytes test) n
    sought_taken e n inside l =
        let found = sought_found test k m n l inside none_yet (rw (← sign) (sym told ∙ e)) in
        rw (found, sign)

    pub sought_missed : passes ≡ false → sought test k (m + 1) ≡ None
    sought_missed e = rw (add-one, sought, none_yet, ← sign, ← told, e)

-- the signs of a slot's two factors, in their order
pub sign : (m : ℕ) → m < 2 → slice_index_or (false ∷ true ∷ []) m false ≡ eqb m 1
sign zero l = refl
sign (suc zero) l = refl
sign (suc (suc m)) l = absurd (omega arith)

-- a factor's letters that begin the word, counted
pub begun_told : (S : List (List ℕ)) (k : ℕ) (b : Bool) (whole w : List ℕ) (begun : ℕ) → whole ≡ word bytes S k
    → begun ≡ common_prefix bytes (signed bytes b whole) w → begun ≡ common_prefix bytes (value bytes S (record { slot = k; inverted = b })) w
begun_told S k b whole w begun mine e = rw (← mine) e

-- the leading factor: a big end, or else a half start
module _ (S : List (List ℕ)) (w : List ℕ) (big : Option Factor) (told : big ≡ first (either_of bytes (big_end bytes S w)) (length S)) where
  pub leading_big : {x : Factor} → big ≡ Some x → big ≡ leading bytes S w
  unfolding leading
  leading_big e = rw (leading, ← told, e)

  pub leading-half : (half : Option Factor) → big ≡ None → half ≡ first (either_of bytes (half_start bytes S w)) (length S) → half ≡ leading bytes S w
  unfolding leading
  leading-half half e d = rw (leading, ← told, e) d
