-- The search for a half-end move over the words of a system and their inverses. The halves of a word are compared by counts: a word begins
-- with the first half of another, or of its inverse, where the letters that they have in common reach over that half.
use Prim.Native.Nat.{◌%◌, ◌+◌, ◌-◌, ◌/◌, ◌<◌, ◌≤◌, ℕ}
use mathlib.Core.Bool.{Bool, ◌&&◌, false, true}
use mathlib.Core.List.{List, map}
use Rattle.std.specs.Prelude.{None, Option, Some}
use mathlib.Core.Path.{◌∙◌, ◌≡◌, ap, ap₂, refl, sym}
use native.Mathlib.Omega.{arith}
use lib.Dec.{leb}
use lib.ListN.{length}
use borrow.Author.Tests.{eq-eqb, le-leb, lt-leb, ne_eqb}
use Rattle.words.specs.Alphabet.{bytes}
use Rattle.words.specs.Pairs.{letter_pair}
use Rattle.words.specs.Words.{common_prefix, inverse, signed}
use Rattle.words.proofs.Alphabet.{byte_laws}
use Rattle.words.proofs.Inverse.{inverse-length, signed-length}
use Rattle.systems.specs.declared.Form.TheVariants.{Before, InverseAfter}
use Rattle.systems.specs.declared.Move.{Move}
use Rattle.systems.specs.Products.{word}
use Rattle.systems.specs.Rules.{begins, elsewhere, ends, first, first_half, half_end, qualifies, second_half, shortest_below, try_half}
use Rattle.systems.proofs.HalfEnds.{half_at_beginning, half_at_end, half_neither, half-same, half_end_chosen, half_end-first, half_end_unchosen}
use Rattle.systems.proofs.HalfEnds.{shortest_some}
use Rattle.systems.proofs.Qualifying.{qualifies_qualified}
use Rattle.systems.proofs.Halves.{back_half, begins-signed, ends-signed}
use Rattle.systems.proofs.Searching.{any_found, any_more-one, first-more-one}
use Rattle.slots.proofs.Pairs.{pairs_apart}
use Rattle.inverses.proofs.Inverting.{inverse_at}
use Rattle.half_ends.specs.HalfEnds.{half_elsewhere, meets_half}

-- two words that differ in the first or the last of so many letters
pub pairs_unalike : (half : ℕ) (u v : List ℕ) (x y : ℕ) → 1 ≤ half → (half - 1 < length u → x ≡ letter_pair u (half - 1))
    → (half - 1 < length v → y ≡ letter_pair v (half - 1)) → (x ≡ y → ⊥) → false ≡ leb half (common_prefix bytes u v)
pairs_unalike half u v x y l p q apart = sym (lt-leb half _ (omega (arith, pairs_apart u v (half - 1) x y p q apart)))

-- whether a word or its inverse begins with the first half of another, or of its inverse, by the two tests
module _ (inverted : Bool) (S T : List (List ℕ)) (h i : ℕ) (source : word bytes T h ≡ signed bytes inverted (word bytes S h)) (u : List ℕ)
    (mine : u ≡ word bytes T h) where
  pub halves_inside : 2 ≤ length (word bytes S h) → 1 ≤ length u / 2
  halves_inside l = omega (arith, ap length (mine ∙ source), signed-length bytes byte_laws inverted (word bytes S h))

  module _ (W : List (List ℕ)) (same : W ≡ S) (plain : Bool)
      (told : plain ≡ leb (length u / 2) (common_prefix bytes (word bytes T h) (word bytes W i))) where
    begins_test : (v : List ℕ)
        → begins bytes (first_half bytes (signed bytes inverted (word bytes S h))) v ≡ leb (length u / 2) (common_prefix bytes (word bytes T h) v)
    begins_test v = rw (← source, mine) (begins-signed bytes byte_laws false (word bytes T h) v)

    pub half_met : plain ≡ true → plain ≡ meets_half inverted (word bytes S h) (word bytes S i)
    unfolding meets_half
    half_met e = rw (begins_test (word bytes S i), ← same, ← told, e)

    pub half-other : (I : List (List ℕ)) (other : Bool) → I ≡ map (inverse bytes) S → plain ≡ false
        → other ≡ leb (length u / 2) (common_prefix bytes (word bytes T h) (word bytes I i))
        → other ≡ meets_half inverted (word bytes S h) (word bytes S i)
    unfolding meets_half
    half-other I other all e met =
        let missed : begins bytes (first_half bytes (signed bytes inverted (word bytes S h))) (word bytes S i) ≡ false =
        begins_test (word bytes S i) ∙ sym (rw same at told) ∙ e in
        rw (missed, begins_test (inverse bytes (word bytes S i)), ← inverse_at S i, ← all) met

-- the loop over the other slots
module _ (inverted : Bool) (S : List (List ℕ)) (h i : ℕ) where
  abbrev begun : ℕ → Bool
  begun = elsewhere bytes S h (first_half bytes (signed bytes inverted (word bytes S h)))

  pub elsewhere_begin : half_elsewhere inverted 0 S h ≡ false
  unfolding half_elsewhere
  elsewhere_begin = refl

  module _ (none_yet : half_elsewhere inverted i S h ≡ false) where
    pub elsewhere_own : i ≡ h → half_elsewhere inverted (i + 1) S h ≡ false
    unfolding half_elsewhere
    elsewhere_own e = any_more-one begun i none_yet (rw (eq-eqb i h e))

    pub elsewhere_end : i ≤ length S → length S ≤ i → false ≡ half_elsewhere inverted (length S) S h
    elsewhere_end l m = let z : i ≡ length S = omega arith in sym (rw z at none_yet)

    module _ (met : Bool) (told : met ≡ meets_half inverted (word bytes S h) (word bytes S i)) (apart : i ≡ h → ⊥) where
      pub elsewhere_turn : met ≡ false → half_elsewhere inverted (i + 1) S h ≡ false
      unfolding half_elsewhere meets_half
      elsewhere_turn e = any_more-one begun i none_yet (rw (ne_eqb i h apart, sym told ∙ e))

      pub elsewhere_met : i < length S → met ≡ true → true ≡ half_elsewhere inverted (length S) S h
      unfolding half_elsewhere meets_half
      elsewhere_met inside e = sym (any_found begun i (length S) inside (rw (ne_eqb i h apart, sym told ∙ e)))

-- whether the word w of slot h qualifies, test after test
module _ (S W : List (List ℕ)) (h : ℕ) (w : List ℕ) (held : w ≡ word bytes W h) (same : W ≡ S) where
  mine : w ≡ word bytes S h
  mine = rw same at held

  pub unqualified_blank : (r : Bool) → r ≡ false → length w ≡ 0 → r ≡ qualifies bytes S h
  unqualified_blank r e z = rw (← mine, eq-eqb (length w) 0 z) e

  module _ (filled : length w ≡ 0 → ⊥) where
    pub unqualified_odd : (r : Bool) → r ≡ false → (length w % 2 ≡ 0 → ⊥) → r ≡ qualifies bytes S h
    unqualified_odd r e odd = rw (← mine, ne_eqb (length w) 0 filled, ne_eqb (length w % 2) 0 odd) e

    module _ (even : length w % 2 ≡ 0) where
      tests_left : qualifies bytes S h ≡ half_elsewhere false (length S) S h && half_elsewhere true (length S) S h
      unfolding half_elsewhere
      tests_left = rw (← mine, ne_eqb (length w) 0 filled, eq-eqb (length w % 2) 0 even, back_half bytes byte_laws w even)

      pub unqualified_front : (r : Bool) → r ≡ false → (front : Bool) → front ≡ half_elsewhere false (length S) S h → front ≡ false
          → r ≡ qualifies bytes S h
      unqualified_front r e front told missed = rw (tests_left, ← told, missed) e

      pub qualified_back : (front : Bool) → front ≡ half_elsewhere false (length S) S h → front ≡ true
          → (back : Bool) → back ≡ half_elsewhere true (length S) S h → back ≡ qualifies bytes S h
      qualified_back front told met back e = rw (tests_left, ← told, met) e

-- slot h is chosen, and no slot before k ends with the second half of its word or begins with the inverse
pub record Kept (S : List (List ℕ)) (h k : ℕ) : Type 0 where
  pub chosen : shortest_below bytes S (length S) ≡ Some h
  pub none_before : first (try_half bytes S h) k ≡ None

pub kept_begin : (S : List (List ℕ)) (h : ℕ) → shortest_below bytes S (length S) ≡ Some h → Kept S h 0
kept_begin S h e = record { chosen = e; none_before = refl }

module _ (S : List (List ℕ)) (h k : ℕ) (kept : Kept S h k) where
  -- a chosen word qualifies, so its length is even
  chosen_even : length (word bytes S h) % 2 ≡ 0
  chosen_even = (qualifies_qualified bytes byte_laws S h (shortest_some bytes byte_laws S (length S) h kept.chosen).chosen).even

  kept_more : try_half bytes S h k ≡ None → Kept S h (k + 1)
  kept_more e = record { chosen = kept.chosen; none_before = first-more-one (try_half bytes S h) k kept.none_before e }

  pub kept_own : k ≡ h → Kept S h (k + 1)
  kept_own e = kept_more (half-same bytes byte_laws S h k e)

  pub kept_end : k ≤ length S → length S ≤ k → None ≡ half_end bytes S
  kept_end l m = let z : k ≡ length S = omega arith in sym (half_end_chosen bytes byte_laws S h kept.chosen ∙ (rw z at kept.none_before))

  -- both counts are of letters that a word has in common with the inverse u of slot h's word
  module _ (I : List (List ℕ)) (turned : I ≡ map (inverse bytes) S) (u v : List ℕ) (mine : u ≡ word bytes I h) (yours : v ≡ word bytes I k)
      (back : ℕ) (counted : back ≡ common_prefix bytes u v) where
    turned_at : (w : List ℕ) (j : ℕ) → w ≡ word bytes I j → w ≡ inverse bytes (word bytes S j)
    turned_at w j e = (rw turned at e) ∙ inverse_at S j

    half_test : (w t : List ℕ) (count : ℕ) → count ≡ common_prefix bytes u t → t ≡ w
        → leb (length (word bytes S h) / 2) (common_prefix bytes (inverse bytes (word bytes S h)) w) ≡ leb (length u / 2) count
    half_test w t count e same =
        let whole : u ≡ inverse bytes (word bytes S h) = turned_at u h mine in
        sym (ap₂ (λ (m c : ℕ). leb (m / 2) c) (ap length whole ∙ inverse-length bytes byte_laws _) (e ∙ ap₂ (common_prefix bytes) whole same))

    -- whether the changed word ends with the second half
    back_test : ends bytes (second_half bytes (word bytes S h)) (word bytes S k) ≡ leb (length u / 2) back
    back_test =
        ends-signed bytes byte_laws false false (word bytes S h) (word bytes S k) chosen_even
        ∙ half_test (inverse bytes (word bytes S k)) v back counted (turned_at v k yours)

    module _ (apart : k ≡ h → ⊥) (inside : k < length S) where
      pub kept_at_end : length u / 2 ≤ back → Some (record { changed = k; form = InverseAfter; other = h }) ≡ half_end bytes S
      kept_at_end reached =
          sym
          (half_end-first bytes byte_laws S h k (record { changed = k; form = InverseAfter; other = h }) kept.chosen inside kept.none_before
          (half_at_end bytes byte_laws S h k apart (back_test ∙ le-leb (length u / 2) back reached)))

      module _ (W : List (List ℕ)) (same : W ≡ S) (t : List ℕ) (here : t ≡ word bytes W k) (front : ℕ) (met : front ≡ common_prefix bytes u t)
          (short : back < length u / 2) where
        -- whether it begins with the inverse of that
        front_test : begins bytes (inverse bytes (second_half bytes (word bytes S h))) (word bytes S k) ≡ leb (length u / 2) front
        front_test =
            ap (λ (half : List ℕ). begins bytes half (word bytes S k)) (back_half bytes byte_laws (word bytes S h) chosen_even)
            ∙ begins-signed bytes byte_laws true (word bytes S h) (word bytes S k)
            ∙ half_test (word bytes S k) t front met (rw same at here)

        pub kept_at_beginning : length u / 2 ≤ front → Some (record { changed = k; form = Before; other = h }) ≡ half_end bytes S
        kept_at_beginning reached =
            sym
            (half_end-first bytes byte_laws S h k (record { changed = k; form = Before; other = h }) kept.chosen inside kept.none_before
            (half_at_beginning bytes byte_laws S h k apart (back_test ∙ lt-leb (length u / 2) back short)
            (front_test ∙ le-leb (length u / 2) front reached)))

        pub kept_turn : front < length u / 2 → Kept S h (k + 1)
        kept_turn less =
            kept_more
            (half_neither bytes byte_laws S h k (back_test ∙ lt-leb (length u / 2) back short) (front_test ∙ lt-leb (length u / 2) front less))

-- no word qualifies
pub none_chosen : (S : List (List ℕ)) {best : Option ℕ} {none : Option Move} → best ≡ shortest_below bytes S (length S) → best ≡ None
    → none ≡ None → none ≡ half_end bytes S
none_chosen S told e same = same ∙ sym (half_end_unchosen bytes byte_laws S (sym told ∙ e))
