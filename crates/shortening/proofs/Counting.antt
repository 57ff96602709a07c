-- What cancels in each of the four forms of two words, as it is counted: what a word, or its inverse, has in common with the other, or its
-- inverse, at their beginnings.
use Rattle.std.proofs.Common.{◌*◌, ◌<◌, ◌≤◌, ◌≡◌, ◌∙◌, ◌||◌, ℕ, List, [], get_or, eqb, false, length, map, min, ap, arith, refl, sym}
use borrow.Author.Tests.{eqb-false}
use Rattle.words.specs.Alphabet.{bytes}
use Rattle.words.specs.Pairs.{letter_pair}
use Rattle.words.specs.Words.{common_prefix, inverse}
use Rattle.words.proofs.Alphabet.{byte_laws}
use Rattle.words.proofs.Cancellation.{cancellation-common_prefix, cancellation-inverse_left}
use Rattle.systems.specs.Moves.{seam}
use Rattle.systems.specs.declared.Form.{Form}
use Rattle.systems.specs.declared.Form.TheVariants.{After, Before, InverseAfter, InverseBefore}
use Rattle.systems.proofs.Logic.{none_of_four}
use Rattle.systems.proofs.Shortening.{seam_le_other, seam_le_changed}
use Rattle.slots.proofs.Pairs.{pairs_apart}
use Rattle.inverses.proofs.Inverting.{inverse_at}
use Rattle.shortening.specs.Halves.{HalfAtMost}

-- the two words of a form whose beginnings are compared
abbrev pub front : Form → List ℕ → List ℕ → List ℕ
front Before wi wk = inverse bytes wi
front InverseBefore wi wk = wi
front After wi wk = inverse bytes wk
front InverseAfter wi wk = inverse bytes wk

abbrev pub back : Form → List ℕ → List ℕ → List ℕ
back Before wi wk = wk
back InverseBefore wi wk = wk
back After wi wk = wi
back InverseAfter wi wk = inverse bytes wi

seam_compared : (form : Form) (wi wk : List ℕ) → seam bytes form wi wk ≡ common_prefix bytes (front form wi wk) (back form wi wk)
seam_compared Before wi wk = cancellation-common_prefix bytes byte_laws wi wk
seam_compared InverseBefore wi wk = cancellation-inverse_left bytes byte_laws wi wk
seam_compared After wi wk = cancellation-common_prefix bytes byte_laws wk wi
seam_compared InverseAfter wi wk = cancellation-common_prefix bytes byte_laws wk (inverse bytes wi)

-- the word and the inverse that are held for a slot
module _ (S T : List (List ℕ)) (k : ℕ) (w : List ℕ) (there : w ≡ get_or T k []) where
  pub held : T ≡ S → w ≡ get_or S k []
  held e = there ∙ ap (λ (U : List (List ℕ)). get_or U k []) e

  pub held_inverse : T ≡ map (inverse bytes) S → w ≡ inverse bytes (get_or S k [])
  held_inverse e = there ∙ ap (λ (U : List (List ℕ)). get_or U k []) e ∙ inverse_at S k

-- a form of slots k and i, and the two words of it
module _ (form : Form) (S : List (List ℕ)) (k i : ℕ) (u v : List ℕ)
    (p : u ≡ front form (get_or S i []) (get_or S k [])) (q : v ≡ back form (get_or S i []) (get_or S k [])) where
  pub seam_counted : {r : ℕ} → r ≡ common_prefix bytes u v → r ≡ seam bytes form (get_or S i []) (get_or S k [])
  seam_counted told = told ∙ rw (p, q) (sym (seam_compared form (get_or S i []) (get_or S k [])))

  -- two pairs of their letters that differ
  pub seam_apart : (place : ℕ) {x y : ℕ} → (place < length u → x ≡ letter_pair u place) → (place < length v → y ≡ letter_pair v place)
      → eqb x y ≡ false → seam bytes form (get_or S i []) (get_or S k []) ≤ place
  seam_apart place {x} {y} one two apart =
      omega (arith, seam_compared form (get_or S i []) (get_or S k []), pairs_apart _ _ place x y (rw p at one) (rw q at two) (eqb-false x y apart))

-- forms of slots k and i in which at most half of either word cancels
module _ (S : List (List ℕ)) (k i : ℕ) {shorter : ℕ} (told : shorter ≡ min (length (get_or S i [])) (length (get_or S k []))) where
  half_words : (form : Form) → 2 * seam bytes form (get_or S i []) (get_or S k []) ≤ shorter → HalfAtMost form (get_or S i []) (get_or S k [])
  half_words form most = (omega arith, omega arith)

  -- all of them, where a word is blank
  pub forms_blank : shorter < 2 → eqb shorter 1 ≡ false → (form : Form) → HalfAtMost form (get_or S i []) (get_or S k [])
  forms_blank few filled form =
      let n = eqb-false shorter 1 filled in
      half_words form (omega (
        arith,
        seam_le_other bytes byte_laws form (get_or S i []) (get_or S k []),
        seam_le_changed bytes byte_laws form (get_or S i []) (get_or S k []),
      ))

  -- and where in no form the two words begin with the same two letters
  module _ (T I : List (List ℕ)) (same : T ≡ S) (turned : I ≡ map (inverse bytes) S) {other changed other_inverse changed_inverse : ℕ}
      (o : 1 < length (get_or T i []) → other ≡ letter_pair (get_or T i []) 1)
      (c : 1 < length (get_or T k []) → changed ≡ letter_pair (get_or T k []) 1)
      (oi : 1 < length (get_or I i []) → other_inverse ≡ letter_pair (get_or I i []) 1)
      (ci : 1 < length (get_or I k []) → changed_inverse ≡ letter_pair (get_or I k []) 1) where
    pub forms_apart : 2 ≤ shorter
        → (((eqb other_inverse changed || eqb other changed) || eqb changed_inverse other) || eqb changed_inverse other_inverse) ≡ false
        → (form : Form) → HalfAtMost form (get_or S i []) (get_or S k [])
    forms_apart longer apart form = half_words form (omega (arith, by form))
      where
        sides : (eqb other_inverse changed ≡ false) × (eqb other changed ≡ false) × (eqb changed_inverse other ≡ false)
            × (eqb changed_inverse other_inverse ≡ false)
        sides = none_of_four _ _ _ _ apart

        by : (form : Form) → seam bytes form (get_or S i []) (get_or S k []) ≤ 1
        by Before = seam_apart Before S k i _ _ (held_inverse S I i _ refl turned) (held S T k _ refl same) 1 oi c sides.0
        by InverseBefore = seam_apart InverseBefore S k i _ _ (held S T i _ refl same) (held S T k _ refl same) 1 o c sides.1
        by After = seam_apart After S k i _ _ (held_inverse S I k _ refl turned) (held S T i _ refl same) 1 ci o sides.2
        by InverseAfter = seam_apart InverseAfter S k i _ _ (held_inverse S I k _ refl turned) (held_inverse S I i _ refl turned) 1 ci oi sides.3
