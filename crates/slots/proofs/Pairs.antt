-- Words whose pairs of letters differ: the letter at place 0 and the one at another place, as one number. What they have in common at their
-- beginnings ends at that place or before it.
use Prim.Native.Nat.{◌*◌, ◌+◌, ◌<◌, ◌≤◌, ℕ}
use mathlib.Core.List.{List}
use mathlib.Core.Path.{◌∙◌, ◌≡◌, ap, ap₂, sym}
use native.Mathlib.Decide.{dec_lt}
use native.Mathlib.Omega.{arith}
use lib.ListN.{get_or, length}
use lib.Seq.{get_or-take}
use Rattle.words.specs.Alphabet.{bytes}
use Rattle.words.specs.Pairs.{letter_pair}
use Rattle.words.specs.Words.{common_prefix}
use Rattle.words.proofs.Alphabet.{byte_laws}
use Rattle.words.proofs.Cancellation.{common_prefix_agree, common_prefix_le_left, common_prefix_le_right}

module _ (u v : List ℕ) where
  -- a letter that both have
  letter_shared : (j : ℕ) → j < common_prefix bytes u v → get_or u j 0 ≡ get_or v j 0
  letter_shared j h =
      sym (get_or-take (j + 1) u j 0 (omega arith))
      ∙ ap (λ (w : List ℕ). get_or w j 0) (common_prefix_agree bytes byte_laws (j + 1) u v (omega arith))
      ∙ get_or-take (j + 1) v j 0 (omega arith)

  -- two pairs of letters that differ, where each is that of its word unless the word ends before the place
  pub pairs_apart : (place x y : ℕ) → (place < length u → x ≡ letter_pair u place) → (place < length v → y ≡ letter_pair v place)
      → (x ≡ y → ⊥) → common_prefix bytes u v ≤ place
  pairs_apart place x y p q apart = elim (dec_lt place (common_prefix bytes u v)) [
    | yes h ↦
        let same : letter_pair u place ≡ letter_pair v place =
        ap₂ (λ (m n : ℕ). m + n * 256) (letter_shared 0 (omega arith)) (letter_shared place h) in
        absurd (apart (p (omega (arith, common_prefix_le_left bytes byte_laws u v)) ∙ same ∙ sym (q (omega (arith, common_prefix_le_right bytes byte_laws u v)))))
    | no h ↦ omega arith
  ]
