-- One record of numbers: its numbers by their places, and the word in it, by a search for the first zero.
use Prim.Native.Nat.{ℕ, zero, suc, ◌+◌, ◌*◌, ◌<◌, ◌≤◌}
use mathlib.Core.Bool.{Bool, not}
use mathlib.Core.List.{List, [], ◌++◌, ◌∷◌}
use mathlib.Core.Path.{◌≡◌, ◌∙◌, ap, ap₂, refl, sym}
use native.Mathlib.Omega.{arith}
use lib.ListN.{get_or, length, set, take}
use Rattle.std.proofs.Common.{take_all}
use Rattle.std.proofs.lemmas.Grind.{common_steps}
use Rattle.std.proofs.lemmas.List.{take_more, take_more_set}
use Rattle.std.specs.Int.{from_le_bytes, w16}
use Rattle.std.specs.List.{position, position_or_len, take_while}
use Rattle.std.specs.Prelude.{None, Option, Some}
use Rattle.std.specs.Simd.{first_chunks}
use Rattle.numbers.specs.Records.{numbers_in}

-- two bytes are one number
pub numbers-length : (n : ℕ) (s : List ℕ) → length s ≡ n * 2 → length (numbers_in s) ≡ n
numbers-length zero [] e = refl
numbers-length zero (b ∷ s) e = absurd (omega arith)
numbers-length (suc n) [] e = absurd (omega arith)
numbers-length (suc n) (low ∷ []) e = absurd (omega arith)
numbers-length (suc n) (low ∷ high ∷ s) e = ap suc (numbers-length n s (omega arith))

pub number_at : (n i : ℕ) (s d : List ℕ) → length s ≡ n * 2 → i < n → from_le_bytes w16 (get_or (first_chunks 2 n s) i d) ≡ get_or (numbers_in s) i 0
number_at zero i s d e h = absurd (omega arith)
number_at (suc n) i [] d e h = absurd (omega arith)
number_at (suc n) i (low ∷ []) d e h = absurd (omega arith)
number_at (suc n) zero (low ∷ high ∷ s) d e h = omega arith
number_at (suc n) (suc i) (low ∷ high ∷ s) d e h = number_at n i s d (omega arith) (omega arith)

-- one number more
pub number_more : (n i x : ℕ) (s d t : List ℕ) → length s ≡ n * 2 → i < n → i < length t → take i t ≡ take i (numbers_in s)
    → x ≡ from_le_bytes w16 (get_or (first_chunks 2 n s) i d) → take (i + 1) (set t i x) ≡ take (i + 1) (numbers_in s)
number_more n i x s d t sized inside room here told =
    let known : i < length (numbers_in s) = omega (arith, numbers-length n s sized) in
    take_more_set t i x room ∙ ap₂ (λ (l : List ℕ) (y : ℕ). l ++ (y ∷ [])) here (told ∙ number_at n i s d sized inside)
    ∙ sym (take_more (numbers_in s) i 0 known)

-- all of them
pub numbers_all : (n i : ℕ) (s t : List ℕ) → length s ≡ n * 2 → n ≤ i → length t ≡ n → take i t ≡ take i (numbers_in s) → t ≡ numbers_in s
numbers_all n i s t sized all long here =
    sym (take_all i t (omega arith)) ∙ here ∙ take_all i (numbers_in s) (omega (arith, numbers-length n s sized))

-- what comes before the first that passes a test, by a search for it
module _ (test : ℕ → Bool) (w : List ℕ) {o : Option ℕ} (found : o ≡ position test w) where
  pub word_ended : {e : ℕ} → o ≡ Some e → take e w ≡ take_while (λ x. not (test x)) w
  word_ended {e} there =
      let same : position test w ≡ Some e = sym found ∙ there in
      let at : position_or_len test w ≡ e = grind (arith, common_steps) in
      ap (λ (n : ℕ). take n w) (sym at)

  pub word_whole : o ≡ None → w ≡ take_while (λ x. not (test x)) w
  word_whole none =
      let same : position test w ≡ None = sym found ∙ none in
      let all : length w ≤ position_or_len test w = grind (arith, common_steps) in
      sym (take_all (position_or_len test w) w all)
