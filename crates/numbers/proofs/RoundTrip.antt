-- Records of numbers written and read back: a word of at most 63 numbers comes back from its record, and a record that passes its tests is that
-- of its word.
use Prim.Native.Nat.{ℕ, zero, suc, ◌%◌, ◌*◌, ◌+◌, ◌-◌, ◌/◌, ◌<◌, ◌≤◌}
use mathlib.Core.Bool.{Bool, cond, false, not, true, true≢false}
use mathlib.Core.List.{List, [], ◌++◌, ◌∷◌, append_assoc}
use mathlib.Core.Path.{◌∙◌, ◌≡◌, ap, ap₂, refl, sym}
use native.Mathlib.Omega.{arith}
use lib.ListN.{get_or, length, length-append, length-replicate, replicate, take}
use lib.Seq.{take_at}
use borrow.Author.Tests.{eqb-true, ne_eqb}
use Rattle.std.proofs.lemmas.Grind.{flat_map-append}
use Rattle.std.proofs.lemmas.List.{replicate_more}
use Rattle.std.proofs.lemmas.List.Sums.{take_while-cons}
use Rattle.std.specs.List.{flat_map, prefix_len, take_while}
use Rattle.std.specs.Prelude.{Ok}
use Rattle.words.proofs.Mapping.{each_append}
use Rattle.records.specs.Refusals.{must}
use Rattle.records.specs.declared.refusals.Reason.{Reason}
use Rattle.records.specs.declared.refusals.Reason.TheVariants.{NumbersMalformed, NumberWithoutLetter}
use Rattle.records.proofs.Chains.{fine_first, fine_next, must_fine}
use Rattle.numbers.specs.Numbers.{within_26, is_number}
use Rattle.numbers.specs.Records.{is_zero, number_bytes, numbers_in, numbers_record, numbers_word}
use Rattle.numbers.specs.Refusals.{each_number, layout_rule, within_26_rule, numbers_rules}
use Rattle.numbers.proofs.Records.{numbers-length}
use Rattle.words.specs.Words.{Each}

-- words of numbers that may stand in a record, and those of which each has a letter
abbrev pub AllNumbers : List ℕ → Type 0
AllNumbers w = Each (λ x. is_number x ≡ true) w

abbrev pub AllWithin26 : List ℕ → Type 0
AllWithin26 w = Each (λ x. within_26 x ≡ true) w

-- a test on each number is passed exactly when each passes it
module _ (test : ℕ → Bool) (why : Reason) where
  numbers_passed : (r : List ℕ) (at : ℕ) → each_number test why r at ≡ Ok tt → Each (λ x. test x ≡ true) r
  numbers_passed [] at e = tt
  numbers_passed (x ∷ r) at e =
      (must_fine (test x) why at (fine_first (must (test x) why at) (each_number test why r (at + 2)) e), numbers_passed r (at + 2) (fine_next (must (test x) why at) (each_number test why r (at + 2)) e))

  numbers_passing : (r : List ℕ) (at : ℕ) → Each (λ x. test x ≡ true) r → each_number test why r at ≡ Ok tt
  numbers_passing [] at a = refl
  numbers_passing (x ∷ r) at a = rw a.0 (numbers_passing r (at + 2) a.1)

each_take : (P : ℕ → Type 0) (n : ℕ) (r : List ℕ) → Each P r → Each P (take n r)
each_take P zero r a = tt
each_take P (suc n) [] a = tt
each_take P (suc n) (x ∷ r) a = (a.0, each_take P n r a.1)

-- some zeros
abbrev zeros : ℕ → List ℕ
zeros n = replicate n 0

each_zero : (P : ℕ → Type 0) → P 0 → (n : ℕ) → Each P (zeros n)
each_zero P h zero = tt
each_zero P h (suc n) = (h, each_zero P h n)

all_zeros : (r : List ℕ) → Each (λ x. is_zero x ≡ true) r → r ≡ zeros (length r)
all_zeros [] a = refl
all_zeros (x ∷ r) a = ap₂ (λ (y : ℕ) (l : List ℕ). y ∷ l) (eqb-true x 0 a.0) (all_zeros r a.1)

zeros_in : (n : ℕ) → numbers_in (zeros (n * 2)) ≡ zeros n
zeros_in zero =
    let none : 0 * 2 ≡ 0 = omega arith in
    ap (λ (m : ℕ). numbers_in (zeros m)) none
zeros_in (suc n) =
    let two : suc n * 2 ≡ suc (suc (n * 2)) = omega arith in
    ap (λ (m : ℕ). numbers_in (zeros m)) two ∙ ap (λ (l : List ℕ). 0 ∷ l) (zeros_in n)

zero_bytes : (n : ℕ) → flat_map number_bytes (zeros n) ≡ zeros (n * 2)
zero_bytes zero =
    let none : 0 ≡ 0 * 2 = omega arith in
    ap zeros none
zero_bytes (suc n) =
    let two : suc (suc (n * 2)) ≡ suc n * 2 = omega arith in
    ap (λ (l : List ℕ). 0 ∷ 0 ∷ l) (zero_bytes n) ∙ ap zeros two

-- the numbers of a word and of the zeros behind it
numbers_back : (w : List ℕ) (n : ℕ) → numbers_in (flat_map number_bytes w ++ zeros (n * 2)) ≡ w ++ zeros n
numbers_back [] n = zeros_in n
numbers_back (x ∷ w) n =
    let whole : x % 256 + x / 256 * 256 ≡ x = omega arith in
    ap₂ (λ (y : ℕ) (l : List ℕ). y ∷ l) whole (numbers_back w n)

-- and the bytes of some numbers
bytes_back : (n : ℕ) (r : List ℕ) → length r ≡ n * 2 → ((i : ℕ) → get_or r i 0 < 256) → flat_map number_bytes (numbers_in r) ≡ r
bytes_back n [] e fits = refl
bytes_back zero (b ∷ r) e fits = absurd (omega arith)
bytes_back (suc n) (low ∷ []) e fits = absurd (omega arith)
bytes_back (suc n) (low ∷ high ∷ r) e fits =
    let first : (low + high * 256) % 256 ≡ low = omega (arith, fits 0) in
    let second : (low + high * 256) / 256 ≡ high = omega (arith, fits 0) in
    rw (first, second) (ap (λ (l : List ℕ). low ∷ high ∷ l) (bytes_back n r (omega arith) (λ i. fits (suc (suc i)))))

number_nonzero : (x : ℕ) → is_number x ≡ true → is_zero x ≡ false
number_nonzero x e = ne_eqb x 0 (λ z. true≢false (sym e ∙ ap is_number z))

-- the word before zeros
word_before : (w : List ℕ) (n : ℕ) → AllNumbers w → take_while (λ x. not (is_zero x)) (w ++ zeros n) ≡ w
word_before [] zero a = refl
word_before [] (suc n) a = refl
word_before (x ∷ w) n a =
    take_while-cons (λ x. not (is_zero x)) x (w ++ zeros n) ∙ rw (number_nonzero x a.0) (ap (λ (l : List ℕ). x ∷ l) (word_before w n a.1))

-- the layout: a word, and zeros behind it
zeros_laid : (most n at : ℕ) → layout_rule most (zeros n) at ≡ Ok tt
zeros_laid most zero at = refl
zeros_laid zero (suc n) at = numbers_passing is_zero NumbersMalformed (zeros n) (at + 2) (each_zero (λ x. is_zero x ≡ true) refl n)
zeros_laid (suc most) (suc n) at = numbers_passing is_zero NumbersMalformed (zeros n) (at + 2) (each_zero (λ x. is_zero x ≡ true) refl n)

word_laid : (most : ℕ) (w : List ℕ) (n at : ℕ) → length w ≤ most → AllNumbers w → layout_rule most (w ++ zeros n) at ≡ Ok tt
word_laid most [] n at h a = zeros_laid most n at
word_laid zero (x ∷ w) n at h a = absurd (omega arith)
word_laid (suc most) (x ∷ w) n at h a = rw a.0 (word_laid most w n (at + 2) (omega arith) a.1)

laid_numbers : (most : ℕ) (r : List ℕ) (at : ℕ) → layout_rule most r at ≡ Ok tt → AllNumbers (take_while (λ x. not (is_zero x)) (take most r))
laid_numbers zero r at e = tt
laid_numbers (suc most) [] at e = tt
laid_numbers (suc most) (x ∷ r) at e = go (is_number x) refl (laid_numbers most r (at + 2))
  where
    go : (t : Bool) → is_number x ≡ t → (layout_rule most r (at + 2) ≡ Ok tt → AllNumbers (take_while (λ x. not (is_zero x)) (take most r)))
        → AllNumbers (take_while (λ x. not (is_zero x)) (x ∷ take most r))
    go true p rest = rw (take_while-cons (λ x. not (is_zero x)) x (take most r), number_nonzero x p) (p, rest (rw p at e))
    go false p rest =
        let none : is_zero x ≡ true = (numbers_passed is_zero NumbersMalformed (x ∷ r) at (rw p at e)).0 in
        rw (take_while-cons (λ x. not (is_zero x)) x (take most r), none) tt

laid_same : (most : ℕ) (r : List ℕ) (at : ℕ) → layout_rule most r at ≡ Ok tt
    → (n : ℕ) × (r ≡ take_while (λ x. not (is_zero x)) (take most r) ++ zeros n)
laid_same zero [] at e = (0, refl)
laid_same (suc most) [] at e = (0, refl)
laid_same zero (x ∷ r) at e = (length (x ∷ r), all_zeros (x ∷ r) (numbers_passed is_zero NumbersMalformed (x ∷ r) at e))
laid_same (suc most) (x ∷ r) at e = go (is_number x) refl (laid_same most r (at + 2))
  where
    go : (t : Bool) → is_number x ≡ t
        → (layout_rule most r (at + 2) ≡ Ok tt → (n : ℕ) × (r ≡ take_while (λ x. not (is_zero x)) (take most r) ++ zeros n))
        → (n : ℕ) × (x ∷ r ≡ take_while (λ x. not (is_zero x)) (x ∷ take most r) ++ zeros n)
    go true p rest =
        let tail = rest (rw p at e) in
        let step : take_while (λ x. not (is_zero x)) (x ∷ take most r) ≡ x ∷ take_while (λ x. not (is_zero x)) (take most r) =
        rw (take_while-cons (λ x. not (is_zero x)) x (take most r), number_nonzero x p) refl in
        (tail.0, ap (λ (l : List ℕ). x ∷ l) tail.1 ∙ ap (λ (l : List ℕ). l ++ zeros tail.0) (sym step))
    go false p rest =
        let none = numbers_passed is_zero NumbersMalformed (x ∷ r) at (rw p at e) in
        let step : take_while (λ x. not (is_zero x)) (x ∷ take most r) ≡ [] = rw (take_while-cons (λ x. not (is_zero x)) x (take most r), none.0) refl in
        (length (x ∷ r), all_zeros (x ∷ r) none ∙ ap (λ (l : List ℕ). l ++ zeros (length (x ∷ r))) (sym step))

-- one word, written as a record and read back
module _ (w : List ℕ) (short : length w ≤ 63) (a : AllNumbers w) where
  record_numbers : numbers_in (numbers_record w) ≡ w ++ zeros (64 - length w)
  record_numbers =
      let size : 128 - length w * 2 ≡ (64 - length w) * 2 = omega arith in
      ap (λ (n : ℕ). numbers_in (flat_map number_bytes w ++ zeros n)) size ∙ numbers_back w (64 - length w)

  front : List ℕ
  front = w ++ zeros (63 - length w)

  front-length : length front ≡ 63
  unfolding front
  front-length = length-append w (zeros (63 - length w)) ∙ omega (arith, length-replicate {A = ℕ} (63 - length w) 0)

  one_zero : w ++ zeros (64 - length w) ≡ front ++ (0 ∷ [])
  unfolding front
  one_zero =
      let last : 63 - length w + 1 ≡ 64 - length w = omega arith in
      let tail : zeros (64 - length w) ≡ zeros (63 - length w) ++ (0 ∷ []) = ap zeros (sym last) ∙ sym (replicate_more (63 - length w) 0) in
      ap (λ (l : List ℕ). w ++ l) tail ∙ sym (append_assoc w (zeros (63 - length w)) (0 ∷ []))

  filled : take 63 (numbers_in (numbers_record w)) ≡ front
  filled = ap (take 63) (record_numbers ∙ one_zero) ∙ take_at front (0 ∷ []) 63 front-length

  pub numbers_word_back : numbers_word (numbers_record w) ≡ w
  unfolding front
  numbers_word_back = ap (take_while (λ x. not (is_zero x))) filled ∙ word_before w (63 - length w) a

  pub numbers_record_passes : (back : Bool) (at : ℕ) → (back ≡ true → AllWithin26 w) → numbers_rules back (numbers_record w) at ≡ Ok tt
  unfolding numbers_rules
  numbers_record_passes back at lettered = rw (record_numbers, word_laid 63 w (64 - length w) at short a) (go back refl)
    where
      go : (t : Bool) → back ≡ t → cond t (within_26_rule (w ++ zeros (64 - length w)) at) (Ok tt) ≡ Ok tt
      go false p = refl
      go true p =
          numbers_passing within_26 NumberWithoutLetter (w ++ zeros (64 - length w)) at
          (each_append (λ x. within_26 x ≡ true) w (zeros (64 - length w)) (lettered p) (each_zero (λ x. within_26 x ≡ true) refl (64 - length w)))

-- a record that passes its tests
module _ (r : List ℕ) (at : ℕ) (back : Bool) (sized : length r ≡ 128) (e : numbers_rules back r at ≡ Ok tt) where
  laid : layout_rule 63 (numbers_in r) at ≡ Ok tt
  unfolding numbers_rules
  laid = fine_first (layout_rule 63 (numbers_in r) at) _ e

  pub word_numbers : AllNumbers (numbers_word r)
  word_numbers = laid_numbers 63 (numbers_in r) at laid

  pub word_lettered : back ≡ true → AllWithin26 (numbers_word r)
  unfolding numbers_rules
  word_lettered is_back =
      let passed : within_26_rule (numbers_in r) at ≡ Ok tt = rw is_back at (fine_next (layout_rule 63 (numbers_in r) at) _ e) in
      each_take (λ x. within_26 x ≡ true) (prefix_len (λ x. not (is_zero x)) (take 63 (numbers_in r))) (take 63 (numbers_in r))
      (each_take (λ x. within_26 x ≡ true) 63 (numbers_in r) (numbers_passed within_26 NumberWithoutLetter (numbers_in r) at passed))

  pub numbers_record_same : ((i : ℕ) → get_or r i 0 < 256) → numbers_record (numbers_word r) ≡ r
  numbers_record_same fits =
      let split = laid_same 63 (numbers_in r) at laid in
      let n : ℕ = split.0 in
      let word : List ℕ = numbers_word r in
      let whole : length word + n ≡ 64 =
      omega (arith, numbers-length 64 r sized, ap length split.1, length-append word (zeros n), length-replicate {A = ℕ} n 0) in
      let size : 128 - length word * 2 ≡ n * 2 = omega (arith, whole) in
      ap (λ (m : ℕ). flat_map number_bytes word ++ zeros m) size ∙ ap (λ (l : List ℕ). flat_map number_bytes word ++ l) (sym (zero_bytes n))
      ∙ sym (flat_map-append number_bytes word (zeros n)) ∙ ap (flat_map number_bytes) (sym split.1) ∙ bytes_back 64 r sized fits
