-- One signed number: its inverse, and the letter that it stands for.
use Rattle.std.proofs.lemmas.Bool.{and_from, and_parts}
use Prim.Native.Nat.{◌+◌, ℕ, ◌%◌, ◌-◌, ◌<◌, ◌≤◌, min}
use mathlib.Core.Path.{ap, sym, ◌≡◌, ◌∙◌, refl}
use native.Mathlib.Decide.{dec_lt}
use native.Mathlib.Omega.{arith}
use borrow.Author.Tests.{eq-eqb, eqb-true, le-ltb, lt-ltb, le-leb, leb-true, lt-leb}
use Rattle.words.proofs.Alphabet.{AlphabetLaws, flip_down, flip_up}
use Rattle.numbers.specs.Numbers.{absolute_value, flip_number, within_26, is_number, number_letter, letter_number, signed_numbers}
use Rattle.records.specs.Records.{is_letter}
use Rattle.records.proofs.RoundTrip.{letter-flip, letter-place, letter_high, letter_low, place-letter}
use mathlib.Core.Bool.{true}
use lib.Dec.{leb}
use Rattle.words.specs.Alphabet.{flip_byte}

flip_within : (x : ℕ) → x < 65536 → flip_number x ≡ (65536 - x) % 65536
unfolding flip_number
flip_within x h = rw (lt-ltb x 65536 h)

flip_above : (x : ℕ) → 65536 ≤ x → flip_number x ≡ x
unfolding flip_number
flip_above x h = rw (le-ltb x 65536 h)

flip_twice : (x : ℕ) → flip_number (flip_number x) ≡ x
flip_twice x = elim (dec_lt x 65536) [
  | yes h ↦ rw (flip_within x h, flip_within ((65536 - x) % 65536) (omega arith)) (omega arith)
  | no n ↦ rw (flip_above x (omega arith), flip_above x (omega arith)) refl
]

pub number_laws : AlphabetLaws signed_numbers
number_laws = record { twice = flip_twice; same_sound = eqb-true; same_refl = λ x. eq-eqb x x refl }

pub absolute_value_told : (x : ℕ) {y z : ℕ} → x < 65536 → y ≡ flip_number x → z ≡ min x y → z ≡ absolute_value x
absolute_value_told x h e f = f ∙ rw (e, flip_within x h) (omega arith)

-- where a number lies that stands in a word
pub number_near : (x : ℕ) → is_number x ≡ true → (1 ≤ min x (65536 - x)) × (x < 65536)
number_near x e =
    let near : 1 ≤ min x (65536 - x) = leb-true 1 (absolute_value x) (and_parts (leb 1 (absolute_value x)) (leb (absolute_value x) 1000) e).0 in
    (near, omega (arith, near))

-- a letter is a small number or its inverse, by its case
number_small : (b : ℕ) → is_letter b ≡ true → 97 ≤ b → letter_number b ≡ b - 96
unfolding letter_number
number_small b e h = rw (le-leb 97 b h) (omega (arith, letter_high b e))

number_capital : (b : ℕ) → is_letter b ≡ true → b < 97 → letter_number b ≡ 65600 - b
unfolding letter_number
number_capital b e h = rw (lt-leb 97 b h, flip_within (b % 32) (omega arith)) (omega (arith, letter_low b e, letter-place b e))

letter_small : (x : ℕ) → x ≤ 26 → number_letter x ≡ 96 + x
unfolding number_letter
letter_small x h = rw (le-leb x 26 h) (omega arith)

letter_capital : (x : ℕ) → 65510 ≤ x → x < 65536 → number_letter x ≡ 65600 - x
unfolding number_letter
letter_capital x l h = rw (lt-leb x 26 (omega arith), flip_within x h) (omega arith)

pub letter_back : (b : ℕ) → is_letter b ≡ true → number_letter (letter_number b) ≡ b
letter_back b e = elim (dec_lt b 97) [
  | yes h ↦ rw (number_capital b e h) (letter_capital (65600 - b) (omega (arith, letter-place b e, letter_low b e)) (omega (arith, letter_low b e)) ∙ omega (arith, letter_low b e))
  | no n ↦ rw (number_small b e (omega arith)) (letter_small (b - 96) (omega (arith, letter_high b e)) ∙ omega arith)
]

-- the number of a letter may stand in a word, and has a letter
number_low : (b : ℕ) → is_letter b ≡ true → min (letter_number b) (65536 - letter_number b) ≡ b % 32
number_low b e = elim (dec_lt b 97) [
  | yes h ↦ rw (number_capital b e h) (omega (arith, letter-place b e, letter_low b e))
  | no n ↦ rw (number_small b e (omega arith)) (omega (arith, letter_high b e))
]

pub number_passes : (b : ℕ) → is_letter b ≡ true → is_number (letter_number b) ≡ true
number_passes b e =
    rw (number_low b e)
    (and_from (leb 1 (b % 32)) (leb (b % 32) 1000) (le-leb 1 (b % 32) (omega (arith, letter-place b e, letter_low b e))) (le-leb (b % 32) 1000 (omega arith)))

pub number_within_26 : (b : ℕ) → is_letter b ≡ true → within_26 (letter_number b) ≡ true
number_within_26 b e = rw (number_low b e) (le-leb (b % 32) 26 (omega (arith, letter-place b e, letter_low b e, letter_high b e)))

-- a number that has a letter comes back from it
module _ (x : ℕ) (e : is_number x ≡ true) (h : within_26 x ≡ true) where
  least : 1 ≤ min x (65536 - x)
  least = (number_near x e).0

  most : min x (65536 - x) ≤ 26
  most = leb-true (absolute_value x) 26 h

  pub letter_passes : is_letter (number_letter x) ≡ true
  letter_passes = elim (dec_lt x 27) [
    | yes l ↦ rw (letter_small x (omega arith)) (place-letter (96 + x) (omega (arith, least)) (omega arith) (omega (arith, least)))
    | no n ↦
        let far : 65510 ≤ x = omega (arith, most) in
        let fits : x < 65536 = (number_near x e).1 in
        rw (letter_capital x far fits) (place-letter (65600 - x) (omega (arith, fits)) (omega (arith, far)) (omega (arith, far, fits)))
  ]

  pub number_back : letter_number (number_letter x) ≡ x
  number_back = elim (dec_lt x 27) [
    | yes l ↦
        let back : number_letter x ≡ 96 + x = letter_small x (omega arith) in
        number_small (number_letter x) letter_passes (omega (arith, back, least)) ∙ omega (arith, back)
    | no n ↦
        let far : 65510 ≤ x = omega (arith, most) in
        let back : number_letter x ≡ 65600 - x = letter_capital x far (number_near x e).1 in
        number_capital (number_letter x) letter_passes (omega (arith, back, far)) ∙ omega (arith, back, (number_near x e).1)
  ]

-- inverses have inverse numbers, and no two letters the same
pub number_turned : (b : ℕ) → is_letter b ≡ true → letter_number (flip_byte b) ≡ flip_number (letter_number b)
number_turned b e = elim (dec_lt b 97) [
  | yes h ↦
      let turned : flip_byte b ≡ b + 32 = flip_up b (omega (arith, letter-place b e, letter_low b e)) in
      number_small (flip_byte b) (letter-flip b e) (omega (arith, turned, letter_low b e))
      ∙ rw (number_capital b e h, flip_within (65600 - b) (omega (arith, letter_low b e))) (omega (arith, turned, letter_low b e))
  | no n ↦
      let turned : flip_byte b ≡ b - 32 = flip_down b (omega (arith, letter-place b e, letter_high b e)) in
      number_capital (flip_byte b) (letter-flip b e) (omega (arith, turned, letter_high b e))
      ∙ rw (number_small b e (omega arith), flip_within (b - 96) (omega (arith, letter_high b e))) (omega (arith, turned, letter_high b e, letter-place b e))
]

pub number_apart : (b c : ℕ) → is_letter b ≡ true → is_letter c ≡ true → letter_number b ≡ letter_number c → b ≡ c
number_apart b c e h same = sym (letter_back b e) ∙ ap number_letter same ∙ letter_back c h
