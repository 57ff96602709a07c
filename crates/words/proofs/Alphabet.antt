-- What the theory of words asks of its letters: the inverse of the inverse is the letter, and the test says whether
-- two letters are the same. The letters a to z and their capitals, as bytes, obey it.
use Prim.Native.Nat.{ℕ, ◌+◌, ◌-◌, ◌*◌, ◌/◌, ◌%◌, ◌≤◌, ◌<◌}
use mathlib.Core.Path.{◌≡◌, refl, sym, ap, ◌∙◌}
use mathlib.Core.Bool.{Bool, true, false, true≢false}
use native.Mathlib.Omega.{arith}
use native.Mathlib.Decide.{dec_lt}
use lib.Bits.{bit_xor, xor_zero_r, xor_block}
use borrow.Author.Tests.{eqb-true, eq-eqb, lt-ltb, le-ltb}
use Rattle.words.specs.Alphabet.{Alphabet, flip_byte, bytes}

pub record AlphabetLaws {A : Type 0} (G : Alphabet A) : Type 0 where
  pub twice : (x : A) → G.flip (G.flip x) ≡ x
  pub same_sound : (x y : A) → G.same x y ≡ true → x ≡ y
  pub same_refl : (x : A) → G.same x x ≡ true

module _ {A : Type 0} (G : Alphabet A) (L : AlphabetLaws G) where
  open G use {flip, same}
  open L use {twice, same_sound, same_refl}

  pub same_yes : (x y : A) → x ≡ y → same x y ≡ true
  same_yes x y e = rw e (same_refl y)

  pub same_no : (x y : A) → (x ≡ y → ⊥) → same x y ≡ false
  same_no x y n = go (same x y) refl
    where
      go : (b : Bool) → same x y ≡ b → same x y ≡ false
      go true e = absurd (n (same_sound x y e))
      go false e = e

  pub differ : (x y : A) → same x y ≡ false → x ≡ y → ⊥
  differ x y e p = true≢false (sym (same_yes x y p) ∙ e)

  -- two letters are the same or not
  pub same? : (x y : A) → Dec (x ≡ y)
  same? x y = go (same x y) refl
    where
      go : (b : Bool) → same x y ≡ b → Dec (x ≡ y)
      go true e = yes (same_sound x y e)
      go false e = no (differ x y e)

  pub flip_turn : (x y : A) → x ≡ flip y → y ≡ flip x
  flip_turn x y e = rw e (sym (twice y))

  pub flip_inj : (x y : A) → flip x ≡ flip y → x ≡ y
  flip_inj x y e = sym (twice x) ∙ ap flip e ∙ twice y

pub flip_up : (x : ℕ) → x % 64 < 32 → flip_byte x ≡ x + 32
unfolding flip_byte
flip_up x h = rw (lt-ltb (x % 64) 32 h)

pub flip_down : (x : ℕ) → 32 ≤ x % 64 → flip_byte x ≡ x - 32
unfolding flip_byte
flip_down x h = rw (le-ltb (x % 64) 32 h)

-- the bit of worth 32 turned over
xor_low : (a s : ℕ) → s < 32 → bit_xor (a * 64 + s) 32 ≡ a * 64 + (32 + s)
xor_low a s h =
    let outer : bit_xor (a * 64 + s) 32 ≡ bit_xor a 0 * 64 + bit_xor s 32 = xor_block 6 a 0 s 32 (omega arith) (omega arith) in
    let plain : 0 * 32 + s ≡ s = omega arith in
    let inner : bit_xor (0 * 32 + s) 32 ≡ 1 * 32 + bit_xor s 0 = xor_block 5 0 1 s 0 h (omega arith) in
    let lower : bit_xor s 32 ≡ 1 * 32 + bit_xor s 0 = sym (ap (λ (y : ℕ). bit_xor y 32) plain) ∙ inner in
    omega (arith, outer, lower, xor_zero_r a, xor_zero_r s)

xor_high : (a s : ℕ) → s < 32 → bit_xor (a * 64 + (32 + s)) 32 ≡ a * 64 + s
xor_high a s h =
    let outer : bit_xor (a * 64 + (32 + s)) 32 ≡ bit_xor a 0 * 64 + bit_xor (32 + s) 32 =
    xor_block 6 a 0 (32 + s) 32 (omega arith) (omega arith) in
    let inner : bit_xor (32 + s) 32 ≡ 0 * 32 + bit_xor s 0 = xor_block 5 1 1 s 0 h (omega arith) in
    omega (arith, outer, inner, xor_zero_r a, xor_zero_r s)

pub flip_bit : (x : ℕ) → bit_xor x 32 ≡ flip_byte x
flip_bit x = elim (dec_lt (x % 64) 32) [
  | yes h ↦
      let split : x ≡ x / 64 * 64 + x % 64 = omega arith in
      ap (λ (y : ℕ). bit_xor y 32) split ∙ xor_low (x / 64) (x % 64) h ∙ rw (flip_up x h) (omega arith)
  | no n ↦
      let split : x ≡ x / 64 * 64 + (32 + (x % 64 - 32)) = omega arith in
      ap (λ (y : ℕ). bit_xor y 32) split ∙ xor_high (x / 64) (x % 64 - 32) (omega arith) ∙ rw (flip_down x (omega arith)) (omega arith)
]

byte_twice : (x : ℕ) → flip_byte (flip_byte x) ≡ x
byte_twice x = elim (dec_lt (x % 64) 32) [
  | yes h ↦ rw (flip_up x h, flip_down (x + 32) (omega arith)) (omega arith)
  | no n ↦ rw (flip_down x (omega arith), flip_up (x - 32) (omega arith)) (omega arith)
]

pub byte_laws : AlphabetLaws bytes
byte_laws = record { twice = byte_twice; same_sound = eqb-true; same_refl = λ x. eq-eqb x x refl }

-- no letter is its own inverse
pub flip_byte_no_own_inverse : (x : ℕ) → flip_byte x ≡ x → ⊥
flip_byte_no_own_inverse x = elim (dec_lt (x % 64) 32) [
  | yes h ↦ rw (flip_up x h) (omega arith)
  | no n ↦ rw (flip_down x (omega arith)) (omega arith)
]
