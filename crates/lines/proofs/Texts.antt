-- Numbers in decimal digits, put after a line.
use Prim.Native.Nat.{◌*◌, ◌-◌, ◌/◌, ◌<◌, ◌^◌, ◌≤◌, suc, zero, ℕ}
use mathlib.Core.List.{List, ◌++◌}
use mathlib.Core.Logic.{inl, inr}
use mathlib.Core.Path.{◌∙◌, ◌≡◌, ap, refl, sym}
use native.Mathlib.Nat.{one-le-pow, pow-le-pow_right, pow-suc}
use native.Mathlib.Omega.{arith}
use lib.Dec.{leb}
use lib.ListN.{take}
use borrow.Author.Tests.{le-ltb, leb-false, leb-true, lt-ltb}
use mir.Syntax.{w64}
use mir.Val.{Fits}
use Rattle.io.specs.Digits.{IsDigitCount, last_digits}
use Rattle.lines.specs.Text.{decimal, digits_within}
use Rattle.std.proofs.lemmas.Bool.{cases_Bool}

-- the fewest digits that hold a number are as many as are counted
module _ (n k : ℕ) (h : IsDigitCount 10 1 n (suc (suc k))) where
  above : 10 ^ k * 10 ≤ n
  above =
      let same : 10 ^ (suc (suc k) - 1) ≡ 10 ^ suc k = ap (λ (j : ℕ). 10 ^ j) (omega arith) in
      rw (← pow-suc 10 k, ← same) (h.2 (omega arith))

  fewer : IsDigitCount 10 1 (n / 10) (suc k)
  fewer =
      let below : n < 10 ^ suc k * 10 = rw (← pow-suc 10 (suc k)) h.1 in
      let same : 10 ^ (suc k - 1) ≡ 10 ^ k = ap (λ (j : ℕ). 10 ^ j) (omega arith) in
      (omega arith, omega arith, λ more. omega (arith, above))

digits_counted : (most n k : ℕ) → k ≤ suc most → IsDigitCount 10 1 n k → digits_within most n ≡ k
digits_counted zero n k short h = omega (arith, h)
digits_counted (suc most) n zero short h = absurd (omega (arith, h))
digits_counted (suc most) n (suc zero) short h = rw (lt-ltb n 10 h.1) refl
digits_counted (suc most) n (suc (suc k)) short h =
    let two : 10 ≤ n = omega (arith, above n k h, one-le-pow k 10 (omega arith)) in
    rw (le-ltb n 10 two) (ap suc (digits_counted most (n / 10) (suc k) (omega arith) (fewer n k h)))

-- a number of 64 bits has at most 20
digits_few : (n k : ℕ) → Fits w64 n → IsDigitCount 10 1 n k → k ≤ 20
digits_few n k word h =
    elim (cases_Bool (leb k 20)) [
      | inl few ↦ leb-true k 20 few
      | inr more ↦
          let many : 20 < k = leb-false k 20 more in
          let great : 10 ^ (k - 1) ≤ n = h.2 (omega arith) in
          let power : 10 ^ 20 ≤ 10 ^ (k - 1) = pow-le-pow_right {n = 10} (omega arith) {i = 20} {j = k - 1} (omega arith) in
          absurd (omega (arith, word.fits))
    ]

-- so the digits that are put are the number
module _ (n k : ℕ) (text : List ℕ) (word : Fits w64 n) (fewest : IsDigitCount 10 1 n k) (told : take k text ≡ last_digits 10 k n) where
  pub decimal_is : (line : List ℕ) {line₁ : List ℕ} → line₁ ≡ line ++ take k text → line₁ ≡ line ++ decimal n
  unfolding decimal
  decimal_is line e = e ∙ ap (λ (l : List ℕ). line ++ l) (told ∙ ap (λ (j : ℕ). last_digits 10 j n) (sym (digits_counted 19 n k (digits_few n k word fewest) fewest)))
