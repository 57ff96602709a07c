-- Sums over the slots of a system, and counts of the slots where a test holds.
use Prim.Native.Nat.{ℕ, zero, suc, ◌+◌, ◌-◌, ◌*◌, ◌≤◌, ◌<◌}
use mathlib.Core.Path.{◌≡◌, refl}
use mathlib.Core.Bool.{Bool, true, false}
use native.Mathlib.Omega.{arith}
use native.Mathlib.Decide.{dec_lt}

-- the sum of f 0, f 1, .. below n
abbrev pub total : (ℕ → ℕ) → ℕ → ℕ
total f zero = 0
total f (suc n) = total f n + f n

pub total_le : (f g : ℕ → ℕ) (n : ℕ) → ((j : ℕ) → j < n → f j ≤ g j) → total f n ≤ total g n
total_le f g zero h = omega arith
total_le f g (suc n) h = omega (arith, total_le f g n (λ j l. h j (omega arith)), h n (omega arith))

-- no number is larger, and one is smaller
pub total_less : (f g : ℕ → ℕ) (n i : ℕ) → i < n → f i < g i → ((j : ℕ) → j < n → f j ≤ g j) → total f n < total g n
total_less f g zero i l s h = absurd (omega arith)
total_less f g (suc n) i l s h = elim (dec_lt i n) [
  | yes p ↦ omega (arith, total_less f g n i p s (λ j q. h j (omega arith)), h n (omega arith))
  | no p ↦
      let e : i ≡ n = omega arith in
      let s' : f n < g n = rw e at s in
      omega (arith, s', total_le f g n (λ j q. h j (omega arith)))
]

-- at most b each
pub total_most : (f : ℕ → ℕ) (n b : ℕ) → ((j : ℕ) → j < n → f j ≤ b) → total f n ≤ n * b
total_most f zero b h = omega arith
total_most f (suc n) b h = omega (arith, total_most f n b (λ j l. h j (omega arith)), h n (omega arith))

-- at most two each, and none from one slot
pub total_but_one : (f : ℕ → ℕ) (n i : ℕ) → i < n → f i ≡ 0 → ((j : ℕ) → f j ≤ 2) → total f n ≤ 2 * (n - 1)
total_but_one f zero i l z h = absurd (omega arith)
total_but_one f (suc n) i l z h = elim (dec_lt i n) [
  | yes p ↦ omega (arith, total_but_one f n i p z h, h n)
  | no p ↦
      let e : i ≡ n = omega arith in
      let z' : f n ≡ 0 = rw e at z in
      omega (arith, z', total_most f n 2 (λ j q. h j))
]

-- 1 where a test holds, and 0 elsewhere
abbrev pub bit : Bool → ℕ
bit true = 1
bit false = 0

pub bit_few : (t : Bool) → bit t ≤ 1
bit_few true = omega arith
bit_few false = omega arith

pub bit_le : (s t : Bool) → (s ≡ true → t ≡ true) → bit s ≤ bit t
bit_le true t h = rw (h refl) (omega arith)
bit_le false t h = omega arith

pub bit_less : (s t : Bool) → (s ≡ true → ⊥) → t ≡ true → bit s < bit t
bit_less true t n e = absurd (n refl)
bit_less false t n e = rw e (omega arith)
