-- Which test of a chain gives a refusal, told by the reason's number, and above which number the tests of a record and of a target never refuse.
use Prim.Native.Nat.{ℕ, zero, suc, ◌+◌, ◌≤◌, ◌<◌}
use mathlib.Core.Path.{◌≡◌, ap, refl, sym}
use mathlib.Core.Logic.{◌↔◌}
use mathlib.Core.Bool.{Bool, false, true}
use mathlib.Core.List.{List, [], ◌∷◌}
use native.Mathlib.Omega.{arith}
use lib.ListN.{get_or, length, take}
use lib.Dec.{eqb}
use Rattle.std.proofs.lemmas.Bool.{cond_both}
use Rattle.records.specs.Records.{is_letter_or_stop, is_stop, not_letter}
use Rattle.records.specs.Refusals.{◌and_then◌, as_six, byte_rule, each_below, each_byte, end_rule, letters_rule, must, order_rule, record_rules, refusal, target_rules}
use Rattle.records.proofs.Chains.{never}
use Rattle.std.specs.Prelude.{Err, Ok}
use Rattle.records.specs.Refusals.{Checked}
use Rattle.records.specs.Reasons.{number_of}
use Rattle.records.specs.declared.refusals.Reason.{Reason}
use Rattle.records.specs.declared.refusals.Reason.TheVariants.{LetterAfterStop, NeitherLetterNorStop, NoLineFeed, TargetOrProductMalformed}

-- a test that never gives this reason
abbrev pub Never : Reason → Checked → Type 0
Never n c = (k : ℕ) → c ≡ refusal n k → ⊥

abbrev number_in : Checked → ℕ
number_in (Ok _) = 0
number_in (Err f) = number_of f.reason

abbrev place_of : Checked → ℕ
place_of (Ok _) = 0
place_of (Err f) = f.place

abbrev failed : Checked → Bool
failed (Ok _) = false
failed (Err f) = true

pub same_place : {n : Reason} {j k : ℕ} → refusal n j ≡ refusal n k → j ≡ k
same_place e = ap place_of e

pub fine_never : (n : Reason) → Never n (Ok tt)
fine_never n k e = never (ap failed e)

pub other_never : (n m : Reason) (at : ℕ) → (number_of m ≡ number_of n → ⊥) → Never n (refusal m at)
other_never n m at h k e = h (ap number_in e)

pub must_never : (b : Bool) (n m : Reason) (at : ℕ) → (number_of m ≡ number_of n → ⊥) → Never n (must b m at)
must_never true n m at h = fine_never n
must_never false n m at h = other_never n m at h

pub never_then : (n : Reason) (a b : Checked) → Never n a → Never n b → Never n (a and_then b)
never_then n (Ok _) b p q = q
never_then n (Err f) b p q = p

-- the reason is given after a test that never gives it
pub then_next : (n : Reason) (a b : Checked) (k : ℕ) → Never n a → (a and_then b ≡ refusal n k) ↔ ((a ≡ Ok tt) × (b ≡ refusal n k))
then_next n (Ok _) b k p = (λ e. (refl, e), λ x. x.1)
then_next n (Err f) b k p = (λ e. absurd (p k e), λ x. never (ap failed (sym x.0)))

-- or by a test after which none gives it
pub then_first : (n : Reason) (a b : Checked) (k : ℕ) → Never n b → (a and_then b ≡ refusal n k) ↔ (a ≡ refusal n k)
then_first n (Ok _) b k q = (λ e. absurd (q k e), λ e. absurd (fine_never n k e))
then_first n (Err f) b k q = (λ e. e, λ e. e)

-- a test with its reason
pub must-given : (b : Bool) (n : Reason) (at k : ℕ) → (must b n at ≡ refusal n k) ↔ ((b ≡ false) × (at ≡ k))
must-given true n at k = (λ e. absurd (fine_never n k e), λ x. never (sym x.0))
must-given false n at k = (λ e. (refl, same_place e), λ x. ap (refusal n) x.1)

-- a test that refuses with no number above n
abbrev pub NumberedTo : ℕ → Checked → Type 0
NumberedTo n c = number_in c ≤ n

-- and so with no reason of a larger number
pub never_above : (why : Reason) (c : Checked) (n : ℕ) → NumberedTo n c → n < number_of why → Never why c
never_above why c n h above k e = omega (arith, h, above, ap number_in e)

pub must_numbered : (n : ℕ) (b : Bool) (why : Reason) (at : ℕ) → number_of why ≤ n → NumberedTo n (must b why at)
must_numbered n true why at h = omega arith
must_numbered n false why at h = h

pub then_numbered : (n : ℕ) (c d : Checked) → NumberedTo n c → NumberedTo n d → NumberedTo n (c and_then d)
then_numbered n (Ok _) d first next = next
then_numbered n (Err f) d first next = first

pub each_numbered : (n : ℕ) (check : ℕ → Checked) (k : ℕ) → ((i : ℕ) → NumberedTo n (check i)) → NumberedTo n (each_below check k)
each_numbered n check zero each = omega arith
each_numbered n check (suc k) each = then_numbered n (each_below check k) (check k) (each_numbered n check k each) (each k)

bytes_numbered : (n : ℕ) (test : ℕ → Bool) (why : Reason) (r : List ℕ) (at : ℕ) → number_of why ≤ n → NumberedTo n (each_byte test why r at)
bytes_numbered n test why [] at h = omega arith
bytes_numbered n test why (b ∷ r) at h =
    then_numbered n (must (test b) why at) (each_byte test why r (at + 1)) (must_numbered n (test b) why at h)
    (bytes_numbered n test why r (at + 1) h)

order_numbered : (r : List ℕ) (at : ℕ) → NumberedTo 5 (order_rule r at)
order_numbered [] at = omega arith
order_numbered (b ∷ r) at =
    cond_both (is_stop b) (each_byte not_letter LetterAfterStop r (at + 1)) (order_rule r (at + 1)) (NumberedTo 5)
    (λ e. bytes_numbered 5 not_letter LetterAfterStop r (at + 1) (omega arith)) (λ e. order_numbered r (at + 1))

-- a record's tests refuse with no number above 5
pub record_numbered : (r : List ℕ) (at : ℕ) → NumberedTo 5 (record_rules r at)
unfolding record_rules letters_rule
record_numbered r at =
    then_numbered 5 (end_rule r at) (letters_rule (take 63 r) at) (must_numbered 5 (eqb (get_or r 63 0) 10) NoLineFeed (at + 63) (omega arith))
    (then_numbered 5 (byte_rule (take 63 r) at) (order_rule (take 63 r) at)
    (bytes_numbered 5 is_letter_or_stop NeitherLetterNorStop (take 63 r) at (omega arith)) (order_numbered (take 63 r) at))

-- a target's with none above 6
six_numbered : (c : Checked) → NumberedTo 6 (as_six c)
six_numbered (Ok _) = omega arith
six_numbered (Err f) = omega arith

pub target_numbered : (r : List ℕ) → NumberedTo 6 (target_rules r)
unfolding target_rules
target_numbered r =
    then_numbered 6 (must (eqb (length r) 64) TargetOrProductMalformed 0) (as_six (record_rules r 0))
    (must_numbered 6 (eqb (length r) 64) TargetOrProductMalformed 0 (omega arith)) (six_numbered (record_rules r 0))
