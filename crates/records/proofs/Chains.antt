-- Chains of tests and walks over numbered tests: the first that fails decides; and what a call answers by what its tests found.
use Prim.Native.Nat.{◌+◌, ◌-◌, ◌<◌, ◌≤◌, suc, zero, ℕ}
use mathlib.Core.Bool.{Bool, false, true, true≢false}
use mathlib.Core.List.{List}
use mathlib.Core.Path.{◌∙◌, ◌≡◌, ap, refl, sym}
use native.Mathlib.Decide.{dec_lt}
use native.Mathlib.Nat.{le_antisymm, suc-add, zero-add}
use native.Mathlib.Numerals.{add-one}
use native.Mathlib.Omega.{arith}
use Rattle.records.specs.Answers.{answer_of, on_fine}
use Rattle.records.specs.declared.answers.Answer.{Answer}
use Rattle.records.specs.declared.answers.Verdict.{Verdict}
use Rattle.records.specs.declared.answers.Verdict.TheVariants.{Done, Member, NotMember, Refused}
use mathlib.Core.Logic.{◌↔◌}
use Rattle.records.specs.declared.answers.Refusal.{Refusal}
use Rattle.records.specs.Refusals.{◌and_then◌, each_below, must, refusal, Checked}
use Rattle.std.specs.Prelude.{Err, Ok}
use Rattle.records.specs.declared.refusals.Reason.{Reason}

-- a chain of tests: the first that fails decides, and where one is passed the rest does
pub then_failed : {r : Checked} (c d : Checked) {f : Refusal} → r ≡ c → r ≡ Err f → r ≡ c and_then d
then_failed c d e h = rw (← e, h)

pub then_fine : {q r : Checked} (c d : Checked) → q ≡ c → q ≡ Ok tt → r ≡ d → r ≡ c and_then d
then_fine c d e h k = rw (← e, h, k)

pub must_pass : (b : Bool) (n : Reason) (at : ℕ) → b ≡ true → must b n at ≡ Ok tt
must_pass b n at e = rw e

pub must_told : {b d : Bool} (n : Reason) (at : ℕ) {x : Checked} → b ≡ d → x ≡ must b n at → x ≡ must d n at
must_told n at e h = rw (← e) h

pub must_fine : (b : Bool) (n : Reason) (at : ℕ) → must b n at ≡ Ok tt → b ≡ true
must_fine true n at e = refl
must_fine false n at e = let z : ◌≡◌ {A = ℕ} 0 1 = cc in absurd (omega arith)

pub must_passed : (b : Bool) (n : Reason) (at : ℕ) {x : Checked} → x ≡ must b n at → x ≡ Ok tt → b ≡ true
must_passed b n at e h = must_fine b n at (sym e ∙ h)

pub must-refused : (b : Bool) (n : Reason) (at : ℕ) {x : Checked} {f : Refusal} → x ≡ must b n at → x ≡ Err f → (b ≡ false) × (x ≡ refusal n at)
must-refused false n at e h = (refl, e)
must-refused true n at e h = let z : ◌≡◌ {A = ℕ} 0 1 = cc in absurd (omega arith)

pub must_fail : (b : Bool) (n : Reason) (at : ℕ) {x : Checked} → b ≡ false → x ≡ refusal n at → x ≡ must b n at
must_fail b n at e h = rw e h

-- a chain of tests that is passed: each of them is
pub fine_first : (c d : Checked) → c and_then d ≡ Ok tt → c ≡ Ok tt
fine_first (Ok _) d e = refl
fine_first (Err f) d e = e

pub fine_next : (c d : Checked) → c and_then d ≡ Ok tt → d ≡ Ok tt
fine_next (Ok _) d e = e
fine_next (Err f) d e = let z : ◌≡◌ {A = ℕ} 0 1 = cc in absurd (omega arith)

-- the answer of a call, and a lent buffer after it, from what its tests found
pub answered : {x : Checked} {a : Answer} (c : Checked) → x ≡ c → a ≡ answer_of x → a ≡ answer_of c
answered c e f = f ∙ ap answer_of e

pub unchanged : {x : Checked} {f : Refusal} (c : Checked) (new old : List ℕ) → x ≡ c → x ≡ Err f → old ≡ on_fine c new old
unchanged c new old e h = rw (sym e ∙ h)

pub changed : {x : Checked} {y : List ℕ} (c : Checked) (new old : List ℕ) → x ≡ c → x ≡ Ok tt → y ≡ new → y ≡ on_fine c new old
changed c new old e h told = rw (sym e ∙ h) told

abbrev is_done : Verdict → Bool
is_done Done = true
is_done Member = false
is_done NotMember = false
is_done (Refused f) = false

pub verdict_done : (c : Checked) → ((answer_of c).verdict ≡ Done) ↔ (c ≡ Ok tt)
verdict_done (Ok _) = (λ e. refl, λ e. refl)
verdict_done (Err f) = (λ e. absurd (true≢false (sym (ap is_done e))), λ e. ap (λ (d : Checked). (answer_of d).verdict) e)

pub never : {P : Type 0} → false ≡ true → P
never e = absurd (true≢false (sym e))

-- where the first tests are known to be passed
pub passed_changed : {y : List ℕ} (c : Checked) (new old : List ℕ) → c ≡ Ok tt → y ≡ new → y ≡ on_fine c new old
passed_changed c new old e told = rw e told

pub passed_buffer : (c : Checked) (new old : List ℕ) → c ≡ Ok tt → on_fine c new old ≡ new
passed_buffer c new old e = rw e

-- a walk over numbered tests: the first that fails decides
module _ (check : ℕ → Checked) where
  each_stays : (d k : ℕ) {f : Refusal} → each_below check k ≡ Err f → each_below check (d + k) ≡ Err f
  each_stays zero k e = rw zero-add e
  each_stays (suc d) k e = rw (suc-add, each_stays d k e)

  module _ (k : ℕ) (passed : each_below check k ≡ Ok tt) where
    pub each_pass : {x : Checked} → x ≡ check k → x ≡ Ok tt → each_below check (k + 1) ≡ Ok tt
    each_pass e good = rw (add-one, passed, ← e) good

    pub each_fail : {x : Checked} {f : Refusal} (n : ℕ) → k < n → x ≡ check k → x ≡ Err f → x ≡ each_below check n
    each_fail {f = f} n h e bad =
        let count : n - suc k + suc k ≡ n = omega arith in
        let here : each_below check (suc k) ≡ Err f = rw passed (sym e ∙ bad) in
        bad ∙ sym (ap (each_below check) (sym count) ∙ each_stays (n - suc k) (suc k) here)

    pub each_end : (n : ℕ) → n ≤ k → k ≤ n → Ok tt ≡ each_below check n
    each_end n l h = rw (le_antisymm l h) (sym passed)

  -- it passes exactly when each of them does
  pub each_passed : (n k : ℕ) → each_below check n ≡ Ok tt → k < n → check k ≡ Ok tt
  each_passed zero k e h = absurd (omega arith)
  each_passed (suc n) k e h = elim (dec_lt k n) [
    | yes l ↦ each_passed n k (fine_first (each_below check n) _ e) l
    | no m ↦
        let last : k ≡ n = omega arith in
        rw last (fine_next (each_below check n) _ e)
  ]

  pub each_passes : (n : ℕ) → ((k : ℕ) → k < n → check k ≡ Ok tt) → each_below check n ≡ Ok tt
  each_passes zero all = refl
  each_passes (suc n) all = rw (each_passes n (λ k h. all k (omega arith)), all n (omega arith))
