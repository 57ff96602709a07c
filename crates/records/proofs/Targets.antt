-- A target or a product beside a system: refusal 6, case by case, and what a record that passes it tells.
use Prim.Native.Nat.{ℕ}
use mathlib.Core.List.{List}
use mathlib.Core.Path.{◌∙◌, ◌≡◌, sym}
use lib.Dec.{eqb}
use lib.ListN.{length}
use borrow.Author.Tests.{eq-eqb, eqb-true, ne_eqb}
use Rattle.records.specs.Refusals.{must, record_rules, refusal, target_rules}
use Rattle.records.specs.declared.answers.Refusal.{Refusal}
use Rattle.records.proofs.Chains.{fine_first, must_fine}
use Rattle.records.specs.declared.refusals.Reason.TheVariants.{TargetOrProductMalformed}
use Rattle.std.specs.Prelude.{Err, Ok}
use Rattle.records.specs.Refusals.{Checked}

-- refusal 6, case by case: of another length, and of 64 bytes by what a record's rules say
pub target_uneven : (r : List ℕ) {x : Checked} → (length r ≡ 64 → ⊥) → x ≡ refusal TargetOrProductMalformed 0 → x ≡ target_rules r
unfolding target_rules
target_uneven r n e = rw (ne_eqb (length r) 64 n) e

module _ (r : List ℕ) (sized : length r ≡ 64) {x : Checked} (e : x ≡ record_rules r 0) where
  pub target_fine : x ≡ Ok tt → Ok tt ≡ target_rules r
  unfolding target_rules
  target_fine h = rw (eq-eqb _ _ sized, ← e, h)

  pub target_refused : {y : Checked} {f : Refusal} → x ≡ Err f → y ≡ refusal TargetOrProductMalformed f.place → y ≡ target_rules r
  unfolding target_rules
  target_refused h k = rw (eq-eqb _ _ sized, ← e, h) k

pub target_passes : (r : List ℕ) → length r ≡ 64 → record_rules r 0 ≡ Ok tt → target_rules r ≡ Ok tt
unfolding target_rules
target_passes r sized e = rw (eq-eqb _ _ sized, e)

-- a target that passes is 64 bytes long
pub target-sized : (r : List ℕ) → target_rules r ≡ Ok tt → length r ≡ 64
unfolding target_rules
target-sized r e = eqb-true _ _ (must_fine _ TargetOrProductMalformed 0 (fine_first (must (eqb (length r) 64) TargetOrProductMalformed 0) _ e))

pub target_told : {x : Checked} (r : List ℕ) → x ≡ target_rules r → x ≡ Ok tt → length r ≡ 64
target_told r e h = target-sized r (sym e ∙ h)
