-- The call ask: the verdict and the product from the words taken in, and the answer by what the tests found.
use Prim.Native.Nat.{◌≤◌, ℕ}
use mathlib.Core.List.{List}
use mathlib.Core.Path.{◌∙◌, ◌≡◌, ap, ap₂, sym}
use lib.ListN.{length}
use borrow.Author.Tests.{leb-true}
use Rattle.records.specs.Answers.{answer_of}
use Rattle.records.specs.Refusals.{must}
use Rattle.records.specs.declared.answers.Answer.{Answer}
use Rattle.records.specs.declared.answers.Refusal.{Refusal}
use Rattle.records.specs.declared.answers.Verdict.{Verdict}
use Rattle.records.proofs.Chains.{fine_first, fine_next, must_fine}
use Rattle.records.proofs.Targets.{target-sized}
use Rattle.slots.specs.Refusals.{system_rules}
use Rattle.slots.proofs.Systems.{system-size}
use Rattle.runs.specs.Runs.{stopped}
use Rattle.factoring.specs.TargetProduct.{is_found, product_after, product_for, target_word}
use Rattle.asking.specs.Asking.{asked_of, question_rules, ready_rules, verdict_of}
use Rattle.records.specs.declared.refusals.Reason.TheVariants.{ProductBufferShort, SystemNotReduced}
use Rattle.std.specs.Prelude.{Err, Ok}
use Rattle.records.specs.Refusals.{Checked}

-- what refusals 1 to 6 tell once they are passed
module _ (s t : List ℕ) {x : Checked} (e : x ≡ question_rules s t) (h : x ≡ Ok tt) where
  passed : question_rules s t ≡ Ok tt
  passed = sym e ∙ h

  pub question_size : length s ≤ 1024
  unfolding question_rules
  question_size = system-size s (fine_first (system_rules s) _ passed)

  pub question_target : length t ≡ 64
  unfolding question_rules
  question_target = target-sized t (fine_next (system_rules s) _ passed)

-- what 15 and 11 tell once they are passed
pub ready_room : (S : List (List ℕ)) (room : ℕ) {x : Checked} → x ≡ ready_rules S room → x ≡ Ok tt → 64 ≤ room
unfolding ready_rules
ready_room S room e h = leb-true 64 room (must_fine _ ProductBufferShort 0 (fine_next (must (stopped S) SystemNotReduced 0) _ (sym e ∙ h)))

-- the tests of words taken in are those of the system's words
pub ready_told : (S T : List (List ℕ)) (room : ℕ) {x : Checked} → S ≡ T → x ≡ ready_rules S room → x ≡ ready_rules T room
ready_told S T room same e = e ∙ ap (λ (U : List (List ℕ)). ready_rules U room) same

-- the answer by what the tests found
module _ (c : Checked) (v : Verdict) {x : Checked} (e : x ≡ c) where
  pub asked-refused : {a : Answer} {f : Refusal} → x ≡ Err f → a ≡ answer_of x → a ≡ asked_of c v
  asked-refused h told = told ∙ ap answer_of h ∙ sym (ap (λ (d : Checked). asked_of d v) (sym e ∙ h))

  pub asked-given : {u : Verdict} → x ≡ Ok tt → u ≡ v → ◌≡◌ {A = Answer} (record { verdict = u }) (asked_of c v)
  asked-given h same = (λ i. record { verdict = same i }) ∙ sym (ap (λ (d : Checked). asked_of d v) (sym e ∙ h))

-- the words that were taken in, asked about the target
module _ {S T : List (List ℕ)} {t u : List ℕ} (same : S ≡ T) (target : t ≡ u) where
  pub verdict_same : {v : Verdict} → v ≡ verdict_of (is_found (product_for S (target_word t))) → v ≡ verdict_of (is_found (product_for T (target_word u)))
  verdict_same e = e ∙ ap₂ (λ (U : List (List ℕ)) (l : List ℕ). verdict_of (is_found (product_for U (target_word l)))) same target

  pub product_same : (product : List ℕ) {out : List ℕ} → out ≡ product_after (product_for S (target_word t)) product
      → out ≡ product_after (product_for T (target_word u)) product
  product_same product e = e ∙ ap₂ (λ (U : List (List ℕ)) (l : List ℕ). product_after (product_for U (target_word l)) product) same target
