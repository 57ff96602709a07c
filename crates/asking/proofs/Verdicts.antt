-- The verdict on a target, by a test that says whether something holds of it; two such verdicts are the same.
use mathlib.Core.Bool.{Bool, false, true, true≢false}
use mathlib.Core.Logic.{◌↔◌, inl, inr}
use mathlib.Core.Path.{◌∙◌, ◌≡◌, refl, sym}
use Rattle.records.specs.declared.answers.Verdict.{Verdict}
use Rattle.records.specs.declared.answers.Verdict.TheVariants.{Member, NotMember}
use Rattle.asking.specs.Asking.{verdict_of}
use Rattle.asking.specs.Meaning.{Answered}
use Rattle.asking.proofs.Meaning.{apart}

-- a verdict by a test that says what is generated
module _ (P : Type 0) where
  pub member_says : (b : Bool) → (b ≡ true) ↔ P → (verdict_of b ≡ Member) ↔ P
  member_says true says = (λ _. says.0 refl, λ _. refl)
  member_says false says = (λ e. absurd (apart (verdict_of false) e refl), λ p. absurd (true≢false (sym (says.1 p))))

  pub not_member_says : (b : Bool) → (b ≡ true) ↔ P → (verdict_of b ≡ NotMember) ↔ (P → ⊥)
  not_member_says true says = (λ e. absurd (apart (verdict_of true) refl e), λ n. absurd (n (says.0 refl)))
  not_member_says false says = (λ _ p. true≢false (sym (says.1 p)), λ _. refl)

pub verdict_answered : (b : Bool) → Answered (verdict_of b)
verdict_answered true = inl refl
verdict_answered false = inr refl

-- two verdicts that say whether the same holds
pub same_verdict : (P : Type 0) (u v : Verdict) → Answered u → Answered v → (u ≡ Member) ↔ P → (v ≡ Member) ↔ P → u ≡ v
same_verdict P u v (inl e) h a b = e ∙ sym (b.1 (a.0 e))
same_verdict P u v (inr e) (inl k) a b = absurd (apart u (a.1 (b.0 k)) e)
same_verdict P u v (inr e) (inr k) a b = e ∙ sym k
