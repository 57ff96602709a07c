-- Ask: "a system that is reduced after free reduction and a target in; member or not, and for a member the product over the freely reduced
-- words. Nothing but the product is written."
use Rattle.std.specs.Prelude.{ℕ, Bool, false, true, List, leb, length}
use Rattle.std.specs.Prelude.{Option}
use Rattle.systems.specs.declared.Factor.{Factor}
use Rattle.records.specs.Answers.{on_fine}
use Rattle.records.specs.Refusals.{◌and_then◌, must, target_rules}
use Rattle.records.specs.declared.answers.Answer.{Answer}
use Rattle.records.specs.declared.answers.Verdict.{Verdict}
use Rattle.records.specs.declared.answers.Verdict.TheVariants.{Member, NotMember, Refused}
use Rattle.slots.specs.Refusals.{system_rules}
use Rattle.slots.specs.Systems.{freely_reduced_words}
use Rattle.runs.specs.Runs.{stopped}
use Rattle.factoring.specs.TargetProduct.{is_found, product_after, product_for, target_word}
use Rattle.records.specs.declared.refusals.Reason.TheVariants.{ProductBufferShort, SystemNotReduced}
use Rattle.std.specs.Prelude.{Err, Ok}
use Rattle.records.specs.Refusals.{Checked}

-- whether the target is a member, as the verdict says it
abbrev pub verdict_of : Bool → Verdict
verdict_of true = Member
verdict_of false = NotMember

-- refusals 1 to 6
unfoldable pub question_rules : List ℕ → List ℕ → Checked
question_rules s t = system_rules s and_then target_rules t

-- 15. "The system isn't reduced after free reduction.": some rule applies (`not_reduced` of Meaning). 11. "The product buffer is shorter than
-- 64 bytes."
unfoldable pub ready_rules : List (List ℕ) → ℕ → Checked
ready_rules S room = must (stopped S) SystemNotReduced 0 and_then must (leb 64 room) ProductBufferShort 0

-- "tidy, replay, multiply, ask, read and the three calls on numbers answer with the verdict alone, and so does trace": of ask and of trace a
-- refusal, or the verdict on the target
abbrev pub asked_of : Checked → Verdict → Answer
asked_of (Ok _) verdict = record { verdict = verdict }
asked_of (Err f) verdict = record { verdict = Refused f }

-- the product over the freely reduced words that the target is
abbrev pub ask_found : List ℕ → List ℕ → Option (List Factor)
ask_found s t = product_for (freely_reduced_words s) (target_word t)

-- the call, on the lent buffers: system, target and product
module _ (s t product : List ℕ) where
  abbrev pub ask_tests : Checked
  ask_tests = question_rules s t and_then ready_rules (freely_reduced_words s) (length product)

  abbrev pub ask_answer : Answer
  ask_answer = asked_of ask_tests (verdict_of (is_found (ask_found s t)))

  abbrev pub ask_product : List ℕ
  ask_product = on_fine ask_tests (product_after (ask_found s t) product) product
