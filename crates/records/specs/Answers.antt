-- What a call answers: "Every answer carries a verdict: done, member, not a member, or a refusal with its number and place."
use Rattle.std.specs.Prelude.{ℕ, List}
use Rattle.records.specs.declared.answers.Verdict.{Verdict}
use Rattle.records.specs.declared.answers.Verdict.TheVariants.{Done, Member, NotMember, Refused}
use Rattle.records.specs.declared.answers.Answer.{Answer}
use Rattle.std.specs.Prelude.{Err, Ok}
use Rattle.records.specs.Reasons.{number_of}
use Rattle.records.specs.Refusals.{Checked}
use Rattle.records.specs.declared.refusals.Reason.{Reason}

-- a verdict as a number: 0 done, 1 member, 2 not a member, 3 refused
abbrev pub verdict_number : Verdict → ℕ
verdict_number Done = 0
verdict_number Member = 1
verdict_number NotMember = 2
verdict_number (Refused f) = 3

-- the number of a refusal, and 0 where nothing is refused
abbrev pub refusal_number : Verdict → ℕ
refusal_number Done = 0
refusal_number Member = 0
refusal_number NotMember = 0
refusal_number (Refused f) = number_of f.reason

-- the place of a refusal, and 0 where nothing is refused
abbrev pub refusal_place : Verdict → ℕ
refusal_place Done = 0
refusal_place Member = 0
refusal_place NotMember = 0
refusal_place (Refused f) = f.place

-- a refusal with its reason and place, as a verdict
abbrev pub refused_with : Reason → ℕ → Verdict
refused_with why at = Refused (record { reason = why; place = at })

-- the answer of a call that gives its verdict alone, from what its tests found
abbrev pub answer_of : Checked → Answer
answer_of (Ok _) = record { verdict = Done }
answer_of (Err f) = record { verdict = Refused f }

-- a lent buffer after the call: the new bytes where no test failed, and "a refusal changes no lent byte"
abbrev pub on_fine : Checked → List ℕ → List ℕ → List ℕ
on_fine (Ok _) new old = new
on_fine (Err f) new old = old
