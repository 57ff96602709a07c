-- The program: its output, and what it was under the former order.
use Rattle.records.specs.declared.refusals.Reason.TheVariants.{SystemTooLong}
use Prim.Native.Nat.{◌-◌, ℕ}
use mathlib.Core.List.{List}
use mathlib.Core.Path.{◌∙◌, ◌≡◌, ap, refl, sym}
use native.Mathlib.Omega.{arith}
use lib.ListN.{length, length-take}
use Rattle.slots.specs.Refusals.{system_rules}
use Rattle.slots.specs.Systems.{slots}
use Rattle.reduction.specs.declared.answers.Reduction.{Reduction}
use Rattle.membership.specs.Membership.{member_tests}
use Rattle.lines.specs.Lines.{answer_lines, lines_after, refusal_in, refusal_line}
use Rattle.output.specs.Output.{answer_output, given_system, given_target, input_rules, program_log, program_output, program_product, program_words}
use Rattle.output.proofs.Calling.{size-most}
use Rattle.former.proofs.Calls.{member-same_unless, member_with}
use Rattle.former.proofs.Order.{SameUnless, former_input_rules, former_system_rules}
use Rattle.former.proofs.Lengths.{input-same_unless}
use Rattle.std.specs.Prelude.{Err, Ok}
use Rattle.records.specs.Refusals.{Checked}

-- the lines of what member gives, for an input
abbrev pub lines_of : List ℕ → Reduction × List ℕ × List ℕ × List ℕ → List ℕ
lines_of input given =
    lines_after (refusal_in given.0.verdict) (answer_lines (slots (given_system input)) given.0 given.1 given.2 given.3)

-- the output, with what the tests of the input's length find and those of the given system
abbrev pub output_with : Checked → Checked → List ℕ → List ℕ
output_with checked found input =
    lines_after checked (lines_of input (member_with found (given_system input) (given_target input) program_words program_log program_product))

-- with the tests as they are it is the output
pub output_as_it_is : (input : List ℕ) → program_output input ≡ output_with (input_rules (length input)) (system_rules (given_system input)) input
unfolding program_output answer_output member_tests
output_as_it_is input = refl

lines_same : (checked : Checked) {given former : List ℕ} → (checked ≡ Ok tt → given ≡ former) → lines_after checked given ≡ lines_after checked former
lines_same (Ok _) same = same refl
lines_same (Err f) same = refl

-- where the length passes the given system has at most 1,024 bytes, and member gives what it gives under the former order
member-same : (input : List ℕ) → input_rules (length input) ≡ Ok tt
    → lines_of input (member_with (system_rules (given_system input)) (given_system input) (given_target input) program_words program_log program_product)
    ≡ lines_of input (member_with (former_system_rules (given_system input)) (given_system input) (given_target input) program_words program_log program_product)
member-same input passed =
    let member = member-same_unless (given_system input) (given_target input) program_words program_log program_product in
    ap (lines_of input) (sym member.as_it_is
    ∙ member.as_it_was.elsewhere
    (λ long. absurd (omega (arith, long.0, size-most (length input) passed, length-take (length input - 64) input))))

-- the output is that under the former order unless the input is longer than 1,088 bytes and uneven, and there it is the line of refusal 2
pub program_same_unless : (input : List ℕ)
    → SameUnless 1088 (length input) (program_output input)
    (output_with (former_input_rules (length input)) (former_system_rules (given_system input)) input) (refusal_line (record { reason = SystemTooLong; place = 0 }))
program_same_unless input =
    let order = input-same_unless (length input) in
    record {
      elsewhere = λ h.
          output_as_it_is input ∙ lines_same (input_rules (length input)) (member-same input)
          ∙ ap (λ (checked : Checked). output_with checked (former_system_rules (given_system input)) input) (order.elsewhere h);
      there = λ h.
          output_as_it_is input ∙ ap (λ (checked : Checked). output_with checked (system_rules (given_system input)) input) (order.there h);
    }
