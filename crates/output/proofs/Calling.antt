-- Member called with the program's own buffers, and the output from the bytes kept and the count.
use Prim.Native.Nat.{◌%◌, ◌*◌, ◌≤◌, ℕ}
use mathlib.Core.Bool.{not}
use mathlib.Core.List.{List}
use mathlib.Core.Logic.{inl, inr}
use Rattle.std.specs.Prelude.{Some, Err, Ok}
use mathlib.Core.Path.{◌≡◌, ap, refl}
use native.Mathlib.Omega.{arith}
use lib.Dec.{eqb, leb}
use lib.ListN.{length, replicate}
use lib.Seq.{length-take-le}
use borrow.Author.Tests.{eqb-false, eqb-true, leb-true, not-true}
use Rattle.words.specs.Alphabet.{bytes}
use Rattle.systems.proofs.Neither.{moves-most}
use Rattle.records.specs.Refusals.{◌and_then◌, must, Checked}
use Rattle.records.specs.declared.answers.Refusal.{Refusal}
use Rattle.records.specs.declared.answers.Verdict.{Verdict}
use Rattle.records.proofs.Chains.{fine_first, fine_next, must_fine}
use Rattle.slots.specs.Systems.{freely_reduced_words, slots}
use Rattle.moves.specs.Logs.{move_size}
use Rattle.runs.specs.Runs.{room_for}
use Rattle.reduction.specs.Reduction.{reduction_of}
use Rattle.reduction.specs.declared.answers.Reduction.{Reduction}
use Rattle.factoring.specs.TargetProduct.{is_found}
use Rattle.asking.specs.Asking.{verdict_of}
use Rattle.membership.specs.Membership.{member_answer, member_checked, member_found, member_log, member_product, member_words}
use Rattle.lines.specs.Lines.{answer_lines, lines_after, refusal_in, refusal_line}
use Rattle.printing.proofs.Printing.{prints_as}
use Rattle.output.specs.Output.{output_from, answer_output, given_system, given_target, input_rules, program_log, program_product, program_output, program_words}
use Rattle.printing.specs.Printing.{Prints, Printed}
use Rattle.records.specs.declared.refusals.Reason.TheVariants.{SystemTooLong, SystemUneven, TargetOrProductMalformed}
use Rattle.std.proofs.lemmas.Bool.{cases_Bool}

-- the moves of an answer of member have room in the log
reduction_moves : (c : Checked) (v : Verdict) (S : List (List ℕ)) (most : ℕ) → (reduction_of c v S most).moves ≤ most
reduction_moves (Ok _) v S most = moves-most bytes most S
reduction_moves (Err f) v S most = omega arith

pub moves_fit : (s t words log product : List ℕ) (log' : List ℕ) {a : Reduction} → a ≡ member_answer s t words log product → length log' ≡ length log
    → a.moves * move_size ≤ length log'
moves_fit s t words log product log' {a = a} e same =
    let few : a.moves ≤ room_for log = rw e
    (reduction_moves (member_checked s t words log product) (verdict_of (is_found (member_found s t words log product))) (freely_reduced_words s) (room_for log)) in
    omega arith

-- the answer to the records, from the buffers that the program lends
pub answer_printed : (records out : List ℕ) {s t : List ℕ} {a : Reduction} {words log product : List ℕ} {r : Printed} {out' : List ℕ}
    → s ≡ given_system records → t ≡ given_target records
    → a ≡ member_answer s t (replicate 1024 0) (replicate 65536 0) (replicate 64 0)
    → words ≡ member_words s t (replicate 1024 0) (replicate 65536 0) (replicate 64 0)
    → log ≡ member_log s t (replicate 1024 0) (replicate 65536 0) (replicate 64 0)
    → product ≡ member_product s t (replicate 1024 0) (replicate 65536 0) (replicate 64 0)
    → Prints (Some (lines_after (refusal_in a.verdict) (answer_lines (slots s) a words log product))) out r out'
    → Prints (Some (answer_output records)) out r out'
unfolding answer_output program_words program_log program_product
answer_printed records out system target answered wrote logged gave h =
    let same = ap Some (rw (answered, wrote, logged, gave, system, target) refl) in
    prints_as same h

-- a length that passes is that of a target and of at most 16 records before it
module _ (size : ℕ) (passed : input_rules size ≡ Ok tt) where
  later : must (leb size 1088) SystemTooLong 0 and_then must (eqb (size % 64) 0) SystemUneven 0 ≡ Ok tt
  unfolding input_rules
  later = fine_next (must (not (eqb size 0)) TargetOrProductMalformed 0) _ passed

  pub size_least : 64 ≤ size
  unfolding input_rules
  size_least =
      let filled : size ≡ 0 → ⊥ = eqb-false size 0 (not-true (eqb size 0) (must_fine _ TargetOrProductMalformed 0 (fine_first (must (not (eqb size 0)) TargetOrProductMalformed 0) _ passed))) in
      let whole : size % 64 ≡ 0 = eqb-true _ _ (must_fine _ SystemUneven 0 (fine_next (must (leb size 1088) SystemTooLong 0) _ later)) in
      omega arith

  pub size-most : size ≤ 1088
  size-most = leb-true _ _ (must_fine _ SystemTooLong 0 (fine_first (must (leb size 1088) SystemTooLong 0) _ later))

-- a refusal of the length
pub refused_from : (kept : List ℕ) (size : ℕ) {f : Refusal} → input_rules size ≡ Err f → output_from kept size ≡ Some (refusal_line f)
unfolding output_from program_output
refused_from kept size refused =
    elim (cases_Bool (leb size (length kept))) [
      | inl all ↦ rw (all, ap input_rules (length-take-le size kept (leb-true size (length kept) all)), refused) refl
      | inr missing ↦ rw (missing, refused) refl
    ]
