-- The former verdict on independence: as many slots not blank at the end as given words that don't freely reduce to the empty word. It
-- stands here for the laws of this crate alone. They say that the verdict alone differs: it is the former one where no given word freely
-- reduces to the empty word, and 'dependent' elsewhere.
use Prim.Native.Nat.{ℕ}
use mathlib.Core.Bool.{Bool, ◌&&◌, and-false, true}
use mathlib.Core.List.{List}
use mathlib.Core.Logic.{inl, inr}
use Rattle.std.specs.Prelude.{None}
use mathlib.Core.Path.{◌∙◌, ◌≡◌, ap, refl, sym}
use lib.Dec.{eqb}
use lib.ListN.{length}
use borrow.Author.Tests.{eqb-true}
use Rattle.words.specs.Alphabet.{bytes}
use Rattle.words.proofs.Alphabet.{byte_laws, flip_byte_no_own_inverse}
use Rattle.systems.specs.Products.{FreelyReduced}
use Rattle.systems.specs.Rank.{none_blank, rank}
use Rattle.systems.specs.Rules.{moves_within, next, run_within}
use Rattle.systems.proofs.Independence.{independent-moves, independent-none_blank}
use Rattle.systems.proofs.Neither.{run-freely_reduced, run_length, run-reduced}
use Rattle.systems.proofs.Rank.{rank_full}
use Rattle.systems.proofs.Runs.{run_apart}
use Rattle.systems.proofs.Unique.{reduced-independent}
use Rattle.records.specs.declared.answers.Verdict.{Verdict}
use Rattle.records.specs.declared.answers.Verdict.TheVariants.{Done}
use Rattle.records.proofs.Chains.{fine_next, must_fine}
use Rattle.slots.specs.Refusals.{system_room}
use Rattle.slots.specs.Systems.{freely_reduced_words}
use Rattle.slots.proofs.Systems.{loaded_freely_reduced}
use Rattle.runs.specs.Runs.{room_for, stopped}
use Rattle.reduction.specs.Reduction.{reduce_answer, reduce_tests, reduction_of, refused_reduction, run_tests}
use Rattle.reduction.specs.declared.answers.Reduction.{Reduction}
use Rattle.reduction.proofs.Meaning.{stopped_none}
use Rattle.factoring.specs.TargetProduct.{is_found}
use Rattle.asking.specs.Asking.{verdict_of}
use Rattle.membership.specs.Membership.{member_answer, member_checked, member_found, member_log, member_product, member_tests, member_words}
use Rattle.lines.specs.Lines.{lines_after}
use Rattle.output.specs.Output.{answer_output, given_system, given_target, input_rules, program_log, program_output, program_product, program_words}
use Rattle.former.proofs.Program.{lines_of}
use Rattle.records.specs.declared.refusals.Reason.TheVariants.{LogBufferShort}
use Rattle.std.specs.Prelude.{Err, Ok}
use Rattle.records.specs.Refusals.{Checked}
use Rattle.std.proofs.lemmas.Bool.{both_ways, cases_Bool, false_from_ne_true}

-- the answer of reduce and of member as it was
abbrev pub former_reduction_of : Checked → Verdict → List (List ℕ) → ℕ → Reduction
former_reduction_of (Ok tt) verdict S most =
    record {
      verdict = verdict;
      moves = length (moves_within bytes most S);
      rank = rank (run_within bytes most S);
      independent = eqb (rank (run_within bytes most S)) (rank S);
    }
former_reduction_of (Err f) verdict S most = refused_reduction (Err f)

-- an answer that says 'independent' only where b is true
abbrev pub independent_only_if : Bool → Reduction → Reduction
independent_only_if b r = record { verdict = r.verdict; moves = r.moves; rank = r.rank; independent = b && r.independent }

module _ (S : List (List ℕ)) (start : FreelyReduced bytes S) (most : ℕ) where
  -- where a run comes to its end with no blank slot, no word was blank before it
  none_blank-before : next bytes (run_within bytes most S) ≡ None → none_blank (run_within bytes most S) ≡ true → none_blank S ≡ true
  none_blank-before ended e = independent-none_blank bytes byte_laws S
      ((independent-moves bytes byte_laws S (moves_within bytes most S) start (run_apart bytes byte_laws most S start)).1
      (reduced-independent bytes byte_laws (run_within bytes most S) (run-freely_reduced bytes byte_laws most S start)
      (run-reduced bytes byte_laws flip_byte_no_own_inverse most S start ended) e))

  -- where no word was blank before the run, the verdict is the former one
  none_blank-same : none_blank S ≡ true → none_blank (run_within bytes most S) ≡ eqb (rank (run_within bytes most S)) (rank S)
  none_blank-same e =
      let full : rank S ≡ length (run_within bytes most S) = eqb-true _ _ (rank_full S ∙ e) ∙ sym (run_length bytes most S) in
      sym (rank_full (run_within bytes most S)) ∙ ap (eqb (rank (run_within bytes most S))) (sym full)

  -- the verdict is the former one and that no word was blank before the run
  none_blank_both : next bytes (run_within bytes most S) ≡ None
      → none_blank (run_within bytes most S) ≡ none_blank S && eqb (rank (run_within bytes most S)) (rank S)
  none_blank_both ended = elim (cases_Bool (none_blank S)) [
    | inl full ↦ rw full (none_blank-same full)
    | inr blank ↦ rw blank (false_from_ne_true _ (λ e. both_ways (none_blank S) blank (none_blank-before ended e)))
  ]

  independence_by : (c : Checked) (v : Verdict) → (c ≡ Ok tt → next bytes (run_within bytes most S) ≡ None)
      → reduction_of c v S most ≡ independent_only_if (none_blank S) (former_reduction_of c v S most)
  independence_by (Ok tt) v ended =
      λ i. record { verdict = v; moves = length (moves_within bytes most S); rank = rank (run_within bytes most S); independent = none_blank_both (ended refl) i }
  independence_by (Err f) v ended = rw (and-false (none_blank S)) refl

  reduction_independence : (tests : Checked) (v : Verdict)
      → reduction_of (run_tests tests S most) v S most ≡ independent_only_if (none_blank S) (former_reduction_of (run_tests tests S most) v S most)
  reduction_independence tests v = independence_by (run_tests tests S most) v
      (λ passed. stopped_none (run_within bytes most S) (must_fine (stopped (run_within bytes most S)) LogBufferShort 0 (fine_next tests _ passed)))

-- reduce: the answer is the former one, but 'independent' only where no given word freely reduces to the empty word; what reduce writes
-- does not depend on the verdict
abbrev pub former_reduce_answer : List ℕ → List ℕ → List ℕ → Reduction
former_reduce_answer s words log = former_reduction_of (reduce_tests s words log) Done (freely_reduced_words s) (room_for log)

pub reduce_independence : (s words log : List ℕ)
    → reduce_answer s words log ≡ independent_only_if (none_blank (freely_reduced_words s)) (former_reduce_answer s words log)
reduce_independence s words log =
    reduction_independence (freely_reduced_words s) (loaded_freely_reduced s) (room_for log) (system_room s (length words)) Done

-- member, likewise
module _ (s t words log product : List ℕ) where
  abbrev pub former_member_answer : Reduction
  former_member_answer =
      former_reduction_of (member_checked s t words log product) (verdict_of (is_found (member_found s t words log product))) (freely_reduced_words s) (room_for log)

  pub member_independence : member_answer s t words log product ≡ independent_only_if (none_blank (freely_reduced_words s)) former_member_answer
  member_independence =
      reduction_independence (freely_reduced_words s) (loaded_freely_reduced s) (room_for log) (member_tests s t (length words) (length product))
      (verdict_of (is_found (member_found s t words log product)))

-- the program: its output for an input, with this answer of member
abbrev pub output_of : List ℕ → Reduction → List ℕ
output_of input answer =
    lines_after (input_rules (length input)) (lines_of input (
      answer,
      member_words (given_system input) (given_target input) program_words program_log program_product,
      member_log (given_system input) (given_target input) program_words program_log program_product,
      member_product (given_system input) (given_target input) program_words program_log program_product,
    ))

-- it is that of member's answer
pub program_independence : (input : List ℕ)
    → program_output input
    ≡ output_of input (independent_only_if (none_blank (freely_reduced_words (given_system input)))
    (former_member_answer (given_system input) (given_target input) program_words program_log program_product))
unfolding program_output answer_output
program_independence input = ap (output_of input) (member_independence (given_system input) (given_target input) program_words program_log program_product)
