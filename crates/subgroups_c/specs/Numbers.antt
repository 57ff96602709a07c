-- The seven numbers of an answer, in the order of the struct that C sees: verdict, number, place, moves, rank, independent, reduced.
-- What a call does not give is 0.
use Rattle.std.specs.Prelude.{ℕ, Bool, true, false, not, List, [], ◌∷◌, eqb}
use Rattle.records.specs.Answers.{verdict_number, refusal_number, refusal_place}
use Rattle.records.specs.declared.answers.Answer.{Answer}
use Rattle.reduction.specs.declared.answers.Reduction.{Reduction}
use Rattle.reduction.specs.declared.answers.Tested.{Tested}
use Rattle.text.specs.declared.Writing.{Writing}

-- yes is 1 and no is 0
abbrev pub one_or_zero : Bool → ℕ
one_or_zero true = 1
one_or_zero false = 0

-- 0 runs a log forward, and anything else backward
abbrev pub is_backward : ℕ → Bool
is_backward b = not (eqb b 0)

-- an answer that carries its verdict alone
abbrev pub plain_numbers : Answer → List ℕ
plain_numbers a =
    verdict_number a.verdict ∷ refusal_number a.verdict ∷ refusal_place a.verdict ∷ 0 ∷ 0 ∷ 0 ∷ 0 ∷ []

-- the answer of test
abbrev pub test_numbers : Tested → List ℕ
test_numbers a =
    verdict_number a.verdict ∷ refusal_number a.verdict ∷ refusal_place a.verdict ∷ 0 ∷ 0 ∷ 0 ∷ one_or_zero a.reduced ∷ []

-- the answer of reduce and of member
abbrev pub reduction_numbers : Reduction → List ℕ
reduction_numbers a =
    verdict_number a.verdict ∷ refusal_number a.verdict ∷ refusal_place a.verdict ∷ a.moves ∷ a.rank ∷ one_or_zero a.independent ∷ 0 ∷ []

-- the answer of write, whose length has a pointer of its own
abbrev pub write_numbers : Writing → List ℕ
write_numbers a = plain_numbers (record { verdict = a.verdict })
