-- The calls reduce and test: their tests and answers, and the run over the words of a system.
use Prim.Native.Nat.{◌*◌, ◌≤◌, ℕ}
use mathlib.Core.Bool.{Bool, cond, false, true}
use mathlib.Core.List.{List}
use mathlib.Core.Path.{◌∙◌, ◌≡◌, ap, ap₂, refl, sym}
use native.Mathlib.Omega.{arith}
use lib.Dec.{eqb}
use lib.ListN.{length}
use Rattle.words.specs.Alphabet.{bytes}
use Rattle.words.specs.Buffers.{written}
use Rattle.systems.specs.Rank.{rank}
use Rattle.systems.specs.Rules.{moves_within, run_within}
use Rattle.systems.proofs.Rank.{rank_full}
use Rattle.records.specs.declared.answers.Refusal.{Refusal}
use Rattle.records.specs.declared.answers.Verdict.{Verdict}
use Rattle.records.specs.declared.answers.Verdict.TheVariants.{Done}
use Rattle.slots.specs.Refusals.{system_rules}
use Rattle.slots.specs.Systems.{bytes_of, freely_reduced_words}
use Rattle.slots.proofs.Systems.{system-size}
use Rattle.slots.specs.Systems.{slots}
use Rattle.slots.proofs.RoundTrip.{words-length}
use Rattle.systems.proofs.Neither.{run_length}
use Rattle.moves.specs.Logs.{logged_all, log_of}
use Rattle.runs.specs.Runs.{ran, stopped}
use Rattle.reduction.specs.Reduction.{reduction_of, refused_reduction, refused_test, run_tests, summed, test_answer, tested_of}
use Rattle.reduction.specs.declared.answers.Reduction.{Reduction}
use Rattle.reduction.specs.declared.answers.Tested.{Tested}
use Rattle.std.specs.Prelude.{Err, Ok, Result}
use Rattle.records.specs.Refusals.{Checked, refusal}
use Rattle.records.specs.declared.refusals.Reason.TheVariants.{LogBufferShort}

-- the answer by what the tests found
module _ (c : Checked) (v : Verdict) (S : List (List ℕ)) (most : ℕ) where
  pub answer-refused : {x : Checked} {a : Reduction} {f : Refusal} → x ≡ c → x ≡ Err f → a ≡ refused_reduction x → a ≡ reduction_of c v S most
  answer-refused e h told = told ∙ ap refused_reduction h ∙ sym (ap (λ (d : Checked). reduction_of d v S most) (sym e ∙ h))

  pub answer-given : {a : Reduction} {T : List (List ℕ)} {k : ℕ} → Ok tt ≡ c → k ≡ length (moves_within bytes most S) → T ≡ run_within bytes most S
      → a ≡ summed v k T → a ≡ reduction_of c v S most
  answer-given passed count left told =
      told ∙ ap₂ (λ (k : ℕ) (T : List (List ℕ)). summed v k T) count left ∙ ap (λ (d : Checked). reduction_of d v S most) passed

-- the numbers of the answer, where the rank was counted
pub summed_told : (v : Verdict) (moves k n : ℕ) (T : List (List ℕ)) → k ≡ rank T → n ≡ length T
    → ◌≡◌ {A = Reduction} (record { verdict = v; moves = moves; rank = k; independent = eqb k n }) (summed v moves T)
summed_told v moves k n T counted size =
    (λ i. record { verdict = v; moves = moves; rank = counted i; independent = eqb (counted i) (size i) })
    ∙ ap (λ (b : Bool). record { verdict = v; moves = moves; rank = rank T; independent = b }) (rank_full T)

-- what a run answers tells whether it ended
ended_told : (b : Bool) (n : ℕ) {k : ℕ} → ◌≡◌ {A = Result ℕ ℕ} (cond b (Ok n) (Err n)) (Ok k) → (b ≡ true) × (k ≡ n)
ended_told true n e = (refl, cc)
ended_told false n e = let z : ◌≡◌ {A = ℕ} 0 1 = cc in absurd (omega arith)

cut_told : (b : Bool) (n : ℕ) {k : ℕ} → ◌≡◌ {A = Result ℕ ℕ} (cond b (Ok n) (Err n)) (Err k) → b ≡ false
cut_told true n e = let z : ◌≡◌ {A = ℕ} 0 1 = cc in absurd (omega arith)
cut_told false n e = refl

-- a run over the words of a system, which were taken in freely reduced, after tests that were passed
module _ (tests : Checked) (s : List ℕ) (S : List (List ℕ)) (most : ℕ) {r : Result ℕ ℕ} (given : S ≡ freely_reduced_words s) (told : r ≡ ran most S)
    (passed : tests ≡ Ok tt) where
  ran_given : r ≡ ran most (freely_reduced_words s)
  ran_given = told ∙ ap (ran most) given

  -- the log was too short
  pub run_refused : {k : ℕ} {x : Checked} → r ≡ Err k → x ≡ refusal LogBufferShort 0 → x ≡ run_tests tests (freely_reduced_words s) most
  run_refused {k} cut e = e ∙ rw (passed, cut_told (stopped (run_within bytes most (freely_reduced_words s))) _ (sym ran_given ∙ cut)) refl

  module _ {k : ℕ} (ended : r ≡ Ok k) where
    pub run_passed : Ok tt ≡ run_tests tests (freely_reduced_words s) most
    run_passed = rw (passed, (ended_told (stopped (run_within bytes most (freely_reduced_words s))) _ (sym ran_given ∙ ended)).0) refl

    pub run_count : k ≡ length (moves_within bytes most (freely_reduced_words s))
    run_count = (ended_told (stopped (run_within bytes most (freely_reduced_words s))) _ (sym ran_given ∙ ended)).1

-- what the run left, over the words as they were taken in
module _ (s : List ℕ) (S : List (List ℕ)) (most : ℕ) (given : S ≡ freely_reduced_words s) where
  pub run_left : {T : List (List ℕ)} → T ≡ run_within bytes most S → T ≡ run_within bytes most (freely_reduced_words s)
  run_left e = e ∙ ap (run_within bytes most) given

  pub run_logged : (log₀ : List ℕ) {log : List ℕ} → log ≡ written (log_of (logged_all S (moves_within bytes most S))) log₀
      → log ≡ written (log_of (logged_all (freely_reduced_words s) (moves_within bytes most (freely_reduced_words s)))) log₀
  run_logged log₀ e = e ∙ ap (λ (U : List (List ℕ)). written (log_of (logged_all U (moves_within bytes most U))) log₀) given

  -- they need the room that the tests asked for
  pub run_fits : {T : List (List ℕ)} (room : ℕ) → T ≡ run_within bytes most S → slots s * 64 ≤ room → length T * 64 ≤ room
  run_fits room e fits = omega (arith, ap length (run_left e) ∙ run_length bytes most (freely_reduced_words s) ∙ words-length s, fits)

-- and written out
pub run_stored : (words : List ℕ) {out : List ℕ} {R T : List (List ℕ)} → R ≡ T → out ≡ written (bytes_of R) words → out ≡ written (bytes_of T) words
run_stored words same e = e ∙ ap (λ (U : List (List ℕ)). written (bytes_of U) words) same

-- what a system that passes tells of its length
pub system-size_told : (s : List ℕ) {x : Checked} → x ≡ system_rules s → x ≡ Ok tt → length s ≤ 1024
system-size_told s e h = system-size s (sym e ∙ h)

-- test
module _ (s : List ℕ) {x : Checked} (e : x ≡ system_rules s) where
  pub test_refused : {f : Refusal} {a : Tested} → x ≡ Err f → a ≡ refused_test x → a ≡ test_answer s
  test_refused h told = told ∙ ap refused_test h ∙ sym (ap (λ (c : Checked). tested_of c (freely_reduced_words s)) (sym e ∙ h))

  pub test_given : (T : List (List ℕ)) {b : Bool} → x ≡ Ok tt → T ≡ freely_reduced_words s → b ≡ stopped T
      → ◌≡◌ {A = Tested} (record { verdict = Done; reduced = b }) (test_answer s)
  test_given T h given same =
      (λ i. record { verdict = Done; reduced = (same ∙ ap stopped given) i })
      ∙ sym (ap (λ (c : Checked). tested_of c (freely_reduced_words s)) (sym e ∙ h))
