-- What the printed bytes mean for the whole input: what is kept and counted of it tells its output, which decides.
use Prim.Native.Nat.{◌*◌, ◌-◌, ◌<◌, ◌≤◌, ℕ}
use mathlib.Core.Bool.{false, true}
use mathlib.Core.List.{List}
use mathlib.Core.Logic.{inl, inr}
use Rattle.std.specs.Prelude.{Some, Err, Ok}
use mathlib.Core.Path.{◌∙◌, ◌≡◌, ap, refl, sym}
use native.Mathlib.Omega.{arith}
use lib.Dec.{leb}
use lib.ListN.{length, length-replicate, length-take, take}
use lib.Seq.{ext_get_or, get_or-take, length-take-le}
use borrow.Author.Tests.{le-leb, leb-false, leb-true, lt-leb, ne_eqb}
use Rattle.words.specs.Alphabet.{bytes}
use Rattle.systems.specs.Rules.{next, run_within}
use Rattle.systems.proofs.Logic.{option_cases}
use Rattle.records.specs.Refusals.{refusal}
use Rattle.records.specs.declared.answers.Refusal.{Refusal}
use Rattle.slots.specs.Systems.{freely_reduced_words, slots}
use Rattle.moves.specs.Logs.{move_size}
use Rattle.runs.specs.Runs.{room_for, stopped}
use Rattle.reduction.specs.Meaning.{EnoughMoves}
use Rattle.reduction.specs.declared.answers.Reduction.{Reduction}
use Rattle.asking.specs.Meaning.{Answered}
use Rattle.membership.specs.Meaning.{EnoughRoom, MemberMeans}
use Rattle.membership.proofs.Meaning.{member_means, tests_pass}
use Rattle.input.specs.Input.{CountOf, Holds}
use Rattle.lines.specs.Lines.{refusal_in, refusal_line}
use Rattle.output.specs.Meaning.{Decided, PrintMeans, WellFormed}
use Rattle.output.specs.Output.{answer, answer_output, given_system, given_target, input_rules, log, output_from, program_log, product, program_product, program_output, words, program_words}
use Rattle.printing.specs.Printing.{Prints, Printed}
use Rattle.output.proofs.Calling.{refused_from, size-most}
use Rattle.records.specs.declared.refusals.Reason.TheVariants.{LogBufferShort, SystemTooLong}
use Rattle.std.proofs.lemmas.Bool.{cases_Bool}

-- a length over 1,088 is refused with 2
long_refused : (n : ℕ) → 1088 < n → input_rules n ≡ refusal SystemTooLong 0
unfolding input_rules
long_refused n h = rw (ne_eqb n 0 (omega arith), lt-leb n 1088 h) refl

-- so a count tells what its length is refused with
rules_same : (n size : ℕ) → CountOf n size → input_rules size ≡ input_rules n
rules_same n size (inl e) = ap input_rules e
rules_same n size (inr e) = long_refused size e.0 ∙ sym (long_refused n e.1)

-- so the output from what is kept and counted is that of the whole input
module _ (input kept : List ℕ) (size : ℕ) (holds : Holds input kept size) (room : 1088 ≤ length kept) where
  same-input : size ≡ length input → size ≤ 1088 → take size kept ≡ input
  same-input e short =
      ext_get_or 0 (take size kept) input (length-take-le size kept (omega arith) ∙ e)
      (λ i inside.
      let before : i < size = omega (arith, length-take size kept) in
      get_or-take size kept i 0 before ∙ holds.first i (omega arith) (omega arith) (omega arith))

  refused_output : (f : Refusal) → input_rules (length input) ≡ Err f → output_from kept size ≡ Some (program_output input)
  unfolding program_output
  refused_output f e = refused_from kept size (rules_same (length input) size holds.count ∙ e) ∙ ap Some (sym (rw e refl))

  long_output : 1088 < length input → output_from kept size ≡ Some (program_output input)
  long_output h = refused_output (record { reason = SystemTooLong; place = 0 }) (long_refused (length input) h)

  output_of_lem : CountOf (length input) size → output_from kept size ≡ Some (program_output input)
  unfolding output_from
  output_of_lem (inl e) =
      elim (cases_Bool (leb size 1088)) [
        | inl short ↦
            let few : size ≤ 1088 = leb-true size 1088 short in
            rw (le-leb size (length kept) (omega arith)) (ap (λ (l : List ℕ). Some (program_output l)) (same-input e few))
        | inr long ↦ let many : 1088 < size = leb-false size 1088 long in long_output (omega arith)
      ]
  output_of_lem (inr e) = long_output e.1

  pub held_output : output_from kept size ≡ Some (program_output input)
  held_output = output_of_lem holds.count

-- the buffers that the program lends have room
words-room : length program_words ≡ 1024
unfolding program_words
words-room = length-replicate {A = ℕ} 1024 0

log-room : length program_log ≡ 65536
unfolding program_log
log-room = length-replicate {A = ℕ} 65536 0

product-room : length program_product ≡ 64
unfolding program_product
product-room = length-replicate {A = ℕ} 64 0

unrefused : (a : Reduction) → Answered a.verdict → refusal_in a.verdict ≡ Ok tt
unrefused a (inl e) = rw e refl
unrefused a (inr e) = rw e refl

-- a well-formed input is answered, or its moves are too many
module _ (input : List ℕ) (formed : WellFormed input) where
  words_fit_lem : slots (given_system input) * 64 ≤ length program_words
  words_fit_lem = omega (arith, words-room, length-take (length input - 64) input, size-most (length input) formed.sized)

  product-fits : 64 ≤ length program_product
  product-fits = omega (arith, product-room)

  means : MemberMeans (given_system input) (given_target input) program_words program_log program_product
      (answer input) (words input) (log input) (product input)
  means = member_means (given_system input) (given_target input) program_words program_log program_product _ _ _ _ refl refl refl refl

  room_enough : EnoughMoves (given_system input) 8192 → EnoughRoom (given_system input) (given_target input) program_words program_log program_product
  room_enough enough =
      record {
        system = formed.system;
        target_fits = formed.target;
        words_fit = words_fit_lem;
        product_fits = product-fits;
        enough_moves = 8192;
        no_more_moves = enough;
        log_fits = omega (arith, log-room);
      }

  pub output_decides : EnoughMoves (given_system input) 8192 → Decided input (program_output input)
  unfolding program_output answer_output
  output_decides enough =
      let told = means.third_demand.answered (room_enough enough) in
      record {
        answer = answer input;
        W = take (slots (given_system input) * 64) (words input);
        L = take ((answer input).moves * move_size) (log input);
        P = take 64 (product input);
        lines = rw (formed.sized, unrefused (answer input) told) refl;
        answered = told;
        decides = means.third_demand.decides told;
        reduces = means.reduces told;
      }

  pub output_short : (EnoughMoves (given_system input) 8192 → ⊥) → program_output input ≡ refusal_line (record { reason = LogBufferShort; place = 0 })
  unfolding program_output answer_output
  output_short more =
      let room : room_for program_log ≡ 8192 = rw log-room refl in
      let over : stopped (run_within bytes (room_for program_log) (freely_reduced_words (given_system input))) ≡ false =
      elim (option_cases (next bytes (run_within bytes (room_for program_log) (freely_reduced_words (given_system input))))) [
        | inl e ↦ absurd (more (rw (← room) e))
        | inr m ↦ rw m.1 refl
      ] in
      let tests = tests_pass (given_system input) (given_target input) (length program_words) (length program_product) formed.system formed.target words_fit_lem product-fits in
      rw (formed.sized, tests, over) refl

-- what was written means what is demanded of it
pub print_means : (kept out : List ℕ) (size : ℕ) {answer : Printed} {out' : List ℕ} → Prints (output_from kept size) out answer out'
    → (input : List ℕ) → Holds input kept size → 1088 ≤ length kept → 66704 ≤ length out → PrintMeans input out answer out'
print_means kept out size prints input holds kept-room out-room =
    let same = held_output input kept size holds kept-room in
    let few : length (program_output input) ≤ 66704 = rw same at prints.most in
    let within : leb (length (program_output input)) (length out) ≡ true = le-leb (length (program_output input)) (length out) (omega arith) in
    record {
      most = few;
      whole = prints.answered ∙ rw (same, within) refl;
      wrote = prints.wrote ∙ rw (same, within) refl;
      decided = output_decides input;
      log_short = output_short input;
    }
