-- Member: "system and target in; all that reduce gives, with member or not, and for a member the product".
use Rattle.std.specs.Prelude.{◌*◌, ℕ, List, leb, length}
use Rattle.std.specs.Prelude.{Option}
use Rattle.words.specs.Alphabet.{bytes}
use Rattle.systems.specs.declared.Factor.{Factor}
use Rattle.systems.specs.Rules.{run_within}
use Rattle.records.specs.Answers.{on_fine}
use Rattle.records.specs.Refusals.{◌and_then◌, must, target_rules}
use Rattle.slots.specs.Refusals.{system_rules, word_room}
use Rattle.slots.specs.Systems.{freely_reduced_words, slots}
use Rattle.runs.specs.Runs.{room_for}
use Rattle.reduction.specs.Reduction.{log_after, reduction_of, run_tests, words_after}
use Rattle.reduction.specs.declared.answers.Reduction.{Reduction}
use Rattle.asking.specs.Asking.{verdict_of}
use Rattle.factoring.specs.TargetProduct.{is_found, product_after, product_for, target_word}
use Rattle.records.specs.declared.refusals.Reason.TheVariants.{ProductBufferShort}
use Rattle.records.specs.Refusals.{Checked}

-- refusals 1 to 5, 6, 10 and 11. "The product buffer is shorter than 64 bytes."
unfoldable pub member_tests : List ℕ → List ℕ → ℕ → ℕ → Checked
member_tests s t room product_room =
    system_rules s and_then target_rules t and_then word_room (slots s * 64) room and_then must (leb 64 product_room) ProductBufferShort 0

-- the call, on the lent buffers: system, target, words, log and product
module _ (s t words log product : List ℕ) where
  -- and then 13
  abbrev pub member_checked : Checked
  member_checked = run_tests (member_tests s t (length words) (length product)) (freely_reduced_words s) (room_for log)

  -- the product over the reduced words that the target is
  abbrev pub member_found : Option (List Factor)
  member_found = product_for (run_within bytes (room_for log) (freely_reduced_words s)) (target_word t)

  -- all that reduce gives, with the verdict on the target
  abbrev pub member_answer : Reduction
  member_answer = reduction_of member_checked (verdict_of (is_found member_found)) (freely_reduced_words s) (room_for log)

  abbrev pub member_words : List ℕ
  member_words = words_after (member_tests s t (length words) (length product)) (freely_reduced_words s) (room_for log) words

  abbrev pub member_log : List ℕ
  member_log = log_after (member_tests s t (length words) (length product)) (freely_reduced_words s) (room_for log) log

  abbrev pub member_product : List ℕ
  member_product = on_fine member_checked (product_after member_found product) product
