-- The call multiply: its tests in their order, what they leave to the code after them, and the answer and the buffer from the word that
-- comes out. Refusal 12 looks at the length of that word alone, not at what it was on the way.
use Prim.Native.Nat.{◌≤◌, ℕ}
use mathlib.Core.List.{List, ◌++◌}
use mathlib.Core.Path.{◌∙◌, ◌≡◌, ap, sym}
use native.Mathlib.Omega.{arith}
use lib.Dec.{leb}
use lib.ListN.{drop, length}
use borrow.Author.Tests.{leb-true}
use Rattle.words.specs.Buffers.{written}
use Rattle.records.specs.Records.{record_of}
use Rattle.records.specs.Refusals.{◌and_then◌, must, target_rules}
use Rattle.records.specs.declared.answers.Refusal.{Refusal}
use Rattle.records.proofs.Chains.{fine_first, fine_next, must_fine, then_failed, then_fine}
use Rattle.records.proofs.Targets.{target-sized}
use Rattle.slots.specs.Refusals.{system_rules, word_room}
use Rattle.slots.specs.Systems.{slots}
use Rattle.slots.proofs.Systems.{record-length, room_enough, system-size}
use Rattle.multiply.specs.Multiply.{multiply_rules, multiply_tests, product_word}
use Rattle.multiply.specs.SlotLetters.{slot_rule}
use Rattle.records.specs.declared.refusals.Reason.TheVariants.{WordTooLong}
use Rattle.std.specs.Prelude.{Err, Ok}
use Rattle.records.specs.Refusals.{Checked}

-- what the tests leave, and the whole answer
module _ (s p : List ℕ) (room : ℕ) {x : Checked} (tests : x ≡ multiply_tests s p room) where
  pub rules_failed : {f : Refusal} → x ≡ Err f → x ≡ multiply_rules s p room
  unfolding multiply_rules
  rules_failed h = then_failed _ _ tests h

  module _ (passed : x ≡ Ok tt) where
    past_system : target_rules p and_then slot_rule (slots s) p and_then word_room 64 room ≡ Ok tt
    unfolding multiply_tests
    past_system = fine_next (system_rules s) _ (sym tests ∙ passed)

    past_target : slot_rule (slots s) p and_then word_room 64 room ≡ Ok tt
    past_target = fine_next (target_rules p) _ past_system

    pub passed_size : length s ≤ 1024
    unfolding multiply_tests
    passed_size = system-size s (fine_first (system_rules s) _ (sym tests ∙ passed))

    pub passed_product : length p ≡ 64
    passed_product = target-sized p (fine_first (target_rules p) _ past_system)

    pub passed_slots : slot_rule (slots s) p ≡ Ok tt
    passed_slots = fine_first (slot_rule (slots s) p) _ past_target

    pub passed_room : 64 ≤ room
    passed_room = room_enough 64 room (fine_next (slot_rule (slots s) p) _ past_target)

    module _ (w : List ℕ) (size : ℕ) (told : w ≡ product_word s p) (sized : size ≡ length w) where
      -- refusal 12
      pub rules_told : {y : Checked} → y ≡ must (leb size 63) WordTooLong 0 → y ≡ multiply_rules s p room
      unfolding multiply_rules
      rules_told e = then_fine _ _ tests passed (e ∙ ap (λ (n : ℕ). must (leb n 63) WordTooLong 0) (sized ∙ ap length told))

      -- the record of that word at the beginning of the buffer, and the bytes after it as they were
      pub word-written : {y : List ℕ} (letters buffer : List ℕ) → size ≤ 63 → letters ≡ w → y ≡ record_of letters
          → y ++ drop 64 buffer ≡ written (record_of (product_word s p)) buffer
      word-written {y} letters buffer h same e =
          let record_is : y ≡ record_of (product_word s p) = e ∙ ap record_of (same ∙ told) in
          let long : 64 ≡ length (record_of (product_word s p)) = sym (record-length (product_word s p) (omega (arith, sized ∙ ap length told))) in
          ap (λ (l : List ℕ). l ++ drop 64 buffer) record_is ∙ ap (λ (k : ℕ). record_of (product_word s p) ++ drop k buffer) long

-- a word that passed refusal 12
pub passed_short : (size : ℕ) {y : Checked} → y ≡ must (leb size 63) WordTooLong 0 → y ≡ Ok tt → size ≤ 63
passed_short size e h = leb-true size 63 (must_fine (leb size 63) WordTooLong 0 (sym e ∙ h))
