-- The call read: its tests in their order, what they leave to the readers, and the answer and the buffer from the word that these find.
use Prim.Native.Nat.{◌≤◌, ℕ}
use mathlib.Core.Path.{◌∙◌, ◌≡◌, ap, refl, sym}
use mathlib.Core.Bool.{Bool, false, true}
use Rattle.std.specs.Prelude.{None, Option, Some}
use mathlib.Core.List.{List, [], ◌++◌, append-nil}
use native.Mathlib.Omega.{arith}
use lib.ListN.{drop, length}
use Rattle.words.specs.Buffers.{written}
use Rattle.records.specs.Records.{record_of}
use Rattle.records.specs.Refusals.{refusal}
use Rattle.records.specs.declared.answers.Refusal.{Refusal}
use Rattle.records.proofs.Chains.{fine_first, fine_next, must_fail, must_pass, then_failed, then_fine}
use Rattle.slots.specs.Refusals.{word_room}
use Rattle.slots.proofs.Systems.{record-length, room_enough}
use Rattle.syntax.specs.Trees.{spelled}
use Rattle.syntax.specs.Parse.{tree_of}
use Rattle.syntax.specs.Rules.{fits, text_rules}
use Rattle.syntax.proofs.Limits.{none-nests, none-powers}
use Rattle.syntax.proofs.Refusing.{text_passed}
use Rattle.parsing.specs.Reading.{ProductReads, Readable, StartsWith}
use Rattle.parsing.specs.declared.Reading.{Reading}
use Rattle.parsing.proofs.Fitting.{only_if, read_word}
use Rattle.text.specs.Read.{read_rules, read_tests, text_word}
use Rattle.records.specs.declared.refusals.Reason.TheVariants.{WordTooLong}
use Rattle.std.specs.Prelude.{Err, Ok}
use Rattle.records.specs.Refusals.{Checked}

-- a text that 16, 17 and 18 let through is the spelling of its tree, within the limits
starts-whole : (text : List ℕ) → text_rules text ≡ Ok tt → StartsWith 8 text (tree_of text) []
starts-whole text e =
    let a = text_passed text e in
    record {
      proper = a.spells.proper;
      nests = (none-nests (tree_of text)).0 a.nests;
      powers = (none-powers (tree_of text)).0 a.exponents;
      stops = tt;
      same = sym (append-nil (spelled (tree_of text)) ∙ a.spells.spelling);
    }

-- a word that was read, or none
some_fits : {o : Option (List ℕ)} (b : Bool) (v : List ℕ) {w : List ℕ} → o ≡ only_if b v → o ≡ Some w → (b ≡ true) × (w ≡ v)
some_fits true v e f = (refl, let s : Some _ ≡ Some v = sym f ∙ e in cc)
some_fits false v e f = cc (sym f ∙ e)

none_fails : {o : Option (List ℕ)} (b : Bool) (v : List ℕ) → o ≡ only_if b v → o ≡ None → b ≡ false
none_fails true v e f = cc (sym f ∙ e)
none_fails false v e f = refl

module _ (text word : List ℕ) {x : Checked} (tests : x ≡ read_tests text (length word)) where
  pub rules_failed : {f : Refusal} → x ≡ Err f → x ≡ read_rules text (length word)
  unfolding read_rules
  rules_failed h = then_failed _ _ tests h

  module _ (passed : x ≡ Ok tt) where
    passed_text : text_rules text ≡ Ok tt
    unfolding read_tests
    passed_text = fine_first (text_rules text) (word_room 64 (length word)) (sym tests ∙ passed)

    pub passed_readable : Readable 8 text
    passed_readable = record { tree = tree_of text; rest = []; starts = starts-whole text passed_text }

    pub passed_room : 64 ≤ length word
    unfolding read_tests
    passed_room = room_enough 64 (length word) (fine_next (text_rules text) (word_room 64 (length word)) (sym tests ∙ passed))

    module _ (found : Reading) (reads : ProductReads 8 text found) where
      found_word : found.word ≡ only_if (fits (tree_of text)) (text_word text)
      unfolding text_word
      found_word = (reads (tree_of text) [] (starts-whole text passed_text)).word ∙ read_word (tree_of text)

      -- refusal 12
      pub too_long : found.word ≡ None → {y : Checked} → y ≡ refusal WordTooLong 0 → y ≡ read_rules text (length word)
      unfolding read_rules
      too_long h e =
          let no : fits (tree_of text) ≡ false = none_fails (fits (tree_of text)) (text_word text) found_word h in
          then_fine _ _ tests passed (must_fail (fits (tree_of text)) WordTooLong 0 no e)

      module _ {w : List ℕ} (some : found.word ≡ Some w) where
        fitted : (fits (tree_of text) ≡ true) × (w ≡ text_word text)
        fitted = some_fits (fits (tree_of text)) (text_word text) found_word some

        pub rules_passed : x ≡ read_rules text (length word)
        unfolding read_rules
        rules_passed = then_fine _ _ tests passed (passed ∙ sym (must_pass (fits (tree_of text)) WordTooLong 0 fitted.0))

        -- the record of the word at the beginning of the buffer, and the bytes after it as they were
        pub word-written : {v y z : List ℕ} → v ≡ w → y ≡ v → length v ≤ 63 → z ≡ record_of y → z ++ drop 64 word ≡ written (record_of (text_word text)) word
        word-written {y = y} is same most f =
            let word_is : y ≡ text_word text = same ∙ is ∙ fitted.1 in
            let short : length (text_word text) ≤ 63 = omega (arith, ap length is, ap length fitted.1) in
            ap (λ (l : List ℕ). l ++ drop 64 word) (f ∙ ap record_of word_is)
            ∙ ap (λ (k : ℕ). record_of (text_word text) ++ drop k word) (sym (record-length (text_word text) short))
