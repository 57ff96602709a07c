-- What the answer of read means, from its exact clauses.
use Prim.Native.Nat.{◌≤◌, ℕ}
use mathlib.Core.Path.{◌∙◌, ◌≡◌, ap, refl}
use mathlib.Core.Logic.{◌↔◌, inl, inr}
use mathlib.Core.Bool.{false, true}
use mathlib.Core.List.{List, [], ◌∷◌}
use native.Mathlib.Omega.{arith}
use lib.Dec.{leb}
use lib.ListN.{length}
use borrow.Author.Tests.{leb-false, leb-true, lt-leb}
use Rattle.words.specs.Alphabet.{bytes}
use Rattle.words.specs.Words.{freely_reduce}
use Rattle.words.specs.Buffers.{written}
use Rattle.records.specs.Answers.{answer_of, refused_with}
use Rattle.records.specs.Records.{record_of}
use Rattle.records.specs.Refusals.{◌and_then◌, must, refusal, Checked}
use Rattle.records.specs.declared.answers.Answer.{Answer}
use Rattle.records.specs.declared.answers.Verdict.{Verdict}
use Rattle.records.specs.declared.answers.Verdict.TheVariants.{Done, Member, NotMember, Refused}
use Rattle.records.proofs.ByNumber.{Never, must-given, must_never, never_then, then_first, then_next}
use Rattle.records.proofs.Chains.{verdict_done, fine_first, fine_next, must_fine, must_pass}
use Rattle.slots.specs.Refusals.{word_room}
use Rattle.slots.proofs.Systems.{room_enough, room_fits}
use Rattle.syntax.specs.Trees.{Product, Spells}
use Rattle.syntax.specs.TreeWords.{SomeOver, measured, tree_word}
use Rattle.syntax.specs.Meaning.{WithinLimits}
use Rattle.syntax.specs.Parse.{tree_of}
use Rattle.syntax.specs.Rules.{all_short, fits, short, text_rules}
use Rattle.syntax.proofs.Parsing.{one-tree, tree_of_lem}
use Rattle.syntax.proofs.Refusing.{passed_text, text_16, text_17, text_18, text_never, text_passed}
use Rattle.text.specs.Meaning.{Accepted, NoRoom, ReadMeans, WordTooLong}
use Rattle.text.specs.Read.{read_answer, read_buffer, read_rules, read_tests, text_word}
use Rattle.records.specs.declared.refusals.Reason.TheVariants.{ExponentOutOfRange, NestingTooDeep, TextMalformed, WordTooLong as TooLong, WordsBufferShort}
use Rattle.records.specs.declared.refusals.Reason.{Reason}
use Rattle.records.specs.Reasons.{number_of}
use Rattle.std.specs.Prelude.{Err, Ok}
use Rattle.std.proofs.lemmas.Bool.{and_parts, both_ways, cases_Bool, false_from_ne_true}

pub through : {A B C : Type 0} → A ↔ B → B ↔ C → A ↔ C
through (a, b) (c, d) = (λ z. c (a z), λ z. b (d z))

-- a verdict, and what the tests found
abbrev tests_of : Verdict → Checked
tests_of Done = Ok tt
tests_of Member = Ok tt
tests_of NotMember = Ok tt
tests_of (Refused f) = Err f

pub verdict_refused : (c : Checked) (n : Reason) (k : ℕ) → ((answer_of c).verdict ≡ refused_with n k) ↔ (c ≡ refusal n k)
verdict_refused (Ok _) n k = (λ e. ap tests_of e, λ e. ap (λ (d : Checked). (answer_of d).verdict) e)
verdict_refused (Err f) n k = (λ e. ap tests_of e, λ e. ap (λ (d : Checked). (answer_of d).verdict) e)

-- 12 is due exactly where a measured word is too long
all_short_lem : (ws : List (List ℕ)) → all_short ws ≡ true → SomeOver ws → ⊥
all_short_lem [] e o = o
all_short_lem (w ∷ ws) e o = elim o [
  | inl l ↦ absurd (omega (arith, leb-true (length (freely_reduce bytes w)) 63 (and_parts (short w) (all_short ws) e).0))
  | inr m ↦ all_short_lem ws (and_parts (short w) (all_short ws) e).1 m
]

some_over : (ws : List (List ℕ)) → all_short ws ≡ false → SomeOver ws
some_over [] e = absurd (both_ways true e refl)
some_over (w ∷ ws) e = elim (cases_Bool (short w)) [
  | inl s ↦ inr (some_over ws (rw s at e))
  | inr s ↦ inl (leb-false (length (freely_reduce bytes w)) 63 s)
]

pub fits_all : (t : Product) → (fits t ≡ true) ↔ (SomeOver (measured t) → ⊥)
unfolding fits
fits_all t = (
  all_short_lem (measured t),
  λ n. elim (cases_Bool (all_short (measured t))) [ inl e ↦ e | inr e ↦ absurd (n (some_over (measured t) e)) ],
)

fits_not : (t : Product) → (fits t ≡ false) ↔ SomeOver (measured t)
unfolding fits
fits_not t = (some_over (measured t), λ o. false_from_ne_true (all_short (measured t)) (λ e. all_short_lem (measured t) e o))

module _ (text word : List ℕ) where
  abbrev room : Checked
  room = word_room 64 (length word)

  abbrev twelve : Checked
  twelve = must (fits (tree_of text)) TooLong 0

  abbrev rules : Checked
  rules = read_rules text (length word)

  room_never : (n : Reason) → (10 ≡ number_of n → ⊥) → Never n room
  unfolding word_room
  room_never n h = must_never (leb 64 (length word)) n WordsBufferShort 0 h

  -- the refusals of the text
  text_number : (n : Reason) (k : ℕ) → (10 ≡ number_of n → ⊥) → (12 ≡ number_of n → ⊥) → (rules ≡ refusal n k) ↔ (text_rules text ≡ refusal n k)
  unfolding read_rules read_tests
  text_number n k a b =
      let (to, from) = then_first n (text_rules text and_then room) twelve k (must_never (fits (tree_of text)) n TooLong 0 b) in
      let (to-text, of-text) = then_first n (text_rules text) room k (room_never n a) in
      (λ e. to-text (to e), λ e. from (of-text e))

  tests_fine : (t : Product) → WithinLimits text t → 64 ≤ length word → read_tests text (length word) ≡ Ok tt
  unfolding read_tests
  tests_fine t a h = rw (passed_text text t a) (room_fits 64 (length word) h)

  fine_tests : read_tests text (length word) ≡ Ok tt → WithinLimits text (tree_of text) × (64 ≤ length word)
  unfolding read_tests
  fine_tests e = (text_passed text (fine_first (text_rules text) room e), room_enough 64 (length word) (fine_next (text_rules text) room e))

  pub rules_done : (rules ≡ Ok tt) ↔ Accepted text word
  unfolding read_rules
  rules_done = (
    λ e.
        let (a, h) = fine_tests (fine_first (read_tests text (length word)) twelve e) in
        let f = must_fine (fits (tree_of text)) TooLong 0 (fine_next (read_tests text (length word)) twelve e) in
        record { tree = tree_of text; allowed = a; room = h; short = (fits_all (tree_of text)).0 f },
    λ x.
        let t : tree_of text ≡ x.tree = tree_of_lem text x.tree x.allowed.spells in
        rw (tests_fine x.tree x.allowed x.room, t) (must_pass (fits x.tree) TooLong 0 ((fits_all x.tree).1 x.short)),
  )

  rules_10 : (rules ≡ refusal WordsBufferShort 0) ↔ NoRoom text word
  unfolding read_rules read_tests word_room
  rules_10 =
      let (to, from) = then_first WordsBufferShort (text_rules text and_then room) twelve 0 (must_never (fits (tree_of text)) WordsBufferShort TooLong 0 (λ e. absurd (omega arith))) in
      let (after, of-text) = then_next WordsBufferShort (text_rules text) room 0
      (text_never text WordsBufferShort (λ e. absurd (omega arith)) (λ e. absurd (omega arith)) (λ e. absurd (omega arith))) in
      let (is-short, of-short) = must-given (leb 64 (length word)) WordsBufferShort 0 0 in (
        λ e.
            let (p, q) = after (to e) in
            record { tree = tree_of text; allowed = text_passed text p; room = leb-false 64 (length word) (is-short q).0 },
        λ x. from (of-text (passed_text text x.tree x.allowed, of-short (lt-leb 64 (length word) x.room, refl))),
      )

  tests_never : Never TooLong (read_tests text (length word))
  unfolding read_tests
  tests_never =
      never_then TooLong (text_rules text) room
      (text_never text TooLong (λ e. absurd (omega arith)) (λ e. absurd (omega arith)) (λ e. absurd (omega arith)))
      (room_never TooLong (λ e. absurd (omega arith)))

  rules_12 : (rules ≡ refusal TooLong 0) ↔ WordTooLong text word
  unfolding read_rules
  rules_12 =
      let (after, from) = then_next TooLong (read_tests text (length word)) twelve 0 tests_never in
      let (is-over, of-over) = must-given (fits (tree_of text)) TooLong 0 0 in (
        λ e.
            let (p, q) = after e in
            let (a, h) = fine_tests p in
            record { tree = tree_of text; allowed = a; room = h; over = (fits_not (tree_of text)).0 (is-over q).0 },
        λ x.
            let t : tree_of text ≡ x.tree = tree_of_lem text x.tree x.allowed.spells in
            from (tests_fine x.tree x.allowed x.room, of-over (ap fits t ∙ (fits_not x.tree).1 x.over, refl)),
      )

  -- the buffer
  pub buffer_done : (tree : Product) → Spells text tree → rules ≡ Ok tt → read_buffer text word ≡ written (record_of (freely_reduce bytes (tree_word tree))) word
  unfolding text_word
  buffer_done tree s e = rw (e, tree_of_lem text tree s)

  buffer_unchanged : (c : Checked) → rules ≡ c → (c ≡ Ok tt → ⊥) → read_buffer text word ≡ word
  buffer_unchanged (Ok _) e n = absurd (n refl)
  buffer_unchanged (Err f) e n = rw e

  pub read_means : {answer : Answer} {word' : List ℕ} → answer ≡ read_answer text word → word' ≡ read_buffer text word → ReadMeans text word answer word'
  read_means f g =
      rw (f, g) (record {
        done = through (verdict_done rules) rules_done;
        record' = λ d tree s. buffer_done tree s ((verdict_done rules).0 d);
        one_tree = one-tree text;
        malformed = λ k. through (verdict_refused rules TextMalformed k) (through (text_number TextMalformed k (λ z. absurd (omega arith)) (λ z. absurd (omega arith))) (text_16 text k));
        too_deep = λ k. through (verdict_refused rules NestingTooDeep k) (through (text_number NestingTooDeep k (λ z. absurd (omega arith)) (λ z. absurd (omega arith))) (text_17 text k));
        out_of_range = λ k. through (verdict_refused rules ExponentOutOfRange k) (through (text_number ExponentOutOfRange k (λ z. absurd (omega arith)) (λ z. absurd (omega arith))) (text_18 text k));
        no_room = through (verdict_refused rules WordsBufferShort 0) rules_10;
        word_too_long = through (verdict_refused rules TooLong 0) rules_12;
        unchanged = λ n. buffer_unchanged rules refl (λ z. n ((verdict_done rules).1 z));
      })
