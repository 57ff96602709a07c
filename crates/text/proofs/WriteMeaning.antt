-- What the answer of write means, from its exact clauses, and that read gives the word back.
use Prim.Native.Nat.{◌<◌, ◌≤◌, ℕ}
use mathlib.Core.Path.{◌∙◌, ◌≡◌, ap, refl, sym}
use mathlib.Core.Logic.{◌↔◌}
use mathlib.Core.List.{List}
use native.Mathlib.Omega.{arith}
use lib.Dec.{leb}
use lib.ListN.{length, take}
use borrow.Author.Tests.{leb-false, lt-leb}
use Rattle.words.specs.Alphabet.{bytes}
use Rattle.words.specs.Words.{freely_reduce}
use Rattle.words.specs.Buffers.{written}
use Rattle.words.proofs.Alphabet.{byte_laws}
use Rattle.words.proofs.Buffers.{written-take}
use Rattle.words.proofs.FreeReduction.{freely_reduce-same}
use Rattle.records.specs.Answers.{answer_of}
use Rattle.records.specs.Records.{AllLetters, record_of, word_of}
use Rattle.records.specs.Refusals.{refusal, target_rules, Checked}
use Rattle.records.specs.declared.answers.Verdict.TheVariants.{Done}
use Rattle.records.proofs.ByNumber.{must-given, must_never, never_above, target_numbered, then_first, then_next}
use Rattle.records.proofs.Chains.{fine_first, fine_next, verdict_done}
use Rattle.records.proofs.RoundTrip.{target_letters, word-short}
use Rattle.slots.specs.Refusals.{word_room}
use Rattle.slots.proofs.Systems.{room_enough, room_fits}
use Rattle.syntax.specs.TreeWords.{tree_word}
use Rattle.syntax.proofs.Parsing.{one-tree}
use Rattle.syntax.specs.WordTexts.{runs, runs_text, text_of}
use Rattle.syntax.proofs.Written.{TextFor, runs_of, runs_unique, text_for}
use Rattle.text.specs.Meaning.{Accepted, WriteMeans}
use Rattle.text.specs.Write.{write_answer, write_buffer, write_rules, writing_of}
use Rattle.text.specs.declared.Writing.{Writing}
use Rattle.text.specs.Read.{read_answer, read_buffer, read_rules}
use Rattle.text.specs.ReadBack.{ReadBack}
use Rattle.text.proofs.ReadMeaning.{buffer_done, fits_all, rules_done, through, verdict_refused}
use Rattle.records.specs.declared.refusals.Reason.TheVariants.{TargetOrProductMalformed, WordsBufferShort}
use Rattle.std.specs.Prelude.{Err, Ok}

writing_verdict : (c : Checked) (n : ℕ) → (writing_of c n).verdict ≡ (answer_of c).verdict
writing_verdict (Ok _) n = refl
writing_verdict (Err f) n = refl

text_runs : (w : List ℕ) → text_of w ≡ runs_text (runs w)
unfolding text_of
text_runs w = refl

module _ (word text : List ℕ) where
  abbrev tests : Checked
  tests = write_rules word (length text)

  abbrev spelling : List ℕ
  spelling = text_of (word_of word)

  write_done : (tests ≡ Ok tt) ↔ ((target_rules word ≡ Ok tt) × (256 ≤ length text))
  unfolding write_rules
  write_done =
      let room : Checked = word_room 256 (length text) in (
        λ e. (fine_first (target_rules word) room e, room_enough 256 (length text) (fine_next (target_rules word) room e)),
        λ x. rw x.0 (room_fits 256 (length text) x.1),
      )

  write_6 : (k : ℕ) → (tests ≡ refusal TargetOrProductMalformed k) ↔ (target_rules word ≡ refusal TargetOrProductMalformed k)
  unfolding write_rules word_room
  write_6 k = then_first TargetOrProductMalformed (target_rules word) (word_room 256 (length text)) k (must_never (leb 256 (length text)) TargetOrProductMalformed WordsBufferShort 0 (λ e. absurd (omega arith)))

  write_10 : (tests ≡ refusal WordsBufferShort 0) ↔ ((target_rules word ≡ Ok tt) × (length text < 256))
  unfolding write_rules word_room
  write_10 =
      let (to, from) = then_next WordsBufferShort (target_rules word) (word_room 256 (length text)) 0 (never_above WordsBufferShort (target_rules word) 6 (target_numbered word) (omega arith)) in
      let (is-short, of-short) = must-given (leb 256 (length text)) WordsBufferShort 0 0 in (
        λ e. ((to e).0, leb-false 256 (length text) (is-short (to e).1).0),
        λ x. from (x.0, of-short (lt-leb 256 (length text) x.1, refl)),
      )

  module _ (done : tests ≡ Ok tt) where
    letters : AllLetters (word_of word)
    letters = target_letters word (write_done.0 done).0

    told : TextFor (word_of word)
    told = text_for (word_of word) letters (word-short word)

    text_accepted : (buffer : List ℕ) → 64 ≤ length buffer → Accepted spelling buffer
    text_accepted buffer h = record { tree = told.tree; allowed = told.allowed; room = h; short = (fits_all told.tree).0 told.measured }

    text_taken : (buffer : List ℕ) → 64 ≤ length buffer → read_rules spelling (length buffer) ≡ Ok tt
    text_taken buffer h = (rules_done spelling buffer).1 (text_accepted buffer h)

    text_back : (buffer : List ℕ) → 64 ≤ length buffer → read_buffer spelling buffer ≡ written (record_of (freely_reduce bytes (word_of word))) buffer
    text_back buffer h =
        buffer_done spelling buffer told.tree told.allowed.spells (text_taken buffer h)
        ∙ ap (λ (w : List ℕ). written (record_of (freely_reduce bytes w)) buffer) told.word

  abbrev answer : Writing
  answer = write_answer word text

  abbrev after : List ℕ
  after = write_buffer word text

  is_done_lem : answer.verdict ≡ Done → tests ≡ Ok tt
  is_done_lem e = (verdict_done tests).0 (sym (writing_verdict tests (length spelling)) ∙ e)

  -- where nothing is refused
  module _ (e : tests ≡ Ok tt) where
    after_is : after ≡ written spelling text
    after_is = rw e

    length_is : answer.length ≡ length spelling
    length_is = rw e

    front_is : take answer.length after ≡ spelling
    front_is = rw (length_is, after_is) (written-take spelling text (length spelling) refl)

  refused_all : (c : Checked) → tests ≡ c → (c ≡ Ok tt → ⊥) → (after ≡ text) × (answer.length ≡ 0)
  refused_all (Ok _) e n = absurd (n refl)
  refused_all (Err f) e n = rw e (refl, refl)

  size-within : (c : Checked) → tests ≡ c → answer.length ≤ 125
  size-within (Ok _) e = rw e (told e).size
  size-within (Err f) e = rw e (omega arith)

  means : WriteMeans word text answer after
  means =
      let v : answer.verdict ≡ (answer_of tests).verdict = writing_verdict tests (length spelling) in
      record {
        done = rw v (through (verdict_done tests) write_done);
        runs = λ z.
            let e = is_done_lem z in (
              runs (word_of word),
              runs_of (word_of word),
              after_is e ∙ ap (λ (l : List ℕ). written l text) (text_runs (word_of word)),
              length_is e ∙ ap length (text_runs (word_of word)),
            );
        one_row = runs_unique (word_of word);
        size = size-within tests refl;
        accepted = λ z buffer h. rw (front_is (is_done_lem z)) (text_accepted (is_done_lem z) buffer h);
        same_word = λ z tree s.
            let t = told (is_done_lem z) in
            ap tree_word (one-tree spelling tree t.tree (rw (front_is (is_done_lem z)) at s) t.allowed.spells) ∙ t.word;
        malformed = λ k. rw v (through (verdict_refused tests TargetOrProductMalformed k) (write_6 k));
        no_room = rw v (through (verdict_refused tests WordsBufferShort 0) write_10);
        unchanged = λ n. refused_all tests refl (λ e. n (v ∙ (verdict_done tests).1 e));
      }

  back : ReadBack word answer after
  back =
      record {
        done = λ z buffer h.
            ap (λ (l : List ℕ). (read_answer l buffer).verdict) (front_is (is_done_lem z))
            ∙ (verdict_done (read_rules spelling (length buffer))).1 (text_taken (is_done_lem z) buffer h);
        freely_reduced = λ z buffer h. ap (λ (l : List ℕ). read_buffer l buffer) (front_is (is_done_lem z)) ∙ text_back (is_done_lem z) buffer h;
        same = λ z i buffer h.
            ap (λ (l : List ℕ). read_buffer l buffer) (front_is (is_done_lem z)) ∙ text_back (is_done_lem z) buffer h
            ∙ ap (λ (w : List ℕ). written (record_of w) buffer) (freely_reduce-same bytes byte_laws (word_of word) i);
      }

  pub write_means : {r : Writing} {text' : List ℕ} → r ≡ answer → text' ≡ after → WriteMeans word text r text'
  write_means f g = rw (f, g) means

  pub read_back_lem : {r : Writing} {text' : List ℕ} → r ≡ answer → text' ≡ after → ReadBack word r text'
  read_back_lem f g = rw (f, g) back
