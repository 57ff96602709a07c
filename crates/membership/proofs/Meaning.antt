-- What the answer of member means: with enough room lent the call is not refused, it gives what reduce and then ask of the words left
-- give, and these words generate the same words as the given ones: so it decides as ask does.
use Prim.Native.Nat.{◌*◌, ◌≤◌, ℕ}
use mathlib.Core.List.{List}
use mathlib.Core.Logic.{inl, inr}
use Rattle.std.specs.Prelude.{None, Option}
use mathlib.Core.Path.{◌∙◌, ◌≡◌, ap, refl, sym}
use native.Mathlib.Omega.{arith}
use lib.ListN.{length, take}
use borrow.Author.Tests.{le-leb}
use lib.Dec.{leb}
use Rattle.words.specs.Alphabet.{bytes}
use Rattle.systems.specs.declared.Factor.{Factor}
use Rattle.systems.specs.Rules.{next}
use Rattle.records.specs.Answers.{on_fine}
use Rattle.records.specs.declared.answers.Verdict.{Verdict}
use Rattle.records.specs.declared.answers.Verdict.TheVariants.{Done}
use Rattle.records.specs.Refusals.{◌and_then◌, must, target_rules}
use Rattle.records.specs.declared.refusals.Reason.TheVariants.{ProductBufferShort}
use Rattle.records.proofs.ByNumber.{NumberedTo, must_numbered, target_numbered, then_numbered}
use Rattle.slots.specs.Refusals.{system_room, system_rules, word_room}
use Rattle.slots.specs.Systems.{freely_reduced_words, slots}
use Rattle.slots.proofs.Systems.{room_fits, room_numbered, system_numbered}
use Rattle.moves.specs.Logs.{move_size}
use Rattle.runs.specs.Runs.{room_for}
use Rattle.reduction.specs.Meaning.{Reduces, most_moves_on}
use Rattle.reduction.specs.Reduction.{log_after, reduction_of, run_tests, words_after}
use Rattle.reduction.specs.declared.answers.Reduction.{Reduction}
use Rattle.reduction.proofs.Bound.{most_moves_enough}
use Rattle.reduction.proofs.Meaning.{bounded_moves, enough_passes, left_reduced, left_words, ran_ended, ran_reduces, ran_tests, ran_words, run_words, short_means}
use Rattle.factoring.specs.TargetProduct.{is_found, product_after, product_for, target_word}
use Rattle.membership.specs.Meaning.{EnoughRoom, InTurn, MemberMeans, NotRefused, RoomForMostMoves}
use Rattle.asking.specs.Asking.{ask_found, ask_tests, asked_of, verdict_of}
use Rattle.asking.specs.Meaning.{Answered, Decides, ThirdDemand}
use Rattle.asking.proofs.Meaning.{ask_means, ask_passes, decides-equivalent, verdict_cases, verdict_unrefused}
use Rattle.membership.specs.Membership.{member_answer, member_checked, member_found, member_log, member_product, member_tests, member_words}
use Rattle.membership.proofs.Calls.{passed_fits, passed_product, passed_rules, passed_system}
use Rattle.std.specs.Prelude.{Err, Ok}
use Rattle.records.specs.Refusals.{Checked}

-- an answer that is no refusal comes from a call that passed its tests, and so does one of the two verdicts
unrefused_fine : (c : Checked) (v : Verdict) (S : List (List ℕ)) (n : ℕ) → NotRefused (reduction_of c v S n).verdict → c ≡ Ok tt
unrefused_fine (Ok _) v S n h = refl
unrefused_fine (Err f) v S n h = absurd (h f refl)

pub answered_unrefused : (v : Verdict) → Answered v → NotRefused v
answered_unrefused v (inl e) f h = let z : ◌≡◌ {A = ℕ} 0 1 = cc in omega arith
answered_unrefused v (inr e) f h = let z : ◌≡◌ {A = ℕ} 0 1 = cc in omega arith

-- the call, where its tests and 13 passed
module _ (s t words log product : List ℕ) (passed : member_checked s t words log product ≡ Ok tt) where
  tests : member_tests s t (length words) (length product) ≡ Ok tt
  tests = ran_tests s log (member_tests s t (length words) (length product)) passed

  system : system_rules s ≡ Ok tt
  system = passed_system s t (length words) (length product) tests

  ended : next bytes (run_words s (room_for log)) ≡ None
  ended = ran_ended s log (member_tests s t (length words) (length product)) passed

  -- so do the tests of reduce
  room : system_room s (length words) ≡ Ok tt
  unfolding system_room
  room = rw (system, room_fits (slots s * 64) (length words) (passed_fits s t (length words) (length product) tests)) refl

  verdict_is : (a : Reduction) → a ≡ member_answer s t words log product → a.verdict ≡ verdict_of (is_found (member_found s t words log product))
  verdict_is a answered =
      ap (λ (r : Reduction). r.verdict) (answered
      ∙ ap (λ (c : Checked). reduction_of c (verdict_of (is_found (member_found s t words log product))) (freely_reduced_words s) (room_for log)) passed)

  module _ (a : Reduction) (words' log' product' : List ℕ) (answered : a ≡ member_answer s t words log product)
      (wrote : words' ≡ member_words s t words log product) (logged : log' ≡ member_log s t words log product)
      (gave : product' ≡ member_product s t words log product) where
    -- all that reduce gives
    given-same : Reduces s (take (slots s * 64) words') (take (a.moves * move_size) log') a
    given-same =
        ran_reduces s log (member_tests s t (length words) (length product)) passed system
        (verdict_of (is_found (member_found s t words log product))) a words words' log' answered wrote logged

    -- the words written, as ask takes them in, are those that the run leaves
    words_back : freely_reduced_words (take (slots s * 64) words') ≡ run_words s (room_for log)
    words_back =
        ap freely_reduced_words (ran_words s log (member_tests s t (length words) (length product)) passed words words' wrote)
        ∙ left_words s (room_for log) system

    found-same : ask_found (take (slots s * 64) words') t ≡ member_found s t words log product
    found-same = ap (λ (T : List (List ℕ)). product_for T (target_word t)) words_back

    -- ask takes them
    ask_passed : ask_tests (take (slots s * 64) words') t product ≡ Ok tt
    ask_passed =
        ask_passes (take (slots s * 64) words') t product
        (record {
          system = given-same.well_formed;
          target_fits = passed_rules s t (length words) (length product) tests;
          reduced = rw words_back (left_reduced s (room_for log) ended);
          product_fits = passed_product s t (length words) (length product) tests;
        })

    -- and reduce is done with the given ones
    in_turn : InTurn s t words log product a words' log' product'
    in_turn =
        let v : Verdict = verdict_of (is_found (member_found s t words log product)) in
        let told : a ≡ reduction_of (Ok tt) v (freely_reduced_words s) (room_for log) =
        answered ∙ ap (λ (c : Checked). reduction_of c v (freely_reduced_words s) (room_for log)) passed in
        let same : member_tests s t (length words) (length product) ≡ system_room s (length words) = tests ∙ sym room in
        record {
          reduced =
              ap (λ (c : Checked). reduction_of c Done (freely_reduced_words s) (room_for log))
              (ap (λ (c : Checked). run_tests c (freely_reduced_words s) (room_for log)) (sym same) ∙ passed)
              ∙ ap (λ (r : Reduction). record { verdict = Done; moves = r.moves; rank = r.rank; independent = r.independent }) (sym told);
          same_words = wrote ∙ ap (λ (c : Checked). words_after c (freely_reduced_words s) (room_for log) words) same;
          same_log = logged ∙ ap (λ (c : Checked). log_after c (freely_reduced_words s) (room_for log) log) same;
          asked =
              ap (λ (c : Checked). asked_of c (verdict_of (is_found (ask_found (take (slots s * 64) words') t)))) ask_passed
              ∙ ap (λ (o : Option (List Factor)). record { verdict = verdict_of (is_found o) }) found-same
              ∙ ap (λ (u : Verdict). record { verdict = u }) (sym (verdict_is a answered));
          same_product =
              gave ∙ ap (λ (c : Checked). on_fine c (product_after (member_found s t words log product) product) product) (passed ∙ sym ask_passed)
              ∙ ap (λ (o : Option (List Factor)). on_fine (ask_tests (take (slots s * 64) words') t product) (product_after o product) product) (sym found-same);
        }

    decides : Answered a.verdict → Decides s t (take (slots s * 64) words') (take 64 product') a.verdict
    decides told =
        decides-equivalent s t (take (slots s * 64) words') (take 64 product') a.verdict given-same.equivalent
        ((ask_means (take (slots s * 64) words') t product (record { verdict = a.verdict }) product' (sym in_turn.asked) in_turn.same_product).third_demand.decides told)

-- with room for the words and the product the call passes its tests before the run
pub tests_pass : (s t : List ℕ) (room product_room : ℕ) → system_rules s ≡ Ok tt → target_rules t ≡ Ok tt → slots s * 64 ≤ room → 64 ≤ product_room
    → member_tests s t room product_room ≡ Ok tt
unfolding member_tests
tests_pass s t room product_room system target fits product =
    rw (system, target, room_fits (slots s * 64) room fits, le-leb 64 product_room product)

-- the numbers of these tests are below 13
tests_numbered : (s t : List ℕ) (room product_room : ℕ) → NumberedTo 12 (member_tests s t room product_room)
unfolding member_tests
tests_numbered s t room product_room =
    let fits : Checked = must (leb 64 product_room) ProductBufferShort 0 in
    then_numbered 12 (system_rules s) (target_rules t and_then word_room (slots s * 64) room and_then fits) (omega (arith, system_numbered s))
    (then_numbered 12 (target_rules t) (word_room (slots s * 64) room and_then fits) (omega (arith, target_numbered t))
    (then_numbered 12 (word_room (slots s * 64) room) fits (omega (arith, room_numbered (slots s * 64) room))
    (must_numbered 12 (leb 64 product_room) ProductBufferShort 0 (omega arith))))

-- a log of as many log records as the moves can be at most is room enough
most_moves_room : (s t words log product : List ℕ) → RoomForMostMoves s t words log product → EnoughRoom s t words log product
most_moves_room s t words log product room =
    record {
      system = room.system;
      target_fits = room.target_fits;
      words_fit = room.words_fit;
      product_fits = room.product_fits;
      enough_moves = most_moves_on s;
      no_more_moves = most_moves_enough s;
      log_fits = room.log_fits;
    }

-- the answer of member and what it wrote into the three buffers
module _ (s t words log product : List ℕ) (a : Reduction) (words' log' product' : List ℕ) (answered : a ≡ member_answer s t words log product)
    (wrote : words' ≡ member_words s t words log product) (logged : log' ≡ member_log s t words log product)
    (gave : product' ≡ member_product s t words log product) where
  abbrev v : Verdict
  v = verdict_of (is_found (member_found s t words log product))

  passed_answer : Answered a.verdict → member_checked s t words log product ≡ Ok tt
  passed_answer told = unrefused_fine _ v (freely_reduced_words s) (room_for log) (answered_unrefused _ (rw answered at told))

  demand_met : ThirdDemand (EnoughRoom s t words log product) s t (take (slots s * 64) words') (take 64 product') a.verdict
  demand_met =
      record {
        answered =
            λ room.
            verdict_cases a.verdict (member_found s t words log product)
            (verdict_is s t words log product
            (enough_passes s log (member_tests s t (length words) (length product)) room.enough_moves
            (tests_pass s t (length words) (length product) room.system room.target_fits room.words_fit room.product_fits) room.no_more_moves room.log_fits)
            a answered);
        decides = λ told. decides s t words log product (passed_answer told) a words' log' product' answered wrote logged gave told;
      }

  -- are what reduce and ask in turn give
  pub member_turns : NotRefused a.verdict → InTurn s t words log product a words' log' product'
  member_turns told =
      in_turn s t words log product (unrefused_fine _ v (freely_reduced_words s) (room_for log) (rw answered at told)) a words' log' product' answered wrote logged gave

  -- and mean what is demanded of them
  pub member_means : MemberMeans s t words log product a words' log' product'
  member_means =
      record {
        third_demand = demand_met;
        with_most_moves = record { answered = λ room. demand_met.answered (most_moves_room s t words log product room); decides = demand_met.decides };
        reduces = λ told. given-same s t words log product (passed_answer told) a words' log' product' answered wrote logged gave;
        bounded =
            bounded_moves s log (member_tests s t (length words) (length product)) v (verdict_unrefused (is_found (member_found s t words log product)))
            (tests_numbered s t (length words) (length product)) (passed_system s t (length words) (length product)) a answered;
        log_short =
            λ system target fits product_fits enough ended.
            short_means s log (member_tests s t (length words) (length product))
            (tests_pass s t (length words) (length product) system target fits product_fits) enough ended v
            (verdict_unrefused (is_found (member_found s t words log product))) a log' answered logged;
      }
