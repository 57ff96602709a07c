-- What the verdict on a target means: the search for a product over a reduced system decides. A product that it finds has at most 63
-- factors, comes back from its record and is taken by multiply. So ask decides, and so does a call that asks an equivalent system.
use Prim.Native.Nat.{◌+◌, ◌<◌, ◌≤◌, ℕ}
use mathlib.Core.Bool.{Bool, false, true, true≢false}
use mathlib.Core.List.{List, [], ◌∷◌, map}
use mathlib.Core.Logic.{◌↔◌, inl, inr}
use Rattle.std.specs.Prelude.{None, Option, Some}
use mathlib.Core.Path.{◌∙◌, ◌≡◌, ap, refl, sym}
use native.Mathlib.Omega.{arith}
use lib.Dec.{leb}
use lib.ListN.{length, take}
use borrow.Author.Tests.{le-leb, lt-ltb}
use Rattle.words.specs.Alphabet.{bytes}
use Rattle.words.specs.Words.{Irreducible, freely_reduce}
use Rattle.words.proofs.Alphabet.{byte_laws}
use Rattle.words.proofs.Buffers.{written-take}
use Rattle.words.proofs.FreeReduction.{freely_reduce_irreducible, length-freely_reduce}
use Rattle.systems.specs.Products.{Equivalent, FreelyReduced, FreelyReducedOver, Generated, multiplied}
use Rattle.systems.specs.declared.Factor.{Factor}
use Rattle.systems.specs.Reduced.{Reduced}
use Rattle.systems.proofs.Equivalence.{reduced-equivalent, reduced-multiplied}
use Rattle.std.proofs.lemmas.Bool.{cases_Bool}
use Rattle.systems.proofs.Logic.{option_cases}
use Rattle.systems.proofs.Membership.{factored-freely, factored-length, factored-only, factored_sound, generated_none, some_generated}
use Rattle.systems.proofs.ProductLaws.{Named, over-named, over_words_over, word-slot, words-named}
use Rattle.records.specs.Answers.{on_fine, refusal_number}
use Rattle.records.specs.Records.{record_of, word_of}
use Rattle.records.specs.Refusals.{◌and_then◌, each_byte, must, target_rules}
use Rattle.records.specs.declared.answers.Answer.{Answer}
use Rattle.records.specs.declared.answers.Verdict.{Verdict}
use Rattle.records.specs.declared.answers.Verdict.TheVariants.{Member, NotMember}
use Rattle.records.proofs.Chains.{fine_first, fine_next, must_fine}
use Rattle.records.proofs.RoundTrip.{word-short}
use Rattle.systems.specs.Factors.{factor_byte, factor_of}
use Rattle.slots.specs.Factors.{product_of}
use Rattle.slots.specs.Refusals.{system_rules, word_room}
use Rattle.slots.specs.Systems.{freely_reduced_words, slots, system_of}
use Rattle.slots.proofs.Factors.{product_back, product-length, product_passes}
use Rattle.slots.proofs.Systems.{loaded_freely_reduced, system-few}
use Rattle.multiply.specs.Multiply.{multiply_rules, multiply_tests, product_word}
use Rattle.multiply.specs.SlotLetters.{has_slot, slot_rule}
use Rattle.runs.specs.Runs.{stopped}
use Rattle.slots.proofs.RoundTrip.{words-length}
use Rattle.reduction.proofs.Meaning.{tested_means}
use Rattle.factoring.specs.TargetProduct.{is_found, product_after, product_for, target_word}
use Rattle.asking.specs.Asking.{ask_answer, ask_found, ask_product, ask_tests, asked_of, question_rules, ready_rules, verdict_of}
use Rattle.asking.specs.Meaning.{Answered, AskMeans, Decides, EnoughToAsk}
use Rattle.records.specs.declared.refusals.Reason.TheVariants.{ProductBufferShort, SlotMissing, SystemNotReduced}
use Rattle.std.specs.Prelude.{Err, Ok}
use Rattle.records.specs.Refusals.{Checked}

-- multiply takes a product over the slots of a system that multiplies out to what a record's word freely reduces to
slots_pass : (n : ℕ) (l : List ℕ) (at : ℕ) → Named (λ k. k < n) (map factor_of l) → each_byte (has_slot n) SlotMissing l at ≡ Ok tt
slots_pass n [] at h = refl
slots_pass n (b ∷ l) at h = rw (lt-ltb (factor_of b).slot n h.0) (slots_pass n l (at + 1) h.1)

product-accepted : (W P t : List ℕ) → system_rules W ≡ Ok tt → target_rules P ≡ Ok tt → FreelyReducedOver bytes (freely_reduced_words W) (product_of P)
    → multiplied bytes (system_of W) (product_of P) ≡ freely_reduce bytes (word_of t) → (room : ℕ) → 64 ≤ room → multiply_rules W P room ≡ Ok tt
unfolding multiply_rules multiply_tests slot_rule word_room product_word
product-accepted W P t system target over word room enough =
    let named : Named (λ k. k < slots W) (product_of P) =
    rw (words-length W) at (over-named bytes byte_laws (freely_reduced_words W) (product_of P)
    (over_words_over bytes byte_laws (freely_reduced_words W) (product_of P) over.0)) in
    let short : length (multiplied bytes (system_of W) (product_of P)) ≤ 63 =
    omega (arith, ap length word, length-freely_reduce bytes byte_laws (word_of t), word-short t) in
    rw (system, target, slots_pass (slots W) (word_of P) 0 named, le-leb 64 room enough, le-leb _ 63 short)

-- the two verdicts
pub apart : (v : Verdict) → v ≡ Member → v ≡ NotMember → ⊥
apart v e h = let z : ◌≡◌ {A = ℕ} 0 1 = cc in omega arith

pub verdict_cases : (v : Verdict) (o : Option (List Factor)) → v ≡ verdict_of (is_found o) → Answered v
verdict_cases v None e = inr e
verdict_cases v (Some p) e = inl e

-- a reduced system asked about the target
module _ (T : List (List ℕ)) (t : List ℕ) (freely : FreelyReduced bytes T) (reduced : Reduced bytes T) where
  target-short : length (target_word t) ≤ 63
  target-short = omega (arith, length-freely_reduce bytes byte_laws (word_of t), word-short t)

  -- nothing found: the target is not generated
  missed_means : product_for T (target_word t) ≡ None → Generated bytes T (word_of t) → ⊥
  missed_means e = generated_none bytes byte_laws T freely reduced 63 (word_of t) target-short e

  module _ (p : List Factor) (found : product_for T (target_word t) ≡ Some p) where
    irreducible : Irreducible bytes (target_word t)
    irreducible = freely_reduce_irreducible bytes byte_laws (word_of t)

    found_means : Generated bytes T (word_of t)
    found_means = some_generated bytes byte_laws T 63 (word_of t) p found

    found-freely : FreelyReducedOver bytes T p
    found-freely = factored-freely bytes byte_laws T freely reduced 63 (target_word t) p irreducible found

    found-multiplied : multiplied bytes T p ≡ target_word t
    found-multiplied = (factored_sound bytes byte_laws T 63 (target_word t) p irreducible found).1

    found-only : (q : List Factor) → FreelyReducedOver bytes T q → multiplied bytes T q ≡ target_word t → q ≡ p
    found-only q r e = factored-only bytes byte_laws T freely reduced 63 (target_word t) p q irreducible found r e

    -- the product fits one record
    found-short : length p ≤ 63
    found-short = omega (arith, factored-length bytes byte_laws T freely reduced 63 (target_word t) p irreducible found, target-short)

    -- and names only slots that the system has
    found-named : length T ≤ 16 → Named (λ k. k < 26) p
    found-named few =
        words-named bytes byte_laws T (λ k. k < 26) p (λ k h. omega (arith, word-slot bytes byte_laws T k h)) found-freely.0

-- a system W of records that passes its tests and is reduced after free reduction, asked about a target: v is the verdict, and product'
-- the product buffer afterwards
module _ (W t product product' : List ℕ) (v : Verdict) (system : system_rules W ≡ Ok tt) (reduced : Reduced bytes (freely_reduced_words W))
    (told : v ≡ verdict_of (is_found (ask_found W t))) (gave : product' ≡ product_after (ask_found W t) product) where
  freely : FreelyReduced bytes (freely_reduced_words W)
  freely = loaded_freely_reduced W

  -- a product multiplies out to the same word over the words as they are given
  same-product : (p : List Factor) → multiplied bytes (freely_reduced_words W) p ≡ multiplied bytes (system_of W) p
  unfolding freely_reduced_words
  same-product p = reduced-multiplied bytes byte_laws (system_of W) p

  same-words : Equivalent bytes (system_of W) (freely_reduced_words W)
  unfolding freely_reduced_words
  same-words = reduced-equivalent bytes byte_laws (system_of W)

  -- not a member
  missed : ask_found W t ≡ None → Decides W t W (take 64 product') v
  missed e =
      let verdict : v ≡ NotMember = told ∙ ap (λ (o : Option (List Factor)). verdict_of (is_found o)) e in
      let outside : Generated bytes (system_of W) (word_of t) → ⊥ =
      λ g. missed_means (freely_reduced_words W) t freely reduced e ((same-words (word_of t)).0 g) in
      record {
        member = (λ m. absurd (apart v m verdict), λ g. absurd (outside g));
        not_member = (λ m. outside, λ o. verdict);
        freely_reduced = λ m. absurd (apart v m verdict);
        multiplies_out = λ m. absurd (apart v m verdict);
        fits = λ m. absurd (apart v m verdict);
        accepted = λ m. absurd (apart v m verdict);
        only = λ m q r d. absurd (apart v m verdict);
      }

  -- a member
  module _ (p : List Factor) (e : ask_found W t ≡ Some p) where
    short : length p ≤ 63
    short = found-short (freely_reduced_words W) t freely reduced p e

    named : Named (λ k. k < 26) p
    named = found-named (freely_reduced_words W) t freely reduced p e (rw (words-length W) (system-few W system))

    product_is : take 64 product' ≡ record_of (map factor_byte p)
    product_is =
        ap (take 64) (gave ∙ ap (λ (o : Option (List Factor)). product_after o product) e)
        ∙ written-take (record_of (map factor_byte p)) product 64 (product-length p short named)

    back : product_of (take 64 product') ≡ p
    back = ap product_of product_is ∙ product_back p short named

    product_passed : target_rules (take 64 product') ≡ Ok tt
    product_passed = ap target_rules product_is ∙ product_passes p short named

    product-freely : FreelyReducedOver bytes (freely_reduced_words W) (product_of (take 64 product'))
    product-freely = rw back (found-freely (freely_reduced_words W) t freely reduced p e)

    product-multiplied : multiplied bytes (system_of W) (product_of (take 64 product')) ≡ freely_reduce bytes (word_of t)
    product-multiplied = rw (back, ← same-product p) (found-multiplied (freely_reduced_words W) t freely reduced p e)

    hit : Decides W t W (take 64 product') v
    hit =
        let verdict : v ≡ Member = told ∙ ap (λ (o : Option (List Factor)). verdict_of (is_found o)) e in
        let inside : Generated bytes (system_of W) (word_of t) =
        (same-words (word_of t)).1 (found_means (freely_reduced_words W) t freely reduced p e) in
        record {
          member = (λ m. inside, λ g. verdict);
          not_member = (λ m. absurd (apart v verdict m), λ o. absurd (o inside));
          freely_reduced = λ m. product-freely;
          multiplies_out = λ m. product-multiplied;
          fits = λ m. product_passed;
          accepted = λ m. product-accepted W (take 64 product') t system product_passed product-freely product-multiplied;
          only = λ m q r d. found-only (freely_reduced_words W) t freely reduced p e q r (same-product q ∙ d) ∙ sym back;
        }

  asked-decides : Decides W t W (take 64 product') v
  asked-decides = elim (option_cases (ask_found W t)) [ inl e ↦ missed e | inr f ↦ hit f.0 f.1 ]

-- where an equivalent system was given, the verdict decides of that one too
pub decides-equivalent : (s t W P : List ℕ) (v : Verdict) → Equivalent bytes (system_of s) (system_of W) → Decides W t W P v → Decides s t W P v
decides-equivalent s t W P v same decided =
    let both = same (word_of t) in
    record {
      member = (λ e. both.1 (decided.member.0 e), λ g. decided.member.1 (both.0 g));
      not_member = (λ e g. decided.not_member.0 e (both.0 g), λ o. decided.not_member.1 (λ g. o (both.1 g)));
      freely_reduced = decided.freely_reduced;
      multiplies_out = decided.multiplies_out;
      fits = decided.fits;
      accepted = decided.accepted;
      only = decided.only;
    }

-- an answer that is one of the two verdicts comes from a call that passed its tests
pub answered_fine : (c : Checked) (v : Verdict) → Answered (asked_of c v).verdict → c ≡ Ok tt
answered_fine (Ok _) v h = refl
answered_fine (Err f) v (inl e) = let z : ◌≡◌ {A = ℕ} 0 1 = cc in absurd (omega arith)
answered_fine (Err f) v (inr e) = let z : ◌≡◌ {A = ℕ} 0 1 = cc in absurd (omega arith)

-- no verdict on a target is a refusal
pub verdict_unrefused : (b : Bool) → refusal_number (verdict_of b) ≡ 0
verdict_unrefused true = refl
verdict_unrefused false = refl

-- a call that passed refusals 1 to 6 gets 15 exactly where some rule applies
fifteen : (b : Bool) (room : ℕ) (found : Bool)
    → (refusal_number (asked_of (must b SystemNotReduced 0 and_then must (leb 64 room) ProductBufferShort 0) (verdict_of found)).verdict ≡ 15) ↔ (b ≡ false)
fifteen false room found = (λ e. refl, λ e. refl)
fifteen true room found = (λ e. absurd (never (leb 64 room) e), λ e. absurd (true≢false e))
  where
    never : (d : Bool) → refusal_number (asked_of (must d ProductBufferShort 0) (verdict_of found)).verdict ≡ 15 → ⊥
    never true e = omega (arith, e, verdict_unrefused found)
    never false e = omega (arith, e)

-- the call, where its tests passed
module _ (s t product : List ℕ) (passed : ask_tests s t product ≡ Ok tt) where
  question : question_rules s t ≡ Ok tt
  question = fine_first (question_rules s t) _ passed

  system_passed : system_rules s ≡ Ok tt
  unfolding question_rules
  system_passed = fine_first (system_rules s) _ question

  -- the freely reduced words are reduced
  words-reduced : Reduced bytes (freely_reduced_words s)
  unfolding ready_rules
  words-reduced = (tested_means s).0 (must_fine _ SystemNotReduced 0 (fine_first _ _ (fine_next (question_rules s t) _ passed)))

  -- what it answers and writes
  verdict_is : (a : Answer) → a ≡ ask_answer s t product → a.verdict ≡ verdict_of (is_found (ask_found s t))
  verdict_is a answered =
      ap (λ (r : Answer). r.verdict) (answered ∙ ap (λ (c : Checked). asked_of c (verdict_of (is_found (ask_found s t)))) passed)

  product-written : (product' : List ℕ) → product' ≡ ask_product s t product → product' ≡ product_after (ask_found s t) product
  product-written product' gave = gave ∙ ap (λ (c : Checked). on_fine c (product_after (ask_found s t) product) product) passed

-- they pass where there is enough to ask
pub ask_passes : (s t product : List ℕ) → EnoughToAsk s t product → ask_tests s t product ≡ Ok tt
unfolding question_rules ready_rules
ask_passes s t product enough =
    rw (enough.system, enough.target_fits, (tested_means s).1 enough.reduced, le-leb 64 (length product) enough.product_fits) refl

-- the answer of ask and what it wrote mean what is demanded of them
module _ (s t product : List ℕ) (a : Answer) (product' : List ℕ) (answered : a ≡ ask_answer s t product) (gave : product' ≡ ask_product s t product) where
  tests_passed : Answered a.verdict → ask_tests s t product ≡ Ok tt
  tests_passed told = answered_fine (ask_tests s t product) (verdict_of (is_found (ask_found s t))) (rw answered at told)

  unreduced : system_rules s ≡ Ok tt → target_rules t ≡ Ok tt → (refusal_number a.verdict ≡ 15) ↔ (stopped (freely_reduced_words s) ≡ false)
  unfolding question_rules ready_rules
  unreduced system target =
      rw (answered, system, target) (fifteen (stopped (freely_reduced_words s)) (length product) (is_found (ask_found s t)))

  pub ask_means : AskMeans s t product a product'
  ask_means =
      record {
        third_demand =
            record {
              answered =
                  λ enough.
                  let passed = ask_passes s t product enough in
                  verdict_cases a.verdict (ask_found s t) (verdict_is s t product passed a answered);
              decides =
                  λ told.
                  let passed = tests_passed told in
                  asked-decides s t product product' a.verdict (system_passed s t product passed) (words-reduced s t product passed)
                  (verdict_is s t product passed a answered) (product-written s t product passed product' gave);
            };
        not_reduced =
            λ system target. (
              λ e reduced. true≢false (sym ((tested_means s).1 reduced) ∙ (unreduced system target).0 e),
              λ o.
                  (unreduced system target).1 (elim (cases_Bool (stopped (freely_reduced_words s))) [
                    | inl e ↦ absurd (o ((tested_means s).0 e))
                    | inr e ↦ e
                  ]),
            );
        reduced = λ told. words-reduced s t product (tests_passed told);
      }
