-- The two orders of refusals 1 and 2 differ only where a system or an input is too long and its length is not a multiple of 64 besides.
use Prim.Native.Nat.{◌%◌, ◌<◌, ◌≤◌, ℕ}
use mathlib.Core.Bool.{Bool, false, not, true}
use mathlib.Core.List.{List}
use mathlib.Core.Logic.{inl, inr}
use mathlib.Core.Path.{◌∙◌, ◌≡◌, ap, refl, sym}
use native.Mathlib.Omega.{arith}
use lib.Dec.{eqb, leb}
use lib.ListN.{length}
use borrow.Author.Tests.{eqb-false, eqb-true, le-leb, leb-false, leb-true, lt-leb, ne_eqb}
use Rattle.records.specs.Refusals.{◌and_then◌, each_below, must, refusal}
use Rattle.slots.specs.Refusals.{slot_rules, system_rules}
use Rattle.slots.specs.Systems.{slots}
use Rattle.output.specs.Output.{input_rules}
use Rattle.former.proofs.Order.{SameUnless, former_input_rules, former_system_rules}
use Rattle.records.specs.declared.refusals.Reason.TheVariants.{SystemTooLong, SystemUneven, TargetOrProductMalformed}
use Rattle.std.specs.Prelude.{Err, Ok}
use Rattle.records.specs.Refusals.{Checked}
use Rattle.std.proofs.lemmas.Bool.{cases_Bool}

-- a chain of tests with nothing after it, and with its tests grouped otherwise
then_nothing : (c : Checked) → c ≡ c and_then (Ok tt)
then_nothing (Ok _) = refl
then_nothing (Err f) = refl

then_grouped : (c d e : Checked) → c and_then d and_then e ≡ (c and_then d) and_then e
then_grouped (Ok _) d e = refl
then_grouped (Err f) d e = refl

-- the two tests of a length, in either order; `few` says whether the former test of refusal 2 passes
length-same_unless : (most n : ℕ) (few : Bool) → (n ≤ most → few ≡ true) → (most < n → n % 64 ≡ 0 → few ≡ false)
    → SameUnless most n (must (leb n most) SystemTooLong 0 and_then must (eqb (n % 64) 0) SystemUneven 0) (must (eqb (n % 64) 0) SystemUneven 0 and_then must few SystemTooLong 0) (refusal SystemTooLong 0)
length-same_unless most n few short long =
    record {
      elsewhere = λ h.
          elim (cases_Bool (leb n most)) [
            | inl fits ↦ rw (fits, short (leb-true n most fits)) (then_nothing _)
            | inr over ↦
                let more : most < n = leb-false n most over in
                elim (cases_Bool (eqb (n % 64) 0)) [
                  | inl even ↦ rw (over, even, long more (eqb-true _ _ even)) refl
                  | inr uneven ↦ absurd (h (more, eqb-false _ _ uneven))
                ]
          ];
      there = λ h. rw (lt-leb n most h.0) refl;
    }

-- the two orders find the same in every system but one longer than 1,024 bytes and uneven, and there 2 is found now
pub system-same_unless : (s : List ℕ) → SameUnless 1024 (length s) (system_rules s) (former_system_rules s) (refusal SystemTooLong 0)
unfolding system_rules
system-same_unless s =
    let short : Checked = must (leb (length s) 1024) SystemTooLong 0 in
    let even : Checked = must (eqb (length s % 64) 0) SystemUneven 0 in
    let few : Checked = must (leb (slots s) 16) SystemTooLong 0 in
    let records : Checked = each_below (slot_rules s) (slots s) in
    let tests : SameUnless 1024 (length s) (short and_then even) (even and_then few) (refusal SystemTooLong 0) =
    length-same_unless 1024 (length s) (leb (slots s) 16) (λ h. le-leb (slots s) 16 (omega arith)) (λ h e. lt-leb (slots s) 16 (omega arith)) in
    record {
      elsewhere = λ h.
          then_grouped short even records ∙ ap (λ (c : Checked). c and_then records) (tests.elsewhere h) ∙ sym (then_grouped even few records);
      there = λ h. then_grouped short even records ∙ ap (λ (c : Checked). c and_then records) (tests.there h);
    }

-- and in the length of every input but one over 1,088 bytes and uneven
pub input-same_unless : (n : ℕ) → SameUnless 1088 n (input_rules n) (former_input_rules n) (refusal SystemTooLong 0)
unfolding input_rules
input-same_unless n =
    let tests = length-same_unless 1088 n (leb n 1088) (λ h. le-leb n 1088 h) (λ h e. lt-leb n 1088 h) in
    record {
      elsewhere = λ h. ap (λ (c : Checked). must (not (eqb n 0)) TargetOrProductMalformed 0 and_then c) (tests.elsewhere h);
      there = λ h. rw (ne_eqb n 0 (omega (arith, h.0))) (tests.there h);
    }
