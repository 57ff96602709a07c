-- The former order of refusals 1 and 2: whether a length is a multiple of 64 was tested before whether it is too long. It stands here for the
-- laws of this crate alone, which say where the order matters.
use Prim.Native.Nat.{◌%◌, ◌<◌, ℕ}
use mathlib.Core.Bool.{not}
use mathlib.Core.List.{List}
use mathlib.Core.Path.{◌≡◌, ap}
use lib.Dec.{eqb, leb}
use lib.ListN.{length}
use Rattle.records.specs.Refusals.{◌and_then◌, each_below, must}
use Rattle.slots.specs.Refusals.{slot_rules}
use Rattle.slots.specs.Systems.{slots}
use Rattle.records.specs.declared.refusals.Reason.TheVariants.{SystemTooLong, SystemUneven, TargetOrProductMalformed}
use Rattle.records.specs.Refusals.{Checked}

-- the tests of a system: a multiple of 64, then at most 16 records, then the records
abbrev pub former_system_rules : List ℕ → Checked
former_system_rules s = must (eqb (length s % 64) 0) SystemUneven 0 and_then must (leb (slots s) 16) SystemTooLong 0 and_then each_below (slot_rules s) (slots s)

-- the tests of the length of the program's input: not 0, then a multiple of 64, then at most 1,088
abbrev pub former_input_rules : ℕ → Checked
former_input_rules n = must (not (eqb n 0)) TargetOrProductMalformed 0 and_then must (eqb (n % 64) 0) SystemUneven 0 and_then must (leb n 1088) SystemTooLong 0

-- longer than so many bytes, and not a multiple of 64
abbrev pub TooLongAndUneven : ℕ → ℕ → Type 0
TooLongAndUneven most n = (most < n) × ((n % 64 ≡ 0) → ⊥)

-- what is given for a length of n bytes is the former, unless n is more than `most` and not a multiple of 64; there it is `refused`
pub record SameUnless {A : Type 0} (most n : ℕ) (given former refused : A) : Type 0 where
  pub elsewhere : (TooLongAndUneven most n → ⊥) → given ≡ former
  pub there : TooLongAndUneven most n → given ≡ refused

-- so it is with every function of what is given
pub same_by : {A B : Type 0} (f : A → B) (most n : ℕ) {given former refused : A} → SameUnless most n given former refused
    → SameUnless most n (f given) (f former) (f refused)
same_by f most n m = record { elsewhere = λ h. ap f (m.elsewhere h); there = λ h. ap f (m.there h) }
