-- Why a system of numbers is refused. "Of a system of numbers 19 is tested where 3 to 5 are, record by record, and on the way back to letters 20
-- next after it in each record."
use Rattle.std.specs.Prelude.{ℕ, zero, suc, ◌+◌, ◌*◌, ◌%◌, Bool, cond, List, [], ◌∷◌, Ok, eqb, leb, length}
use Rattle.records.specs.Refusals.{Checked, ◌and_then◌, each_below, must}
use Rattle.records.specs.declared.refusals.Reason.{Reason}
use Rattle.records.specs.declared.refusals.Reason.TheVariants.{NumberWithoutLetter, NumbersMalformed, SystemTooLong, SystemUneven}
use Rattle.slots.specs.Refusals.{system_rules, word_room}
use Rattle.slots.specs.Systems.{slots}
use Rattle.numbers.specs.Numbers.{within_26, is_number}
use Rattle.numbers.specs.Records.{is_zero, numbers_in, numbers_record_at, numbers_slots}

-- each of some numbers must pass a test, or else the refusal with this reason at the first byte of the first that does not
abbrev pub each_number : (ℕ → Bool) → Reason → List ℕ → ℕ → Checked
each_number test why [] at = Ok tt
each_number test why (x ∷ r) at = must (test x) why at and_then each_number test why r (at + 2)

-- 19. "A record of numbers breaks its layout: a number is not from -1,000 to 1,000, or one that is not zero stands after a zero or is the last of
-- the record." So many numbers at most, and then zeros
abbrev pub layout_rule : ℕ → List ℕ → ℕ → Checked
layout_rule most [] at = Ok tt
layout_rule zero (x ∷ r) at = each_number is_zero NumbersMalformed (x ∷ r) at
layout_rule (suc most) (x ∷ r) at = cond (is_number x) (layout_rule most r (at + 2)) (each_number is_zero NumbersMalformed (x ∷ r) at)

-- 20. "On the way back to letters a number is beyond 26."
abbrev pub within_26_rule : List ℕ → ℕ → Checked
within_26_rule r at = each_number within_26 NumberWithoutLetter r at

-- 19, and on the way back 20, on a record whose first byte stands at a place of its buffer
unfoldable pub numbers_rules : Bool → List ℕ → ℕ → Checked
numbers_rules back r at = layout_rule 63 (numbers_in r) at and_then cond back (within_26_rule (numbers_in r) at) (Ok tt)

-- the same on the record in a slot
abbrev pub numbers_slot_rules : Bool → List ℕ → ℕ → Checked
numbers_slot_rules back n k = numbers_rules back (numbers_record_at n k) (k * 128)

-- 2. "A system of numbers has more than 2,048." Then 1. "That of a system of numbers is not a multiple of 128." Then the rules of a record,
-- record by record
unfoldable pub numbers_system_rules : Bool → List ℕ → Checked
numbers_system_rules back n =
    must (leb (length n) 2048) SystemTooLong 0 and_then must (eqb (length n % 128) 0) SystemUneven 0
    and_then each_below (numbers_slot_rules back n) (numbers_slots n)

-- the tests of a system of letters, and then 10. "The buffer of to numbers or tidy numbers is shorter than 128 times the records"
unfoldable pub letters_room : List ℕ → ℕ → Checked
letters_room s room = system_rules s and_then word_room (slots s * 128) room

-- the tests of a system of numbers, and then 10: room for as many records, each of `size` bytes. "The buffer of to numbers or tidy numbers is
-- shorter than 128 times the records, that of from numbers than 64 times."
unfoldable pub numbers_room : Bool → List ℕ → ℕ → ℕ → Checked
numbers_room back n size room = numbers_system_rules back n and_then word_room (numbers_slots n * size) room
