-- The letters of a product: the slots that they name.
use Rattle.std.specs.Prelude.{ℕ, Bool, List, ltb}
use Rattle.records.specs.Records.{word_of}
use Rattle.records.specs.Refusals.{each_byte}
use Rattle.systems.specs.Factors.{factor_of}
use Rattle.records.specs.declared.refusals.Reason.TheVariants.{SlotMissing}
use Rattle.records.specs.Refusals.{Checked}

-- 9. "The product names a slot that the system does not have."
abbrev pub has_slot : ℕ → ℕ → Bool
has_slot n b = ltb (factor_of b).slot n

unfoldable pub slot_rule : ℕ → List ℕ → Checked
slot_rule n r = each_byte (has_slot n) SlotMissing (word_of r) 0
