-- Show: for every content of the lent buffers the part that is shown.
use Rattle.std.specs.Prelude.{◌%◌, ◌-◌, ℕ, Bool, ◌&&◌, cond, List, [], eqb, leb, ltb, get_or, length}
use Rattle.records.specs.Records.{is_stop}
use Rattle.slots.specs.Systems.{record_at, slots}

-- 14. "the two lent systems differ in length, or the length isn't a multiple of 64, or the slot isn't one of a to p that they have"
abbrev pub showable : List ℕ → List ℕ → ℕ → Bool
showable reduced given slot =
    eqb (length reduced) (length given) && eqb (length reduced % 64) 0 && leb 97 slot && leb slot 112 && ltb (slot - 97) (slots reduced)

-- show: "it shows the reduced record of a slot, or the given record where that slot is blank"; "Show looks only at the first byte of the
-- reduced record: a full stop there means blank."
unfoldable pub shown : List ℕ → List ℕ → ℕ → List ℕ
shown reduced given slot =
    cond (showable reduced given slot)
    (cond (is_stop (get_or (record_at reduced (slot - 97)) 0 0)) (record_at given (slot - 97)) (record_at reduced (slot - 97)))
    []
