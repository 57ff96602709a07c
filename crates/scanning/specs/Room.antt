-- How many more signs may stand open in a text. No call's contract speaks of it.
use Rattle.std.specs.Prelude.{◌+◌, suc, zero, ℕ, Bool, ◌||◌, cond, None, Option, Some, eqb}

-- a byte opens a group or a bracket, or closes one
abbrev pub is_opening : ℕ → Bool
is_opening b = eqb b 40 || eqb b 91

abbrev pub is_closing : ℕ → Bool
is_closing b = eqb b 41 || eqb b 93

-- the room with one sign more open, if there is any
abbrev pub room_within : ℕ → Option ℕ
room_within zero = None
room_within (suc n) = Some n

-- the room after a byte; none where it opens a sign for which there is no room
abbrev pub room_after : ℕ → ℕ → Option ℕ
room_after b room = cond (is_opening b) (room_within room) (Some (cond (is_closing b) (room + 1) room))
