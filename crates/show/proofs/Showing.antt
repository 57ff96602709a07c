-- The call show: refusal 14 and what is shown, case by case.
use Prim.Native.Nat.{◌%◌, ◌*◌, ◌+◌, ◌-◌, ◌/◌, ◌<◌, ◌≤◌, ℕ}
use mathlib.Core.Bool.{Bool, cond, false, true}
use mathlib.Core.List.{List, []}
use mathlib.Core.Logic.{◌⊎◌, inl, inr}
use mathlib.Core.Path.{◌∙◌, ◌≡◌, sym}
use native.Mathlib.Omega.{arith}
use lib.Dec.{leb}
use lib.ListN.{drop, get_or, length, take}
use Rattle.std.specs.List.{slice_range}
use borrow.Author.Tests.{eq-eqb, le-leb, le-ltb, lt-leb, lt-ltb, ne_eqb}
use Rattle.records.specs.Records.{is_stop}
use Rattle.slots.specs.Systems.{record_at}
use Rattle.slots.proofs.Systems.{slot_part}
use Rattle.show.specs.Show.{shown}
use Rattle.std.proofs.lemmas.Bool.{cases_Bool}

-- show: refusal 14, case by case
module _ (r g : List ℕ) (slot : ℕ) where
  pub show_lengths : (length r ≡ length g → ⊥) → [] ≡ shown r g slot
  unfolding shown
  show_lengths bad = rw (ne_eqb _ _ bad)

  module _ (same : length r ≡ length g) where
    pub show_uneven : (length r % 64 ≡ 0 → ⊥) → [] ≡ shown r g slot
    unfolding shown
    show_uneven bad = rw (eq-eqb _ _ same, ne_eqb _ _ bad)

    module _ (even : length r % 64 ≡ 0) where
      pub show_outside : (slot < 97) ⊎ (112 < slot) → [] ≡ shown r g slot
      unfolding shown
      show_outside (inl low) = rw (eq-eqb _ _ same, eq-eqb _ _ even, lt-leb 97 slot low)
      show_outside (inr high) =
          elim (cases_Bool (leb 97 slot)) [
            | inl e ↦ rw (eq-eqb _ _ same, eq-eqb _ _ even, e, lt-leb slot 112 high)
            | inr e ↦ rw (eq-eqb _ _ same, eq-eqb _ _ even, e)
          ]

      module _ (low : 97 ≤ slot) (high : slot ≤ 112) where
        pub show_beyond : ((slot - 97) * 64 + 64 < (slot - 97) * 64) ⊎ (length r < (slot - 97) * 64 + 64) → [] ≡ shown r g slot
        unfolding shown
        show_beyond (inl never) = absurd (omega arith)
        show_beyond (inr bad) =
            let beyond : length r / 64 ≤ slot - 97 = omega arith in
            rw (eq-eqb _ _ same, eq-eqb _ _ even, le-leb 97 slot low, le-leb slot 112 high, le-ltb _ _ beyond)

        -- and a record of the reduced system
        module _ {record_of_slot : List ℕ} (inside : (slot - 97) * 64 + 64 ≤ length r)
            (is : record_of_slot ≡ slice_range r ((slot - 97) * 64) ((slot - 97) * 64 + 64)) where
          there : slot - 97 < length r / 64
          there = omega arith

          record_is : record_of_slot ≡ record_at r (slot - 97)
          record_is = is ∙ slot_part (slot - 97) r

          shown-slot : (b : Bool) → is_stop (get_or record_of_slot 0 0) ≡ b
              → shown r g slot ≡ cond b (record_at g (slot - 97)) (record_at r (slot - 97))
          unfolding shown
          shown-slot b stop =
              let first : is_stop (get_or (record_at r (slot - 97)) 0 0) ≡ b = rw (← record_is) stop in
              rw (eq-eqb _ _ same, eq-eqb _ _ even, le-leb 97 slot low, le-leb slot 112 high, lt-ltb _ _ there, first)

          pub show_given : get_or record_of_slot 0 0 ≡ 46
              → take ((slot - 97) * 64 + 64 - (slot - 97) * 64) (drop ((slot - 97) * 64) g) ≡ shown r g slot
          show_given stop = slot_part (slot - 97) g ∙ sym (shown-slot true (eq-eqb _ _ stop))

          pub show_reduced : (get_or record_of_slot 0 0 ≡ 46 → ⊥) → record_of_slot ≡ shown r g slot
          show_reduced letter = record_is ∙ sym (shown-slot false (ne_eqb _ _ letter))
