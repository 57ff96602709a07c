-- A log record by record: each is tested and read as at its own place in the log. And what a log that passes its tests tells of them.
use Prim.Native.Nat.{◌%◌, ◌*◌, ◌+◌, ◌-◌, ◌/◌, ◌<◌, ◌≤◌, suc, zero, ℕ}
use mathlib.Core.Bool.{Bool, ◌&&◌, false, true}
use mathlib.Core.List.{List}
use mathlib.Core.Path.{◌∙◌, ◌≡◌, ap, ap₂, refl}
use native.Mathlib.Nat.{add-zero}
use native.Mathlib.Omega.{arith}
use lib.Dec.{eqb, leb}
use lib.ListN.{drop, get_or, length, take}
use lib.Seq.{drop-drop, get_or-drop, get_or-take}
use borrow.Author.Tests.{eq-eqb, leb-true, ltb-true}
use Rattle.std.specs.Prelude.{None, Ok, Option, Some, cond, is_some}
use Rattle.std.specs.Simd.{first_chunks}
use Rattle.moves.specs.declared.log.Logged.{Logged}
use Rattle.records.specs.Refusals.{Checked, each_below, must}
use Rattle.records.specs.declared.refusals.Reason.TheVariants.{LogRecordMalformed, LogUneven}
use Rattle.records.proofs.Chains.{each_passed, fine_next, must_fine}
use Rattle.moves.specs.Logs.{is_move, log_rules, logged_at, move_at, move_rule, move_size, names_slot, read_move}
use Rattle.std.proofs.lemmas.Bool.{and_parts}

-- one record of a log that is cut into its records
record_at : (k j : ℕ) (log d : List ℕ) → j < k → get_or (first_chunks move_size k log) j d ≡ take move_size (drop (j * move_size) log)
record_at zero j log d h = absurd (omega arith)
record_at (suc k) zero log d h = refl
record_at (suc k) (suc j) log d h =
    let place : move_size + j * move_size ≡ suc j * move_size = omega arith in
    record_at k j (drop move_size log) d (omega arith)
    ∙ ap (take move_size) (drop-drop (j * move_size) move_size log ∙ ap (λ (i : ℕ). drop i log) place)

-- the record in a place of the log, by itself
module _ (log : List ℕ) (j : ℕ) where
  byte_at : (i : ℕ) → i < move_size → get_or (take move_size (drop (j * move_size) log)) i 0 ≡ get_or log (j * move_size + i) 0
  byte_at i h = get_or-take move_size (drop (j * move_size) log) i 0 h ∙ get_or-drop (j * move_size) log i 0

  first_at : get_or (take move_size (drop (j * move_size) log)) 0 0 ≡ get_or log (j * move_size) 0
  first_at = byte_at 0 (omega arith) ∙ ap (λ (i : ℕ). get_or log i 0) (add-zero (j * move_size))

  moves_at : (n : ℕ) → is_move n (take move_size (drop (j * move_size) log)) 0 ≡ is_move n log j
  moves_at n =
      rw (
        first_at,
        byte_at 1 (omega arith),
        byte_at 2 (omega arith),
        byte_at 3 (omega arith),
        byte_at 4 (omega arith),
        byte_at 5 (omega arith),
        byte_at 6 (omega arith),
        byte_at 7 (omega arith),
      ) refl

  same_at : logged_at (take move_size (drop (j * move_size) log)) 0 ≡ logged_at log j
  same_at =
      rw (first_at, byte_at 1 (omega arith), byte_at 2 (omega arith), byte_at 4 (omega arith), byte_at 5 (omega arith), byte_at 6 (omega arith)) refl

  module _ (n : ℕ) (parts : List (List ℕ)) (d : List ℕ) (cut : parts ≡ first_chunks move_size (length log / move_size) log)
      (inside : j < length log / move_size) where
    pub read_at : read_move n (get_or parts j d) ≡ cond (is_move n log j) (Some (logged_at log j)) None
    read_at =
        ap (read_move n) (ap (λ (l : List (List ℕ)). get_or l j d) cut ∙ record_at (length log / move_size) j log d inside)
        ∙ ap₂ (λ (b : Bool) (l : Logged). cond b (Some l) None) (moves_at n) same_at

    -- its test, by whether a move is read in it
    pub tested_at : {r : Option Logged} {t : Bool} {x : Checked} → r ≡ read_move n (get_or parts j d) → t ≡ is_some r
        → x ≡ must t LogRecordMalformed (j * move_size) → x ≡ move_rule n log j
    unfolding move_rule
    tested_at read some told =
        told
        ∙ ap (λ (b : Bool). must b LogRecordMalformed (j * move_size)) (some ∙ ap is_some (read ∙ read_at) ∙ found (is_move n log j) (logged_at log j))
      where
        found : (b : Bool) (l : Logged) → is_some (cond b (Some l) None) ≡ b
        found true l = refl
        found false l = refl

-- refusals 7 and 8
pub log_even : (n : ℕ) (log : List ℕ) → length log % move_size ≡ 0 → each_below (move_rule n log) (length log / move_size) ≡ Ok tt → log_rules n log ≡ Ok tt
unfolding log_rules
log_even n log even e = rw (eq-eqb _ _ even, e)

-- a log that passes its tests holds moves
pub passed_move : (n : ℕ) (log : List ℕ) → log_rules n log ≡ Ok tt → (j : ℕ) → j < length log / move_size → is_move n log j ≡ true
unfolding log_rules move_rule
passed_move n log fine j h =
    let each : each_below (move_rule n log) (length log / move_size) ≡ (Ok tt) = fine_next (must (eqb (length log % move_size) 0) LogUneven 0) _ fine in
    must_fine _ LogRecordMalformed (j * move_size) (each_passed (move_rule n log) (length log / move_size) j each h)

-- and a move changes one of the slots, and is named by letters and a digit
module _ (n : ℕ) (log : List ℕ) (j : ℕ) (valid : is_move n log j ≡ true) where
  slots_named : names_slot n (get_or log (j * move_size) 0)
      && (leb 49 (get_or log (j * move_size + 1) 0) && leb (get_or log (j * move_size + 1) 0) 52) && names_slot n (get_or log (j * move_size + 2) 0) ≡ true
  slots_named = (and_parts _ _ (and_parts _ _ (and_parts _ _ (and_parts _ _ (and_parts _ _ valid).0).0).0).0).0

  changed_slot : names_slot n (get_or log (j * move_size) 0) ≡ true
  changed_slot = (and_parts _ _ (and_parts _ _ slots_named).0).0

  pub move_inside : (move_at log j).changed < n
  move_inside = ltb-true (get_or log (j * move_size) 0 - 97) n (and_parts (leb 97 (get_or log (j * move_size) 0)) _ changed_slot).1

  pub changed-named : 97 ≤ get_or log (j * move_size) 0
  changed-named = leb-true 97 (get_or log (j * move_size) 0) (and_parts (leb 97 (get_or log (j * move_size) 0)) _ changed_slot).0

  pub digit_named : 49 ≤ get_or log (j * move_size + 1) 0
  digit_named = leb-true 49 (get_or log (j * move_size + 1) 0) (and_parts _ _ (and_parts _ _ (and_parts _ _ slots_named).0).1).0

  pub other-named : 97 ≤ get_or log (j * move_size + 2) 0
  other-named = leb-true 97 (get_or log (j * move_size + 2) 0) (and_parts _ _ (and_parts _ _ slots_named).1).0

-- and is read in its place
pub passed_read : (n : ℕ) (log : List ℕ) (j : ℕ) (parts : List (List ℕ)) (d : List ℕ) → log_rules n log ≡ Ok tt
    → parts ≡ first_chunks move_size (length log / move_size) log → j < length log / move_size → read_move n (get_or parts j d) ≡ Some (logged_at log j)
passed_read n log j parts d fine cut inside =
    read_at log j n parts d cut inside ∙ ap (λ (b : Bool). cond b (Some (logged_at log j)) None) (passed_move n log fine j inside)
