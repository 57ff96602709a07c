-- The log of a list of logged moves: read back, it tells of each what was written, and it passes the tests where the moves lie between slots
-- of the system and the lengths have two digits.
use Prim.Native.Nat.{◌%◌, ◌*◌, ◌+◌, ◌-◌, ◌/◌, ◌<◌, suc, zero, ℕ}
use mathlib.Core.Bool.{◌&&◌, true}
use mathlib.Core.List.{List, [], ◌++◌, ◌∷◌, append_assoc}
use mathlib.Core.Path.{◌∙◌, ◌≡◌, ap, refl, sym}
use native.Mathlib.Nat.{add-sub_cancel_left, add-zero}
use native.Mathlib.Omega.{arith}
use lib.Dec.{leb}
use lib.ListN.{drop, get_or, length, length-append}
use lib.Seq.{drop_at, drop-cons, drop-drop, drop-nil, get_or-drop}
use borrow.Author.Tests.{le-leb, lt-ltb, ne_eqb}
use Rattle.systems.specs.declared.Form.{Form}
use Rattle.systems.specs.declared.Rule.{Rule}
use Rattle.systems.specs.declared.Rule.TheVariants.{HalfEnd, Shortening}
use Rattle.moves.specs.declared.log.Logged.{Logged}
use Rattle.moves.specs.Found.{Between}
use Rattle.std.specs.Char.{is_ascii_digit}
use Rattle.systems.specs.declared.Form.TheVariants.{After, Before, InverseAfter, InverseBefore}
use Rattle.systems.specs.Moves.{form_digit}
use Rattle.systems.specs.Rules.{form_at, rule_letter}
use Rattle.records.specs.Refusals.{each_below}
use Rattle.records.proofs.Chains.{each_passes, must_pass}
use Rattle.moves.specs.Logs.{is_move, is_rule, log_of, log_record, log_rules, logged_at, move_rule, move_size, named_rule, names_slot, number_in}
use Rattle.moves.proofs.Logging.{log_even}
use Rattle.records.specs.declared.refusals.Reason.TheVariants.{LogRecordMalformed}
use Rattle.std.specs.Prelude.{Ok}

-- the log of a list of moves, in parts
pub log_of-append : (ls ks : List Logged) → log_of (ls ++ ks) ≡ log_of ls ++ log_of ks
log_of-append [] ks = refl
log_of-append (l ∷ ls) ks = ap (λ (rest : List ℕ). log_record l ++ rest) (log_of-append ls ks) ∙ sym (append_assoc (log_record l) (log_of ls) (log_of ks))

pub log_of_last : (ls : List Logged) (l : Logged) → log_of (ls ++ (l ∷ [])) ≡ log_of ls ++ log_record l
log_of_last ls l = log_of-append ls (l ∷ [])

record-size : (l : Logged) → length (log_record l) ≡ move_size
record-size l = refl

pub log_of-length : (ls : List Logged) → length (log_of ls) ≡ length ls * move_size
log_of-length [] = refl
log_of-length (l ∷ ls) = omega (arith, length-append (log_record l) (log_of ls), record-size l, log_of-length ls)

pub log_of-count : (ls : List Logged) → length (log_of ls) / move_size ≡ length ls
log_of-count ls = omega (arith, log_of-length ls)

log_of-drop : (j : ℕ) (ls : List Logged) → drop (j * move_size) (log_of ls) ≡ log_of (drop j ls)
log_of-drop zero ls = refl
log_of-drop (suc j) [] = drop-nil (suc j * move_size)
log_of-drop (suc j) (l ∷ ls) =
    let place : suc j * move_size ≡ move_size + j * move_size = omega arith in
    ap (λ (k : ℕ). drop k (log_record l ++ log_of ls)) place ∙ sym (drop-drop (j * move_size) move_size (log_record l ++ log_of ls))
    ∙ ap (drop (j * move_size)) (drop_at (log_record l) (log_of ls) move_size (record-size l)) ∙ log_of-drop j ls

-- a log record seen from its own place
logged_at_here : (log : List ℕ) (j : ℕ) → logged_at log j ≡ logged_at (drop (j * move_size) log) 0
logged_at_here log j = simp (get_or-drop, add-zero)

is_move_here : (n : ℕ) (log : List ℕ) (j : ℕ) → is_move n log j ≡ is_move n (drop (j * move_size) log) 0
is_move_here n log j = simp (get_or-drop, add-zero)

-- what can be logged: a move between two different slots of the first n, with a length of two digits
abbrev pub Loggable : ℕ → Logged → Type 0
Loggable n l = Between n l.made × (l.new_length < 100)

abbrev pub AllLoggable : ℕ → List Logged → Type 0
AllLoggable n [] = Unit
AllLoggable n (l ∷ ls) = Loggable n l × AllLoggable n ls

-- what is written as a log record is read back, and passes the tests
form_back : (f : Form) → form_at (form_digit f - 49) ≡ f
form_back Before = refl
form_back InverseBefore = refl
form_back After = refl
form_back InverseAfter = refl

digit_back : (f : Form) → leb 49 (form_digit f) && leb (form_digit f) 52 ≡ true
digit_back Before = refl
digit_back InverseBefore = refl
digit_back After = refl
digit_back InverseAfter = refl

rule_back : (r : Rule) → (named_rule (rule_letter r) ≡ r) × (is_rule (rule_letter r) ≡ true)
rule_back Shortening = (refl, refl)
rule_back HalfEnd = (refl, refl)

length_back : (n : ℕ) → number_in (48 + n / 10) (48 + n % 10) ≡ n
length_back n = omega arith

is_digit_back : (d : ℕ) → d < 10 → is_ascii_digit (48 + d) ≡ true
is_digit_back d h = rw (le-leb 48 (48 + d) (omega arith), le-leb (48 + d) 57 (omega arith))

slot_back : (n k : ℕ) → k < n → names_slot n (97 + k) ≡ true
slot_back n k h = rw (le-leb 97 (97 + k) (omega arith), lt-ltb (97 + k - 97) n (omega arith))

record_back : (l : Logged) (rest : List ℕ) → logged_at (log_record l ++ rest) 0 ≡ l
record_back l rest =
    rw (
      add-sub_cancel_left 97 l.made.changed,
      add-sub_cancel_left 97 l.made.other,
      form_back l.made.form,
      (rule_back l.rule).0,
      length_back l.new_length,
    )

record_valid : (n : ℕ) (l : Logged) (rest : List ℕ) → Loggable n l → is_move n (log_record l ++ rest) 0 ≡ true
record_valid n l rest h =
    rw (
      slot_back n l.made.changed h.0.0,
      digit_back l.made.form,
      slot_back n l.made.other h.0.1,
      (rule_back l.rule).1,
      is_digit_back (l.new_length / 10) (omega (arith, h.1)),
      is_digit_back (l.new_length % 10) (omega arith),
      ne_eqb (97 + l.made.changed) (97 + l.made.other) (λ e. h.0.2 (omega arith)),
    )

-- each record of the log of a list
module _ (ls : List Logged) (j : ℕ) (inside : j < length ls) (d : Logged) where
  rest_of_log : drop (j * move_size) (log_of ls) ≡ log_record (get_or ls j d) ++ log_of (drop (suc j) ls)
  rest_of_log = log_of-drop j ls ∙ ap log_of (drop-cons ls j d inside)

  pub log_of_at : logged_at (log_of ls) j ≡ get_or ls j d
  log_of_at = logged_at_here (log_of ls) j ∙ ap (λ (l : List ℕ). logged_at l 0) rest_of_log ∙ record_back (get_or ls j d) (log_of (drop (suc j) ls))

  log_of_valid : (n : ℕ) → Loggable n (get_or ls j d) → is_move n (log_of ls) j ≡ true
  log_of_valid n h = is_move_here n (log_of ls) j ∙ ap (λ (l : List ℕ). is_move n l 0) rest_of_log ∙ record_valid n (get_or ls j d) (log_of (drop (suc j) ls)) h

all_at : (n : ℕ) (ls : List Logged) (j : ℕ) (d : Logged) → AllLoggable n ls → j < length ls → Loggable n (get_or ls j d)
all_at n [] j d all h = absurd (omega arith)
all_at n (l ∷ ls) zero d all h = all.0
all_at n (l ∷ ls) (suc j) d all h = all_at n ls j d all.1 (omega arith)

-- the log of moves between the first n slots, with lengths of two digits, passes the tests over n slots
pub log_of_passes : (n : ℕ) (ls : List Logged) → AllLoggable n ls → log_rules n (log_of ls) ≡ Ok tt
unfolding move_rule
log_of_passes n ls all =
    let d : Logged = logged_at [] 0 in
    let even : length (log_of ls) % move_size ≡ 0 = omega (arith, log_of-length ls) in
    let each : each_below (move_rule n (log_of ls)) (length (log_of ls) / move_size) ≡ (Ok tt) =
    each_passes (move_rule n (log_of ls)) (length (log_of ls) / move_size)
    (λ j h.
    let inside : j < length ls = omega (arith, log_of-count ls) in
    must_pass _ LogRecordMalformed (j * move_size) (log_of_valid ls j inside d n (all_at n ls j d all inside))) in
    log_even n (log_of ls) even each
