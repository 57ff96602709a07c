-- The tests of a record on lists of bytes, by searches for the first byte that breaks an order; and the word in a record.
use Prim.Native.Nat.{◌%◌, ◌+◌, ◌-◌, ◌<◌, ◌≤◌, suc, ℕ}
use mathlib.Core.Bool.{Bool, false, not, true, true≢false}
use mathlib.Core.List.{List, [], ◌∷◌}
use mathlib.Core.Path.{◌∙◌, ◌≡◌, ap, ap₂, refl, sym}
use native.Mathlib.Decide.{dec_lt, ℕ_discrete}
use native.Mathlib.Nat.{add_assoc, add-zero}
use native.Mathlib.Omega.{arith}
use Rattle.std.proofs.lemmas.Grind.{common_steps}
use Rattle.std.proofs.Common.{take_all}
use Rattle.std.proofs.lemmas.Iterator.Adapters.{position_from-zero}
use lib.Dec.{ltb}
use lib.ListN.{drop, get_or, length, take}
use lib.Seq.{drop-drop}
use borrow.Author.Tests.{eqb-true, le-leb, le-ltb, lt-leb, lt-ltb, ne_eqb}
use Rattle.records.specs.Records.{before_stop, is_letter, is_letter_or_stop, is_stop, not_letter, word_of}
use Rattle.records.specs.Refusals.{◌and_then◌, byte_rule, each_byte, letters_rule, must, refusal}
use Rattle.records.specs.Stops.{stops_rule}
use Rattle.records.proofs.Chains.{fine_first, must_fine, then_failed, then_fine}
use Rattle.records.specs.declared.refusals.Reason.TheVariants.{LetterAfterStop, NeitherLetterNorStop}
use Rattle.std.specs.Prelude.{None, Ok, Option, Some}
use Rattle.std.specs.List.{position, position_from, position_or_len}
use Rattle.records.specs.Refusals.{Checked}
use Rattle.records.specs.declared.refusals.Reason.{Reason}

-- a byte is a letter or not, by where it stands
module _ (b : ℕ) where
  pub letter-below : b < 65 → false ≡ is_letter b
  letter-below h = rw (lt-leb 65 b h, lt-leb 97 b (omega arith))

  pub letter_above : 122 < b → false ≡ is_letter b
  letter_above h = rw (le-leb 65 b (omega arith), lt-leb b 90 (omega arith), le-leb 97 b (omega arith), lt-leb b 122 h)

  -- a capital and its small letter stand 32 apart
  pub letter_between : 65 ≤ b → b ≤ 122 → ltb ((b - 65) % 32) 26 ≡ is_letter b
  letter_between l h = go (dec_lt 90 b) (dec_lt b 97)
    where
      go : Dec (90 < b) → Dec (b < 97) → ltb ((b - 65) % 32) 26 ≡ is_letter b
      go (no m) q = rw (le-leb 65 b l, le-leb b 90 (omega arith), lt-ltb ((b - 65) % 32) 26 (omega arith))
      go (yes m) (yes q) = rw (le-leb 65 b l, lt-leb b 90 m, lt-leb 97 b q, le-ltb ((b - 65) % 32) 26 (omega arith))
      go (yes m) (no q) = rw (le-leb 65 b l, lt-leb b 90 m, le-leb 97 b (omega arith), le-leb b 122 h, lt-ltb ((b - 65) % 32) 26 (omega arith))

  -- a byte that passes rule 4 and is no full stop is a letter
  pub letter_left : is_letter_or_stop b ≡ true → is_stop b ≡ false → is_letter b ≡ true
  letter_left e h = go (is_letter b) refl
    where
      go : (t : Bool) → is_letter b ≡ t → is_letter b ≡ true
      go true p = p
      go false p = absurd (true≢false (sym e ∙ rw (p, h)))

-- one more byte of a list, at the place after it
next_place : (at i : ℕ) → at + i + 1 ≡ at + (i + 1)
next_place at i = add_assoc at i 1

-- a letter decides neither rule
pub letter_passed : (b : ℕ) (r : List ℕ) (at : ℕ) → is_letter b ≡ true → letters_rule (b ∷ r) at ≡ letters_rule r (at + 1)
unfolding letters_rule
letter_passed b r at e = rw (e, ne_eqb b 46 (λ h. true≢false (sym e ∙ ap is_letter h)))

-- where no letter begins them, the bytes are judged as after the letters
no_letter : (r : List ℕ) (at : ℕ) → is_letter (get_or r 0 0) ≡ false → stops_rule r at ≡ letters_rule r at
unfolding letters_rule stops_rule
no_letter [] at e = refl
no_letter (b ∷ r) at e = elim (ℕ_discrete b 46) [ yes s ↦ rw s | no n ↦ rw (e, ne_eqb b 46 n) ]

-- a test on each byte fails at the first byte that breaks it
each_from : (test : ℕ → Bool) (why : Reason) (at i : ℕ) (r : List ℕ)
    → each_byte test why r (at + i) ≡ elim (position_from (λ b. not (test b)) i r) [ None ↦ Ok tt | Some k ↦ refusal why (at + k) ]
each_from test why at i [] = refl
each_from test why at i (b ∷ r) = go (test b) refl (each_from test why at (i + 1) r)
  where
    go : (t : Bool) → test b ≡ t
        → each_byte test why r (at + (i + 1)) ≡ elim (position_from (λ b. not (test b)) (i + 1) r) [ None ↦ Ok tt | Some k ↦ refusal why (at + k) ]
        → each_byte test why (b ∷ r) (at + i) ≡ elim (position_from (λ b. not (test b)) i (b ∷ r)) [ None ↦ Ok tt | Some k ↦ refusal why (at + k) ]
    go true e rest = rw (e, next_place) rest
    go false e rest = rw e refl

-- what is judged of bytes that begin with one that is no full stop: 4 at the first that is neither a letter nor a full stop, or else 5
abbrev late_rule : List ℕ → ℕ → Checked
late_rule r at =
    elim (position_from (λ b. not (is_letter_or_stop b)) 0 r) [ None ↦ refusal LetterAfterStop at | Some k ↦ refusal NeitherLetterNorStop (at + k) ]

late_told : (b : ℕ) (r : List ℕ) (at : ℕ) → is_stop b ≡ false → stops_rule (b ∷ r) at ≡ late_rule (b ∷ r) at
unfolding stops_rule
late_told b r at e = go (position_from (λ b. not (is_letter_or_stop b)) 0 (b ∷ r)) (rw (← add-zero at) (each_from is_letter_or_stop NeitherLetterNorStop at 0 (b ∷ r)))
  where
    go : (o : Option ℕ) → byte_rule (b ∷ r) at ≡ elim o [ None ↦ Ok tt | Some k ↦ refusal NeitherLetterNorStop (at + k) ]
        → byte_rule (b ∷ r) at and_then each_byte not_letter LetterAfterStop (b ∷ r) at
        ≡ elim o [ None ↦ refusal LetterAfterStop at | Some k ↦ refusal NeitherLetterNorStop (at + k) ]
    go None h =
        let good : is_letter_or_stop b ≡ true = must_fine (is_letter_or_stop b) NeitherLetterNorStop at (fine_first (must (is_letter_or_stop b) NeitherLetterNorStop at) _ h) in
        sym (then_fine _ _ refl h (rw (letter_left b good e)))
    go (Some k) h = sym (then_failed _ _ refl h) ∙ h

-- a search that is at place i of a list s, where the bytes r are left
module _ (s : List ℕ) (at : ℕ) where
  one_on : (i b : ℕ) (r : List ℕ) → b ∷ r ≡ drop i s → r ≡ drop (i + 1) s
  one_on i b r left = ap (drop 1) left ∙ drop-drop 1 i s

  -- what is judged from the first byte on that passes a test, or nothing where none does
  abbrev FromFirst : (ℕ → Bool) → (List ℕ → ℕ → Checked) → ℕ → List ℕ → Checked → Type 0
  FromFirst test rule i r x = x ≡ elim (position_from test i r) [ None ↦ Ok tt | Some k ↦ rule (drop k s) (at + k) ]

  -- after the letters
  letters_from : (i : ℕ) (r : List ℕ) → r ≡ drop i s → FromFirst not_letter stops_rule i r (letters_rule r (at + i))
  unfolding letters_rule
  letters_from i [] left = refl
  letters_from i (b ∷ r) left = go (is_letter b) refl (letters_from (i + 1) r (one_on i b r left))
    where
      go : (t : Bool) → is_letter b ≡ t → FromFirst not_letter stops_rule (i + 1) r (letters_rule r (at + (i + 1)))
          → FromFirst not_letter stops_rule i (b ∷ r) (letters_rule (b ∷ r) (at + i))
      go true e rest = letter_passed b r (at + i) e ∙ ap (letters_rule r) (next_place at i) ∙ rw e rest
      go false e rest = sym (no_letter (b ∷ r) (at + i) e) ∙ ap (λ (l : List ℕ). stops_rule l (at + i)) left ∙ rw e refl

  -- after the full stops
  stops_from : (i : ℕ) (r : List ℕ) → r ≡ drop i s → FromFirst (λ b. not (is_stop b)) late_rule i r (stops_rule r (at + i))
  unfolding stops_rule
  stops_from i [] left = refl
  stops_from i (b ∷ r) left = go (is_stop b) refl (stops_from (i + 1) r (one_on i b r left))
    where
      go : (t : Bool) → is_stop b ≡ t → FromFirst (λ b. not (is_stop b)) late_rule (i + 1) r (stops_rule r (at + (i + 1)))
          → FromFirst (λ b. not (is_stop b)) late_rule i (b ∷ r) (stops_rule (b ∷ r) (at + i))
      go true e rest = rw (eqb-true b 46 e) (ap (stops_rule r) (next_place at i) ∙ rest)
      go false e rest = late_told b r (at + i) e ∙ ap (λ (l : List ℕ). late_rule l (at + i)) left ∙ rw e refl

-- a record's bytes, judged by three searches: for the first that is no letter, from there on for the first that is no full stop, and from
-- there on for the first that is neither
module _ (s : List ℕ) (at : ℕ) {o : Option ℕ} (letters : o ≡ position not_letter s) where
  from_letters : FromFirst s at not_letter stops_rule 0 s (letters_rule s at)
  from_letters = rw (← add-zero at) (letters_from s at 0 s refl)

  pub only_letters : o ≡ None → Ok tt ≡ letters_rule s at
  only_letters none = sym (from_letters ∙ rw (← position_from-zero not_letter s, ← letters, none) refl)

  module _ {l : ℕ} (some : o ≡ Some l) {p : Option ℕ} (stops : p ≡ position (λ b. not (is_stop b)) (drop l s)) where
    from_stops : FromFirst (drop l s) (at + l) (λ b. not (is_stop b)) late_rule 0 (drop l s) (letters_rule s at)
    from_stops = from_letters ∙ rw (← position_from-zero not_letter s, ← letters, some) (rw (← add-zero (at + l)) (stops_from (drop l s) (at + l) 0 (drop l s) refl))

    pub only_stops : p ≡ None → Ok tt ≡ letters_rule s at
    only_stops none = sym (from_stops ∙ rw (← position_from-zero (λ b. not (is_stop b)) (drop l s), ← stops, none) refl)

    module _ {k : ℕ} (late : p ≡ Some k) {q : Option ℕ} (unknown : q ≡ position (λ b. not (is_letter_or_stop b)) (drop (l + k) s)) where
      from_late : late_rule (drop (l + k) s) (at + (l + k)) ≡ letters_rule s at
      from_late = sym (from_stops ∙ rw (← position_from-zero (λ b. not (is_stop b)) (drop l s), ← stops, late) (ap₂ late_rule (drop-drop k l s) (add_assoc at l k)))

      from_last : letters_rule s at ≡ elim q [ None ↦ refusal LetterAfterStop (at + (l + k)) | Some m ↦ refusal NeitherLetterNorStop (at + (l + k) + m) ]
      from_last =
          sym from_late
          ∙ ap (λ (o : Option ℕ). elim o [ None ↦ refusal LetterAfterStop (at + (l + k)) | Some m ↦ refusal NeitherLetterNorStop (at + (l + k) + m) ])
          (sym (unknown ∙ position_from-zero (λ b. not (is_letter_or_stop b)) (drop (l + k) s)))

      pub letter_late : {x : Checked} → q ≡ None → x ≡ refusal LetterAfterStop (at + (l + k)) → x ≡ letters_rule s at
      letter_late none e = e ∙ sym (from_last ∙ rw none refl)

      pub unknown_late : {x : Checked} {m : ℕ} → q ≡ Some m → x ≡ refusal NeitherLetterNorStop (at + (l + k) + m) → x ≡ letters_rule s at
      unknown_late there e = e ∙ sym (from_last ∙ rw there refl)

-- the letters before the first full stop
stop_at : (w : List ℕ) → take (position_or_len is_stop w) w ≡ before_stop w
stop_at [] = refl
stop_at (b ∷ w) = go (is_stop b) refl (stop_at w)
  where
    go : (t : Bool) → is_stop b ≡ t → take (position_or_len is_stop w) w ≡ before_stop w → take (position_or_len is_stop (b ∷ w)) (b ∷ w) ≡ before_stop (b ∷ w)
    go true e rest = rw e refl
    go false e rest =
        let step : 1 + position_or_len is_stop w ≡ suc (position_or_len is_stop w) = omega arith in
        rw e (ap (λ (n : ℕ). take n (b ∷ w)) step ∙ ap (λ (l : List ℕ). b ∷ l) rest)

-- the word in a record, by a search for the first full stop
module _ (r : List ℕ) {o : Option ℕ} (found : o ≡ position is_stop (take 63 r)) where
  pub word_ended : {e : ℕ} → o ≡ Some e → take e (take 63 r) ≡ word_of r
  word_ended {e} there =
      let same : position is_stop (take 63 r) ≡ Some e = sym found ∙ there in
      let at : position_or_len is_stop (take 63 r) ≡ e = grind (arith, common_steps) in
      ap (λ (n : ℕ). take n (take 63 r)) (sym at) ∙ stop_at (take 63 r)

  pub word_whole : o ≡ None → take 63 r ≡ word_of r
  word_whole none =
      let same : position is_stop (take 63 r) ≡ None = sym found ∙ none in
      let all : length (take 63 r) ≤ position_or_len is_stop (take 63 r) = grind (arith, common_steps) in
      sym (take_all (position_or_len is_stop (take 63 r)) (take 63 r) all) ∙ stop_at (take 63 r)
