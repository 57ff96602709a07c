-- A word of letters, written as a record and read back. The word of a record that passes its tests is made of letters alone, free reduction
-- and inverses keep that, and a word of at most 63 letters comes back from its record.
use Prim.Native.Nat.{◌%◌, ◌+◌, ◌-◌, ◌<◌, ◌≤◌, suc, zero, ℕ}
use mathlib.Core.Bool.{Bool, false, not, true, true≢false}
use mathlib.Core.List.{List, [], ◌++◌, ◌∷◌, append_assoc}
use mathlib.Core.Path.{◌∙◌, ◌≡◌, ap, ap₂, refl, sym}
use native.Mathlib.Decide.{dec_lt}
use native.Mathlib.Omega.{arith}
use lib.ListN.{get_or, length, length-append, length-replicate, length-take, take}
use lib.Seq.{get_or_at, take_at}
use Rattle.std.proofs.Common.{length-take-le, take_all}
use Rattle.std.proofs.lemmas.List.{take_more}
use lib.Dec.{eqb}
use borrow.Author.Tests.{eqb-true, eq-eqb, lt-ltb, ltb-true, ne_eqb}
use Rattle.words.specs.Alphabet.{bytes, flip_byte}
use Rattle.words.specs.Words.{freely_reduce, inverse}
use Rattle.words.proofs.Alphabet.{byte_laws, flip_down, flip_up}
use Rattle.words.proofs.Mapping.{each_append, each_freely_reduce, each_inverse}
use Rattle.records.specs.Records.{AllLetters, before_stop, blanks, is_letter, is_letter_or_stop, is_stop, not_letter, record_of, word_of}
use Rattle.records.specs.Refusals.{Checked, as_six, each_byte, byte_rule, end_rule, letters_rule, must, order_rule, record_rules, target_rules}
use Rattle.records.proofs.ByNumber.{fine_never}
use Rattle.records.proofs.Chains.{fine_first, fine_next, must_fine}
use Rattle.records.proofs.Rules.{letter_above, letter-below, letter_between, letter_left, letter_passed}
use Rattle.records.specs.declared.refusals.Reason.TheVariants.{LetterAfterStop, NeitherLetterNorStop, NoLineFeed, TargetOrProductMalformed}
use Rattle.std.specs.Prelude.{Err, Ok}

-- where a letter stands among the bytes
pub letter_low : (b : ℕ) → is_letter b ≡ true → 65 ≤ b
letter_low b e = elim (dec_lt b 65) [
  | yes h ↦ absurd (true≢false (sym e ∙ sym (letter-below b h)))
  | no n ↦ omega arith
]

pub letter_high : (b : ℕ) → is_letter b ≡ true → b ≤ 122
letter_high b e = elim (dec_lt 122 b) [
  | yes h ↦ absurd (true≢false (sym e ∙ sym (letter_above b h)))
  | no n ↦ omega arith
]

pub letter-place : (b : ℕ) → is_letter b ≡ true → (b - 65) % 32 < 26
letter-place b e = ltb-true ((b - 65) % 32) 26 (letter_between b (letter_low b e) (letter_high b e) ∙ e)

pub place-letter : (b : ℕ) → 65 ≤ b → b ≤ 122 → (b - 65) % 32 < 26 → is_letter b ≡ true
place-letter b l h p = sym (letter_between b l h) ∙ lt-ltb ((b - 65) % 32) 26 p

-- the inverse of a letter is a letter
pub letter-flip : (b : ℕ) → is_letter b ≡ true → is_letter (flip_byte b) ≡ true
letter-flip b e =
    let low : 65 ≤ b = letter_low b e in
    let high : b ≤ 122 = letter_high b e in
    let place : (b - 65) % 32 < 26 = letter-place b e in
    elim (dec_lt (b % 64) 32) [
      | yes h ↦ rw (flip_up b h) (place-letter (b + 32) (omega arith) (omega arith) (omega arith))
      | no n ↦ rw (flip_down b (omega arith)) (place-letter (b - 32) (omega arith) (omega arith) (omega arith))
    ]

pub letter_unstopped : (b : ℕ) → is_letter b ≡ true → is_stop b ≡ false
letter_unstopped b e = ne_eqb b 46 (λ h. true≢false (sym e ∙ ap is_letter h))

-- products, free reduction and inverses of words of letters
pub letters_append : (u v : List ℕ) → AllLetters u → AllLetters v → AllLetters (u ++ v)
letters_append u v a b = each_append (λ x. is_letter x ≡ true) u v a b

pub letters_reduce : (w : List ℕ) → AllLetters w → AllLetters (freely_reduce bytes w)
letters_reduce w a = each_freely_reduce bytes byte_laws (λ x. is_letter x ≡ true) w a

pub letters_inverse : (w : List ℕ) → AllLetters w → AllLetters (inverse bytes w)
letters_inverse w a = each_inverse bytes byte_laws (λ x. is_letter x ≡ true) letter-flip w a

-- a word read from a record has at most 63 letters
before-length : (r : List ℕ) → length (before_stop r) ≤ length r
before-length [] = omega arith
before-length (b ∷ r) = go (is_stop b) refl (before-length r)
  where
    go : (t : Bool) → is_stop b ≡ t → length (before_stop r) ≤ length r → length (before_stop (b ∷ r)) ≤ suc (length r)
    go true e h = rw e (omega arith)
    go false e h = rw e (omega arith)

pub word-short : (r : List ℕ) → length (word_of r) ≤ 63
word-short r = omega (arith, before-length (take 63 r), length-take 63 r)

before_letters : (r : List ℕ) (at : ℕ) → byte_rule r at ≡ Ok tt → AllLetters (before_stop r)
before_letters [] at e = tt
before_letters (b ∷ r) at e =
    go (is_stop b) refl (before_letters r (at + 1) (fine_next (must (is_letter_or_stop b) NeitherLetterNorStop at) (byte_rule r (at + 1)) e))
  where
    first : is_letter_or_stop b ≡ true
    first = must_fine (is_letter_or_stop b) NeitherLetterNorStop at (fine_first (must (is_letter_or_stop b) NeitherLetterNorStop at) (byte_rule r (at + 1)) e)

    go : (t : Bool) → is_stop b ≡ t → AllLetters (before_stop r) → AllLetters (before_stop (b ∷ r))
    go true h rest = rw h tt
    go false h rest = rw h (letter_left b first h, rest)

-- the word of a record that passes its tests is made of letters alone
pub record_letters : (r : List ℕ) (at : ℕ) → record_rules r at ≡ Ok tt → AllLetters (word_of r)
unfolding record_rules letters_rule
record_letters r at e =
    before_letters (take 63 r) at (fine_first (byte_rule (take 63 r) at) (order_rule (take 63 r) at) (fine_next (end_rule r at) _ e))

-- so is the word of a target that passes refusal 6
six_fine : (c : Checked) → as_six c ≡ Ok tt → c ≡ Ok tt
six_fine (Ok _) e = refl
six_fine (Err f) e = absurd (fine_never TargetOrProductMalformed f.place (sym e))

pub target_letters : (r : List ℕ) → target_rules r ≡ Ok tt → AllLetters (word_of r)
unfolding target_rules
target_letters r e =
    record_letters r 0
    (six_fine (record_rules r 0) (fine_next (must (eqb (length r) 64) TargetOrProductMalformed 0) (as_six (record_rules r 0)) e))

-- a word of letters before full stops
before-blanks : (n : ℕ) → before_stop (blanks n) ≡ []
before-blanks zero = refl
before-blanks (suc n) = refl

before_back : (w : List ℕ) (n : ℕ) → AllLetters w → before_stop (w ++ blanks n) ≡ w
before_back [] n a = before-blanks n
before_back (b ∷ w) n a = rw (letter_unstopped b a.0, before_back w n a.1)

stops_passed : (n at : ℕ) → letters_rule (blanks n) at ≡ Ok tt
unfolding letters_rule
stops_passed zero at = refl
stops_passed (suc n) at = go n at
  where
    go : (n at : ℕ) → letters_rule (blanks (suc n)) at ≡ Ok tt
    go zero at = refl
    go (suc n) at = go n (at + 1)

word_passed : (w : List ℕ) (n at : ℕ) → AllLetters w → letters_rule (w ++ blanks n) at ≡ Ok tt
word_passed [] n at a = stops_passed n at
word_passed (b ∷ w) n at a = letter_passed b (w ++ blanks n) at a.0 ∙ word_passed w n (at + 1) a.1

-- one word, written as a record and read back
module _ (w : List ℕ) (short : length w ≤ 63) where
  filled_length : length (w ++ blanks (63 - length w)) ≡ 63
  filled_length = length-append w _ ∙ ap (λ (k : ℕ). length w + k) (length-replicate (63 - length w) 46) ∙ omega arith

  record_filled : take 63 (record_of w) ≡ w ++ blanks (63 - length w)
  record_filled = ap (take 63) (sym (append_assoc w _ _)) ∙ take_at (w ++ blanks (63 - length w)) (10 ∷ []) 63 filled_length

  record_feed : get_or (record_of w) 63 0 ≡ 10
  record_feed = ap (λ (r : List ℕ). get_or r 63 0) (sym (append_assoc w _ _)) ∙ get_or_at (w ++ blanks (63 - length w)) 10 [] 0 63 filled_length

  pub word_back : AllLetters w → word_of (record_of w) ≡ w
  word_back a = ap before_stop record_filled ∙ before_back w (63 - length w) a

  pub record_passes : (at : ℕ) → AllLetters w → record_rules (record_of w) at ≡ Ok tt
  unfolding record_rules
  record_passes at a = rw (eq-eqb _ _ record_feed, record_filled) (word_passed w (63 - length w) at a)

-- bytes without letters that pass rule 4 are full stops
stops_left : (r : List ℕ) (at : ℕ) → byte_rule r at ≡ Ok tt → each_byte not_letter LetterAfterStop r at ≡ Ok tt → blanks (length r) ≡ r
stops_left [] at e h = refl
stops_left (b ∷ r) at e h = ap₂ (λ (x : ℕ) (l : List ℕ). x ∷ l) (sym (go (is_stop b) refl)) (stops_left r (at + 1) (fine_next (must (is_letter_or_stop b) NeitherLetterNorStop at) _ e) (fine_next (must (not_letter b) LetterAfterStop at) _ h))
  where
    known : is_letter_or_stop b ≡ true
    known = must_fine (is_letter_or_stop b) NeitherLetterNorStop at (fine_first (must (is_letter_or_stop b) NeitherLetterNorStop at) (byte_rule r (at + 1)) e)

    other : not_letter b ≡ true
    other = must_fine (not_letter b) LetterAfterStop at (fine_first (must (not_letter b) LetterAfterStop at) (each_byte not_letter LetterAfterStop r (at + 1)) h)

    go : (t : Bool) → is_stop b ≡ t → b ≡ 46
    go true s = eqb-true b 46 s
    go false s = absurd (true≢false (sym other ∙ ap not (letter_left b known s)))

-- bytes that pass the tests of a record are those of its word
letters_stopped : (r : List ℕ) (at : ℕ) → letters_rule r at ≡ Ok tt → before_stop r ++ blanks (length r - length (before_stop r)) ≡ r
unfolding letters_rule
letters_stopped [] at e = refl
letters_stopped (b ∷ r) at e = go (is_stop b) refl (λ h. letters_stopped r (at + 1) h)
  where
    bytes_fine : byte_rule (b ∷ r) at ≡ Ok tt
    bytes_fine = fine_first (byte_rule (b ∷ r) at) (order_rule (b ∷ r) at) e

    order_fine : order_rule (b ∷ r) at ≡ Ok tt
    order_fine = fine_next (byte_rule (b ∷ r) at) (order_rule (b ∷ r) at) e

    first : is_letter_or_stop b ≡ true
    first = must_fine (is_letter_or_stop b) NeitherLetterNorStop at (fine_first (must (is_letter_or_stop b) NeitherLetterNorStop at) (byte_rule r (at + 1)) bytes_fine)

    go : (t : Bool) → is_stop b ≡ t → (letters_rule r (at + 1) ≡ Ok tt → before_stop r ++ blanks (length r - length (before_stop r)) ≡ r)
        → before_stop (b ∷ r) ++ blanks (length (b ∷ r) - length (before_stop (b ∷ r))) ≡ b ∷ r
    go true h rest =
        let all : suc (length r) - 0 ≡ suc (length r) = omega arith in
        let others : each_byte not_letter LetterAfterStop r (at + 1) ≡ Ok tt = rw h at order_fine in
        rw h
        (ap blanks all
        ∙ ap₂ (λ (x : ℕ) (l : List ℕ). x ∷ l) (sym (eqb-true b 46 h))
        (stops_left r (at + 1) (fine_next (must (is_letter_or_stop b) NeitherLetterNorStop at) (byte_rule r (at + 1)) bytes_fine) others))
    go false h rest =
        let left : suc (length r) - suc (length (before_stop r)) ≡ length r - length (before_stop r) = omega arith in
        rw h
        (ap (λ (n : ℕ). b ∷ (before_stop r ++ blanks n)) left
        ∙ ap (λ (l : List ℕ). b ∷ l) (rest (sym (letter_passed b r at (letter_left b first h)) ∙ e)))

pub record_same : (r : List ℕ) (at : ℕ) → length r ≡ 64 → record_rules r at ≡ Ok tt → record_of (word_of r) ≡ r
unfolding record_rules
record_same r at sized e =
    let ended : get_or r 63 0 ≡ 10 = eqb-true _ _ (must_fine (eqb (get_or r 63 0) 10) NoLineFeed (at + 63) (fine_first (end_rule r at) _ e)) in
    let long : length (take 63 r) ≡ 63 = length-take-le 63 r (omega arith) in
    let front : before_stop (take 63 r) ++ blanks (63 - length (word_of r)) ≡ take 63 r =
    ap (λ (n : ℕ). before_stop (take 63 r) ++ blanks (n - length (word_of r))) (sym long) ∙ letters_stopped (take 63 r) at (fine_next (end_rule r at) _ e) in
    sym (append_assoc (word_of r) _ _) ∙ ap₂ (λ (l : List ℕ) (b : ℕ). l ++ (b ∷ [])) front (sym ended) ∙ sym (take_more r 63 0 (omega arith))
    ∙ take_all 64 r (omega arith)
