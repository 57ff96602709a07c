-- The writer's text: it spells a tree without groups and brackets, within all limits, and the word of that tree is the word written.
use Prim.Native.Nat.{◌%◌, ◌*◌, ◌+◌, ◌/◌, ◌<◌, ◌≤◌, suc, zero, ℕ}
use mathlib.Core.Path.{◌∙◌, ◌≡◌, ap, refl, sym}
use mathlib.Core.Logic.{◌⊎◌, inl, inr}
use mathlib.Core.Bool.{Bool, ◌&&◌, cond, false, true}
use mathlib.Core.List.{List, [], ◌++◌, ◌∷◌}
use native.Mathlib.Omega.{arith}
use native.Mathlib.Decide.{dec_lt}
use lib.ListN.{length, length-append}
use lib.Dec.{eqb, leb, ltb}
use borrow.Author.Tests.{eq-eqb, eqb-false, eqb-true, le-leb, le-ltb, leb-true, lt-leb, lt-ltb, ne_eqb}
use Rattle.words.specs.Alphabet.{bytes, flip_byte}
use Rattle.words.specs.Words.{freely_reduce, signed}
use Rattle.words.proofs.Alphabet.{byte_laws, flip_down}
use Rattle.words.proofs.FreeReduction.{length-freely_reduce}
use Rattle.words.proofs.Inverse.{inverse_singleton}
use Rattle.records.specs.Records.{AllLetters, is_letter}
use Rattle.syntax.specs.Trees.{Digits, Power, Product, ProperDigits, ProperPower, Spells, is_digit, letter, nothing, one, plain, raised, spelled, spelled_digits, spelled_minus, spelled_power, two}
use Rattle.syntax.specs.TreeWords.{measured_after, number_of, powered, times, tree_word}
use Rattle.syntax.specs.Within.{NestsWithin, PowerWithin, PowersWithin}
use Rattle.syntax.proofs.Limits.{none-nests, none-powers}
use Rattle.syntax.specs.Meaning.{WithinLimits}
use Rattle.syntax.specs.Rules.{all_short, fits, short}
use Rattle.syntax.specs.WordTexts.{Maximal, Run, RunsOf, add_letter, numeral, run, run_text, runs, runs_text, small_of, text_of, unrolled}
use Rattle.std.proofs.lemmas.Bool.{and_parts, cases_Bool, or_cases}

letter_range : (x : ℕ) → is_letter x ≡ true → ((65 ≤ x) × (x ≤ 90)) ⊎ ((97 ≤ x) × (x ≤ 122))
letter_range x h = elim (or_cases (leb 65 x && leb x 90) (leb 97 x && leb x 122) h) [
  | inl e ↦ inl (leb-true 65 x (and_parts (leb 65 x) (leb x 90) e).0, leb-true x 90 (and_parts (leb 65 x) (leb x 90) e).1)
  | inr e ↦ inr (leb-true 97 x (and_parts (leb 97 x) (leb x 122) e).0, leb-true x 122 (and_parts (leb 97 x) (leb x 122) e).1)
]

small_letter : (y : ℕ) → 97 ≤ y → y ≤ 122 → is_letter y ≡ true
small_letter y a b = rw (le-leb 65 y (omega arith), lt-leb y 90 (omega arith), le-leb 97 y a, le-leb y 122 b)

-- the small letter of a letter is one, and gives the letter back with its sign
small_is_letter : (x : ℕ) → is_letter x ≡ true → is_letter (small_of x) ≡ true
small_is_letter x h = elim (letter_range x h) [
  | inl (a, b) ↦
      let e : small_of x ≡ x + 32 = rw (lt-ltb x 97 (omega arith)) in
      rw e (small_letter (x + 32) (omega arith) (omega arith))
  | inr (a, b) ↦
      let e : small_of x ≡ x = rw (le-ltb x 97 a) in
      rw e h
]

signed_small : (x : ℕ) → is_letter x ≡ true → signed bytes (ltb x 97) (small_of x ∷ []) ≡ x ∷ []
signed_small x h = elim (letter_range x h) [
  | inl (a, b) ↦
      let low : ltb x 97 ≡ true = lt-ltb x 97 (omega arith) in
      let back : flip_byte (x + 32) ≡ x = rw (flip_down (x + 32) (omega arith)) (omega arith) in
      rw (low, inverse_singleton bytes byte_laws (x + 32), back)
  | inr (a, b) ↦
      let high : ltb x 97 ≡ false = le-ltb x 97 a in
      rw high
]

-- the digits of a number
is_digit_lem : (d : ℕ) → d ≤ 9 → is_digit (48 + d) ≡ true
is_digit_lem d h = rw (le-leb 48 (48 + d) (omega arith), le-leb (48 + d) 57 (omega arith))

abbrev digits_for : ℕ → Digits
digits_for n = cond (ltb n 10) (one (48 + n)) (two (48 + n / 10) (48 + n % 10))

-- what is to be known of them
record Numbered (n : ℕ) : Type 0 where
  spelling : spelled_digits (digits_for n) ≡ numeral n
  proper : ProperDigits (digits_for n)
  number : number_of (digits_for n) ≡ n
  size : 2 ≤ n → length (numeral n) + 3 + n % 2 ≤ 2 * n

numbered : (n : ℕ) → n < 100 → Numbered n
numbered n h = elim (dec_lt n 10) [
  | yes l ↦
      let e : ltb n 10 ≡ true = lt-ltb n 10 l in
      record { spelling = rw e; proper = rw e (is_digit_lem n (omega arith)); number = rw e (omega arith); size = λ k. rw e (omega arith) }
  | no l ↦
      let e : ltb n 10 ≡ false = le-ltb n 10 (omega arith) in
      record {
        spelling = rw e;
        proper = rw e (is_digit_lem (n / 10) (omega arith), is_digit_lem (n % 10) (omega arith));
        number = rw e (omega arith);
        size = λ k. rw e (omega arith);
      }
]

times-length : (n x : ℕ) → length (times n (x ∷ [])) ≡ n
times-length zero x = refl
times-length (suc n) x = ap suc (times-length n x)

-- a run as a factor
record Factor (r : Run) : Type 0 where
  base : ℕ
  power : Power
  letters : is_letter base ≡ true
  proper : ProperPower power
  spelling : base ∷ spelled_power power ≡ run_text r
  word : powered power (base ∷ []) ≡ times r.count (r.letter ∷ [])
  size : length (run_text r) + r.count % 2 ≤ 2 * r.count
  within : r.count ≤ 63 → PowerWithin power

factor_of_lem : (r : Run) → is_letter r.letter ≡ true → 1 ≤ r.count → r.count < 100 → Factor r
factor_of_lem r h a b = elim (cases_Bool (eqb r.count 1)) [
  | inl e ↦
      let z : r.count ≡ 1 = eqb-true r.count 1 e in
      record {
        base = r.letter;
        power = plain;
        letters = h;
        proper = tt;
        spelling = rw e;
        word = rw z;
        size = rw e (omega arith);
        within = λ k. tt;
      }
  | inr e ↦
      let z : r.count ≡ 1 → ⊥ = eqb-false r.count 1 e in
      let n = numbered r.count b in
      record {
        base = small_of r.letter;
        power = raised (ltb r.letter 97) (digits_for r.count);
        letters = small_is_letter r.letter h;
        proper = n.proper;
        spelling = rw (e, n.spelling);
        word = rw (n.number, signed_small r.letter h);
        size = rw e (omega (arith, length-append (spelled_minus (ltb r.letter 97)) (numeral r.count), sign_size (ltb r.letter 97), n.size (omega arith)));
        within = λ k. omega (arith, n.number);
      }
]
  where
    sign_size : (b : Bool) → length (spelled_minus b) ≤ 1
    sign_size true = omega arith
    sign_size false = omega arith

-- the letters of a word, one after another in runs
abbrev total : List Run → ℕ
total [] = 0
total (r ∷ rs) = r.count + total rs

-- runs of letters, none of them empty
abbrev Filled : List Run → Type 0
Filled [] = Unit
Filled (r ∷ rs) = (is_letter r.letter ≡ true) × (1 ≤ r.count) × Filled rs

filled_add : (x : ℕ) (rs : List Run) → is_letter x ≡ true → Filled rs → Filled (add_letter x rs)
filled_add x [] h f = (h, omega arith, tt)
filled_add x (r ∷ rs) h f = elim (cases_Bool (eqb x r.letter)) [
  | inl e ↦ rw e (h, omega arith, f.2)
  | inr e ↦ rw e (h, omega arith, f)
]

filled_runs : (w : List ℕ) → AllLetters w → Filled (runs w)
filled_runs [] h = tt
filled_runs (x ∷ w) h = filled_add x (runs w) h.0 (filled_runs w h.1)

unrolled_add : (x : ℕ) (rs : List Run) → unrolled (add_letter x rs) ≡ x ∷ unrolled rs
unrolled_add x [] = refl
unrolled_add x (r ∷ rs) = elim (cases_Bool (eqb x r.letter)) [
  | inl e ↦
      let z : x ≡ r.letter = eqb-true x r.letter e in
      let n : r.count + 1 ≡ suc r.count = omega arith in
      rw (e, n, ← z)
  | inr e ↦ rw e
]

unrolled-runs : (w : List ℕ) → unrolled (runs w) ≡ w
unrolled-runs [] = refl
unrolled-runs (x ∷ w) = unrolled_add x (runs w) ∙ ap (◌∷◌ x) (unrolled-runs w)

total_length : (rs : List Run) → length (unrolled rs) ≡ total rs
total_length [] = refl
total_length (r ∷ rs) = length-append (times r.count (r.letter ∷ [])) (unrolled rs) ∙ rw (times-length, total_length rs)

pub short_of : (w : List ℕ) → length w ≤ 63 → short w ≡ true
short_of w h = le-leb (length (freely_reduce bytes w)) 63 (omega (arith, length-freely_reduce bytes byte_laws w))

-- a row of runs as a tree
record Row (rs : List Run) (t : Product) : Type 0 where
  spells : Spells (runs_text rs) t
  nests : (n : ℕ) → NestsWithin n t
  powers : total rs ≤ 63 → PowersWithin t
  size : length (runs_text rs) + total rs % 2 ≤ 2 * total rs
  word : tree_word t ≡ unrolled rs
  measured : (v : List ℕ) → length v + total rs ≤ 63 → all_short (measured_after v t) ≡ true

row_more : (r : Run) (rs : List Run) (t : Product) (f : Factor r) → Row rs t → Row (r ∷ rs) (letter f.base f.power t)
row_more r rs t f h =
    record {
      spells = record {
        proper = (f.letters, f.proper, h.spells.proper);
        spelling = ap (λ (l : List ℕ). l ++ spelled t) f.spelling ∙ ap (◌++◌ (run_text r)) h.spells.spelling;
      };
      nests = λ n. h.nests n;
      powers = λ k. (f.within (omega arith), h.powers (omega arith));
      size = omega (arith, f.size, h.size, length-append (run_text r) (runs_text rs));
      word = ap (λ (l : List ℕ). l ++ tree_word t) f.word ∙ ap (◌++◌ (times r.count (r.letter ∷ []))) h.word;
      measured = λ v k.
          let p : List ℕ = powered f.power (f.base ∷ []) in
          let l : length p ≡ r.count = ap length f.word ∙ times-length r.count r.letter in
          let m : length (v ++ p) ≡ length v + r.count = length-append v p ∙ ap (◌+◌ (length v)) l in
          let a : short (f.base ∷ []) ≡ true = short_of (f.base ∷ []) (omega arith) in
          let b : short p ≡ true = short_of p (omega arith) in
          let c : short (v ++ p) ≡ true = short_of (v ++ p) (omega arith) in
          rw (a, b, c, h.measured (v ++ p) (omega arith));
    }

row_of : (rs : List Run) → Filled rs → total rs < 100 → (t : Product) × Row rs t
row_of [] h l = (
  nothing,
  record {
    spells = record { proper = tt; spelling = refl };
    nests = λ n. tt;
    powers = λ k. tt;
    size = omega arith;
    word = refl;
    measured = λ v k. refl;
  },
)
row_of (r ∷ rs) h l =
    let f = factor_of_lem r h.0 h.1 (omega arith) in
    let (t, g) = row_of rs h.2 (omega arith) in
    (letter f.base f.power t, row_more r rs t f g)

-- the text of a word of at most 63 letters
pub record TextFor (w : List ℕ) : Type 0 where
  pub tree : Product
  pub allowed : WithinLimits (text_of w) tree
  pub word : tree_word tree ≡ w
  pub measured : fits tree ≡ true
  pub size : length (text_of w) ≤ 125

pub text_for : (w : List ℕ) → AllLetters w → length w ≤ 63 → TextFor w
unfolding text_of fits
text_for w h l =
    let k : total (runs w) ≡ length w = sym (total_length (runs w)) ∙ ap length (unrolled-runs w) in
    let (t, g) = row_of (runs w) (filled_runs w h) (omega arith) in
    record {
      tree = t;
      allowed = record { size = omega (arith, g.size); spells = g.spells; nests = (none-nests t).1 (g.nests 8); exponents = (none-powers t).1 (g.powers (omega arith)) };
      word = g.word ∙ unrolled-runs w;
      measured = g.measured [] (omega arith);
      size = omega (arith, g.size);
    }

-- the runs of a word are as long as can be
runs-maximal : (w : List ℕ) → Maximal (runs w)
runs-maximal [] = tt
runs-maximal (x ∷ w) = add_maximal (runs w) (runs-maximal w)
  where
    longer : (r : Run) (rs : List Run) → x ≡ r.letter → Maximal (r ∷ rs) → Maximal (run x (r.count + 1) ∷ rs)
    longer r [] z m = omega arith
    longer r (s ∷ rs) z m = (omega arith, λ e. m.1 (sym z ∙ e), m.2)

    add_maximal : (rs : List Run) → Maximal rs → Maximal (add_letter x rs)
    add_maximal [] m = omega arith
    add_maximal (r ∷ rs) m = elim (cases_Bool (eqb x r.letter)) [
      | inl e ↦ rw e (longer r rs (eqb-true x r.letter e) m)
      | inr e ↦ rw e (omega arith, eqb-false x r.letter e, m)
    ]

-- so many letters before a word that does not begin with one
run-before : (x n : ℕ) (rs : List Run) (v : List ℕ) → 1 ≤ n → Maximal (run x n ∷ rs) → runs v ≡ rs → runs (times n (x ∷ []) ++ v) ≡ run x n ∷ rs
run-before x zero rs v h m e = absurd (omega arith)
run-before x (suc zero) [] v h m e = rw e
run-before x (suc zero) (r ∷ rs) v h m e =
    let d : eqb x r.letter ≡ false = ne_eqb x r.letter m.1 in
    rw (e, d)
run-before x (suc (suc n)) rs v h m e =
    let s : eqb x x ≡ true = eq-eqb x x refl in
    let k : suc n + 1 ≡ suc (suc n) = omega arith in
    ap (add_letter x) (run-before x (suc n) rs v (omega arith) (fewer rs m) e) ∙ rw (s, k)
  where
    fewer : (rs : List Run) → Maximal (run x (suc (suc n)) ∷ rs) → Maximal (run x (suc n) ∷ rs)
    fewer [] m = omega arith
    fewer (s ∷ rs) m = (omega arith, m.1, m.2)

again : (rs : List Run) → Maximal rs → runs (unrolled rs) ≡ rs
again [] m = refl
again (r ∷ []) m = run-before r.letter r.count [] [] m m refl
again (r ∷ s ∷ rs) m = run-before r.letter r.count (s ∷ rs) (unrolled (s ∷ rs)) m.0 m (again (s ∷ rs) m.2)

pub runs_of : (w : List ℕ) → RunsOf w (runs w)
runs_of w = record { maximal = runs-maximal w; word = unrolled-runs w }

pub runs_unique : (w : List ℕ) (rs others : List Run) → RunsOf w rs → RunsOf w others → rs ≡ others
runs_unique w rs others a b = sym (again rs a.maximal) ∙ ap runs (a.word ∙ sym b.word) ∙ again others b.maximal
