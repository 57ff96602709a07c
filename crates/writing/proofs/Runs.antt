-- The runs of a word: the one that it begins with, and the text of the word, written run by run.
use Rattle.std.proofs.Common.{◌*◌, ◌+◌, ◌-◌, ◌<◌, ◌≤◌, suc, zero, ℕ, ◌∙◌, ◌≡◌, ap, refl, sym, List, [], ◌++◌, ◌∷◌, append_assoc, append-nil, inl, inr, eqb, arith, drop, get_or, length, length-drop, take}
use Rattle.std.proofs.lemmas.List.{drop_more, nil_from_length, take_rest}
use borrow.Author.Tests.{eq-eqb, ne_eqb}
use Rattle.words.specs.Writers.{Puts}
use Rattle.words.specs.declared.writer.Writer.{Writer}
use Rattle.words.proofs.Writers.{puts_next}
use Rattle.syntax.specs.WordTexts.{Run, add_letter, run, run_text, runs, runs_text, text_of}
use Rattle.std.proofs.lemmas.Bool.{cases_Bool}

-- a letter before a word that begins with another, and before one that begins with it so many times
other_run : (x y : ℕ) (rs : List Run) → (y ≡ x → ⊥) → add_letter x (add_letter y rs) ≡ run x 1 ∷ add_letter y rs
other_run x y [] d = rw (ne_eqb x y (λ e. d (sym e)))
other_run x y (r ∷ rs) d = elim (cases_Bool (eqb y r.letter)) [
  | inl e ↦ rw (e, ne_eqb x y (λ e. d (sym e)))
  | inr e ↦ rw (e, ne_eqb x y (λ e. d (sym e)))
]

first_run : (n x : ℕ) (v : List ℕ) → n ≤ length v → ((i : ℕ) → i < n → get_or v i 0 ≡ x) → (n < length v → get_or v n 0 ≡ x → ⊥)
    → runs (x ∷ v) ≡ run x (1 + n) ∷ runs (drop n v)
first_run zero x [] inside same longest = refl
first_run zero x (y ∷ v) inside same longest = other_run x y (runs v) (longest (omega arith))
first_run (suc n) x [] inside same longest = absurd (omega arith)
first_run (suc n) x (y ∷ v) inside same longest =
    let next = first_run n x v (omega arith) (λ i h. same (suc i) (omega arith)) (λ h. longest (omega arith)) in
    let more : 1 + n + 1 ≡ 1 + suc n = omega arith in
    rw (same 0 (omega arith), next, eq-eqb x x refl, more)

-- what is written of the text of a word, before the letters that are left; at most two bytes for each letter
pub record WrittenTo (word : List ℕ) (start now : Writer) (rest : List ℕ) : Type 0 where
  pub front : List ℕ
  pub puts : Puts start front now
  pub whole : text_of word ≡ front ++ text_of rest
  pub most : now.at + 2 * length rest ≤ start.at + 2 * length word

module _ (word rest : List ℕ) (start now : Writer) (here : WrittenTo word start now rest) where
  -- the letters after the first one that is left
  abbrev others : List ℕ
  others = take (length rest - 1) (drop 1 rest)

  pub text_more : (letter n : ℕ) (after : Writer) → 1 ≤ length rest → letter ≡ get_or rest 0 0 → n ≤ length others
      → ((i : ℕ) → i < n → get_or others i 0 ≡ letter) → (n < length others → get_or others n 0 ≡ letter → ⊥)
      → Puts now (run_text (run letter (1 + n))) after → after.at ≤ now.at + 2 * (1 + n)
      → WrittenTo word start after (take (length others - n) (drop n others))
  unfolding text_of
  text_more letter n after full is inside same longest puts most =
      let u : List ℕ = run_text (run letter (1 + n)) in
      let left : List ℕ = drop n others in
      let split : rest ≡ letter ∷ others = rw (is, take_rest) (drop_more rest 0 0 (omega arith)) in
      let next : text_of rest ≡ u ++ text_of left = ap text_of split ∙ ap runs_text (first_run n letter others inside same longest) in
      rw take_rest (record {
        front = here.front ++ u;
        puts = puts_next start now after here.front u (here.front ++ u) here.puts puts refl;
        whole = here.whole ∙ ap (◌++◌ here.front) next ∙ sym (append_assoc here.front u (text_of left));
        most = omega (arith, here.most, ap length split, length-drop n others);
      })

  pub text_all : length rest < 1 → Puts start (text_of word) now
  unfolding text_of
  text_all e =
      let none : rest ≡ [] = nil_from_length rest (omega arith) in
      let all : text_of word ≡ here.front = here.whole ∙ rw (none, append-nil) in
      rw all here.puts
