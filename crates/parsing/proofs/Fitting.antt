-- What the readers find is the freely reduced word of the tree, and nothing exactly where 12 is due.
use Prim.Native.Nat.{suc, zero, ℕ}
use mathlib.Core.Path.{◌∙◌, ◌≡◌, ap, refl, sym}
use mathlib.Core.Logic.{inl, inr}
use mathlib.Core.Bool.{Bool, ◌&&◌, cond, false, true}
use Rattle.std.specs.Prelude.{None, Option, Some}
use mathlib.Core.List.{List, [], ◌++◌, ◌∷◌, append_assoc, append-nil}
use Rattle.words.specs.Alphabet.{bytes}
use Rattle.words.specs.Words.{freely_reduce, inverse, signed}
use Rattle.words.proofs.Alphabet.{byte_laws}
use Rattle.words.proofs.FreeReduction.{freely_reduce_both, freely_reduce_twice}
use Rattle.words.proofs.Inverse.{freely_reduce-inverse}
use Rattle.syntax.specs.Trees.{Power, Product, bracket, group, letter, nothing, plain, raised}
use Rattle.syntax.specs.TreeWords.{commutator, factor_measured, measured, measured_after, number_of, powered, times, tree_word}
use Rattle.syntax.specs.Rules.{all_short, fits, short}
use Rattle.powers.specs.Bounded.{join_of, within}
use Rattle.parsing.specs.Reading.{powered_of, read_after}
use Rattle.std.proofs.lemmas.Bool.{and_parts, cases_Bool}

abbrev free : List ℕ → List ℕ
free w = freely_reduce bytes w

abbrev pub only_if : Bool → List ℕ → Option (List ℕ)
only_if b w = cond b (Some w) None

-- words that are freely reduced to the same word
free_append : (u v : List ℕ) → free (free u ++ free v) ≡ free (u ++ v)
free_append u v = sym (freely_reduce_both bytes byte_laws u v)

append-same : (u v a b : List ℕ) → free u ≡ free a → free v ≡ free b → free (u ++ v) ≡ free (a ++ b)
append-same u v a b e f = sym (free_append u v) ∙ rw (e, f) (free_append a b)

free_signed : (b : Bool) (w : List ℕ) → free (signed bytes b (free w)) ≡ free (signed bytes b w)
free_signed true w = ap free (sym (freely_reduce-inverse bytes byte_laws w)) ∙ freely_reduce_twice bytes byte_laws (inverse bytes w)
free_signed false w = freely_reduce_twice bytes byte_laws w

free_times : (n : ℕ) (u v : List ℕ) → free u ≡ free v → free (times n u) ≡ free (times n v)
free_times zero u v e = refl
free_times (suc n) u v e = append-same u (times n u) v (times n v) e (free_times n u v e)

free_powered : (p : Power) (f : List ℕ) → free (powered p (free f)) ≡ free (powered p f)
free_powered plain f = freely_reduce_twice bytes byte_laws f
free_powered (raised minus d) f = free_times (number_of d) (signed bytes minus (free f)) (signed bytes minus f) (free_signed minus f)

free_commutator : (u v : List ℕ) → free (commutator (free u) (free v)) ≡ free (commutator u v)
free_commutator u v =
    let twice = freely_reduce_twice bytes byte_laws in
    append-same (inverse bytes (free u)) _ (inverse bytes u) _ (free_signed true u)
    (append-same (inverse bytes (free v)) _ (inverse bytes v) _ (free_signed true v) (append-same (free u) (free v) u v (twice u) (twice v)))

within_same : (u v : List ℕ) → free u ≡ free v → within u ≡ within v
unfolding within
within_same u v e = rw e

within_yes : (w : List ℕ) → short w ≡ true → within w ≡ Some (free w)
unfolding within
within_yes w e = rw e

within_no : (w : List ℕ) → short w ≡ false → within w ≡ None
unfolding within
within_no w e = rw e

read_none : (t : Product) → read_after None t ≡ None
read_none nothing = refl
read_none (letter x p t) = read_none t
read_none (group u p t) = read_none t
read_none (bracket u v p t) = read_none t

powered-none : (p : Power) → powered_of p None ≡ None
powered-none plain = refl
powered-none (raised minus d) = refl

powered_some : (p : Power) (f : List ℕ) → short f ≡ true → powered_of p (Some (free f)) ≡ within (powered p f)
powered_some plain f h = sym (within_yes f h)
powered_some (raised minus d) f h = within_same (powered (raised minus d) (free f)) (powered (raised minus d) f) (free_powered (raised minus d) f)

short-append : (us vs : List (List ℕ)) → all_short (us ++ vs) ≡ (all_short us && all_short vs)
short-append [] vs = refl
short-append (w ∷ us) vs = elim (cases_Bool (short w)) [
  | inl e ↦ rw e (short-append us vs)
  | inr e ↦ rw e
]

-- a factor after a word, and the product after it
module _ (w : List ℕ) (p : Power) (t : Product)
    (ih : (v : List ℕ) → short v ≡ true → read_after (Some (free v)) t ≡ only_if (all_short (measured_after v t)) (free (v ++ tree_word t))) where
  factor_none : read_after (join_of (Some (free w)) (powered_of p None)) t ≡ None
  factor_none = rw (powered-none p) (read_none t)

  factor_says : (f : List ℕ) → short f ≡ true
      → read_after (join_of (Some (free w)) (powered_of p (Some (free f)))) t
      ≡ only_if (all_short (factor_measured w p f ++ measured_after (w ++ powered p f) t)) (free (w ++ (powered p f ++ tree_word t)))
  factor_says f h =
      let g : List ℕ = powered p f in
      elim (cases_Bool (short g)) [
        | inr a ↦ rw (powered_some p f h, within_no g a, h, a) (read_none t)
        | inl a ↦
            let j : within (free w ++ free g) ≡ within (w ++ g) = within_same (free w ++ free g) (w ++ g) (free_append w g) in
            elim (cases_Bool (short (w ++ g))) [
              | inr b ↦ rw (powered_some p f h, within_yes g a, j, within_no (w ++ g) b, h, a, b) (read_none t)
              | inl b ↦ rw (powered_some p f h, within_yes g a, j, within_yes (w ++ g) b, h, a, b, ← append_assoc w g (tree_word t)) (ih (w ++ g) b)
            ]
      ]

-- the last beginning of a product is the whole of it
module _ (w : List ℕ) (p : Power) (f : List ℕ) (t : Product) where
  abbrev more : List (List ℕ)
  more = measured_after (w ++ powered p f) t

  factor_whole : ((v : List ℕ) → short v ≡ true → all_short (measured_after v t) ≡ true → short (v ++ tree_word t) ≡ true)
      → all_short (factor_measured w p f ++ more) ≡ true → short (w ++ (powered p f ++ tree_word t)) ≡ true
  factor_whole ih e =
      let b : Bool = short (w ++ powered p f) in
      let r = (and_parts (short (powered p f)) (b && all_short more) (and_parts (short f) (short (powered p f) && (b && all_short more)) e).1).1 in
      rw (← append_assoc w (powered p f) (tree_word t)) (ih (w ++ powered p f) (and_parts b (all_short more) r).0 (and_parts b (all_short more) r).1)

after-short : (us vs : List (List ℕ)) → all_short (us ++ vs) ≡ true → all_short vs ≡ true
after-short us vs e = (and_parts (all_short us) (all_short vs) (sym (short-append us vs) ∙ e)).1

whole-short : (t : Product) (w : List ℕ) → short w ≡ true → all_short (measured_after w t) ≡ true → short (w ++ tree_word t) ≡ true
whole-short nothing w h e = rw append-nil h
whole-short (letter x p t) w h e = factor_whole w p (x ∷ []) t (whole-short t) e
whole-short (group u p t) w h e = factor_whole w p (tree_word u) t (whole-short t) (after-short (measured u) _ e)
whole-short (bracket u v p t) w h e =
    factor_whole w p (commutator (tree_word u) (tree_word v)) t (whole-short t) (after-short (measured v) _ (after-short (measured u) _ e))

-- the word of a tree after a word
read_says : (t : Product) (w : List ℕ) → short w ≡ true → read_after (Some (free w)) t ≡ only_if (all_short (measured_after w t)) (free (w ++ tree_word t))
read_says nothing w h = rw append-nil
read_says (letter x p t) w h = factor_says w p t (read_says t) (x ∷ []) refl
read_says (group u p t) w h = elim (cases_Bool (all_short (measured u))) [
  | inr a ↦ rw (read_says u [] refl, short-append, a) (factor_none w p t (read_says t))
  | inl a ↦ rw (read_says u [] refl, short-append, a) (factor_says w p t (read_says t) (tree_word u) (whole-short u [] refl a))
]
read_says (bracket u v p t) w h =
    let f : List ℕ = commutator (tree_word u) (tree_word v) in
    let c : within (commutator (free (tree_word u)) (free (tree_word v))) ≡ within f =
    within_same (commutator (free (tree_word u)) (free (tree_word v))) f (free_commutator (tree_word u) (tree_word v)) in
    elim (cases_Bool (all_short (measured u))) [
      | inr a ↦ rw (read_says u [] refl, short-append, a) (factor_none w p t (read_says t))
      | inl a ↦ elim (cases_Bool (all_short (measured v))) [
        | inr b ↦ rw (read_says u [] refl, read_says v [] refl, short-append, short-append, a, b) (factor_none w p t (read_says t))
        | inl b ↦ elim (cases_Bool (short f)) [
          | inr s ↦ rw (read_says u [] refl, read_says v [] refl, short-append, short-append, a, b, c, within_no f s, s) (factor_none w p t (read_says t))
          | inl s ↦ rw (read_says u [] refl, read_says v [] refl, short-append, short-append, a, b, c, within_yes f s) (factor_says w p t (read_says t) f s)
        ]
      ]
    ]

pub read_word : (t : Product) → read_after (Some []) t ≡ only_if (fits t) (free (tree_word t))
unfolding fits
read_word t = read_says t [] refl
