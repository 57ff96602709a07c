-- Free reduction with a stack from the left, over any letters: the stack holds the reduced word of the letters read, and one more letter is
-- put after it or cancels its last.
use Prim.Native.Nat.{ℕ, suc, ◌+◌, ◌-◌, ◌<◌, ◌≤◌}
use mathlib.Core.Path.{◌≡◌, sym, ap, ◌∙◌}
use mathlib.Core.List.{List, [], ◌∷◌, ◌++◌, append_assoc}
use native.Mathlib.Omega.{arith}
use lib.ListN.{length, take, get_or, set}
use lib.Seq.{take-suc, take-suc-set}
use Rattle.std.proofs.lemmas.List.{take_more, take_more_set}
use Rattle.words.specs.Alphabet.{Alphabet}
use Rattle.words.specs.Words.{freely_reduce}
use Rattle.words.proofs.Alphabet.{AlphabetLaws}
use Rattle.words.proofs.FreeReduction.{freely_reduce_left, freely_reduce_twice, freely_reduce-snoc_cancel, freely_reduce-snoc_keep}

module _ {A : Type 0} (G : Alphabet A) (L : AlphabetLaws G) where
  open G use {flip}

  module _ (s : List A) (n : ℕ) (x : A) (room : n < length s) where
    pub stack_first : n ≤ 0 → take (n + 1) (set s n x) ≡ freely_reduce G (take n s ++ (x ∷ []))
    stack_first h =
        let none : n ≡ 0 = omega arith in
        rw none (take-suc-set s 0 x (omega arith))

    module _ (freely : freely_reduce G (take n s) ≡ take n s) (full : 0 < n) (d : A) where
      last_apart : take n s ≡ take (n - 1) s ++ (get_or s (n - 1) d ∷ [])
      last_apart =
          let back : suc (n - 1) ≡ n = omega arith in
          ap (λ (k : ℕ). take k s) (sym back) ∙ take-suc s (n - 1) d (omega arith)

      pub stack_cancel : {y : A} → get_or s (n - 1) d ≡ y → y ≡ flip x → take (n - 1) s ≡ freely_reduce G (take n s ++ (x ∷ []))
      stack_cancel p q = sym (freely_reduce-snoc_cancel G L (take n s) (take (n - 1) s) x _ (freely ∙ last_apart) (p ∙ q))

      pub stack_keep : {y : A} → (get_or s (n - 1) d ≡ y → ⊥) → y ≡ flip x → take (n + 1) (set s n x) ≡ freely_reduce G (take n s ++ (x ∷ []))
      stack_keep p q =
          let kept : freely_reduce G (take n s ++ (x ∷ [])) ≡ take (n - 1) s ++ (get_or s (n - 1) d ∷ x ∷ []) =
          freely_reduce-snoc_keep G L (take n s) (take (n - 1) s) x _ (freely ∙ last_apart) (λ e. p (e ∙ sym q)) in
          take_more_set s n x room ∙ ap (λ (l : List A). l ++ (x ∷ [])) last_apart
          ∙ append_assoc (take (n - 1) s) _ _ ∙ sym kept

  -- the letters of a word, read one after the other
  module _ (w v : List A) (i : ℕ) (here : v ≡ freely_reduce G (take i w)) where
    pub read_freely_reduced : freely_reduce G v ≡ v
    read_freely_reduced = rw here (freely_reduce_twice G L (take i w))

    pub read_more : (t : List A) (d : A) → i < length w → t ≡ freely_reduce G (v ++ (get_or w i d ∷ [])) → t ≡ freely_reduce G (take (i + 1) w)
    read_more t d inside e =
        e ∙ ap (λ (l : List A). freely_reduce G (l ++ (get_or w i d ∷ []))) here
        ∙ sym (freely_reduce_left G L (take i w) (get_or w i d ∷ []))
        ∙ ap (freely_reduce G) (sym (take_more w i d inside))
