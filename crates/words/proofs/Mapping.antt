-- Words whose letters are all of one kind, and such words over other letters: free reduction keeps the kind, and may be done before or after
-- the letters are exchanged one by one.
use Prim.Native.Nat.{ℕ, suc, zero}
use lib.ListN.{get_or}
use mathlib.Core.List.{List, [], ◌++◌, ◌∷◌, map}
use mathlib.Core.Path.{◌≡◌, ◌∙◌, ap, refl, sym}
use Rattle.words.specs.Alphabet.{Alphabet}
use Rattle.words.specs.Words.{Each, freely_reduce, inverse, push}
use Rattle.words.proofs.Alphabet.{AlphabetLaws, same?}
use Rattle.words.proofs.FreeReduction.{push_cancel, push_keep}
use Rattle.words.proofs.Inverse.{inverse-cons, inverse-nil}

pub each_append : {A : Type 0} (P : A → Type 0) (u v : List A) → Each P u → Each P v → Each P (u ++ v)
each_append P [] v a b = b
each_append P (x ∷ u) v a b = (a.0, each_append P u v a.1 b)

-- what holds of each letter of a kind holds of each letter of a word of them
pub each_map : {A B : Type 0} (P : A → Type 0) (Q : B → Type 0) (f : A → B) → ((x : A) → P x → Q (f x)) → (w : List A) → Each P w → Each Q (map f w)
each_map P Q f h [] a = tt
each_map P Q f h (x ∷ w) a = (h x a.0, each_map P Q f h w a.1)

pub map_back : {A B : Type 0} (P : A → Type 0) (f : A → B) (g : B → A) → ((x : A) → P x → g (f x) ≡ x) → (w : List A) → Each P w → map g (map f w) ≡ w
map_back P f g h [] a = refl
map_back P f g h (x ∷ w) a = rw (h x a.0, map_back P f g h w a.1) refl

pub each_both : {A : Type 0} (P Q : A → Type 0) (w : List A) → Each P w → Each Q w → Each (λ x. P x × Q x) w
each_both P Q [] a b = tt
each_both P Q (x ∷ w) a b = ((a.0, b.0), each_both P Q w a.1 b.1)

-- the same by places, where the kind has the default
pub each_from : {A : Type 0} (P : A → Type 0) (d : A) (w : List A) → ((k : ℕ) → P (get_or w k d)) → Each P w
each_from P d [] h = tt
each_from P d (x ∷ w) h = (h 0, each_from P d w (λ k. h (suc k)))

pub each_at : {A : Type 0} (P : A → Type 0) (d : A) → P d → (w : List A) → Each P w → (k : ℕ) → P (get_or w k d)
each_at P d h [] a k = h
each_at P d h (x ∷ w) a zero = a.0
each_at P d h (x ∷ w) a (suc k) = each_at P d h w a.1 k

module _ {A : Type 0} (G : Alphabet A) (L : AlphabetLaws G) (P : A → Type 0) where
  open G use {flip}

  pub each_push : (x : A) (w : List A) → P x → Each P w → Each P (push G x w)
  each_push x [] e a = (e, tt)
  each_push x (y ∷ w) e a = elim (same? G L y (flip x)) [
    | yes p ↦ rw (push_cancel G L x y w p) a.1
    | no n ↦ rw (push_keep G L x y w n) (e, a)
  ]

  pub each_freely_reduce : (w : List A) → Each P w → Each P (freely_reduce G w)
  each_freely_reduce [] a = tt
  each_freely_reduce (x ∷ w) a = each_push x (freely_reduce G w) a.0 (each_freely_reduce w a.1)

  module _ (kept : (x : A) → P x → P (flip x)) where
    pub each_inverse : (w : List A) → Each P w → Each P (inverse G w)
    each_inverse [] a = rw (inverse-nil G L) tt
    each_inverse (x ∷ w) a = rw (inverse-cons G L x w) (each_append P (inverse G w) _ (each_inverse w a.1) (kept x a.0, tt))

    -- the letters of the kind exchanged for letters of another alphabet, inverses for inverses and no two for the same
    module _ {B : Type 0} (H : Alphabet B) (M : AlphabetLaws H) (f : A → B) (turned : (x : A) → P x → f (flip x) ≡ H.flip (f x))
        (apart : (x y : A) → P x → P y → f x ≡ f y → x ≡ y) where
      map-push : (x : A) (w : List A) → P x → Each P w → map f (push G x w) ≡ push H (f x) (map f w)
      map-push x [] e a = refl
      map-push x (y ∷ w) e a = elim (same? G L y (flip x)) [
        | yes p ↦ rw (push_cancel G L x y w p, push_cancel H M (f x) (f y) (map f w) (ap f p ∙ turned x e)) refl
        | no n ↦ rw (push_keep G L x y w n, push_keep H M (f x) (f y) (map f w) (λ q. n (apart y (flip x) a.0 (kept x e) (q ∙ sym (turned x e))))) refl
      ]

      pub map-freely_reduce : (w : List A) → Each P w → map f (freely_reduce G w) ≡ freely_reduce H (map f w)
      map-freely_reduce [] a = refl
      map-freely_reduce (x ∷ w) a =
          map-push x (freely_reduce G w) a.0 (each_freely_reduce w a.1) ∙ ap (push H (f x)) (map-freely_reduce w a.1)
