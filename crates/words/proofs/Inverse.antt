-- The inverse of a word: "its letters read backward with case changed". It keeps irreducibility, goes through free
-- reduction, and undoes the word on either side.
use Prim.Native.Nat.{ℕ, suc, ◌+◌, ◌-◌, ◌<◌}
use mathlib.Core.Path.{◌≡◌, refl, sym, ap, ◌∙◌}
use mathlib.Core.Bool.{Bool, true, false, not}
use mathlib.Core.List.{List, [], ◌∷◌, ◌++◌, map, reverse-cons, append_assoc, append-nil}
use native.Mathlib.Omega.{arith}
use lib.ListN.{length, get_or, take, drop, take-append-drop, length-drop, length-reverse, length-map}
use lib.Seq.{take-suc, take_at, get_or_at}
use Rattle.words.specs.Alphabet.{Alphabet}
use Rattle.words.specs.Words.{push, freely_reduce, Irreducible, inverse, signed}
use Rattle.words.proofs.Alphabet.{AlphabetLaws, same?}
use Rattle.words.proofs.FreeReduction.{push_cancel, push_keep, irreducible_next, irreducible_tail, irreducible_cons, irreducible_join, freely_reduce_irreducible, freely_reduce-same, freely_reduce_left, freely_reduce_right, freely_reduce_pair_flip, freely_reduce_empty_left, freely_reduce_empty_right}

module _ {A : Type 0} (G : Alphabet A) (L : AlphabetLaws G) where
  open G use {flip}
  open L use {twice}

  pub inverse-nil : inverse G [] ≡ []
  unfolding inverse
  inverse-nil = refl

  pub inverse-cons : (x : A) (w : List A) → inverse G (x ∷ w) ≡ inverse G w ++ (flip x ∷ [])
  unfolding inverse
  inverse-cons x w = reverse-cons (flip x) (map flip w)

  pub inverse_singleton : (x : A) → inverse G (x ∷ []) ≡ flip x ∷ []
  unfolding inverse
  inverse_singleton x = refl

  pub inverse-append : (u v : List A) → inverse G (u ++ v) ≡ inverse G v ++ inverse G u
  inverse-append [] v = rw (inverse-nil, append-nil)
  inverse-append (x ∷ u) v = rw (inverse-cons x (u ++ v), inverse-cons x u, inverse-append u v, append_assoc)

  pub inverse-snoc : (w : List A) (x : A) → inverse G (w ++ (x ∷ [])) ≡ flip x ∷ inverse G w
  inverse-snoc w x = rw (inverse-append, inverse_singleton)

  pub inverse_twice : (w : List A) → inverse G (inverse G w) ≡ w
  inverse_twice [] = rw (inverse-nil, inverse-nil)
  inverse_twice (x ∷ w) = rw (inverse-cons, inverse-snoc, twice, inverse_twice w)

  pub inverse-length : (w : List A) → length (inverse G w) ≡ length w
  unfolding inverse
  inverse-length w = length-reverse (map flip w) ∙ length-map w flip

  -- a word or its inverse
  pub signed-length : (b : Bool) (w : List A) → length (signed G b w) ≡ length w
  signed-length true w = inverse-length w
  signed-length false w = refl

  pub signed-inverse : (b : Bool) (w : List A) → inverse G (signed G b w) ≡ signed G (not b) w
  signed-inverse true w = inverse_twice w
  signed-inverse false w = refl

  pub inverse_turn : (u v : List A) → u ≡ inverse G v → v ≡ inverse G u
  inverse_turn u v e = rw e (sym (inverse_twice v))

  pub inverse_irreducible : (w : List A) → Irreducible G w → Irreducible G (inverse G w)
  inverse_irreducible [] h = rw inverse-nil tt
  inverse_irreducible (x ∷ []) h = rw inverse_singleton tt
  inverse_irreducible (x ∷ y ∷ w) h = rw (inverse-cons, inverse-cons, append_assoc)
      (irreducible_join G L (inverse G w) [] (flip y) (flip x)
      (rw inverse-cons at (inverse_irreducible (y ∷ w) (irreducible_tail G L x (y ∷ w) h)))
      tt
      (λ e. irreducible_next G L x y w h (sym (e ∙ twice y))))

  pub signed_irreducible : (b : Bool) (w : List A) → Irreducible G w → Irreducible G (signed G b w)
  signed_irreducible true w h = inverse_irreducible w h
  signed_irreducible false w h = h

  inverse-push : (x : A) (w : List A) → Irreducible G w → freely_reduce G (inverse G (x ∷ w)) ≡ inverse G (push G x w)
  inverse-push x [] h = rw inverse_singleton
  inverse-push x (y ∷ w) h = elim (same? G L y (flip x)) [
    | yes e ↦ rw (push_cancel G L x y w e, inverse-cons, inverse-cons, append_assoc, e, freely_reduce_pair_flip G L, append-nil)
        (freely_reduce-same G L (inverse G w) (inverse_irreducible w (irreducible_tail G L y w h)))
    | no n ↦ rw (push_keep G L x y w n)
        (freely_reduce-same G L (inverse G (x ∷ y ∷ w)) (inverse_irreducible (x ∷ y ∷ w) (irreducible_cons G L x y w n h)))
  ]

  pub freely_reduce-inverse : (w : List A) → freely_reduce G (inverse G w) ≡ inverse G (freely_reduce G w)
  freely_reduce-inverse [] = rw inverse-nil
  freely_reduce-inverse (x ∷ w) = rw (inverse-cons, freely_reduce_left G L (inverse G w) (flip x ∷ []), freely_reduce-inverse w, ← inverse-cons)
      (inverse-push x (freely_reduce G w) (freely_reduce_irreducible G L w))

  -- a word and its inverse, one after the other, come to the empty word
  pub freely_reduce_self_inverse : (w : List A) → freely_reduce G (w ++ inverse G w) ≡ []
  freely_reduce_self_inverse [] = rw inverse-nil
  freely_reduce_self_inverse (x ∷ w) = rw (inverse-cons, ← append_assoc w (inverse G w) (flip x ∷ []), freely_reduce_empty_left G L (w ++ inverse G w) (flip x ∷ []) (freely_reduce_self_inverse w))
      (push_cancel G L x (flip x) [] refl)

  pub freely_reduce-inverse_self : (w : List A) → freely_reduce G (inverse G w ++ w) ≡ []
  freely_reduce-inverse_self w = rw inverse_twice at (freely_reduce_self_inverse (inverse G w))

  -- so the inverse takes a factor away again, on either side
  pub freely_reduce-undo_left : (u v : List A) → freely_reduce G (inverse G u ++ freely_reduce G (u ++ v)) ≡ freely_reduce G v
  freely_reduce-undo_left u v = rw (← freely_reduce_right G L, ← append_assoc)
      (freely_reduce_empty_left G L (inverse G u ++ u) v (freely_reduce-inverse_self u))

  pub freely_reduce_redo_left : (u v : List A) → freely_reduce G (u ++ freely_reduce G (inverse G u ++ v)) ≡ freely_reduce G v
  freely_reduce_redo_left u v = rw inverse_twice at (freely_reduce-undo_left (inverse G u) v)

  pub freely_reduce-undo_right : (u v : List A) → freely_reduce G (freely_reduce G (u ++ v) ++ inverse G v) ≡ freely_reduce G u
  freely_reduce-undo_right u v = rw (← freely_reduce_left G L, append_assoc)
      (freely_reduce_empty_right G L u (v ++ inverse G v) (freely_reduce_self_inverse v))

  pub freely_reduce_redo_right : (u v : List A) → freely_reduce G (freely_reduce G (u ++ inverse G v) ++ v) ≡ freely_reduce G u
  freely_reduce_redo_right u v = rw inverse_twice at (freely_reduce-undo_right u (inverse G v))

  pub inverse_unique : (u v : List A) → freely_reduce G (u ++ v) ≡ [] → freely_reduce G v ≡ freely_reduce G (inverse G u)
  inverse_unique u v e = rw (e, append-nil) at (sym (freely_reduce-undo_left u v))

  pub inverse_split : (n : ℕ) (w : List A) → inverse G w ≡ inverse G (drop n w) ++ inverse G (take n w)
  inverse_split n w = ap (inverse G) (sym (take-append-drop n w)) ∙ inverse-append (take n w) (drop n w)

  pub inverse-drop : (n : ℕ) (w : List A) → inverse G (drop n w) ≡ take (length w - n) (inverse G w)
  inverse-drop n w = rw (inverse_split n w)
      (sym (take_at (inverse G (drop n w)) (inverse G (take n w)) (length w - n) (inverse-length (drop n w) ∙ length-drop n w)))

  pub drop-inverse : (n : ℕ) (w : List A) → drop n (inverse G w) ≡ inverse G (take (length w - n) w)
  drop-inverse n w = inverse_turn (take (length w - n) w) (drop n (inverse G w))
      (simp (inverse-length, inverse_twice) at (sym (inverse-drop n (inverse G w))))

  pub inverse-take-suc : (w : List A) (i : ℕ) (d : A) → i < length w → inverse G (take (suc i) w) ≡ flip (get_or w i d) ∷ inverse G (take i w)
  inverse-take-suc w i d h = rw (take-suc w i d h) (inverse-snoc (take i w) (get_or w i d))

  -- the letter at place i of the inverse is the inverse of the letter at the same place from the end
  pub inverse-get_or : (w : List A) (i j : ℕ) (d e : A) → suc (i + j) ≡ length w → get_or (inverse G w) i d ≡ flip (get_or w j e)
  inverse-get_or w i j d e h = rw (inverse_split (suc j) w, inverse-take-suc w j e (omega arith))
      (get_or_at (inverse G (drop (suc j) w)) (flip (get_or w j e)) (inverse G (take j w)) d i
      (omega (arith, inverse-length (drop (suc j) w), length-drop (suc j) w)))
