-- Free reduction: what it leaves is irreducible, it may be done in parts, and its outcome
-- doesn't depend on the order of removal. Last come the laws of a stack that takes the letters from either end.
use Prim.Native.Nat.{suc, ◌≤◌}
use mathlib.Core.Path.{◌≡◌, refl, sym, ap, ◌∙◌}
use mathlib.Core.List.{List, [], ◌∷◌, ◌++◌, append_assoc, append-nil}
use native.Mathlib.Omega.{arith}
use lib.ListN.{length}
use Rattle.words.specs.Alphabet.{Alphabet}
use Rattle.words.specs.Words.{FreelyReducesTo, push, freely_reduce, Irreducible, Removed, removed, Removals, none, more}
use Rattle.words.proofs.Alphabet.{AlphabetLaws, same_yes, same_no, differ, same?, flip_turn}

module _ {A : Type 0} (G : Alphabet A) (L : AlphabetLaws G) where
  open G use {flip}
  open L use {twice}

  pub push_cancel : (x y : A) (w : List A) → y ≡ flip x → push G x (y ∷ w) ≡ w
  push_cancel x y w e = rw (same_yes G L y (flip x) e)

  pub push_keep : (x y : A) (w : List A) → (y ≡ flip x → ⊥) → push G x (y ∷ w) ≡ x ∷ y ∷ w
  push_keep x y w n = rw (same_no G L y (flip x) n)

  pub irreducible_cons : (x y : A) (w : List A) → (y ≡ flip x → ⊥) → Irreducible G (y ∷ w) → Irreducible G (x ∷ y ∷ w)
  irreducible_cons x y w n h = (same_no G L y (flip x) n, h)

  pub irreducible_next : (x y : A) (w : List A) → Irreducible G (x ∷ y ∷ w) → y ≡ flip x → ⊥
  irreducible_next x y w h = differ G L y (flip x) h.0

  pub irreducible_tail : (x : A) (w : List A) → Irreducible G (x ∷ w) → Irreducible G w
  irreducible_tail x [] h = tt
  irreducible_tail x (y ∷ w) h = h.1

  pub push_irreducible : (x : A) (w : List A) → Irreducible G w → Irreducible G (push G x w)
  push_irreducible x [] h = tt
  push_irreducible x (y ∷ w) h = elim (same? G L y (flip x)) [
    | yes e ↦ rw (push_cancel x y w e) (irreducible_tail y w h)
    | no n ↦ rw (push_keep x y w n) (irreducible_cons x y w n h)
  ]

  pub push-plain : (x : A) (w : List A) → Irreducible G (x ∷ w) → push G x w ≡ x ∷ w
  push-plain x [] h = refl
  push-plain x (y ∷ w) h = push_keep x y w (irreducible_next x y w h)

  pub push_back : (x : A) (w : List A) → Irreducible G w → push G (flip x) (push G x w) ≡ w
  push_back x [] h = push_cancel (flip x) x [] (sym (twice x))
  push_back x (y ∷ w) h = elim (same? G L y (flip x)) [
    | yes e ↦ rw (push_cancel x y w e, ← e) (push-plain y w h)
    | no n ↦ rw (push_keep x y w n) (push_cancel (flip x) x (y ∷ w) (sym (twice x)))
  ]

  pub push_forth : (x : A) (w : List A) → Irreducible G w → push G x (push G (flip x) w) ≡ w
  push_forth x w h = rw twice at (push_back (flip x) w h)

  pub length_push : (x : A) (w : List A) → length (push G x w) ≤ suc (length w)
  length_push x [] = omega arith
  length_push x (y ∷ w) = elim (same? G L y (flip x)) [
    | yes e ↦ rw (push_cancel x y w e) (omega arith)
    | no n ↦ rw (push_keep x y w n) (omega arith)
  ]

  -- "Free reduction removes neighbours of the kind aA or Aa until none are left"
  pub freely_reduce_irreducible : (w : List A) → Irreducible G (freely_reduce G w)
  freely_reduce_irreducible [] = tt
  freely_reduce_irreducible (x ∷ w) = push_irreducible x (freely_reduce G w) (freely_reduce_irreducible w)

  pub freely_reduce-same : (w : List A) → Irreducible G w → freely_reduce G w ≡ w
  freely_reduce-same [] h = refl
  freely_reduce-same (x ∷ w) h = rw (freely_reduce-same w (irreducible_tail x w h)) (push-plain x w h)

  pub freely_reduce_twice : (w : List A) → freely_reduce G (freely_reduce G w) ≡ freely_reduce G w
  freely_reduce_twice w = freely_reduce-same (freely_reduce G w) (freely_reduce_irreducible w)

  pub irreducible_of_same : (w : List A) → freely_reduce G w ≡ w → Irreducible G w
  irreducible_of_same w e = rw e at (freely_reduce_irreducible w)

  pub length-freely_reduce : (w : List A) → length (freely_reduce G w) ≤ length w
  length-freely_reduce [] = omega arith
  length-freely_reduce (x ∷ w) = omega (arith, length_push x (freely_reduce G w), length-freely_reduce w)

  pub irreducible_prefix : (u v : List A) → Irreducible G (u ++ v) → Irreducible G u
  irreducible_prefix [] v h = tt
  irreducible_prefix (x ∷ []) v h = tt
  irreducible_prefix (x ∷ y ∷ u) v h = (h.0, irreducible_prefix (y ∷ u) v h.1)

  -- two irreducible words, the last letter of the first the first of the second
  pub irreducible_overlap : (u v : List A) (x : A) → Irreducible G (u ++ (x ∷ [])) → Irreducible G (x ∷ v) → Irreducible G (u ++ (x ∷ v))
  irreducible_overlap [] v x h k = k
  irreducible_overlap (y ∷ []) v x h k = (h.0, k)
  irreducible_overlap (y ∷ z ∷ u) v x h k = (h.0, irreducible_overlap (z ∷ u) v x h.1 k)

  pub irreducible_join : (u v : List A) (x y : A) → Irreducible G (u ++ (x ∷ [])) → Irreducible G (y ∷ v) → (y ≡ flip x → ⊥)
      → Irreducible G (u ++ (x ∷ y ∷ v))
  irreducible_join u v x y h k n = irreducible_overlap u (y ∷ v) x h (irreducible_cons x y v n k)

  -- the letters of a word, put one by one before another, the last first
  abbrev pub pushes : List A → List A → List A
  pushes [] w = w
  pushes (x ∷ u) w = push G x (pushes u w)

  pub freely_reduce_pushes : (u v : List A) → freely_reduce G (u ++ v) ≡ pushes u (freely_reduce G v)
  freely_reduce_pushes [] v = refl
  freely_reduce_pushes (x ∷ u) v = ap (push G x) (freely_reduce_pushes u v)

  pub pushes_irreducible : (u w : List A) → Irreducible G w → Irreducible G (pushes u w)
  pushes_irreducible [] w h = h
  pushes_irreducible (x ∷ u) w h = push_irreducible x (pushes u w) (pushes_irreducible u w h)

  pushes_push : (x : A) (u w : List A) → Irreducible G w → pushes (push G x u) w ≡ push G x (pushes u w)
  pushes_push x [] w h = refl
  pushes_push x (y ∷ u) w h = elim (same? G L y (flip x)) [
    | yes e ↦ rw (push_cancel x y u e, e) (sym (push_forth x (pushes u w) (pushes_irreducible u w h)))
    | no n ↦ rw (push_keep x y u n)
  ]

  pub pushes_freely_reduce : (u w : List A) → Irreducible G w → pushes (freely_reduce G u) w ≡ pushes u w
  pushes_freely_reduce [] w h = refl
  pushes_freely_reduce (x ∷ u) w h = pushes_push x (freely_reduce G u) w h ∙ ap (push G x) (pushes_freely_reduce u w h)

  pub freely_reduce_left : (u v : List A) → freely_reduce G (u ++ v) ≡ freely_reduce G (freely_reduce G u ++ v)
  freely_reduce_left u v = rw (freely_reduce_pushes u v, freely_reduce_pushes (freely_reduce G u) v) (sym (pushes_freely_reduce u (freely_reduce G v) (freely_reduce_irreducible v)))

  pub freely_reduce_right : (u v : List A) → freely_reduce G (u ++ v) ≡ freely_reduce G (u ++ freely_reduce G v)
  freely_reduce_right u v = rw (freely_reduce_pushes u v, freely_reduce_pushes u (freely_reduce G v), freely_reduce_twice)

  pub freely_reduce_both : (u v : List A) → freely_reduce G (u ++ v) ≡ freely_reduce G (freely_reduce G u ++ freely_reduce G v)
  freely_reduce_both u v = freely_reduce_left u v ∙ freely_reduce_right (freely_reduce G u) v

  pub freely_reduce_pair : (u : List A) (x : A) (v : List A) → freely_reduce G (u ++ (x ∷ flip x ∷ v)) ≡ freely_reduce G (u ++ v)
  freely_reduce_pair u x v = rw (freely_reduce_pushes, freely_reduce_pushes u v, push_forth x (freely_reduce G v) (freely_reduce_irreducible v))

  pub freely_reduce_pair_flip : (u : List A) (x : A) (v : List A) → freely_reduce G (u ++ (flip x ∷ x ∷ v)) ≡ freely_reduce G (u ++ v)
  freely_reduce_pair_flip u x v = rw twice at (freely_reduce_pair u (flip x) v)

  -- a word that comes to nothing may be left out
  pub freely_reduce_empty_left : (u v : List A) → freely_reduce G u ≡ [] → freely_reduce G (u ++ v) ≡ freely_reduce G v
  freely_reduce_empty_left u v e = rw (freely_reduce_left u v, e)

  pub freely_reduce_empty_right : (u v : List A) → freely_reduce G v ≡ [] → freely_reduce G (u ++ v) ≡ freely_reduce G u
  freely_reduce_empty_right u v e = rw (freely_reduce_right u v, e, append-nil)

  pub removed-freely_reduce : {w v : List A} → Removed G w v → freely_reduce G v ≡ freely_reduce G w
  removed-freely_reduce (removed b x a e f) = rw (e, f) (sym (freely_reduce_pair b x a))

  pub removals_freely_reduce : {w v : List A} → Removals G w v → freely_reduce G v ≡ freely_reduce G w
  removals_freely_reduce (none e) = rw e
  removals_freely_reduce (more r s) = removals_freely_reduce s ∙ removed-freely_reduce r

  -- "the outcome doesn't depend on the order of removal"
  pub removals_outcome : {w v : List A} → Removals G w v → Irreducible G v → v ≡ freely_reduce G w
  removals_outcome {v = v} r h = sym (freely_reduce-same v h) ∙ removals_freely_reduce r

  pub removals_then : {w u v : List A} → Removals G w u → Removals G u v → Removals G w v
  removals_then (none e) s = rw e s
  removals_then (more r t) s = more r (removals_then t s)

  pub removed-cons : (x : A) {w v : List A} → Removed G w v → Removed G (x ∷ w) (x ∷ v)
  removed-cons x (removed b y a e f) = removed (x ∷ b) y a (ap (◌∷◌ x) e) (ap (◌∷◌ x) f)

  pub removals_cons : (x : A) {w v : List A} → Removals G w v → Removals G (x ∷ w) (x ∷ v)
  removals_cons x (none e) = none (ap (◌∷◌ x) e)
  removals_cons x (more r s) = more (removed-cons x r) (removals_cons x s)

  removals_push : (x : A) (w : List A) → Removals G (x ∷ w) (push G x w)
  removals_push x [] = none refl
  removals_push x (y ∷ w) = elim (same? G L y (flip x)) [
    | yes e ↦ more (removed [] x w (ap (λ (z : A). x ∷ z ∷ w) e) refl) (none (sym (push_cancel x y w e)))
    | no n ↦ none (sym (push_keep x y w n))
  ]

  -- some list of removals comes to an end
  pub removals_exist : (w : List A) → Removals G w (freely_reduce G w)
  removals_exist [] = none refl
  removals_exist (x ∷ w) = removals_then (removals_cons x (removals_exist w)) (removals_push x (freely_reduce G w))

  pub freely_reduces : (w : List A) → FreelyReducesTo G w (freely_reduce G w)
  freely_reduces w = record { removed = removals_exist w; none_left = freely_reduce_irreducible w }

  pub freely_reduce-snoc_cancel : (w u : List A) (x y : A) → freely_reduce G w ≡ u ++ (y ∷ []) → y ≡ flip x → freely_reduce G (w ++ (x ∷ [])) ≡ u
  freely_reduce-snoc_cancel w u x y e f = rw (freely_reduce_left w (x ∷ []), e, append_assoc, f, freely_reduce_pair_flip u x [], append-nil)
      (freely_reduce-same u (irreducible_prefix u (y ∷ []) (rw e at (freely_reduce_irreducible w))))

  pub freely_reduce-snoc_keep : (w u : List A) (x y : A) → freely_reduce G w ≡ u ++ (y ∷ []) → (y ≡ flip x → ⊥)
      → freely_reduce G (w ++ (x ∷ [])) ≡ u ++ (y ∷ x ∷ [])
  freely_reduce-snoc_keep w u x y e n = rw (freely_reduce_left w (x ∷ []), e, append_assoc)
      (freely_reduce-same (u ++ (y ∷ x ∷ []))
      (irreducible_join u [] y x (rw e at (freely_reduce_irreducible w)) tt (λ q. n (flip_turn G L x y q))))
