-- Elements of lists: of a list and one element more, and of a list under a function.
use Prim.Native.Nat.{suc}
use mathlib.Core.Path.{◌≡◌, refl, sym, ap, ◌∙◌}
use mathlib.Core.Logic.{◌⊎◌, inl, inr}
use mathlib.Core.List.{List, [], ◌∷◌, map}
use native.Mathlib.Omega.{arith}
use lib.ListN.{length-map, get_or-map}
use Rattle.std.specs.Prelude.{Contains}
use Rattle.std.proofs.lemmas.List.Elements.{Contains-append_cases}

module _ {X : Type 0} where
  pub contains-nil : (x : X) → Contains [] x → ⊥
  contains-nil x h = omega (arith, h.1)

  pub contains_head : (x : X) (xs : List X) → Contains (x ∷ xs) x
  contains_head x xs = (0, omega arith, refl)

  pub contains_tail : (y : X) (xs : List X) (x : X) → Contains xs x → Contains (y ∷ xs) x
  contains_tail y xs x h = (suc h.0, omega (arith, h.1), h.2)

  contains_only : (y x : X) → Contains (y ∷ []) x → x ≡ y
  contains_only y x h = let e : h.0 ≡ 0 = omega (arith, h.1) in sym (rw e at h.2)

  pub contains-cons_cases : (y : X) (xs : List X) (x : X) → Contains (y ∷ xs) x → (x ≡ y) ⊎ Contains xs x
  contains-cons_cases y xs x h = elim (Contains-append_cases (y ∷ []) xs x h) [
    | inl k ↦ inl (contains_only y x k)
    | inr k ↦ inr k
  ]

module _ {X Y : Type 0} (f : X → Y) where
  pub contains-map : (xs : List X) (x : X) → Contains xs x → Contains (map f xs) (f x)
  contains-map xs x h = (h.0, rw (length-map) h.1, get_or-map f xs h.0 x ∙ ap f h.2)

  pub contains_of_map : (xs : List X) (y : Y) → Contains (map f xs) y → (x : X) × Contains xs x × (f x ≡ y)
  contains_of_map [] y h = absurd (contains-nil y h)
  contains_of_map (x ∷ xs) y h = elim (contains-cons_cases (f x) (map f xs) y h) [
    | inl e ↦ (x, contains_head x xs, sym e)
    | inr k ↦ (let r = contains_of_map xs y k in (r.0, contains_tail x xs r.0 r.1, r.2))
  ]
