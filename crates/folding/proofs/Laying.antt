-- Laying the loops of a system: one word more.
use Prim.Native.Nat.{ℕ, ◌+◌, ◌-◌, ◌≤◌, ◌<◌}
use mathlib.Core.List.{List, [], ◌∷◌, ◌++◌, append_assoc}
use mathlib.Core.Path.{◌≡◌, refl, sym, ap, ◌∙◌}
use native.Mathlib.Numerals.{add-one}
use lib.ListN.{drop, get_or, length, take}
use lib.Seq.{drop-cons}
use borrow.Rule.Slice.PartMut.{put_mid}
use Rattle.std.proofs.lemmas.Slice.{take-put_mid}
use Rattle.graphs.specs.Graphs.{loop, loops}
use Rattle.graphs.specs.declared.Edge.{Edge}
use Rattle.folding.specs.Loops.{points_with_loops}

module _ (S : List (List ℕ)) where
  loops-next : (k n : ℕ) → k < length S → loops n (drop k S) ≡ loop 0 n (get_or S k []) ++ loops (n + (length (get_or S k []) - 1)) (drop (k + 1) S)
  loops-next k n h = ap (loops n) (drop-cons S k [] h ∙ ap (λ (i : ℕ). get_or S k [] ∷ drop i S) (sym (add-one k)))

  points-next : (k n : ℕ) → k < length S → points_with_loops n (drop k S) ≡ points_with_loops (n + (length (get_or S k []) - 1)) (drop (k + 1) S)
  points-next k n h = ap (points_with_loops n) (drop-cons S k [] h ∙ ap (λ (i : ℕ). get_or S k [] ∷ drop i S) (sym (add-one k)))

  -- one word more is laid
  pub lay_more : (edges : List Edge) (k n : ℕ) {part : List Edge} {at j : ℕ} {w : List ℕ} → k < length S → w ≡ get_or S k [] → j ≡ length w - 1
      → part ≡ loop 0 n w → at ≤ length edges → length part ≡ length w → take at edges ++ loops n (drop k S) ≡ loops 1 S
      → take (at + length w) (put_mid at (at + length w - at) edges part) ++ loops (n + j) (drop (k + 1) S) ≡ loops 1 S
  lay_more edges k n {part = part} {at = at} {w = w} h is more laid room long before =
      rw (take-put_mid at (at + length w - at) edges part (at + length w) (rw (long) refl) room, append_assoc, laid, more, is)
      (ap (λ (z : List Edge). take at edges ++ z) (sym (loops-next k n h)) ∙ before)

  pub points_more : (k n : ℕ) (w : List ℕ) {j : ℕ} → k < length S → w ≡ get_or S k [] → j ≡ length w - 1
      → points_with_loops n (drop k S) ≡ points_with_loops 1 S → points_with_loops (n + j) (drop (k + 1) S) ≡ points_with_loops 1 S
  points_more k n w h is more before = rw (more, is) (sym (points-next k n h) ∙ before)
