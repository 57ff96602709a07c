-- The loops of a system before any fold: each word is the word of a path from base to base, and each point is marked by the beginning of the
-- word that leads to it.
use Prim.Native.Nat.{ℕ, suc, ◌+◌, ◌-◌, ◌≤◌, ◌<◌}
use mathlib.Core.Bool.{cond}
use mathlib.Core.List.{List, [], ◌∷◌, ◌++◌, append_assoc}
use mathlib.Core.Logic.{inl, inr}
use mathlib.Core.Path.{◌≡◌, refl, ap, ◌∙◌}
use native.Mathlib.Omega.{arith}
use lib.Dec.{ltb}
use lib.ListN.{length, take}
use borrow.Author.Tests.{le-ltb, lt-ltb}
use Rattle.std.specs.Prelude.{Contains}
use Rattle.std.proofs.lemmas.List.Elements.{Contains-append_cases, Contains-append_left, Contains-append_right}
use Rattle.words.specs.Alphabet.{Alphabet}
use Rattle.words.proofs.Alphabet.{AlphabetLaws}
use Rattle.words.proofs.Contained.{contains-cons_cases, contains-nil, contains_head, contains_tail}
use Rattle.systems.specs.Products.{Generated}
use Rattle.systems.proofs.Cosets.{SameCoset, generated_coset, same_coset_refl}
use Rattle.graphs.specs.Graphs.{Path, edge, loop, loops}
use Rattle.graphs.specs.declared.Edge.{Edge}
use Rattle.graphs.proofs.Folds.{Marked, marked_edges}
use Rattle.graphs.proofs.Paths.{path_within}
use Rattle.graphs.proofs.Steps.{step_edge}

-- the beginning of a word that leads to a point
abbrev pub beginning : ℕ → List (List ℕ) → ℕ → List ℕ
beginning n [] p = []
beginning n (w ∷ ws) p = cond (ltb p (n + (length w - 1))) (take (p + 1 - n) w) (beginning (n + (length w - 1)) ws p)

beginning_here : (n : ℕ) (w : List ℕ) (ws : List (List ℕ)) (p : ℕ) → p < n + (length w - 1) → beginning n (w ∷ ws) p ≡ take (p + 1 - n) w
beginning_here n w ws p h = rw (lt-ltb p (n + (length w - 1)) h)

beginning_later : (n : ℕ) (w : List ℕ) (ws : List (List ℕ)) (p : ℕ) → n + (length w - 1) ≤ p → beginning n (w ∷ ws) p ≡ beginning (n + (length w - 1)) ws p
beginning_later n w ws p h = rw (le-ltb p (n + (length w - 1)) h)

pub beginning_base : (ws : List (List ℕ)) → beginning 1 ws 0 ≡ []
beginning_base [] = refl
beginning_base (w ∷ ws) = beginning_here 1 w ws 0 (omega arith)

-- an edge for each letter
pub loop-length : (w : List ℕ) (p n : ℕ) → length (loop p n w) ≡ length w
loop-length [] p n = refl
loop-length (x ∷ []) p n = refl
loop-length (x ∷ y ∷ w) p n = ap suc (loop-length (y ∷ w) n (suc n))

module _ (G : Alphabet ℕ) (L : AlphabetLaws G) where
  loop_path : (p n x : ℕ) (w : List ℕ) → Path G (loop p n (x ∷ w)) p (x ∷ w) 0
  loop_path p n x [] = (0, step_edge G L (loop p n (x ∷ [])) p x 0 (contains_head (edge p x 0) []), refl)
  loop_path p n x (y ∷ w) = (
    n,
    step_edge G L (loop p n (x ∷ y ∷ w)) p x n (contains_head (edge p x n) (loop n (suc n) (y ∷ w))),
    path_within G L (loop n (suc n) (y ∷ w)) (loop p n (x ∷ y ∷ w)) (contains_tail (edge p x n) (loop n (suc n) (y ∷ w))) (y ∷ w) n 0
        (loop_path n (suc n) y w),
  )

  base_path : (n : ℕ) (w : List ℕ) → Path G (loop 0 n w) 0 w 0
  base_path n [] = refl
  base_path n (x ∷ w) = loop_path 0 n x w

  pub loops_path : (ws : List (List ℕ)) (n : ℕ) (w : List ℕ) → Contains ws w → Path G (loops n ws) 0 w 0
  loops_path [] n w h = absurd (contains-nil w h)
  loops_path (v ∷ ws) n w h = elim (contains-cons_cases v ws w h) [
    | inl e ↦ rw (e) (path_within G L (loop 0 n v) (loops n (v ∷ ws)) (Contains-append_left (loop 0 n v) _) v 0 0 (base_path n v))
    | inr k ↦ path_within G L _ (loops n (v ∷ ws)) (Contains-append_right (loop 0 n v) _) w 0 0 (loops_path ws _ w k)
  ]

  module _ (S : List (List ℕ)) (word_of : ℕ → List ℕ) (base : word_of 0 ≡ []) where
    abbrev MarkedEdges : List Edge → Type 0
    MarkedEdges t = (p x q : ℕ) → Contains t (edge p x q) → SameCoset G L S (word_of p ++ (x ∷ [])) (word_of q)

    -- the loop of the word u, then v, from the point of u on
    loop_marked : (p n : ℕ) (u v : List ℕ) → Generated G S (u ++ v) → word_of p ≡ u
        → ((k : ℕ) → n ≤ k → k < n + (length v - 1) → word_of k ≡ u ++ take (k + 1 - n) v) → MarkedEdges (loop p n v)
    loop_marked p n u [] g e h a x b c = absurd (contains-nil (edge a x b) c)
    loop_marked p n u (y ∷ []) g e h a x b c = elim (contains-cons_cases (edge p y 0) [] (edge a x b) c) [
      | inl i ↦ (
          let from : a ≡ p = ap (λ (z : Edge). z.from) i in
          let by : x ≡ y = ap (λ (z : Edge). z.letter) i in
          let to : b ≡ 0 = ap (λ (z : Edge). z.to) i in
          rw (from, by, to, base, e) (generated_coset G L S (u ++ (y ∷ [])) g))
      | inr i ↦ absurd (contains-nil (edge a x b) i)
    ]
    loop_marked p n u (y ∷ z ∷ v) g e h a x b c =
        let here : word_of n ≡ u ++ (y ∷ []) = h n (omega arith) (omega arith) ∙ rw (one n) in
        elim (contains-cons_cases (edge p y n) (loop n (suc n) (z ∷ v)) (edge a x b) c) [
          | inl i ↦ (
              let from : a ≡ p = ap (λ (z : Edge). z.from) i in
              let by : x ≡ y = ap (λ (z : Edge). z.letter) i in
              let to : b ≡ n = ap (λ (z : Edge). z.to) i in
              rw (from, by, to, here, e) (same_coset_refl G L S (u ++ (y ∷ []))))
          | inr i ↦ loop_marked n (suc n) (u ++ (y ∷ [])) (z ∷ v) (rw (append_assoc u (y ∷ []) (z ∷ v)) g) here
              (λ k l m. h k (omega arith) (omega arith) ∙ rw (next k n l, append_assoc u (y ∷ []) (take (k + 1 - suc n) (z ∷ v)))) a x b i
        ]
      where
        one : (n : ℕ) → n + 1 - n ≡ 1
        one n = omega arith

        next : (k n : ℕ) → suc n ≤ k → k + 1 - n ≡ suc (k + 1 - suc n)
        next k n l = omega arith

    loops_marked : (n : ℕ) (ws : List (List ℕ)) → ((w : List ℕ) → Contains ws w → Generated G S w)
        → ((k : ℕ) → n ≤ k → word_of k ≡ beginning n ws k) → MarkedEdges (loops n ws)
    loops_marked n [] g h a x b c = absurd (contains-nil (edge a x b) c)
    loops_marked n (w ∷ ws) g h a x b c = elim (Contains-append_cases (loop 0 n w) _ (edge a x b) c) [
      | inl i ↦ loop_marked 0 n [] w (g w (contains_head w ws)) base (λ k l m. h k l ∙ beginning_here n w ws k m) a x b i
      | inr i ↦ loops_marked (n + (length w - 1)) ws (λ v k. g v (contains_tail w ws v k))
          (λ k l. h k (omega arith) ∙ beginning_later n w ws k l) a x b i
    ]

  -- marked by the beginnings of words that a system generates
  pub beginnings_marked : (S ws : List (List ℕ)) → ((w : List ℕ) → Contains ws w → Generated G S w) → Marked G L S (beginning 1 ws) (loops 1 ws)
  beginnings_marked S ws g = marked_edges G L S (beginning 1 ws) (loops 1 ws)
      (loops_marked S (beginning 1 ws) (beginning_base ws) 1 ws g (λ k l. refl))
