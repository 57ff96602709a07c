-- Stallings' theorem: in a folded graph of a system, however it was folded, a freely reduced word is that of a path from base to base exactly
-- when the system generates it. So tracing decides what is generated, and all folded graphs of a system say the same.
use Prim.Native.Nat.{ℕ, suc}
use mathlib.Core.Bool.{Bool, true, false}
use mathlib.Core.List.{List, [], ◌∷◌, ◌++◌, append-nil, append_assoc, map}
use mathlib.Core.Logic.{◌↔◌}
use mathlib.Core.Path.{◌≡◌, refl, sym, ap₂}
use native.Mathlib.Decide.{dec_lt}
use native.Mathlib.Omega.{arith}
use lib.ListN.{get_or-eq_default, length}
use Rattle.std.proofs.lemmas.List.Elements.{Contains-get_or}
use Rattle.words.specs.Alphabet.{Alphabet}
use Rattle.words.specs.Words.{freely_reduce}
use Rattle.words.proofs.Alphabet.{AlphabetLaws}
use Rattle.words.proofs.FreeReduction.{freely_reduce_twice}
use Rattle.systems.specs.Products.{Generated, spelled, value, word}
use Rattle.systems.specs.declared.Factor.{Factor}
use Rattle.systems.proofs.Cosets.{SameCoset, coset_generated, generated-same, same_coset_refl, same_coset_times, same_coset_trans, reduced_generated}
use Rattle.systems.proofs.Equivalence.{freely_reduced-same, reduced-multiplied, words-freely_reduced}
use Rattle.graphs.specs.Folding.{folded_graph, folded_within, is_base, leads, member_by_graph, total, traces_back, walk}
use Rattle.graphs.specs.Graphs.{FoldedGraph, Path, loops}
use Rattle.graphs.specs.declared.Edge.{Edge}
use Rattle.graphs.proofs.FirstFold.{folded_graph_is}
use Rattle.graphs.proofs.Folds.{Marked, folds_marked, folds_path}
use Rattle.graphs.proofs.Loops.{beginning, beginning_base, beginnings_marked, loops_path}
use Rattle.graphs.proofs.Paths.{path-freely_reduce, path_append, path_inverse}
use Rattle.graphs.proofs.Walks.{traces_back_path}

module _ (G : Alphabet ℕ) (L : AlphabetLaws G) (S : List (List ℕ)) where
  -- a path leads from the coset of a word to that of the word, then the letters of the path
  path_marked : (word_of : ℕ → List ℕ) (t : List Edge) → Marked G L S word_of t
      → (w : List ℕ) (p q : ℕ) → Path G t p w q → SameCoset G L S (word_of p ++ w) (word_of q)
  path_marked word_of t h [] p q k = rw (append-nil, k) (same_coset_refl G L S (word_of q))
  path_marked word_of t h (x ∷ w) p q k =
      same_coset_trans G L S (word_of p ++ (x ∷ w)) (word_of k.0 ++ w) (word_of q)
      (rw (append_assoc (word_of p) (x ∷ []) w) at (same_coset_times G L S (word_of p ++ (x ∷ [])) (word_of k.0) w (h p x k.0 k.1)))
      (path_marked word_of t h w k.0 q k.2)

  module _ (t : List Edge) (g : FoldedGraph G S t) where
    -- the word of a path from base to base is generated
    path_generated : (w : List ℕ) → Path G t 0 w 0 → Generated G S w
    path_generated w h = coset_generated G L S w
        (rw (beginning_base ws) at (path_marked (beginning 1 ws) t (folds_marked G L S (beginning 1 ws) g.folds (beginnings_marked G L S ws (reduced_generated G L S))) w 0 0 h))
      where
        ws : List (List ℕ)
        ws = map (freely_reduce G) S

    -- each freely reduced word of the system is the word of a path from base to base, so is each product
    word_path : (k : ℕ) → Path G t 0 (word G (map (freely_reduce G) S) k) 0
    word_path k = elim (dec_lt k (length (map (freely_reduce G) S))) [
      | yes l ↦ folds_path G L g.folds (word G (map (freely_reduce G) S) k)
          (loops_path G L (map (freely_reduce G) S) 1 (word G (map (freely_reduce G) S) k) (Contains-get_or (map (freely_reduce G) S) k [] l))
      | no n ↦ (let e : word G (map (freely_reduce G) S) k ≡ [] = get_or-eq_default (map (freely_reduce G) S) [] (omega arith) in rw (e) refl)
    ]

    value_path : (f : Factor) → Path G t 0 (value G (map (freely_reduce G) S) f) 0
    value_path f = go f.inverted
      where
        go : (b : Bool) → Path G t 0 (value G (map (freely_reduce G) S) (record { slot = f.slot; inverted = b })) 0
        go true = path_inverse G L t (word G (map (freely_reduce G) S) f.slot) 0 0 (word_path f.slot)
        go false = word_path f.slot

    product_path : (p : List Factor) → Path G t 0 (spelled G (map (freely_reduce G) S) p) 0
    product_path [] = refl
    product_path (f ∷ p) = path_append G L t (value G (map (freely_reduce G) S) f) (spelled G (map (freely_reduce G) S) p) 0 0 0 (value_path f) (product_path p)

    generated_path : (w : List ℕ) → Generated G S w → Path G t 0 (freely_reduce G w) 0
    generated_path w a = rw (reduced-multiplied G L S a.0, a.2) at
        (path-freely_reduce G L t g.none_left (spelled G (map (freely_reduce G) S) a.0) 0 0 (product_path a.0))

    pub path_decides : (w : List ℕ) → Path G t 0 (freely_reduce G w) 0 ↔ Generated G S w
    path_decides w = (λ h. generated-same G L S (freely_reduce G w) w (freely_reduce_twice G L w) (path_generated (freely_reduce G w) h), generated_path w)

    pub graph_decides : (w : List ℕ) → (traces_back G t w ≡ true) ↔ Generated G S w
    graph_decides w =
        let traced = traces_back_path G L t g.none_left w in
        (λ e. (path_decides w).0 (traced.0 e), λ a. traced.1 ((path_decides w).1 a))

  -- two folded graphs of one system, however folded, say the same
  pub graphs_agree : (s t : List Edge) → FoldedGraph G S s → FoldedGraph G S t → (w : List ℕ) → traces_back G s w ≡ traces_back G t w
  graphs_agree s t g h w = same (traces_back G s w) (traces_back G t w)
      (λ e. (graph_decides t h w).1 ((graph_decides s g w).0 e)) (λ e. (graph_decides s g w).1 ((graph_decides t h w).0 e))
    where
      same : (a b : Bool) → (a ≡ true → b ≡ true) → (b ≡ true → a ≡ true) → a ≡ b
      same true b f k = sym (f refl)
      same false true f k = k refl
      same false false f k = refl

  -- and so does the function
  pub member_by_graph-generated : (w : List ℕ) → (member_by_graph G S w ≡ true) ↔ Generated G S w
  member_by_graph-generated w = graph_decides (folded_graph G S) (folded_graph_is G L S) w

  pub traces_back-member_by_graph : (t : List Edge) → FoldedGraph G S t → (w : List ℕ) → traces_back G t w ≡ member_by_graph G S w
  traces_back-member_by_graph t g w = graphs_agree t (folded_graph G S) g (folded_graph_is G L S) w

  -- it makes no difference whether system and word were freely reduced before
  pub member_by_graph-freely_reduced : (w : List ℕ) → member_by_graph G (map (freely_reduce G) S) (freely_reduce G w) ≡ member_by_graph G S w
  unfolding traces_back
  member_by_graph-freely_reduced w =
      ap₂ (λ (T : List (List ℕ)) (v : List ℕ). is_base (walk (leads G (folded_within G (suc (total (loops 1 T))) (loops 1 T))) 0 v))
      (freely_reduced-same G L (map (freely_reduce G) S) (words-freely_reduced G L S)) (freely_reduce_twice G L w)
