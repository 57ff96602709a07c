-- What a whole run of the rules gives. The given words S are freely reduced first, to map (freely_reduce G) S; the moves made are
-- moves_within G n (map (freely_reduce G) S), and run_within G n (map (freely_reduce G) S) is what they leave. Where no further move is to be
-- made, that is reduced, and from it the independence of the given words is read off. Last come the laws of the loops that run and count.
use Prim.Native.Nat.{ℕ, ◌+◌, ◌≤◌}
use mathlib.Core.Path.{◌≡◌, refl, sym, ◌∙◌}
use mathlib.Core.Logic.{◌↔◌}
use mathlib.Core.Bool.{true}
use Rattle.std.specs.Prelude.{None, Some}
use mathlib.Core.List.{List, [], ◌∷◌, ◌++◌, map}
use native.Mathlib.Omega.{arith}
use lib.ListN.{length, take, drop, length-append, length-map}
use Rattle.words.specs.Alphabet.{Alphabet}
use Rattle.words.specs.Words.{freely_reduce}
use Rattle.words.proofs.Alphabet.{AlphabetLaws}
use Rattle.words.proofs.FreeReduction.{length-freely_reduce}
use Rattle.systems.specs.Products.{word, Equivalent, Independent, FreelyReduced}
use Rattle.systems.specs.Moves.{made, made_all, undone_all}
use Rattle.systems.specs.declared.Move.{Move}
use Rattle.systems.specs.Reduced.{Reduced}
use Rattle.systems.specs.Rules.{next, moves_within, run_within}
use Rattle.systems.specs.Rank.{none_blank, rank}
use Rattle.systems.proofs.Undoing.{AllApart, made_all-undone, made_all-undone_to}
use Rattle.systems.proofs.Equivalence.{reduced-word, words-freely_reduced, reduced-multiplied, run-equivalent}
use Rattle.systems.proofs.ProductLaws.{named-over, over-named}
use Rattle.systems.proofs.Independence.{independent-moves, independent-none_blank}
use Rattle.systems.proofs.Neither.{ValidMoves, Within, made_all_way_within, moves_last, run_last, moves_ended, moves_full, run-freely_reduced, run_valid, run-within, run-reduced}
use Rattle.systems.proofs.Unique.{reduced-independent}

module _ {A : Type 0} (G : Alphabet A) (L : AlphabetLaws G) where
  valid_apart : (S : List (List A)) (ms : List Move) → ValidMoves G S ms → AllApart ms
  valid_apart S [] v = tt
  valid_apart S (m ∷ ms) v = (v.0.allowed.distinct, valid_apart (made G S m) ms v.1)

  pub run_apart : (n : ℕ) (S : List (List A)) → FreelyReduced G S → AllApart (moves_within G n S)
  run_apart n S freely = valid_apart S (moves_within G n S) (run_valid G L n S freely)

  pub reduced-within : (S : List (List A)) (b : ℕ) → Within G b S → Within G b (map (freely_reduce G) S)
  reduced-within S b h k = rw (reduced-word G L S k) (omega (arith, length-freely_reduce G L (word G S k), h k))

  -- the freely reduced words are independent exactly when the given ones are
  freely_reduced-independent : (S : List (List A)) → Independent G (map (freely_reduce G) S) ↔ Independent G S
  freely_reduced-independent S =
      let same : length (map (freely_reduce G) S) ≡ length S = length-map S (freely_reduce G) in (
        λ i p o e. i p (named-over G L (map (freely_reduce G) S) p (rw same (over-named G L S p o))) (reduced-multiplied G L S p ∙ e),
        λ i p o e. i p (named-over G L S p (rw same at (over-named G L (map (freely_reduce G) S) p o))) (sym (reduced-multiplied G L S p) ∙ e),
      )

  -- the words that a run leaves generate the same words as the given ones
  pub equivalent : (n : ℕ) (S : List (List A)) → Equivalent G S (run_within G n (map (freely_reduce G) S))
  equivalent n S =
      run-equivalent G L S (moves_within G n (map (freely_reduce G) S)) (run_apart n (map (freely_reduce G) S) (words-freely_reduced G L S))

  module _ (n : ℕ) (T : List (List A)) (start : FreelyReduced G T) where
    -- forward along the moves, from the freely reduced words to those that the run leaves
    pub forward : made_all G T (moves_within G n T) ≡ run_within G n T
    forward = refl

    -- "Backward undoes the last move first.": it comes back to them
    pub backward : undone_all G (run_within G n T) (moves_within G n T) ≡ T
    backward = made_all-undone G L T (moves_within G n T) start (run_apart n T start)

    -- and through the systems of the way there
    pub backward_to : (i : ℕ) → undone_all G (run_within G n T) (drop i (moves_within G n T)) ≡ made_all G T (take i (moves_within G n T))
    backward_to i = made_all-undone_to G L T (moves_within G n T) i start (run_apart n T start)

    module _ (b : ℕ) (short : Within G b T) where
      pub forward-within : Within G b (run_within G n T)
      forward-within = run-within G L n T b start short

      pub forward_way_within : (i : ℕ) → Within G b (made_all G T (take i (moves_within G n T)))
      forward_way_within i = made_all_way_within G T (moves_within G n T) i b (run_valid G L n T start) short

      pub backward_way_within : (i : ℕ) → Within G b (undone_all G (run_within G n T) (drop i (moves_within G n T)))
      backward_way_within i = rw (backward_to i) (forward_way_within i)

  module _ (no_own_inverse : (x : A) → G.flip x ≡ x → ⊥) (n : ℕ) (S : List (List A)) (ended : next G (run_within G n (map (freely_reduce G) S)) ≡ None) where
    -- "repeat until neither rule applies": what is left is reduced
    start : FreelyReduced G (map (freely_reduce G) S)
    start = words-freely_reduced G L S

    pub reduced : Reduced G (run_within G n (map (freely_reduce G) S))
    reduced = run-reduced G L no_own_inverse n (map (freely_reduce G) S) start ended

    -- Nielsen's theorems 2 and 3: the given words are independent exactly when no slot is blank at the end
    pub independence : (none_blank (run_within G n (map (freely_reduce G) S)) ≡ true) ↔ Independent G S
    independence =
        let T : List (List A) = map (freely_reduce G) S in
        let moves = independent-moves G L T (moves_within G n T) start (run_apart n T start) in (
          λ e. (freely_reduced-independent S).0 (moves.1 (reduced-independent G L (run_within G n T) (run-freely_reduced G L n T start) reduced e)),
          λ i. independent-none_blank G L (run_within G n T) (moves.0 ((freely_reduced-independent S).1 i)),
        )

module _ {A : Type 0} (G : Alphabet A) (S current : List (List A)) (used : ℕ) (here : current ≡ run_within G used S) where
  module _ (m : Move) (more : next G current ≡ Some m) where
    -- one move more is made
    pub turn_run : made G current m ≡ run_within G (used + 1) S
    turn_run = rw here (sym (run_last G used S m (rw here at more)))

    -- and logged
    pub turn_moves : (logged : List Move) → logged ≡ moves_within G used S → logged ++ (m ∷ []) ≡ moves_within G (used + 1) S
    turn_moves logged log = rw log (sym (moves_last G used S m (rw here at more)))

    pub turn_length : length (moves_within G (used + 1) S) ≡ used + 1
    turn_length =
        let e : next G (run_within G used S) ≡ Some m = rw here at more in
        rw (moves_last G used S m e, length-append, moves_full G used S m e)

  -- no further move: the run has come to its end, and more room would change nothing
  module _ (ended : next G current ≡ None) (room : ℕ) (enough : used ≤ room) where
    pub ended_moves : (logged : List Move) → logged ≡ moves_within G used S → moves_within G room S ≡ logged
    ended_moves logged log = moves_ended G used room S (rw here at ended) enough ∙ sym log

-- the rank of two systems one after the other
module _ {A : Type 0} where
  pub rank-append : (S T : List (List A)) → rank (S ++ T) ≡ rank S + rank T
  rank-append [] T = omega arith
  rank-append ([] ∷ S) T = rank-append S T
  rank-append ((a ∷ w) ∷ S) T = omega (arith, rank-append S T)

  -- one word more at the end, blank or not
  pub rank_blank : (S : List (List A)) (w : List A) → w ≡ [] → rank (S ++ (w ∷ [])) ≡ rank S
  rank_blank S w e = rw e (omega (arith, rank-append S ([] ∷ [])))

  pub rank-word : (S : List (List A)) (w : List A) → (w ≡ [] → ⊥) → rank (S ++ (w ∷ [])) ≡ rank S + 1
  rank-word S [] n = absurd (n refl)
  rank-word S (a ∷ w) n = rank-append S ((a ∷ w) ∷ [])
