-- Before the first fold: each point is itself, no step is filed, and the edges lie between few points; and what an answer at the end says of
-- the system.
use Prim.Native.Nat.{ℕ, suc, ◌+◌, ◌-◌, ◌*◌, ◌≤◌, ◌<◌}
use mathlib.Core.Bool.{Bool}
use mathlib.Core.List.{List, [], ◌∷◌, map}
use mathlib.Core.Path.{◌≡◌, refl, sym, ap, ◌∙◌}
use native.Mathlib.Decide.{dec_lt}
use native.Mathlib.Omega.{arith}
use lib.ListN.{get_or, get_or-eq_default, length, length-append, replicate}
use Rattle.std.specs.Prelude.{All, Ok, None}
use Rattle.std.proofs.lemmas.List.{get_or-replicate, length-replicate}
use Rattle.std.proofs.lemmas.List.Elements.{All-append, All-cons, All-head, All-nil, All-tail}
use Rattle.std.proofs.lemmas.Option.{none-some}
use Rattle.words.specs.Alphabet.{bytes}
use Rattle.words.proofs.Alphabet.{byte_laws}
use Rattle.systems.specs.Products.{FreelyReduced}
use Rattle.systems.proofs.Equivalence.{freely_reduced-same}
use Rattle.graphs.specs.Folding.{member_by_graph}
use Rattle.graphs.specs.Graphs.{loops_of, edge, loop, loops, moved_edge, none as no_fold}
use Rattle.graphs.specs.declared.Edge.{Edge}
use Rattle.graphs.proofs.Deciding.{traces_back-member_by_graph}
use Rattle.graphs.proofs.Loops.{loop-length}
use Rattle.records.specs.Records.{AllLetters}
use Rattle.slots.specs.Refusals.{system_rules}
use Rattle.slots.specs.Systems.{AllShort, LetterWords, freely_reduced_words, system_of}
use Rattle.slots.proofs.RoundTrip.{reduced-short, reduced_letters, words-length}
use Rattle.slots.proofs.Systems.{system-few}
use Rattle.folding.specs.Filing.{entry_point, lead, place, point}
use Rattle.folding.specs.Loops.{points_with_loops}
use Rattle.folding.specs.Sweeps.{EdgeAmong, FoldedSoFar, TracedIn}

module _ (edges : List Edge) (points index : List ℕ) (among : All (EdgeAmong (length points)) edges) (few : length points ≤ 993)
    (own : (p : ℕ) → p < length points → point points p ≡ p) where
  own_edges : (t : List Edge) → All (EdgeAmong (length points)) t → t ≡ map (moved_edge (point points)) t
  own_edges [] h = refl
  own_edges (e ∷ t) h =
      let a = All-head (EdgeAmong (length points)) e t h in
      rw (own e.from a.0, own e.to a.1) (ap (λ (s : List Edge). e ∷ s) (own_edges t (All-tail (EdgeAmong (length points)) e t h)))

  own_low : (p : ℕ) → p < length points → point points p < length points
  own_low p h = rw (own p h) h

  own_base : point points 0 ≡ 0
  own_base = elim (dec_lt 0 (length points)) [
    | yes h ↦ own 0 h
    | no n ↦ get_or-eq_default points 0 (omega arith)
  ]

  own_settled : (p : ℕ) → point points (point points p) ≡ point points p
  own_settled p = elim (dec_lt p (length points)) [
    | yes h ↦ ap (point points) (own p h)
    | no n ↦ (let e : point points p ≡ 0 = get_or-eq_default points 0 (omega arith) in rw (e) own_base)
  ]

  module _ (room : length points * 58 ≤ length index) (nothing : (i : ℕ) → get_or index i 0 ≡ 0) where
    nowhere : (p x : ℕ) → lead points index p x ≡ None
    unfolding lead
    nowhere p x = ap (entry_point points) (nothing (place p x))

    pub start_folding : FoldedSoFar edges points index
    start_folding =
        record {
          fits = record { few = few; room = room; low = own_low; filed_low = λ i. omega (arith, nothing i) };
          among = among;
          folds = no_fold (own_edges edges among);
          base = own_base;
          settled = own_settled;
          sound = λ p x q l o h. absurd (none-some q (sym (nowhere p x) ∙ h));
        }

-- an index of zeros has nothing filed
pub zeros_empty : (n i : ℕ) → get_or {A = ℕ} (replicate n 0) i 0 ≡ 0
zeros_empty n i = elim (dec_lt i n) [
  | yes h ↦ get_or-replicate n i 0 0 h
  | no h ↦ (let l : length (replicate {A = ℕ} n 0) ≤ i = omega (arith, length-replicate {A = ℕ} n 0) in get_or-eq_default (replicate {A = ℕ} n 0) 0 l)
]

-- the loops of words lie between the points that were counted
loop_among : (w : List ℕ) → AllLetters w → (p n m : ℕ) → p < m → 1 ≤ m → n + (length w - 1) ≤ m → All (EdgeAmong m) (loop p n w)
loop_among [] l p n m a b c = All-nil (EdgeAmong m)
loop_among (x ∷ []) l p n m a b c = All-cons (EdgeAmong m) (edge p x 0) [] (a, b, l.0) (All-nil (EdgeAmong m))
loop_among (x ∷ y ∷ w) l p n m a b c =
    All-cons (EdgeAmong m) (edge p x n) (loop n (suc n) (y ∷ w)) (a, omega arith, l.0)
    (loop_among (y ∷ w) l.1 n (suc n) m (omega arith) b (omega arith))

points-more : (n : ℕ) (S : List (List ℕ)) → n ≤ points_with_loops n S
points-more n [] = omega arith
points-more n (w ∷ S) = omega (arith, points-more (n + (length w - 1)) S)

loops_among : (n m : ℕ) (S : List (List ℕ)) → 1 ≤ n → points_with_loops n S ≤ m → LetterWords S → All (EdgeAmong m) (loops n S)
loops_among n m [] a b l = All-nil (EdgeAmong m)
loops_among n m (w ∷ S) a b l =
    let more = points-more (n + (length w - 1)) S in
    All-append (EdgeAmong m) (loop 0 n w) (loops (n + (length w - 1)) S)
    (loop_among w (l 0) 0 n m (omega arith) (omega arith) (omega (arith, more, b)))
    (loops_among (n + (length w - 1)) m S (omega arith) b (λ k. l (suc k)))

pub laid_among : (S : List (List ℕ)) {edges : List Edge} {n : ℕ} → LetterWords S → edges ≡ loops 1 S → n ≡ points_with_loops 1 S → All (EdgeAmong n) edges
laid_among S {n = n} l laid count = rw (laid) (loops_among 1 n S (omega arith) (omega (arith, count)) l)

-- how many edges and points there are at most
loops-length : (n : ℕ) (S : List (List ℕ)) → AllShort S → length (loops n S) ≤ length S * 63
loops-length n [] h = omega arith
loops-length n (w ∷ S) h =
    omega (arith, h 0, length-append (loop 0 n w) (loops (n + (length w - 1)) S), loop-length w 0 n, loops-length (n + (length w - 1)) S (λ k. h (suc k)))

points-few : (n : ℕ) (S : List (List ℕ)) → AllShort S → points_with_loops n S ≤ n + length S * 62
points-few n [] h = omega arith
points-few n (w ∷ S) h = omega (arith, h 0, points-few (n + (length w - 1)) S (λ k. h (suc k)))

module _ (S : List (List ℕ)) (few : length S ≤ 16) (short : AllShort S) where
  edges_few : length (loops 1 S) ≤ 1008
  edges_few = omega (arith, few, loops-length 1 S short)

  edges_low : LetterWords S → All (EdgeAmong 993) (loops 1 S)
  edges_low l = loops_among 1 993 S (omega arith) (omega (arith, few, points-few 1 S short)) l

-- what is told by the folded loops of a system is told by its folded graph
pub told_by_graph : (S : List (List ℕ)) {edges : List Edge} (w : List ℕ) {b : Bool} → FreelyReduced bytes S → edges ≡ loops 1 S → TracedIn edges w b
    → b ≡ member_by_graph bytes S w
told_by_graph S {edges = edges} w h laid t =
    t.told ∙ traces_back-member_by_graph bytes byte_laws S t.graph
    (rw (freely_reduced-same bytes byte_laws S h, ← laid) t.folded) w

-- the loops of a system that passes its tests
pub system_loops : (s : List ℕ) → system_rules s ≡ Ok tt
    → (length (loops_of bytes (system_of s)) ≤ 1008) × All (EdgeAmong 993) (loops_of bytes (system_of s))
unfolding freely_reduced_words
system_loops s e =
    let few : length (freely_reduced_words s) ≤ 16 = omega (arith, words-length s, system-few s e) in (
      edges_few (freely_reduced_words s) few (reduced-short s),
      edges_low (freely_reduced_words s) few (reduced-short s) (reduced_letters s e),
    )
