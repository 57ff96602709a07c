-- How many moves the rules make at most on m words of g letters in all: "never more than 2 times m times (m - 1) times (g + 1), plus g". At
-- most g moves shorten. Before, between and after them each of the m words is chosen in one unbroken series of half-end moves at most, and each
-- of these leaves one fewer of the factors of other slots, at most 2 (m - 1), that begin with the inverse of its second half.
use Prim.Native.Nat.{ℕ, suc, ◌+◌, ◌-◌, ◌*◌, ◌≤◌}
use mathlib.Core.Path.{◌≡◌}
use Rattle.std.specs.Prelude.{None}
use mathlib.Core.List.{List, [], ◌∷◌}
use native.Mathlib.Nat.{mul-le-mul, mul-le-mul_right}
use native.Mathlib.Omega.{arith}
use native.Mathlib.Decide.{dec_lt}
use lib.ListN.{length}
use Rattle.words.specs.Alphabet.{Alphabet}
use Rattle.words.proofs.Alphabet.{AlphabetLaws}
use Rattle.systems.specs.Products.{FreelyReduced}
use Rattle.systems.specs.Rules.{next, moves_within, run_within}
use Rattle.systems.specs.Bound.{letters_of, most_moves}
use Rattle.systems.proofs.Neither.{Within, moves-most, moves_ended}
use Rattle.systems.proofs.Ending.{all_turns, moves_left, all_turns_few, ends_within}

-- g shortenings, and g + 1 stretches before, between and after them
stretches : (m l g t : ℕ) → t ≤ m * (2 * l) → g * (m * (2 * l) + 1) + t ≤ 2 * m * l * (g + 1) + g
stretches m l g t h = omega arith

-- the bound grows with the words and the letters
most_moves_le : (m n g k : ℕ) → m ≤ n → g ≤ k → most_moves m g ≤ most_moves n k
most_moves_le m n g k words letters =
    let pairs : 2 * m * (m - 1) ≤ 2 * n * (n - 1) = mul-le-mul (omega arith) (omega arith) in
    let product : 2 * m * (m - 1) * (g + 1) ≤ 2 * n * (n - 1) * (k + 1) = mul-le-mul pairs (omega arith) in
    omega arith

module _ {A : Type 0} (G : Alphabet A) where
  -- words of at most b letters each
  letters_of_within : (S : List (List A)) (b : ℕ) → Within G b S → letters_of S ≤ length S * b
  letters_of_within [] b h = omega arith
  letters_of_within (w ∷ S) b h = omega (arith, h 0, letters_of_within S b (λ k. h (suc k)))

  -- at most m of them
  pub most_moves_within : (S : List (List A)) (m b : ℕ) → length S ≤ m → Within G b S
      → most_moves (length S) (letters_of S) ≤ most_moves m (m * b)
  most_moves_within S m b few h =
      most_moves_le (length S) m (letters_of S) (m * b) few (omega (arith, letters_of_within S b h, mul-le-mul_right b few))

  module _ (L : AlphabetLaws G) (no_own_inverse : (x : A) → G.flip x ≡ x → ⊥) where
    moves_left_few : (S : List (List A)) → moves_left G S ≤ most_moves (length S) (letters_of S)
    moves_left_few S = stretches (length S) (length S - 1) (letters_of S) (all_turns G S) (all_turns_few G L S)

    -- after so many moves neither rule applies
    pub every_run_ends : (S : List (List A)) → FreelyReduced G S → (n : ℕ) → most_moves (length S) (letters_of S) ≤ n
        → next G (run_within G n S) ≡ None
    every_run_ends S freely n h = ends_within G L no_own_inverse n S freely (omega (arith, h, moves_left_few S))

    -- so the rules never make more, with whatever room
    pub moves_bounded : (S : List (List A)) → FreelyReduced G S → (n : ℕ) → length (moves_within G n S) ≤ most_moves (length S) (letters_of S)
    moves_bounded S freely n =
        let b : ℕ = most_moves (length S) (letters_of S) in
        elim (dec_lt n b) [
          | yes l ↦ omega (arith, moves-most G n S)
          | no l ↦ rw (moves_ended G b n S (every_run_ends S freely b (omega arith)) (omega arith)) (moves-most G b S)
        ]
