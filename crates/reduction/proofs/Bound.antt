-- How long a log can get: the bound on the moves of a given system, and its number for the largest.
use Prim.Native.Nat.{◌≤◌, ℕ}
use mathlib.Core.List.{List}
use mathlib.Core.Path.{◌≡◌, ap, refl}
use native.Mathlib.Omega.{arith}
use lib.ListN.{length}
use Rattle.std.specs.Prelude.{Ok}
use Rattle.words.specs.Alphabet.{bytes}
use Rattle.words.proofs.Alphabet.{byte_laws, flip_byte_no_own_inverse}
use Rattle.systems.specs.Rules.{moves_within}
use Rattle.systems.specs.Bound.{letters_of, most_moves}
use Rattle.systems.proofs.Bound.{every_run_ends, most_moves_within, moves_bounded}
use Rattle.slots.specs.Refusals.{system_rules}
use Rattle.slots.specs.Systems.{freely_reduced_words}
use Rattle.slots.proofs.RoundTrip.{reduced-short, words-length}
use Rattle.slots.proofs.Systems.{loaded_freely_reduced, system-few}
use Rattle.reduction.specs.Meaning.{EnoughMoves, most_moves_on, most_moves_on_any}

-- "For the largest system that is 485,328 moves."
pub largest_bound : most_moves_on_any ≡ 485328
largest_bound = refl

-- the number of records is that of the words
same_bound : (s : List ℕ) → most_moves (length (freely_reduced_words s)) (letters_of (freely_reduced_words s)) ≡ most_moves_on s
same_bound s = ap (λ (m : ℕ). most_moves m (letters_of (freely_reduced_words s))) (words-length s)

pub moves_never_more : (s : List ℕ) (room : ℕ) → length (moves_within bytes room (freely_reduced_words s)) ≤ most_moves_on s
moves_never_more s room =
    omega (
      arith,
      same_bound s,
      moves_bounded bytes byte_laws flip_byte_no_own_inverse (freely_reduced_words s) (loaded_freely_reduced s) room,
    )

pub most_moves_enough : (s : List ℕ) → EnoughMoves s (most_moves_on s)
most_moves_enough s =
    every_run_ends bytes byte_laws flip_byte_no_own_inverse (freely_reduced_words s) (loaded_freely_reduced s) (most_moves_on s)
    (omega (arith, same_bound s))

pub none_larger : (s : List ℕ) → system_rules s ≡ Ok tt → most_moves_on s ≤ most_moves_on_any
none_larger s system =
    omega (
      arith,
      same_bound s,
      most_moves_within bytes (freely_reduced_words s) 16 63 (omega (arith, words-length s, system-few s system)) (reduced-short s),
    )
