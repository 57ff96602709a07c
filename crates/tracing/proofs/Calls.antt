-- The call trace: what its tests tell once they are passed, and the verdict on the words that were taken in.
use Prim.Native.Nat.{◌≤◌, ℕ}
use mathlib.Core.List.{List}
use mathlib.Core.Path.{◌∙◌, ◌≡◌, ap, ap₂, sym}
use lib.Dec.{leb}
use lib.ListN.{length}
use borrow.Author.Tests.{leb-true}
use Rattle.std.specs.Prelude.{Bool, Ok}
use Rattle.words.specs.Alphabet.{bytes}
use Rattle.words.specs.Words.{freely_reduce}
use Rattle.words.proofs.Alphabet.{byte_laws}
use Rattle.graphs.specs.Folding.{member_by_graph}
use Rattle.graphs.proofs.Deciding.{member_by_graph-freely_reduced}
use Rattle.records.specs.Records.{AllLetters, word_of}
use Rattle.records.specs.Refusals.{Checked, target_rules}
use Rattle.records.specs.declared.refusals.Reason.TheVariants.{EdgeTableShort}
use Rattle.records.proofs.Chains.{fine_first, fine_next, must_fine}
use Rattle.records.proofs.RoundTrip.{letters_reduce, target_letters}
use Rattle.records.proofs.Targets.{target-sized}
use Rattle.slots.specs.Refusals.{system_rules}
use Rattle.slots.specs.Systems.{LetterWords, freely_reduced_words, system_of}
use Rattle.slots.proofs.RoundTrip.{reduced_letters}
use Rattle.slots.proofs.Systems.{system-size}
use Rattle.asking.specs.Asking.{verdict_of}
use Rattle.tracing.specs.Tracing.{trace_tests}

-- what the tests tell once they are passed
module _ (s t : List ℕ) (edges : ℕ) {x : Checked} (e : x ≡ trace_tests s t edges) (h : x ≡ Ok tt) where
  pub passed : trace_tests s t edges ≡ Ok tt
  passed = sym e ∙ h

  pub passed_system : system_rules s ≡ Ok tt
  unfolding trace_tests
  passed_system = fine_first (system_rules s) _ passed

  pub passed_target : target_rules t ≡ Ok tt
  unfolding trace_tests
  passed_target = fine_first (target_rules t) _ (fine_next (system_rules s) _ passed)

  pub passed_size : length s ≤ 1024
  passed_size = system-size s passed_system

  pub passed_length : length t ≡ 64
  passed_length = target-sized t passed_target

  pub passed_edges : 1008 ≤ edges
  unfolding trace_tests
  passed_edges = leb-true 1008 edges (must_fine (leb 1008 edges) EdgeTableShort 0 (fine_next (target_rules t) _ (fine_next (system_rules s) _ passed)))

  -- the words that are taken in have letters alone
  pub passed_words : {S : List (List ℕ)} → S ≡ freely_reduced_words s → LetterWords S
  passed_words is = rw (is) (reduced_letters s passed_system)

  pub passed_word : {r w : List ℕ} → r ≡ t → w ≡ freely_reduce bytes (word_of r) → AllLetters w
  passed_word same is = rw (is, same) (letters_reduce (word_of t) (target_letters t passed_target))

-- what the graph says of the words taken in it says of those of the records
pub graph_told : (s t : List ℕ) {S : List (List ℕ)} {w : List ℕ} {b : Bool} → S ≡ freely_reduced_words s → w ≡ freely_reduce bytes (word_of t)
    → b ≡ member_by_graph bytes S w → verdict_of b ≡ verdict_of (member_by_graph bytes (system_of s) (word_of t))
unfolding freely_reduced_words
graph_told s t is word_is told =
    ap verdict_of (told ∙ ap₂ (member_by_graph bytes) is word_is ∙ member_by_graph-freely_reduced bytes byte_laws (system_of s) (word_of t))
