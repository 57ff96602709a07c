-- What the answers of the calls on records of numbers mean: each word over the lent buffers alone, and what the other calls give for what was
-- written, by their definitions.
use Rattle.std.specs.Prelude.{ℕ, ◌<◌, ◌≤◌, ◌≡◌, false, List, Ok, length, map}
use Rattle.words.specs.Buffers.{written}
use Rattle.words.specs.Words.{FreelyReducesTo}
use Rattle.records.specs.declared.answers.Verdict.TheVariants.{Done}
use Rattle.slots.specs.Systems.{bytes_of, freely_reduced_words, slots, word_at}
use Rattle.numbers.specs.Calls.{from_numbers_answer, from_numbers_buffer, tidy_numbers_answer, tidy_numbers_buffer, to_numbers_answer, to_numbers_buffer}
use Rattle.numbers.specs.Numbers.{letter_number, number_letter, signed_numbers}
use Rattle.numbers.specs.Records.{numbers_record_at, numbers_slots, numbers_word}
use Rattle.numbers.specs.Refusals.{numbers_system_rules}

-- the numbers n that to_numbers wrote for a system s
pub record WentThere (s n : List ℕ) : Type 0 where
  pub words : (k : ℕ) → k < slots s → numbers_word (numbers_record_at n k) ≡ map letter_number (word_at s k)
  -- "Going there and back gives the same bytes": from_numbers is done with n, and gives s
  pub done : (words : List ℕ) → length s ≤ length words → (from_numbers_answer n words).verdict ≡ Done
  pub back : (words : List ℕ) → length s ≤ length words → from_numbers_buffer n words ≡ written s words
  -- "tidying a system before or after it goes there gives the same bytes": tidy_numbers is done with n, and gives what to_numbers gives for s
  -- tidied
  pub tidied_done : (buffer : List ℕ) → length n ≤ length buffer → (tidy_numbers_answer n buffer).verdict ≡ Done
  pub tidied : (buffer : List ℕ) → length n ≤ length buffer → tidy_numbers_buffer n buffer ≡ to_numbers_buffer (bytes_of (freely_reduced_words s)) buffer

-- the system s that from_numbers wrote for the numbers n
pub record CameBack (n s : List ℕ) : Type 0 where
  pub words : (k : ℕ) → k < numbers_slots n → word_at s k ≡ map number_letter (numbers_word (numbers_record_at n k))
  -- "and so does back and there for numbers within 26": to_numbers is done with s, and gives n
  pub done : (numbers : List ℕ) → length n ≤ length numbers → (to_numbers_answer s numbers).verdict ≡ Done
  pub there : (numbers : List ℕ) → length n ≤ length numbers → to_numbers_buffer s numbers ≡ written n numbers

-- the numbers t that tidy_numbers wrote for the numbers n: a system of numbers too, and in each slot the word that free reduction leaves of the
-- given one. "freely reduce every record of a system of numbers"
pub record TidiedNumbers (n t : List ℕ) : Type 0 where
  pub system : numbers_system_rules false t ≡ Ok tt
  pub words : (k : ℕ) → k < numbers_slots n → FreelyReducesTo signed_numbers (numbers_word (numbers_record_at n k)) (numbers_word (numbers_record_at t k))
