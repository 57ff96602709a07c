-- Two letters of a word as one number, by which words that differ early are told apart.
use Rattle.std.specs.Prelude.{ℕ, ◌+◌, ◌*◌, List, get_or}

-- the letter at place 0 and the one at another place
abbrev pub letter_pair : List ℕ → ℕ → ℕ
letter_pair word place = get_or word 0 0 + get_or word place 0 * 256
