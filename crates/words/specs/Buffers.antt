-- What a call leaves in a lent buffer.
use Rattle.std.specs.Prelude.{ℕ, List, ◌++◌, drop, length, take}

-- a lent buffer after some bytes were written at its beginning: "Bytes after the last one written stay unchanged."
abbrev pub written : List ℕ → List ℕ → List ℕ
written bytes buffer = bytes ++ drop (length bytes) buffer

-- and after some bytes were written from a place on
abbrev pub written_at : ℕ → List ℕ → List ℕ → List ℕ
written_at at bytes buffer = take at buffer ++ written bytes (drop at buffer)
