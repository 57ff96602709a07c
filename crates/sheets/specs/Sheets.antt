-- The worked sheets of docs/REQUIREMENTS.md that have a label, what the program prints for three of them, for no input and for a byte that
-- is neither letter nor full stop, as one list, and what each says over the definitions.
use Rattle.std.specs.Prelude.{ℕ, ◌*◌, ◌-◌, ◌≡◌, Bool, true, false, List, [], ◌∷◌, ◌++◌, length, replicate}
use Prim.Native.String.{String}
use Rattle.records.specs.Records.{record_of}
use Rattle.words.specs.Buffers.{written}
use Rattle.tidy.specs.Tidy.{tidy_answer, tidy_buffer}
use Rattle.records.specs.Answers.{refused_with}
use Rattle.records.specs.declared.answers.Verdict.{Verdict}
use Rattle.records.specs.declared.answers.Verdict.TheVariants.{Done, Member, NotMember}
use Rattle.reduction.specs.Reduction.{reduce_answer, reduce_words, reduce_log}
use Rattle.reduction.specs.declared.answers.Reduction.{Reduction}
use Rattle.asking.specs.Asking.{ask_answer, ask_product}
use Rattle.membership.specs.Membership.{member_answer, member_log, member_product, member_words}
use Rattle.replay.specs.Replay.{replay_answer, replay_buffer}
use Rattle.text.specs.Read.{read_answer, read_buffer}
use Rattle.text.specs.Write.{write_answer, write_buffer}
use Rattle.numbers.specs.Calls.{from_numbers_answer, from_numbers_buffer, tidy_numbers_answer, tidy_numbers_buffer, to_numbers_answer, to_numbers_buffer}
use Rattle.numbers.specs.Records.{numbers_bytes_of, numbers_record}
use Rattle.tracing.specs.Tracing.{trace_answer}
use Rattle.output.specs.Output.{program_output}
use Rattle.lines.specs.Text.{bytes_in}
use Rattle.records.specs.declared.refusals.Reason.{Reason}
use Rattle.records.specs.declared.refusals.Reason.TheVariants.{EdgeTableShort, ExponentOutOfRange, LengthDiffers, LogBufferShort, LogRecordMalformed, LogUneven, NestingTooDeep, NumberWithoutLetter, NumbersMalformed, ProductBufferShort, SystemNotReduced, SystemTooLong, SystemUneven, TargetOrProductMalformed, TextMalformed, WordTooLong, WordsBufferShort}

-- the record of a word that is given as text, and the system of several
abbrev pub record_in : String → List ℕ
record_in s = record_of (bytes_in s)

abbrev pub system_in : List String → List ℕ
system_in [] = []
system_in (w ∷ rest) = record_in w ++ system_in rest

-- lines that are given as text, without their line feeds; a log is such lines
abbrev pub lines_in : List String → List ℕ
lines_in [] = []
lines_in (l ∷ rest) = bytes_in l ++ (10 ∷ lines_in rest)

-- the number -x, as a record of numbers holds it
abbrev pub minus : ℕ → ℕ
minus x = 65536 - x

-- a lent buffer of question marks
abbrev pub lent : ℕ → List ℕ
lent n = replicate n 63

-- given words, and what comes of them: the log, the reduced words, the rank and the verdict on independence
pub record Outcome : Type 0 where
  pub given : List String
  pub log : List String
  pub reduced : List String
  pub rank : ℕ
  pub independent : Bool

-- a worked sheet, with its label
pub data Sheet : Type 0 where
  -- a word, and what it freely reduces to
  tidies : String → String → String → Sheet
  -- words to reduce
  reduces : String → Outcome → Sheet
  -- words, a target that is a member, and its product over the reduced words
  member : String → Outcome → String → String → Sheet
  -- words, and a target that is not a member
  not_member : String → Outcome → String → Sheet
  -- words, the length of a log buffer that is too short for the first of their moves
  short_log : String → List String → ℕ → Sheet
  -- words, a log, whether it is followed backward, the verdict of replay, and the words buffer afterwards
  replays : String → List String → List String → Bool → Verdict → List ℕ → Sheet
  -- words that are asked, a target, the length of the product buffer, the verdict, and that buffer afterwards
  asks : String → List String → String → ℕ → Verdict → List ℕ → Sheet
  -- a length of a system, and the reason of the refusal that tidy gives to every system of that length
  refuses : String → ℕ → Reason → Sheet
  -- a text, the length of the word buffer, the verdict, and that buffer afterwards
  reads : String → String → ℕ → Verdict → List ℕ → Sheet
  -- a length of a text, and the refusal that read gives to every text of that length
  refuses_text : String → ℕ → Verdict → Sheet
  -- a word, and its text
  writes : String → String → String → Sheet
  -- words, and their numbers: what to_numbers gives for the one and from_numbers for the other
  numbered : String → List String → List (List ℕ) → Sheet
  -- words, the length of the numbers buffer, and the refusal that to_numbers gives
  not_numbered : String → List String → ℕ → Verdict → Sheet
  -- numbers, the length of the words buffer, and the refusal that from_numbers gives
  not_returned : String → List (List ℕ) → ℕ → Verdict → Sheet
  -- numbers, the length of the buffer, the verdict of tidy_numbers, and the buffer afterwards
  tidies_numbers : String → List (List ℕ) → ℕ → Verdict → List ℕ → Sheet
  -- a length in bytes, and the reason of the refusal that tidy_numbers gives to every system of numbers of that length
  refuses_numbers : String → ℕ → Reason → Sheet
  -- words, a target, the number of edges lent, and the verdict of trace
  traces : String → List String → String → ℕ → Verdict → Sheet
  -- words on the program's standard input, the last one the target, and the lines that it prints
  prints : String → List String → List String → Sheet
  -- a length of the program's input, and the line that it prints for every input of that length
  prints_for : String → ℕ → String → Sheet

-- the answer of reduce or of member, with its verdict
abbrev pub answer : Outcome → Verdict → Reduction
answer o v = record { verdict = v; moves = length o.log; rank = o.rank; independent = o.independent }

-- the lent buffers are of question marks: enough for the words, 64 bytes for the log and 64 for the product
abbrev pub words_lent : Outcome → List ℕ
words_lent o = lent (64 * length o.given)

-- what reduce answers and writes
abbrev pub Reduces : Outcome → Type 0
Reduces o =
    (reduce_answer (system_in o.given) (words_lent o) (lent 64) ≡ answer o Done)
    × (reduce_words (system_in o.given) (words_lent o) (lent 64) ≡ system_in o.reduced)
    × (reduce_log (system_in o.given) (words_lent o) (lent 64) ≡ written (lines_in o.log) (lent 64))

-- what member answers and writes: all that reduce does, the verdict, and the product buffer afterwards
abbrev pub Decides : Outcome → String → Verdict → List ℕ → Type 0
Decides o target verdict product =
    (member_answer (system_in o.given) (record_in target) (words_lent o) (lent 64) (lent 64) ≡ answer o verdict)
    × (member_words (system_in o.given) (record_in target) (words_lent o) (lent 64) (lent 64) ≡ system_in o.reduced)
    × (member_log (system_in o.given) (record_in target) (words_lent o) (lent 64) (lent 64) ≡ written (lines_in o.log) (lent 64))
    × (member_product (system_in o.given) (record_in target) (words_lent o) (lent 64) (lent 64) ≡ product)

-- a refusal whose place is 0
abbrev pub refused : Reason → Verdict
refused why = refused_with why 0

-- what a sheet says
abbrev pub Says : Sheet → Type 0
Says (tidies label given result) =
    (tidy_answer (record_in given) (lent 64) ≡ record { verdict = Done }) × (tidy_buffer (record_in given) (lent 64) ≡ record_in result)
Says (reduces label o) = Reduces o
Says (member label o target product) = Reduces o × Decides o target Member (record_in product)
Says (not_member label o target) = Reduces o × Decides o target NotMember (lent 64)
Says (short_log label words room) =
    (reduce_answer (system_in words) (lent (64 * length words)) (lent room) ≡ record { verdict = refused LogBufferShort; moves = 0; rank = 0; independent = false })
    × (reduce_words (system_in words) (lent (64 * length words)) (lent room) ≡ lent (64 * length words))
    × (reduce_log (system_in words) (lent (64 * length words)) (lent room) ≡ lent room)
Says (replays label words log backward verdict after) =
    (replay_answer (system_in words) (lines_in log) backward (lent (64 * length words)) ≡ record { verdict = verdict })
    × (replay_buffer (system_in words) (lines_in log) backward (lent (64 * length words)) ≡ after)
Says (asks label words target room verdict product) =
    (ask_answer (system_in words) (record_in target) (lent room) ≡ record { verdict = verdict })
    × (ask_product (system_in words) (record_in target) (lent room) ≡ product)
Says (refuses label n why) =
    (s buffer : List ℕ) → length s ≡ n → (tidy_answer s buffer ≡ record { verdict = refused why }) × (tidy_buffer s buffer ≡ buffer)
Says (reads label text room verdict word) =
    (read_answer (bytes_in text) (lent room) ≡ record { verdict = verdict }) × (read_buffer (bytes_in text) (lent room) ≡ word)
Says (refuses_text label n verdict) =
    (text buffer : List ℕ) → length text ≡ n → (read_answer text buffer ≡ record { verdict = verdict }) × (read_buffer text buffer ≡ buffer)
Says (writes label word text) =
    (write_answer (record_in word) (lent 256) ≡ record { verdict = Done; length = length (bytes_in text) })
    × (write_buffer (record_in word) (lent 256) ≡ written (bytes_in text) (lent 256))
Says (numbered label words numbers) =
    (to_numbers_answer (system_in words) (lent 256) ≡ record { verdict = Done })
    × (to_numbers_buffer (system_in words) (lent 256) ≡ written (numbers_bytes_of numbers) (lent 256))
    × (from_numbers_answer (numbers_bytes_of numbers) (lent 128) ≡ record { verdict = Done })
    × (from_numbers_buffer (numbers_bytes_of numbers) (lent 128) ≡ written (system_in words) (lent 128))
Says (not_numbered label words room verdict) =
    (to_numbers_answer (system_in words) (lent room) ≡ record { verdict = verdict })
    × (to_numbers_buffer (system_in words) (lent room) ≡ lent room)
Says (not_returned label numbers room verdict) =
    (from_numbers_answer (numbers_bytes_of numbers) (lent room) ≡ record { verdict = verdict })
    × (from_numbers_buffer (numbers_bytes_of numbers) (lent room) ≡ lent room)
Says (tidies_numbers label numbers room verdict buffer) =
    (tidy_numbers_answer (numbers_bytes_of numbers) (lent room) ≡ record { verdict = verdict })
    × (tidy_numbers_buffer (numbers_bytes_of numbers) (lent room) ≡ buffer)
Says (refuses_numbers label n why) =
    (numbers buffer : List ℕ) → length numbers ≡ n
    → (tidy_numbers_answer numbers buffer ≡ record { verdict = refused why }) × (tidy_numbers_buffer numbers buffer ≡ buffer)
Says (traces label words target edges verdict) = trace_answer (system_in words) (record_in target) edges ≡ record { verdict = verdict }
Says (prints label given lines) = program_output (system_in given) ≡ lines_in lines
Says (prints_for label n line) = (input : List ℕ) → length input ≡ n → program_output input ≡ lines_in (line ∷ [])

-- what every sheet of a list says
abbrev pub EachSays : List Sheet → Type 0
EachSays [] = Unit
EachSays (s ∷ rest) = Says s × EachSays rest

abbrev pub outcome : List String → List String → List String → ℕ → Bool → Outcome
outcome given log reduced rank independent =
    record { given = given; log = log; reduced = reduced; rank = rank; independent = independent }

-- P5 and P6 have the same words, and so have P9 and P10
abbrev pub three_words : Outcome
three_words = outcome ("ab" ∷ "ac" ∷ "Bd" ∷ []) ("c1a h02" ∷ []) ("ab" ∷ "ac" ∷ "ad" ∷ []) 3 true

abbrev pub no_words : Outcome
no_words = outcome [] [] [] 0 true

-- the words of I1, given and reduced
abbrev pub sixteen_blank : List String
sixteen_blank = replicate 16 ""

-- the words of R7
abbrev pub thirty_two : String
thirty_two = "aaaaaaaaaaaaaaaaaaaaaaaaaaaaaaaa"

abbrev pub sheets : List Sheet
sheets =
    tidies "P1" "aAbBc" "c"
    ∷ tidies "P2" "abBA" ""
    ∷ member "P3" (outcome ("ab" ∷ "b" ∷ []) ("a4b s01" ∷ []) ("a" ∷ "b" ∷ []) 2 true) "a" "a"
    ∷ member "P4" (outcome ("aa" ∷ "aaa" ∷ []) ("a2b s01" ∷ "b1a s02" ∷ "b1a s01" ∷ "a1b s00" ∷ []) ("" ∷ "a" ∷ []) 1 false) "a" "b"
    ∷ member "P5" three_words "Cd" "Bc"
    ∷ not_member "P6" three_words "d"
    ∷ member "P7" (outcome ("a" ∷ "BAc" ∷ "dbb" ∷ []) [] ("a" ∷ "BAc" ∷ "dbb" ∷ []) 3 true) "adbAcACaBD" "acbABC"
    ∷ not_member "P8" (outcome ("ab" ∷ []) [] ("ab" ∷ []) 1 true) "ba"
    ∷ member "P9" no_words "" ""
    ∷ not_member "P10" no_words "a"
    ∷ member "P11" (outcome ("ab" ∷ "ab" ∷ []) ("a2b s00" ∷ []) ("" ∷ "ab" ∷ []) 1 false) "abab" "bb"
    ∷ reduces "P12" (outcome ("aA" ∷ "b" ∷ []) [] ("" ∷ "b" ∷ []) 1 false)
    ∷ reduces "I1" (outcome sixteen_blank [] sixteen_blank 0 false)
    ∷ reduces "I2" (outcome ("ab" ∷ "" ∷ "b" ∷ []) ("a4c s01" ∷ []) ("a" ∷ "" ∷ "b" ∷ []) 2 false)
    ∷ short_log "I3" ("ab" ∷ "b" ∷ []) 7
    ∷ replays "R1" ("ab" ∷ "b" ∷ []) ("a4b s01" ∷ []) false Done (system_in ("a" ∷ "b" ∷ []))
    ∷ replays "R2" ("a" ∷ "b" ∷ []) ("a4b s01" ∷ []) true Done (system_in ("ab" ∷ "b" ∷ []))
    ∷ replays "R3" ("ab" ∷ "b" ∷ []) ("a4b h01" ∷ []) false Done (system_in ("a" ∷ "b" ∷ []))
    ∷ replays "R4" ("ab" ∷ "b" ∷ []) ("a4b s02" ∷ []) false (refused_with LengthDiffers 1) (lent 128)
    ∷ replays "R5" ("a" ∷ "b" ∷ []) ("a4b s02" ∷ []) true (refused_with LengthDiffers 1) (lent 128)
    ∷ replays "R6" ("ccca" ∷ "c" ∷ []) ("a1b h02" ∷ "a1b h02" ∷ "a1b h04" ∷ []) true (refused_with LengthDiffers 2) (lent 128)
    ∷ replays "R7" (thirty_two ∷ thirty_two ∷ []) ("a3b s63" ∷ []) false (refused_with WordTooLong 1) (lent 128)
    ∷ replays "R8" ("ab" ∷ "b" ∷ []) ("a4b s01" ∷ "a4b s 2" ∷ []) false (refused_with LogRecordMalformed 8) (lent 128)
    ∷ replays "R9" ("ab" ∷ "b" ∷ []) ("a4b" ∷ []) false (refused LogUneven) (lent 128)
    ∷ asks "A1" ("ab" ∷ "ac" ∷ "ad" ∷ []) "Cd" 64 Member (record_in "Bc")
    ∷ asks "A2" ("ab" ∷ "ac" ∷ "ad" ∷ []) "d" 64 NotMember (lent 64)
    ∷ asks "A3" ("cC" ∷ "aAb" ∷ []) "bcCb" 64 Member (record_in "bb")
    ∷ asks "A4" ("ab" ∷ "b" ∷ []) "a" 64 (refused SystemNotReduced) (lent 64)
    ∷ asks "A5" ("ab" ∷ "b" ∷ []) "a" 63 (refused SystemNotReduced) (lent 63)
    ∷ asks "A6" ("a" ∷ "b" ∷ []) "a" 63 (refused ProductBufferShort) (lent 63)
    ∷ refuses "L1" 1023 SystemUneven
    ∷ refuses "L2" 1025 SystemTooLong
    ∷ refuses "L3" 1500 SystemTooLong
    ∷ prints_for "L4" 1087 "refused 1 at 0"
    ∷ prints_for "L5" 1089 "refused 2 at 0"
    ∷ reads "T1" "(ab)^-3" 64 Done (record_in "BABABA")
    ∷ reads "T2" "[a,b]" 64 Done (record_in "ABab")
    ∷ reads "T3" "" 64 Done (record_in "")
    ∷ reads "T4" "((a)^2[b,])^0b^-0c^07" 64 Done (record_in "ccccccc")
    ∷ reads "T5" "[a^63,a^63]" 64 Done (record_in "")
    ∷ reads "T6" "[a^16,b^16]" 64 (refused WordTooLong) (lent 64)
    ∷ reads "T7" "[a^16,b^16]^0" 64 (refused WordTooLong) (lent 64)
    ∷ reads "T8" "A^63(a^32)^2" 64 (refused WordTooLong) (lent 64)
    ∷ reads "T9" "a^63aA" 64 (refused WordTooLong) (lent 64)
    ∷ reads "T10" "(a^60b^5)^0" 64 (refused WordTooLong) (lent 64)
    ∷ reads "T11" "a^63aA" 63 (refused WordsBufferShort) (lent 63)
    ∷ reads "T12" "a^64" 63 (refused_with ExponentOutOfRange 1) (lent 63)
    ∷ reads "T13" "a^64(" 64 (refused_with TextMalformed 5) (lent 64)
    ∷ reads "T14" "a^100" 64 (refused_with TextMalformed 4) (lent 64)
    ∷ reads "T15" "[a]" 64 (refused_with TextMalformed 2) (lent 64)
    ∷ reads "T16" "((((((((a))))))))" 64 Done (record_in "a")
    ∷ reads "T17" "((([,[((((a^64)))),]])))" 64 (refused_with NestingTooDeep 9) (lent 64)
    ∷ refuses_text "T18" 257 (refused TextMalformed)
    ∷ writes "W1" "aaBBBc" "a^2b^-3c"
    ∷ writes "W2" "aAa" "aAa"
    ∷ writes "W3" "" ""
    ∷ writes "W4" "zzzzzzzzzzZ" "z^10Z"
    ∷ numbered "N1" ("aAz" ∷ "Z" ∷ []) ((1 ∷ minus 1 ∷ 26 ∷ []) ∷ (minus 26 ∷ []) ∷ [])
    ∷ not_numbered "N2" ("a" ∷ []) 127 (refused WordsBufferShort)
    ∷ not_returned "N3" ((26 ∷ []) ∷ (minus 26 ∷ minus 27 ∷ []) ∷ []) 128 (refused_with NumberWithoutLetter 130)
    ∷ not_returned "N4" ((27 ∷ 0 ∷ 1 ∷ []) ∷ []) 64 (refused_with NumbersMalformed 4)
    ∷ not_returned "N5" ((27 ∷ []) ∷ (1001 ∷ []) ∷ []) 128 (refused_with NumberWithoutLetter 0)
    ∷ not_returned "N6" ((26 ∷ []) ∷ []) 63 (refused WordsBufferShort)
    ∷ tidies_numbers "N7" ((1000 ∷ minus 27 ∷ 27 ∷ minus 1000 ∷ 300 ∷ []) ∷ []) 128 Done (numbers_record (300 ∷ []))
    ∷ tidies_numbers "N8" (replicate 63 (minus 1000) ∷ []) 128 Done (numbers_record (replicate 63 (minus 1000)))
    ∷ tidies_numbers "N9" (replicate 64 1 ∷ []) 128 (refused_with NumbersMalformed 126) (lent 128)
    ∷ tidies_numbers "N10" ((1000 ∷ 1001 ∷ []) ∷ []) 128 (refused_with NumbersMalformed 2) (lent 128)
    ∷ tidies_numbers "N11" ((1000 ∷ []) ∷ []) 127 (refused WordsBufferShort) (lent 127)
    ∷ refuses_numbers "N12" 64 SystemUneven
    ∷ refuses_numbers "N13" 2049 SystemTooLong
    ∷ traces "G1" ("ab" ∷ "ac" ∷ "Bd" ∷ []) "Cd" 1008 Member
    ∷ traces "G2" ("ab" ∷ "ac" ∷ "Bd" ∷ []) "d" 1008 NotMember
    ∷ traces "G3" ("aa" ∷ "aaa" ∷ []) "a" 1008 Member
    ∷ traces "G4" ("ab" ∷ "cb" ∷ []) "aC" 1008 Member
    ∷ traces "G5" ("ab" ∷ "cb" ∷ []) "Ac" 1008 NotMember
    ∷ traces "G6" ("aa" ∷ "b" ∷ "abA" ∷ []) "aBBa" 1008 Member
    ∷ traces "G7" ("aa" ∷ "b" ∷ "abA" ∷ []) "ab" 1008 NotMember
    ∷ traces "G8" ("aA" ∷ "b" ∷ []) "aAb" 1008 Member
    ∷ traces "G9" [] "" 1008 Member
    ∷ traces "G10" ("a" ∷ []) "a" 1007 (refused EdgeTableShort)
    ∷ traces "G11" ("a" ∷ []) "a7" 1007 (refused_with TargetOrProductMalformed 1)
    ∷ prints "P3" ("ab" ∷ "b" ∷ "a" ∷ [])
    ("moves 1 rank 2 independent yes member yes"
    ∷ "a.............................................................."
    ∷ "b.............................................................."
    ∷ "a4b s01"
    ∷ "a.............................................................."
    ∷ [])
    ∷ prints "P6" ("ab" ∷ "ac" ∷ "Bd" ∷ "d" ∷ [])
    ("moves 1 rank 3 independent yes member no"
    ∷ "ab............................................................."
    ∷ "ac............................................................."
    ∷ "ad............................................................."
    ∷ "c1a h02"
    ∷ [])
    ∷ prints "P12" ("aA" ∷ "b" ∷ "b" ∷ [])
    ("moves 0 rank 1 independent no member yes"
    ∷ "..............................................................."
    ∷ "b.............................................................."
    ∷ "b.............................................................."
    ∷ [])
    ∷ prints "no input" [] ("refused 6 at 0" ∷ [])
    ∷ prints "neither letter nor stop" ("ab" ∷ "b7" ∷ "a" ∷ []) ("refused 4 at 65" ∷ [])
    ∷ []
