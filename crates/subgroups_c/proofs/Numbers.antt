-- The numbers of an answer, where the answer is known by an equation, and what the answers mean.
use Prim.Native.Nat.{ℕ}
use mathlib.Core.Path.{◌≡◌, refl, ap, ◌∙◌}
use mathlib.Core.List.{List}
use Rattle.records.specs.declared.answers.Answer.{Answer}
use Rattle.reduction.specs.Reduction.{test_answer, reduce_answer, reduce_words, reduce_log}
use Rattle.reduction.specs.declared.answers.Reduction.{Reduction}
use Rattle.reduction.specs.declared.answers.Tested.{Tested}
use Rattle.reduction.specs.Meaning.{TestMeans, ReduceMeans}
use Rattle.reduction.proofs.Meaning.{test_means, reduce_means}
use Rattle.membership.specs.Membership.{member_answer, member_words, member_log, member_product}
use Rattle.membership.specs.Meaning.{InTurn, MemberMeans, NotRefused}
use Rattle.membership.proofs.Meaning.{member_means, member_turns}
use Rattle.asking.specs.Asking.{ask_answer, ask_product}
use Rattle.asking.specs.Meaning.{AskMeans}
use Rattle.asking.proofs.Meaning.{ask_means}
use Rattle.text.specs.Meaning.{ReadMeans, WriteMeans}
use Rattle.text.specs.Read.{read_answer, read_buffer}
use Rattle.text.specs.Write.{write_answer, write_buffer}
use Rattle.text.specs.declared.Writing.{Writing}
use Rattle.text.specs.ReadBack.{ReadBack}
use Rattle.text.proofs.ReadMeaning.{read_means}
use Rattle.text.proofs.WriteMeaning.{read_back_lem, write_means}
use Rattle.subgroups_c.specs.Numbers.{plain_numbers, test_numbers, reduction_numbers, write_numbers}

pub plain_of : {r : List ℕ} {a : Answer} (b : Answer) → r ≡ plain_numbers a → a ≡ b → r ≡ plain_numbers b
plain_of b e f = e ∙ ap plain_numbers f

pub test_of : {r : List ℕ} {a : Tested} (b : Tested) → r ≡ test_numbers a → a ≡ b → r ≡ test_numbers b
test_of b e f = e ∙ ap test_numbers f

pub reduction_of_lem : {r : List ℕ} {a : Reduction} (b : Reduction) → r ≡ reduction_numbers a → a ≡ b → r ≡ reduction_numbers b
reduction_of_lem b e f = e ∙ ap reduction_numbers f

pub write_of : {r : List ℕ} (a b : Writing) → r ≡ plain_numbers (record { verdict = a.verdict }) → a ≡ b → r ≡ write_numbers b
write_of a b e f = e ∙ ap write_numbers f

pub length_of : (a b : Writing) → a ≡ b → a.length ≡ b.length
length_of a b e = ap (λ (x : Writing). x.length) e

-- what the answers mean
pub test_meaning : (s : List ℕ) → TestMeans s (test_answer s)
test_meaning s = test_means s (test_answer s) refl

pub reduce_meaning : (s words log words' log' : List ℕ) → words' ≡ reduce_words s words log → log' ≡ reduce_log s words log
    → ReduceMeans s words log (reduce_answer s words log) words' log'
reduce_meaning s words log words' log' wrote logged = reduce_means s words log (reduce_answer s words log) words' log' refl wrote logged

pub ask_meaning : (s t product product' : List ℕ) → product' ≡ ask_product s t product → AskMeans s t product (ask_answer s t product) product'
ask_meaning s t product product' gave = ask_means s t product (ask_answer s t product) product' refl gave

module _ (s t words log product words' log' product' : List ℕ) (wrote : words' ≡ member_words s t words log product)
    (logged : log' ≡ member_log s t words log product) (gave : product' ≡ member_product s t words log product) where
  pub member_meaning : MemberMeans s t words log product (member_answer s t words log product) words' log' product'
  member_meaning = member_means s t words log product (member_answer s t words log product) words' log' product' refl wrote logged gave

  pub member_in_turn : NotRefused (member_answer s t words log product).verdict
      → InTurn s t words log product (member_answer s t words log product) words' log' product'
  member_in_turn = member_turns s t words log product (member_answer s t words log product) words' log' product' refl wrote logged gave

pub read_meaning : (text word word' : List ℕ) → word' ≡ read_buffer text word → ReadMeans text word (read_answer text word) word'
read_meaning text word word' wrote = read_means text word refl wrote

pub write_meaning : (word text text' : List ℕ) → text' ≡ write_buffer word text → WriteMeans word text (write_answer word text) text'
write_meaning word text text' wrote = write_means word text refl wrote

pub read_back_meaning : (word text text' : List ℕ) → text' ≡ write_buffer word text → ReadBack word (write_answer word text) text'
read_back_meaning word text text' wrote = read_back_lem word text refl wrote
