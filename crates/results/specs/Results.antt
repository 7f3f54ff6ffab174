-- The result of a call as bytes. Assumes nothing.
use Rattle.std.specs.Prelude.{List, [], ◌∷◌, ◌++◌, ℕ, leb, length}
use Rattle.std.proofs.lemmas.List.Edits.{sets}
use Rattle.octets.specs.Choice.{pick}
use Rattle.state.specs.declared.word.Word.{Word}
use Rattle.state.specs.declared.word.Word.TheVariants as W
use Rattle.packing.specs.Parts.{all_bytes}

-- how many bytes a result takes
abbrev pub result_size : ℕ
result_size = 96

-- request #101: *complete* came last, and the others kept their numbers
abbrev pub word_of : Word → ℕ
word_of W.More = 0
word_of (W.Question n key) = 1
word_of (W.Head status) = 2
word_of (W.Block offset n) = 3
word_of (W.Closed total) = 4
word_of (W.Complete total) = 6
word_of (W.Refused n) = 5

-- a message's length, a status, an offset, a total, the number of a refusal
abbrev pub first_in : Word → ℕ
first_in W.More = 0
first_in (W.Question n key) = n
first_in (W.Head status) = status
first_in (W.Block offset n) = offset.0
first_in (W.Closed total) = total
first_in (W.Complete total) = total
first_in (W.Refused why) = why.number

-- the number of a record, a block's length, where a text went wrong
abbrev pub second_in : Word → ℕ
second_in W.More = 0
second_in (W.Question n key) = key
second_in (W.Head status) = 0
second_in (W.Block offset n) = n
second_in (W.Closed total) = 0
second_in (W.Complete total) = 0
second_in (W.Refused why) = why.at

unfoldable pub result_bytes : Word → ℕ → List ℕ → List ℕ
result_bytes w taken signature = all_bytes (word_of w ∷ taken ∷ first_in w ∷ second_in w ∷ []) ++ signature

-- the number of the word, and the buffer after it
pub record Ending : Type 0 where
  pub word : ℕ
  pub result : List ℕ

abbrev pub ending : ℕ → List ℕ → Ending
ending n l = record { word = n; result = l }

-- written over the front of a buffer; one that is too short is left as it is
unfoldable pub result_in : Word → ℕ → List ℕ → List ℕ → List ℕ
result_in w taken signature l = pick (leb result_size (length l)) (sets l 0 (result_bytes w taken signature)) l

abbrev pub told : Word → ℕ → List ℕ → List ℕ → Ending
told w taken signature l = ending (word_of w) (result_in w taken signature l)
