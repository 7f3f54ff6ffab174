-- The rules of the end in the groups in which the code tests them. No public contract names these. Assumes nothing.
use Rattle.std.specs.Prelude.{Bool, ◌&&◌, not, List, ◌≡◌, ℕ, zero, suc, eqb, length, Option, Some, None}
use Rattle.octets.specs.Choice.{pick}
use Rattle.end_fields.specs.Reading.{are_once, are_good}
use Rattle.end_fields.specs.declared.reading.EndRead.{EndRead}
use Rattle.stream.specs.Bytes.{same}
use Rattle.stream.specs.Ends.{digest_name, data_size_name, all_fields, ends_in, is_end_list, end_fault}
use Rattle.stream.specs.Fields.{among}
use Rattle.stream.specs.Head.{Head, head_of, listed_names}
use Rattle.stream.specs.Lines.{Field}
use Rattle.ends.specs.Judgement.{Judgement, asked, end_answered}

-- the rules of the list
abbrev pub is_listed : Head → List Field → Bool
is_listed h fs = is_end_list h (ends_in fs) && (not (among digest_name (listed_names h)) && not (among data_size_name (listed_names h)))

-- all rules that have the number 13
unfoldable pub is_well_made : Head → List Field → Bool
is_well_made h fs = (are_once fs && are_good fs) && is_listed h fs

-- the first broken rule, by whether those are kept, and each that comes after them
abbrev pub fault_by : Bool → Bool → Bool → Bool → ℕ
fault_by made size digest key = pick made (pick size (pick digest (pick key 0 12) 15) 14) 13

-- none for the 0 that says that none is broken
abbrev pub number_of : ℕ → Option ℕ
number_of zero = None
number_of (suc n) = Some (suc n)

-- by what was read
unfoldable pub read_fault : EndRead → Bool → ℕ → List ℕ → List ℕ → ℕ
read_fault e listed total hash key = fault_by listed (eqb e.size total) (same e.digest hash) (same e.sig1.key key)

-- ---- the end that a head l and the trailer t after it claim

unfoldable pub fault_after : List ℕ → List ℕ → ℕ → List ℕ → ℕ
fault_after l t total hash = end_fault (head_of l) (all_fields (head_of l) t) total hash

-- it breaks no rule, of some body
pub record Faultless (l t : List ℕ) : Type 0 where
  pub total : ℕ
  pub hash : List ℕ
  pub kept : fault_after l t total hash ≡ 0

unfoldable pub asked_after : List ℕ → List ℕ → List ℕ → Judgement
asked_after l t question = asked (head_of l) (ends_in (all_fields (head_of l) t)) question

unfoldable pub answered_after : List ℕ → List ℕ → ℕ → List ℕ → List ℕ → Judgement
answered_after l t total hash question =
    end_answered (length l) (head_of l) (ends_in (all_fields (head_of l) t)) (end_fault (head_of l) (all_fields (head_of l) t) total hash) question
