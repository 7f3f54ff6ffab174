-- Which fields of a text are handed out, and which text lies in the room for a head. Assumes nothing.
use mathlib.Core.Bool.{Bool, true, false, ◌&&◌}
use mathlib.Core.List.{List, []}
use mathlib.Core.Path.{◌≡◌, refl, sym, ap, ◌∙◌}
use Prim.Native.Nat.{ℕ, ◌-◌, ◌≤◌, ◌<◌}
use native.Mathlib.Nat.{sub-zero}
use lib.Dec.{leb}
use lib.ListN.{length, take, drop}
use borrow.Author.Tests.{ne_eqb, eq-eqb, le-leb, lt-leb}
use Rattle.std.specs.Prelude.{Result, Ok, Err}
use Rattle.octets.specs.Choice.{pick}
use Rattle.stream.specs.Bytes.{same}
use Rattle.stream.specs.Fields.{among, value_of, values_of, count_of}
use Rattle.stream.specs.Head.{ends_head, head_of, text_rules, caller_rules, head_fault, signed_of}
use Rattle.stream.specs.Limits.{head_limit}
use Rattle.stream.specs.Lines.{Field, ends_with}
use Rattle.stream.specs.Rule.{first_broken}
use Rattle.stream.specs.Template.{nth}
use Rattle.stream.specs.Terms.{Terms}
use Rattle.stream.proofs.RulesHold.{front_kept}
use Rattle.stream.proofs.SignedLaws.{first_value, signed_of_lem}
use Rattle.text.proofs.SameLaws.{both_false}
use Rattle.places.specs.Place.{part_of}
use Rattle.fields.specs.Table.{fields_in}
use Rattle.names.specs.NameList.{names_in}
use Rattle.head.specs.Reading.{Reads, Says}
use Rattle.head.specs.declared.whole.HeadRead.{HeadRead}
use Rattle.head.proofs.ContentLaws.{names_good, names_there}
use Rattle.handing.specs.Handing.{fields_out, accepted_head, handed_fields, handed_value, handed_count}

-- ---- what was read of a text, and a name that is looked for

module _ (text name : List ℕ) where
  pub none_out : (r : Result HeadRead ℕ) → Reads text r → ((h : HeadRead) → r ≡ Ok h → ⊥) → [] ≡ values_of name (fields_out text)
  unfolding fields_out values_of
  none_out (Ok h) x none = absurd (none h refl)
  none_out (Err n) x none = rw (← x.0, ne_eqb n 0 x.1)

  module _ {r : HeadRead} (x : Says text r) {list : List ℕ} (e : list ≡ part_of text r.signed.sig0.names_start r.signed.sig0.names_end) where
    -- all that the table has of a listed name, by how the test went
    pub values_by : {b : Bool} → b ≡ among name (drop 2 (names_in list r.signed.names)) → (t : Bool) → b ≡ t
        → pick t (values_of name (fields_in text r.fields)) [] ≡ values_of name (fields_out text)
    unfolding fields_out values_of
    values_by p t q = rw (x.kept, ← q, p, x.fields, names_there text r x list e) (sym (signed_of_lem (head_of text) name (names_good text r x)))

-- ---- the room

module _ (room : List ℕ) (n : ℕ) where
  pub room_small : length room < head_limit → accepted_head room n ≡ []
  unfolding accepted_head
  room_small h = rw (lt-leb head_limit (length room) h)

  pub room_over : length room < n → accepted_head room n ≡ []
  unfolding accepted_head
  room_over h = rw (lt-leb n (length room) h, both_false (leb head_limit (length room)))

  pub room_whole : head_limit ≤ length room → n ≤ length room → accepted_head room n ≡ take (n - 0) room
  unfolding accepted_head
  room_whole h k = rw (sub-zero n, le-leb head_limit (length room) h, le-leb n (length room) k)

  -- the fields fs have of the name what is handed out of the text in the room
  module _ (name text : List ℕ) (e : text ≡ accepted_head room n) (fs : List Field) (h : values_of name fs ≡ values_of name (fields_out text)) where
    same_values : values_of name fs ≡ values_of name (handed_fields room n)
    unfolding handed_fields
    same_values = h ∙ ap (λ (l : List ℕ). values_of name (fields_out l)) e

    pub value_handed : value_of name fs ≡ handed_value room n name
    value_handed = first_value name fs ∙ ap (nth 0) same_values ∙ sym (first_value name (handed_fields room n))

    pub count_handed : count_of name fs ≡ handed_count room n name
    count_handed = ap length same_values

-- ---- for callers

-- no bytes are no head
empty_out : fields_out [] ≡ []
unfolding fields_out first_broken text_rules ends_head ends_with same
empty_out = refl

pub handed_short : (room : List ℕ) (n : ℕ) → length room < head_limit → handed_fields room n ≡ []
unfolding handed_fields
handed_short room n h = ap fields_out (room_small room n h) ∙ empty_out

-- no head was accepted: its length is 0
pub handed_none : (room : List ℕ) → handed_fields room 0 ≡ []
unfolding handed_fields accepted_head
handed_none room = ap fields_out (neither (leb head_limit (length room) && leb 0 (length room))) ∙ empty_out
  where
    neither : (t : Bool) → ◌≡◌ {A = List ℕ} (pick t [] []) []
    neither true = refl
    neither false = refl

-- a head was accepted: its first n bytes have no fault
pub handed_signed : (terms : Terms) (room : List ℕ) (n : ℕ) → head_limit ≤ length room → n ≤ length room → head_fault terms (take n room) ≡ 0
    → handed_fields room n ≡ signed_of (head_of (take n room))
unfolding head_fault handed_fields fields_out
handed_signed terms room n h k z =
    let t = take n room in
    let e : first_broken (text_rules t (head_of t)) ≡ 0 = front_kept (text_rules t (head_of t)) (caller_rules terms (head_of t)) z in
    rw (room_whole room n h k, sub-zero n, eq-eqb (first_broken (text_rules t (head_of t))) 0 e)
