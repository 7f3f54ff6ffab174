-- A text that was read as a head: the rules hold, and the places stand for what the head says. Assumes nothing.
use mathlib.Core.Bool.{true}
use mathlib.Core.List.{List}
use mathlib.Core.Path.{◌≡◌, refl, sym, ap, ap₂, ◌∙◌}
use Prim.Native.Nat.{ℕ}
use Rattle.stream.specs.Head.{head_of, text_rules, is_status, status_digits, signed_status, listed_names}
use Rattle.stream.specs.Lines.{is_status_line, are_field_lines}
use Rattle.stream.specs.Signatures.{is_injection, is_bsigs, is_sig0, created_text, is_name_list}
use Rattle.stream.proofs.RulesHold.{AllHold, rules_hold}
use Rattle.places.specs.Place.{part_of}
use Rattle.fields.specs.Table.{fields_in}
use Rattle.names.specs.NameList.{names_in}
use Rattle.params.proofs.Answers.{sig0_created, sig0_names}
use Rattle.head.specs.Reading.{Says, signed_digits}
use Rattle.head.specs.declared.whole.HeadRead.{HeadRead}
use Rattle.head.proofs.FirstLine.{status_place}
use Rattle.head.proofs.StatusLaws.{signed_is}

module _ (text : List ℕ) (r : HeadRead) (x : Says text r) where
  pub rules_kept : AllHold (text_rules text (head_of text))
  unfolding text_rules
  rules_kept = rules_hold (text_rules text (head_of text)) refl x.kept

  pub status_good : is_status_line (head_of text).status_line ≡ true
  unfolding text_rules
  status_good = let rules = rules_kept in search

  pub signed_good : is_status (signed_status (head_of text)) ≡ true
  unfolding text_rules
  signed_good = let rules = rules_kept in search

  pub lines_good : are_field_lines (head_of text).field_lines ≡ true
  unfolding text_rules
  lines_good = let rules = rules_kept in search

  pub injection_good : is_injection (head_of text).injection ≡ true
  unfolding text_rules
  injection_good = let rules = rules_kept in search

  pub bsigs_good : is_bsigs (head_of text).bsigs ≡ true
  unfolding text_rules
  bsigs_good = let rules = rules_kept in search

  pub sig0_good : is_sig0 (head_of text).sig0 ≡ true
  unfolding text_rules
  sig0_good = let rules = rules_kept in search

  pub names_good : is_name_list (head_of text).fields (listed_names (head_of text)) ≡ true
  unfolding text_rules
  names_good = let rules = rules_kept in search

  -- ---- the texts at the places

  pub digits_there : part_of text 9 12 ≡ status_digits (head_of text)
  digits_there = sym (status_place text status_good)

  -- the status that is signed, as a text that stands for it
  pub signed_there : (status : List ℕ) → status ≡ signed_digits (part_of text 9 12) (fields_in text r.fields) → status ≡ signed_status (head_of text)
  signed_there status e = e ∙ ap₂ signed_digits digits_there x.fields ∙ signed_is (head_of text)

  pub created_there : part_of text r.signed.sig0.created_start r.signed.sig0.created_end ≡ created_text (head_of text).sig0
  created_there = sig0_created x.sig0

  pub names_there : (list : List ℕ) → list ≡ part_of text r.signed.sig0.names_start r.signed.sig0.names_end → names_in list r.signed.names ≡ listed_names (head_of text)
  names_there list e = ap (λ (l : List ℕ). names_in l r.signed.names) (e ∙ sig0_names x.sig0) ∙ x.names
