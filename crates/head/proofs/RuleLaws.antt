-- The rules of a head, group by group: which is the first that is broken. Assumes nothing.
use mathlib.Core.Bool.{Bool, true, false, ◌&&◌, not, and_assoc}
use mathlib.Core.List.{List, [], ◌∷◌, ◌++◌, map}
use mathlib.Core.Path.{◌≡◌, refl, ap, ◌∙◌}
use Prim.Native.Nat.{ℕ}
use lib.Dec.{eqb, leb}
use lib.ListN.{length}
use Rattle.octets.specs.Choice.{pick}
use Rattle.octets.specs.Octets.{octets}
use Rattle.stream.specs.Bytes.{same, same_name}
use Rattle.stream.specs.Fields.{is_protected_doubled, names_of, has_field, value_of}
use Rattle.stream.specs.Head.{Head, ends_head, is_status, signed_status, is_ranged, listed_names, text_rules}
use Rattle.stream.specs.Limits.{field_limit}
use Rattle.stream.specs.Lines.{is_status_line, are_field_lines}
use Rattle.stream.specs.Rule.{Rule, rule, first_broken}
use Rattle.stream.specs.Signatures.{is_injection, is_bsigs, is_sig0, is_name_list, version_name, uri_name}
use Rattle.text.proofs.SameLaws.{both_true}
use Rattle.head.specs.Steps.{are_good_lines, version_rules, is_plain, are_signed, is_sound, fault_of}

-- all of the tests hold
abbrev hold_all : List Bool → Bool
hold_all [] = true
hold_all (b ∷ bs) = b && hold_all bs

-- rules of one number are one rule, that all of them hold
group : (n : ℕ) (bs : List Bool) (rs : List Rule) → first_broken (map (rule n) bs ++ rs) ≡ pick (hold_all bs) (first_broken rs) n
unfolding first_broken
group n [] rs = refl
group n (true ∷ bs) rs = group n bs rs
group n (false ∷ bs) rs = refl

-- the version's rules, and the rules after them
versions : (a b : Bool) (rs : List Rule) (s : Bool) → first_broken rs ≡ pick s 0 4
    → first_broken (rule 4 a ∷ rule 5 b ∷ rs) ≡ pick (eqb (first_broken (rule 4 a ∷ rule 5 b ∷ [])) 0) (pick s 0 4) (first_broken (rule 4 a ∷ rule 5 b ∷ []))
unfolding first_broken
versions true true rs s h = h
versions true false rs s h = refl
versions false b rs s h = refl

flat : (a b c d : Bool) → (a && (b && c)) && d ≡ a && (b && (c && d))
flat a b c d = and_assoc a (b && c) d ∙ ap (◌&&◌ a) (and_assoc b c d)

pub fault_is : (l : List ℕ) (h : Head) → first_broken (text_rules l h) ≡ fault_of (are_good_lines l h) (first_broken (version_rules h.fields)) (is_sound h)
unfolding listed_names first_broken text_rules are_good_lines version_rules is_plain are_signed is_sound fault_of
fault_is l h =
    let d = not (is_protected_doubled (names_of h.fields)) in
    let lines = ends_head l ∷ is_status_line h.status_line ∷ are_field_lines h.field_lines ∷ leb (length h.fields) field_limit ∷ d ∷ [] in
    let chunked = same_name (value_of (octets "transfer-encoding") h.fields) (octets "chunked") in
    let unsized = not (has_field (octets "content-length") h.fields) in
    let uri = leb 1 (length (value_of uri_name h.fields)) in
    let names = is_name_list h.fields (listed_names h) in
    let signed = is_injection h.injection ∷ is_bsigs h.bsigs ∷ is_sig0 h.sig0 ∷ names ∷ [] in
    let rest = is_status (signed_status h) ∷ is_ranged h ∷ chunked ∷ unsized ∷ uri ∷ signed in
    let all = are_signed h.fields h.injection h.bsigs h.sig0 in
    let e : hold_all rest ≡ is_sound h = rw (flat chunked unsized uri all, both_true names, and_assoc (is_status (signed_status h)) (is_ranged h)) in
    let f = group 4 rest [] ∙ ap (λ (b : Bool). pick b 0 4) e in
    let there = has_field version_name h.fields in
    let ours = same (value_of version_name h.fields) (octets "4") in
    let v = versions there ours (map (rule 4) rest) (is_sound h) f in
    group 3 lines (rule 4 there ∷ rule 5 ours ∷ map (rule 4) rest) ∙ ap (λ (n : ℕ). pick (hold_all lines) n 3) v ∙ rw (both_true d)
