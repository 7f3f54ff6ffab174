-- The signing string of a good head is no longer than the head (paper 01, "The head"). Assumes nothing.
use borrow.Author.Tests.{eqb-true, not-true}
use mathlib.Core.Bool.{Bool, true, false, ◌||◌, not}
use mathlib.Core.List.{List, [], ◌∷◌, ◌++◌, append-nil}
use mathlib.Core.Path.{◌≡◌, refl, ◌∙◌}
use Prim.Native.Nat.{ℕ, zero, suc, ◌+◌, ◌≤◌}
use native.Mathlib.Nat.{le_trans}
use native.Mathlib.Omega.{arith}
use lib.Dec.{eqb}
use lib.ListN.{length, drop, length-append}
use Rattle.octets.specs.Octets.{octets}
use Rattle.base64_text.proofs.Laws.{text_length}
use Rattle.stream.specs.Bytes.{same, lowered}
use Rattle.stream.specs.Fields.{among, is_doubled, value_of}
use Rattle.stream.specs.Head.{Head, head_of, head_with, signed_status, listed_names, signing_string, is_status, text_rules, caller_rules, head_fault}
use Rattle.stream.specs.Limits.{head_limit}
use Rattle.stream.specs.Lines.{Field, are_field_lines, status_scan, is_status_line, status_of}
use Rattle.stream.specs.Rule.{first_broken}
use Rattle.stream.specs.Signatures.{sig0_scan, is_sig0, listed_fields, are_fields, is_name_list, response_status_name, created_name, sig0_name}
use Rattle.stream.specs.Signing.{separated, joined_fields, signing_line, signing_text}
use Rattle.stream.specs.Template.{is_like, kept}
use Rattle.stream.specs.Terms.{Terms}
use Rattle.stream.proofs.LineSizes.{field_size, field_lines_size, fields_size}
use Rattle.stream.proofs.NameSizes.{names_size, value_size, signed_size}
use Rattle.stream.proofs.RulesHold.{rules_hold, front_kept}
use Rattle.stream.proofs.ScanSizes.{total, total_append, scan_fits, three_kept}
use Rattle.stream.proofs.Truth.{left_holds, right_holds, left_fails, right_fails, same_equal, lowered_length}

-- ---- the signing string, by its lines

line_size_lem : (f : Field) → length (signing_line f) + 1 ≡ field_size f
unfolding signing_line
line_size_lem f = omega (arith, length-append (lowered f.name) (octets ": " ++ f.value), lowered_length f.name)

pub joined_size : (fs : List Field) → length (signing_text fs) ≤ total field_size fs
unfolding signing_text separated
joined_size [] = omega arith
joined_size (f ∷ []) = omega (arith, line_size_lem f)
joined_size (f ∷ g ∷ fs) = omega (arith, length-append (signing_line f) (10 ∷ signing_text (g ∷ fs)), line_size_lem f, joined_size (g ∷ fs))

-- ---- what the rules say

pub status_size : (line : List ℕ) → is_status_line line ≡ true → length (status_of line) ≡ 3
unfolding is_status_line status_of
status_size line h =
    eqb-true (length (kept 0 (status_scan line))) 3
    (right_holds (is_like (status_scan line)) (eqb (length (kept 0 (status_scan line))) 3) h)

-- a status is one of four texts of three digits
pub listed_status_size : (d : List ℕ) → is_status d ≡ true → length d ≡ 3
listed_status_size d h = by (same d (octets "200")) (same d (octets "301")) (same d (octets "302")) (same d (octets "307")) refl refl refl refl h
  where
    like : (s : List ℕ) → same d s ≡ true → length s ≡ 3 → length d ≡ 3
    like s e n = rw (same_equal d s e) n

    by : (a b c e : Bool) → same d (octets "200") ≡ a → same d (octets "301") ≡ b → same d (octets "302") ≡ c → same d (octets "307") ≡ e
        → a || (b || (c || e)) ≡ true → length d ≡ 3
    by true b c e p q r s k = like (octets "200") p refl
    by false true c e p q r s k = like (octets "301") q refl
    by false false true e p q r s k = like (octets "302") r refl
    by false false false e p q r s k = like (octets "307") (s ∙ k) refl

-- the fixed texts of `X-Ouinet-Sig0` have 68 bytes; the key has 44 characters, the signature 88, and `created` stands beside them
sig0_size : (l : List ℕ) → is_sig0 (sig0_scan l) ≡ true → 200 + length (kept 1 (sig0_scan l)) ≤ length l
unfolding is_sig0 sig0_scan
sig0_size l h =
    let s = sig0_scan l in
    let key = text_length 32 (kept 0 s) (search (left_holds, right_holds)) in
    let signature = text_length 64 (kept 3 s) (search (left_holds, right_holds)) in
    omega (arith, key, signature, three_kept s, scan_fits _ l (left_holds (is_like s) _ h))

not_doubled_past : (k : ℕ) (n : List ℕ) (ns : List (List ℕ)) → is_doubled (n ∷ ns) ≡ false → is_doubled (n ∷ drop k ns) ≡ false
unfolding is_doubled among
not_doubled_past zero n ns h = h
not_doubled_past (suc k) n [] h = h
not_doubled_past (suc k) n (m ∷ ms) h =
    let other : among n ms ≡ false = search (left_fails, right_fails) in
    let single : is_doubled ms ≡ false = search (left_fails, right_fails) in
    not_doubled_past k n ms (rw (other, single))

-- the fields that the signature lists: they are there, and differ from each other and from `X-Ouinet-Sig0`
pub record Listed (fs : List Field) (ns : List (List ℕ)) : Type 0 where
  pub present : are_fields fs ns ≡ true
  pub different : is_doubled (sig0_name ∷ ns) ≡ false

pub listed : (fs : List Field) (ns : List (List ℕ)) → is_name_list fs ns ≡ true → Listed fs (listed_fields ns)
unfolding is_name_list is_doubled
listed fs ns h =
    let there : are_fields fs (listed_fields ns) ≡ true = search (left_holds, right_holds) depth 10 in
    let single : not (is_doubled ns) ≡ true = search (left_holds, right_holds) depth 10 in
    let unlisted : not (among sig0_name ns) ≡ true = search (left_holds, right_holds) depth 10 in
    record {
      present = there;
      different = not_doubled_past 2 sig0_name ns (rw (not-true (among sig0_name ns) unlisted, not-true (is_doubled ns) single));
    }

-- ---- the law

-- five of the head's rules
pub record Signs (l : List ℕ) : Type 0 where
  pub status : is_status_line (head_of l).status_line ≡ true
  pub signed : is_status (signed_status (head_of l)) ≡ true
  pub lines : are_field_lines (head_of l).field_lines ≡ true
  pub sig0 : is_sig0 (head_of l).sig0 ≡ true
  pub names : is_name_list (head_of l).fields (listed_names (head_of l)) ≡ true

-- the lines that a head's signature lists, with another status or `created`, and some lines more
abbrev pub signed_lines : Head → List ℕ → List ℕ → List Field → List Field
signed_lines h status created more =
    record { name = response_status_name; value = status }
    ∷ record { name = created_name; value = created }
    ∷ (joined_fields h.fields (listed_fields (listed_names h)) ++ more)

-- The lines after the first have two bytes more than the head at most. Of these `X-Ouinet-Sig0` has 200 and the digits of its `created`, where the
-- first two lines of the signing string have 35 and the digits of theirs.
pub lines_fit : (l status created : List ℕ) (more : List Field) → Signs l → length status ≡ 3
    → length created + total field_size more ≤ 160 + length (kept 1 (head_of l).sig0)
    → length (signing_text (signed_lines (head_of l) status created more)) ≤ length l
unfolding head_of head_with
lines_fit l status created more k three few =
    let fs : List Field = (head_of l).fields in
    let ns : List (List ℕ) = listed_fields (listed_names (head_of l)) in
    let x = listed fs (listed_names (head_of l)) k.names in
    omega (
      arith,
      few,
      three,
      joined_size (signed_lines (head_of l) status created more),
      total_append field_size (joined_fields fs ns) more,
      signed_size fs ns x.present,
      sig0_size (value_of sig0_name fs) k.sig0,
      value_size fs sig0_name,
      names_size fs (sig0_name ∷ ns) x.different,
      fields_size (head_of l).field_lines k.lines,
      field_lines_size l,
    )

pub signing_fits' : (l : List ℕ) → Signs l → length (signing_string (head_of l)) ≤ length l
unfolding signing_string
signing_fits' l k =
    let e = append-nil (joined_fields (head_of l).fields (listed_fields (listed_names (head_of l)))) in
    rw e at (lines_fit l (signed_status (head_of l)) (kept 1 (head_of l).sig0) [] k (listed_status_size _ k.signed) (omega arith))

-- the rules of a head's text are more than these
pub text_signs : (l : List ℕ) → first_broken (text_rules l (head_of l)) ≡ 0 → Signs l
unfolding text_rules
text_signs l h =
    let rules = rules_hold (text_rules l (head_of l)) refl h in
    record { status = search; signed = search; lines = search; sig0 = search; names = search }

pub head_text_kept : (terms : Terms) (l : List ℕ) → head_fault terms l ≡ 0 → first_broken (text_rules l (head_of l)) ≡ 0
unfolding head_fault
head_text_kept terms l h = front_kept (text_rules l (head_of l)) (caller_rules terms (head_of l)) h

pub signing_fits : (terms : Terms) (l : List ℕ) → head_fault terms l ≡ 0 → length (signing_string (head_of l)) ≤ length l
signing_fits terms l h = signing_fits' l (text_signs l (head_text_kept terms l h))

-- a buffer of the head's limit has room for it
pub signing_bound : (terms : Terms) (l : List ℕ) → head_fault terms l ≡ 0 → length l ≤ head_limit → length (signing_string (head_of l)) ≤ head_limit
signing_bound terms l h k = le_trans (signing_fits terms l h) k
