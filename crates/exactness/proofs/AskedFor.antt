-- THE SHOW THAT WAS ASKED FOR, AND NO OTHER (request #105). Assumes nothing.
use borrow.Author.Tests.{not-true}
use mathlib.Core.Bool.{Bool, true, false, true≢false}
use mathlib.Core.List.{List, [], ◌∷◌, ◌++◌}
use mathlib.Core.Path.{◌≡◌, refl, sym, ap, ◌∙◌}
use Prim.Native.Nat.{ℕ, zero, suc}
use lib.ListN.{length}
use Rattle.octets.specs.Octets.{octets}
use Rattle.sections.specs.Reading.{Log, Cut, uncut, cut_at, cut, ran_out, one_section, reading_at, reading}
use Rattle.sections.specs.Calls.{part}
use Rattle.sections.proofs.Cuts.{IsCut, NoneBelow, cut_is}
use Rattle.sections.proofs.Scans.{section_read}
use Rattle.stream.specs.Buffers.{head_bytes}
use Rattle.stream.specs.Bytes.{same, lowered, same_name}
use Rattle.stream.specs.Events.{Question, Release, LastWord}
use Rattle.stream.specs.Fields.{among, is_protected, is_protected_doubled, names_of, values_of}
use Rattle.stream.specs.Head.{is_whole_head, head_of, head_uri, head_fault, listed_names, signing_string, text_rules, caller_rules}
use Rattle.stream.specs.Signatures.{is_name_list, listed_fields, response_status_name, created_name, uri_name}
use Rattle.stream.specs.Signing.{separated, signing_line}
use Rattle.stream.specs.Stream.{head, is_whole, judge_head, judge, rules, plain_reading}
use Rattle.stream.specs.Template.{nth}
use Rattle.stream.specs.Terms.{Terms}
use Rattle.stream.proofs.SignedLaws.{listed_there}
use Rattle.stream.proofs.SigningSize.{listed}
use Rattle.stream.proofs.Truth.{left_holds, right_holds, same_equal}
use Rattle.exactness.specs.AskedFor.{is_last, AskedForOnly}
use Rattle.exactness.specs.Good.{GoodHead}
use Rattle.exactness.specs.MessageLines.{LineIn}
use Rattle.exactness.specs.Telling.{StreamEvent, head_asks, Stands}
use Rattle.exactness.proofs.Ends.{none_front}
use Rattle.exactness.proofs.Faults.{faultless_head}
use Rattle.exactness.proofs.MessageLines.{line_signed, good_names}
use Rattle.exactness.proofs.OneValue.{one_value, protected_once}
use Rattle.exactness.proofs.Steps.{head_step}

-- ---- the URI is listed, and stands for a field

same_to : (k m n : List ℕ) → same_name m n ≡ true → same_name k m ≡ same_name k n
unfolding same_name
same_to k m n s = rw (same_equal (lowered m) (lowered n) s)

-- the first two names of a list are others
not_status : (n : List ℕ) → same_name n response_status_name ≡ true → same_name uri_name n ≡ false
unfolding same_name same lowered
not_status n s = same_to uri_name n response_status_name s

not_created : (n : List ℕ) → same_name n created_name ≡ true → same_name uri_name n ≡ false
unfolding same_name same lowered
not_created n s = same_to uri_name n created_name s

past_two : (ns : List (List ℕ)) → same_name (nth 0 ns) response_status_name ≡ true → same_name (nth 1 ns) created_name ≡ true → among uri_name ns ≡ true
    → among uri_name (listed_fields ns) ≡ true
unfolding among
past_two [] a b h = h
past_two (n ∷ []) a b h = rw (not_status n a) at h
past_two (n ∷ m ∷ ns) a b h = rw (not_status n a, not_created m b) at h

uri_listed : {terms : Terms} {l : List ℕ} → GoodHead terms l → among uri_name (listed_fields (listed_names (head_of l))) ≡ true
unfolding is_name_list
uri_listed {l = l} g =
    let h = good_names g in
    let status : same_name (nth 0 (listed_names (head_of l))) response_status_name ≡ true = search (left_holds, right_holds) depth 10 in
    let created : same_name (nth 1 (listed_names (head_of l))) created_name ≡ true = search (left_holds, right_holds) depth 10 in
    past_two (listed_names (head_of l)) status created (search (left_holds, right_holds) depth 10)

-- ---- a good head

module _ {terms : Terms} {l : List ℕ} (g : GoodHead terms l) where
  pub same_uri : head_uri (head_of l) ≡ terms.uri
  unfolding caller_rules
  same_uri = same_equal (head_uri (head_of l)) terms.uri g.caller.0

  -- a protected name, which no two fields have
  uri_once : values_of uri_name (head_of l).fields ≡ head_uri (head_of l) ∷ []
  unfolding text_rules is_protected same_name same lowered
  uri_once =
      let single = not-true (is_protected_doubled (names_of (head_of l).fields)) g.text.1.1.1.1.0 in
      let present = (listed (head_of l).fields (listed_names (head_of l)) (good_names g)).present in
      let there = listed_there uri_name (head_of l).fields _ present (uri_listed g) in
      one_value uri_name (head_of l).fields (protected_once uri_name (names_of (head_of l).fields) refl single) there

  pub uri_line : LineIn (octets "x-ouinet-uri: " ++ terms.uri) (signing_string (head_of l))
  unfolding signing_line lowered separated
  uri_line = rw (uri_once, same_uri) at (line_signed (head_of l) uri_name (uri_listed g))

-- ---- the first event

-- nothing but last words
abbrev AllLast : Log Question Release LastWord → Type 0
AllLast [] = Unit {0}
AllLast (x ∷ log) = (is_last x.1 ≡ true) × AllLast log

member_last : (before after : Log Question Release LastWord) (at : ℕ) (e : StreamEvent) → AllLast (before ++ (at, e) ∷ after) → is_last e ≡ true
member_last [] after at e k = k.0
member_last (x ∷ before) after at e k = member_last before after at e k.1

none_other : {at : ℕ} {e : StreamEvent} {log : Log Question Release LastWord} → Stands (at, e) log → is_last e ≡ false → AllLast log → ⊥
none_other {at = at} {e = e} s more all =
    true≢false (sym (member_last s.before s.after at e (rw s.joined all)) ∙ more)

module _ (terms : Terms) (S : List ℕ) (answers : List Bool) (told : Bool) where
  -- the reading of a stream that is cut so
  abbrev log : Cut → Log Question Release LastWord
  log m = one_section (rules terms) head 0 S answers told m (λ c at r answers'. reading_at (rules terms) c at r answers' told)

  ran_out_lem : (t : Bool) (at : ℕ) → AllLast (ran_out (rules terms) at t)
  ran_out_lem true at = (refl, tt)
  ran_out_lem false at = tt

  -- where it is no list of last words, the head is good
  abbrev BeginsGood : Cut → Type 0
  BeginsGood m = GoodHead terms (part S m) × ((rest : List ℕ) × (part S m ++ rest ≡ S))

  good_at_lem : (l r : List ℕ) → NoneBelow is_whole_head l (length l) → (AllLast (log (cut_at l r)) → ⊥) → GoodHead terms l
  unfolding rules judge judge_head
  good_at_lem l r none more = by (head_fault terms l) refl
    where
      by : (n : ℕ) → head_fault terms l ≡ n → GoodHead terms l
      by zero e = faultless_head terms l none e
      by (suc n) e = absurd (more (rw (judge_head, e) (refl, tt)))

  begins_good : (m : Cut) → IsCut is_whole_head S m → (AllLast (log m) → ⊥) → BeginsGood m
  begins_good uncut i more = absurd (more (ran_out_lem told _))
  begins_good (cut_at l r) i more = (good_at_lem l r (none_front is_whole_head l r S i.0 i.3) more, (r, i.0))

pub asked_for_only : AskedForOnly
unfolding plain_reading reading rules is_whole head_asks
asked_for_only terms S answers told at e s more =
    let (g, b) = begins_good terms S answers told (cut is_whole_head S) (cut_is is_whole_head S)
    (λ all. none_other s more (rw (section_read (rules terms) head 0 S answers told) all)) in
    record {
      good = g;
      same_uri = same_uri g;
      others = _;
      asked = sym (ap (λ (T : List ℕ). plain_reading terms T answers told) (sym b.1) ∙ head_step terms (head_bytes S) b.0 answers told g);
      named = uri_line g;
    }
