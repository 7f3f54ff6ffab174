-- Whatever a whole section says in a sound context is sound: the context that follows, and what is told. Assumes nothing.
use mathlib.Core.Bool.{Bool, true, false, ◌||◌}
use mathlib.Core.List.{List}
use mathlib.Core.Path.{◌≡◌, refl}
use Prim.Native.Nat.{ℕ, zero, suc, ◌+◌, ◌*◌, ◌≤◌}
use native.Mathlib.Omega.{arith}
use native.Mathlib.Nat.{suc-mul, zero-mul, le_trans, le_of_eq, sub-le, div-mul-le_self}
use lib.Dec.{eqb, leb}
use lib.ListN.{length}
use borrow.Author.Tests.{leb-true, eqb-true}
use Rattle.base64_text.specs.Base64.{is_base64}
use Rattle.sha256.specs.Sha256.{sha256}
use Rattle.sections.specs.Reading.{go, tell, ask, stop, Grant, granted, final}
use Rattle.stream.specs.Blocks.{chunk_size, line_hash, line_rules, line_fault}
use Rattle.stream.specs.Bytes.{same}
use Rattle.stream.specs.Ends.{all_fields, is_checked, ends_in, end_fault}
use Rattle.stream.specs.Events.{Question, Release, head_accepted, block, LastWord, closed, complete, refused}
use Rattle.stream.specs.Head.{Head, head_of, text_rules, caller_rules, range_of, is_ranged, injection_id, block_size}
use Rattle.stream.specs.Limits.{head_limit, block_limit, body_limit, id_limit, time_digits}
use Rattle.stream.specs.Lines.{crlf, Field}
use Rattle.stream.specs.Numbers.{is_decimal}
use Rattle.stream.specs.Range.{Range, first_byte}
use Rattle.stream.specs.Ring.{Ring}
use Rattle.stream.specs.Signatures.{is_injection, is_bsigs}
use Rattle.stream.specs.Places.{data_end_place, trailer_place}
use Rattle.stream.specs.Stream.{Show, range, Past, start_from, start_of, after, Context, head, first_line, block_data, data_end, next_line, trailer, is_whole, Says, announced, unless_broken, show_of, head_question, accept_head, judge_head, judge_first_line, judge_data_end, block_offset, body_with, released_with, block_question, accept_block, judge_next_line, end_question, judge_end, judge_trailer, judge}
use Rattle.stream.specs.Template.{is_like, kept}
use Rattle.stream.specs.Terms.{Terms}
use Rattle.stream.specs.Trailer.{is_trailer}
use Rattle.stream.proofs.Aligned.{aligned_first, ranged_aligned}
use Rattle.stream.proofs.EndString.{short_ends, end_fits}
use Rattle.stream.proofs.MessageLaws.{message_length}
use Rattle.stream.proofs.RulesHold.{rules_hold, head_rules_hold}
use Rattle.stream.proofs.SigningSize.{signing_bound, head_text_kept}
use Rattle.stream.proofs.Truth.{left_holds, right_holds, within}
use Rattle.stream.proofs.Sound.{limit_of, HeadText, SoundShow, SoundBlock, Sound}

-- ---- what is told within the limits

-- a block of 1 to 65,536 bytes, within the body's limit
abbrev pub SoundRelease : Release → Type 0
SoundRelease (head_accepted status fields) = Unit {0}
SoundRelease (block offset b) = (1 ≤ length b) × (length b ≤ block_limit) × (offset + length b ≤ body_limit)

abbrev pub SoundLast : LastWord → Type 0
SoundLast (closed total) = total ≤ body_limit
SoundLast (complete total) = total ≤ body_limit
SoundLast (refused n at) = Unit {0}

-- a message is no longer than a head may be
abbrev pub SoundQuestion : Question → Type 0
SoundQuestion q = length q.message ≤ head_limit

abbrev pub SoundGrant : Grant Context Release LastWord → Type 0
SoundGrant (granted e c) = SoundRelease e × Sound c
SoundGrant (final l) = SoundLast l

abbrev pub SoundSays : Says → Type 0
SoundSays (go c) = Sound c
SoundSays (tell e c) = SoundRelease e × Sound c
SoundSays (ask q y) = SoundQuestion q × SoundGrant y
SoundSays (stop l) = SoundLast l

-- a refusal is sound, and so is what is said where no rule is broken
unless_sound : (n at : ℕ) (says : Says) → (n ≡ 0 → SoundSays says) → SoundSays (unless_broken n at says)
unless_sound zero at says h = h refl
unless_sound (suc n) at says h = tt

-- ---- a chunk line

-- what the rules of a line say of its size
record LineKept (N sofar : ℕ) (full : Bool) (l : List ℕ) : Type 0 where
  most : chunk_size l ≤ N
  whole : full || eqb (chunk_size l) 0 ≡ true
  body : sofar + chunk_size l ≤ body_limit

line_kept : (N : ℕ) (r : Range) (due full : Bool) (sofar : ℕ) (l : List ℕ) → line_fault N r due full sofar l ≡ 0 → LineKept N sofar full l
unfolding line_fault line_rules
line_kept N r due full sofar l e =
    let (r6, (r8, (h8, (r7, (p7, (r9, rest)))))) = rules_hold (line_rules N r due full sofar l) refl e in
    record {
      most = leb-true _ _ (left_holds (leb (chunk_size l) N) (full || eqb (chunk_size l) 0) r7);
      whole = right_holds (leb (chunk_size l) N) (full || eqb (chunk_size l) 0) r7;
      body = leb-true _ _ r9;
    }

announced_sound : (s : Show) (p : Past) (total n : ℕ) → SoundShow s → total ≤ body_limit → n ≤ s.size
    → (1 ≤ n → block_offset s p + n ≤ body_limit) → Sound (announced s p total n)
announced_sound s p total zero k t h b = (k, t)
announced_sound s p total (suc n) k t h b = record { show = k; some = omega arith; most = h; body = b (omega arith) }

-- a part's first block starts where its bytes do, or before them
pub start_most : (s : Show) (l : List ℕ) → block_offset s (start_of s l) ≤ first_byte (range s)
unfolding start_from start_of
start_most s l = by (first_byte (range s))
  where
    by : (a : ℕ) → (start_from a s.size (line_hash l)).blocks * s.size ≤ a
    by zero = le_of_eq (zero-mul s.size)
    by (suc a) = div-mul-le_self (suc a) s.size

first_sound : (s : Show) (l : List ℕ) → SoundShow s → SoundSays (judge_first_line s l)
unfolding judge_first_line
first_sound s l k = unless_sound _ _ _ λ e.
    let r = line_kept s.size (range s) false true (first_byte (range s)) l e in
    announced_sound s (start_of s l) 0 (chunk_size l) k (omega arith) r.most (λ h. omega (arith, start_most s l, r.body))

-- a block that another one follows has N bytes
full_block : (s : Show) (p : Past) (b l : List ℕ) → LineKept s.size (body_with s p b) (eqb (length b) s.size) l
    → 1 ≤ chunk_size l → block_offset s (after p b) + chunk_size l ≤ body_limit
full_block s p b l r h =
    let e : length b ≡ s.size = by (eqb (length b) s.size) refl r.whole in
    let m : suc p.blocks * s.size ≡ block_offset s p + length b = rw (suc-mul, e) in
    rw m r.body
  where
    by : (t : Bool) → eqb (length b) s.size ≡ t → t || eqb (chunk_size l) 0 ≡ true → length b ≡ s.size
    by true e w = eqb-true _ _ e
    by false e w = absurd (omega (arith, eqb-true (chunk_size l) 0 w))

next_sound : (s : Show) (p : Past) (b l : List ℕ) → SoundBlock s p (length b) → SoundSays (judge_next_line s p b l)
unfolding judge_next_line accept_block block_question released_with
next_sound s p b l k = unless_sound _ _ _ λ e.
    let r = line_kept s.size (range s) true (eqb (length b) s.size) (body_with s p b) l e in
    let o : block_offset s p ≤ body_limit = omega (arith, k.body) in
    let m = message_length s.id (block_offset s p) p.hash b k.show.short_id o in (
      omega arith,
      (
        (k.some, omega (arith, k.most, k.show.most), k.body),
        announced_sound s (after p b) (released_with s p b) (chunk_size l) k.show (le_trans (sub-le _ _) k.body) r.most (full_block s p b l r),
      ),
    )

-- ---- the head

show_sound : (ring : Ring) (h : Head) → HeadText h → is_injection h.injection ≡ true → is_bsigs h.bsigs ≡ true → is_ranged h ≡ true
    → SoundShow (show_of ring h)
unfolding show_of injection_id block_size is_injection is_bsigs
show_sound ring h text i b r =
    let s = h.injection in
    let t = h.bsigs in
    let id = within 1 id_limit _ (left_holds _ (is_decimal time_digits (kept 1 s)) (right_holds (is_like s) _ i)) in
    let n = within 1 block_limit _ (right_holds (is_decimal 5 (kept 1 t)) _ (right_holds (is_base64 32 (kept 0 t)) _ (right_holds (is_like t) _ b))) in
    record { head = text; some = n.0; most = n.1; short_id = id.1; aligned = aligned_first (block_size h) (range_of h) (ranged_aligned h r) }

head_sound : (terms : Terms) (l : List ℕ) → length l ≤ head_limit → SoundSays (judge_head terms l)
unfolding judge_head accept_head head_question text_rules caller_rules
head_sound terms l k = unless_sound _ _ (accept_head terms.ring (head_of l)) λ e.
    let rules = head_rules_hold terms l e in
    let text : HeadText (head_of l) = record { text = l; says = refl; kept = head_text_kept terms l e; short = k } in
    (signing_bound terms l e k, (tt, show_sound terms.ring (head_of l) text (search) (search) (search)))

-- ---- any section

end_sound : (s : Show) (p : Past) (b l : List ℕ) → SoundBlock s p (length b) → SoundSays (judge_data_end s p b l)
unfolding judge_data_end
end_sound s p b l k = by (same l crlf)
  where
    by : (t : Bool) → SoundSays (elim t [ true ↦ go (next_line s p b) | false ↦ stop (refused 6 (data_end_place l)) ])
    by true = k
    by false = tt

-- the question about the end has room where its head had
end_question_sound : (s : Show) (fs : List Field) (total : ℕ) (hash : List ℕ) → HeadText s.head → end_fault s.head fs total hash ≡ 0
    → SoundQuestion (end_question s fs)
unfolding end_question
end_question_sound s fs total hash k e =
    let fits = end_fits k.text (ends_in fs) k.kept (short_ends s.head fs total hash e) in
    le_trans (rw k.says at fits) k.short

claim_sound : (s : Show) (total : ℕ) (hash : List ℕ) (fs : List Field) → SoundShow s → total ≤ body_limit → SoundSays (judge_end s total hash fs)
unfolding judge_end
claim_sound s total hash fs k m = by (is_checked (range s) fs)
  where
    by : (t : Bool)
        → SoundSays
        (elim t [
          | true ↦ unless_broken (end_fault s.head fs total hash) 0 (ask (end_question s fs) (final (complete total)))
          | false ↦ stop (closed total)
        ])
    by true = unless_sound _ _ (ask (end_question s fs) (final (complete total))) λ e. (end_question_sound s fs total hash k.head e, m)
    by false = m

trailer_sound : (s : Show) (p : Past) (total : ℕ) (l : List ℕ) → SoundShow s → total ≤ body_limit → SoundSays (judge_trailer s p total l)
unfolding judge_trailer
trailer_sound s p total l k m = by (is_trailer l)
  where
    by : (t : Bool)
        → SoundSays
        (elim t [
          | true ↦ judge_end s total (sha256 p.body) (all_fields s.head l)
          | false ↦ stop (refused 6 (trailer_place l))
        ])
    by true = claim_sound s total _ _ k m
    by false = tt

pub judge_sound : (terms : Terms) (c : Context) (l : List ℕ) → Sound c → is_whole c l ≡ true → length l ≤ limit_of c → SoundSays (judge terms c l)
unfolding judge is_whole
judge_sound terms head l k w m = head_sound terms l m
judge_sound terms (first_line s) l k w m = first_sound s l k
judge_sound terms (block_data s p n) l k w m =
    let e : length l ≡ n = omega (arith, leb-true n (length l) w) in
    rw e k
judge_sound terms (data_end s p b) l k w m = end_sound s p b l k
judge_sound terms (next_line s p b) l k w m = next_sound s p b l k
judge_sound terms (trailer s p total) l k w m = trailer_sound s p total l k.0 k.1
