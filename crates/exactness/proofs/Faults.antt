-- A head, a line, a trailer or a claimed end is good where the reading finds no fault in it, and only there. Assumes nothing.
use mathlib.Core.Bool.{Bool, true, false, ◌&&◌, ◌||◌, and-true, and-false}
use mathlib.Core.List.{List, [], ◌∷◌, ◌++◌}
use mathlib.Core.Logic.{◌↔◌}
use mathlib.Core.Path.{◌≡◌, refl, sym, ◌∙◌}
use Prim.Native.Nat.{ℕ, zero, suc, ◌≤◌}
use native.Mathlib.Omega.{arith}
use borrow.Author.Tests.{leb-true, le-leb, eqb-true, eq-eqb, not-true}
use lib.Dec.{eqb, leb}
use lib.ListN.{length}
use Rattle.sha256.specs.Sha256.{sha256}
use Rattle.stream.specs.Blocks.{is_whole_line, is_chunk_line, carries_signature, carries_hash, chunk_size, is_hash_due, line_rules, line_fault, same_bool}
use Rattle.stream.specs.Ends.{all_fields, end_rules, end_fault}
use Rattle.stream.specs.Head.{Head, ends_head, is_whole_head, head_of, text_rules, caller_rules, head_fault}
use Rattle.stream.specs.Limits.{head_limit, line_limit, body_limit}
use Rattle.stream.specs.Lines.{crlf, ends_with}
use Rattle.stream.specs.Range.{Range, first_byte}
use Rattle.stream.specs.Rule.{Rule, first_broken}
use Rattle.stream.specs.Terms.{Terms}
use Rattle.stream.specs.Trailer.{ends_trailer, is_whole_trailer, is_trailer}
use Rattle.sections.proofs.Cuts.{NoneBelow}
use Rattle.stream.specs.Bytes.{same}
use Rattle.stream.proofs.EndString.{end_rules_hold}
use Rattle.stream.proofs.RulesHold.{AllHold, rules_hold, head_rules_hold}
use Rattle.stream.proofs.Truth.{left_holds, right_holds, or-true}
use Rattle.exactness.specs.Good.{Kept, GoodHead, GoodLine, GoodFirstLine, GoodNextLine, GoodTrailer, claims, GoodClaim}
use Rattle.exactness.proofs.Ends.{none_first, none_short}
use Rattle.exactness.proofs.Ranges.{within_range, range_within}

-- ---- lists of rules

pub kept_unbroken : (rs : List Rule) → Kept rs → first_broken rs ≡ 0
unfolding first_broken
kept_unbroken [] k = refl
kept_unbroken (r ∷ rs) k = rw k.0 (kept_unbroken rs k.1)

kept_both : (rs qs : List Rule) → Kept rs → Kept qs → Kept (rs ++ qs)
kept_both [] qs j k = k
kept_both (r ∷ rs) qs j k = (j.0, kept_both rs qs j.1 k)

kept_left : (rs qs : List Rule) → AllHold (rs ++ qs) → Kept rs
kept_left [] qs k = tt
kept_left (r ∷ rs) qs k = (k.0, kept_left rs qs k.1)

kept_right : (rs qs : List Rule) → AllHold (rs ++ qs) → AllHold qs
kept_right [] qs k = k
kept_right (r ∷ rs) qs k = kept_right rs qs k.1

held_kept : (rs : List Rule) → AllHold rs → Kept rs
held_kept [] k = tt
held_kept (r ∷ rs) k = (k.0, held_kept rs k.1)

-- ---- the head

head_text_lem : (terms : Terms) (l : List ℕ) → head_fault terms l ≡ 0 → Kept (text_rules l (head_of l))
head_text_lem terms l e = kept_left (text_rules l (head_of l)) (caller_rules terms (head_of l)) (head_rules_hold terms l e)

head_caller : (terms : Terms) (l : List ℕ) → head_fault terms l ≡ 0 → Kept (caller_rules terms (head_of l))
head_caller terms l e = held_kept (caller_rules terms (head_of l)) (kept_right (text_rules l (head_of l)) (caller_rules terms (head_of l)) (head_rules_hold terms l e))

-- a head keeps every rule, of its text and of the caller's terms, exactly when no fault is found in it
pub head_kept : (terms : Terms) (l : List ℕ) → (Kept (text_rules l (head_of l)) × Kept (caller_rules terms (head_of l))) ↔ (head_fault terms l ≡ 0)
unfolding head_fault
head_kept terms l = (
  λ k. kept_unbroken (text_rules l (head_of l) ++ caller_rules terms (head_of l)) (kept_both (text_rules l (head_of l)) _ k.0 k.1),
  λ e. (head_text_lem terms l e, head_caller terms l e),
)

pub head_faultless : (terms : Terms) (l : List ℕ) → GoodHead terms l → head_fault terms l ≡ 0
head_faultless terms l g = (head_kept terms l).0 (g.text, g.caller)

head_ends : (l : List ℕ) → Kept (text_rules l (head_of l)) → ends_head l ≡ true
unfolding text_rules
head_ends l k = k.0

pub faultless_head : (terms : Terms) (l : List ℕ) → NoneBelow is_whole_head l (length l) → head_fault terms l ≡ 0 → GoodHead terms l
unfolding is_whole_head ends_head ends_with same
faultless_head terms l h e =
    record {
      ends = none_first ends_head head_limit l refl (head_ends l (head_text_lem terms l e)) h;
      short = omega (arith, none_short ends_head head_limit l (omega arith) h);
      text = head_text_lem terms l e;
      caller = head_caller terms l e;
    }

-- ---- a line

-- on the first line a hash is due where the bytes begin after the first of all, and on no other
due_first : (r : Range) → is_hash_due r false ≡ leb 1 (first_byte r)
unfolding is_hash_due
due_first r = and-true (leb 1 (first_byte r))

due_never : (r : Range) → is_hash_due r true ≡ false
unfolding is_hash_due
due_never r = and-false (leb 1 (first_byte r))

same_bool_lem : (a b : Bool) → b ≡ a → same_bool a b ≡ true
same_bool_lem true b e = e
same_bool_lem false b e = rw e

bool_same : (a b : Bool) → same_bool a b ≡ true → b ≡ a
bool_same true b h = h
bool_same false b h = not-true b h

-- where the line announces a block, the block before is full
full_test : (N : ℕ) (b l : List ℕ) → (1 ≤ chunk_size l → length b ≡ N) → (eqb (length b) N || eqb (chunk_size l) 0) ≡ true
full_test N b l h = by (chunk_size l) refl
  where
    by : (n : ℕ) → chunk_size l ≡ n → (eqb (length b) N || eqb n 0) ≡ true
    by zero e = or-true (eqb (length b) N)
    by (suc n) e = rw (eq-eqb (length b) N (h (omega arith)))

-- what a line without fault keeps
record LineKept (N : ℕ) (r : Range) (due full : Bool) (sofar : ℕ) (l : List ℕ) : Type 0 where
  line : GoodLine N r sofar l
  signs : carries_signature l ≡ due
  hashes : carries_hash l ≡ is_hash_due r due
  filled : full || eqb (chunk_size l) 0 ≡ true

line_faultless : (N : ℕ) (r : Range) (due full : Bool) (sofar : ℕ) (l : List ℕ) → LineKept N r due full sofar l → line_fault N r due full sofar l ≡ 0
unfolding line_fault line_rules
line_faultless N r due full sofar l k =
    let filled : leb (chunk_size l) N && (full || eqb (chunk_size l) 0) ≡ true = rw (le-leb (chunk_size l) N k.line.most) k.filled in
    let carried = within_range r sofar (chunk_size l) k.line.carried in
    let total = le-leb _ body_limit k.line.total in
    kept_unbroken (line_rules N r due full sofar l)
    (k.line.text, (same_bool_lem due _ k.signs, (same_bool_lem _ _ k.hashes, (filled, (carried, (total, tt))))))

faultless_line : (N : ℕ) (r : Range) (due full : Bool) (sofar : ℕ) (l : List ℕ) → NoneBelow is_whole_line l (length l) → line_fault N r due full sofar l ≡ 0
    → LineKept N r due full sofar l
unfolding line_fault line_rules is_whole_line is_chunk_line ends_with same
faultless_line N r due full sofar l h e =
    let (r6, (r8, (h8, (r7, (p7, (r9, rest)))))) = rules_hold (line_rules N r due full sofar l) refl e in
    record {
      line =
          record {
            ends = none_first (ends_with crlf) line_limit l refl (left_holds (ends_with crlf l) _ r6) h;
            short = none_short (ends_with crlf) line_limit l (omega arith) h;
            text = r6;
            most = leb-true _ _ (left_holds (leb (chunk_size l) N) (full || eqb (chunk_size l) 0) r7);
            carried = range_within r sofar (chunk_size l) p7;
            total = leb-true _ _ r9;
          };
      signs = bool_same due _ r8;
      hashes = bool_same (is_hash_due r due) _ h8;
      filled = right_holds (leb (chunk_size l) N) (full || eqb (chunk_size l) 0) r7;
    }

pub first_faultless : (N : ℕ) (r : Range) (l : List ℕ) → GoodFirstLine N r l → line_fault N r false true (first_byte r) l ≡ 0
first_faultless N r l g =
    line_faultless N r false true (first_byte r) l
    (record { line = g.line; signs = g.unsigned; hashes = g.hashed ∙ sym (due_first r); filled = refl })

pub next_faultless : (N : ℕ) (r : Range) (sofar : ℕ) (b l : List ℕ) → GoodNextLine N r sofar b l → line_fault N r true (eqb (length b) N) sofar l ≡ 0
next_faultless N r sofar b l g =
    line_faultless N r true (eqb (length b) N) sofar l
    (record { line = g.line; signs = g.signed; hashes = g.unhashed ∙ sym (due_never r); filled = full_test N b l g.full })

pub faultless_first : (N : ℕ) (r : Range) (l : List ℕ) → NoneBelow is_whole_line l (length l) → line_fault N r false true (first_byte r) l ≡ 0
    → GoodFirstLine N r l
faultless_first N r l h e =
    let k = faultless_line N r false true (first_byte r) l h e in
    record { line = k.line; unsigned = k.signs; hashed = k.hashes ∙ due_first r }

test_full : (t : Bool) (n : ℕ) → (t || eqb n 0) ≡ true → 1 ≤ n → t ≡ true
test_full true n w h = refl
test_full false n w h = absurd (omega (arith, eqb-true n 0 w))

pub faultless_next : (N : ℕ) (r : Range) (sofar : ℕ) (b l : List ℕ) → NoneBelow is_whole_line l (length l)
    → line_fault N r true (eqb (length b) N) sofar l ≡ 0 → GoodNextLine N r sofar b l
faultless_next N r sofar b l h e =
    let k = faultless_line N r true (eqb (length b) N) sofar l h e in
    record {
      line = k.line;
      signed = k.signs;
      unhashed = k.hashes ∙ due_never r;
      full = λ s. eqb-true (length b) N (test_full (eqb (length b) N) (chunk_size l) k.filled s);
    }

-- ---- the trailer

pub trailer_faultless : (l : List ℕ) → GoodTrailer l → is_trailer l ≡ true
unfolding is_trailer
trailer_faultless l g = rw (g.ends.there, g.text)

pub faultless_trailer : (l : List ℕ) → NoneBelow is_whole_trailer l (length l) → is_trailer l ≡ true → GoodTrailer l
unfolding is_trailer is_whole_trailer ends_trailer ends_with same
faultless_trailer l h e =
    record {
      ends = none_first ends_trailer head_limit l refl (left_holds (ends_trailer l) _ e) h;
      short = none_short ends_trailer head_limit l (omega arith) h;
      text = right_holds (ends_trailer l) _ e;
    }

-- ---- the end

pub claim_faultless : (h : Head) (body t : List ℕ) → GoodClaim h body t → end_fault h (all_fields h t) (length body) (sha256 body) ≡ 0
unfolding end_fault
claim_faultless h body t g = kept_unbroken (end_rules h (all_fields h t) (length body) (sha256 body)) g.kept

pub faultless_claim : (h : Head) (body t : List ℕ) → claims h t ≡ true → end_fault h (all_fields h t) (length body) (sha256 body) ≡ 0 → GoodClaim h body t
faultless_claim h body t c e =
    record { claimed = c; kept = held_kept (end_rules h (all_fields h t) (length body) (sha256 body)) (end_rules_hold h (all_fields h t) (length body) (sha256 body) e) }
