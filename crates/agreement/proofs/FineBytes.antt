-- A byte that is due never leads to refusal 1 or 2, whatever the state. Assumes nothing.
use mathlib.Core.Path.{◌≡◌, refl, sym}
use mathlib.Core.Bool.{Bool, true, false, true≢false}
use mathlib.Core.List.{List, [], ◌∷◌}
use Prim.Native.Nat.{ℕ, zero, suc, ◌+◌, ◌≤◌}
use native.Mathlib.Omega.{arith}
use borrow.Author.Tests.{ne_eqb}
use lib.Dec.{eqb, leb}
use lib.ListN.{length, take, set, get_or}
use Rattle.octets.specs.Choice.{pick}
use Rattle.chunk.specs.Judging.{line_judged, unless_fault, good_line}
use Rattle.refusals.specs.declared.Refusal.{Refusal}
use Rattle.stream.specs.Blocks.{is_whole_line, line_fault, chunk_size}
use Rattle.stream.specs.Bytes.{same}
use Rattle.stream.specs.Head.{head_of, head_fault, trusted_by, is_whole_head}
use Rattle.stream.specs.Limits.{line_limit}
use Rattle.stream.specs.Lines.{crlf}
use Rattle.stream.specs.Ring.{number_of}
use Rattle.stream.specs.Range.{Range}
use Rattle.stream.specs.Terms.{Terms}
use Rattle.stream.specs.Trailer.{is_whole_trailer}
use Rattle.judging.specs.Judgement.{head_judged, none_asked, judged}
use Rattle.judging.specs.Judgement as J
use Rattle.state.specs.Configuration.{Configuration, configuration, in_phase, Next, on, stop, refuse}
use Rattle.line_steps.specs.FirstLine.{range_now, first_now, first_judged, first_answered, first_gathered, push_first_line}
use Rattle.line_steps.specs.NextLine.{next_judged, next_answered, next_gathered, push_next_line}
use Rattle.body_steps.specs.Data.{push_data, push_data_end}
use Rattle.ends.specs.Judgement.{Judgement}
use Rattle.ends.specs.declared.trailer.Asked as End
use Rattle.std.specs.Prelude.{Option, Some, None, Result, Ok, Err}
use Rattle.trailer_steps.specs.Trailer.{trailer_answered, judged_at, trailer_gathered, push_trailer}
use Rattle.line_steps.specs.NextLine as Line
use Rattle.state.specs.Run.{follow, run_of}
use Rattle.state.specs.declared.phase.Phase.{Phase}
use Rattle.state.specs.declared.phase.Phase.TheVariants as P
use Rattle.calls.specs.Response.{is_reading}
use Rattle.head_steps.specs.HeadByte.{head_answered, head_gathered, push_head}
use Rattle.head_steps.specs.HeadByte as HeadByte
use Rattle.reader.specs.Feed.{push_at, push_byte, fed}
use Rattle.agreement.proofs.EndNumbers.{Numbered, numbered}
use Rattle.agreement.proofs.Refusals.{line_number, head_number, of_stream}
use Rattle.agreement.specs.Due.{is_misuse}

-- where a byte leads: the reader stands where bytes are due, or says a word that is neither
abbrev pub Fine : Next → Type 0
Fine (on d) = is_reading d.reader.phase ≡ true
Fine (stop w signature d) = is_misuse w ≡ false

fine_pick : (t : Bool) (m n : Next) → Fine m → Fine n → Fine (pick t m n)
fine_pick true m n a b = a
fine_pick false m n a b = b

pub fine_refuse : (why : Refusal) (count : ℕ) (d : Configuration) → 3 ≤ why.number → Fine (refuse why count d)
unfolding refuse
fine_refuse why count d h = of_stream why.number h

fine_picked : (t : Bool) (p q : Phase) → is_reading p ≡ true → is_reading q ≡ true → is_reading (pick t p q) ≡ true
fine_picked true p q a b = a
fine_picked false p q a b = b

fine_data : (d : Configuration) (have size x : ℕ) → Fine (push_data d have size x)
unfolding push_data
fine_data d have size x =
    fine_pick (leb (length d.block) have) _ _ (fine_refuse _ have d (omega arith))
    (fine_picked (leb size (have + 1)) (P.DataEnd 0 size) (P.Data (have + 1) size) refl refl)

fine_end : (d : Configuration) (have size x : ℕ) → Fine (push_data_end d have size x)
unfolding push_data_end
fine_end d have size x =
    fine_pick (eqb have 0) _ _ refl (fine_pick (same (get_or d.reader.line 0 0 ∷ x ∷ []) crlf) _ _ refl (fine_refuse _ size d (omega arith)))

-- a line's refusal has a number of the rules
fine_first : (d : Configuration) (N : ℕ) (r : Range) (sofar : ℕ) (l carried : List ℕ) (fault : ℕ) → line_fault N r false true sofar l ≡ fault
    → Fine (first_answered d (unless_fault fault l (good_line (chunk_size l) carried)))
unfolding first_answered
fine_first d N r sofar l carried zero e = fine_picked (eqb (chunk_size l) 0) (P.Trailer 0 0) (P.Data 0 (chunk_size l)) refl refl
fine_first d N r sofar l carried (suc n) e = fine_refuse _ 0 d (line_number N r false true sofar l n e)

fine_first_line : (d : Configuration) (have x : ℕ) → Fine (push_first_line d have x)
unfolding push_first_line first_gathered first_judged line_judged
fine_first_line d have x =
    fine_pick (leb line_limit have) _ _ (fine_refuse _ 0 d (omega arith))
    (fine_pick (is_whole_line (take (have + 1) (set d.reader.line have x))) _ _ (fine_first _ d.reader.fixed.block_size (range_now d.reader) (first_now d.reader) _ _ _ refl) refl)

fine_next : (d : Configuration) (size N : ℕ) (r : Range) (full : Bool) (sofar : ℕ) (l signature : List ℕ) (fault : ℕ) → line_fault N r true full sofar l ≡ fault
    → Fine (next_answered d size (unless_fault fault l (good_line (chunk_size l) signature)))
unfolding next_answered Line.asked
fine_next d size N r full sofar l signature zero e = refl
fine_next d size N r full sofar l signature (suc n) e = fine_refuse _ size d (line_number N r true full sofar l n e)

fine_next_line : (d : Configuration) (have size x : ℕ) → Fine (push_next_line d have size x)
unfolding push_next_line next_gathered next_judged line_judged
fine_next_line d have size x =
    fine_pick (leb line_limit have) _ _ (fine_refuse _ size d (omega arith))
    (fine_pick (is_whole_line (take (have + 1) (set d.reader.line have x))) _ _
    (fine_next _ size d.reader.fixed.block_size (range_now d.reader) (eqb size d.reader.fixed.block_size) _ _ _ _ refl) refl)

-- a trailer's, and the end's
fine_answered : (d : Configuration) (have total : ℕ) (j : Judgement) → Numbered j.answer → Fine (judged_at d have total j)
unfolding trailer_answered
fine_answered d have total j h = by j.answer h
  where
    by : (judged : Result (Option End.Asked) Refusal) → Numbered judged
        → Fine (trailer_answered (configuration d.reader d.head d.block j.question) have total judged)
    by (Ok None) h = refl
    by (Ok (Some a)) h = refl
    by (Err why) h = fine_refuse why have _ h

fine_trailer : (d : Configuration) (have total x : ℕ) → Fine (push_trailer d have total x)
unfolding push_trailer trailer_gathered
fine_trailer d have total x =
    fine_pick (leb (length d.block) have) _ _ (fine_refuse _ have d (omega arith))
    (fine_pick (is_whole_trailer (take (have + 1) (set d.block have x))) _ _
    (fine_answered (configuration (in_phase d.reader (P.Trailer (have + 1) total)) d.head (set d.block have x) d.question) (have + 1) total _ (numbered _ _ total _ d.question))
    refl)

-- a head's refusal too
fine_judged : (d : Configuration) (n : ℕ) (terms : Terms) (l q : List ℕ) → Fine (HeadByte.judged_at d n (head_judged terms l q))
unfolding head_judged head_answered J.asked
fine_judged d n terms l q = by (head_fault terms l) refl
  where
    room : (t : Bool) → Fine (HeadByte.judged_at d n (pick t (J.asked (number_of (trusted_by terms.ring (head_of l))) (head_of l) q) (judged (none_asked 3 l) q)))
    room true = refl
    room false = fine_refuse _ 0 _ (omega arith)

    by : (fault : ℕ) → head_fault terms l ≡ fault
        → Fine
        (HeadByte.judged_at d n
        (pick (eqb fault 0)
        (pick (leb (length l) (length q)) (J.asked (number_of (trusted_by terms.ring (head_of l))) (head_of l) q) (judged (none_asked 3 l) q))
        (judged (none_asked fault l) q)))
    by zero e = room (leb (length l) (length q))
    by (suc k) e = rw (ne_eqb (suc k) 0 (λ x. omega arith)) (fine_refuse _ 0 _ (head_number terms l k e))

fine_head : (terms : Terms) (d : Configuration) (have x : ℕ) → Fine (push_head terms d have x)
unfolding push_head head_gathered
fine_head terms d have x =
    fine_pick (leb (length d.head) have) _ _ (fine_refuse _ 0 d (omega arith))
    (fine_pick (is_whole_head (take (have + 1) (set d.head have x))) _ _ (fine_judged (configuration (in_phase d.reader (P.Head (have + 1))) (set d.head have x) d.block d.question) (have + 1) terms _ d.question) refl)

fine_push : (terms : Terms) (d : Configuration) (p : Phase) (x : ℕ) → is_reading p ≡ true → Fine (push_at terms p d x)
unfolding push_at
fine_push terms d (P.Head have) x e = fine_head terms d have x
fine_push terms d (P.HeadAsked n) x e = absurd (true≢false (sym e))
fine_push terms d (P.FirstLine have) x e = fine_first_line d have x
fine_push terms d (P.Data have size) x e = fine_data d have size x
fine_push terms d (P.DataEnd have size) x e = fine_end d have size x
fine_push terms d (P.NextLine have size) x e = fine_next_line d have size x
fine_push terms d (P.BlockAsked size next) x e = absurd (true≢false (sym e))
fine_push terms d (P.Trailer have total) x e = fine_trailer d have total x
fine_push terms d (P.EndAsked have total) x e = absurd (true≢false (sym e))
fine_push terms d (P.Closed total) x e = absurd (true≢false (sym e))
fine_push terms d (P.Complete total) x e = absurd (true≢false (sym e))
fine_push terms d (P.Refused n) x e = absurd (true≢false (sym e))

pub fine_run : (terms : Terms) (d : Configuration) (t : ℕ) (xs : List ℕ) → is_reading d.reader.phase ≡ true → is_misuse (fed (run_of (push_byte terms) d t xs)).word ≡ false
unfolding run_of
fine_run terms d t [] e = refl
fine_run terms d t (x ∷ xs) e = by (push_byte terms d x) (fine_push terms d d.reader.phase x e) (λ d'. fine_run terms d' (t + 1) xs)
  where
    by : (n : Next) → Fine n → ((d' : Configuration) → is_reading d'.reader.phase ≡ true → is_misuse (fed (run_of (push_byte terms) d' (t + 1) xs)).word ≡ false)
        → is_misuse (fed (follow n (t + 1) (λ d'. run_of (push_byte terms) d' (t + 1) xs))).word ≡ false
    by (on d') f ih = ih d' f
    by (stop w signature d') f ih = f
