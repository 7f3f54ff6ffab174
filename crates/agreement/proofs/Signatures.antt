-- Only a question comes with a signature: with any other word go 64 zeros, whatever the state. Assumes nothing.
use mathlib.Core.Path.{◌≡◌, refl}
use mathlib.Core.Bool.{Bool, true, false, true≢false}
use mathlib.Core.List.{List, [], ◌∷◌}
use Prim.Native.Nat.{ℕ, ◌+◌}
use lib.Dec.{eqb, leb}
use lib.ListN.{length, take, set, get_or}
use Rattle.octets.specs.Choice.{pick}
use Rattle.chunk.specs.declared.judging.Line as Chunk
use Rattle.std.specs.Prelude.{Option, Some, None, Result, Ok, Err}
use Rattle.refusals.specs.declared.Refusal.{Refusal}
use Rattle.ring.specs.Keys.{terms_of}
use Rattle.ring.specs.declared.KeyRing.{KeyRing}
use Rattle.sections.specs.Calls.{Request, feed, answer, end}
use Rattle.stream.specs.Blocks.{is_whole_line}
use Rattle.stream.specs.Bytes.{same}
use Rattle.stream.specs.Head.{is_whole_head}
use Rattle.stream.specs.Limits.{line_limit, ring_limit}
use Rattle.stream.specs.Lines.{crlf}
use Rattle.stream.specs.Terms.{Terms}
use Rattle.stream.specs.Trailer.{is_whole_trailer}
use Rattle.judging.specs.declared.Asked.{Asked}
use Rattle.state.specs.Configuration.{Configuration, Next, on, stop, no_signature, pending, refuse}
use Rattle.state.specs.Run.{follow, run_of}
use Rattle.state.specs.declared.phase.Phase.{Phase}
use Rattle.state.specs.declared.phase.Phase.TheVariants as P
use Rattle.head_steps.specs.HeadByte.{head_answered, head_gathered, push_head}
use Rattle.line_steps.specs.FirstLine.{first_answered, first_gathered, push_first_line}
use Rattle.line_steps.specs.NextLine.{next_answered, next_gathered, push_next_line}
use Rattle.line_steps.specs.NextLine as Line
use Rattle.body_steps.specs.Data.{push_data, push_data_end}
use Rattle.ends.specs.declared.trailer.Asked as End
use Rattle.trailer_steps.specs.Trailer.{trailer_answered, trailer_gathered, push_trailer}
use Rattle.calls.specs.Answer.{head_answer, block_answer, answer_at, answer_of, end_of, end_answer}
use Rattle.calls.specs.Response as R
use Rattle.calls.specs.Response.{fits, is_reading, recalled, given}
use Rattle.reader.specs.Feed.{push_at, push_byte, fed, taken_from, feed_of}
use Rattle.agreement.specs.Due.{is_question}
use Rattle.agreement.specs.Run.{called}

-- ---- a byte

abbrev Unsigned : Next → Type 0
Unsigned (on d) = Unit {0}
Unsigned (stop w signature d) = is_question w ≡ false → signature ≡ no_signature

unsigned_pick : (t : Bool) (m n : Next) → Unsigned m → Unsigned n → Unsigned (pick t m n)
unsigned_pick true m n a b = a
unsigned_pick false m n a b = b

unsigned_refuse : (why : Refusal) (count : ℕ) (d : Configuration) → Unsigned (refuse why count d)
unfolding refuse
unsigned_refuse why count d = λ e. refl

unsigned_first : (d : Configuration) (judged : Result Chunk.Line Refusal) → Unsigned (first_answered d judged)
unfolding first_answered
unsigned_first d (Err why) = unsigned_refuse why 0 d
unsigned_first d (Ok line) = tt

unsigned_next : (d : Configuration) (size : ℕ) (judged : Result Chunk.Line Refusal) → Unsigned (next_answered d size judged)
unfolding next_answered Line.asked
unsigned_next d size (Err why) = unsigned_refuse why size d
unsigned_next d size (Ok line) = λ e. absurd (true≢false e)

unsigned_head : (d : Configuration) (n : ℕ) (judged : Result Asked Refusal) → Unsigned (head_answered d n judged)
unfolding head_answered
unsigned_head d n (Err why) = unsigned_refuse why 0 d
unsigned_head d n (Ok a) = λ e. absurd (true≢false e)

unsigned_trailer : (d : Configuration) (have total : ℕ) (judged : Result (Option End.Asked) Refusal) → Unsigned (trailer_answered d have total judged)
unfolding trailer_answered
unsigned_trailer d have total (Ok None) = λ e. refl
unsigned_trailer d have total (Err why) = unsigned_refuse why have d
unsigned_trailer d have total (Ok (Some a)) = λ e. absurd (true≢false e)

unsigned_push : (terms : Terms) (d : Configuration) (p : Phase) (x : ℕ) → Unsigned (push_at terms p d x)
unfolding push_at push_head head_gathered push_data push_data_end push_first_line first_gathered push_next_line next_gathered push_trailer trailer_gathered
unsigned_push terms d (P.Head have) x =
    unsigned_pick (leb (length d.head) have) _ _ (unsigned_refuse _ 0 d)
    (unsigned_pick (is_whole_head (take (have + 1) (set d.head have x))) _ _ (unsigned_head _ (have + 1) _) tt)
unsigned_push terms d (P.HeadAsked n) x = λ e. refl
unsigned_push terms d (P.FirstLine have) x =
    unsigned_pick (leb line_limit have) _ _ (unsigned_refuse _ 0 d)
    (unsigned_pick (is_whole_line (take (have + 1) (set d.reader.line have x))) _ _ (unsigned_first _ _) tt)
unsigned_push terms d (P.Data have size) x = unsigned_pick (leb (length d.block) have) _ _ (unsigned_refuse _ have d) tt
unsigned_push terms d (P.DataEnd have size) x =
    unsigned_pick (eqb have 0) _ _ tt (unsigned_pick (same (get_or d.reader.line 0 0 ∷ x ∷ []) crlf) _ _ tt (unsigned_refuse _ size d))
unsigned_push terms d (P.NextLine have size) x =
    unsigned_pick (leb line_limit have) _ _ (unsigned_refuse _ size d)
    (unsigned_pick (is_whole_line (take (have + 1) (set d.reader.line have x))) _ _ (unsigned_next _ size _) tt)
unsigned_push terms d (P.BlockAsked size next) x = λ e. refl
unsigned_push terms d (P.Trailer have total) x =
    let text = take (have + 1) (set d.block have x) in
    unsigned_pick (leb (length d.block) have) _ _ (unsigned_refuse _ have d)
    (unsigned_pick (is_whole_trailer text) _ _ (unsigned_trailer _ (have + 1) total _) tt)
unsigned_push terms d (P.EndAsked have total) x = λ e. refl
unsigned_push terms d (P.Closed total) x = λ e. refl
unsigned_push terms d (P.Complete total) x = λ e. refl
unsigned_push terms d (P.Refused n) x = λ e. refl

-- ---- a call

abbrev UnsignedCall : R.Response → Type 0
UnsignedCall c = is_question c.word ≡ false → c.signature ≡ no_signature

call_pick : (t : Bool) (c e : R.Response) → UnsignedCall c → UnsignedCall e → UnsignedCall (pick t c e)
call_pick true c e a b = a
call_pick false c e a b = b

unsigned_run : (terms : Terms) (d : Configuration) (t : ℕ) (xs : List ℕ) → UnsignedCall (fed (run_of (push_byte terms) d t xs))
unfolding run_of
unsigned_run terms d t [] = λ e. refl
unsigned_run terms d t (x ∷ xs) = by (push_byte terms d x) (unsigned_push terms d d.reader.phase x) (λ d'. unsigned_run terms d' (t + 1) xs)
  where
    by : (n : Next) → Unsigned n → ((d' : Configuration) → UnsignedCall (fed (run_of (push_byte terms) d' (t + 1) xs)))
        → UnsignedCall (fed (follow n (t + 1) (λ d'. run_of (push_byte terms) d' (t + 1) xs)))
    by (on d') u ih = ih d'
    by (stop w signature d') u ih = u

given_unsigned : (why : Refusal) (count : ℕ) (d : Configuration) → UnsignedCall (given 0 (refuse why count d))
unfolding refuse
given_unsigned why count d = λ e. refl

unsigned_answer : (d : Configuration) (p : Phase) (good : Bool) → UnsignedCall (answer_at p d good)
unfolding answer_at head_answer block_answer end_answer
unsigned_answer d (P.Head n) good = λ e. refl
unsigned_answer d (P.HeadAsked n) good = call_pick good _ _ (λ e. refl) (given_unsigned _ 0 d)
unsigned_answer d (P.FirstLine n) good = λ e. refl
unsigned_answer d (P.Data have size) good = λ e. refl
unsigned_answer d (P.DataEnd have size) good = λ e. refl
unsigned_answer d (P.NextLine have size) good = λ e. refl
unsigned_answer d (P.BlockAsked size next) good = call_pick good _ _ (λ e. refl) (given_unsigned _ size d)
unsigned_answer d (P.Trailer have total) good = λ e. refl
unsigned_answer d (P.EndAsked have total) good = call_pick good _ _ (λ e. refl) (given_unsigned _ have d)
unsigned_answer d (P.Closed total) good = λ e. refl
unsigned_answer d (P.Complete total) good = λ e. refl
unsigned_answer d (P.Refused n) good = λ e. refl

-- NO OTHER WORD comes with anything but zeros.
pub unsigned_call : (keys : KeyRing) (uri : List ℕ) (d : Configuration) (r : Request) → is_question (called keys uri d r).word ≡ false → (called keys uri d r).signature ≡ no_signature
unfolding feed_of taken_from answer_of end_of
unsigned_call keys uri d (feed piece) = by (fits d) refl (leb keys.count ring_limit) refl
  where
    -- by what the loan is, whatever form the call is written in
    by : (t : Bool) → fits d ≡ t → (u : Bool) → leb keys.count ring_limit ≡ u → UnsignedCall (called keys uri d (feed piece))
    by true e true f = rw (e, f) (call_pick (is_reading d.reader.phase) _ _ (unsigned_run (terms_of keys uri) (recalled d) 0 piece) (λ x. refl))
    by true e false f = rw (e, f) (λ x. refl)
    by false e u f = rw e (λ x. refl)
unsigned_call keys uri d (answer good) = call_pick (fits d) _ _ (unsigned_answer d d.reader.phase good) (λ e. refl)
unsigned_call keys uri d end =
    call_pick (fits d) _ _ (call_pick (is_reading d.reader.phase) _ _ (given_unsigned _ (pending d.reader.phase) (recalled d)) (λ e. refl)) (λ e. refl)
