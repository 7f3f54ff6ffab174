-- The key ring and the asked URI are read only when the head is judged (paper 01, "The head"; request #105): a feed that begins after the head, or
-- that brings no event, does the same with any ring that will do and any URI, whatever the state. Assumes nothing.
use mathlib.Core.Path.{◌≡◌, refl, sym, ap, ◌∙◌}
use mathlib.Core.Bool.{Bool, true, false, true≢false, ◌&&◌}
use mathlib.Core.List.{List, [], ◌∷◌}
use Prim.Native.Nat.{ℕ, ◌+◌}
use lib.Dec.{eqb, leb}
use lib.ListN.{length, take, set, get_or}
use Rattle.octets.specs.Choice.{pick}
use Rattle.chunk.specs.declared.judging.Line as Chunk
use Rattle.std.specs.Prelude.{Option, Some, None, Result, Ok, Err}
use Rattle.refusals.specs.declared.Refusal.{Refusal}
use Rattle.ring.specs.Keys.{terms_of}
use Rattle.ring.specs.declared.KeyRing.{KeyRing}
use Rattle.judging.specs.declared.Asked.{Asked}
use Rattle.stream.specs.Blocks.{is_whole_line}
use Rattle.stream.specs.Bytes.{same}
use Rattle.stream.specs.Head.{is_whole_head}
use Rattle.stream.specs.Limits.{line_limit, ring_limit}
use Rattle.stream.specs.Lines.{crlf}
use Rattle.stream.specs.Terms.{Terms}
use Rattle.stream.specs.Trailer.{is_whole_trailer}
use Rattle.state.specs.Configuration.{Configuration, Next, on, stop, goes_on, refuse}
use Rattle.head_steps.specs.HeadByte.{head_answered, head_gathered, push_head}
use Rattle.line_steps.specs.FirstLine.{first_answered, first_gathered, push_first_line}
use Rattle.line_steps.specs.NextLine.{next_answered, next_gathered, push_next_line}
use Rattle.body_steps.specs.Data.{push_data, push_data_end}
use Rattle.ends.specs.declared.trailer.Asked as End
use Rattle.trailer_steps.specs.Trailer.{trailer_answered, trailer_gathered, push_trailer}
use Rattle.line_steps.specs.NextLine as Line
use Rattle.state.specs.Run.{Fed, follow, run_of}
use Rattle.state.specs.declared.phase.Phase.{Phase}
use Rattle.state.specs.declared.phase.Phase.TheVariants as P
use Rattle.state.specs.declared.word.Word.TheVariants as W
use Rattle.calls.specs.Response.{fits, is_reading, recalled, unchanged}
use Rattle.reader.specs.Feed.{fed, push_at, push_byte, taken_from, feed_of}
use Rattle.agreement.specs.Due.{is_in_head}

-- the byte does not lead back into the head
abbrev Past : Next → Type 0
Past (on d) = is_in_head d.reader.phase ≡ false
Past (stop w signature d) = Unit {0}

past_pick : (t : Bool) (m n : Next) → Past m → Past n → Past (pick t m n)
past_pick true m n a b = a
past_pick false m n a b = b

past_phase : (t : Bool) (p q : Phase) → is_in_head p ≡ false → is_in_head q ≡ false → is_in_head (pick t p q) ≡ false
past_phase true p q a b = a
past_phase false p q a b = b

past_refuse : (why : Refusal) (count : ℕ) (d : Configuration) → Past (refuse why count d)
unfolding refuse
past_refuse why count d = tt

past_first : (d : Configuration) (judged : Result Chunk.Line Refusal) → Past (first_answered d judged)
unfolding first_answered
past_first d (Err why) = past_refuse why 0 d
past_first d (Ok line) = past_phase (eqb line.size 0) (P.Trailer 0 0) (P.Data 0 line.size) refl refl

past_next : (d : Configuration) (size : ℕ) (judged : Result Chunk.Line Refusal) → Past (next_answered d size judged)
unfolding next_answered Line.asked
past_next d size (Err why) = past_refuse why size d
past_next d size (Ok line) = tt

past_trailer : (d : Configuration) (have total : ℕ) (judged : Result (Option End.Asked) Refusal) → Past (trailer_answered d have total judged)
unfolding trailer_answered
past_trailer d have total (Ok None) = tt
past_trailer d have total (Ok (Some a)) = tt
past_trailer d have total (Err why) = past_refuse why have d

past_push : (terms : Terms) (d : Configuration) (p : Phase) (x : ℕ) → is_in_head p ≡ false → Past (push_at terms p d x)
unfolding push_at push_data push_data_end push_first_line first_gathered push_next_line next_gathered push_trailer trailer_gathered
past_push terms d (P.Head have) x e = absurd (true≢false e)
past_push terms d (P.HeadAsked n) x e = tt
past_push terms d (P.FirstLine have) x e =
    past_pick (leb line_limit have) _ _ (past_refuse _ 0 d)
    (past_pick (is_whole_line (take (have + 1) (set d.reader.line have x))) _ _ (past_first _ _) refl)
past_push terms d (P.Data have size) x e =
    past_pick (leb (length d.block) have) _ _ (past_refuse _ have d)
    (past_phase (leb size (have + 1)) (P.DataEnd 0 size) (P.Data (have + 1) size) refl refl)
past_push terms d (P.DataEnd have size) x e =
    past_pick (eqb have 0) _ _ refl (past_pick (same (get_or d.reader.line 0 0 ∷ x ∷ []) crlf) _ _ refl (past_refuse _ size d))
past_push terms d (P.NextLine have size) x e =
    past_pick (leb line_limit have) _ _ (past_refuse _ size d)
    (past_pick (is_whole_line (take (have + 1) (set d.reader.line have x))) _ _ (past_next _ size _) refl)
past_push terms d (P.BlockAsked size next) x e = tt
past_push terms d (P.Trailer have total) x e =
    let text = take (have + 1) (set d.block have x) in
    past_pick (leb (length d.block) have) _ _ (past_refuse _ have d)
    (past_pick (is_whole_trailer text) _ _ (past_trailer _ (have + 1) total _) refl)
past_push terms d (P.EndAsked have total) x e = tt
past_push terms d (P.Closed total) x e = tt
past_push terms d (P.Complete total) x e = tt
past_push terms d (P.Refused n) x e = tt

push_same : (terms terms' : Terms) (d : Configuration) (p : Phase) (x : ℕ) → is_in_head p ≡ false → push_at terms p d x ≡ push_at terms' p d x
unfolding push_at
push_same terms terms' d (P.Head have) x e = absurd (true≢false e)
push_same terms terms' d (P.HeadAsked n) x e = refl
push_same terms terms' d (P.FirstLine have) x e = refl
push_same terms terms' d (P.Data have size) x e = refl
push_same terms terms' d (P.DataEnd have size) x e = refl
push_same terms terms' d (P.NextLine have size) x e = refl
push_same terms terms' d (P.BlockAsked size next) x e = refl
push_same terms terms' d (P.Trailer have total) x e = refl
push_same terms terms' d (P.EndAsked have total) x e = refl
push_same terms terms' d (P.Closed total) x e = refl
push_same terms terms' d (P.Complete total) x e = refl
push_same terms terms' d (P.Refused n) x e = refl

run_same : (terms terms' : Terms) (xs : List ℕ) (d : Configuration) (t : ℕ) → is_in_head d.reader.phase ≡ false
    → run_of (push_byte terms) d t xs ≡ run_of (push_byte terms') d t xs
unfolding run_of
run_same terms terms' [] d t e = refl
run_same terms terms' (x ∷ xs) d t e =
    rw (push_same terms terms' d d.reader.phase x e)
    (by (push_byte terms' d x) (past_push terms' d d.reader.phase x e) (λ d' f. run_same terms terms' xs d' (t + 1) f))
  where
    by : (n : Next) → Past n → ((d' : Configuration) → is_in_head d'.reader.phase ≡ false → run_of (push_byte terms) d' (t + 1) xs ≡ run_of (push_byte terms') d' (t + 1) xs)
        → follow n (t + 1) (λ d'. run_of (push_byte terms) d' (t + 1) xs) ≡ follow n (t + 1) (λ d'. run_of (push_byte terms') d' (t + 1) xs)
    by (on d') p ih = ih d' p
    by (stop w signature d') p ih = refl

-- AFTER THE HEAD any two rings that will do, with any two URIs, give the same feed.
pub terms_unread : (keys keys' : KeyRing) (uri uri' : List ℕ) (d : Configuration) (piece : List ℕ) → is_in_head d.reader.phase ≡ false
    → leb keys.count ring_limit ≡ true → leb keys'.count ring_limit ≡ true → feed_of keys uri d piece ≡ feed_of keys' uri' d piece
unfolding feed_of taken_from
terms_unread keys keys' uri uri' d piece e f g = rw (f, g, run_same (terms_of keys uri) (terms_of keys' uri') piece (recalled d) 0 e)

-- ---- up to the head's last byte

abbrev says_nothing : Next → Bool
says_nothing (on d) = true
says_nothing (stop w signature d) = goes_on w

-- where m says no word, n is the same
record Quiet (m n : Next) : Type 0 where
  pub same_next : says_nothing m ≡ true → m ≡ n

alike : (n : Next) → Quiet n n
alike n = record { same_next = λ e. refl }

quiet_pick : (t : Bool) (m m' n n' : Next) → Quiet m m' → Quiet n n' → Quiet (pick t m n) (pick t m' n')
quiet_pick true m m' n n' a b = a
quiet_pick false m m' n n' a b = b

-- a whole head is refused or asked about
quiet_judged : (d : Configuration) (n : ℕ) (judged : Result Asked Refusal) (other : Next) → Quiet (head_answered d n judged) other
unfolding head_answered refuse
quiet_judged d n (Err why) other = record { same_next = λ e. absurd (true≢false (sym e)) }
quiet_judged d n (Ok a) other = record { same_next = λ e. absurd (true≢false (sym e)) }

quiet_push : (terms terms' : Terms) (d : Configuration) (p : Phase) (x : ℕ) → Quiet (push_at terms p d x) (push_at terms' p d x)
unfolding push_at push_head head_gathered
quiet_push terms terms' d (P.Head have) x =
    quiet_pick (leb (length d.head) have) _ _ _ _ (alike _)
    (quiet_pick (is_whole_head (take (have + 1) (set d.head have x))) _ _ _ _ (quiet_judged _ _ _ _) (alike _))
quiet_push terms terms' d (P.HeadAsked n) x = alike _
quiet_push terms terms' d (P.FirstLine have) x = alike _
quiet_push terms terms' d (P.Data have size) x = alike _
quiet_push terms terms' d (P.DataEnd have size) x = alike _
quiet_push terms terms' d (P.NextLine have size) x = alike _
quiet_push terms terms' d (P.BlockAsked size next) x = alike _
quiet_push terms terms' d (P.Trailer have total) x = alike _
quiet_push terms terms' d (P.EndAsked have total) x = alike _
quiet_push terms terms' d (P.Closed total) x = alike _
quiet_push terms terms' d (P.Complete total) x = alike _
quiet_push terms terms' d (P.Refused n) x = alike _

run_quiet : (terms terms' : Terms) (xs : List ℕ) (d : Configuration) (t : ℕ) → goes_on (fed (run_of (push_byte terms) d t xs)).word ≡ true
    → run_of (push_byte terms) d t xs ≡ run_of (push_byte terms') d t xs
unfolding run_of
run_quiet terms terms' [] d t e = refl
run_quiet terms terms' (x ∷ xs) d t e =
    by (push_byte terms d x) (push_byte terms' d x) (quiet_push terms terms' d d.reader.phase x) (λ d' f. run_quiet terms terms' xs d' (t + 1) f) e
  where
    rest : Terms → Configuration → Fed
    rest terms d' = run_of (push_byte terms) d' (t + 1) xs

    by : (m n : Next) → Quiet m n → ((d' : Configuration) → goes_on (fed (rest terms d')).word ≡ true → rest terms d' ≡ rest terms' d')
        → goes_on (fed (follow m (t + 1) (rest terms))).word ≡ true → follow m (t + 1) (rest terms) ≡ follow n (t + 1) (rest terms')
    by (on d') n q ih e = ih d' e ∙ ap (λ (n : Next). follow n (t + 1) (rest terms')) (q.same_next refl)
    by (stop w signature d') n q ih e = ap (λ (n : Next). follow n (t + 1) (rest terms')) (q.same_next e)

-- A FEED THAT BRINGS NO EVENT is the same with any other ring that will do and any other URI.
pub terms_unread_yet : (keys keys' : KeyRing) (uri uri' : List ℕ) (d : Configuration) (piece : List ℕ) → (feed_of keys uri d piece).word ≡ W.More
    → leb keys'.count ring_limit ≡ true → feed_of keys uri d piece ≡ feed_of keys' uri' d piece
unfolding feed_of taken_from
terms_unread_yet keys keys' uri uri' d piece e g =
    rw g (by (fits d) (leb keys.count ring_limit) (is_reading d.reader.phase) _ _ (run_quiet (terms_of keys uri) (terms_of keys' uri') piece (recalled d) 0) (ap goes_on e))
  where
    by : (a b c : Bool) (m m' : Fed) → (goes_on (fed m).word ≡ true → m ≡ m')
        → goes_on (pick (a && b) (pick c (fed m) (unchanged 1 d)) (unchanged 2 d)).word ≡ true
        → pick (a && b) (pick c (fed m) (unchanged 1 d)) (unchanged 2 d) ≡ pick (a && true) (pick c (fed m') (unchanged 1 d)) (unchanged 2 d)
    by true true true m m' f e = ap fed (f e)
    by true true false m m' f e = refl
    by true false c m m' f e = absurd (true≢false (sym e))
    by false b c m m' f e = refl
