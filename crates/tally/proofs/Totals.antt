-- The day tally is right: after any words it shows what they add up to, each count cut to its largest value, and so after the events
-- of any log (paper 01, "The kit's log"). Assumes nothing.
use mathlib.Core.Path.{◌≡◌, refl, sym, ap, ◌∙◌}
use mathlib.Core.Bool.{Bool, true, false}
use mathlib.Core.List.{List, [], ◌∷◌, ◌++◌}
use Prim.Native.Nat.{ℕ, ◌+◌, min}
use native.Mathlib.Omega.{arith}
use Rattle.octets.specs.Choice.{pick}
use Rattle.sections.specs.Calls.{is_of_call}
use Rattle.sections.specs.Reading.{Event, question, message, last, Log}
use Rattle.stream.specs.Events.{Question, Release, head_accepted, block, LastWord, closed, complete, refused}
use Rattle.state.specs.declared.word.Word.{Word}
use Rattle.state.specs.declared.word.Word.TheVariants as W
use Rattle.tally.specs.declared.Tally.{Tally}
use Rattle.tally.specs.Counting.{largest, grown, no_counts, with_refused, tallied_after, tallied}
use Rattle.tally.specs.Counts.{Counts, counts, nothing, together, shown, event_counts, counts_of, word_counts, words_count, word_of, words_of}

-- ---- counts, field by field

counts_same : {a a' b b' c c' d d' : ℕ} → a ≡ a' → b ≡ b' → c ≡ c' → d ≡ d' → counts a b c d ≡ counts a' b' c' d'
counts_same p q r s = λ i. counts (p i) (q i) (r i) (s i)

tally_same : {t u : Tally} → t.blocks ≡ u.blocks → t.bytes ≡ u.bytes → t.closed ≡ u.closed → t.refused ≡ u.refused → t ≡ u
tally_same p q r s = λ i. record { blocks = p i; bytes = q i; closed = r i; refused = s i }

pub together_assoc : (a b c : Counts) → together (together a b) c ≡ together a (together b c)
together_assoc a b c = counts_same (omega arith) (omega arith) (omega arith) (omega arith)

together_nothing : (a : Counts) → together a nothing ≡ a
together_nothing a = counts_same (omega arith) (omega arith) (omega arith) (omega arith)

pub nothing_together : (a : Counts) → together nothing a ≡ a
nothing_together a = counts_same (omega arith) (omega arith) (omega arith) (omega arith)

-- ---- one word

-- a count that was cut grows to the same as one that was not
grown_cut : (a b : ℕ) → grown (min a largest) b ≡ min (a + b) largest
grown_cut a b = omega arith

kept : (a : ℕ) → min a largest ≡ min (a + 0) largest
kept a = omega arith

same_shown : (c : Counts) → shown c ≡ shown (together c nothing)
same_shown c = ap shown (sym (together_nothing c))

refused_shown : (c : Counts) (b : Bool) → pick b (shown c) (with_refused (shown c)) ≡ shown (together c (pick b nothing (counts 0 0 0 1)))
refused_shown c true = same_shown c
refused_shown c false = tally_same (kept c.blocks) (kept c.bytes) (kept c.closed) (grown_cut c.refused 1)

-- what a word does to a tally is what it adds to the counts that the tally shows
pub after_shown : (c : Counts) (w : Word) → tallied_after (shown c) w ≡ shown (together c (word_counts w))
unfolding tallied_after word_counts
after_shown c W.More = same_shown c
after_shown c (W.Question n key) = same_shown c
after_shown c (W.Head status) = same_shown c
after_shown c (W.Block offset n) = tally_same (grown_cut c.blocks 1) (grown_cut c.bytes n) (kept c.closed) (kept c.refused)
after_shown c (W.Closed total) = tally_same (kept c.blocks) (kept c.bytes) (grown_cut c.closed 1) (kept c.refused)
after_shown c (W.Complete total) = tally_same (kept c.blocks) (kept c.bytes) (grown_cut c.closed 1) (kept c.refused)
after_shown c (W.Refused why) = refused_shown c (is_of_call why.number)

-- ---- many words

-- from any counts that a tally shows
pub tallied_shown : (c : Counts) (ws : List Word) → tallied (shown c) ws ≡ shown (together c (words_count ws))
unfolding tallied words_count
tallied_shown c [] = same_shown c
tallied_shown c (w ∷ ws) =
    ap (λ (t : Tally). tallied t ws) (after_shown c w) ∙ tallied_shown (together c (word_counts w)) ws ∙ ap shown (together_assoc c (word_counts w) (words_count ws))

-- THE CLAIM over words: a day's tally, from zero, shows their blocks, bytes, closings and final refusals
pub tally_of_words : (ws : List Word) → tallied no_counts ws ≡ shown (words_count ws)
tally_of_words ws = tallied_shown nothing ws ∙ ap shown (nothing_together (words_count ws))

-- a day goes on where it stood
pub tallied_append : (t : Tally) (ws vs : List Word) → tallied t (ws ++ vs) ≡ tallied (tallied t ws) vs
unfolding tallied
tallied_append t [] vs = refl
tallied_append t (w ∷ ws) vs = tallied_append (tallied_after t w) ws vs

-- ---- events

event_as_word : (e : Event Question Release LastWord) → word_counts (word_of e) ≡ event_counts e
unfolding word_counts word_of event_counts
event_as_word (question q) = refl
event_as_word (message (head_accepted status fields)) = refl
event_as_word (message (block offset bytes)) = refl
event_as_word (last (closed total)) = refl
event_as_word (last (complete total)) = refl
event_as_word (last (refused n at)) = refl

-- a log's words count what its events count
pub log_as_words : (log : Log Question Release LastWord) → words_count (words_of log) ≡ counts_of log
unfolding words_count words_of counts_of
log_as_words [] = refl
log_as_words (x ∷ log) = rw (event_as_word x.1, log_as_words log)

-- THE CLAIM over events: the tally after a log's words, from zero, shows what its events come to
pub tally_of_log : (log : Log Question Release LastWord) → tallied no_counts (words_of log) ≡ shown (counts_of log)
tally_of_log log = tally_of_words (words_of log) ∙ ap shown (log_as_words log)

-- two streams of one day
pub counts_append : (log more : Log Question Release LastWord) → counts_of (log ++ more) ≡ together (counts_of log) (counts_of more)
unfolding counts_of
counts_append [] more = sym (nothing_together (counts_of more))
counts_append (x ∷ log) more = ap (together (event_counts x.1)) (counts_append log more) ∙ sym (together_assoc (event_counts x.1) (counts_of log) (counts_of more))
