-- What one byte of the head does (paper 01, "The head"): it is gathered, and the head that is whole with it is judged. Assumes
-- nothing.
use Rattle.std.specs.Prelude.{ℕ, ◌+◌, leb, length, take, set, Result, Ok, Err}
use Rattle.octets.specs.Choice.{pick}
use Rattle.refusals.specs.Refusals.{placed}
use Rattle.refusals.specs.declared.Refusal.{Refusal}
use Rattle.judging.specs.Judgement.{Judgement, head_judged}
use Rattle.judging.specs.declared.Asked.{Asked}
use Rattle.sha256.specs.Midstate.{start}
use Rattle.stream.specs.Head.{is_whole_head}
use Rattle.stream.specs.Limits.{head_limit}
use Rattle.stream.specs.Terms.{Terms}
use Rattle.state.specs.Configuration.{Configuration, configuration, in_phase, reader_at, Next, on, stop, refuse}
use Rattle.state.specs.declared.phase.Phase.TheVariants as P
use Rattle.state.specs.declared.reader.Fixed.{Fixed}
use Rattle.state.specs.declared.reader.Reader.{Reader}
use Rattle.state.specs.declared.word.Word.TheVariants as W

-- the reader while its head's question is open: it keeps what the head of n bytes fixes, and no block has come
abbrev pub asking : Reader → ℕ → Fixed → Reader
asking r n fixed = reader_at r (P.HeadAsked n) fixed (record { number = record { 0 = 0 }; hash = r.chain.hash; body = start }) r.released

-- what the head says; it is not accepted yet
abbrev pub fixing : Fixed → Asked → Fixed
fixing f a =
    record { accepted = f.accepted; status = a.status; block_size = a.size; extent = a.extent; key = a.key; id = a.id; id_length = a.id_length }

-- the answer, with the question buffer as judged
unfoldable pub head_answered : Configuration → ℕ → Result Asked Refusal → Next
head_answered d n (Err why) = refuse why 0 d
head_answered d n (Ok a) =
    stop (W.Question a.length a.key) a.signature
    (configuration (asking d.reader n (fixing d.reader.fixed a)) d.head d.block d.question)

-- the buffers after the judgement: a question is written, a refusal changes nothing
abbrev pub judged_at : Configuration → ℕ → Judgement → Next
judged_at d n j = head_answered (configuration d.reader d.head d.block j.question) n j.answer

-- the first n bytes of the head buffer are a whole head, or it goes on
unfoldable pub head_gathered : Terms → Configuration → ℕ → Next
head_gathered terms d n =
    pick (is_whole_head (take n d.head)) (judged_at d n (head_judged terms (take n d.head) d.question)) (on d)

-- in a state that no stream leads to, with a count past the buffer, the head is refused as too long
unfoldable pub push_head : Terms → Configuration → ℕ → ℕ → Next
push_head terms d have x =
    pick (leb (length d.head) have)
    (refuse (placed 3 head_limit) 0 d)
    (head_gathered terms (configuration (in_phase d.reader (P.Head (have + 1))) (set d.head have x) d.block d.question) (have + 1))
