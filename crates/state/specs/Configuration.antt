-- The reader with the three buffers that it is lent, and what becomes of them. Assumes nothing.
use Rattle.std.specs.Prelude.{Bool, true, false, List, ◌++◌, ℕ, min, length, drop, replicate}
use Rattle.octets.specs.Choice.{pick}
use Rattle.ranges.specs.declared.extent.Extent.TheVariants.{Whole}
use Rattle.refusals.specs.declared.Refusal.{Refusal}
use Rattle.sha256.specs.Midstate.{start}
use Rattle.sha256.specs.declared.Midstate.{Midstate}
use Rattle.stream.specs.Limits.{id_limit, line_limit}
use Rattle.state.specs.declared.phase.Phase.{Phase}
use Rattle.state.specs.declared.phase.Phase.TheVariants as P
use Rattle.state.specs.declared.reader.Chain.{Chain}
use Rattle.state.specs.declared.reader.Fixed.{Fixed}
use Rattle.state.specs.declared.reader.Reader.{Reader}
use Rattle.state.specs.declared.stepped.Stepped.{Stepped}
use Rattle.state.specs.declared.word.Word.{Word}
use Rattle.state.specs.declared.word.Word.TheVariants as W

-- paper 01's head hold, block hold and question hold
pub record Configuration : Type 0 where
  pub reader : Reader
  pub head : List ℕ
  pub block : List ℕ
  pub question : List ℕ

abbrev pub configuration : Reader → List ℕ → List ℕ → List ℕ → Configuration
configuration r h b q = record { reader = r; head = h; block = b; question = q }

-- ---- the reader before its stream

-- no byte has come
unfoldable pub fresh_reader : Reader
fresh_reader =
    record {
      phase = P.Head 0;
      fixed =
          record { accepted = 0; status = 0; block_size = 0; extent = Whole; key = 0; id = replicate id_limit 0; id_length = 0 };
      chain = record { number = record { 0 = 0 }; hash = replicate 64 0; body = start };
      line = replicate line_limit 0;
      released = 0;
    }

-- ---- the reader changed

-- its parts put together
abbrev pub assembled : Phase → Fixed → Chain → List ℕ → ℕ → Reader
assembled p fixed chain line released = record { phase = p; fixed = fixed; chain = chain; line = line; released = released }

-- the same reader with another phase, line and chain
abbrev pub renewed : Reader → Phase → List ℕ → Chain → Reader
renewed r p line chain = assembled p r.fixed chain line r.released

-- the same line under way; all else may be another
abbrev pub reader_at : Reader → Phase → Fixed → Chain → ℕ → Reader
reader_at r p fixed chain released = assembled p fixed chain r.line released

abbrev pub in_phase : Reader → Phase → Reader
in_phase r p = renewed r p r.line r.chain

abbrev pub with_line : Reader → Phase → List ℕ → Reader
with_line r p line = renewed r p line r.chain

abbrev pub with_chain : Reader → Phase → Chain → Reader
with_chain r p chain = renewed r p r.line chain

abbrev pub with_hash : Reader → Phase → List ℕ → Midstate → Reader
with_hash r p hash body = renewed r p r.line (record { number = r.chain.number; hash = hash; body = body })

-- the same buffers, the reader in another phase
abbrev pub moved : Configuration → Phase → Configuration
moved d p = configuration (in_phase d.reader p) d.head d.block d.question

-- the same buffers, the reader with another line
abbrev pub lined : Configuration → Phase → List ℕ → Configuration
lined d p line = configuration (with_line d.reader p line) d.head d.block d.question

-- ---- what a byte leads to

-- the reader goes on, or it says a word; with a question goes the signature that it is about
pub data Next : Type 0 where
  on : Configuration → Next
  stop : Word → List ℕ → Configuration → Next

-- where a word comes without a signature
abbrev pub no_signature : List ℕ
no_signature = replicate 64 0

abbrev pub goes_on : Word → Bool
goes_on W.More = true
goes_on (W.Question n k) = false
goes_on (W.Head s) = false
goes_on (W.Block o n) = false
goes_on (W.Closed n) = false
goes_on (W.Complete n) = false
goes_on (W.Refused n) = false

-- what the code's answer says, with the buffers as it leaves them
abbrev pub next_of : Stepped → List ℕ → List ℕ → List ℕ → Next
next_of s h b q =
    pick (goes_on s.word) (on (configuration s.reader h b q)) (stop s.word s.signature (configuration s.reader h b q))

abbrev pub saying : Word → Reader → Stepped
saying w r = record { word = w; signature = no_signature; reader = r }

-- ---- a final refusal

-- the bytes at the front of the block buffer that are a block's not yet released, or the trailer's
abbrev pub pending : Phase → ℕ
pending (P.Head n) = 0
pending (P.HeadAsked n) = 0
pending (P.FirstLine n) = 0
pending (P.Data have size) = have
pending (P.DataEnd have size) = size
pending (P.NextLine have size) = size
pending (P.BlockAsked size next) = size
pending (P.Trailer have total) = have
pending (P.EndAsked have total) = have
pending (P.Closed total) = 0
pending (P.Complete total) = 0
pending (P.Refused n) = 0

-- the first n bytes zero, all where there are fewer
unfoldable pub cleared : ℕ → List ℕ → List ℕ
cleared n l = replicate (min n (length l)) 0 ++ drop n l

-- "sets the pending bytes gathered in the block hold to zero and alters no other byte of any hold": `count` are pending
unfoldable pub refuse : Refusal → ℕ → Configuration → Next
refuse why count d =
    stop (W.Refused why) no_signature
    (configuration (in_phase d.reader (P.Refused why.number)) d.head (cleared count d.block) d.question)
