-- How a state of the machine of crate sections, under paper 01's rules, lies in the reader and its buffers. Assumes nothing.
use mathlib.Core.Path.{◌≡◌}
use mathlib.Core.Bool.{Bool, true, false}
use mathlib.Core.List.{List, [], ◌++◌}
use Prim.Native.Nat.{ℕ, ◌≤◌}
use lib.Dec.{eqb}
use lib.ListN.{length, take}
use Rattle.octets.specs.Choice.{pick}
use Rattle.ranges.specs.Extent.{range_in}
use Rattle.sections.specs.Reading.{Event, question, message, last, Grant, granted, final}
use Rattle.sections.specs.Machine.{State, running, asked, finished, Step}
use Rattle.sections.specs.Machine as M
use Rattle.sections.specs.Calls.{event}
use Rattle.stream.specs.Blocks.{chained}
use Rattle.sha256.specs.Midstate.{Holds}
use Rattle.stream.specs.Events.{Question, Release, head_accepted, block, LastWord}
use Rattle.stream.specs.Events as E
use Rattle.stream.specs.Head.{Head, head_of, status_digits, signed_of, text_rules, head_fault}
use Rattle.stream.specs.Limits.{head_limit, line_limit, block_limit}
use Rattle.stream.specs.Lines.{Field}
use Rattle.stream.specs.Numbers.{decimal_value}
use Rattle.stream.specs.Rule.{first_broken}
use Rattle.stream.specs.Stream.{Show, range, Past, nothing, after, Context, is_whole, announced, show_of, block_offset, released_with}
use Rattle.stream.specs.Stream as C
use Rattle.stream.specs.Terms.{Terms}
use Rattle.stream.proofs.Sound.{SoundShow, SoundBlock, Sound}
use Rattle.handing.specs.Handing.{accepted_head, handed_fields}
use Rattle.state.specs.Configuration.{Configuration, Next}
use Rattle.state.specs.Configuration as D
use Rattle.state.specs.declared.phase.Phase.{Phase}
use Rattle.state.specs.declared.phase.Phase.TheVariants as P
use Rattle.state.specs.declared.reader.Chain.{Chain}
use Rattle.state.specs.declared.reader.Fixed.{Fixed}
use Rattle.state.specs.declared.word.Word as Code
use Rattle.agreement.specs.Plain.{told_event}
use Rattle.agreement.specs.Run.{word_seen}

-- ---- the parts

-- the bytes g are the first n of a buffer
pub record Gathered (buffer : List ℕ) (n : ℕ) (g : List ℕ) : Type 0 where
  pub bytes : take n buffer ≡ g
  pub count : length g ≡ n

-- what the reader keeps of the head that it asks about
pub record Fixes (f : Fixed) (s : Show) : Type 0 where
  pub id : take f.id_length f.id ≡ s.id
  pub size : f.block_size ≡ s.size
  pub extent : range_in f.extent ≡ range s
  pub key : f.key ≡ s.key_number

-- the accepted head lies in the head buffer; it is a good one
pub record Lies (room : List ℕ) (n : ℕ) (h : Head) : Type 0 where
  pub says : head_of (accepted_head room n) ≡ h
  pub good : first_broken (text_rules (accepted_head room n) (head_of (accepted_head room n))) ≡ 0
  pub short : length (accepted_head room n) ≤ head_limit

-- what it keeps of the accepted one
pub record Keeps (f : Fixed) (room : List ℕ) (s : Show) : Type 0 where
  pub id : take f.id_length f.id ≡ s.id
  pub size : f.block_size ≡ s.size
  pub extent : range_in f.extent ≡ range s
  pub key : f.key ≡ s.key_number
  pub head : Lies room f.accepted s.head

-- and of the blocks before
pub record Counts (c : Chain) (p : Past) : Type 0 where
  pub blocks : c.number.0 ≡ p.blocks
  pub hash : pick (eqb c.number.0 0) [] c.hash ≡ p.hash
  pub body : Holds c.body p.body

-- the buffers and the line have their room, and the fields are those whose values are handed out
pub record Lent (d : Configuration) (fields : List Field) : Type 0 where
  pub head : head_limit ≤ length d.head
  pub block : block_limit ≤ length d.block
  pub question : head_limit ≤ length d.question
  pub line : length d.reader.line ≡ line_limit
  pub handed : handed_fields d.head d.reader.fixed.accepted ≡ fields

-- ---- the states

abbrev pub Standing : Type 0
Standing = State Context Release LastWord

-- the block b is under way, after the blocks of p
pub record Under (d : Configuration) (s : Show) (p : Past) (size : ℕ) (b : List ℕ) : Type 0 where
  pub keeps : Keeps d.reader.fixed d.head s
  pub counts : Counts d.reader.chain p
  pub sound : SoundBlock s p (length b)
  pub bytes : Gathered d.block size b

module _ (terms : Terms) (d : Configuration) where
  -- the head of the n bytes l is good, and its question open
  pub record HeadAsked (n : ℕ) (l : List ℕ) : Type 0 where
    pub bytes : Gathered d.head n l
    pub good : head_fault terms l ≡ 0
    pub sound : SoundShow (show_of terms.ring (head_of l))
    pub short : length l ≤ head_limit
    pub keeps : Fixes d.reader.fixed (show_of terms.ring (head_of l))
    pub status : d.reader.fixed.status ≡ decimal_value (status_digits (head_of l))
    pub none : Counts d.reader.chain nothing
    pub taken : d.reader.released ≡ 0

  pub record BlockAsked (s : Show) (p : Past) (size next : ℕ) (b : List ℕ) : Type 0 where
    pub keeps : Keeps d.reader.fixed d.head s
    pub blocks : d.reader.chain.number.0 ≡ p.blocks
    pub hash : d.reader.chain.hash ≡ chained p.hash b
    pub body : Holds d.reader.chain.body (p.body ++ b)
    pub sound : SoundBlock s p (length b)
    pub onward : Sound (announced s (after p b) (released_with s p b) next)
    pub bytes : Gathered d.block size b
    pub taken : d.reader.released ≡ 0

  -- the trailer of so many bytes asks about the end of the show
  pub record EndAsked (have : ℕ) : Type 0 where
    pub bytes : List ℕ
    pub gathered : Gathered d.block have bytes
    pub taken : d.reader.released ≡ 0

  -- what a yes to the first or the second gives
  abbrev pub head_grant : List ℕ → Grant Context Release LastWord
  head_grant l = granted (head_accepted (decimal_value (status_digits (head_of l))) (signed_of (head_of l))) (C.first_line (show_of terms.ring (head_of l)))

  abbrev pub block_grant : Show → Past → ℕ → List ℕ → Grant Context Release LastWord
  block_grant s p next b = granted (block (block_offset s p) b) (announced s (after p b) (released_with s p b) next)

  -- in the phase, the reader and its buffers stand for the state
  pub data At : Phase → Standing → Type 0 where
    head : {n : ℕ} {g : List ℕ} → d.reader.fixed.accepted ≡ 0 → Gathered d.head n g → is_whole C.head g ≡ false → At (P.Head n) (running C.head g)
    head_asked : {n : ℕ} {l : List ℕ} → HeadAsked n l → At (P.HeadAsked n) (asked (head_grant l))
    first_line : {n : ℕ} {g : List ℕ} {s : Show} → Keeps d.reader.fixed d.head s → SoundShow s → Counts d.reader.chain nothing
        → Gathered d.reader.line n g → is_whole (C.first_line s) g ≡ false → At (P.FirstLine n) (running (C.first_line s) g)
    block_data : {have size : ℕ} {g : List ℕ} {s : Show} {p : Past} → Keeps d.reader.fixed d.head s → Counts d.reader.chain p → SoundBlock s p size
        → Gathered d.block have g → is_whole (C.block_data s p size) g ≡ false → At (P.Data have size) (running (C.block_data s p size) g)
    data_end : {have size : ℕ} {b g : List ℕ} {s : Show} {p : Past} → Under d s p size b
        → Gathered d.reader.line have g → is_whole (C.data_end s p b) g ≡ false → At (P.DataEnd have size) (running (C.data_end s p b) g)
    next_line : {have size : ℕ} {b g : List ℕ} {s : Show} {p : Past} → Under d s p size b
        → Gathered d.reader.line have g → is_whole (C.next_line s p b) g ≡ false → At (P.NextLine have size) (running (C.next_line s p b) g)
    block_asked : {size next : ℕ} {b : List ℕ} {s : Show} {p : Past} → BlockAsked s p size next b → At (P.BlockAsked size next) (asked (block_grant s p next b))
    trailer : {have total : ℕ} {g : List ℕ} {s : Show} {p : Past} → Keeps d.reader.fixed d.head s → Counts d.reader.chain p
        → Sound (C.trailer s p total) → Gathered d.block have g → is_whole (C.trailer s p total) g ≡ false
        → At (P.Trailer have total) (running (C.trailer s p total) g)
    end_asked : {have total : ℕ} → EndAsked have → At (P.EndAsked have total) (asked (final (E.complete total)))
    closed : {total : ℕ} → At (P.Closed total) finished
    complete : {total : ℕ} → At (P.Complete total) finished
    refused : {n : ℕ} → At (P.Refused n) finished

-- the reader and its buffers stand for the state
abbrev pub Stands : Terms → Configuration → Standing → Type 0
Stands terms d s = At terms d d.reader.phase s

-- ---- while bytes are taken

-- and no block is handed out
pub record Reads (terms : Terms) (fields : List Field) (d : Configuration) (s : Standing) : Type 0 where
  pub stands : Stands terms d s
  pub lent : Lent d fields
  pub taken : d.reader.released ≡ 0

-- a message releases something; a byte never leads to one
abbrev pub is_release : Event Question Release LastWord → Bool
is_release (question q) = false
is_release (message e) = true
is_release (last l) = false

-- what a byte does to the reader is what it does to the machine
pub data Follows (terms : Terms) (fields : List Field) : Next → Step Context Question Release LastWord → Type 0 where
  on : {d : Configuration} {c : Context} {g : List ℕ} → Reads terms fields d (running c g) → Follows terms fields (D.on d) (M.on c g)
  says : {d : Configuration} {s : Standing} {w : Code.Word} {signature : List ℕ} {e : Event Question Release LastWord}
      → word_seen w signature d ≡ event (told_event e) → is_release e ≡ false → Reads terms fields d s
      → Follows terms fields (D.stop w signature d) (M.decides e s)
