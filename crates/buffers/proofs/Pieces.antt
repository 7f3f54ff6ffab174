-- What a byte leaves in any phase, and a piece byte by byte. Assumes nothing.
use mathlib.Core.Path.{◌≡◌}
use mathlib.Core.List.{List, [], ◌∷◌}
use Prim.Native.Nat.{ℕ, ◌+◌}
use Rattle.sections.specs.Machine.{running}
use Rattle.sections.proofs.Marks.{Move, onward, halts, step_of, mark_of, following, move, move_step}
use Rattle.sections.proofs.Marking.{fed_to}
use Rattle.stream.specs.Buffers.{Buffers, with_section, effects}
use Rattle.stream.specs.Events.{Question, Release, LastWord}
use Rattle.stream.specs.Lines.{Field}
use Rattle.stream.specs.Stream.{Context, rules}
use Rattle.stream.specs.Terms.{Terms}
use Rattle.state.specs.Configuration.{Configuration, Next}
use Rattle.state.specs.Run.{run_of}
use Rattle.state.specs.Run as Run
use Rattle.state.specs.declared.phase.Phase.{Phase}
use Rattle.reader.specs.Feed.{push_at, push_byte, fed}
use Rattle.agreement.proofs.Stands.{Lent, At, Reads, Follows}
use Rattle.agreement.proofs.Stands as F
use Rattle.agreement.proofs.Bytes.{byte_at}
use Rattle.buffers.specs.Left.{buffers_in}
use Rattle.buffers.proofs.Leaves.{Left, after_next}
use Rattle.buffers.proofs.BodyBytes.{data_leaves, end_leaves}
use Rattle.buffers.proofs.TrailerBytes.{trailer_leaves}
use Rattle.buffers.proofs.LineBytes.{first_leaves, next_leaves}
use Rattle.buffers.proofs.HeadBytes.{head_leaves}

module _ (terms : Terms) (fields : List Field) where
  byte_leaves : (d : Configuration) (x : ℕ) (p : Phase) {c : Context} {g : List ℕ} (b : Buffers) → Lent d fields → d.reader.released ≡ 0
      → At terms d p (running c g) → buffers_in d ≡ with_section c g b
      → Left terms (after_next (push_at terms p d x)) (mark_of (move (rules terms) effects c g b x))
  unfolding push_at with_section
  byte_leaves d x p b l z (F.head {n} {g} early a e) f = head_leaves terms fields d x l b n g a e f
  byte_leaves d x p b l z (F.first_line {n} {g} {s} k sound none a e) f = first_leaves terms fields d x l b f n g s k a e
  byte_leaves d x p b l z (F.block_data {have} {size} {g} {s} {p = q} k c sound a e) f = data_leaves terms fields d x l b s q have size g sound a e f
  byte_leaves d x p b l z (F.data_end {have} {size} {b = block} {g} {s} {p = q} u a e) f = end_leaves terms fields d x l b s q size block u have g a e f
  byte_leaves d x p b l z (F.next_line {have} {size} {b = block} {g} {s} {p = q} u a e) f = next_leaves terms fields d x l b f have g z s q size block u a e
  byte_leaves d x p b l z (F.trailer {have} {total} {g} {s} {p = q} k c sound a e) f = trailer_leaves terms fields d x l z b s q k c have total g a e f

  -- A PIECE
  pub piece_leaves : (piece : List ℕ) (t : ℕ) (d : Configuration) (c : Context) (g : List ℕ) (b : Buffers) → Reads terms fields d (running c g)
      → buffers_in d ≡ with_section c g b → Left terms (fed (run_of (push_byte terms) d t piece)).after (fed_to (rules terms) effects c g b piece)
  unfolding run_of fed_to
  piece_leaves [] t d c g b r f = record { same = f; waits = tt }
  piece_leaves (x ∷ xs) t d c g b r f =
      by {n = push_byte terms d x} (move (rules terms) effects c g b x)
      (rw (move_step (rules terms) effects c g b x) (byte_at terms fields d x d.reader.phase r.lent r.taken r.stands))
      (byte_leaves d x d.reader.phase b r.lent r.taken r.stands f) (λ d' c' g' b' r' f'. piece_leaves xs (t + 1) d' c' g' b' r' f')
    where
      by : {n : Next} (v : Move Context Question Release LastWord Buffers) → Follows terms fields n (step_of v) → Left terms (after_next n) (mark_of v)
          → ((d' : Configuration) (c' : Context) (g' : List ℕ) (b' : Buffers) → Reads terms fields d' (running c' g') → buffers_in d' ≡ with_section c' g' b'
          → Left terms (fed (run_of (push_byte terms) d' (t + 1) xs)).after (fed_to (rules terms) effects c' g' b' xs))
          → Left terms (fed (Run.follow n (t + 1) (λ d'. run_of (push_byte terms) d' (t + 1) xs))).after
          (following v (λ c' g' b'. fed_to (rules terms) effects c' g' b' xs))
      by (onward c' g' b') (F.on {d = d'} r') k ih = ih d' c' g' b' r' k.same
      by (halts e m) (F.says w q r') k ih = k
