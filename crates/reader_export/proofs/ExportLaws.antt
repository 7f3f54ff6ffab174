-- How an exported call follows from the reader's on the first parts of the buffers: the ways that its code goes. Assumes nothing.
use mathlib.Core.Bool.{Bool, true, false, ◌&&◌}
use mathlib.Core.List.{List}
use mathlib.Core.Path.{◌≡◌, refl, ap, ◌∙◌}
use Prim.Native.Nat.{ℕ, ◌≤◌}
use borrow.Author.Tests.{leb-true}
use lib.Dec.{leb}
use lib.ListN.{length}
use Rattle.packing.specs.Keys.{keys_in}
use Rattle.layout.specs.State.{state_size, decoded}
use Rattle.fronts.specs.Fronts.{feed_front, answer_front, end_front}
use Rattle.calls.specs.Response.{Response, made as call_of}
use Rattle.calls.specs.declared.outcome.Outcome.{Outcome}
use Rattle.ring.specs.declared.KeyRing.{KeyRing}
use Rattle.state.specs.Configuration.{configuration}
use Rattle.state.specs.declared.reader.Reader.{Reader}
use Rattle.calls.proofs.CallLaws.{no}
use Rattle.results.specs.Written.{made, are_long, answered}
use Rattle.reader_export.specs.Export.{short, called, feed_in, answer_in, end_in}

both : (a b : Bool) → a && b ≡ true → a ≡ true
both true b e = refl
both false b e = no e

pub long_state : (s t : List ℕ) → are_long (length s) (length t) ≡ true → state_size ≤ length s
unfolding are_long
long_state s t e = leb-true state_size (length s) (both (leb state_size (length s)) _ e)

pub call_short : (s h b q t : List ℕ) (c : Response) → are_long (length s) (length t) ≡ false → made short s h b q t ≡ called s h b q t c
unfolding called
call_short s h b q t c e = rw e

-- the reader's outcome o, with the buffers that it left
module _ (s t : List ℕ) (c : Response) (o : Outcome) (s' h' b' q' : List ℕ) (e : are_long (length s) (length t) ≡ true) (f : call_of o h' b' q' ≡ c) where
  pub call_whole : (h b q t' : List ℕ) (n : ℕ) → ((h b q : List ℕ) → made n s' h b q t' ≡ answered s t (call_of o h b q)) → made n s' h' b' q' t' ≡ called s h b q t c
  unfolding called
  call_whole h b q t' n g = rw e (g h' b' q' ∙ ap (λ (c : Response). answered s t c) f)

  pub call_carried : (state_size ≤ length s → decoded s' ≡ o.reader) → decoded s' ≡ c.after.reader
  call_carried g = g (long_state s t e) ∙ ap (λ (c : Response). c.after.reader) f

-- the reader and the ring as they were read
module _ (s h b q : List ℕ) (r : Reader) (e : r ≡ decoded s) (c : Response) where
  pub fed_in : (k : KeyRing) (ring uri piece : List ℕ) → k ≡ keys_in ring → c ≡ feed_front k uri (configuration r h b q) piece → c ≡ feed_in s h b q ring uri piece
  fed_in k ring uri piece f g = g ∙ (rw (e, f))

  pub answered_in : (good : Bool) → c ≡ answer_front (configuration r h b q) good → c ≡ answer_in s h b q good
  answered_in good g = g ∙ (rw e)

  pub ended_in : c ≡ end_front (configuration r h b q) → c ≡ end_in s h b q
  ended_in g = g ∙ (rw e)
