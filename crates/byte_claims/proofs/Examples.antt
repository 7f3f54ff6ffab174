-- What the claims on bytes assume is met. Assumes nothing.
use mathlib.Core.Path.{◌≡◌, refl, sym, ap, ◌∙◌}
use mathlib.Core.Bool.{true}
use mathlib.Core.List.{List, []}
use Prim.Native.Nat.{ℕ, ◌≤◌}
use native.Mathlib.Omega.{arith}
use borrow.Author.Tests.{le-leb}
use lib.ListN.{length, take, replicate, length-replicate, length-take}
use Rattle.sections.specs.Calls.{end}
use Rattle.stream.specs.Limits.{head_limit, block_limit, id_limit, line_limit}
use Rattle.state.specs.Configuration.{configuration, fresh_reader, in_phase, refuse}
use Rattle.state.specs.declared.phase.Phase.TheVariants as P
use Rattle.state.specs.declared.reader.Reader.{Reader}
use Rattle.calls.specs.Answer.{end_of}
use Rattle.calls.specs.Response.{are_roomy, taking_back}
use Rattle.fronts.specs.Fronts.{end_front}
use Rattle.layout.specs.State.{state_size, stored, decoded}
use Rattle.packing.proofs.PartLaws.{Words, none, more}
use Rattle.sha256.specs.Midstate.{start}
use Rattle.sha256.specs.Sha256.{initial_words}
use Rattle.layout.proofs.BodyLaws.{SoundBody}
use Rattle.layout.proofs.StateLaws.{Sound, decoded_stored, long_stored}
use Rattle.results.specs.Results.{result_size}
use Rattle.results.specs.Written.{are_long}
use Rattle.reader_export.specs.Loan.{call_in}
use Rattle.reader_export.proofs.LoanLaws.{exported_long}
use Rattle.byte_claims.specs.ExportedCalls.{Held, lent_to, over, next}
use Rattle.byte_claims.specs.Examples.{held, the_end, BytesMet, CallsAreMet}

zeros : (n : ℕ) → length (replicate {A = ℕ} n 0) ≡ n
zeros n = length-replicate n 0

-- SHA-256's first words are words
fresh_words : Words initial_words
fresh_words =
    more {w = 0x6a09_e667} (omega arith)
    (more {w = 0xbb67_ae85} (omega arith)
    (more {w = 0x3c6e_f372} (omega arith)
    (more {w = 0xa54f_f53a} (omega arith)
    (more {w = 0x510e_527f} (omega arith)
    (more {w = 0x9b05_688c} (omega arith)
    (more {w = 0x1f83_d9ab} (omega arith)
    (more {w = 0x5be0_cd19} (omega arith) none)))))))

fresh_body : SoundBody start
unfolding start
fresh_body =
    record {
      words = refl;
      small = fresh_words;
      rest = zeros 64;
      count = omega arith;
    }

fresh_sound : Sound fresh_reader
unfolding fresh_reader
fresh_sound =
    record {
      phase = record { first = omega arith; second = omega arith; refusal = omega arith };
      fixed =
          record {
            extent = record { first = omega arith; last = omega arith; total = omega arith };
            accepted = omega arith;
            status = omega arith;
            size = omega arith;
            key = omega arith;
            id = zeros id_limit;
            count = omega arith;
          };
      chain = record { number = omega arith; hash = zeros 64; body = fresh_body };
      line = zeros line_limit;
      released = omega arith;
    }

-- the reader once the end is told
abbrev ended : Reader
ended = in_phase (taking_back fresh_reader) (P.Refused 11)

ended_sound : Sound ended
ended_sound =
    record {
      phase = record { first = omega arith; second = omega arith; refusal = omega arith };
      fixed = fresh_sound.fixed;
      chain = fresh_sound.chain;
      line = fresh_sound.line;
      released = omega arith;
    }

first_long : (n : ℕ) (l : List ℕ) → length l ≡ n → length (take n l) ≡ n
first_long n l e = omega (arith, length-take n l)

end_told : (h b q : List ℕ) → length h ≡ head_limit → length b ≡ block_limit → length q ≡ head_limit
    → (end_front (configuration fresh_reader h b q)).after.reader ≡ ended
unfolding end_front end_of are_roomy refuse fresh_reader
end_told h b q e f g = rw (first_long head_limit h e, first_long block_limit b f, first_long head_limit q g)

module _ (h b q : List ℕ) where
  abbrev mine : Held
  mine = held h b q

  long_held : state_size ≤ length mine.state
  long_held = omega (arith, long_stored fresh_reader (replicate state_size 0), zeros state_size)

  fresh_held : decoded mine.state ≡ fresh_reader
  fresh_held = decoded_stored fresh_reader fresh_sound (replicate state_size 0) (omega (arith, zeros state_size))

  long_loan : are_long (length mine.state) (length (replicate {A = ℕ} result_size 0)) ≡ true
  unfolding are_long
  long_loan = rw (le-leb state_size (length mine.state) long_held) refl

  module _ (e : length h ≡ head_limit) (f : length b ≡ block_limit) (g : length q ≡ head_limit) where
    end_call : (call_in (lent_to [] [] mine the_end) end).after.reader ≡ ended
    end_call = ap (λ (r : Reader). (end_front (configuration r h b q)).after.reader) fresh_held ∙ end_told h b q e f g

    met : BytesMet h b q
    met =
        record {
          long = long_held;
          fresh = fresh_held;
          calls =
              next long_loan
              (record {
                whole = refl;
                carried = λ l.
                    ap (λ (a : _). decoded a.state) (exported_long (lent_to [] [] mine the_end) end l)
                    ∙ ap (λ (r : Reader). decoded (stored r mine.state)) end_call
                    ∙ decoded_stored ended ended_sound mine.state long_held
                    ∙ sym end_call;
              })
              over;
        }

pub bytes_met : CallsAreMet
bytes_met h b q e f g = met h b q e f g
