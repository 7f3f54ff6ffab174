-- ON BYTES, proved: a list of exported calls makes the very calls of a run of the claims. Assumes nothing.
use mathlib.Core.Path.{◌≡◌, refl, sym, ap, ◌∙◌}
use mathlib.Core.List.{List, [], ◌∷◌, map}
use Prim.Native.Nat.{ℕ, ◌≤◌}
use lib.ListN.{length, take}
use Rattle.ring.specs.declared.KeyRing.{KeyRing}
use Rattle.stream.specs.Limits.{head_limit, block_limit}
use Rattle.state.specs.Configuration.{Configuration, configuration}
use Rattle.state.specs.declared.reader.Reader.{Reader}
use Rattle.calls.specs.Response as R
use Rattle.fronts.specs.Fronts.{first_parts}
use Rattle.packing.specs.Keys.{keys_in}
use Rattle.layout.specs.State.{state_size}
use Rattle.results.specs.Written.{Answer}
use Rattle.reader_export.specs.Export.{short}
use Rattle.reader_export.proofs.LoanLaws.{exported_short}
use Rattle.agreement.specs.Run.{observed, run_call, run_from, run, Invocation}
use Rattle.buffers.specs.Left.{buffers_in, left_by, left_from, left_after}
use Rattle.byte_claims.specs.ExportedCalls.{Held, ExportedCall, same, other, too_short, Calls, over, next}
use Rattle.byte_claims.specs.OnBytes.{held_in, seen_in, shown, invocations, made, seen_of, response_seen, views, OthersUntouched, held_after, HoldsOnBytes}
use Rattle.claims.proofs.Demand3.{demand_3}
use Rattle.byte_claims.proofs.ShownCalls.{seen_held, Shows, same_shows, other_shows, other_untouched}

next_shown : (ring uri : List ℕ) (ks : List ExportedCall) (told : List Answer) {y : Held} {a : Answer} {t : List ℕ} {c : R.Response} → Shows y a t c
    → shown y ks told ≡ views (held_in y) ks (made (keys_in ring) uri (held_in y) (invocations ks))
    → seen_in a y ∷ shown y ks told ≡ response_seen t c ∷ views c.after ks (made (keys_in ring) uri c.after (invocations ks))
next_shown ring uri ks told s ih =
    λ i. s.seen i ∷ (ih ∙ ap (λ (d : Configuration). views d ks (made (keys_in ring) uri d (invocations ks))) s.held) i

all_shown : (ring uri : List ℕ) {x : Held} {ks : List ExportedCall} {told : List Answer} → state_size ≤ length x.state → Calls ring uri x ks told
    → shown x ks told ≡ views (held_in x) ks (made (keys_in ring) uri (held_in x) (invocations ks))
unfolding shown views made invocations run_call
all_shown ring uri h over = refl
all_shown ring uri {x} h (next {k = same t r} {a = a} {ks = ks} {told = told} e k es) =
    let s = same_shows ring uri x t r a h e k in
    next_shown ring uri ks told s (all_shown ring uri s.long es)
all_shown ring uri {x} h (next {k = other h' b' q' ring' uri' t r misfit} {a = a} {ks = ks} {told = told} e k es) =
    let s = other_shows x h' b' q' ring' uri' t r misfit a h e k in
    next_shown ring uri ks told s (all_shown ring uri s.long es)
all_shown ring uri {x} h (next {k = too_short l r} {a = a} {ks = ks} e k es) =
    let f = k.whole ∙ exported_short l r e in
    let s : seen_in a x ≡ seen_of short l.result (held_in x) =
    seen_held x h a ∙ ap (λ (y : Answer). seen_of y.word y.result (held_in x)) f
    in
    λ i. s i ∷ all_shown ring uri h es i

all_untouched : (ring uri : List ℕ) {x : Held} {ks : List ExportedCall} {told : List Answer} → state_size ≤ length x.state → Calls ring uri x ks told → OthersUntouched ks told
all_untouched ring uri h over = tt
all_untouched ring uri {x} h (next {k = same t r} {a = a} e k es) = all_untouched ring uri (same_shows ring uri x t r a h e k).long es
all_untouched ring uri {x} h (next {k = other h' b' q' ring' uri' t r misfit} {a = a} e k es) =
    (other_untouched x h' b' q' ring' uri' t r misfit a h e k, all_untouched ring uri (other_shows x h' b' q' ring' uri' t r misfit a h e k).long es)
all_untouched ring uri h (next {k = too_short l r} e k es) =
    let f = k.whole ∙ exported_short l r e in (
      record { head = ap (λ (y : Answer). y.head) f; block = ap (λ (y : Answer). y.block) f; question = ap (λ (y : Answer). y.question) f },
      (ap (λ (y : Answer). y.state) f, all_untouched ring uri h es),
    )

-- what a caller of the reader sees of its calls
run_views : (keys : KeyRing) (uri : List ℕ) (ks : List Invocation) (d : Configuration) → run_from keys uri d ks ≡ map observed (made keys uri d ks)
unfolding run_from made
run_views keys uri [] d = refl
run_views keys uri (k ∷ ks) d = ap (λ (l : List _). observed (run_call keys uri d k) ∷ l) (run_views keys uri ks (run_call keys uri d k).after)

-- what the caller keeps after them is what the reader's calls leave
all_held : (ring uri : List ℕ) {x : Held} {ks : List ExportedCall} {told : List Answer} → state_size ≤ length x.state → Calls ring uri x ks told
    → held_in (held_after x ks told) ≡ left_from (keys_in ring) uri (held_in x) (invocations ks)
unfolding held_after left_from left_by invocations run_call
all_held ring uri h over = refl
all_held ring uri {x} h (next {k = same t r} {a = a} {ks = ks} e k es) =
    let s = same_shows ring uri x t r a h e k in
    all_held ring uri s.long es ∙ ap (λ (d : Configuration). left_from (keys_in ring) uri d (invocations ks)) s.held
all_held ring uri {x} h (next {k = other h' b' q' ring' uri' t r misfit} {a = a} {ks = ks} e k es) =
    let s = other_shows x h' b' q' ring' uri' t r misfit a h e k in
    all_held ring uri s.long es ∙ ap (λ (d : Configuration). left_from (keys_in ring) uri d (invocations ks)) s.held
all_held ring uri h (next {k = too_short l r} e k es) = all_held ring uri h es

pub on_bytes : HoldsOnBytes
unfolding run left_after
on_bytes ring uri x ks told h e c =
    let keys = keys_in ring in
    record {
      exported = all_shown ring uri h c;
      plain =
          sym (run_views keys uri (invocations ks) (held_in x))
          ∙ ap (λ (r : Reader). run_from keys uri (first_parts (configuration r x.head x.block x.question)) (invocations ks)) e
          ∙ (demand_3 keys uri (take head_limit x.head) (take block_limit x.block) (take head_limit x.question) (invocations ks)).each_call;
      in_buffers =
          ap buffers_in (all_held ring uri h c)
          ∙ ap (λ (r : Reader). buffers_in (left_from keys uri (first_parts (configuration r x.head x.block x.question)) (invocations ks))) e;
      others = all_untouched ring uri h c;
    }
