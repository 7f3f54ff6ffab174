-- DEMAND 3, proved. Assumes nothing.
use mathlib.Core.Path.{ap, sym, ◌∙◌}
use mathlib.Core.Bool.{Bool, true}
use mathlib.Core.List.{List}
use Prim.Native.Nat.{ℕ}
use Rattle.ring.specs.Keys.{terms_of}
use Rattle.ring.specs.declared.KeyRing.{KeyRing}
use Rattle.stream.specs.Stream.{plain_reading}
use Rattle.agreement.specs.Plain.{told_log}
use Rattle.agreement.specs.Run.{Invocation, plain_calls}
use Rattle.agreement.proofs.Lists.{run_shown}
use Rattle.agreement.proofs.Streams.{shown_tracks, shown_took}
use Rattle.claims.specs.Demand3.{CuttingChangesNothing, TwoCuttings}

pub demand_3 : (keys : KeyRing) (uri h b q : List ℕ) (ks : List Invocation) → CuttingChangesNothing keys uri h b q ks
demand_3 keys uri h b q ks =
    let e = run_shown keys uri h b q ks in
    record {
      each_call = e;
      all_taken = rw e (shown_took (terms_of keys uri) (plain_calls keys h b q ks));
      whole_stream = λ S r. rw e (shown_tracks (terms_of keys uri) S (plain_calls keys h b q ks) (rw e at r));
    }

pub two_cuttings : TwoCuttings
two_cuttings keys uri h b q h' b' q' S ks ls c d same x y =
    ((demand_3 keys uri h b q ks).whole_stream S c).complete x
    ∙ ap (λ (a : List Bool). told_log (plain_reading (terms_of keys uri) S a true)) same
    ∙ sym (((demand_3 keys uri h' b' q' ls).whole_stream S d).complete y)
