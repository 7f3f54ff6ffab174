-- Refusals, exactly. Assumes nothing.
use mathlib.Core.List.{List}
use Prim.Native.Nat.{ℕ}
use Rattle.ring.specs.Keys.{terms_of}
use Rattle.ring.specs.declared.KeyRing.{KeyRing}
use Rattle.sections.specs.Reading.{last}
use Rattle.stream.specs.Events.{refused}
use Rattle.agreement.specs.Run.{Invocation}
use Rattle.exactness.proofs.Exactness.{exactness}
use Rattle.claims.specs.Refused.{RefusedExactly}
use Rattle.claims.specs.Runs.{taken, answers, ended}
use Rattle.claims.proofs.Demand3.{demand_3}
use Rattle.claims.proofs.Untold.{stands_told, stands_untold, last_from_lem}

module _ (keys : KeyRing) (uri h b q : List ℕ) (ks : List Invocation) where
  pub refused_exactly : RefusedExactly keys uri h b q ks
  refused_exactly at n wrong =
      let x = exactness (terms_of keys uri) (taken keys uri h b q ks) (answers keys uri h b q ks) (ended keys uri h b q ks) at (last (refused n wrong)) in
      rw (demand_3 keys uri h b q ks).all_taken
      (λ s. x.0 (stands_untold at (last (refused n wrong)) _ (λ e f. last_from_lem e (refused n wrong) f) s), λ r. stands_told at (last (refused n wrong)) _ (x.1 r))
