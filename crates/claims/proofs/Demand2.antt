-- DEMAND 2, proved. Assumes nothing.
use mathlib.Core.Path.{◌≡◌, ap, ◌∙◌}
use mathlib.Core.List.{List, [], append-nil}
use Prim.Native.Nat.{ℕ}
use Rattle.ring.specs.Keys.{ring_of, terms_of}
use Rattle.ring.specs.declared.KeyRing.{KeyRing}
use Rattle.sections.specs.Reading.{question}
use Rattle.sections.specs.Resuming.{events}
use Rattle.agreement.specs.Plain.{told_log}
use Rattle.agreement.specs.Run.{Invocation}
use Rattle.exactness.specs.ShowEvents.{show_events}
use Rattle.exactness.specs.Shows.{stream_of}
use Rattle.exactness.proofs.Completeness.{show_complete, show_released}
use Rattle.exactness.proofs.Exactness.{exactness, block_exact}
use Rattle.claims.specs.Body.{body_told}
use Rattle.claims.specs.Demand2.{BlockComesOut, AsksExactly, HonestComesOut}
use Rattle.claims.specs.Runs.{words, taken, answers, ended}
use Rattle.claims.proofs.Told.{block_told, told_block, body_told_lem}
use Rattle.claims.proofs.Demand3.{demand_3}
use Rattle.claims.proofs.Untold.{stands_told, stands_untold, question_from}

module _ (keys : KeyRing) (uri h b q : List ℕ) (ks : List Invocation) where
  pub block_comes_out : BlockComesOut keys uri h b q ks
  block_comes_out at o bytes =
      let x = block_exact (terms_of keys uri) (taken keys uri h b q ks) (answers keys uri h b q ks) (ended keys uri h b q ks) at o bytes in
      rw (demand_3 keys uri h b q ks).all_taken (λ s. x.0 (told_block at o bytes _ s), λ r. block_told at o bytes _ (x.1 r))

  pub asks_exactly : AsksExactly keys uri h b q ks
  asks_exactly at asked =
      let x = exactness (terms_of keys uri) (taken keys uri h b q ks) (answers keys uri h b q ks) (ended keys uri h b q ks) at (question asked) in
      rw (demand_3 keys uri h b q ks).all_taken
      (λ s. x.0 (stands_untold at (question asked) _ (λ e f. question_from e asked f) s), λ r. stands_told at (question asked) _ (x.1 r))

  pub honest_comes_out : HonestComesOut keys uri h b q ks
  honest_comes_out s more g t a =
      let r = rw (append-nil (stream_of s)) at (show_complete (terms_of keys uri) s [] more (ended keys uri h b q ks) g) in
      let e : events (words keys uri h b q ks) ≡ told_log (show_events (ring_of keys) s) =
      (demand_3 keys uri h b q ks).all_taken ∙ rw (t, a) (ap told_log r) in
      record { all_events = e; whole_body = ap body_told e ∙ body_told_lem (show_events (ring_of keys) s) ∙ show_released (terms_of keys uri) s g }
