-- THE SHOW THAT WAS ASKED FOR: the plain reading knows no other, and the calls show the plain reading. Assumes nothing.
use mathlib.Core.Path.{◌≡◌, sym, ap, ◌∙◌}
use mathlib.Core.List.{List}
use Prim.Native.Nat.{ℕ}
use Rattle.ring.specs.Keys.{terms_of}
use Rattle.ring.specs.declared.KeyRing.{KeyRing}
use Rattle.sections.specs.Reading.{Log}
use Rattle.stream.specs.Events.{Question, Release, LastWord}
use Rattle.stream.specs.Terms.{Terms}
use Rattle.agreement.specs.Observation.{Told}
use Rattle.agreement.specs.Plain.{told_log}
use Rattle.agreement.specs.Run.{Invocation}
use Rattle.exactness.specs.AskedFor.{is_last, AsksFor}
use Rattle.exactness.proofs.AskedFor.{asked_for_only}
use Rattle.claims.specs.AskedFor.{AskedShowOnly}
use Rattle.claims.specs.Runs.{taken, answers, ended}
use Rattle.claims.proofs.Demand3.{demand_3}
use Rattle.claims.proofs.Untold.{ToldEvent, untold, last_told}

asks_told : (terms : Terms) (S : List ℕ) (log : Log Question Release LastWord) (shown : Log Question Told LastWord) → told_log log ≡ shown
    → AsksFor terms S log → AsksFor terms S shown
unfolding told_log
asks_told terms S log shown e a =
    record { good = a.good; same_uri = a.same_uri; others = told_log a.others; asked = ap told_log a.asked ∙ e; named = a.named }

pub asked_show_only : (keys : KeyRing) (uri h b q : List ℕ) (ks : List Invocation) → AskedShowOnly keys uri h b q ks
asked_show_only keys uri h b q ks at e s more =
    let shown = (demand_3 keys uri h b q ks).all_taken in
    let u = untold s.before s.after at e _ (s.joined ∙ shown) in
    let open_still = sym (last_told u.it) ∙ ap (λ (x : ToldEvent). is_last x) u.same_event ∙ more in
    asks_told (terms_of keys uri) (taken keys uri h b q ks) _ _ (sym shown)
    (asked_for_only (terms_of keys uri) (taken keys uri h b q ks) (answers keys uri h b q ks) (ended keys uri h b q ks) at u.it
    (record { before = u.before; after = u.after; joined = u.joined }) open_still)
