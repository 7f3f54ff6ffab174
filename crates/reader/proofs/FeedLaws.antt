-- Laws on a run over a piece: a turn of the code's loop is a skipped run and one byte. Assumes nothing.
use mathlib.Core.Bool.{Bool, true, false}
use mathlib.Core.List.{List}
use mathlib.Core.Path.{◌≡◌, refl, sym, ap, ◌∙◌}
use native.Mathlib.Numerals.{add-one}
use native.Mathlib.Omega.{arith}
use Prim.Native.Nat.{ℕ, suc, ◌+◌, ◌-◌, ◌≤◌, ◌<◌}
use lib.ListN.{length, take, drop, get_or, length-drop, drop_of_length-le}
use lib.Seq.{drop-cons, take_all, drop-drop}
use Rattle.octets.specs.Choice.{pick}
use Rattle.state.specs.Configuration.{Configuration, configuration, goes_on, next_of, on, stop}
use Rattle.state.specs.Run.{Fed, more, event, follow, run_of}
use Rattle.body_steps.specs.Skip.{Skip, passed_of, skipped}
use Rattle.body_steps.specs.declared.runs.Passed.{Passed}
use Rattle.state.specs.declared.phase.Phase.{Phase}
use Rattle.state.specs.declared.reader.Reader.{Reader}
use Rattle.state.specs.declared.stepped.Stepped.{Stepped}
use Rattle.state.specs.declared.word.Word.{Word}
use Rattle.body_steps.proofs.RunLaws.{PushesData}
use Rattle.body_steps.proofs.RunLaws as runs
use Rattle.reader.specs.Feed.{push_at, push_byte}
use Rattle.calls.proofs.CallLaws.{no}
use Rattle.stream.specs.Terms.{Terms}

pushes_data : (terms : Terms) → PushesData (push_byte terms)
unfolding push_at
pushes_data terms d have size x e = ap (λ (p : Phase). push_at terms p d x) e

follow_on : (t : Bool) (w : Word) (signature : List ℕ) (d : Configuration) (taken : ℕ) (k : Configuration → Fed) → t ≡ true → follow (pick t (on d) (stop w signature d)) taken k ≡ k d
follow_on true w signature d taken k e = refl
follow_on false w signature d taken k e = no e

follow_stop : (t : Bool) (w : Word) (signature : List ℕ) (d : Configuration) (taken : ℕ) (k : Configuration → Fed) → t ≡ false → follow (pick t (on d) (stop w signature d)) taken k ≡ event w signature taken d
follow_stop true w signature d taken k e = no (sym e)
follow_stop false w signature d taken k e = refl

rest-is : (xs : List ℕ) (t : ℕ) → take (length xs - t) (drop t xs) ≡ drop t xs
rest-is xs t = let k : length (drop t xs) ≤ length xs - t = rw length-drop (omega arith) in take_all _ _ k

module _ (terms : Terms) (xs : List ℕ) (t : ℕ) where
  pub run_done : (d : Configuration) → length xs ≤ t → run_of (push_byte terms) d t (drop t xs) ≡ more t d
  unfolding run_of
  run_done d e = rw drop_of_length-le

  module _ (d : Configuration) (s : Stepped) (h b q : List ℕ) (m : t < length xs) (e : next_of s h b q ≡ push_byte terms d (get_or xs t 0)) where
    pub run_on : goes_on s.word ≡ true → run_of (push_byte terms) d t (drop t xs) ≡ run_of (push_byte terms) (configuration s.reader h b q) (t + 1) (drop (t + 1) xs)
    unfolding run_of
    run_on g = rw (drop-cons xs t 0 m, ← e) (follow_on (goes_on s.word) s.word s.signature (configuration s.reader h b q) (t + 1) (λ d'. run_of (push_byte terms) d' (t + 1) (drop (suc t) xs)) g ∙ rw (add-one t))

    pub run_stop : goes_on s.word ≡ false → run_of (push_byte terms) d t (drop t xs) ≡ event s.word s.signature (t + 1) (configuration s.reader h b q)
    unfolding run_of
    run_stop g = rw (drop-cons xs t 0 m, ← e) (follow_stop (goes_on s.word) s.word s.signature (configuration s.reader h b q) (t + 1) (λ d'. run_of (push_byte terms) d' (t + 1) (drop (suc t) xs)) g)

  module _ (r : Reader) (b : List ℕ) (p : Passed) (b' : List ℕ) (e : passed_of p b' ≡ skipped r b (take (length xs - t) (drop t xs))) where
    skipped_is : passed_of p b' ≡ skipped r b (drop t xs)
    skipped_is = e ∙ ap (λ (l : List ℕ). skipped r b l) (rest-is xs t)

    pub skip_within : t ≤ length xs → t + p.taken ≤ length xs
    skip_within l =
        let w : (skipped r b (drop t xs)).taken ≤ length (drop t xs) = runs.skip_within r b (drop t xs) in
        let n : p.taken ≡ (skipped r b (drop t xs)).taken = ap (λ (s : Skip). s.taken) skipped_is in
        let k : length (drop t xs) ≡ length xs - t = length-drop t xs in
        omega arith

    module _ (h q : List ℕ) where
      abbrev resumed : Skip → Fed
      resumed s = run_of (push_byte terms) (configuration s.reader h s.block q) (t + s.taken) (drop s.taken (drop t xs))

      resumed_same : run_of (push_byte terms) (configuration r h b q) t (drop t xs) ≡ resumed (passed_of p b')
      resumed_same = runs.skip_runs (push_byte terms) (pushes_data terms) h q t r b (drop t xs) ∙ sym (ap resumed skipped_is)

      pub skip_same : run_of (push_byte terms) (configuration r h b q) t (drop t xs) ≡ run_of (push_byte terms) (configuration p.reader h b' q) (t + p.taken) (drop (t + p.taken) xs)
      skip_same = rw drop-drop at resumed_same
