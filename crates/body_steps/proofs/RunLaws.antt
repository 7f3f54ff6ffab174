-- A skipped run is what its bytes do one by one, under any rule of bytes that is `push_data` in the data phase. Assumes nothing.
use mathlib.Core.List.{List}
use mathlib.Core.Path.{◌≡◌, refl, sym, ap, ◌∙◌}
use native.Mathlib.Nat.{add-zero}
use native.Mathlib.Omega.{arith}
use Prim.Native.Nat.{ℕ, zero, suc, ◌+◌, ◌≤◌, ◌<◌}
use borrow.Author.Tests.{lt-leb}
use lib.ListN.{length, drop, get_or}
use lib.Seq.{drop-cons, paste, paste-zero, paste-suc, length-paste}
use Rattle.state.specs.Configuration.{Configuration, configuration, in_phase, Next}
use Rattle.body_steps.specs.Data.{push_data}
use Rattle.state.specs.Run.{Fed, run_of}
use Rattle.body_steps.specs.Skip.{run_length, Skip, skip_to, skipped, skipped_at, skipped_data}
use Rattle.state.specs.declared.phase.Phase.{Phase}
use Rattle.state.specs.declared.phase.Phase.TheVariants as P
use Rattle.state.specs.declared.reader.Reader.{Reader}

-- the rule of bytes, in the data phase
abbrev pub PushesData : (Configuration → ℕ → Next) → Type 0
PushesData push = (d : Configuration) (have size x : ℕ) → d.reader.phase ≡ P.Data have size → push d x ≡ push_data d have size x

module _ (push : Configuration → ℕ → Next) (rule : PushesData push) (r : Reader) (h b q xs : List ℕ) (have size t : ℕ) where
  -- the reader with n bytes pushed
  abbrev at : ℕ → Configuration
  at n = configuration (in_phase r (P.Data (have + n) size)) h (paste b have xs n) q

  abbrev along : ℕ → Fed
  along n = run_of push (at n) (t + n) (drop n xs)

  one_on : (n : ℕ) → n < length xs → have + n < length b → have + n + 1 < size → along n ≡ along (suc n)
  unfolding run_of push_data
  one_on n m f s =
      let f' : have + n ≤ length b = omega arith in
      let m' : n ≤ length xs = omega arith in
      let k : have + n < length (paste b have xs n) = rw (length-paste b have xs n f' m') f in
      let e₁ : have + n + 1 ≡ have + suc n = omega arith in
      let e₂ : t + n + 1 ≡ t + suc n = omega arith in
      rw (drop-cons xs n 0 m, rule (at n) (have + n) size (get_or xs n 0) refl, lt-leb (length (paste b have xs n)) (have + n) k, lt-leb size (have + n + 1) s, paste-suc b have xs n 0 f m, e₁, e₂)

  many_on : (n : ℕ) → n ≤ length xs → have + n ≤ length b → have + n < size → along 0 ≡ along n
  many_on zero m f s = refl
  many_on (suc n) m f s = many_on n (omega arith) (omega arith) (omega arith) ∙ one_on n (omega arith) (omega arith) (omega arith)

  start : r.phase ≡ P.Data have size → configuration r h b q ≡ at 0
  start e =
      let p : r ≡ in_phase r (P.Data (have + 0) size) = rw (add-zero have, ← e) in
      let b' : b ≡ paste b have xs 0 = paste-zero b have xs in
      cc

  first : r.phase ≡ P.Data have size → run_of push (configuration r h b q) t xs ≡ along 0
  first e = ap (λ (d : Configuration). run_of push d t xs) (start e) ∙ ap (λ (k : ℕ). run_of push (at 0) k xs) (sym (add-zero t))

  data_run : (n : ℕ) → r.phase ≡ P.Data have size → n ≡ run_length have size b xs → run_of push (configuration r h b q) t xs ≡ along n
  data_run zero e k = first e
  data_run (suc n) e k = first e ∙ many_on (suc n) (omega arith) (omega arith) (omega arith)

module _ (push : Configuration → ℕ → Next) (rule : PushesData push) (h q : List ℕ) (t : ℕ) (r : Reader) (b xs : List ℕ) where
  -- the rest of the piece after a run
  abbrev resumed : Skip → Fed
  resumed s = run_of push (configuration s.reader h s.block q) (t + s.taken) (drop s.taken xs)

  none : run_of push (configuration r h b q) t xs ≡ resumed (skip_to r 0 b)
  none = rw add-zero

  by_phase : (p : Phase) → r.phase ≡ p → run_of push (configuration r h b q) t xs ≡ resumed (skipped_at p r b xs)
  unfolding skipped_at skipped_data
  by_phase (P.Head n) e = none
  by_phase (P.HeadAsked n) e = none
  by_phase (P.FirstLine n) e = none
  by_phase (P.Data have size) e = data_run push rule r h b q xs have size t (run_length have size b xs) e refl
  by_phase (P.DataEnd have size) e = none
  by_phase (P.NextLine have size) e = none
  by_phase (P.BlockAsked size next) e = none
  by_phase (P.Trailer have total) e = none
  by_phase (P.EndAsked have total) e = none
  by_phase (P.Closed total) e = none
  by_phase (P.Complete total) e = none
  by_phase (P.Refused n) e = none

  -- THE RUN: the piece from here is its rest from where the run leaves the reader
  pub skip_runs : run_of push (configuration r h b q) t xs ≡ run_of push (configuration (skipped r b xs).reader h (skipped r b xs).block q) (t + (skipped r b xs).taken) (drop (skipped r b xs).taken xs)
  skip_runs = by_phase r.phase refl

module _ (r : Reader) (b xs : List ℕ) where
  within : (p : Phase) → (skipped_at p r b xs).taken ≤ length xs
  unfolding skipped_at skipped_data
  within (P.Head n) = omega arith
  within (P.HeadAsked n) = omega arith
  within (P.FirstLine n) = omega arith
  within (P.Data have size) = omega arith
  within (P.DataEnd have size) = omega arith
  within (P.NextLine have size) = omega arith
  within (P.BlockAsked size next) = omega arith
  within (P.Trailer have total) = omega arith
  within (P.EndAsked have total) = omega arith
  within (P.Closed total) = omega arith
  within (P.Complete total) = omega arith
  within (P.Refused n) = omega arith

  -- a run has no more bytes than there are
  pub skip_within : (skipped r b xs).taken ≤ length xs
  skip_within = within r.phase
