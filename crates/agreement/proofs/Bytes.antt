-- A byte, and a piece byte by byte: the reader follows the machine. Assumes nothing.
use mathlib.Core.Path.{◌≡◌, refl}
use mathlib.Core.Bool.{false}
use mathlib.Core.List.{List, [], ◌∷◌}
use Prim.Native.Nat.{ℕ, suc, ◌+◌}
use native.Mathlib.Omega.{arith}
use Rattle.sections.specs.Reading.{Event}
use Rattle.sections.specs.Calls.{event}
use Rattle.sections.specs.Calls as S
use Rattle.sections.specs.Machine.{running, Step, Turn, one_more, step}
use Rattle.sections.specs.Machine as M
use Rattle.stream.specs.Events.{Question, Release, LastWord}
use Rattle.stream.specs.Lines.{Field}
use Rattle.stream.specs.Stream.{Context, rules}
use Rattle.stream.specs.Terms.{Terms}
use Rattle.state.specs.Configuration.{Configuration, Next}
use Rattle.state.specs.Run.{Fed, run_of}
use Rattle.state.specs.Run as Run
use Rattle.state.specs.declared.phase.Phase.{Phase}
use Rattle.state.specs.declared.word.Word as Code
use Rattle.reader.specs.Feed.{push_at, push_byte}
use Rattle.agreement.specs.Plain.{told_event}
use Rattle.agreement.specs.Run.{word_seen}
use Rattle.agreement.proofs.Stands.{Lent, Standing, At, Reads, is_release, Follows}
use Rattle.agreement.proofs.Stands as F
use Rattle.agreement.proofs.DataSteps.{data_step, end_step}
use Rattle.agreement.proofs.LineSteps.{first_step}
use Rattle.agreement.proofs.NextSteps.{next_step}
use Rattle.agreement.proofs.TrailerSteps.{trailer_step}
use Rattle.agreement.proofs.HeadSteps.{head_step}

-- what a piece does, with t bytes taken before it
pub data FedAs (terms : Terms) (fields : List Field) (t : ℕ) : Fed → Turn Context Question Release LastWord → Type 0 where
  all : {d : Configuration} {c : Context} {g : List ℕ} {m n : ℕ} → m ≡ t + n → Reads terms fields d (running c g)
      → FedAs terms fields t (Run.more m d) ((S.more, n), running c g)
  up_to : {d : Configuration} {s : Standing} {w : Code.Word} {signature : List ℕ} {e : Event Question Release LastWord} {m n : ℕ} → m ≡ t + n
      → word_seen w signature d ≡ event (told_event e) → is_release e ≡ false → Reads terms fields d s
      → FedAs terms fields t (Run.event w signature m d) ((event e, n), s)

module _ (terms : Terms) (fields : List Field) where
  pub byte_at : (d : Configuration) (x : ℕ) (p : Phase) {c : Context} {g : List ℕ} → Lent d fields → d.reader.released ≡ 0 → At terms d p (running c g)
      → Follows terms fields (push_at terms p d x) (step (rules terms) c g x)
  unfolding push_at
  byte_at d x p l z (F.head {n} {g} early a e) = head_step terms fields d x l z early n g a e
  byte_at d x p l z (F.first_line {n} {g} {s} k sound none a e) = first_step terms fields d x l z s k sound none n g a e
  byte_at d x p l z (F.block_data {have} {size} {g} {s} {p = q} k c sound a e) = data_step terms fields d x l z s q have size g k c sound a e
  byte_at d x p l z (F.data_end {have} {size} {b} {g} {s} {p = q} u a e) = end_step terms fields d x l z s q size b u have g a e
  byte_at d x p l z (F.next_line {have} {size} {b} {g} {s} {p = q} u a e) = next_step terms fields d x l z s q size b u have g a e
  byte_at d x p l z (F.trailer {have} {total} {g} {s} {p = q} k c sound a e) = trailer_step terms fields d x l z s q k c have total g sound a e

  one_more_lem : (t : ℕ) (f : Fed) (o : Turn Context Question Release LastWord) → FedAs terms fields (t + 1) f o → FedAs terms fields t f (one_more o)
  one_more_lem t f o (all {m} {n} e r) = all {m = m} {n = suc n} (omega (arith, e)) r
  one_more_lem t f o (up_to {m} {n} e w q r) = up_to {m = m} {n = suc n} (omega (arith, e)) w q r

  -- A PIECE
  pub piece_follows : (piece : List ℕ) (t : ℕ) (d : Configuration) {c : Context} {g : List ℕ} → Reads terms fields d (running c g)
      → FedAs terms fields t (run_of (push_byte terms) d t piece) (M.fed (rules terms) c g piece)
  unfolding run_of M.fed
  piece_follows [] t d r = all {m = t} {n = 0} (omega arith) r
  piece_follows (x ∷ xs) t d r =
      by (byte_at d x d.reader.phase r.lent r.taken r.stands) (λ d' c g r'. piece_follows xs (t + 1) d' r')
    where
      by : {n : Next} {m : Step Context Question Release LastWord} → Follows terms fields n m
          → ((d' : Configuration) (c : Context) (g : List ℕ) → Reads terms fields d' (running c g)
          → FedAs terms fields (t + 1) (run_of (push_byte terms) d' (t + 1) xs) (M.fed (rules terms) c g xs))
          → FedAs terms fields t (Run.follow n (t + 1) (λ d'. run_of (push_byte terms) d' (t + 1) xs)) (M.follow m (λ c g. M.fed (rules terms) c g xs))
      by (F.on {d = d'} {c} {g} r') ih = one_more_lem t _ _ (ih d' c g r')
      by (F.says w q r') ih = up_to {n = 1} refl w q r'
