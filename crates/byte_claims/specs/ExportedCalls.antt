-- A list of exported calls (crate reader_export), each answered as the contract of its function says. Assumes nothing.
use Rattle.std.specs.Prelude.{Bool, true, false, List, [], ◌∷◌, ◌≡◌, ℕ}
use Rattle.sections.specs.Calls.{Request}
use Rattle.packing.specs.Keys.{keys_in}
use Rattle.results.specs.Written.{Answer}
use Rattle.reader_export.specs.Loan.{Loan, loan, is_long, Kept}
use Rattle.agreement.specs.Loans.{loan_fits}

-- the bytes that a caller keeps from call to call
pub record Held : Type 0 where
  pub state : List ℕ
  pub head : List ℕ
  pub block : List ℕ
  pub question : List ℕ

-- A call is lent what the caller keeps, the one ring and URI, and a buffer for its result; or the state and other things, not all of which
-- will do, so that it is refused with 2; or anything, with too short a buffer for state or result, so that it is answered 255.
pub data ExportedCall : Type 0 where
  same : (result : List ℕ) (r : Request) → ExportedCall
  other : (h b q ring uri result : List ℕ) (r : Request) → loan_fits h b q (keys_in ring) r ≡ false → ExportedCall
  too_short : Loan → Request → ExportedCall

abbrev pub lent_to : List ℕ → List ℕ → Held → ExportedCall → Loan
lent_to ring uri x (same t r) = loan x.state x.head x.block x.question ring uri t
lent_to ring uri x (other h b q ring' uri' t r misfit) = loan x.state h b q ring' uri' t
lent_to ring uri x (too_short l r) = l

abbrev pub request_of : ExportedCall → Request
request_of (same t r) = r
request_of (other h b q ring uri t r misfit) = r
request_of (too_short l r) = r

-- too short a buffer for state or result is lent there, and nowhere else
abbrev pub reaches : ExportedCall → Bool
reaches (same t r) = true
reaches (other h b q ring uri t r misfit) = true
reaches (too_short l r) = false

-- what the caller keeps after the answer: what was lent of it comes back
abbrev pub kept_after : Held → ExportedCall → Answer → Held
kept_after x (same t r) a = record { state = a.state; head = a.head; block = a.block; question = a.question }
kept_after x (other h b q ring uri t r misfit) a = record { state = a.state; head = x.head; block = x.block; question = x.question }
kept_after x (too_short l r) a = x

-- one call after the other, each answered as the contract of its function says
pub data Calls (ring uri : List ℕ) : Held → List ExportedCall → List Answer → Type 0 where
  over : {x : Held} → Calls ring uri x [] []
  next : {x : Held} {k : ExportedCall} {a : Answer} {ks : List ExportedCall} {told : List Answer} → is_long (lent_to ring uri x k) ≡ reaches k → Kept (lent_to ring uri x k) (request_of k) a
      → Calls ring uri (kept_after x k a) ks told → Calls ring uri x (k ∷ ks) (a ∷ told)
