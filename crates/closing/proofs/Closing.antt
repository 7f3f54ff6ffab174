-- A READING COMES TO A GOOD END, *closed* or *complete*, exactly where the stream of an honest show ends. Assumes nothing.
use mathlib.Core.Bool.{Bool, true, false, true≢false}
use mathlib.Core.List.{List, ◌++◌}
use mathlib.Core.Logic.{◌↔◌}
use mathlib.Core.Path.{◌≡◌, refl, sym, ap, ◌∙◌}
use Prim.Native.Nat.{ℕ}
use lib.ListN.{length}
use Rattle.sections.specs.Reading.{question, message, last}
use Rattle.stream.specs.Events.{closed, complete, refused}
use Rattle.stream.specs.Stream.{plain_reading}
use Rattle.stream.specs.Terms.{Terms}
use Rattle.exactness.specs.Beginning.{Beginning, written, head_in, announces, body, questions, with_end}
use Rattle.exactness.specs.Good.{Good, GoodTrailer, claims, GoodEnd, unclaimed, well_claimed}
use Rattle.exactness.specs.ShowEvents.{good_word}
use Rattle.exactness.specs.Shows.{Sending, stream_of, claims_end, yeses_of, beginning_of}
use Rattle.exactness.specs.Telling.{StreamEvent, Decides, head_asked, head_told, block_asked, block_told, body_closed, end_asked, completed, rule_broken, Due, Expected, on_time, Stands, whole_yeses}
use Rattle.exactness.proofs.Exactness.{exactness}
use Rattle.exactness.proofs.HonestShows.{show_written, show_body, show_head, show_yeses, show_good, show_end}
use Rattle.closing.specs.Closing.{ShowEndsAt}
use Rattle.closing.specs.Rebuilt.{show_from}
use Rattle.closing.proofs.Rebuilding.{is_show}

module _ (terms : Terms) where
  -- what a good end is decided by
  pub record Ended (claimed : Bool) (front : List ℕ) (yeses total : ℕ) : Type 0 where
    pub beginning : Beginning
    pub trailer : List ℕ
    pub good : Good terms beginning
    pub zero : announces beginning ≡ 0
    pub good_trailer : GoodTrailer trailer
    pub good_end : GoodEnd (head_in beginning) (body beginning) trailer
    pub claim : claims (head_in beginning) trailer ≡ claimed
    pub stream : written beginning ++ trailer ≡ front
    pub size : length (body beginning) ≡ total
    pub needs : yeses ≡ whole_yeses beginning trailer

  abbrev Origin : List ℕ → ℕ → StreamEvent → Type 0
  Origin front yeses (question q) = Unit {0}
  Origin front yeses (message e) = Unit {0}
  Origin front yeses (last (closed total)) = Ended false front yeses total
  Origin front yeses (last (complete total)) = Ended true front yeses total
  Origin front yeses (last (refused n at)) = Unit {0}

  origin : (front : List ℕ) (yeses : ℕ) (e : StreamEvent) → Decides terms front yeses e → Origin front yeses e
  origin front yeses e (head_asked g) = tt
  origin front yeses e (head_told g) = tt
  origin front yeses e (block_asked g) = tt
  origin front yeses e (block_told g) = tt
  origin front yeses e (body_closed {w = w} {t = t} g z k c) =
      record {
        beginning = w;
        trailer = t;
        good = g;
        zero = z;
        good_trailer = k;
        good_end = unclaimed c;
        claim = c;
        stream = refl;
        size = refl;
        needs = rw c;
      }
  origin front yeses e (end_asked g z k c) = tt
  origin front yeses e (completed {w = w} {t = t} g z k c) =
      record {
        beginning = w;
        trailer = t;
        good = g;
        zero = z;
        good_trailer = k;
        good_end = well_claimed c;
        claim = c.claimed;
        stream = refl;
        size = refl;
        needs = rw c.claimed;
      }
  origin front yeses e (rule_broken r) = tt

  abbrev GoodDue : Bool → List ℕ → List Bool → ℕ → ℕ → Type 0
  GoodDue claimed S answers at total = Due terms S answers at (last (good_word claimed total))

  pub due_ended : (claimed : Bool) (S : List ℕ) (answers : List Bool) (at total : ℕ) (d : GoodDue claimed S answers at total)
      → Ended claimed d.front d.yeses total
  due_ended true S answers at total d = origin d.front d.yeses _ d.decides
  due_ended false S answers at total d = origin d.front d.yeses _ d.decides

  due_closed : {S : List ℕ} {answers : List Bool} {told : Bool} {at total : ℕ} → Expected terms S answers told at (last (closed total))
      → Due terms S answers at (last (closed total))
  due_closed (on_time d) = d

  due_complete : {S : List ℕ} {answers : List Bool} {told : Bool} {at total : ℕ} → Expected terms S answers told at (last (complete total))
      → Due terms S answers at (last (complete total))
  due_complete (on_time d) = d

  -- a good end is never expected for another reason
  pub good_due : (claimed : Bool) (S : List ℕ) (answers : List Bool) (told : Bool) (at total : ℕ)
      → Stands (at, last (good_word claimed total)) (plain_reading terms S answers told) → GoodDue claimed S answers at total
  good_due true S answers told at total s = due_complete ((exactness terms S answers told at _).0 s)
  good_due false S answers told at total s = due_closed ((exactness terms S answers told at _).0 s)

  due_ends : (claimed : Bool) (S : List ℕ) (answers : List Bool) (at total : ℕ) → GoodDue claimed S answers at total
      → ShowEndsAt terms claimed S answers at total
  due_ends claimed S answers at total d =
      let o = due_ended claimed S answers at total d in
      let w : Beginning = o.beginning in
      let s : Sending = show_from w o.trailer in
      let i = is_show terms w o.trailer o.good o.zero o.good_trailer o.good_end in
      let e : stream_of s ≡ d.front = i.stream ∙ o.stream in
      let n : d.yeses ≡ yeses_of s = o.needs ∙ ap (λ (x : Beginning). whole_yeses x o.trailer) (sym i.parts) ∙ show_yeses s in
      let c : claims_end s ≡ claimed = rw (← show_head s, i.parts) o.claim in
      record {
        show = s;
        honest = i.honest;
        end = c;
        rest = d.rest;
        stream = rw e d.stream;
        place = rw e d.place;
        body_length = ap length i.whole_body ∙ o.size;
        others = d.others;
        granted = rw n at d.granted;
      }

  -- what decides a good end
  ends_decides : (claimed : Bool) (w : Beginning) (t : List ℕ) → Good terms w → announces w ≡ 0 → GoodTrailer t → GoodEnd (head_in w) (body w) t
      → claims (head_in w) t ≡ claimed → Decides terms (written w ++ t) (with_end claimed (questions w)) (last (good_word claimed (length (body w))))
  ends_decides true w t g z k (well_claimed c) e = completed g z k c
  ends_decides true w t g z k (unclaimed c) e = absurd (true≢false (sym e ∙ c))
  ends_decides false w t g z k (well_claimed c) e = absurd (true≢false (sym c.claimed ∙ e))
  ends_decides false w t g z k (unclaimed c) e = body_closed g z k c

  ends_due : (claimed : Bool) (S : List ℕ) (answers : List Bool) (at total : ℕ) → ShowEndsAt terms claimed S answers at total
      → GoodDue claimed S answers at total
  ends_due claimed S answers at total c =
      let s : Sending = c.show in
      let g = show_good terms s c.honest in
      let claim : claims (head_in (beginning_of s)) s.trailer ≡ claimed = rw (show_head s) c.end in
      let d = ends_decides claimed (beginning_of s) s.trailer g.0 g.1 c.honest.trailer (show_end terms s c.honest) claim in
      let n : with_end claimed (questions (beginning_of s)) ≡ yeses_of s = ap (λ (x : Bool). with_end x (questions (beginning_of s))) (sym claim) ∙ show_yeses s in
      record {
        front = stream_of s;
        rest = c.rest;
        stream = c.stream;
        place = c.place;
        yeses = yeses_of s;
        others = c.others;
        granted = c.granted;
        decides = rw (← c.body_length, ← show_body s, ← n, ← show_written s) d;
      }

  -- A good end stands in the plain reading of the stream S, at the place `at` and with the total, exactly when S begins with the stream of
  -- an honest show that ends there and has a body of so many bytes, and the answers begin with its yeses. It is *complete* exactly where
  -- that show claims an end, and else *closed*.
  pub ends_exact : (claimed : Bool) (S : List ℕ) (answers : List Bool) (told : Bool) (at total : ℕ)
      → Stands (at, last (good_word claimed total)) (plain_reading terms S answers told) ↔ ShowEndsAt terms claimed S answers at total
  ends_exact claimed S answers told at total = (
    λ s. due_ends claimed S answers at total (good_due claimed S answers told at total s),
    λ c. (exactness terms S answers told at _).1 (on_time (ends_due claimed S answers at total c)),
  )

  pub closed_exact : (S : List ℕ) (answers : List Bool) (told : Bool) (at total : ℕ)
      → Stands (at, last (closed total)) (plain_reading terms S answers told) ↔ ShowEndsAt terms false S answers at total
  closed_exact = ends_exact false

  pub complete_exact : (S : List ℕ) (answers : List Bool) (told : Bool) (at total : ℕ)
      → Stands (at, last (complete total)) (plain_reading terms S answers told) ↔ ShowEndsAt terms true S answers at total
  complete_exact = ends_exact true
