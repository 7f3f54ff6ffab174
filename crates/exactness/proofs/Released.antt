-- A head or a block is due at a place just where the stream and the answers are as it is spelled out for it. Assumes nothing.
use mathlib.Core.Bool.{Bool}
use mathlib.Core.List.{List}
use mathlib.Core.Path.{◌≡◌, refl}
use Prim.Native.Nat.{ℕ, suc}
use Rattle.sections.specs.Reading.{question, message, last}
use Rattle.stream.specs.Events.{head_accepted, block}
use Rattle.stream.specs.Head.{head_of}
use Rattle.stream.specs.Lines.{Field}
use Rattle.stream.specs.Terms.{Terms}
use Rattle.exactness.specs.Beginning.{Beginning, onward, written, blocks, offset, questions}
use Rattle.exactness.specs.Good.{GoodHead, Good}
use Rattle.exactness.specs.Releases.{AcceptsHead, ReleasesBlock}
use Rattle.exactness.specs.Telling.{StreamEvent, head_tells, Decides, head_asked, head_told, block_asked, block_told, body_closed, end_asked, completed, rule_broken, Due}

module _ (terms : Terms) where
  -- what a release that is decided after `front` and so many yeses comes from
  abbrev Origin : List ℕ → ℕ → StreamEvent → Type 0
  Origin front yeses (question q) = Unit {0}
  Origin front yeses (message (head_accepted status fields)) =
      GoodHead terms front × (head_tells (head_of front) ≡ head_accepted status fields) × (yeses ≡ 1)
  Origin front yeses (message (block o b)) =
      (w : Beginning) × (l : List ℕ) × Good terms (onward w b l) × (written (onward w b l) ≡ front) × (offset w ≡ o) × (yeses ≡ questions (onward w b l))
  Origin front yeses (last l) = Unit {0}

  origin : (front : List ℕ) (yeses : ℕ) (e : StreamEvent) → Decides terms front yeses e → Origin front yeses e
  unfolding head_tells blocks
  origin front yeses e (head_asked g) = tt
  origin front yeses e (head_told g) = (g, refl, refl)
  origin front yeses e (block_asked g) = tt
  origin front yeses e (block_told {w = w} {l = l} g) = (w, l, g, refl, refl, refl)
  origin front yeses e (body_closed g z k c) = tt
  origin front yeses e (end_asked g z k c) = tt
  origin front yeses e (completed g z k c) = tt
  origin front yeses e (rule_broken r) = tt

  pub due_block : (S : List ℕ) (answers : List Bool) (at o : ℕ) (b : List ℕ) → Due terms S answers at (message (block o b)) → ReleasesBlock terms S answers at o b
  due_block S answers at o b d =
      let (w, l, g, front, where_in_body, yeses) = origin d.front d.yeses _ d.decides in
      record {
        before = w;
        line = l;
        good = g;
        where_in_body = where_in_body;
        rest = d.rest;
        stream = rw front d.stream;
        place = rw front d.place;
        others = d.others;
        granted = rw yeses at d.granted;
      }

  pub block_due : (S : List ℕ) (answers : List Bool) (at o : ℕ) (b : List ℕ) → ReleasesBlock terms S answers at o b → Due terms S answers at (message (block o b))
  unfolding blocks
  block_due S answers at o b r =
      record {
        front = written (onward r.before b r.line);
        rest = r.rest;
        stream = r.stream;
        place = r.place;
        yeses = suc (questions r.before);
        others = r.others;
        granted = r.granted;
        decides = rw (← r.where_in_body) (block_told r.good);
      }

  pub due_head : (S : List ℕ) (answers : List Bool) (at status : ℕ) (fields : List Field) → Due terms S answers at (message (head_accepted status fields))
      → AcceptsHead terms S answers at status fields
  due_head S answers at status fields d =
      let (g, says, yeses) = origin d.front d.yeses _ d.decides in
      record {
        head = d.front;
        good = g;
        says = says;
        rest = d.rest;
        stream = d.stream;
        place = d.place;
        others = d.others;
        granted = rw yeses at d.granted;
      }

  pub head_due : (S : List ℕ) (answers : List Bool) (at status : ℕ) (fields : List Field) → AcceptsHead terms S answers at status fields
      → Due terms S answers at (message (head_accepted status fields))
  head_due S answers at status fields r =
      record {
        front = r.head;
        rest = r.rest;
        stream = r.stream;
        place = r.place;
        yeses = 1;
        others = r.others;
        granted = r.granted;
        decides = rw (← r.says) (head_told r.good);
      }
