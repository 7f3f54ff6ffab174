-- What the plain reading makes of a section that ends it, and of one that does not come to its end, after a head, a line, a block
-- or its CR LF. Assumes nothing.
use mathlib.Core.Bool.{Bool, true}
use mathlib.Core.List.{List, [], ◌∷◌, ◌++◌, append_assoc}
use mathlib.Core.Path.{◌≡◌, ap, ◌∙◌}
use Prim.Native.Nat.{ℕ, zero, suc, ◌+◌, ◌<◌}
use native.Mathlib.Omega.{arith}
use lib.ListN.{length, replicate}
use Rattle.sections.specs.Reading.{question, message, last, Log, stop, Cut, judged, one_section, reading_at, reading}
use Rattle.sections.proofs.Cuts.{NoneBelow, cut_none}
use Rattle.sections.proofs.Scans.{section_read}
use Rattle.stream.specs.Events.{Question, Release, LastWord, refused}
use Rattle.stream.specs.Head.{head_of}
use Rattle.stream.specs.Lines.{crlf}
use Rattle.stream.specs.Stream.{Context, first_line, data_end, next_line, is_whole, Says, announced, show_of, judge, rules, plain_reading}
use Rattle.stream.specs.Terms.{Terms}
use Rattle.exactness.specs.Beginning.{Beginning, written, head_in, announces, body, questions}
use Rattle.exactness.specs.Good.{GoodHead, Announced, Good}
use Rattle.exactness.specs.Telling.{head_asks, head_tells, log_of}
use Rattle.exactness.proofs.Forward.{past_of, context_of, reading_good}
use Rattle.exactness.proofs.Steps.{on_rest, one_section_lem, head_step, data_step, end_step}

module _ (terms : Terms) where
  abbrev pub Telling : Type 0
  Telling = Log Question Release LastWord

  -- a section that ends the reading
  pub stop_step : (c : Context) (at : ℕ) (f r : List ℕ) (answers : List Bool) (told : Bool) (n place : ℕ) → 0 < length f → is_whole c f ≡ true
      → NoneBelow (is_whole c) f (length f) → judge terms c f ≡ stop (refused n place)
      → reading_at (rules terms) c at (f ++ r) answers told ≡ (at + length f, last (refused n place)) ∷ []
  stop_step c at f r answers told n place s t k e =
      one_section_lem terms c at f r answers told s t k ∙ ap (λ (v : Says). judged (rules terms) v (at + length f) answers (on_rest terms (at + length f) r told)) e

  -- the bytes run out within a section, and the end is told
  pub out_step : (c : Context) (at : ℕ) (l : List ℕ) (answers : List Bool) → NoneBelow (is_whole c) l (suc (length l))
      → reading_at (rules terms) c at l answers true ≡ (at + length l, last (refused 11 0)) ∷ []
  unfolding rules
  out_step c at l answers n =
      section_read (rules terms) c at l answers true
      ∙ ap (λ (k : Cut). one_section (rules terms) c at l answers true k (λ c' at' r answers'. reading_at (rules terms) c' at' r answers' true))
      (cut_none (is_whole c) l n)

  -- ---- what comes before

  abbrev pub head_log : List ℕ → Telling
  head_log h = (length h, question (head_asks terms.ring (head_of h))) ∷ (length h, message (head_tells (head_of h))) ∷ []

  -- after the head
  pub head_then : (h r : List ℕ) (answers : List Bool) (told : Bool) (x : Telling) → GoodHead terms h
      → reading_at (rules terms) (first_line (show_of terms.ring (head_of h))) (length h) r answers told ≡ x
      → plain_reading terms (h ++ r) (true ∷ answers) told
      ≡ head_log h ++ x
  unfolding plain_reading reading
  head_then h r answers told x g e =
      head_step terms h r (true ∷ answers) told g
      ∙ ap (λ (y : Telling). (length h, question (head_asks terms.ring (head_of h))) ∷ (length h, message (head_tells (head_of h))) ∷ y) e

  -- after a line
  pub line_then : (w : Beginning) (r : List ℕ) (answers : List Bool) (told : Bool) (x : Telling) → Good terms w
      → reading_at (rules terms) (context_of terms w) (length (written w)) r answers told ≡ x
      → plain_reading terms (written w ++ r) (replicate (questions w) true ++ answers) told ≡ log_of terms.ring w ++ x
  line_then w r answers told x g e = reading_good terms w r answers told g ∙ ap (λ (y : Telling). log_of terms.ring w ++ y) e

  -- after a block
  pub block_then : (w : Beginning) (b r : List ℕ) (answers : List Bool) (told : Bool) (x : Telling) → Good terms w → Announced w b
      → reading_at (rules terms) (data_end (show_of terms.ring (head_in w)) (past_of w) b) (length (written w) + length b) r answers told ≡ x
      → plain_reading terms (written w ++ b ++ r) (replicate (questions w) true ++ answers) told ≡ log_of terms.ring w ++ x
  block_then w b r answers told x g a e =
      rw (append_assoc (written w) b r) (line_then w (b ++ r) answers told x g (by (announces w) a.just ∙ e))
    where
      by : (m : ℕ) → length b ≡ m
          → reading_at (rules terms) (announced (show_of terms.ring (head_in w)) (past_of w) (length (body w)) m) (length (written w)) (b ++ r) answers told
          ≡ reading_at (rules terms) (data_end (show_of terms.ring (head_in w)) (past_of w) b) (length (written w) + length b) r answers told
      by zero f = absurd (omega (arith, a.some))
      by (suc m) f = data_step terms (show_of terms.ring (head_in w)) (past_of w) (suc m) (length (written w)) b r answers told a.some f

  -- after its CR LF
  pub end_then : (w : Beginning) (b r : List ℕ) (answers : List Bool) (told : Bool) (x : Telling) → Good terms w → Announced w b
      → reading_at (rules terms) (next_line (show_of terms.ring (head_in w)) (past_of w) b) (length (written w) + length b + 2) r answers told ≡ x
      → plain_reading terms (written w ++ b ++ (crlf ++ r)) (replicate (questions w) true ++ answers) told ≡ log_of terms.ring w ++ x
  end_then w b r answers told x g a e =
      block_then w b (crlf ++ r) answers told x g a (end_step terms (show_of terms.ring (head_in w)) (past_of w) (length (written w) + length b) b r answers told ∙ e)
