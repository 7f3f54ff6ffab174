-- Which questions stand before what is handed out: first of all the head's, and right before a block its own; in a plain reading, and so
-- in a run. Assumes nothing.
use mathlib.Core.Path.{◌≡◌, sym, ap, ◌∙◌}
use mathlib.Core.Bool.{Bool}
use mathlib.Core.List.{List, [], ◌∷◌, ◌++◌, append_assoc}
use Prim.Native.Nat.{ℕ}
use Rattle.ring.specs.Keys.{ring_of, terms_of}
use Rattle.ring.specs.declared.KeyRing.{KeyRing}
use Rattle.sections.specs.Reading.{question, message, Log, reading}
use Rattle.sections.specs.Resuming.{Begins, events}
use Rattle.stream.specs.Events.{Question, Release, block, LastWord}
use Rattle.stream.specs.Head.{head_of}
use Rattle.stream.specs.Lines.{Field}
use Rattle.stream.specs.Stream.{head, rules, plain_reading}
use Rattle.stream.specs.Terms.{Terms}
use Rattle.agreement.specs.Observation.{Told}
use Rattle.agreement.specs.Plain.{told, told_log}
use Rattle.agreement.specs.Run.{Invocation}
use Rattle.agreement.proofs.Streams.{log_append}
use Rattle.exactness.specs.Releases.{AcceptsHead, ReleasesBlock}
use Rattle.exactness.specs.Telling.{head_asks, block_asks, log_of}
use Rattle.exactness.proofs.Exactness.{block_exact, block_after_lem}
use Rattle.exactness.proofs.Steps.{head_step}
use Rattle.claims.specs.Handed.{AskedBefore}
use Rattle.claims.specs.Runs.{words, taken, answers, ended}
use Rattle.claims.proofs.Demand3.{demand_3}
use Rattle.claims.proofs.Places.{one_message, reading_rises}
use Rattle.claims.proofs.Told.{block_from}
use Rattle.claims.proofs.Untold.{untold}

module _ (terms : Terms) (S : List ℕ) (answers : List Bool) (told : Bool) (at : ℕ) where
  head_asked : (status : ℕ) (fields : List Field) (a : AcceptsHead terms S answers at status fields)
      → Begins ((at, question (head_asks terms.ring (head_of a.head))) ∷ []) (plain_reading terms S answers told)
  unfolding plain_reading reading
  head_asked status fields a =
      rw (← a.stream, ← a.place)
      record { rest = _; joined = sym (head_step terms a.head a.rest answers told a.good) }

  module _ (o : ℕ) (b : List ℕ) (r : ReleasesBlock terms S answers at o b) where
    -- the events before the block
    abbrev before_block : Log Question Release LastWord
    before_block = log_of terms.ring r.before ++ (at, question (block_asks terms.ring r.before b r.line)) ∷ []

    block_asked : before_block ++ (at, message (block o b)) ∷ (block_after_lem terms S answers told at o b r).rest ≡ plain_reading terms S answers told
    unfolding log_of
    block_asked =
        let l = log_of terms.ring r.before in
        let q = question (block_asks terms.ring r.before b r.line) in
        let c = block_after_lem terms S answers told at o b r in
        let p = sym r.place in
        let w = sym r.where_in_body in
        (λ i. (l ++ (p i, q) ∷ []) ++ (p i, message (block (w i) b)) ∷ c.rest)
        ∙ append_assoc l _ _
        ∙ sym (append_assoc l _ c.rest)
        ∙ c.joined

    -- no other events come before it
    only_block : (l l' : Log Question Release LastWord) → l ++ (at, message (block o b)) ∷ l' ≡ plain_reading terms S answers told → l ≡ before_block
    unfolding plain_reading
    only_block l l' e =
        one_message 0 at (block o b) (block o b) l before_block l' _ (rw e (reading_rises (rules terms) head S answers told)) (e ∙ sym block_asked)

-- ---- of a run

pub begins_told : {l m : Log Question Release LastWord} → Begins l m → Begins (told_log l) (told_log m)
begins_told {l} s = record { rest = told_log s.rest; joined = sym (log_append l s.rest) ∙ ap told_log s.joined }

module _ (keys : KeyRing) (uri h b q : List ℕ) (ks : List Invocation) where
  abbrev pub log : Log Question Release LastWord
  log = plain_reading (terms_of keys uri) (taken keys uri h b q ks) (answers keys uri h b q ks) (ended keys uri h b q ks)

  pub head_first : (place status : ℕ) (fields : List Field) (a : AcceptsHead (terms_of keys uri) (taken keys uri h b q ks) (answers keys uri h b q ks) place status fields)
      → Begins ((place, question (head_asks (ring_of keys) (head_of a.head))) ∷ []) (events (words keys uri h b q ks))
  unfolding told_log
  head_first place status fields a =
      let s = begins_told (head_asked (terms_of keys uri) (taken keys uri h b q ks) (answers keys uri h b q ks) (ended keys uri h b q ks) place status fields a) in
      record { rest = s.rest; joined = s.joined ∙ sym (demand_3 keys uri h b q ks).all_taken }

  asked_before : (earlier : Log Question Told LastWord) (place offset : ℕ) (bytes : List ℕ) (before after : Log Question Release LastWord)
      → before ++ (place, message (block offset bytes)) ∷ after ≡ log → told_log before ≡ earlier
      → ReleasesBlock (terms_of keys uri) (taken keys uri h b q ks) (answers keys uri h b q ks) place offset bytes
      → AskedBefore keys uri h b q ks earlier place offset bytes
  unfolding told_log
  asked_before earlier place offset bytes before after j t r =
      let l = log_of (ring_of keys) r.before in
      let e = only_block (terms_of keys uri) (taken keys uri h b q ks) (answers keys uri h b q ks) (ended keys uri h b q ks) place offset bytes r before after j in
      record {
        releases = r;
        before = told_log l;
        asked = sym (log_append l ((place, question (block_asks (ring_of keys) r.before bytes r.line)) ∷ [])) ∙ ap told_log (sym e) ∙ t;
      }

  pub block_question_lem : (earlier later : Log Question Told LastWord) (place offset : ℕ) (bytes : List ℕ)
      → earlier ++ (place, message (told (block offset bytes))) ∷ later ≡ events (words keys uri h b q ks)
      → AskedBefore keys uri h b q ks earlier place offset bytes
  block_question_lem earlier later place offset bytes x =
      let u = untold earlier later place (message (told (block offset bytes))) log (x ∙ (demand_3 keys uri h b q ks).all_taken) in
      let i = block_from u.it offset bytes u.same_event in
      let j : u.before ++ (place, message (block offset bytes)) ∷ u.after ≡ log = rw (← i) u.joined in
      let r = (block_exact (terms_of keys uri) (taken keys uri h b q ks) (answers keys uri h b q ks) (ended keys uri h b q ks) place offset bytes).0
      (record { before = u.before; after = u.after; joined = j }) in
      asked_before earlier place offset bytes u.before u.after j u.same_before r
