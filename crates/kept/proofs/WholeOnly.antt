-- PART ANSWERS came with request #104: whole answers are read as before it, up to a refusal with 4 or 6. Assumes nothing.
use borrow.Author.Tests.{eqb-true, eq-eqb, le-leb}
use mathlib.Core.Bool.{Bool, true, false, ◌&&◌, ◌||◌, true≢false}
use mathlib.Core.List.{List, [], ◌∷◌, ◌++◌}
use mathlib.Core.Path.{◌≡◌, refl, sym, ap, ◌∙◌}
use Prim.Native.Nat.{ℕ, zero, suc, ◌+◌, ◌<◌}
use native.Mathlib.Omega.{arith}
use lib.Dec.{eqb, leb}
use lib.ListN.{length, take, drop, get_or}
use lib.Seq.{get_or-take}
use Rattle.octets.specs.Choice.{pick}
use Rattle.octets.specs.Octets.{octets}
use Rattle.base64_text.specs.Base64.{is_base64}
use Rattle.sha256.specs.Sha256.{sha256}
use Rattle.sections.specs.Reading.{last, go, ask, stop, final, Cut, uncut, cut_at, cut}
use Rattle.stream.specs.Blocks.{size_text, extension, ouisig, ouihash, carries_signature, carries_hash, is_extension, is_chunk_line, chunk_size, same_bool, is_hash_due, line_rules, line_fault}
use Rattle.stream.specs.Bytes.{same}
use Rattle.stream.specs.Ends.{all_fields, is_claimed, is_checked, end_fault}
use Rattle.stream.specs.Events.{LastWord, closed, complete, refused}
use Rattle.stream.specs.Head.{Head, head_of, status_digits, is_partial, signed_status, range_of, is_status, is_ranged, signing_string, text_rules, caller_rules, head_fault}
use Rattle.stream.specs.Limits.{size_digits, body_limit}
use Rattle.stream.specs.Lines.{crlf, ends_with, Field}
use Rattle.stream.specs.Numbers.{is_hex_number}
use Rattle.stream.specs.Places.{head_place, line_place}
use Rattle.stream.specs.Range.{whole, first_byte, is_within}
use Rattle.stream.specs.Ring.{Ring}
use Rattle.stream.specs.Rule.{Rule, rule, first_broken}
use Rattle.stream.specs.Stream.{Show, range, Past, nothing, start_from, start_of, after, Context, head, first_line, block_data, data_end, next_line, trailer, is_whole, Says, unless_broken, announced, show_of, head_question, accept_head, judge_head, judge_first_line, judge_data_end, body_with, released_with, accept_block, judge_next_line, end_question, judge_end, judge_trailer, judge, rules, plain_reading}
use Rattle.stream.specs.Template.{starts_with}
use Rattle.stream.specs.Terms.{Terms}
use Rattle.stream.specs.Trailer.{is_trailer}
use Rattle.stream.proofs.RulesHold.{rules_hold}
use Rattle.stream.proofs.Truth.{left_holds, right_holds, same_equal}
use Rattle.exactness.specs.Telling.{Stands}
use Rattle.kept.specs.Kept.{NeverRefused, SameWhole, NoneLostWhole}
use Rattle.kept.specs.WholeOnly.{whole_only_rules, whole_only_fault, whole_only_string, whole_only_question, whole_only_accept, whole_only_head, carries_any, is_signed, is_whole_only_line, whole_only_line_rules, whole_only_line_fault, whole_only_place, whole_only_first, whole_only_block, whole_only_next, whole_only_end, whole_only_trailer, judge_whole_only, rules_whole_only, whole_only_reading}
use Rattle.kept.proofs.Further.{StreamLog, Further, same as as_before, onward, Alike, neither, alike, stops, reading_within, begins_with}
use Rattle.kept.proofs.Leads.{Leads, unless_leads, test_leads}

-- ---- the head

-- a status that is one of four is not that of a part
unlike_206 : (d t : List ℕ) → same t (octets "206") ≡ false → same d t ≡ true → same d (octets "206") ≡ false
unlike_206 d t e h = rw (same_equal d t h) e

whole_status : (h : Head) → is_status (status_digits h) ≡ true → is_partial h ≡ false
unfolding is_partial same
whole_status h s = by (same (status_digits h) (octets "200")) refl (same (status_digits h) (octets "301")) refl (same (status_digits h) (octets "302")) refl s
  where
    d : List ℕ
    d = status_digits h

    by : (a : Bool) → same d (octets "200") ≡ a → (b : Bool) → same d (octets "301") ≡ b → (c : Bool) → same d (octets "302") ≡ c
        → a || (b || (c || same d (octets "307"))) ≡ true → same d (octets "206") ≡ false
    by true x b y c z t = unlike_206 d (octets "200") refl x
    by false x true y c z t = unlike_206 d (octets "301") refl y
    by false x false y true z t = unlike_206 d (octets "302") refl z
    by false x false y false z t = unlike_206 d (octets "307") refl t

-- then all of the show is carried, the status is signed as it stands, and no range is asked for
module _ (h : Head) (s : is_status (status_digits h) ≡ true) where
  whole_range : range_of h ≡ whole
  unfolding range_of
  whole_range = rw (whole_status h s)

  whole_signed : signed_status h ≡ status_digits h
  unfolding signed_status
  whole_signed = rw (whole_status h s)

  whole_rules : (is_status (signed_status h) ≡ true) × (is_ranged h ≡ true)
  unfolding is_ranged
  whole_rules = (rw whole_signed s, rw (whole_status h s))

-- the rule of before, where the first broken one does not have its number, for two that hold with it
two_for_one : (rs qs : List Rule) (a b c : Bool) → (a ≡ true → (b ≡ true) × (c ≡ true)) → (first_broken (rs ++ rule 4 a ∷ qs) ≡ 4 → ⊥)
    → first_broken (rs ++ rule 4 b ∷ rule 4 c ∷ qs) ≡ first_broken (rs ++ rule 4 a ∷ qs)
unfolding first_broken
two_for_one [] qs true b c h n = rw ((h refl).0, (h refl).1)
two_for_one [] qs false b c h n = absurd (n refl)
two_for_one (r ∷ rs) qs a b c h n = by r.holds n (two_for_one rs qs a b c h)
  where
    by : (t : Bool) → (pick t (first_broken (rs ++ rule 4 a ∷ qs)) r.number ≡ 4 → ⊥)
        → ((first_broken (rs ++ rule 4 a ∷ qs) ≡ 4 → ⊥) → first_broken (rs ++ rule 4 b ∷ rule 4 c ∷ qs) ≡ first_broken (rs ++ rule 4 a ∷ qs))
        → pick t (first_broken (rs ++ rule 4 b ∷ rule 4 c ∷ qs)) r.number ≡ pick t (first_broken (rs ++ rule 4 a ∷ qs)) r.number
    by true k ih = ih k
    by false k ih = refl

same_fault : (terms : Terms) (l : List ℕ) → (whole_only_fault terms l ≡ 4 → ⊥) → head_fault terms l ≡ whole_only_fault terms l
unfolding head_fault whole_only_fault whole_only_rules text_rules
same_fault terms l n = two_for_one (take 7 (text_rules l (head_of l))) _ _ _ _ (whole_rules (head_of l)) n

-- a head without fault has one of the four statuses
good_status : (terms : Terms) (l : List ℕ) → whole_only_fault terms l ≡ 0 → is_status (status_digits (head_of l)) ≡ true
unfolding whole_only_fault whole_only_rules text_rules caller_rules
good_status terms l e =
    let k = rules_hold (whole_only_rules l (head_of l) ++ caller_rules terms (head_of l)) refl e in
    k.1.1.1.1.1.1.1.0

accept_same : (terms : Terms) (h : Head) → is_status (status_digits h) ≡ true → accept_head terms.ring h ≡ whole_only_accept terms.ring h
unfolding accept_head head_question signing_string whole_only_accept whole_only_question whole_only_string
accept_same terms h s = rw (whole_signed h s)

head_same : (terms : Terms) (l : List ℕ) → (whole_only_fault terms l ≡ 4 → ⊥) → judge_head terms l ≡ whole_only_head terms l
unfolding judge_head whole_only_head
head_same terms l n = rw (same_fault terms l n) (by (whole_only_fault terms l) refl)
  where
    by : (k : ℕ) → whole_only_fault terms l ≡ k
        → unless_broken k (head_place l) (accept_head terms.ring (head_of l)) ≡ unless_broken k (head_place l) (whole_only_accept terms.ring (head_of l))
    by zero e = accept_same terms (head_of l) (good_status terms l e)
    by (suc k) e = refl

-- ---- chunk lines

-- no text begins with both: their fifth bytes differ
not_both : (e : List ℕ) → starts_with ouisig e ≡ true → starts_with ouihash e ≡ false
unfolding starts_with
not_both e h = by (starts_with ouihash e) refl
  where
    fifth : (n : ℕ) (t : List ℕ) → 4 < n → same t (take n e) ≡ true → get_or t 4 0 ≡ get_or e 4 0
    fifth n t k s = ap (λ (l : List ℕ). get_or l 4 0) (same_equal t (take n e) s) ∙ get_or-take n e 4 0 k

    by : (t : Bool) → starts_with ouihash e ≡ t → t ≡ false
    by true s = absurd (omega (arith, fifth 8 ouisig (omega arith) h, fifth 9 ouihash (omega arith) s))
    by false s = refl

-- what stood after the size may stand there now, a signature is one, and no hash is there
signed_now : (e : List ℕ) → is_signed e ≡ true
    → (is_extension e ≡ true) × (starts_with ouisig e ≡ leb 1 (length e)) × (starts_with ouihash e ≡ false)
unfolding is_signed is_extension starts_with same
signed_now [] h = (refl, refl, refl)
signed_now (b ∷ e) h =
    let k : (starts_with ouisig (b ∷ e) && is_base64 64 (drop (length ouisig) (b ∷ e))) ≡ true = rw (le-leb 1 (suc (length e)) (omega arith)) at h in
    let s : starts_with ouisig (b ∷ e) ≡ true = left_holds (starts_with ouisig (b ∷ e)) (is_base64 64 (drop (length ouisig) (b ∷ e))) k in
    (rw (le-leb 1 (suc (length e)) (omega arith), k), rw (le-leb 1 (suc (length e)) (omega arith)) s, not_both (b ∷ e) s)

-- so is a line
module _ (l : List ℕ) (good : is_whole_only_line l ≡ true) where
  after_size : is_signed (extension l) ≡ true
  unfolding is_whole_only_line
  after_size =
      right_holds (is_hex_number size_digits (size_text l)) (is_signed (extension l)) (right_holds (ends_with crlf l) _ good)

  good_now : is_chunk_line l ≡ true
  unfolding is_whole_only_line is_chunk_line
  good_now = rw (signed_now (extension l) after_size).0 (rw after_size at good)

  carries_same : carries_signature l ≡ carries_any l
  unfolding carries_signature carries_any
  carries_same = (signed_now (extension l) after_size).1

  no_hash : carries_hash l ≡ false
  unfolding carries_hash
  no_hash = (signed_now (extension l) after_size).2

-- the rules after 6 say the same, and none of them has a place
after_six : (a b c : Bool) (p q : ℕ) (v : Says)
    → unless_broken (first_broken (rule 8 a ∷ rule 8 true ∷ rule 7 b ∷ rule 7 true ∷ rule 9 c ∷ [])) p v
    ≡ unless_broken (first_broken (rule 8 a ∷ rule 7 b ∷ rule 9 c ∷ [])) q v
unfolding first_broken
after_six false b c p q v = refl
after_six true false c p q v = refl
after_six true true false p q v = refl
after_six true true true p q v = refl

line_same : (N : ℕ) (due full : Bool) (sofar : ℕ) (l : List ℕ) (v : Says) → is_whole_only_line l ≡ true
    → unless_broken (line_fault N whole due full sofar l) (line_place l) v ≡ unless_broken (whole_only_line_fault N due full sofar l) (whole_only_place l) v
unfolding line_fault line_rules whole_only_line_fault whole_only_line_rules is_hash_due is_within first_byte first_broken
line_same N due full sofar l v good =
    rw (good, good_now l good, carries_same l good, no_hash l good)
    (after_six (same_bool due (carries_any l)) (leb (chunk_size l) N && (full || eqb (chunk_size l) 0)) (leb (sofar + chunk_size l) body_limit) (line_place l) (whole_only_place l) v)

line_refused : (N : ℕ) (due full : Bool) (sofar : ℕ) (l : List ℕ) → is_whole_only_line l ≡ false → whole_only_line_fault N due full sofar l ≡ 6
unfolding whole_only_line_fault whole_only_line_rules first_broken
line_refused N due full sofar l bad = rw bad

-- ---- the sections

-- the refusals after which there may be more
abbrev is_lifted : LastWord → Bool
is_lifted (closed total) = false
is_lifted (complete total) = false
is_lifted (refused n place) = eqb n 4 || eqb n 6

-- the answer carries the whole show; before the head nothing is said of it
abbrev Whole : Context → Type 0
Whole head = Unit
Whole (first_line s) = range s ≡ whole
Whole (block_data s p n) = range s ≡ whole
Whole (data_end s p b) = range s ≡ whole
Whole (next_line s p b) = range s ≡ whole
Whole (trailer s p total) = range s ≡ whole

announced_whole : (s : Show) (p : Past) (total n : ℕ) → range s ≡ whole → Whole (announced s p total n)
announced_whole s p total zero w = w
announced_whole s p total (suc n) w = w

-- then what a good line leads to, and what is said at the end, is as it was
module _ (s : Show) (w : range s ≡ whole) where
  start_same : (l : List ℕ) → start_of s l ≡ nothing
  unfolding start_of start_from first_byte
  start_same l = rw w

  released_same : (p : Past) (b : List ℕ) → released_with s p b ≡ body_with s p b
  unfolding released_with first_byte
  released_same p b = rw w (omega arith)

  block_same : (p : Past) (b l : List ℕ) → accept_block s p b l ≡ whole_only_block s p b l
  unfolding accept_block whole_only_block
  block_same p b l = rw (released_same p b)

  first_same : (l : List ℕ) → is_whole_only_line l ≡ true → judge_first_line s l ≡ whole_only_first s l
  unfolding judge_first_line whole_only_first first_byte
  first_same l good = rw (w, start_same l) (line_same s.size false true 0 l (go (announced s nothing 0 (chunk_size l))) good)

  next_same : (p : Past) (b l : List ℕ) → is_whole_only_line l ≡ true → judge_next_line s p b l ≡ whole_only_next s p b l
  unfolding judge_next_line whole_only_next
  next_same p b l good =
      rw (w, block_same p b l) (line_same s.size true (eqb (length b) s.size) (body_with s p b) l (whole_only_block s p b l) good)

  end_same : (total : ℕ) (hash : List ℕ) (fs : List Field) → judge_end s total hash fs ≡ whole_only_end s total hash fs
  unfolding judge_end whole_only_end is_checked
  end_same total hash fs = rw (judge_end, w)

  trailer_same : (p : Past) (total : ℕ) (l : List ℕ) → judge_trailer s p total l ≡ whole_only_trailer s p total l
  unfolding judge_trailer whole_only_trailer
  trailer_same p total l = by (is_trailer l) refl
    where
      by : (t : Bool) → is_trailer l ≡ t → judge_trailer s p total l ≡ whole_only_trailer s p total l
      by true e = rw (judge_trailer, whole_only_trailer, e) (end_same total (sha256 p.body) (all_fields s.head l))
      by false e = rw (judge_trailer, whole_only_trailer, e)

module _ (terms : Terms) where
  abbrev AlikeIn : Context → List ℕ → Type 0
  AlikeIn c bs = Alike is_lifted (rules_whole_only terms) (rules terms) c bs

  -- ---- where they lead

  accept_leads : (ring : Ring) (h : Head) → is_status (status_digits h) ≡ true → Leads Whole (whole_only_accept ring h)
  unfolding whole_only_accept show_of
  accept_leads ring h s = whole_range h s

  head_leads : (l : List ℕ) (k : ℕ) → whole_only_fault terms l ≡ k → Leads Whole (unless_broken k (head_place l) (whole_only_accept terms.ring (head_of l)))
  head_leads l zero e = accept_leads terms.ring (head_of l) (good_status terms l e)
  head_leads l (suc k) e = tt

  end_leads : (s : Show) (total : ℕ) (hash : List ℕ) (fs : List Field) → Leads Whole (whole_only_end s total hash fs)
  unfolding whole_only_end
  end_leads s total hash fs = test_leads Whole (is_claimed fs) _ _ (unless_leads Whole (end_fault s.head fs total hash) 0 (ask (end_question s fs) (final (complete total))) tt) tt

  leads : (c : Context) → Whole c → (l : List ℕ) → Leads Whole (judge_whole_only terms c l)
  unfolding judge_whole_only whole_only_head whole_only_first judge_data_end whole_only_next whole_only_block whole_only_trailer
  leads head w l = head_leads l (whole_only_fault terms l) refl
  leads (first_line s) w l =
      unless_leads Whole (whole_only_line_fault s.size false true 0 l) (whole_only_place l) (go (announced s nothing 0 (chunk_size l)))
      (announced_whole s nothing 0 (chunk_size l) w)
  leads (block_data s p n) w l = w
  leads (data_end s p b) w l = test_leads Whole (same l crlf) _ _ w tt
  leads (next_line s p b) w l =
      unless_leads Whole (whole_only_line_fault s.size true (eqb (length b) s.size) (body_with s p b) l) (whole_only_place l) (whole_only_block s p b l)
      (announced_whole s (after p b) (body_with s p b) (chunk_size l) w)
  leads (trailer s p total) w l = test_leads Whole (is_trailer l) _ _ (end_leads s total (sha256 p.body) (all_fields s.head l)) tt

  -- ---- each is judged as it was, or was refused with 4 or 6

  here : (c : Context) (bs : List ℕ) (m : Cut) → cut (is_whole c) bs ≡ m → ((l : List ℕ) → judge terms c l ≡ judge_whole_only terms c l) → AlikeIn c bs
  unfolding rules
  here c bs uncut e j = neither e e
  here c bs (cut_at f r) e j = alike f r e e (j f)

  head_alike : (bs : List ℕ) (m : Cut) → cut (is_whole head) bs ≡ m → AlikeIn head bs
  unfolding rules judge judge_whole_only whole_only_head
  head_alike bs uncut e = neither e e
  head_alike bs (cut_at f r) e = by (eqb (whole_only_fault terms f) 4) refl
    where
      by : (t : Bool) → eqb (whole_only_fault terms f) 4 ≡ t → AlikeIn head bs
      by true x = stops f r (refused 4 0) e (rw (eqb-true (whole_only_fault terms f) 4 x)) refl
      by false x = alike f r e e (head_same terms f (λ four. true≢false (sym (eq-eqb (whole_only_fault terms f) 4 four) ∙ x)))

  -- a line, by its text
  line_alike : (c : Context) (bs : List ℕ) (m : Cut) → cut (is_whole c) bs ≡ m
      → ((l : List ℕ) → is_whole_only_line l ≡ true → judge terms c l ≡ judge_whole_only terms c l)
      → ((l : List ℕ) → is_whole_only_line l ≡ false → judge_whole_only terms c l ≡ stop (refused 6 (whole_only_place l))) → AlikeIn c bs
  unfolding rules
  line_alike c bs uncut e j k = neither e e
  line_alike c bs (cut_at f r) e j k = by (is_whole_only_line f) refl
    where
      by : (t : Bool) → is_whole_only_line f ≡ t → AlikeIn c bs
      by true x = alike f r e e (j f x)
      by false x = stops f r (refused 6 (whole_only_place f)) e (k f x) refl

  each_alike : (c : Context) → Whole c → (bs : List ℕ) → AlikeIn c bs
  unfolding judge judge_whole_only whole_only_first whole_only_next
  each_alike head w bs = head_alike bs _ refl
  each_alike (first_line s) w bs =
      line_alike (first_line s) bs _ refl (first_same s w) (λ l bad. rw (line_refused s.size false true 0 l bad))
  each_alike (block_data s p n) w bs = here (block_data s p n) bs _ refl (λ l. refl)
  each_alike (data_end s p b) w bs = here (data_end s p b) bs _ refl (λ l. refl)
  each_alike (next_line s p b) w bs =
      line_alike (next_line s p b) bs _ refl (next_same s w p b)
      (λ l bad. rw (line_refused s.size true (eqb (length b) s.size) (body_with s p b) l bad))
  each_alike (trailer s p total) w bs = here (trailer s p total) bs _ refl (trailer_same s w p total)

  -- THE EVENTS ARE KEPT up to a refusal with 4 or 6
  pub further_parts : (stream : List ℕ) (answers : List Bool) (told : Bool)
      → Further is_lifted (whole_only_reading terms stream answers told) (plain_reading terms stream answers told)
  unfolding plain_reading whole_only_reading rules
  further_parts stream answers told =
      reading_within is_lifted (rules_whole_only terms) (rules terms) refl refl Whole leads each_alike head tt stream answers told

-- ---- what follows

none_lifted : (log : StreamLog) → NeverRefused 4 log → NeverRefused 6 log → (at : ℕ) (word : LastWord) → is_lifted word ≡ true → Stands (at, last word) log → ⊥
none_lifted log four six at (closed total) t s = true≢false (sym t)
none_lifted log four six at (complete total) t s = true≢false (sym t)
none_lifted log four six at (refused n place) t s = by (eqb n 4) refl t
  where
    by : (a : Bool) → eqb n 4 ≡ a → (a || eqb n 6) ≡ true → ⊥
    by true e f = four at place (rw (eqb-true n 4 e) at s)
    by false e f = six at place (rw (eqb-true n 6 f) at s)

same_unless : (before now : StreamLog) → NeverRefused 4 before → NeverRefused 6 before → Further is_lifted before now → now ≡ before
same_unless before now four six (as_before e) = e
same_unless before now four six (onward front at word t e b) =
    absurd (none_lifted before four six at word t (record { before = front; after = []; joined = sym e }))

pub same_whole : SameWhole
same_whole terms stream answers told four six = same_unless _ _ four six (further_parts terms stream answers told)

pub none_lost_whole : NoneLostWhole
none_lost_whole terms stream answers told = begins_with is_lifted _ _ (further_parts terms stream answers told)
