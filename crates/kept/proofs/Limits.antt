-- THE LIMITS OF HEADS AND TRAILERS: under limits that are no higher, a stream is read as it is now up to a refusal that a limit gives. Assumes
-- nothing.
use borrow.Author.Tests.{eqb-true, eq-eqb, leb-true, leb-false, le-leb, lt-leb}
use mathlib.Core.Bool.{Bool, true, false, ◌&&◌, ◌||◌, true≢false}
use mathlib.Core.List.{List, [], ◌∷◌}
use mathlib.Core.Path.{◌≡◌, refl, sym, ◌∙◌}
use Prim.Native.Nat.{ℕ, ◌≤◌, ◌<◌}
use native.Mathlib.Omega.{arith}
use lib.Dec.{eqb, leb}
use lib.ListN.{length, take}
use Rattle.sections.specs.Reading.{last, stop, Cut, uncut, cut_at, cut}
use Rattle.sections.proofs.Cuts.{NoneBelow, IsCut, cut_is, cut_at_lem, cut_none}
use Rattle.stream.specs.Events.{LastWord, closed, complete, refused, place_of}
use Rattle.stream.specs.Head.{ends_head, is_whole_head, head_of, text_rules, head_fault}
use Rattle.stream.specs.Limits.{head_limit, field_limit}
use Rattle.stream.specs.Places.{head_place, trailer_place}
use Rattle.stream.specs.Rule.{Rule, rule, first_broken}
use Rattle.stream.specs.Stream.{Show, Past, Context, head, first_line, block_data, data_end, next_line, trailer, is_whole, judge, judge_head, judge_trailer, rules, plain_reading}
use Rattle.stream.specs.Terms.{Terms}
use Rattle.stream.specs.Trailer.{ends_trailer, is_whole_trailer, is_trailer}
use Rattle.stream.proofs.PlaceCases.{unended_places}
use Rattle.stream.proofs.Truth.{left_fails, right_fails}
use Rattle.exactness.specs.Telling.{Stands}
use Rattle.exactness.proofs.Ends.{limited, none_short, none_front}
use Rattle.kept.specs.Kept.{NeverRefused, NeverRefusedAt, SameUnder, NoneLost, UnderThese}
use Rattle.kept.specs.OtherHeads.{judge_with}
use Rattle.kept.specs.OtherLimits.{SectionLimits, these_limits, is_whole_under, text_rules_under, fault_under, judge_head_under, rules_under, reading_under}
use Rattle.kept.proofs.Further.{StreamLog, Further, same, onward, Alike, neither, alike, stops, reading_further, begins_with}

-- ---- cuts by a test that holds less often

-- q holds only where p does
abbrev HoldsLess : (List ℕ → Bool) → (List ℕ → Bool) → Type 0
HoldsLess p q = (l : List ℕ) → p l ≡ false → q l ≡ false

none_cut : (p q : List ℕ → Bool) (bs : List ℕ) → HoldsLess p q → cut p bs ≡ uncut → cut q bs ≡ uncut
none_cut p q bs less e =
    let none : IsCut p bs uncut = rw e at (cut_is p bs) in
    cut_none q bs (λ n x y. less (take n bs) (none n x y))

-- p holds of what it cuts off, and of no shorter beginning
module _ (p : List ℕ → Bool) (bs f r : List ℕ) (e : cut p bs ≡ cut_at f r) where
  is_cut : IsCut p bs (cut_at f r)
  is_cut = rw e at (cut_is p bs)

  none_before : NoneBelow p f (length f)
  none_before = none_front p f r bs is_cut.0 is_cut.3

  -- and so it is cut off by q, where q holds of it
  same_cut : (q : List ℕ → Bool) → HoldsLess p q → q f ≡ true → cut q bs ≡ cut_at f r
  same_cut q less t = rw (← is_cut.0) (cut_at_lem q f r is_cut.1 t (λ n x y. less (take n f) (none_before n x y)))

-- what is cut off without its end has just the limit's length
cut_long : (ends : List ℕ → Bool) (limit : ℕ) (bs f r : List ℕ) → 0 < limit → cut (limited ends limit) bs ≡ cut_at f r → ends f ≡ false → length f ≡ limit
cut_long ends limit bs f r some e x =
    let over : leb limit (length f) ≡ true = rw x at (is_cut (limited ends limit) bs f r e).2 in
    omega (arith, leb-true limit (length f) over, none_short ends limit f some (none_before (limited ends limit) bs f r e))

-- a limit that is no lower
limit_less : (ends : List ℕ → Bool) (low high : ℕ) → low ≤ high → HoldsLess (limited ends low) (limited ends high)
limit_less ends low high h l e =
    let under : length l < low = leb-false low (length l) (right_fails (ends l) _ e) in
    rw (left_fails (ends l) _ e, lt-leb high (length l) (omega (arith, h, under)))

-- ---- the fault of a head

-- the first four rules have the number 3
fourth_broken : (a b c : Bool) (rs : List Rule) → first_broken (rule 3 a ∷ rule 3 b ∷ rule 3 c ∷ rule 3 false ∷ rs) ≡ 3
unfolding first_broken
fourth_broken false b c rs = refl
fourth_broken true false c rs = refl
fourth_broken true true false rs = refl
fourth_broken true true true rs = refl

-- ---- the sections

-- the refusals that limits give: 3, or 6 at a trailer's limit
abbrev is_lifted : SectionLimits → LastWord → Bool
is_lifted limits (closed total) = false
is_lifted limits (complete total) = false
is_lifted limits (refused n place) = eqb n 3 || (eqb n 6 && eqb place limits.bytes)

module _ (limits : SectionLimits) (terms : Terms) where
  unended_fault : (l : List ℕ) → ends_head l ≡ false → fault_under limits terms l ≡ 3
  unfolding fault_under text_rules_under text_rules first_broken
  unended_fault l e = rw e

  many_fault : (l : List ℕ) → leb (length (head_of l).fields) limits.fields ≡ false → fault_under limits terms l ≡ 3
  unfolding fault_under text_rules_under text_rules
  many_fault l e = rw e (fourth_broken _ _ _ _)

  few_fault : limits.fields ≤ field_limit → (l : List ℕ) → leb (length (head_of l).fields) limits.fields ≡ true
      → head_fault terms l ≡ fault_under limits terms l
  unfolding head_fault fault_under text_rules_under text_rules
  few_fault h l e =
      rw (e, le-leb (length (head_of l).fields) field_limit (omega (arith, h, leb-true (length (head_of l).fields) limits.fields e)))

  unended_trailer : (s : Show) (p : Past) (total : ℕ) (l : List ℕ) → ends_trailer l ≡ false
      → judge_trailer s p total l ≡ stop (refused 6 (trailer_place l))
  unfolding judge_trailer is_trailer
  unended_trailer s p total l e = rw (judge_trailer, is_trailer, e)

  -- a section that both cut off at the same place, and judge the same
  here : (lifted : LastWord → Bool) (c : Context) (bs : List ℕ) (m : Cut) → cut (is_whole_under limits c) bs ≡ m → cut (is_whole c) bs ≡ m
      → ((l : List ℕ) → judge terms c l ≡ judge_with (judge_head_under limits terms) c l) → Alike lifted (rules_under limits terms) (rules terms) c bs
  unfolding rules
  here lifted c bs uncut e d j = neither e d
  here lifted c bs (cut_at f r) e d j = alike f r e d (j f)

  abbrev AlikeIn : Context → List ℕ → Type 0
  AlikeIn c bs = Alike (is_lifted limits) (rules_under limits terms) (rules terms) c bs

  module _ (some : 0 < limits.bytes) (bytes : limits.bytes ≤ head_limit) (fields : limits.fields ≤ field_limit) where
    head_alike : (bs : List ℕ) (m : Cut) → cut (is_whole_under limits head) bs ≡ m → AlikeIn head bs
    unfolding rules is_whole is_whole_under is_whole_head judge judge_with judge_head judge_head_under
    head_alike bs uncut e = neither e (none_cut _ _ bs (limit_less ends_head limits.bytes head_limit bytes) e)
    head_alike bs (cut_at f r) e = by (ends_head f) refl (leb (length (head_of f).fields) limits.fields) refl
      where
        refused_here : fault_under limits terms f ≡ 3 → AlikeIn head bs
        refused_here three = stops f r (refused 3 (place_of 3 (head_place f))) e (rw three) refl

        by : (ended : Bool) → ends_head f ≡ ended → (few : Bool) → leb (length (head_of f).fields) limits.fields ≡ few → AlikeIn head bs
        by false x few y = refused_here (unended_fault f x)
        by true x false y = refused_here (many_fault f y)
        by true x true y =
            alike f r e (same_cut _ bs f r e _ (limit_less ends_head limits.bytes head_limit bytes) (rw x)) (rw (few_fault fields f y))

    trailer_alike : (s : Show) (p : Past) (total : ℕ) (bs : List ℕ) (m : Cut) → cut (is_whole_under limits (trailer s p total)) bs ≡ m
        → AlikeIn (trailer s p total) bs
    unfolding rules is_whole is_whole_under is_whole_trailer judge judge_with judge_trailer is_trailer
    trailer_alike s p total bs uncut e = neither e (none_cut _ _ bs (limit_less ends_trailer limits.bytes head_limit bytes) e)
    trailer_alike s p total bs (cut_at f r) e = by (ends_trailer f) refl
      where
        by : (ended : Bool) → ends_trailer f ≡ ended → AlikeIn (trailer s p total) bs
        by false x =
            let place : trailer_place f ≡ limits.bytes = (unended_places f).2 x ∙ cut_long ends_trailer limits.bytes bs f r some e x in
            stops f r (refused 6 (trailer_place f)) e (unended_trailer s p total f x) (eq-eqb (trailer_place f) limits.bytes place)
        by true x = alike f r e (same_cut _ bs f r e _ (limit_less ends_trailer limits.bytes head_limit bytes) (rw x)) refl

    each_alike : (c : Context) (bs : List ℕ) → AlikeIn c bs
    unfolding is_whole_under judge judge_with
    each_alike head bs = head_alike bs _ refl
    each_alike (first_line s) bs = here (is_lifted limits) (first_line s) bs _ refl refl (λ l. refl)
    each_alike (block_data s p n) bs = here (is_lifted limits) (block_data s p n) bs _ refl refl (λ l. refl)
    each_alike (data_end s p b) bs = here (is_lifted limits) (data_end s p b) bs _ refl refl (λ l. refl)
    each_alike (next_line s p b) bs = here (is_lifted limits) (next_line s p b) bs _ refl refl (λ l. refl)
    each_alike (trailer s p total) bs = trailer_alike s p total bs _ refl

    -- THE EVENTS ARE KEPT up to a refusal by a limit
    pub further_now : (stream : List ℕ) (answers : List Bool) (told : Bool)
        → Further (is_lifted limits) (reading_under limits terms stream answers told) (plain_reading terms stream answers told)
    unfolding plain_reading reading_under rules
    further_now stream answers told = reading_further (is_lifted limits) (rules_under limits terms) (rules terms) refl refl each_alike head stream answers told

-- ---- what follows

-- neither refusal that a limit gives is there
none_lifted : (limits : SectionLimits) (log : StreamLog) → NeverRefused 3 log → NeverRefusedAt 6 limits.bytes log
    → (word : LastWord) (at : ℕ) → is_lifted limits word ≡ true → Stands (at, last word) log → ⊥
none_lifted limits log three six (closed total) at t s = true≢false (sym t)
none_lifted limits log three six (complete total) at t s = true≢false (sym t)
none_lifted limits log three six (refused n place) at t s = by (eqb n 3) refl (eqb n 6) refl (eqb place limits.bytes) refl t
  where
    by : (a : Bool) → eqb n 3 ≡ a → (b : Bool) → eqb n 6 ≡ b → (c : Bool) → eqb place limits.bytes ≡ c → (a || (b && c)) ≡ true → ⊥
    by true e b f c g t = three at place (rw (eqb-true n 3 e) at s)
    by false e true f true g t = six at (rw (eqb-true n 6 f, eqb-true place limits.bytes g) at s)
    by false e true f false g t = true≢false (sym t)
    by false e false f c g t = true≢false (sym t)

-- what a log says of one that goes on from its refusal, if it has one
same_unless : (limits : SectionLimits) (before now : StreamLog) → NeverRefused 3 before → NeverRefusedAt 6 limits.bytes before
    → Further (is_lifted limits) before now → now ≡ before
same_unless limits before now three six (same e) = e
same_unless limits before now three six (onward front at word t e b) =
    absurd (none_lifted limits before three six word at t (record { before = front; after = []; joined = sym e }))

pub same_under : SameUnder
same_under limits some bytes fields terms stream answers told three six =
    same_unless limits _ _ three six (further_now limits terms some bytes fields stream answers told)

pub none_lost : NoneLost
none_lost limits some bytes fields terms stream answers told =
    begins_with (is_lifted limits) _ _ (further_now limits terms some bytes fields stream answers told)

-- the limits of now make it the plain reading
pub under_these : UnderThese
unfolding plain_reading reading_under rules is_whole is_whole_under is_whole_head is_whole_trailer judge judge_with judge_head judge_head_under head_fault fault_under text_rules_under text_rules
under_these terms stream answers told =
    by (reading_further (λ word. false) (rules_under these_limits terms) (rules terms) refl refl each head stream answers told)
  where
    each : (c : Context) (bs : List ℕ) → Alike (λ word. false) (rules_under these_limits terms) (rules terms) c bs
    each head bs = here these_limits terms (λ word. false) head bs _ refl refl (λ l. refl)
    each (first_line s) bs = here these_limits terms (λ word. false) (first_line s) bs _ refl refl (λ l. refl)
    each (block_data s p n) bs = here these_limits terms (λ word. false) (block_data s p n) bs _ refl refl (λ l. refl)
    each (data_end s p b) bs = here these_limits terms (λ word. false) (data_end s p b) bs _ refl refl (λ l. refl)
    each (next_line s p b) bs = here these_limits terms (λ word. false) (next_line s p b) bs _ refl refl (λ l. refl)
    each (trailer s p total) bs = here these_limits terms (λ word. false) (trailer s p total) bs _ refl refl (λ l. refl)

    by : Further (λ word. false) (reading_under these_limits terms stream answers told) (plain_reading terms stream answers told)
        → reading_under these_limits terms stream answers told ≡ plain_reading terms stream answers told
    by (same e) = sym e
    by (onward before at word t e b) = absurd (true≢false (sym t))
