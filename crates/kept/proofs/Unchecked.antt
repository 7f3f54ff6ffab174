-- THE END OF A SHOW is checked since request #101, and a stream is read as before up to a *closed*. Assumes nothing.
use mathlib.Core.Bool.{Bool, true, false, true≢false}
use mathlib.Core.List.{List, []}
use mathlib.Core.Path.{◌≡◌, refl, sym}
use Prim.Native.Nat.{ℕ}
use Rattle.sections.specs.Reading.{last, Cut, uncut, cut_at, cut}
use Rattle.stream.specs.Events.{LastWord, closed, complete, refused}
use Rattle.stream.specs.Stream.{Show, Past, Context, head, first_line, block_data, data_end, next_line, trailer, is_whole, judge, judge_trailer, rules, plain_reading}
use Rattle.stream.specs.Terms.{Terms}
use Rattle.stream.specs.Trailer.{is_trailer}
use Rattle.exactness.specs.Telling.{Stands}
use Rattle.kept.specs.Kept.{NeverClosed, SameUnclosed, NoneLostUnchecked}
use Rattle.kept.specs.Unchecked.{unchecked_trailer, judge_unchecked, rules_unchecked, unchecked_reading}
use Rattle.kept.proofs.Further.{StreamLog, Further, same, onward, Alike, neither, alike, stops, reading_further, begins_with}

-- the last word after which there may be more
abbrev is_closed : LastWord → Bool
is_closed (closed total) = true
is_closed (complete total) = false
is_closed (refused n place) = false

module _ (terms : Terms) where
  abbrev AlikeIn : Context → List ℕ → Type 0
  AlikeIn c bs = Alike is_closed (rules_unchecked terms) (rules terms) c bs

  -- every section but the trailer is judged the same
  here : (c : Context) (bs : List ℕ) (m : Cut) → cut (is_whole c) bs ≡ m → ((l : List ℕ) → judge terms c l ≡ judge_unchecked terms c l) → AlikeIn c bs
  unfolding rules
  here c bs uncut e j = neither e e
  here c bs (cut_at f r) e j = alike f r e e (j f)

  trailer_alike : (s : Show) (p : Past) (total : ℕ) (bs : List ℕ) (m : Cut) → cut (is_whole (trailer s p total)) bs ≡ m → AlikeIn (trailer s p total) bs
  unfolding rules judge judge_trailer judge_unchecked unchecked_trailer
  trailer_alike s p total bs uncut e = neither e e
  trailer_alike s p total bs (cut_at f r) e = by (is_trailer f) refl
    where
      by : (good : Bool) → is_trailer f ≡ good → AlikeIn (trailer s p total) bs
      by true x = stops f r (closed total) e (rw (unchecked_trailer, x)) refl
      by false x = alike f r e e (rw (judge_trailer, unchecked_trailer, x))

  each_alike : (c : Context) (bs : List ℕ) → AlikeIn c bs
  unfolding judge_unchecked
  each_alike head bs = here head bs _ refl (λ l. refl)
  each_alike (first_line s) bs = here (first_line s) bs _ refl (λ l. refl)
  each_alike (block_data s p n) bs = here (block_data s p n) bs _ refl (λ l. refl)
  each_alike (data_end s p b) bs = here (data_end s p b) bs _ refl (λ l. refl)
  each_alike (next_line s p b) bs = here (next_line s p b) bs _ refl (λ l. refl)
  each_alike (trailer s p total) bs = trailer_alike s p total bs _ refl

  -- THE EVENTS ARE KEPT up to a *closed*
  pub further_checked : (stream : List ℕ) (answers : List Bool) (told : Bool)
      → Further is_closed (unchecked_reading terms stream answers told) (plain_reading terms stream answers told)
  unfolding plain_reading unchecked_reading rules
  further_checked stream answers told = reading_further is_closed (rules_unchecked terms) (rules terms) refl refl each_alike head stream answers told

-- ---- what follows

never_closed : (before : StreamLog) → NeverClosed before → (at : ℕ) (word : LastWord) → is_closed word ≡ true → Stands (at, last word) before → ⊥
never_closed before never at (closed total) t s = never at total s
never_closed before never at (complete total) t s = true≢false (sym t)
never_closed before never at (refused n place) t s = true≢false (sym t)

same_unless : (before now : StreamLog) → NeverClosed before → Further is_closed before now → now ≡ before
same_unless before now never (same e) = e
same_unless before now never (onward front at word t e b) =
    absurd (never_closed before never at word t (record { before = front; after = []; joined = sym e }))

pub same_unclosed : SameUnclosed
same_unclosed terms stream answers told never = same_unless _ _ never (further_checked terms stream answers told)

pub none_lost_unchecked : NoneLostUnchecked
none_lost_unchecked terms stream answers told = begins_with is_closed _ _ (further_checked terms stream answers told)
