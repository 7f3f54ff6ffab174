-- No section leads back to the head, so that two readings whose rules differ only there are one reading after it. Assumes nothing.
use mathlib.Core.Bool.{Bool, true, false}
use mathlib.Core.List.{List, [], ◌∷◌}
use mathlib.Core.Path.{◌≡◌, refl}
use Prim.Native.Nat.{ℕ, zero, suc, ◌+◌}
use lib.Dec.{eqb}
use lib.ListN.{length}
use Rattle.sections.specs.Reading.{Log, go, tell, ask, stop, Grant, granted, final, Cut, uncut, cut_at, cut, answered, judged, one_section, sections, reading_at, reading}
use Rattle.sections.proofs.Scans.{section_read}
use Rattle.stream.specs.Blocks.{line_fault, chunk_size}
use Rattle.stream.specs.Bytes.{same}
use Rattle.stream.specs.Ends.{all_fields, is_checked, end_fault}
use Rattle.stream.specs.Events.{Question, Release, LastWord, complete}
use Rattle.stream.specs.Head.{is_whole_head, head_of, head_fault}
use Rattle.stream.specs.Lines.{crlf, Field}
use Rattle.stream.specs.Places.{head_place, line_place}
use Rattle.stream.specs.Range.{first_byte}
use Rattle.stream.specs.Stream.{Show, range, Past, start_of, after, Context, head, first_line, block_data, data_end, next_line, trailer, is_whole, Says, announced, accept_head, accept_block, body_with, released_with, judge_head, judge_first_line, judge_data_end, judge_next_line, end_question, judge_end, judge_trailer, judge, rules, plain_reading}
use Rattle.stream.specs.Terms.{Terms}
use Rattle.stream.specs.Trailer.{is_trailer}
use Rattle.kept.specs.OtherHeads.{judge_with, rules_with, reading_with}
use Rattle.kept.proofs.Leads.{Leads, unless_leads, test_leads}

-- ---- where a section leads

-- any context but the head
abbrev Later : Context → Type 0
Later head = ⊥
Later (first_line s) = Unit
Later (block_data s p n) = Unit
Later (data_end s p b) = Unit
Later (next_line s p b) = Unit
Later (trailer s p total) = Unit

-- reading goes on there, if at all
abbrev LeadsOn : Says → Type 0
LeadsOn v = Leads Later v

announced_later : (s : Show) (p : Past) (total n : ℕ) → Later (announced s p total n)
announced_later s p total zero = tt
announced_later s p total (suc n) = tt

end_leads : (s : Show) (total : ℕ) (hash : List ℕ) (fs : List Field) → LeadsOn (judge_end s total hash fs)
unfolding judge_end
end_leads s total hash fs = test_leads Later (is_checked (range s) fs) _ _ (unless_leads Later (end_fault s.head fs total hash) 0 (ask (end_question s fs) (final (complete total))) tt) tt

judge_leads : (terms : Terms) (c : Context) (l : List ℕ) → LeadsOn (judge terms c l)
unfolding judge judge_head judge_first_line judge_data_end judge_next_line judge_trailer accept_head accept_block
judge_leads terms head l = unless_leads Later (head_fault terms l) (head_place l) (accept_head terms.ring (head_of l)) tt
judge_leads terms (first_line s) l =
    unless_leads Later (line_fault s.size (range s) false true (first_byte (range s)) l) (line_place l) (go (announced s (start_of s l) 0 (chunk_size l)))
    (announced_later s (start_of s l) 0 (chunk_size l))
judge_leads terms (block_data s p n) l = tt
judge_leads terms (data_end s p b) l = test_leads Later (same l crlf) _ _ tt tt
judge_leads terms (next_line s p b) l =
    unless_leads Later (line_fault s.size (range s) true (eqb (length b) s.size) (body_with s p b) l) (line_place l) (accept_block s p b l)
    (announced_later s (after p b) (released_with s p b) (chunk_size l))
judge_leads terms (trailer s p total) l = test_leads Later (is_trailer l) _ _ (end_leads s total _ (all_fields s.head l)) tt

-- ---- the two readings

judge_same : (terms : Terms) (other : List ℕ → Says) (c : Context) (l : List ℕ) → Later c → judge terms c l ≡ judge_with other c l
unfolding judge judge_with
judge_same terms other head l k = absurd k
judge_same terms other (first_line s) l k = refl
judge_same terms other (block_data s p n) l k = refl
judge_same terms other (data_end s p b) l k = refl
judge_same terms other (next_line s p b) l k = refl
judge_same terms other (trailer s p total) l k = refl

module _ (terms : Terms) (other : List ℕ → Says) where
  abbrev Next : Type 0
  Next = Context → List Bool → Log Question Release LastWord

  -- two ways to read the rest that are the same after the head
  abbrev SameNext : Next → Next → Type 0
  SameNext next next' = (c : Context) (answers : List Bool) → Later c → next c answers ≡ next' c answers

  answered_same : (q : Question) (y : Grant Context Release LastWord) (at : ℕ) (answers : List Bool) (next next' : Next) → LeadsOn (ask q y)
      → SameNext next next' → answered (rules terms) y at answers next ≡ answered (rules_with other) y at answers next'
  unfolding rules
  answered_same q y at [] next next' k same = refl
  answered_same q (granted e c) at (true ∷ answers) next next' k same = rw (same c answers k)
  answered_same q (final l) at (true ∷ answers) next next' k same = refl
  answered_same q y at (false ∷ answers) next next' k same = refl

  judged_same : (v : Says) (at : ℕ) (answers : List Bool) (next next' : Next) → LeadsOn v → SameNext next next'
      → judged (rules terms) v at answers next ≡ judged (rules_with other) v at answers next'
  judged_same (go c) at answers next next' k same = same c answers k
  judged_same (tell e c) at answers next next' k same = rw (same c answers k)
  judged_same (ask q y) at answers next next' k same = rw (answered_same q y at answers next next' k same)
  judged_same (stop l) at answers next next' k same = refl

  -- at most k sections from that context are read the same
  abbrev SameFrom : ℕ → Context → Type 0
  SameFrom k c =
      (at : ℕ) (bs : List ℕ) (answers : List Bool) (told : Bool)
      → sections (rules terms) k c at bs answers told ≡ sections (rules_with other) k c at bs answers told

  section_same : (k : ℕ) (c : Context) (at : ℕ) (bs : List ℕ) (answers : List Bool) (told : Bool) (m : Cut)
      → ((f r : List ℕ) → m ≡ cut_at f r → judge terms c f ≡ judge_with other c f) → ((c' : Context) → Later c' → SameFrom k c')
      → one_section (rules terms) c at bs answers told m (λ c' at' r answers'. sections (rules terms) k c' at' r answers' told)
      ≡ one_section (rules_with other) c at bs answers told m (λ c' at' r answers'. sections (rules_with other) k c' at' r answers' told)
  unfolding rules
  section_same k c at bs answers told uncut here rest = refl
  section_same k c at bs answers told (cut_at f r) here rest =
      rw (← here f r refl)
      (judged_same (judge terms c f) (at + length f) answers _ _ (judge_leads terms c f) (λ c' answers' later. rest c' later (at + length f) r answers' told))

  -- all is read the same where the first section is judged the same
  sections_same : (k : ℕ) (c : Context) (at : ℕ) (bs : List ℕ) (answers : List Bool) (told : Bool)
      → ((f r : List ℕ) → cut (is_whole c) bs ≡ cut_at f r → judge terms c f ≡ judge_with other c f)
      → sections (rules terms) k c at bs answers told ≡ sections (rules_with other) k c at bs answers told
  unfolding sections rules
  sections_same zero c at bs answers told here = refl
  sections_same (suc k) c at bs answers told here =
      section_same k c at bs answers told (cut (is_whole c) bs) here
      (λ c' later at' r answers' told'. sections_same k c' at' r answers' told' (λ f r' e. judge_same terms other c' f later))

  -- THE READING IS THE SAME where the stream's head is judged the same
  pub reading_same : (stream : List ℕ) (answers : List Bool) (told : Bool)
      → ((l r : List ℕ) → cut is_whole_head stream ≡ cut_at l r → judge_head terms l ≡ other l)
      → plain_reading terms stream answers told ≡ reading_with other stream answers told
  unfolding plain_reading reading_with reading reading_at is_whole judge judge_with
  reading_same stream answers told here = sections_same (length stream) head 0 stream answers told here

-- ---- the reading by its head

-- what the head says, and the reading of what comes after it; where the stream has no whole head, the end only
abbrev pub from_head : (List ℕ → Says) → List ℕ → List Bool → Bool → Cut → Log Question Release LastWord
from_head other stream answers told m =
    one_section (rules_with other) head 0 stream answers told m (λ c at r answers'. reading_at (rules_with other) c at r answers' told)

pub from_head_lem : (other : List ℕ → Says) (stream : List ℕ) (answers : List Bool) (told : Bool)
    → reading_with other stream answers told ≡ from_head other stream answers told (cut is_whole_head stream)
unfolding reading_with reading is_whole
from_head_lem other stream answers told = section_read (rules_with other) head 0 stream answers told

-- with the judge of now it is the plain reading
pub with_this_judge : (terms : Terms) (stream : List ℕ) (answers : List Bool) (told : Bool)
    → plain_reading terms stream answers told ≡ reading_with (judge_head terms) stream answers told
with_this_judge terms stream answers told = reading_same terms (judge_head terms) stream answers told (λ l r e. refl)
