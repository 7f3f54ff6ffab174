-- What is left, seen from the paper's side alone: after the head nothing goes into the head buffer, and no byte leaves no trace. Assumes nothing.
use mathlib.Core.Path.{◌≡◌, refl, sym, ◌∙◌}
use mathlib.Core.Bool.{Bool, true, false, true≢false}
use mathlib.Core.List.{List, [], ◌∷◌}
use Prim.Native.Nat.{ℕ, zero, suc}
use lib.Dec.{eqb}
use lib.ListN.{length}
use Rattle.sections.specs.Reading.{granted, final, go, tell, ask, stop, Cut, uncut, cut_at, cut}
use Rattle.sections.specs.Calls.{part}
use Rattle.sections.specs.Leaving.{after_verdict, out_of_bytes, after_section, after_sections, leaving}
use Rattle.stream.specs.Blocks.{chunk_size, line_fault}
use Rattle.stream.specs.Buffers.{Buffers, front, with_section, with_message, pending, with_last_word, effects, buffers_after, head_bytes}
use Rattle.stream.specs.Bytes.{same}
use Rattle.sha256.specs.Sha256.{sha256}
use Rattle.stream.specs.Ends.{all_fields, is_checked, end_fault}
use Rattle.stream.specs.Events.{LastWord, closed, complete, refused}
use Rattle.stream.specs.Head.{head_of, head_fault, is_whole_head}
use Rattle.stream.specs.Lines.{crlf, Field}
use Rattle.stream.specs.Range.{first_byte}
use Rattle.stream.specs.Places.{head_place, line_place, data_end_place, trailer_place}
use Rattle.stream.specs.Stream.{Show, range, Past, start_of, after, body_with, released_with, Context, head, first_line, block_data, data_end, next_line, trailer, is_whole, Says, announced, unless_broken, accept_head, accept_block, judge_head, judge_first_line, judge_data_end, judge_next_line, end_question, judge_end, judge_trailer, judge, rules}
use Rattle.stream.specs.Terms.{Terms}
use Rattle.stream.specs.Trailer.{is_trailer}

abbrev is_past : Context → Bool
is_past head = false
is_past (first_line s) = true
is_past (block_data s p n) = true
is_past (data_end s p d) = true
is_past (next_line s p d) = true
is_past (trailer s p total) = true

-- where a section leads, the head is past
abbrev Onward : Says → Type 0
Onward (go c) = is_past c ≡ true
Onward (tell e c) = is_past c ≡ true
Onward (ask q (granted e c)) = is_past c ≡ true
Onward (ask q (final w)) = Unit {0}
Onward (stop w) = Unit {0}

announced_past : (s : Show) (p : Past) (total n : ℕ) → is_past (announced s p total n) ≡ true
announced_past s p total zero = refl
announced_past s p total (suc n) = refl

unless_onward : (fault place : ℕ) (v : Says) → Onward v → Onward (unless_broken fault place v)
unless_onward zero place v h = h
unless_onward (suc n) place v h = tt

end_onward : (s : Show) (total : ℕ) (hash : List ℕ) (fs : List Field) → Onward (judge_end s total hash fs)
unfolding judge_end
end_onward s total hash fs = by (is_checked (range s) fs)
  where
    by : (t : Bool)
        → Onward
        (elim t [
          | true ↦ unless_broken (end_fault s.head fs total hash) 0 (ask (end_question s fs) (final (complete total)))
          | false ↦ stop (closed total)
        ])
    by true = unless_onward (end_fault s.head fs total hash) 0 (ask (end_question s fs) (final (complete total))) tt
    by false = tt

judge_onward : (terms : Terms) (c : Context) (l : List ℕ) → Onward (judge terms c l)
unfolding judge judge_head judge_first_line judge_data_end judge_next_line judge_trailer accept_head accept_block
judge_onward terms head l = unless_onward (head_fault terms l) (head_place l) (accept_head terms.ring (head_of l)) refl
judge_onward terms (first_line s) l =
    unless_onward (line_fault s.size (range s) false true (first_byte (range s)) l) (line_place l) (go (announced s (start_of s l) 0 (chunk_size l)))
    (announced_past s (start_of s l) 0 (chunk_size l))
judge_onward terms (block_data s p n) l = refl
judge_onward terms (data_end s p d) l = by (same l crlf)
  where
    by : (t : Bool) → Onward (elim t [ true ↦ go (next_line s p d) | false ↦ stop (refused 6 (data_end_place l)) ])
    by true = refl
    by false = tt
judge_onward terms (next_line s p d) l =
    unless_onward (line_fault s.size (range s) true (eqb (length d) s.size) (body_with s p d) l) (line_place l) (accept_block s p d l)
    (announced_past s (after p d) (released_with s p d) (chunk_size l))
judge_onward terms (trailer s p total) l = by (is_trailer l)
  where
    by : (t : Bool)
        → Onward
        (elim t [
          | true ↦ judge_end s total (sha256 p.body) (all_fields s.head l)
          | false ↦ stop (refused 6 (trailer_place l))
        ])
    by true = end_onward s total (sha256 p.body) (all_fields s.head l)
    by false = tt

-- ---- what changes the head buffer

finished_head : (c : Context) (l : List ℕ) (w : LastWord) (b : Buffers) → (with_last_word c l w b).head ≡ b.head
unfolding with_last_word
finished_head c l (closed total) b = refl
finished_head c l (complete total) b = refl
finished_head c l (refused n at) b = refl

gathered_head : (c : Context) (l : List ℕ) (b : Buffers) → is_past c ≡ true → (with_section c l b).head ≡ b.head
unfolding with_section
gathered_head head l b h = absurd (true≢false (sym h))
gathered_head (first_line s) l b h = refl
gathered_head (block_data s p n) l b h = refl
gathered_head (data_end s p d) l b h = refl
gathered_head (next_line s p d) l b h = refl
gathered_head (trailer s p total) l b h = refl

module _ (terms : Terms) where
  last_head : (c : Context) (l : List ℕ) (told : Bool) (b : Buffers) → (out_of_bytes (rules terms) effects c l told b).head ≡ b.head
  last_head c l true b = finished_head c l _ b
  last_head c l false b = refl

  abbrev Keeps : (Context → List Bool → Buffers → Buffers) → Type 0
  Keeps next = (c : Context) (ans : List Bool) (b : Buffers) → is_past c ≡ true → (next c ans b).head ≡ b.head

  verdict_head : (c : Context) (l : List ℕ) (v : Says) (ans : List Bool) (b : Buffers) (next : Context → List Bool → Buffers → Buffers) → Onward v → Keeps next
      → (after_verdict (rules terms) effects c l v ans b next).head ≡ b.head
  unfolding with_message
  verdict_head c l (go c') ans b next h k = k c' ans b h
  verdict_head c l (tell e c') ans b next h k = k c' ans b h
  verdict_head c l (ask q (granted e c')) [] b next h k = refl
  verdict_head c l (ask q (granted e c')) (true ∷ ans) b next h k = k c' ans (with_message q b) h
  verdict_head c l (ask q (granted e c')) (false ∷ ans) b next h k = finished_head c l _ (with_message q b)
  verdict_head c l (ask q (final w)) [] b next h k = refl
  verdict_head c l (ask q (final w)) (true ∷ ans) b next h k = finished_head c l w (with_message q b)
  verdict_head c l (ask q (final w)) (false ∷ ans) b next h k = finished_head c l _ (with_message q b)
  verdict_head c l (stop w) ans b next h k = finished_head c l w b

  sections_head : (k : ℕ) (c : Context) (bs : List ℕ) (ans : List Bool) (told : Bool) (b : Buffers) → is_past c ≡ true
      → (after_sections (rules terms) effects k c bs ans told b).head ≡ b.head
  unfolding after_sections rules
  sections_head zero c bs ans told b h = last_head c bs told _ ∙ gathered_head c bs b h
  sections_head (suc k) c bs ans told b h = by (cut (is_whole c) bs) (λ c' r ans' b' h'. sections_head k c' r ans' told b' h')
    where
      by : (m : Cut) → ((c' : Context) (r : List ℕ) (ans' : List Bool) (b' : Buffers) → is_past c' ≡ true → (after_sections (rules terms) effects k c' r ans' told b').head ≡ b'.head)
          → (after_section (rules terms) effects c bs ans told b m (λ c' r ans' b'. after_sections (rules terms) effects k c' r ans' told b')).head ≡ b.head
      by uncut ih = last_head c bs told _ ∙ gathered_head c bs b h
      by (cut_at f r) ih = verdict_head c f (judge terms c f) ans (with_section c f b) _ (judge_onward terms c f) (λ c' ans' b' h'. ih c' r ans' b' h') ∙ gathered_head c f b h

  -- THE HEAD BYTES lie at the front of the head buffer, and nothing else of it changes
  pub head_kept : (bs : List ℕ) (ans : List Bool) (told : Bool) (b : Buffers) → (buffers_after terms bs ans told b).head ≡ front (head_bytes bs) b.head
  unfolding buffers_after leaving after_sections rules with_section is_whole cut
  head_kept [] ans told b = last_head head [] told _
  head_kept (x ∷ bs) ans told b = by (cut is_whole_head (x ∷ bs))
    where
      by : (m : Cut)
          → (after_section (rules terms) effects head (x ∷ bs) ans told b m (λ c r ans' b'. after_sections (rules terms) effects (length bs) c r ans' told b')).head
          ≡ front (part (x ∷ bs) m) b.head
      by uncut = last_head head (x ∷ bs) told _
      by (cut_at f r) = verdict_head head f (judge terms head f) ans (with_section head f b) _ (judge_onward terms head f) (λ c ans' b' h. sections_head (length bs) c r ans' told b' h)

  -- NO BYTE, no change
  pub none_left : (ans : List Bool) (told : Bool) (b : Buffers) → buffers_after terms [] ans told b ≡ b
  unfolding buffers_after leaving after_sections rules with_section with_last_word pending
  none_left ans true b = refl
  none_left ans false b = refl
