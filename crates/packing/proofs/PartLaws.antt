-- Laws on numbers and runs of bytes in a buffer: turns of the loops that read and write them, and what is read back. Assumes nothing.
use mathlib.Core.Path.{◌≡◌, refl, sym, ap, ◌∙◌}
use mathlib.Core.Logic.{⊎_elim}
use mathlib.Core.List.{List, [], ◌∷◌, ◌++◌, append_assoc}
use Prim.Native.Nat.{ℕ, zero, suc, ◌+◌, ◌*◌, ◌/◌, ◌%◌, ◌^◌, ◌≤◌, ◌<◌}
use native.Mathlib.Nat.{pow-suc, add-zero, suc-add, add-suc, eq-or-lt_of_le, le_of_suc-le-suc}
use native.Mathlib.Numerals.{add-one}
use native.Mathlib.Omega.{arith}
use lib.ListN.{length, get_or, set, take, drop, replicate, length-append, length-take, length-replicate, take-append-drop, drop_of_length-le, get_or-append}
use lib.Seq.{paste, paste-zero, sets, sets-eq, length-sets, drop-cons, drop-drop, drop_at, set_out, get_or_at, get_or-drop, ext_get_or}
use Rattle.std.proofs.lemmas.Bool.{cases_lt}
use Rattle.std.proofs.lemmas.Grind.{common_steps}
use Rattle.std.specs.Int.{w64, to_le_bytes, from_le_bytes}
use Rattle.places.specs.Writing.{placed, room, wrote}
use Rattle.places.proofs.WritingLaws.{bytes_are, same_size}
use Rattle.packing.specs.Parts.{little_endian, all_bytes, number, up_to, part, number_at, words_at}

-- ---- a list of f's values

pub long_up_to : {A : Type 0} (f : ℕ → A) (n : ℕ) → length (up_to f n) ≡ n
unfolding up_to
long_up_to f zero = refl
long_up_to f (suc n) = length-append (up_to f n) _ ∙ (rw (long_up_to f n) (add-one n))

pub at_up_to : {A : Type 0} (f : ℕ → A) (n i : ℕ) (d : A) → i < n → get_or (up_to f n) i d ≡ f i
unfolding up_to
at_up_to f zero i d h = absurd (omega arith)
at_up_to f (suc n) i d h =
    ⊎_elim (λ e. get_or_at (up_to f n) (f n) [] d i (long_up_to f n ∙ sym e) ∙ ap f (sym e))
    (λ l. get_or-append (up_to f n) _ d i (omega (arith, long_up_to f n)) ∙ at_up_to f n i d l)
    (eq-or-lt_of_le (le_of_suc-le-suc h))

-- a list that has them is that list
pub filled : {A : Type 0} (f : ℕ → A) (n : ℕ) (d : A) (l : List A) → length l ≡ n → ((i : ℕ) → i < n → get_or l i d ≡ f i) → l ≡ up_to f n
filled f n d l e h =
    ext_get_or d l (up_to f n) (e ∙ sym (long_up_to f n)) (λ i k. h i (omega (arith, e)) ∙ sym (at_up_to f n i d (omega (arith, e))))

-- ---- one run of bytes after another

pub sets_append : (l s t : List ℕ) (at : ℕ) → sets l at (s ++ t) ≡ sets (sets l at s) (at + length s) t
sets_append l [] t at = rw (add-zero at)
sets_append l (x ∷ s) t at = sets_append (set l at x) s t (suc at) ∙ (rw (suc-add at (length s), ← add-suc at (length s)))

pub long_bytes : (k n : ℕ) → length (little_endian k n) ≡ k
unfolding little_endian
long_bytes zero n = refl
long_bytes (suc k) n = ap suc (long_bytes k (n / 256))

pub long_all : (ns : List ℕ) → length (all_bytes ns) ≡ 8 * length ns
unfolding all_bytes
long_all [] = refl
long_all (n ∷ ns) = length-append (little_endian 8 n) (all_bytes ns) ∙ (rw (long_bytes 8 n, long_all ns) (omega arith))

-- bytes past the end are not written
sets_out : (l s : List ℕ) (k : ℕ) → length l ≤ k → sets l k s ≡ l
sets_out l [] k h = refl
sets_out l (x ∷ s) k h = rw (set_out l k x h) (sets_out l s (suc k) (omega arith))

-- what `put` writes
module _ (l s : List ℕ) (at : ℕ) where
  abbrev some : List ℕ
  some = take (room l at s) s

  long_some : length some ≡ room l at s
  long_some = omega (arith, length-take (room l at s) s)

  sets_some : sets l at s ≡ sets l at some
  sets_some =
      let h : room l at s ≤ length s = omega arith in
      ap (sets l at) (sym (take-append-drop (room l at s) s))
      ∙ sets_append l some (drop (room l at s) s) at
      ∙ ⊎_elim
      (λ e. rw (drop_of_length-le s {i = room l at s} (omega (arith, e))))
      (λ k. sets_out (sets l at some) (drop (room l at s) s) (at + length some) (omega (arith, k, long_some, length-sets l at some)))
      (eq-or-lt_of_le h)

  sets_paste : sets l at s ≡ paste l at s (room l at s)
  sets_paste =
      sets_some
      ∙ ⊎_elim
      (λ (k : length l < at + room l at s). let z : room l at s ≡ 0 = omega (arith, k) in rw z (paste-zero l at s))
      (λ (e : at + room l at s ≤ length l). sets-eq some l at (omega (arith, e, long_some)) ∙ rw long_some)
      (cases_lt (length l) (at + room l at s))

  pub sets_put : (r : List ℕ) (n : ℕ) → placed n r ≡ wrote l at s → r ≡ sets l at s
  sets_put r n e = bytes_are l at s n r e ∙ sym sets_paste

-- a part, written over zeros
pub part_put : (l s r : List ℕ) (at n m : ℕ) → s ≡ drop at l → placed m r ≡ wrote (replicate n 0) 0 s → r ≡ part l at n
part_put l s r at n m h e =
    let b = bytes_are (replicate n 0) 0 s m r e in
    filled (λ i. get_or l (at + i) 0) n 0 r
    (same_size (replicate n 0) 0 s m r e ∙ length-replicate n 0)
    (λ i k. rw (b, h) (grind (arith, common_steps)))

pub part_none : (l : List ℕ) (at n : ℕ) → length l < at → replicate n 0 ≡ part l at n
part_none l at n h = filled (λ i. get_or l (at + i) 0) n 0 (replicate n 0) (length-replicate n 0) (λ i k. grind (arith, common_steps))

pub little_endian_is : (n : ℕ) → to_le_bytes w64 n ≡ little_endian 8 n
unfolding little_endian
little_endian_is n = grind arith

pub number_is : (l : List ℕ) (at : ℕ) → from_le_bytes w64 (part l at 8) ≡ number_at l at
unfolding number number_at up_to
number_is l at = simp add-zero (omega arith)

-- a loop that writes numbers: a turn, and its end
pub numbers_turn : (ns l m : List ℕ) (at i : ℕ) → i < length ns → m ≡ sets l (at + 8 * i) (little_endian 8 (get_or ns i 0)) → sets l (at + 8 * i) (all_bytes (drop i ns)) ≡ sets m (at + 8 * (i + 1)) (all_bytes (drop (i + 1) ns))
unfolding all_bytes
numbers_turn ns l m at i h e =
    let k : at + 8 * i + 8 ≡ at + 8 * suc i = omega arith in
    rw (e, drop-cons ns i 0 h, add-one i) (sets_append l (little_endian 8 (get_or ns i 0)) (all_bytes (drop (suc i) ns)) (at + 8 * i) ∙ (rw (long_bytes 8 (get_or ns i 0), k)))

pub numbers_end : (ns l : List ℕ) (at i : ℕ) → length ns ≤ i → sets l (at + 8 * i) (all_bytes (drop i ns)) ≡ l
unfolding all_bytes
numbers_end ns l at i h = rw (drop_of_length-le ns {i = i} h)

-- a run after another, which ends at the place k
pub sets_next : (d l m p s : List ℕ) (at n k : ℕ) → l ≡ sets d at p → length p ≡ n → at + n ≡ k → m ≡ sets l k s → m ≡ sets d at (p ++ s)
sets_next d l m p s at n k e h g f =
    let j : at + length p ≡ k = omega arith in
    f ∙ ap (λ (x : List ℕ). sets x k s) e ∙ sym (sets_append d p s at ∙ (rw j))

pub long_next : (p s : List ℕ) (n k m : ℕ) → length p ≡ n → length s ≡ k → n + k ≡ m → length (p ++ s) ≡ m
long_next p s n k m e f g = length-append p s ∙ (rw (e, f, g))

-- ---- read back

-- the number of a number's bytes
pub number_back : (k n : ℕ) → n < 256 ^ k → number (little_endian k n) ≡ n
unfolding number little_endian
number_back zero n h = omega (arith, h)
number_back (suc k) n h =
    let i : n / 256 < 256 ^ k = omega (arith, rw (pow-suc 256 k) at h) in
    rw (number_back k (n / 256) i) (omega arith)

unfoldable pub concat : List (List ℕ) → List ℕ
concat [] = []
concat (s ∷ ss) = s ++ concat ss

-- from the place n on, the list has these parts
pub record At (whole : List ℕ) (n : ℕ) (parts : List (List ℕ)) : Type 0 where
  pub there : drop n whole ≡ concat parts

pub past : {whole : List ℕ} {n : ℕ} {s : List ℕ} {ss : List (List ℕ)} → At whole n (s ∷ ss) → (k : ℕ) → length s ≡ k → At whole (n + k) ss
unfolding concat
past {whole} {n} {s} {ss} e k h =
    record { there = sym (drop-drop k n whole) ∙ ap (λ (l : List ℕ). drop k l) e.there ∙ drop_at s (concat ss) k h }

pub part_there : {whole : List ℕ} {n : ℕ} {s : List ℕ} {ss : List (List ℕ)} → At whole n (s ∷ ss) → (k : ℕ) → length s ≡ k → part whole n k ≡ s
unfolding concat
part_there {whole} {n} {s} {ss} e k h =
    ext_get_or 0 (part whole n k) s (long_up_to _ k ∙ sym h)
    (λ i j. at_up_to (λ i. get_or whole (n + i) 0) k i 0 (omega (arith, long_up_to (λ i. get_or whole (n + i) 0) k)) ∙ sym (get_or-drop n whole i 0) ∙ ap (λ (l : List ℕ). get_or l i 0) e.there ∙ get_or-append s (concat ss) 0 i (omega (arith, long_up_to (λ i. get_or whole (n + i) 0) k)))

pub number_there : {whole : List ℕ} {n : ℕ} {ss : List (List ℕ)} → (x : ℕ) → At whole n (little_endian 8 x ∷ ss) → x < 2 ^ 64 → number_at whole n ≡ x
unfolding number_at
number_there x e h = rw (part_there e 8 (long_bytes 8 x)) (number_back 8 x h)

-- numbers of 8 bytes each: those from the number i on
all_from : (ns rest : List ℕ) (i : ℕ) → i < length ns → drop (8 * i) (all_bytes ns ++ rest) ≡ little_endian 8 (get_or ns i 0) ++ (all_bytes (drop (suc i) ns) ++ rest)
unfolding all_bytes
all_from [] rest i h = absurd (omega arith)
all_from (n ∷ ns) rest zero h = append_assoc (little_endian 8 n) (all_bytes ns) rest
all_from (n ∷ ns) rest (suc i) h =
    let e : 8 * suc i ≡ 8 + 8 * i = omega arith in
    rw (e, ← drop-drop (8 * i) 8 (little_endian 8 n ++ all_bytes ns ++ rest), append_assoc (little_endian 8 n) (all_bytes ns) rest, drop_at (little_endian 8 n) (all_bytes ns ++ rest) 8 (long_bytes 8 n))
    (all_from ns rest i (le_of_suc-le-suc h))

-- words: each is below 2 ^ 32, as every word in code is
pub data Words : List ℕ → Type 0 where
  none : Words []
  more : {w : ℕ} {ws : List ℕ} → w < 2 ^ 32 → Words ws → Words (w ∷ ws)

word_small : {ws : List ℕ} → Words ws → (i : ℕ) → i < length ws → get_or ws i 0 < 2 ^ 32
word_small none i h = absurd (omega arith)
word_small (more s ss) zero h = s
word_small (more s ss) (suc i) h = word_small ss i (le_of_suc-le-suc h)

module _ {whole : List ℕ} {n : ℕ} {ss : List (List ℕ)} (ws : List ℕ) (e : At whole n (all_bytes ws ∷ ss)) where
  all_there : (i : ℕ) → i < length ws → At whole (n + 8 * i) (little_endian 8 (get_or ws i 0) ∷ all_bytes (drop (suc i) ws) ∷ ss)
  unfolding concat
  all_there i h =
      record { there = sym (drop-drop (8 * i) n whole) ∙ ap (λ (l : List ℕ). drop (8 * i) l) e.there ∙ all_from ws (concat ss) i h }

  abbrev word_at : ℕ → ℕ
  word_at i = number_at whole (n + 8 * i) % 4294967296

  -- words are read back
  pub words_there : (k : ℕ) → length ws ≡ k → Words ws → words_at whole n k ≡ ws
  words_there k g small =
      ext_get_or 0 (words_at whole n k) ws (long_up_to _ k ∙ sym g) (λ i h. at i (omega (arith, long_up_to word_at k)))
    where
      at : (i : ℕ) → i < length ws → get_or (words_at whole n k) i 0 ≡ get_or ws i 0
      at i h =
          let b = word_small small i h in
          let m : get_or ws i 0 % 4294967296 ≡ get_or ws i 0 = omega (arith, b) in
          at_up_to word_at k i 0 (omega arith) ∙ ap (λ (x : ℕ). x % 4294967296) (number_there (get_or ws i 0) (all_there i h) (omega (arith, b))) ∙ m
