-- What the functions make of a midstate, held to its definition.
-- Assumes nothing.
use Rattle.std.proofs.Common.{◌≡◌, ℕ, ◌+◌, ◌-◌, ◌*◌, ◌/◌, ◌%◌, ◌^◌, ◌<◌, ◌≤◌, List, ◌++◌, length, take, drop, sym, ap, ◌∙◌, ap₂, append_assoc, arith, length-append, length-drop, take-append-drop, length-take-le, take_all}
use native.Mathlib.Nat.{sub-zero, mod-mod}
use lib.Seq.{paste, take-length, drop-append-add}
use Rattle.hash.specs.Sha2.{zeros, hashed, blocks, left, finished}
use Rattle.hash.specs.Parts.{written, last_blocks, last_hashed}
use Rattle.hash.proofs.LastLaws.{hashed_add, hashed_front, closed, blank, written_blank, both_written}
use Rattle.places.specs.Writing.{placed, room, wrote}
use Rattle.places.proofs.WritingLaws.{bytes_are, same_size}
use Rattle.sha256.specs.Sha256.{variant}
use Rattle.sha256.specs.Midstate.{pending, filled, added, summed}
use Rattle.sha256.specs.declared.Midstate.{Midstate}

pub long_left : (p : List ℕ) → length (left variant p) ≡ length p % 64
long_left p = omega (arith, length-drop (blocks variant p * 64) p)

-- bytes put where there is room for them
put_fits : (d l b : List ℕ) (at n : ℕ) → at + length l ≤ length d → placed n b ≡ wrote d at l → b ≡ written d at l
put_fits d l b at n h e =
    let r : room d at l ≡ length l = omega arith in
    bytes_are d at l n b e ∙ ap (paste d at l) r ∙ rw (take-length l)

-- bytes put as far as there is room
put_some : (d l b : List ℕ) (at n k : ℕ) → length d ≡ at + k → k ≤ length l → placed n b ≡ wrote d at l → b ≡ paste d at l k
put_some d l b at n k h j e =
    let r : room d at l ≡ k = omega arith in
    bytes_are d at l n b e ∙ ap (paste d at l) r

-- n bytes wait in `rest`, and the bytes b come
module _ (n : ℕ) (rest b : List ℕ) (l : length rest ≡ 64) (k : n < 64) where
  abbrev all : List ℕ
  all = take n rest ++ b

  long_held : length (take n rest) ≡ n
  long_held = length-take-le n rest (omega arith)

  long_all : length all ≡ n + length b
  long_all = omega (arith, length-append (take n rest) b, long_held)

  close_none : (s : List ℕ) → n ≡ 0 → s ≡ hashed variant ((n + 63) / 64) all s
  unfolding hashed
  close_none s e =
      let z : (n + 63) / 64 ≡ 0 = omega arith in
      sym (ap (λ (i : ℕ). hashed variant i all s) z)

  close_one : (t s : List ℕ) → 0 < n → 64 ≤ n + length b → t ≡ paste rest n b (64 - n) → hashed variant 1 t s ≡ hashed variant ((n + 63) / 64) all s
  close_one t s h j e =
      let q = take n rest ++ take (64 - n) b in
      let o : (n + 63) / 64 ≡ 1 = omega arith in
      let lt : length (take (64 - n) b) ≡ 64 - n = length-take-le (64 - n) b (omega arith) in
      let lq : 64 ≤ length q = omega (arith, length-append (take n rest) (take (64 - n) b), long_held) in
      let f : all ≡ q ++ drop (64 - n) b = ap (λ (x : List ℕ). take n rest ++ x) (sym (take-append-drop (64 - n) b)) ∙ sym (append_assoc (take n rest) (take (64 - n) b) (drop (64 - n) b)) in
      ap (λ (x : List ℕ). hashed variant 1 x s) e
      ∙ hashed_front variant 1 q (drop (n + (64 - n)) rest) s lq
      ∙ sym (hashed_front variant 1 q (drop (64 - n) b) s lq)
      ∙ ap₂ (λ (i : ℕ) (x : List ℕ). hashed variant i x s) (sym o) (sym f)

  -- a block that stays open
  module _ (h : n + length b < 64) where
    none : blocks variant all ≡ 0
    none = omega (arith, long_all)

    keep_words : (s : List ℕ) → s ≡ hashed variant (blocks variant all) all s
    unfolding hashed
    keep_words s = sym (ap (λ (i : ℕ). hashed variant i all s) none)

    keep_rest : (t u : List ℕ) → t ≡ written (blank 64) 0 (take n rest) → u ≡ written t n b → u ≡ filled (left variant all)
    keep_rest t u e f =
        both_written 64 n (take n rest) b t u long_held (omega arith) e f ∙ sym (ap (λ (i : ℕ). filled (drop (i * 64) all)) none)

  drop_all : (i : ℕ) → drop (n + i) all ≡ drop i b
  drop_all i = ap (λ (j : ℕ). drop (j + i) all) (sym long_held) ∙ drop-append-add (take n rest) b i

  -- the block that waits, and those after it
  module _ (from whole : ℕ) (ef : from ≡ (64 - n) % 64) (ew : whole ≡ (length b - from) / 64) (h : 64 ≤ n + length b) where
    first : (n + 63) / 64 * 64 ≡ n + from
    first = omega arith

    count : blocks variant all ≡ (n + 63) / 64 + whole
    count = omega (arith, long_all, first)

    pass_words : (f g s : List ℕ) → f ≡ hashed variant ((n + 63) / 64) all s → g ≡ hashed variant whole (drop from b) f → g ≡ hashed variant (blocks variant all) all s
    pass_words f g s e d =
        let x : drop ((n + 63) / 64 * 64) all ≡ drop from b = ap (λ (i : ℕ). drop i all) first ∙ drop_all from in
        d ∙ ap₂ (λ (y z : List ℕ). hashed variant whole y z) (sym x) e
        ∙ sym (hashed_add variant ((n + 63) / 64) whole all s) ∙ ap (λ (i : ℕ). hashed variant i all s) (sym count)

    pass_rest : (t : List ℕ) (end : ℕ) → end ≡ from + whole * 64 → t ≡ written (blank 64) 0 (drop end b) → t ≡ filled (left variant all)
    pass_rest t end e d =
        let m : blocks variant all * 64 ≡ n + end = omega (arith, count, first) in
        let x : drop end b ≡ left variant all = sym (ap (λ (i : ℕ). drop i all) m ∙ drop_all end) in
        written_blank 64 (left variant all) t (omega (arith, long_left all)) (d ∙ ap (λ (y : List ℕ). written (blank 64) 0 y) x)

-- the three parts together, where n of the midstate's bytes wait
module _ (h : Midstate) (b : List ℕ) (n : ℕ) (l : length h.rest ≡ 64) (e : n ≡ h.count % 64) where
  made : (w r : List ℕ) (c : ℕ) → w ≡ hashed variant (blocks variant (take n h.rest ++ b)) (take n h.rest ++ b) h.words → r ≡ filled (left variant (take n h.rest ++ b)) → c ≡ (h.count + length b) % 2 ^ 64 → record { words = w; rest = r; count = c } ≡ added h b
  unfolding added
  made w r c ew er ec =
      together (ew ∙ ap (λ (i : ℕ). hashed variant (blocks variant (take i h.rest ++ b)) (take i h.rest ++ b) h.words) e) (er ∙ ap (λ (i : ℕ). filled (left variant (take i h.rest ++ b))) e) ec
    where
      together : {w x r t : List ℕ} {i j : ℕ} → w ≡ x → r ≡ t → i ≡ j → ◌≡◌ {A = Midstate} (record { words = w; rest = r; count = i }) (record { words = x; rest = t; count = j })
      together f g k = rw (f, g, k)

  below : n < 64
  below = omega arith

  pub keep_is : (t u : List ℕ) (i j c : ℕ) → h.count % 64 + length b < 64 → placed i t ≡ wrote (blank 64) 0 (take (n - 0) h.rest) → placed j u ≡ wrote t n b → c ≡ (h.count + length b) % 2 ^ 64 → record { words = h.words; rest = u; count = c } ≡ added h b
  keep_is t u i j c k et eu ec =
      let q = take n h.rest in
      let m : n + length b < 64 = omega arith in
      let lq : length q ≡ n = length-take-le n h.rest (omega arith) in
      let ft : t ≡ written (blank 64) 0 q = put_fits (blank 64) q t 0 i (omega arith) (et ∙ ap (λ (x : ℕ). wrote (blank 64) 0 (take x h.rest)) (sub-zero n)) in
      let lt : length t ≡ 64 = same_size (blank 64) 0 (take (n - 0) h.rest) i t et in
      made h.words u c (keep_words n h.rest b l below m h.words) (keep_rest n h.rest b l below m t u ft (put_fits t b u n j (omega arith) eu)) ec

  pub close_is : (t : List ℕ) (i : ℕ) → (n ≡ 0 → ⊥) → 64 ≤ h.count % 64 + length b → placed i t ≡ wrote h.rest n b → length t ≡ 64 → hashed variant (blocks variant t) t h.words ≡ hashed variant ((h.count % 64 + 63) / 64) (pending h ++ b) h.words
  close_is t i z k et lt =
      ap (λ (x : ℕ). hashed variant (x / 64) t h.words) lt
      ∙ close_one n h.rest b l below t h.words (omega arith) (omega arith) (put_some h.rest b t n i (64 - n) (omega arith) (omega arith) et)
      ∙ ap (λ (x : ℕ). hashed variant ((x + 63) / 64) (take x h.rest ++ b) h.words) e

  pub close_not : n ≡ 0 → h.words ≡ hashed variant ((h.count % 64 + 63) / 64) (pending h ++ b) h.words
  close_not z =
      close_none n h.rest b l below h.words z ∙ ap (λ (x : ℕ). hashed variant ((x + 63) / 64) (take x h.rest ++ b) h.words) e

  pub pass_is : (from whole end : ℕ) (f g t : List ℕ) (i c : ℕ)
      → from ≡ (64 - n) % 64 → whole ≡ (length b - from) / 64 → end ≡ from + whole * 64 → 64 ≤ h.count % 64 + length b
      → f ≡ hashed variant ((h.count % 64 + 63) / 64) (pending h ++ b) h.words
      → g ≡ hashed variant (blocks variant (take (length b - from) (drop from b))) (take (length b - from) (drop from b)) f
      → placed i t ≡ wrote (blank 64) 0 (take (length b - end) (drop end b))
      → c ≡ (h.count + length b) % 2 ^ 64 → record { words = g; rest = t; count = c } ≡ added h b
  pass_is from whole end f g t i c ef ew ee k e1 e2 e3 ec =
      let m : 64 ≤ n + length b = omega arith in
      let f1 = e1 ∙ ap (λ (x : ℕ). hashed variant ((x + 63) / 64) (take x h.rest ++ b) h.words) (sym e) in
      let w : blocks variant (drop from b) ≡ whole = ap (λ (x : ℕ). x / 64) (length-drop from b) ∙ sym ew in
      let g1 = e2 ∙ ap (λ (x : List ℕ). hashed variant (blocks variant x) x f) (part b from) ∙ ap (λ (x : ℕ). hashed variant x (drop from b) f) w in
      let t1 = e3 ∙ ap (wrote (blank 64) 0) (part b end) in
      let r : length (drop end b) ≤ 64 = few n (length b) from whole end below ef ew ee m (length-drop end b) in
      made g t c (pass_words n h.rest b l below from whole ef ew m f g h.words f1 g1) (pass_rest n h.rest b l below from whole ef ew m t end ee (put_fits (blank 64) (drop end b) t 0 i (omega arith) t1)) ec
    where
      part : (b : List ℕ) (i : ℕ) → take (length b - i) (drop i b) ≡ drop i b
      part b i = take_all (length b - i) (drop i b) (omega (arith, length-drop i b))

      few : (n m from whole end : ℕ) {x : ℕ} → n < 64 → from ≡ (64 - n) % 64 → whole ≡ (m - from) / 64 → end ≡ from + whole * 64 → 64 ≤ n + m → x ≡ m - end → x ≤ 64
      few n m from whole end a ef ew ee k d = omega arith

-- the last blocks: the bytes that wait, the padding and the length
pub finish_is : (h : Midstate) (n high low : ℕ) (r : List ℕ)
    → length h.rest ≡ 64 → n ≡ h.count % 64 → high ≡ 8 * h.count / 2 ^ 32 % 2 ^ 32 → low ≡ 8 * h.count % 2 ^ 32
    → r ≡ last_hashed variant (last_blocks variant (take n h.rest) high low) h.words → r ≡ summed h
unfolding summed
finish_is h n high low r l e hi lo er =
    let i = h.count in
    let p = take n h.rest in
    let lp : length p ≡ n = length-take-le n h.rest (omega arith) in
    let z : zeros variant (length p) ≡ zeros variant i = omega arith in
    er ∙ closed variant i p h.words high low z (ap (λ (x : ℕ). x % 2 ^ 32) hi ∙ mod-mod (8 * i / 2 ^ 32) (2 ^ 32)) (ap (λ (x : ℕ). x % 2 ^ 32) lo ∙ mod-mod (8 * i) (2 ^ 32))
    ∙ ap (λ (x : ℕ). finished variant i (take x h.rest) h.words) e
