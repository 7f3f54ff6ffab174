-- The schedule's words, one more at a time, the rounds, and the blocks of a list.
-- Assumes nothing.
use Rattle.std.proofs.Common.{◌≡◌, ℕ, zero, suc, ◌+◌, ◌-◌, ◌*◌, ◌<◌, List, [], ◌∷◌, ◌++◌, length, get_or, map, refl, take, drop, set, sym, ap, ◌∙◌, ap₂, add_assoc, add-one, arith, length-append, drop_of_length-le, drop-cons, take_at}
use lib.ListN.{get_or-append}
use Rattle.hash.specs.Sha2.{Variant, next_word, number, parsed, schedule, round, rounds, sums, compressed}
use Rattle.hash.specs.Parts.{round_at}
use Rattle.hash.proofs.ByteLaws.{fill_turn, long_parsed, parsed_more}

-- a block's own words, filled in from the front
pub parse_turn : (v : Variant) (p d w : List ℕ) (i x : ℕ) → w ≡ parsed v i p ++ drop i d → i < length d → x ≡ number 0 (take v.bytes (drop (i * v.bytes) p)) → set w i x ≡ parsed v (i + 1) p ++ drop (i + 1) d
parse_turn v p d w i x e h f =
    let m : parsed v i p ++ (x ∷ []) ≡ parsed v (i + 1) p = rw (f, add-one) (sym (parsed_more v i p)) in
    ap (λ (l : List ℕ). set l i x) e
    ∙ fill_turn (parsed v i p) d i x (long_parsed v i p) h
    ∙ ap (λ (l : List ℕ). l ++ drop (i + 1) d) m

-- a word's place among the bytes
pub parse_place : (v : Variant) (p : List ℕ) (b c i x : ℕ) → b ≡ v.bytes → c ≡ v.bytes → x ≡ number 0 (take (i * b + c - i * b) (drop (i * b) p)) → x ≡ number 0 (take v.bytes (drop (i * v.bytes) p))
parse_place v p b c i x e f h =
    let m : i * b + c - i * b ≡ c = omega arith in
    h ∙ (rw (m, e, f))

pub long_schedule : (v : Variant) (n : ℕ) (m : List ℕ) → length m ≡ 16 → length (schedule v n m) ≡ n + 16
unfolding schedule
long_schedule v zero m h = h
long_schedule v (suc n) m h = length-append (schedule v n m) _ ∙ (rw (long_schedule v n m h) (omega arith))

-- the words that the next one reads stand in front of the seam
same_word : (v : Variant) (p q : List ℕ) (t : ℕ) → length p ≡ t + 16 → next_word v t (p ++ q) ≡ next_word v t p
same_word v p q t h =
    rw (get_or-append p q 0 (t + 14) (omega arith), get_or-append p q 0 (t + 9) (omega arith), get_or-append p q 0 (t + 1) (omega arith), get_or-append p q 0 t (omega arith))

pub schedule_turn : (v : Variant) (m d w : List ℕ) (t x : ℕ) → length m ≡ 16 → t + 16 < length d → w ≡ schedule v t m ++ drop (t + 16) d → x ≡ next_word v t w → set w (t + 16) x ≡ schedule v (t + 1) m ++ drop (t + 1 + 16) d
unfolding schedule
schedule_turn v m d w t x h k e f =
    let l = long_schedule v t m h in
    let n : t + 16 + 1 ≡ t + 1 + 16 = omega arith in
    ap (λ (l : List ℕ). set l (t + 16) x) e
    ∙ fill_turn (schedule v t m) d (t + 16) x l k
    ∙ ap (λ (y : ℕ). (schedule v t m ++ (y ∷ [])) ++ drop (t + 16 + 1) d) (f ∙ ap (next_word v t) e ∙ same_word v (schedule v t m) (drop (t + 16) d) t l)
    ∙ ap₂ (λ (i j : ℕ). schedule v i m ++ drop j d) (sym (add-one t)) n

-- the numbers of eight words
pub eight : {A : Type 0} (f : A → ℕ) (s : List A) (a b c d e f' g h : A) → length s ≡ 8 → map f s ≡ f (get_or s 0 a) ∷ f (get_or s 1 b) ∷ f (get_or s 2 c) ∷ f (get_or s 3 d) ∷ f (get_or s 4 e) ∷ f (get_or s 5 f') ∷ f (get_or s 6 g) ∷ f (get_or s 7 h) ∷ []
eight {A = A} f s a b c d e f' g h l =
    let all : s ≡ get_or s 0 a ∷ get_or s 1 b ∷ get_or s 2 c ∷ get_or s 3 d ∷ get_or s 4 e ∷ get_or s 5 f' ∷ get_or s 6 g ∷ get_or s 7 h ∷ drop 8 s =
    next 0 a (omega arith) (next 1 b (omega arith) (next 2 c (omega arith) (next 3 d (omega arith) (next 4 e (omega arith) (next 5 f' (omega arith) (next 6 g (omega arith) (next 7 h (omega arith) refl))))))) in
    ap (map f) (all ∙ ap (λ (r : List A). get_or s 0 a ∷ get_or s 1 b ∷ get_or s 2 c ∷ get_or s 3 d ∷ get_or s 4 e ∷ get_or s 5 f' ∷ get_or s 6 g ∷ get_or s 7 h ∷ r) (drop_of_length-le s {i = 8} (omega arith)))
  where
    next : (i : ℕ) (x : A) → i < length s → {r : List A} → drop (suc i) s ≡ r → drop i s ≡ get_or s i x ∷ r
    next i x h e = drop-cons s i x h ∙ ap (λ (r : List A). get_or s i x ∷ r) e

-- a round more, and four
pub rounds_turn : (v : Variant) (w s x y : List ℕ) (i : ℕ) → x ≡ rounds v i w s → y ≡ round_at v i w x → y ≡ rounds v (i + 1) w s
unfolding rounds
rounds_turn v w s x y i e f = rw add-one (f ∙ ap (round v (get_or v.constants i 0) (get_or w i 0)) e)

-- after k rounds past i
rounds_next : (v : Variant) (w s x y : List ℕ) (i k : ℕ) → x ≡ rounds v (i + k) w s → y ≡ round_at v (i + k) w x → y ≡ rounds v (i + (k + 1)) w s
rounds_next v w s x y i k e f = rounds_turn v w s x y (i + k) e f ∙ ap (λ (n : ℕ). rounds v n w s) (add_assoc i k 1)

pub four_rounds : (v : Variant) (w s x x1 x2 x3 x4 : List ℕ) (i : ℕ) → x ≡ rounds v (i * 4) w s → x1 ≡ round_at v (i * 4) w x → x2 ≡ round_at v (i * 4 + 1) w x1 → x3 ≡ round_at v (i * 4 + 2) w x2 → x4 ≡ round_at v (i * 4 + 3) w x3 → x4 ≡ rounds v ((i + 1) * 4) w s
four_rounds v w s x x1 x2 x3 x4 i e f1 f2 f3 f4 =
    let j = i * 4 in
    let n : j + 4 ≡ (i + 1) * 4 = omega arith in
    rounds_next v w s x3 x4 j 3 (rounds_next v w s x2 x3 j 2 (rounds_next v w s x1 x2 j 1 (rounds_turn v w s x x1 j e f1) f2) f3) f4 ∙ ap (λ (k : ℕ). rounds v k w s) n

-- a block: its words, those that follow, the rounds over them and the sums
pub compressed_is : (v : Variant) (n : ℕ) (p d w x s t r : List ℕ) → length v.constants ≡ n → w ≡ parsed v 16 p ++ drop 16 d → x ≡ schedule v (n - 16) (take 16 w) → t ≡ rounds v n x s → r ≡ sums v s t → r ≡ compressed v (parsed v 16 p) s
unfolding compressed
compressed_is v n p d w x s t r l e f g h =
    let m : take 16 w ≡ parsed v 16 p = ap (take 16) e ∙ take_at (parsed v 16 p) _ 16 (long_parsed v 16 p) in
    let y : x ≡ schedule v (length v.constants - 16) (parsed v 16 p) = f ∙ ap₂ (λ (i : ℕ) (q : List ℕ). schedule v (i - 16) q) (sym l) m in
    h ∙ ap (sums v s) (g ∙ ap₂ (λ (i : ℕ) (q : List ℕ). rounds v i q s) (sym l) y)
