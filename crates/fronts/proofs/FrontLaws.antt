-- The parts that the code lends are the first parts, and what it puts back behind them is the rest. Assumes nothing.
use mathlib.Core.Bool.{Bool}
use mathlib.Core.List.{List, [], ◌∷◌, ◌++◌}
use mathlib.Core.Path.{◌≡◌, refl, ap, ◌∙◌}
use native.Mathlib.Omega.{arith}
use Prim.Native.Nat.{ℕ, zero, suc, min}
use lib.ListN.{length, take, drop}
use Rattle.ring.specs.declared.KeyRing.{KeyRing}
use Rattle.stream.specs.Limits.{head_limit, block_limit}
use Rattle.handing.specs.Handing.{handed_value, handed_count}
use Rattle.handing.specs.Released.{block_part}
use Rattle.state.specs.Configuration.{Configuration, configuration}
use Rattle.state.specs.declared.reader.Reader.{Reader}
use Rattle.state.proofs.BufferLaws.{take_min, drop_min}
use Rattle.calls.specs.Answer.{answer_of, end_of}
use Rattle.calls.specs.Response.{Response, made}
use Rattle.calls.specs.declared.outcome.Outcome.{Outcome}
use Rattle.reader.specs.Feed.{feed_of}
use Rattle.fronts.specs.Fronts.{first_parts, backed, feed_front, answer_front, end_front}

-- ---- a part

pub part_is : (n m : ℕ) (l : List ℕ) → m ≡ min n (length l) → take m l ≡ take n l
part_is n m l e = rw e (take_min n l)

-- ---- a call: i, j and k are the counts that the code lends, h', b' and q' the parts as the call leaves them

module _ (r : Reader) (h b q : List ℕ) (i j k : ℕ) (ei : i ≡ min head_limit (length h)) (ej : j ≡ min block_limit (length b)) (ek : k ≡ min head_limit (length q)) where
  abbrev whole : Configuration
  whole = configuration r h b q

  lent_is : configuration r (take i h) (take j b) (take k q) ≡ first_parts whole
  lent_is = rw (ei, ej, ek, take_min head_limit h, take_min block_limit b, take_min head_limit q)

  module _ (o : Outcome) (h' b' q' : List ℕ) where
    put_back : (c : Response) → made o h' b' q' ≡ c → made o (h' ++ drop i h) (b' ++ drop j b) (q' ++ drop k q) ≡ backed whole c
    put_back c e = rw (ei, ej, ek, drop_min head_limit h, drop_min block_limit b, drop_min head_limit q) (ap (λ (c : Response). backed whole c) e)

    pub fed_front : (keys : KeyRing) (uri piece : List ℕ) → made o h' b' q' ≡ feed_of keys uri (configuration r (take i h) (take j b) (take k q)) piece
        → made o (h' ++ drop i h) (b' ++ drop j b) (q' ++ drop k q) ≡ feed_front keys uri whole piece
    unfolding feed_front
    fed_front keys uri piece e = put_back _ (e ∙ ap (λ (d : Configuration). feed_of keys uri d piece) lent_is)

    pub answered_front : (good : Bool) → made o h' b' q' ≡ answer_of (configuration r (take i h) (take j b) (take k q)) good
        → made o (h' ++ drop i h) (b' ++ drop j b) (q' ++ drop k q) ≡ answer_front whole good
    unfolding answer_front
    answered_front good e = put_back _ (e ∙ ap (λ (d : Configuration). answer_of d good) lent_is)

    pub ended_front : made o h' b' q' ≡ end_of (configuration r (take i h) (take j b) (take k q))
        → made o (h' ++ drop i h) (b' ++ drop j b) (q' ++ drop k q) ≡ end_front whole
    unfolding end_front
    ended_front e = put_back _ (e ∙ ap end_of lent_is)

-- ---- what is handed out

pub block_front : (b : List ℕ) (m released : ℕ) (l : List ℕ) → m ≡ min block_limit (length b) → l ≡ block_part (take m b) released → l ≡ block_part (take block_limit b) released
block_front b m released l e f = f ∙ ap (λ (b : List ℕ). block_part b released) (part_is block_limit m b e)

pub value_front : (h : List ℕ) (m accepted : ℕ) (name l : List ℕ) → m ≡ min head_limit (length h) → l ≡ handed_value (take m h) accepted name → l ≡ handed_value (take head_limit h) accepted name
value_front h m accepted name l e f = f ∙ ap (λ (h : List ℕ). handed_value h accepted name) (part_is head_limit m h e)

pub count_front : (h : List ℕ) (m accepted : ℕ) (name : List ℕ) (n : ℕ) → m ≡ min head_limit (length h) → n ≡ handed_count (take m h) accepted name → n ≡ handed_count (take head_limit h) accepted name
count_front h m accepted name n e f = f ∙ ap (λ (h : List ℕ). handed_count h accepted name) (part_is head_limit m h e)

-- ---- for callers: of a part as long, put back, and the rest

pub front_back : (n : ℕ) (l y : List ℕ) → length y ≡ length (take n l) → take n (y ++ drop n l) ≡ y
front_back zero l [] e = refl
front_back zero l (z ∷ y) e = absurd (omega (arith, e))
front_back (suc n) [] [] e = refl
front_back (suc n) [] (z ∷ y) e = absurd (omega (arith, e))
front_back (suc n) (x ∷ l) [] e = absurd (omega (arith, e))
front_back (suc n) (x ∷ l) (z ∷ y) e = ap (λ (y : List ℕ). z ∷ y) (front_back n l y (omega (arith, e)))

pub rest_back : (n : ℕ) (l y : List ℕ) → length y ≡ length (take n l) → drop n (y ++ drop n l) ≡ drop n l
rest_back zero l [] e = refl
rest_back zero l (z ∷ y) e = absurd (omega (arith, e))
rest_back (suc n) [] [] e = refl
rest_back (suc n) [] (z ∷ y) e = absurd (omega (arith, e))
rest_back (suc n) (x ∷ l) [] e = absurd (omega (arith, e))
rest_back (suc n) (x ∷ l) (z ∷ y) e = rest_back n l y (omega (arith, e))
