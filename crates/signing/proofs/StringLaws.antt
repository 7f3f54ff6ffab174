-- The signing string, line by line. Assumes nothing.
use mathlib.Core.List.{List, [], ◌∷◌, ◌++◌, map, append-nil, append_assoc}
use mathlib.Core.Path.{◌≡◌, refl, sym, ap, ◌∙◌}
use Prim.Native.Nat.{ℕ, ◌+◌, ◌≤◌, ◌<◌}
use native.Mathlib.Numerals.{add-one}
use lib.ListN.{length, get_or, drop, drop_of_length-le, get_or-map}
use lib.Seq.{drop-cons}
use Rattle.octets.specs.Octets.{octets}
use Rattle.stream.specs.Bytes.{lower, lowered}
use Rattle.stream.specs.Lines.{Field}
use Rattle.stream.specs.Signatures.{listed_fields, response_status_name, created_name}
use Rattle.stream.specs.Signing.{separated, joined_value, joined_fields, signing_line, signing_text}
use Rattle.places.specs.Writing.{placed, wrote}
use Rattle.places.proofs.WritingLaws.{same_size, wrote_more, wrote_nil}
use Rattle.signing.specs.Writing.{label_of, line_of, led_by, following, added_line, string_of}

-- ---- texts with another between them

-- the first text, and the others each with the other text in front
pub joined_is : (between t : List ℕ) (ts : List (List ℕ)) → separated between (t ∷ ts) ≡ t ++ led_by between ts
unfolding separated led_by
joined_is between t [] = sym (append-nil t)
joined_is between t (u ∷ ts) = ap (λ (l : List ℕ). t ++ (between ++ l)) (joined_is between u ts)

-- fields after fields
pub following_joined : (fs gs : List Field) → following (fs ++ gs) ≡ following fs ++ following gs
unfolding led_by
following_joined [] gs = refl
following_joined (f ∷ fs) gs =
    ap (λ (l : List ℕ). 10 ∷ (signing_line f ++ l)) (following_joined fs gs)
    ∙ ap (λ (l : List ℕ). 10 ∷ l) (sym (append_assoc (signing_line f) (following fs) (following gs)))

pub text_joined : (f : Field) (fs gs : List Field) → signing_text (f ∷ (fs ++ gs)) ≡ signing_text (f ∷ fs) ++ following gs
unfolding signing_text
text_joined f fs gs =
    joined_is (10 ∷ []) (signing_line f) (map signing_line (fs ++ gs))
    ∙ ap (λ (l : List ℕ). signing_line f ++ l) (following_joined fs gs)
    ∙ sym (append_assoc (signing_line f) (following fs) (following gs))
    ∙ ap (λ (l : List ℕ). l ++ following gs) (sym (joined_is (10 ∷ []) (signing_line f) (map signing_line fs)))

-- ---- a line

pub lower_at : (s : List ℕ) (i : ℕ) → get_or (lowered s) i 0 ≡ lower (get_or s i 0)
unfolding lowered
lower_at s i = get_or-map lower s i 0

line_is : (name value : List ℕ) → line_of name value ≡ label_of name ++ value
unfolding signing_line
line_is name value = sym (append_assoc (lowered name) (octets ": ") value)

-- ---- all lines

module _ (fs : List Field) (ns : List (List ℕ)) (digits seconds : List ℕ) where
  string_is : string_of fs ns digits seconds
      ≡ line_of response_status_name digits ++ (10 ∷ (line_of created_name seconds ++ following (joined_fields fs (listed_fields ns))))
  unfolding string_of signing_text led_by
  string_is =
      joined_is (10 ∷ []) (line_of response_status_name digits) (line_of created_name seconds ∷ map signing_line (joined_fields fs (listed_fields ns)))

-- a turn: name i, and the names after it
module _ (fs : List Field) (ns : List (List ℕ)) (i : ℕ) where
  following_on : i < length ns
      → following (joined_fields fs (drop i ns))
      ≡ 10 ∷ (line_of (get_or ns i []) (joined_value (get_or ns i []) fs) ++ following (joined_fields fs (drop (i + 1) ns)))
  unfolding led_by joined_fields
  following_on h = rw (add-one i, drop-cons ns i [] h)

  following_out : length ns ≤ i → following (joined_fields fs (drop i ns)) ≡ []
  unfolding led_by joined_fields
  following_out h = rw (drop_of_length-le ns)

-- ---- the calls that write them, one after another: n and b are the next place and the buffer after each

module _ (d : List ℕ) (at : ℕ) (name : List ℕ) (n : ℕ) (b : List ℕ) where
  pub label_written : placed n b ≡ wrote d at (lowered name) → (k : ℕ) (x : List ℕ) → placed k x ≡ wrote b n (octets ": ") → placed k x ≡ wrote d at (label_of name)
  label_written e k x f = f ∙ wrote_more d at (lowered name) n b e (octets ": ")

  pub line_written : placed n b ≡ wrote d at (label_of name) → (value : List ℕ) (k : ℕ) (x : List ℕ) → placed k x ≡ wrote b n value → placed k x ≡ wrote d at (line_of name value)
  line_written e value k x f = f ∙ wrote_more d at (label_of name) n b e value ∙ ap (wrote d at) (sym (line_is name value))

-- one line more
module _ (d : List ℕ) (at : ℕ) (name value : List ℕ) (n : ℕ) (b : List ℕ) (e : placed n b ≡ wrote d at (10 ∷ [])) where
  pub added_written : (k : ℕ) (x : List ℕ) → placed k x ≡ wrote b n (line_of name value) → placed k x ≡ wrote d at (added_line name value)
  unfolding led_by
  added_written k x f =
      f ∙ wrote_more d at (10 ∷ []) n b e (line_of name value) ∙ ap (λ (l : List ℕ). wrote d at (10 ∷ l)) (sym (append-nil (line_of name value)))

module _ (fs : List Field) (ns : List (List ℕ)) where
  -- a turn of the loop over the fields
  module _ (i : ℕ) (d : List ℕ) (at : ℕ) where
    pub turn_written : i < length ns → (name : List ℕ) → name ≡ get_or ns i []
        → (n : ℕ) (b : List ℕ) → placed n b ≡ wrote d at (10 ∷ []) → (m : ℕ) (c : List ℕ) → placed m c ≡ wrote b n (line_of name (joined_value name fs))
        → (length c ≡ length d) × (wrote c m (following (joined_fields fs (drop (i + 1) ns))) ≡ wrote d at (following (joined_fields fs (drop i ns))))
    turn_written h name p n b e m c f =
        let others = following (joined_fields fs (drop (i + 1) ns)) in
        let line = line_of name (joined_value name fs) in
        let t : 10 ∷ (line ++ others) ≡ following (joined_fields fs (drop i ns)) = rw p (sym (following_on fs ns i h)) in
        (same_size b n line m c f ∙ same_size d at (10 ∷ []) n b e, wrote_more b n line m c f others ∙ wrote_more d at (10 ∷ []) n b e (line ++ others) ∙ ap (wrote d at) t)

    pub turns_end : length ns ≤ i → placed at d ≡ wrote d at (following (joined_fields fs (drop i ns)))
    turns_end h = rw (following_out fs ns i h) (wrote_nil d at)

  -- the whole string
  module _ (digits seconds d : List ℕ) (n : ℕ) (b : List ℕ) (e : placed n b ≡ wrote d 0 (line_of response_status_name digits)) (m : ℕ) (c : List ℕ) (f : placed m c ≡ wrote b n (10 ∷ [])) (l : ℕ) (g : List ℕ) (h : placed l g ≡ wrote c m (line_of created_name seconds)) where
    pub string_written : (k : ℕ) (x : List ℕ) → placed k x ≡ wrote g l (following (joined_fields fs (listed_fields ns))) → placed k x ≡ wrote d 0 (string_of fs ns digits seconds)
    string_written k x y =
        let others = following (joined_fields fs (listed_fields ns)) in
        let second = line_of created_name seconds in
        y ∙ wrote_more c m second l g h others ∙ wrote_more b n (10 ∷ []) m c f (second ++ others)
        ∙ wrote_more d 0 (line_of response_status_name digits) n b e (10 ∷ (second ++ others))
        ∙ ap (wrote d 0) (sym (string_is fs ns digits seconds))
