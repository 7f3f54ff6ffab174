-- The line of a listed name stands in a head's message, with all values of that name. Assumes nothing.
use mathlib.Core.Bool.{Bool, true, false, ◌||◌, false≢true}
use mathlib.Core.List.{List, [], ◌∷◌, ◌++◌, append_assoc, append-nil}
use mathlib.Core.Path.{◌≡◌, refl, sym, ap, ◌∙◌}
use Prim.Native.Nat.{ℕ}
use Rattle.stream.specs.Bytes.{lowered, same_name}
use Rattle.stream.specs.Fields.{among}
use Rattle.stream.specs.Head.{Head, head_of, listed_names, signing_string, text_rules}
use Rattle.stream.specs.Lines.{Field}
use Rattle.stream.specs.Signatures.{is_name_list, listed_fields}
use Rattle.stream.specs.Signing.{separated, joined_values, joined_value, joined_fields, signing_line, signing_text}
use Rattle.stream.specs.Terms.{Terms}
use Rattle.stream.proofs.SignedLaws.{same_found}
use Rattle.stream.proofs.Truth.{same_equal}
use Rattle.exactness.specs.Good.{GoodHead}
use Rattle.exactness.specs.MessageLines.{BeforeLine, first, after_line_feed, final, before_line_feed, LineIn}
use Rattle.exactness.specs.Telling.{Stands}

-- ---- lines

later_line : (e b : List ℕ) → BeforeLine b → BeforeLine (e ++ 10 ∷ b)
later_line e b first = after_line_feed e
later_line e b (after_line_feed l) = rw (← append_assoc e (10 ∷ l) (10 ∷ [])) (after_line_feed (e ++ 10 ∷ l))

text_on : (e : Field) (es : List Field) (f : Field) (fs : List Field)
    → signing_text (e ∷ (es ++ f ∷ fs)) ≡ signing_line e ++ 10 ∷ signing_text (es ++ f ∷ fs)
unfolding signing_text separated
text_on e [] f fs = refl
text_on e (g ∷ es) f fs = refl

line_at : (es : List Field) (f : Field) (fs : List Field) → LineIn (signing_line f) (signing_text (es ++ f ∷ fs))
unfolding signing_text separated
line_at [] f [] = record { before = []; after = []; starts = first; ends = final; joined = append-nil (signing_line f) }
line_at [] f (g ∷ fs) = record { before = []; after = 10 ∷ signing_text (g ∷ fs); starts = first; ends = before_line_feed (signing_text (g ∷ fs)); joined = refl }
line_at (e ∷ es) f fs =
    let l = line_at es f fs in
    record {
      before = signing_line e ++ 10 ∷ l.before;
      after = l.after;
      starts = later_line (signing_line e) l.before l.starts;
      ends = l.ends;
      joined =
          append_assoc (signing_line e) (10 ∷ l.before) (signing_line f ++ l.after)
          ∙ ap (λ (t : List ℕ). signing_line e ++ 10 ∷ t) l.joined
          ∙ sym (text_on e es f fs);
    }

-- the line does not ask in which case a name is written
line_same : (name : List ℕ) (f : Field) → same_name name f.name ≡ true → signing_line (record { name = name; value = f.value }) ≡ signing_line f
unfolding signing_line same_name
line_same name f s = rw (same_equal (lowered name) (lowered f.name) s)

-- ---- the line of a listed name

stands_on : {A : Type 0} (x y : A) (l : List A) → Stands x l → Stands x (y ∷ l)
stands_on x y l s = record { before = y ∷ s.before; after = s.after; joined = ap (λ (m : List _). y ∷ m) s.joined }

abbrev pub joined_field : List Field → List ℕ → Field
joined_field fs n = record { name = n; value = joined_value n fs }

-- the name as it is listed, which may be in another case
record HasLine (fs : List Field) (ns : List (List ℕ)) (name : List ℕ) : Type 0 where
  listed_as : List ℕ
  named : same_name name listed_as ≡ true
  there : Stands (joined_field fs listed_as) (joined_fields fs ns)

has_line : (name : List ℕ) (fs : List Field) (ns : List (List ℕ)) → among name ns ≡ true → HasLine fs ns name
unfolding joined_fields among
has_line name fs [] e = absurd (false≢true e)
has_line name fs (n ∷ ns) e = by (same_name name n) refl e (has_line name fs ns)
  where
    by : (t : Bool) → same_name name n ≡ t → t || among name ns ≡ true → (among name ns ≡ true → HasLine fs ns name) → HasLine fs (n ∷ ns) name
    by true s e ih = record { listed_as = n; named = s; there = record { before = []; after = joined_fields fs ns; joined = refl } }
    by false s e ih = let l = ih e in record { listed_as = l.listed_as; named = l.named; there = stands_on _ _ _ l.there }

pub line_signed : (head : Head) (name : List ℕ) → among name (listed_fields (listed_names head)) ≡ true
    → LineIn (signing_line (joined_field head.fields name)) (signing_string head)
unfolding signing_string
line_signed head name e =
    let l = has_line name head.fields (listed_fields (listed_names head)) e in
    let same_values = ap joined_values (sym (same_found name l.listed_as head.fields l.named)) in
    rw (ap (λ (v : List ℕ). signing_line (record { name = name; value = v })) same_values, line_same name (joined_field head.fields l.listed_as) l.named, ← l.there.joined)
    (line_at (_ ∷ _ ∷ l.there.before) (joined_field head.fields l.listed_as) l.there.after)

pub good_names : {terms : Terms} {l : List ℕ} → GoodHead terms l → is_name_list (head_of l).fields (listed_names (head_of l)) ≡ true
unfolding text_rules
good_names g = let rules = g.text in search
