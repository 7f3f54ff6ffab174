-- The form of a chunk line has just the good chunk lines. Assumes nothing.
use mathlib.Core.Bool.{Bool, true, false, ◌&&◌, ◌||◌, or-false, and-or_distrib_left}
use mathlib.Core.List.{List, [], ◌∷◌}
use mathlib.Core.Option.{none}
use mathlib.Core.Path.{◌≡◌, refl, sym, ap₂, ◌∙◌}
use Prim.Native.Nat.{ℕ, suc, ◌-◌}
use native.Mathlib.Omega.{arith}
use borrow.Author.Tests.{le-leb, eqb-true}
use lib.Dec.{eqb}
use lib.ListN.{length, drop, take}
use Rattle.octets.specs.Octets.{octets}
use Rattle.octets.specs.Viable.{LongestViable}
use Rattle.base64_text.specs.Base64.{is_base64, letter_value}
use Rattle.scanner.specs.Form.{Form, done, either, text, step_form, may_end_form, accepts_form, reach_form}
use Rattle.scanner.proofs.Every.{every}
use Rattle.scanner.proofs.Forms.{form_end, form_off, form_alike}
use Rattle.scanner.proofs.Joined.{free, or-none}
use Rattle.scanner.proofs.Longest.{of_bytes, form_longest, form_whole}
use Rattle.stream.specs.Blocks.{ouisig, ouihash, is_extension, is_chunk_line}
use Rattle.stream.specs.Bytes.{all, is_hex}
use Rattle.stream.specs.Forms.{hex_byte, signature_form, extension_form, size_form, chunk_form}
use Rattle.stream.specs.Limits.{size_digits}
use Rattle.stream.specs.Numbers.{is_hex_number}
use Rattle.stream.specs.Template.{run, past, starts_with}
use Rattle.classes.proofs.RunLaws.{run_cons}
use Rattle.text_forms.proofs.Parts.{Apart, apart_text, text_accepts, some_accepts}
use Rattle.text_forms.proofs.Lines.{ends_accepts}
use Rattle.text_forms.proofs.Signatures.{signature_accepts}

-- ---- what stands after the size: nothing, a signature or a hash

-- one of two forms, where the byte c alone may begin the first, and never begins the second
either_accepts : (c : ℕ) (f g : Form) → may_end_form f ≡ false → ((b : ℕ) → eqb b c ≡ false → step_form f b ≡ none)
    → ((b : ℕ) → eqb b c ≡ true → step_form g b ≡ none) → (l : List ℕ) → accepts_form (either f g) l ≡ accepts_form f l || accepts_form g l
unfolding step_form may_end_form
either_accepts c f g e first second [] = form_end (either f g) ∙ rw (form_end f, form_end g)
either_accepts c f g e first second (b ∷ l) = go (eqb b c) refl
  where
    go : (t : Bool) → eqb b c ≡ t → accepts_form (either f g) (b ∷ l) ≡ accepts_form f (b ∷ l) || accepts_form g (b ∷ l)
    go false q = form_alike (either f g) g b l (rw (first b q)) ∙ rw (form_off f b l (first b q))
    go true q =
        form_alike (either f g) f b l (rw (second b q) (or-none (step_form f b)))
        ∙ sym (or-false (accepts_form f (b ∷ l)))
        ∙ rw (form_off g b l (second b q))

sig_form : Form
sig_form = text (octets "sig=") signature_form

hash_form : Form
hash_form = text (octets "hash=") signature_form

sig_first : (b : ℕ) → eqb b 115 ≡ false → step_form sig_form b ≡ none
unfolding sig_form step_form
sig_first b e = rw e

hash_second : (b : ℕ) → eqb b 115 ≡ true → step_form hash_form b ≡ none
unfolding hash_form step_form
hash_second b e = rw (eqb-true b 115 e)

extension_accepts : (l : List ℕ) → accepts_form extension_form l
    ≡ (starts_with ouisig l && is_base64 64 (drop (length ouisig) l)) || (starts_with ouihash l && is_base64 64 (drop (length ouihash) l))
unfolding extension_form sig_form hash_form may_end_form
extension_accepts l =
    text_accepts (octets ";oui") (either sig_form hash_form) l
    ∙ rw (either_accepts 115 sig_form hash_form refl sig_first hash_second (drop 4 l))
    (and-or_distrib_left (starts_with (octets ";oui") l) (accepts_form sig_form (drop 4 l)) (accepts_form hash_form (drop 4 l)))
    ∙ ap₂ ◌||◌ (sym (text_accepts (octets ";oui") sig_form l) ∙ text_accepts ouisig signature_form l) (sym (text_accepts (octets ";oui") hash_form l) ∙ text_accepts ouihash signature_form l)
    ∙ rw (signature_accepts (drop (length ouisig) l), signature_accepts (drop (length ouihash) l))

tail_form : Form
tail_form = either extension_form done

tail_apart : Apart is_hex tail_form
unfolding tail_form extension_form sig_form hash_form step_form
tail_apart b e = rw (apart_text is_hex 59 (octets "oui") (either sig_form hash_form) refl b e)

tail_accepts : (l : List ℕ) → accepts_form tail_form l ≡ is_extension l
unfolding tail_form extension_form step_form may_end_form is_extension
tail_accepts [] = form_end tail_form
tail_accepts (b ∷ l) =
    form_alike tail_form extension_form b l (or-none (step_form extension_form b))
    ∙ extension_accepts (b ∷ l)
    ∙ rw (le-leb 1 (suc (length l)) (omega arith))

-- ---- the size in front of it

run_all : (p : ℕ → Bool) (l : List ℕ) → all p (run p l) ≡ true
unfolding all run
run_all p [] = refl
run_all p (b ∷ l) = go (p b) refl (run_all p l)
  where
    go : (t : Bool) → p b ≡ t → all p (run p l) ≡ true → all p (run p (b ∷ l)) ≡ true
    go true e ih = rw (run_cons p b l true e, e, ih)
    go false e ih = rw (run_cons p b l false e)

size_accepts : (l : List ℕ) → accepts_form size_form l ≡ is_hex_number size_digits (run is_hex l) && is_extension (past is_hex l)
unfolding size_form is_hex_number tail_form
size_accepts l = some_accepts 7 hex_byte tail_form tail_apart l ∙ rw (tail_accepts (past is_hex l), run_all is_hex l)

-- no CR stands in either
size_free : free 13 size_form ≡ true
unfolding every size_form extension_form signature_form letter_value
size_free = refl

-- ---- the line

pub chunk_accepts : (l : List ℕ) → is_chunk_line l ≡ accepts_form chunk_form l
unfolding is_chunk_line chunk_form
chunk_accepts l = sym (ends_accepts size_form size_free l ∙ rw (size_accepts (take (length l - 2) l)))

chunk_bytes : of_bytes chunk_form ≡ true
unfolding every chunk_form size_form extension_form signature_form
chunk_bytes = refl

pub chunk_longest : (l : List ℕ) → LongestViable is_chunk_line l (reach_form chunk_form l)
chunk_longest l = form_longest chunk_form chunk_bytes is_chunk_line chunk_accepts l

-- a good line agrees with its form to its end
pub chunk_whole : (l : List ℕ) → is_chunk_line l ≡ true → reach_form chunk_form l ≡ length l
chunk_whole l e = form_whole chunk_form chunk_bytes is_chunk_line chunk_accepts l e
