-- The text of a chunk line from its parts, as the code comes to them: what stands after the size, the text without CR LF,
-- the whole line. Assumes nothing.
use mathlib.Core.Bool.{Bool, true, false, ◌&&◌, ◌||◌, false≢true}
use mathlib.Core.List.{List, [], ◌∷◌}
use mathlib.Core.Path.{◌≡◌, refl, sym, ap, ◌∙◌}
use Prim.Native.Nat.{ℕ, suc, ◌+◌, ◌-◌, ◌≤◌}
use native.Mathlib.Omega.{arith}
use borrow.Author.Tests.{le-leb, ne_eqb, leb-true, leb-false, eqb-true}
use lib.Dec.{eqb, leb, lit≤}
use lib.ListN.{length, take, drop, length-drop}
use lib.Seq.{take_all}
use Rattle.base64_text.specs.Base64.{is_base64, base64_bytes}
use Rattle.number.proofs.Forms.{hex_found, hex_missed}
use Rattle.number.specs.Reading.{hex_read}
use Rattle.std.specs.Prelude.{Option, Some, None, Result, Ok, Err, option_map, option_and_then}
use Rattle.std.specs.Result.{result_ok}
use Rattle.octets.specs.Choice.{pick}
use Rattle.stream.specs.Blocks.{ouisig, ouihash, size_text, extension, is_extension, is_chunk_line, carries_signature, carries_hash, chunk_size, line_signature, line_hash}
use Rattle.stream.specs.Bytes.{is_hex, same}
use Rattle.stream.specs.Limits.{size_digits}
use Rattle.stream.specs.Lines.{crlf, ends_with}
use Rattle.stream.specs.Numbers.{is_hex_number, hex_value}
use Rattle.stream.specs.Template.{run, starts_with}
use Rattle.text.proofs.LineLaws.{ends_short}
use Rattle.classes.proofs.RunLaws.{run_take, past_drop, run_le}
use Rattle.text.proofs.SameLaws.{starts_within}
use Rattle.classes.specs.Class.{class_of}
use Rattle.classes.specs.declared.Class.TheVariants.{Hex}
use Rattle.chunk.specs.Parts.{text_of, extension_read, text_read, line_read}
use Rattle.chunk.specs.declared.reading.Carried.TheVariants.{Nothing, Signature, Hash}
use Rattle.chunk.specs.declared.reading.ChunkText.{ChunkText}

-- a part of a slice up to its end
pub rest_is : (l : List ℕ) (i : ℕ) → take (length l - i) (drop i l) ≡ drop i l
rest_is l i = take_all (length l - i) (drop i l) (omega (arith, length-drop i l))

-- ---- what stands after the size

pub signature_room : (e : List ℕ) → starts_with ouisig e ≡ true → 8 ≤ length e
signature_room e s = starts_within ouisig e 0 s (omega arith)

pub hash_room : (e : List ℕ) → starts_with ouihash e ≡ true → 9 ≤ length e
hash_room e s = starts_within ouihash e 0 s (omega arith)

-- the names differ in their fifth bytes, so that a line has one of them at most
fifth : (a b c d x p y q : Bool) → (x ≡ true → y ≡ false) → a && (b && (c && (d && (x && p)))) ≡ true → a && (b && (c && (d && (y && q)))) ≡ false
fifth true true true true true p y q h e = rw (h refl)
fifth true true true true false p y q h e = absurd (false≢true e)
fifth true true true false x p y q h e = refl
fifth true true false d x p y q h e = refl
fifth true false c d x p y q h e = refl
fifth false b c d x p y q h e = refl

pub one_name : (e : List ℕ) → starts_with ouisig e ≡ true → starts_with ouihash e ≡ false
unfolding starts_with same
one_name [] s = refl
one_name (a ∷ []) s = absurd (omega (arith, signature_room (a ∷ []) s))
one_name (a ∷ b ∷ []) s = absurd (omega (arith, signature_room (a ∷ b ∷ []) s))
one_name (a ∷ b ∷ c ∷ []) s = absurd (omega (arith, signature_room (a ∷ b ∷ c ∷ []) s))
one_name (a ∷ b ∷ c ∷ d ∷ []) s = absurd (omega (arith, signature_room (a ∷ b ∷ c ∷ d ∷ []) s))
one_name (a ∷ b ∷ c ∷ d ∷ x ∷ l) s = fifth (eqb 59 a) (eqb 111 b) (eqb 117 c) (eqb 105 d) (eqb 115 x) _ (eqb 104 x) _ (λ h. rw (← eqb-true 115 x h)) s

-- a line's extension, by its two rules of text
extension_is : (n : ℕ) (e : List ℕ)
    → pick (is_extension e)
    (Some (text_of n (pick (starts_with ouisig e) (Signature (base64_bytes 64 (drop 8 e))) (pick (starts_with ouihash e) (Hash (base64_bytes 64 (drop 9 e))) Nothing))))
    None
    ≡ option_map (text_of n) (extension_read e)
unfolding is_extension extension_read starts_with same
extension_is n [] = refl
extension_is n (b ∷ l) =
    rw (le-leb 1 (suc (length l)) (omega arith), ne_eqb (suc (length l)) 0 (λ e. omega arith))
    (by (starts_with ouisig (b ∷ l)) (starts_with ouihash (b ∷ l)) refl refl (is_base64 64 (drop 8 (b ∷ l))) (is_base64 64 (drop 9 (b ∷ l))))
  where
    by : (x y : Bool) → starts_with ouisig (b ∷ l) ≡ x → starts_with ouihash (b ∷ l) ≡ y → (p q : Bool)
        → pick ((x && p) || (y && q)) (Some (text_of n (pick x (Signature (base64_bytes 64 (drop 8 (b ∷ l)))) (pick y (Hash (base64_bytes 64 (drop 9 (b ∷ l)))) Nothing)))) None
        ≡ option_map (text_of n)
        (pick x (option_map Signature (pick p (Some (base64_bytes 64 (drop 8 (b ∷ l)))) None)) (pick y (option_map Hash (pick q (Some (base64_bytes 64 (drop 9 (b ∷ l)))) None)) None))
    by true true e f p q = absurd (false≢true (sym (one_name (b ∷ l) e) ∙ f))
    by true false e f true q = refl
    by true false e f false q = refl
    by false true e f p true = refl
    by false true e f p false = refl
    by false false e f p q = refl

-- ---- the text without CR LF: `end` is where its hex digits end

module _ (t : List ℕ) (end : ℕ) (f : end ≡ 0 + length (run (class_of Hex) (drop 0 t))) where
  digits_end : end ≡ length (run is_hex t)
  unfolding class_of
  digits_end = omega arith

  pub digits_within : end ≤ length t
  digits_within = omega (arith, digits_end, run_le is_hex t)

  digits_are : take end t ≡ run is_hex t
  digits_are = rw digits_end (sym (run_take is_hex t))

  pub text_is : {r : Result ℕ ℕ} → r ≡ hex_read 8 (take end t)
      → text_read t ≡ option_and_then (λ n. option_map (text_of n) (extension_read (take (length t - end) (drop end t)))) (result_ok r)
  unfolding text_read
  text_is {r = Ok n} e =
      let w = hex_found 8 (run is_hex t) (lit≤ tt) n (rw digits_are at (sym e)) in
      rw (w.0, w.1, rest_is t end, digits_end, past_drop)
  text_is {r = Err p} e = rw (hex_missed 8 (run is_hex t) (lit≤ tt) p (rw digits_are at (sym e)))

-- ---- the whole line

pub pick_both : {A : Type 0} (a b : Bool) (x y : A) → pick (a && b) x y ≡ pick a (pick b x y) y
pick_both true b x y = refl
pick_both false b x y = refl

module _ (l : List ℕ) where
  pub line_room : ends_with crlf l ≡ true → 2 ≤ length l
  line_room e = by (leb 2 (length l)) refl
    where
      by : (t : Bool) → leb 2 (length l) ≡ t → 2 ≤ length l
      by true h = leb-true 2 (length l) h
      by false h = absurd (false≢true (sym (ends_short crlf l (leb-false 2 (length l) h)) ∙ e))

  pub line_ended : ends_with crlf l ≡ true → line_read l ≡ text_read (take (length l - 2) l)
  unfolding line_read is_chunk_line chunk_size carries_signature carries_hash line_signature line_hash text_read
  line_ended e =
      rw e
      (pick_both (is_hex_number size_digits (size_text l)) (is_extension (extension l)) _ _
      ∙ ap (λ (t : Option ChunkText). pick (is_hex_number size_digits (size_text l)) t None) (extension_is (hex_value (size_text l)) (extension l)))
