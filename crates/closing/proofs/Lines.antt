-- A good chunk line is the line that is written from its size and its signature, or its hash. Assumes nothing.
use mathlib.Core.Bool.{Bool, true, false, ◌&&◌, or-false, false≢true}
use mathlib.Core.List.{List, [], ◌∷◌, ◌++◌}
use mathlib.Core.Path.{◌≡◌, refl, sym, ap, ◌∙◌}
use Prim.Native.Nat.{ℕ, zero, suc, ◌-◌}
use native.Mathlib.Omega.{arith}
use borrow.Author.Tests.{le-leb}
use lib.Dec.{leb}
use lib.ListN.{length, take, drop, take-append-drop}
use lib.Pow.{are_bytes}
use Rattle.base64_text.specs.Base64.{text_of, is_base64, base64_bytes}
use Rattle.base64_text.proofs.Laws.{bytes_length, bytes_below}
use Rattle.base64_text.proofs.Unique.{bytes_text}
use Rattle.stream.specs.Blocks.{line_text, size_text, extension, ouisig, ouihash, signature_text, hash_text, carries_signature, carries_hash, is_extension, is_chunk_line, line_signature, line_hash}
use Rattle.stream.specs.Bytes.{same, is_hex}
use Rattle.stream.specs.Limits.{size_digits}
use Rattle.stream.specs.Lines.{crlf, ends_with}
use Rattle.stream.specs.Numbers.{is_hex_number}
use Rattle.stream.specs.Template.{run, past, starts_with}
use Rattle.stream.proofs.Truth.{left_holds, right_holds, same_equal}
use Rattle.exactness.specs.Beginning.{hash_before}
use Rattle.exactness.specs.Shows.{chunk_line, signed, hashed}
use Rattle.exactness.proofs.Clean.{below_bytes}

-- a run and what comes after it
run_past_joined : (p : ℕ → Bool) (l : List ℕ) → run p l ++ past p l ≡ l
unfolding run past
run_past_joined p [] = refl
run_past_joined p (b ∷ l) = by (p b) (run_past_joined p l)
  where
    by : (t : Bool) → run p l ++ past p l ≡ l
        → ◌≡◌ {A = List ℕ} (elim t [ true ↦ b ∷ run p l | false ↦ [] ] ++ elim t [ true ↦ past p l | false ↦ b ∷ l ]) (b ∷ l)
    by true e = ap (λ (k : List ℕ). b ∷ k) e
    by false e = refl

-- the signature of a line is 64 bytes, and so is its hash
pub signature_bytes : (l : List ℕ) → are_bytes (line_signature l) ≡ true
unfolding line_signature
signature_bytes l = below_bytes (base64_bytes 64 (signature_text l)) (bytes_below 64 (signature_text l))

pub signature_length : (l : List ℕ) → length (line_signature l) ≡ 64
unfolding line_signature
signature_length l = bytes_length 64 (signature_text l)

pub hash_bytes : (l : List ℕ) → are_bytes (line_hash l) ≡ true
unfolding line_hash
hash_bytes l = below_bytes (base64_bytes 64 (hash_text l)) (bytes_below 64 (hash_text l))

pub hash_length : (l : List ℕ) → length (line_hash l) ≡ 64
unfolding line_hash
hash_length l = bytes_length 64 (hash_text l)

hashed_some : (h : List ℕ) → length h ≡ 64 → hashed h ≡ ouihash ++ text_of h
hashed_some [] e = absurd (omega arith)
hashed_some (b ∷ h) e = refl

-- ---- what comes after the size

-- a mark, and 64 bytes in base64 after it
marked : (mark e : List ℕ) → starts_with mark e ≡ true → is_base64 64 (drop (length mark) e) ≡ true
    → mark ++ text_of (base64_bytes 64 (drop (length mark) e)) ≡ e
unfolding starts_with
marked mark e s b =
    ap (λ (m : List ℕ). mark ++ m) (bytes_text 64 (drop (length mark) e) b)
    ∙ ap (λ (m : List ℕ). m ++ drop (length mark) e) (same_equal mark (take (length mark) e) s)
    ∙ take-append-drop (length mark) e

-- nothing, a signature or a hash, by which of the two marks it has
is_bare : (e : List ℕ) → is_extension e ≡ true → starts_with ouisig e ≡ false → starts_with ouihash e ≡ false → [] ≡ e
unfolding is_extension
is_bare [] g s h = refl
is_bare (x ∷ e) g s h = absurd (false≢true (rw (le-leb 1 (suc (length e)) (omega arith), s, h) at g))

is_signature : (e : List ℕ) → is_extension e ≡ true → starts_with ouisig e ≡ true → starts_with ouihash e ≡ false
    → ouisig ++ text_of (base64_bytes 64 (drop (length ouisig) e)) ≡ e
unfolding is_extension starts_with same
is_signature [] g s h = absurd (false≢true s)
is_signature (x ∷ e) g s h =
    let k = rw (le-leb 1 (suc (length e)) (omega arith), s, h) at g in
    marked ouisig (x ∷ e) s (sym (or-false _) ∙ k)

is_hash : (e : List ℕ) → is_extension e ≡ true → starts_with ouisig e ≡ false → starts_with ouihash e ≡ true
    → ouihash ++ text_of (base64_bytes 64 (drop (length ouihash) e)) ≡ e
unfolding is_extension starts_with same
is_hash [] g s h = absurd (false≢true h)
is_hash (x ∷ e) g s h = marked ouihash (x ∷ e) h (rw (le-leb 1 (suc (length e)) (omega arith), s, h) at g)

-- ---- the line

module _ (l : List ℕ) (h : is_chunk_line l ≡ true) where
  abbrev end_good : Bool
  end_good = ends_with crlf l

  abbrev size_good : Bool
  size_good = is_hex_number size_digits (size_text l)

  abbrev more_good : Bool
  more_good = is_extension (extension l)

  ends_well : end_good ≡ true
  unfolding is_chunk_line
  ends_well = left_holds end_good (size_good && more_good) h

  pub size_well : size_good ≡ true
  unfolding is_chunk_line
  size_well = left_holds size_good more_good (right_holds end_good (size_good && more_good) h)

  more_well : more_good ≡ true
  unfolding is_chunk_line
  more_well = right_holds size_good more_good (right_holds end_good (size_good && more_good) h)

  -- the size, what comes after it, and CR LF
  line_joined : chunk_line (size_text l) (extension l) ≡ l
  unfolding ends_with
  line_joined =
      let e : crlf ≡ drop (length l - 2) l = same_equal crlf (drop (length l - 2) l) ends_well in
      ap (λ (k : List ℕ). k ++ crlf) (run_past_joined is_hex (line_text l))
      ∙ ap (λ (k : List ℕ). line_text l ++ k) e
      ∙ take-append-drop (length l - 2) l

  -- the first line, where the bytes begin at a
  pub first_again : (a : ℕ) → carries_signature l ≡ false → carries_hash l ≡ leb 1 a → chunk_line (size_text l) (hashed (hash_before a l)) ≡ l
  unfolding carries_signature carries_hash line_hash
  first_again zero s k = ap (chunk_line (size_text l)) (is_bare (extension l) more_well s k) ∙ line_joined
  first_again (suc a) s k =
      let e = is_hash (extension l) more_well s (k ∙ le-leb 1 (suc a) (omega arith)) in
      ap (chunk_line (size_text l)) (hashed_some (line_hash l) (hash_length l) ∙ e) ∙ line_joined

  pub signed_again : carries_signature l ≡ true → carries_hash l ≡ false → chunk_line (size_text l) (signed (line_signature l)) ≡ l
  unfolding carries_signature carries_hash line_signature
  signed_again s k = ap (chunk_line (size_text l)) (is_signature (extension l) more_well s k) ∙ line_joined
