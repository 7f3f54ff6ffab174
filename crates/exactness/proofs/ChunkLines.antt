-- A chunk line that is written with hex digits, and with nothing, a signature or a hash after them, is read as it was meant.
-- Assumes nothing.
use mathlib.Core.Bool.{Bool, true, false}
use mathlib.Core.List.{List, [], ◌∷◌, ◌++◌}
use mathlib.Core.Path.{◌≡◌, refl, sym, ap}
use Prim.Native.Nat.{ℕ, zero, suc, ◌+◌, ◌-◌, ◌≤◌}
use native.Mathlib.Omega.{arith}
use borrow.Author.Tests.{le-leb}
use lib.Dec.{leb}
use lib.ListN.{length, length-append}
use lib.Pow.{are_bytes}
use lib.Seq.{take_at}
use Rattle.base64_text.specs.Base64.{text_of, is_base64}
use Rattle.base64_text.proofs.Laws.{text_length}
use Rattle.base64_text.proofs.Written.{text_is, text_bytes}
use Rattle.stream.specs.Blocks.{line_text, size_text, extension, ouisig, ouihash, carries_signature, carries_hash, is_extension, is_chunk_line, chunk_size, line_signature, line_hash}
use Rattle.stream.specs.Bytes.{all, same, is_hex}
use Rattle.stream.specs.Limits.{line_limit, size_digits, body_limit}
use Rattle.stream.specs.Lines.{crlf, ends_with}
use Rattle.stream.specs.Numbers.{is_hex_number}
use Rattle.stream.specs.Range.{Range}
use Rattle.stream.specs.Template.{run, past, starts_with}
use Rattle.stream.proofs.Truth.{left_holds, right_holds, within}
use Rattle.exactness.specs.Beginning.{hash_before}
use Rattle.exactness.specs.Good.{EndsFirst, InRange, GoodLine}
use Rattle.exactness.specs.Shows.{chunk_line, signed, hashed, Writes, Before}
use Rattle.exactness.proofs.Clean.{is_clean, all_both, digits_clean, text_clean, clean_ends}

-- what may come after the size of a line: nothing, a signature or a hash
pub data More : List ℕ → Bool → Bool → Type 0 where
  bare : More [] false false
  signature : (s : List ℕ) → are_bytes s ≡ true → length s ≡ 64 → More (signed s) true false
  hash_before_lem : (s : List ℕ) → are_bytes s ≡ true → length s ≡ 64 → More (ouihash ++ text_of s) false true

-- ---- runs of a class

run_on : (p : ℕ → Bool) (l m : List ℕ) → all p l ≡ true → run p m ≡ [] → run p (l ++ m) ≡ l
unfolding all run
run_on p [] m h e = e
run_on p (b ∷ l) m h e =
    rw (left_holds (p b) (all p l) h, run) (ap (λ (k : List ℕ). b ∷ k) (run_on p l m (right_holds (p b) (all p l) h) e))

past_on : (p : ℕ → Bool) (l m : List ℕ) → all p l ≡ true → past p m ≡ m → past p (l ++ m) ≡ m
unfolding all past
past_on p [] m h e = e
past_on p (b ∷ l) m h e = rw (left_holds (p b) (all p l) h, past) (past_on p l m (right_holds (p b) (all p l) h) e)

-- ---- what comes after the size

more_clean : {m : List ℕ} {due hashes : Bool} → More m due hashes → all is_clean m ≡ true
unfolding all
more_clean bare = refl
more_clean (signature s h e) = text_clean s
more_clean (hash_before_lem s h e) = text_clean s

more_no_digit : {m : List ℕ} {due hashes : Bool} → More m due hashes → (run is_hex m ≡ []) × (past is_hex m ≡ m)
unfolding run past
more_no_digit bare = (refl, refl)
more_no_digit (signature s h e) = (refl, refl)
more_no_digit (hash_before_lem s h e) = (refl, refl)

is_text_lem : (s : List ℕ) → are_bytes s ≡ true → length s ≡ 64 → is_base64 64 (text_of s) ≡ true
is_text_lem s h e = rw e at (text_is s h)

more_short : {m : List ℕ} {due hashes : Bool} → More m due hashes → length m ≤ 97
more_short bare = omega arith
more_short (signature s h e) = omega (arith, length-append ouisig (text_of s), text_length 64 (text_of s) (is_text_lem s h e))
more_short (hash_before_lem s h e) = omega (arith, length-append ouihash (text_of s), text_length 64 (text_of s) (is_text_lem s h e))

more_signs : {m : List ℕ} {due hashes : Bool} → More m due hashes → starts_with ouisig m ≡ due
unfolding starts_with same
more_signs bare = refl
more_signs (signature s h e) = refl
more_signs (hash_before_lem s h e) = refl

more_hashes : {m : List ℕ} {due hashes : Bool} → More m due hashes → starts_with ouihash m ≡ hashes
unfolding starts_with same
more_hashes bare = refl
more_hashes (signature s h e) = refl
more_hashes (hash_before_lem s h e) = refl

more_good_lem : {m : List ℕ} {due hashes : Bool} → More m due hashes → is_extension m ≡ true
unfolding is_extension starts_with same
more_good_lem bare = refl
more_good_lem (signature s h e) = rw (le-leb 1 (length (signed s)) (omega (arith, length-append ouisig (text_of s))), is_text_lem s h e)
more_good_lem (hash_before_lem s h e) = rw (le-leb 1 (length (ouihash ++ text_of s)) (omega (arith, length-append ouihash (text_of s))), is_text_lem s h e)

module _ {digits more : List ℕ} {n : ℕ} {due hashes : Bool} (w : Writes digits n) (m : More more due hashes) where
  hex : all is_hex digits ≡ true
  unfolding is_hex_number
  hex = left_holds (all is_hex digits) _ w.text

  line_text_lem : line_text (chunk_line digits more) ≡ digits ++ more
  line_text_lem = take_at (digits ++ more) crlf (length (chunk_line digits more) - 2) (omega (arith, length-append (digits ++ more) crlf))

  size_text_lem : size_text (chunk_line digits more) ≡ digits
  size_text_lem = rw line_text_lem (run_on is_hex digits more hex (more_no_digit m).0)

  after_size : extension (chunk_line digits more) ≡ more
  after_size = rw line_text_lem (past_on is_hex digits more hex (more_no_digit m).1)

  pub line_ends : EndsFirst (ends_with crlf) (chunk_line digits more)
  line_ends = clean_ends (digits ++ more) (all_both is_clean digits more (digits_clean digits hex) (more_clean m))

  pub line_short : length (chunk_line digits more) ≤ line_limit
  unfolding is_hex_number
  line_short =
      let d = within 1 size_digits (length digits) (right_holds (all is_hex digits) _ w.text) in
      omega (arith, d.1, more_short m, length-append digits more, length-append (digits ++ more) crlf)

  pub line_size_lem : chunk_size (chunk_line digits more) ≡ n
  unfolding chunk_size
  line_size_lem = rw size_text_lem w.value

  pub line_carries : carries_signature (chunk_line digits more) ≡ due
  unfolding carries_signature
  line_carries = rw after_size (more_signs m)

  pub line_hashes : carries_hash (chunk_line digits more) ≡ hashes
  unfolding carries_hash
  line_hashes = rw after_size (more_hashes m)

  pub line_is : is_chunk_line (chunk_line digits more) ≡ true
  unfolding is_chunk_line
  line_is = rw (line_ends.there, size_text_lem, w.text, after_size) (more_good_lem m)

-- the signature that a line carries is the one that was written
pub line_signature_lem : {digits : List ℕ} {n : ℕ} (s : List ℕ) → Writes digits n → are_bytes s ≡ true → length s ≡ 64
    → line_signature (chunk_line digits (signed s)) ≡ s
unfolding line_signature
line_signature_lem s w h e = rw (after_size w (signature s h e)) (rw e at (text_bytes s h))

-- ---- the hash before the first block

-- what the first line has after its size, where the bytes begin at a
pub hashed_more : (a : ℕ) (before : List ℕ) → Before a before → More (hashed before) false (leb 1 a)
hashed_more zero before h = rw h bare
hashed_more (suc a) [] h = absurd (omega (arith, h.1))
hashed_more (suc a) (b ∷ hash) h = rw (le-leb 1 (suc a) (omega arith)) (hash_before_lem (b ∷ hash) h.0 h.1)

-- and it is read as it was written
pub first_hash_lem : {digits : List ℕ} {n : ℕ} (a : ℕ) (before : List ℕ) → Writes digits n → Before a before
    → hash_before a (chunk_line digits (hashed before)) ≡ before
unfolding line_hash
first_hash_lem zero before w h = sym h
first_hash_lem (suc a) [] w h = absurd (omega (arith, h.1))
first_hash_lem (suc a) (b ∷ hash) w h = rw (after_size w (hash_before_lem (b ∷ hash) h.0 h.1)) (rw h.1 at (text_bytes (b ∷ hash) h.0))

-- ---- the rules

-- a line is good, where its size is
pub line_good : {digits more : List ℕ} {n : ℕ} {due hashes : Bool} (N : ℕ) (r : Range) (sofar : ℕ) → Writes digits n → More more due hashes
    → n ≤ N → InRange r sofar n → sofar + n ≤ body_limit → GoodLine N r sofar (chunk_line digits more)
line_good N r sofar w m h i k =
    record {
      ends = line_ends w m;
      short = line_short w m;
      text = line_is w m;
      most = rw (line_size_lem w m) h;
      carried = rw (line_size_lem w m) i;
      total = rw (line_size_lem w m) k;
    }
