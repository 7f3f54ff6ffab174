-- The value of `X-Ouinet-Sig0` judged, test by test. Assumes nothing.
use mathlib.Core.Bool.{Bool, true, false}
use mathlib.Core.List.{List, [], ◌∷◌}
use mathlib.Core.Path.{◌≡◌, ◌∙◌}
use Prim.Native.Nat.{ℕ, ◌+◌, ◌≤◌, ◌<◌}
use lib.ListN.{length, drop}
use Rattle.octets.specs.Octets.{octets}
use Rattle.base64_text.specs.Base64.{is_base64, base64_bytes}
use Rattle.std.specs.Prelude.{Some, None}
use Rattle.stream.specs.Bytes.{is_digit, is_quoted}
use Rattle.stream.specs.Numbers.{is_decimal}
use Rattle.stream.specs.Signatures.{is_sig0}
use Rattle.stream.specs.Template.{Part, text, bytes, gap, Scanned, parts, unlike, scan, starts_with}
use Rattle.text.proofs.SameLaws.{both_false}
use Rattle.classes.proofs.ScanLaws.{scan_text, scan_unlike, scan_end, scan_over}
use Rattle.params.specs.HeadSig.{head_sig_of, head_sig_in, ReadsSig0}
use Rattle.params.specs.Parts.{Inside, run_bytes}
use Rattle.params.specs.declared.parts.Run.{Run}

-- the parts after the signature, after the names, after `created`, after the key
abbrev pub quote_parts : List Part
quote_parts = text (octets "\"") ∷ []

abbrev pub signature_parts : List Part
signature_parts = text (octets "signature=\"") ∷ bytes is_quoted ∷ quote_parts

abbrev pub name_parts : List Part
name_parts = text (octets "headers=\"") ∷ bytes is_quoted ∷ text (octets "\",") ∷ gap ∷ signature_parts

abbrev pub created_parts : List Part
created_parts = text (octets "created=") ∷ bytes is_digit ∷ text (octets ",") ∷ gap ∷ name_parts

sig0_none : (value : List ℕ) (s : Scanned) → is_sig0 s ≡ false → ReadsSig0 value s None
unfolding head_sig_of
sig0_none value s e = record { meaning = rw e; places = tt }

pub sig0_unlike : (value : List ℕ) (s : Scanned) → s ≡ unlike → ReadsSig0 value s None
unfolding is_sig0
sig0_unlike value s e = sig0_none value s (rw e)

module _ (value k c n g : List ℕ) where
  abbrev scanned : Scanned
  scanned = parts (k ∷ c ∷ n ∷ g ∷ [])

  pub key_bad : is_base64 32 k ≡ false → ReadsSig0 value scanned None
  unfolding is_sig0
  key_bad e = sig0_none value scanned (rw e)

  pub created_bad : is_decimal 12 c ≡ false → ReadsSig0 value scanned None
  unfolding is_sig0
  created_bad e = sig0_none value scanned (rw (e, both_false (is_base64 32 k)))

  pub signature_bad : is_base64 64 g ≡ false → ReadsSig0 value scanned None
  unfolding is_sig0
  signature_bad e = sig0_none value scanned (rw (e, both_false (is_decimal 12 c), both_false (is_base64 32 k)))

-- all tests passed: the key k, `created` and the names at their runs, the signature g
module _ (value k g : List ℕ) (c n : Run) (i : Inside value c) (j : Inside value n) where
  pub sig0_good : is_base64 32 k ≡ true → is_decimal 12 (run_bytes value c) ≡ true → is_base64 64 g ≡ true
      → ReadsSig0 value (parts (k ∷ run_bytes value c ∷ run_bytes value n ∷ g ∷ []))
      (Some (record {
        key = base64_bytes 32 k;
        signature = base64_bytes 64 g;
        created_start = c.start;
        created_end = c.end;
        names_start = n.start;
        names_end = n.end;
      }))
  unfolding head_sig_of head_sig_in is_sig0
  sig0_good e f h =
      record {
        meaning = rw (e, f, h);
        places = record { created_ordered = i.ordered; created_within = i.ends; names_ordered = j.ordered; names_within = j.ends };
      }

-- ---- the quote after the signature, at the value's end

module _ (value : List ℕ) (at : ℕ) where
  abbrev quoted : Bool
  quoted = starts_with (octets "\"") (drop at value)

  pub quote_missing : quoted ≡ false → scan quote_parts (drop at value) ≡ unlike
  quote_missing e = scan_unlike [] value at (octets "\"") e

  pub quote_over : quoted ≡ true → at + 1 < length value → scan quote_parts (drop at value) ≡ unlike
  quote_over e h = scan_text [] value at (octets "\"") e ∙ scan_over value (at + 1) h

  pub quote_last : quoted ≡ true → length value ≤ at + 1 → scan quote_parts (drop at value) ≡ parts []
  quote_last e h = scan_text [] value at (octets "\"") e ∙ scan_end value (at + 1) h
