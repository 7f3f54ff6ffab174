-- The runs, one after the other: what is left of the scan after each. Assumes nothing.
use mathlib.Core.List.{List, [], ◌∷◌}
use mathlib.Core.Path.{◌≡◌, sym, ap, ◌∙◌}
use Prim.Native.Nat.{ℕ}
use native.Mathlib.Omega.{arith}
use lib.ListN.{drop}
use Rattle.std.specs.Prelude.{Some, None}
use Rattle.octets.specs.Octets.{octets}
use Rattle.classes.specs.Class.{class_of}
use Rattle.stream.specs.Bytes.{is_digit, is_quoted}
use Rattle.stream.specs.Signatures.{key_parts, sig0_scan}
use Rattle.stream.specs.Template.{Part, text, bytes, gap, Scanned, unlike, keep, scan}
use Rattle.params.specs.Parts.{Reads, run_bytes}
use Rattle.params.specs.declared.parts.Run.{Run}
use Rattle.params.proofs.HeadSigLaws.{created_parts, name_parts, signature_parts, quote_parts, sig0_unlike, quote_missing, quote_over, quote_last}
use Rattle.params.proofs.sig0.read_sig0.Goals as goal

-- ---- the bytes of the runs so far, in front of what the parts after them make of the value

abbrev created_first : List Part
created_first = text (octets "created=") ∷ bytes is_digit ∷ text (octets ",") ∷ gap ∷ []

abbrev names_first : List Part
names_first = text (octets "headers=\"") ∷ bytes is_quoted ∷ text (octets "\",") ∷ gap ∷ []

abbrev signature_first : List Part
signature_first = text (octets "signature=\"") ∷ bytes is_quoted ∷ []

module _ {v : List ℕ} where
  key_none : Reads key_parts v 0 None → sig0_scan v ≡ unlike
  unfolding sig0_scan
  key_none k = k.meaning created_parts

  module _ {key : Run} (key_read : Reads key_parts v 0 (Some key)) where
    abbrev keep_key : Scanned → Scanned
    keep_key x = keep (run_bytes v key) x

    after_key : sig0_scan v ≡ keep_key (scan created_parts (drop key.next v))
    unfolding sig0_scan
    after_key = key_read.meaning created_parts

    created_none : Reads created_first v key.next None → sig0_scan v ≡ unlike
    created_none k = after_key ∙ ap keep_key (k.meaning name_parts)

    module _ {created : Run} (created_read : Reads created_first v key.next (Some created)) where
      abbrev keep_created : Scanned → Scanned
      keep_created x = keep_key (keep (run_bytes v created) x)

      after_created : sig0_scan v ≡ keep_created (scan name_parts (drop created.next v))
      after_created = after_key ∙ ap keep_key (created_read.meaning name_parts)

      names_none : Reads names_first v created.next None → sig0_scan v ≡ unlike
      names_none k = after_created ∙ ap keep_created (k.meaning signature_parts)

      module _ {names : Run} (names_read : Reads names_first v created.next (Some names)) where
        abbrev keep_names : Scanned → Scanned
        keep_names x = keep_created (keep (run_bytes v names) x)

        after_names : sig0_scan v ≡ keep_names (scan signature_parts (drop names.next v))
        after_names = after_created ∙ ap keep_created (names_read.meaning signature_parts)

        signature_none : Reads signature_first v names.next None → sig0_scan v ≡ unlike
        signature_none k = after_names ∙ ap keep_names (k.meaning quote_parts)

        module _ {signature : Run} (signature_read : Reads signature_first v names.next (Some signature)) where
          abbrev keep_all : Scanned → Scanned
          keep_all x = keep_names (keep (run_bytes v signature) x)

          after_signature : {s : Scanned} → scan quote_parts (drop signature.next v) ≡ s → sig0_scan v ≡ keep_all s
          after_signature e = after_names ∙ ap keep_names (signature_read.meaning quote_parts) ∙ ap keep_all e

-- ---- the answers

pub returns-in_err-key : goal.returns-in_err-key
returns-in_err-key c = rw c.from_residual.ensures (sig0_unlike _ _ (key_none c.in_err-key.ensures))

pub returns-in_err-created : goal.returns-in_err-created
unfolding class_of
returns-in_err-created c = rw c.from_residual-in_err-created.ensures (sig0_unlike _ _ (created_none c.in_ok-key.ensures c.in_err-created.ensures))

pub returns-in_err-names : goal.returns-in_err-names
unfolding class_of
returns-in_err-names c = rw c.from_residual-in_err-names.ensures (sig0_unlike _ _ (names_none c.in_ok-key.ensures c.in_ok-created.ensures c.in_err-names.ensures))

pub returns-in_err-signature : goal.returns-in_err-signature
unfolding class_of
returns-in_err-signature c =
    rw c.from_residual-in_err-signature.ensures
    (sig0_unlike _ _ (signature_none c.in_ok-key.ensures c.in_ok-created.ensures c.in_ok-names.ensures c.in_err-signature.ensures))

pub returns-then-not-starts_with : goal.returns-then-not-starts_with
unfolding class_of
returns-then-not-starts_with c =
    sig0_unlike _ _ (after_signature c.in_ok-key.ensures c.in_ok-created.ensures c.in_ok-names.ensures c.in_ok-signature.ensures
    (quote_missing c.args.value.now c.in_ok-signature.signature.next (sym c.starts_with.ensures ∙ c.if-not-starts_with.true)))

pub overflow_add-signature : goal.overflow_add-signature
overflow_add-signature c = omega (arith, c.in_ok-signature.ensures.inside.goes_on, c.well_formed)

pub returns-then-signature-value : goal.returns-then-signature-value
unfolding class_of
returns-then-signature-value c =
    sig0_unlike _ _ (after_signature c.in_ok-key.ensures c.in_ok-created.ensures c.in_ok-names.ensures c.in_ok-signature.ensures
    (quote_over _ _ (sym c.starts_with.ensures ∙ c.if-not-starts_with.false) c.if-signature-value.true))

pub judge-requires : goal.judge-requires
judge-requires c = (c.in_ok-key.ensures.inside, c.in_ok-created.ensures.inside, c.in_ok-names.ensures.inside, c.in_ok-signature.ensures.inside)

pub returns : goal.returns
unfolding class_of
returns c =
    rw (after_signature c.in_ok-key.ensures c.in_ok-created.ensures c.in_ok-names.ensures c.in_ok-signature.ensures
    (quote_last _ _ (sym c.starts_with.ensures ∙ c.if-not-starts_with.false) c.if-signature-value.false)) c.judge.ensures
