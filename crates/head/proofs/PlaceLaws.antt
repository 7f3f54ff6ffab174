-- A part of a part of a text, by its places in the whole text. Assumes nothing.
use mathlib.Core.Bool.{false}
use mathlib.Core.List.{List, []}
use mathlib.Core.Path.{◌≡◌, refl, sym, ap, ap₂, ◌∙◌}
use Prim.Native.Nat.{ℕ, ◌+◌, ◌-◌, ◌≤◌}
use native.Mathlib.Nat.{sub-zero}
use native.Mathlib.Omega.{arith}
use lib.ListN.{length}
use Rattle.std.specs.Prelude.{Some, None}
use Rattle.stream.specs.Bytes.{same}
use Rattle.stream.specs.Signatures.{is_sig0, sig0_scan}
use Rattle.stream.specs.Template.{Scanned, starts_with, scan, is_like}
use Rattle.places.specs.Place.{part_of}
use Rattle.places.proofs.PlaceLaws.{part_front, part_length, part_moved}
use Rattle.params.specs.HeadSig.{HeadSig, head_sig_of, head_sig_in, ReadsSig0}
use Rattle.params.specs.declared.sig0.Sig0.{Sig0}

pub part_inner : (l : List ℕ) (n start end : ℕ) → start ≤ end → end ≤ n → part_of (part_of l 0 n) start end ≡ part_of l start end
unfolding part_of
part_inner l n start end h k = rw (sub-zero n) (part_front l n start end h k)

-- ---- `X-Ouinet-Sig0` with its places in the whole text

abbrev pub moved : ℕ → Sig0 → Sig0
moved a r =
    record {
      key = r.key;
      signature = r.signature;
      created_start = a + r.created_start;
      created_end = a + r.created_end;
      names_start = a + r.names_start;
      names_end = a + r.names_end;
    }

abbrev with_texts : Sig0 → List ℕ → List ℕ → HeadSig
with_texts r created names = record { key = r.key; created = created; names = names; signature = r.signature }

module _ (text : List ℕ) (a b : ℕ) (h : a ≤ b) (k : b ≤ length text) where
  module _ {value : List ℕ} (e : value ≡ part_of text a b) {s : Scanned} {r : Sig0} (x : ReadsSig0 value s (Some r)) where
    short : length value ≡ b - a
    short = ap length e ∙ part_length text a b k

    created_moved : part_of value r.created_start r.created_end ≡ part_of text (a + r.created_start) (a + r.created_end)
    created_moved =
        ap (λ (v : List ℕ). part_of v r.created_start r.created_end) e
        ∙ part_moved text a b _ _ x.places.created_ordered (omega (arith, short, x.places.created_within))

    names_moved : part_of value r.names_start r.names_end ≡ part_of text (a + r.names_start) (a + r.names_end)
    names_moved =
        ap (λ (v : List ℕ). part_of v r.names_start r.names_end) e
        ∙ part_moved text a b _ _ x.places.names_ordered (omega (arith, short, x.places.names_within))

    in_text : head_sig_in text (moved a r) ≡ head_sig_in value r
    unfolding head_sig_in
    in_text = ap₂ (with_texts r) (sym created_moved) (sym names_moved)

    sig0_moved : ReadsSig0 text s (Some (moved a r))
    sig0_moved =
        record {
          meaning = ap Some in_text ∙ x.meaning;
          places =
              record {
                created_ordered = omega (arith, x.places.created_ordered);
                created_within = omega (arith, short, x.places.created_within);
                names_ordered = omega (arith, x.places.names_ordered);
                names_within = omega (arith, short, x.places.names_within);
              };
        }

  -- of the value that stands from a up to b
  pub sig0_found : {want : List ℕ} → part_of text a b ≡ want → {value : List ℕ} → value ≡ part_of text a b → {r : Sig0} → ReadsSig0 value (sig0_scan value) (Some r) → ReadsSig0 text (sig0_scan want) (Some (moved a r))
  sig0_found w e x = rw (e ∙ w) at (sig0_moved e x)

-- of no bytes
unlike : is_like (sig0_scan []) ≡ false
unfolding sig0_scan scan starts_with same
unlike = refl

pub sig0_missing : (text : List ℕ) {want : List ℕ} → [] ≡ want → ReadsSig0 text (sig0_scan want) None
unfolding head_sig_of is_sig0
sig0_missing text w = record { meaning = rw (← w, unlike) refl; places = tt }
