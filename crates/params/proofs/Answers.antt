-- What a caller learns from each answer: whether the value is good, and what it then says. Assumes nothing.
use mathlib.Core.Bool.{true}
use mathlib.Core.List.{List}
use mathlib.Core.Path.{◌≡◌, refl, ap, ◌∙◌}
use Prim.Native.Nat.{ℕ, ◌≤◌}
use lib.ListN.{length}
use Rattle.std.specs.Prelude.{Option, Some, None, is_some, option_map}
use Rattle.base64_text.specs.Base64.{is_base64, base64_bytes}
use Rattle.stream.specs.Bytes.{between}
use Rattle.stream.specs.Numbers.{is_decimal, decimal_value}
use Rattle.stream.specs.Signatures.{is_injection, id_text, time_text, is_bsigs, key_text, block_size_text, is_sig0, created_text, names_text, head_signature_text}
use Rattle.stream.specs.Template.{Scanned, is_like}
use Rattle.stream.proofs.Truth.{left_holds, right_holds, within}
use Rattle.params.proofs.Options.{is_picked, picked}
use Rattle.params.specs.BlockSigs.{bsigs_of}
use Rattle.params.specs.HeadSig.{HeadSig, head_sig_of, head_sig_in, ReadsSig0}
use Rattle.params.specs.Injection.{injection_of, padded}
use Rattle.places.specs.Place.{part_of}
use Rattle.params.specs.declared.sig0.Sig0.{Sig0}

-- ---- `X-Ouinet-Injection`

module _ (s : Scanned) where
  pub injection_says : is_some (injection_of s) ≡ is_injection s
  unfolding injection_of
  injection_says = is_picked (is_injection s) _

  module _ (h : is_injection s ≡ true) where
    pub injection_is : injection_of s ≡ Some (record { id_length = length (id_text s); id = padded 64 (id_text s); time = decimal_value (time_text s) })
    unfolding injection_of
    injection_is = rw h

    pub id_fits : length (id_text s) ≤ 64
    unfolding is_injection
    id_fits = (within 1 64 _ (left_holds (between 1 64 (length (id_text s))) (is_decimal 12 (time_text s)) (right_holds (is_like s) _ h))).1

-- ---- `X-Ouinet-BSigs`

module _ (s : Scanned) where
  pub bsigs_says : is_some (bsigs_of s) ≡ is_bsigs s
  unfolding bsigs_of
  bsigs_says = is_picked (is_bsigs s) _

  module _ (h : is_bsigs s ≡ true) where
    pub bsigs_is : bsigs_of s ≡ Some (record { key = base64_bytes 32 (key_text s); size = decimal_value (block_size_text s) })
    unfolding bsigs_of
    bsigs_is = rw h

    pub size_fits : (1 ≤ decimal_value (block_size_text s)) × (decimal_value (block_size_text s) ≤ 65536)
    unfolding is_bsigs
    size_fits = within 1 65536 _ (right_holds (is_decimal 5 (block_size_text s)) _ (right_holds (is_base64 32 (key_text s)) _ (right_holds (is_like s) _ h)))

-- ---- `X-Ouinet-Sig0`

pub sig0_says : {value : List ℕ} {s : Scanned} {r : Option Sig0} → ReadsSig0 value s r → is_some r ≡ is_sig0 s
unfolding head_sig_of
sig0_says {value} {s} {r} h = by r ∙ ap is_some h.meaning ∙ is_picked (is_sig0 s) _
  where
    by : (o : Option Sig0) → is_some o ≡ is_some (option_map (head_sig_in value) o)
    by None = refl
    by (Some g) = refl

module _ {value : List ℕ} {s : Scanned} {g : Sig0} (h : ReadsSig0 value s (Some g)) where
  said : (is_sig0 s ≡ true) × (head_sig_in value g ≡ record { key = base64_bytes 32 (key_text s); created = created_text s; names = names_text s; signature = base64_bytes 64 (head_signature_text s) })
  unfolding head_sig_of
  said = picked (is_sig0 s) _ h.meaning

  pub sig0_good : is_sig0 s ≡ true
  sig0_good = said.0

  pub sig0_is : head_sig_in value g ≡ record { key = base64_bytes 32 (key_text s); created = created_text s; names = names_text s; signature = base64_bytes 64 (head_signature_text s) }
  sig0_is = said.1

  pub sig0_key : g.key ≡ base64_bytes 32 (key_text s)
  unfolding head_sig_in
  sig0_key = ap (λ (x : HeadSig). x.key) sig0_is

  pub sig0_created : part_of value g.created_start g.created_end ≡ created_text s
  unfolding head_sig_in
  sig0_created = ap (λ (x : HeadSig). x.created) sig0_is

  pub sig0_names : part_of value g.names_start g.names_end ≡ names_text s
  unfolding head_sig_in
  sig0_names = ap (λ (x : HeadSig). x.names) sig0_is

  pub sig0_signature : g.signature ≡ base64_bytes 64 (head_signature_text s)
  unfolding head_sig_in
  sig0_signature = ap (λ (x : HeadSig). x.signature) sig0_is
