-- Laws on the state as bytes: its parts are written one after the other, and reading gives back what was written. Assumes nothing.
use mathlib.Core.Bool.{Bool, true, false}
use mathlib.Core.Path.{◌≡◌, refl, sym, ap, ◌∙◌}
use mathlib.Core.List.{List, [], ◌∷◌, ◌++◌, append_assoc, append-nil}
use Prim.Native.Nat.{ℕ, ◌+◌, ◌%◌, ◌^◌, ◌≤◌, ◌<◌}
use native.Mathlib.Omega.{arith}
use borrow.Author.Tests.{le-leb}
use denote.Array.{each}
use denote.Builtin.{u32}
use denote.Laws.{Is}
use denote.Shadow.{shadow}
use mir.Val.{Val}
use lib.Dec.{leb}
use lib.ListN.{length, drop}
use lib.Seq.{sets, sets-eq, length-sets, drop_at}
use Rattle.octets.specs.Choice.{pick}
use Rattle.ranges.specs.declared.extent.Extent.{Extent}
use Rattle.ranges.specs.declared.extent.Extent.TheVariants as E
use Rattle.state.specs.declared.phase.Phase.{Phase}
use Rattle.state.specs.declared.phase.Phase.TheVariants as P
use Rattle.state.specs.declared.reader.Chain.{Chain}
use Rattle.state.specs.declared.reader.Fixed.{Fixed}
use Rattle.state.specs.declared.reader.Reader.{Reader}
use Rattle.state.specs.contracts.reader.Reader as declared
use Rattle.packing.specs.Parts.{little_endian, all_bytes, number_at}
use Rattle.layout.specs.State.{state_size, tag_of, first_of, second_of, phase_of, InPhase, kind_of, first_byte_of, last_byte_of, total_of, InExtent, extent_from, phase_bytes, fixed_bytes, chain_bytes, body_bytes, extent_bytes, encoded, stored, extent_in, fixed_in, chain_in, decoded}
use Rattle.packing.proofs.PartLaws.{sets_next, long_next, long_bytes, long_all, concat, At, past, part_there, number_there, Words, none, more}
use Rattle.layout.proofs.BodyLaws.{SoundBody, long_body, body_back}

-- ---- what the head fixed

abbrev fixed_front : Fixed → List ℕ
fixed_front f = all_bytes (f.accepted ∷ f.status ∷ f.block_size ∷ f.key ∷ [])

module _ (f : Fixed) (id : length f.id ≡ 64) where
  long_front : length (fixed_front f) ≡ 32
  long_front = long_all (f.accepted ∷ f.status ∷ f.block_size ∷ f.key ∷ [])

  long_id : length (fixed_front f ++ f.id) ≡ 96
  long_id = long_next (fixed_front f) f.id 32 64 96 long_front id refl

  pub long_fixed : length (fixed_bytes f) ≡ 104
  long_fixed = long_next (fixed_front f ++ f.id) (little_endian 8 f.id_length) 96 8 104 long_id (long_bytes 8 f.id_length) refl

  pub fixed_put : (d l₁ l₂ l₃ : List ℕ) → l₁ ≡ sets d 24 (fixed_front f) → l₂ ≡ sets l₁ 56 f.id → l₃ ≡ sets l₂ 120 (little_endian 8 f.id_length) → l₃ ≡ sets d 24 (fixed_bytes f)
  fixed_put d l₁ l₂ l₃ e₁ e₂ e₃ =
      let p = sets_next d l₁ l₂ (fixed_front f) f.id 24 32 56 e₁ long_front refl e₂ in
      sets_next d l₂ l₃ (fixed_front f ++ f.id) (little_endian 8 f.id_length) 24 96 120 p long_id refl e₃

-- ---- the extent

pub long_extent : (e : Extent) → length (extent_bytes e) ≡ 32
long_extent e = long_all (kind_of e ∷ first_byte_of e ∷ last_byte_of e ∷ total_of e ∷ [])

kind_small : (e : Extent) → kind_of e < 2 ^ 64
kind_small E.Whole = omega arith
kind_small (E.Part first last total) = omega arith

extent_same : (e : Extent) → extent_from (kind_of e) (first_byte_of e) (last_byte_of e) (total_of e) ≡ e
unfolding extent_from
extent_same E.Whole = refl
extent_same (E.Part first last total) = refl

module _ {whole : List ℕ} {ss : List (List ℕ)} (x : Extent) (s : InExtent x) (e : At whole 472 (extent_bytes x ∷ ss)) where
  extent_parts : At whole 472 (little_endian 8 (kind_of x) ∷ little_endian 8 (first_byte_of x) ∷ little_endian 8 (last_byte_of x) ∷ little_endian 8 (total_of x) ∷ ss)
  unfolding all_bytes concat
  extent_parts = record { there = e.there ∙ (simp (append_assoc, append-nil)) }

  extent_back : extent_in whole ≡ x
  unfolding extent_in
  extent_back =
      let a₁ = past extent_parts 8 (long_bytes 8 _) in
      let a₂ = past a₁ 8 (long_bytes 8 _) in
      let a₃ = past a₂ 8 (long_bytes 8 _) in
      rw (
        number_there (kind_of x) extent_parts (kind_small x),
        number_there (first_byte_of x) a₁ s.first,
        number_there (last_byte_of x) a₂ s.last,
        number_there (total_of x) a₃ s.total,
      )
      (extent_same x)

-- numbers within their types, and arrays with their lengths, as every value in code has them
pub record SoundFixed (f : Fixed) : Type 0 where
  pub extent : InExtent f.extent
  pub accepted : f.accepted < 2 ^ 64
  pub status : f.status < 2 ^ 64
  pub size : f.block_size < 2 ^ 64
  pub key : f.key < 2 ^ 64
  pub id : length f.id ≡ 64
  pub count : f.id_length < 2 ^ 64

module _ {whole : List ℕ} {ss ts : List (List ℕ)} (f : Fixed) (s : SoundFixed f) (e : At whole 24 (fixed_bytes f ∷ ss))
    (x : At whole 472 (extent_bytes f.extent ∷ ts)) where
  fixed_parts : At whole 24 (little_endian 8 f.accepted ∷ little_endian 8 f.status ∷ little_endian 8 f.block_size ∷ little_endian 8 f.key ∷ f.id ∷ little_endian 8 f.id_length ∷ ss)
  unfolding all_bytes concat
  fixed_parts = record { there = e.there ∙ (simp (append_assoc, append-nil)) }

  fixed_back : fixed_in whole ≡ f
  unfolding fixed_in
  fixed_back =
      let a₀ = fixed_parts in
      let a₁ = past a₀ 8 (long_bytes 8 _) in
      let a₂ = past a₁ 8 (long_bytes 8 _) in
      let a₃ = past a₂ 8 (long_bytes 8 _) in
      let a₄ = past a₃ 8 (long_bytes 8 _) in
      let a₅ = past a₄ 64 s.id in
      rw (
        number_there f.accepted a₀ s.accepted,
        number_there f.status a₁ s.status,
        number_there f.block_size a₂ s.size,
        extent_back f.extent s.extent x,
        number_there f.key a₃ s.key,
        part_there a₄ 64 s.id,
        number_there f.id_length a₅ s.count,
      )

-- ---- the chain

module _ (c : Chain) where
  pub long_chain : length c.hash ≡ 64 → length (chain_bytes c) ≡ 72
  long_chain h = long_next (little_endian 8 c.number.0) c.hash 8 64 72 (long_bytes 8 c.number.0) h refl

  pub chain_put : (d l₁ l₂ : List ℕ) → l₁ ≡ sets d 128 (little_endian 8 c.number.0) → l₂ ≡ sets l₁ 136 c.hash → l₂ ≡ sets d 128 (chain_bytes c)
  chain_put d l₁ l₂ e₁ e₂ = sets_next d l₁ l₂ (little_endian 8 c.number.0) c.hash 128 8 136 e₁ (long_bytes 8 c.number.0) refl e₂

pub record SoundChain (c : Chain) : Type 0 where
  pub number : c.number.0 < 2 ^ 64
  pub hash : length c.hash ≡ 64
  pub body : SoundBody c.body

module _ {whole : List ℕ} {ss ts : List (List ℕ)} (c : Chain) (s : SoundChain c) (e : At whole 128 (chain_bytes c ∷ ss)) (f : At whole 336 (body_bytes c.body ∷ ts)) where
  chain_parts : At whole 128 (little_endian 8 c.number.0 ∷ c.hash ∷ ss)
  unfolding concat
  chain_parts = record { there = e.there ∙ (simp append_assoc) }

  chain_back : chain_in whole ≡ c
  unfolding chain_in
  chain_back =
      let a = past chain_parts 8 (long_bytes 8 _) in
      rw (number_there c.number.0 chain_parts s.number, part_there a 64 s.hash, body_back c.body s.body f)

-- ---- the phase

tag_small : (p : Phase) → tag_of p < 2 ^ 64
tag_small (P.Head n) = omega arith
tag_small (P.HeadAsked n) = omega arith
tag_small (P.FirstLine n) = omega arith
tag_small (P.Data have size) = omega arith
tag_small (P.DataEnd have size) = omega arith
tag_small (P.NextLine have size) = omega arith
tag_small (P.BlockAsked size next) = omega arith
tag_small (P.Trailer have total) = omega arith
tag_small (P.EndAsked have total) = omega arith
tag_small (P.Closed total) = omega arith
tag_small (P.Complete total) = omega arith
tag_small (P.Refused n) = omega arith

phase_back : (p : Phase) → InPhase p → phase_of (tag_of p) (first_of p) (second_of p) ≡ p
unfolding phase_of
phase_back (P.Head n) h = refl
phase_back (P.HeadAsked n) h = refl
phase_back (P.FirstLine n) h = refl
phase_back (P.Data have size) h = refl
phase_back (P.DataEnd have size) h = refl
phase_back (P.NextLine have size) h = refl
phase_back (P.BlockAsked size next) h = refl
phase_back (P.Trailer have total) h = refl
phase_back (P.EndAsked have total) h = refl
phase_back (P.Closed total) h = refl
phase_back (P.Complete total) h = refl
phase_back (P.Refused n) h = let e : n % 256 ≡ n = omega (arith, h.refusal) in rw e

module _ {whole : List ℕ} {ss : List (List ℕ)} (p : Phase) (s : InPhase p) (e : At whole 0 (phase_bytes p ∷ ss)) where
  phase_parts : At whole 0 (little_endian 8 (tag_of p) ∷ little_endian 8 (first_of p) ∷ little_endian 8 (second_of p) ∷ ss)
  unfolding all_bytes concat
  phase_parts = record { there = e.there ∙ (simp (append_assoc, append-nil)) }

  phase_read : phase_of (number_at whole 0) (number_at whole 8) (number_at whole 16) ≡ p
  phase_read =
      let a₁ = past phase_parts 8 (long_bytes 8 _) in
      let a₂ = past a₁ 8 (long_bytes 8 _) in
      rw (number_there (tag_of p) phase_parts (tag_small p), number_there (first_of p) a₁ s.first, number_there (second_of p) a₂ s.second) (phase_back p s)

-- ---- the whole state

-- up to what the head fixed, through the chain's number and hash, and through the line
abbrev with_fixed : Reader → List ℕ
with_fixed r = phase_bytes r.phase ++ fixed_bytes r.fixed

abbrev with_chain : Reader → List ℕ
with_chain r = with_fixed r ++ chain_bytes r.chain

abbrev with_line : Reader → List ℕ
with_line r = with_chain r ++ r.line

-- all but the body and the extent; all but the extent
abbrev with_released : Reader → List ℕ
with_released r = with_line r ++ little_endian 8 r.released

abbrev with_body : Reader → List ℕ
with_body r = with_released r ++ body_bytes r.chain.body

module _ (r : Reader) (id : length r.fixed.id ≡ 64) (hash : length r.chain.hash ≡ 64) (line : length r.line ≡ 128) where
  long_phase : length (phase_bytes r.phase) ≡ 24
  long_phase = long_all (tag_of r.phase ∷ first_of r.phase ∷ second_of r.phase ∷ [])

  long_to_chain : length (with_fixed r) ≡ 128
  long_to_chain = long_next (phase_bytes r.phase) (fixed_bytes r.fixed) 24 104 128 long_phase (long_fixed r.fixed id) refl

  long_to_line : length (with_chain r) ≡ 200
  long_to_line = long_next (with_fixed r) (chain_bytes r.chain) 128 72 200 long_to_chain (long_chain r.chain hash) refl

  long_line : length (with_line r) ≡ 328
  long_line = long_next (with_chain r) r.line 200 128 328 long_to_line line refl

  long_released : length (with_released r) ≡ 336
  long_released = long_next (with_line r) (little_endian 8 r.released) 328 8 336 long_line (long_bytes 8 r.released) refl

  long_to_extent : SoundBody r.chain.body → length (with_body r) ≡ 472
  long_to_extent s = long_next (with_released r) (body_bytes r.chain.body) 336 136 472 long_released (long_body r.chain.body s) refl

  pub long_encoded : SoundBody r.chain.body → length (encoded r) ≡ state_size
  unfolding encoded
  long_encoded s = long_next (with_body r) (extent_bytes r.fixed.extent) 472 32 504 (long_to_extent s) (long_extent r.fixed.extent) refl

  pub all_put : SoundBody r.chain.body → (d l₁ l₂ l₃ l₄ l₅ l₆ l₇ : List ℕ) → l₁ ≡ sets d 0 (phase_bytes r.phase) → l₂ ≡ sets l₁ 24 (fixed_bytes r.fixed) → l₃ ≡ sets l₂ 128 (chain_bytes r.chain) → l₄ ≡ sets l₃ 200 r.line → l₅ ≡ sets l₄ 328 (little_endian 8 r.released) → l₆ ≡ sets l₅ 336 (body_bytes r.chain.body) → l₇ ≡ sets l₆ 472 (extent_bytes r.fixed.extent) → l₇ ≡ sets d 0 (encoded r)
  unfolding encoded
  all_put s d l₁ l₂ l₃ l₄ l₅ l₆ l₇ e₁ e₂ e₃ e₄ e₅ e₆ e₇ =
      let p₂ = sets_next d l₁ l₂ (phase_bytes r.phase) (fixed_bytes r.fixed) 0 24 24 e₁ long_phase refl e₂ in
      let p₃ = sets_next d l₂ l₃ (with_fixed r) (chain_bytes r.chain) 0 128 128 p₂ long_to_chain refl e₃ in
      let p₄ = sets_next d l₃ l₄ (with_chain r) r.line 0 200 200 p₃ long_to_line refl e₄ in
      let p₅ = sets_next d l₄ l₅ (with_line r) (little_endian 8 r.released) 0 328 328 p₄ long_line refl e₅ in
      let p₆ = sets_next d l₅ l₆ (with_released r) (body_bytes r.chain.body) 0 336 336 p₅ long_released refl e₆ in
      sets_next d l₆ l₇ (with_body r) (extent_bytes r.fixed.extent) 0 472 472 p₆ (long_to_extent s) refl e₇

pub record Sound (r : Reader) : Type 0 where
  pub phase : InPhase r.phase
  pub fixed : SoundFixed r.fixed
  pub chain : SoundChain r.chain
  pub line : length r.line ≡ 128
  pub released : r.released < 2 ^ 64

module _ (r : Reader) where
  in_parts : (rest : List ℕ) → At (encoded r ++ rest) 0 (phase_bytes r.phase ∷ fixed_bytes r.fixed ∷ chain_bytes r.chain ∷ r.line ∷ little_endian 8 r.released ∷ body_bytes r.chain.body ∷ extent_bytes r.fixed.extent ∷ rest ∷ [])
  unfolding encoded concat
  in_parts rest = record { there = simp (append_assoc, append-nil) }

  module _ (s : Sound r) where
    long : length (encoded r) ≡ state_size
    long = long_encoded r s.fixed.id s.chain.hash s.line s.chain.body

    -- what was written is read, whatever follows it
    pub decoded_encoded : (rest : List ℕ) → decoded (encoded r ++ rest) ≡ r
    unfolding decoded
    decoded_encoded rest =
        let a₀ = in_parts rest in
        let a₁ = past a₀ 24 (long_all (tag_of r.phase ∷ first_of r.phase ∷ second_of r.phase ∷ [])) in
        let a₂ = past a₁ 104 (long_fixed r.fixed s.fixed.id) in
        let a₃ = past a₂ 72 (long_chain r.chain s.chain.hash) in
        let a₄ = past a₃ 128 s.line in
        let a₅ = past a₄ 8 (long_bytes 8 r.released) in
        let a₆ = past a₅ 136 (long_body r.chain.body s.chain.body) in
        rw (
          phase_read r.phase s.phase a₀,
          fixed_back r.fixed s.fixed a₁ a₆,
          chain_back r.chain s.chain a₂ a₅,
          part_there a₃ 128 s.line,
          number_there r.released a₄ s.released,
        )

    -- in a buffer with room, too
    pub sets_is : (d : List ℕ) → state_size ≤ length d → sets d 0 (encoded r) ≡ encoded r ++ drop state_size d
    sets_is d h =
        let k : 0 + length (encoded r) ≡ state_size = omega (arith, long) in
        sets-eq (encoded r) d 0 (omega (arith, long)) ∙ (rw k)

    pub stored_is : (d : List ℕ) → state_size ≤ length d → stored r d ≡ encoded r ++ drop state_size d
    unfolding stored
    stored_is d h = rw (le-leb state_size (length d) h) (sets_is d h)

    pub decoded_sets : (d : List ℕ) → state_size ≤ length d → decoded (sets d 0 (encoded r)) ≡ r
    decoded_sets d h = ap decoded (sets_is d h) ∙ decoded_encoded (drop state_size d)

    pub decoded_stored : (d : List ℕ) → state_size ≤ length d → decoded (stored r d) ≡ r
    decoded_stored d h = ap decoded (stored_is d h) ∙ decoded_encoded (drop state_size d)

pub long_stored : (r : Reader) (d : List ℕ) → length (stored r d) ≡ length d
unfolding stored
long_stored r d = by_test_lem (leb state_size (length d))
  where
    by_test_lem : (t : Bool) → length (pick t (sets d 0 (encoded r)) d) ≡ length d
    by_test_lem true = length-sets d 0 (encoded r)
    by_test_lem false = refl

-- a state over another is that state
pub stored_stored : (r : Reader) → Sound r → (n : Reader) → Sound n → (d : List ℕ) → state_size ≤ length d → stored n (stored r d) ≡ stored n d
stored_stored r s n t d h =
    stored_is n t (stored r d) (omega (arith, long_stored r d))
    ∙ ap (λ (l : List ℕ). encoded n ++ drop state_size l) (stored_is r s d h)
    ∙ ap (λ (l : List ℕ). encoded n ++ l) (drop_at (encoded r) (drop state_size d) state_size (long r s))
    ∙ sym (stored_is n t d h)

-- ---- a value in the code is sound: its numbers and arrays by what owning it gives, `c.good` of a parameter

-- each word of an array, which a struct's field holds as it is
words_of : (ws : List ℕ) (us : List Val) → shadow (each ℕ u32.own_val ws us) → Words ws
words_of [] us is = none
words_of (w ∷ ws) [] is = absurd is
words_of (w ∷ ws) (u ∷ us) is = more is.0.1 (words_of ws us is.1)

pub sound : (r : Reader) (vs : List Val) → Is declared.the_row r vs → InPhase r.phase → InExtent r.fixed.extent → Sound r
sound r vs is p x =
    let f = is.1.1 in
    let g = f.1.0.1.1 in
    let c = f.1.1.0.1.1 in
    let h = c.1.1.0.1.1 in
    record {
      phase = p;
      fixed =
          record {
            extent = x;
            accepted = g.0.1;
            status = g.1.0.1;
            size = g.1.1.0.1;
            key = g.1.1.1.1.0.1;
            id = g.1.1.1.1.1.0.1.0.1;
            count = g.1.1.1.1.1.1.0.1;
          };
      chain =
          record {
            number = c.0.1.1.0.1;
            hash = c.1.0.1.0.1;
            body =
                record {
                  words = h.0.1.0.1;
                  small = words_of r.chain.body.words _ h.0.1.1;
                  rest = h.1.0.1.0.1;
                  count = h.1.1.0.1;
                };
          };
      line = f.1.1.1.0.1.0.1;
      released = f.1.1.1.1.0.1;
    }
