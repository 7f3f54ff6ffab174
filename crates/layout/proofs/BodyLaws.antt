-- Laws on the body so far as bytes: how it is written, and that it is read back. Assumes nothing.
use mathlib.Core.Path.{◌≡◌, refl, ◌∙◌}
use mathlib.Core.List.{List, ◌∷◌, ◌++◌, append_assoc}
use Prim.Native.Nat.{ℕ, ◌^◌, ◌<◌}
use lib.ListN.{length}
use lib.Seq.{sets}
use Rattle.sha256.specs.declared.Midstate.{Midstate}
use Rattle.packing.specs.Parts.{little_endian, all_bytes}
use Rattle.layout.specs.State.{body_bytes, body_in}
use Rattle.packing.proofs.PartLaws.{sets_next, long_next, long_bytes, long_all, concat, At, past, part_there, number_there, Words, words_there}

-- numbers within their types, and arrays with their lengths, as every value in code has them
pub record SoundBody (h : Midstate) : Type 0 where
  pub words : length h.words ≡ 8
  pub small : Words h.words
  pub rest : length h.rest ≡ 64
  pub count : h.count < 2 ^ 64

-- the words, and the bytes after them
abbrev front : Midstate → List ℕ
front h = all_bytes h.words ++ h.rest

module _ (h : Midstate) (words : length h.words ≡ 8) where
  long_words : length (all_bytes h.words) ≡ 64
  long_words = long_all h.words ∙ (rw words)

  module _ (rest : length h.rest ≡ 64) where
    long_front : length (front h) ≡ 128
    long_front = long_next (all_bytes h.words) h.rest 64 64 128 long_words rest refl

    pub body_put : (d l₁ l₂ l₃ : List ℕ) → l₁ ≡ sets d 336 (all_bytes h.words) → l₂ ≡ sets l₁ 400 h.rest → l₃ ≡ sets l₂ 464 (little_endian 8 h.count) → l₃ ≡ sets d 336 (body_bytes h)
    body_put d l₁ l₂ l₃ e₁ e₂ e₃ =
        let p = sets_next d l₁ l₂ (all_bytes h.words) h.rest 336 64 400 e₁ long_words refl e₂ in
        sets_next d l₂ l₃ (front h) (little_endian 8 h.count) 336 128 464 p long_front refl e₃

pub long_body : (h : Midstate) → SoundBody h → length (body_bytes h) ≡ 136
long_body h s = long_next (front h) (little_endian 8 h.count) 128 8 136 (long_front h s.words s.rest) (long_bytes 8 h.count) refl

module _ {whole : List ℕ} {ss : List (List ℕ)} (h : Midstate) (s : SoundBody h) (e : At whole 336 (body_bytes h ∷ ss)) where
  body_parts : At whole 336 (all_bytes h.words ∷ h.rest ∷ little_endian 8 h.count ∷ ss)
  unfolding concat
  body_parts = record { there = e.there ∙ (simp append_assoc) }

  pub body_back : body_in whole ≡ h
  unfolding body_in
  body_back =
      let a₁ = past body_parts 64 (long_words h s.words) in
      let a₂ = past a₁ 64 s.rest in
      rw (words_there h.words body_parts 8 s.words s.small, part_there a₁ 64 s.rest, number_there h.count a₂ s.count)
