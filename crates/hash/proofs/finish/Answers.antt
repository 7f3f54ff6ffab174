-- The last blocks, with the length in bits.
use Rattle.std.proofs.Common.{◌≡◌, ◌+◌, ◌*◌, ◌%◌, ◌^◌, ℕ, List, length, ap, ap₂, ◌∙◌, arith}
use Rattle.std.proofs.lemmas.List.{map-id}
use native.Mathlib.Nat.{mod-mod}
use Rattle.hash.specs.Sha2.{zeros}
use Rattle.hash.specs.Sha512.{variant}
use Rattle.hash.specs.Parts.{by_table, last_blocks, last_hashed}
use Rattle.hash.proofs.LastLaws.{closed}
use Rattle.hash.proofs.finish.Goals as goal

pub returns : goal.returns
returns c =
    let b = c.args.body.now in
    let high = c.bits_high.result in
    let low = c.bits_low.result in
    let n = c.args.seen * 128 + length b in
    let z : zeros variant (length b) ≡ zeros variant n = omega arith in
    c.close.ensures
    ∙ ap₂ (λ (k s : List ℕ). last_hashed (by_table variant k) (last_blocks (by_table variant k) b high low) s) (map-id c.args.words.now ∙ c.requires.0) (map-id c.args.before)
    ∙ closed variant n b c.args.before high low z (ap (λ (x : ℕ). x % 2 ^ 64) c.bits_high.ensures) (ap (λ (x : ℕ). x % 2 ^ 64) c.bits_low.ensures ∙ mod-mod (8 * n) (2 ^ 64))
