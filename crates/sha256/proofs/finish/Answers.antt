-- The last blocks, with the length in bits. A word of SHA-256 is the number that it is.
use Rattle.std.proofs.Common.{◌≡◌, length, take, ap, ◌∙◌, rules}
use Rattle.std.proofs.lemmas.List.{map-id}
use Rattle.hash.specs.Parts.{last_blocks, last_hashed}
use Rattle.sha256.specs.Sha256.{variant, round_words}
use Rattle.sha256.proofs.StepLaws.{finish_is}
use Rattle.sha256.proofs.finish.Goals as goal

pub returns : goal.returns
unfolding round_words
returns c =
    let long : length c.args.h.rest ≡ 64 = search rules in
    let h = c.args.h in
    let n = c.held-n.result in
    let high = c.bits_high.result in
    let low = c.bits_low.result in
    finish_is h n high low c.close.result (long) c.held-n.ensures c.bits_high.ensures c.bits_low.ensures
    (c.close.ensures ∙ ap (last_hashed variant (last_blocks variant (take n h.rest) high low)) (map-id h.words))
