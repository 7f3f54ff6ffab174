-- A word of SHA-256 is the number that it is.
use Rattle.std.proofs.Common.{ℕ, List, sym, ◌∙◌, ap₂}
use Rattle.std.proofs.lemmas.List.{map-id}
use Rattle.hash.specs.Sha2.{blocks, hashed}
use Rattle.sha256.specs.Sha256.{variant}
use Rattle.hash.specs.Parts.{by_table}
use Rattle.sha256.proofs.hash_blocks.Goals as goal

pub returns : goal.returns
returns c =
    let p = c.args.p.now in
    sym (map-id c.compress_all.result) ∙ c.compress_all.ensures
    ∙ ap₂ (λ (k s : List ℕ). hashed (by_table variant k) (blocks variant p) p s) (map-id c.args.words.now ∙ c.requires) (map-id c.args.before)
