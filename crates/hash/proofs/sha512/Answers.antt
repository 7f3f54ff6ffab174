-- No block is hashed before.
use Rattle.std.proofs.Common.{◌≡◌, ℕ, ◌+◌, ◌*◌, List, length, ap, ◌∙◌, zero-add, rules}
use Rattle.hash.specs.Sha2.{finished}
use Rattle.hash.specs.Sha512.{variant, initial_words, round_words, sha512}
use Rattle.hash.proofs.LastLaws.{hash_all}
use Rattle.hash.proofs.sha512.Goals as goal

none : (m : List ℕ) → finished variant (0 * 128 + length m) m initial_words ≡ sha512 m
none m = ap (λ (n : ℕ). finished variant n m initial_words) (zero-add (length m)) ∙ hash_all m

pub finish-requires : goal.finish-requires
unfolding round_words
finish-requires c = search rules

pub returns : goal.returns
returns c = c.finish.ensures ∙ none c.args.message.now
