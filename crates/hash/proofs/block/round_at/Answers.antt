-- A round by a table's word.
use Rattle.std.proofs.Common.{ℕ, map, sym, ◌∙◌, ap₂, rules}
use Rattle.std.proofs.lemmas.List.{get_or-map}
use Rattle.hash.specs.Sha2.{round}
use Rattle.hash.proofs.block.round_at.Goals as goal

pub returns : goal.returns
unfolding round
returns g c =
    let f = g.S.Words.value in
    let i = c.args.i in
    c.step.ensures
    ∙ ap₂ (λ (k x : ℕ). round g.S.Words.variant k x (map f c.args.s)) (sym (get_or-map f c.args.words.now i _ 0 (search rules))) (sym (get_or-map f c.args.w.now i _ 0 (search rules)))
