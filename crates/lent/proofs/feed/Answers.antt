-- The reader with the ring by value feeds as with the lent records. Assumes nothing.
use Rattle.std.proofs.Common.{ap, ◌∙◌}
use Rattle.state.specs.Configuration.{configuration}
use Rattle.reader.specs.Feed.{feed_of}
use Rattle.lent.proofs.TableLaws.{feed_lent}
use Rattle.lent.proofs.feed.Goals as goal

pub returns : goal.returns
returns c =
    let a = c.args in
    let d = configuration a.r a.head.now a.block.now a.question.now in
    c.feed.ensures ∙ ap (λ k. feed_of k a.uri.now d a.piece.now) c.ring_of.ensures ∙ feed_lent a.records.now a.uri.now d a.piece.now
