-- Its end and its lines. Assumes nothing.
use Rattle.stream.specs.Trailer.{is_trailer}
use Rattle.field_lines.proofs.trailer.is_trailer.Goals as goal

pub returns : goal.returns
unfolding is_trailer
returns c = cc
