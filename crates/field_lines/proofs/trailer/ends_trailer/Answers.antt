-- The two ends that a trailer may have. Assumes nothing.
use Rattle.stream.specs.Trailer.{ends_trailer}
use Rattle.field_lines.proofs.trailer.ends_trailer.Goals as goal

pub returns : goal.returns
unfolding ends_trailer
returns c = cc
