-- Each by the value that was found. Assumes nothing.
use Rattle.end_fields.proofs.reading.read_end.Goals as goal

pub returns : goal.returns
returns c =
    λ g. record {
      once = rw (c.is_once-first.ensures g, c.is_once-second.ensures g, c.is_once-third.ensures g);
      digest = rw (c.read_digest-digest.ensures, c.value_of.ensures g);
      size = rw (c.read_data_size-size.ensures, c.value_of-2.ensures g);
      sig1 = rw (c.value_of-3.ensures g) at c.read_sig0-sig1.ensures;
    }
