-- All forms together. Assumes nothing.
use Rattle.text_forms.specs.Exact.{ExactForms}
use Rattle.text_forms.proofs.ChunkLines.{chunk_accepts, chunk_longest}
use Rattle.text_forms.proofs.Heads.{head_accepts, head_longest}
use Rattle.text_forms.proofs.SingleLines.{data_end_accepts, data_end_longest, status_line_accepts, status_line_longest, field_line_accepts, field_line_longest, name_accepts, name_longest}
use Rattle.text_forms.proofs.Trailers.{trailer_accepts, trailer_longest}

pub exact_forms : ExactForms
exact_forms =
    record {
      heads = record { accepts = head_accepts; longest = head_longest };
      chunk_lines = record { accepts = chunk_accepts; longest = chunk_longest };
      data_ends = record { accepts = data_end_accepts; longest = data_end_longest };
      trailers = record { accepts = trailer_accepts; longest = trailer_longest };
      status_lines = record { accepts = status_line_accepts; longest = status_line_longest };
      field_lines = record { accepts = field_line_accepts; longest = field_line_longest };
      names = record { accepts = name_accepts; longest = name_longest };
    }
