-- What is proved of the forms (proofs/Exact.antt): each has just the texts that the rules call good, and where a text stops agreeing with its form is
-- the length of the longest beginning that some good text also has. Assumes nothing.
use Rattle.std.specs.Prelude.{Bool, List, ◌≡◌, ℕ}
use Rattle.octets.specs.Viable.{LongestViable}
use Rattle.scanner.specs.Form.{Form, accepts_form, reach_form}
use Rattle.stream.specs.Blocks.{is_chunk_line}
use Rattle.stream.specs.Forms.{chunk_form, data_end_form, name_form, field_line_form, trailer_form, status_line_form, head_form}
use Rattle.stream.specs.GoodText.{is_good_head, is_good_trailer, is_good_data_end, is_good_field_line, is_good_status_line, is_name}

pub record Exact (good : List ℕ → Bool) (form : Form) : Type 0 where
  pub accepts : (l : List ℕ) → good l ≡ accepts_form form l
  pub longest : (l : List ℕ) → LongestViable good l (reach_form form l)

pub record ExactForms : Type 0 where
  pub heads : Exact is_good_head head_form
  pub chunk_lines : Exact is_chunk_line chunk_form
  pub data_ends : Exact is_good_data_end data_end_form
  pub trailers : Exact is_good_trailer trailer_form
  pub status_lines : Exact is_good_status_line status_line_form
  pub field_lines : Exact is_good_field_line field_line_form
  pub names : Exact is_name name_form
