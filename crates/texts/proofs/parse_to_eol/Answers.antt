-- `texts::parse_to_eol`: the text is a run of a line's bytes.
use Rattle.texts.specs.Line.{line_end_at}
use Rattle.texts.proofs.parse_to_eol.Goals as goal

pub returns : goal.returns
unfolding line_end_at
returns c = record { value = c.far_end.ensures.value; lined = c.far_end.ensures.runs }
