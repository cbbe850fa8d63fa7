use Rattle.summary_comparing.proofs.lines.push_many.Goals as goal

-- the line, with these words
pub returns : goal.returns
returns c = c.push_name_line.ensures
