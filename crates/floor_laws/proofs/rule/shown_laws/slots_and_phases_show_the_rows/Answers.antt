use Rattle.floor_laws.proofs.rule.ShownRows.{row_shown}
use Rattle.floor_laws.proofs.rule.shown_laws.slots_and_phases_show_the_rows.Goals as goal

pub returns : goal.returns
returns c p lim st t row well reached there = row_shown p lim well st reached t row there
