use Rattle.command_line.proofs.Meanings as meanings
use Rattle.command_line.proofs.laws.every_list_is_decided.Goals as goal

pub returns : goal.returns
returns c = meanings.every_list_is_decided
