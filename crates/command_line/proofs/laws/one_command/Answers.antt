use Rattle.command_line.proofs.Meanings as meanings
use Rattle.command_line.proofs.laws.one_command.Goals as goal

pub returns : goal.returns
returns c = meanings.one_command
