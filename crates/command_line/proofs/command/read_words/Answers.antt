use Rattle.command_line.proofs.Meanings.{is_reading}
use Rattle.command_line.proofs.command.read_words.Goals as goal

pub returns : goal.returns
returns c = is_reading c.args.words.now c.read_command.result c.read_command.ensures
