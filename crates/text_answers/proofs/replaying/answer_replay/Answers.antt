use Rattle.text_answers.proofs.Replays.{reply_to_moves}
use Rattle.text_answers.proofs.replaying.answer_replay.Goals as goal

-- the book has the replay
pub returns : goal.returns
returns c =
    reply_to_moves c.args.p c.args.lim c.args.moves.now c.args.journal c.in_ok-run.run' c.in_ok-reply.reply c.requires.replayed.has
    c.in_ok-run.ensures.0 c.in_ok-reply.ensures.reply
