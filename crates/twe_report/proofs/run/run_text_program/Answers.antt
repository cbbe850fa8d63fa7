use Rattle.twe_io.specs.Ends.{ends, ends_tell, source, sink}
use Rattle.twe_io.proofs.Answered.{is_answered}
use Rattle.twe_report.specs.Causes.{TextCause}
use Rattle.twe_report.proofs.run.run_text_program.Goals as goal

-- the answer is written
pub returns : goal.returns
returns g c =
    let src = source g.S.Source.left g.S.Source.faults g.S.Source.read_gives in
    let out = sink g.O.Sink.written g.O.Sink.faults g.O.Sink.write_gives in
    let err = sink g.E.Sink.written g.E.Sink.faults g.E.Sink.write_gives in
    is_answered (ends_tell src out err) (TextCause g.P.TextProgram.asked g.P.TextProgram.usage g.P.TextProgram.due src c.args.words.now)
    (ends c.args.src.now c.args.out.now c.args.err.now) (ends c.answer-made.new.src c.tell.new.out c.tell.new.err)
    c.answer-made.result c.tell.result c.answer-made.ensures c.tell.ensures
