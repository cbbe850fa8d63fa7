use Rattle.twe_io.specs.Ends.{ends, ends_tell, sink, source}
use Rattle.twe_report.specs.Texts.{usage_text}
use Rattle.twe_cli.proofs.Causes.{answers_words}
use Rattle.twe_cli.proofs.Completeness.{completes}
use Rattle.twe_cli.proofs.top.twe.Goals as goal

-- the answer to the words is written
pub returns-clause-answers : goal.returns-clause-answers
returns-clause-answers g c =
    let src = source g.S.Source.left g.S.Source.faults g.S.Source.read_gives in
    let out = sink g.O.Sink.written g.O.Sink.faults g.O.Sink.write_gives in
    let err = sink g.E.Sink.written g.E.Sink.faults g.E.Sink.write_gives in
    answers_words (ends_tell src out err) c.args.words.now
    (ends c.args.src.now c.args.out.now c.args.err.now) (ends c.answer-made.new.src c.tell.new.out c.tell.new.err) c.answer-made.new.book
    c.answer-made.result c.tell.result (c.every_list_is_decided.ensures c.args.words.now) c.answer-made.ensures c.tell.ensures

-- and it has one of the statuses of the command, if nothing fails
pub returns-clause-complete : goal.returns-clause-complete
returns-clause-complete g c =
    let src = source g.S.Source.left g.S.Source.faults g.S.Source.read_gives in
    let out = sink g.O.Sink.written g.O.Sink.faults g.O.Sink.write_gives in
    let err = sink g.E.Sink.written g.E.Sink.faults g.E.Sink.write_gives in
    let tells = ends_tell src out err in
    let before = ends c.args.src.now c.args.out.now c.args.err.now in
    let after = ends c.answer-made.new.src c.tell.new.out c.tell.new.err in
    let words = c.args.words.now in
    let book = c.answer-made.new.book in
    let came = answers_words tells words before after book c.answer-made.result c.tell.result (c.every_list_is_decided.ensures words) c.answer-made.ensures c.tell.ensures in
    completes c.refused_or_accepted.ensures.never_both tells words usage_text before after book c.tell.result (c.one_command.ensures words) came.0 came.1 came.2
