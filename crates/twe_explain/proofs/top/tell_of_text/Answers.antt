use Rattle.twe_io.specs.Ends.{ends, ends_tell, source, sink}
use Rattle.twe_report.specs.Causes.{TextCause}
use Rattle.twe_explain.specs.Inputs.{ExplainCause, WishDue}
use Rattle.twe_explain.specs.Alone.{explain_usage_text}
use Rattle.twe_explain.specs.Words.{wish_of}
use Rattle.twe_explain.proofs.Widened.{answered_as}
use Rattle.twe_explain.proofs.top.tell_of_text.Goals as goal

-- the text is answered
pub returns : goal.returns
returns g c =
    let src = source g.S.Source.left g.S.Source.faults g.S.Source.read_gives in
    let out = sink g.O.Sink.written g.O.Sink.faults g.O.Sink.write_gives in
    let err = sink g.E.Sink.written g.E.Sink.faults g.E.Sink.write_gives in
    let words = c.args.words.now in
    answered_as (ends_tell src out err) (TextCause wish_of explain_usage_text WishDue src words) (ExplainCause src words)
    (λ from to answer cause. ExplainCause.of_text c.requires cause)
    (ends c.args.src.now c.args.out.now c.args.err.now)
    (ends c.run_text_program.new.src c.run_text_program.new.out c.run_text_program.new.err)
    c.run_text_program.result c.run_text_program.ensures
