use Rattle.std.proofs.Common.{Ok, refl, sym, subst}
use Rattle.twe_io.specs.Ends.{ends, ends_tell, source, sink}
use Rattle.twe_io.proofs.Answered.{is_answered}
use Rattle.twe_explain.specs.Inputs.{ExplainCause}
use Rattle.twe_explain.proofs.top.tell_alone.Goals as goal

-- the text is written
pub returns : goal.returns
returns g c =
    let src = source g.S.Source.left g.S.Source.faults g.S.Source.read_gives in
    let out = sink g.O.Sink.written g.O.Sink.faults g.O.Sink.write_gives in
    let err = sink g.E.Sink.written g.E.Sink.faults g.E.Sink.write_gives in
    let cause = ExplainCause src c.args.words.now c.args.src.now c.args.src.now in
    is_answered (ends_tell src out err) (ExplainCause src c.args.words.now)
    (ends c.args.src.now c.args.out.now c.args.err.now) (ends c.args.src.now c.tell.new.out c.tell.new.err)
    (Ok c.on_out.result) c.tell.result (subst cause (sym c.on_out.ensures) (ExplainCause.alone c.args.text c.requires refl)) c.tell.ensures
