-- One element more is known, and those before stay so.
use Rattle.name_check.proofs.cell_limits.Known.{known-elem}
use Rattle.name_check.proofs.cell_limits.names.Names.add_all.Goals as goal

pub loop-elem-preserved : goal.loop-elem-preserved
loop-elem-preserved c =
    let loop = c.loop-elem in record {
      known = known-elem loop.self c.add_kind.new.self c.args.elems.now loop.elem-index c.elem-item.result c.loop-elem-test.true c.elem-item.is c.in_ok-add_kind.ensures.keeps loop.invariant.known c.in_ok-add_kind.ensures.known;
      keeps = λ text h. c.in_ok-add_kind.ensures.keeps text (loop.invariant.keeps text h);
    }
