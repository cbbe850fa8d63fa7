use Rattle.twe_advise.proofs.Causes.{advised_by}
use Rattle.twe_advise.proofs.answering.advised_answer.Goals as goal

pub returns : goal.returns
returns c =
    let request = c.args.request.now in
    advised_by request.wanted request.items c.args.p.now c.args.advice.now c.args.held.now c.args.pairs.now c.as_slice-items.result.now c.as_slice.result.now c.in_ok-counts.counts
    c.in_ok-paces.paces c.as_slice-paces.result.now c.in_ok-text.text c.on_out.result
    c.as_slice-items.ensures c.as_slice.ensures c.in_ok-counts.ensures.are c.in_ok-paces.ensures.are c.as_slice-paces.ensures c.in_ok-text.ensures c.on_out.ensures
