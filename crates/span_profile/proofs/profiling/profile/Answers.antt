use Rattle.span_profile.proofs.Tracking.{earliest_is, profile_is}
use Rattle.span_profile.proofs.profiling.profile.Goals as goal

pub returns-clause-profiled : goal.returns-clause-profiled
returns-clause-profiled c =
    let t = c.in_ok-run.ensures.tracked in
    let h = c.in_ok-heaviest.field-0 in
    record {
      journal = c.in_ok-run.run'.journal;
      legal = t.is_run.legal;
      has = c.in_ok-run.ensures.moves;
      heaviest = profile_is c.args.p.now c.args.lim c.in_ok-run.run' t h.work h.span h.chain (c.in_ok-heaviest.ensures.heaviest t.nodes t.holds);
    }

pub returns-clause-earliest : goal.returns-clause-earliest
returns-clause-earliest c =
    let t = c.in_ok-run.ensures.tracked in
    let h = c.in_ok-heaviest.field-0 in
    record {
      journal = c.in_ok-run.run'.journal;
      legal = t.is_run.legal;
      has = c.in_ok-run.ensures.moves;
      earliest = earliest_is c.args.p.now c.args.lim c.in_ok-run.run' t h.span h.starts h.ends (c.in_ok-heaviest.ensures.earliest t.nodes t.holds);
    }
