use Rattle.std.proofs.Common.{◌<◌, arith, length, sym, ◌∙◌}
use Rattle.machine_state.specs.Moves.{start_of}
use Rattle.all_runs.proofs.Growing.{closed_more, if_no_error, known_stays}
use Rattle.all_runs.proofs.exploring.Exploration.explore.Goals as goal

-- the moves of one more run were taken
pub loop-at-preserved : goal.loop-at-preserved
loop-at-preserved c =
    let p = c.args.p.now in
    let lim = c.args.lim in
    let a = c.loop-at.self in
    let b = c.take_moves.new.self in
    let grows = c.take_moves.ensures.grows in
    let there : c.loop-at.at < length a.going = omega (arith, c.if-at-len.false, c.len.ensures) in
    record {
      explored = record {
        found = c.take_moves.ensures.found;
        start = known_stays a.going a.ended b.going b.ended (start_of p lim) grows c.loop-at.invariant.explored.start;
      };
      closed = closed_more p lim a.going a.ended b.going b.ended c.loop-at.at there c.loop-at.invariant.closed grows (if_no_error c.take_moves.result (sym c.is_err.ensures.value ∙ c.if-is_err.false) c.take_moves.ensures.taken);
    }
