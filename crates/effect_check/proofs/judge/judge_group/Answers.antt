use Rattle.std.proofs.Common.{rules}
use Rattle.effect_check.proofs.judge.judge_group.Goals as goal

pub judge_all_futures-requires : goal.judge_all_futures-requires
judge_all_futures-requires c = record { all = search rules; writes = search rules }

pub returns : goal.returns
returns c = record {
  futures = record { points = c.in_ok-points.points; spawns = c.in_ok-mine.mine; all = c.marks_of_all-all.result; writes = c.marks_of_all-writes.result };
  flow = c.in_ok-points.ensures.exact;
  start_is = c.in_ok-points.ensures.first;
  spawns_are = c.in_ok-mine.ensures;
  judged = c.judge_all_futures.ensures;
}
