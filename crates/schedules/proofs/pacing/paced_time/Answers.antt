use Rattle.std.proofs.Common.{◌≡◌, ◌<◌, ◌+◌, ◌*◌, ℕ, List, length, false, get_or, is_lt, sym, subst, arith}
use Rattle.schedules.specs.Timetables.{jobs_below}
use Rattle.schedules.specs.declared.pacing.PacedJob.{PacedJob}
use Rattle.schedules.specs.inner.Placing.{AreSmall, most_64}
use Rattle.schedules.proofs.OneMore.{job_order, order_count, paced_on, small_on, whole_of}
use Rattle.schedules.proofs.PacedTimes.{jobs_count}
use Rattle.schedules.proofs.pacing.paced_time.Goals as goal

pub place-later-requires-clause-small : goal.place-later-requires-clause-small
place-later-requires-clause-small c = λ k d below.
    let long =
    order_count (jobs_below c.args.starts.now c.args.ends.now (length c.args.starts.now)) c.in_ok-jobs.jobs.items c.sort.new.self.items c.as_slice-order.result.now (length c.args.starts.now)
    c.in_ok-jobs.ensures (jobs_count c.args.starts.now c.args.ends.now (length c.args.starts.now)) c.in_ok-sort.ensures.permutation c.as_slice-order.ensures.value in
    let test = c.loop-job-test.true in
    let same = c.count_of-count.ensures.same in
    let few = c.count_of-count.ensures.few in
    let le = c.loop-job.invariant.small.small k d below in
    omega (arith, long, test, same, few, le)

pub place-later-requires-clause-little : goal.place-later-requires-clause-little
place-later-requires-clause-little c =
    let long =
    order_count (jobs_below c.args.starts.now c.args.ends.now (length c.args.starts.now)) c.in_ok-jobs.jobs.items c.sort.new.self.items c.as_slice-order.result.now (length c.args.starts.now)
    c.in_ok-jobs.ensures (jobs_count c.args.starts.now c.args.ends.now (length c.args.starts.now)) c.in_ok-sort.ensures.permutation c.as_slice-order.ensures.value in
    let test = c.loop-job-test.true in
    let same = c.count_of-count.ensures.same in
    let few = c.count_of-count.ensures.few in
    let le = c.loop-job.invariant.small.little in
    omega (arith, long, test, same, few, le)

pub loop-job-preserved : goal.loop-job-preserved
loop-job-preserved c =
    let none : PacedJob = record { early = 0; entry = 0; weight = 0 } in
    let order_is = c.as_slice-order.ensures.value in
    let sorted : (k : ℕ) → k + 1 < length c.as_slice-order.result.now → is_lt (job_order (get_or c.as_slice-order.result.now (k + 1) none) (get_or c.as_slice-order.result.now k none)) ≡ false =
    subst (λ (l : List PacedJob). (k : ℕ) → k + 1 < length l → is_lt (job_order (get_or l (k + 1) none) (get_or l k none)) ≡ false) (sym order_is)
    (λ k below. c.in_ok-sort.ensures.sorted k none (omega arith) below) in
    let small =
    small_on c.loop-job.free (get_or c.as_slice-order.result.now c.loop-job.job-index none) c.loop-job.delay c.place-later.result.0 c.place-later.result.1 c.place-later.new.free c.place-later.ensures.placed
    c.place-later.ensures.early c.place-later.ensures.weight (c.loop-job.job-index * most_64) c.loop-job.invariant.small in
    let more : c.loop-job.job-index * most_64 + most_64 ≡ (c.loop-job.job-index + 1) * most_64 = omega arith in
    record {
      pacing =
          paced_on c.args.processors c.as_slice-order.result.now c.loop-job.job-index none c.loop-job.free c.loop-job.delay c.loop-job.time c.loop-job.invariant.pacing c.loop-job-test.true sorted
          c.place-later.result.0 c.place-later.result.1 c.place-later.new.free c.place-later.ensures.placed c.later_of-time.result c.later_of-time.ensures;
      small = subst (AreSmall c.place-later.new.free c.place-later.result.0) more small;
    }

pub returns : goal.returns
returns c =
    let h = c.loop-job.invariant.pacing in
    record {
      slots = h.slots;
      paced = h.paced;
      whole =
          whole_of (jobs_below c.args.starts.now c.args.ends.now (length c.args.starts.now)) c.in_ok-jobs.jobs.items c.sort.new.self.items c.as_slice-order.result.now c.loop-job.job-index h.slots
          c.in_ok-jobs.ensures c.in_ok-sort.ensures.permutation c.as_slice-order.ensures.value c.loop-job-test.false h.jobs_are;
      time_is = h.time_is;
    }
