-- The entry decides if all others lead to its task. Else it names the place that the last one names.
use Rattle.std.proofs.Common.{◌<◌, inl, inr, length, arith}
use Rattle.std.proofs.lemmas.Option.{slice_get_within}
use Rattle.twe_machine.proofs.listing.Leading.{led_leads}
use Rattle.twe_machine.proofs.queue.Queue.decider_of.Goals as goal

pub returns-then-first_all_wait : goal.returns-then-first_all_wait
returns-then-first_all_wait c = inl (
  c.len-count.ensures,
  λ i e low at.
      let within = slice_get_within c.args.self.now.entries i e at in
      led_leads c.args.st.now.links e.task c.args.t (c.first_all_wait.ensures c.if-first_all_wait.true i e (omega arith) (omega (arith, within, c.len-count.ensures)) at),
)

pub returns-in-Some : goal.returns-in-Some
returns-in-Some c =
    let h = c.in-Some.ensures in
    let decided = c.requires h.0 c.in-Some.at h.1 h.3 h.4 in
    let within = slice_get_within c.args.self.now.entries h.0 h.1 h.3 in
    let low : c.in-Some.at < length c.args.self.now.entries = omega (arith, decided.0, within) in
    inr (low, decided.1)
