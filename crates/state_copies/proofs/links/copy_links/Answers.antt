use Rattle.std.proofs.Common.{◌≡◌, ◌+◌, ◌<◌, ℕ, suc, List, length, sym, ap, ◌∙◌, arith}
use Rattle.std.specs.Prelude.{slice_set}
use Rattle.wait_graph.specs.declared.tasks.Link.{Link}
use Rattle.wait_graph.specs.Link.{link_of, new_link}
use Rattle.state_copies.specs.inner.Links.{copied_to}
use Rattle.state_copies.proofs.CopiedLinks.{copied_length, copied_whole, fresh_next, set_next}
use Rattle.state_copies.proofs.links.copy_links.Goals as goal

pub set_link-requires-clause-there : goal.set_link-requires-clause-there
set_link-requires-clause-there c =
    let count = ap length c.loop-t.invariant ∙ copied_length c.loop-t.t c.args.links.now in
    omega (arith, c.loop-t-test.true, c.loop-t.auto.t-end, c.task_count-t-end.ensures.count, count)

pub set_link-requires-clause-fresh : goal.set_link-requires-clause-fresh
set_link-requires-clause-fresh c =
    let below : c.loop-t.t < length c.args.links.now = omega (arith, c.loop-t-test.true, c.loop-t.auto.t-end, c.task_count-t-end.ensures.count) in
    ap (λ (l : List Link). link_of l c.loop-t.t) c.loop-t.invariant
    ∙ (fresh_next c.loop-t.t c.args.links.now below ∙ ap (λ (l : Link). new_link l.parent) (sym c.link.ensures))

pub set_link-requires-clause-within : goal.set_link-requires-clause-within
set_link-requires-clause-within c u is =
    let there = (c.task_count-t-end.ensures.ordered.waits_up c.loop-t.t u (ap (λ (l : Link). l.waits) (sym c.link.ensures) ∙ is)).1 in
    let count = ap length c.loop-t.invariant ∙ copied_length c.loop-t.t c.args.links.now in
    omega (arith, there, count)

pub loop-t-preserved : goal.loop-t-preserved
loop-t-preserved c =
    let below : c.loop-t.t < length c.args.links.now = omega (arith, c.loop-t-test.true, c.loop-t.auto.t-end, c.task_count-t-end.ensures.count) in
    let next : suc c.loop-t.t ≡ c.loop-t.t + 1 = omega arith in
    c.set_link.ensures
    ∙ ((λ i. slice_set (c.loop-t.invariant i) c.loop-t.t (c.link.ensures i))
    ∙ (set_next c.loop-t.t c.args.links.now below ∙ ap (λ (n : ℕ). copied_to n c.args.links.now) next))

pub returns : goal.returns
returns c =
    let past = c.loop-t-test.false in
    c.loop-t.invariant ∙ copied_whole c.loop-t.t c.args.links.now (omega (arith, past, c.loop-t.auto.t-end, c.task_count-t-end.ensures.count))
