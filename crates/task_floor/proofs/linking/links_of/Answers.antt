use Rattle.std.proofs.Common.{◌≡◌, ◌+◌, ℕ, suc, List, length, ap, ◌∙◌, arith}
use Rattle.std.specs.Prelude.{slice_set}
use Rattle.std.proofs.lemmas.List.{length-map}
use Rattle.wait_graph.specs.declared.tasks.Link.{Link}
use Rattle.wait_graph.specs.Link.{link_of}
use Rattle.machine_state.specs.Rows.{link_of_row}
use Rattle.task_floor.specs.steps.inner.Reading.{links_to}
use Rattle.task_floor.proofs.steps.Readings.{fresh_here, item_there, link_there, links_all, links_count, set_here}
use Rattle.task_floor.proofs.linking.links_of.Goals as goal

pub set_link-requires-clause-there : goal.set_link-requires-clause-there
set_link-requires-clause-there c =
    let below = c.loop-t-test.true in
    let count = ap length c.loop-t.invariant ∙ links_count c.loop-t.t c.args.rows.now in
    omega (arith, below, count)

pub set_link-requires-clause-fresh : goal.set_link-requires-clause-fresh
set_link-requires-clause-fresh c =
    ap (λ (links : List Link). link_of links c.loop-t.t) c.loop-t.invariant
    ∙ fresh_here c.loop-t.t c.args.rows.now c.index-rows-t.result (item_there c.args.rows.now c.loop-t.t c.index-rows-t.result c.loop-t-test.true c.index-rows-t.is)

pub set_link-requires-clause-on_above : goal.set_link-requires-clause-on_above
set_link-requires-clause-on_above c u is =
    let link = link_there c.args.rows.now c.loop-t.t c.index-rows-t.result c.loop-t-test.true c.index-rows-t.is in
    (c.requires.waits_up c.loop-t.t u (ap (λ (l : Link). l.waits) link ∙ is)).0

pub set_link-requires-clause-on_there : goal.set_link-requires-clause-on_there
set_link-requires-clause-on_there c u is =
    let link = link_there c.args.rows.now c.loop-t.t c.index-rows-t.result c.loop-t-test.true c.index-rows-t.is in
    let there = (c.requires.waits_up c.loop-t.t u (ap (λ (l : Link). l.waits) link ∙ is)).1 in
    let count = ap length c.loop-t.invariant ∙ links_count c.loop-t.t c.args.rows.now in
    let whole = length-map c.args.rows.now link_of_row in
    omega (arith, there, count, whole)

pub loop-t-preserved : goal.loop-t-preserved
loop-t-preserved c =
    let row = c.index-rows-t.result in
    let next : suc c.loop-t.t ≡ c.loop-t.t + 1 = omega arith in
    c.set_link.ensures
    ∙ (ap (λ (links : List Link). slice_set links c.loop-t.t (link_of_row row)) c.loop-t.invariant
    ∙ (set_here c.loop-t.t c.args.rows.now row (item_there c.args.rows.now c.loop-t.t row c.loop-t-test.true c.index-rows-t.is)
    ∙ ap (λ (n : ℕ). links_to n c.args.rows.now) next))

pub returns : goal.returns
returns c = c.loop-t.invariant ∙ links_all c.loop-t.t c.args.rows.now c.loop-t-test.false
