use Rattle.std.proofs.Common.{◌≡◌, ◌+◌, ◌++◌, ℕ, List, None, drop, length, map, replicate, ◌∙◌, ap, refl, subst, sym, arith}
use Rattle.region_paths.specs.declared.elements.Elem.{Elem}
use Rattle.prefix_tree.specs.Nodes.{IsTreeOfPaths}
use Rattle.seg_journal.specs.declared.journal.Entry.{Entry}
use Rattle.twe_base.specs.Limits.{Bounds, IsWithin}
use Rattle.floor_laws.specs.admission.admission_core.States.{IsAmong, Record}
use Rattle.floor_laws.specs.rule.nodes.Fitting.{IsDistinct}
use Rattle.floor_laws.specs.rule.nodes.Starts.{AreOfEnabled}
use Rattle.floor_laws.specs.declared.table.nodes.slot.TreeSlot.{TreeSlot}
use Rattle.floor_laws.specs.declared.table.nodes.slot.TreeSlot.TheVariants as kinds
use Rattle.task_floor.specs.steps.Waking.{log_of}
use Rattle.task_floor.proofs.steps.Woken.{cells_many, clock_few, shows_run, tasks_few}
use Rattle.task_floor.specs.inner.Recording.{HoldRecords}
use Rattle.task_floor.specs.steps.inner.Laying.{held_slot}
use Rattle.task_floor.proofs.Planted.{records_within, shows_planted, task_slots}
use Rattle.task_floor.proofs.floor.Floor.wake.Goals as goal

pub records_of-requires : goal.records_of-requires
records_of-requires g c =
    let within = subst (λ (b : Bounds). IsWithin b.fuel b.tasks) (c.lim.view_is ∙ c.requires.named.1) c.lim.invariant in
    let few = tasks_few g.N.Named.prog g.N.Named.lim c.requires.accepted.0 within c.args.rest.journal c.args.rest.state c.requires.run in
    let most = within.tasks_most in
    omega (arith, few, most)

pub contents_of-requires-clause-once : goal.contents_of-requires-clause-once
contents_of-requires-clause-once g c = subst IsDistinct (sym c.as_slice.ensures) c.in_ok-records.ensures.once

pub contents_of-requires-clause-within : goal.contents_of-requires-clause-within
contents_of-requires-clause-within g c r among =
    let here = subst (IsAmong r) c.as_slice.ensures among in
    let low = records_within c.args.shape.now c.args.rest.state c.in_ok-records.records c.in_ok-records.ensures r here in
    let many = c.nodes-nodes.ensures.count in
    omega (arith, low, many)

pub word_count-requires-clause-counts : goal.word_count-requires-clause-counts
word_count-requires-clause-counts g c =
    let within = subst (λ (b : Bounds). IsWithin b.fuel b.tasks) (c.lim.view_is ∙ c.requires.named.1) c.lim.invariant in (
      c.len-cell_count.ensures ∙ cells_many g.N.Named.prog g.N.Named.lim c.requires.accepted.0 within c.args.rest.journal c.args.rest.state c.requires.run,
      ap (λ (b : Bounds). b.tasks) (c.lim.view_is ∙ c.requires.named.1),
    )

pub words_of-requires-clause-clock : goal.words_of-requires-clause-clock
words_of-requires-clause-clock g c =
    let within = subst (λ (b : Bounds). IsWithin b.fuel b.tasks) (c.lim.view_is ∙ c.requires.named.1) c.lim.invariant in
    let few = clock_few g.N.Named.prog g.N.Named.lim c.requires.accepted.0 within c.args.rest.journal c.args.rest.state c.requires.run in
    let entries = few.1 in
    let many = c.len.ensures in
    (few.0, omega (arith, entries, many))

pub words_of-requires-clause-tasks : goal.words_of-requires-clause-tasks
words_of-requires-clause-tasks g c =
    let within = subst (λ (b : Bounds). IsWithin b.fuel b.tasks) (c.lim.view_is ∙ c.requires.named.1) c.lim.invariant in
    let few = tasks_few g.N.Named.prog g.N.Named.lim c.requires.accepted.0 within c.args.rest.journal c.args.rest.state c.requires.run in
    let same = ap (λ (b : Bounds). b.tasks) (c.lim.view_is ∙ c.requires.named.1) in
    omega (arith, few, same)

pub tree_slots-requires : goal.tree_slots-requires
tree_slots-requires g c =
    let within = subst (λ (b : Bounds). IsWithin b.fuel b.tasks) (c.lim.view_is ∙ c.requires.named.1) c.lim.invariant in
    let few = tasks_few g.N.Named.prog g.N.Named.lim c.requires.accepted.0 within c.args.rest.journal c.args.rest.state c.requires.run in
    let same = ap (λ (b : Bounds). b.tasks) (c.lim.view_is ∙ c.requires.named.1) in
    omega (arith, few, same)

pub open-requires-clause-nodes : goal.open-requires-clause-nodes
open-requires-clause-nodes g c = subst IsTreeOfPaths c.requires.named.0 c.nodes-nodes.ensures.tree

pub open-requires-clause-counts : goal.open-requires-clause-counts
open-requires-clause-counts g c =
    let within = subst (λ (b : Bounds). IsWithin b.fuel b.tasks) (c.lim.view_is ∙ c.requires.named.1) c.lim.invariant in (
      c.len-cell_count.ensures ∙ cells_many g.N.Named.prog g.N.Named.lim c.requires.accepted.0 within c.args.rest.journal c.args.rest.state c.requires.run,
      ap (λ (b : Bounds). b.tasks) (c.lim.view_is ∙ c.requires.named.1),
    )

pub open-requires-clause-shows : goal.open-requires-clause-shows
open-requires-clause-shows g c =
    let nodes = g.N.Planted.nodes in
    let p = g.N.Named.prog in
    let lim = g.N.Named.lim in
    let journal = c.args.rest.journal in
    let st = c.args.rest.state in
    let within = subst (λ (b : Bounds). IsWithin b.fuel b.tasks) (c.lim.view_is ∙ c.requires.named.1) c.lim.invariant in
    let same = ap (λ (b : Bounds). b.tasks) (c.lim.view_is ∙ c.requires.named.1) in
    let words = c.in_ok-words.ensures in
    let held = map held_slot st.tasks ++ drop (length st.tasks) (replicate c.lim.inside.tasks None) in
    let many = c.nodes-nodes.ensures.count ∙ ap (λ (l : List (List Elem)). length l) c.requires.named.0 in
    let enabled = subst (λ (l : List (List Elem)). AreOfEnabled l c.args.rest.state c.in_ok-records.records) c.requires.named.0 c.in_ok-records.ensures in
    let hold = subst (λ (n : ℕ). HoldRecords n c.in_ok-records.records c.in_ok-contents.contents) many
    (subst (λ (l : List Record). HoldRecords c.nodes-nodes.result l c.in_ok-contents.contents) c.as_slice.ensures c.in_ok-contents.ensures) in
    let shown =
    shows_run p lim c.requires.accepted.0 within journal st c.requires.run c.in_ok-part.part c.in_ok-words.words words.0 held c.len.result c.lim.inside.tasks
    (c.in_ok-part.ensures ∙ ap (λ (l : List Entry). log_of l c.args.rest.state.prints) c.as_slice-2.ensures) c.len.ensures same words.1 words.2 refl in
    let slots = c.in_ok-slots.ensures ∙ ap (λ (l : List TreeSlot). l ++ map kinds.Node c.in_ok-contents.contents) (task_slots st.tasks c.lim.inside.tasks) in
    let count : c.lim.inside.tasks + c.nodes-nodes.result ≡ lim.tasks + length nodes = omega (arith, same, many) in
    let all = c.as_slice-3.ensures ∙ (c.in_ok-add_zeros.ensures ∙ ap (λ (n : ℕ). c.in_ok-words.words ++ replicate n 0) count) in (
      st,
      shows_planted nodes p lim c.in_ok-part.part st c.in_ok-records.records c.in_ok-words.words held c.in_ok-contents.contents shown enabled hold
          c.as_slice-3.result.now c.in_ok-slots.slots all slots,
    )
