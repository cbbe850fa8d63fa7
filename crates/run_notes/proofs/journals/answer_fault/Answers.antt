use Rattle.std.proofs.Common.{◌≡◌, List, sym, ap, ◌∙◌, subst}
use Rattle.seg_journal.specs.declared.journal.Entry.{Entry}
use Rattle.run_facts.specs.declared.making.TaskMaking.{TaskMaking}
use Rattle.run_facts.specs.FaultSnapshots.{IsFaultSnapshot}
use Rattle.run_facts.specs.Makings.{makings_of}
use Rattle.twe_ast.specs.declared.item.Item.{Item}
use Rattle.machine_state.specs.declared.state.State.{State}
use Rattle.machine_state.specs.Runs.{Legal, state_after}
use Rattle.twe_report.specs.Texts.{fault_text}
use Rattle.twe_io.specs.declared.status.Status.TheVariants.{Fault}
use Rattle.twe_io.specs.Answers.{on_out}
use Rattle.explain_pages.specs.declared.places.note.Explanation.{Explanation}
use Rattle.run_notes.specs.Faulted.{fault_explanation}
use Rattle.run_notes.specs.Journals.{RunTold}
use Rattle.run_notes.specs.VariablesShown.{items_of}
use Rattle.explain_pages.specs.RunPage.{run_text}
use Rattle.run_notes.proofs.journals.answer_fault.Goals as goal

-- the journal is legal
pub makings_of-requires : goal.makings_of-requires
makings_of-requires c = subst (Legal c.args.p.now c.args.lim) (sym c.as_slice.ensures) c.requires.run.legal

pub snapshot_of_fault-requires-clause-legal : goal.snapshot_of_fault-requires-clause-legal
snapshot_of_fault-requires-clause-legal c = subst (Legal c.args.p.now c.args.lim) (sym c.as_slice-2.ensures) c.requires.run.legal

-- and the fault is the first of the state that it leads to
pub snapshot_of_fault-requires-clause-fault : goal.snapshot_of_fault-requires-clause-fault
snapshot_of_fault-requires-clause-fault c =
    ap (λ (l : List Entry). (state_after c.args.p.now c.args.lim l).first_fault) c.as_slice-2.ensures
    ∙ (ap (λ (s : State). s.first_fault) (sym c.requires.run.same) ∙ c.requires.fault)

-- the fault is explained
pub returns : goal.returns
returns c =
    let wanted = c.args.wanted.now in
    let text = c.args.text.now in
    let p = c.args.p.now in
    let lim = c.args.lim in
    let journal : List Entry = c.args.journal.now in
    let st = c.args.st.now in
    let fault = c.args.fault in
    let snapshot = c.in_ok-snapshot.snapshot in
    let tree = c.in_ok-tree.tree in
    let met : IsFaultSnapshot p lim journal fault snapshot =
    subst (λ (l : List Entry). IsFaultSnapshot p lim l fault snapshot) c.as_slice-2.ensures c.in_ok-snapshot.ensures in
    let made : c.as_slice-known.result.now ≡ makings_of p lim journal =
    c.as_slice-known.ensures ∙ (c.in_ok-makings.ensures ∙ ap (λ (l : List Entry). makings_of p lim l) c.as_slice.ensures) in
    let said : c.in_ok-said.said ≡ fault_explanation text (items_of tree) p lim st (makings_of p lim journal) snapshot fault =
    c.in_ok-said.ensures
    ∙ (ap (λ (l : List Item). fault_explanation text l p lim st c.as_slice-known.result.now snapshot fault) c.items_of-items.ensures
    ∙ ap (λ (l : List TaskMaking). fault_explanation text (items_of tree) p lim st l snapshot fault) made) in
    subst (RunTold wanted text p lim journal st)
    (sym (c.on_out.ensures ∙ ap (on_out Fault) (c.in_ok-page.ensures
    ∙ (ap (λ l. run_text wanted text l c.in_ok-said.said) c.in_ok-line.ensures
    ∙ ap (λ (e : Explanation). run_text wanted text (fault_text fault.task fault.kind fault.place) e) said))))
    (RunTold.faulted fault snapshot tree c.requires.fault met c.in_ok-tree.ensures)
