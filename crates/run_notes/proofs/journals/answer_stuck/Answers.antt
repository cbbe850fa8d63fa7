use Rattle.std.proofs.Common.{◌≡◌, List, sym, ap, ◌∙◌, subst}
use Rattle.wait_graph.specs.declared.stuck.Edge.{Edge}
use Rattle.seg_journal.specs.declared.journal.Entry.{Entry}
use Rattle.flat_sched.specs.Stuck.{IsCycleOfReasons}
use Rattle.run_facts.specs.declared.making.TaskMaking.{TaskMaking}
use Rattle.run_facts.specs.Makings.{makings_of}
use Rattle.machine_state.specs.Runs.{Legal}
use Rattle.twe_report.specs.Texts.{stuck_text}
use Rattle.twe_io.specs.declared.status.Status.TheVariants.{Stuck}
use Rattle.twe_io.specs.Answers.{on_out}
use Rattle.explain_pages.specs.declared.places.note.Explanation.{Explanation}
use Rattle.run_notes.specs.Cycles.{stuck_explanation}
use Rattle.run_notes.specs.Journals.{RunTold}
use Rattle.explain_pages.specs.RunPage.{run_text}
use Rattle.run_notes.proofs.journals.answer_stuck.Goals as goal

-- the state was reached
pub stuck_cycle-requires-clause-reachable : goal.stuck_cycle-requires-clause-reachable
stuck_cycle-requires-clause-reachable c =
    (c.args.lim, record { journal = c.args.journal.now; legal = c.requires.run.legal; same = c.requires.run.same })

-- the journal is legal
pub makings_of-requires : goal.makings_of-requires
makings_of-requires c = subst (Legal c.args.p.now c.args.lim) (sym c.as_slice.ensures) c.requires.run.legal

-- the cycle is the one of the stuck run, and it is explained
pub returns : goal.returns
returns c =
    let wanted = c.args.wanted.now in
    let text = c.args.text.now in
    let p = c.args.p.now in
    let lim = c.args.lim in
    let st = c.args.st.now in
    let cycle : List Edge = c.in_ok-cycle.cycle in
    let told = c.in_ok-cycle.ensures in
    let reasons : IsCycleOfReasons st cycle = record { some = told.some; true_edges = told.true_edges; closed = told.closed; once = told.once; begins_lowest = told.begins_lowest } in
    let made : c.as_slice-2.result.now ≡ makings_of p lim c.args.journal.now =
    c.as_slice-2.ensures ∙ (c.in_ok-makings.ensures ∙ ap (λ (l : List Entry). makings_of p lim l) c.as_slice.ensures) in
    let said : c.in_ok-said.said ≡ stuck_explanation p st (makings_of p lim c.args.journal.now) cycle =
    c.in_ok-said.ensures
    ∙ (ap (λ (l : List TaskMaking). stuck_explanation p st l c.as_slice-3.result.now) made
    ∙ ap (λ (l : List Edge). stuck_explanation p st (makings_of p lim c.args.journal.now) l) c.as_slice-3.ensures) in
    subst (RunTold wanted text p lim c.args.journal.now st)
    (sym (c.on_out.ensures ∙ ap (on_out Stuck) (c.in_ok-page.ensures
    ∙ (ap (λ l. run_text wanted text l c.in_ok-said.said) c.in_ok-line.ensures
    ∙ ap (λ (e : Explanation). run_text wanted text (stuck_text cycle) e) said))))
    (RunTold.stuck cycle c.requires.stuck told.exact reasons)
