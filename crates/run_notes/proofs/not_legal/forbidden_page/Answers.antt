use Rattle.std.proofs.Common.{◌≡◌, List, sym, ap, ◌∙◌, subst}
use Rattle.seg_journal.specs.declared.journal.Entry.{Entry}
use Rattle.run_facts.specs.declared.making.TaskMaking.{TaskMaking}
use Rattle.run_facts.specs.Makings.{makings_of}
use Rattle.machine_state.specs.Runs.{Legal}
use Rattle.explain_pages.specs.declared.places.note.Explanation.{Explanation}
use Rattle.run_notes.specs.NotLegal.{forbidden_explanation}
use Rattle.explain_pages.specs.RunPage.{run_text}
use Rattle.run_notes.proofs.not_legal.forbidden_page.Goals as goal

-- the journal is legal
pub makings_of-requires : goal.makings_of-requires
makings_of-requires c = subst (Legal c.args.p.now c.args.lim) (sym c.as_slice.ensures) c.requires.legal

-- what is said is of the makings of the journal
pub returns : goal.returns
returns c =
    let p = c.args.p.now in
    let lim = c.args.lim in
    let st = c.args.st.now in
    let made : c.as_slice-2.result.now ≡ makings_of p lim c.args.journal.now =
    c.as_slice-2.ensures ∙ (c.in_ok-makings.ensures ∙ ap (λ (l : List Entry). makings_of p lim l) c.as_slice.ensures) in
    let said : c.in_ok-said.said ≡ forbidden_explanation p st (makings_of p lim c.args.journal.now) c.args.task c.args.why =
    c.in_ok-said.ensures ∙ ap (λ (l : List TaskMaking). forbidden_explanation p st l c.args.task c.args.why) made in
    c.in_ok-page.ensures ∙ ap (λ (e : Explanation). run_text c.args.wanted.now c.args.text.now c.args.answer e) said
