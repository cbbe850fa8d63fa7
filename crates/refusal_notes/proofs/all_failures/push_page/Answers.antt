use Rattle.std.proofs.Common.{◌≡◌, ◌++◌, ◌∙◌, ℕ, List, OnOk, ap, subst}
use Rattle.twe_frontend.specs.declared.refusal.Refusal.{Refusal}
use Rattle.explain_pages.specs.declared.places.note.Explanation.{Explanation}
use Rattle.explain_pages.specs.Page.{refused_text}
use Rattle.refusal_notes.specs.AllFailures.{failure_page}
use Rattle.refusal_notes.specs.Answers.{caused_explanation}
use Rattle.refusal_notes.proofs.all_failures.push_page.Goals as goal

-- the page is that of the failure
pub returns : goal.returns
returns c =
    let wanted = c.args.wanted.now in
    let text = c.args.text.now in
    let tree = c.args.tree.now in
    let p = c.args.p.now in
    let failure = c.args.failure.now in
    let page : c.as_slice.result.now ≡ failure_page wanted text tree p failure =
    c.as_slice.ensures ∙ c.in_ok-page.ensures
    ∙ ap (λ (e : Explanation). refused_text wanted text c.refusal_of-refusal.result e) c.in_ok-explanation.ensures
    ∙ ap (λ (r : Refusal). refused_text wanted text r (caused_explanation r failure.cause tree p)) c.refusal_of-refusal.ensures in
    subst (λ (xs : List ℕ). OnOk c.push_all.result (c.push_all.new.self ≡ c.args.pages.now ++ xs)) page c.push_all.ensures.ok
