use Rattle.std.proofs.Common.{◌++◌, ℕ, List, ap, ◌∙◌}
use Rattle.std.specs.Prelude.{codes, slice_get}
use Rattle.explain_pages.proofs.Appended.{then_two}
use Rattle.run_texts.specs.TaskLabels.{decl_name}
use Rattle.run_notes.specs.CallsShown.{times_words}
use Rattle.run_notes.proofs.calls_shown.call_caption.Goals as goal

-- the parts in their order
pub returns : goal.returns
returns c =
    let name : List ℕ = decl_name (slice_get c.args.p.now.methods c.args.run.call.method) in
    then_two (codes "in `") name (codes "`, called here") (times_words c.args.run.times)
    c.push_all.new.self c.push_all-2.new.self c.push_times.new.text
    (c.in_ok-push_all.ensures.ok
    ∙ (ap (λ (l : List ℕ). l ++ c.method_name.result.now) c.in_ok-text.ensures ∙ ap (λ (l : List ℕ). codes "in `" ++ l) c.method_name.ensures))
    c.in_ok-push_all-2.ensures.ok
    c.in_ok-push_times.ensures
