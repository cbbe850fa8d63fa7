use Rattle.std.proofs.Common.{ℕ, List, ap, ◌∙◌, subst}
use Rattle.std.proofs.lemmas.Result.{IfOk-weaker}
use Rattle.effect_sets.specs.declared.effects.Summary.{Summary}
use Rattle.twe_ast.specs.declared.item.Item.{Item}
use Rattle.twe_program.specs.declared.program.Decl.{Decl}
use Rattle.twe_program.specs.Program.{Program}
use Rattle.summary_comparing.specs.declared.comparison.Comparison.{Comparison}
use Rattle.summary_comparing.specs.Comparisons.{AreComparisons}
use Rattle.summary_comparing.specs.CompareTexts.{AreCompareLines, comparison_lines}
use Rattle.summary_comparing.proofs.lines.compare_lines.Goals as goal

-- the comparisons of the methods and of the tasks, in the order of the text
pub returns : goal.returns
returns c =
    let tree = c.args.tree.now in
    let p = c.args.p.now in
    let summaries = c.in_ok-summaries.summaries in
    let methods = c.in_ok-methods.methods in
    let tasks = c.in_ok-tasks.tasks in
    let all_methods = c.as_slice-2.ensures ∙ ap (λ (q : Program). q.methods) c.p.view_is in
    let all_tasks = c.as_slice-4.ensures ∙ ap (λ (q : Program). q.tasks) c.p.view_is in
    let regions = c.as_slice-regions.ensures ∙ ap (λ (q : Program). q.regions) c.p.view_is in
    IfOk-weaker c.comparison_lines.result _ (AreCompareLines tree p)
    (λ lines is. record {
      summaries = summaries;
      counted = c.in_ok-summaries.ensures;
      methods = methods;
      methods_compared = subst (λ (ds : List Decl). AreComparisons p summaries ds methods) all_methods
          (subst (λ (ss : List Summary). AreComparisons p ss c.as_slice-2.result.now methods) c.as_slice.ensures c.in_ok-methods.ensures);
      tasks = tasks;
      tasks_compared = subst (λ (ds : List Decl). AreComparisons p summaries ds tasks) all_tasks
          (subst (λ (ss : List Summary). AreComparisons p ss c.as_slice-4.result.now tasks) c.as_slice-3.ensures c.in_ok-tasks.ensures);
      written = is
          ∙ (ap (λ (rs : List (List ℕ)). comparison_lines rs c.as_slice-items.result.now c.as_slice-5.result.now c.as_slice-6.result.now) regions
          ∙ (ap (λ (is : List Item). comparison_lines p.regions is c.as_slice-5.result.now c.as_slice-6.result.now) c.as_slice-items.ensures
          ∙ (ap (λ (ms : List Comparison). comparison_lines p.regions tree.items ms c.as_slice-6.result.now) c.as_slice-5.ensures
          ∙ ap (λ (ts : List Comparison). comparison_lines p.regions tree.items methods ts) c.as_slice-6.ensures)));
    })
    c.comparison_lines.ensures
