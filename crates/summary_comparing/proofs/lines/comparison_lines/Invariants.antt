use Rattle.std.proofs.Common.{◌≡◌, ◌≤◌, ◌++◌, drop}
use Rattle.summary_comparing.specs.CompareTexts.{decl_texts, many_text, wider_text}
use Rattle.summary_comparing.proofs.lines.comparison_lines.Given as goal

-- the lines so far, with those of what is left
abbrev pub invariant-loop-item : goal.invariant-loop-item
invariant-loop-item l = record {
  few_methods : l.method ≤ l.item-index;
  few_tasks : l.task ≤ l.item-index;
  wider : l.lines.wider ++ decl_texts (wider_text l.regions) (drop l.item-index l.items) (drop l.method l.methods) (drop l.task l.tasks)
      ≡ decl_texts (wider_text l.regions) l.items l.methods l.tasks;
  many : l.lines.many ++ decl_texts many_text (drop l.item-index l.items) (drop l.method l.methods) (drop l.task l.tasks)
      ≡ decl_texts many_text l.items l.methods l.tasks;
}
