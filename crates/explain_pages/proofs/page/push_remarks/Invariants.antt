use Rattle.std.proofs.Common.{◌≡◌, ◌++◌, drop}
use Rattle.std.specs.List.{flat_map}
use Rattle.twe_report.specs.Texts.{line}
use Rattle.explain_pages.proofs.page.push_remarks.Given as goal

-- the text so far, with what is left
abbrev pub invariant-loop-remark : goal.invariant-loop-remark
invariant-loop-remark l = l.text ++ flat_map line (drop l.remark-index l.remarks) ≡ l.fn.text ++ flat_map line l.remarks
