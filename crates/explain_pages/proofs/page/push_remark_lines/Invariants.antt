use Rattle.std.proofs.Common.{◌≡◌, ◌++◌, drop}
use Rattle.explain_pages.specs.Page.{remark_lines}
use Rattle.explain_pages.proofs.page.push_remark_lines.Given as goal

-- the text so far, with what is left
abbrev pub invariant-loop-remark : goal.invariant-loop-remark
invariant-loop-remark l = l.text ++ remark_lines l.name l.place (drop l.remark-index l.remarks) ≡ l.fn.text ++ remark_lines l.name l.place l.remarks
