use Rattle.std.proofs.Common.{◌≡◌, ◌++◌, drop}
use Rattle.explain_pages.specs.Page.{spot_lines}
use Rattle.explain_pages.proofs.page.push_spot_lines.Given as goal

-- the text so far, with what is left
abbrev pub invariant-loop-note : goal.invariant-loop-note
invariant-loop-note l = l.text ++ spot_lines l.name (drop l.note-index l.notes) ≡ l.fn.text ++ spot_lines l.name l.notes
