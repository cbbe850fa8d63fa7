use Rattle.std.proofs.Common.{◌≡◌, ◌++◌, drop}
use Rattle.explain_pages.specs.Page.{excerpts}
use Rattle.explain_pages.proofs.page.push_excerpts.Given as goal

-- the text so far, with what is left
abbrev pub invariant-loop-note : goal.invariant-loop-note
invariant-loop-note l = l.text ++ excerpts l.program (drop l.note-index l.notes) ≡ l.fn.text ++ excerpts l.program l.notes
