use Rattle.std.proofs.Common.{◌≡◌, ◌++◌, take}
use Rattle.run_notes.specs.VariablesShown.{later_texts}
use Rattle.run_notes.proofs.variables_shown.push_later_texts.Given as goal

-- the texts up to here were written
abbrev pub invariant-loop-other : goal.invariant-loop-other
invariant-loop-other l = l.text ≡ l.fn.text ++ later_texts (take l.other-index l.texts)
