use Rattle.std.proofs.Common.{◌≡◌, ◌++◌, drop}
use Rattle.twe_ast.specs.inner.StatementView.{arms_of, statements_of}
use Rattle.name_check.specs.Ends.{close_of}
use Rattle.run_notes.specs.BodyVariables.{locals_by, locals_in}
use Rattle.run_notes.proofs.body_variables.+declaring.Given as goal

-- the locals so far, with those in what is left
abbrev pub invariant-add_locals_in-loop-stmt : goal.invariant-add_locals_in-loop-stmt
invariant-add_locals_in-loop-stmt l =
    l.variables ++ locals_in l.place (statements_of (drop l.stmt-index l.stmt-items) (close_of l.block)) ≡ l.fn.variables ++ locals_in l.place l.block

-- the same of the arms
abbrev pub invariant-add_locals_by-loop-arm : goal.invariant-add_locals_by-loop-arm
invariant-add_locals_by-loop-arm l =
    l.variables ++ locals_by l.place (arms_of (drop l.arm-index l.arm-items) l.arms-inside.last) ≡ l.fn.variables ++ locals_by l.place l.arms
