use Rattle.std.proofs.Common.{◌≡◌, ◌++◌, drop}
use Rattle.twe_ast.specs.inner.StatementView.{arms_of, statements_of}
use Rattle.name_check.specs.Ends.{close_of}
use Rattle.explain_pages.specs.names.Variables.{locals_named_by, locals_named_in}
use Rattle.explain_pages.proofs.names.variables.+naming.Given as goal

-- the names so far, with those in what is left
abbrev pub invariant-add_locals_in-loop-stmt : goal.invariant-add_locals_in-loop-stmt
invariant-add_locals_in-loop-stmt l =
    l.names ++ locals_named_in (statements_of (drop l.stmt-index l.stmt-items) (close_of l.block)) ≡ l.fn.names ++ locals_named_in l.block

-- the same of the arms
abbrev pub invariant-add_locals_by-loop-arm : goal.invariant-add_locals_by-loop-arm
invariant-add_locals_by-loop-arm l =
    l.names ++ locals_named_by (arms_of (drop l.arm-index l.arm-items) l.arms-inside.last) ≡ l.fn.names ++ locals_named_by l.arms
