use Rattle.std.proofs.Common.{◌≡◌, drop}
use Rattle.std.specs.List.{flat_map}
use Rattle.name_check.specs.inner.Elements.{asks_of_elem}
use Rattle.name_check.specs.inner.Failures.{first_of_asks}
use Rattle.name_check.proofs.check_path.check_path.Given as goal

-- the first so far and what is left give the first of all
abbrev pub invariant-loop-elem : goal.invariant-loop-elem
invariant-loop-elem l =
    first_of_asks l.globals l.locals l.first (flat_map asks_of_elem (drop l.elem-index l.elem-items)) ≡ first_of_asks l.globals l.locals l.fn.first (flat_map asks_of_elem l.path.elems)
