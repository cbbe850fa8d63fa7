use Rattle.std.proofs.Common.{◌≡◌, ◌++◌, drop}
use Rattle.std.specs.List.{flat_map}
use Rattle.name_check.specs.inner.Elements.{asks_of_elem}
use Rattle.name_causes.specs.Needs.{needs_of_asks}
use Rattle.name_causes.proofs.decls.add_path.Given as goal

-- the needs so far and those of what is left are those of all
abbrev pub invariant-loop-elem : goal.invariant-loop-elem
invariant-loop-elem l =
    l.needs ++ needs_of_asks l.globals l.locals l.returns (flat_map asks_of_elem (drop l.elem-index l.elem-items))
    ≡ l.fn.needs ++ needs_of_asks l.globals l.locals l.returns (flat_map asks_of_elem l.path.elems)
