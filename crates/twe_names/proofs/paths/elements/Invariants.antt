use Rattle.std.proofs.Common.{◌≡◌, ◌++◌, drop}
use Rattle.twe_names.specs.PathMeaning.{elems_of}
use Rattle.twe_names.proofs.paths.elements.Given as goal

-- the elements so far and those that are left are all of them
abbrev pub invariant-loop-elem : goal.invariant-loop-elem
invariant-loop-elem l = l.elems ++ elems_of l.globals l.params (drop l.elem-index l.written) ≡ elems_of l.globals l.params l.written
