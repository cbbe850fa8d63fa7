use Rattle.std.proofs.Common.{◌≡◌, ◌++◌, take, map}
use Rattle.twe_ast.specs.declared.name.Name.{Name}
use Rattle.twe_names.proofs.program.add_regions.Given as goal

-- the names so far
abbrev pub invariant-loop-name : goal.invariant-loop-name
invariant-loop-name l = l.regions ≡ l.fn.regions ++ map (λ (name : Name). name.text) (take l.name-index l.name-items)
