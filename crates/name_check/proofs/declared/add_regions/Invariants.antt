use Rattle.std.proofs.Common.{◌≡◌, ◌+◌, ◌++◌, drop}
use Rattle.name_check.specs.Names.{regions_from}
use Rattle.name_check.proofs.declared.add_regions.Given as goal

-- the regions so far and those that are left are all of them
abbrev pub invariant-loop-name : goal.invariant-loop-name
invariant-loop-name l = record {
  all : l.globals ++ regions_from l.number (drop l.name-index l.names) ≡ l.fn.globals ++ regions_from l.fn.number l.names;
  count : l.number ≡ l.fn.number + l.name-index;
}
