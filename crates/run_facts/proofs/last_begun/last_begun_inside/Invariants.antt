use Rattle.std.proofs.Common.{◌≡◌, drop}
use Rattle.std.specs.Prelude.{option_copied}
use Rattle.run_facts.specs.LastBegun.{last_begun_inside}
use Rattle.run_facts.proofs.last_begun.last_begun_inside.Given as goal

-- the statement up to here, with the blocks that are left
abbrev pub invariant-loop-position : goal.invariant-loop-position
invariant-loop-position l =
    last_begun_inside (option_copied l.stmt) (drop l.position-index l.inner) ≡ last_begun_inside (option_copied l.outer) l.inner
