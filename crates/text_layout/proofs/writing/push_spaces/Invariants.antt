use Rattle.std.proofs.Common.{◌≡◌, ◌++◌}
use Rattle.std.specs.Prelude.{replicate}
use Rattle.text_layout.proofs.writing.push_spaces.Given as goal

-- the spaces so far
abbrev pub invariant-loop : goal.invariant-loop
invariant-loop l = l.text ≡ l.fn.text ++ replicate l.counter 32
