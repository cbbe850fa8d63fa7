use Rattle.std.proofs.Common.{◌≡◌, ◌++◌, drop}
use Rattle.effect_infer.specs.Gathered.{in_all, starts_in, calls_in}
use Rattle.effect_infer.proofs.gather.gather.Given as goal

-- what is gathered so far and from what is left is what all give
abbrev pub invariant-loop-number : goal.invariant-loop-number
invariant-loop-number l = record {
  starts : l.gathered.starts ++ in_all (starts_in l.cells) l.number (drop l.number l.methods) ≡ in_all (starts_in l.cells) 0 l.methods;
  calls : l.gathered.calls ++ in_all (calls_in l.cells) l.number (drop l.number l.methods) ≡ in_all (calls_in l.cells) 0 l.methods;
}
