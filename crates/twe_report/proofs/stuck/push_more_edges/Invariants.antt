use Rattle.std.proofs.Common.{◌≡◌, ◌++◌, take}
use Rattle.twe_report.specs.Texts.{more_edges}
use Rattle.twe_report.proofs.stuck.push_more_edges.Given as goal

abbrev pub invariant-loop-edge : goal.invariant-loop-edge
invariant-loop-edge l = l.text ≡ l.fn.text ++ more_edges (take l.edge-index l.edges)
