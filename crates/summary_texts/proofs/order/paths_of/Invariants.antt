use Rattle.std.proofs.Common.{◌≡◌, drop}
use Rattle.summary_texts.specs.Order.{with_paths, summary_paths_of}
use Rattle.summary_texts.proofs.order.paths_of.Given as goal

-- the paths so far, with those of what is left
abbrev pub invariant-loop-effect : goal.invariant-loop-effect
invariant-loop-effect l = with_paths l.write l.paths.items (drop l.effect-index l.summary.effects) ≡ summary_paths_of l.write l.summary.effects
