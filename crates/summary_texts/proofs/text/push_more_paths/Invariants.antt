use Rattle.std.proofs.Common.{◌≡◌, ◌++◌, drop}
use Rattle.summary_texts.specs.Texts.{more_paths}
use Rattle.summary_texts.proofs.text.push_more_paths.Given as goal

-- the text so far, with what is left
abbrev pub invariant-loop-path : goal.invariant-loop-path
invariant-loop-path l = l.text ++ more_paths l.regions l.params (drop l.path-index l.paths) ≡ l.fn.text ++ more_paths l.regions l.params l.paths
