use Rattle.std.proofs.Common.{◌≡◌, ◌++◌, drop}
use Rattle.twe_annotate.specs.Texts.{more_equalities}
use Rattle.twe_annotate.proofs.text.push_more_equalities.Given as goal

-- the text so far, with what is left
abbrev pub invariant-loop-equality : goal.invariant-loop-equality
invariant-loop-equality l =
    l.text ++ more_equalities l.first l.second (drop l.equality-index l.equalities) ≡ l.fn.text ++ more_equalities l.first l.second l.equalities
