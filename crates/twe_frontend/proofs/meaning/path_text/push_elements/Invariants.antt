use Rattle.std.proofs.Common.{◌≡◌, ◌++◌, drop}
use Rattle.twe_frontend.specs.meaning.PathTexts.{more_elements}
use Rattle.twe_frontend.proofs.meaning.path_text.push_elements.Given as goal

-- the text so far, with what is left
abbrev pub invariant-loop-elem : goal.invariant-loop-elem
invariant-loop-elem l = l.text ++ more_elements l.regions l.params (drop l.elem-index l.elems) ≡ l.fn.text ++ more_elements l.regions l.params l.elems
