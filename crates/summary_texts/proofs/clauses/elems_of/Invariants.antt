use Rattle.std.proofs.Common.{◌≡◌, ◌++◌, drop, map}
use Rattle.summary_texts.specs.paste_laws.Clauses.{elem_of, texts_of}
use Rattle.summary_texts.proofs.clauses.elems_of.Given as goal

-- the elements so far, with those of what is left
abbrev pub invariant-loop-elem : goal.invariant-loop-elem
invariant-loop-elem l = l.made ++ map (elem_of l.regions (texts_of l.params)) (drop l.elem-index l.elems) ≡ map (elem_of l.regions (texts_of l.params)) l.elems
