-- What a method counts with for those that call it.
use Rattle.std.specs.Prelude.{◌≡◌, List, [], ◌∷◌, Option, None, Some}
use Rattle.effect_sets.specs.declared.effects.Summary.{Summary}
use Rattle.twe_program.specs.declared.program.Decl.{Decl}
use Rattle.twe_program.specs.Program.{Program}
use Rattle.effect_infer.specs.Inferred.{AreEachLeast}

-- its least summary; if that would have more than 8 effects, the one that it declares
abbrev pub counted_summary : Option Summary → Decl → Summary
counted_summary None decl = decl.summary
counted_summary (Some least) decl = least

-- the same of each method
abbrev pub counted_summaries : List (Option Summary) → List Decl → List Summary
counted_summaries [] decls = []
counted_summaries (one ∷ least) [] = counted_summaries least []
counted_summaries (one ∷ least) (decl ∷ decls) = counted_summary one decl ∷ counted_summaries least decls

-- with these summaries the methods of the program count for those that call them
abbrev pub AreCountedWith : Program → List Summary → Type 0
AreCountedWith p summaries =
    (least : List (Option Summary)) × AreEachLeast p least × (summaries ≡ counted_summaries least p.methods)
