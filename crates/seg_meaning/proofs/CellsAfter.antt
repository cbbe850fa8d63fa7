-- A list of cells keeps its length.
use Rattle.std.proofs.Common.{◌≡◌, ℤ, List, [], ◌∷◌, length, refl, ◌∙◌}
use Rattle.std.proofs.lemmas.List.{length-set}
use Rattle.seg_meaning.specs.Access.{Access, Reads, Writes, Prints, after}

pub after_length : (cells : List ℤ) (accesses : List Access) → length (after cells accesses) ≡ length cells
after_length cells [] = refl
after_length cells (Reads cell value ∷ earlier) = after_length cells earlier
after_length cells (Writes cell value ∷ earlier) = length-set (after cells earlier) cell value ∙ after_length cells earlier
after_length cells (Prints value ∷ earlier) = after_length cells earlier
