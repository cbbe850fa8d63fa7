-- The parts of the elements of a path.
use Rattle.std.proofs.Common.{◌≡◌, ℕ, ◌+◌, ◌<◌, List, [], ◌∷◌, ◌++◌, length, get_or, take, map, refl, sym, ap, ◌∙◌}
use Rattle.std.proofs.lemmas.List.{take_more, map-append}
use Rattle.twe_ast.specs.declared.path.CellElem.{CellElem}
use Rattle.prefix_tree.specs.declared.part.Part.{Part}
use Rattle.name_check.specs.cell_limits.inner.Parts.{part_of, parts_of}

-- the parts of the elements up to one more
pub parts-more : (f : CellElem → Part) (elems : List CellElem) (i : ℕ) (elem : CellElem) → i < length elems → elem ≡ get_or elems i elem → map f (take (i + 1) elems) ≡ map f (take i elems) ++ f elem ∷ []
parts-more f elems i elem there is =
    ap (map f) (take_more elems i elem there)
    ∙ map-append f (take i elems) (get_or elems i elem ∷ [])
    ∙ ap (λ (e : CellElem). map f (take i elems) ++ f e ∷ []) (sym is)

-- the parts of the elements of a path are those of their kinds
pub parts-written : (names : List (List ℕ)) (elems : List CellElem) → map (λ (elem : CellElem). part_of names elem.kind) elems ≡ parts_of names (map (λ (elem : CellElem). elem.kind) elems)
parts-written names [] = refl
parts-written names (e ∷ es) = ap (λ (path : List Part). part_of names e.kind ∷ path) (parts-written names es)
