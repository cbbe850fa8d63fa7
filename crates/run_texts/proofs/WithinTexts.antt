-- The path of a cell of a declaration, written in two parts.
use Rattle.std.proofs.Common.{◌≡◌, ◌++◌, ℕ, List, [], ◌∷◌, map, refl, sym, ap, ◌∙◌, append_assoc}
use Rattle.std.specs.Prelude.{◌/◌, ◌%◌, codes, pos}
use Rattle.std.specs.List.{flat_map}
use Rattle.std.proofs.lemmas.List.{append-nil}
use Rattle.std.proofs.lemmas.Grind.{flat_map-append}
use Rattle.region_paths.specs.Concrete.{ConcretePath, number}
use Rattle.region_paths.specs.declared.elements.Elem.{Elem}
use Rattle.isolation_laws.specs.soundness.CellPaths.{concrete, indexes_at}
use Rattle.twe_program.specs.declared.program.Dims.{Dims}
use Rattle.twe_program.specs.declared.program.Dims.TheVariants.{Scalar, Row, Grid}
use Rattle.run_texts.specs.CellTexts.{concrete_text, first_part, more_parts, next_part}

pub parts_mapped : (regions : List (List ℕ)) (elems : List Elem) → flat_map (λ elem. next_part regions (concrete elem)) elems ≡ more_parts regions (map concrete elems)
parts_mapped regions [] = refl
parts_mapped regions (e ∷ es) = ap (λ (l : List ℕ). next_part regions (concrete e) ++ l) (parts_mapped regions es)

-- indexes name no region
indexes_alone : (regions : List (List ℕ)) (dims : Dims) (place : ℕ) → more_parts regions (indexes_at dims place) ≡ more_parts [] (indexes_at dims place)
indexes_alone regions Scalar place = refl
indexes_alone regions (Row count) place = refl
indexes_alone regions (Grid rows columns) place = refl

below_root : (regions : List (List ℕ)) (dims : Dims) (place : ℕ) → concrete_text regions (indexes_at dims place) ≡ codes "Root" ++ more_parts [] (indexes_at dims place)
below_root regions Scalar place = sym (append-nil (codes "Root"))
below_root regions (Row count) place = append_assoc (codes "Root") (next_part regions (number (pos place))) []
below_root regions (Grid rows columns) place =
    append_assoc (codes "Root") (next_part regions (number (pos (place / columns)))) (more_parts regions (number (pos (place % columns)) ∷ []))

-- the path of an element is that of its declaration, and its indexes
pub within_text : (regions : List (List ℕ)) (path : ConcretePath) (dims : Dims) (place : ℕ)
    → concrete_text regions path ++ more_parts [] (indexes_at dims place) ≡ concrete_text regions (path ++ indexes_at dims place)
within_text regions [] dims place = sym (below_root regions dims place)
within_text regions (part ∷ path) dims place =
    append_assoc (first_part regions part) (more_parts regions path) (more_parts [] (indexes_at dims place))
    ∙ ap (λ (l : List ℕ). first_part regions part ++ l)
    (ap (λ (l : List ℕ). more_parts regions path ++ l) (sym (indexes_alone regions dims place)) ∙ sym (flat_map-append (next_part regions) path (indexes_at dims place)))
