-- What is asked of an effect before it is shown to people.
use Rattle.std.specs.Prelude.{Bool, true, false}
use Rattle.std.specs.List.{list_any}
use Rattle.region_paths.specs.declared.elements.Elem.{Elem}
use Rattle.region_paths.specs.declared.elements.Elem.TheVariants.{Name, Index, Var, AnyIndex}
use Rattle.region_paths.specs.Written.{WrittenPath}

-- the element is any index
abbrev pub is_any_index : Elem → Bool
is_any_index (Name number) = false
is_any_index (Index value) = false
is_any_index (Var number) = false
is_any_index AnyIndex = true

-- some index of the path counts as any
abbrev pub has_any_index : WrittenPath → Bool
has_any_index path = list_any is_any_index path.elems
