-- Records without one of them. Whether two records are the same is computed, so that what is left is a function of both.
use Rattle.std.specs.Prelude.{◌&&◌, ◌==◌, Bool, true, false, List, [], ◌∷◌, if◌then◌else◌}
use Rattle.std.specs.Ordering.{int_eq}
use Rattle.region_paths.specs.declared.elements.Elem.{Elem}
use Rattle.region_paths.specs.declared.elements.Elem.TheVariants.{Name, Index, Var, AnyIndex}
use Rattle.region_paths.specs.Written.{WrittenPath}
use Rattle.effect_sets.specs.declared.effects.Effect.{Effect}
use Rattle.floor_laws.specs.admission.admission_core.States.{Record}

-- both are true, or both are false
abbrev pub same_truth : Bool → Bool → Bool
same_truth true b = b
same_truth false true = false
same_truth false false = true

-- the elements are the same: the same name, index or variable, or both any index
abbrev pub same_elem : Elem → Elem → Bool
same_elem (Name n) (Name m) = n == m
same_elem (Index i) (Index j) = int_eq i j
same_elem (Var k) (Var l) = k == l
same_elem AnyIndex AnyIndex = true
same_elem _ _ = false

-- the lists have the same elements in the same order
abbrev pub same_elems : List Elem → List Elem → Bool
same_elems [] [] = true
same_elems [] (b ∷ ys) = false
same_elems (a ∷ xs) [] = false
same_elems (a ∷ xs) (b ∷ ys) = same_elem a b && same_elems xs ys

-- the paths are written the same
abbrev pub same_path : WrittenPath → WrittenPath → Bool
same_path a b = same_elems a.elems b.elems && (same_truth a.star b.star && same_elems a.tail b.tail)

-- both effects are reads or both are writes, of the same path
abbrev pub same_effect : Effect → Effect → Bool
same_effect a b = same_truth a.write b.write && same_path a.path b.path

-- the records are of the same effect of the same task, at the same node
abbrev pub same_record : Record → Record → Bool
same_record r s = (r.task == s.task) && (same_effect r.effect s.effect && (r.node == s.node))

-- the records but this one
abbrev pub without_record : Record → List Record → List Record
without_record r [] = []
without_record r (x ∷ xs) = if same_record x r then without_record r xs else x ∷ without_record r xs
