-- What the paths of a text mean fits, where what they ask for is there.
use Rattle.std.proofs.Common.{◌≡◌, ◌<◌, ◌≤◌, ℕ, zero, suc, ◌+◌, Bool, ◌||◌, if◌then◌else◌, bytes_eq, List, [], ◌∷◌, ◌++◌, Option, None, Some, map, length, take, drop, refl, sym, ap, ◌∙◌, subst, arith, length-append}
use Rattle.std.specs.List.{AllByRecursion, flat_map, list_any}
use Rattle.std.proofs.lemmas.List.Concat.{flat_map-append}
use Rattle.region_paths.specs.declared.elements.Elem.{Elem}
use Rattle.effect_sets.specs.declared.effects.Effect.{Effect}
use Rattle.twe_base.specs.Language.{max_path_elements}
use Rattle.twe_base.specs.declared.place.Place.{Place}
use Rattle.twe_ast.specs.declared.item.Clause.{Clause}
use Rattle.twe_ast.specs.declared.item.ReturnType.{ReturnType}
use Rattle.twe_ast.specs.declared.path.Path.{Path}
use Rattle.twe_ast.specs.declared.path.PathElem.{PathElem}
use Rattle.twe_ast.specs.declared.path.PathElemKind.{PathElemKind}
use Rattle.twe_ast.specs.declared.path.PathElemKind.TheVariants as elem_kinds
use Rattle.twe_ast.specs.declared.path.CellElem.{CellElem}
use Rattle.twe_ast.specs.declared.path.CellElemKind.{CellElemKind}
use Rattle.twe_ast.specs.declared.path.CellElemKind.TheVariants as cell_kinds
use Rattle.twe_program.specs.Program.{Program}
use Rattle.twe_program.specs.WellFormed.{ElementFits, CellElementFits, PathFits}
use Rattle.name_check.specs.declared.binding.NameUse.TheVariants as name_use
use Rattle.name_check.specs.declared.binding.Global.{Global}
use Rattle.name_check.specs.declared.binding.Global.TheVariants as global_kinds
use Rattle.name_check.specs.declared.binding.Local.{Local}
use Rattle.name_check.specs.declared.binding.Local.TheVariants as local_kinds
use Rattle.name_check.specs.declared.names.GlobalName.{GlobalName}
use Rattle.name_check.specs.declared.scope.LocalName.{LocalName}
use Rattle.name_check.specs.Names.{first_local, global_of, either, binding_of_local, seen_as_global}
use Rattle.name_check.specs.Sites.{asks_of_kind, asks_of_path, asks_of_clause, asks_of_cell_kind}
use Rattle.name_check.specs.Limits.{is_star, is_star_kind}
use Rattle.twe_names.specs.PathMeaning.{region_number, param_number, elem_of_kind, elems_of, before_star, after_star, path_meaning, effects_of_clause, elem_of_cell_kind}
use Rattle.twe_names.proofs.Lists.{all-append, all-front, all-back}
use Rattle.twe_names.proofs.Clean.{UseClean, AskClean, AsksClean}
use Rattle.twe_names.proofs.There.{SeenThere, AllLocalsThere, GlobalsThere, chosen, global-there}

region-there : (p : Program) (o : Option Global) → UseClean name_use.Region (seen_as_global o) → SeenThere p 0 [] (seen_as_global o) → region_number o < length p.regions
region-there p None h k = absurd h
region-there p (Some (global_kinds.Region number)) h k = k
region-there p (Some (global_kinds.Cells number indexes)) h k = absurd h
region-there p (Some (global_kinds.Method number params returns)) h k = absurd h
region-there p (Some (global_kinds.Task number params returns)) h k = absurd h

-- where a region is asked for, no local has the name
not_local : (l : Option Local) (g : Option Global) → UseClean name_use.Region (either l g) → UseClean name_use.Region (seen_as_global g)
not_local None g h = h
not_local (Some (local_kinds.Variable number type constant)) g h = absurd h
not_local (Some (local_kinds.Future number spawned void)) g h = absurd h

param-there : (vars : ℕ) (p : Program) (o : Option Local) → UseClean name_use.Parameter (binding_of_local o) → SeenThere p vars [] (binding_of_local o) → param_number o < vars
param-there vars p None h k = absurd h
param-there vars p (Some (local_kinds.Variable number type constant)) h k = k
param-there vars p (Some (local_kinds.Future number spawned void)) h k = absurd h

local-there : (p : Program) (vars : ℕ) (text : List ℕ) (locals : List LocalName) → AllLocalsThere p vars [] locals → SeenThere p vars [] (binding_of_local (first_local text locals))
local-there p vars text [] h = tt
local-there p vars text (l ∷ ls) h =
    chosen (λ (o : Option Local). SeenThere p vars [] (binding_of_local o)) (bytes_eq text l.text) (Some l.local) (first_local text ls) h.0 (local-there p vars text ls h.1)

-- the elements of a beginning, and then the others
take-rest : {X : Type 0} (k : ℕ) (xs : List X) → take k xs ++ drop (length (take k xs)) xs ≡ xs
take-rest zero xs = refl
take-rest (suc k) [] = refl
take-rest (suc k) (x ∷ xs) = ap (λ ys. x ∷ ys) (take-rest k xs)

module _ (globals : List GlobalName) (params : List LocalName) where
  kind-length : (kind : PathElemKind) (rest : List Elem) (starred : Bool) (n : ℕ) → length rest + (if starred then 1 else 0) ≤ n
      → length (elem_of_kind globals params kind ++ rest) + (if is_star_kind kind || starred then 1 else 0) ≤ suc n
  kind-length (elem_kinds.Name text) rest starred n h = omega arith
  kind-length (elem_kinds.Index index) rest starred n h = omega arith
  kind-length (elem_kinds.Variable name) rest starred n h = omega arith
  kind-length elem_kinds.AnyIndex rest starred n h = omega arith
  kind-length elem_kinds.Star rest starred n h = omega arith

  -- a path means no more elements than are written, its star counted
  elems-length : (elems : List PathElem) → length (elems_of globals params elems) + (if list_any is_star elems then 1 else 0) ≤ length elems
  elems-length [] = omega arith
  elems-length (elem ∷ elems) = kind-length elem.kind (elems_of globals params elems) (list_any is_star elems) (length elems) (elems-length elems)

  parts : (elems : List PathElem) → elems_of globals params elems ≡ elems_of globals params (before_star elems) ++ elems_of globals params (after_star elems)
  parts elems =
      ap (λ (xs : List PathElem). elems_of globals params xs) (sym (take-rest _ elems))
      ∙ flat_map-append (λ (elem : PathElem). elem_of_kind globals params elem.kind) (before_star elems) (after_star elems)

module _ (p : Program) (globals : List GlobalName) (globals_there : GlobalsThere p globals) where
  cell-elem-fits : (kind : CellElemKind) (place : Place) (returns : ReturnType) → AsksClean globals [] returns (asks_of_cell_kind kind place)
      → CellElementFits (length p.regions) (elem_of_cell_kind globals kind)
  cell-elem-fits (cell_kinds.Name text) place returns h = region-there p (global_of globals text) h.0 (global-there p 0 [] globals globals_there text)
  cell-elem-fits (cell_kinds.Index index) place returns h = tt

  pub cell-elems-fit : (elems : List CellElem) (returns : ReturnType)
      → AsksClean globals [] returns (flat_map (λ (elem : CellElem). asks_of_cell_kind elem.kind elem.place) elems)
      → AllByRecursion (CellElementFits (length p.regions)) (map (λ (elem : CellElem). elem_of_cell_kind globals elem.kind) elems)
  cell-elems-fit [] returns h = tt
  cell-elems-fit (elem ∷ elems) returns h =
      let P = AskClean globals [] returns in
      let one = asks_of_cell_kind elem.kind elem.place in
      let more = flat_map (λ (e : CellElem). asks_of_cell_kind e.kind e.place) elems in
      (cell-elem-fits elem.kind elem.place returns (all-front P one more h), cell-elems-fit elems returns (all-back P one more h))

  module _ (params : List LocalName) (count : ℕ) (params_there : AllLocalsThere p count [] params) (returns : ReturnType) where
    elem-fits : (kind : PathElemKind) (place : Place) → AsksClean globals params returns (asks_of_kind kind place)
        → AllByRecursion (ElementFits (length p.regions) count) (elem_of_kind globals params kind)
    elem-fits (elem_kinds.Name text) place h =
        (region-there p (global_of globals text) (not_local (first_local text params) (global_of globals text) h.0) (global-there p 0 [] globals globals_there text), tt)
    elem-fits (elem_kinds.Index index) place h = (tt, tt)
    elem-fits (elem_kinds.Variable name) place h = (param-there count p (first_local name.text params) h.0 (local-there p count name.text params params_there), tt)
    elem-fits elem_kinds.AnyIndex place h = (tt, tt)
    elem-fits elem_kinds.Star place h = tt

    elems-fit : (elems : List PathElem) → AsksClean globals params returns (flat_map (λ (elem : PathElem). asks_of_kind elem.kind elem.place) elems)
        → AllByRecursion (ElementFits (length p.regions) count) (elems_of globals params elems)
    elems-fit [] h = tt
    elems-fit (elem ∷ elems) h =
        let P = AskClean globals params returns in
        let one = asks_of_kind elem.kind elem.place in
        let more = flat_map (λ (e : PathElem). asks_of_kind e.kind e.place) elems in
        all-append (ElementFits (length p.regions) count) (elem_of_kind globals params elem.kind) (elems_of globals params elems)
        (elem-fits elem.kind elem.place (all-front P one more h)) (elems-fit elems (all-back P one more h))

    path-fits : (path : Path) → length path.elems ≤ max_path_elements → AsksClean globals params returns (asks_of_path path)
        → PathFits (length p.regions) count (path_meaning globals params path)
    path-fits path short h =
        let P = ElementFits (length p.regions) count in
        let front = elems_of globals params (before_star path.elems) in
        let back = elems_of globals params (after_star path.elems) in
        let e = parts globals params path.elems in
        let all = subst (AllByRecursion P) e (elems-fit path.elems h) in
        let long : length (elems_of globals params path.elems) ≡ length front + length back = ap length e ∙ length-append front back in
        record {
          elems = all-front P front back all;
          tail = all-back P front back all;
          short = omega (arith, elems-length globals params path.elems);
        }

    abbrev EffectFits : Effect → Type 0
    EffectFits e = PathFits (length p.regions) count e.path

    paths-fit : (write : Bool) (paths : List Path) → AllByRecursion (λ (path : Path). length path.elems ≤ max_path_elements) paths
        → AsksClean globals params returns (flat_map asks_of_path paths)
        → AllByRecursion EffectFits (map (λ (path : Path). record { write = write; path = path_meaning globals params path }) paths)
    paths-fit write [] short h = tt
    paths-fit write (path ∷ paths) short h =
        let P = AskClean globals params returns in
        let one = asks_of_path path in
        let more = flat_map asks_of_path paths in
        (path-fits path short.0 (all-front P one more h), paths-fit write paths short.1 (all-back P one more h))

    pub clauses-fit : (clauses : List Clause) → AllByRecursion (λ (path : Path). length path.elems ≤ max_path_elements) (flat_map (λ (clause : Clause). clause.paths) clauses)
        → AsksClean globals params returns (flat_map asks_of_clause clauses)
        → AllByRecursion EffectFits (flat_map (effects_of_clause globals params) clauses)
    clauses-fit [] short h = tt
    clauses-fit (clause ∷ clauses) short h =
        let P = AskClean globals params returns in
        let S = λ (path : Path). length path.elems ≤ max_path_elements in
        let one = asks_of_clause clause in
        let more = flat_map asks_of_clause clauses in
        let paths = flat_map (λ (c : Clause). c.paths) clauses in
        all-append EffectFits (effects_of_clause globals params clause) (flat_map (effects_of_clause globals params) clauses)
        (paths-fit clause.write clause.paths (all-front S clause.paths paths short) (all-front P one more h))
        (clauses-fit clauses (all-back S clause.paths paths short) (all-back P one more h))
