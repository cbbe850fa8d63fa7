-- Each failure of the rules is in the list, but for that of how many cells and nodes there are.
use Rattle.std.proofs.Common.{◌≡◌, ◌⊎◌, ◌==◌, ℕ, Bool, true, false, not, ◌&&◌, List, [], ◌∷◌, ◌++◌, Some, is_some, length, inl, inr, refl, sym, ap, ◌∙◌, subst, append_assoc, append-nil, arith}
use Rattle.std.proofs.lemmas.Bool.{false≢true}
use Rattle.std.proofs.lemmas.Bool.Decides.{nat_tests}
use Rattle.std.specs.List.{Contains, flat_map, list_any}
use Rattle.std.specs.Prelude.{codes}
use Rattle.std.specs.Str.{bytes_eq}
use Rattle.std.specs.Cmp.Lexicographic.{bytes_decides}
use Rattle.twe_base.specs.Language.{max_effects, max_parameters, max_path_elements}
use Rattle.twe_base.specs.declared.place.Place.{Place}
use Rattle.twe_ast.specs.declared.item.Ast.{Ast}
use Rattle.twe_ast.specs.declared.item.CellDecl.{CellDecl}
use Rattle.twe_ast.specs.declared.item.Decl.{Decl}
use Rattle.twe_ast.specs.declared.item.Item.{Item}
use Rattle.twe_ast.specs.declared.item.Item.TheVariants as items
use Rattle.twe_ast.specs.declared.item.ReturnType.{ReturnType}
use Rattle.twe_ast.specs.declared.item.ReturnType.TheVariants as return_types
use Rattle.twe_ast.specs.declared.name.Name.{Name}
use Rattle.twe_ast.specs.declared.path.CellElem.{CellElem}
use Rattle.twe_ast.specs.declared.path.Path.{Path}
use Rattle.twe_ast.specs.declared.path.PathElem.{PathElem}
use Rattle.twe_ast.specs.declared.stmt.LocalType.{LocalType}
use Rattle.twe_ast.specs.declared.stmt.LocalType.TheVariants.{Int, Boolean}
use Rattle.name_check.specs.cell_limits.GoesOver.{cells_of, cells_of_item, GoesOver}
use Rattle.name_check.specs.declared.rule.NRule.{NRule}
use Rattle.name_check.specs.declared.rule.NRule.TheVariants.{N1, N2, N3, N4, N5, N6, N7, N8, N9}
use Rattle.name_check.specs.FailsName.{NameFailure}
use Rattle.name_check.specs.declared.binding.NameUse.{NameUse}
use Rattle.name_check.specs.declared.binding.NameUse.TheVariants as name_use
use Rattle.name_check.specs.declared.binding.Global.TheVariants as global_kinds
use Rattle.name_check.specs.declared.binding.Local.TheVariants as local_kinds
use Rattle.name_check.specs.declared.binding.Binding.{Binding}
use Rattle.name_check.specs.declared.binding.Binding.TheVariants as bindings
use Rattle.name_check.specs.declared.names.GlobalName.{GlobalName}
use Rattle.name_check.specs.declared.scope.LocalName.{LocalName}
use Rattle.name_check.specs.Names.{globals_of, binding_of}
use Rattle.name_check.specs.Types.{same_type, type_of}
use Rattle.name_check.specs.Asks.{Ask, uses, needs, declares, returns_value, returns_nothing, place_of}
use Rattle.name_check.specs.Sites.{Site, sites_of, sites_of_item}
use Rattle.name_check.specs.Ends.{one_ends, close_of}
use Rattle.name_check.specs.Limits.{StandsAfter, decls_of, decls_of_item, paths_of}
use Rattle.name_check.specs.FailsName as rules
use Rattle.name_check.specs.FailsName.{FailsName, Asks, HasMain, IsDeclaredAgain, binding_as, fits}
use Rattle.name_check.specs.inner.Failures.{lacks_value, has_other_count, assigns_constant, failures_of_use, differs, failures_by, failures_at, is_void}
use Rattle.twe_base.specs.First.{failure_if}
use Rattle.name_check.specs.OtherFailures.{failures_of_place, parameter_over_limit, path_over_limit, element_over_limit, path_failures, clauses_failures, lacks_return, decl_failures, item_failures}
use Rattle.name_check.specs.inner.Whole.{is_again, again_failures, is_main_item}
use Rattle.twe_base.proofs.Firsts.{in-if}
use Rattle.name_check.proofs.Elements.{failure, in-over, in-star, in-clauses}
use Rattle.twe_base.proofs.Members.{IsIn, in-left, in-right, contains-in, in-contains, flat_map-in, in-flat_map, list_any-in, in-list_any, both-true, true-both, true-or, false-not}
use Rattle.name_check.proofs.Gathered.{site_failures, failures_in_item, failures_in}

-- it is the failure of a declaration that goes over a limit
abbrev pub GoesOverAt : Ast → NameFailure → Type 0
GoesOverAt ast f = (cell : CellDecl) × GoesOver (cells_of ast.items) cell × (f ≡ failure N7 cell.name.place)

differ-not_same : (type other : LocalType) → ¬ (type ≡ other) → not (same_type (Some type) (Some other)) ≡ true
differ-not_same Int Int h = absurd (h refl)
differ-not_same Int Boolean h = refl
differ-not_same Boolean Int h = refl
differ-not_same Boolean Boolean h = absurd (h refl)

not_equal : (params args : ℕ) → ¬ (params ≡ args) → not (params == args) ≡ true
not_equal params args h = grind (arith, nat_tests)

module _ (ast : Ast) where
  module _ (locals : List LocalName) (returns : ReturnType) (ask : Ask) (there : Asks ast locals returns ask) where
    -- a failure of what is asked for is in the list
    in_site : (f : NameFailure) → IsIn f (failures_by (globals_of ast) locals returns ask) → IsIn f (failures_in ast)
    in_site f h =
        let site : Site = record { locals = locals; returns = returns; ask = ask } in
        let d = flat_map-in (sites_of_item (globals_of ast)) ast.items site (contains-in (sites_of ast) site there) in
        let item : Item = d.0 in
        let in_sites : IsIn f (site_failures (globals_of ast) (sites_of_item (globals_of ast) item)) = in-flat_map (failures_at (globals_of ast)) (sites_of_item (globals_of ast) item) site f d.2 h in
        in-left f (flat_map (failures_in_item (globals_of ast)) ast.items) _
        (in-flat_map (failures_in_item (globals_of ast)) ast.items item f d.1 (in-left f (site_failures (globals_of ast) (sites_of_item (globals_of ast) item)) (item_failures item) in_sites))

  -- one of the other failures of an item is in the list
  in_item : (item : Item) → IsIn item ast.items → (f : NameFailure) → IsIn f (item_failures item) → IsIn f (failures_in ast)
  in_item item there f h =
      in-left f (flat_map (failures_in_item (globals_of ast)) ast.items) _
      (in-flat_map (failures_in_item (globals_of ast)) ast.items item f there (in-right f (site_failures (globals_of ast) (sites_of_item (globals_of ast) item)) (item_failures item) h))

  decl_item : (decl : Decl) (item : Item) → IsIn decl (decls_of_item item) → (f : NameFailure) → IsIn f (decl_failures decl) → IsIn f (item_failures item)
  decl_item decl (items.Regions names) there f h = absurd there
  decl_item decl (items.Cell cell) there f h = absurd there
  decl_item decl (items.Method d) (inl e) f h = subst (λ x. IsIn f (decl_failures x)) e h
  decl_item decl (items.Method d) (inr none) f h = absurd none
  decl_item decl (items.Task deterministic d) (inl e) f h = subst (λ x. IsIn f (decl_failures x)) e h
  decl_item decl (items.Task deterministic d) (inr none) f h = absurd none

  in_decl : (decl : Decl) → Contains (decls_of ast) decl → (f : NameFailure) → IsIn f (decl_failures decl) → IsIn f (failures_in ast)
  in_decl decl there f h =
      let d = flat_map-in decls_of_item ast.items decl (contains-in (decls_of ast) decl there) in
      in_item d.0 d.1 f (decl_item decl d.0 d.2 f h)

  cell_item : (cell : CellDecl) (item : Item) → IsIn cell (cells_of_item item) → (f : NameFailure) → IsIn f (item_failures (items.Cell cell)) → IsIn f (item_failures item)
  cell_item cell (items.Regions names) there f h = absurd there
  cell_item cell (items.Cell c) (inl e) f h = subst (λ (x : CellDecl). IsIn f (item_failures (items.Cell x))) e h
  cell_item cell (items.Cell c) (inr none) f h = absurd none
  cell_item cell (items.Method d) there f h = absurd there
  cell_item cell (items.Task deterministic d) there f h = absurd there

  in_cell : (cell : CellDecl) → Contains (cells_of ast.items) cell → (f : NameFailure) → IsIn f (item_failures (items.Cell cell)) → IsIn f (failures_in ast)
  in_cell cell there f h =
      let d = flat_map-in cells_of_item ast.items cell (contains-in (cells_of ast.items) cell there) in
      in_item d.0 d.1 f (cell_item cell d.0 d.2 f h)

  -- the parts of the failures of a use of a name that is seen
  module _ (locals : List LocalName) (returns : ReturnType) (name : Name) (asks : NameUse) (other : Binding)
      (there : Asks ast locals returns (uses name asks)) (is : binding_as (globals_of ast) locals asks name.text ≡ Some other) where
    in_use : (f : NameFailure) → IsIn f (failures_of_use asks (Some other) name.place) → IsIn f (failures_in ast)
    in_use f h = in_site locals returns (uses name asks) there f (subst (λ o. IsIn f (failures_of_use asks o name.place)) (sym is) h)

    in_kind : fits asks other ≡ false → IsIn (failure N3 name.place) (failures_in ast)
    in_kind h =
        in_use (failure N3 name.place)
        (in-left (failure N3 name.place) (failure_if (not (fits asks other)) N3 name.place) _ (in-if (not (fits asks other)) N3 name.place (false-not (fits asks other) h)))

    in_value : lacks_value asks other ≡ true → IsIn (failure N3 name.place) (failures_in ast)
    in_value h =
        in_use (failure N3 name.place)
        (in-right (failure N3 name.place) (failure_if (not (fits asks other)) N3 name.place) _
        (in-left (failure N3 name.place) (failure_if (lacks_value asks other) N3 name.place) _ (in-if (lacks_value asks other) N3 name.place h)))

    in_count : has_other_count asks other ≡ true → IsIn (failure N4 name.place) (failures_in ast)
    in_count h =
        in_use (failure N4 name.place)
        (in-right (failure N4 name.place) (failure_if (not (fits asks other)) N3 name.place) _
        (in-right (failure N4 name.place) (failure_if (lacks_value asks other) N3 name.place) _
        (in-left (failure N4 name.place) (failure_if (has_other_count asks other) N4 name.place) _ (in-if (has_other_count asks other) N4 name.place h))))

    in_constant : assigns_constant asks other ≡ true → IsIn (failure N6 name.place) (failures_in ast)
    in_constant h =
        in_use (failure N6 name.place)
        (in-right (failure N6 name.place) (failure_if (not (fits asks other)) N3 name.place) _
        (in-right (failure N6 name.place) (failure_if (lacks_value asks other) N3 name.place) _
        (in-right (failure N6 name.place) (failure_if (has_other_count asks other) N4 name.place) _ (in-if (assigns_constant asks other) N6 name.place h))))

  -- a name that is declared again
  again-listed : (before between : List GlobalName) (this : GlobalName) (after : List GlobalName) → is_again (before ++ between) this ≡ true
      → IsIn (failure N2 this.place) (again_failures before (between ++ this ∷ after))
  again-listed before [] this after h =
      in-left (failure N2 this.place) (failure_if (is_again before this) N2 this.place) _
      (in-if (is_again before this) N2 this.place (subst (λ xs. is_again xs this ≡ true) (append-nil before) h))
  again-listed before (first ∷ between) this after h =
      in-right (failure N2 this.place) (failure_if (is_again before first) N2 first.place) _
      (again-listed (before ++ first ∷ []) between this after (subst (λ xs. is_again xs this ≡ true) (sym (append_assoc before (first ∷ []) between)) h))

  in_again : (this : GlobalName) → IsDeclaredAgain ast this → IsIn (failure N2 this.place) (failures_in ast)
  in_again this h =
      let passes : is_again h.before this ≡ true = true-or (bytes_eq this.text (codes "Console")) (list_any (λ (e : GlobalName). bytes_eq this.text e.text) h.before) (elim h.again [
        | inl console ↦ inl ((bytes_decides this.text (codes "Console")).1 console)
        | inr found ↦
            let earlier : GlobalName = found.0 in
            inr (in-list_any (λ (e : GlobalName). bytes_eq this.text e.text) h.before earlier (contains-in h.before earlier found.1) ((bytes_decides this.text earlier.text).1 (sym found.2)))
      ]) in
      let listed : IsIn (failure N2 this.place) (again_failures [] (globals_of ast)) =
      subst (λ xs. IsIn (failure N2 this.place) (again_failures [] xs)) (sym h.list) (again-listed [] h.before this h.after passes) in
      in-right (failure N2 this.place) (flat_map (failures_in_item (globals_of ast)) ast.items) _ (in-left (failure N2 this.place) (again_failures [] (globals_of ast)) _ listed)

  -- there is no `main`
  no_names : (names : List Name) → (length names == 0) ≡ true → names ≡ []
  no_names [] h = refl
  no_names (name ∷ names) h = absurd (grind (arith, nat_tests))

  void_is : (returns : ReturnType) → is_void returns ≡ true → returns ≡ return_types.Void
  void_is return_types.Void h = refl
  void_is return_types.Int h = absurd (false≢true h)

  main_is : (item : Item) → IsIn item ast.items → is_main_item item ≡ true → HasMain ast
  main_is (items.Regions names) there h = absurd (false≢true h)
  main_is (items.Cell cell) there h = absurd (false≢true h)
  main_is (items.Method decl) there h = absurd (false≢true h)
  main_is (items.Task deterministic decl) there h =
      let a = both-true (bytes_eq decl.name.text (codes "main")) ((length decl.params == 0) && is_void decl.returns) h in
      let b = both-true (length decl.params == 0) (is_void decl.returns) a.1 in
      record {
        deterministic = deterministic;
        decl = decl;
        there = in-contains ast.items (items.Task deterministic decl) there;
        named = (bytes_decides decl.name.text (codes "main")).0 a.0;
        plain = no_names decl.params b.0;
        void = void_is decl.returns b.1;
      }

  no_main_passes : ¬ HasMain ast → (b : Bool) → list_any is_main_item ast.items ≡ b → not b ≡ true
  no_main_passes h true e = let d = list_any-in is_main_item ast.items e in absurd (h (main_is d.0 d.1 d.2))
  no_main_passes h false e = refl

  in_main : ¬ HasMain ast → IsIn (failure N8 ast.end) (failures_in ast)
  in_main h =
      in-right (failure N8 ast.end) (flat_map (failures_in_item (globals_of ast)) ast.items) _
      (in-right (failure N8 ast.end) (again_failures [] (globals_of ast)) _
      (in-if (not (list_any is_main_item ast.items)) N8 ast.end (no_main_passes h (list_any is_main_item ast.items) refl)))

  -- the parts of the failures of a declaration
  module _ (decl : Decl) (there : Contains (decls_of ast) decl) where
    in_params : (name : Name) → StandsAfter max_parameters decl.params name → IsIn (failure N7 name.place) (failures_in ast)
    in_params name h =
        in_decl decl there (failure N7 name.place) (in-left (failure N7 name.place) (failures_of_place N7 (parameter_over_limit decl.params)) _ (in-over (λ (n : Name). n.place) decl.params max_parameters N7 name h))

    in_paths : (path : Path) → StandsAfter max_effects (paths_of decl) path → IsIn (failure N7 path.place) (failures_in ast)
    in_paths path h =
        in_decl decl there (failure N7 path.place)
        (in-right (failure N7 path.place) (failures_of_place N7 (parameter_over_limit decl.params)) _
        (in-left (failure N7 path.place) (failures_of_place N7 (path_over_limit (paths_of decl))) _ (in-over (λ (p : Path). p.place) (paths_of decl) max_effects N7 path h)))

    in_path : (path : Path) → Contains (paths_of decl) path → (f : NameFailure) → IsIn f (path_failures path) → IsIn f (failures_in ast)
    in_path path among f h =
        in_decl decl there f
        (in-right f (failures_of_place N7 (parameter_over_limit decl.params)) _
        (in-right f (failures_of_place N7 (path_over_limit (paths_of decl))) _
        (in-left f (clauses_failures decl.effects) _ (in-clauses decl.effects path f (contains-in (paths_of decl) path among) h))))

    in_end : decl.returns ≡ return_types.Int → one_ends decl.body ≡ false → IsIn (failure N5 (close_of decl.body)) (failures_in ast)
    in_end int ends =
        let f : NameFailure = failure N5 (close_of decl.body) in
        in_decl decl there f
        (in-right f (failures_of_place N7 (parameter_over_limit decl.params)) _
        (in-right f (failures_of_place N7 (path_over_limit (paths_of decl))) _
        (in-right f (clauses_failures decl.effects) _
        (in-if (lacks_return decl) N5 (close_of decl.body)
        (true-both (not (is_void decl.returns)) (not (one_ends decl.body)) (ap (λ r. not (is_void r)) int) (false-not (one_ends decl.body) ends))))))

  pub fails-listed : (rule : NRule) (place : Place) → FailsName ast rule place → IsIn (failure rule place) (failures_in ast) ⊎ GoesOverAt ast (failure rule place)
  fails-listed rule place (rules.unknown locals returns name asks there none) =
      inl (in_site locals returns (uses name asks) there (failure N1 name.place) (subst (λ o. IsIn (failure N1 name.place) (failures_of_use asks o name.place)) (sym none) (inl refl)))
  fails-listed rule place (rules.declared_again name again) = inl (in_again name again)
  fails-listed rule place (rules.hides locals returns name other there is) =
      inl (in_site locals returns (declares name) there (failure N2 name.place) (in-if (is_some (binding_of (globals_of ast) locals name.text)) N2 name.place (ap (λ o. is_some o) is)))
  fails-listed rule place (rules.other_kind locals returns name asks other there is unfit) = inl (in_kind locals returns name asks other there is unfit)
  fails-listed rule place (rules.other_type locals returns type other value there is differ) =
      inl (in_site locals returns (needs type value) there (failure N3 (place_of value))
      (in-if (differs type (type_of (globals_of ast) locals value)) N3 (place_of value) (ap (differs type) is ∙ differ-not_same type other differ)))
  fails-listed rule place (rules.void_method locals returns name args number params there is) =
      inl (in_value locals returns name (name_use.Method args true) (bindings.Global (global_kinds.Method number params return_types.Void)) there is refl)
  fails-listed rule place (rules.void_task locals returns name join spawned number there is) =
      inl (in_value locals returns name (name_use.Future join true) (bindings.Local (local_kinds.Future number spawned true)) there is refl)
  fails-listed rule place (rules.value_for_nothing locals place' there) = inl (in_site locals return_types.Void (returns_value place') there (failure N3 place') (inl refl))
  fails-listed rule place (rules.nothing_for_value locals place' there) = inl (in_site locals return_types.Int (returns_nothing place') there (failure N3 place') (inl refl))
  fails-listed rule place (rules.other_count_of_method locals returns its name args number params valued there is differ) =
      inl (in_count locals returns name (name_use.Method args valued) (bindings.Global (global_kinds.Method number params its)) there is (not_equal params args differ))
  fails-listed rule place (rules.other_count_of_task locals returns its name args number params there is differ) =
      inl (in_count locals returns name (name_use.Task args) (bindings.Global (global_kinds.Task number params its)) there is (not_equal params args differ))
  fails-listed rule place (rules.no_return decl there int ends) = inl (in_end decl there int ends)
  fails-listed rule place (rules.assigned locals returns name number type there is) =
      inl (in_constant locals returns name name_use.Target (bindings.Local (local_kinds.Variable number type true)) there is refl)
  fails-listed rule place (rules.too_many_cells cell goes) = inr (cell, goes, refl)
  fails-listed rule place (rules.long_cell_path cell elem there after) =
      inl (in_cell cell there (failure N7 elem.place) (in-over (λ (e : CellElem). e.place) cell.path.elems max_path_elements N7 elem after))
  fails-listed rule place (rules.long_path decl path elem there among after) =
      inl (in_path decl there path among (failure N7 elem.place)
      (in-left (failure N7 elem.place) (failures_of_place N7 (element_over_limit path.elems)) _ (in-over (λ (e : PathElem). e.place) path.elems max_path_elements N7 elem after)))
  fails-listed rule place (rules.too_many_effects decl path there after) = inl (in_paths decl there path after)
  fails-listed rule place (rules.too_many_params decl name there after) = inl (in_params decl there name after)
  fails-listed rule place (rules.no_main none) = inl (in_main none)
  fails-listed rule place (rules.second_star decl path elem there among star) =
      inl (in_path decl there path among (failure N9 elem.place)
      (in-right (failure N9 elem.place) (failures_of_place N7 (element_over_limit path.elems)) _ (in-star path.elems N9 elem star)))
