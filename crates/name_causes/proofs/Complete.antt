-- A rule of names that fails has a need that breaks it; or a global name is declared again, or a limit on cells or nodes is exceeded.
use Rattle.std.proofs.Common.{◌≡◌, ◌⊎◌, ◌==◌, ℕ, length, zero, suc, true, false, not, List, [], ◌∷◌, ◌++◌, Option, Some, is_some, inl, inr, refl, sym, ap, ◌∙◌, subst, arith, if◌then◌else◌}
use Rattle.std.proofs.lemmas.Bool.Decides.{nat_tests}
use Rattle.std.specs.List.{All, Contains, flat_map, slice_get}
use Rattle.std.specs.Option.{option_map}
use Rattle.std.proofs.lemmas.List.Elements.{All-contains}
use Rattle.twe_base.specs.Language.{max_effects, max_parameters, max_path_elements}
use Rattle.twe_base.specs.declared.place.Place.{Place}
use Rattle.twe_base.proofs.Members.{IsIn, in-left, in-right, contains-in, in-contains, flat_map-in, in-flat_map, false-not, true-or}
use Rattle.twe_ast.specs.declared.item.Ast.{Ast}
use Rattle.twe_ast.specs.declared.item.CellDecl.{CellDecl}
use Rattle.twe_ast.specs.declared.item.Clause.{Clause}
use Rattle.twe_ast.specs.declared.item.Decl.{Decl}
use Rattle.twe_ast.specs.declared.item.Item.{Item}
use Rattle.twe_ast.specs.declared.item.Item.TheVariants as items
use Rattle.twe_ast.specs.declared.item.ReturnType.{ReturnType}
use Rattle.twe_ast.specs.declared.item.ReturnType.TheVariants as return_types
use Rattle.twe_ast.specs.declared.name.Name.{Name}
use Rattle.twe_ast.specs.declared.path.CellElem.{CellElem}
use Rattle.twe_ast.specs.declared.path.Path.{Path}
use Rattle.twe_ast.specs.declared.path.PathElem.{PathElem}
use Rattle.twe_ast.specs.declared.stmt.LocalType.{LocalType}
use Rattle.twe_ast.specs.declared.stmt.LocalType.TheVariants.{Int, Boolean}
use Rattle.name_check.specs.declared.rule.NRule.{NRule}
use Rattle.name_check.specs.declared.rule.NRule.TheVariants.{N1, N3, N4, N6, N9}
use Rattle.name_check.specs.declared.binding.Binding.{Binding}
use Rattle.name_check.specs.declared.binding.Binding.TheVariants as bindings
use Rattle.name_check.specs.declared.binding.Global.TheVariants as global_kinds
use Rattle.name_check.specs.declared.binding.Local.TheVariants as local_kinds
use Rattle.name_check.specs.declared.binding.NameUse.{NameUse}
use Rattle.name_check.specs.declared.binding.NameUse.TheVariants as name_use
use Rattle.name_check.specs.declared.scope.LocalName.{LocalName}
use Rattle.name_check.specs.Asks.{Ask, uses, needs, declares, returns_value, returns_nothing}
use Rattle.name_check.specs.Ends.{close_of}
use Rattle.name_check.specs.FailsName as rules
use Rattle.name_check.specs.FailsName.{Asks, FailsName, binding_as, fits}
use Rattle.name_check.specs.Limits.{decls_of, decls_of_item, paths_of}
use Rattle.name_check.specs.Names.{binding_of, globals_of}
use Rattle.name_check.specs.Sites.{Site, sites_of, sites_of_item}
use Rattle.name_check.specs.Types.{same_type, type_of}
use Rattle.name_check.specs.cell_limits.GoesOver.{cells_of, cells_of_item}
use Rattle.name_check.specs.inner.Failures.{assigns_constant, differs, has_other_count, is_void, lacks_value}
use Rattle.name_check.specs.OtherFailures.{cell_element_over_limit, element_over_limit, parameter_over_limit, second_star}
use Rattle.name_check.proofs.Elements.{in-star, place-in, stands-got}
use Rattle.name_causes.specs.declared.need.NameLimit.TheVariants.{Elements, Effects, Parameters}
use Rattle.name_causes.specs.declared.need.NameNeed.{NameNeed}
use Rattle.name_causes.specs.declared.need.NameNeed.TheVariants.{Used, Typed, New, Returned, NoReturn, Over, SecondStar}
use Rattle.name_causes.specs.declared.need.PlacedNeed.{PlacedNeed}
use Rattle.name_causes.specs.Breaking.{breaks, breaks_use, misuses}
use Rattle.name_causes.specs.Needs.{need_at_site, need_of_ask, needs_at_sites, placed}
use Rattle.name_causes.specs.Others.{first_star, main_need, need_there, needs_of_text, needs_of_clause, needs_of_decl, needs_of_end, needs_of_item, needs_of_path, other_needs, places_of_effects, places_of_paths}
use Rattle.name_causes.specs.inner.Rest.{IsRest, KeepsRule}

differ-not_same : (type other : LocalType) → ¬ (type ≡ other) → not (same_type (Some type) (Some other)) ≡ true
differ-not_same Int Int h = absurd (h refl)
differ-not_same Int Boolean h = refl
differ-not_same Boolean Int h = refl
differ-not_same Boolean Boolean h = absurd (h refl)

not_equal : (params args : ℕ) → ¬ (params ≡ args) → not (params == args) ≡ true
not_equal params args h = grind (arith, nat_tests)

-- the parts of a misuse
kind_breaks : (asks : NameUse) (other : Binding) → fits asks other ≡ false → misuses N3 asks other ≡ true
kind_breaks asks other h = true-or _ _ (inl (true-or _ _ (inl (false-not (fits asks other) h))))

value_breaks : (asks : NameUse) (other : Binding) → lacks_value asks other ≡ true → misuses N3 asks other ≡ true
value_breaks asks other h = true-or _ _ (inl (true-or _ _ (inr h)))

count_breaks : (asks : NameUse) (other : Binding) → has_other_count asks other ≡ true → misuses N4 asks other ≡ true
count_breaks asks other h = true-or (has_other_count asks other) false (inl h)

constant_breaks : (asks : NameUse) (other : Binding) → assigns_constant asks other ≡ true → misuses N6 asks other ≡ true
constant_breaks asks other h = h

in_there : (found : Option Place) (place : Place) (need : NameNeed) → found ≡ Some place → IsIn (placed place need) (need_there found need)
in_there found place need e = subst (λ o. IsIn (placed place need) (need_there o need)) (sym e) (inl refl)

-- the places of the effects of a declaration are those of its paths
places-append : (xs ys : List Path) → places_of_paths (xs ++ ys) ≡ places_of_paths xs ++ places_of_paths ys
places-append [] ys = refl
places-append (x ∷ xs) ys = ap (λ zs. x.place ∷ zs) (places-append xs ys)

places_are : (clauses : List Clause) → places_of_effects clauses ≡ places_of_paths (flat_map (λ (clause : Clause). clause.paths) clauses)
places_are [] = refl
places_are (clause ∷ clauses) =
    ap (λ zs. places_of_paths clause.paths ++ zs) (places_are clauses)
    ∙ sym (places-append clause.paths (flat_map (λ (clause : Clause). clause.paths) clauses))

got_place : (paths : List Path) (n : ℕ) (path : Path) → slice_get paths n ≡ Some path → slice_get (places_of_paths paths) n ≡ Some path.place
got_place [] n path h = cc
got_place (x ∷ xs) zero path h = let e : x ≡ path = cc in ap (λ (p : Path). Some p.place) e
got_place (x ∷ xs) (suc n) path h = got_place xs n path h

module _ (ast : Ast) where
  -- a need of the text at the place breaks the rule
  abbrev pub HasBreach : NRule → Place → Type 0
  HasBreach rule place = (need : NameNeed) × IsIn (placed place need) (needs_of_text ast) × (breaks rule need ≡ true)

  in_item : (item : Item) → IsIn item ast.items → (need : PlacedNeed) → IsIn need (needs_of_item (globals_of ast) item) → IsIn need (needs_of_text ast)
  in_item item there need h =
      in-left need (flat_map (needs_of_item (globals_of ast)) ast.items) _ (in-flat_map (needs_of_item (globals_of ast)) ast.items item need there h)

  in_sites : (sites : List Site) (site : Site) → IsIn site sites → IsIn (need_at_site (globals_of ast) site) (needs_at_sites (globals_of ast) sites)
  in_sites [] site h = absurd h
  in_sites (first ∷ sites) site (inl e) = inl (ap (need_at_site (globals_of ast)) e)
  in_sites (first ∷ sites) site (inr h) = inr (in_sites sites site h)

  at_site : (locals : List LocalName) (returns : ReturnType) (ask : Ask) → Asks ast locals returns ask → IsIn (need_of_ask (globals_of ast) locals returns ask) (needs_of_text ast)
  at_site locals returns ask there =
      let site : Site = record { locals = locals; returns = returns; ask = ask } in
      let d = flat_map-in (sites_of_item (globals_of ast)) ast.items site (contains-in (sites_of ast) site there) in
      in_item d.0 d.1 (need_at_site (globals_of ast) site)
      (in-left (need_at_site (globals_of ast) site) (needs_at_sites (globals_of ast) (sites_of_item (globals_of ast) d.0)) (other_needs d.0)
      (in_sites (sites_of_item (globals_of ast) d.0) site d.2))

  -- what an item needs by itself
  in_others : (item : Item) → IsIn item ast.items → (need : PlacedNeed) → IsIn need (other_needs item) → IsIn need (needs_of_text ast)
  in_others item there need h =
      in_item item there need (in-right need (needs_at_sites (globals_of ast) (sites_of_item (globals_of ast) item)) (other_needs item) h)

  decl_item : (decl : Decl) (item : Item) → IsIn decl (decls_of_item item) → (need : PlacedNeed) → IsIn need (needs_of_decl decl) → IsIn need (other_needs item)
  decl_item decl (items.Regions names) there need h = absurd there
  decl_item decl (items.Cell cell) there need h = absurd there
  decl_item decl (items.Method d) (inl e) need h = subst (λ x. IsIn need (needs_of_decl x)) e h
  decl_item decl (items.Method d) (inr none) need h = absurd none
  decl_item decl (items.Task deterministic d) (inl e) need h = subst (λ x. IsIn need (needs_of_decl x)) e h
  decl_item decl (items.Task deterministic d) (inr none) need h = absurd none

  in_decl : (decl : Decl) → Contains (decls_of ast) decl → (need : PlacedNeed) → IsIn need (needs_of_decl decl) → IsIn need (needs_of_text ast)
  in_decl decl there need h =
      let d = flat_map-in decls_of_item ast.items decl (contains-in (decls_of ast) decl there) in
      in_others d.0 d.1 need (decl_item decl d.0 d.2 need h)

  cell_item : (cell : CellDecl) (item : Item) → IsIn cell (cells_of_item item) → (need : PlacedNeed) → IsIn need (other_needs (items.Cell cell)) → IsIn need (other_needs item)
  cell_item cell (items.Regions names) there need h = absurd there
  cell_item cell (items.Cell c) (inl e) need h = subst (λ (x : CellDecl). IsIn need (other_needs (items.Cell x))) e h
  cell_item cell (items.Cell c) (inr none) need h = absurd none
  cell_item cell (items.Method d) there need h = absurd there
  cell_item cell (items.Task deterministic d) there need h = absurd there

  in_cell : (cell : CellDecl) → Contains (cells_of ast.items) cell → (need : PlacedNeed) → IsIn need (other_needs (items.Cell cell)) → IsIn need (needs_of_text ast)
  in_cell cell there need h =
      let d = flat_map-in cells_of_item ast.items cell (contains-in (cells_of ast.items) cell there) in
      in_others d.0 d.1 need (cell_item cell d.0 d.2 need h)

  -- the parts of what a declaration needs by itself
  module _ (decl : Decl) (there : Contains (decls_of ast) decl) where
    in_params : (need : PlacedNeed) → IsIn need (need_there (parameter_over_limit decl.params) (Over Parameters (length decl.params))) → IsIn need (needs_of_text ast)
    in_params need h = in_decl decl there need (in-left need _ _ h)

    in_effects : (need : PlacedNeed) → IsIn need (need_there (slice_get (places_of_effects decl.effects) max_effects) (Over Effects (length (places_of_effects decl.effects))))
        → IsIn need (needs_of_text ast)
    in_effects need h =
        in_decl decl there need (in-right need (need_there (parameter_over_limit decl.params) (Over Parameters (length decl.params))) _ (in-left need _ _ h))

    in_path : (path : Path) → Contains (paths_of decl) path → (need : PlacedNeed) → IsIn need (needs_of_path path) → IsIn need (needs_of_text ast)
    in_path path among need h =
        let d = flat_map-in (λ (clause : Clause). clause.paths) decl.effects path (contains-in (paths_of decl) path among) in
        in_decl decl there need (in-right need (need_there (parameter_over_limit decl.params) (Over Parameters (length decl.params))) _
        (in-right need (need_there (slice_get (places_of_effects decl.effects) max_effects) (Over Effects (length (places_of_effects decl.effects)))) _
        (in-left need (flat_map needs_of_clause decl.effects) (needs_of_end decl)
        (in-flat_map needs_of_clause decl.effects d.0 need d.1 (in-flat_map needs_of_path d.0.paths path need d.2 h)))))

    in_end : decl.returns ≡ return_types.Int → IsIn (placed (close_of decl.body) (NoReturn decl.name.place)) (needs_of_text ast)
    in_end int =
        let need : PlacedNeed = placed (close_of decl.body) (NoReturn decl.name.place) in
        in_decl decl there need (in-right need (need_there (parameter_over_limit decl.params) (Over Parameters (length decl.params))) _
        (in-right need (need_there (slice_get (places_of_effects decl.effects) max_effects) (Over Effects (length (places_of_effects decl.effects)))) _
        (in-right need (flat_map needs_of_clause decl.effects) (needs_of_end decl)
        (subst (λ r. IsIn need (if is_void r then [] else need ∷ [])) (sym int) (inl refl)))))

  used : (locals : List LocalName) (returns : ReturnType) (name : Name) (asks : NameUse) → Asks ast locals returns (uses name asks) → (rule : NRule)
      → breaks_use rule asks (binding_as (globals_of ast) locals asks name.text) ≡ true → HasBreach rule name.place
  used locals returns name asks there rule h = (Used asks (binding_as (globals_of ast) locals asks name.text), at_site locals returns (uses name asks) there, h)

  -- of each failure of a rule
  pub complete : (rule : NRule) (place : Place) → FailsName ast rule place → HasBreach rule place ⊎ IsRest ast rule place
  complete rule place (rules.unknown locals returns name asks there none) = inl (used locals returns name asks there N1 (ap (breaks_use N1 asks) none))
  complete rule place (rules.declared_again name again) = inr (inl (name, again, refl, refl))
  complete rule place (rules.hides locals returns name other there is) =
      inl (New (binding_of (globals_of ast) locals name.text), at_site locals returns (declares name) there, ap (λ o. is_some o) is)
  complete rule place (rules.other_kind locals returns name asks other there is unfit) =
      inl (used locals returns name asks there N3 (ap (breaks_use N3 asks) is ∙ kind_breaks asks other unfit))
  complete rule place (rules.other_type locals returns type other value there is differ) =
      inl (Typed type (type_of (globals_of ast) locals value), at_site locals returns (needs type value) there, ap (differs type) is ∙ differ-not_same type other differ)
  complete rule place (rules.void_method locals returns name args number params there is) =
      let other : Binding = bindings.Global (global_kinds.Method number params return_types.Void) in
      inl (used locals returns name (name_use.Method args true) there N3 (ap (breaks_use N3 (name_use.Method args true)) is ∙ value_breaks (name_use.Method args true) other refl))
  complete rule place (rules.void_task locals returns name join spawned number there is) =
      let other : Binding = bindings.Local (local_kinds.Future number spawned true) in
      inl (used locals returns name (name_use.Future join true) there N3 (ap (breaks_use N3 (name_use.Future join true)) is ∙ value_breaks (name_use.Future join true) other refl))
  complete rule place (rules.value_for_nothing locals place' there) = inl (Returned true return_types.Void, at_site locals return_types.Void (returns_value place') there, refl)
  complete rule place (rules.nothing_for_value locals place' there) = inl (Returned false return_types.Int, at_site locals return_types.Int (returns_nothing place') there, refl)
  complete rule place (rules.other_count_of_method locals returns its name args number params valued there is differ) =
      let other : Binding = bindings.Global (global_kinds.Method number params its) in
      inl (used locals returns name (name_use.Method args valued) there N4
      (ap (breaks_use N4 (name_use.Method args valued)) is ∙ count_breaks (name_use.Method args valued) other (not_equal params args differ)))
  complete rule place (rules.other_count_of_task locals returns its name args number params there is differ) =
      let other : Binding = bindings.Global (global_kinds.Task number params its) in
      inl (used locals returns name (name_use.Task args) there N4 (ap (breaks_use N4 (name_use.Task args)) is ∙ count_breaks (name_use.Task args) other (not_equal params args differ)))
  complete rule place (rules.no_return decl there int ends) = inl (NoReturn decl.name.place, in_end decl there int, refl)
  complete rule place (rules.assigned locals returns name number type there is) =
      let other : Binding = bindings.Local (local_kinds.Variable number type true) in
      inl (used locals returns name name_use.Target there N6 (ap (breaks_use N6 name_use.Target) is ∙ constant_breaks name_use.Target other refl))
  complete rule place (rules.too_many_cells cell goes) = inr (inr (cell, goes, refl, refl))
  complete rule place (rules.long_cell_path cell elem there after) =
      let need : NameNeed = Over Elements (length cell.path.elems) in
      inl (
        need,
        in_cell cell there (placed elem.place need)
            (in_there (cell_element_over_limit cell.path.elems) elem.place need
            (ap (option_map (λ (e : CellElem). e.place)) (stands-got cell.path.elems max_path_elements elem after))),
        refl,
      )
  complete rule place (rules.long_path decl path elem there among after) =
      let need : NameNeed = Over Elements (length path.elems) in
      inl (
        need,
        in_path decl there path among (placed elem.place need)
            (in-left (placed elem.place need) _ _ (in_there (element_over_limit path.elems) elem.place need
            (ap (option_map (λ (e : PathElem). e.place)) (stands-got path.elems max_path_elements elem after)))),
        refl,
      )
  complete rule place (rules.too_many_effects decl path there after) =
      let need : NameNeed = Over Effects (length (places_of_effects decl.effects)) in
      inl (
        need,
        in_effects decl there (placed path.place need)
            (in_there (slice_get (places_of_effects decl.effects) max_effects) path.place need
            (ap (λ xs. slice_get xs max_effects) (places_are decl.effects) ∙ got_place (paths_of decl) max_effects path (stands-got (paths_of decl) max_effects path after))),
        refl,
      )
  complete rule place (rules.too_many_params decl name there after) =
      let need : NameNeed = Over Parameters (length decl.params) in
      inl (
        need,
        in_params decl there (placed name.place need)
            (in_there (parameter_over_limit decl.params) name.place need
            (ap (option_map (λ (n : Name). n.place)) (stands-got decl.params max_parameters name after))),
        refl,
      )
  complete rule place (rules.no_main none) =
      inl ((main_need ast).need, in-right (main_need ast) (flat_map (needs_of_item (globals_of ast)) ast.items) (main_need ast ∷ []) (inl refl), refl)
  complete rule place (rules.second_star decl path elem there among star) =
      let need : NameNeed = SecondStar (first_star path.elems) in
      let d = place-in (second_star false path.elems) N9 _ (in-star path.elems N9 elem star) in
      inl (
        need,
        in_path decl there path among (placed elem.place need)
            (in-right (placed elem.place need) (need_there (element_over_limit path.elems) (Over Elements (length path.elems))) _
            (in_there (second_star false path.elems) elem.place need (d.1 ∙ ap (λ (p : Place). Some p) (sym (ap (λ f. f.place) d.2))))),
        refl,
      )

  -- if no need breaks the rule at the place, what is left is so
  pub rest : (rule : NRule) (place : Place) → FailsName ast rule place → All (KeepsRule rule place) (needs_of_text ast) → IsRest ast rule place
  rest rule place fails keeps = elim (complete rule place fails) [
    | inl found ↦ absurd (All-contains (KeepsRule rule place) (needs_of_text ast) (placed place found.0) keeps
        (in-contains (needs_of_text ast) (placed place found.0) found.1) (refl, found.2))
    | inr left ↦ left
  ]
