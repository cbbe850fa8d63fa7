-- Each failure in the list is one of the rules.
use Rattle.std.proofs.Common.{◌≡◌, ◌==◌, ℕ, true, false, not, List, [], ◌∷◌, ◌++◌, Option, None, Some, is_some, length, inl, inr, refl, sym, ap, ◌∙◌, subst, append_assoc, arith}
use Rattle.std.proofs.lemmas.Bool.{false≢true}
use Rattle.std.proofs.lemmas.Bool.Decides.{nat_tests}
use Rattle.std.specs.List.{Contains, flat_map, list_any}
use Rattle.std.specs.Prelude.{codes}
use Rattle.std.specs.Str.{bytes_eq}
use Rattle.std.specs.Cmp.Lexicographic.{bytes_decides}
use Rattle.twe_base.specs.Language.{max_effects, max_parameters, max_path_elements}
use Rattle.twe_base.specs.declared.place.Place.{Place}
use Rattle.twe_ast.specs.declared.item.Ast.{Ast}
use Rattle.twe_ast.specs.declared.item.Decl.{Decl}
use Rattle.twe_ast.specs.declared.item.Item.{Item}
use Rattle.twe_ast.specs.declared.item.Item.TheVariants as items
use Rattle.twe_ast.specs.declared.item.ReturnType.{ReturnType}
use Rattle.twe_ast.specs.declared.item.ReturnType.TheVariants as return_types
use Rattle.twe_ast.specs.declared.name.Name.{Name}
use Rattle.twe_ast.specs.declared.path.CellElem.{CellElem}
use Rattle.twe_ast.specs.declared.path.Path.{Path}
use Rattle.twe_ast.specs.declared.path.PathElem.{PathElem}
use Rattle.twe_ast.specs.declared.stmt.LocalType.{LocalType}
use Rattle.twe_ast.specs.declared.stmt.LocalType.TheVariants.{Int, Boolean}
use Rattle.twe_ast.specs.Expression.{Expression}
use Rattle.name_check.specs.cell_limits.GoesOver.{cells_of, cells_of_item}
use Rattle.name_check.specs.declared.rule.NRule.{NRule}
use Rattle.name_check.specs.declared.rule.NRule.TheVariants.{N1, N2, N3, N4, N5, N6, N7, N8, N9}
use Rattle.name_check.specs.FailsName.{NameFailure}
use Rattle.name_check.specs.declared.binding.NameUse.{NameUse}
use Rattle.name_check.specs.declared.binding.NameUse.TheVariants as name_use
use Rattle.name_check.specs.declared.binding.Global.TheVariants as global_kinds
use Rattle.name_check.specs.declared.binding.Local.TheVariants as local_kinds
use Rattle.name_check.specs.declared.binding.Binding.{Binding}
use Rattle.name_check.specs.declared.binding.Binding.TheVariants as bindings
use Rattle.name_check.specs.declared.names.GlobalName.{GlobalName}
use Rattle.name_check.specs.declared.scope.LocalName.{LocalName}
use Rattle.name_check.specs.Names.{globals_of, binding_of}
use Rattle.name_check.specs.Types.{same_type, type_of}
use Rattle.name_check.specs.Asks.{Ask, uses, needs, declares, returns_value, returns_nothing, place_of}
use Rattle.name_check.specs.Sites.{Site, sites_of, sites_of_item}
use Rattle.name_check.specs.Ends.{one_ends, close_of}
use Rattle.name_check.specs.Limits.{decls_of, decls_of_item, paths_of}
use Rattle.name_check.specs.FailsName as rules
use Rattle.name_check.specs.FailsName.{FailsName, Asks, HasMain, binding_as, fits}
use Rattle.name_check.specs.inner.Failures.{lacks_value, has_other_count, assigns_constant, failures_of_use, differs, failures_by, failures_at, is_void}
use Rattle.twe_base.specs.First.{failure_if}
use Rattle.name_check.specs.OtherFailures.{failures_of_place, parameter_over_limit, path_over_limit, element_over_limit, second_star, path_failures, clauses_failures, lacks_return, decl_failures, item_failures}
use Rattle.name_check.specs.inner.Whole.{is_again, again_failures, is_main_item}
use Rattle.twe_base.proofs.Firsts.{if-in}
use Rattle.name_check.proofs.Elements.{failure, over-in, star-in, clauses-in}
use Rattle.twe_base.proofs.Members.{IsIn, in-cases, contains-in, in-contains, flat_map-in, in-flat_map, list_any-in, in-list_any, not-true, both-true, or-true, true-both}
use Rattle.name_check.proofs.Gathered.{site_failures, failures_in_item, failures_in}

-- the same failure, said by its rule and place
at : (ast : Ast) (f : NameFailure) (rule : NRule) (place : Place) → f ≡ failure rule place → FailsName ast rule place → FailsName ast f.rule f.place
at ast f rule place e h = subst (λ (g : NameFailure). FailsName ast g.rule g.place) (sym e) h

same_itself : (type : LocalType) → same_type (Some type) (Some type) ≡ true
same_itself Int = refl
same_itself Boolean = refl

differ : (type other : LocalType) → same_type (Some type) (Some other) ≡ false → ¬ (type ≡ other)
differ type other h e = false≢true (sym h ∙ (ap (λ t. same_type (Some type) (Some t)) (sym e) ∙ same_itself type))

other_number : (params args : ℕ) → not (params == args) ≡ true → ¬ (params ≡ args)
other_number params args h e = grind (arith, nat_tests)

void_is : (returns : ReturnType) → is_void returns ≡ true → returns ≡ return_types.Void
void_is return_types.Void h = refl
void_is return_types.Int h = absurd (false≢true h)

int_is : (returns : ReturnType) → not (is_void returns) ≡ true → returns ≡ return_types.Int
int_is return_types.Void h = absurd (false≢true h)
int_is return_types.Int h = refl

module _ (ast : Ast) where
  module _ (locals : List LocalName) (returns : ReturnType) (name : Name) where
    value-fails : (asks : NameUse) (other : Binding) → Asks ast locals returns (uses name asks) → binding_as (globals_of ast) locals asks name.text ≡ Some other
        → lacks_value asks other ≡ true → FailsName ast N3 name.place
    value-fails (name_use.Method args true) (bindings.Global (global_kinds.Method number params return_types.Void)) there is h = rules.void_method locals returns name args number params there is
    value-fails (name_use.Future join true) (bindings.Local (local_kinds.Future number spawned true)) there is h = rules.void_task locals returns name join spawned number there is
    value-fails _ _ there is h = absurd (false≢true h)

    count-fails : (asks : NameUse) (other : Binding) → Asks ast locals returns (uses name asks) → binding_as (globals_of ast) locals asks name.text ≡ Some other
        → has_other_count asks other ≡ true → FailsName ast N4 name.place
    count-fails (name_use.Method args valued) (bindings.Global (global_kinds.Method number params its)) there is h =
        rules.other_count_of_method locals returns its name args number params valued there is (other_number params args h)
    count-fails (name_use.Task args) (bindings.Global (global_kinds.Task number params its)) there is h =
        rules.other_count_of_task locals returns its name args number params there is (other_number params args h)
    count-fails _ _ there is h = absurd (false≢true h)

    constant-fails : (asks : NameUse) (other : Binding) → Asks ast locals returns (uses name asks) → binding_as (globals_of ast) locals asks name.text ≡ Some other
        → assigns_constant asks other ≡ true → FailsName ast N6 name.place
    constant-fails name_use.Target (bindings.Local (local_kinds.Variable number type constant)) there is h =
        rules.assigned locals returns name number type there (is ∙ ap (λ c. Some (bindings.Local (local_kinds.Variable number type c))) h)
    constant-fails _ _ there is h = absurd (false≢true h)

    use-fails : (asks : NameUse) → Asks ast locals returns (uses name asks) → (o : Option Binding) → binding_as (globals_of ast) locals asks name.text ≡ o
        → (f : NameFailure) → IsIn f (failures_of_use asks o name.place) → FailsName ast f.rule f.place
    use-fails asks there None is f h = at ast f N1 name.place (if-in true N1 name.place f h).1 (rules.unknown locals returns name asks there is)
    use-fails asks there (Some other) is f h =
        let kind : List NameFailure = failure_if (not (fits asks other)) N3 name.place in
        let value : List NameFailure = failure_if (lacks_value asks other) N3 name.place in
        let count : List NameFailure = failure_if (has_other_count asks other) N4 name.place in
        let constant : List NameFailure = failure_if (assigns_constant asks other) N6 name.place in
        elim (in-cases f kind (value ++ (count ++ constant)) h) [
          | inl x ↦ let d = if-in (not (fits asks other)) N3 name.place f x in
              at ast f N3 name.place d.1 (rules.other_kind locals returns name asks other there is (not-true (fits asks other) d.0))
          | inr y ↦ elim (in-cases f value (count ++ constant) y) [
            | inl x ↦ let d = if-in (lacks_value asks other) N3 name.place f x in at ast f N3 name.place d.1 (value-fails asks other there is d.0)
            | inr z ↦ elim (in-cases f count constant z) [
              | inl x ↦ let d = if-in (has_other_count asks other) N4 name.place f x in at ast f N4 name.place d.1 (count-fails asks other there is d.0)
              | inr x ↦ let d = if-in (assigns_constant asks other) N6 name.place f x in at ast f N6 name.place d.1 (constant-fails asks other there is d.0)
            ]
          ]
        ]

  need-fails : (locals : List LocalName) (returns : ReturnType) (type : LocalType) (value : Expression) → Asks ast locals returns (needs type value)
      → (o : Option LocalType) → type_of (globals_of ast) locals value ≡ o → (f : NameFailure) → IsIn f (failure_if (differs type o) N3 (place_of value)) → FailsName ast f.rule f.place
  need-fails locals returns type value there None is f h = absurd h
  need-fails locals returns type value there (Some other) is f h =
      let d = if-in (not (same_type (Some type) (Some other))) N3 (place_of value) f h in
      at ast f N3 (place_of value) d.1 (rules.other_type locals returns type other value there is (differ type other (not-true (same_type (Some type) (Some other)) d.0)))

  declared-fails : (locals : List LocalName) (returns : ReturnType) (name : Name) → Asks ast locals returns (declares name)
      → (o : Option Binding) → binding_of (globals_of ast) locals name.text ≡ o → (f : NameFailure) → IsIn f (failure_if (is_some o) N2 name.place) → FailsName ast f.rule f.place
  declared-fails locals returns name there None is f h = absurd h
  declared-fails locals returns name there (Some other) is f h = at ast f N2 name.place (if-in true N2 name.place f h).1 (rules.hides locals returns name other there is)

  ask-fails : (locals : List LocalName) (returns : ReturnType) (ask : Ask) → Asks ast locals returns ask
      → (f : NameFailure) → IsIn f (failures_by (globals_of ast) locals returns ask) → FailsName ast f.rule f.place
  ask-fails locals returns (uses name asks) there f h = use-fails locals returns name asks there (binding_as (globals_of ast) locals asks name.text) refl f h
  ask-fails locals returns (needs type value) there f h = need-fails locals returns type value there (type_of (globals_of ast) locals value) refl f h
  ask-fails locals returns (declares name) there f h = declared-fails locals returns name there (binding_of (globals_of ast) locals name.text) refl f h
  ask-fails locals returns (returns_value place) there f h =
      let d = if-in (is_void returns) N3 place f h in
      at ast f N3 place d.1 (rules.value_for_nothing locals place (subst (λ r. Asks ast locals r (returns_value place)) (void_is returns d.0) there))
  ask-fails locals returns (returns_nothing place) there f h =
      let d = if-in (not (is_void returns)) N3 place f h in
      at ast f N3 place d.1 (rules.nothing_for_value locals place (subst (λ r. Asks ast locals r (returns_nothing place)) (int_is returns d.0) there))

  site-fails : (site : Site) → IsIn site (sites_of ast) → (f : NameFailure) → IsIn f (failures_at (globals_of ast) site) → FailsName ast f.rule f.place
  site-fails site there f h = ask-fails site.locals site.returns site.ask (in-contains (sites_of ast) site there) f h

  path-fails : (decl : Decl) (path : Path) → Contains (decls_of ast) decl → Contains (paths_of decl) path → (f : NameFailure) → IsIn f (path_failures path) → FailsName ast f.rule f.place
  path-fails decl path there among f h =
      elim (in-cases f (failures_of_place N7 (element_over_limit path.elems)) (failures_of_place N9 (second_star false path.elems)) h) [
        | inl x ↦ let d = over-in (λ (elem : PathElem). elem.place) path.elems max_path_elements N7 f x in at ast f N7 d.0.place d.2 (rules.long_path decl path d.0 there among d.1)
        | inr x ↦ let d = star-in path.elems N9 f x in at ast f N9 d.0.place d.2 (rules.second_star decl path d.0 there among d.1)
      ]

  decl-fails : (decl : Decl) → Contains (decls_of ast) decl → (f : NameFailure) → IsIn f (decl_failures decl) → FailsName ast f.rule f.place
  decl-fails decl there f h =
      let params : List NameFailure = failures_of_place N7 (parameter_over_limit decl.params) in
      let paths : List NameFailure = failures_of_place N7 (path_over_limit (paths_of decl)) in
      let inside : List NameFailure = clauses_failures decl.effects in
      let end : List NameFailure = failure_if (lacks_return decl) N5 (close_of decl.body) in
      elim (in-cases f params (paths ++ (inside ++ end)) h) [
        | inl x ↦ let d = over-in (λ (name : Name). name.place) decl.params max_parameters N7 f x in at ast f N7 d.0.place d.2 (rules.too_many_params decl d.0 there d.1)
        | inr y ↦ elim (in-cases f paths (inside ++ end) y) [
          | inl x ↦ let d = over-in (λ (path : Path). path.place) (paths_of decl) max_effects N7 f x in at ast f N7 d.0.place d.2 (rules.too_many_effects decl d.0 there d.1)
          | inr z ↦ elim (in-cases f inside end z) [
            | inl x ↦ let d = clauses-in decl.effects f x in path-fails decl d.0 there (in-contains (paths_of decl) d.0 d.1) f d.2
            | inr x ↦
                let d = if-in (lacks_return decl) N5 (close_of decl.body) f x in
                let b = both-true (not (is_void decl.returns)) (not (one_ends decl.body)) d.0 in
                at ast f N5 (close_of decl.body) d.1 (rules.no_return decl there (int_is decl.returns b.0) (not-true (one_ends decl.body) b.1))
          ]
        ]
      ]

  other-fails : (item : Item) → IsIn item ast.items → (f : NameFailure) → IsIn f (item_failures item) → FailsName ast f.rule f.place
  other-fails (items.Regions names) there f h = absurd h
  other-fails (items.Cell cell) there f h =
      let d = over-in (λ (elem : CellElem). elem.place) cell.path.elems max_path_elements N7 f h in
      let among : IsIn cell (cells_of ast.items) = in-flat_map cells_of_item ast.items (items.Cell cell) cell there (inl refl) in
      at ast f N7 d.0.place d.2 (rules.long_cell_path cell d.0 (in-contains (cells_of ast.items) cell among) d.1)
  other-fails (items.Method decl) there f h =
      decl-fails decl (in-contains (decls_of ast) decl (in-flat_map decls_of_item ast.items (items.Method decl) decl there (inl refl))) f h
  other-fails (items.Task deterministic decl) there f h =
      decl-fails decl (in-contains (decls_of ast) decl (in-flat_map decls_of_item ast.items (items.Task deterministic decl) decl there (inl refl))) f h

  item-fails : (f : NameFailure) → IsIn f (flat_map (failures_in_item (globals_of ast)) ast.items) → FailsName ast f.rule f.place
  item-fails f h =
      let d = flat_map-in (failures_in_item (globals_of ast)) ast.items f h in
      let item : Item = d.0 in
      elim (in-cases f (site_failures (globals_of ast) (sites_of_item (globals_of ast) item)) (item_failures item) d.2) [
        | inl x ↦
            let e = flat_map-in (failures_at (globals_of ast)) (sites_of_item (globals_of ast) item) f x in
            site-fails e.0 (in-flat_map (sites_of_item (globals_of ast)) ast.items item e.0 d.1 e.1) f e.2
        | inr x ↦ other-fails item d.1 f x
      ]

  again-said : (before after : List GlobalName) (this : GlobalName) → globals_of ast ≡ before ++ this ∷ after → is_again before this ≡ true → FailsName ast N2 this.place
  again-said before after this list h =
      rules.declared_again this (record {
        before = before;
        after = after;
        list = list;
        again = elim (or-true (bytes_eq this.text (codes "Console")) (list_any (λ (e : GlobalName). bytes_eq this.text e.text) before) h) [
          | inl x ↦ inl ((bytes_decides this.text (codes "Console")).0 x)
          | inr x ↦
              let d = list_any-in (λ (e : GlobalName). bytes_eq this.text e.text) before x in
              let earlier : GlobalName = d.0 in
              inr (earlier, in-contains before earlier d.1, sym ((bytes_decides this.text earlier.text).0 d.2))
        ];
      })

  again-fails : (before others : List GlobalName) → globals_of ast ≡ before ++ others → (f : NameFailure) → IsIn f (again_failures before others) → FailsName ast f.rule f.place
  again-fails before [] list f h = absurd h
  again-fails before (this ∷ others) list f h =
      elim (in-cases f (failure_if (is_again before this) N2 this.place) (again_failures (before ++ this ∷ []) others) h) [
        | inl x ↦ let d = if-in (is_again before this) N2 this.place f x in at ast f N2 this.place d.1 (again-said before others this list d.0)
        | inr x ↦ again-fails (before ++ this ∷ []) others (list ∙ sym (append_assoc before (this ∷ []) others)) f x
      ]

  -- there is a `main`, if the test passes
  main_passes : HasMain ast → list_any is_main_item ast.items ≡ true
  main_passes h =
      in-list_any is_main_item ast.items (items.Task h.deterministic h.decl) (contains-in ast.items (items.Task h.deterministic h.decl) h.there)
      (true-both (bytes_eq h.decl.name.text (codes "main")) _ ((bytes_decides h.decl.name.text (codes "main")).1 h.named)
      (true-both (length h.decl.params == 0) (is_void h.decl.returns) (ap (λ (xs : List Name). length xs == 0) h.plain) (ap is_void h.void)))

  main-fails : (f : NameFailure) → IsIn f (failure_if (not (list_any is_main_item ast.items)) N8 ast.end) → FailsName ast f.rule f.place
  main-fails f h =
      let d = if-in (not (list_any is_main_item ast.items)) N8 ast.end f h in
      at ast f N8 ast.end d.1 (rules.no_main (λ has. false≢true (sym (not-true (list_any is_main_item ast.items) d.0) ∙ main_passes has)))

  pub listed-fails : (f : NameFailure) → IsIn f (failures_in ast) → FailsName ast f.rule f.place
  listed-fails f h =
      let in_items : List NameFailure = flat_map (failures_in_item (globals_of ast)) ast.items in
      let again : List NameFailure = again_failures [] (globals_of ast) in
      let main : List NameFailure = failure_if (not (list_any is_main_item ast.items)) N8 ast.end in
      elim (in-cases f in_items (again ++ main) h) [
        | inl x ↦ item-fails f x
        | inr y ↦ elim (in-cases f again main y) [ inl x ↦ again-fails [] (globals_of ast) refl f x | inr x ↦ main-fails f x ]
      ]
