-- The variables that are found by the place of a declaration's name are those of a declaration that stands there.
use Rattle.std.proofs.Common.{◌≡◌, List, [], ◌∷◌, ◌++◌, Bool, true, false, ◌⊎◌, inl, inr, ⊎_elim, sym, ap, ◌∙◌, subst, arith, rules}
use Rattle.std.specs.Prelude.{if◌then◌else◌}
use Rattle.std.specs.List.{Contains, flat_map}
use Rattle.std.proofs.lemmas.Bool.{cases_Bool, false≢true}
use Rattle.std.proofs.lemmas.List.Elements.{Contains-append_left, Contains-append_right, Contains-append_cases, Contains-push, Contains-push_cases}
use Rattle.twe_base.specs.declared.place.Place.{Place}
use Rattle.twe_ast.specs.declared.item.Ast.{Ast}
use Rattle.twe_ast.specs.declared.item.Decl as written
use Rattle.twe_ast.specs.declared.item.Item.{Item}
use Rattle.twe_ast.specs.declared.item.Item.TheVariants.{Regions, Cell, Method, Task}
use Rattle.twe_program.specs.declared.program.Decl.{Decl}
use Rattle.name_check.specs.declared.names.GlobalName.{GlobalName}
use Rattle.name_check.specs.Limits.{decls_of_item}
use Rattle.name_check.specs.Names.{globals_of}
use Rattle.twe_names.specs.Meaning.{decl_of, methods_of_item, tasks_of_item, program_of}
use Rattle.explain_pages.specs.names.Variables.{is_same_place}
use Rattle.run_notes.specs.BodyVariables.{body_variables_of, body_variables_at}
use Rattle.run_notes.specs.VariableNumbers.{variable_names, NamesVariables}
use Rattle.run_notes.specs.FoundVariables.{FindsNames, all_declared}
use Rattle.run_notes.specs.declared.body_variables.BodyVariable.{BodyVariable}
use Rattle.run_notes.proofs.Numbers.{declared_names}

same_itself : (a : Place) → is_same_place a a ≡ true
same_itself a = search rules

same_places : (a b : Place) → is_same_place a b ≡ true → a ≡ b
same_places a b e = grind arith

none_there : {X : Type 0} (x : X) → Contains [] x → ⊥
none_there x (k, below, is) = omega arith

module _ (globals : List GlobalName) (place : Place) where
  -- these are the variables of a declaration whose meaning, one of these methods and tasks, stands at the place
  record Finds (declared : Place) (decls : List written.Decl) (methods tasks : List Decl) (variables : List BodyVariable) : Type 0 where
    deterministic : Bool
    decl : written.Decl
    is_written : Contains decls decl
    is_there : Contains methods (decl_of globals deterministic decl) ⊎ Contains tasks (decl_of globals deterministic decl)
    same_place : decl.name.place ≡ declared
    are_its : variables ≡ body_variables_of place decl

  -- one declaration more, at which the search ends or goes on
  ends_here : (declared : Place) (deterministic : Bool) (decl : written.Decl) (decls : List written.Decl) (methods tasks : List Decl) (others : List BodyVariable)
      → is_same_place decl.name.place declared ≡ true
      → Contains methods (decl_of globals deterministic decl) ⊎ Contains tasks (decl_of globals deterministic decl)
      → Finds declared (decl ∷ decls) methods tasks (if is_same_place decl.name.place declared then body_variables_of place decl else others)
  ends_here declared deterministic decl decls methods tasks others same there = record {
    deterministic = deterministic;
    decl = decl;
    is_written = Contains-append_left (decl ∷ []) decls decl (Contains-push [] decl);
    is_there = there;
    same_place = same_places decl.name.place declared same;
    are_its = ap (λ (b : Bool). if b then body_variables_of place decl else others) same;
  }

  goes_on : (declared : Place) (decl : written.Decl) (decls : List written.Decl) (more_methods more_tasks methods tasks : List Decl) (others : List BodyVariable)
      → is_same_place decl.name.place declared ≡ false → Finds declared decls methods tasks others
      → Finds declared (decl ∷ decls) (more_methods ++ methods) (more_tasks ++ tasks)
      (if is_same_place decl.name.place declared then body_variables_of place decl else others)
  goes_on declared decl decls more_methods more_tasks methods tasks others other found = record {
    deterministic = found.deterministic;
    decl = found.decl;
    is_written = Contains-append_right (decl ∷ []) decls found.decl found.is_written;
    is_there =
        ⊎_elim (λ h. inl (Contains-append_right more_methods methods (decl_of globals found.deterministic found.decl) h))
        (λ h. inr (Contains-append_right more_tasks tasks (decl_of globals found.deterministic found.decl) h)) found.is_there;
    same_place = found.same_place;
    are_its = ap (λ (b : Bool). if b then body_variables_of place decl else others) other ∙ found.are_its;
  }

  not_alone : (d first : Decl) → is_same_place first.place d.place ≡ false → Contains (first ∷ []) d → ⊥
  not_alone d first other one =
      ⊎_elim (none_there d)
      (λ (e : first ≡ d). false≢true (sym other ∙ (ap (λ (x : Decl). is_same_place x.place d.place) e ∙ same_itself d.place)))
      (Contains-push_cases [] first d one)

  -- a declaration that does not stand at the place is another one
  not_first : (d first : Decl) (others : List Decl) → is_same_place first.place d.place ≡ false → Contains (first ∷ others) d → Contains others d
  not_first d first others other there =
      ⊎_elim (λ one. absurd (not_alone d first other one)) (λ h. h) (Contains-append_cases (first ∷ []) others d there)

  find : (items : List Item) (d : Decl)
      → Contains (flat_map (methods_of_item globals) items) d ⊎ Contains (flat_map (tasks_of_item globals) items) d
      → Finds d.place (flat_map decls_of_item items) (flat_map (methods_of_item globals) items) (flat_map (tasks_of_item globals) items) (body_variables_at place d.place items)
  find [] d there = absurd (⊎_elim (none_there d) (none_there d) there)
  find (Regions names ∷ items) d there = find items d there
  find (Cell cell ∷ items) d there = find items d there
  find (Method decl ∷ items) d there =
      let first : Decl = decl_of globals false decl in
      let decls : List written.Decl = flat_map decls_of_item items in
      let methods : List Decl = flat_map (methods_of_item globals) items in
      let tasks : List Decl = flat_map (tasks_of_item globals) items in
      let others : List BodyVariable = body_variables_at place d.place items in
      ⊎_elim (λ same. ends_here d.place false decl decls (first ∷ methods) tasks others same
      (inl (Contains-append_left (first ∷ []) methods first (Contains-push [] first))))
      (λ other. goes_on d.place decl decls (first ∷ []) [] methods tasks others other
      (find items d (⊎_elim (λ h. inl (not_first d first methods other h)) (λ h. inr h) there)))
      (cases_Bool (is_same_place decl.name.place d.place))
  find (Task deterministic decl ∷ items) d there =
      let first : Decl = decl_of globals deterministic decl in
      let decls : List written.Decl = flat_map decls_of_item items in
      let methods : List Decl = flat_map (methods_of_item globals) items in
      let tasks : List Decl = flat_map (tasks_of_item globals) items in
      let others : List BodyVariable = body_variables_at place d.place items in
      ⊎_elim (λ same. ends_here d.place deterministic decl decls methods (first ∷ tasks) others same
      (inr (Contains-append_left (first ∷ []) tasks first (Contains-push [] first))))
      (λ other. goes_on d.place decl decls [] (first ∷ []) methods tasks others other
      (find items d (⊎_elim (λ h. inl h) (λ h. inr (not_first d first tasks other h)) there)))
      (cases_Bool (is_same_place decl.name.place d.place))

finds-names : (tree : Ast) (place declared : Place)
    → Finds (globals_of tree) place declared (flat_map decls_of_item tree.items) (program_of tree).methods (program_of tree).tasks (body_variables_at place declared tree.items)
    → FindsNames tree place declared
finds-names tree place declared found = record {
  decl = found.decl;
  deterministic = found.deterministic;
  is_written = found.is_written;
  is_there =
      ⊎_elim (Contains-append_left (program_of tree).methods (program_of tree).tasks (decl_of (globals_of tree) found.deterministic found.decl))
      (Contains-append_right (program_of tree).methods (program_of tree).tasks (decl_of (globals_of tree) found.deterministic found.decl)) found.is_there;
  same_place = found.same_place;
  named =
      subst (λ (variables : List BodyVariable). NamesVariables (variable_names variables) found.decl (decl_of (globals_of tree) found.deterministic found.decl))
      (sym found.are_its) (declared_names (globals_of tree) found.deterministic place found.decl);
}

pub names_found : (tree : Ast) (place : Place) (d : Decl) → Contains (all_declared (program_of tree)) d → FindsNames tree place d.place
names_found tree place d there =
    finds-names tree place d.place
    (find (globals_of tree) place tree.items d (Contains-append_cases (program_of tree).methods (program_of tree).tasks d there))
