-- A tree with the clauses of such summaries keeps the rules of names, and means the program with these summaries.
use Rattle.std.proofs.Common.{◌≡◌, ◌⊎◌, ◌<◌, ◌≤◌, ℕ, ◌+◌, suc, true, false, List, [], ◌∷◌, map, length, None, Some, codes, inl, inr, refl, sym, ap, ◌∙◌, subst, length-append, arith}
use Rattle.std.specs.List.{AllByRecursion, Contains, flat_map}
use Rattle.std.proofs.lemmas.Bool.{true≢false}
use Rattle.std.proofs.lemmas.List.{length-map}
use Rattle.twe_base.specs.Language.{max_effects, max_parameters, max_path_elements}
use Rattle.effect_sets.specs.declared.effects.Effect.{Effect}
use Rattle.effect_sets.specs.declared.effects.Summary.{Summary}
use Rattle.twe_ast.specs.declared.item.Ast.{Ast}
use Rattle.twe_ast.specs.declared.item.CellDecl.{CellDecl}
use Rattle.twe_ast.specs.declared.item.Decl.{Decl}
use Rattle.twe_ast.specs.declared.item.ReturnType.{ReturnType}
use Rattle.twe_ast.specs.declared.name.Name.{Name}
use Rattle.twe_ast.specs.declared.path.Path.{Path}
use Rattle.twe_ast.specs.declared.path.PathElem.{PathElem}
use Rattle.twe_ast.specs.declared.stmt.LocalType.TheVariants as types
use Rattle.twe_program.specs.Program.{Program}
use Rattle.name_check.specs.declared.binding.NameUse.{NameUse}
use Rattle.name_check.specs.declared.binding.NameUse.TheVariants as name_use
use Rattle.name_check.specs.declared.binding.Global.TheVariants as global_kinds
use Rattle.name_check.specs.declared.binding.Local.TheVariants as local_kinds
use Rattle.name_check.specs.declared.binding.Binding.{Binding}
use Rattle.name_check.specs.declared.binding.Binding.TheVariants as bindings
use Rattle.name_check.specs.declared.names.GlobalName.{GlobalName}
use Rattle.name_check.specs.declared.scope.LocalName.{LocalName}
use Rattle.name_check.specs.Names.{at_start, globals_of, binding_of, binding_of_local}
use Rattle.name_check.specs.Types.{type_of}
use Rattle.name_check.specs.Asks.{Ask, uses}
use Rattle.name_check.specs.Sites.{Site, sites_of_item, sites_of}
use Rattle.name_check.specs.Limits.{decls_of, paths_of, StandsAfter, is_star}
use Rattle.name_check.specs.FailsName.{Asks, binding_as, fits, unknown, declared_again, hides, other_kind, other_type, void_method, void_task, value_for_nothing, nothing_for_value, other_count_of_method, other_count_of_task, no_return, assigned, too_many_cells, long_cell_path, long_path, too_many_effects, too_many_params, no_main, second_star}
use Rattle.name_check.specs.cell_limits.GoesOver.{cells_of, GoesOver}
use Rattle.twe_names.specs.BodyMeaning.{task_number}
use Rattle.name_check.specs.Ends.{one_ends}
use Rattle.twe_names.specs.Meaning.{regions_of_item, cells_from, methods_of_item, tasks_of_item, program_of}
use Rattle.effect_infer.specs.needs.Choices.{with_summaries}
use Rattle.twe_base.proofs.Members.{IsIn, contains-in, in-contains, in-right, all-in}
use Rattle.moved_places.proofs.Lists.{map-in}
use Rattle.summary_texts.specs.paste_laws.Clauses.{texts_of, elem_of, clause_path_of, pasted}
use Rattle.summary_texts.proofs.paste_laws.Names.{Keeps}
use Rattle.summary_texts.proofs.paste_laws.Clauses.{AskFits, in_clauses, clauses-length, clauses-in, path-no-star, IsPlainEffect, plain_path_of, plain-path}
use Rattle.summary_texts.proofs.paste_laws.PastedItems.{Aligned, pasted-paths, pasted-globals, pasted-cells, pasted-regions, pasted-task, IsPastedDecl, pasted-decl, Needed, pasted-site, Meant, reordered, pasted-methods, pasted-tasks}

-- the summary is within the limits
pub record IsWithin (summary : Summary) (decl : Decl) : Type 0 where
  pub few : length summary.effects ≤ max_effects
  pub plain : AllByRecursion IsPlainEffect summary.effects
  pub short : AllByRecursion (λ (effect : Effect). length effect.path.elems ≤ max_path_elements) summary.effects

-- a use that finds what it needs fails no rule
use-found : (globals : List GlobalName) (locals : List LocalName) (name : Name) (asks : NameUse) → AskFits globals locals (uses name asks) → ¬ (binding_as globals locals asks name.text ≡ None)
use-found globals locals name name_use.Region found none = let is = sym found.1 ∙ none in cc
use-found globals locals name name_use.Parameter found none = let is = ap binding_of_local (sym found.1) ∙ none in cc
use-found globals locals name name_use.Value found none = found
use-found globals locals name name_use.Target found none = found
use-found globals locals name (name_use.Array given) found none = found
use-found globals locals name (name_use.Method args valued) found none = found
use-found globals locals name (name_use.Task args) found none = found
use-found globals locals name (name_use.Future join valued) found none = found

use-fits : (globals : List GlobalName) (locals : List LocalName) (name : Name) (asks : NameUse) (other : Binding) → AskFits globals locals (uses name asks)
    → binding_as globals locals asks name.text ≡ Some other → ¬ (fits asks other ≡ false)
use-fits globals locals name name_use.Region other found is not =
    let both : Some (bindings.Global (global_kinds.Region found.0)) ≡ Some other = sym found.1 ∙ is in
    let same : bindings.Global (global_kinds.Region found.0) ≡ other = cc in
    true≢false (ap (fits name_use.Region) same ∙ not)
use-fits globals locals name name_use.Parameter other found is not =
    let both : Some (bindings.Local (local_kinds.Variable found.0 types.Int true)) ≡ Some other = ap binding_of_local (sym found.1) ∙ is in
    let same : bindings.Local (local_kinds.Variable found.0 types.Int true) ≡ other = cc in
    true≢false (ap (fits name_use.Parameter) same ∙ not)
use-fits globals locals name name_use.Value other found is not = found
use-fits globals locals name name_use.Target other found is not = found
use-fits globals locals name (name_use.Array given) other found is not = found
use-fits globals locals name (name_use.Method args valued) other found is not = found
use-fits globals locals name (name_use.Task args) other found is not = found
use-fits globals locals name (name_use.Future join valued) other found is not = found

-- a list that is longer than an item's place
stands-below : {X : Type 0} (count : ℕ) (xs : List X) (x : X) → StandsAfter count xs x → count < length xs
stands-below count xs x stands =
    let whole : length xs ≡ length stands.before + suc (length stands.after) = ap length stands.list ∙ length-append stands.before (x ∷ stands.after) in
    omega (arith, whole, stands.many)

module _ (tree : Ast) (keeps : Keeps tree) (summaries : List Summary) where
  abbrev regions : List (List ℕ)
  regions = (program_of tree).regions

  abbrev globals : List GlobalName
  globals = globals_of tree

  abbrev new : Ast
  new = pasted summaries tree

  same-globals : globals_of new ≡ globals
  same-globals = pasted-globals regions at_start summaries tree.items

  module _ (needed : Aligned (Needed regions globals) summaries tree.items) (within : Aligned IsWithin summaries tree.items) where
    asks-from : (locals : List LocalName) (returns : ReturnType) (ask : Ask) → Asks new locals returns ask → Asks tree locals returns ask ⊎ AskFits globals locals ask
    asks-from locals returns ask there =
        let site : Site = record { locals = locals; returns = returns; ask = ask } in
        let inside : IsIn site (flat_map (sites_of_item globals) new.items) =
        subst (λ names. IsIn site (flat_map (sites_of_item names) new.items)) same-globals (contains-in (sites_of new) site there) in
        elim (pasted-site regions globals summaries tree.items needed site inside) [
          | inl old ↦ inl (in-contains (sites_of tree) site old)
          | inr found ↦ inr found
        ]

    -- an ask that no clause has is one of the tree's
    old-ask : (locals : List LocalName) (returns : ReturnType) (ask : Ask) → ¬ AskFits globals locals ask → Asks new locals returns ask → Asks tree locals returns ask
    old-ask locals returns ask none there = elim (asks-from locals returns ask there) [ inl old ↦ old | inr found ↦ absurd (none found) ]

    decl-from : (decl : Decl) → Contains (decls_of new) decl → IsIn decl (decls_of tree) ⊎ IsPastedDecl regions IsWithin tree.items decl
    decl-from decl there = pasted-decl regions IsWithin summaries tree.items within decl (contains-in (decls_of new) decl there)

    bound : (locals : List LocalName) (text : List ℕ) → binding_of globals locals text ≡ binding_of (globals_of new) locals text
    bound locals text = ap (λ names. binding_of names locals text) (sym same-globals)

    bound-as : (locals : List LocalName) (asks : NameUse) (text : List ℕ) → binding_as globals locals asks text ≡ binding_as (globals_of new) locals asks text
    bound-as locals asks text = ap (λ names. binding_as names locals asks text) (sym same-globals)

    new-path : (decl : Decl) (pasted_decl : IsPastedDecl regions IsWithin tree.items decl) (path : Path) → Contains (paths_of decl) path
        → (effect : Effect) × IsIn effect pasted_decl.summary.effects × (path ≡ plain_path_of regions (texts_of pasted_decl.its.params) effect.path.elems)
    new-path decl its path there =
        let paths = ap paths_of its.same ∙ pasted-paths regions its.summary its.its in
        let found = map-in (clause_path_of regions (texts_of its.its.params)) (in_clauses its.summary.effects) path (subst (IsIn path) paths (contains-in (paths_of decl) path there)) in
        let there_too = clauses-in its.summary.effects found.0 found.1 in
        (found.0, there_too, found.2 ∙ plain-path regions (texts_of its.its.params) found.0 (all-in _ its.summary.effects its.holds.plain found.0 there_too))

    pub names-kept : Keeps new
    names-kept rule place (unknown locals returns name asks there none) = elim (asks-from locals returns (uses name asks) there) [
      | inl old ↦ keeps _ _ (unknown locals returns name asks old (bound-as locals asks name.text ∙ none))
      | inr found ↦ use-found globals locals name asks found (bound-as locals asks name.text ∙ none)
    ]
    names-kept rule place (declared_again name again) =
        keeps _ _ (declared_again name (record { before = again.before; after = again.after; list = sym same-globals ∙ again.list; again = again.again }))
    names-kept rule place (hides locals returns name other there is) =
        keeps _ _ (hides locals returns name other (old-ask locals returns _ (λ h. h) there) (bound locals name.text ∙ is))
    names-kept rule place (other_kind locals returns name asks other there is not) = elim (asks-from locals returns (uses name asks) there) [
      | inl old ↦ keeps _ _ (other_kind locals returns name asks other old (bound-as locals asks name.text ∙ is) not)
      | inr found ↦ use-fits globals locals name asks other found (bound-as locals asks name.text ∙ is) not
    ]
    names-kept rule place (other_type locals returns type other value there is not) =
        keeps _ _ (other_type locals returns type other value (old-ask locals returns _ (λ h. h) there) (ap (λ names. type_of names locals value) (sym same-globals) ∙ is) not)
    names-kept rule place (void_method locals returns name args number params there is) =
        keeps _ _ (void_method locals returns name args number params (old-ask locals returns _ (λ h. h) there) (bound locals name.text ∙ is))
    names-kept rule place (void_task locals returns name join spawned number there is) =
        keeps _ _ (void_task locals returns name join spawned number (old-ask locals returns _ (λ h. h) there) (bound locals name.text ∙ is))
    names-kept rule place (value_for_nothing locals at there) = keeps _ _ (value_for_nothing locals at (old-ask locals _ _ (λ h. h) there))
    names-kept rule place (nothing_for_value locals at there) = keeps _ _ (nothing_for_value locals at (old-ask locals _ _ (λ h. h) there))
    names-kept rule place (other_count_of_method locals returns type name args number params valued there is not) =
        keeps _ _ (other_count_of_method locals returns type name args number params valued (old-ask locals returns _ (λ h. h) there) (bound locals name.text ∙ is) not)
    names-kept rule place (other_count_of_task locals returns type name args number params there is not) =
        keeps _ _ (other_count_of_task locals returns type name args number params (old-ask locals returns _ (λ h. h) there) (bound locals name.text ∙ is) not)
    names-kept rule place (no_return decl there int not) = elim (decl-from decl there) [
      | inl old ↦ keeps _ _ (no_return decl (in-contains (decls_of tree) decl old) int not)
      | inr its ↦ keeps _ _ (no_return its.its (in-contains (decls_of tree) its.its its.there) (ap (λ (d : Decl). d.returns) (sym its.same) ∙ int)
          (ap (λ (d : Decl). one_ends d.body) (sym its.same) ∙ not))
    ]
    names-kept rule place (assigned locals returns name number type there is) =
        keeps _ _ (assigned locals returns name number type (old-ask locals returns _ (λ h. h) there) (bound locals name.text ∙ is))
    names-kept rule place (too_many_cells cell over) =
        keeps _ _ (too_many_cells cell (subst (λ (cells : List CellDecl). GoesOver cells cell) (pasted-cells regions summaries tree.items) over))
    names-kept rule place (long_cell_path cell elem there after) =
        keeps _ _ (long_cell_path cell elem (subst (λ (cells : List CellDecl). Contains cells cell) (pasted-cells regions summaries tree.items) there) after)
    names-kept rule place (long_path decl path elem there among after) = elim (decl-from decl there) [
      | inl old ↦ keeps _ _ (long_path decl path elem (in-contains (decls_of tree) decl old) among after)
      | inr its ↦ (let found = new-path decl its path among in
          let below = stands-below max_path_elements path.elems elem after in
          let long : length path.elems ≡ length found.0.path.elems = ap (λ (p : Path). length p.elems) found.2 ∙ length-map found.0.path.elems (elem_of regions (texts_of its.its.params)) in
          let short = all-in _ its.summary.effects its.holds.short found.0 found.1 in
          omega (arith, below, long, short))
    ]
    names-kept rule place (too_many_effects decl path there after) = elim (decl-from decl there) [
      | inl old ↦ keeps _ _ (too_many_effects decl path (in-contains (decls_of tree) decl old) after)
      | inr its ↦ (let below = stands-below max_effects (paths_of decl) path after in
          let long : length (paths_of decl) ≡ length its.summary.effects =
          ap (λ (d : Decl). length (paths_of d)) its.same ∙ ap length (pasted-paths regions its.summary its.its)
          ∙ length-map (in_clauses its.summary.effects) (clause_path_of regions (texts_of its.its.params)) ∙ clauses-length its.summary.effects in
          omega (arith, below, long, its.holds.few))
    ]
    names-kept rule place (too_many_params decl name there after) = elim (decl-from decl there) [
      | inl old ↦ keeps _ _ (too_many_params decl name (in-contains (decls_of tree) decl old) after)
      | inr its ↦ keeps _ _ (too_many_params its.its name (in-contains (decls_of tree) its.its its.there)
          (subst (λ (d : Decl). StandsAfter max_parameters d.params name) its.same after))
    ]
    names-kept rule place (no_main none) = keeps _ _ (no_main (λ has. none (record {
      deterministic = has.deterministic;
      decl = has.decl;
      there = in-contains new.items _ (pasted-task regions summaries tree.items has.deterministic has.decl (contains-in tree.items _ has.there));
      named = has.named;
      plain = has.plain;
      void = has.void;
    })))
    names-kept rule place (second_star decl path elem there among second) = elim (decl-from decl there) [
      | inl old ↦ keeps _ _ (second_star decl path elem (in-contains (decls_of tree) decl old) among second)
      | inr its ↦ (let found = new-path decl its path among in
          let none = all-in (λ (e : PathElem). is_star e ≡ false) (map (elem_of regions (texts_of its.its.params)) found.0.path.elems)
          (path-no-star regions (texts_of its.its.params) found.0.path.elems) elem
          (subst (IsIn elem) (sym second.list ∙ ap (λ (p : Path). p.elems) found.2) (in-right elem second.before (elem ∷ second.after) (inl refl))) in
          true≢false (sym second.star ∙ none))
    ]

  -- the meaning is the program with the summaries, each in the order of its clauses
  module _ (meant : Aligned (Meant regions globals) summaries tree.items) where
    abbrev program_with : List GlobalName → Program
    program_with names = record {
      regions = codes "Console" ∷ flat_map regions_of_item new.items;
      cells = cells_from names 0 (cells_of new.items);
      methods = flat_map (methods_of_item names) new.items;
      tasks = flat_map (tasks_of_item names) new.items;
      main = task_number (binding_of names [] (codes "main"));
    }

    pub pasted-means : program_of new ≡ with_summaries (map reordered summaries) (program_of tree)
    pasted-means =
        ap program_with same-globals
        ∙ (λ i. record {
          regions = codes "Console" ∷ pasted-regions regions summaries tree.items i;
          cells = cells_from globals 0 (pasted-cells regions summaries tree.items i);
          methods = pasted-methods regions globals summaries tree.items meant i;
          tasks = pasted-tasks regions globals summaries tree.items i;
          main = task_number (binding_of globals [] (codes "main"));
        })
