-- The rules of names move with places: of two trees that become equal when their places are moved, one fails a rule where the other does.
use Rattle.std.proofs.Common.{◌≡◌, ℕ, Bool, true, List, map, inl, inr, refl, sym, ap, ◌∙◌, subst, ap₂}
use Rattle.std.specs.Prelude.{count_by}
use Rattle.std.specs.List.{Contains}
use Rattle.twe_base.specs.declared.place.Place.{Place}
use Rattle.twe_ast.specs.declared.item.Ast.{Ast}
use Rattle.twe_ast.specs.declared.item.CellDecl.{CellDecl}
use Rattle.twe_ast.specs.declared.item.Decl.{Decl}
use Rattle.twe_ast.specs.declared.item.Item.{Item}
use Rattle.twe_ast.specs.declared.item.Item.TheVariants as items
use Rattle.twe_ast.specs.declared.item.ReturnType.{ReturnType}
use Rattle.twe_ast.specs.declared.name.Name.{Name}
use Rattle.twe_ast.specs.declared.path.Path.{Path}
use Rattle.twe_ast.specs.declared.path.CellElem.{CellElem}
use Rattle.twe_ast.specs.declared.path.PathElem.{PathElem}
use Rattle.twe_ast.specs.declared.path.PathElemKind.{PathElemKind}
use Rattle.twe_ast.specs.declared.path.PathElemKind.TheVariants as elem_kinds
use Rattle.twe_ast.specs.declared.stmt.LocalType.{LocalType}
use Rattle.twe_ast.specs.Expression.{Expression}
use Rattle.name_check.specs.declared.rule.NRule.{NRule}
use Rattle.name_check.specs.declared.binding.NameUse.{NameUse}
use Rattle.name_check.specs.declared.binding.NameUse.TheVariants as name_use
use Rattle.name_check.specs.declared.names.GlobalName.{GlobalName}
use Rattle.name_check.specs.declared.scope.LocalName.{LocalName}
use Rattle.name_check.specs.Names.{globals_of, binding_of}
use Rattle.name_check.specs.Types.{type_of}
use Rattle.name_check.specs.Asks.{Ask, uses, needs, declares, returns_value, returns_nothing, place_of}
use Rattle.name_check.specs.Sites.{Site, sites_of}
use Rattle.name_check.specs.Ends.{one_ends, close_of}
use Rattle.name_check.specs.Limits.{decls_of, paths_of, StandsAfter, is_star, is_star_kind, IsSecondStar}
use Rattle.name_check.specs.FailsName.{Asks, binding_as, IsDeclaredAgain, HasMain, FailsName, unknown, declared_again, hides, other_kind, other_type, void_method, void_task, value_for_nothing, nothing_for_value, other_count_of_method, other_count_of_task, no_return, assigned, too_many_cells, long_cell_path, long_path, too_many_effects, too_many_params, no_main, second_star}
use Rattle.name_check.specs.cell_limits.GoesOver.{cells_of}
use Rattle.moved_places.specs.MovedExpression.{moved_name, moved_expression}
use Rattle.moved_places.specs.MovedTree.{moved_elem_kind, moved_elem, moved_path, moved_cell_elem, moved_cell, moved_decl, moved_item, moved_tree}
use Rattle.moved_places.proofs.Lists.{like-in, split-alike, same-length, none-alike, same-count}
use Rattle.moved_places.proofs.MovedNeeds.{moved_global, moved_ask, moved_site}
use Rattle.moved_places.proofs.Bindings.{type-same}
use Rattle.moved_places.proofs.Asks.{place-moved}
use Rattle.moved_places.proofs.Sites.{one_ends-same, close-moved}
use Rattle.moved_places.proofs.Alike.{globals-alike, sites-alike, decls-alike, cells-alike, binding-alike, paths-alike}
use Rattle.moved_places.proofs.Cells.{over-alike}

-- which need it is with its places moved
module _ (from to : Place → Place) where
  uses-is : (ask : Ask) (name : Name) (asks : NameUse) → uses (moved_name from name) asks ≡ moved_ask to ask
      → (its : Name) × (ask ≡ uses its asks) × (moved_name from name ≡ moved_name to its)
  uses-is (uses its other) name asks e =
      let names : moved_name from name ≡ moved_name to its = cc in
      let same : other ≡ asks = cc in
      (its, ap (uses its) same, names)
  uses-is (needs type value) name asks e = absurd (cc)
  uses-is (declares its) name asks e = absurd (cc)
  uses-is (returns_value place) name asks e = absurd (cc)
  uses-is (returns_nothing place) name asks e = absurd (cc)

  declares-is : (ask : Ask) (name : Name) → declares (moved_name from name) ≡ moved_ask to ask → (its : Name) × (ask ≡ declares its) × (moved_name from name ≡ moved_name to its)
  declares-is (uses its asks) name e = absurd (cc)
  declares-is (needs type value) name e = absurd (cc)
  declares-is (declares its) name e =
      let names : moved_name from name ≡ moved_name to its = cc in
      (its, refl, names)
  declares-is (returns_value place) name e = absurd (cc)
  declares-is (returns_nothing place) name e = absurd (cc)

  needs-is : (ask : Ask) (type : LocalType) (value : Expression) → needs type (moved_expression from value) ≡ moved_ask to ask
      → (its : Expression) × (ask ≡ needs type its) × (moved_expression from value ≡ moved_expression to its)
  needs-is (uses name asks) type value e = absurd (cc)
  needs-is (needs other its) type value e =
      let same : other ≡ type = cc in
      let values : moved_expression from value ≡ moved_expression to its = cc in
      (its, ap (λ (t : LocalType). needs t its) same, values)
  needs-is (declares name) type value e = absurd (cc)
  needs-is (returns_value place) type value e = absurd (cc)
  needs-is (returns_nothing place) type value e = absurd (cc)

  value-is : (ask : Ask) (place : Place) → returns_value (from place) ≡ moved_ask to ask → (at : Place) × (ask ≡ returns_value at) × (from place ≡ to at)
  value-is (uses name asks) place e = absurd (cc)
  value-is (needs type value) place e = absurd (cc)
  value-is (declares name) place e = absurd (cc)
  value-is (returns_value at) place e = let same : from place ≡ to at = cc in (at, refl, same)
  value-is (returns_nothing at) place e = absurd (cc)

  nothing-is : (ask : Ask) (place : Place) → returns_nothing (from place) ≡ moved_ask to ask → (at : Place) × (ask ≡ returns_nothing at) × (from place ≡ to at)
  nothing-is (uses name asks) place e = absurd (cc)
  nothing-is (needs type value) place e = absurd (cc)
  nothing-is (declares name) place e = absurd (cc)
  nothing-is (returns_value at) place e = absurd (cc)
  nothing-is (returns_nothing at) place e = let same : from place ≡ to at = cc in (at, refl, same)

  task-is : (item : Item) (deterministic : Bool) (decl : Decl) → items.Task deterministic (moved_decl from decl) ≡ moved_item to item
      → (its : Decl) × (item ≡ items.Task deterministic its) × (moved_decl from decl ≡ moved_decl to its)
  task-is (items.Regions names) deterministic decl e = absurd (cc)
  task-is (items.Cell cell) deterministic decl e = absurd (cc)
  task-is (items.Method its) deterministic decl e = absurd (cc)
  task-is (items.Task other its) deterministic decl e =
      let same : other ≡ deterministic = cc in
      let decls : moved_decl from decl ≡ moved_decl to its = cc in
      (its, ap (λ b. items.Task b its) same, decls)

stands-alike : {X : Type 0} (f g : X → X) (count : ℕ) (xs ys : List X) → map f xs ≡ map g ys → (x : X) → StandsAfter count xs x
    → (y : X) × StandsAfter count ys y × (f x ≡ g y)
stands-alike f g count xs ys same x stands =
    let split = split-alike f g stands.before x stands.after ys (ap (map f) (sym stands.list) ∙ same) in (
      split.its,
      record {
        before = split.its_before;
        after = split.its_after;
        list = split.list;
        many = sym (same-length f g stands.before split.its_before split.same_before) ∙ stands.many;
      },
      split.same,
    )

module _ (to : Place → Place) where
  kind-star : (kind : PathElemKind) → is_star_kind (moved_elem_kind to kind) ≡ is_star_kind kind
  kind-star (elem_kinds.Name text) = refl
  kind-star (elem_kinds.Index index) = refl
  kind-star (elem_kinds.Variable name) = refl
  kind-star elem_kinds.AnyIndex = refl
  kind-star elem_kinds.Star = refl

  pub star-same : (elem : PathElem) → is_star (moved_elem to elem) ≡ is_star elem
  star-same elem = kind-star elem.kind

second-alike : (from to : Place → Place) (xs ys : List PathElem) → map (moved_elem from) xs ≡ map (moved_elem to) ys → (x : PathElem) → IsSecondStar xs x
    → (y : PathElem) × IsSecondStar ys y × (moved_elem from x ≡ moved_elem to y)
second-alike from to xs ys same x second =
    let split = split-alike (moved_elem from) (moved_elem to) second.before x second.after ys (ap (map (moved_elem from)) (sym second.list) ∙ same) in (
      split.its,
      record {
        before = split.its_before;
        after = split.its_after;
        list = split.list;
        star = sym (star-same to split.its) ∙ ap is_star (sym split.same) ∙ star-same from x ∙ second.star;
        one = sym (same-count (moved_elem to) is_star (star-same to) split.its_before) ∙ ap (count_by is_star) (sym split.same_before)
            ∙ same-count (moved_elem from) is_star (star-same from) second.before ∙ second.one;
      },
      split.same,
    )

main-alike : (from to : Place → Place) (one other : Ast) → moved_tree from one ≡ moved_tree to other → HasMain one → HasMain other
main-alike from to one other same has =
    let item = like-in (moved_item from) (moved_item to) one.items other.items (ap (λ (tree : Ast). tree.items) same) (items.Task has.deterministic has.decl) has.there in
    let its = task-is from to item.0 has.deterministic has.decl item.2 in
    record {
      deterministic = has.deterministic;
      decl = its.0;
      there = subst (Contains other.items) its.1 item.1;
      named = sym (ap (λ (d : Decl). d.name.text) its.2) ∙ has.named;
      plain = none-alike (moved_name to) its.0.params (sym (ap (λ (d : Decl). d.params) its.2) ∙ ap (map (moved_name from)) has.plain);
      void = sym (ap (λ (d : Decl). d.returns) its.2) ∙ has.void;
    }

module _ (from to : Place → Place) (one other : Ast) (same : moved_tree from one ≡ moved_tree to other) where
  asks-alike : (locals : List LocalName) (returns : ReturnType) (ask : Ask) → Asks one locals returns ask
      → (its : Ask) × Asks other locals returns its × (moved_ask from ask ≡ moved_ask to its)
  asks-alike locals returns ask there =
      let found = like-in (moved_site from) (moved_site to) (sites_of one) (sites_of other) (sites-alike from to one other same) (record { locals = locals; returns = returns; ask = ask }) there in
      let its_locals : locals ≡ found.0.locals = ap (λ (s : Site). s.locals) found.2 in
      let its_returns : returns ≡ found.0.returns = ap (λ (s : Site). s.returns) found.2 in (
        found.0.ask,
        subst (λ (l : List LocalName). Asks other l returns found.0.ask) (sym its_locals)
            (subst (λ (r : ReturnType). Asks other found.0.locals r found.0.ask) (sym its_returns) found.1),
        ap (λ (s : Site). s.ask) found.2,
      )

  uses-alike : (locals : List LocalName) (returns : ReturnType) (name : Name) (asks : NameUse) → Asks one locals returns (uses name asks)
      → (its : Name) × Asks other locals returns (uses its asks) × (moved_name from name ≡ moved_name to its)
  uses-alike locals returns name asks there =
      let found = asks-alike locals returns (uses name asks) there in
      let its = uses-is from to found.0 name asks found.2 in
      (its.0, subst (Asks other locals returns) its.1 found.1, its.2)

  declares-alike : (locals : List LocalName) (returns : ReturnType) (name : Name) → Asks one locals returns (declares name)
      → (its : Name) × Asks other locals returns (declares its) × (moved_name from name ≡ moved_name to its)
  declares-alike locals returns name there =
      let found = asks-alike locals returns (declares name) there in
      let its = declares-is from to found.0 name found.2 in
      (its.0, subst (Asks other locals returns) its.1 found.1, its.2)

  type-alike : (locals : List LocalName) (value its : Expression) → moved_expression from value ≡ moved_expression to its
      → type_of (globals_of other) locals its ≡ type_of (globals_of one) locals value
  type-alike locals value its e =
      sym (type-same to (globals_of other) locals its)
      ∙ ap₂ (λ globals value. type_of globals locals value) (sym (globals-alike from to one other same)) (sym e)
      ∙ type-same from (globals_of one) locals value

  needs-alike : (locals : List LocalName) (returns : ReturnType) (type : LocalType) (value : Expression) → Asks one locals returns (needs type value)
      → (its : Expression) × Asks other locals returns (needs type its) × (type_of (globals_of other) locals its ≡ type_of (globals_of one) locals value)
      × (from (place_of value) ≡ to (place_of its))
  needs-alike locals returns type value there =
      let found = asks-alike locals returns (needs type value) there in
      let its = needs-is from to found.0 type value found.2 in (
        its.0,
        subst (Asks other locals returns) its.1 found.1,
        type-alike locals value its.0 its.2,
        sym (place-moved from value) ∙ ap place_of its.2 ∙ place-moved to its.0,
      )

  binding-its : (locals : List LocalName) (name its : Name) → moved_name from name ≡ moved_name to its
      → binding_of (globals_of other) locals its.text ≡ binding_of (globals_of one) locals name.text
  binding-its locals name its e =
      let text : its.text ≡ name.text = sym (ap (λ (n : Name). n.text) e) in
      ap (binding_of (globals_of other) locals) text ∙ sym (binding-alike from to one other same locals name.text)

  as-alike : (locals : List LocalName) (asks : NameUse) (text : List ℕ) → binding_as (globals_of other) locals asks text ≡ binding_as (globals_of one) locals asks text
  as-alike locals name_use.Parameter text = refl
  as-alike locals name_use.Region text = sym (binding-alike from to one other same locals text)
  as-alike locals name_use.Value text = sym (binding-alike from to one other same locals text)
  as-alike locals name_use.Target text = sym (binding-alike from to one other same locals text)
  as-alike locals (name_use.Array given) text = sym (binding-alike from to one other same locals text)
  as-alike locals (name_use.Method args valued) text = sym (binding-alike from to one other same locals text)
  as-alike locals (name_use.Task args) text = sym (binding-alike from to one other same locals text)
  as-alike locals (name_use.Future join valued) text = sym (binding-alike from to one other same locals text)

  as-its : (locals : List LocalName) (asks : NameUse) (name its : Name) → moved_name from name ≡ moved_name to its
      → binding_as (globals_of other) locals asks its.text ≡ binding_as (globals_of one) locals asks name.text
  as-its locals asks name its e =
      let text : its.text ≡ name.text = sym (ap (λ (n : Name). n.text) e) in
      ap (binding_as (globals_of other) locals asks) text ∙ as-alike locals asks name.text

  again-alike : (this : GlobalName) → IsDeclaredAgain one this → (its : GlobalName) × IsDeclaredAgain other its × (from this.place ≡ to its.place)
  again-alike this again =
      let split = split-alike (moved_global from) (moved_global to) again.before this again.after (globals_of other)
      (ap (map (moved_global from)) (sym again.list) ∙ globals-alike from to one other same) in
      let text : this.text ≡ split.its.text = ap (λ (g : GlobalName). g.text) split.same in (
        split.its,
        record {
          before = split.its_before;
          after = split.its_after;
          list = split.list;
          again = elim again.again [
            | inl console ↦ inl (sym text ∙ console)
            | inr earlier ↦ let its = like-in (moved_global from) (moved_global to) again.before split.its_before split.same_before earlier.0 earlier.1 in
                inr (its.0, its.1, sym (ap (λ (g : GlobalName). g.text) its.2) ∙ earlier.2 ∙ text)
          ];
        },
        ap (λ (g : GlobalName). g.place) split.same,
      )

  decl-alike : (decl : Decl) → Contains (decls_of one) decl → (its : Decl) × Contains (decls_of other) its × (moved_decl from decl ≡ moved_decl to its)
  decl-alike decl there = like-in (moved_decl from) (moved_decl to) (decls_of one) (decls_of other) (decls-alike from to one other same) decl there

  path-alike : (decl its : Decl) (path : Path) → moved_decl from decl ≡ moved_decl to its → Contains (paths_of decl) path
      → (p : Path) × Contains (paths_of its) p × (moved_path from path ≡ moved_path to p)
  path-alike decl its path e there = like-in (moved_path from) (moved_path to) (paths_of decl) (paths_of its) (paths-alike from to decl its e) path there

  -- one of two such trees fails a rule if the other does
  pub names-alike : (rule : NRule) (place : Place) → FailsName one rule place → (its : Place) × FailsName other rule its × (from place ≡ to its)
  names-alike rule place (unknown locals returns name asks there none) =
      let its = uses-alike locals returns name asks there in
      (its.0.place, unknown locals returns its.0 asks its.1 (as-its locals asks name its.0 its.2 ∙ none), ap (λ (n : Name). n.place) its.2)
  names-alike rule place (declared_again name again) = let its = again-alike name again in (its.0.place, declared_again its.0 its.1, its.2)
  names-alike rule place (hides locals returns name bound there is) =
      let its = declares-alike locals returns name there in
      (its.0.place, hides locals returns its.0 bound its.1 (binding-its locals name its.0 its.2 ∙ is), ap (λ (n : Name). n.place) its.2)
  names-alike rule place (other_kind locals returns name asks bound there is not) =
      let its = uses-alike locals returns name asks there in
      (its.0.place, other_kind locals returns its.0 asks bound its.1 (as-its locals asks name its.0 its.2 ∙ is) not, ap (λ (n : Name). n.place) its.2)
  names-alike rule place (other_type locals returns type found value there is not) =
      let its = needs-alike locals returns type value there in
      (place_of its.0, other_type locals returns type found its.0 its.1 (its.2 ∙ is) not, its.3)
  names-alike rule place (void_method locals returns name args number params there is) =
      let its = uses-alike locals returns name (name_use.Method args true) there in
      (its.0.place, void_method locals returns its.0 args number params its.1 (binding-its locals name its.0 its.2 ∙ is), ap (λ (n : Name). n.place) its.2)
  names-alike rule place (void_task locals returns name join spawned number there is) =
      let its = uses-alike locals returns name (name_use.Future join true) there in
      (its.0.place, void_task locals returns its.0 join spawned number its.1 (binding-its locals name its.0 its.2 ∙ is), ap (λ (n : Name). n.place) its.2)
  names-alike rule place (value_for_nothing locals at there) =
      let found = asks-alike locals _ (returns_value at) there in
      let its = value-is from to found.0 at found.2 in
      (its.0, value_for_nothing locals its.0 (subst (Asks other locals _) its.1 found.1), its.2)
  names-alike rule place (nothing_for_value locals at there) =
      let found = asks-alike locals _ (returns_nothing at) there in
      let its = nothing-is from to found.0 at found.2 in
      (its.0, nothing_for_value locals its.0 (subst (Asks other locals _) its.1 found.1), its.2)
  names-alike rule place (other_count_of_method locals returns type name args number params valued there is not) =
      let its = uses-alike locals returns name (name_use.Method args valued) there in
      (its.0.place, other_count_of_method locals returns type its.0 args number params valued its.1 (binding-its locals name its.0 its.2 ∙ is) not, ap (λ (n : Name). n.place) its.2)
  names-alike rule place (other_count_of_task locals returns type name args number params there is not) =
      let its = uses-alike locals returns name (name_use.Task args) there in
      (its.0.place, other_count_of_task locals returns type its.0 args number params its.1 (binding-its locals name its.0 its.2 ∙ is) not, ap (λ (n : Name). n.place) its.2)
  names-alike rule place (no_return decl there int not) =
      let its = decl-alike decl there in (
        close_of its.0.body,
        no_return its.0 its.1 (sym (ap (λ (d : Decl). d.returns) its.2) ∙ int)
            (sym (one_ends-same to its.0.body) ∙ ap (λ (d : Decl). one_ends d.body) (sym its.2) ∙ one_ends-same from decl.body ∙ not),
        sym (close-moved from decl.body) ∙ ap (λ (d : Decl). close_of d.body) its.2 ∙ close-moved to its.0.body,
      )
  names-alike rule place (assigned locals returns name number type there is) =
      let its = uses-alike locals returns name name_use.Target there in
      (its.0.place, assigned locals returns its.0 number type its.1 (binding-its locals name its.0 its.2 ∙ is), ap (λ (n : Name). n.place) its.2)
  names-alike rule place (too_many_cells cell over) =
      let its = over-alike from to (cells_of one.items) (cells_of other.items) (cells-alike from to one other same) cell over in
      (its.0.name.place, too_many_cells its.0 its.1, ap (λ (c : CellDecl). c.name.place) its.2)
  names-alike rule place (long_cell_path cell elem there after) =
      let its = like-in (moved_cell from) (moved_cell to) (cells_of one.items) (cells_of other.items) (cells-alike from to one other same) cell there in
      let found = stands-alike (moved_cell_elem from) (moved_cell_elem to) _ cell.path.elems its.0.path.elems (ap (λ (c : CellDecl). c.path.elems) its.2) elem after in
      (found.0.place, long_cell_path its.0 found.0 its.1 found.1, ap (λ (e : CellElem). e.place) found.2)
  names-alike rule place (long_path decl path elem there among after) =
      let its = decl-alike decl there in
      let its_path = path-alike decl its.0 path its.2 among in
      let found = stands-alike (moved_elem from) (moved_elem to) _ path.elems its_path.0.elems (ap (λ (p : Path). p.elems) its_path.2) elem after in
      (found.0.place, long_path its.0 its_path.0 found.0 its.1 its_path.1 found.1, ap (λ (e : PathElem). e.place) found.2)
  names-alike rule place (too_many_effects decl path there after) =
      let its = decl-alike decl there in
      let found = stands-alike (moved_path from) (moved_path to) _ (paths_of decl) (paths_of its.0) (paths-alike from to decl its.0 its.2) path after in
      (found.0.place, too_many_effects its.0 found.0 its.1 found.1, ap (λ (p : Path). p.place) found.2)
  names-alike rule place (too_many_params decl name there after) =
      let its = decl-alike decl there in
      let found = stands-alike (moved_name from) (moved_name to) _ decl.params its.0.params (ap (λ (d : Decl). d.params) its.2) name after in
      (found.0.place, too_many_params its.0 found.0 its.1 found.1, ap (λ (n : Name). n.place) found.2)
  names-alike rule place (no_main none) = (other.end, no_main (λ has. none (main-alike to from other one (sym same) has)), ap (λ (tree : Ast). tree.end) same)
  names-alike rule place (second_star decl path elem there among star) =
      let its = decl-alike decl there in
      let its_path = path-alike decl its.0 path its.2 among in
      let found = second-alike from to path.elems its_path.0.elems (ap (λ (p : Path). p.elems) its_path.2) elem star in
      (found.0.place, second_star its.0 its_path.0 found.0 its.1 its_path.1 found.1, ap (λ (e : PathElem). e.place) found.2)
