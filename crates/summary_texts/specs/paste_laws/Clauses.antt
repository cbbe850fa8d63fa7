-- The summaries of methods as clauses of a text, in the place of those that the text has.
use Rattle.std.specs.Prelude.{ℕ, pos, negsuc, ◌+◌, ◌≤◌, Bool, true, false, not, List, [], ◌∷◌, ◌++◌, length, map, filter, slice_index_or, unsigned_abs, if◌then◌else◌}
use Rattle.std.specs.List.{AllByRecursion}
use Rattle.twe_base.specs.Language.{max_literal, max_path_elements, max_effects}
use Rattle.region_paths.specs.declared.elements.Elem.{Elem}
use Rattle.region_paths.specs.declared.elements.Elem.TheVariants.{Name, Index, Var, AnyIndex}
use Rattle.region_paths.specs.Written.{WrittenPath}
use Rattle.effect_sets.specs.declared.effects.Effect.{Effect}
use Rattle.effect_sets.specs.declared.effects.Summary.{Summary}
use Rattle.twe_ast.specs.declared.item.Ast.{Ast}
use Rattle.twe_ast.specs.declared.item.Clause.{Clause}
use Rattle.twe_ast.specs.declared.item.Decl.{Decl}
use Rattle.twe_ast.specs.declared.item.Item.{Item}
use Rattle.twe_ast.specs.declared.item.Item.TheVariants as items
use Rattle.twe_ast.specs.declared.name.Name as written
use Rattle.twe_ast.specs.declared.path.Path.{Path}
use Rattle.twe_ast.specs.declared.path.PathElem.{PathElem}
use Rattle.twe_ast.specs.declared.path.PathElemKind.{PathElemKind}
use Rattle.twe_ast.specs.declared.path.PathElemKind.TheVariants as elem_kinds
use Rattle.twe_names.specs.Meaning.{program_of}
use Rattle.summary_texts.specs.paste_laws.places.Places.{no_place}

-- the name of this number; every one is there
abbrev pub name_at : List (List ℕ) → ℕ → List ℕ
name_at names number = slice_index_or names number []

-- the texts of these names
abbrev pub texts_of : List written.Name → List (List ℕ)
texts_of names = map (λ (name : written.Name). name.text) names

-- an element as a text writes it: a region by its name, and a parameter by its name in brackets
abbrev pub clause_kind_of : List (List ℕ) → List (List ℕ) → Elem → PathElemKind
clause_kind_of regions params (Name n) = elem_kinds.Name (name_at regions n)
clause_kind_of regions params (Index i) = elem_kinds.Index (unsigned_abs i)
clause_kind_of regions params (Var k) = elem_kinds.Variable (record { text = name_at params k; place = no_place })
clause_kind_of regions params AnyIndex = elem_kinds.AnyIndex

-- the same as an element of a path, which gets no place of its own
abbrev pub elem_of : List (List ℕ) → List (List ℕ) → Elem → PathElem
elem_of regions params elem = record { kind = clause_kind_of regions params elem; place = no_place }

-- a `*`, which gets no place of its own
abbrev pub star_elem : PathElem
star_elem = record { kind = elem_kinds.Star; place = no_place }

-- the elements before a `*`, the `*` and those after it; or the first alone, if there is none
abbrev pub with_star : Bool → List PathElem → List PathElem → List PathElem
with_star false front back = front
with_star true front back = front ++ star_elem ∷ back

-- the path of an effect as a text writes it
abbrev pub clause_path_of : List (List ℕ) → List (List ℕ) → Effect → Path
clause_path_of regions params effect = record {
  elems = with_star effect.path.star (map (elem_of regions params) effect.path.elems)
      (map (elem_of regions params) effect.path.tail);
  place = no_place;
}

-- a clause of these effects, if there are any
abbrev pub clause_of : List (List ℕ) → List (List ℕ) → Bool → List Effect → List Clause
clause_of regions params write [] = []
clause_of regions params write (first ∷ others) = record {
  write = write;
  paths = map (clause_path_of regions params) (first ∷ others);
} ∷ []

-- the effects that read
abbrev pub reads_of : List Effect → List Effect
reads_of effects = filter (λ (effect : Effect). not effect.write) effects

-- the effects that write
abbrev pub writes_of : List Effect → List Effect
writes_of effects = filter (λ (effect : Effect). effect.write) effects

-- a clause of what is only read, and one of what is written
abbrev pub clauses_of : List (List ℕ) → List (List ℕ) → Summary → List Clause
clauses_of regions params summary =
    clause_of regions params false (reads_of summary.effects) ++ clause_of regions params true (writes_of summary.effects)

-- the declaration with the clauses of this summary
abbrev pub with_clauses : List (List ℕ) → Summary → Decl → Decl
with_clauses regions summary decl = record decl { effects = clauses_of regions (texts_of decl.params) summary }

-- the items with a summary for each method, in the order of the text
abbrev pub pasted_items : List (List ℕ) → List Summary → List Item → List Item
pasted_items regions summaries [] = []
pasted_items regions summaries (items.Regions names ∷ others) = items.Regions names ∷ pasted_items regions summaries others
pasted_items regions summaries (items.Cell cell ∷ others) = items.Cell cell ∷ pasted_items regions summaries others
pasted_items regions summaries (items.Task deterministic decl ∷ others) =
    items.Task deterministic decl ∷ pasted_items regions summaries others
pasted_items regions [] (items.Method decl ∷ others) = items.Method decl ∷ pasted_items regions [] others
pasted_items regions (summary ∷ summaries) (items.Method decl ∷ others) =
    items.Method (with_clauses regions summary decl) ∷ pasted_items regions summaries others

-- the tree with a summary for each method, in the place of the clauses that it declares
abbrev pub pasted : List Summary → Ast → Ast
pasted summaries tree = record { items = pasted_items (program_of tree).regions summaries tree.items; end = tree.end }

-- a text can have the element: a literal is not negative, nor larger than the largest literal
abbrev pub IsWritable : Elem → Type 0
IsWritable (Index (pos i)) = i ≤ max_literal
IsWritable (Index (negsuc i)) = ⊥
IsWritable _ = Unit {0}

-- how many elements a text writes for the path; a `*` is one
abbrev pub elements_written : WrittenPath → ℕ
elements_written path = if path.star then length path.elems + (1 + length path.tail) else length path.elems

-- A text can have the summary: no path has a negative literal or one that is too large, before its `*` or after it, none has
-- too many elements, and there are not too many effects.
pub record CanBeWritten (summary : Summary) : Type 0 where
  pub literals : AllByRecursion (λ (effect : Effect). AllByRecursion IsWritable effect.path.elems) summary.effects
  pub tail_literals : AllByRecursion (λ (effect : Effect). AllByRecursion IsWritable effect.path.tail) summary.effects
  pub short : AllByRecursion (λ (effect : Effect). elements_written effect.path ≤ max_path_elements) summary.effects
  pub few : length summary.effects ≤ max_effects
