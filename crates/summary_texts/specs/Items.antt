-- A tree with other summaries of its methods.
use Rattle.std.specs.Prelude.{ℕ, List, [], ◌∷◌, Option, None, Some, if◌then◌else◌}
use Rattle.effect_sets.specs.declared.effects.Summary.{Summary}
use Rattle.twe_ast.specs.declared.item.Ast.{Ast}
use Rattle.twe_ast.specs.declared.item.Decl.{Decl}
use Rattle.twe_ast.specs.declared.item.Item.{Item}
use Rattle.twe_ast.specs.declared.item.Item.TheVariants.{Regions, Cell, Method, Task}
use Rattle.twe_names.specs.Meaning.{program_of}
use Rattle.summary_texts.specs.paste_laws.Clauses.{with_clauses}
use Rattle.summary_texts.specs.Pasting.{in_line}
use Rattle.summary_texts.specs.Writable.{is_writable}

-- the declaration with the clauses of this summary, if a text can have them
abbrev pub decl_with_summary : List (List ℕ) → Summary → Decl → Decl
decl_with_summary regions summary decl = if is_writable summary then with_clauses regions (in_line summary) decl else decl

-- the same, if there is a summary
abbrev pub decl_with : List (List ℕ) → Option Summary → Decl → Decl
decl_with regions None decl = decl
decl_with regions (Some summary) decl = decl_with_summary regions summary decl

-- the declarations with these summaries of the methods, in the order of the text
abbrev pub items_with : List (List ℕ) → List (Option Summary) → List Item → List Item
items_with regions each [] = []
items_with regions each (Regions names ∷ items) = Regions names ∷ items_with regions each items
items_with regions each (Cell cell ∷ items) = Cell cell ∷ items_with regions each items
items_with regions each (Task deterministic decl ∷ items) = Task deterministic decl ∷ items_with regions each items
items_with regions [] (Method decl ∷ items) = Method decl ∷ items_with regions [] items
items_with regions (its ∷ each) (Method decl ∷ items) = Method (decl_with regions its decl) ∷ items_with regions each items

-- the tree with these summaries of its methods
abbrev pub tree_with : List (Option Summary) → Ast → Ast
tree_with each tree = record { items = items_with (program_of tree).regions each tree.items; end = tree.end }
