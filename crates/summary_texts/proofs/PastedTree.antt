-- A tree with summaries that a text can have, one for each method, is the tree into which they are pasted.
use Rattle.std.proofs.Common.{◌≡◌, ℕ, Bool, true, false, List, [], ◌∷◌, map, Some, refl, sym, ap, ◌∙◌}
use Rattle.std.specs.Prelude.{if◌then◌else◌}
use Rattle.std.specs.List.{list_all}
use Rattle.std.proofs.lemmas.Bool.{and_parts, false≢true}
use Rattle.twe_base.specs.declared.place.Place.{Place}
use Rattle.effect_sets.specs.declared.effects.Summary.{Summary}
use Rattle.twe_ast.specs.declared.item.Ast.{Ast}
use Rattle.twe_ast.specs.declared.item.Clause.{Clause}
use Rattle.twe_ast.specs.declared.item.Decl.{Decl}
use Rattle.twe_ast.specs.declared.name.Name as written
use Rattle.twe_ast.specs.declared.item.Item.{Item}
use Rattle.twe_ast.specs.declared.item.Item.TheVariants.{Regions, Cell, Method, Task}
use Rattle.twe_names.specs.Meaning.{program_of}
use Rattle.summary_texts.specs.paste_laws.Clauses.{pasted, pasted_items, with_clauses}
use Rattle.summary_texts.specs.Pasting.{in_line}
use Rattle.summary_texts.specs.Items.{decl_with_summary, items_with, tree_with}
use Rattle.summary_texts.specs.inner.LineClauses.{line_clauses}
use Rattle.summary_texts.specs.Writable.{is_writable}
use Rattle.summary_texts.proofs.LineClauses.{same-clauses}

if-true : {X : Type 0} (test : Bool) (one other : X) → test ≡ true → (if test then one else other) ≡ one
if-true true one other h = refl
if-true false one other h = absurd (false≢true h)

-- a declaration with the clauses of such a summary
pub decl-pasted : (regions : List (List ℕ)) (summary : Summary) (decl made : Decl) (params : List written.Name) (effects : List Clause) → is_writable summary ≡ true → params ≡ decl.params
    → effects ≡ line_clauses regions params summary → made ≡ record decl { effects = effects } → made ≡ decl_with_summary regions summary decl
decl-pasted regions summary decl made params effects can params_are effects_are is =
    is ∙ ap (λ (its : List Clause). record decl { effects = its }) (effects_are ∙ ap (λ (names : List written.Name). line_clauses regions names summary) params_are ∙ same-clauses regions decl.params summary)
    ∙ sym (if-true (is_writable summary) (with_clauses regions (in_line summary) decl) decl can)

items-pasted : (regions : List (List ℕ)) (all : List Summary) (items : List Item) → list_all is_writable all ≡ true → items_with regions (map Some all) items ≡ pasted_items regions (map in_line all) items
items-pasted regions all [] h = refl
items-pasted regions all (Regions names ∷ items) h = ap (λ (more : List Item). Regions names ∷ more) (items-pasted regions all items h)
items-pasted regions all (Cell cell ∷ items) h = ap (λ (more : List Item). Cell cell ∷ more) (items-pasted regions all items h)
items-pasted regions all (Task deterministic decl ∷ items) h = ap (λ (more : List Item). Task deterministic decl ∷ more) (items-pasted regions all items h)
items-pasted regions [] (Method decl ∷ items) h = ap (λ (more : List Item). Method decl ∷ more) (items-pasted regions [] items h)
items-pasted regions (summary ∷ all) (Method decl ∷ items) h =
    let both = and_parts (is_writable summary) (list_all is_writable all) h in
    let first = if-true (is_writable summary) (with_clauses regions (in_line summary) decl) decl both.0 in
    let others = items-pasted regions all items both.1 in
    λ i. Method (first i) ∷ others i

abbrev tree_of : Place → List Item → Ast
tree_of end items = record { items = items; end = end }

pub tree-pasted : (tree : Ast) (all : List Summary) → list_all is_writable all ≡ true → tree_with (map Some all) tree ≡ pasted (map in_line all) tree
tree-pasted tree all h = ap (tree_of tree.end) (items-pasted (program_of tree).regions all tree.items h)
