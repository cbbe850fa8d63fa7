-- The parts of the program that a tree means.
use Rattle.std.proofs.Common.{◌≡◌, ◌≤◌, ℕ, List, [], ◌∷◌, All, codes, ap, sym, subst, ◌∙◌}
use Rattle.std.specs.List.{flat_map}
use Rattle.twe_ast.specs.declared.item.Ast.{Ast}
use Rattle.twe_ast.specs.declared.item.Item.{Item}
use Rattle.twe_program.specs.declared.program.CellDecl.{CellDecl}
use Rattle.twe_program.specs.declared.program.Decl.{Decl}
use Rattle.twe_program.specs.Program.{Program, cells_made}
use Rattle.twe_base.specs.Language.{max_cells}
use Rattle.twe_program.specs.WellFormed.{IsWellFormed}
use Rattle.name_check.specs.cell_limits.GoesOver.{cells_of}
use Rattle.name_check.specs.declared.names.GlobalName.{GlobalName}
use Rattle.name_check.specs.Names.{globals_of, binding_of}
use Rattle.twe_names.specs.BodyMeaning.{task_number}
use Rattle.twe_names.specs.FromText.{IsFromText}
use Rattle.twe_names.specs.Meaning.{cells_from, methods_of_item, program_of, regions_of_item, tasks_of_item}
use Rattle.twe_names.specs.inner.Numbers.{IsSmallItem}
use Rattle.twe_names.proofs.Small.{small_items}

module _ (ast : Ast) (items : List Item) (globals : List GlobalName) (items-are : items ≡ ast.items) where
  pub small-items : IsFromText ast → All IsSmallItem items
  small-items h = subst (All IsSmallItem) (sym items-are) (small_items ast h)

  module _ (globals-are : globals ≡ globals_of ast) where
    cells-same : cells_from globals 0 (cells_of items) ≡ (program_of ast).cells
    cells-same = ap (λ gs. cells_from gs 0 (cells_of items)) globals-are ∙ ap (λ xs. cells_from (globals_of ast) 0 (cells_of xs)) items-are

    pub few-cells : IsWellFormed (program_of ast) → cells_made (cells_from globals 0 (cells_of items)) ≤ max_cells
    few-cells wf = subst (λ cells. cells_made cells ≤ max_cells) (sym cells-same) wf.few_cells

    module _ (regions : List (List ℕ)) (cells : List CellDecl) (methods tasks : List Decl) (main : ℕ)
        (regions-are : regions ≡ codes "Console" ∷ flat_map regions_of_item items)
        (cells-are : cells ≡ cells_from globals 0 (cells_of items))
        (methods-are : methods ≡ flat_map (methods_of_item globals) items)
        (tasks-are : tasks ≡ flat_map (tasks_of_item globals) items)
        (main-is : main ≡ task_number (binding_of globals [] (codes "main"))) where
      abbrev made : Program
      made = record { regions = regions; cells = cells; methods = methods; tasks = tasks; main = main }

      -- the parts together are the program
      pub program-made : made ≡ program_of ast
      program-made =
          ap (λ rs. record made { regions = rs }) (regions-are ∙ ap (λ xs. codes "Console" ∷ flat_map regions_of_item xs) items-are)
          ∙ ap (λ cs. record (program_of ast) { cells = cs; methods = methods; tasks = tasks; main = main }) (cells-are ∙ cells-same)
          ∙ ap (λ ms. record (program_of ast) { methods = ms; tasks = tasks; main = main })
          (methods-are ∙ ap (λ gs. flat_map (methods_of_item gs) items) globals-are ∙ ap (flat_map (methods_of_item (globals_of ast))) items-are)
          ∙ ap (λ ts. record (program_of ast) { tasks = ts; main = main })
          (tasks-are ∙ ap (λ gs. flat_map (tasks_of_item gs) items) globals-are ∙ ap (flat_map (tasks_of_item (globals_of ast))) items-are)
          ∙ ap (λ m. record (program_of ast) { main = m }) (main-is ∙ ap (λ gs. task_number (binding_of gs [] (codes "main"))) globals-are)

      pub well-formed-made : IsWellFormed (program_of ast) → IsWellFormed (record { regions = regions; cells = cells; methods = methods; tasks = tasks; main = main })
      well-formed-made wf = subst IsWellFormed (sym program-made) wf
