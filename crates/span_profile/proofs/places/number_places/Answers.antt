use Rattle.std.proofs.Common.{◌≡◌, ◌+◌, ◌++◌, ℕ, List, [], ◌∷◌, Some, length, take, refl, sym, ap, ◌∙◌, subst, arith}
use Rattle.std.specs.Prelude.{slice_get}
use Rattle.std.proofs.lemmas.List.{take_all, take_more}
use Rattle.std.proofs.lemmas.Option.{slice_get_read}
use Rattle.twe_program.specs.declared.program.CellDecl.{CellDecl}
use Rattle.twe_program.specs.Program.{Program, size_of}
use Rattle.span_profile.specs.inner.Numbering.{ArePlaces, Numbered, decl_paths}
use Rattle.span_profile.proofs.Numbers.{all_paths, all_paths_more, cell_number, number_kept, one_of_all}
use Rattle.span_profile.proofs.places.number_places.Goals as goal

-- a declaration makes no more cells than the program may have
pub add_cells-requires : goal.add_cells-requires
add_cells-requires c =
    let items = c.as_slice-decl-items.result.now in
    let found = slice_get_read items (length items) c.loop-decl.decl-index c.decl-item.result refl c.loop-decl-test.true c.decl-item.is in
    let here : slice_get c.p.inside.cells c.loop-decl.decl-index ≡ Some c.decl-item.result = ap (λ (l : List CellDecl). slice_get l c.loop-decl.decl-index) (sym c.as_slice-decl-items.ensures) ∙ found in
    let one = one_of_all c.p.inside.cells c.loop-decl.decl-index c.decl-item.result here in
    omega (arith, one, c.p.invariant.few_cells)

pub loop-decl-init : goal.loop-decl-init
loop-decl-init c = record {
  console = record { there = c.in_ok-console.ensures.there; path_is = c.in_ok-console.ensures.path };
  cells = subst (λ (l : List ℕ). Numbered c.add_path.new.self l []) (sym c.new-cells.ensures) tt;
}

pub loop-decl-preserved : goal.loop-decl-preserved
loop-decl-preserved c =
    let items = c.as_slice-decl-items.result.now in
    let at = c.loop-decl.decl-index in
    let decl = c.decl-item.result in
    let more : all_paths (take at items) ++ decl_paths decl (size_of decl.dims) ≡ all_paths (take (at + 1) items) =
    sym (ap all_paths (take_more items at decl c.loop-decl-test.true ∙ ap (λ (d : CellDecl). take at items ++ d ∷ []) (sym c.decl-item.is)) ∙ all_paths_more (take at items) decl) in
    record {
      console = number_kept c.loop-decl.tree c.add_cells.new.tree c.in_ok-console.console _ c.in_ok-add_cells.ensures.keeps c.loop-decl.invariant.console;
      cells = subst (Numbered c.add_cells.new.tree c.add_cells.new.numbers) more (c.in_ok-add_cells.ensures.numbers (all_paths (take at items)) c.loop-decl.invariant.cells);
    }

pub returns : goal.returns
returns c =
    let items = c.as_slice-decl-items.result.now in
    let all : all_paths (take c.loop-decl.decl-index items) ≡ all_paths c.p.inside.cells = ap all_paths (take_all c.loop-decl.decl-index items c.loop-decl-test.false ∙ c.as_slice-decl-items.ensures) in
    let cells : Numbered c.loop-decl.tree c.loop-decl.cells (all_paths c.p.inside.cells) = subst (Numbered c.loop-decl.tree c.loop-decl.cells) all c.loop-decl.invariant.cells in
    subst (λ (p : Program). ArePlaces p (record { cells = c.loop-decl.cells; console = c.in_ok-console.console })) c.p.view_is
    (record {
      nodes = c.loop-decl.tree;
      tree = c.len-nodes.ensures.tree;
      cells = λ cell below. cell_number c.p.inside.cells c.loop-decl.tree c.loop-decl.cells cell c.p.invariant.numbered cells below;
      console = c.loop-decl.invariant.console;
    })
