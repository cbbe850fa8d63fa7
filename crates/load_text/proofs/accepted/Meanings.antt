-- What the declarations of the tree mean.
use Rattle.std.proofs.Common.{◌≡◌, ℕ, ◌+◌, ◌*◌, ◌<◌, zero, suc, true, false, List, [], ◌∷◌, None, Some, slice_get, refl, ap, ◌∙◌, arith}
use Rattle.std.specs.Prelude.{pos, Bool}
use Rattle.std.specs.List.{flat_map}
use Rattle.twe_ast.specs.declared.expr.BinOp.TheVariants as operators
use Rattle.region_paths.specs.declared.elements.Elem.{Elem}
use Rattle.region_paths.specs.declared.elements.Elem.TheVariants.{Name, Index}
use Rattle.effect_sets.specs.declared.effects.Effect.{Effect}
use Rattle.effect_sets.specs.declared.effects.Summary.{Summary}
use Rattle.twe_program.specs.declared.program.Decl.{Decl}
use Rattle.twe_program.specs.Expression.{Literal, CellValue, Binary, no_more}
use Rattle.twe_program.specs.Statement as stmt
use Rattle.twe_program.specs.Statement.{statement, SetCell, Make, Wait}
use Rattle.twe_parser.specs.Values.{literal_value_of}
use Rattle.name_check.specs.declared.names.GlobalName.{GlobalName}
use Rattle.name_check.specs.cell_limits.GoesOver.{cells_of}
use Rattle.twe_names.specs.Meaning.{cells_from, decl_of, tasks_of_item}
use Rattle.effect_check.specs.Standing.{elements_from}
use Rattle.effect_check.specs.Acts.{filled_summary}
use Rattle.load_text.proofs.accepted.Numbered.{child_name, parent_name}
use Rattle.load_text.proofs.accepted.Bindings.{Bound}
use Rattle.load_text.proofs.accepted.Trees.{Places, later, child_decl, parent_decl, items_from}

-- the cell of this number, and the cell `s`, as effects
abbrev pub cell_elems : ℕ → List Elem
cell_elems i = Name 1 ∷ Index (pos i) ∷ []

abbrev pub sum_elems : List Elem
sum_elems = Name 2 ∷ []

abbrev pub effect_on : Bool → List Elem → Effect
effect_on write elems = record { write = write; path = record { elems = elems; star = false; tail = [] } }

abbrev pub child_summary : ℕ → Summary
child_summary i = record { effects = effect_on true (cell_elems i) ∷ [] }

abbrev pub parent_summary : ℕ → Summary
parent_summary i = record { effects = effect_on true (cell_elems i) ∷ effect_on true sum_elems ∷ [] }

-- the tasks of a cell, as they are declared
abbrev pub child_task : Places → ℕ → Decl
child_task at i = record {
  name = child_name i;
  params = 0;
  int = false;
  deterministic = true;
  summary = child_summary i;
  body = record {
    block = statement (SetCell 0 (suc i)
        (Binary operators.Add (Binary operators.Mul (CellValue (suc i) (at 15)) (Literal (literal_value_of 3)) (at 16)) (Literal (literal_value_of i)) (at 18))
        (at 13)) stmt.no_more;
    vars = 0;
    futures = 0;
    points = 2;
    close = at 21;
  };
  place = at 3;
}

abbrev pub parent_task : Places → ℕ → Decl
parent_task at i = record {
  name = parent_name i;
  params = 0;
  int = false;
  deterministic = false;
  summary = parent_summary i;
  body = record {
    block =
        statement (Make 0 0 (2 * i) no_more true (at 15) (at 17))
        (statement (Wait 1 0 true None (at 23))
        (statement (SetCell 2 0 (Binary operators.Add (CellValue 0 (at 31)) (CellValue (suc i) (at 33)) (at 32)) (at 29)) stmt.no_more));
    vars = 0;
    futures = 1;
    points = 4;
    close = at 35;
  };
  place = at 2;
}

module _ (globals : List GlobalName) (n : ℕ) (bindings : Bound globals n) where
  pub child_means : (at : Places) (i : ℕ) → i < n → decl_of globals true (child_decl at i) ≡ child_task at i
  child_means at i below = rw (bindings.region, bindings.cell i below) refl

  pub parent_means : (at : Places) (i : ℕ) → i < n → decl_of globals false (parent_decl at i) ≡ parent_task at i
  parent_means at i below = rw (bindings.region, bindings.second, bindings.sum, bindings.cell i below, bindings.child i below) refl

  -- the path of the cell of a number, and the effects of its child
  pub cell_path : (count i d j first : ℕ) (at : Places) → j ≡ i + d → d < count
      → elements_from (slice_get (cells_from globals first (cells_of (items_from at i count n))) d) ≡ cell_elems j
  cell_path zero i d j first at same below = absurd (omega arith)
  cell_path (suc count) i zero j first at same below =
      let equal : i ≡ j = omega arith in
      rw bindings.region (ap cell_elems equal)
  cell_path (suc count) i (suc d) j first at same below = cell_path count (suc i) d j (first + 1) (later 69 at) (omega arith) (omega arith)

  pub child_effects : (count i d j : ℕ) (at : Places) → j ≡ i + d → d < count → i + count ≡ n
      → filled_summary (slice_get (flat_map (tasks_of_item globals) (items_from at i count n)) (2 * d)) [] ≡ child_summary j
  child_effects zero i d j at same below all = absurd (omega arith)
  child_effects (suc count) i zero j at same below all =
      let equal : i ≡ j = omega arith in
      ap (λ (o : Decl). filled_summary (Some o) []) (child_means (later 11 at) i (omega arith)) ∙ ap child_summary equal
  child_effects (suc count) i (suc d) j at same below all =
      let next : 2 * suc d ≡ suc (suc (2 * d)) = omega arith in
      ap (λ (k : ℕ). filled_summary (slice_get (flat_map (tasks_of_item globals) (items_from at i (suc count) n)) k) []) next
      ∙ child_effects count (suc i) d j (later 69 at) (omega arith) (omega arith) (omega arith)
