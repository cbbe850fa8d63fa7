-- What the global names of the tree are bound to.
use Rattle.std.proofs.Common.{◌≡◌, ℕ, ◌+◌, ◌*◌, ◌<◌, ◌≤◌, zero, suc, Bool, true, false, ◌&&◌, List, ◌∷◌, None, Some, eqb, refl, sym, ap, ◌∙◌, arith}
use Rattle.std.specs.Prelude.{decimal, codes, bytes_eq}
use Rattle.std.proofs.lemmas.Bool.{cond-true, cond-false}
use Rattle.twe_base.specs.declared.place.Place.{Place}
use Rattle.twe_ast.specs.declared.item.ReturnType.TheVariants as returns
use Rattle.name_check.specs.declared.binding.Global.TheVariants as global_kinds
use Rattle.name_check.specs.declared.names.GlobalName.{GlobalName}
use Rattle.name_check.specs.Names.{Before, globals_from, globals_of, first_global}
use Rattle.load_text.proofs.accepted.Numbered.{numbered_name, cell_name, child_name, parent_name, same_bytes, other_number}
use Rattle.load_text.proofs.accepted.Trees.{Places, later, items_from, load_tree}

-- what is declared before the cells of numbers, and after one more of them with its tasks
abbrev pub after_head : Before
after_head = record { regions = 3; cells = 1; methods = 0; tasks = 0 }

abbrev pub past_cell : Before → Before
past_cell before = record before { cells = before.cells + 1; tasks = (before.tasks + 1) + 1 }

-- names with different numbers, and names with the same one
pub numbered_apart : (letter other i j : ℕ) → bytes_eq (decimal i) (decimal j) ≡ false → bytes_eq (numbered_name letter i) (numbered_name other j) ≡ false
numbered_apart letter other i j differ = by_letter (eqb letter other)
  where
    by_letter : (same : Bool) → (same && bytes_eq (decimal i) (decimal j)) ≡ false
    by_letter true = differ
    by_letter false = refl

same_name : (letter i j : ℕ) → i ≡ j → bytes_eq (numbered_name letter i) (numbered_name letter j) ≡ true
same_name letter i j same = ap (λ k. bytes_eq (numbered_name letter i) (numbered_name letter k)) (sym same) ∙ same_bytes (numbered_name letter i)

other_name : (letter i j : ℕ) → i < 10000 → j < 10000 → ¬ (i ≡ j) → bytes_eq (numbered_name letter i) (numbered_name letter j) ≡ false
other_name letter i j small also differ = numbered_apart letter letter i j (other_number i j small also differ)

module _ (n : ℕ) where
  -- the cell, the child and the parent of a number
  found_cell : (count i d j : ℕ) (at : Places) (before : Before) → j ≡ i + d → d < count → i + count ≤ 2000
      → first_global (cell_name j) (globals_from before (items_from at i count n)) ≡ Some (global_kinds.Cells (before.cells + d) 0)
  found_cell zero i d j at before same below few = absurd (omega arith)
  found_cell (suc count) i zero j at before same below few =
      let equal : j ≡ i = omega arith in
      let number : before.cells ≡ before.cells + 0 = omega arith in
      cond-true (bytes_eq (cell_name j) (cell_name i)) _ _ (same_name 99 j i equal) ∙ ap (λ k. Some (global_kinds.Cells k 0)) number
  found_cell (suc count) i (suc d) j at before same below few =
      let differ : ¬ (j ≡ i) = λ e. omega arith in
      let number : (before.cells + 1) + d ≡ before.cells + suc d = omega arith in
      cond-false (bytes_eq (cell_name j) (cell_name i)) _ _ (other_name 99 j i (omega arith) (omega arith) differ)
      ∙ found_cell count (suc i) d j (later 69 at) (past_cell before) (omega arith) (omega arith) (omega arith)
      ∙ ap (λ k. Some (global_kinds.Cells k 0)) number

  found_child : (count i d j : ℕ) (at : Places) (before : Before) → j ≡ i + d → d < count → i + count ≤ 2000
      → first_global (child_name j) (globals_from before (items_from at i count n)) ≡ Some (global_kinds.Task (before.tasks + 2 * d) 0 returns.Void)
  found_child zero i d j at before same below few = absurd (omega arith)
  found_child (suc count) i zero j at before same below few =
      let equal : j ≡ i = omega arith in
      let number : before.tasks ≡ before.tasks + 2 * 0 = omega arith in
      cond-true (bytes_eq (child_name j) (child_name i)) _ _ (same_name 117 j i equal) ∙ ap (λ k. Some (global_kinds.Task k 0 returns.Void)) number
  found_child (suc count) i (suc d) j at before same below few =
      let differ : ¬ (j ≡ i) = λ e. omega arith in
      let number : ((before.tasks + 1) + 1) + 2 * d ≡ before.tasks + 2 * suc d = omega arith in
      cond-false (bytes_eq (child_name j) (child_name i)) _ _ (other_name 117 j i (omega arith) (omega arith) differ)
      ∙ found_child count (suc i) d j (later 69 at) (past_cell before) (omega arith) (omega arith) (omega arith)
      ∙ ap (λ k. Some (global_kinds.Task k 0 returns.Void)) number

  found_parent : (count i d j : ℕ) (at : Places) (before : Before) → j ≡ i + d → d < count → i + count ≤ 2000
      → first_global (parent_name j) (globals_from before (items_from at i count n)) ≡ Some (global_kinds.Task ((before.tasks + 1) + 2 * d) 0 returns.Void)
  found_parent zero i d j at before same below few = absurd (omega arith)
  found_parent (suc count) i zero j at before same below few =
      let equal : j ≡ i = omega arith in
      let number : before.tasks + 1 ≡ (before.tasks + 1) + 2 * 0 = omega arith in
      cond-true (bytes_eq (parent_name j) (parent_name i)) _ _ (same_name 116 j i equal) ∙ ap (λ k. Some (global_kinds.Task k 0 returns.Void)) number
  found_parent (suc count) i (suc d) j at before same below few =
      let differ : ¬ (j ≡ i) = λ e. omega arith in
      let number : (((before.tasks + 1) + 1) + 1) + 2 * d ≡ (before.tasks + 1) + 2 * suc d = omega arith in
      cond-false (bytes_eq (parent_name j) (parent_name i)) _ _ (other_name 116 j i (omega arith) (omega arith) differ)
      ∙ found_parent count (suc i) d j (later 69 at) (past_cell before) (omega arith) (omega arith) (omega arith)
      ∙ ap (λ k. Some (global_kinds.Task k 0 returns.Void)) number

  -- no global name begins with `f`
  no_future : (count i : ℕ) (text : List ℕ) (at : Places) (before : Before) → first_global (102 ∷ text) (globals_from before (items_from at i count n)) ≡ None
  no_future zero i text at before = refl
  no_future (suc count) i text at before = no_future count (suc i) text (later 69 at) (past_cell before)

-- the bindings of the global names, as far as the text uses them
pub record Bound (globals : List GlobalName) (n : ℕ) : Type 0 where
  pub region : first_global (codes "R") globals ≡ Some (global_kinds.Region 1)
  pub second : first_global (codes "S") globals ≡ Some (global_kinds.Region 2)
  pub sum : first_global (codes "s") globals ≡ Some (global_kinds.Cells 0 0)
  pub cell : (i : ℕ) → i < n → first_global (cell_name i) globals ≡ Some (global_kinds.Cells (suc i) 0)
  pub child : (i : ℕ) → i < n → first_global (child_name i) globals ≡ Some (global_kinds.Task (2 * i) 0 returns.Void)
  pub parent : (i : ℕ) → i < n → first_global (parent_name i) globals ≡ Some (global_kinds.Task (suc (2 * i)) 0 returns.Void)
  pub future : (text : List ℕ) → first_global (102 ∷ text) globals ≡ None

pub bound : (at : Places) (end : Place) (n : ℕ) → n ≤ 2000 → Bound (globals_of (load_tree at end n)) n
bound at end n most =
    record {
      region = refl;
      second = refl;
      sum = refl;
      cell = λ i below.
          (let number : 1 + i ≡ suc i = omega arith in
          found_cell n n 0 i i (later 10 at) after_head (omega arith) below (omega arith) ∙ ap (λ k. Some (global_kinds.Cells k 0)) number);
      child = λ i below.
          (let number : 0 + 2 * i ≡ 2 * i = omega arith in
          found_child n n 0 i i (later 10 at) after_head (omega arith) below (omega arith) ∙ ap (λ k. Some (global_kinds.Task k 0 returns.Void)) number);
      parent = λ i below.
          (let number : (0 + 1) + 2 * i ≡ suc (2 * i) = omega arith in
          found_parent n n 0 i i (later 10 at) after_head (omega arith) below (omega arith) ∙ ap (λ k. Some (global_kinds.Task k 0 returns.Void)) number);
      future = λ text. no_future n n 0 text (later 10 at) after_head;
    }
