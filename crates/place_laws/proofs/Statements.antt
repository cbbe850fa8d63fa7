-- A statement without its places does the same, but that a fault or a make may have another place.
use Rattle.std.proofs.Common.{◌≡◌, ℕ, zero, suc, ◌+◌, ℤ, Bool, true, false, List, [], Option, None, Some, refl, ap, ◌∙◌}
use Rattle.twe_base.specs.declared.place.Place.{Place}
use Rattle.twe_program.specs.Program.{Program}
use Rattle.twe_program.specs.Expression.{Expression, Arguments}
use Rattle.twe_program.specs.Statement.{Statement, Block, Let, Set, SetCell, SetArray, SetGrid, If, While, Return, Print, Call, Make, Wait, Statements, no_more, statement, Arms, arm, otherwise, no_else}
use Rattle.seg_meaning.specs.declared.fault.FaultCause.{FaultCause}
use Rattle.seg_meaning.specs.declared.fault.FaultCause.TheVariants.{Index, GridIndex}
use Rattle.seg_meaning.specs.declared.operation.Operation.TheVariants as operations
use Rattle.seg_meaning.specs.Arithmetic.{is_true}
use Rattle.seg_meaning.specs.Cells.{cell_number, element_number, grid_element_number}
use Rattle.seg_meaning.specs.Meaning.{Below, called, chosen, done_all, done_arms, done_by, done_within, element_written, stopped_at, turned, value_of, values_of}
use Rattle.seg_meaning.specs.Store.{Store, Flow, cell_written, goes, number_printed, returns, stops, then_do, then_go, unit_taken, with_var}
use Rattle.summary_texts.specs.paste_laws.places.Places.{bare_arguments, bare_arms, bare_expression, bare_program, bare_statement, bare_statements, no_place}
use Rattle.place_laws.proofs.Declarations.{same_cell, same_element, same_grid_element}
use Rattle.place_laws.proofs.Expressions.{IsBareBelow, called_bare, value_bare, values_bare}
use Rattle.place_laws.proofs.Stores.{bare_flow, bare_store, do_on, go_on, stopped_bare, unit_bare}

written_bare : (cell : Option ℕ) (missing : FaultCause) (value : ℤ) (place : Place) (s : Store)
    → element_written cell missing value no_place (bare_store s) ≡ bare_flow (element_written cell missing value place s)
written_bare None missing value place s = refl
written_bare (Some cell) missing value place s = refl

chosen_bare : (first second its_first its_second : Flow) → its_first ≡ bare_flow first → its_second ≡ bare_flow second
    → (b : Bool) → chosen b its_first its_second ≡ bare_flow (chosen b first second)
chosen_bare first second its_first its_second one two true = one
chosen_bare first second its_first its_second one two false = two

turned_bare : (body its_body again its_again : Store → Flow) (place : Place)
    → ((s : Store) → its_body (bare_store s) ≡ bare_flow (body s)) → ((s : Store) → its_again (bare_store s) ≡ bare_flow (again s))
    → (b : Bool) (s : Store) → turned b no_place its_body its_again (bare_store s) ≡ bare_flow (turned b place body again s)
turned_bare body its_body again its_again place of_body of_again false s = refl
turned_bare body its_body again its_again place of_body of_again true s =
    do_on (λ unit s1. then_go (body s1) again) (λ unit s1. then_go (its_body s1) its_again)
    (λ unit s1. go_on again its_again of_again (body s1) (its_body (bare_store s1)) (of_body s1))
    (unit_taken place s) (unit_taken no_place (bare_store s)) (unit_bare s.fuel place s)

module _ (below other : Below) (meets : IsBareBelow below other) (p : Program) where
  -- what follows the value of an expression, or a unit of fuel, may be taken without its places
  after_value : (e : Expression) (next its_next : ℤ → Store → Flow) (s : Store) → ((value : ℤ) (s1 : Store) → its_next value (bare_store s1) ≡ bare_flow (next value s1))
      → then_do (value_of other (bare_program p) (bare_expression e) (bare_store s)) its_next ≡ bare_flow (then_do (value_of below p e s) next)
  after_value e next its_next s on =
      do_on next its_next on (value_of below p e s) (value_of other (bare_program p) (bare_expression e) (bare_store s)) (value_bare below other meets p e s)

  after_values : (list : Arguments) (next its_next : List ℤ → Store → Flow) (s : Store)
      → ((values : List ℤ) (s1 : Store) → its_next values (bare_store s1) ≡ bare_flow (next values s1))
      → then_do (values_of other (bare_program p) (bare_arguments list) (bare_store s)) its_next ≡ bare_flow (then_do (values_of below p list s) next)
  after_values list next its_next s on =
      do_on next its_next on (values_of below p list s) (values_of other (bare_program p) (bare_arguments list) (bare_store s)) (values_bare below other meets p list s)

  after_unit : (place : Place) (next its_next : Unit {0} → Store → Flow) (s : Store) → ((unit : Unit {0}) (s1 : Store) → its_next unit (bare_store s1) ≡ bare_flow (next unit s1))
      → then_do (unit_taken no_place (bare_store s)) its_next ≡ bare_flow (then_do (unit_taken place s) next)
  after_unit place next its_next s on = do_on next its_next on (unit_taken place s) (unit_taken no_place (bare_store s)) (unit_bare s.fuel place s)

  set_bare : (var : ℕ) (value : Expression) (s : Store)
      → then_do (value_of other (bare_program p) (bare_expression value) (bare_store s)) (λ v s1. goes (with_var var v s1))
      ≡ bare_flow (then_do (value_of below p value s) (λ v s1. goes (with_var var v s1)))
  set_bare var value s = after_value value (λ v s1. goes (with_var var v s1)) (λ v s1. goes (with_var var v s1)) s (λ v s1. refl)

  array_written : (array : ℕ) (i v : ℤ) (place : Place) (s : Store)
      → element_written (element_number (bare_program p) array i) (Index i) v no_place (bare_store s)
      ≡ bare_flow (element_written (element_number p array i) (Index i) v place s)
  array_written array i v place s =
      ap (λ (c : Option ℕ). element_written c (Index i) v no_place (bare_store s)) (same_element p array i) ∙ written_bare (element_number p array i) (Index i) v place s

  grid_written : (array : ℕ) (i j v : ℤ) (place : Place) (s : Store)
      → element_written (grid_element_number (bare_program p) array i j) (GridIndex i j) v no_place (bare_store s)
      ≡ bare_flow (element_written (grid_element_number p array i j) (GridIndex i j) v place s)
  grid_written array i j v place s =
      ap (λ (c : Option ℕ). element_written c (GridIndex i j) v no_place (bare_store s)) (same_grid_element p array i j)
      ∙ written_bare (grid_element_number p array i j) (GridIndex i j) v place s

  mutual
    pub done_bare : (stmt : Statement) (s : Store)
        → done_by other (bare_program p) (bare_statement stmt) (bare_store s) ≡ bare_flow (done_by below p stmt s)
    done_bare (Block point body) s = all_bare 0 0 body s
    done_bare (Let point var value) s = set_bare var value s
    done_bare (Set point var value) s = set_bare var value s
    done_bare (SetCell point cell value place) s =
        after_value value (λ v s1. goes (cell_written (cell_number p cell) v s1)) (λ v s1. goes (cell_written (cell_number (bare_program p) cell) v s1)) s
        (λ v s1. ap (λ (c : ℕ). goes (cell_written c v (bare_store s1))) (same_cell p cell))
    done_bare (SetArray point array index value place) s =
        after_value index
        (λ i s1. then_do (value_of below p value s1) (λ v s2. element_written (element_number p array i) (Index i) v place s2))
        (λ i s1. then_do (value_of other (bare_program p) (bare_expression value) s1) (λ v s2. element_written (element_number (bare_program p) array i) (Index i) v no_place s2))
        s
        (λ i s1.
        after_value value (λ v s2. element_written (element_number p array i) (Index i) v place s2)
        (λ v s2. element_written (element_number (bare_program p) array i) (Index i) v no_place s2) s1 (λ v s2. array_written array i v place s2))
    done_bare (SetGrid point array row column value place) s =
        after_value row
        (λ i s1. then_do (value_of below p column s1) (λ j s2. then_do (value_of below p value s2) (λ v s3. element_written (grid_element_number p array i j) (GridIndex i j) v place s3)))
        (λ i s1.
        then_do (value_of other (bare_program p) (bare_expression column) s1)
        (λ j s2. then_do (value_of other (bare_program p) (bare_expression value) s2) (λ v s3. element_written (grid_element_number (bare_program p) array i j) (GridIndex i j) v no_place s3)))
        s
        (λ i s1.
        after_value column
        (λ j s2. then_do (value_of below p value s2) (λ v s3. element_written (grid_element_number p array i j) (GridIndex i j) v place s3))
        (λ j s2. then_do (value_of other (bare_program p) (bare_expression value) s2) (λ v s3. element_written (grid_element_number (bare_program p) array i j) (GridIndex i j) v no_place s3))
        s1
        (λ j s2.
        after_value value (λ v s3. element_written (grid_element_number p array i j) (GridIndex i j) v place s3)
        (λ v s3. element_written (grid_element_number (bare_program p) array i j) (GridIndex i j) v no_place s3) s2 (λ v s3. grid_written array i j v place s3)))
    done_bare (If point arms) s = arms_bare 0 arms s
    done_bare (While point condition body place) s =
        after_value condition (λ v s1. turned (is_true v) place (done_all below p 0 0 body) (below (While point condition body place)) s1)
        (λ v s1.
        turned (is_true v) no_place (done_all other (bare_program p) 0 0 (bare_statements body)) (other (bare_statement (While point condition body place))) s1)
        s
        (λ v s1.
        turned_bare (done_all below p 0 0 body) (done_all other (bare_program p) 0 0 (bare_statements body)) (below (While point condition body place))
        (other (bare_statement (While point condition body place))) place (λ s2. all_bare 0 0 body s2) (λ s2. meets (While point condition body place) s2)
        (is_true v) s1)
    done_bare (Return point None) s = refl
    done_bare (Return point (Some value)) s = after_value value (λ v s1. returns v s1) (λ v s1. returns v s1) s (λ v s1. refl)
    done_bare (Print point value place) s =
        after_value value (λ v s1. then_do (unit_taken place s1) (λ unit s2. goes (number_printed v s2)))
        (λ v s1. then_do (unit_taken no_place s1) (λ unit s2. goes (number_printed v s2))) s
        (λ v s1. after_unit place (λ unit s2. goes (number_printed v s2)) (λ unit s2. goes (number_printed v s2)) s1 (λ unit s2. refl))
    done_bare (Call point method list place) s =
        after_values list (λ values s1. then_do (called below p method values place s1) (λ value s2. goes s2))
        (λ values s1. then_do (called other (bare_program p) method values no_place s1) (λ value s2. goes s2)) s
        (λ values s1.
        do_on (λ value s2. goes s2) (λ value s2. goes s2) (λ value s2. refl) (called below p method values place s1)
        (called other (bare_program p) method values no_place (bare_store s1)) (called_bare below other meets p method values place s1))
    done_bare (Make point future task list spawned future_place place) s =
        after_values list (λ values s1. then_do (unit_taken place s1) (λ unit s2. stops (operations.Make future task values spawned place) [] s2))
        (λ values s1. then_do (unit_taken no_place s1) (λ unit s2. stops (operations.Make future task values spawned no_place) [] s2)) s
        (λ values s1.
        after_unit place (λ unit s2. stops (operations.Make future task values spawned place) [] s2)
        (λ unit s2. stops (operations.Make future task values spawned no_place) [] s2) s1 (λ unit s2. refl))
    done_bare (Wait point future join into place) s =
        after_unit place (λ unit s1. stops (operations.Wait future join into) [] s1) (λ unit s1. stops (operations.Wait future join into) [] s1) s (λ unit s1. refl)

    pub all_bare : (block at : ℕ) (stmts : Statements) (s : Store)
        → done_all other (bare_program p) block at (bare_statements stmts) (bare_store s) ≡ bare_flow (done_all below p block at stmts s)
    all_bare block at no_more s = refl
    all_bare block at (statement first others) s =
        let now = done_by below p first s in
        let its_now = done_by other (bare_program p) (bare_statement first) (bare_store s) in
        go_on (λ s1. done_all below p block (at + 1) others s1) (λ s1. done_all other (bare_program p) block (at + 1) (bare_statements others) s1)
        (λ s1. all_bare block (at + 1) others s1) (stopped_at block (at + 1) now) (stopped_at block (at + 1) its_now)
        (ap (stopped_at block (at + 1)) (done_bare first s) ∙ stopped_bare block (at + 1) now)

    arms_bare : (block : ℕ) (arms : Arms) (s : Store)
        → done_arms other (bare_program p) block (bare_arms arms) (bare_store s) ≡ bare_flow (done_arms below p block arms s)
    arms_bare block (arm condition body others) s =
        after_value condition (λ v s1. chosen (is_true v) (done_all below p block 0 body s1) (done_arms below p (block + 1) others s1))
        (λ v s1.
        chosen (is_true v) (done_all other (bare_program p) block 0 (bare_statements body) s1) (done_arms other (bare_program p) (block + 1) (bare_arms others) s1))
        s
        (λ v s1.
        chosen_bare (done_all below p block 0 body s1) (done_arms below p (block + 1) others s1)
        (done_all other (bare_program p) block 0 (bare_statements body) (bare_store s1)) (done_arms other (bare_program p) (block + 1) (bare_arms others) (bare_store s1))
        (all_bare block 0 body s1) (arms_bare (block + 1) others s1) (is_true v))
    arms_bare block (otherwise body) s = all_bare block 0 body s
    arms_bare block no_else s = refl

pub within_bare : (p : Program) (n : ℕ) → IsBareBelow (done_within p n) (done_within (bare_program p) n)
within_bare p zero stmt s = refl
within_bare p (suc n) stmt s = done_bare (done_within p n) (done_within (bare_program p) n) (within_bare p n) p stmt s
