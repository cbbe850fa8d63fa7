-- A segment of a program accesses only cells of the program.
use Rattle.std.proofs.Common.{◌≡◌, ◌<◌, ◌≤◌, ◌+◌, ◌*◌, ℕ, zero, suc, ℤ, pos, negsuc, Bool, true, false, cond, List, [], ◌∷◌, length, Option, None, Some, refl, subst, arith}
use Rattle.std.specs.Prelude.{nat_le, nat_lt, option_map, slice_get}
use Rattle.std.specs.List.{AllByRecursion}
use Rattle.std.proofs.lemmas.Bool.{ltb-true}
use Rattle.twe_base.specs.declared.place.Place.{Place}
use Rattle.twe_ast.specs.declared.expr.BinOp.{BinOp}
use Rattle.twe_base.specs.Language.{max_active_calls}
use Rattle.twe_program.specs.declared.program.Dims.{Dims}
use Rattle.twe_program.specs.declared.program.Dims.TheVariants.{Scalar, Row, Grid}
use Rattle.twe_program.specs.declared.program.CellDecl.{CellDecl}
use Rattle.twe_program.specs.declared.program.Decl.{Decl}
use Rattle.twe_program.specs.Expression.{Expression, Literal, Truth, Variable, CellValue, ArrayElement, GridElement, CallValue, Negative, Negation, Binary, Arguments, argument}
use Rattle.twe_program.specs.Expression as exprs
use Rattle.twe_program.specs.Statement.{Statement, Block, Let, Set, SetCell, SetArray, SetGrid, If, While, Return, Print, Call, Make, Wait, Statements, no_more, statement, Arms, arm, otherwise, no_else}
use Rattle.twe_program.specs.Program.{Program, cell_count, size_of}
use Rattle.twe_program.specs.Fitting.{Scope, HasShape, TakesIndexes, ExpressionFits, ArgumentsFit, StatementFits, StatementsFit, ArmsFit}
use Rattle.twe_program.specs.WellFormed.{IsWellFormed, MethodFits, DeclFits, scope_of}
use Rattle.seg_meaning.specs.declared.active.ActiveCall.{ActiveCall}
use Rattle.seg_meaning.specs.declared.frame.Position.{Position}
use Rattle.seg_meaning.specs.declared.frame.Frame.{Frame}
use Rattle.seg_meaning.specs.declared.frame.OpenBody.{OpenBody}
use Rattle.seg_meaning.specs.Access.{MayAll}
use Rattle.seg_meaning.specs.Arithmetic.{is_true, operated, decided}
use Rattle.seg_meaning.specs.Cells.{cell_number, element_number, grid_element_number, element_of, grid_element_of, first_of, in_row, in_grid, index_below, at_column}
use Rattle.seg_meaning.specs.Store.{Store, Given, gives, faults, Flow, goes, returns, fails, stops, then_give, then_do, then_go, unit_taken, unit_of}
use Rattle.seg_meaning.specs.declared.fault.FaultCause.{FaultCause}
use Rattle.seg_meaning.specs.declared.fault.FaultCause.TheVariants.{Index, GridIndex}
use Rattle.seg_meaning.specs.Meaning.{Below, element_read, element_written, value_or_fault, right_given, body_of, vars_at_start, given_back, entered, called, value_of, values_of, turned, chosen, stopped_at, done_by, done_all, done_arms, done_within}
use Rattle.seg_meaning.specs.Plain.{list_ways}
use Rattle.seg_meaning.specs.Remaining.{after_first, last_of_first, branch_of, block_of, block_at, turned_again, resumed}
use Rattle.seg_meaning.specs.Segment.{MayCarryOut, flow_of, stopped_by}
use Rattle.seg_meaning.proofs.CellNumbers.{cells_before, grid_within}

-- a number, if there is one, is below the bound
abbrev NumberBelow : ℕ → Option ℕ → Type 0
NumberBelow bound None = Unit {0}
NumberBelow bound (Some n) = n < bound

index_below_by : (bound m : ℕ) (b : Bool) → nat_lt m bound ≡ b → NumberBelow bound (cond b (Some m) None)
index_below_by bound m true is = ltb-true m bound is
index_below_by bound m false is = tt

index_fine : (bound : ℕ) (index : ℤ) → NumberBelow bound (index_below bound index)
index_fine bound (pos m) = index_below_by bound m (nat_lt m bound) refl
index_fine bound (negsuc m) = tt

row_fine : (dims : Dims) (index : ℤ) → NumberBelow (size_of dims) (in_row dims index)
row_fine (Row count) index = index_fine count index
row_fine Scalar index = tt
row_fine (Grid rows columns) index = tt

column_fine : (rows columns : ℕ) (row column : Option ℕ) → NumberBelow rows row → NumberBelow columns column → NumberBelow (rows * columns) (at_column columns row column)
column_fine rows columns (Some row) (Some column) r c = grid_within rows columns row column r c
column_fine rows columns None column r c = tt
column_fine rows columns (Some row) None r c = tt

grid_fine : (dims : Dims) (row column : ℤ) → NumberBelow (size_of dims) (in_grid dims row column)
grid_fine (Grid rows columns) row column = column_fine rows columns (index_below rows row) (index_below columns column) (index_fine rows row) (index_fine columns column)
grid_fine Scalar row column = tt
grid_fine (Row count) row column = tt

after_cell : (first size n : ℕ) (place : Option ℕ) → first + size ≤ n → NumberBelow size place → NumberBelow n (option_map (λ offset. first + offset) place)
after_cell first size n None le h = tt
after_cell first size n (Some place) le h = omega (arith, le, h)

scalar_size : (dims : Dims) → HasShape dims 0 → size_of dims ≡ 1
scalar_size Scalar shape = refl
scalar_size (Row count) shape = elim shape [ ]
scalar_size (Grid rows columns) shape = elim shape [ ]

module _ (p : Program) (well : IsWellFormed p) (cells : List ℤ) (enough : length cells ≡ cell_count p) where
  -- all accesses so far may be made
  abbrev Fine : Store → Type 0
  Fine s = MayAll list_ways cells s.accesses

  abbrev GivenFine : {A : Type 0} → Given A → Type 0
  GivenFine (gives value s) = Fine s
  GivenFine (faults cause place s) = Fine s

  abbrev FlowFine : Flow → Type 0
  FlowFine (goes s) = Fine s
  FlowFine (returns value s) = Fine s
  FlowFine (fails cause place s) = Fine s
  FlowFine (stops operation positions s) = Fine s

  abbrev NumberFine : Option ℕ → Type 0
  NumberFine number = NumberBelow (length cells) number

  cell_fine_by : (cell : ℕ) (found : Option CellDecl) → slice_get p.cells cell ≡ found → TakesIndexes found 0 → first_of found < length cells
  cell_fine_by cell None is takes = absurd takes
  cell_fine_by cell (Some decl) is takes =
      let before = cells_before p.cells 0 cell decl well.numbered is in let size = scalar_size decl.dims takes in
      omega (arith, before, size, enough)

  cell_fine : (cell : ℕ) → TakesIndexes (slice_get p.cells cell) 0 → cell_number p cell < length cells
  cell_fine cell takes = cell_fine_by cell (slice_get p.cells cell) refl takes

  element_fine_by : (array : ℕ) (index : ℤ) (found : Option CellDecl) → slice_get p.cells array ≡ found → NumberFine (element_of found index)
  element_fine_by array index None is = tt
  element_fine_by array index (Some decl) is =
      let before = cells_before p.cells 0 array decl well.numbered is in
      after_cell decl.first (size_of decl.dims) (length cells) (in_row decl.dims index) (omega (arith, before, enough)) (row_fine decl.dims index)

  grid_element_fine_by : (array : ℕ) (row column : ℤ) (found : Option CellDecl) → slice_get p.cells array ≡ found → NumberFine (grid_element_of found row column)
  grid_element_fine_by array row column None is = tt
  grid_element_fine_by array row column (Some decl) is =
      let before = cells_before p.cells 0 array decl well.numbered is in
      after_cell decl.first (size_of decl.dims) (length cells) (in_grid decl.dims row column) (omega (arith, before, enough)) (grid_fine decl.dims row column)

  read_fine : (number : Option ℕ) (missing : FaultCause) (place : Place) (s : Store) → NumberFine number → Fine s → GivenFine (element_read number missing place s)
  read_fine None missing place s n h = h
  read_fine (Some cell) missing place s n h = (n, h)

  written_fine : (number : Option ℕ) (missing : FaultCause) (value : ℤ) (place : Place) (s : Store) → NumberFine number → Fine s → FlowFine (element_written number missing value place s)
  written_fine None missing value place s n h = h
  written_fine (Some cell) missing value place s n h = (n, h)

  give_fine : {A B : Type 0} (g : Given A) (next : A → Store → Given B) → GivenFine g → ((value : A) (s : Store) → Fine s → GivenFine (next value s)) → GivenFine (then_give g next)
  give_fine (gives value s) next h k = k value s h
  give_fine (faults cause place s) next h k = h

  do_fine : {A : Type 0} (g : Given A) (next : A → Store → Flow) → GivenFine g → ((value : A) (s : Store) → Fine s → FlowFine (next value s)) → FlowFine (then_do g next)
  do_fine (gives value s) next h k = k value s h
  do_fine (faults cause place s) next h k = h

  go_fine : (f : Flow) (next : Store → Flow) → FlowFine f → ((s : Store) → Fine s → FlowFine (next s)) → FlowFine (then_go f next)
  go_fine (goes s) next h k = k s h
  go_fine (returns value s) next h k = h
  go_fine (fails cause place s) next h k = h
  go_fine (stops operation positions s) next h k = h

  stopped_fine : (block after : ℕ) (f : Flow) → FlowFine f → FlowFine (stopped_at block after f)
  stopped_fine block after (goes s) h = h
  stopped_fine block after (returns value s) h = h
  stopped_fine block after (fails cause place s) h = h
  stopped_fine block after (stops operation positions s) h = h

  unit_fine : (fuel : ℕ) (place : Place) (s : Store) → Fine s → GivenFine (unit_of fuel place s)
  unit_fine zero place s h = h
  unit_fine (suc left) place s h = h

  fault_fine : (value : Option ℤ) (place : Place) (s : Store) → Fine s → GivenFine (value_or_fault value place s)
  fault_fine None place s h = h
  fault_fine (Some value) place s h = h

  right_fine : (d : Option ℤ) (op : BinOp) (left : ℤ) (place : Place) (right : Given ℤ) (s : Store) → Fine s → GivenFine right → GivenFine (right_given d op left place right s)
  right_fine (Some value) op left place right s h r = h
  right_fine None op left place right s h r = give_fine right _ r (λ value s1 h1. fault_fine (operated op left value) place s1 h1)

  back_fine : (vars : List ℤ) (f : Flow) → FlowFine f → GivenFine (given_back vars f)
  back_fine vars (goes s) h = h
  back_fine vars (returns value s) h = h
  back_fine vars (fails cause place s) h = h
  back_fine vars (stops operation positions s) h = h

  -- the body of a method fits
  method_fits : (methods : List Decl) (method : ℕ) → AllByRecursion (MethodFits p) methods → (scope : Scope) × (scope.cells ≡ p.cells) × StatementsFit scope (body_of (slice_get methods method))
  method_fits [] method fits = (record { cells = p.cells; methods = p.methods; tasks = p.tasks; vars = 0; futures = []; int = false }, refl, tt)
  method_fits (decl ∷ methods) zero fits = (scope_of p decl, refl, fits.0.fits.body)
  method_fits (decl ∷ methods) (suc method) fits = method_fits methods method fits.1

  abbrev BelowFine : Below → Type 0
  BelowFine below = (scope : Scope) → scope.cells ≡ p.cells → (stmt : Statement) → StatementFits scope stmt → (s : Store) → Fine s → FlowFine (below stmt s)

  module _ (below : Below) (fine : BelowFine below) where
    entered_fine : (full : Bool) (method : ℕ) (args : List ℤ) (call : ActiveCall) (s : Store) → Fine s → GivenFine (entered full below (slice_get p.methods method) args call s)
    entered_fine true method args call s h = h
    entered_fine false method args call s h =
        let m = method_fits p.methods method well.methods in
        let decl = slice_get p.methods method in
        let inside : Store = record s { vars = vars_at_start decl args; calls = call ∷ s.calls } in
        back_fine s.vars (below (Block 0 (body_of decl)) inside) (fine m.0 m.1 (Block 0 (body_of decl)) m.2 inside h)

    called_fine : (method : ℕ) (args : List ℤ) (place : Place) (s : Store) → Fine s → GivenFine (called below p method args place s)
    called_fine method args place s h = give_fine (unit_taken place s) _ (unit_fine s.fuel place s h) (λ unit s1 h1. entered_fine (nat_le max_active_calls (length s1.calls)) method args (record { method = method; place = place }) s1 h1)

    module _ (scope : Scope) (of_p : scope.cells ≡ p.cells) where
      takes_of : (cell count : ℕ) → TakesIndexes (slice_get scope.cells cell) count → TakesIndexes (slice_get p.cells cell) count
      takes_of cell count takes = subst (λ (d : List CellDecl). TakesIndexes (slice_get d cell) count) of_p takes

      mutual
        value_fine : (e : Expression) → ExpressionFits scope e → (s : Store) → Fine s → GivenFine (value_of below p e s)
        value_fine (Literal value) fits s h = h
        value_fine (Truth value) fits s h = h
        value_fine (Variable var fixed) fits s h = h
        value_fine (CellValue cell place) fits s h = (cell_fine cell (takes_of cell 0 fits), h)
        value_fine (ArrayElement array index place) fits s h =
            give_fine (value_of below p index s) _ (value_fine index fits.1 s h) (λ i s1 h1. read_fine (element_number p array i) (Index i) place s1 (element_fine_by array i (slice_get p.cells array) refl) h1)
        value_fine (GridElement array row column place) fits s h =
            give_fine (value_of below p row s) _ (value_fine row fits.1 s h) (λ i s1 h1. give_fine (value_of below p column s1) _ (value_fine column fits.2 s1 h1)
            (λ j s2 h2. read_fine (grid_element_number p array i j) (GridIndex i j) place s2 (grid_element_fine_by array i j (slice_get p.cells array) refl) h2))
        value_fine (CallValue method args place) fits s h =
            give_fine (values_of below p args s) _ (values_fine args fits.2 s h) (λ vs s1 h1. called_fine method vs place s1 h1)
        value_fine (Negative operand) fits s h = give_fine (value_of below p operand s) _ (value_fine operand fits s h) (λ v s1 h1. h1)
        value_fine (Negation operand) fits s h = give_fine (value_of below p operand s) _ (value_fine operand fits s h) (λ v s1 h1. h1)
        value_fine (Binary op left right place) fits s h =
            give_fine (value_of below p left s) _ (value_fine left fits.0 s h) (λ x s1 h1. right_fine (decided op (is_true x)) op x place (value_of below p right s1) s1 h1 (value_fine right fits.1 s1 h1))

        values_fine : (args : Arguments) → ArgumentsFit scope args → (s : Store) → Fine s → GivenFine (values_of below p args s)
        values_fine exprs.no_more fits s h = h
        values_fine (argument first others) fits s h =
            give_fine (value_of below p first s) _ (value_fine first fits.0 s h) (λ v s1 h1. give_fine (values_of below p others s1) _ (values_fine others fits.1 s1 h1) (λ vs s2 h2. h2))

      turned_fine : (yes : Bool) (place : Place) (body again : Store → Flow) (s : Store) → Fine s → ((s1 : Store) → Fine s1 → FlowFine (body s1)) → ((s1 : Store) → Fine s1 → FlowFine (again s1)) → FlowFine (turned yes place body again s)
      turned_fine false place body again s h b a = h
      turned_fine true place body again s h b a = do_fine (unit_taken place s) _ (unit_fine s.fuel place s h) (λ unit s1 h1. go_fine (body s1) again (b s1 h1) a)

      chosen_fine : (yes : Bool) (first second : Flow) → FlowFine first → FlowFine second → FlowFine (chosen yes first second)
      chosen_fine true first second a b = a
      chosen_fine false first second a b = b

      mutual
        statement_fine : (stmt : Statement) → StatementFits scope stmt → (s : Store) → Fine s → FlowFine (done_by below p stmt s)
        statement_fine (Block point body) fits s h = all_fine body fits 0 0 s h
        statement_fine (Let point var value) fits s h = do_fine (value_of below p value s) _ (value_fine value fits.1 s h) (λ v s1 h1. h1)
        statement_fine (Set point var value) fits s h = do_fine (value_of below p value s) _ (value_fine value fits.1 s h) (λ v s1 h1. h1)
        statement_fine (SetCell point cell value place) fits s h =
            do_fine (value_of below p value s) _ (value_fine value fits.1 s h) (λ v s1 h1. (cell_fine cell (takes_of cell 0 fits.0), h1))
        statement_fine (SetArray point array index value place) fits s h =
            do_fine (value_of below p index s) _ (value_fine index fits.1 s h) (λ i s1 h1. do_fine (value_of below p value s1) _ (value_fine value fits.2 s1 h1)
            (λ v s2 h2. written_fine (element_number p array i) (Index i) v place s2 (element_fine_by array i (slice_get p.cells array) refl) h2))
        statement_fine (SetGrid point array row column value place) fits s h =
            do_fine (value_of below p row s) _ (value_fine row fits.1 s h) (λ i s1 h1. do_fine (value_of below p column s1) _ (value_fine column fits.2 s1 h1)
            (λ j s2 h2. do_fine (value_of below p value s2) _ (value_fine value fits.3 s2 h2)
            (λ v s3 h3. written_fine (grid_element_number p array i j) (GridIndex i j) v place s3 (grid_element_fine_by array i j (slice_get p.cells array) refl) h3)))
        statement_fine (If point arms) fits s h = arms_fine arms fits 0 s h
        statement_fine (While point condition body place) fits s h =
            do_fine (value_of below p condition s) _ (value_fine condition fits.0 s h) (λ v s1 h1. turned_fine (is_true v) place (done_all below p 0 0 body) (below (While point condition body place)) s1 h1
            (λ s2 h2. all_fine body fits.1 0 0 s2 h2) (λ s2 h2. fine scope of_p (While point condition body place) fits s2 h2))
        statement_fine (Return point None) fits s h = h
        statement_fine (Return point (Some value)) fits s h = do_fine (value_of below p value s) _ (value_fine value fits.1 s h) (λ v s1 h1. h1)
        statement_fine (Print point value place) fits s h =
            do_fine (value_of below p value s) _ (value_fine value fits s h) (λ v s1 h1. do_fine (unit_taken place s1) _ (unit_fine s1.fuel place s1 h1) (λ unit s2 h2. h2))
        statement_fine (Call point method args place) fits s h =
            do_fine (values_of below p args s) _ (values_fine args fits.1 s h) (λ vs s1 h1. do_fine (called below p method vs place s1) _ (called_fine method vs place s1 h1) (λ v s2 h2. h2))
        statement_fine (Make point future task args spawned future_place place) fits s h =
            do_fine (values_of below p args s) _ (values_fine args fits.1 s h) (λ vs s1 h1. do_fine (unit_taken place s1) _ (unit_fine s1.fuel place s1 h1) (λ unit s2 h2. h2))
        statement_fine (Wait point future join into place) fits s h = do_fine (unit_taken place s) _ (unit_fine s.fuel place s h) (λ unit s1 h1. h1)

        all_fine : (stmts : Statements) → StatementsFit scope stmts → (block at : ℕ) (s : Store) → Fine s → FlowFine (done_all below p block at stmts s)
        all_fine no_more fits block at s h = h
        all_fine (statement first others) fits block at s h =
            go_fine (stopped_at block (at + 1) (done_by below p first s)) _ (stopped_fine block (at + 1) (done_by below p first s) (statement_fine first fits.0 s h)) (λ s1 h1. all_fine others fits.1 block (at + 1) s1 h1)

        arms_fine : (arms : Arms) → ArmsFit scope arms → (block : ℕ) (s : Store) → Fine s → FlowFine (done_arms below p block arms s)
        arms_fine no_else fits block s h = h
        arms_fine (otherwise body) fits block s h = all_fine body fits block 0 s h
        arms_fine (arm condition body others) fits block s h =
            do_fine (value_of below p condition s) _ (value_fine condition fits.0 s h) (λ v s1 h1. chosen_fine (is_true v) (done_all below p block 0 body s1) (done_arms below p (block + 1) others s1) (all_fine body fits.1 block 0 s1 h1) (arms_fine others fits.2 (block + 1) s1 h1))

      -- what remains of a block fits
      after_fits : (n : ℕ) (stmts : Statements) → StatementsFit scope stmts → StatementsFit scope (after_first n stmts)
      after_fits zero stmts fits = fits
      after_fits (suc n) no_more fits = tt
      after_fits (suc n) (statement first others) fits = after_fits n others fits.1

      abbrev OptionFits : Option Statement → Type 0
      OptionFits None = Unit {0}
      OptionFits (Some stmt) = StatementFits scope stmt

      last_fits : (n : ℕ) (stmts : Statements) → StatementsFit scope stmts → OptionFits (last_of_first n stmts)
      last_fits zero stmts fits = tt
      last_fits (suc n) no_more fits = tt
      last_fits (suc zero) (statement first others) fits = fits.0
      last_fits (suc (suc n)) (statement first others) fits = last_fits (suc n) others fits.1

      branch_fits : (n : ℕ) (arms : Arms) → ArmsFit scope arms → StatementsFit scope (branch_of n arms)
      branch_fits zero (arm condition body others) fits = fits.1
      branch_fits (suc n) (arm condition body others) fits = branch_fits n others fits.2
      branch_fits n (otherwise body) fits = fits
      branch_fits n no_else fits = tt

      block_fits : (n : ℕ) (stmt : Option Statement) → OptionFits stmt → StatementsFit scope (block_of n stmt)
      block_fits n (Some (Block point body)) fits = fits
      block_fits n (Some (While point condition body place)) fits = fits.1
      block_fits n (Some (If point arms)) fits = branch_fits n arms fits
      block_fits n _ fits = tt

      again_fine : (inner : List Position) (stmt : Option Statement) (inside : Flow) → OptionFits stmt → FlowFine inside → FlowFine (turned_again below inner stmt inside)
      again_fine (position ∷ inner) (Some (While point condition body place)) inside fits h =
          go_fine inside _ h (λ s1 h1. fine scope of_p (While point condition body place) fits s1 h1)
      again_fine [] stmt inside fits h = h
      again_fine (position ∷ inner) _ inside fits h = h

      resumed_fine : (positions : List Position) (stmts : Statements) → StatementsFit scope stmts → (s : Store) → Fine s → FlowFine (resumed below p stmts positions s)
      resumed_fine [] stmts fits s h = h
      resumed_fine (position ∷ inner) stmts fits s h =
          let stmt = last_of_first position.after stmts in
          let stmt_fits = last_fits position.after stmts fits in
          let inside = resumed below p (block_of (block_at inner) stmt) inner s in
          let others = after_first position.after stmts in
          go_fine (stopped_at position.block position.after (turned_again below inner stmt inside)) (λ s1. done_all below p position.block position.after others s1)
          (stopped_fine position.block position.after (turned_again below inner stmt inside) (again_fine inner stmt inside stmt_fits
          (resumed_fine inner (block_of (block_at inner) stmt) (block_fits (block_at inner) stmt stmt_fits) s h)))
          (λ s1 h1. all_fine others (after_fits position.after stmts fits) position.block position.after s1 h1)

  within_fine : (n : ℕ) → BelowFine (done_within p n)
  within_fine zero scope of_p stmt fits s h = h
  within_fine (suc n) scope of_p stmt fits s h = statement_fine (done_within p n) (within_fine n) scope of_p stmt fits s h

  task_fits : (tasks : List Decl) (task : ℕ) → AllByRecursion (DeclFits p) tasks → (scope : Scope) × (scope.cells ≡ p.cells) × StatementsFit scope (body_of (slice_get tasks task))
  task_fits [] task fits = (record { cells = p.cells; methods = p.methods; tasks = p.tasks; vars = 0; futures = []; int = false }, refl, tt)
  task_fits (decl ∷ tasks) zero fits = (scope_of p decl, refl, fits.0.body)
  task_fits (decl ∷ tasks) (suc task) fits = task_fits tasks task fits.1

  flow_fine : (frame : Frame) (body : Option OpenBody) (list : List ℤ) → FlowFine (flow_of p frame body list)
  flow_fine frame None list = tt
  flow_fine frame (Some body) list =
      let t = task_fits p.tasks frame.decl well.tasks in
      resumed_fine (done_within p (frame.fuel + 1)) (within_fine (frame.fuel + 1)) t.0 t.1 body.open_blocks (body_of (slice_get p.tasks frame.decl)) t.2 _ tt

  stopped_may : (frame : Frame) (f : Flow) → FlowFine f → MayAll list_ways cells (stopped_by p frame f).accesses
  stopped_may frame (goes s) h = h
  stopped_may frame (returns value s) h = h
  stopped_may frame (fails cause place s) h = h
  stopped_may frame (stops operation positions s) h = h

  pub may_carry_out : (frame : Frame) → MayCarryOut p list_ways frame cells
  may_carry_out frame list = stopped_may frame (flow_of p frame frame.body list) (flow_fine frame frame.body list)
