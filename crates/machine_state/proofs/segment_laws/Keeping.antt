-- What is carried out keeps the number of the cells, and only takes fuel.
use Rattle.std.proofs.Common.{◌≡◌, ◌<◌, ◌≤◌, ◌+◌, ℕ, zero, suc, ℤ, Bool, true, false, List, [], ◌∷◌, length, Option, None, Some, ◌∙◌, arith}
use Rattle.std.specs.Prelude.{nat_le, slice_get, slice_set}
use Rattle.std.proofs.lemmas.List.{length-set}
use Rattle.twe_base.specs.declared.place.Place.{Place}
use Rattle.twe_ast.specs.declared.expr.BinOp.{BinOp}
use Rattle.twe_base.specs.Language.{max_active_calls}
use Rattle.twe_program.specs.declared.program.Decl.{Decl}
use Rattle.twe_program.specs.Program.{Program}
use Rattle.twe_program.specs.Expression.{Expression, Literal, Truth, Variable, CellValue, ArrayElement, GridElement, CallValue, Negative, Negation, Binary, Arguments, argument}
use Rattle.twe_program.specs.Expression as exprs
use Rattle.twe_program.specs.Statement.{Statement, Block, Let, Set, SetCell, SetArray, SetGrid, If, While, Return, Print, Call, Make, Wait, Statements, no_more, statement, Arms, arm, otherwise, no_else}
use Rattle.seg_meaning.specs.declared.active.ActiveCall.{ActiveCall}
use Rattle.seg_meaning.specs.declared.frame.Position.{Position}
use Rattle.seg_meaning.specs.Arithmetic.{is_true, operated, decided}
use Rattle.seg_meaning.specs.Cells.{element_number, grid_element_number}
use Rattle.seg_meaning.specs.Store.{Store, Given, gives, faults, Flow, goes, returns, fails, stops, then_give, then_do, then_go, unit_taken, unit_of}
use Rattle.seg_meaning.specs.declared.fault.FaultCause.{FaultCause}
use Rattle.seg_meaning.specs.declared.fault.FaultCause.TheVariants.{Index, GridIndex}
use Rattle.seg_meaning.specs.Meaning.{Below, element_read, element_written, value_or_fault, right_given, body_of, vars_at_start, given_back, entered, called, value_of, values_of, turned, chosen, stopped_at, done_by, done_all, done_arms, done_within}
use Rattle.seg_meaning.specs.Remaining.{after_first, last_of_first, block_of, block_at, turned_again, resumed}

module _ (p : Program) (count limit : ℕ) where
  -- so many cells, and no more fuel than this; where a task operation was reached, less
  abbrev pub Kept : Store → Type 0
  Kept s = (length s.cells ≡ count) × (s.fuel ≤ limit)

  abbrev pub Taken : Store → Type 0
  Taken s = (length s.cells ≡ count) × (s.fuel < limit)

  abbrev pub GivenKept : {A : Type 0} → Given A → Type 0
  GivenKept (gives value s) = Kept s
  GivenKept (faults kind place s) = Kept s

  abbrev pub FlowKept : Flow → Type 0
  FlowKept (goes s) = Kept s
  FlowKept (returns value s) = Kept s
  FlowKept (fails kind place s) = Kept s
  FlowKept (stops operation positions s) = Taken s

  give_kept : {A B : Type 0} (g : Given A) (next : A → Store → Given B) → GivenKept g → ((value : A) (s : Store) → Kept s → GivenKept (next value s)) → GivenKept (then_give g next)
  give_kept (gives value s) next h k = k value s h
  give_kept (faults kind place s) next h k = h

  do_kept : {A : Type 0} (g : Given A) (next : A → Store → Flow) → GivenKept g → ((value : A) (s : Store) → Kept s → FlowKept (next value s)) → FlowKept (then_do g next)
  do_kept (gives value s) next h k = k value s h
  do_kept (faults kind place s) next h k = h

  go_kept : (f : Flow) (next : Store → Flow) → FlowKept f → ((s : Store) → Kept s → FlowKept (next s)) → FlowKept (then_go f next)
  go_kept (goes s) next h k = k s h
  go_kept (returns value s) next h k = h
  go_kept (fails kind place s) next h k = h
  go_kept (stops operation positions s) next h k = h

  stopped_kept : (block after : ℕ) (f : Flow) → FlowKept f → FlowKept (stopped_at block after f)
  stopped_kept block after (goes s) h = h
  stopped_kept block after (returns value s) h = h
  stopped_kept block after (fails kind place s) h = h
  stopped_kept block after (stops operation positions s) h = h

  unit_kept : (fuel : ℕ) (place : Place) (s : Store) → fuel ≤ limit → Kept s → GivenKept (unit_of fuel place s)
  unit_kept zero place s le h = h
  unit_kept (suc left) place s le h = (h.0, omega (arith, le))

  -- with a unit of fuel taken
  taken_kept : (fuel : ℕ) (place : Place) (s : Store) (next : Unit {0} → Store → Flow) → fuel ≤ limit → Kept s
      → ((unit : Unit {0}) (s1 : Store) → Taken s1 → FlowKept (next unit s1)) → FlowKept (then_do (unit_of fuel place s) next)
  taken_kept zero place s next le h k = h
  taken_kept (suc left) place s next le h k = k tt (record s { fuel = left }) (h.0, omega (arith, le))

  set_kept : (s : Store) (cell : ℕ) (value : ℤ) → Kept s → length (slice_set s.cells cell value) ≡ count
  set_kept s cell value h = length-set s.cells cell value ∙ h.0

  read_kept : (number : Option ℕ) (missing : FaultCause) (place : Place) (s : Store) → Kept s → GivenKept (element_read number missing place s)
  read_kept None missing place s h = h
  read_kept (Some cell) missing place s h = h

  written_kept : (number : Option ℕ) (missing : FaultCause) (value : ℤ) (place : Place) (s : Store) → Kept s → FlowKept (element_written number missing value place s)
  written_kept None missing value place s h = h
  written_kept (Some cell) missing value place s h = (set_kept s cell value h, h.1)

  fault_kept : (value : Option ℤ) (place : Place) (s : Store) → Kept s → GivenKept (value_or_fault value place s)
  fault_kept None place s h = h
  fault_kept (Some value) place s h = h

  right_kept : (d : Option ℤ) (op : BinOp) (left : ℤ) (place : Place) (right : Given ℤ) (s : Store) → Kept s → GivenKept right → GivenKept (right_given d op left place right s)
  right_kept (Some value) op left place right s h r = h
  right_kept None op left place right s h r = give_kept right _ r (λ value s1 h1. fault_kept (operated op left value) place s1 h1)

  back_kept : (vars : List ℤ) (f : Flow) → FlowKept f → GivenKept (given_back vars f)
  back_kept vars (goes s) h = h
  back_kept vars (returns value s) h = h
  back_kept vars (fails kind place s) h = h
  back_kept vars (stops operation positions s) h = (h.0, omega (arith, h.1))

  abbrev pub BelowKept : Below → Type 0
  BelowKept below = (stmt : Statement) (s : Store) → Kept s → FlowKept (below stmt s)

  module _ (below : Below) (keeps : BelowKept below) where
    entered_kept : (full : Bool) (decl : Option Decl) (args : List ℤ) (call : ActiveCall) (s : Store) → Kept s → GivenKept (entered full below decl args call s)
    entered_kept true decl args call s h = h
    entered_kept false decl args call s h =
        let inside : Store = record s { vars = vars_at_start decl args; calls = call ∷ s.calls } in
        back_kept s.vars (below (Block 0 (body_of decl)) inside) (keeps (Block 0 (body_of decl)) inside h)

    called_kept : (method : ℕ) (args : List ℤ) (place : Place) (s : Store) → Kept s → GivenKept (called below p method args place s)
    called_kept method args place s h =
        give_kept (unit_taken place s) _ (unit_kept s.fuel place s h.1 h) (λ unit s1 h1. entered_kept (nat_le max_active_calls (length s1.calls)) (slice_get p.methods method) args (record { method = method; place = place }) s1 h1)

    mutual
      value_kept : (e : Expression) (s : Store) → Kept s → GivenKept (value_of below p e s)
      value_kept (Literal value) s h = h
      value_kept (Truth value) s h = h
      value_kept (Variable var fixed) s h = h
      value_kept (CellValue cell place) s h = h
      value_kept (ArrayElement array index place) s h =
          give_kept (value_of below p index s) _ (value_kept index s h) (λ i s1 h1. read_kept (element_number p array i) (Index i) place s1 h1)
      value_kept (GridElement array row column place) s h =
          give_kept (value_of below p row s) _ (value_kept row s h) (λ i s1 h1. give_kept (value_of below p column s1) _ (value_kept column s1 h1)
          (λ j s2 h2. read_kept (grid_element_number p array i j) (GridIndex i j) place s2 h2))
      value_kept (CallValue method args place) s h =
          give_kept (values_of below p args s) _ (values_kept args s h) (λ vs s1 h1. called_kept method vs place s1 h1)
      value_kept (Negative operand) s h = give_kept (value_of below p operand s) _ (value_kept operand s h) (λ v s1 h1. h1)
      value_kept (Negation operand) s h = give_kept (value_of below p operand s) _ (value_kept operand s h) (λ v s1 h1. h1)
      value_kept (Binary op left right place) s h =
          give_kept (value_of below p left s) _ (value_kept left s h) (λ x s1 h1. right_kept (decided op (is_true x)) op x place (value_of below p right s1) s1 h1 (value_kept right s1 h1))

      values_kept : (args : Arguments) (s : Store) → Kept s → GivenKept (values_of below p args s)
      values_kept exprs.no_more s h = h
      values_kept (argument first others) s h =
          give_kept (value_of below p first s) _ (value_kept first s h) (λ v s1 h1. give_kept (values_of below p others s1) _ (values_kept others s1 h1) (λ vs s2 h2. h2))

    turned_kept : (yes : Bool) (place : Place) (body next : Store → Flow) (s : Store) → Kept s → ((s1 : Store) → Kept s1 → FlowKept (body s1)) → ((s1 : Store) → Kept s1 → FlowKept (next s1)) → FlowKept (turned yes place body next s)
    turned_kept false place body next s h b a = h
    turned_kept true place body next s h b a = do_kept (unit_taken place s) _ (unit_kept s.fuel place s h.1 h) (λ unit s1 h1. go_kept (body s1) next (b s1 h1) a)

    chosen_kept : (yes : Bool) (first second : Flow) → FlowKept first → FlowKept second → FlowKept (chosen yes first second)
    chosen_kept true first second a b = a
    chosen_kept false first second a b = b

    mutual
      statement_kept : (stmt : Statement) (s : Store) → Kept s → FlowKept (done_by below p stmt s)
      statement_kept (Block point body) s h = all_kept body 0 0 s h
      statement_kept (Let point var value) s h = do_kept (value_of below p value s) _ (value_kept value s h) (λ v s1 h1. h1)
      statement_kept (Set point var value) s h = do_kept (value_of below p value s) _ (value_kept value s h) (λ v s1 h1. h1)
      statement_kept (SetCell point cell value place) s h =
          do_kept (value_of below p value s) _ (value_kept value s h) (λ v s1 h1. (set_kept s1 _ v h1, h1.1))
      statement_kept (SetArray point array index value place) s h =
          do_kept (value_of below p index s) _ (value_kept index s h) (λ i s1 h1. do_kept (value_of below p value s1) _ (value_kept value s1 h1)
          (λ v s2 h2. written_kept (element_number p array i) (Index i) v place s2 h2))
      statement_kept (SetGrid point array row column value place) s h =
          do_kept (value_of below p row s) _ (value_kept row s h) (λ i s1 h1. do_kept (value_of below p column s1) _ (value_kept column s1 h1)
          (λ j s2 h2. do_kept (value_of below p value s2) _ (value_kept value s2 h2) (λ v s3 h3. written_kept (grid_element_number p array i j) (GridIndex i j) v place s3 h3)))
      statement_kept (If point arms) s h = arms_kept arms 0 s h
      statement_kept (While point condition body place) s h =
          do_kept (value_of below p condition s) _ (value_kept condition s h) (λ v s1 h1. turned_kept (is_true v) place (done_all below p 0 0 body) (below (While point condition body place)) s1 h1
          (λ s2 h2. all_kept body 0 0 s2 h2) (λ s2 h2. keeps (While point condition body place) s2 h2))
      statement_kept (Return point None) s h = h
      statement_kept (Return point (Some value)) s h = do_kept (value_of below p value s) _ (value_kept value s h) (λ v s1 h1. h1)
      statement_kept (Print point value place) s h =
          do_kept (value_of below p value s) _ (value_kept value s h) (λ v s1 h1. do_kept (unit_taken place s1) _ (unit_kept s1.fuel place s1 h1.1 h1) (λ unit s2 h2. h2))
      statement_kept (Call point method args place) s h =
          do_kept (values_of below p args s) _ (values_kept args s h) (λ vs s1 h1. do_kept (called below p method vs place s1) _ (called_kept method vs place s1 h1) (λ v s2 h2. h2))
      statement_kept (Make point future task args spawned future_place place) s h =
          do_kept (values_of below p args s) _ (values_kept args s h) (λ vs s1 h1. taken_kept s1.fuel place s1 _ h1.1 h1 (λ unit s2 h2. h2))
      statement_kept (Wait point future join into place) s h = taken_kept s.fuel place s _ h.1 h (λ unit s1 h1. h1)

      all_kept : (stmts : Statements) (block at : ℕ) (s : Store) → Kept s → FlowKept (done_all below p block at stmts s)
      all_kept no_more block at s h = h
      all_kept (statement first others) block at s h =
          go_kept (stopped_at block (at + 1) (done_by below p first s)) _ (stopped_kept block (at + 1) (done_by below p first s) (statement_kept first s h)) (λ s1 h1. all_kept others block (at + 1) s1 h1)

      arms_kept : (arms : Arms) (block : ℕ) (s : Store) → Kept s → FlowKept (done_arms below p block arms s)
      arms_kept no_else block s h = h
      arms_kept (otherwise body) block s h = all_kept body block 0 s h
      arms_kept (arm condition body others) block s h =
          do_kept (value_of below p condition s) _ (value_kept condition s h)
          (λ v s1 h1. chosen_kept (is_true v) (done_all below p block 0 body s1) (done_arms below p (block + 1) others s1) (all_kept body block 0 s1 h1) (arms_kept others (block + 1) s1 h1))

    again_kept : (inner : List Position) (stmt : Option Statement) (inside : Flow) → FlowKept inside → FlowKept (turned_again below inner stmt inside)
    again_kept (position ∷ inner) (Some (While point condition body place)) inside h = go_kept inside _ h (λ s1 h1. keeps (While point condition body place) s1 h1)
    again_kept [] stmt inside h = h
    again_kept (position ∷ inner) _ inside h = h

    pub resumed_kept : (positions : List Position) (stmts : Statements) (s : Store) → Kept s → FlowKept (resumed below p stmts positions s)
    resumed_kept [] stmts s h = h
    resumed_kept (position ∷ inner) stmts s h =
        let stmt = last_of_first position.after stmts in
        let inside = resumed below p (block_of (block_at inner) stmt) inner s in
        let others = after_first position.after stmts in
        go_kept (stopped_at position.block position.after (turned_again below inner stmt inside)) (λ s1. done_all below p position.block position.after others s1)
        (stopped_kept position.block position.after (turned_again below inner stmt inside) (again_kept inner stmt inside (resumed_kept inner (block_of (block_at inner) stmt) s h)))
        (λ s1 h1. all_kept others position.block position.after s1 h1)

  -- whatever the bound
  pub within_kept : (n : ℕ) → BelowKept (done_within p n)
  within_kept zero stmt s h = h
  within_kept (suc n) stmt s h = statement_kept (done_within p n) (within_kept n) stmt s h
