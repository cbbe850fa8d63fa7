-- A segment is determined by what it reads: over another list of cells that agrees with its accesses it is the same.
use Rattle.std.proofs.Common.{◌≡◌, ℕ, zero, suc, ◌+◌, ℤ, Bool, true, false, List, [], ◌∷◌, length, Option, None, Some, refl, sym, ap, ◌∙◌}
use Rattle.std.specs.Prelude.{nat_le, slice_get, slice_set}
use Rattle.twe_base.specs.declared.place.Place.{Place}
use Rattle.twe_base.specs.Language.{max_active_calls}
use Rattle.twe_ast.specs.declared.expr.BinOp.{BinOp}
use Rattle.twe_program.specs.declared.program.Decl.{Decl}
use Rattle.twe_program.specs.Expression.{Expression, Literal, Truth, Variable, CellValue, ArrayElement, GridElement, CallValue, Negative, Negation, Binary, Arguments, argument}
use Rattle.twe_program.specs.Expression as exprs
use Rattle.twe_program.specs.Program.{Program}
use Rattle.twe_program.specs.Statement.{Statement, Block, Let, Set, SetCell, SetArray, SetGrid, If, While, Return, Print, Call, Make, Wait, Statements, no_more, statement, Arms, arm, otherwise, no_else}
use Rattle.seg_meaning.specs.declared.active.ActiveCall.{ActiveCall}
use Rattle.seg_meaning.specs.declared.fault.FaultCause.{FaultCause}
use Rattle.seg_meaning.specs.declared.fault.FaultCause.TheVariants.{Index, GridIndex}
use Rattle.seg_meaning.specs.declared.frame.Frame.{Frame}
use Rattle.seg_meaning.specs.declared.frame.OpenBody.{OpenBody}
use Rattle.seg_meaning.specs.declared.frame.Position.{Position}
use Rattle.seg_meaning.specs.Access.{Reads, Agrees, after, value_in}
use Rattle.seg_meaning.specs.Arithmetic.{is_true, operated, decided}
use Rattle.seg_meaning.specs.Cells.{cell_number, element_number, grid_element_number}
use Rattle.seg_meaning.specs.Meaning.{Below, element_read, element_written, value_or_fault, right_given, body_of, vars_at_start, given_back, entered, called, value_of, values_of, turned, chosen, stopped_at, done_by, done_all, done_arms, done_within}
use Rattle.seg_meaning.specs.Remaining.{after_first, last_of_first, block_of, block_at, turned_again, resumed}
use Rattle.seg_meaning.specs.Segment.{AgreesWithItself, Stopped, flow_of, segment, stopped_by, store_at}
use Rattle.seg_meaning.specs.Store.{Store, Given, gives, faults, Flow, goes, returns, fails, stops, then_give, then_do, then_go, unit_taken, unit_of, cell_read, cell_written}

-- the store at the end
abbrev given_store : {A : Type 0} → Given A → Store
given_store (gives value s) = s
given_store (faults cause place s) = s

abbrev flow_store : Flow → Store
flow_store (goes s) = s
flow_store (returns value s) = s
flow_store (fails cause place s) = s
flow_store (stops operation positions s) = s

module _ (cells other : List ℤ) where
  -- the accesses so far agree with the list `cells`, and make the cells of the store of it
  abbrev IsOwn : Store → Type 0
  IsOwn s = Agrees cells s.accesses × (s.cells ≡ after cells s.accesses)

  -- the accesses so far agree with the list `other`
  abbrev AgreesOther : Store → Type 0
  AgreesOther s = Agrees other s.accesses

  -- the same over the list `other`: its cells are those that the accesses make of that list
  abbrev store_there : Store → Store
  store_there s = record s { cells = after other s.accesses }

  abbrev given_there : {A : Type 0} → Given A → Given A
  given_there (gives value s) = gives value (store_there s)
  given_there (faults cause place s) = faults cause place (store_there s)

  abbrev flow_there : Flow → Flow
  flow_there (goes s) = goes (store_there s)
  flow_there (returns value s) = returns value (store_there s)
  flow_there (fails cause place s) = fails cause place (store_there s)
  flow_there (stops operation positions s) = stops operation positions (store_there s)

  -- from one store the accesses go on to another
  abbrev GoesOn : Store → Store → Type 0
  GoesOn s s1 = (IsOwn s → IsOwn s1) × (AgreesOther s1 → AgreesOther s)

  -- from a store the accesses go on to the end, and over the list `other` it ends the same
  abbrev GivenAlike : {A : Type 0} → Store → Given A → Given A → Type 0
  GivenAlike s g h = GoesOn s (given_store g) × (AgreesOther (given_store g) → h ≡ given_there g)

  abbrev FlowAlike : Store → Flow → Flow → Type 0
  FlowAlike s f g = GoesOn s (flow_store f) × (AgreesOther (flow_store f) → g ≡ flow_there f)

  -- nothing more is accessed
  no_more_access : (s : Store) → GoesOn s s
  no_more_access s = (λ own. own, λ agrees. agrees)

  on_and_on : (s s1 s2 : Store) → GoesOn s s1 → GoesOn s1 s2 → GoesOn s s2
  on_and_on s s1 s2 first second = (λ own. second.0 (first.0 own), λ agrees. first.1 (second.1 agrees))

  -- one after another
  give_alike : {A B : Type 0} (s : Store) (g h : Given A) (next : A → Store → Given B) → GivenAlike s g h
      → ((value : A) (s1 : Store) → GivenAlike s1 (next value s1) (next value (store_there s1))) → GivenAlike s (then_give g next) (then_give h next)
  give_alike {A} {B} s (gives value s1) h next first k =
      let second = k value s1 in (
        on_and_on s s1 (given_store (next value s1)) first.0 second.0,
        λ agrees. ap (λ (x : Given A). then_give x next) (first.1 (second.0.1 agrees)) ∙ second.1 agrees,
      )
  give_alike {A} {B} s (faults cause place s1) h next first k = (first.0, λ agrees. ap (λ (x : Given A). then_give x next) (first.1 agrees))

  do_alike : {A : Type 0} (s : Store) (g h : Given A) (next : A → Store → Flow) → GivenAlike s g h
      → ((value : A) (s1 : Store) → FlowAlike s1 (next value s1) (next value (store_there s1))) → FlowAlike s (then_do g next) (then_do h next)
  do_alike {A} s (gives value s1) h next first k =
      let second = k value s1 in (
        on_and_on s s1 (flow_store (next value s1)) first.0 second.0,
        λ agrees. ap (λ (x : Given A). then_do x next) (first.1 (second.0.1 agrees)) ∙ second.1 agrees,
      )
  do_alike {A} s (faults cause place s1) h next first k = (first.0, λ agrees. ap (λ (x : Given A). then_do x next) (first.1 agrees))

  go_alike : (s : Store) (f g : Flow) (next : Store → Flow) → FlowAlike s f g
      → ((s1 : Store) → FlowAlike s1 (next s1) (next (store_there s1))) → FlowAlike s (then_go f next) (then_go g next)
  go_alike s (goes s1) g next first k =
      let second = k s1 in (
        on_and_on s s1 (flow_store (next s1)) first.0 second.0,
        λ agrees. ap (λ (x : Flow). then_go x next) (first.1 (second.0.1 agrees)) ∙ second.1 agrees,
      )
  go_alike s (returns value s1) g next first k = (first.0, λ agrees. ap (λ (x : Flow). then_go x next) (first.1 agrees))
  go_alike s (fails cause place s1) g next first k = (first.0, λ agrees. ap (λ (x : Flow). then_go x next) (first.1 agrees))
  go_alike s (stops operation positions s1) g next first k = (first.0, λ agrees. ap (λ (x : Flow). then_go x next) (first.1 agrees))

  -- the access of a cell
  cell_alike : (cell : ℕ) (s : Store) → GivenAlike s (cell_read cell s) (cell_read cell (store_there s))
  cell_alike cell s =
      let value = value_in (slice_get s.cells cell) in (
        (λ own. ((own.0, ap (λ (now : List ℤ). value_in (slice_get now cell)) (sym own.1)), own.1), λ agrees. agrees.0),
        λ agrees. ap (λ (v : ℤ). gives v (record (store_there s) { accesses = Reads cell v ∷ s.accesses })) agrees.1,
      )

  write_alike : (cell : ℕ) (value : ℤ) (s : Store) → FlowAlike s (goes (cell_written cell value s)) (goes (cell_written cell value (store_there s)))
  write_alike cell value s =
      ((λ own. (own.0, ap (λ (now : List ℤ). slice_set now cell value) own.1), λ agrees. agrees), λ agrees. refl)

  read_alike : (number : Option ℕ) (missing : FaultCause) (place : Place) (s : Store) → GivenAlike s (element_read number missing place s) (element_read number missing place (store_there s))
  read_alike None missing place s = (no_more_access s, λ agrees. refl)
  read_alike (Some cell) missing place s = cell_alike cell s

  written_alike : (number : Option ℕ) (missing : FaultCause) (value : ℤ) (place : Place) (s : Store)
      → FlowAlike s (element_written number missing value place s) (element_written number missing value place (store_there s))
  written_alike None missing value place s = (no_more_access s, λ agrees. refl)
  written_alike (Some cell) missing value place s = write_alike cell value s

  -- what accesses nothing
  unit_alike : (fuel : ℕ) (place : Place) (s : Store) → GivenAlike s (unit_of fuel place s) (unit_of fuel place (store_there s))
  unit_alike zero place s = (no_more_access s, λ agrees. refl)
  unit_alike (suc left) place s = (no_more_access s, λ agrees. refl)

  operated_alike : (value : Option ℤ) (place : Place) (s : Store) → GivenAlike s (value_or_fault value place s) (value_or_fault value place (store_there s))
  operated_alike None place s = (no_more_access s, λ agrees. refl)
  operated_alike (Some value) place s = (no_more_access s, λ agrees. refl)

  right_alike : (d : Option ℤ) (op : BinOp) (left : ℤ) (place : Place) (right right' : Given ℤ) (s : Store) → GivenAlike s right right'
      → GivenAlike s (right_given d op left place right s) (right_given d op left place right' (store_there s))
  right_alike (Some value) op left place right right' s alike = (no_more_access s, λ agrees. refl)
  right_alike None op left place right right' s alike = give_alike s right right' _ alike (λ value s1. operated_alike (operated op left value) place s1)

  back_alike : (vars : List ℤ) (s : Store) (f g : Flow) → FlowAlike s f g → GivenAlike s (given_back vars f) (given_back vars g)
  back_alike vars s (goes s1) g alike = (alike.0, λ agrees. ap (given_back vars) (alike.1 agrees))
  back_alike vars s (returns value s1) g alike = (alike.0, λ agrees. ap (given_back vars) (alike.1 agrees))
  back_alike vars s (fails cause place s1) g alike = (alike.0, λ agrees. ap (given_back vars) (alike.1 agrees))
  back_alike vars s (stops operation positions s1) g alike = (alike.0, λ agrees. ap (given_back vars) (alike.1 agrees))

  stopped_alike : (block after : ℕ) (s : Store) (f g : Flow) → FlowAlike s f g → FlowAlike s (stopped_at block after f) (stopped_at block after g)
  stopped_alike block after s (goes s1) g alike = (alike.0, λ agrees. ap (stopped_at block after) (alike.1 agrees))
  stopped_alike block after s (returns value s1) g alike = (alike.0, λ agrees. ap (stopped_at block after) (alike.1 agrees))
  stopped_alike block after s (fails cause place s1) g alike = (alike.0, λ agrees. ap (stopped_at block after) (alike.1 agrees))
  stopped_alike block after s (stops operation positions s1) g alike = (alike.0, λ agrees. ap (stopped_at block after) (alike.1 agrees))

  turned_alike : (yes : Bool) (place : Place) (body again : Store → Flow) (s : Store)
      → ((s1 : Store) → FlowAlike s1 (body s1) (body (store_there s1))) → ((s1 : Store) → FlowAlike s1 (again s1) (again (store_there s1)))
      → FlowAlike s (turned yes place body again s) (turned yes place body again (store_there s))
  turned_alike false place body again s b a = (no_more_access s, λ agrees. refl)
  turned_alike true place body again s b a =
      do_alike s (unit_taken place s) (unit_taken place (store_there s)) _ (unit_alike s.fuel place s)
      (λ unit s1. go_alike s1 (body s1) (body (store_there s1)) again (b s1) a)

  chosen_alike : (yes : Bool) (s : Store) (first first' second second' : Flow) → FlowAlike s first first' → FlowAlike s second second' → FlowAlike s (chosen yes first second) (chosen yes first' second')
  chosen_alike true s first first' second second' a b = a
  chosen_alike false s first first' second second' a b = b

  abbrev BelowAlike : Below → Type 0
  BelowAlike below = (stmt : Statement) (s : Store) → FlowAlike s (below stmt s) (below stmt (store_there s))

  module _ (p : Program) where
    module _ (below : Below) (alike : BelowAlike below) where
      entered_alike : (full : Bool) (decl : Option Decl) (args : List ℤ) (call : ActiveCall) (s : Store) → GivenAlike s (entered full below decl args call s) (entered full below decl args call (store_there s))
      entered_alike true decl args call s = (no_more_access s, λ agrees. refl)
      entered_alike false decl args call s =
          let inside : Store = record s { vars = vars_at_start decl args; calls = call ∷ s.calls } in
          let body = Block 0 (body_of decl) in
          back_alike s.vars s (below body inside) (below body (store_there inside)) (alike body inside)

      called_alike : (method : ℕ) (args : List ℤ) (place : Place) (s : Store) → GivenAlike s (called below p method args place s) (called below p method args place (store_there s))
      called_alike method args place s =
          give_alike s (unit_taken place s) (unit_taken place (store_there s)) _ (unit_alike s.fuel place s)
          (λ unit s1. entered_alike (nat_le max_active_calls (length s1.calls)) (slice_get p.methods method) args (record { method = method; place = place }) s1)

      mutual
        value_alike : (e : Expression) (s : Store) → GivenAlike s (value_of below p e s) (value_of below p e (store_there s))
        value_alike (Literal value) s = (no_more_access s, λ agrees. refl)
        value_alike (Truth value) s = (no_more_access s, λ agrees. refl)
        value_alike (Variable var fixed) s = (no_more_access s, λ agrees. refl)
        value_alike (CellValue cell place) s = cell_alike (cell_number p cell) s
        value_alike (ArrayElement array index place) s =
            give_alike s (value_of below p index s) (value_of below p index (store_there s)) _ (value_alike index s)
            (λ i s1. read_alike (element_number p array i) (Index i) place s1)
        value_alike (GridElement array row column place) s =
            give_alike s (value_of below p row s) (value_of below p row (store_there s)) _ (value_alike row s) (λ i s1.
            give_alike s1 (value_of below p column s1) (value_of below p column (store_there s1)) _ (value_alike column s1)
            (λ j s2. read_alike (grid_element_number p array i j) (GridIndex i j) place s2))
        value_alike (CallValue method args place) s =
            give_alike s (values_of below p args s) (values_of below p args (store_there s)) _ (values_alike args s) (λ values s1. called_alike method values place s1)
        value_alike (Negative operand) s =
            give_alike s (value_of below p operand s) (value_of below p operand (store_there s)) _ (value_alike operand s) (λ value s1. (no_more_access s1, λ agrees. refl))
        value_alike (Negation operand) s =
            give_alike s (value_of below p operand s) (value_of below p operand (store_there s)) _ (value_alike operand s) (λ value s1. (no_more_access s1, λ agrees. refl))
        value_alike (Binary op left right place) s =
            give_alike s (value_of below p left s) (value_of below p left (store_there s)) _ (value_alike left s) (λ value s1.
            right_alike (decided op (is_true value)) op value place (value_of below p right s1) (value_of below p right (store_there s1)) s1 (value_alike right s1))

        values_alike : (args : Arguments) (s : Store) → GivenAlike s (values_of below p args s) (values_of below p args (store_there s))
        values_alike exprs.no_more s = (no_more_access s, λ agrees. refl)
        values_alike (argument first others) s =
            give_alike s (value_of below p first s) (value_of below p first (store_there s)) _ (value_alike first s) (λ value s1.
            give_alike s1 (values_of below p others s1) (values_of below p others (store_there s1)) _ (values_alike others s1) (λ values s2. (no_more_access s2, λ agrees. refl)))

      mutual
        statement_alike : (stmt : Statement) (s : Store) → FlowAlike s (done_by below p stmt s) (done_by below p stmt (store_there s))
        statement_alike (Block point body) s = all_alike body 0 0 s
        statement_alike (Let point var value) s =
            do_alike s (value_of below p value s) (value_of below p value (store_there s)) _ (value_alike value s) (λ v s1. (no_more_access s1, λ agrees. refl))
        statement_alike (Set point var value) s =
            do_alike s (value_of below p value s) (value_of below p value (store_there s)) _ (value_alike value s) (λ v s1. (no_more_access s1, λ agrees. refl))
        statement_alike (SetCell point cell value place) s =
            do_alike s (value_of below p value s) (value_of below p value (store_there s)) _ (value_alike value s) (λ v s1. write_alike (cell_number p cell) v s1)
        statement_alike (SetArray point array index value place) s =
            do_alike s (value_of below p index s) (value_of below p index (store_there s)) _ (value_alike index s) (λ i s1.
            do_alike s1 (value_of below p value s1) (value_of below p value (store_there s1)) _ (value_alike value s1)
            (λ v s2. written_alike (element_number p array i) (Index i) v place s2))
        statement_alike (SetGrid point array row column value place) s =
            do_alike s (value_of below p row s) (value_of below p row (store_there s)) _ (value_alike row s) (λ i s1.
            do_alike s1 (value_of below p column s1) (value_of below p column (store_there s1)) _ (value_alike column s1) (λ j s2.
            do_alike s2 (value_of below p value s2) (value_of below p value (store_there s2)) _ (value_alike value s2)
            (λ v s3. written_alike (grid_element_number p array i j) (GridIndex i j) v place s3)))
        statement_alike (If point arms) s = arms_alike arms 0 s
        statement_alike (While point condition body place) s =
            let again = While point condition body place in
            do_alike s (value_of below p condition s) (value_of below p condition (store_there s)) _ (value_alike condition s) (λ v s1.
            turned_alike (is_true v) place (done_all below p 0 0 body) (below again) s1 (λ s2. all_alike body 0 0 s2) (λ s2. alike again s2))
        statement_alike (Return point None) s = (no_more_access s, λ agrees. refl)
        statement_alike (Return point (Some value)) s =
            do_alike s (value_of below p value s) (value_of below p value (store_there s)) _ (value_alike value s) (λ v s1. (no_more_access s1, λ agrees. refl))
        statement_alike (Print point value place) s =
            do_alike s (value_of below p value s) (value_of below p value (store_there s)) _ (value_alike value s) (λ v s1.
            do_alike s1 (unit_taken place s1) (unit_taken place (store_there s1)) _ (unit_alike s1.fuel place s1) (λ unit s2. (no_more_access s2, λ agrees. refl)))
        statement_alike (Call point method args place) s =
            do_alike s (values_of below p args s) (values_of below p args (store_there s)) _ (values_alike args s) (λ values s1.
            do_alike s1 (called below p method values place s1) (called below p method values place (store_there s1)) _ (called_alike method values place s1)
            (λ v s2. (no_more_access s2, λ agrees. refl)))
        statement_alike (Make point future task args spawned future_place place) s =
            do_alike s (values_of below p args s) (values_of below p args (store_there s)) _ (values_alike args s) (λ values s1.
            do_alike s1 (unit_taken place s1) (unit_taken place (store_there s1)) _ (unit_alike s1.fuel place s1) (λ unit s2. (no_more_access s2, λ agrees. refl)))
        statement_alike (Wait point future join into place) s =
            do_alike s (unit_taken place s) (unit_taken place (store_there s)) _ (unit_alike s.fuel place s) (λ unit s1. (no_more_access s1, λ agrees. refl))

        all_alike : (stmts : Statements) (block at : ℕ) (s : Store) → FlowAlike s (done_all below p block at stmts s) (done_all below p block at stmts (store_there s))
        all_alike no_more block at s = (no_more_access s, λ agrees. refl)
        all_alike (statement first others) block at s =
            go_alike s (stopped_at block (at + 1) (done_by below p first s)) (stopped_at block (at + 1) (done_by below p first (store_there s))) _
            (stopped_alike block (at + 1) s (done_by below p first s) (done_by below p first (store_there s)) (statement_alike first s))
            (λ s1. all_alike others block (at + 1) s1)

        arms_alike : (arms : Arms) (block : ℕ) (s : Store) → FlowAlike s (done_arms below p block arms s) (done_arms below p block arms (store_there s))
        arms_alike no_else block s = (no_more_access s, λ agrees. refl)
        arms_alike (otherwise body) block s = all_alike body block 0 s
        arms_alike (arm condition body others) block s =
            do_alike s (value_of below p condition s) (value_of below p condition (store_there s)) _ (value_alike condition s) (λ v s1.
            chosen_alike (is_true v) s1 (done_all below p block 0 body s1) (done_all below p block 0 body (store_there s1)) (done_arms below p (block + 1) others s1) (done_arms below p (block + 1) others (store_there s1))
            (all_alike body block 0 s1) (arms_alike others (block + 1) s1))

      -- what remains of a body
      again_alike : (inner : List Position) (stmt : Option Statement) (s : Store) (f g : Flow) → FlowAlike s f g → FlowAlike s (turned_again below inner stmt f) (turned_again below inner stmt g)
      again_alike (position ∷ inner) (Some (While point condition body place)) s f g h = go_alike s f g _ h (λ s1. alike (While point condition body place) s1)
      again_alike [] stmt s f g h = h
      again_alike (position ∷ inner) _ s f g h = h

      resumed_alike : (positions : List Position) (stmts : Statements) (s : Store) → FlowAlike s (resumed below p stmts positions s) (resumed below p stmts positions (store_there s))
      resumed_alike [] stmts s = (no_more_access s, λ agrees. refl)
      resumed_alike (position ∷ inner) stmts s =
          let stmt = last_of_first position.after stmts in
          let others = after_first position.after stmts in
          let f = resumed below p (block_of (block_at inner) stmt) inner s in
          let g = resumed below p (block_of (block_at inner) stmt) inner (store_there s) in
          go_alike s (stopped_at position.block position.after (turned_again below inner stmt f)) (stopped_at position.block position.after (turned_again below inner stmt g))
          (λ s1. done_all below p position.block position.after others s1)
          (stopped_alike position.block position.after s (turned_again below inner stmt f) (turned_again below inner stmt g)
          (again_alike inner stmt s f g (resumed_alike inner (block_of (block_at inner) stmt) s)))
          (λ s1. all_alike others position.block position.after s1)

    within_alike : (n : ℕ) → BelowAlike (done_within p n)
    within_alike zero stmt s = (no_more_access s, λ agrees. refl)
    within_alike (suc n) stmt s = statement_alike (done_within p n) (within_alike n) stmt s

    module _ (frame : Frame) where
      flow_alike : (body : Option OpenBody) → (vars : List ℤ) × FlowAlike (store_at frame vars cells) (flow_of p frame body cells) (flow_of p frame body other)
      flow_alike None = ([], (no_more_access (store_at frame [] cells), λ agrees. refl))
      flow_alike (Some body) =
          let n = frame.fuel + 1 in
          (body.vars, resumed_alike (done_within p n) (within_alike n) body.open_blocks (body_of (slice_get p.tasks frame.decl)) (store_at frame body.vars cells))

      -- what the segment leaves
      stopped_own : (f : Flow) → IsOwn (flow_store f) → AgreesWithItself cells (stopped_by p frame f)
      stopped_own (goes s) own = record { agrees = own.0; cells_after = own.1 }
      stopped_own (returns value s) own = record { agrees = own.0; cells_after = own.1 }
      stopped_own (fails cause place s) own = record { agrees = own.0; cells_after = own.1 }
      stopped_own (stops operation positions s) own = record { agrees = own.0; cells_after = own.1 }

      abbrev stopped_there : Stopped → Stopped
      stopped_there stopped = record stopped { cells = after other stopped.accesses }

      stopped_alike_by : (f g : Flow) → (AgreesOther (flow_store f) → g ≡ flow_there f) → Agrees other (stopped_by p frame f).accesses → stopped_by p frame g ≡ stopped_there (stopped_by p frame f)
      stopped_alike_by (goes s) g same agrees = ap (stopped_by p frame) (same agrees)
      stopped_alike_by (returns value s) g same agrees = ap (stopped_by p frame) (same agrees)
      stopped_alike_by (fails cause place s) g same agrees = ap (stopped_by p frame) (same agrees)
      stopped_alike_by (stops operation positions s) g same agrees = ap (stopped_by p frame) (same agrees)

pub segment_agrees : (p : Program) (frame : Frame) (cells : List ℤ) → AgreesWithItself cells (segment p frame cells)
segment_agrees p frame cells =
    let alike = flow_alike cells cells p frame frame.body in
    stopped_own cells cells p frame (flow_of p frame frame.body cells) (alike.1.0.0 (tt, refl))

pub segment_determined : (p : Program) (frame : Frame) (cells other : List ℤ) → Agrees other (segment p frame cells).accesses
    → segment p frame other ≡ record (segment p frame cells) { cells = after other (segment p frame cells).accesses }
segment_determined p frame cells other agrees =
    let alike = flow_alike cells other p frame frame.body in
    stopped_alike_by cells other p frame (flow_of p frame frame.body cells) (flow_of p frame frame.body other) alike.1.1 agrees
