-- A bound above the fuel is never met: a larger one changes nothing.
use Rattle.std.proofs.Common.{◌≡◌, ℕ, zero, suc, ◌+◌, ◌<◌, ◌≤◌, Bool, true, false, ℤ, List, [], ◌∷◌, length, Option, None, Some, refl, subst, arith}
use Rattle.std.specs.Prelude.{nat_le, slice_get}
use Rattle.twe_base.specs.declared.place.Place.{Place}
use Rattle.twe_base.specs.Language.{max_active_calls}
use Rattle.twe_ast.specs.declared.expr.BinOp.{BinOp}
use Rattle.twe_program.specs.declared.program.Decl.{Decl}
use Rattle.twe_program.specs.Expression.{Expression, Literal, Truth, Variable, CellValue, ArrayElement, GridElement, CallValue, Negative, Negation, Binary, Arguments, argument}
use Rattle.twe_program.specs.Expression as exprs
use Rattle.twe_program.specs.Program.{Program}
use Rattle.twe_program.specs.Statement.{Statement, Block, Let, Set, SetCell, SetArray, SetGrid, If, While, Return, Print, Call, Make, Wait, Statements, no_more, statement, Arms, arm, otherwise, no_else}
use Rattle.seg_meaning.specs.declared.active.ActiveCall.{ActiveCall}
use Rattle.seg_meaning.specs.declared.fault.FaultCause.{FaultCause}
use Rattle.seg_meaning.specs.declared.fault.FaultCause.TheVariants.{Index, GridIndex}
use Rattle.seg_meaning.specs.Arithmetic.{is_true, operated, decided}
use Rattle.seg_meaning.specs.Cells.{element_number, grid_element_number}
use Rattle.seg_meaning.specs.Meaning.{Below, element_read, element_written, value_or_fault, right_given, body_of, vars_at_start, given_back, entered, called, value_of, values_of, turned, chosen, stopped_at, done_by, done_all, done_arms, done_within}
use Rattle.seg_meaning.specs.Store.{Store, Given, gives, faults, Flow, goes, returns, fails, stops, then_give, then_do, then_go, unit_taken, unit_of}

-- the fuel that is left at the end is at most this
abbrev GivenWithin : {A : Type 0} → ℕ → Given A → Type 0
GivenWithin bound (gives value s) = s.fuel ≤ bound
GivenWithin bound (faults cause place s) = s.fuel ≤ bound

abbrev FlowWithin : ℕ → Flow → Type 0
FlowWithin bound (goes s) = s.fuel ≤ bound
FlowWithin bound (returns value s) = s.fuel ≤ bound
FlowWithin bound (fails cause place s) = s.fuel ≤ bound
FlowWithin bound (stops operation positions s) = s.fuel ≤ bound

-- both are the same, and leave at most this much fuel
abbrev GivenSame : {A : Type 0} → ℕ → Given A → Given A → Type 0
GivenSame bound g h = (g ≡ h) × GivenWithin bound g

abbrev FlowSame : ℕ → Flow → Flow → Type 0
FlowSame bound f g = (f ≡ g) × FlowWithin bound f

-- a larger bound on the fuel
more_given : {A : Type 0} (low high : ℕ) → low ≤ high → (g : Given A) → GivenWithin low g → GivenWithin high g
more_given low high le (gives value s) h = omega (arith, le, h)
more_given low high le (faults cause place s) h = omega (arith, le, h)

more_flow : (low high : ℕ) → low ≤ high → (f : Flow) → FlowWithin low f → FlowWithin high f
more_flow low high le (goes s) h = omega (arith, le, h)
more_flow low high le (returns value s) h = omega (arith, le, h)
more_flow low high le (fails cause place s) h = omega (arith, le, h)
more_flow low high le (stops operation positions s) h = omega (arith, le, h)

-- one after another
give_by : {A B : Type 0} (bound : ℕ) (g : Given A) (next next' : A → Store → Given B) → GivenWithin bound g
    → ((value : A) (s : Store) → s.fuel ≤ bound → GivenSame bound (next value s) (next' value s)) → GivenSame bound (then_give g next) (then_give g next')
give_by bound (gives value s) next next' h k = k value s h
give_by bound (faults cause place s) next next' h k = (refl, h)

give_same : {A B : Type 0} (bound : ℕ) (g h : Given A) (next next' : A → Store → Given B) → GivenSame bound g h
    → ((value : A) (s : Store) → s.fuel ≤ bound → GivenSame bound (next value s) (next' value s)) → GivenSame bound (then_give g next) (then_give h next')
give_same {A} {B} bound g h next next' same k =
    subst (λ (x : Given A). GivenSame bound (then_give g next) (then_give x next')) same.0 (give_by bound g next next' same.1 k)

do_by : {A : Type 0} (bound : ℕ) (g : Given A) (next next' : A → Store → Flow) → GivenWithin bound g
    → ((value : A) (s : Store) → s.fuel ≤ bound → FlowSame bound (next value s) (next' value s)) → FlowSame bound (then_do g next) (then_do g next')
do_by bound (gives value s) next next' h k = k value s h
do_by bound (faults cause place s) next next' h k = (refl, h)

do_same : {A : Type 0} (bound : ℕ) (g h : Given A) (next next' : A → Store → Flow) → GivenSame bound g h
    → ((value : A) (s : Store) → s.fuel ≤ bound → FlowSame bound (next value s) (next' value s)) → FlowSame bound (then_do g next) (then_do h next')
do_same {A} bound g h next next' same k =
    subst (λ (x : Given A). FlowSame bound (then_do g next) (then_do x next')) same.0 (do_by bound g next next' same.1 k)

go_by : (bound : ℕ) (f : Flow) (next next' : Store → Flow) → FlowWithin bound f
    → ((s : Store) → s.fuel ≤ bound → FlowSame bound (next s) (next' s)) → FlowSame bound (then_go f next) (then_go f next')
go_by bound (goes s) next next' h k = k s h
go_by bound (returns value s) next next' h k = (refl, h)
go_by bound (fails cause place s) next next' h k = (refl, h)
go_by bound (stops operation positions s) next next' h k = (refl, h)

go_same : (bound : ℕ) (f g : Flow) (next next' : Store → Flow) → FlowSame bound f g
    → ((s : Store) → s.fuel ≤ bound → FlowSame bound (next s) (next' s)) → FlowSame bound (then_go f next) (then_go g next')
go_same bound f g next next' same k = subst (λ (x : Flow). FlowSame bound (then_go f next) (then_go x next')) same.0 (go_by bound f next next' same.1 k)

-- after a unit is taken there is less fuel
unit_give : {B : Type 0} (bound fuel : ℕ) (place : Place) (s : Store) (next next' : Unit {0} → Store → Given B) → s.fuel ≤ bound → fuel ≤ bound
    → ((s1 : Store) → s1.fuel < bound → GivenSame bound (next tt s1) (next' tt s1)) → GivenSame bound (then_give (unit_of fuel place s) next) (then_give (unit_of fuel place s) next')
unit_give bound zero place s next next' h le k = (refl, h)
unit_give bound (suc left) place s next next' h le k = k (record s { fuel = left }) (omega (arith, le))

unit_do : (bound fuel : ℕ) (place : Place) (s : Store) (next next' : Unit {0} → Store → Flow) → s.fuel ≤ bound → fuel ≤ bound
    → ((s1 : Store) → s1.fuel < bound → FlowSame bound (next tt s1) (next' tt s1)) → FlowSame bound (then_do (unit_of fuel place s) next) (then_do (unit_of fuel place s) next')
unit_do bound zero place s next next' h le k = (refl, h)
unit_do bound (suc left) place s next next' h le k = k (record s { fuel = left }) (omega (arith, le))

-- an access takes no fuel
read_within : (number : Option ℕ) (missing : FaultCause) (place : Place) (bound : ℕ) (s : Store) → s.fuel ≤ bound → GivenSame bound (element_read number missing place s) (element_read number missing place s)
read_within None missing place bound s h = (refl, h)
read_within (Some cell) missing place bound s h = (refl, h)

written_within : (number : Option ℕ) (missing : FaultCause) (value : ℤ) (place : Place) (bound : ℕ) (s : Store) → s.fuel ≤ bound
    → FlowSame bound (element_written number missing value place s) (element_written number missing value place s)
written_within None missing value place bound s h = (refl, h)
written_within (Some cell) missing value place bound s h = (refl, h)

operated_within : (value : Option ℤ) (place : Place) (bound : ℕ) (s : Store) → s.fuel ≤ bound → GivenSame bound (value_or_fault value place s) (value_or_fault value place s)
operated_within None place bound s h = (refl, h)
operated_within (Some value) place bound s h = (refl, h)

right_same : (d : Option ℤ) (op : BinOp) (left : ℤ) (place : Place) (bound : ℕ) (right right' : Given ℤ) (s : Store) → s.fuel ≤ bound → GivenSame bound right right'
    → GivenSame bound (right_given d op left place right s) (right_given d op left place right' s)
right_same (Some value) op left place bound right right' s h same = (refl, h)
right_same None op left place bound right right' s h same =
    give_same bound right right' _ _ same (λ value s1 h1. operated_within (operated op left value) place bound s1 h1)

back_within : (vars : List ℤ) (bound : ℕ) (f : Flow) → FlowWithin bound f → GivenSame bound (given_back vars f) (given_back vars f)
back_within vars bound (goes s) h = (refl, h)
back_within vars bound (returns value s) h = (refl, h)
back_within vars bound (fails cause place s) h = (refl, h)
back_within vars bound (stops operation positions s) h = (refl, h)

back_same : (vars : List ℤ) (bound : ℕ) (f g : Flow) → FlowSame bound f g → GivenSame bound (given_back vars f) (given_back vars g)
back_same vars bound f g same = subst (λ (x : Flow). GivenSame bound (given_back vars f) (given_back vars x)) same.0 (back_within vars bound f same.1)

stopped_within : (block after bound : ℕ) (f : Flow) → FlowWithin bound f → FlowSame bound (stopped_at block after f) (stopped_at block after f)
stopped_within block after bound (goes s) h = (refl, h)
stopped_within block after bound (returns value s) h = (refl, h)
stopped_within block after bound (fails cause place s) h = (refl, h)
stopped_within block after bound (stops operation positions s) h = (refl, h)

stopped_same : (block after bound : ℕ) (f g : Flow) → FlowSame bound f g → FlowSame bound (stopped_at block after f) (stopped_at block after g)
stopped_same block after bound f g same =
    subst (λ (x : Flow). FlowSame bound (stopped_at block after f) (stopped_at block after x)) same.0 (stopped_within block after bound f same.1)

chosen_same : (yes : Bool) (bound : ℕ) (first first' second second' : Flow) → FlowSame bound first first' → FlowSame bound second second' → FlowSame bound (chosen yes first second) (chosen yes first' second')
chosen_same true bound first first' second second' a b = a
chosen_same false bound first first' second second' a b = b

module _ (p : Program) where
  -- both do the same with less fuel than this
  abbrev BelowSame : ℕ → Below → Below → Type 0
  BelowSame limit below below' = (stmt : Statement) (s : Store) (bound : ℕ) → s.fuel ≤ bound → bound < limit → FlowSame bound (below stmt s) (below' stmt s)

  module _ (limit : ℕ) (below below' : Below) (same : BelowSame limit below below') where
    entered_same : (full : Bool) (decl : Option Decl) (args : List ℤ) (call : ActiveCall) (bound : ℕ) → bound < limit → (s : Store) → s.fuel ≤ bound
        → GivenSame bound (entered full below decl args call s) (entered full below' decl args call s)
    entered_same true decl args call bound lt s h = (refl, h)
    entered_same false decl args call bound lt s h =
        let inside : Store = record s { vars = vars_at_start decl args; calls = call ∷ s.calls } in
        let body = Block 0 (body_of decl) in
        back_same s.vars bound (below body inside) (below' body inside) (same body inside bound h lt)

    called_same : (method : ℕ) (args : List ℤ) (place : Place) (bound : ℕ) → bound ≤ limit → (s : Store) → s.fuel ≤ bound
        → GivenSame bound (called below p method args place s) (called below' p method args place s)
    called_same method args place bound le s h =
        unit_give bound s.fuel place s _ _ h h (λ s1 h1.
        let e = entered_same (nat_le max_active_calls (length s1.calls)) (slice_get p.methods method) args (record { method = method; place = place }) s1.fuel (omega (arith, h1, le)) s1 (omega arith) in
        (e.0, more_given s1.fuel bound (omega (arith, h1)) _ e.1))

    mutual
      value_same : (e : Expression) (bound : ℕ) → bound ≤ limit → (s : Store) → s.fuel ≤ bound → GivenSame bound (value_of below p e s) (value_of below' p e s)
      value_same (Literal value) bound le s h = (refl, h)
      value_same (Truth value) bound le s h = (refl, h)
      value_same (Variable var fixed) bound le s h = (refl, h)
      value_same (CellValue cell place) bound le s h = (refl, h)
      value_same (ArrayElement array index place) bound le s h =
          give_same bound (value_of below p index s) (value_of below' p index s) _ _ (value_same index bound le s h)
          (λ i s1 h1. read_within (element_number p array i) (Index i) place bound s1 h1)
      value_same (GridElement array row column place) bound le s h =
          give_same bound (value_of below p row s) (value_of below' p row s) _ _ (value_same row bound le s h) (λ i s1 h1.
          give_same bound (value_of below p column s1) (value_of below' p column s1) _ _ (value_same column bound le s1 h1)
          (λ j s2 h2. read_within (grid_element_number p array i j) (GridIndex i j) place bound s2 h2))
      value_same (CallValue method args place) bound le s h =
          give_same bound (values_of below p args s) (values_of below' p args s) _ _ (values_same args bound le s h)
          (λ values s1 h1. called_same method values place bound le s1 h1)
      value_same (Negative operand) bound le s h =
          give_same bound (value_of below p operand s) (value_of below' p operand s) _ _ (value_same operand bound le s h) (λ value s1 h1. (refl, h1))
      value_same (Negation operand) bound le s h =
          give_same bound (value_of below p operand s) (value_of below' p operand s) _ _ (value_same operand bound le s h) (λ value s1 h1. (refl, h1))
      value_same (Binary op left right place) bound le s h =
          give_same bound (value_of below p left s) (value_of below' p left s) _ _ (value_same left bound le s h) (λ value s1 h1.
          right_same (decided op (is_true value)) op value place bound (value_of below p right s1) (value_of below' p right s1) s1 h1 (value_same right bound le s1 h1))

      values_same : (args : Arguments) (bound : ℕ) → bound ≤ limit → (s : Store) → s.fuel ≤ bound → GivenSame bound (values_of below p args s) (values_of below' p args s)
      values_same exprs.no_more bound le s h = (refl, h)
      values_same (argument first others) bound le s h =
          give_same bound (value_of below p first s) (value_of below' p first s) _ _ (value_same first bound le s h) (λ value s1 h1.
          give_same bound (values_of below p others s1) (values_of below' p others s1) _ _ (values_same others bound le s1 h1) (λ values s2 h2. (refl, h2)))

    -- a turn has less fuel, and so have those after it
    turned_same : (yes : Bool) (place : Place) (body body' again again' : Store → Flow) (bound : ℕ) → bound ≤ limit → (s : Store) → s.fuel ≤ bound
        → ((low : ℕ) → low ≤ limit → (s1 : Store) → s1.fuel ≤ low → FlowSame low (body s1) (body' s1))
        → ((low : ℕ) → low < limit → (s1 : Store) → s1.fuel ≤ low → FlowSame low (again s1) (again' s1))
        → FlowSame bound (turned yes place body again s) (turned yes place body' again' s)
    turned_same false place body body' again again' bound le s h b a = (refl, h)
    turned_same true place body body' again again' bound le s h b a =
        unit_do bound s.fuel place s _ _ h h (λ s1 h1.
        let turn = go_same s1.fuel (body s1) (body' s1) again again' (b s1.fuel (omega (arith, h1, le)) s1 (omega arith)) (λ s2 h2. a s1.fuel (omega (arith, h1, le)) s2 h2) in
        (turn.0, more_flow s1.fuel bound (omega (arith, h1)) _ turn.1))

    mutual
      statement_same : (stmt : Statement) (bound : ℕ) → bound ≤ limit → (s : Store) → s.fuel ≤ bound → FlowSame bound (done_by below p stmt s) (done_by below' p stmt s)
      statement_same (Block point body) bound le s h = all_same body 0 0 bound le s h
      statement_same (Let point var value) bound le s h =
          do_same bound (value_of below p value s) (value_of below' p value s) _ _ (value_same value bound le s h) (λ v s1 h1. (refl, h1))
      statement_same (Set point var value) bound le s h =
          do_same bound (value_of below p value s) (value_of below' p value s) _ _ (value_same value bound le s h) (λ v s1 h1. (refl, h1))
      statement_same (SetCell point cell value place) bound le s h =
          do_same bound (value_of below p value s) (value_of below' p value s) _ _ (value_same value bound le s h) (λ v s1 h1. (refl, h1))
      statement_same (SetArray point array index value place) bound le s h =
          do_same bound (value_of below p index s) (value_of below' p index s) _ _ (value_same index bound le s h) (λ i s1 h1.
          do_same bound (value_of below p value s1) (value_of below' p value s1) _ _ (value_same value bound le s1 h1)
          (λ v s2 h2. written_within (element_number p array i) (Index i) v place bound s2 h2))
      statement_same (SetGrid point array row column value place) bound le s h =
          do_same bound (value_of below p row s) (value_of below' p row s) _ _ (value_same row bound le s h) (λ i s1 h1.
          do_same bound (value_of below p column s1) (value_of below' p column s1) _ _ (value_same column bound le s1 h1) (λ j s2 h2.
          do_same bound (value_of below p value s2) (value_of below' p value s2) _ _ (value_same value bound le s2 h2)
          (λ v s3 h3. written_within (grid_element_number p array i j) (GridIndex i j) v place bound s3 h3)))
      statement_same (If point arms) bound le s h = arms_same arms 0 bound le s h
      statement_same (While point condition body place) bound le s h =
          let again = While point condition body place in
          do_same bound (value_of below p condition s) (value_of below' p condition s) _ _ (value_same condition bound le s h) (λ v s1 h1.
          turned_same (is_true v) place (done_all below p 0 0 body) (done_all below' p 0 0 body) (below again) (below' again) bound le s1 h1
          (λ low le1 s2 h2. all_same body 0 0 low le1 s2 h2) (λ low lt s2 h2. same again s2 low h2 lt))
      statement_same (Return point None) bound le s h = (refl, h)
      statement_same (Return point (Some value)) bound le s h =
          do_same bound (value_of below p value s) (value_of below' p value s) _ _ (value_same value bound le s h) (λ v s1 h1. (refl, h1))
      statement_same (Print point value place) bound le s h =
          do_same bound (value_of below p value s) (value_of below' p value s) _ _ (value_same value bound le s h) (λ v s1 h1.
          unit_do bound s1.fuel place s1 _ _ h1 h1 (λ s2 h2. (refl, omega (arith, h2))))
      statement_same (Call point method args place) bound le s h =
          do_same bound (values_of below p args s) (values_of below' p args s) _ _ (values_same args bound le s h) (λ values s1 h1.
          do_same bound (called below p method values place s1) (called below' p method values place s1) _ _ (called_same method values place bound le s1 h1) (λ v s2 h2. (refl, h2)))
      statement_same (Make point future task args spawned future_place place) bound le s h =
          do_same bound (values_of below p args s) (values_of below' p args s) _ _ (values_same args bound le s h) (λ values s1 h1.
          unit_do bound s1.fuel place s1 _ _ h1 h1 (λ s2 h2. (refl, omega (arith, h2))))
      statement_same (Wait point future join into place) bound le s h = unit_do bound s.fuel place s _ _ h h (λ s1 h1. (refl, omega (arith, h1)))

      all_same : (stmts : Statements) (block at bound : ℕ) → bound ≤ limit → (s : Store) → s.fuel ≤ bound → FlowSame bound (done_all below p block at stmts s) (done_all below' p block at stmts s)
      all_same no_more block at bound le s h = (refl, h)
      all_same (statement first others) block at bound le s h =
          go_same bound (stopped_at block (at + 1) (done_by below p first s)) (stopped_at block (at + 1) (done_by below' p first s)) _ _
          (stopped_same block (at + 1) bound (done_by below p first s) (done_by below' p first s) (statement_same first bound le s h))
          (λ s1 h1. all_same others block (at + 1) bound le s1 h1)

      arms_same : (arms : Arms) (block bound : ℕ) → bound ≤ limit → (s : Store) → s.fuel ≤ bound → FlowSame bound (done_arms below p block arms s) (done_arms below' p block arms s)
      arms_same no_else block bound le s h = (refl, h)
      arms_same (otherwise body) block bound le s h = all_same body block 0 bound le s h
      arms_same (arm condition body others) block bound le s h =
          do_same bound (value_of below p condition s) (value_of below' p condition s) _ _ (value_same condition bound le s h) (λ v s1 h1.
          chosen_same (is_true v) bound (done_all below p block 0 body s1) (done_all below' p block 0 body s1) (done_arms below p (block + 1) others s1) (done_arms below' p (block + 1) others s1)
          (all_same body block 0 bound le s1 h1) (arms_same others (block + 1) bound le s1 h1))

  within_same : (n m : ℕ) (stmt : Statement) (s : Store) (bound : ℕ) → s.fuel ≤ bound → bound < n → bound < m → FlowSame bound (done_within p n stmt s) (done_within p m stmt s)
  within_same zero m stmt s bound h n_above m_above = absurd (omega (arith, n_above))
  within_same (suc n) zero stmt s bound h n_above m_above = absurd (omega (arith, m_above))
  within_same (suc n) (suc m) stmt s bound h n_above m_above =
      statement_same bound (done_within p n) (done_within p m)
      (λ below s1 low h1 lt. within_same n m below s1 low h1 (omega (arith, n_above, lt)) (omega (arith, m_above, lt))) stmt bound (omega arith) s h

  pub larger_bounds : (n m : ℕ) (stmt : Statement) (s : Store) → s.fuel < n → s.fuel < m → done_within p n stmt s ≡ done_within p m stmt s
  larger_bounds n m stmt s h h' = (within_same n m stmt s s.fuel (omega arith) h h').0
