-- The evaluator comes from the work for an expression, or for a statement, to what its meaning says.
use Rattle.std.proofs.Common.{◌≡◌, ℕ, zero, suc, ◌+◌, ◌-◌, ◌<◌, ◌≤◌, ℤ, Bool, true, false, List, [], ◌∷◌, ◌++◌, Option, None, Some, refl, sym, ap, ◌∙◌, arith, append_assoc}
use Rattle.std.specs.Prelude.{length, nat_le, slice_get}
use Rattle.std.proofs.lemmas.List.{append-nil}
use Rattle.std.proofs.Math.Dec.{eqb-suc-zero}
use Rattle.twe_base.specs.declared.place.Place.{Place}
use Rattle.twe_ast.specs.declared.expr.BinOp.{BinOp}
use Rattle.twe_base.specs.Language.{max_active_calls}
use Rattle.twe_program.specs.declared.program.Decl.{Decl}
use Rattle.twe_program.specs.Program.{Program}
use Rattle.twe_program.specs.Expression.{Expression, Literal, Truth, Variable, CellValue, ArrayElement, GridElement, CallValue, Negative, Negation, Binary, Arguments, argument}
use Rattle.twe_program.specs.Expression as exprs
use Rattle.twe_program.specs.Statement.{Statement, Block, Let, Set, SetCell, SetArray, SetGrid, If, While, Return, Print, Call, Make, Wait, Statements, no_more, statement, Arms, arm, otherwise, no_else}
use Rattle.seg_meaning.specs.declared.active.ActiveCall.{ActiveCall}
use Rattle.seg_meaning.specs.declared.operation.Operation.TheVariants as operations
use Rattle.seg_exec.specs.declared.steps.continuation.Goal.{Goal}
use Rattle.seg_exec.specs.declared.steps.continuation.Goal.TheVariants as goals
use Rattle.seg_exec.specs.declared.steps.request.Request.TheVariants as requests
use Rattle.seg_exec.specs.declared.steps.request.Ending.{Ending}
use Rattle.seg_exec.specs.declared.steps.request.Ending.TheVariants.{Faulted}
use Rattle.seg_meaning.specs.Access.{Access}
use Rattle.seg_meaning.specs.Arithmetic.{is_true, operated, decided}
use Rattle.seg_meaning.specs.Cells.{element_number, grid_element_number}
use Rattle.seg_meaning.specs.Store.{Store, Given, gives, faults, Flow, goes, returns, fails, stops, then_give, then_do, then_go, unit_taken}
use Rattle.seg_meaning.specs.declared.fault.FaultCause.{FaultCause}
use Rattle.seg_meaning.specs.declared.fault.FaultCause.TheVariants.{Index, GridIndex}
use Rattle.seg_meaning.specs.Meaning.{Below, element_read, element_written, value_or_fault, right_given, value_returned, body_of, vars_at_start, given_back, entered, called, value_of, values_of, turned, chosen, stopped_at, done_by, done_all, done_arms, done_within}
use Rattle.seg_exec.specs.inner.steps.Continuations.{Continuation, Evaluate, Execute, Rest, Choose, Chosen, Turn, Gather, Take, Negate, Invert, Right, Apply, ReadElement, ReadGridElement, GiveVar, GiveCell, GiveElement, GiveGridElement, PrintValue, Discard, Unwind, Suspend, Leave, Config, to_do}
use Rattle.seg_exec.specs.inner.steps.Steps.{Step, on, unit_or, asked_unit, read_at, written_at, right_by, applied, turned_by, chosen_by, entered_by, is_return, rest_below}
use Rattle.seg_exec.specs.inner.steps.Runs.{Moment, Over, Comes, moment, stepped, run}

module _ (p : Program) where
  -- from a moment the evaluator comes to an end
  pub record Ends (from : Moment) (ending : Ending) (s : Store) : Type 0 where
    pub by : (n : ℕ) × (run p n from ≡ Over ending s)

  -- the next step is this one
  abbrev pub Steps : Moment → Step → Type 0
  Steps from step = (k : ℕ) → run p (suc k) from ≡ stepped (run p k) step from

  pub stays : (m : Moment) → Comes p m m
  stays m = record { by = λ k. (k, omega arith, refl) }

  pub onward : (a b c : Moment) → Comes p a b → Comes p b c → Comes p a c
  onward a b c first second = record { by = λ k. let y = second.by k in let x = first.by y.0 in (x.0, omega (arith, x.1, y.1), x.2 ∙ y.2) }

  ends_later : (a b : Moment) (ending : Ending) (s : Store) → Comes p a b → Ends b ending s → Ends a ending s
  ends_later a b ending s first second = record { by = let y = second.by in let x = first.by y.0 in (x.0, x.2 ∙ y.1) }

  -- one step
  one : (a b : Moment) → ((k : ℕ) → run p (suc k) a ≡ run p k b) → Comes p a b
  one a b e = record { by = λ k. (suc k, omega arith, e k) }

  last_one : (a : Moment) (ending : Ending) (s : Store) → ((k : ℕ) → run p (suc k) a ≡ Over ending s) → Ends a ending s
  last_one a ending s e = record { by = (suc zero, e zero) }

  -- what a meaning says of the evaluator: with a value it comes to a moment, with no more fuel than the bound, and in a
  -- fault it ends
  abbrev pub GivenTo : {A : Type 0} → ℕ → Moment → (A → Store → Moment) → Given A → Type 0
  GivenTo bound from to (gives value s) = (s.fuel ≤ bound) × Comes p from (to value s)
  GivenTo bound from to (faults cause place s) = Ends from (Faulted cause place) s

  abbrev pub FlowTo : ℕ → Moment → List Continuation → List ℤ → Flow → Type 0
  FlowTo bound from work values (goes s) = (s.fuel ≤ bound) × Comes p from (moment work values s)
  FlowTo bound from work values (returns value s) = (s.fuel ≤ bound) × Comes p from (moment (Unwind ∷ work) (value ∷ values) s)
  FlowTo bound from work values (fails cause place s) = Ends from (Faulted cause place) s
  FlowTo bound from work values (stops operation positions s) = (s.fuel ≤ bound) × Comes p from (moment (Suspend operation positions ∷ work) values s)

  given_later : {A : Type 0} (bound : ℕ) (a b : Moment) (to : A → Store → Moment) (g : Given A) → Comes p a b → GivenTo bound b to g → GivenTo bound a to g
  given_later bound a b to (gives value s) first second = (second.0, onward a b (to value s) first second.1)
  given_later bound a b to (faults cause place s) first second = ends_later a b (Faulted cause place) s first second

  pub flow_later : (bound : ℕ) (a b : Moment) (work : List Continuation) (values : List ℤ) (f : Flow) → Comes p a b → FlowTo bound b work values f → FlowTo bound a work values f
  flow_later bound a b work values (goes s) first second = (second.0, onward a b _ first second.1)
  flow_later bound a b work values (returns value s) first second = (second.0, onward a b _ first second.1)
  flow_later bound a b work values (fails cause place s) first second = ends_later a b (Faulted cause place) s first second
  flow_later bound a b work values (stops operation positions s) first second = (second.0, onward a b _ first second.1)

  flow_weaker : (least bound : ℕ) (from : Moment) (work : List Continuation) (values : List ℤ) (f : Flow) → least ≤ bound → FlowTo least from work values f → FlowTo bound from work values f
  flow_weaker least bound from work values (goes s) le h = (omega (arith, h.0), h.1)
  flow_weaker least bound from work values (returns value s) le h = (omega (arith, h.0), h.1)
  flow_weaker least bound from work values (fails cause place s) le h = h
  flow_weaker least bound from work values (stops operation positions s) le h = (omega (arith, h.0), h.1)

  -- one after the other
  give_then : {A B : Type 0} (bound : ℕ) (from : Moment) (to : A → Store → Moment) (to' : B → Store → Moment) (g : Given A) (next : A → Store → Given B)
      → GivenTo bound from to g → ((value : A) (s : Store) → s.fuel ≤ bound → GivenTo bound (to value s) to' (next value s)) → GivenTo bound from to' (then_give g next)
  give_then bound from to to' (gives value s) next h k = given_later bound from (to value s) to' (next value s) h.1 (k value s h.0)
  give_then bound from to to' (faults cause place s) next h k = h

  do_then : {A : Type 0} (bound : ℕ) (from : Moment) (to : A → Store → Moment) (work : List Continuation) (values : List ℤ) (g : Given A) (next : A → Store → Flow)
      → GivenTo bound from to g → ((value : A) (s : Store) → s.fuel ≤ bound → FlowTo bound (to value s) work values (next value s)) → FlowTo bound from work values (then_do g next)
  do_then bound from to work values (gives value s) next h k = flow_later bound from (to value s) work values (next value s) h.1 (k value s h.0)
  do_then bound from to work values (faults cause place s) next h k = h

  -- after a statement of a block
  pub rest_then : (bound block at : ℕ) (from : Moment) (others : Statements) (work : List Continuation) (values : List ℤ) (f : Flow) (next : Store → Flow)
      → FlowTo bound from (Rest block at others ∷ work) values f
      → ((s : Store) → s.fuel ≤ bound → FlowTo bound (moment (Rest block at others ∷ work) values s) work values (next s))
      → FlowTo bound from work values (then_go (stopped_at block at f) next)
  rest_then bound block at from others work values (goes s) next h k = flow_later bound from _ work values (next s) h.1 (k s h.0)
  rest_then bound block at from others work values (returns value s) next h k = (h.0, onward from _ _ h.1 (one _ _ (λ k. refl)))
  rest_then bound block at from others work values (fails cause place s) next h k = h
  rest_then bound block at from others work values (stops operation positions s) next h k = (h.0, onward from _ _ h.1 (one _ _ (λ k. refl)))

  -- the same where a statement that is a return has nothing of the block below it
  abbrev Leaves : Flow → Type 0
  Leaves (goes s) = ⊥
  Leaves (returns value s) = Unit {0}
  Leaves (fails cause place s) = Unit {0}
  Leaves (stops operation positions s) = ⊥

  left_then : (bound block at : ℕ) (from : Moment) (work : List Continuation) (values : List ℤ) (f : Flow) (next : Store → Flow)
      → Leaves f → FlowTo bound from work values f → FlowTo bound from work values (then_go (stopped_at block at f) next)
  left_then bound block at from work values (goes s) next leaves h = absurd leaves
  left_then bound block at from work values (returns value s) next leaves h = h
  left_then bound block at from work values (fails cause place s) next leaves h = h
  left_then bound block at from work values (stops operation positions s) next leaves h = absurd leaves

  below_then : (returning : Bool) (bound block at : ℕ) (from : Moment) (others : Statements) (work : List Continuation) (values : List ℤ) (f : Flow) (next : Store → Flow)
      → (returning ≡ true → Leaves f)
      → FlowTo bound from (rest_below returning block at others work) values f
      → ((s : Store) → s.fuel ≤ bound → FlowTo bound (moment (Rest block at others ∷ work) values s) work values (next s))
      → FlowTo bound from work values (then_go (stopped_at block at f) next)
  below_then true bound block at from others work values f next leaves h k = left_then bound block at from work values f next (leaves refl) h
  below_then false bound block at from others work values f next leaves h k = rest_then bound block at from others work values f next h k

  given_leaves : (g : Given ℤ) → Leaves (value_returned g)
  given_leaves (gives value s) = tt
  given_leaves (faults cause place s) = tt

  return_leaves : (below : Below) (stmt : Statement) (s : Store) → is_return stmt ≡ true → Leaves (done_by below p stmt s)
  return_leaves below (Return point None) s is = tt
  return_leaves below (Return point (Some value)) s is = given_leaves (value_of below p value s)
  return_leaves below (Block point body) s is = absurd (cc)
  return_leaves below (Let point var value) s is = absurd (cc)
  return_leaves below (Set point var value) s is = absurd (cc)
  return_leaves below (SetCell point cell value place) s is = absurd (cc)
  return_leaves below (SetArray point array index value place) s is = absurd (cc)
  return_leaves below (SetGrid point array row column value place) s is = absurd (cc)
  return_leaves below (If point arms) s is = absurd (cc)
  return_leaves below (While point condition body place) s is = absurd (cc)
  return_leaves below (Print point value place) s is = absurd (cc)
  return_leaves below (Call point method args place) s is = absurd (cc)
  return_leaves below (Make point future task args spawned future_place place) s is = absurd (cc)
  return_leaves below (Wait point future join into place) s is = absurd (cc)

  -- after the body of a loop
  pub again_then : (bound : ℕ) (from : Moment) (again : Statement) (work : List Continuation) (values : List ℤ) (f : Flow) (next : Store → Flow)
      → FlowTo bound from (Execute again ∷ work) values f
      → ((s : Store) → s.fuel ≤ bound → FlowTo bound (moment (Execute again ∷ work) values s) work values (next s))
      → FlowTo bound from work values (then_go f next)
  again_then bound from again work values (goes s) next h k = flow_later bound from _ work values (next s) h.1 (k s h.0)
  again_then bound from again work values (returns value s) next h k = (h.0, onward from _ _ h.1 (one _ _ (λ k. refl)))
  again_then bound from again work values (fails cause place s) next h k = h
  again_then bound from again work values (stops operation positions s) next h k = (h.0, onward from _ _ h.1 (one _ _ (λ k. refl)))

  -- what comes of a step, where it depends on a choice
  read_meets : (bound : ℕ) (from : Moment) (place : Place) (work : List Continuation) (values : List ℤ) (s : Store) (cell : Option ℕ) (missing : FaultCause) → s.fuel ≤ bound
      → ((k : ℕ) → run p (suc k) from ≡ stepped (run p k) (read_at cell missing place (moment work values s).config) (moment work values s))
      → GivenTo bound from (λ v s1. moment work (v ∷ values) s1) (element_read cell missing place s)
  read_meets bound from place work values s None missing h e = last_one from _ s e
  read_meets bound from place work values s (Some cell) missing h e = (h, one from _ e)

  written_meets : (bound : ℕ) (from : Moment) (place : Place) (work : List Continuation) (values : List ℤ) (s : Store) (cell : Option ℕ) (missing : FaultCause) (value : ℤ) → s.fuel ≤ bound
      → ((k : ℕ) → run p (suc k) from ≡ stepped (run p k) (written_at cell missing value place (moment work values s).config) (moment work values s))
      → FlowTo bound from work values (element_written cell missing value place s)
  written_meets bound from place work values s None missing value h e = last_one from _ s e
  written_meets bound from place work values s (Some cell) missing value h e = (h, one from _ e)

  applied_meets : (bound : ℕ) (from : Moment) (place : Place) (work : List Continuation) (values : List ℤ) (s : Store) (value : Option ℤ) → s.fuel ≤ bound
      → ((k : ℕ) → run p (suc k) from ≡ stepped (run p k) (applied value place (moment work values s).config) (moment work values s))
      → GivenTo bound from (λ v s1. moment work (v ∷ values) s1) (value_or_fault value place s)
  applied_meets bound from place work values s None h e = last_one from _ s e
  applied_meets bound from place work values s (Some value) h e = (h, one from _ e)

  -- a unit of fuel: none is left, or one less is
  unit_given : {A : Type 0} (fuel bound : ℕ) (cells vars : List ℤ) (calls : List ActiveCall) (accesses : List Access) (from : Moment) (place : Place)
      (work : List Continuation) (values : List ℤ) (step : Config → Step) (to : A → Store → Moment) (next : Unit {0} → Store → Given A)
      → let s : Store = record { cells = cells; vars = vars; fuel = fuel; calls = calls; accesses = accesses } in
      ((k : ℕ) → run p (suc k) from ≡ stepped (run p k) (asked_unit place (moment work values s).config step) (moment work values s))
      → ((left : ℕ) → suc left ≡ fuel
      → ((k : ℕ) → run p (suc k) from ≡ stepped (run p k) (step (moment work values (record s { fuel = left })).config) (moment work values (record s { fuel = left })))
      → GivenTo bound from to (next tt (record s { fuel = left })))
      → GivenTo bound from to (then_give (unit_taken place s) next)
  unit_given zero bound cells vars calls accesses from place work values step to next e k = last_one from _ _ e
  unit_given (suc left) bound cells vars calls accesses from place work values step to next e k =
      let s : ℕ → Store = λ (fuel : ℕ). record { cells = cells; vars = vars; fuel = fuel; calls = calls; accesses = accesses } in
      let same : suc left - 1 ≡ left = omega arith in
      k left refl (λ n. e n ∙ ap (λ (none : Bool). stepped (run p n) (unit_or none place (moment work values (s (suc left))).config step) (moment work values (s (suc left)))) (eqb-suc-zero left)
      ∙ ap (λ (fuel : ℕ). stepped (run p n) (step (moment work values (s fuel)).config) (moment work values (s fuel))) same)

  unit_done : (fuel bound : ℕ) (cells vars : List ℤ) (calls : List ActiveCall) (accesses : List Access) (from : Moment) (place : Place)
      (work : List Continuation) (values : List ℤ) (step : Config → Step) (work' : List Continuation) (values' : List ℤ) (next : Unit {0} → Store → Flow)
      → let s : Store = record { cells = cells; vars = vars; fuel = fuel; calls = calls; accesses = accesses } in
      ((k : ℕ) → run p (suc k) from ≡ stepped (run p k) (asked_unit place (moment work values s).config step) (moment work values s))
      → ((left : ℕ) → suc left ≡ fuel
      → ((k : ℕ) → run p (suc k) from ≡ stepped (run p k) (step (moment work values (record s { fuel = left })).config) (moment work values (record s { fuel = left })))
      → FlowTo bound from work' values' (next tt (record s { fuel = left })))
      → FlowTo bound from work' values' (then_do (unit_taken place s) next)
  unit_done zero bound cells vars calls accesses from place work values step work' values' next e k = last_one from _ _ e
  unit_done (suc left) bound cells vars calls accesses from place work values step work' values' next e k =
      let s : ℕ → Store = λ (fuel : ℕ). record { cells = cells; vars = vars; fuel = fuel; calls = calls; accesses = accesses } in
      let same : suc left - 1 ≡ left = omega arith in
      k left refl (λ n. e n ∙ ap (λ (none : Bool). stepped (run p n) (unit_or none place (moment work values (s (suc left))).config step) (moment work values (s (suc left)))) (eqb-suc-zero left)
      ∙ ap (λ (fuel : ℕ). stepped (run p n) (step (moment work values (s fuel)).config) (moment work values (s fuel))) same)

  -- a method is left
  back_meets : (least bound : ℕ) (from : Moment) (vars : List ℤ) (work : List Continuation) (values : List ℤ) (f : Flow) → least ≤ bound
      → FlowTo least from (Leave vars ∷ work) values f → GivenTo bound from (λ v s. moment work (v ∷ values) s) (given_back vars f)
  back_meets least bound from vars work values (goes s) le h = (omega (arith, h.0), onward from _ _ h.1 (one _ _ (λ k. refl)))
  back_meets least bound from vars work values (returns value s) le h = (omega (arith, h.0), onward from _ _ h.1 (one _ _ (λ k. refl)))
  back_meets least bound from vars work values (fails cause place s) le h = h
  back_meets least bound from vars work values (stops operation positions s) le h = (omega (arith, h.0), onward from _ _ h.1 (one _ _ (λ k. refl)))

  -- what takes a unit of fuel and comes after it meets its meaning, where less than n units are left
  abbrev pub MeetsStatements : ℕ → Below → Type 0
  MeetsStatements n below = (stmt : Statement) (s : Store) (bound : ℕ) → s.fuel ≤ bound → bound < n → (work : List Continuation) (values : List ℤ)
      → FlowTo bound (moment (Execute stmt ∷ work) values s) work values (below stmt s)

  abbrev pub MeetsBodies : ℕ → Below → Type 0
  MeetsBodies n below = (body : Statements) (s : Store) (bound : ℕ) → s.fuel ≤ bound → bound < n → (work : List Continuation) (values : List ℤ)
      → FlowTo bound (moment (Rest 0 0 body ∷ work) values s) work values (below (Block 0 body) s)

  abbrev pub Meets : ℕ → Below → Type 0
  Meets n below = MeetsStatements n below × MeetsBodies n below

  module _ (n : ℕ) (below : Below) (meets : Meets n below) where
    entered_meets : (full : Bool) (decl : Option Decl) (vs : List ℤ) (call : ActiveCall) (from : Moment) (left bound : ℕ) (work : List Continuation) (values : List ℤ) (s : Store)
        → s.fuel ≤ left → left < n → left ≤ bound
        → ((k : ℕ) → run p (suc k) from ≡ stepped (run p k) (entered_by full decl vs call (moment work values s).config) (moment work values s))
        → GivenTo bound from (λ v s1. moment work (v ∷ values) s1) (entered full below decl vs call s)
    entered_meets true decl vs call from left bound work values s h lt le e = last_one from _ s e
    entered_meets false decl vs call from left bound work values s h lt le e =
        let inside : Store = record s { vars = vars_at_start decl vs; calls = call ∷ s.calls } in
        let body = body_of decl in
        given_later bound from (moment (Rest 0 0 body ∷ (Leave s.vars ∷ work)) values inside) (λ v s1. moment work (v ∷ values) s1) _ (one from _ e)
        (back_meets left bound _ s.vars work values (below (Block 0 body) inside) le
        (meets.1 body inside left h lt (Leave s.vars ∷ work) values))

    called_meets : (method : ℕ) (vs : List ℤ) (place : Place) (bound : ℕ) (work : List Continuation) (values : List ℤ) (s : Store) → bound ≤ n → s.fuel ≤ bound
        → GivenTo bound (moment (Gather vs exprs.no_more (goals.Enter method place) ∷ work) values s) (λ v s1. moment work (v ∷ values) s1) (called below p method vs place s)
    called_meets method vs place bound work values s le h =
        unit_given s.fuel bound s.cells s.vars s.calls s.accesses (moment (Gather vs exprs.no_more (goals.Enter method place) ∷ work) values s) place work values
        (λ c. entered_by (nat_le max_active_calls (length c.calls)) (slice_get p.methods method) vs (record { method = method; place = place }) c) (λ v s1. moment work (v ∷ values) s1)
        (λ unit s1. entered (nat_le max_active_calls (length s1.calls)) below (slice_get p.methods method) vs (record { method = method; place = place }) s1) (λ k. refl)
        (λ left is e. entered_meets (nat_le max_active_calls (length s.calls)) (slice_get p.methods method) vs (record { method = method; place = place }) _ left bound work values (record s { fuel = left })
        (omega arith) (omega (arith, is)) (omega (arith, is)) e)

    right_meets : (d : Option ℤ) (op : BinOp) (x : ℤ) (right : Expression) (place : Place) (from : Moment) (bound : ℕ) (work : List Continuation) (values : List ℤ) (s : Store) → s.fuel ≤ bound
        → ((k : ℕ) → run p (suc k) from ≡ stepped (run p k) (right_by d op x right place (moment work values s).config) (moment work values s))
        → GivenTo bound (moment (Evaluate right ∷ (Apply op place ∷ work)) (x ∷ values) s) (λ v s1. moment (Apply op place ∷ work) (v ∷ (x ∷ values)) s1) (value_of below p right s)
        → GivenTo bound from (λ v s1. moment work (v ∷ values) s1) (right_given d op x place (value_of below p right s) s)
    right_meets (Some value) op x right place from bound work values s h e evaluates = (h, one from _ e)
    right_meets None op x right place from bound work values s h e evaluates =
        given_later bound from _ (λ v s1. moment work (v ∷ values) s1) _ (one from _ e)
        (give_then bound _ (λ v s1. moment (Apply op place ∷ work) (v ∷ (x ∷ values)) s1) (λ v s1. moment work (v ∷ values) s1) (value_of below p right s)
        (λ y s1. value_or_fault (operated op x y) place s1) evaluates
        (λ y s1 h1. applied_meets bound _ place work values s1 (operated op x y) h1 (λ k. refl)))

    mutual
      value_meets : (e : Expression) (bound : ℕ) → bound ≤ n → (s : Store) → s.fuel ≤ bound → (work : List Continuation) (values : List ℤ)
          → GivenTo bound (moment (Evaluate e ∷ work) values s) (λ v s1. moment work (v ∷ values) s1) (value_of below p e s)
      value_meets (Literal value) bound le s h work values = (h, one _ _ (λ k. refl))
      value_meets (Truth value) bound le s h work values = (h, one _ _ (λ k. refl))
      value_meets (Variable var fixed) bound le s h work values = (h, one _ _ (λ k. refl))
      value_meets (CellValue cell place) bound le s h work values = (h, one _ _ (λ k. refl))
      value_meets (ArrayElement array index place) bound le s h work values =
          given_later bound _ (moment (Evaluate index ∷ (ReadElement array place ∷ work)) values s) (λ v s1. moment work (v ∷ values) s1) _ (one _ _ (λ k. refl))
          (give_then bound _ (λ v s1. moment (ReadElement array place ∷ work) (v ∷ values) s1) (λ v s1. moment work (v ∷ values) s1) (value_of below p index s)
          (λ i s1. element_read (element_number p array i) (Index i) place s1) (value_meets index bound le s h (ReadElement array place ∷ work) values)
          (λ i s1 h1. read_meets bound _ place work values s1 (element_number p array i) (Index i) h1 (λ k. refl)))
      value_meets (GridElement array row column place) bound le s h work values =
          given_later bound _ (moment (Evaluate row ∷ (Evaluate column ∷ (ReadGridElement array place ∷ work))) values s) (λ v s1. moment work (v ∷ values) s1) _ (one _ _ (λ k. refl))
          (give_then bound _ (λ v s1. moment (Evaluate column ∷ (ReadGridElement array place ∷ work)) (v ∷ values) s1) (λ v s1. moment work (v ∷ values) s1) (value_of below p row s)
          (λ i s1. then_give (value_of below p column s1) (λ j s2. element_read (grid_element_number p array i j) (GridIndex i j) place s2))
          (value_meets row bound le s h (Evaluate column ∷ (ReadGridElement array place ∷ work)) values)
          (λ i s1 h1. give_then bound _ (λ v s2. moment (ReadGridElement array place ∷ work) (v ∷ (i ∷ values)) s2) (λ v s2. moment work (v ∷ values) s2) (value_of below p column s1)
          (λ j s2. element_read (grid_element_number p array i j) (GridIndex i j) place s2) (value_meets column bound le s1 h1 (ReadGridElement array place ∷ work) (i ∷ values))
          (λ j s2 h2. read_meets bound _ place work values s2 (grid_element_number p array i j) (GridIndex i j) h2 (λ k. refl))))
      value_meets (CallValue method args place) bound le s h work values =
          given_later bound _ (moment (Gather [] args (goals.Enter method place) ∷ work) values s) (λ v s1. moment work (v ∷ values) s1) _ (one _ _ (λ k. refl))
          (give_then bound _ (λ vs s1. moment (Gather vs exprs.no_more (goals.Enter method place) ∷ work) values s1) (λ v s1. moment work (v ∷ values) s1) (values_of below p args s)
          (λ vs s1. called below p method vs place s1) (values_meet args bound le s h [] (goals.Enter method place) work values)
          (λ vs s1 h1. called_meets method vs place bound work values s1 le h1))
      value_meets (Negative operand) bound le s h work values =
          given_later bound _ (moment (Evaluate operand ∷ (Negate ∷ work)) values s) (λ v s1. moment work (v ∷ values) s1) _ (one _ _ (λ k. refl))
          (give_then bound _ (λ v s1. moment (Negate ∷ work) (v ∷ values) s1) (λ v s1. moment work (v ∷ values) s1) (value_of below p operand s) _
          (value_meets operand bound le s h (Negate ∷ work) values) (λ v s1 h1. (h1, one _ _ (λ k. refl))))
      value_meets (Negation operand) bound le s h work values =
          given_later bound _ (moment (Evaluate operand ∷ (Invert ∷ work)) values s) (λ v s1. moment work (v ∷ values) s1) _ (one _ _ (λ k. refl))
          (give_then bound _ (λ v s1. moment (Invert ∷ work) (v ∷ values) s1) (λ v s1. moment work (v ∷ values) s1) (value_of below p operand s) _
          (value_meets operand bound le s h (Invert ∷ work) values) (λ v s1 h1. (h1, one _ _ (λ k. refl))))
      value_meets (Binary op left right place) bound le s h work values =
          given_later bound _ (moment (Evaluate left ∷ (Right op right place ∷ work)) values s) (λ v s1. moment work (v ∷ values) s1) _ (one _ _ (λ k. refl))
          (give_then bound _ (λ v s1. moment (Right op right place ∷ work) (v ∷ values) s1) (λ v s1. moment work (v ∷ values) s1) (value_of below p left s)
          (λ x s1. right_given (decided op (is_true x)) op x place (value_of below p right s1) s1) (value_meets left bound le s h (Right op right place ∷ work) values)
          (λ x s1 h1. right_meets (decided op (is_true x)) op x right place _ bound work values s1 h1 (λ k. refl) (value_meets right bound le s1 h1 (Apply op place ∷ work) (x ∷ values))))

      values_meet : (args : Arguments) (bound : ℕ) → bound ≤ n → (s : Store) → s.fuel ≤ bound → (taken : List ℤ) (goal : Goal) (work : List Continuation) (values : List ℤ)
          → GivenTo bound (moment (Gather taken args goal ∷ work) values s) (λ vs s1. moment (Gather (taken ++ vs) exprs.no_more goal ∷ work) values s1) (values_of below p args s)
      values_meet exprs.no_more bound le s h taken goal work values =
          (h, record { by = λ k. (k, omega arith, ap (λ (vs : List ℤ). run p k (moment (Gather vs exprs.no_more goal ∷ work) values s)) (sym (append-nil taken))) })
      values_meet (argument first others) bound le s h taken goal work values =
          given_later bound _ (moment (Evaluate first ∷ (Take taken others goal ∷ work)) values s) (λ vs s1. moment (Gather (taken ++ vs) exprs.no_more goal ∷ work) values s1) _ (one _ _ (λ k. refl))
          (give_then bound _ (λ v s1. moment (Take taken others goal ∷ work) (v ∷ values) s1) (λ vs s1. moment (Gather (taken ++ vs) exprs.no_more goal ∷ work) values s1) (value_of below p first s)
          (λ v s1. then_give (values_of below p others s1) (λ vs s2. gives (v ∷ vs) s2)) (value_meets first bound le s h (Take taken others goal ∷ work) values)
          (λ v s1 h1. given_later bound _ (moment (Gather (taken ++ v ∷ []) others goal ∷ work) values s1) (λ vs s2. moment (Gather (taken ++ vs) exprs.no_more goal ∷ work) values s2) _ (one _ _ (λ k. refl))
          (give_then bound _ (λ vs s2. moment (Gather ((taken ++ v ∷ []) ++ vs) exprs.no_more goal ∷ work) values s2) (λ vs s2. moment (Gather (taken ++ vs) exprs.no_more goal ∷ work) values s2) (values_of below p others s1)
          (λ vs s2. gives (v ∷ vs) s2) (values_meet others bound le s1 h1 (taken ++ v ∷ []) goal work values)
          (λ vs s2 h2. (h2, record { by = λ k. (k, omega arith, ap (λ (all : List ℤ). run p k (moment (Gather all exprs.no_more goal ∷ work) values s2)) (append_assoc taken (v ∷ []) vs)) })))))

    -- a loop that is tested
    turned_meets : (true_or_not : Bool) (point : ℕ) (condition : Expression) (body : Statements) (place : Place) (from : Moment) (bound : ℕ) (work : List Continuation) (values : List ℤ) (s : Store)
        → bound ≤ n → s.fuel ≤ bound
        → ((k : ℕ) → run p (suc k) from ≡ stepped (run p k) (turned_by true_or_not (While point condition body place) body place (moment work values s).config) (moment work values s))
        → ((left : ℕ) → left ≤ n → (s1 : Store) → s1.fuel ≤ left → FlowTo left (moment (Rest 0 0 body ∷ (Execute (While point condition body place) ∷ work)) values s1) (Execute (While point condition body place) ∷ work) values (done_all below p 0 0 body s1))
        → FlowTo bound from work values (turned true_or_not place (done_all below p 0 0 body) (below (While point condition body place)) s)
    turned_meets false point condition body place from bound work values s le h e inside = (h, one from _ e)
    turned_meets true point condition body place from bound work values s le h e inside =
        let again = While point condition body place in
        unit_done s.fuel bound s.cells s.vars s.calls s.accesses from place work values (λ c. on (to_do (Rest 0 0 body) (to_do (Execute again) c))) work values
        (λ unit s1. then_go (done_all below p 0 0 body s1) (below again)) e
        (λ left is e1. let s1 : Store = record s { fuel = left } in
        flow_weaker left bound from work values (then_go (done_all below p 0 0 body s1) (below again)) (omega (arith, is))
        (flow_later left from (moment (Rest 0 0 body ∷ (Execute again ∷ work)) values s1) work values (then_go (done_all below p 0 0 body s1) (below again)) (one from _ e1)
        (again_then left (moment (Rest 0 0 body ∷ (Execute again ∷ work)) values s1) again work values (done_all below p 0 0 body s1) (below again)
        (inside left (omega (arith, is)) s1 (omega arith))
        (λ s2 h2. meets.0 again s2 left h2 (omega (arith, is)) work values))))

    chosen_meets : (true_or_not : Bool) (block : ℕ) (body : Statements) (others : Arms) (from : Moment) (bound : ℕ) (work : List Continuation) (values : List ℤ) (s : Store)
        → ((k : ℕ) → run p (suc k) from ≡ stepped (run p k) (chosen_by true_or_not block (block + 1) body others (moment work values s).config) (moment work values s))
        → FlowTo bound (moment (Rest block 0 body ∷ work) values s) work values (done_all below p block 0 body s)
        → FlowTo bound (moment (Choose (block + 1) others ∷ work) values s) work values (done_arms below p (block + 1) others s)
        → FlowTo bound from work values (chosen true_or_not (done_all below p block 0 body s) (done_arms below p (block + 1) others s))
    chosen_meets true block body others from bound work values s e first second = flow_later bound from _ work values (done_all below p block 0 body s) (one from _ e) first
    chosen_meets false block body others from bound work values s e first second = flow_later bound from _ work values (done_arms below p (block + 1) others s) (one from _ e) second

    -- a value, and what a statement does with it
    use_value : (e : Expression) (task : Continuation) (from : Moment) (next : ℤ → Store → Flow) (bound : ℕ) → bound ≤ n → (s : Store) → s.fuel ≤ bound → (work : List Continuation) (values : List ℤ) (work' : List Continuation) (values' : List ℤ)
        → ((k : ℕ) → run p (suc k) from ≡ run p k (moment (Evaluate e ∷ (task ∷ work)) values s))
        → ((v : ℤ) (s1 : Store) → s1.fuel ≤ bound → FlowTo bound (moment (task ∷ work) (v ∷ values) s1) work' values' (next v s1))
        → FlowTo bound from work' values' (then_do (value_of below p e s) next)
    use_value e task from next bound le s h work values work' values' first then =
        flow_later bound from _ work' values' (then_do (value_of below p e s) next) (one from _ first)
        (do_then bound _ (λ v s1. moment (task ∷ work) (v ∷ values) s1) work' values' (value_of below p e s) next (value_meets e bound le s h (task ∷ work) values) then)

    mutual
      statement_meets : (stmt : Statement) (bound : ℕ) → bound ≤ n → (s : Store) → s.fuel ≤ bound → (work : List Continuation) (values : List ℤ)
          → FlowTo bound (moment (Execute stmt ∷ work) values s) work values (done_by below p stmt s)
      statement_meets (Block point body) bound le s h work values =
          flow_later bound _ _ work values (done_all below p 0 0 body s) (one _ _ (λ k. refl)) (all_meet body 0 0 bound le s h work values)
      statement_meets (Let point var value) bound le s h work values =
          use_value value (GiveVar var) _ _ bound le s h work values work values (λ k. refl) (λ v s1 h1. (h1, one _ _ (λ k. refl)))
      statement_meets (Set point var value) bound le s h work values =
          use_value value (GiveVar var) _ _ bound le s h work values work values (λ k. refl) (λ v s1 h1. (h1, one _ _ (λ k. refl)))
      statement_meets (SetCell point cell value place) bound le s h work values =
          use_value value (GiveCell cell) _ _ bound le s h work values work values (λ k. refl) (λ v s1 h1. (h1, one _ _ (λ k. refl)))
      statement_meets (SetArray point array index value place) bound le s h work values =
          flow_later bound _ (moment (Evaluate index ∷ (Evaluate value ∷ (GiveElement array place ∷ work))) values s) work values _ (one _ _ (λ k. refl))
          (do_then bound _ (λ v s1. moment (Evaluate value ∷ (GiveElement array place ∷ work)) (v ∷ values) s1) work values (value_of below p index s)
          (λ i s1. then_do (value_of below p value s1) (λ v s2. element_written (element_number p array i) (Index i) v place s2))
          (value_meets index bound le s h (Evaluate value ∷ (GiveElement array place ∷ work)) values)
          (λ i s1 h1. do_then bound _ (λ v s2. moment (GiveElement array place ∷ work) (v ∷ (i ∷ values)) s2) work values (value_of below p value s1)
          (λ v s2. element_written (element_number p array i) (Index i) v place s2) (value_meets value bound le s1 h1 (GiveElement array place ∷ work) (i ∷ values))
          (λ v s2 h2. written_meets bound _ place work values s2 (element_number p array i) (Index i) v h2 (λ k. refl))))
      statement_meets (SetGrid point array row column value place) bound le s h work values =
          flow_later bound _ (moment (Evaluate row ∷ (Evaluate column ∷ (Evaluate value ∷ (GiveGridElement array place ∷ work)))) values s) work values _ (one _ _ (λ k. refl))
          (do_then bound _ (λ v s1. moment (Evaluate column ∷ (Evaluate value ∷ (GiveGridElement array place ∷ work))) (v ∷ values) s1) work values (value_of below p row s)
          (λ i s1. then_do (value_of below p column s1) (λ j s2. then_do (value_of below p value s2) (λ v s3. element_written (grid_element_number p array i j) (GridIndex i j) v place s3)))
          (value_meets row bound le s h (Evaluate column ∷ (Evaluate value ∷ (GiveGridElement array place ∷ work))) values)
          (λ i s1 h1. do_then bound _ (λ v s2. moment (Evaluate value ∷ (GiveGridElement array place ∷ work)) (v ∷ (i ∷ values)) s2) work values (value_of below p column s1)
          (λ j s2. then_do (value_of below p value s2) (λ v s3. element_written (grid_element_number p array i j) (GridIndex i j) v place s3))
          (value_meets column bound le s1 h1 (Evaluate value ∷ (GiveGridElement array place ∷ work)) (i ∷ values))
          (λ j s2 h2. do_then bound _ (λ v s3. moment (GiveGridElement array place ∷ work) (v ∷ (j ∷ (i ∷ values))) s3) work values (value_of below p value s2)
          (λ v s3. element_written (grid_element_number p array i j) (GridIndex i j) v place s3) (value_meets value bound le s2 h2 (GiveGridElement array place ∷ work) (j ∷ (i ∷ values)))
          (λ v s3 h3. written_meets bound _ place work values s3 (grid_element_number p array i j) (GridIndex i j) v h3 (λ k. refl)))))
      statement_meets (If point arms) bound le s h work values =
          flow_later bound _ _ work values (done_arms below p 0 arms s) (one _ _ (λ k. refl)) (arms_meet arms 0 bound le s h work values)
      statement_meets (While point condition body place) bound le s h work values =
          use_value condition (Turn (While point condition body place) body place) _ _ bound le s h work values work values (λ k. refl)
          (λ v s1 h1. turned_meets (is_true v) point condition body place _ bound work values s1 le h1 (λ k. refl)
          (λ left small s2 h2. all_meet body 0 0 left small s2 h2 (Execute (While point condition body place) ∷ work) values))
      statement_meets (Return point None) bound le s h work values = (h, one _ _ (λ k. refl))
      statement_meets (Return point (Some value)) bound le s h work values =
          use_value value Unwind _ _ bound le s h work values work values (λ k. refl) (λ v s1 h1. (h1, stays _))
      statement_meets (Print point value place) bound le s h work values =
          use_value value (PrintValue place) _ _ bound le s h work values work values (λ k. refl)
          (λ v s1 h1. unit_done s1.fuel bound s1.cells s1.vars s1.calls s1.accesses _ place work values (λ c. (requests.Print v, c)) work values _ (λ k. refl)
          (λ left is e. (omega (arith, is, h1), one _ _ e)))
      statement_meets (Call point method args place) bound le s h work values =
          flow_later bound _ (moment (Gather [] args (goals.Enter method place) ∷ (Discard ∷ work)) values s) work values _ (one _ _ (λ k. refl))
          (do_then bound _ (λ vs s1. moment (Gather vs exprs.no_more (goals.Enter method place) ∷ (Discard ∷ work)) values s1) work values (values_of below p args s)
          (λ vs s1. then_do (called below p method vs place s1) (λ value s2. goes s2)) (values_meet args bound le s h [] (goals.Enter method place) (Discard ∷ work) values)
          (λ vs s1 h1. do_then bound _ (λ v s2. moment (Discard ∷ work) (v ∷ values) s2) work values (called below p method vs place s1) (λ value s2. goes s2)
          (called_meets method vs place bound (Discard ∷ work) values s1 le h1) (λ v s2 h2. (h2, one _ _ (λ k. refl)))))
      statement_meets (Make point future task args spawned future_place place) bound le s h work values =
          flow_later bound _ (moment (Gather [] args (goals.Make future task spawned place) ∷ work) values s) work values _ (one _ _ (λ k. refl))
          (do_then bound _ (λ vs s1. moment (Gather vs exprs.no_more (goals.Make future task spawned place) ∷ work) values s1) work values (values_of below p args s)
          (λ vs s1. then_do (unit_taken place s1) (λ unit s2. stops (operations.Make future task vs spawned place) [] s2))
          (values_meet args bound le s h [] (goals.Make future task spawned place) work values)
          (λ vs s1 h1. unit_done s1.fuel bound s1.cells s1.vars s1.calls s1.accesses _ place work values (λ c. on (to_do (Suspend (operations.Make future task vs spawned place) []) c)) work values _ (λ k. refl)
          (λ left is e. (omega (arith, is, h1), one _ _ e))))
      statement_meets (Wait point future join into place) bound le s h work values =
          unit_done s.fuel bound s.cells s.vars s.calls s.accesses _ place work values (λ c. on (to_do (Suspend (operations.Wait future join into) []) c)) work values _ (λ k. refl)
          (λ left is e. (omega (arith, is, h), one _ _ e))

      pub all_meet : (stmts : Statements) (block at bound : ℕ) → bound ≤ n → (s : Store) → s.fuel ≤ bound → (work : List Continuation) (values : List ℤ)
          → FlowTo bound (moment (Rest block at stmts ∷ work) values s) work values (done_all below p block at stmts s)
      all_meet no_more block at bound le s h work values = (h, one _ _ (λ k. refl))
      all_meet (statement first others) block at bound le s h work values =
          let under = rest_below (is_return first) block (at + 1) others work in
          flow_later bound _ (moment (Execute first ∷ under) values s) work values _ (one _ _ (λ k. refl))
          (below_then (is_return first) bound block (at + 1) _ others work values (done_by below p first s) (λ s1. done_all below p block (at + 1) others s1)
          (return_leaves below first s) (statement_meets first bound le s h under values)
          (λ s1 h1. all_meet others block (at + 1) bound le s1 h1 work values))

      arms_meet : (arms : Arms) (block bound : ℕ) → bound ≤ n → (s : Store) → s.fuel ≤ bound → (work : List Continuation) (values : List ℤ)
          → FlowTo bound (moment (Choose block arms ∷ work) values s) work values (done_arms below p block arms s)
      arms_meet no_else block bound le s h work values = (h, one _ _ (λ k. refl))
      arms_meet (otherwise body) block bound le s h work values =
          flow_later bound _ _ work values (done_all below p block 0 body s) (one _ _ (λ k. refl)) (all_meet body block 0 bound le s h work values)
      arms_meet (arm condition body others) block bound le s h work values =
          use_value condition (Chosen block (block + 1) body others) _ _ bound le s h work values work values (λ k. refl)
          (λ v s1 h1. chosen_meets (is_true v) block body others _ bound work values s1 (λ k. refl)
          (all_meet body block 0 bound le s1 h1 work values) (arms_meet others (block + 1) bound le s1 h1 work values))

  -- whatever the bound is
  pub within_meets : (n : ℕ) → Meets n (done_within p n)
  within_meets zero = (λ stmt s bound h lt work values. absurd (omega (arith, lt)), λ body s bound h lt work values. absurd (omega (arith, lt)))
  within_meets (suc n) = (
    λ stmt s bound h lt work values. statement_meets n (done_within p n) (within_meets n) stmt bound (omega (arith, lt)) s h work values,
    λ body s bound h lt work values. all_meet n (done_within p n) (within_meets n) body 0 0 bound (omega (arith, lt)) s h work values,
  )
