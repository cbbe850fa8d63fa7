-- Each step takes a unit of fuel or leaves less work.
use Rattle.std.proofs.Common.{◌≡◌, ℕ, ◌+◌, ◌-◌, ◌<◌, ◌≤◌, ℤ, Bool, true, false, cond, List, [], ◌∷◌, Option, None, Some, refl, sym, ap, ◌∙◌, subst, arith}
use Rattle.std.proofs.lemmas.Bool.{eqb-false, eqb-true, eq-eqb}
use Rattle.std.specs.Prelude.{length, nat_eq, nat_le, slice_get}
use Rattle.twe_base.specs.declared.place.Place.{Place}
use Rattle.twe_ast.specs.declared.expr.BinOp.{BinOp}
use Rattle.twe_base.specs.Language.{max_active_calls}
use Rattle.twe_program.specs.declared.program.Decl.{Decl}
use Rattle.twe_program.specs.Program.{Program}
use Rattle.twe_program.specs.Expression.{Expression, Literal, Truth, Variable, CellValue, ArrayElement, GridElement, CallValue, Negative, Negation, Binary, Arguments, argument}
use Rattle.twe_program.specs.Expression as exprs
use Rattle.twe_program.specs.Statement.{Statement, Block, Let, Set, SetCell, SetArray, SetGrid, If, While, Return, Print, Call, Make, Wait, Statements, no_more, statement, Arms, arm, otherwise, no_else}
use Rattle.seg_meaning.specs.declared.active.ActiveCall.{ActiveCall}
use Rattle.seg_meaning.specs.declared.frame.Position.{Position}
use Rattle.seg_meaning.specs.declared.operation.Operation.{Operation}
use Rattle.seg_exec.specs.declared.steps.request.Request.{Request}
use Rattle.seg_exec.specs.declared.steps.request.Request.TheVariants as requests
use Rattle.seg_exec.specs.declared.steps.continuation.Goal.{Goal}
use Rattle.seg_exec.specs.declared.steps.continuation.Goal.TheVariants as goals
use Rattle.seg_meaning.specs.Access.{Ways}
use Rattle.seg_meaning.specs.Arithmetic.{is_true, decided}
use Rattle.seg_exec.specs.inner.steps.Reached.{Standing, Served, Advances}
use Rattle.seg_exec.specs.inner.steps.Sizes.{size_of_expression, size_of_arguments, size_of_statement, size_of_all, size_of_arms, size_of_continuation, size_of_work}
use Rattle.seg_exec.specs.inner.steps.Continuations.{Continuation, Evaluate, Execute, Rest, Choose, Chosen, Turn, Gather, Take, Negate, Invert, Right, Apply, ReadElement, ReadGridElement, GiveVar, GiveCell, GiveElement, GiveGridElement, PrintValue, Discard, Unwind, Suspend, Leave, Config, top, without_operand}
use Rattle.seg_meaning.specs.declared.fault.FaultCause.{FaultCause}
use Rattle.seg_exec.specs.inner.steps.Steps.{Step, Recovery, ToCaller, OfBlock, NoRecovery, asked_unit, unit_or, chosen_by, turned_by, entered_by, gathered, gathering, right_by, applied, read_at, written_at, unwound, unwound_past, suspended, suspended_past, recovered_from, worked, evaluated, executed, is_return, rest_below, rested, choosing, step_by, step_of}

-- a step that is not the end has no more fuel, and, with as much fuel, less work
abbrev FallsIn : ℕ → ℕ → Request → Config → Type 0
FallsIn fuel size (requests.End ending) c = Unit {0}
FallsIn fuel size _ c = (c.fuel ≤ fuel) × (c.fuel ≡ fuel → size_of_work c.work < size)

abbrev Falls : ℕ → ℕ → Step → Type 0
Falls fuel size step = FallsIn fuel size step.0 step.1

-- a step that has less fuel
abbrev TakesIn : ℕ → Request → Config → Type 0
TakesIn fuel (requests.End ending) c = Unit {0}
TakesIn fuel _ c = c.fuel < fuel

falls_by_fuel : (fuel size : ℕ) (request : Request) (c : Config) → TakesIn fuel request c → FallsIn fuel size request c
falls_by_fuel fuel size (requests.End ending) c h = tt
falls_by_fuel fuel size requests.Nothing c h = (omega (arith, h), λ e. absurd (omega (arith, h, e)))
falls_by_fuel fuel size (requests.Read cell) c h = (omega (arith, h), λ e. absurd (omega (arith, h, e)))
falls_by_fuel fuel size (requests.Write cell value) c h = (omega (arith, h), λ e. absurd (omega (arith, h, e)))
falls_by_fuel fuel size (requests.Print value) c h = (omega (arith, h), λ e. absurd (omega (arith, h, e)))

unit_falls_by : (size : ℕ) (none : Bool) (place : Place) (c : Config) (next : Config → Step) → nat_eq c.fuel 0 ≡ none
    → ((left : ℕ) → left < c.fuel → TakesIn c.fuel (next (record c { fuel = left })).0 (next (record c { fuel = left })).1)
    → Falls c.fuel size (unit_or none place c next)
unit_falls_by size true place c next e h = tt
unit_falls_by size false place c next e h =
    let some : c.fuel ≡ 0 → ⊥ = eqb-false c.fuel 0 e in
    let less : c.fuel - 1 < c.fuel = omega (arith, some) in
    falls_by_fuel c.fuel size (next (record c { fuel = c.fuel - 1 })).0 (next (record c { fuel = c.fuel - 1 })).1 (h (c.fuel - 1) less)

unit_falls : (size : ℕ) (place : Place) (c : Config) (next : Config → Step)
    → ((left : ℕ) → left < c.fuel → TakesIn c.fuel (next (record c { fuel = left })).0 (next (record c { fuel = left })).1)
    → Falls c.fuel size (asked_unit place c next)
unit_falls size place c next h = unit_falls_by size (nat_eq c.fuel 0) place c next refl h

evaluated_falls : (p : Program) (e : Expression) (c : Config) → Falls c.fuel (size_of_expression e + size_of_work c.work) (evaluated p e c)
evaluated_falls p (Literal value) c = (omega arith, λ e. omega arith)
evaluated_falls p (Truth value) c = (omega arith, λ e. omega arith)
evaluated_falls p (Variable var fixed) c = (omega arith, λ e. omega arith)
evaluated_falls p (CellValue cell place) c = (omega arith, λ e. omega arith)
evaluated_falls p (ArrayElement array index place) c = (omega arith, λ e. omega arith)
evaluated_falls p (GridElement array row column place) c = (omega arith, λ e. omega arith)
evaluated_falls p (CallValue method args place) c = (omega arith, λ e. omega arith)
evaluated_falls p (Negative operand) c = (omega arith, λ e. omega arith)
evaluated_falls p (Negation operand) c = (omega arith, λ e. omega arith)
evaluated_falls p (Binary op left right place) c = (omega arith, λ e. omega arith)

executed_falls : (s : Statement) (c : Config) → Falls c.fuel (size_of_statement s + size_of_work c.work) (executed s c)
executed_falls (Block point body) c = (omega arith, λ e. omega arith)
executed_falls (Let point var value) c = (omega arith, λ e. omega arith)
executed_falls (Set point var value) c = (omega arith, λ e. omega arith)
executed_falls (SetCell point cell value place) c = (omega arith, λ e. omega arith)
executed_falls (SetArray point array index value place) c = (omega arith, λ e. omega arith)
executed_falls (SetGrid point array row column value place) c = (omega arith, λ e. omega arith)
executed_falls (If point arms) c = (omega arith, λ e. omega arith)
executed_falls (While point condition body place) c = (omega arith, λ e. omega arith)
executed_falls (Return point None) c = (omega arith, λ e. omega arith)
executed_falls (Return point (Some value)) c = (omega arith, λ e. omega arith)
executed_falls (Print point value place) c = (omega arith, λ e. omega arith)
executed_falls (Call point method args place) c = (omega arith, λ e. omega arith)
executed_falls (Make point future task args spawned future_place place) c = (omega arith, λ e. omega arith)
executed_falls (Wait point future join into place) c = unit_falls _ place c _ (λ left h. h)

below_size : (returning : Bool) (block at : ℕ) (others : Statements) (work : List Continuation) → size_of_work (rest_below returning block at others work) ≤ size_of_all others + 1 + size_of_work work
below_size true block at others work = omega arith
below_size false block at others work = omega arith

rested_falls : (block at : ℕ) (stmts : Statements) (c : Config) → Falls c.fuel (size_of_all stmts + 1 + size_of_work c.work) (rested block at stmts c)
rested_falls block at no_more c = (omega arith, λ e. omega arith)
rested_falls block at (statement first others) c =
    let less = below_size (is_return first) block (at + 1) others c.work in
    (omega arith, λ e. omega (arith, less))

choosing_falls : (block : ℕ) (arms : Arms) (c : Config) → Falls c.fuel (size_of_arms arms + 1 + size_of_work c.work) (choosing block arms c)
choosing_falls block (arm condition body others) c = (omega arith, λ e. omega arith)
choosing_falls block (otherwise body) c = (omega arith, λ e. omega arith)
choosing_falls block no_else c = (omega arith, λ e. omega arith)

chosen_falls : (yes : Bool) (block next : ℕ) (body : Statements) (others : Arms) (c : Config)
    → Falls c.fuel (size_of_all body + size_of_arms others + 3 + size_of_work c.work) (chosen_by yes block next body others c)
chosen_falls true block next body others c = (omega arith, λ e. omega arith)
chosen_falls false block next body others c = (omega arith, λ e. omega arith)

turned_falls : (yes : Bool) (again : Statement) (body : Statements) (place : Place) (c : Config) → Falls c.fuel (1 + size_of_work c.work) (turned_by yes again body place c)
turned_falls true again body place c = unit_falls _ place c _ (λ left h. h)
turned_falls false again body place c = (omega arith, λ e. omega arith)

entered_falls : (fuel : ℕ) (full : Bool) (decl : Option Decl) (args : List ℤ) (call : ActiveCall) (c : Config) → c.fuel < fuel → TakesIn fuel (entered_by full decl args call c).0 (entered_by full decl args call c).1
entered_falls fuel true decl args call c h = tt
entered_falls fuel false decl args call c h = h

gathered_falls : (p : Program) (args : List ℤ) (goal : Goal) (size : ℕ) (c : Config) → Falls c.fuel size (gathered p args goal c)
gathered_falls p args (goals.Enter method place) size c =
    unit_falls size place c _ (λ left h. entered_falls c.fuel (nat_le max_active_calls (length c.calls)) (slice_get p.methods method) args (record { method = method; place = place }) (record c { fuel = left }) h)
gathered_falls p args (goals.Make future task spawned place) size c = unit_falls size place c _ (λ left h. h)

gathering_falls : (p : Program) (taken : List ℤ) (args : Arguments) (goal : Goal) (c : Config) → Falls c.fuel (size_of_arguments args + 1 + size_of_work c.work) (gathering p taken args goal c)
gathering_falls p taken exprs.no_more goal c = gathered_falls p taken goal _ c
gathering_falls p taken (argument first others) goal c = (omega arith, λ e. omega arith)

right_falls : (value : Option ℤ) (op : BinOp) (left : ℤ) (right : Expression) (place : Place) (c : Config) → Falls c.fuel (size_of_expression right + 2 + size_of_work c.work) (right_by value op left right place c)
right_falls (Some value) op left right place c = (omega arith, λ e. omega arith)
right_falls None op left right place c = (omega arith, λ e. omega arith)

applied_falls : (value : Option ℤ) (place : Place) (c : Config) → Falls c.fuel (1 + size_of_work c.work) (applied value place c)
applied_falls None place c = tt
applied_falls (Some value) place c = (omega arith, λ e. omega arith)

read_falls : (cell : Option ℕ) (missing : FaultCause) (place : Place) (c : Config) → Falls c.fuel (1 + size_of_work c.work) (read_at cell missing place c)
read_falls None missing place c = tt
read_falls (Some cell) missing place c = (omega arith, λ e. omega arith)

written_falls : (cell : Option ℕ) (missing : FaultCause) (value : ℤ) (place : Place) (c : Config) → Falls c.fuel (1 + size_of_work c.work) (written_at cell missing value place c)
written_falls None missing value place c = tt
written_falls (Some cell) missing value place c = (omega arith, λ e. omega arith)

-- a continuation frame that is dropped is some work
some_work : (next : Continuation) → 0 < size_of_continuation next
some_work (Evaluate e) = some_expression e
  where
    some_expression : (e : Expression) → 0 < size_of_expression e
    some_expression (Literal value) = omega arith
    some_expression (Truth value) = omega arith
    some_expression (Variable var fixed) = omega arith
    some_expression (CellValue cell place) = omega arith
    some_expression (ArrayElement array index place) = omega arith
    some_expression (GridElement array row column place) = omega arith
    some_expression (CallValue method args place) = omega arith
    some_expression (Negative operand) = omega arith
    some_expression (Negation operand) = omega arith
    some_expression (Binary op left right place) = omega arith
some_work (Execute s) = some_statement s
  where
    some_statement : (s : Statement) → 0 < size_of_statement s
    some_statement (Block point body) = omega arith
    some_statement (Let point var value) = omega arith
    some_statement (Set point var value) = omega arith
    some_statement (SetCell point cell value place) = omega arith
    some_statement (SetArray point array index value place) = omega arith
    some_statement (SetGrid point array row column value place) = omega arith
    some_statement (If point arms) = omega arith
    some_statement (While point condition body place) = omega arith
    some_statement (Return point None) = omega arith
    some_statement (Return point (Some value)) = omega arith
    some_statement (Print point value place) = omega arith
    some_statement (Call point method args place) = omega arith
    some_statement (Make point future task args spawned future_place place) = omega arith
    some_statement (Wait point future join into place) = omega arith
some_work (Rest block at stmts) = omega arith
some_work (Choose block arms) = omega arith
some_work (Chosen block next body others) = omega arith
some_work (Gather taken args goal) = omega arith
some_work (Take taken args goal) = omega arith
some_work (Right op right place) = omega arith
some_work _ = omega arith

past_falls : (recovered : Recovery) (size : ℕ) (c : Config) → 0 < size → Falls c.fuel (1 + (size + size_of_work c.work)) (unwound_past recovered c)
past_falls (ToCaller vars) size c h = (omega arith, λ e. omega arith)
past_falls (OfBlock position) size c h = (omega arith, λ e. omega arith)
past_falls NoRecovery size c h = (omega arith, λ e. omega arith)

unwound_falls : (work : List Continuation) (c : Config) → Falls c.fuel (1 + size_of_work work) (unwound work c)
unwound_falls [] c = tt
unwound_falls (next ∷ work) c = past_falls (recovered_from next) (size_of_continuation next) (record c { work = work }) (some_work next)

stopped_falls : (recovered : Recovery) (operation : Operation) (positions : List Position) (size : ℕ) (c : Config) → 0 < size → Falls c.fuel (1 + (size + size_of_work c.work)) (suspended_past recovered operation positions c)
stopped_falls (ToCaller vars) operation positions size c h = (omega arith, λ e. omega arith)
stopped_falls (OfBlock position) operation positions size c h = (omega arith, λ e. omega arith)
stopped_falls NoRecovery operation positions size c h = (omega arith, λ e. omega arith)

suspended_falls : (operation : Operation) (positions : List Position) (work : List Continuation) (c : Config) → Falls c.fuel (1 + size_of_work work) (suspended operation positions work c)
suspended_falls operation positions [] c = tt
suspended_falls operation positions (next ∷ work) c = stopped_falls (recovered_from next) operation positions (size_of_continuation next) (record c { work = work }) (some_work next)

worked_falls : (p : Program) (next : Continuation) (c : Config) → Falls c.fuel (size_of_continuation next + size_of_work c.work) (worked p next c)
worked_falls p (Evaluate e) c = evaluated_falls p e c
worked_falls p (Execute s) c = executed_falls s c
worked_falls p (Rest block at stmts) c = rested_falls block at stmts c
worked_falls p (Choose block arms) c = choosing_falls block arms c
worked_falls p (Chosen block next body others) c = chosen_falls (is_true (top c.operands)) block next body others (without_operand c)
worked_falls p (Turn again body place) c = turned_falls (is_true (top c.operands)) again body place (without_operand c)
worked_falls p (Gather taken args goal) c = gathering_falls p taken args goal c
worked_falls p (Take taken args goal) c = (omega arith, λ e. omega arith)
worked_falls p Negate c = (omega arith, λ e. omega arith)
worked_falls p Invert c = (omega arith, λ e. omega arith)
worked_falls p (Right op right place) c = right_falls (decided op (is_true (top c.operands))) op (top c.operands) right place (without_operand c)
worked_falls p (Apply op place) c = applied_falls _ place (without_operand (without_operand c))
worked_falls p (ReadElement array place) c = read_falls _ _ place (without_operand c)
worked_falls p (ReadGridElement array place) c = read_falls _ _ place (without_operand (without_operand c))
worked_falls p (GiveVar var) c = (omega arith, λ e. omega arith)
worked_falls p (GiveCell cell) c = (omega arith, λ e. omega arith)
worked_falls p (GiveElement array place) c = written_falls _ _ _ place (without_operand (without_operand c))
worked_falls p (GiveGridElement array place) c = written_falls _ _ _ place (without_operand (without_operand (without_operand c)))
worked_falls p (PrintValue place) c = unit_falls _ place (without_operand c) _ (λ left h. h)
worked_falls p Discard c = (omega arith, λ e. omega arith)
worked_falls p Unwind c = unwound_falls c.work c
worked_falls p (Suspend operation positions) c = suspended_falls operation positions c.work c
worked_falls p (Leave vars) c = (omega arith, λ e. omega arith)

step_falls : (p : Program) (work : List Continuation) (c : Config) → Falls c.fuel (size_of_work work) (step_by p work c)
step_falls p [] c = tt
step_falls p (next ∷ work) c = worked_falls p next (record c { work = work })

-- the same once what is asked for was done
served_falls : {C : Type 0} (ways : Ways C) (fuel size : ℕ) (request : Request) (old new : Standing C) → FallsIn fuel size request old.config → Served ways request old None new
    → (new.config.fuel ≤ fuel) × (new.config.fuel ≡ fuel → size_of_work new.config.work < size)
served_falls ways fuel size requests.Nothing old new f h = subst (λ (c : Config). (c.fuel ≤ fuel) × (c.fuel ≡ fuel → size_of_work c.work < size)) (sym (ap (λ s. s.config) h.1)) f
served_falls ways fuel size (requests.Read cell) old new f h = subst (λ (c : Config). (c.fuel ≤ fuel) × (c.fuel ≡ fuel → size_of_work c.work < size)) (sym h.2) f
served_falls ways fuel size (requests.Write cell value) old new f h = subst (λ (c : Config). (c.fuel ≤ fuel) × (c.fuel ≡ fuel → size_of_work c.work < size)) (sym h.1) f
served_falls ways fuel size (requests.Print value) old new f h = subst (λ (c : Config). (c.fuel ≤ fuel) × (c.fuel ≡ fuel → size_of_work c.work < size)) (sym (ap (λ s. s.config) h.1)) f
served_falls ways fuel size (requests.End ending) old new f h = let none = h.0 in absurd (cc)

pub advance_falls : {C : Type 0} (p : Program) (ways : Ways C) (old new : Standing C) → Advances p ways old None new
    → (new.config.fuel ≤ old.config.fuel) × (new.config.fuel ≡ old.config.fuel → size_of_work new.config.work < size_of_work old.config.work)
advance_falls p ways old new h =
    served_falls ways old.config.fuel (size_of_work old.config.work) (step_of p old.config).0 (record old { config = (step_of p old.config).1 }) new (step_falls p old.config.work old.config) h

-- the measure falls: the work that is left while the fuel is as it was, and nothing once a unit was taken
measure_falls_by : (fuel old_size new old new_size : ℕ) (same : Bool) → nat_eq new fuel ≡ same → old ≡ fuel → new ≤ old → (new ≡ old → new_size < old_size)
    → cond same (new_size + 1) 0 < old_size + 1
measure_falls_by fuel old_size new old new_size true e is le less = let h = less (eqb-true new fuel e ∙ sym is) in omega (arith, h)
measure_falls_by fuel old_size new old new_size false e is le less = omega arith

pub measure_falls : (fuel old new old_size new_size : ℕ) → old ≡ fuel → new ≤ old → (new ≡ old → new_size < old_size)
    → cond (nat_eq new fuel) (new_size + 1) 0 < cond (nat_eq old fuel) (old_size + 1) 0
measure_falls fuel old new old_size new_size is le less =
    subst (λ (b : Bool). cond (nat_eq new fuel) (new_size + 1) 0 < cond b (old_size + 1) 0) (sym (eq-eqb old fuel is))
    (measure_falls_by fuel old_size new old new_size (nat_eq new fuel) refl is le less)
