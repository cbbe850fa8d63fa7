-- Assignments, by the steps that carry them out.
use Rattle.std.proofs.Common.{◌≡◌, false, ℕ, ℤ, Option, None, Some, Result, Ok, Err, List, ◌∷◌, refl, sym, subst}
use Rattle.std.specs.Prelude.{slice_set}
use Rattle.twe_base.specs.declared.place.Place.{Place}
use Rattle.twe_program.specs.Program.{Program}
use Rattle.twe_program.specs.Expression.{Expression}
use Rattle.twe_program.specs.Statement.{Statement}
use Rattle.seg_meaning.specs.declared.active.ActiveCall.{ActiveCall}
use Rattle.seg_exec.specs.declared.strides.assign.Carried.{Carried}
use Rattle.seg_exec.specs.declared.strides.assign.Carried.TheVariants.{Done, Faulted, Left}
use Rattle.seg_exec.specs.declared.strides.assign.Target.{Target}
use Rattle.seg_exec.specs.declared.strides.assign.Target.TheVariants.{Var, Cell}
use Rattle.seg_exec.specs.declared.strides.value.Fault.{Fault}
use Rattle.seg_meaning.specs.Access.{HasWritten, Ways}
use Rattle.seg_meaning.specs.Cells.{cell_number, element_number}
use Rattle.seg_exec.specs.inner.strides.Assignments.{Does, MayDo, MayWriteAt, Stays, WritesAt, executing, giving_to, to_element, to_target}
use Rattle.seg_exec.specs.inner.steps.Continuations.{Config, Continuation, Evaluate, GiveVar, GiveCell, GiveElement}
use Rattle.seg_exec.specs.inner.steps.Reached.{MayRequest, Served}
use Rattle.seg_meaning.specs.declared.fault.FaultCause.{FaultCause}
use Rattle.seg_meaning.specs.declared.fault.FaultCause.TheVariants.{Index}
use Rattle.seg_exec.specs.inner.steps.Steps.{Step, executed, is_return, on, step_of, written_at}
use Rattle.seg_exec.specs.inner.strides.Strides.{EvaluatesTo, Goes, MayEvaluate, fault_ending, stand}
use Rattle.seg_exec.proofs.strides.Strides.{ended, ends_alike, may_now, may_then, one_step, silent, then_ends, then_goes}

-- whatever became of a statement that is no return
pub stays_so : (s : Statement) (result : Carried) → is_return s ≡ false → Stays s result
stays_so s Done is = is
stays_so s (Faulted fault) is = tt
stays_so s Left is = tt

module _ {C : Type 0} (p : Program) (ways : Ways C) where
  -- the same with equal variables
  pub at_vars : (e : Expression) (vs vars : List ℤ) (old new : C) (result : Result ℤ Fault) → vs ≡ vars → EvaluatesTo p ways e vs old result new → EvaluatesTo p ways e vars old result new
  at_vars e vs vars old new result same h = subst (λ (xs : List ℤ). EvaluatesTo p ways e xs old result new) same h

  pub may_at_vars : (e : Expression) (vs vars : List ℤ) (cells : C) → vs ≡ vars → MayEvaluate p ways e vars cells → MayEvaluate p ways e vs cells
  may_at_vars e vs vars cells same m = subst (λ (xs : List ℤ). MayEvaluate p ways e xs cells) (sym same) m

  module _ (value : Expression) (target : Target) where
    pub target_may : (vars : List ℤ) (cells : C) → MayDo p ways (to_target value target) vars cells → MayEvaluate p ways value vars cells
    target_may vars cells m = record { work = giving_to target ∷ m.work; operands = m.operands; fuel = m.fuel; calls = m.calls; prints = m.prints; may = m.may }

    pub target_fault : (vars : List ℤ) (old new : C) (fault : Fault) → EvaluatesTo p ways value vars old (Err fault) new → Does p ways (to_target value target) vars old (Faulted fault) vars new
    target_fault vars old new fault h work operands fuel calls prints =
        ends_alike p ways _ (fault_ending fault) (giving_to target ∷ work) work operands operands vars fuel calls new prints (h (giving_to target ∷ work) operands fuel calls prints)

  pub var_done : (value : Expression) (var : ℕ) (vars : List ℤ) (old new : C) (v : ℤ) → EvaluatesTo p ways value vars old (Ok v) new → Does p ways (to_target value (Var var)) vars old Done (slice_set vars var v) new
  var_done value var vars old new v h work operands fuel calls prints =
      then_goes p ways _ _ _ (h (GiveVar var ∷ work) operands fuel calls prints) (silent p ways (stand (GiveVar var ∷ work) (v ∷ operands) vars fuel calls new prints) _ refl)

  module _ (value : Expression) (cell : ℕ) where
    pub cell_may_write : (vars : List ℤ) (old mid : C) (v : ℤ) → MayDo p ways (to_target value (Cell cell)) vars old → EvaluatesTo p ways value vars old (Ok v) mid → ways.may_write mid (cell_number p cell)
    cell_may_write vars old mid v m h =
        may_now p ways (stand (GiveCell cell ∷ m.work) (v ∷ m.operands) vars m.fuel m.calls mid m.prints) (may_then p ways _ _ m.may (h (GiveCell cell ∷ m.work) m.operands m.fuel m.calls m.prints))

    pub cell_done : (vars : List ℤ) (old mid new : C) (v : ℤ) → EvaluatesTo p ways value vars old (Ok v) mid → HasWritten ways mid (cell_number p cell) v new → Does p ways (to_target value (Cell cell)) vars old Done vars new
    cell_done vars old mid new v h has work operands fuel calls prints =
        then_goes p ways _ _ _ (h (GiveCell cell ∷ work) operands fuel calls prints)
        (one_step p ways (stand (GiveCell cell ∷ work) (v ∷ operands) vars fuel calls mid prints) (stand work operands vars fuel calls new prints) (refl, refl, has, refl))

  -- the step that writes an element
  may_write_at : (cell : Option ℕ) (missing : FaultCause) (value : ℤ) (place : Place) (cells : C) (config : Config) → MayRequest ways cells (written_at cell missing value place config).0 → MayWriteAt ways cells cell
  may_write_at None missing value place cells config h k is = absurd (cc)
  may_write_at (Some cell) missing value place cells config h k is = let same : cell ≡ k = cc in subst (λ (i : ℕ). ways.may_write cells i) same h

  module _ (index value : Expression) (array : ℕ) (place : Place) where
    pub index_may : (vars : List ℤ) (cells : C) → MayDo p ways (to_element index value array place) vars cells → MayEvaluate p ways index vars cells
    index_may vars cells m = record {
      work = Evaluate value ∷ (GiveElement array place ∷ m.work);
      operands = m.operands;
      fuel = m.fuel;
      calls = m.calls;
      prints = m.prints;
      may = m.may;
    }

    pub index_fault : (vars : List ℤ) (old new : C) (fault : Fault) → EvaluatesTo p ways index vars old (Err fault) new → Does p ways (to_element index value array place) vars old (Faulted fault) vars new
    index_fault vars old new fault h work operands fuel calls prints =
        ends_alike p ways _ (fault_ending fault) (Evaluate value ∷ (GiveElement array place ∷ work)) work operands operands vars fuel calls new prints
        (h (Evaluate value ∷ (GiveElement array place ∷ work)) operands fuel calls prints)

    pub value_may : (vars : List ℤ) (old mid : C) (i : ℤ) → MayDo p ways (to_element index value array place) vars old → EvaluatesTo p ways index vars old (Ok i) mid → MayEvaluate p ways value vars mid
    value_may vars old mid i m h = record {
      work = GiveElement array place ∷ m.work;
      operands = i ∷ m.operands;
      fuel = m.fuel;
      calls = m.calls;
      prints = m.prints;
      may = may_then p ways _ _ m.may (h (Evaluate value ∷ (GiveElement array place ∷ m.work)) m.operands m.fuel m.calls m.prints);
    }

    pub value_fault : (vars : List ℤ) (old mid new : C) (i : ℤ) (fault : Fault) → EvaluatesTo p ways index vars old (Ok i) mid → EvaluatesTo p ways value vars mid (Err fault) new
        → Does p ways (to_element index value array place) vars old (Faulted fault) vars new
    value_fault vars old mid new i fault h g work operands fuel calls prints =
        ends_alike p ways _ (fault_ending fault) (GiveElement array place ∷ work) work (i ∷ operands) operands vars fuel calls new prints
        (then_ends p ways _ _ _ _ (h (Evaluate value ∷ (GiveElement array place ∷ work)) operands fuel calls prints) (g (GiveElement array place ∷ work) (i ∷ operands) fuel calls prints))

    both : (vars : List ℤ) (old mid next : C) (i v : ℤ) → EvaluatesTo p ways index vars old (Ok i) mid → EvaluatesTo p ways value vars mid (Ok v) next
        → (work : List Continuation) (operands : List ℤ) (fuel : ℕ) (calls : List ActiveCall) (prints : List ℤ)
        → Goes p ways (stand (to_element index value array place work) operands vars fuel calls old prints) (stand (GiveElement array place ∷ work) (v ∷ (i ∷ operands)) vars fuel calls next prints)
    both vars old mid next i v h g work operands fuel calls prints =
        then_goes p ways _ _ _ (h (Evaluate value ∷ (GiveElement array place ∷ work)) operands fuel calls prints) (g (GiveElement array place ∷ work) (i ∷ operands) fuel calls prints)

    pub element_may_write : (vars : List ℤ) (old mid next : C) (i v : ℤ) → MayDo p ways (to_element index value array place) vars old → EvaluatesTo p ways index vars old (Ok i) mid → EvaluatesTo p ways value vars mid (Ok v) next
        → MayWriteAt ways next (element_number p array i)
    element_may_write vars old mid next i v m h g =
        may_write_at (element_number p array i) (Index i) v place next _
        (may_now p ways (stand (GiveElement array place ∷ m.work) (v ∷ (i ∷ m.operands)) vars m.fuel m.calls next m.prints)
        (may_then p ways _ _ m.may (both vars old mid next i v h g m.work m.operands m.fuel m.calls m.prints)))

    element_by : (cell : Option ℕ) (missing : FaultCause) (vars : List ℤ) (old mid next new : C) (i v : ℤ) (result : Carried) → EvaluatesTo p ways index vars old (Ok i) mid → EvaluatesTo p ways value vars mid (Ok v) next
        → ((work : List Continuation) (operands : List ℤ) (fuel : ℕ) (calls : List ActiveCall)
        → step_of p (record { work = GiveElement array place ∷ work; operands = v ∷ (i ∷ operands); vars = vars; fuel = fuel; calls = calls })
        ≡ written_at cell missing v place (record { work = work; operands = operands; vars = vars; fuel = fuel; calls = calls }))
        → WritesAt ways cell missing v place next result new → Does p ways (to_element index value array place) vars old result vars new
    element_by None missing vars old mid next new i v result h g is has =
        subst (λ (r : Carried). Does p ways (to_element index value array place) vars old r vars new) (sym has.0)
        (subst (λ (c : C). Does p ways (to_element index value array place) vars old (Faulted (record { cause = missing; place = place })) vars c) (sym has.1)
        (λ work operands fuel calls prints.
        then_ends p ways _ _ _ _ (both vars old mid next i v h g work operands fuel calls prints)
        (ended p ways (stand (GiveElement array place ∷ work) (v ∷ (i ∷ operands)) vars fuel calls next prints) _ _ (is work operands fuel calls))))
    element_by (Some cell) missing vars old mid next new i v result h g is has =
        subst (λ (r : Carried). Does p ways (to_element index value array place) vars old r vars new) (sym has.0)
        (λ work operands fuel calls prints.
        then_goes p ways _ _ _ (both vars old mid next i v h g work operands fuel calls prints)
        (one_step p ways (stand (GiveElement array place ∷ work) (v ∷ (i ∷ operands)) vars fuel calls next prints) (stand work operands vars fuel calls new prints)
        (subst (λ (step : Step). Served ways step.0 (record { config = step.1; cells = next; prints = prints }) None (stand work operands vars fuel calls new prints)) (sym (is work operands fuel calls))
        (refl, refl, has.1, refl))))

    pub element_done : (vars : List ℤ) (old mid next new : C) (i v : ℤ) (result : Carried) → EvaluatesTo p ways index vars old (Ok i) mid → EvaluatesTo p ways value vars mid (Ok v) next
        → WritesAt ways (element_number p array i) (Index i) v place next result new → Does p ways (to_element index value array place) vars old result vars new
    element_done vars old mid next new i v result h g has = element_by (element_number p array i) (Index i) vars old mid next new i v result h g (λ work operands fuel calls. refl) has

  -- a statement whose first step leads to these frames
  module _ (s : Statement) (tasks : List Continuation → List Continuation) where
    first_step : (vars : List ℤ) (cells : C)
        → ((c : Config) → executed s c ≡ on (record c { work = tasks c.work }))
        → (work : List Continuation) (operands : List ℤ) (fuel : ℕ) (calls : List ActiveCall) (prints : List ℤ)
        → Goes p ways (stand (executing s work) operands vars fuel calls cells prints) (stand (tasks work) operands vars fuel calls cells prints)
    first_step vars cells is work operands fuel calls prints =
        silent p ways (stand (executing s work) operands vars fuel calls cells prints) _ (is (record { work = work; operands = operands; vars = vars; fuel = fuel; calls = calls }))

    pub may_inside : (vars : List ℤ) (cells : C) → ((c : Config) → executed s c ≡ on (record c { work = tasks c.work })) → MayDo p ways (executing s) vars cells → MayDo p ways tasks vars cells
    may_inside vars cells is m = record {
      work = m.work;
      operands = m.operands;
      fuel = m.fuel;
      calls = m.calls;
      prints = m.prints;
      may = may_then p ways _ _ m.may (first_step vars cells is m.work m.operands m.fuel m.calls m.prints);
    }

    pub does_inside : (vars vars' : List ℤ) (old new : C) (result : Carried) → ((c : Config) → executed s c ≡ on (record c { work = tasks c.work }))
        → Does p ways tasks vars old result vars' new → Does p ways (executing s) vars old result vars' new
    does_inside vars vars' old new Done is h = λ work operands fuel calls prints.
        then_goes p ways _ _ _ (first_step vars old is work operands fuel calls prints) (h work operands fuel calls prints)
    does_inside vars vars' old new (Faulted fault) is h = λ work operands fuel calls prints.
        then_ends p ways _ _ _ _ (first_step vars old is work operands fuel calls prints) (h work operands fuel calls prints)
    does_inside vars vars' old new Left is h = h
