-- The arms of an `if` one after another.
use Rattle.std.proofs.Common.{◌≡◌, ℕ, ℤ, ◌+◌, Bool, true, false, Ok, Err, List, [], ◌∷◌, drop, Option, None, Some, ap, ◌∙◌}
use Rattle.twe_program.specs.declared.stmt.Arm.{Arm}
use Rattle.twe_program.specs.Program.{Program}
use Rattle.twe_program.specs.Statement.{Statements}
use Rattle.twe_program.specs.inner.StatementView.{arms_of}
use Rattle.seg_meaning.specs.declared.active.ActiveCall.{ActiveCall}
use Rattle.seg_exec.specs.declared.strides.value.Fault.{Fault}
use Rattle.seg_meaning.specs.Access.{Ways}
use Rattle.seg_meaning.specs.Arithmetic.{is_true}
use Rattle.seg_exec.specs.inner.steps.Continuations.{Config, Continuation, Chosen, Evaluate, Rest}
use Rattle.seg_exec.specs.inner.steps.Steps.{choosing, chosen_by}
use Rattle.seg_exec.specs.inner.strides.Assignments.{MayDo}
use Rattle.seg_exec.specs.inner.strides.Picking.{ComesTo, Picks, choosing_at, choosing_first}
use Rattle.seg_exec.specs.declared.strides.pick.Picked.TheVariants.{Nothing}
use Rattle.seg_exec.specs.inner.strides.Strides.{Ends, EvaluatesTo, Goes, MayEvaluate, fault_ending, stand}
use Rattle.seg_exec.proofs.strides.Strides.{ends_alike, may_near, may_then, near_goes, nears_more, nears_none, silent, then_goes}

module _ {C : Type 0} (p : Program) (ways : Ways C) (arms : List Arm) (last : Option Statements) (vars : List ℤ) where
  pub none_tried : (cells : C) → ComesTo p ways arms last vars cells 0 cells
  none_tried cells work operands fuel calls prints = nears_none p ways (stand (choosing_first arms last work) operands vars fuel calls cells prints)

  module _ (at : ℕ) (first : Arm) (is : drop at arms ≡ first ∷ drop (at + 1) arms) where
    -- what is done with the value of the condition
    abbrev after_condition : List Continuation → List Continuation
    after_condition work = Chosen at (at + 1) first.body (arms_of (drop (at + 1) arms) last) ∷ work

    to_condition : (work : List Continuation) (operands : List ℤ) (fuel : ℕ) (calls : List ActiveCall) (cells : C) (prints : List ℤ)
        → Goes p ways (stand (choosing_at at arms last work) operands vars fuel calls cells prints)
        (stand (Evaluate first.condition ∷ after_condition work) operands vars fuel calls cells prints)
    to_condition work operands fuel calls cells prints =
        silent p ways (stand (choosing_at at arms last work) operands vars fuel calls cells prints) _
        (ap (λ (l : List Arm). choosing at (arms_of l last) (record { work = work; operands = operands; vars = vars; fuel = fuel; calls = calls })) is)

    pub condition_may : (old cells : C) → MayDo p ways (choosing_first arms last) vars old → ComesTo p ways arms last vars old at cells → MayEvaluate p ways first.condition vars cells
    condition_may old cells m came = record {
      work = after_condition m.work;
      operands = m.operands;
      fuel = m.fuel;
      calls = m.calls;
      prints = m.prints;
      may = may_then p ways _ _ (may_near p ways _ _ m.may (came m.work m.operands m.fuel m.calls m.prints)) (to_condition m.work m.operands m.fuel m.calls cells m.prints);
    }

    pub condition_fault : (old mid new : C) (fault : Fault) → ComesTo p ways arms last vars old at mid → EvaluatesTo p ways first.condition vars mid (Err fault) new
        → (work : List Continuation) (operands : List ℤ) (fuel : ℕ) (calls : List ActiveCall) (prints : List ℤ)
        → Ends p ways (stand (choosing_first arms last work) operands vars fuel calls old prints) (fault_ending fault) (stand work operands vars fuel calls new prints)
    condition_fault old mid new fault came has work operands fuel calls prints =
        ends_alike p ways _ (fault_ending fault) (after_condition work) work operands operands vars fuel calls new prints
        (λ start r. has (after_condition work) operands fuel calls prints start
        ((to_condition work operands fuel calls mid prints).on start ((came work operands fuel calls prints).on start r)))

    to_choice : (mid new : C) (value : ℤ) → EvaluatesTo p ways first.condition vars mid (Ok value) new
        → (work : List Continuation) (operands : List ℤ) (fuel : ℕ) (calls : List ActiveCall) (prints : List ℤ)
        → Goes p ways (stand (choosing_at at arms last work) operands vars fuel calls mid prints) (stand (after_condition work) (value ∷ operands) vars fuel calls new prints)
    to_choice mid new value has work operands fuel calls prints =
        then_goes p ways _ _ _ (to_condition work operands fuel calls mid prints) (has (after_condition work) operands fuel calls prints)

    abbrev chosen_config : (work : List Continuation) (operands : List ℤ) (fuel : ℕ) (calls : List ActiveCall) → Config
    chosen_config work operands fuel calls = record { work = work; operands = operands; vars = vars; fuel = fuel; calls = calls }

    pub condition_true : (old mid new : C) (value : ℤ) → ComesTo p ways arms last vars old at mid → EvaluatesTo p ways first.condition vars mid (Ok value) new → is_true value ≡ true
        → (work : List Continuation) (operands : List ℤ) (fuel : ℕ) (calls : List ActiveCall) (prints : List ℤ)
        → Goes p ways (stand (choosing_first arms last work) operands vars fuel calls old prints) (stand (Rest at 0 first.body ∷ work) operands vars fuel calls new prints)
    condition_true old mid new value came has holds work operands fuel calls prints =
        near_goes p ways _ _ _ (came work operands fuel calls prints)
        (then_goes p ways _ _ _ (to_choice mid new value has work operands fuel calls prints)
        (silent p ways (stand (after_condition work) (value ∷ operands) vars fuel calls new prints) _
        (ap (λ (b : Bool). chosen_by b at (at + 1) first.body (arms_of (drop (at + 1) arms) last) (chosen_config work operands fuel calls)) holds)))

    pub condition_false : (old mid new : C) (value : ℤ) → ComesTo p ways arms last vars old at mid → EvaluatesTo p ways first.condition vars mid (Ok value) new → is_true value ≡ false
        → ComesTo p ways arms last vars old (at + 1) new
    condition_false old mid new value came has fails work operands fuel calls prints =
        nears_more p ways _ _ _ (came work operands fuel calls prints)
        (then_goes p ways _ _ _ (to_choice mid new value has work operands fuel calls prints)
        (silent p ways (stand (after_condition work) (value ∷ operands) vars fuel calls new prints) _
        (ap (λ (b : Bool). chosen_by b at (at + 1) first.body (arms_of (drop (at + 1) arms) last) (chosen_config work operands fuel calls)) fails)))

  module _ (at : ℕ) (is : drop at arms ≡ []) where
    no_arm_left : (work : List Continuation) (operands : List ℤ) (fuel : ℕ) (calls : List ActiveCall) → choosing at (arms_of (drop at arms) last) (record { work = work; operands = operands; vars = vars; fuel = fuel; calls = calls })
        ≡ choosing at (arms_of [] last) (record { work = work; operands = operands; vars = vars; fuel = fuel; calls = calls })
    no_arm_left work operands fuel calls = ap (λ (l : List Arm). choosing at (arms_of l last) (record { work = work; operands = operands; vars = vars; fuel = fuel; calls = calls })) is

    pub none_chosen : (old new : C) → last ≡ None → ComesTo p ways arms last vars old at new → Picks p ways arms last vars old Nothing new
    none_chosen old new none came work operands fuel calls prints =
        near_goes p ways _ _ _ (came work operands fuel calls prints)
        (silent p ways (stand (choosing_at at arms last work) operands vars fuel calls new prints) _
        (no_arm_left work operands fuel calls ∙ ap (λ (l : Option Statements). choosing at (arms_of [] l) (record { work = work; operands = operands; vars = vars; fuel = fuel; calls = calls })) none))

    pub last_chosen : (old new : C) (body : Statements) → last ≡ Some body → ComesTo p ways arms last vars old at new
        → (work : List Continuation) (operands : List ℤ) (fuel : ℕ) (calls : List ActiveCall) (prints : List ℤ)
        → Goes p ways (stand (choosing_first arms last work) operands vars fuel calls old prints) (stand (Rest at 0 body ∷ work) operands vars fuel calls new prints)
    last_chosen old new body some came work operands fuel calls prints =
        near_goes p ways _ _ _ (came work operands fuel calls prints)
        (silent p ways (stand (choosing_at at arms last work) operands vars fuel calls new prints) _
        (no_arm_left work operands fuel calls ∙ ap (λ (l : Option Statements). choosing at (arms_of [] l) (record { work = work; operands = operands; vars = vars; fuel = fuel; calls = calls })) some))
