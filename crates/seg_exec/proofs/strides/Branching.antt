-- The branch of an `if`, before what follows in the block around it.
use Rattle.std.proofs.Common.{◌≡◌, ℕ, List, ◌∷◌, drop, Option, Some, refl, sym, ◌∙◌, subst}
use Rattle.std.specs.Prelude.{ℤ}
use Rattle.twe_program.specs.declared.stmt.Arm.{Arm}
use Rattle.twe_program.specs.Program.{Program}
use Rattle.twe_program.specs.Expression.{Expression}
use Rattle.twe_program.specs.Statement.{Return, Statements, statement}
use Rattle.twe_program.specs.inner.StatementView.{arms_of}
use Rattle.seg_meaning.specs.declared.active.ActiveCall.{ActiveCall}
use Rattle.seg_exec.specs.declared.steps.request.Ending.{Ending}
use Rattle.seg_exec.specs.declared.strides.pick.Picked.{Picked}
use Rattle.seg_exec.specs.declared.strides.value.Fault.{Fault}
use Rattle.seg_meaning.specs.Access.{Ways}
use Rattle.seg_exec.specs.inner.steps.Continuations.{Config, Continuation, Choose, Evaluate, Execute, Rest, Unwind, to_do}
use Rattle.seg_exec.specs.inner.steps.Reached.{Standing}
use Rattle.seg_exec.specs.inner.strides.Assignments.{MayDo}
use Rattle.seg_exec.specs.inner.strides.Picking.{ComesTo, Picks, choosing_first}
use Rattle.seg_exec.specs.inner.strides.Plainly.{ReturnsPlain}
use Rattle.seg_exec.specs.inner.strides.Strides.{Ends, Goes, MayGo, Nears, doing, fault_ending, stand}
use Rattle.seg_exec.proofs.strides.Performing.{placed}
use Rattle.seg_exec.proofs.strides.Strides.{ends_alike, silent, then_goes}

module _ {C : Type 0} (p : Program) (ways : Ways C) (arms : List Arm) (last : Option Statements) (rest : Continuation) where
  -- before the arms, with the rest of the block below them
  abbrev pub before : Config → C → List ℤ → Standing C
  before config cells prints = doing (Choose 0 (arms_of arms last)) (doing rest (placed config cells prints))

  pub may_pick : (vars : List ℤ) (config : Config) (cells : C) (prints : List ℤ) → vars ≡ config.vars → MayGo p ways (before config cells prints) → MayDo p ways (choosing_first arms last) vars cells
  may_pick vars config cells prints same may =
      subst (λ (vs : List ℤ). MayDo p ways (choosing_first arms last) vs cells) (sym same)
      (record { work = rest ∷ config.work; operands = config.operands; fuel = config.fuel; calls = config.calls; prints = prints; may = may })

  -- the same with equal variables
  pub picks_at : (vars vars' : List ℤ) (old new : C) (picked : Picked) → vars ≡ vars' → Picks p ways arms last vars old picked new → Picks p ways arms last vars' old picked new
  picks_at vars vars' old new picked same h = subst (λ (vs : List ℤ). Picks p ways arms last vs old picked new) same h

  module _ (config : Config) (old new : C) (prints : List ℤ) where
    pub fault_picked : (fault : Fault) (ending : Ending) → ending ≡ fault_ending fault
        → ((work : List Continuation) (operands : List ℤ) (fuel : ℕ) (calls : List ActiveCall) (prints : List ℤ)
        → Ends p ways (stand (choosing_first arms last work) operands config.vars fuel calls old prints) (fault_ending fault) (stand work operands config.vars fuel calls new prints))
        → Ends p ways (before config old prints) ending (placed config new prints)
    fault_picked fault ending is h =
        subst (λ (e : Ending). Ends p ways (before config old prints) e (placed config new prints)) (sym is)
        (ends_alike p ways (before config old prints) (fault_ending fault) (rest ∷ config.work) config.work config.operands config.operands config.vars config.fuel config.calls new prints
        (h (rest ∷ config.work) config.operands config.fuel config.calls prints))

    pub nothing_picked : ((work : List Continuation) (operands : List ℤ) (fuel : ℕ) (calls : List ActiveCall) (prints : List ℤ)
        → Goes p ways (stand (choosing_first arms last work) operands config.vars fuel calls old prints) (stand work operands config.vars fuel calls new prints))
        → Goes p ways (before config old prints) (doing rest (placed config new prints))
    nothing_picked h = h (rest ∷ config.work) config.operands config.fuel config.calls prints

    pub body_picked : (number : ℕ) (body : Statements) (mid : Config) → mid ≡ to_do rest config
        → ((work : List Continuation) (operands : List ℤ) (fuel : ℕ) (calls : List ActiveCall) (prints : List ℤ)
        → Goes p ways (stand (choosing_first arms last work) operands config.vars fuel calls old prints) (stand (Rest number 0 body ∷ work) operands config.vars fuel calls new prints))
        → Goes p ways (before config old prints) (doing (Rest number 0 body) (placed mid new prints))
    body_picked number body mid is h =
        subst (λ (c : Config). Goes p ways (before config old prints) (doing (Rest number 0 body) (placed c new prints))) (sym is)
        (h (rest ∷ config.work) config.operands config.fuel config.calls prints)

    -- the block that is picked returns a value at once
    pub value_picked : (number : ℕ) (body inner : Statements) (e : Expression) → body ≡ inner → ReturnsPlain inner e
        → ((work : List Continuation) (operands : List ℤ) (fuel : ℕ) (calls : List ActiveCall) (prints : List ℤ)
        → Goes p ways (stand (choosing_first arms last work) operands config.vars fuel calls old prints) (stand (Rest number 0 body ∷ work) operands config.vars fuel calls new prints))
        → Goes p ways (before config old prints) (doing (Evaluate e) (doing Unwind (doing rest (placed config new prints))))
    value_picked number body inner e same (plain, point, others, is) h =
        let under : Config = to_do rest config in
        let end : Standing C = doing (Evaluate e) (doing Unwind (placed under new prints)) in
        then_goes p ways (before config old prints) (doing (Rest number 0 body) (placed under new prints)) end
        (body_picked number body under refl h)
        (subst (λ (s : Statements). Goes p ways (doing (Rest number 0 s) (placed under new prints)) end) (sym (same ∙ is))
        (then_goes p ways (doing (Rest number 0 (statement (Return point (Some e)) others)) (placed under new prints)) (doing (Execute (Return point (Some e))) (placed under new prints)) end
        (silent p ways (doing (Rest number 0 (statement (Return point (Some e)) others)) (placed under new prints)) (to_do (Execute (Return point (Some e))) under) refl)
        (silent p ways (doing (Execute (Return point (Some e))) (placed under new prints)) (to_do (Evaluate e) (to_do Unwind under)) refl)))

    pub arms_left : (at : ℕ) (mid : Config) → mid ≡ to_do rest config → ComesTo p ways arms last config.vars old at new
        → Nears p ways (before config old prints) (doing (Choose at (arms_of (drop at arms) last)) (placed mid new prints))
    arms_left at mid is h =
        subst (λ (c : Config). Nears p ways (before config old prints) (doing (Choose at (arms_of (drop at arms) last)) (placed c new prints))) (sym is)
        (h (rest ∷ config.work) config.operands config.fuel config.calls prints)
