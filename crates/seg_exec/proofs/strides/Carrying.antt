-- Assignments of a block one after another.
use Rattle.std.proofs.Common.{◌≡◌, false, ℕ, ℤ, ◌+◌, List, [], ◌∷◌, drop, sym, subst}
use Rattle.twe_program.specs.Program.{Program}
use Rattle.twe_program.specs.Statement.{Statement}
use Rattle.seg_meaning.specs.declared.active.ActiveCall.{ActiveCall}
use Rattle.seg_exec.specs.declared.steps.machine.Machine.{Machine}
use Rattle.seg_exec.specs.declared.steps.request.Ending.{Ending}
use Rattle.seg_exec.specs.declared.strides.assign.Carried.TheVariants as carried
use Rattle.seg_exec.specs.declared.strides.carry.CarriedOut.TheVariants.{Done, Faulted}
use Rattle.seg_exec.specs.declared.strides.value.Fault.{Fault}
use Rattle.seg_meaning.specs.Access.{Ways}
use Rattle.seg_exec.specs.inner.steps.Bodies.{Bodies}
use Rattle.seg_exec.specs.inner.steps.Continuations.{Config, Continuation}
use Rattle.seg_exec.specs.inner.steps.Reached.{standing}
use Rattle.seg_exec.specs.inner.steps.Steps.{is_return}
use Rattle.seg_exec.specs.inner.steps.Views.{config_of}
use Rattle.seg_exec.specs.inner.strides.Assignments.{Does, MayDo, executing}
use Rattle.seg_exec.specs.inner.strides.Carrying.{CarriesOut, ComesBefore, MayCarry, resting}
use Rattle.seg_exec.specs.inner.strides.Strides.{Ends, Goes, MayGo, Nears, fault_ending, stand}
use Rattle.seg_exec.proofs.steps.Callers.{with_others}
use Rattle.seg_exec.proofs.strides.GoingOn.{done_first, faulted_first, may_first, none_left, rest_at, with_vars}
use Rattle.seg_exec.proofs.strides.Performing.{placed}
use Rattle.seg_exec.proofs.strides.Strides.{may_near, near_goes, nears_more, nears_none}

-- a configuration by its parts
abbrev parts : List Continuation → List ℤ → List ℤ → ℕ → List ActiveCall → Config
parts work operands vars fuel calls = record { work = work; operands = operands; vars = vars; fuel = fuel; calls = calls }

module _ {C : Type 0} (p : Program) (ways : Ways C) (at : ℕ) (stmts : List Statement) where
  pub may_carry : (block : ℕ) (config : Config) (cells : C) (prints : List ℤ) → MayGo p ways (rest_at block at stmts (placed config cells prints)) → MayCarry p ways at stmts config.vars cells
  may_carry block config cells prints may = record {
    block = block;
    may = record { work = config.work; operands = config.operands; fuel = config.fuel; calls = config.calls; prints = prints; may = may };
  }

  module _ (vars : List ℤ) (old : C) where
    pub none_done : ComesBefore p ways at stmts vars old at vars old
    none_done block work operands fuel calls prints = nears_none p ways (stand (resting block at stmts work) operands vars fuel calls old prints)

    module _ (next : ℕ) (now : List ℤ) (mid : C) (came : ComesBefore p ways at stmts vars old next now mid) where
      pub all_done : drop next stmts ≡ [] → CarriesOut p ways at stmts vars old Done now mid
      all_done is block work operands fuel calls prints =
          near_goes p ways _ _ _ (came block work operands fuel calls prints) (none_left p ways block next stmts (parts work operands now fuel calls) mid prints is)

      -- nothing has changed
      pub next_left : (vars' : List ℤ) (new : C) → (vars' ≡ now) × (new ≡ mid) → ComesBefore p ways at stmts vars old next vars' new
      next_left vars' new same =
          subst (λ (vs : List ℤ). ComesBefore p ways at stmts vars old next vs new) (sym same.0)
          (subst (λ (c : C). ComesBefore p ways at stmts vars old next now c) (sym same.1) came)

      module _ (s : Statement) (is : drop next stmts ≡ s ∷ drop (next + 1) stmts) where
        pub next_may : MayCarry p ways at stmts vars old → MayDo p ways (executing s) now mid
        next_may m =
            may_first p ways m.block next stmts s is (parts m.may.work m.may.operands now m.may.fuel m.may.calls) mid m.may.prints
            (may_near p ways _ _ m.may.may (came m.block m.may.work m.may.operands m.may.fuel m.may.calls m.may.prints))

        pub next_done : is_return s ≡ false → (vars' : List ℤ) (new : C) → Does p ways (executing s) now mid carried.Done vars' new → ComesBefore p ways at stmts vars old (next + 1) vars' new
        next_done stays vars' new h block work operands fuel calls prints =
            nears_more p ways _ _ _ (came block work operands fuel calls prints) (done_first p ways block next stmts s is stays (parts work operands now fuel calls) vars' mid new prints h)

        pub next_fault : (vars' : List ℤ) (new : C) (fault : Fault) → Does p ways (executing s) now mid (carried.Faulted fault) vars' new → CarriesOut p ways at stmts vars old (Faulted fault) vars' new
        next_fault vars' new fault h block work operands fuel calls prints start r =
            faulted_first p ways block next stmts s is (parts work operands now fuel calls) vars' mid new prints fault h start ((came block work operands fuel calls prints).on start r)

  -- the same from a machine on
  module _ (block : ℕ) (m : Machine) (b : Bodies) (old new : C) (prints : List ℤ) (same : b.callers ≡ m.vars.callers) where
    pub carried_out : CarriesOut p ways at stmts m.vars.active old Done b.active new → Goes p ways (rest_at block at stmts (standing m old prints)) (standing (record m { vars = b }) new prints)
    carried_out h =
        subst (λ (c : Config). Goes p ways (rest_at block at stmts (standing m old prints)) (placed c new prints)) (sym (with_others m b same))
        (h block (config_of m).work m.operands m.fuel (config_of m).calls prints)

    pub fault_met : (fault : Fault) (ending : Ending) → ending ≡ fault_ending fault → CarriesOut p ways at stmts m.vars.active old (Faulted fault) b.active new
        → Ends p ways (rest_at block at stmts (standing m old prints)) ending (standing (record m { vars = b }) new prints)
    fault_met fault ending is h =
        subst (λ (c : Config). Ends p ways (rest_at block at stmts (standing m old prints)) ending (placed c new prints)) (sym (with_others m b same))
        (subst (λ (e : Ending). Ends p ways (rest_at block at stmts (standing m old prints)) e (placed (with_vars b.active (config_of m)) new prints)) (sym is)
        (h block (config_of m).work m.operands m.fuel (config_of m).calls prints))

    pub come_before : (next : ℕ) → ComesBefore p ways at stmts m.vars.active old next b.active new
        → Nears p ways (rest_at block at stmts (standing m old prints)) (rest_at block next stmts (standing (record m { vars = b }) new prints))
    come_before next h =
        subst (λ (c : Config). Nears p ways (rest_at block at stmts (standing m old prints)) (rest_at block next stmts (placed c new prints))) (sym (with_others m b same))
        (h block (config_of m).work m.operands m.fuel (config_of m).calls prints)
