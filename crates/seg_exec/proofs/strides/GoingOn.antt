-- The statements of a block one after another.
use Rattle.std.proofs.Common.{◌≡◌, ℕ, suc, ℤ, ◌+◌, ◌<◌, List, [], ◌∷◌, drop, length, get_or, Bool, false, refl, sym, ap, ◌∙◌, arith}
use Rattle.std.proofs.Math.Seq.{drop-cons}
use Rattle.twe_program.specs.Program.{Program}
use Rattle.twe_program.specs.Statement.{Statement, statements_of}
use Rattle.seg_exec.specs.declared.strides.assign.Carried.TheVariants.{Done, Faulted}
use Rattle.seg_exec.specs.declared.strides.value.Fault.{Fault}
use Rattle.seg_meaning.specs.Access.{Ways}
use Rattle.seg_exec.specs.inner.strides.Assignments.{Does, MayDo, executing}
use Rattle.seg_exec.specs.inner.steps.Continuations.{Config, Execute, Rest, to_do}
use Rattle.seg_exec.specs.inner.steps.Reached.{Standing}
use Rattle.seg_exec.specs.inner.steps.Steps.{executed, is_return, on, rest_below, rested, with_rest}
use Rattle.seg_exec.specs.inner.strides.Strides.{Ends, Goes, MayGo, doing, fault_ending}
use Rattle.seg_exec.proofs.strides.Performing.{placed}
use Rattle.seg_exec.proofs.strides.Strides.{ends_alike, may_then, silent, then_ends, then_goes}

-- before a statement of a block
abbrev pub rest_at : {C : Type 0} → ℕ → ℕ → List Statement → Standing C → Standing C
rest_at block at stmts s = doing (Rest block at (statements_of (drop at stmts))) s

-- the variables after an assignment
abbrev pub with_vars : List ℤ → Config → Config
with_vars vars c = record c { vars = vars }

-- an element of a list, before those after it
pub next_is : {A : Type 0} → (items : List A) (at : ℕ) (item : A) → at < length items → item ≡ get_or items at item → drop at items ≡ item ∷ drop (at + 1) items
next_is {A = A} items at item within is =
    let same : suc at ≡ at + 1 = omega arith in
    drop-cons items at item within ∙ ap (λ (x : A). x ∷ drop (suc at) items) (sym is) ∙ ap (λ (n : ℕ). item ∷ drop n items) same

module _ {C : Type 0} (p : Program) (ways : Ways C) (block at : ℕ) (stmts : List Statement) where
  -- no statement is left
  pub none_left : (config : Config) (cells : C) (prints : List ℤ) → drop at stmts ≡ []
      → Goes p ways (rest_at block at stmts (placed config cells prints)) (placed config cells prints)
  none_left config cells prints is =
      silent p ways (rest_at block at stmts (placed config cells prints)) config (ap (λ (l : List Statement). rested block at (statements_of l) config) is)

  module _ (s : Statement) (is : drop at stmts ≡ s ∷ drop (at + 1) stmts) where
    pub first : (returning : Bool) → is_return s ≡ returning → (config : Config) (cells : C) (prints : List ℤ)
        → Goes p ways (rest_at block at stmts (placed config cells prints)) (doing (Execute s) (placed (with_rest returning block (at + 1) (statements_of (drop (at + 1) stmts)) config) cells prints))
    first returning same config cells prints =
        silent p ways (rest_at block at stmts (placed config cells prints)) (to_do (Execute s) (with_rest returning block (at + 1) (statements_of (drop (at + 1) stmts)) config))
        (ap (λ (l : List Statement). rested block at (statements_of l) config) is
        ∙ ap (λ (b : Bool). on (to_do (Execute s) (with_rest b block (at + 1) (statements_of (drop (at + 1) stmts)) config))) same)

    -- the first step of the statement
    pub into : (returning : Bool) → is_return s ≡ returning → (tasks : Config → Config) → ((c : Config) → executed s c ≡ on (tasks c)) → (config : Config) (cells : C) (prints : List ℤ)
        → Goes p ways (rest_at block at stmts (placed config cells prints)) (placed (tasks (with_rest returning block (at + 1) (statements_of (drop (at + 1) stmts)) config)) cells prints)
    into returning same tasks is-first config cells prints =
        let under = with_rest returning block (at + 1) (statements_of (drop (at + 1) stmts)) config in
        then_goes p ways _ _ _ (first returning same config cells prints)
        (silent p ways (doing (Execute s) (placed under cells prints)) (tasks under) (is-first under))

    pub may_first : (config : Config) (cells : C) (prints : List ℤ) → MayGo p ways (rest_at block at stmts (placed config cells prints)) → MayDo p ways (executing s) config.vars cells
    may_first config cells prints may = record {
      work = rest_below (is_return s) block (at + 1) (statements_of (drop (at + 1) stmts)) config.work;
      operands = config.operands;
      fuel = config.fuel;
      calls = config.calls;
      prints = prints;
      may = may_then p ways _ _ may (first (is_return s) refl config cells prints);
    }

    pub done_first : is_return s ≡ false → (config : Config) (vars : List ℤ) (old new : C) (prints : List ℤ) → Does p ways (executing s) config.vars old Done vars new
        → Goes p ways (rest_at block at stmts (placed config old prints)) (rest_at block (at + 1) stmts (placed (with_vars vars config) new prints))
    done_first stays config vars old new prints h =
        then_goes p ways _ _ _ (first false stays config old prints) (h (Rest block (at + 1) (statements_of (drop (at + 1) stmts)) ∷ config.work) config.operands config.fuel config.calls prints)

    pub faulted_first : (config : Config) (vars : List ℤ) (old new : C) (prints : List ℤ) (fault : Fault) → Does p ways (executing s) config.vars old (Faulted fault) vars new
        → Ends p ways (rest_at block at stmts (placed config old prints)) (fault_ending fault) (placed (with_vars vars config) new prints)
    faulted_first config vars old new prints fault h =
        let under = rest_below (is_return s) block (at + 1) (statements_of (drop (at + 1) stmts)) config.work in
        ends_alike p ways _ (fault_ending fault) under config.work config.operands config.operands vars config.fuel config.calls new prints
        (then_ends p ways _ _ _ _ (first (is_return s) refl config old prints) (h under config.operands config.fuel config.calls prints))
