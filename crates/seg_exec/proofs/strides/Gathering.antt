-- Arguments that are evaluated one after another.
use Rattle.std.proofs.Common.{◌≡◌, ℕ, ℤ, ◌+◌, ◌≤◌, ◌-◌, take, Ok, Err, List, [], ◌∷◌, ◌++◌, drop, length, refl, ap, sym, ◌∙◌, subst, arith}
use Rattle.std.proofs.lemmas.List.{drop-append-le, length-append, length-drop, take-append-le, take_all}
use Rattle.std.proofs.Math.Seq.{drop-append_seam, drop-length, take-append_seam, take-length}
use Rattle.twe_program.specs.Program.{Program}
use Rattle.twe_program.specs.Expression.{Expression, Arguments, arguments_of}
use Rattle.seg_exec.specs.declared.steps.continuation.Goal.{Goal}
use Rattle.seg_exec.specs.declared.strides.value.Fault.{Fault}
use Rattle.seg_meaning.specs.Access.{Ways}
use Rattle.seg_exec.specs.inner.steps.Continuations.{Config, Evaluate, Gather, Take, to_do, top, without_operand}
use Rattle.seg_exec.specs.declared.steps.machine.Machine.{Machine}
use Rattle.seg_exec.specs.inner.steps.Bodies.{Bodies, with_active}
use Rattle.seg_exec.specs.inner.steps.Reached.{Standing, standing, standing_before}
use Rattle.seg_exec.specs.inner.steps.Views.{config_of}
use Rattle.seg_exec.specs.inner.strides.Moving.{gathering_from}
use Rattle.seg_exec.specs.inner.steps.Steps.{gathering, on, worked}
use Rattle.seg_exec.specs.inner.strides.Strides.{Ends, EvaluatesTo, Goes, MayEvaluate, MayGo, doing, fault_ending}
use Rattle.seg_exec.proofs.strides.Performing.{placed}
use Rattle.seg_exec.proofs.strides.Strides.{ends_alike, may_then, silent, then_ends, then_goes}

-- before an argument
abbrev pub gather_at : {C : Type 0} → List ℤ → ℕ → List Expression → Goal → Standing C → Standing C
gather_at taken at args goal s = doing (Gather taken (arguments_of (drop at args)) goal) s

-- the slice from an element on
pub rest_of : (args : List Expression) (at : ℕ) → take (length args - at) (drop at args) ≡ drop at args
rest_of args at = let short : length (drop at args) ≤ length args - at = omega (arith, length-drop at args) in take_all (length args - at) (drop at args) short

module _ {C : Type 0} (p : Program) (ways : Ways C) (taken : List ℤ) (at : ℕ) (args : List Expression) (goal : Goal) (e : Expression) (is : drop at args ≡ e ∷ drop (at + 1) args) where
  to_argument : (config : Config) (cells : C) (prints : List ℤ)
      → Goes p ways (gather_at taken at args goal (placed config cells prints)) (doing (Evaluate e) (doing (Take taken (arguments_of (drop (at + 1) args)) goal) (placed config cells prints)))
  to_argument config cells prints =
      silent p ways (gather_at taken at args goal (placed config cells prints)) (to_do (Evaluate e) (to_do (Take taken (arguments_of (drop (at + 1) args)) goal) config))
      (ap (λ (l : List Expression). gathering p taken (arguments_of l) goal config) is)

  pub argument_may : (vars : List ℤ) (config : Config) (cells : C) (prints : List ℤ) → vars ≡ config.vars → MayGo p ways (gather_at taken at args goal (placed config cells prints)) → MayEvaluate p ways e vars cells
  argument_may vars config cells prints same may =
      subst (λ (vs : List ℤ). MayEvaluate p ways e vs cells) (sym same)
      (record {
        work = Take taken (arguments_of (drop (at + 1) args)) goal ∷ config.work;
        operands = config.operands;
        fuel = config.fuel;
        calls = config.calls;
        prints = prints;
        may = may_then p ways _ _ may (to_argument config cells prints);
      })

  pub argument_fault : (vars : List ℤ) (config : Config) (old new : C) (prints : List ℤ) (fault : Fault) → vars ≡ config.vars → EvaluatesTo p ways e vars old (Err fault) new
      → Ends p ways (gather_at taken at args goal (placed config old prints)) (fault_ending fault) (placed config new prints)
  argument_fault vars config old new prints fault same has =
      let h : EvaluatesTo p ways e config.vars old (Err fault) new = subst (λ (vs : List ℤ). EvaluatesTo p ways e vs old (Err fault) new) same has in
      let below = Take taken (arguments_of (drop (at + 1) args)) goal in
      ends_alike p ways _ (fault_ending fault) (below ∷ config.work) config.work config.operands config.operands config.vars config.fuel config.calls new prints
      (then_ends p ways _ _ _ _ (to_argument config old prints) (h (below ∷ config.work) config.operands config.fuel config.calls prints))

  pub argument_done : (vars : List ℤ) (config : Config) (old new : C) (prints : List ℤ) (value : ℤ) → vars ≡ config.vars → EvaluatesTo p ways e vars old (Ok value) new
      → Goes p ways (gather_at taken at args goal (placed config old prints)) (gather_at (taken ++ value ∷ []) (at + 1) args goal (placed config new prints))
  argument_done vars config old new prints value same has =
      let h : EvaluatesTo p ways e config.vars old (Ok value) new = subst (λ (vs : List ℤ). EvaluatesTo p ways e vs old (Ok value) new) same has in
      let below = Take taken (arguments_of (drop (at + 1) args)) goal in
      then_goes p ways _ _ _ (to_argument config old prints)
      (then_goes p ways _ _ _ (h (below ∷ config.work) config.operands config.fuel config.calls prints)
      (silent p ways (doing below (placed (record config { operands = value ∷ config.operands }) new prints)) (to_do (Gather (taken ++ value ∷ []) (arguments_of (drop (at + 1) args)) goal) config) refl))

-- the values of arguments among the variables of the active body
module _ {C : Type 0} (m : Machine) (goal : Goal) (cells : C) (prints : List ℤ) where
  -- before an argument, with these variables
  abbrev gather_with : ℕ → ℕ → List Expression → Bodies → Standing C
  gather_with count at args b = gather_at (drop count b.active) at args goal (standing_before count (record m { vars = b }) cells prints)

  -- one value more
  pub one_pushed : (count at : ℕ) (args : List Expression) (b : Bodies) (value : ℤ) → count ≤ length m.vars.active → b ≡ with_active (m.vars.active ++ value ∷ []) m.vars
      → gather_with count at args b ≡ gather_at (drop count m.vars.active ++ value ∷ []) at args goal (standing_before count m cells prints)
  one_pushed count at args b value within is =
      ap (gather_with count at args) is
      ∙ ap (λ (xs : List ℤ). gather_at xs at args goal (placed (record (config_of m) { vars = take count (m.vars.active ++ value ∷ []) }) cells prints)) (drop-append-le count m.vars.active (value ∷ []) within)
      ∙ ap (λ (xs : List ℤ). gather_at (drop count m.vars.active ++ value ∷ []) at args goal (placed (record (config_of m) { vars = xs }) cells prints)) (take-append-le count m.vars.active (value ∷ []) within)

  -- the values that were taken before
  pub all_pushed : (count : ℕ) (args : Arguments) (b : Bodies) (taken : List ℤ) → count ≡ length m.vars.active → b ≡ with_active (m.vars.active ++ taken) m.vars
      → gathering_from count args goal (record m { vars = b }) cells prints ≡ doing (Gather taken args goal) (standing m cells prints)
  all_pushed count args b taken many is =
      ap (λ (x : Bodies). gathering_from count args goal (record m { vars = x }) cells prints) is
      ∙ ap (λ (n : ℕ). gathering_from n args goal (record m { vars = with_active (m.vars.active ++ taken) m.vars }) cells prints) many
      ∙ ap (λ (xs : List ℤ). doing (Gather xs args goal) (placed (record (config_of m) { vars = take (length m.vars.active) (m.vars.active ++ taken) }) cells prints)) (drop-append_seam m.vars.active taken)
      ∙ ap (λ (xs : List ℤ). doing (Gather taken args goal) (placed (record (config_of m) { vars = xs }) cells prints)) (take-append_seam m.vars.active taken)

  -- no value was taken before
  pub none_pushed : (count : ℕ) (args : Arguments) → count ≡ length m.vars.active → gathering_from count args goal m cells prints ≡ doing (Gather [] args goal) (standing m cells prints)
  none_pushed count args many =
      ap (λ (n : ℕ). gathering_from n args goal m cells prints) many
      ∙ ap (λ (xs : List ℤ). doing (Gather xs args goal) (placed (record (config_of m) { vars = take (length m.vars.active) m.vars.active }) cells prints)) (drop-length m.vars.active)
      ∙ ap (λ (xs : List ℤ). doing (Gather [] args goal) (placed (record (config_of m) { vars = xs }) cells prints)) (take-length m.vars.active)

-- the variables that were there before a push are there
pub more_within : (old new : Bodies) (value : ℤ) (count : ℕ) → count ≤ length old.active → new ≡ with_active (old.active ++ value ∷ []) old → count ≤ length new.active
more_within old new value count within is =
    let many : length new.active ≡ length old.active + 1 = ap (λ (b : Bodies). length b.active) is ∙ length-append old.active (value ∷ []) in
    omega (arith, many, within)

-- the value of an argument is taken
pub took : (p : Program) (taken taken' : List ℤ) (args : Arguments) (goal : Goal) (old mid : Config) → taken' ≡ taken ++ top old.operands ∷ [] → mid ≡ without_operand old
    → worked p (Take taken args goal) old ≡ on (to_do (Gather taken' args goal) mid)
took p taken taken' args goal old mid is same =
    ap (λ (c : Config). on (to_do (Gather (taken ++ top old.operands ∷ []) args goal) c)) (sym same)
    ∙ ap (λ (xs : List ℤ). on (to_do (Gather xs args goal) mid)) (sym is)
