-- The variables of the active body and of its callers in the state of a machine.
use Rattle.std.proofs.Common.{◌≡◌, ℕ, ℤ, List, ◌∷◌, take, refl, ap, sym, ◌∙◌}
use Rattle.seg_meaning.specs.declared.active.ActiveCall.{ActiveCall}
use Rattle.seg_meaning.specs.declared.frame.Position.{Position}
use Rattle.seg_meaning.specs.declared.operation.Operation.{Operation}
use Rattle.seg_exec.specs.declared.steps.continuation.Continuation.{Continuation as Held}
use Rattle.seg_exec.specs.declared.steps.continuation.Recovered.{Recovered}
use Rattle.seg_exec.specs.declared.steps.machine.Machine.{Machine}
use Rattle.seg_exec.specs.inner.steps.Bodies.{Bodies, with_active}
use Rattle.seg_exec.specs.inner.steps.Calls.{calls_above, calls_of}
use Rattle.seg_exec.specs.inner.steps.Continuations.{Config, Continuation}
use Rattle.seg_exec.specs.inner.steps.Steps.{Recovery, recovered_from, returned, returned_past, suspended, suspended_past, unwound, unwound_past}
use Rattle.seg_exec.specs.inner.steps.Views.{callers_below, callers_past, calls_past, config_before, config_of, continuation_of, continuations_of, recovery_of, returning_below, returning_past}

-- what is recovered from the frame on top of a machine
module _ (m : Machine) (work : Held) (rest : List Held) (r : Recovered) (top : m.work ≡ work ∷ rest)
    (recovery : (callers : List ℤ) → recovery_of callers r ≡ recovered_from (continuation_of callers work))
    (returning : (others : List Continuation) → returning_past r others ≡ returning_below work others)
    (below : (callers : List ℤ) → callers_past r callers ≡ callers_below work callers)
    (active : (calls : List ActiveCall) → calls_past r calls ≡ calls_above work calls) where
  -- the state of these frames, with these calls
  abbrev at_work : List Continuation → List ActiveCall → Config
  at_work frames calls = record (config_of m) { work = frames; calls = calls }

  -- the state below that frame
  abbrev pub config_past : Config
  config_past = at_work (returning_past r (continuations_of (callers_past r m.vars.callers) rest)) (calls_past r (calls_of rest))

  by_parts : {A : Type 0} (step : Recovery → Config → A) (whole : Config → A)
      → ((next : Continuation) (others : List Continuation) (calls : List ActiveCall) → whole (at_work (next ∷ others) calls) ≡ step (recovered_from next) (at_work others calls))
      → whole (config_of m) ≡ step (recovery_of m.vars.callers r) config_past
  by_parts step whole is =
      ap (λ (w : List Held). whole (at_work (continuations_of m.vars.callers w) (calls_of w))) top
      ∙ is (continuation_of m.vars.callers work) (returning_below work (continuations_of (callers_below work m.vars.callers) rest)) (calls_above work (calls_of rest))
      ∙ ap (λ (x : Recovery). step x (at_work (returning_below work (continuations_of (callers_below work m.vars.callers) rest)) (calls_above work (calls_of rest)))) (sym (recovery m.vars.callers))
      ∙ ap (λ (frames : List Continuation). step (recovery_of m.vars.callers r) (at_work frames (calls_above work (calls_of rest)))) (sym (returning (continuations_of (callers_below work m.vars.callers) rest)))
      ∙ ap (λ (cs : List ℤ). step (recovery_of m.vars.callers r) (at_work (returning_past r (continuations_of cs rest)) (calls_above work (calls_of rest)))) (sym (below m.vars.callers))
      ∙ ap (λ (calls : List ActiveCall). step (recovery_of m.vars.callers r) (at_work (returning_past r (continuations_of (callers_past r m.vars.callers) rest)) calls)) (sym (active (calls_of rest)))

  pub unwound_as : unwound (config_of m).work (config_of m) ≡ unwound_past (recovery_of m.vars.callers r) config_past
  unwound_as = by_parts unwound_past (λ c. unwound c.work c) (λ next others calls. refl)

  pub suspended_as : (operation : Operation) (positions : List Position)
      → suspended operation positions (config_of m).work (config_of m) ≡ suspended_past (recovery_of m.vars.callers r) operation positions config_past
  suspended_as operation positions =
      by_parts (λ x c. suspended_past x operation positions c) (λ c. suspended operation positions c.work c) (λ next others calls. refl)

  pub returned_as : returned (config_of m).work (config_of m) ≡ returned_past (recovery_of m.vars.callers r) config_past
      (returned config_past.work (record (config_of m) { calls = config_past.calls }))
  returned_as =
      by_parts (λ x c. returned_past x c (returned c.work (record (config_of m) { calls = c.calls }))) (λ c. returned c.work (record (config_of m) { calls = c.calls })) (λ next others calls. refl)

-- the active body has other variables
pub with_others : (m : Machine) (b : Bodies) → b.callers ≡ m.vars.callers → config_of (record m { vars = b }) ≡ record (config_of m) { vars = b.active }
with_others m b same = ap (λ (callers : List ℤ). record (config_of m) { work = continuations_of callers m.work; vars = b.active }) same

-- the active body has only its first variables
pub with_first : (m : Machine) (count : ℕ) (b : Bodies) → b ≡ with_active (take count m.vars.active) m.vars → config_of (record m { vars = b }) ≡ config_before count m
with_first m count b is = ap (λ (x : Bodies). config_of (record m { vars = x })) is
