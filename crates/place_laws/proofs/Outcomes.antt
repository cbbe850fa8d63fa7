-- States that are equal but for the place of the first fault have the same outcome, but for that place.
use Rattle.std.proofs.Common.{◌≡◌, Option, None, Some, refl, sym, ap, ◌∙◌, subst}
use Rattle.std.specs.Prelude.{option_map}
use Rattle.machine_state.specs.declared.ending.Outcome.{Outcome}
use Rattle.machine_state.specs.declared.ending.Outcome.TheVariants.{AllDone, Fault, Stuck, Unfinished}
use Rattle.machine_state.specs.declared.state.FirstFault.{FirstFault}
use Rattle.machine_state.specs.declared.state.State.{State}
use Rattle.machine_state.specs.LowestFirst.{IsOver}
use Rattle.machine_state.specs.Runs.{IsOutcome}
use Rattle.place_laws.specs.Alike.{EndsSo, SameStates}
use Rattle.place_laws.specs.Bare.{bare_fault, bare_outcome, bare_state}
use Rattle.place_laws.proofs.Moves.{bare_moves, moves_bare}

-- there is a first fault exactly if there is one with its place
none_before : (first : Option FirstFault) → option_map bare_fault first ≡ None → first ≡ None
none_before None none = refl
none_before (Some fault) none = absurd (cc)

some_before : (first : Option FirstFault) (fault : FirstFault) → option_map bare_fault first ≡ Some fault
    → (its : FirstFault) × (first ≡ Some its) × (bare_fault its ≡ fault)
some_before None fault some = absurd (cc)
some_before (Some its) fault some = (its, refl, cc)

outcome_bare : (st : State) (outcome : Outcome) → IsOutcome st outcome → IsOutcome (bare_state st) (bare_outcome outcome)
outcome_bare st AllDone (none, done) = (ap (option_map bare_fault) none, done)
outcome_bare st (Fault task kind place) first = ap (option_map bare_fault) first
outcome_bare st Stuck (none, open_tasks, still) = (ap (option_map bare_fault) none, open_tasks, λ mv may. still mv (bare_moves st mv may))
outcome_bare st Unfinished (none, open_tasks, (mv, may)) = (ap (option_map bare_fault) none, open_tasks, (mv, moves_bare st mv may))

bare_outcomes : (st : State) (outcome : Outcome) → IsOutcome (bare_state st) outcome → (its : Outcome) × IsOutcome st its × (bare_outcome its ≡ bare_outcome outcome)
bare_outcomes st AllDone (none, done) = (AllDone, (none_before st.first_fault none, done), refl)
bare_outcomes st (Fault task kind place) first =
    let (its, is, same) = some_before st.first_fault (record { task = task; kind = kind; place = place }) first in
    (Fault its.task its.kind its.place, is, ap (λ (fault : FirstFault). bare_outcome (Fault fault.task fault.kind fault.place)) same)
bare_outcomes st Stuck (none, open_tasks, still) = (Stuck, (none_before st.first_fault none, open_tasks, λ mv may. still mv (moves_bare st mv may)), refl)
bare_outcomes st Unfinished (none, open_tasks, (mv, may)) = (Unfinished, (none_before st.first_fault none, open_tasks, (mv, bare_moves st mv may)), refl)

twice : (outcome : Outcome) → bare_outcome (bare_outcome outcome) ≡ bare_outcome outcome
twice AllDone = refl
twice (Fault task kind place) = refl
twice Stuck = refl
twice Unfinished = refl

pub outcomes_alike : (st other : State) (outcome : Outcome) → SameStates st other → IsOutcome st outcome → EndsSo other outcome
outcomes_alike st other outcome same is =
    let found = bare_outcomes other (bare_outcome outcome) (subst (λ (s : State). IsOutcome s (bare_outcome outcome)) same (outcome_bare st outcome is)) in
    (found.0, found.1, found.2 ∙ twice outcome)

-- an outcome without a fault is the same in both
unfinished_is : (outcome : Outcome) → bare_outcome outcome ≡ Unfinished → outcome ≡ Unfinished
unfinished_is AllDone same = absurd (cc)
unfinished_is (Fault task kind place) same = absurd (cc)
unfinished_is Stuck same = absurd (cc)
unfinished_is Unfinished same = refl

pub unfinished_alike : (st other : State) → SameStates st other → IsOutcome st Unfinished → IsOutcome other Unfinished
unfinished_alike st other same is =
    let found = outcomes_alike st other Unfinished same is in subst (λ (o : Outcome). IsOutcome other o) (unfinished_is found.0 found.2) found.1

pub over_alike : (st other : State) → SameStates st other → IsOver st → IsOver other
over_alike st other same over outcome is unfinished =
    over Unfinished (unfinished_alike other st (sym same) (subst (λ (o : Outcome). IsOutcome other o) unfinished is)) refl
