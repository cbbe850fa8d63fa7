-- States that are alike have the same tasks that may move, and the same outcome.
use Rattle.std.proofs.Common.{◌≡◌, ℕ, false, List, Option, None, Some, length, map, refl, sym, ap, ◌∙◌, subst}
use Rattle.std.specs.Prelude.{slice_get}
use Rattle.std.proofs.lemmas.List.{length-map}
use Rattle.std.proofs.lemmas.Option.{slice_get-map}
use Rattle.std.specs.Option.{option_map}
use Rattle.effect_sets.specs.declared.effects.Effect.{Effect}
use Rattle.effect_sets.specs.Interference.{SomeInterfere}
use Rattle.seg_journal.specs.declared.moves.Kind.{Kind}
use Rattle.seg_journal.specs.declared.moves.Kind.TheVariants.{Admit, Run}
use Rattle.seg_journal.specs.declared.moves.Move.{Move}
use Rattle.wait_graph.specs.declared.tasks.Link.{Link}
use Rattle.wait_graph.specs.Waiting.{WaitsFor, YieldsTo}
use Rattle.machine_state.specs.declared.ending.Outcome.{Outcome}
use Rattle.machine_state.specs.declared.ending.Outcome.TheVariants.{AllDone, Fault, Stuck, Unfinished}
use Rattle.machine_state.specs.declared.state.State.{State}
use Rattle.machine_state.specs.declared.state.TaskRow.{TaskRow}
use Rattle.machine_state.specs.declared.state.TaskStatus.{TaskStatus}
use Rattle.machine_state.specs.Legal.{Interfere, MayMove, MayTake}
use Rattle.machine_state.specs.Rows.{HasStatus, IsRow, is_done_row}
use Rattle.machine_state.specs.Runs.{AllTasksDone, IsOutcome}
use Rattle.all_runs.specs.Explored.{HaveOneResult}
use Rattle.state_copies.specs.Lasting.{AreAlike, lasting_row}
use Rattle.state_copies.proofs.LastingRows.{done_lasts, effects_last, row_if_not, status_lasts}

-- Parts.

pub links_alike : (st other : State) → AreAlike st other → st.links ≡ other.links
links_alike st other alike = ap (λ (s : State). s.links) alike

pub fault_alike : (st other : State) → AreAlike st other → st.first_fault ≡ other.first_fault
fault_alike st other alike = ap (λ (s : State). s.first_fault) alike

-- the row of the same task in the other state
pub record Counterpart (other : State) (t : ℕ) (row : TaskRow) : Type 0 where
  pub its : TaskRow
  pub there : IsRow other t its
  pub alike : lasting_row its ≡ lasting_row row

mapped : (found : Option TaskRow) (row : TaskRow) → option_map lasting_row found ≡ Some row → (its : TaskRow) × (found ≡ Some its) × (lasting_row its ≡ row)
mapped None row is = absurd (cc (is))
mapped (Some its) row is = (its, refl, cc)

pub counterpart : (st other : State) (t : ℕ) (row : TaskRow) → AreAlike st other → IsRow st t row → Counterpart other t row
counterpart st other t row alike there =
    let here : slice_get (map lasting_row st.tasks) t ≡ Some (lasting_row row) = slice_get-map lasting_row st.tasks t ∙ ap (option_map lasting_row) there in
    let also : slice_get (map lasting_row other.tasks) t ≡ Some (lasting_row row) = ap (λ (s : State). slice_get s.tasks t) (sym alike) ∙ here in
    let found = mapped (slice_get other.tasks t) (lasting_row row) (sym (slice_get-map lasting_row other.tasks t) ∙ also) in
    record { its = found.0; there = found.1; alike = found.2 }

status_alike : (a b : TaskRow) → lasting_row a ≡ lasting_row b → a.status ≡ b.status
status_alike a b alike = sym (status_lasts a) ∙ (ap (λ (r : TaskRow). r.status) alike ∙ status_lasts b)

pub effects_alike : (a b : TaskRow) → lasting_row a ≡ lasting_row b → a.effects.effects ≡ b.effects.effects
effects_alike a b alike = ap (λ e. e.effects) (sym (effects_last a) ∙ (ap (λ (r : TaskRow). r.effects) alike ∙ effects_last b))

-- the row of a task that isn't done is the same
pub row_alike : (st other : State) (t : ℕ) (row : TaskRow) → AreAlike st other → IsRow st t row → is_done_row row ≡ false → IsRow other t row
row_alike st other t row alike there undone =
    let found = counterpart st other t row alike there in
    let still : is_done_row found.its ≡ false = sym (done_lasts found.its) ∙ (ap is_done_row found.alike ∙ (done_lasts row ∙ undone)) in
    let same : found.its ≡ row = sym (row_if_not found.its still) ∙ (found.alike ∙ row_if_not row undone) in
    found.there ∙ ap Some same

pub has_alike : (st other : State) (t : ℕ) (status : TaskStatus) → AreAlike st other → HasStatus st t status → HasStatus other t status
has_alike st other t status alike has =
    let found = counterpart st other t has.0 alike has.1 in
    (found.its, found.there, status_alike found.its has.0 found.alike ∙ has.2)

-- Moves.

pub interfere_alike : (st other : State) (s t : ℕ) → AreAlike st other → Interfere st s t → Interfere other s t
interfere_alike st other s t alike (a, b, there, here, meet) =
    let x = counterpart st other s a alike there in
    let y = counterpart st other t b alike here in (
      x.its,
      y.its,
      x.there,
      y.there,
      subst (λ (es : List Effect). SomeInterfere es y.its.effects.effects) (sym (effects_alike x.its a x.alike))
          (subst (λ (es : List Effect). SomeInterfere a.effects.effects es) (sym (effects_alike y.its b y.alike)) meet),
    )

pub take_alike : (st other : State) (kind : Kind) (t : ℕ) → AreAlike st other → MayTake st kind t → MayTake other kind t
take_alike st other Admit t alike may = (
  has_alike st other t _ alike may.0,
  λ s ne on meet.
      subst (λ (links : List Link). YieldsTo links s t) (links_alike st other alike)
      (may.1 s ne (has_alike other st s _ (sym alike) on) (interfere_alike other st s t (sym alike) meet)),
)
take_alike st other Run t alike may =
    (has_alike st other t _ alike may.0, λ u waits. may.1 u (subst (λ (links : List Link). WaitsFor links t u) (sym (links_alike st other alike)) waits))

pub may_alike : (st other : State) (mv : Move) → AreAlike st other → MayMove st mv → MayMove other mv
may_alike st other mv alike may = take_alike st other mv.kind mv.task alike may

-- Outcomes.

done_alike : (st other : State) → AreAlike st other → AllTasksDone st → AllTasksDone other
done_alike st other alike done t row there =
    let found = counterpart other st t row (sym alike) there in
    sym (status_alike found.its row found.alike) ∙ done t found.its found.there

pub outcome_alike : (st other : State) (outcome : Outcome) → AreAlike st other → IsOutcome st outcome → IsOutcome other outcome
outcome_alike st other (Fault task kind place) alike is = sym (fault_alike st other alike) ∙ is
outcome_alike st other AllDone alike is = (sym (fault_alike st other alike) ∙ is.0, done_alike st other alike is.1)
outcome_alike st other Stuck alike is = (
  sym (fault_alike st other alike) ∙ is.0,
  λ done. is.1 (done_alike other st (sym alike) done),
  λ mv may. is.2 mv (may_alike other st mv (sym alike) may),
)
outcome_alike st other Unfinished alike is = (
  sym (fault_alike st other alike) ∙ is.0,
  λ done. is.1 (done_alike other st (sym alike) done),
  (is.2.0, may_alike st other is.2.0 alike is.2.1),
)

pub result_alike : (st other : State) → AreAlike st other → HaveOneResult st other
result_alike st other alike = record {
  prints = ap (λ (s : State). s.prints) alike;
  cells = ap (λ (s : State). s.cells) alike;
  tasks = sym (length-map st.tasks lasting_row) ∙ (ap (λ (s : State). length s.tasks) alike ∙ length-map other.tasks lasting_row);
}

pub one_result : (a b c : State) → HaveOneResult a b → HaveOneResult b c → HaveOneResult a c
one_result a b c x y = record { prints = x.prints ∙ y.prints; cells = x.cells ∙ y.cells; tasks = x.tasks ∙ y.tasks }
