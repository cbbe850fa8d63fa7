-- The invariant holds in each quiet state, and the start of a run is one.
use Rattle.std.proofs.Common.{◌≡◌, ◌≢◌, ℕ, List, [], ◌∷◌, Some, sym, ap, subst, ◌∙◌, zero, suc, inl, ⊎_elim}
use Rattle.std.specs.Prelude.{slice_get}
use Rattle.std.proofs.lemmas.Bool.{cases_eq, false≢true}
use Rattle.region_paths.specs.declared.elements.Elem.{Elem}
use Rattle.wait_graph.specs.Chain.{none}
use Rattle.wait_graph.specs.Waiting.{DescendsFrom}
use Rattle.floor_laws.specs.admission.admission_core.Tasks.{Task, Made, Enabled, IsTask}
use Rattle.floor_laws.specs.admission.admission_core.States.{IsAmong, Record, State}
use Rattle.floor_laws.specs.admission.admission_core.Rule.{CoreIsQuiet, IsStart}
use Rattle.floor_laws.proofs.admission.admission_core.EffectLemmas.{some_interfere}
use Rattle.floor_laws.proofs.admission.admission_core.Invariant.{Kept}
use Rattle.floor_laws.proofs.admission.admission_core.PutLemmas.{some_one, not_some}

pub quiet_kept : (nodes : List (List Elem)) (s : State) → CoreIsQuiet nodes s → Kept nodes s
quiet_kept nodes s h = record {
  given = h.conditions;
  home = λ r among. let own = h.only r among in record { task = (own.1.0, own.1.1, own.1.3); place = own.0 };
  pairs = λ q r q_among r_among _ _ i.
      let first = (h.only q q_among).1 in
      let second = (h.only r r_among).1 in
      ⊎_elim
      (λ (same : q.task ≡ r.task). inl (q.task, none, subst (λ (x : ℕ). DescendsFrom s.tasks.links x q.task) same none))
      (λ (other : q.task ≢ r.task).
      h.conditions.isolated q.task r.task other (first.0, first.1, first.2) (second.0, second.1, second.2)
      (first.0, second.0, first.1, second.1, some_interfere first.0.effects second.0.effects q.effect r.effect first.3 second.3 i))
      (cases_eq q.task r.task);
  full = λ t task is enabled at_rest. h.stand t task is enabled;
  born = λ t task is unplaced. absurd (false≢true (sym (h.placed t task is) ∙ unplaced));
  owner = λ v w n holds _. absurd (not_some (sym (h.activities v) ∙ holds.1));
  going = λ w a is. absurd (not_some (sym (h.activities w) ∙ is));
  shut = λ w v a f n is _ _ _. absurd (not_some (sym (h.activities w) ∙ is));
}

-- the only task of a start
first_is : (s : State) (h : IsStart s) (t : ℕ) (task : Task) → IsTask s.tasks t task → task ≡ h.task.0
first_is s h t task is =
    only t (subst (λ (xs : List Task). slice_get xs t ≡ Some task) h.task.1 is)
  where
    only : (t : ℕ) → slice_get (h.task.0 ∷ []) t ≡ Some task → task ≡ h.task.0
    only zero found = sym (some_one found)
    only (suc t) found = absurd (not_some found)

made_enabled : Made ≡ Enabled → ⊥
made_enabled h = cc

pub start_quiet : (nodes : List (List Elem)) (s : State) → IsStart s → CoreIsQuiet nodes s
start_quiet nodes s h = record {
  conditions = h.conditions;
  activities = h.activities;
  placed = λ t task is. ap (λ (x : Task). x.unplaced) (first_is s h t task is) ∙ h.task.3;
  stand = λ t task is enabled. absurd (made_enabled (sym h.task.2 ∙ ap (λ (x : Task). x.status) (sym (first_is s h t task is)) ∙ enabled));
  only = λ r among. absurd (subst (λ (rs : List Record). IsAmong r rs) h.records among);
}
