-- The invariant stays when a record is taken out whose task isn't enabled.
use Rattle.std.proofs.Common.{◌≢◌, ◌↔◌, ℕ, List, ap, subst, ⊎_elim}
use Rattle.region_paths.specs.declared.elements.Elem.{Elem}
use Rattle.floor_laws.specs.admission.admission_core.Tasks.{IsTask}
use Rattle.floor_laws.specs.admission.admission_core.States.{IsAmong, Record, State}
use Rattle.floor_laws.specs.admission.admission_core.Events.{MayRemove}
use Rattle.floor_laws.proofs.admission.admission_core.Invariant.{Kept}
use Rattle.floor_laws.proofs.admission.admission_core.FamilyLemmas.{made_not_enabled}
use Rattle.floor_laws.proofs.admission.admission_core.ChildLemmas.{enabled_live}

pub remove_keeps : (nodes : List (List Elem)) (s : State) (w : ℕ) (r : Record) (records : List Record) → Kept nodes s → MayRemove s.tasks w r.task
    → ((q : Record) → IsAmong q records ↔ (IsAmong q s.records × (q ≢ r))) → Kept nodes (record s { records = records })
remove_keeps nodes s w r records kept may others = record {
  given = kept.given;
  home = λ q among. kept.home q ((others q).0 among).0;
  pairs = λ p q p_among q_among p_live q_live i. kept.pairs p q ((others p).0 p_among).0 ((others q).0 q_among).0 p_live q_live i;
  full = λ t task is enabled placed e has.
      let stands = kept.full t task is enabled placed e has in
      let stays : record { task = t; effect = e; node = stands.0 } ≢ r = λ same.
      let is_r = subst (λ (x : ℕ). IsTask s.tasks x task) (ap (λ (x : Record). x.task) same) is in
      ⊎_elim
      (λ dead. dead (enabled_live s.tasks r.task task is_r enabled))
      (λ made. made_not_enabled s.tasks r.task (made.0, made.1, made.2) (task, is_r, enabled))
      may in
      (stands.0, stands.1, (others (record { task = t; effect = e; node = stands.0 })).1 (stands.2, stays));
  born = kept.born;
  owner = kept.owner;
  going = λ v b is.
      let g = kept.going v b is in
      record { place = g.place; way = g.way; mine = g.mine; seen = λ q among past. g.seen q ((others q).0 among).0 past; rim = g.rim };
  shut = kept.shut;
}
