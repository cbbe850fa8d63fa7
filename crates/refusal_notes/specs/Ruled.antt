-- What is said of a rule on joins, spawns or deterministic tasks that fails.
use Rattle.std.specs.Prelude.{ℕ, Bool, List, [], ◌∷◌, ◌++◌, Option, None, Some, codes, if◌then◌else◌}
use Rattle.twe_base.specs.declared.place.Place.{Place}
use Rattle.refusal_causes.specs.declared.way.ControlWay.{ControlWay}
use Rattle.twe_frontend.specs.declared.refusal.Refusal.{Refusal}
use Rattle.explain_pages.specs.declared.places.note.Explanation.{Explanation}
use Rattle.explain_pages.specs.declared.places.note.Note.{Note}
use Rattle.explain_pages.specs.places.Notes.{note_at}
use Rattle.explain_pages.specs.names.Sentences.{asked, wrong}
use Rattle.refusal_notes.specs.Ways.{way_remarks}

-- the sentences of the rule, these places, the way if there is one, and one remark more
abbrev pub ruled_explanation : Refusal → List Note → Option ControlWay → List ℕ → Explanation
ruled_explanation refusal notes way remark = record {
  headline = wrong refusal.rule;
  notes = notes;
  remarks = asked refusal.rule ∷ (way_remarks way ++ remark ∷ []);
}

-- the place where the task of the future is made, if it is known, and that of the join
abbrev pub join_notes : Option Place → Place → List Note
join_notes None place = note_at place (codes "it may be joined already") ∷ []
join_notes (Some made) place =
    note_at made (codes "its task is spawned here") ∷ note_at place (codes "it may be joined already") ∷ []

-- the future of a join is not out on some way to it
abbrev pub join_explanation : Refusal → Option Place → Option ControlWay → Explanation
join_explanation refusal made way =
    ruled_explanation refusal (join_notes made refusal.place) way
    (codes "join it once for each spawn: not again after a branch, or in the next turn of a loop")

-- the future of a spawn is out already on some way to it
abbrev pub spawn_explanation : Refusal → Option ControlWay → Explanation
spawn_explanation refusal way =
    ruled_explanation refusal (note_at refusal.place (codes "the task of an earlier turn may be out") ∷ []) way
    (codes "join it in the same turn, and the tasks run one after another; or use executeLater, and their order is open")

-- a deterministic task does something at the refusal's place of which this is said
abbrev pub strict_explanation : Refusal → Place → List ℕ → List ℕ → Explanation
strict_explanation refusal decl_place caption remark =
    ruled_explanation refusal
    (note_at decl_place (codes "is declared deterministic") ∷ note_at refusal.place caption ∷ []) None remark

-- what is said of an `executeLater`, or of a `getValue`
abbrev pub order_caption : Bool → List ℕ
order_caption makes =
    if makes then codes "makes a task whose order is open" else codes "waits for a task whose order is open"

-- a deterministic task makes a task by `executeLater`, or waits by `getValue`
abbrev pub order_explanation : Refusal → Bool → Place → Explanation
order_explanation refusal makes decl_place =
    strict_explanation refusal decl_place (order_caption makes)
    (codes "spawn and join a deterministic task here, or declare this one without deterministic")

-- a deterministic task spawns one that is not
abbrev pub child_explanation : Refusal → Place → Explanation
child_explanation refusal decl_place =
    strict_explanation refusal decl_place (codes "this task is not")
    (codes "declare the spawned task deterministic, or this one without deterministic")
