-- What a seat knows of records, if it has taken the turn of a task and given it again.
use Rattle.std.proofs.Common.{◌≡◌, ◌≢◌, ◌++◌, ℕ, zero, suc, Bool, List, [], ◌∷◌, if◌then◌else◌, refl, ap, ◌∙◌, inl, inr, eq-eqb, ne_eqb, length}
use Rattle.region_paths.specs.declared.elements.Elem.{Elem}
use Rattle.effect_sets.specs.declared.effects.Effect.{Effect}
use Rattle.machine_state.specs.declared.state.TaskStatus.{TaskStatus}
use Rattle.machine_state.specs.declared.state.TaskStatus.TheVariants as status
use Rattle.floor_laws.specs.admission.admission_core.States.{IsAmong, Record}
use Rattle.floor_laws.specs.rule.nodes.Taking.{at_all_nodes, at_nodes, clear_after_taking}
use Rattle.floor_laws.specs.rule.nodes.TurnSteps.{of_others}

-- the records are of task t
abbrev pub AreOf : ℕ → List Record → Type 0
AreOf t [] = Unit {0}
AreOf t (r ∷ records) = (r.task ≡ t) × AreOf t records

at_nodes_are : (t : ℕ) (e : Effect) (n : ℕ) → AreOf t (at_nodes t e n)
at_nodes_are t e zero = tt
at_nodes_are t e (suc n) = (refl, at_nodes_are t e n)

pub both_are : (t : ℕ) (xs ys : List Record) → AreOf t xs → AreOf t ys → AreOf t (xs ++ ys)
both_are t [] ys none are = are
both_are t (x ∷ xs) ys some are = (some.0, both_are t xs ys some.1 are)

pub all_are : (nodes : List (List Elem)) (t : ℕ) (effects : List Effect) → AreOf t (at_all_nodes nodes t effects)
all_are nodes t [] = tt
all_are nodes t (e ∷ effects) = both_are t (at_nodes t e (length nodes)) (at_all_nodes nodes t effects) (at_nodes_are t e (length nodes)) (all_are nodes t effects)

dropped : (t : ℕ) (xs ys : List Record) → AreOf t xs → of_others t (xs ++ ys) ≡ of_others t ys
dropped t [] ys are = refl
dropped t (x ∷ xs) ys are = ap (λ (b : Bool). if b then of_others t (xs ++ ys) else x ∷ of_others t (xs ++ ys)) (eq-eqb x.task t are.0) ∙ dropped t xs ys are.1

-- what taking the turn has told is forgotten
pub taken_forgotten : (nodes : List (List Elem)) (t : ℕ) (is : TaskStatus) (effects : List Effect) (clear : List Record) → of_others t (clear_after_taking nodes t is effects clear) ≡ of_others t clear
taken_forgotten nodes t status.Made effects clear = dropped t (at_all_nodes nodes t effects) clear (all_are nodes t effects)
taken_forgotten nodes t status.Enabled effects clear = refl
taken_forgotten nodes t status.Done effects clear = dropped t (at_all_nodes nodes t effects) clear (all_are nodes t effects)
taken_forgotten nodes t status.Faulted effects clear = dropped t (at_all_nodes nodes t effects) clear (all_are nodes t effects)

-- nothing is forgotten, if no record is of the task
pub none_forgotten : (t : ℕ) (records : List Record) → ((r : Record) → IsAmong r records → r.task ≢ t) → of_others t records ≡ records
none_forgotten t [] none = refl
none_forgotten t (r ∷ records) none =
    ap (λ (b : Bool). if b then of_others t records else r ∷ of_others t records) (ne_eqb r.task t (none r (inl refl)))
    ∙ ap (λ (l : List Record). r ∷ l) (none_forgotten t records (λ x among. none x (inr among)))
