-- Steps that pass no task operation, one after the other.
use Rattle.std.proofs.Common.{◌≡◌, ℕ, zero, suc, [], ◌∷◌, ◌++◌, refl, sym, ap, ◌∙◌, subst}
use Rattle.std.proofs.lemmas.List.{append_assoc}
use Rattle.twe_program.specs.Statement.{Statement, Statements, no_more, statement}
use Rattle.cover_flow.specs.ControlPath.{Path}
use Rattle.cover_flow.specs.Steps.{followed_by, Steps, StepsFar}
use Rattle.machine_state.specs.segment_laws.Passes.{IsOperation, NoOperations, Quietly}

pub followed_assoc : (a b c : Statements) → followed_by (followed_by a b) c ≡ followed_by a (followed_by b c)
followed_assoc no_more b c = refl
followed_assoc (statement first others) b c = ap (statement first) (followed_assoc others b c)

pub followed_none : (a : Statements) → followed_by a no_more ≡ a
followed_none no_more = refl
followed_none (statement first others) = ap (statement first) (followed_none others)

-- some number of steps
abbrev Far : Statements → Path → Statements → Path → Type 0
Far from path left later = (n : ℕ) × StepsFar n from path left later

far_joined : (n : ℕ) (from : Statements) (path : Path) (next : Statements) (between : Path) (left : Statements) (later : Path) → StepsFar n from path next between → Far next between left later → Far from path left later
far_joined zero from path next between left later s far = subst (λ f. Far f path left later) s.0 (subst (λ q. Far next q left later) s.1 far)
far_joined (suc n) from path next between left later s far =
    let rest = far_joined n s.0 s.1 next between left later s.3 far in
    (suc rest.0, (s.0, s.1, s.2, rest.1))

none_in_both : (first second : Path) → NoOperations first → NoOperations second → NoOperations (first ++ second)
none_in_both [] second a b = b
none_in_both (s ∷ first) second a b = (a.0, none_in_both first second a.1 b)

pub stays : (from : Statements) (path : Path) → Quietly from path from path
stays from path = record { steps = 0; passed = []; quiet = tt; same = refl; far = (refl, refl) }

pub quietly_joined : (from : Statements) (path : Path) (next : Statements) (between : Path) (left : Statements) (later : Path) → Quietly from path next between → Quietly next between left later → Quietly from path left later
quietly_joined from path next between left later a b =
    let far = far_joined a.steps from path next between left later a.far (b.steps, b.far) in
    record {
      steps = far.0;
      passed = b.passed ++ a.passed;
      quiet = none_in_both b.passed a.passed b.quiet a.quiet;
      same = b.same ∙ ap (λ (q : Path). b.passed ++ q) a.same ∙ sym (append_assoc b.passed a.passed path);
      far = far.1;
    }

-- Some steps lead from the one to the other, whatever the path is, and pass no operation.
abbrev pub Leads : Statements → Statements → Type 0
Leads from left = (path : Path) → (later : Path) × Quietly from path left later

pub leads_nowhere : (from : Statements) → Leads from from
leads_nowhere from path = (path, stays from path)

pub leads_joined : (from next left : Statements) → Leads from next → Leads next left → Leads from left
leads_joined from next left a b path =
    let first = a path in
    let second = b first.0 in
    (second.0, quietly_joined from path next first.0 left second.0 first.1 second.1)

-- a step that leaves the path as it is
pub leads_silently : (from left : Statements) → ((path : Path) → Steps from path left path) → Leads from left
leads_silently from left step path = (path, record { steps = 1; passed = []; quiet = tt; same = refl; far = (left, path, step path, (refl, refl)) })

-- a step through a statement that is no operation
pub leads_through : (s : Statement) (others : Statements) → (IsOperation s → ⊥) → ((path : Path) → Steps (statement s others) path others (s ∷ path)) → Leads (statement s others) others
leads_through s others plain step path =
    (s ∷ path, record { steps = 1; passed = s ∷ []; quiet = (plain, tt); same = refl; far = (others, s ∷ path, step path, (refl, refl)) })
