-- Waits follow makes in what is left, step by step.
use Rattle.std.proofs.Common.{◌≡◌, ◌||◌, ℕ, zero, suc, Bool, true, false, IsTrue, [], ◌∷◌, ◌++◌, inl, inr, refl, sym, subst}
use Rattle.std.specs.Prelude.{nat_eq}
use Rattle.twe_program.specs.Futures.{made_after, WaitsFollow, AllWaitsFollow, ArmsWaitFollow}
use Rattle.twe_program.specs.Statement.{Statement, Block, Let, Set, SetCell, SetArray, SetGrid, If, While, Return, Print, Call, Make, Wait, Statements, no_more, statement, Arms, arm, otherwise, no_else}
use Rattle.cover_flow.specs.ControlPath.{Path}
use Rattle.cover_flow.specs.Steps.{followed_by, IsBranch, Steps, StepsFar}
use Rattle.machine_state.specs.segment_laws.Passes.{IsOperation, NoOperations, Quietly}

-- the futures of the one are futures of the other
abbrev pub Within : (ℕ → Bool) → (ℕ → Bool) → Type 0
Within made more = (f : ℕ) → IsTrue (made f) → IsTrue (more f)

or_more : (a b c : Bool) → (IsTrue b → IsTrue c) → IsTrue (a || b) → IsTrue (a || c)
or_more true b c k h = refl
or_more false b c k h = k h

or_second : (a b : Bool) → IsTrue b → IsTrue (a || b)
or_second true b h = refl
or_second false b h = h

after_more : (made more : ℕ → Bool) → Within made more → (s : Statement) → Within (made_after made s) (made_after more s)
after_more made more k (Make point future task args spawned future_place place) f h = or_more (nat_eq f future) (made f) (more f) (k f) h
after_more made more k (Block point body) f h = k f h
after_more made more k (Let point var value) f h = k f h
after_more made more k (Set point var value) f h = k f h
after_more made more k (SetCell point cell value place) f h = k f h
after_more made more k (SetArray point array index value place) f h = k f h
after_more made more k (SetGrid point array row column value place) f h = k f h
after_more made more k (If point arms) f h = k f h
after_more made more k (While point condition body place) f h = k f h
after_more made more k (Return point value) f h = k f h
after_more made more k (Print point value place) f h = k f h
after_more made more k (Call point method args place) f h = k f h
after_more made more k (Wait point future join into place) f h = k f h

still_made : (made : ℕ → Bool) (s : Statement) → Within made (made_after made s)
still_made made (Make point future task args spawned future_place place) f h = or_second (nat_eq f future) (made f) h
still_made made (Block point body) f h = h
still_made made (Let point var value) f h = h
still_made made (Set point var value) f h = h
still_made made (SetCell point cell value place) f h = h
still_made made (SetArray point array index value place) f h = h
still_made made (SetGrid point array row column value place) f h = h
still_made made (If point arms) f h = h
still_made made (While point condition body place) f h = h
still_made made (Return point value) f h = h
still_made made (Print point value place) f h = h
still_made made (Call point method args place) f h = h
still_made made (Wait point future join into place) f h = h

mutual
  waits_more : (made more : ℕ → Bool) → Within made more → (s : Statement) → WaitsFollow made s → WaitsFollow more s
  waits_more made more k (Block point body) h = all_waits_more made more k body h
  waits_more made more k (If point arms) h = arms_wait_more made more k arms h
  waits_more made more k (While point condition body place) h = all_waits_more made more k body h
  waits_more made more k (Wait point future join into place) h = k future h
  waits_more made more k (Let point var value) h = tt
  waits_more made more k (Set point var value) h = tt
  waits_more made more k (SetCell point cell value place) h = tt
  waits_more made more k (SetArray point array index value place) h = tt
  waits_more made more k (SetGrid point array row column value place) h = tt
  waits_more made more k (Return point value) h = tt
  waits_more made more k (Print point value place) h = tt
  waits_more made more k (Call point method args place) h = tt
  waits_more made more k (Make point future task args spawned future_place place) h = tt

  pub all_waits_more : (made more : ℕ → Bool) → Within made more → (stmts : Statements) → AllWaitsFollow made stmts → AllWaitsFollow more stmts
  all_waits_more made more k no_more h = tt
  all_waits_more made more k (statement first others) h =
      (waits_more made more k first h.0, all_waits_more (made_after made first) (made_after more first) (after_more made more k first) others h.1)

  arms_wait_more : (made more : ℕ → Bool) → Within made more → (arms : Arms) → ArmsWaitFollow made arms → ArmsWaitFollow more arms
  arms_wait_more made more k no_else h = tt
  arms_wait_more made more k (otherwise body) h = all_waits_more made more k body h
  arms_wait_more made more k (arm condition body others) h = (all_waits_more made more k body h.0, arms_wait_more made more k others h.1)

-- one list of statements after the other
waits_both : (made : ℕ → Bool) (a b : Statements) → AllWaitsFollow made a → AllWaitsFollow made b → AllWaitsFollow made (followed_by a b)
waits_both made no_more b ha hb = hb
waits_both made (statement first others) b ha hb =
    (ha.0, waits_both (made_after made first) others b ha.1 (all_waits_more made (made_after made first) (still_made made first) b hb))

branch_waits : (made : ℕ → Bool) (arms : Arms) (taken : Statements) → ArmsWaitFollow made arms → IsBranch arms taken → AllWaitsFollow made taken
branch_waits made no_else taken h is = subst (AllWaitsFollow made) (sym is) tt
branch_waits made (otherwise body) taken h is = subst (AllWaitsFollow made) (sym is) h
branch_waits made (arm condition body others) taken h is =
    elim is [
      | inl here ↦ subst (AllWaitsFollow made) (sym here) h.0
      | inr there ↦ branch_waits made others taken h.1 there
    ]

-- the futures for which a task was made, along a path too
abbrev made_along : (ℕ → Bool) → Path → ℕ → Bool
made_along made [] f = made f
made_along made (s ∷ earlier) f = made_after (made_along made earlier) s f

-- steps keep it
abbrev Waiting : (ℕ → Bool) → Statements → Path → Type 0
Waiting made left path = AllWaitsFollow (made_along made path) left

waits_at : (made : ℕ → Bool) (now left : Statements) (path later : Path) → left ≡ now → later ≡ path → Waiting made now path → Waiting made left later
waits_at made now left path later el ep h = subst (λ (q : Path). Waiting made left q) (sym ep) (subst (λ (l : Statements). Waiting made l path) (sym el) h)

step_waits : (made : ℕ → Bool) (from left : Statements) (path later : Path) → Steps from path left later → Waiting made from path → Waiting made left later
step_waits made no_more left path later s h = absurd s
step_waits made (statement (Block point body) others) left path later s h =
    waits_at made (followed_by body others) left path later s.0 s.1 (waits_both (made_along made path) body others h.0 h.1)
step_waits made (statement (If point arms) others) left path later s h =
    waits_at made (followed_by s.0 others) left path later s.2 s.3 (waits_both (made_along made path) s.0 others (branch_waits (made_along made path) arms s.0 h.0 s.1) h.1)
step_waits made (statement (While point condition body place) others) left path later s h =
    let loop = statement (While point condition body place) others in
    elim s.0 [
      | inl past ↦ waits_at made others left path later past s.1 h.1
      | inr turn ↦ waits_at made (followed_by body loop) left path later turn s.1 (waits_both (made_along made path) body loop h.0 h)
    ]
step_waits made (statement (Return point value) others) left path later s h = waits_at made no_more left path later s.0 s.1 tt
step_waits made (statement (Let point var value) others) left path later s h = waits_at made others left (Let point var value ∷ path) later s.0 s.1 h.1
step_waits made (statement (Set point var value) others) left path later s h = waits_at made others left (Set point var value ∷ path) later s.0 s.1 h.1
step_waits made (statement (SetCell point cell value place) others) left path later s h = waits_at made others left (SetCell point cell value place ∷ path) later s.0 s.1 h.1
step_waits made (statement (SetArray point array index value place) others) left path later s h =
    waits_at made others left (SetArray point array index value place ∷ path) later s.0 s.1 h.1
step_waits made (statement (SetGrid point array row column value place) others) left path later s h =
    waits_at made others left (SetGrid point array row column value place ∷ path) later s.0 s.1 h.1
step_waits made (statement (Print point value place) others) left path later s h = waits_at made others left (Print point value place ∷ path) later s.0 s.1 h.1
step_waits made (statement (Call point method args place) others) left path later s h = waits_at made others left (Call point method args place ∷ path) later s.0 s.1 h.1
step_waits made (statement (Make point future task args spawned future_place place) others) left path later s h =
    waits_at made others left (Make point future task args spawned future_place place ∷ path) later s.0 s.1 h.1
step_waits made (statement (Wait point future join into place) others) left path later s h = waits_at made others left (Wait point future join into place ∷ path) later s.0 s.1 h.1

far_waits : (made : ℕ → Bool) (n : ℕ) (from left : Statements) (path later : Path) → StepsFar n from path left later → Waiting made from path → Waiting made left later
far_waits made zero from left path later s h = waits_at made from left path later s.0 s.1 h
far_waits made (suc n) from left path later s h = far_waits made n s.0 left s.1 later s.3 (step_waits made from s.0 path s.1 s.2 h)

-- where no operation is passed, no task is made
quiet_after : (made : ℕ → Bool) (s : Statement) → (IsOperation s → ⊥) → (f : ℕ) → IsTrue (made_after made s f) → IsTrue (made f)
quiet_after made (Make point future task args spawned future_place place) plain f h = absurd (plain tt)
quiet_after made (Block point body) plain f h = h
quiet_after made (Let point var value) plain f h = h
quiet_after made (Set point var value) plain f h = h
quiet_after made (SetCell point cell value place) plain f h = h
quiet_after made (SetArray point array index value place) plain f h = h
quiet_after made (SetGrid point array row column value place) plain f h = h
quiet_after made (If point arms) plain f h = h
quiet_after made (While point condition body place) plain f h = h
quiet_after made (Return point value) plain f h = h
quiet_after made (Print point value place) plain f h = h
quiet_after made (Call point method args place) plain f h = h
quiet_after made (Wait point future join into place) plain f h = h

quiet_along : (made : ℕ → Bool) (passed : Path) → NoOperations passed → Within (made_along made (passed ++ [])) made
quiet_along made [] quiet f h = h
quiet_along made (s ∷ passed) quiet f h = quiet_along made passed quiet.1 f (quiet_after (made_along made (passed ++ [])) s quiet.0 f h)

pub quietly_waits : (made : ℕ → Bool) (from left : Statements) (later : Path) → Quietly from [] left later → AllWaitsFollow made from → AllWaitsFollow made left
quietly_waits made from left later q h =
    let there : Waiting made left (q.passed ++ []) = subst (λ (path : Path). Waiting made left path) q.same (far_waits made q.steps from left [] later q.far h) in
    all_waits_more (made_along made (q.passed ++ [])) made (quiet_along made q.passed q.quiet) left there
