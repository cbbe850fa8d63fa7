-- One body after another: the first failure so far becomes the first of one body more.
use Rattle.std.proofs.Common.{◌≡◌, ◌⊎◌, ◌<◌, ℕ, ◌+◌, List, [], ◌∷◌, ◌++◌, Option, None, length, get_or, take, inl, inr, sym, ap, ◌∙◌, subst, arith}
use Rattle.std.specs.List.{Contains}
use Rattle.std.proofs.lemmas.List.{take_more}
use Rattle.std.proofs.lemmas.List.Elements.{Contains-append_left, Contains-push, Contains-push_cases}
use Rattle.twe_program.specs.declared.program.Decl.{Decl}
use Rattle.twe_program.specs.Program.{Program}
use Rattle.twe_program.specs.WellFormed.{IsWellFormed, DeclFits}
use Rattle.effect_check.specs.FailsEffect.{EffectFailure}
use Rattle.effect_check.specs.Acts.{acts_in_all}
use Rattle.effect_check.specs.FailsEffect.{TaskFails, MethodFails, effect_rule_number}
use Rattle.effect_check.specs.inner.Failures.{JudgesTask, JudgesMethod, task_failures, method_failures}
use Rattle.effect_check.specs.inner.First.{IsFirstOf, OneFails, FailsInTask}
use Rattle.twe_base.proofs.Members.{IsIn, contains-in, all-in}
use Rattle.effect_check.proofs.Range.{body-in_range}
use Rattle.twe_base.proofs.Firsts.{first-same, first_from-first}
use Rattle.effect_check.proofs.Judged.{listed-fails, fails-listed, listed-method_fails, method_fails-listed}

abbrev pub TaskFailure : Program → Decl → EffectFailure → Type 0
TaskFailure p task f = TaskFails p task f.rule f.place

abbrev pub MethodFailure : Program → Decl → EffectFailure → Type 0
MethodFailure p method f = MethodFails p method f.rule f.place

module _ (Fails : Decl → EffectFailure → Type 0) (decls : List Decl) (i : ℕ) (there : i < length decls) (decl : Decl) (is : get_or decls i decl ≡ decl) where
  more : take (i + 1) decls ≡ take i decls ++ decl ∷ []
  more = take_more decls i decl there ∙ ap (λ d. take i decls ++ d ∷ []) is

  one-more : (f : EffectFailure) → OneFails Fails (take i decls) f ⊎ Fails decl f → OneFails Fails (take (i + 1) decls) f
  one-more f (inl found) = (found.0, subst (λ xs. Contains xs found.0) (sym more) (Contains-append_left (take i decls) (decl ∷ []) found.0 found.1), found.2)
  one-more f (inr fails) = (decl, subst (λ xs. Contains xs decl) (sym more) (Contains-push (take i decls) decl), fails)

  more-one : (f : EffectFailure) → OneFails Fails (take (i + 1) decls) f → OneFails Fails (take i decls) f ⊎ Fails decl f
  more-one f found = elim (Contains-push_cases (take i decls) decl found.0 (subst (λ xs. Contains xs found.0) more found.1)) [
    | inl before ↦ inl (found.0, before, found.2)
    | inr e ↦ inr (subst (λ d. Fails d f) (sym e) found.2)
  ]

pub first_of_none : (Fails : Decl → EffectFailure → Type 0) (decls : List Decl) → IsFirstOf (OneFails Fails (take 0 decls)) None
first_of_none Fails decls f found = let below = found.1.1 in absurd (omega (arith, below))

pub task-more : (p : Program) → IsWellFormed p → (i : ℕ) → i < length p.tasks → (task : Decl) → get_or p.tasks i task ≡ task → (first later : Option EffectFailure)
    → IsFirstOf (OneFails (TaskFailure p) (take i p.tasks)) first → JudgesTask p task first later
    → IsFirstOf (OneFails (TaskFailure p) (take (i + 1) p.tasks)) later
task-more p wf i there task is first later h judges =
    let fits : DeclFits p task = all-in (DeclFits p) p.tasks wf.tasks task (contains-in p.tasks task (i, there, is)) in
    let range = body-in_range p task fits in
    let acts = acts_in_all p task.body.block in
    let P : EffectFailure → Type 0 = OneFails (TaskFailure p) (take i p.tasks) in
    let xs : List EffectFailure = task_failures task judges.groups acts in
    let all : IsFirstOf (λ f. P f ⊎ IsIn f xs) later = subst (IsFirstOf (λ f. P f ⊎ IsIn f xs)) (sym judges.judged) (first_from-first effect_rule_number P first xs h) in
    first-same effect_rule_number (λ f. P f ⊎ IsIn f xs) (OneFails (TaskFailure p) (take (i + 1) p.tasks))
    (λ f q. one-more (TaskFailure p) p.tasks i there task is f (elim q [ inl before ↦ inl before | inr x ↦ inr (listed-fails p task range judges.groups judges.are f x) ]))
    (λ f found. elim (more-one (TaskFailure p) p.tasks i there task is f found) [
      | inl before ↦ inl before
      | inr x ↦ inr (fails-listed p task range judges.groups judges.are judges.followed f.rule f.place x)
    ])
    later all

pub method-more : (p : Program) → (i : ℕ) → i < length p.methods → (method : Decl) → get_or p.methods i method ≡ method → (first later : Option EffectFailure)
    → IsFirstOf (λ f. FailsInTask p f ⊎ OneFails (MethodFailure p) (take i p.methods) f) first → JudgesMethod p method first later
    → IsFirstOf (λ f. FailsInTask p f ⊎ OneFails (MethodFailure p) (take (i + 1) p.methods) f) later
method-more p i there method is first later h judges =
    let acts = acts_in_all p method.body.block in
    let P : EffectFailure → Type 0 = λ f. FailsInTask p f ⊎ OneFails (MethodFailure p) (take i p.methods) f in
    let xs : List EffectFailure = method_failures method acts in
    let all : IsFirstOf (λ f. P f ⊎ IsIn f xs) later = subst (IsFirstOf (λ f. P f ⊎ IsIn f xs)) (sym judges) (first_from-first effect_rule_number P first xs h) in
    first-same effect_rule_number (λ f. P f ⊎ IsIn f xs) (λ f. FailsInTask p f ⊎ OneFails (MethodFailure p) (take (i + 1) p.methods) f)
    (λ f q. elim q [
      | inl r ↦ elim r [ inl task ↦ inl task | inr before ↦ inr (one-more (MethodFailure p) p.methods i there method is f (inl before)) ]
      | inr x ↦ inr (one-more (MethodFailure p) p.methods i there method is f (inr (listed-method_fails p method f x)))
    ])
    (λ f q. elim q [
      | inl task ↦ inl (inl task)
      | inr found ↦ elim (more-one (MethodFailure p) p.methods i there method is f found) [
        | inl before ↦ inl (inr before)
        | inr x ↦ inr (method_fails-listed p method f.rule f.place x)
      ]
    ])
    later all

-- the methods so far are none
pub tasks-first : (p : Program) (first : Option EffectFailure) → IsFirstOf (FailsInTask p) first
    → IsFirstOf (λ f. FailsInTask p f ⊎ OneFails (MethodFailure p) (take 0 p.methods) f) first
tasks-first p first h =
    first-same effect_rule_number (FailsInTask p) (λ f. FailsInTask p f ⊎ OneFails (MethodFailure p) (take 0 p.methods) f)
    (λ f x. inl x) (λ f q. elim q [ inl x ↦ x | inr none ↦ absurd (first_of_none (MethodFailure p) p.methods f none) ]) first h
