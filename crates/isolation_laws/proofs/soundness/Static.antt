-- What the rules on effects say of a body that keeps them: its summary covers each effect of its acts.
use Rattle.twe_base.specs.declared.place.Place.{Place}
use Rattle.std.proofs.Common.{ℕ, IsTrue, List, [], ◌∷◌, inl, inr, Contains, refl, sym, ◌∙◌, ◌≡◌, Bool, true, false}
use Rattle.std.specs.List.{AllByRecursion}
use Rattle.std.proofs.lemmas.Bool.{true≢false, true_from_ne_false, false≢true}
use Rattle.effect_sets.specs.declared.effects.Effect.{Effect}
use Rattle.effect_sets.specs.declared.effects.Summary.{Summary}
use Rattle.effect_sets.specs.Covers.{covers}
use Rattle.twe_program.specs.declared.program.Decl.{Decl}
use Rattle.twe_program.specs.Program.{Program}
use Rattle.effect_check.specs.declared.act.Act.{Act}
use Rattle.effect_check.specs.declared.act.ActKind.{ActKind}
use Rattle.effect_check.specs.declared.act.ActKind.TheVariants as kinds
use Rattle.effect_check.specs.declared.rule.ERule.TheVariants.{E1, E2, E8, E3}
use Rattle.effect_check.specs.Acts.{acts_in_all}
use Rattle.effect_check.specs.FailsEffect.{access, called, access_outside, called_outside}
use Rattle.effect_check.specs.FailsEffect as rules
use Rattle.effect_check.proofs.Members.{IsIn, in-contains}
use Rattle.isolation_laws.specs.soundness.KeepsEffects.{KeepsEffects}

-- the summary covers the effects of the act; those of a made task only if a task spawns it
abbrev pub ActDeclared : Program → Decl → ActKind → Type 0
ActDeclared p decl (kinds.Touch effect place) = IsTrue (covers decl.summary effect)
ActDeclared p decl (kinds.Call effects place) = (e : Effect) → IsIn e effects.effects → IsTrue (covers decl.summary e)
ActDeclared p decl (kinds.Make future spawned deterministic effects future_place place) =
    Contains p.tasks decl → spawned ≡ true → (e : Effect) → IsIn e effects.effects → IsTrue (covers decl.summary e)
ActDeclared p decl (kinds.Wait future join place) = Unit {0}

abbrev pub AllDeclared : Program → Decl → List Act → Type 0
AllDeclared p decl acts = AllByRecursion (λ (act : Act). ActDeclared p decl act.kind) acts

-- what holds for each element holds for all
each-all : {X : Type 0} (P : X → Type 0) (xs : List X) → ((x : X) → IsIn x xs → P x) → AllByRecursion P xs
each-all P [] h = tt
each-all P (x ∷ xs) h = (h x (inl refl), each-all P xs (λ y i. h y (inr i)))

module _ (p : Program) (keeps : KeepsEffects p) where
  of_spawn : (task : Decl) → Contains p.tasks task → (point future : ℕ) (spawned deterministic : Bool) (effects : Summary) (future_place place : Place)
      → Contains (acts_in_all p task.body.block) (record { point = point; kind = kinds.Make future spawned deterministic effects future_place place })
      → spawned ≡ true → (e : Effect) → IsIn e effects.effects → IsTrue (covers task.summary e)
  of_spawn task there point future true deterministic effects future_place place does is_spawn e here =
      true_from_ne_false (covers task.summary e)
      (λ not. keeps E3 place
      (inl (task, there, rules.spawned point future deterministic effects e future_place place does (in-contains effects.effects e here) (λ c. true≢false (sym c.declared ∙ not)))))
  of_spawn task there point future false deterministic effects future_place place does is_spawn e here = absurd (false≢true is_spawn)

  of_task : (task : Decl) → Contains p.tasks task → (point : ℕ) (kind : ActKind) → Contains (acts_in_all p task.body.block) (record { point = point; kind = kind }) → ActDeclared p task kind
  of_task task there point (kinds.Touch effect place) does =
      true_from_ne_false (covers task.summary effect) (λ e. keeps E1 place (inl (task, there, access point effect place does (λ c. true≢false (sym c.declared ∙ e)))))
  of_task task there point (kinds.Call effects place) does = λ effect here.
      true_from_ne_false (covers task.summary effect)
      (λ e. keeps E2 place (inl (task, there, called point effects effect place does (in-contains effects.effects effect here) (λ c. true≢false (sym c.declared ∙ e)))))
  of_task task there point (kinds.Make future spawned deterministic effects future_place place) does =
      λ is_task. of_spawn task is_task point future spawned deterministic effects future_place place does
  of_task task there point (kinds.Wait future join place) does = tt

  of_method : (method : Decl) → Contains p.methods method → (point : ℕ) (kind : ActKind) → Contains (acts_in_all p method.body.block) (record { point = point; kind = kind }) → ActDeclared p method kind
  of_method method there point (kinds.Touch effect place) does =
      true_from_ne_false (covers method.summary effect) (λ e. keeps E8 place (inr (method, there, access_outside point effect place does (λ c. true≢false (sym c ∙ e)))))
  of_method method there point (kinds.Call effects place) does = λ effect here.
      true_from_ne_false (covers method.summary effect)
      (λ e. keeps E8 place (inr (method, there, called_outside point effects effect place does (in-contains effects.effects effect here) (λ c. true≢false (sym c ∙ e)))))
  of_method method there point (kinds.Make future spawned deterministic effects future_place place) does =
      λ is_task. of_spawn method is_task point future spawned deterministic effects future_place place does
  of_method method there point (kinds.Wait future join place) does = tt

  pub task_declares : (task : Decl) → Contains p.tasks task → AllDeclared p task (acts_in_all p task.body.block)
  task_declares task there = each-all _ _ (λ act here. of_task task there act.point act.kind (in-contains _ act here))

  pub method_declares : (method : Decl) → Contains p.methods method → AllDeclared p method (acts_in_all p method.body.block)
  method_declares method there = each-all _ _ (λ act here. of_method method there act.point act.kind (in-contains _ act here))
