-- What is found in the rest of a body is found in the body.
use Rattle.std.proofs.Common.{◌⊎◌, ℕ, zero, suc, List, inl, inr, subst}
use Rattle.twe_program.specs.Expression.{Expression}
use Rattle.twe_base.specs.declared.place.Place.{Place}
use Rattle.twe_program.specs.Statement.{Statement, Block, If, While, Return, Statements, no_more, statement, Arms}
use Rattle.cover_flow.specs.ControlPath.{Path}
use Rattle.cover_flow.specs.Steps.{IsBranch, Steps, StepsFar, StepsOn, followed_by}
use Rattle.effect_check.proofs.Members.{IsIn}

-- a list that is collected from the statements of a body: its calls, for example, or its spawns
module _ {X : Type 0} (of : Statement → List X) (of_all : Statements → List X) (x : X)
    (none : IsIn x (of_all no_more) → ⊥)
    (split : (first : Statement) (others : Statements) → IsIn x (of_all (statement first others)) → IsIn x (of first) ⊎ IsIn x (of_all others))
    (here : (first : Statement) (others : Statements) → IsIn x (of first) → IsIn x (of_all (statement first others)))
    (there : (first : Statement) (others : Statements) → IsIn x (of_all others) → IsIn x (of_all (statement first others)))
    (in_block : (point : ℕ) (body : Statements) → IsIn x (of_all body) → IsIn x (of (Block point body)))
    (in_loop : (point : ℕ) (condition : Expression) (body : Statements) (place : Place) → IsIn x (of_all body) → IsIn x (of (While point condition body place)))
    (in_branch : (point : ℕ) (arms : Arms) (taken : Statements) → IsBranch arms taken → IsIn x (of_all taken) → IsIn x (of (If point arms))) where
  followed : (body others : Statements) → IsIn x (of_all (followed_by body others)) → IsIn x (of_all body) ⊎ IsIn x (of_all others)
  followed no_more others h = inr h
  followed (statement first more) others h = elim (split first (followed_by more others) h) [
    | inl now ↦ inl (here first more now)
    | inr later ↦ elim (followed more others later) [
      | inl front ↦ inl (there first more front)
      | inr back ↦ inr back
    ]
  ]

  step_on : (first : Statement) (others : Statements) (path : Path) (left : Statements) (later : Path) → StepsOn first others path left later
      → IsIn x (of_all left) → IsIn x (of_all (statement first others))
  step_on (Block point body) others path left later s h = elim (followed body others (subst (λ (y : Statements). IsIn x (of_all y)) s.0 h)) [
    | inl inside ↦ here (Block point body) others (in_block point body inside)
    | inr after ↦ there (Block point body) others after
  ]
  step_on (If point arms) others path left later s h = elim (followed s.0 others (subst (λ (y : Statements). IsIn x (of_all y)) s.2 h)) [
    | inl inside ↦ here (If point arms) others (in_branch point arms s.0 s.1 inside)
    | inr after ↦ there (If point arms) others after
  ]
  step_on (While point condition body place) others path left later s h =
      let loop = While point condition body place in
      elim s.0 [
        | inl past ↦ there loop others (subst (λ (y : Statements). IsIn x (of_all y)) past h)
        | inr turn ↦ elim (followed body (statement loop others) (subst (λ (y : Statements). IsIn x (of_all y)) turn h)) [
          | inl inside ↦ here loop others (in_loop point condition body place inside)
          | inr after ↦ after
        ]
      ]
  step_on (Return point value) others path left later s h = absurd (none (subst (λ (y : Statements). IsIn x (of_all y)) s.0 h))
  step_on first others path left later s h = there first others (subst (λ (y : Statements). IsIn x (of_all y)) s.0 h)

  step : (from : Statements) (path : Path) (left : Statements) (later : Path) → Steps from path left later → IsIn x (of_all left) → IsIn x (of_all from)
  step no_more path left later s h = absurd s
  step (statement first others) path left later s h = step_on first others path left later s h

  pub collected : (n : ℕ) (from : Statements) (path : Path) (left : Statements) (later : Path) → StepsFar n from path left later → IsIn x (of_all left) → IsIn x (of_all from)
  collected zero from path left later s h = subst (λ (y : Statements). IsIn x (of_all y)) s.0 h
  collected (suc n) from path left later s h = step from path s.0 s.1 s.2 (collected n s.0 s.1 left later s.3 h)
