-- What the rules on effects say of the spawns of a body that keeps them. A future is not out at a spawn into it. The
-- effects of a spawned task interfere with those of no task whose future may be out at the spawn.
use Rattle.std.proofs.Common.{ℕ, ℤ, true, false, IsTrue, List, [], ◌∷◌, Contains, inl, sym}
use Rattle.std.specs.Prelude.{slice_get}
use Rattle.twe_base.specs.declared.place.Place.{Place}
use Rattle.effect_sets.specs.declared.effects.Effect.{Effect}
use Rattle.effect_sets.specs.Interference.{SomeInterfere, statically_interferes}
use Rattle.twe_program.specs.declared.program.Decl.{Decl}
use Rattle.twe_program.specs.Expression.{Expression, Literal, Truth, Variable, CellValue, ArrayElement, GridElement, CallValue, Negative, Negation, Binary, Arguments, argument}
use Rattle.twe_program.specs.Expression as args
use Rattle.twe_program.specs.Program.{Program}
use Rattle.cover_flow.specs.Out.{MayBeOut}
use Rattle.seg_meaning.specs.Entry.{effects_at}
use Rattle.effect_check.specs.declared.rule.ERule.TheVariants.{E3, E5}
use Rattle.effect_check.specs.Acts.{acts_in_all, filled_summary, is_deterministic, make}
use Rattle.effect_check.specs.FailsEffect.{spawned, spawned_again}
use Rattle.effect_check.specs.Standing.{element_of_index, elements_of}
use Rattle.effect_check.proofs.Members.{IsIn, in-contains}
use Rattle.isolation_laws.specs.soundness.KeepsEffects.{KeepsEffects}
use Rattle.machine_state.specs.segment_laws.Operations.{AllMayHave, MayHave}
use Rattle.isolation_laws.proofs.effects.Instances.{AllStandAs, StandsAs, instances_apart}

-- a written argument may stand for each value that it may have
stands_as : (e : Expression) (value : ℤ) → MayHave e value → StandsAs (element_of_index e) value
stands_as (Literal literal) value may = sym may
stands_as (Truth truth) value may = tt
stands_as (Variable var true) value may = tt
stands_as (Variable var false) value may = tt
stands_as (CellValue cell place) value may = tt
stands_as (ArrayElement array index place) value may = tt
stands_as (GridElement array row column place) value may = tt
stands_as (CallValue method given place) value may = tt
stands_as (Negative operand) value may = tt
stands_as (Negation operand) value may = tt
stands_as (Binary op left right place) value may = tt

pub all_stand_as : (given : Arguments) (values : List ℤ) → AllMayHave given values → AllStandAs (elements_of given) values
all_stand_as args.no_more [] may = tt
all_stand_as args.no_more (value ∷ values) may = absurd may
all_stand_as (argument first others) [] may = absurd may
all_stand_as (argument first others) (value ∷ values) may = (stands_as first value may.0, all_stand_as others values may.1)

module _ (p : Program) (keeps : KeepsEffects p) (decl : Decl) (there : Contains p.tasks decl)
    (point future task : ℕ) (given : Arguments) (future_place place : Place)
    (act : IsIn (make p point future task given true future_place place) (acts_in_all p decl.body.block)) where
  pub not_out_again : ¬ MayBeOut decl.body point future
  not_out_again may =
      keeps E5 future_place
      (inl (
        decl,
        there,
        spawned_again point future (is_deterministic (slice_get p.tasks task)) (filled_summary (slice_get p.tasks task) (elements_of given)) future_place place
            (in-contains _ _ act) may,
      ))

  -- another spawn of the body, whose future may be out at this one
  module _ (at other child : ℕ) (taken : Arguments) (other_place child_place : Place)
      (other_act : IsIn (make p at other child taken true other_place child_place) (acts_in_all p decl.body.block)) (may : MayBeOut decl.body point other) where
    written_apart : (a b : Effect) → IsIn a (filled_summary (slice_get p.tasks task) (elements_of given)).effects
        → IsIn b (filled_summary (slice_get p.tasks child) (elements_of taken)).effects → ¬ IsTrue (statically_interferes a b)
    written_apart a b in_a in_b interfere =
        keeps E3 place
        (inl (
          decl,
          there,
          spawned point future (is_deterministic (slice_get p.tasks task)) (filled_summary (slice_get p.tasks task) (elements_of given)) a future_place place
              (in-contains _ _ act) (in-contains _ _ in_a)
              (λ covered.
              covered.free at other (is_deterministic (slice_get p.tasks child)) (filled_summary (slice_get p.tasks child) (elements_of taken)) other_place child_place
              (in-contains _ _ other_act) may b (in-contains _ _ in_b) interfere),
        ))

    pub spawned_apart : (values taken_values : List ℤ) → AllMayHave given values → AllMayHave taken taken_values
        → ¬ SomeInterfere (effects_at p task values).effects (effects_at p child taken_values).effects
    spawned_apart values taken_values may_have may_take =
        instances_apart (slice_get p.tasks task) (slice_get p.tasks child) (elements_of given) (elements_of taken) values taken_values
        (all_stand_as given values may_have) (all_stand_as taken taken_values may_take) written_apart
