-- How a worker sets out.
use Rattle.std.proofs.Common.{◌≡◌, ◌≢◌, ℕ, Bool, true, false, List, [], ◌∷◌, Option, Some, if◌then◌else◌, refl, sym, ap, subst, ◌∙◌, inl, inr, ⊎_elim}
use Rattle.std.specs.Prelude.{◌==◌, Contains, slice_get}
use Rattle.std.proofs.lemmas.Bool.{cases_eq}
use Rattle.std.proofs.lemmas.Bool.Decides.{Decides-eqb}
use Rattle.std.proofs.lemmas.List.Elements.{Contains-get_or}
use Rattle.std.proofs.lemmas.Option.{get_or_from_slice_get, slice_get_within}
use mathlib.Core.Option as core
use Rattle.region_paths.specs.declared.elements.Elem.{Elem}
use Rattle.effect_sets.specs.declared.effects.Effect.{Effect}
use Rattle.floor_laws.specs.declared.rule.view.HeldTurn.{HeldTurn}
use Rattle.floor_laws.specs.table.FloorOf.{turn_in}
use Rattle.floor_laws.specs.admission.admission_core.States.{Descends, IsPlaceOf, Stage, Walks, record_effect}
use Rattle.floor_laws.specs.admission.admission_core.Events.{HasCome}
use Rattle.floor_laws.specs.rule.nodes.LockSteps.{MaySetOut}
use Rattle.floor_laws.specs.declared.table.nodes.slot.Errand.{Errand}
use Rattle.floor_laws.specs.declared.table.nodes.slot.ErrandKind.{ErrandKind}
use Rattle.floor_laws.specs.declared.table.nodes.slot.ErrandKind.TheVariants.{Admission, Placing, Removal}
use Rattle.floor_laws.specs.declared.table.nodes.slot.TreeSlot.TheVariants as kinds
use Rattle.floor_laws.specs.declared.table.nodes.view.TreeView.{TreeView}
use Rattle.floor_laws.specs.table.nodes.Seats.{MayLock, activity_for, effect_known, enters, errand_of, purpose_for, turns_seen}
use Rattle.tree_admit.specs.Going.{IsOutside}
use Rattle.floor_laws.specs.table.nodes.Seats.{stage_at}
use Rattle.tree_admit.specs.Errands.{KnowsErrand, MaySetOutFor, errand_at}

-- Coming to a node.

choose_true : (b : Bool) (x y : Stage) → b ≡ true → (if b then x else y) ≡ x
choose_true true x y h = refl
choose_true false x y h = absurd (let no = h in cc)

choose_false : (b : Bool) (x y : Stage) → b ≢ true → (if b then x else y) ≡ y
choose_false true x y h = absurd (h refl)
choose_false false x y h = refl

pub come_there : (place n : ℕ) → n ≡ place → stage_at place n ≡ Walks (n ∷ []) []
come_there place n same = choose_true (place == n) (Walks (n ∷ []) []) (Descends n) ((Decides-eqb place n).1 (sym same))

pub come_above : (place n : ℕ) → n ≢ place → stage_at place n ≡ Descends n
come_above place n other = choose_false (place == n) (Walks (n ∷ []) []) (Descends n) (λ same. other (sym ((Decides-eqb place n).0 same)))

pub has_come : (place n : ℕ) → HasCome place n (stage_at place n)
has_come place n = ⊎_elim (λ (at : n ≡ place). inr (at, come_there place n at)) (λ (above : n ≢ place). inl (above, come_above place n above)) (cases_eq n place)

-- Errands.

pub has_effect : (effects : List Effect) (k : ℕ) (e : Effect) → slice_get effects k ≡ Some e → Contains effects e
has_effect effects k e is = subst (Contains effects) (get_or_from_slice_get effects k e e is) (Contains-get_or effects k e (slice_get_within effects k e is))

pub effect_is : (kind : ErrandKind) (t : ℕ) (e : Effect) → record_effect (purpose_for kind t e) ≡ e
effect_is Admission t e = refl
effect_is Placing t e = refl
effect_is Removal t e = refl

may_set_out : (v : TreeView) (kind : ErrandKind) (t : ℕ) (e : Effect) (turn : HeldTurn) → turn_in v.floor.turns t ≡ Some turn → Contains turn.row.effects.effects e → MaySetOutFor kind turn
    → MaySetOut (turns_seen v) 0 (purpose_for kind t e)
may_set_out v Admission t e turn has effect may = record { turn = turn; has = has; taken = may.0; made = may.1; effect = effect }
may_set_out v Placing t e turn has effect may = tt
may_set_out v Removal t e turn has effect may = tt

module _ (nodes : List (List Elem)) (v : TreeView) (errand : Errand) (e : Effect) (knows : KnowsErrand nodes v errand e) where
  errand_is : errand_of v (core.some (kinds.Errand errand)) ≡ Some (errand_at errand e 0)
  errand_is =
      ap (λ (turn : Option HeldTurn). activity_for errand (effect_known turn errand.effect)) knows.has
      ∙ ap (λ (effect : Option Effect). activity_for errand effect) knows.effect

  pub may_enter : IsOutside v → MayLock nodes v (core.some (kinds.Errand errand)) 0 (errand_at errand e 0)
  may_enter outside =
      enters refl errand_is
      (record {
        idle = outside.idle;
        purpose = may_set_out v errand.kind errand.task e knows.turn knows.has (has_effect knows.turn.row.effects.effects errand.effect e knows.effect) knows.may;
        place = subst (λ (f : Effect). IsPlaceOf nodes f errand.place) (sym (effect_is errand.kind errand.task e)) knows.place;
        stage = has_come errand.place 0;
      })
