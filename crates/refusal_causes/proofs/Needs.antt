-- What an act that is found at a place needs there, and why it lacks it.
use Rattle.std.proofs.Common.{◌≡◌, ℕ, Bool, true, List, Option, None, Some, Result, Ok, Err, IsTrue, IfOk, IfSome, Contains, refl, ap, ◌∙◌, subst}
use Rattle.std.specs.Prelude.{IfNone, ◌==◌}
use Rattle.std.proofs.lemmas.Bool.Decides.{Decides-eqb}
use Rattle.twe_base.specs.declared.memory.Memory as out_of
use Rattle.twe_base.specs.declared.place.Place.{Place}
use Rattle.twe_base.proofs.Members.{both-true, true-both}
use Rattle.effect_sets.specs.declared.effects.Effect.{Effect}
use Rattle.twe_program.specs.declared.program.Decl.{Decl}
use Rattle.twe_program.specs.Program.{Program}
use Rattle.effect_check.specs.declared.act.ActKind.{ActKind}
use Rattle.effect_check.specs.declared.rule.ERule.{ERule}
use Rattle.effect_check.specs.Covered.{Does}
use Rattle.refusal_causes.specs.declared.cause.RuleCause.{RuleCause}
use Rattle.refusal_causes.specs.declared.cause.RuleCause.TheVariants.{Undeclared, Out, NotOut, OutAgain, OrderOpen, NotDeterministic}
use Rattle.refusal_causes.specs.Barring.{IsLack}
use Rattle.refusal_causes.specs.Causes.{IsCauseIn, NeedsAt}
use Rattle.refusal_causes.specs.Seeking.{is_at, is_of_needs, needs_at, needs_of}

-- a place is where it is
pub is_there : (place : Place) → is_at place place ≡ true
is_there place =
    true-both (place.line == place.line) (place.col == place.col) ((Decides-eqb place.line place.line).1 refl) ((Decides-eqb place.col place.col).1 refl)

-- places that are the same
pub same_place : (place other : Place) → is_at place other ≡ true → place ≡ other
same_place place other same =
    let both = both-true (place.line == other.line) (place.col == other.col) same in
    ap (λ (n : ℕ). record { line = n; col = place.col }) ((Decides-eqb place.line other.line).0 both.0)
    ∙ ap (λ (n : ℕ). record { line = other.line; col = n }) ((Decides-eqb place.col other.col).0 both.1)

-- what is found is of a weaker kind, too
pub found_weaker : {X : Type 0} (P Q : X → Type 0) → ((x : X) → P x → Q x) → (r : Result (Option X) out_of.Memory)
    → IfOk r (λ found. IfSome found P) → IfOk r (λ found. IfSome found Q)
found_weaker P Q weaker (Ok (Some x)) h = weaker x h
found_weaker P Q weaker (Ok None) h = tt
found_weaker P Q weaker (Err memory) h = tt

-- and so is what holds if nothing is found
pub none_weaker : {X : Type 0} (P Q : Type 0) → (P → Q) → (r : Result (Option X) out_of.Memory)
    → IfOk r (λ found. IfNone found P) → IfOk r (λ found. IfNone found Q)
none_weaker P Q weaker (Ok (Some x)) h = tt
none_weaker P Q weaker (Ok None) h = weaker h
none_weaker P Q weaker (Err memory) h = tt

-- a lack of what is needed for an act at the place is a cause there
pub lack_causes : (p : Program) (rule : ERule) (place : Place) (decl : Decl) (point : ℕ) (kind : ActKind) (needs : List Effect)
    → IsTrue (is_of_needs rule) → Does p decl point kind → IsTrue (needs_at place kind) → needs ≡ needs_of kind
    → (ways : Bool) (cause : RuleCause) → IsLack p ways decl point needs cause → IsCauseIn p ways rule place decl cause
lack_causes p rule place decl point kind needs of does there is ways cause lack = by_cause cause lack where
  here : (need : Effect) → Contains needs need → NeedsAt p decl point place need
  here need inside = record { kind = kind; does = does; there = there; needs = subst (λ (xs : List Effect). Contains xs need) is inside }

  by_cause : (cause : RuleCause) → IsLack p ways decl point needs cause → IsCauseIn p ways rule place decl cause
  by_cause (Undeclared need declared decl_place) h = (of, h.0, h.1, record { point = point; needs = here need h.2; outside = h.3 })
  by_cause (Out need other future_place way decl_place) h = (of, h.0, record { point = point; needs = here need h.1; barred = h.2 })
  by_cause (NotOut future_place way) h = absurd h
  by_cause (OutAgain way) h = absurd h
  by_cause (OrderOpen makes decl_place) h = absurd h
  by_cause (NotDeterministic decl_place) h = absurd h
