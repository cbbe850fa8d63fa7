-- What is declared, and barred by no spawned task, is covered.
use Rattle.std.proofs.Common.{◌≡◌, ℕ, ◌∙◌, Bool, true, false, List, sym, get_or}
use Rattle.std.specs.List.{All}
use Rattle.std.proofs.lemmas.Bool.{false≢true}
use Rattle.std.proofs.lemmas.List.Elements.{All-contains}
use Rattle.twe_base.proofs.Members.{all-in, contains-in}
use Rattle.twe_base.specs.declared.place.Place.{Place}
use Rattle.effect_sets.specs.declared.effects.Effect.{Effect}
use Rattle.effect_sets.specs.declared.effects.Summary.{Summary}
use Rattle.effect_sets.specs.Interference.{statically_interferes}
use Rattle.twe_program.specs.declared.program.Decl.{Decl}
use Rattle.twe_program.specs.Program.{Program}
use Rattle.twe_program.specs.WellFormed.{DeclFits}
use Rattle.cover_flow.specs.Out.{MayBeOut}
use Rattle.effect_check.specs.declared.act.Act.{Act}
use Rattle.effect_check.specs.declared.act.ActKind.{ActKind}
use Rattle.effect_check.specs.declared.act.ActKind.TheVariants.{Make}
use Rattle.effect_check.specs.Acts.{acts_in_all}
use Rattle.effect_check.specs.Covered.{CoveredAt, Does}
use Rattle.effect_check.proofs.Range.{IsInRange, body-in_range}
use Rattle.refusal_causes.specs.inner.Keeping.{AreFreeOf, BarsNone, IsDeclared, IsFreeOf, IsNoBar}

-- each of these effects is covered, if each is declared and no act bars one
pub all_covered : (p : Program) (task : Decl) (point : ℕ) (needs : List Effect) → All (IsDeclared task.summary) needs
    → All (IsNoBar task point needs) (acts_in_all p task.body.block) → All (CoveredAt p task point) needs
all_covered p task point needs declared free = λ k d below. record {
  declared = declared k d below;
  free = λ at future deterministic effects future_place place does out other contained interferes.
      let act : Act = record { point = at; kind = Make future true deterministic effects future_place place } in
      let free_of : MayBeOut task.body point future → All (IsFreeOf effects) needs =
      All-contains (IsNoBar task point needs) (acts_in_all p task.body.block) act free does in
      let none : statically_interferes (get_or needs k d) other ≡ false =
      All-contains (λ (e : Effect). statically_interferes (get_or needs k d) e ≡ false) effects.effects other (free_of out k d below) contained in
      absurd (false≢true (sym none ∙ interferes));
}

-- what is done is at a point that the body has, and a spawn is into a future that it has
pub in_range : (p : Program) (decl : Decl) → DeclFits p decl → (point : ℕ) (kind : ActKind) → Does p decl point kind
    → IsInRange decl.body.points decl.body.futures (record { point = point; kind = kind })
in_range p decl fits point kind does =
    let act : Act = record { point = point; kind = kind } in
    let acts = acts_in_all p decl.body.block in
    all-in (IsInRange decl.body.points decl.body.futures) acts (body-in_range p decl fits) act (contains-in acts act does)

-- what makes a task bars none of the effects if none of its own interferes, or if it is no spawn
pub bars_none : (task : Decl) (point : ℕ) (needs : List Effect) (future : ℕ) (spawned deterministic : Bool) (effects : Summary)
    (future_place place : Place) → AreFreeOf task.body point needs future effects
    → BarsNone task point needs (Make future spawned deterministic effects future_place place)
bars_none task point needs future true deterministic effects future_place place free = free
bars_none task point needs future false deterministic effects future_place place free = tt
