-- Where no act makes the task of a future, the body makes it nowhere.
use Rattle.std.proofs.Common.{◌≡◌, ◌∙◌, ℕ, Bool, true, false, List, sym, subst, eq-eqb, refl}
use Rattle.std.specs.List.{All}
use Rattle.std.proofs.lemmas.Bool.{false≢true}
use Rattle.std.proofs.lemmas.List.Elements.{All-contains, All-contains_itself}
use Rattle.twe_base.specs.declared.place.Place.{Place}
use Rattle.twe_program.specs.declared.program.Decl.{Decl}
use Rattle.twe_program.specs.Program.{Program}
use Rattle.cover_flow.specs.Flow.{is_among}
use Rattle.effect_check.specs.declared.act.Act.{Act}
use Rattle.effect_check.specs.declared.act.ActKind.{ActKind}
use Rattle.effect_check.specs.declared.act.ActKind.TheVariants.{Make}
use Rattle.effect_check.specs.Acts.{acts_in_all}
use Rattle.refusal_causes.specs.Causes.{IsMadeAt, IsMadeNowhere}
use Rattle.refusal_causes.specs.inner.Keeping.{IsNoMake, is_making}
use Rattle.refusal_causes.specs.inner.Listed.{makes_among, makes_of}
use Rattle.refusal_causes.proofs.Kept.{unfiltered}

module _ (p : Program) (task : Decl) (future : ℕ) where
  -- the act that makes the future's task at a place
  abbrev making : (place : Place) → IsMadeAt p task future place → Act
  making place made = record {
    point = made.at;
    kind = Make future made.spawned made.deterministic made.effects place made.place;
  }

  pub made_nowhere : All (IsNoMake future) (acts_in_all p task.body.block) → IsMadeNowhere p task future
  made_nowhere none place made =
      let no : IsNoMake future (making place made) =
      All-contains (IsNoMake future) (acts_in_all p task.body.block) (making place made) none made.makes in
      false≢true (sym no ∙ eq-eqb future future refl)

  -- it is enough to look at those that make the tasks of 128 futures, if this is one of them
  pub not_among : (first : ℕ) (makes : List Act) → makes ≡ makes_of first (acts_in_all p task.body.block) → is_among first future ≡ true
      → All (IsNoMake future) makes → IsMadeNowhere p task future
  not_among first makes are among none place made =
      let acts = acts_in_all p task.body.block in
      let all = unfiltered (λ (act : Act). makes_among first act.kind) (IsNoMake future) acts
      (subst (All (IsNoMake future)) are none) in
      let no : IsNoMake future (making place made) =
      All-contains (λ (act : Act). makes_among first act.kind ≡ true → IsNoMake future act) acts (making place made) all made.makes among in
      false≢true (sym no ∙ eq-eqb future future refl)
