-- What the test shows.
use Rattle.std.proofs.Common.{◌≡◌, ◌≢◌, ◌<◌, ℕ, ℤ, Bool, true, false, List, length, Option, None, Some, IsTrue, refl, sym, ap, ◌∙◌, subst, arith, inl, inr, ◌⊎◌}
use Rattle.std.specs.Prelude.{slice_get}
use Rattle.std.proofs.lemmas.Option.{slice_get_within}
use Rattle.twe_base.specs.Limits.{Bounds}
use Rattle.effect_sets.specs.Filled.{all_filled}
use Rattle.effect_sets.specs.Interference.{SomeInterfere, statically_interfere}
use Rattle.twe_program.specs.declared.program.Decl.{Decl}
use Rattle.twe_program.specs.Fitting.{TakesArguments}
use Rattle.twe_program.specs.Numbering.{Declared, futures_of_all}
use Rattle.twe_program.specs.Program.{Program}
use Rattle.twe_program.specs.WellFormed.{DeclFits, IsWellFormed}
use Rattle.twe_program.specs.Statement.{no_more}
use Rattle.seg_meaning.specs.Meaning.{body_of}
use Rattle.seg_meaning.specs.Entry.{effects_of, future_count_of}
use Rattle.machine_state.specs.declared.state.State.{State}
use Rattle.machine_state.specs.declared.state.TaskRow.{TaskRow}
use Rattle.machine_state.specs.declared.state.TaskStatus.TheVariants.{Done, Made}
use Rattle.machine_state.specs.segment_laws.Ready.{futures_at}
use Rattle.machine_state.specs.Rows.{IsRow}
use Rattle.machine_state.proofs.lists.Places.{got_one}
use Rattle.reduction_laws.specs.Makes.{MayLeadTo}
use Rattle.reduction_laws.specs.Meeting.{NothingMeets}
use Rattle.move_choices.proofs.DeclaredApart.{at_place, declared_apart}

-- no task of this state but t that waits for its admission interferes with this row
abbrev pub SparesMade : State → ℕ → TaskRow → Type 0
SparesMade st t row =
    (u : ℕ) (other : TaskRow) → u ≢ t → IsRow st u other → other.status ≡ Made → ¬ SomeInterfere other.effects.effects row.effects.effects

-- no task but t that isn't done is of a declaration that makes tasks
abbrev pub OthersMakeNone : Program → State → ℕ → Type 0
OthersMakeNone p st t =
    (u : ℕ) (other : TaskRow) → u ≢ t → IsRow st u other → other.status ≢ Done → future_count_of (slice_get p.tasks other.decl) ≡ 0

-- no declaration interferes with this row as it is written
abbrev pub SparesDeclared : Program → TaskRow → Type 0
SparesDeclared p row = (n : ℕ) (decl : Decl) → slice_get p.tasks n ≡ Some decl → statically_interfere decl.summary row.effects ≡ false

module _ (p : Program) (wf : IsWellFormed p) where
  -- a declaration that makes tasks has futures
  has_future : (o : Option Decl) (n : ℕ) → slice_get p.tasks n ≡ o → (future : ℕ) (declared : Declared) → slice_get (futures_at p n) future ≡ Some declared
      → future_count_of o ≡ 0 → ⊥
  has_future None n is future declared there none =
      let empty : slice_get (futures_of_all no_more) future ≡ Some declared = subst (λ (o : Option Decl). slice_get (futures_of_all (body_of o)) future ≡ Some declared) is there in
      cc (empty)
  has_future (Some decl) n is future declared there none =
      let found : slice_get (futures_of_all decl.body.block) future ≡ Some declared =
      subst (λ (o : Option Decl). slice_get (futures_of_all (body_of o)) future ≡ Some declared) is there in
      let within = slice_get_within (futures_of_all decl.body.block) future declared found in
      let count = (at_place (DeclFits p) p.tasks n decl is wf.tasks).numbered.future_count in
      omega (arith, within, count, none)

  -- a task of a declaration
  apart_from : (o : Option Decl) (n : ℕ) → slice_get p.tasks n ≡ o → (row : TaskRow) → IsTrue (all_filled row.effects.effects) → SparesDeclared p row
      → (args : List ℤ) → TakesArguments o (length args) → ¬ SomeInterfere (effects_of o args).effects row.effects.effects
  apart_from None n is row filled spares args takes = absurd takes
  apart_from (Some decl) n is row filled spares args takes = declared_apart p wf n decl is row.effects filled (spares n decl is) args takes

  pub alone_by : (st : State) (t : ℕ) (row : TaskRow) → IsRow st t row → IsTrue (all_filled row.effects.effects) → SparesMade st t row → OthersMakeNone p st t ⊎ SparesDeclared p row
      → NothingMeets p st t
  alone_by st t row here filled spares none = record {
    made = λ u differ made (a, b, is_a, is_b, meet).
        let one = got_one (slice_get st.tasks u) is_a made.1 in
        let two = got_one (slice_get st.tasks t) is_b here in
        spares u made.0 differ made.1 made.2
        (subst (λ (r : TaskRow). SomeInterfere r.effects.effects row.effects.effects) one (subst (λ (r : TaskRow). SomeInterfere a.effects.effects r.effects.effects) two meet));
    later = λ u maker other differ at undone is decl leads args takes meets.
        let same = got_one (slice_get st.tasks t) is here in
        let met = subst (λ (r : TaskRow). SomeInterfere (effects_of (slice_get p.tasks decl) args).effects r.effects.effects) same meets in
        elim none [
          | inl no_futures ↦
              has_future (slice_get p.tasks maker.decl) maker.decl refl leads.makes.future leads.makes.declared leads.makes.there (no_futures u maker differ at undone)
          | inr declared ↦ apart_from (slice_get p.tasks decl) decl refl row filled declared args takes met
        ];
  }
