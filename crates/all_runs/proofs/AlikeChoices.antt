-- A choice that is enough in a state is enough in one like it.
use Rattle.std.proofs.Common.{◌≡◌, ◌≢◌, ℕ, ℤ, Bool, true, false, List, Some, refl, sym, ap, ◌∙◌, subst, inl, inr}
use Rattle.std.proofs.lemmas.Bool.{cases_Bool}
use Rattle.effect_sets.specs.declared.effects.Effect.{Effect}
use Rattle.effect_sets.specs.Interference.{SomeInterfere}
use Rattle.seg_journal.specs.declared.moves.Kind.TheVariants.{Admit, Run}
use Rattle.twe_program.specs.Program.{Program}
use Rattle.seg_meaning.specs.Entry.{effects_at}
use Rattle.machine_state.specs.declared.state.State.{State}
use Rattle.machine_state.specs.declared.state.TaskRow.{TaskRow}
use Rattle.machine_state.specs.declared.state.TaskStatus.{TaskStatus}
use Rattle.machine_state.specs.declared.state.TaskStatus.TheVariants.{Done, Enabled, Faulted, Made}
use Rattle.machine_state.specs.Rows.{HasStatus, IsRow, is_done_row, is_done_status}
use Rattle.reduction_laws.specs.declared.choice.Choice.{Choice}
use Rattle.reduction_laws.specs.declared.choice.Choice.TheVariants.{Admission, EachAdmission, Segment}
use Rattle.reduction_laws.specs.Enough.{IsEnough}
use Rattle.reduction_laws.specs.Makes.{MayLeadTo}
use Rattle.reduction_laws.specs.Meeting.{NothingMeets}
use Rattle.state_copies.specs.Lasting.{AreAlike}
use Rattle.all_runs.proofs.Alike.{counterpart, effects_alike, has_alike, interfere_alike, row_alike, take_alike}

undone_status : (status : TaskStatus) → status ≢ Done → is_done_status status ≡ false
undone_status Made undone = refl
undone_status Enabled undone = refl
undone_status Faulted undone = refl
undone_status Done undone = absurd (undone refl)

module _ (p : Program) (st other : State) (alike : AreAlike st other) where
  alone_alike : (t : ℕ) → NothingMeets p st t → NothingMeets p other t
  alone_alike t alone = record {
    made = λ u differ made meets. alone.made u differ (has_alike other st u Made (sym alike) made) (interfere_alike other st u t (sym alike) meets);
    later = λ u maker row differ at undone here decl leads args takes meets.
        let found = counterpart other st t row (sym alike) here in
        alone.later u maker found.its differ (row_alike other st u maker (sym alike) at (undone_status maker.status undone)) undone found.there decl leads args takes
        (subst (λ (es : List Effect). SomeInterfere (effects_at p decl args).effects es) (sym (effects_alike found.its row found.alike)) meets);
  }

  pub enough_alike : (choice : Choice) → IsEnough p st choice → IsEnough p other choice
  enough_alike (Segment t) may = take_alike st other Run t alike may
  enough_alike (Admission t) enough = (take_alike st other Admit t alike enough.0, alone_alike t enough.1)
  enough_alike EachAdmission none = λ t may. none t (take_alike other st Run t (sym alike) may)
