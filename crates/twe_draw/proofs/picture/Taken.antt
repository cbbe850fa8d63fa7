-- The bar of an entry by its move, and by what it did.
use Rattle.std.proofs.Common.{◌≡◌, ℕ, List, length, Option, None, Some, refl, ap, ◌∙◌}
use Rattle.std.specs.Prelude.{slice_get}
use Rattle.seg_journal.specs.declared.journal.End.{End}
use Rattle.seg_journal.specs.declared.moves.Kind.{Kind}
use Rattle.seg_journal.specs.declared.moves.Kind.TheVariants.{Admit, Run}
use Rattle.seg_journal.specs.declared.moves.Move.{Move}
use Rattle.twe_program.specs.Program.{Program}
use Rattle.machine_state.specs.declared.state.State.{State}
use Rattle.machine_state.specs.declared.state.TaskRow.{TaskRow}
use Rattle.span_profile.specs.Strands.{strand_by_kind}
use Rattle.twe_draw.specs.picture.Bars.{bar_in, concerns, giver_in, last_that, time_at}
use Rattle.twe_draw.specs.declared.picture.bars.Bars.{Bars}
use Rattle.twe_draw.specs.picture.inner.Known.{AreKnown, giver_at, number_at}
use Rattle.twe_draw.specs.picture.inner.Taken.{taken_at, taken_found}

pub strand_task : (p : Program) (st : State) (kind : Kind) (t : ℕ) (found : Option TaskRow) (end : End) → t ≡ (strand_by_kind p st kind t found end).task
strand_task p st Admit t found end = refl
strand_task p st Run t None end = refl
strand_task p st Run t (Some row) end = refl

strand_taken : (p : Program) (st : State) (kind : Kind) (t : ℕ) (found : Option TaskRow) (end : End) → taken_found kind found ≡ (strand_by_kind p st kind t found end).taken
strand_taken p st Admit t found end = refl
strand_taken p st Run t None end = refl
strand_taken p st Run t (Some row) end = refl

-- the giver that is known is that of the bars
giver_known : (bars : Bars) → AreKnown bars → (taken : Option ℕ) → giver_at bars.done taken ≡ giver_in bars.marks taken
giver_known bars known None = refl
giver_known bars known (Some task) = known.done_by task

-- so this is the bar of the entry
pub bar_is : (p : Program) (st : State) (mv : Move) (end : End) (bars : Bars) (starts ends : List ℕ) (number begins ends_at : ℕ) (taken previous giver : Option ℕ) → AreKnown bars
    → number ≡ length bars.marks → taken ≡ taken_at st mv.kind mv.task → begins ≡ time_at starts number → ends_at ≡ time_at ends number
    → previous ≡ number_at bars.lasts mv.task → giver ≡ giver_at bars.done taken
    → record { number = number; task = mv.task; kind = mv.kind; taken = taken; end = end; begins = begins; ends = ends_at; previous = previous; giver = giver }
    ≡ bar_in p starts ends st bars.marks (record { mv = mv; end = end })
bar_is p st mv end bars starts ends number begins ends_at taken previous giver known number_is taken_is begins_is ends_is previous_is giver_is =
    let found = slice_get st.tasks mv.task in
    let task = strand_task p st mv.kind mv.task found end in
    let took = taken_is ∙ strand_taken p st mv.kind mv.task found end in
    let first = begins_is ∙ ap (time_at starts) number_is in
    let last = ends_is ∙ ap (time_at ends) number_is in
    let before = previous_is ∙ (known.last mv.task ∙ ap (λ (t : ℕ). last_that (concerns t) bars.marks) task) in
    let gave = giver_is ∙ (giver_known bars known taken ∙ ap (giver_in bars.marks) took) in
    λ i. record {
      number = number_is i;
      task = task i;
      kind = mv.kind;
      taken = took i;
      end = end;
      begins = first i;
      ends = last i;
      previous = before i;
      giver = gave i;
    }
