-- Each hold stands between the bars of the entry that made its task and of its admission.
use Rattle.std.proofs.Common.{◌≡◌, ◌+◌, ◌++◌, ℕ, zero, suc, List, [], ◌∷◌, Some, ap, sym, ◌∙◌, subst, arith}
use Rattle.std.specs.Prelude.{slice_get, slice_index_or}
use Rattle.std.specs.List.{All}
use Rattle.std.proofs.lemmas.Option.{slice_get_within}
use Rattle.seg_journal.specs.declared.journal.Entry.{Entry}
use Rattle.seg_journal.specs.declared.moves.Move.{Move}
use Rattle.twe_base.specs.Limits.{Bounds}
use Rattle.twe_program.specs.Program.{Program}
use Rattle.machine_state.specs.declared.state.State.{State}
use Rattle.machine_state.specs.declared.state.TaskRow.{TaskRow}
use Rattle.machine_state.specs.Moves.{move_result, start_of}
use Rattle.span_profile.specs.Strands.{strands}
use Rattle.held_span.specs.Freed.{RunEntry, stages_from}
use Rattle.held_span.specs.Holds.{IsHold}
use Rattle.held_span.specs.declared.hold.Hold.{Hold}
use Rattle.held_span.proofs.StrandStages.{strands_are}
use Rattle.twe_draw.specs.picture.Bars.{IsShown, bar_in, bars_from}
use Rattle.twe_draw.specs.picture.HeldBars.{StandsBetween}
use Rattle.twe_draw.specs.picture.Pictures.{IsPicture}
use Rattle.twe_draw.specs.declared.picture.bars.EntryBar.{EntryBar}
use Rattle.twe_draw.proofs.picture.InTime.{bar_there, begins_at, ends_at, holds_are, journal, one_bar_each, staged}
use Rattle.twe_draw.proofs.picture.Shown.{shown_at}

-- a bar has the kind of its entry
kind_of : (p : Program) (lim : Bounds) (starts ends : List ℕ) (st : State) (before : List EntryBar) (entries : List Entry) (k : ℕ) (bar : EntryBar) (stage : RunEntry)
    → slice_get (bars_from p lim starts ends st before entries) k ≡ Some bar → slice_get (stages_from p lim st entries) k ≡ Some stage → bar.kind ≡ stage.kind
kind_of p lim starts ends st before [] k bar stage here there = absurd (cc (here))
kind_of p lim starts ends st before (entry ∷ entries) zero bar stage here there =
    let one : bar_in p starts ends st before entry ≡ bar = cc (here) in
    ap (λ (b : EntryBar). b.kind) (sym one) ∙ (let other = there in cc (other))
kind_of p lim starts ends st before (entry ∷ entries) (suc k) bar stage here there =
    kind_of p lim starts ends (move_result p lim st entry.mv).0 (before ++ bar_in p starts ends st before entry ∷ []) entries k bar stage here there

module _ (p : Program) (lim : Bounds) (moves : List Move) (work span held : ℕ) (chain : List ℕ) (bars : List EntryBar) (tasks : List TaskRow) (holds : List Hold)
    (picture : IsPicture p lim moves work span held chain bars tasks holds) where
  abbrev entries : List RunEntry
  entries = staged p lim moves work span held chain bars tasks holds picture

  -- the bar of an entry, and what it shows
  bar_of_stage : (k : ℕ) (stage : RunEntry) → slice_get entries k ≡ Some stage
      → (bar : EntryBar) × (slice_get bars k ≡ Some bar) × (bar.kind ≡ stage.kind) × IsShown (0 + k) stage.strand bar
  bar_of_stage k stage at =
      let bar = bar_there p lim moves work span held chain bars tasks holds picture k (slice_get_within entries k stage at) in
      let shown = shown_at 0 (strands p lim (journal p lim moves work span held chain bars tasks holds picture)) bars (one_bar_each p lim moves work span held chain bars tasks holds picture) k bar.0 bar.1 in
      let other = strands_are p lim (start_of p lim) (journal p lim moves work span held chain bars tasks holds picture) k shown.0 shown.1 in
      let same : other.0 ≡ stage = cc (other.1, at) in
      let kind = kind_of p lim picture.starts picture.ends (start_of p lim) [] (journal p lim moves work span held chain bars tasks holds picture) k bar.0 stage
      (sym (ap (λ (l : List EntryBar). slice_get l k) picture.drawn.bars_are) ∙ bar.1) at in
      (bar.0, bar.1, kind, subst (λ s. IsShown (0 + k) s bar.0) (sym other.2 ∙ ap (λ (e : RunEntry). e.strand) same) shown.2)

  stands : (hold : Hold) → IsHold picture.times.held.st.tasks entries picture.starts picture.ends hold → StandsBetween bars hold
  stands hold is =
      let admits = is.held.admits in
      let makes = is.held.makes in
      let bar = bar_of_stage hold.entry admits.entry admits.there in
      let maker = bar_of_stage is.held.maker makes.entry makes.there in
      let freeing = bar_of_stage hold.freed_by is.frees.first is.frees.at_first in
      let begins = begins_at p lim moves work span held chain bars tasks holds picture hold.entry bar.0 bar.1 in
      let made = ends_at p lim moves work span held chain bars tasks holds picture is.held.maker maker.0 maker.1 in
      let freed = ends_at p lim moves work span held chain bars tasks holds picture hold.freed_by freeing.0 freeing.1 in
      let time = is.held.time_is in
      let until = is.until in
      record {
        bar = bar.0;
        there = bar.1;
        kind = bar.2 ∙ admits.kind;
        task = bar.3.task ∙ admits.task_is;
        number = is.held.maker;
        maker = maker.0;
        maker_there = maker.1;
        made = maker.3.made ∙ makes.made;
        freeing = freeing.0;
        freeing_there = freeing.1;
        some = is.held.some;
        since = omega (arith, begins, made, time);
        until = omega (arith, begins, freed, until);
      }

  pub holds_stand : All (StandsBetween bars) holds
  holds_stand k d below = stands (slice_index_or holds k d) ((holds_are p lim moves work span held chain bars tasks holds picture).each k d below)
