-- Over every legal journal: how often each task was made, admitted and finished, and how long the journal is at most.
use Rattle.std.proofs.Common.{◌≡◌, ◌+◌, ◌*◌, ◌<◌, ◌≤◌, ℕ, zero, suc, Bool, List, [], ◌∷◌, ◌++◌, length, cond, refl, sym, ap, subst, arith}
use Rattle.std.specs.Prelude.{slice_get}
use Rattle.std.proofs.lemmas.Bool.{le-ltb}
use Rattle.std.proofs.lemmas.List.{append_assoc, append-nil}
use Rattle.seg_journal.specs.declared.journal.Entry.{Entry}
use Rattle.twe_base.specs.Limits.{Bounds}
use Rattle.twe_program.specs.Program.{Program}
use Rattle.twe_program.specs.WellFormed.{IsWellFormed}
use Rattle.seg_meaning.specs.Entry.{entry_frame}
use Rattle.machine_state.proofs.segment_laws.SegmentKept.{segment_keeps}
use Rattle.machine_state.specs.declared.state.State.{State}
use Rattle.machine_state.specs.declared.state.TaskRow.{TaskRow}
use Rattle.machine_state.specs.Moves.{start_of, result_by_kind}
use Rattle.machine_state.specs.Runs.{Legal, LegalFrom, replayed, state_after}
use Rattle.machine_state.proofs.weight.Falls.{childless, falls}
use Rattle.machine_state.proofs.counts.JournalCounts.{Counts, times_made, times_admitted, times_finished}
use Rattle.machine_state.proofs.counts.KeptCounts.{adds, counts_more}
use Rattle.machine_state.proofs.standing.ReachedStands.{start_stands, taken_stands}
use Rattle.machine_state.proofs.lists.RowNumbers.{number_at}
use Rattle.machine_state.proofs.standing.Standing.{Stands}
use Rattle.machine_state.proofs.weight.Weight.{weight, less_room}

module _ (p : Program) (lim : Bounds) (well : IsWellFormed p) where
  -- The counts.

  -- one move more
  counted_move : (st : State) (entry : Entry) (entries before : List Entry) → Stands p lim st → LegalFrom p lim st (entry ∷ entries) → Counts before st
      → Counts (before ++ entry ∷ []) (result_by_kind p lim st entry.mv.kind entry.mv.task).0
  counted_move st entry entries before stands legal counts =
      counts_more p lim st entry before counts legal.1
      (λ u. adds p lim st entry.mv.kind u entry.mv.task legal.0 (λ row found made. ap (λ (r : TaskRow). r.parent) ((stands.rows entry.mv.task row found).made made)) stands.some stands.number)

  -- all moves
  counted_run : (st : State) (entries before : List Entry) → Stands p lim st → LegalFrom p lim st entries → Counts before st → Counts (before ++ entries) (replayed p lim st entries)
  counted_run st [] before stands legal counts = subst (λ (journal : List Entry). Counts journal st) (sym (append-nil before)) counts
  counted_run st (entry ∷ entries) before stands legal counts =
      let next : State = (result_by_kind p lim st entry.mv.kind entry.mv.task).0 in
      subst (λ (journal : List Entry). Counts journal (replayed p lim next entries)) (append_assoc before (entry ∷ []) entries)
      (counted_run next entries (before ++ entry ∷ []) (taken_stands p lim well st entry.mv.kind entry.mv.task legal.0 stands) legal.2
      (counted_move st entry entries before stands legal counts))

  -- at the start nothing has happened
  none_made : (t : ℕ) → 0 ≡ times_made t 1
  none_made zero = refl
  none_made (suc t) = sym (ap (λ (b : Bool). cond b 1 0) (le-ltb (suc t) 1 (omega arith)))

  none_admitted : (t : ℕ) → 0 ≡ number_at times_admitted (slice_get (start_of p lim).tasks t)
  none_admitted zero = refl
  none_admitted (suc t) = refl

  none_finished : (t : ℕ) → 0 ≡ number_at times_finished (slice_get (start_of p lim).tasks t)
  none_finished zero = refl
  none_finished (suc t) = refl

  -- the counts of a legal journal are those that the state it leads to gives
  pub journal_counts : (journal : List Entry) → Legal p lim journal → Counts journal (state_after p lim journal)
  journal_counts journal legal =
      counted_run (start_of p lim) journal [] (start_stands p lim well) legal (record { made = none_made; admitted = none_admitted; finished = none_finished })

  -- The length.

  -- each move takes some of the weight
  weighed_run : (st : State) (entries : List Entry) → Stands p lim st → LegalFrom p lim st entries → length entries + weight lim (replayed p lim st entries) ≤ weight lim st
  weighed_run st [] stands legal = omega arith
  weighed_run st (entry ∷ entries) stands legal =
      let next : State = (result_by_kind p lim st entry.mv.kind entry.mv.task).0 in
      let lighter : weight lim next < weight lim st =
      falls p lim st entry.mv.task (segment_keeps p) stands.number entry.mv.kind legal.0
      (λ row found. let stand = stands.rows entry.mv.task row found in (stand.out, λ on is. let closing = stand.frame.closing on is in (closing.others, closing.out))) in
      let rest = weighed_run next entries (taken_stands p lim well st entry.mv.kind entry.mv.task legal.0 stands) legal.2 in
      omega (arith, lighter, rest)

  start_weight : 1 ≤ lim.tasks → weight lim (start_of p lim) ≤ lim.tasks * (2 * lim.fuel + 2)
  start_weight some =
      let whole = less_room lim lim.tasks (omega arith) in
      omega (arith, whole, childless (entry_frame p p.main []).next)

  pub journal_length : (journal : List Entry) → 1 ≤ lim.tasks → Legal p lim journal → length journal ≤ lim.tasks * (2 * lim.fuel + 2)
  journal_length journal some legal =
      let run = weighed_run (start_of p lim) journal (start_stands p lim well) legal in
      omega (arith, run, start_weight some)
