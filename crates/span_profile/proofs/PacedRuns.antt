-- The paced timetable of the entries of a run.
use Rattle.std.proofs.Common.{◌≡◌, ◌<◌, ◌≤◌, ◌+◌, ◌*◌, ℕ, List, length, sym, ap, ◌∙◌, subst, arith}
use Rattle.std.specs.List.{sum_by}
use Rattle.seg_journal.specs.declared.journal.Entry.{Entry}
use Rattle.seg_journal.specs.declared.moves.Move.{Move}
use Rattle.twe_base.specs.Limits.{Bounds}
use Rattle.twe_program.specs.Program.{Program}
use Rattle.machine_state.specs.Moves.{start_of}
use Rattle.machine_state.specs.Runs.{counted}
use Rattle.machine_state.proofs.replays.Replayed.{one_from}
use Rattle.span_profile.specs.Profiles.{HasEarliest, IsProfile}
use Rattle.span_profile.specs.Strands.{strands, weight_of}
use Rattle.schedules.specs.Schedules.{least_time}
use Rattle.schedules.specs.Sums.{sum_below}
use Rattle.schedules.specs.Timetables.{IsPacedTime}
use Rattle.schedules.proofs.PacedTimes.{least, short}
use Rattle.span_profile.specs.Speed.{EntryLeads, entry_weight}
use Rattle.span_profile.proofs.Speed.{sum_of_list}

module _ (p : Program) (lim : Bounds) (moves : List Move) (work span workers time : ℕ) (chain starts ends : List ℕ) (profile : IsProfile p lim moves work span chain)
    (times : HasEarliest p lim moves span starts ends) (is : IsPacedTime starts ends workers time) where
  abbrev journal : List Entry
  journal = counted times.journal

  abbrev whole : ℕ
  whole = sum_below (entry_weight p lim journal) (length (strands p lim journal))

  work_is : whole ≡ work
  work_is =
      sum_of_list weight_of (strands p lim journal)
      ∙ (ap (λ (j : List Entry). sum_by weight_of (strands p lim (counted j))) (one_from p lim (start_of p lim) times.journal profile.journal times.legal profile.legal (times.has ∙ sym profile.has))
      ∙ sym profile.heaviest.work_is)

  pub run_least : 0 < workers → least_time work span workers ≤ time
  run_least some =
      subst (λ (w : ℕ). least_time w span workers ≤ time) work_is
      (least (EntryLeads p lim journal) (entry_weight p lim journal) (length (strands p lim journal)) span starts ends times.earliest workers time is some)

  pub run_short : workers * time ≤ work + workers * span
  run_short =
      let bound = short (EntryLeads p lim journal) (entry_weight p lim journal) (length (strands p lim journal)) span starts ends times.earliest workers time is in
      omega (arith, bound, work_is)
