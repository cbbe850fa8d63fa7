-- A closed exploration shows in which ways runs end: the induction over the moves that the limits leave.
use Rattle.std.proofs.Common.{◌≡◌, ◌≢◌, ◌≤◌, ◌<◌, ◌+◌, ◌*◌, ◌++◌, ℕ, zero, suc, List, [], ◌∷◌, length, None, inl, inr, refl, sym, ap, ◌∙◌, subst, arith}
use Rattle.std.proofs.lemmas.Option.{slice_get_within}
use Rattle.std.proofs.lemmas.List.{length-append}
use Rattle.seg_journal.specs.declared.journal.Entry.{Entry}
use Rattle.seg_journal.specs.declared.moves.Move.{Move}
use Rattle.twe_base.specs.Limits.{Bounds}
use Rattle.twe_program.specs.Program.{Program}
use Rattle.twe_program.specs.WellFormed.{IsWellFormed}
use Rattle.isolation_laws.specs.soundness.KeepsEffects.{KeepsEffects}
use Rattle.machine_state.specs.declared.ending.Outcome.{Outcome}
use Rattle.machine_state.specs.declared.ending.Outcome.TheVariants.{Unfinished}
use Rattle.machine_state.specs.declared.state.State.{State}
use Rattle.machine_state.specs.Legal.{MayMove}
use Rattle.machine_state.specs.Moves.{move_result, start_of}
use Rattle.machine_state.specs.Runs.{IsOutcome, IsReached, IsRun, entry_of}
use Rattle.machine_state.proofs.counts.AllJournals.{journal_length}
use Rattle.machine_state.proofs.replays.Replayed.{run_more}
use Rattle.flat_sched.specs.declared.ending.WholeRun.{WholeRun}
use Rattle.reduction_laws.specs.Enough.{IsChosen, IsEnough}
use Rattle.reduction_laws.specs.WaysToEnd.{CanEndSo, HasEndedSo, WayToEnd, all_done, faulty, stuck}
use Rattle.reduction_laws.proofs.EnoughMoves.{enough_moves}
use Rattle.all_runs.specs.declared.found.FoundRun.{FoundRun}
use Rattle.all_runs.specs.AllRuns.{IsFoundWay, ShowsAllRuns}
use Rattle.all_runs.specs.Explored.{IsClosedBelow, IsExploration, IsFoundEnd, IsKnown, IsSeen}
use Rattle.state_copies.specs.Lasting.{AreAlike}
use Rattle.all_runs.proofs.Alike.{may_alike, one_result, outcome_alike, result_alike}
use Rattle.all_runs.proofs.AlikeChoices.{enough_alike}
use Rattle.all_runs.proofs.AlikeMoves.{move_alike}
use Rattle.all_runs.proofs.EndedWays.{met_none, way_found}

-- what is known of a state is known of one like it
end_alike : (ended : List WholeRun) (st other : State) (outcome : Outcome) → AreAlike st other → IsFoundEnd ended st outcome → IsFoundEnd ended other outcome
end_alike ended st other outcome alike (at, run, is, answers) =
    (at, run, is, record { ended_so = answers.ended_so; result = λ all. one_result run.state st other (answers.result all) (result_alike st other alike) })

known_alike : (going : List FoundRun) (ended : List WholeRun) (st other : State) → AreAlike st other → IsKnown going ended st → IsKnown going ended other
known_alike going ended st other alike (inl (at, run, is, seen)) = inl (at, run, is, seen ∙ alike)
known_alike going ended st other alike (inr (outcome, is, answered)) =
    inr (outcome, outcome_alike st other outcome alike is, end_alike ended st other outcome alike answered)

-- a run that can go on has not ended
goes_on : (st : State) (way : WayToEnd) → IsOutcome st Unfinished → ¬ HasEndedSo st way
goes_on st (all_done cells prints tasks) is so = is.1 so.0.1
goes_on st stuck is so = so.2 is.2.0 is.2.1
goes_on st faulty is so = met_none st is.0 so

module _ (p : Program) (lim : Bounds) (going : List FoundRun) (ended : List WholeRun) (well : IsWellFormed p) (keeps : KeepsEffects p)
    (explored : IsExploration p lim going ended) (closed : IsClosedBelow p lim going ended (length going)) (some : 1 ≤ lim.tasks) where
  -- so many moves a run has at most
  abbrev most : ℕ
  most = lim.tasks * (2 * lim.fuel + 2)

  reached_by : (journal : List Entry) (st : State) → IsRun p lim journal st → IsReached p lim st
  reached_by journal st run = record { journal = journal; legal = run.legal; same = run.same }

  -- one of the moves that were taken leads on to the same end
  record LeadsOn (st : State) (way : WayToEnd) : Type 0 where
    mv : Move
    may : MayMove st mv
    known : IsKnown going ended (move_result p lim st mv).0
    can : CanEndSo p lim (move_result p lim st mv).0 way

  leads_on : (st : State) (way : WayToEnd) → IsReached p lim st → IsSeen going st → CanEndSo p lim st way → LeadsOn st way
  leads_on st way reached (at, run, is, alike) can =
      let from = closed at run (slice_get_within going at run is) is in
      let unfinished = outcome_alike run.state st Unfinished alike (explored.found.going_runs at run is).unfinished in
      let next = enough_moves p well keeps lim st reached from.choice (enough_alike p run.state st alike from.choice from.enough) way can (goes_on st way unfinished) in
      let its : MayMove run.state next.0 = may_alike st run.state next.0 (sym alike) next.2 in
      record {
        mv = next.0;
        may = next.2;
        known = known_alike going ended (move_result p lim run.state next.0).0 (move_result p lim st next.0).0 (move_alike p lim run.state st next.0 alike its)
            (from.taken next.0 next.1 its);
        can = next.3;
      }

  shown : (left : ℕ) (journal : List Entry) (st : State) (way : WayToEnd) → most < left + length journal → IsRun p lim journal st → IsKnown going ended st → CanEndSo p lim st way
      → IsFoundWay ended way
  shown zero journal st way room run known can = let few = journal_length p lim well journal some run.legal in absurd (omega (arith, room, few))
  shown (suc left) journal st way room run (inr (outcome, is, found)) can =
      way_found p lim well st (reached_by journal st run) ended explored.found.ended_runs way outcome is found can
  shown (suc left) journal st way room run (inl seen) can =
      let on = leads_on st way (reached_by journal st run) seen can in
      let entry = entry_of p lim st on.mv in
      let longer : length (journal ++ entry ∷ []) ≡ length journal + 1 = length-append journal (entry ∷ []) in
      shown left (journal ++ entry ∷ []) (move_result p lim st on.mv).0 way (omega (arith, room, longer)) (run_more p lim journal st on.mv run on.may) on.known on.can

  pub all_shown : ShowsAllRuns p lim ended
  all_shown journal way legal so =
      shown (most + 1) [] (start_of p lim) way (omega arith) (record { legal = tt; same = refl }) explored.start
      (record { entries = journal; legal = legal; ended = so })
