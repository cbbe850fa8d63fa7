-- The legal moves that were found up to a task.
use Rattle.std.proofs.Common.{◌≡◌, ◌<◌, ◌≤◌, ◌+◌, ◌++◌, inl, inr, ℕ, List, [], ◌∷◌, Option, None, Some, slice_get, length, refl, sym, ap, ◌∙◌, subst, below_more, arith, length-append}
use Rattle.std.specs.List.{All, AllPairs, Contains}
use Rattle.std.proofs.lemmas.List.{append-nil, length-map}
use Rattle.std.proofs.lemmas.List.Elements.{All-get_or, All-nil, All-push, All-weaker, Contains-append_left, Contains-push}
use Rattle.std.proofs.lemmas.List.Quantifiers.{all_pairs_push}
use Rattle.std.proofs.lemmas.Bool.{cases_lt}
use Rattle.seg_journal.specs.declared.moves.Move.{Move}
use Rattle.machine_state.specs.declared.state.State.{State}
use Rattle.seg_journal.specs.declared.moves.Kind.{Kind}
use Rattle.seg_journal.specs.declared.moves.Kind.TheVariants.{Admit, Run}
use Rattle.machine_state.specs.declared.state.TaskRow.{TaskRow}
use Rattle.machine_state.specs.declared.state.TaskStatus.TheVariants.{Enabled, Made}
use Rattle.machine_state.specs.Legal.{MayAdmit, MayMove, MayTake}
use Rattle.machine_state.specs.Rows.{HasStatus, LinksAgree, link_of_row}
use Rattle.machine_state.proofs.lists.Places.{got_one}
use Rattle.machine_state.proofs.tasks.Movers.{mover_there}
use Rattle.run_facts.specs.NextMoves.{AreBefore, AreNextMoves, IsMoveOf, as_list}

-- a task that was made has no legal move but its admission
pub only_admission : (st : State) (task : ℕ) → HasStatus st task Made → ¬ MayAdmit st task → IsMoveOf st task None
only_admission st task made not other may same = by_kind other.kind (subst (MayTake st other.kind) same may)
  where
    by_kind : (kind : Kind) → MayTake st kind task → ⊥
    by_kind Admit may = not may
    by_kind Run may =
        let one : may.0.0 ≡ made.0 = got_one (slice_get st.tasks task) may.0.1 made.1 in
        let same : Enabled ≡ Made = sym may.0.2 ∙ (ap (λ (r : TaskRow). r.status) one ∙ made.2) in cc

-- there are as many links as tasks
pub linked : (st : State) → LinksAgree st → length st.links ≡ length st.tasks
linked st agree = ap length agree ∙ length-map st.tasks link_of_row

-- these are the legal moves of the tasks before this one, and at most so many
pub record AreMovesBelow (st : State) (most task : ℕ) (moves : List Move) : Type 0 where
  pub legal : All (MayMove st) moves
  pub ordered : AllPairs (λ mv later. mv.task < later.task) moves
  pub few : length moves ≤ most
  pub before : AreBefore task moves
  pub whole : (mv : Move) → MayMove st mv → mv.task < task → Contains moves mv

-- no task comes before the first
pub none_below : (st : State) (most : ℕ) → AreMovesBelow st most 0 []
none_below st most = record {
  legal = All-nil (MayMove st);
  ordered = λ i j d less below. absurd (omega (arith, below));
  few = omega arith;
  before = All-nil (λ (mv : Move). mv.task < 0);
  whole = λ mv may below. absurd (omega (arith, below));
}

-- what is before a task is before the next one
later_before : (task : ℕ) (moves : List Move) → AreBefore task moves → AreBefore (task + 1) moves
later_before task moves before = All-weaker (λ (mv : Move). mv.task < task) (λ (mv : Move). mv.task < task + 1) (λ mv less. omega (arith, less)) moves before

-- the next task has no legal move
no_more : (st : State) (most task : ℕ) (moves : List Move) → AreMovesBelow st most task moves → IsMoveOf st task None → AreMovesBelow st most (task + 1) moves
no_more st most task moves found none = record {
  legal = found.legal;
  ordered = found.ordered;
  few = found.few;
  before = later_before task moves found.before;
  whole = λ mv may less. below_more (λ (k : ℕ). mv.task ≡ k → Contains moves mv) task
      (λ k under same. found.whole mv may (omega (arith, under, same))) (λ same. absurd (none mv may same)) mv.task less refl;
}

-- or it has one
one_more : (st : State) (most task : ℕ) (moves : List Move) (mv : Move) → AreMovesBelow st most task moves → length moves < most → IsMoveOf st task (Some mv) → AreMovesBelow st most (task + 1) (moves ++ mv ∷ [])
one_more st most task moves mv found room is = record {
  legal = All-push (MayMove st) moves mv found.legal is.0;
  ordered = all_pairs_push (λ (a b : Move). a.task < b.task) moves mv found.ordered
      (λ k d below. let less = All-get_or (λ (m : Move). m.task < task) moves k d below found.before in let same = is.1 in omega (arith, less, same));
  few = omega (arith, room, length-append moves (mv ∷ []));
  before = All-push (λ (m : Move). m.task < task + 1) moves mv (later_before task moves found.before) (let same = is.1 in omega (arith, same));
  whole = λ other may less. below_more (λ (k : ℕ). other.task ≡ k → Contains (moves ++ mv ∷ []) other) task
      (λ k under same. Contains-append_left moves (mv ∷ []) other (found.whole other may (omega (arith, under, same))))
      (λ same. subst (Contains (moves ++ mv ∷ [])) (sym (is.2 other may same)) (Contains-push moves mv)) other.task less refl;
}

-- so one more task was looked at
pub more_found : (st : State) (most task : ℕ) (moves : List Move) (mv : Option Move) → AreMovesBelow st most task moves → length moves < most → IsMoveOf st task mv → AreMovesBelow st most (task + 1) (moves ++ as_list mv)
more_found st most task moves None found room none = subst (AreMovesBelow st most (task + 1)) (sym (append-nil moves)) (no_more st most task moves found none)
more_found st most task moves (Some mv) found room is = one_more st most task moves mv found room is

-- all tasks were looked at
pub all_found : (st : State) (most : ℕ) (moves : List Move) → AreMovesBelow st most (length st.tasks) moves → AreNextMoves st most moves
all_found st most moves found = record {
  legal = found.legal;
  ordered = found.ordered;
  few = found.few;
  whole = λ mv may. inl (found.whole mv may (mover_there st mv.kind mv.task may));
}

-- or so many moves were found
pub enough_found : (st : State) (most task : ℕ) (moves : List Move) → AreMovesBelow st most task moves → most ≤ length moves → AreNextMoves st most moves
enough_found st most task moves found enough = record {
  legal = found.legal;
  ordered = found.ordered;
  few = found.few;
  whole = λ mv may. elim (cases_lt mv.task task) [
    | inl less ↦ inl (found.whole mv may less)
    | inr past ↦ inr (omega (arith, enough, found.few), All-weaker (λ (m : Move). m.task < task) (λ (m : Move). m.task < mv.task) (λ m under. omega (arith, under, past)) moves found.before)
  ];
}
