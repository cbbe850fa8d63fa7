-- Runs with the same outcome, but for the place of a fault, have the same answer, but for that place.
use Rattle.std.proofs.Common.{◌≡◌, ℕ, ℤ, Bool, true, false, List, [], ◌∷◌, ◌++◌, map, refl, sym, ap, ◌∙◌, subst}
use Rattle.std.specs.Prelude.{codes}
use Rattle.std.specs.List.{flat_map}
use Rattle.twe_base.specs.declared.fault.FaultKind.{FaultKind}
use Rattle.twe_base.specs.declared.place.Place.{Place}
use Rattle.twe_base.specs.Limits.{Bounds}
use Rattle.twe_program.specs.Program.{Program}
use Rattle.seg_journal.specs.declared.journal.Entry.{Entry}
use Rattle.seg_journal.specs.declared.moves.Move.{Move}
use Rattle.seg_journal.specs.Spelling.{head_line, move_line, move_of}
use Rattle.machine_state.specs.declared.ending.Outcome.{Outcome}
use Rattle.machine_state.specs.declared.ending.Outcome.TheVariants as outcomes
use Rattle.machine_state.specs.declared.state.State.{State}
use Rattle.flat_sched.specs.Stuck.{IsCycleOfReasons, IsStuckCycle}
use Rattle.summary_texts.specs.paste_laws.places.Places.{SameButPlaces}
use Rattle.place_laws.specs.Alike.{SameEntries, SameStates}
use Rattle.place_laws.specs.Bare.{bare_entry, bare_outcome}
use Rattle.answer_laws.proofs.Results.{same_result}
use Rattle.twe_report.specs.Texts as texts
use Rattle.twe_report.specs.Texts.{fault_text, result_text, unfinished_text}
use Rattle.twe_io.specs.declared.answer.Answer.{Answer}
use Rattle.twe_io.specs.declared.status.Status.TheVariants.{Done, Fault, Unfinished}
use Rattle.twe_io.specs.Answers.{on_err, on_out}
use Rattle.text_answers.specs.Answers.{AnswersRun, after_prints, with_journal}
use Rattle.answer_laws.specs.Alike.{SameAnswers}
use Rattle.answer_laws.proofs.Cycles.{cycle_kept, reasons_kept, with_its_fault}

-- the answer to the other run: by its outcome, with the same status and bytes, but for the place of a fault
abbrev pub HasAnswer : Program → State → List ℤ → Outcome → Answer → Type 0
HasAnswer q last prints outcome answer = (its : Answer) × AnswersRun q last prints outcome its × SameAnswers answer its

fault_alike : (q : Program) (last : State) (prints : List ℤ) (task its_task : ℕ) (kind its_kind : FaultKind) (place its_place : Place) (answer : Answer)
    → its_task ≡ task → its_kind ≡ kind → answer ≡ after_prints Fault prints (fault_text task kind place)
    → HasAnswer q last prints (outcomes.Fault its_task its_kind its_place) answer
fault_alike q last prints task its_task kind its_kind place its_place answer tasks kinds is = (
  after_prints Fault prints (fault_text task kind its_place),
  ap (λ (t : ℕ). after_prints Fault prints (fault_text t kind its_place)) (sym tasks)
      ∙ ap (λ (k : FaultKind). after_prints Fault prints (fault_text its_task k its_place)) (sym kinds),
  subst (λ (a : Answer). SameAnswers a (after_prints Fault prints (fault_text task kind its_place))) (sym is)
      (SameAnswers.placed (texts.prints_text prints) task kind place its_place),
)

module _ (p q : Program) (same : SameButPlaces p q) (last other : State) (states : SameStates last other) (prints : List ℤ) where
  by_outcome : (outcome its : Outcome) (answer : Answer) → bare_outcome its ≡ bare_outcome outcome → AnswersRun p last prints outcome answer
      → HasAnswer q other prints its answer
  by_outcome outcomes.AllDone outcomes.AllDone answer alike is =
      (answer, is ∙ ap (on_out Done) (same_result p q last other same states), SameAnswers.equal answer)
  by_outcome (outcomes.Fault task kind place) (outcomes.Fault its_task its_kind its_place) answer alike is =
      fault_alike q other prints task its_task kind its_kind place its_place answer (cc) (cc) is
  by_outcome outcomes.Stuck outcomes.Stuck answer alike (cycle, stuck, reasons, is) =
      let change = with_its_fault last other states in (
        answer,
        (
          cycle,
          subst (λ (s : State). IsStuckCycle s cycle) change (cycle_kept last other.first_fault cycle stuck),
          subst (λ (s : State). IsCycleOfReasons s cycle) change (reasons_kept last other.first_fault cycle reasons),
          is,
        ),
        SameAnswers.equal answer,
      )
  by_outcome outcomes.Unfinished outcomes.Unfinished answer alike is =
      (answer, is ∙ ap (λ (s : State). on_err Unfinished (unfinished_text s)) (with_its_fault last other states), SameAnswers.equal answer)
  by_outcome outcomes.AllDone (outcomes.Fault task kind place) answer alike is = absurd (cc (alike))
  by_outcome outcomes.AllDone outcomes.Stuck answer alike is = absurd (cc (alike))
  by_outcome outcomes.AllDone outcomes.Unfinished answer alike is = absurd (cc (alike))
  by_outcome (outcomes.Fault task kind place) outcomes.AllDone answer alike is = absurd (cc (alike))
  by_outcome (outcomes.Fault task kind place) outcomes.Stuck answer alike is = absurd (cc (alike))
  by_outcome (outcomes.Fault task kind place) outcomes.Unfinished answer alike is = absurd (cc (alike))
  by_outcome outcomes.Stuck outcomes.AllDone answer alike is = absurd (cc (alike))
  by_outcome outcomes.Stuck (outcomes.Fault task kind place) answer alike is = absurd (cc (alike))
  by_outcome outcomes.Stuck outcomes.Unfinished answer alike is = absurd (cc (alike))
  by_outcome outcomes.Unfinished outcomes.AllDone answer alike is = absurd (cc (alike))
  by_outcome outcomes.Unfinished (outcomes.Fault task kind place) answer alike is = absurd (cc (alike))
  by_outcome outcomes.Unfinished outcomes.Stuck answer alike is = absurd (cc (alike))

-- the same, with the numbers that the other run printed up to its first fault
pub answers_alike : (p q : Program) (last other : State) (prints its_prints : List ℤ) (outcome its : Outcome) (answer : Answer) → SameButPlaces p q
    → SameStates last other → prints ≡ its_prints → bare_outcome its ≡ bare_outcome outcome → AnswersRun p last prints outcome answer
    → HasAnswer q other its_prints its answer
answers_alike p q last other prints its_prints outcome its answer same states printed alike is =
    by_outcome p q same last other states its_prints outcome its answer alike (subst (λ (xs : List ℤ). AnswersRun p last xs outcome answer) printed is)

-- The journal that is written has the moves alone.

same_moves : (its journal : List Entry) → SameEntries its journal → map move_of its ≡ map move_of journal
same_moves its journal same = sym (moves_bare its) ∙ ap (map move_of) same ∙ moves_bare journal
  where
    moves_bare : (entries : List Entry) → map move_of (map bare_entry entries) ≡ map move_of entries
    moves_bare [] = refl
    moves_bare (entry ∷ entries) = ap (λ (moves : List Move). entry.mv ∷ moves) (moves_bare entries)

part_alike : (lim : Bounds) (its journal : List Entry) → SameEntries its journal → texts.journal_part_text lim its ≡ texts.journal_part_text lim journal
part_alike lim its journal same =
    ap (λ (moves : List Move). texts.line (codes "%%") ++ (head_line lim ++ flat_map move_line moves)) (same_moves its journal same)

pub with_journal_alike : (asked : Bool) (lim : Bounds) (its journal : List Entry) (answer other : Answer) → SameEntries its journal → SameAnswers answer other
    → SameAnswers (with_journal asked lim journal answer) (with_journal asked lim its other)
with_journal_alike true lim its journal answer other same (SameAnswers.equal plain) =
    subst (λ (part : List ℕ). SameAnswers (with_journal true lim journal plain) (record plain { out = plain.out ++ part })) (sym (part_alike lim its journal same))
    (SameAnswers.equal (with_journal true lim journal plain))
with_journal_alike false lim its journal answer other same (SameAnswers.equal plain) = SameAnswers.equal plain
with_journal_alike true lim its journal answer other same (SameAnswers.placed out task kind place its_place) =
    subst (λ (part : List ℕ). SameAnswers (record { status = Fault; out = out ++ texts.journal_part_text lim journal; err = fault_text task kind place })
    (record { status = Fault; out = out ++ part; err = fault_text task kind its_place })) (sym (part_alike lim its journal same))
    (SameAnswers.placed (out ++ texts.journal_part_text lim journal) task kind place its_place)
with_journal_alike false lim its journal answer other same (SameAnswers.placed out task kind place its_place) = SameAnswers.placed out task kind place its_place
