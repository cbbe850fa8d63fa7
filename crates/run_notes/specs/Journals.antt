-- The answer to a text with a journal.
use Rattle.std.specs.Prelude.{◌+◌, ℕ, List, Option, length}
use Rattle.twe_base.specs.Limits.{Bounds}
use Rattle.twe_ast.specs.declared.item.Ast.{Ast}
use Rattle.wait_graph.specs.declared.stuck.Edge.{Edge}
use Rattle.seg_journal.specs.declared.journal.Entry.{Entry}
use Rattle.seg_journal.specs.declared.moves.Move.{Move}
use Rattle.seg_journal.specs.Lines.{IsFirstBadLine}
use Rattle.seg_journal.specs.Spelling.{Spells, head_lines}
use Rattle.twe_program.specs.Program.{Program}
use Rattle.seg_exec.specs.declared.snapshot.FaultSnapshot.{FaultSnapshot}
use Rattle.machine_state.specs.declared.ending.Outcome.TheVariants as outcomes
use Rattle.machine_state.specs.declared.why.Why.{Why}
use Rattle.machine_state.specs.declared.state.FirstFault.{FirstFault}
use Rattle.machine_state.specs.declared.state.State.{State}
use Rattle.machine_state.specs.Replays.{IsReplay}
use Rattle.machine_state.specs.Runs.{IsOutcome}
use Rattle.flat_sched.specs.Stuck.{IsCycleOfReasons, IsStuckCycle}
use Rattle.run_facts.specs.FaultSnapshots.{IsFaultSnapshot}
use Rattle.run_facts.specs.Makings.{makings_of}
use Rattle.run_facts.specs.NextMoves.{AreNextMoves}
use Rattle.twe_report.specs.Texts.{fault_text, not_a_move_text, not_legal_text, result_text, stuck_text, unfinished_text}
use Rattle.text_answers.specs.Answers.{default_limits, limits_with}
use Rattle.twe_io.specs.Answers.{on_out}
use Rattle.twe_io.specs.declared.answer.Answer.{Answer}
use Rattle.twe_io.specs.declared.status.Status.TheVariants.{BadJournal, Done, Fault, Stuck, Unfinished}
use Rattle.run_notes.specs.Cycles.{stuck_explanation}
use Rattle.run_notes.specs.Faulted.{fault_explanation}
use Rattle.run_notes.specs.NextShown.{next_explanation}
use Rattle.run_notes.specs.NotLegal.{IllegalTold}
use Rattle.run_notes.specs.Trees.{IsTreeIfAny}
use Rattle.run_notes.specs.VariablesShown.{items_of}
use Rattle.explain_pages.specs.RunPage.{run_text}
use Rattle.explain_pages.specs.declared.wanted.Wanted.{Wanted}

-- The answer to a run of the program of a text with this journal, which has led to this state. Its status is that of `twe
-- replay`.
pub data RunTold (wanted : Wanted) (text : List ℕ) (p : Program) (lim : Bounds) (journal : List Entry) (st : State)
    : Answer → Type 0 where
  -- all tasks are done, and there is the result
  done : IsOutcome st outcomes.AllDone → RunTold wanted text p lim journal st (on_out Done (result_text p st))
  -- a task has met a fault, which is explained: what was there when it was met, by the names that the text has
  faulted : (fault : FirstFault) (snapshot : Option FaultSnapshot) (tree : Option Ast)
      → IsOutcome st (outcomes.Fault fault.task fault.kind fault.place) → IsFaultSnapshot p lim journal fault snapshot
      → IsTreeIfAny text tree
      → RunTold wanted text p lim journal st (on_out Fault (run_text wanted text (fault_text fault.task fault.kind fault.place)
      (fault_explanation text (items_of tree) p lim st (makings_of p lim journal) snapshot fault)))
  -- the run is stuck in this cycle, which is explained
  stuck : (cycle : List Edge) → IsOutcome st outcomes.Stuck → IsStuckCycle st cycle → IsCycleOfReasons st cycle
      → RunTold wanted text p lim journal st (on_out Stuck (run_text wanted text (stuck_text cycle)
      (stuck_explanation p st (makings_of p lim journal) cycle)))
  -- the run goes on, and there are the moves that are legal next, or the first 20 of them
  unfinished : (moves : List Move) → IsOutcome st outcomes.Unfinished → AreNextMoves st 20 moves
      → RunTold wanted text p lim journal st (on_out Unfinished (run_text wanted text (unfinished_text st)
      (next_explanation p st (makings_of p lim journal) moves)))

-- the moves are legal, and this is the answer to the run that they make
pub record MovesTold (wanted : Wanted) (text : List ℕ) (p : Program) (lim : Bounds) (moves : List Move) (answer : Answer)
    : Type 0 where
  pub journal : List Entry
  pub st : State
  pub replayed : IsReplay p lim moves journal st
  pub told : RunTold wanted text p lim journal st answer

-- The answer to a journal on the program of a text. The limits are those of the journal's head, or the default ones.
pub data JournalTold (wanted : Wanted) (text : List ℕ) (p : Program) (journal : List ℕ) : Answer → Type 0 where
  -- line n is the first that is neither a head on line 1 nor a move
  not_a_move : (n : ℕ) → IsFirstBadLine journal n
      → JournalTold wanted text p journal (on_out BadJournal (not_a_move_text n))
  -- each line is one, and move n is the first that is not legal, which is explained
  not_legal : (head : Option Bounds) (moves : List Move) (n : ℕ) (why : Why) (page : List ℕ) → Spells journal head moves
      → IllegalTold wanted text p (limits_with head default_limits) moves n why
      (not_legal_text (length (head_lines head) + n)) page
      → JournalTold wanted text p journal (on_out BadJournal page)
  -- each move is legal
  told : {answer : Answer} (head : Option Bounds) (moves : List Move) → Spells journal head moves
      → MovesTold wanted text p (limits_with head default_limits) moves answer → JournalTold wanted text p journal answer
