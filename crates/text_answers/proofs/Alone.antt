-- An answer to a command without workers is one to the command with any number of them.
use Rattle.std.proofs.Common.{◌≡◌, ◌≤◌, ℕ, Bool, List, refl, arith}
use Rattle.twe_base.specs.Limits.{Bounds}
use Rattle.twe_program.specs.Program.{Program}
use Rattle.machine_state.specs.declared.ending.Outcome.{Outcome}
use Rattle.command_line.specs.Words.{IsSized}
use Rattle.command_line.specs.declared.command.Command.{Command}
use Rattle.command_line.specs.declared.command.Command.TheVariants.{Check, Run, Replay, Load}
use Rattle.twe_io.specs.declared.answer.Answer.{Answer}
use Rattle.text_answers.specs.Answers.{Due, IsAnswerTo, without_workers}
use Rattle.text_answers.specs.Theorem.{HasRun}
use Rattle.text_answers.specs.declared.book.Book.{Book}

-- no workers are in the range, too
pub alone_is_sized : (command : Command) → IsSized command → IsSized (without_workers command)
alone_is_sized Check sized = tt
alone_is_sized (Run workers lim asked) sized = omega arith
alone_is_sized (Replay lim) sized = tt
alone_is_sized (Load workers n) sized = (omega arith, sized.1, sized.2)

-- a run without workers is the lowest-first one, so it is one by any number of them
run_by_any : (p : Program) (lim : Bounds) (crew workers : ℕ) (outcome : Outcome) (book : Book) → crew ≡ 0 → HasRun p lim crew outcome book → HasRun p lim workers outcome book
run_by_any p lim crew workers outcome book none run = record {
  has = run.has;
  lowest = λ few. run.lowest (omega (arith, none));
  over = run.over;
}

due_by_any : (command : Command) (input : List ℕ) (book : Book) (answer : Answer) → Due (without_workers command) input book answer → Due command input book answer
due_by_any Check input book answer due = due
due_by_any (Replay lim) input book answer due = due
due_by_any (Run workers lim asked) input book answer (Due.refused r is has) = Due.refused r is has
due_by_any (Run workers lim asked) input book answer (Due.accepted p same is has) = absurd (cc (same))
due_by_any (Run workers lim asked) input book answer (Due.ran crew used flag p outcome plain same is has answers) =
    let none : crew ≡ 0 = cc (same) in
    let limits : lim ≡ used = cc (same) in
    let flags : asked ≡ flag = cc (same) in
    Due.ran workers used flag p outcome plain (λ i. Run workers (limits i) (flags i)) is (run_by_any p used crew workers outcome book none has) answers
due_by_any (Run workers lim asked) input book answer (Due.loaded crew n p outcome plain same is has answers) = absurd (cc (same))
due_by_any (Run workers lim asked) input book answer (Due.replayed used p same is answers) = absurd (cc (same))
due_by_any (Load workers n) input book answer (Due.refused r is has) = Due.refused r is has
due_by_any (Load workers n) input book answer (Due.accepted p same is has) = absurd (cc (same))
due_by_any (Load workers n) input book answer (Due.ran crew used flag p outcome plain same is has answers) = absurd (cc (same))
due_by_any (Load workers n) input book answer (Due.loaded crew size p outcome plain same is has answers) =
    let none : crew ≡ 0 = cc (same) in
    let sizes : n ≡ size = cc (same) in
    Due.loaded workers size p outcome plain (λ i. Load workers (sizes i)) is (run_by_any p _ crew workers outcome book none has) answers
due_by_any (Load workers n) input book answer (Due.replayed used p same is answers) = absurd (cc (same))

pub answer_by_any : (command : Command) (input : List ℕ) (answer : Answer) → IsAnswerTo (without_workers command) input answer → IsAnswerTo command input answer
answer_by_any command input answer is = (is.0, due_by_any command input is.0 answer is.1)
