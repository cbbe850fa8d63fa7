-- Runs of the evaluator over a list of cells.
use Rattle.std.specs.Prelude.{◌≤◌, ◌≡◌, ℕ, zero, suc, ℤ, List, ◌∷◌, slice_get, slice_set}
use Rattle.twe_program.specs.Program.{Program}
use Rattle.seg_exec.specs.declared.steps.request.Request.{Request}
use Rattle.seg_exec.specs.declared.steps.request.Request.TheVariants.{Nothing, Read, Write, Print, End}
use Rattle.seg_exec.specs.declared.steps.request.Ending.{Ending}
use Rattle.seg_meaning.specs.Access.{Access, Reads, Writes, Prints, value_in}
use Rattle.seg_meaning.specs.Store.{Store}
use Rattle.seg_exec.specs.inner.steps.Continuations.{Continuation, Config, with_operand}
use Rattle.seg_exec.specs.inner.steps.Steps.{Step, step_of}

-- the state of the evaluator and the cells, after some accesses
pub record Moment : Type 0 where
  pub config : Config
  pub cells : List ℤ
  pub accesses : List Access

-- how a run ends and the store it leaves; or that it has not ended
pub data Outcome : Type 0 where
  Over : (ending : Ending) (store : Store) → Outcome
  Unfinished : Outcome

-- the store at a moment: the continuation and the operands are left out
abbrev pub store_of : Moment → Store
store_of m = record { cells = m.cells; vars = m.config.vars; fuel = m.config.fuel; calls = m.config.calls; accesses = m.accesses }

-- the evaluator with this continuation and these operands, on this store
abbrev pub moment : List Continuation → List ℤ → Store → Moment
moment work values s = record {
  config = record { work = work; operands = values; vars = s.vars; fuel = s.fuel; calls = s.calls };
  cells = s.cells;
  accesses = s.accesses;
}

-- a request is served, and the run continues with `next`
abbrev pub served : (Moment → Outcome) → Request → Moment → Outcome
served next Nothing m = next m
served next (Read cell) m =
    let value = value_in (slice_get m.cells cell) in
    next (record m { config = with_operand value m.config; accesses = Reads cell value ∷ m.accesses })
served next (Write cell value) m =
    next (record m { cells = slice_set m.cells cell value; accesses = Writes cell value ∷ m.accesses })
served next (Print value) m = next (record m { accesses = Prints value ∷ m.accesses })
served next (End ending) m = Over ending (store_of m)

-- the request of a step is served, and the run continues with `next` from the step's configuration
abbrev pub stepped : (Moment → Outcome) → Step → Moment → Outcome
stepped next step m = served next step.0 (record m { config = step.1 })

-- at most n steps
abbrev pub run : Program → ℕ → Moment → Outcome
run p zero m = Unfinished
run p (suc n) m = stepped (run p n) (step_of p m.config) m

-- a run leads from one moment to another: whatever it does from the second in k steps, it does from the first in k or
-- more
pub record Comes (p : Program) (from to : Moment) : Type 0 where
  pub by : (k : ℕ) → (n : ℕ) × (k ≤ n) × (run p n from ≡ run p k to)
