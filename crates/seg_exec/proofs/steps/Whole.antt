-- A run that begins with what remains of a body ends as its meaning says, and in no other way.
use Rattle.std.proofs.Common.{◌≡◌, ℕ, zero, suc, ◌<◌, ◌≤◌, ℤ, pos, List, [], ◌∷◌, Option, None, Some, sym, ◌∙◌, arith}
use Rattle.twe_program.specs.Program.{Program}
use Rattle.twe_program.specs.Statement.{Statement, While, Statements}
use Rattle.seg_meaning.specs.declared.frame.Position.{Position}
use Rattle.seg_exec.specs.declared.steps.request.Request.{Request}
use Rattle.seg_exec.specs.declared.steps.request.Request.TheVariants as requests
use Rattle.seg_exec.specs.declared.steps.request.Ending.TheVariants.{Returned, Faulted}
use Rattle.seg_exec.specs.inner.steps.Endings.{suspended_at}
use Rattle.seg_meaning.specs.Store.{Store, Flow, goes, returns, fails, stops}
use Rattle.seg_meaning.specs.Meaning.{Below, done_all}
use Rattle.seg_meaning.specs.Remaining.{after_first, last_of_first, block_of, block_at, turned_again, resumed}
use Rattle.seg_exec.specs.inner.steps.Continuations.{Continuation, Rest}
use Rattle.seg_exec.specs.inner.steps.Steps.{step_of}
use Rattle.seg_exec.specs.inner.steps.Runs.{Comes, Moment, Outcome, Over, Unfinished, moment, served, run}
use Rattle.seg_exec.specs.inner.steps.Unfolded.{again_of, unfolded}
use Rattle.seg_exec.proofs.steps.Simulation.{stays, FlowTo, Meets, rest_then, again_then, all_meet}

module _ (p : Program) where
  module _ (n : ℕ) (below : Below) (meets : Meets p n below) where
    again_meets : (inner : List Position) (stmt : Option Statement) (from : Moment) (bound : ℕ) → bound < n → (work : List Continuation) (values : List ℤ) (f : Flow)
        → FlowTo p bound from (again_of inner stmt work) values f → FlowTo p bound from work values (turned_again below inner stmt f)
    again_meets (position ∷ inner) (Some (While point condition body place)) from bound lt work values f h =
        again_then p bound from (While point condition body place) work values f (below (While point condition body place)) h
        (λ s h1. meets.0 (While point condition body place) s bound h1 lt work values)
    again_meets [] stmt from bound lt work values f h = h
    again_meets (position ∷ inner) None from bound lt work values f h = h
    again_meets (position ∷ inner) (Some _) from bound lt work values f h = h

    pub resumed_meets : (positions : List Position) (stmts : Statements) (bound : ℕ) → bound < n → (s : Store) → s.fuel ≤ bound → (work : List Continuation) (values : List ℤ)
        → FlowTo p bound (moment (unfolded stmts positions work) values s) work values (resumed below p stmts positions s)
    resumed_meets [] stmts bound lt s h work values = (h, stays p _)
    resumed_meets (position ∷ inner) stmts bound lt s h work values =
        let stmt = last_of_first position.after stmts in
        let others = after_first position.after stmts in
        rest_then p bound position.block position.after _ others work values _ (λ s1. done_all below p position.block position.after others s1)
        (again_meets inner stmt _ bound lt (Rest position.block position.after others ∷ work) values _
        (resumed_meets inner (block_of (block_at inner) stmt) bound lt s h (again_of inner stmt (Rest position.block position.after others ∷ work)) values))
        (λ s1 h1. all_meet p n below meets others position.block position.after bound (omega (arith, lt)) s1 h1 work values)

  -- how a run ends by a meaning
  abbrev pub outcome_of : Flow → Outcome
  outcome_of (goes s) = Over (Returned (pos 0)) s
  outcome_of (returns value s) = Over (Returned value) s
  outcome_of (fails cause place s) = Over (Faulted cause place) s
  outcome_of (stops operation positions s) = Over (suspended_at operation positions) s

  pub ends_so : (bound : ℕ) (from : Moment) (f : Flow) → FlowTo p bound from [] [] f → (k : ℕ) × (run p k from ≡ outcome_of f)
  ends_so bound from (goes s) h = let x = h.1.by 1 in (x.0, x.2)
  ends_so bound from (returns value s) h = let x = h.1.by 1 in (x.0, x.2)
  ends_so bound from (fails cause place s) h = h.by
  ends_so bound from (stops operation positions s) h = let x = h.1.by 1 in (x.0, x.2)

  -- a run has one end
  abbrev pub IsOver : Outcome → Type 0
  IsOver (Over ending s) = Unit {0}
  IsOver Unfinished = ⊥

  once_served : (k j : ℕ) → ((m : Moment) (o o' : Outcome) → IsOver o → IsOver o' → run p k m ≡ o → run p j m ≡ o' → o ≡ o')
      → (request : Request) (m : Moment) (o o' : Outcome) → IsOver o → IsOver o' → served (run p k) request m ≡ o → served (run p j) request m ≡ o' → o ≡ o'
  once_served k j one requests.Nothing m o o' h h' e e' = one _ o o' h h' e e'
  once_served k j one (requests.Read cell) m o o' h h' e e' = one _ o o' h h' e e'
  once_served k j one (requests.Write cell value) m o o' h h' e e' = one _ o o' h h' e e'
  once_served k j one (requests.Print value) m o o' h h' e e' = one _ o o' h h' e e'
  once_served k j one (requests.End ending) m o o' h h' e e' = sym e ∙ e'

  not_over : (o : Outcome) → IsOver o → Unfinished ≡ o → ⊥
  not_over (Over ending s) h e = cc
  not_over Unfinished h e = h

  pub once : (k j : ℕ) (m : Moment) (o o' : Outcome) → IsOver o → IsOver o' → run p k m ≡ o → run p j m ≡ o' → o ≡ o'
  once zero j m o o' h h' e e' = absurd (not_over o h e)
  once (suc k) zero m o o' h h' e e' = absurd (not_over o' h' e')
  once (suc k) (suc j) m o o' h h' e e' = once_served k j (once k j) (step_of p m.config).0 (record m { config = (step_of p m.config).1 }) o o' h h' e e'

  -- a run that is over stays over with more steps
  longer_served : (k j : ℕ) → ((m : Moment) (o : Outcome) → IsOver o → run p k m ≡ o → run p j m ≡ o) → (request : Request) (m : Moment) (o : Outcome) → IsOver o
      → served (run p k) request m ≡ o → served (run p j) request m ≡ o
  longer_served k j longer requests.Nothing m o h e = longer _ o h e
  longer_served k j longer (requests.Read cell) m o h e = longer _ o h e
  longer_served k j longer (requests.Write cell value) m o h e = longer _ o h e
  longer_served k j longer (requests.Print value) m o h e = longer _ o h e
  longer_served k j longer (requests.End ending) m o h e = e

  longer : (k j : ℕ) → k ≤ j → (m : Moment) (o : Outcome) → IsOver o → run p k m ≡ o → run p j m ≡ o
  longer zero j le m o h e = absurd (not_over o h e)
  longer (suc k) zero le m o h e = absurd (omega (arith, le))
  longer (suc k) (suc j) le m o h e =
      longer_served k j (longer k j (omega (arith, le))) (step_of p m.config).0 (record m { config = (step_of p m.config).1 }) o h e

  -- what a run comes to is over where the run is
  pub over_from : (from to : Moment) (k : ℕ) (o : Outcome) → IsOver o → Comes p from to → run p k from ≡ o → run p k to ≡ o
  over_from from to k o h comes e =
      let x = comes.by k in
      sym x.2 ∙ longer k x.0 x.1 from o h e
