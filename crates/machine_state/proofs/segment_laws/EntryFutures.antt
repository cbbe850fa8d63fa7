-- Before a task's first segment its operations fit: futures are numbered as they are declared.
use Rattle.std.proofs.Common.{◌≡◌, ◌+◌, ℕ, suc, Bool, List, [], ◌∷◌, ◌++◌, map, Option, None, Some, refl, ap, ◌∙◌, subst, arith}
use Rattle.std.specs.Prelude.{slice_get}
use Rattle.std.specs.List.{AllByRecursion}
use Rattle.twe_program.specs.declared.program.Decl.{Decl}
use Rattle.twe_program.specs.Fitting.{Scope, TakesArguments, count_of, StatementFits, StatementsFit, ArmsFit, WaitFits}
use Rattle.twe_program.specs.Numbering.{CountUp, Declared, futures_of, futures_of_all, futures_of_arms}
use Rattle.twe_program.specs.Program.{Program}
use Rattle.twe_program.specs.Statement.{Statement, Block, Let, Set, SetCell, SetArray, SetGrid, If, While, Return, Print, Call, Make, Wait, Statements, no_more, statement, Arms, arm, otherwise, no_else}
use Rattle.machine_state.specs.segment_laws.Ready.{AllOperationsFit, ArmsOperationsFit, IsDeclaredAs, OperationsFit}

module _ (all : List Declared) where
  -- each stands at its own number
  abbrev AtNumbers : List Declared → Type 0
  AtNumbers list = AllByRecursion (λ (d : Declared). slice_get all d.future ≡ Some d) list

  counted : (list : List Declared) (k : ℕ) → ((i : ℕ) (d : Declared) → slice_get list i ≡ Some d → slice_get all (k + i) ≡ Some d) → CountUp k (map (λ d. d.future) list) → AtNumbers list
  counted [] k there count = tt
  counted (d ∷ list) k there count =
      let here : d.future ≡ k + 0 = omega (arith, count.0) in (
        ap (slice_get all) here ∙ there 0 d refl,
        counted list (k + 1) (λ i e is. let next : k + 1 + i ≡ k + suc i = omega arith in ap (slice_get all) next ∙ there (suc i) e is) count.1,
      )

  front : (a b : List Declared) → AtNumbers (a ++ b) → AtNumbers a
  front [] b h = tt
  front (d ∷ a) b h = (h.0, front a b h.1)

  back : (a b : List Declared) → AtNumbers (a ++ b) → AtNumbers b
  back [] b h = h
  back (d ∷ a) b h = back a b h.1

  module _ (p : Program) (scope : Scope) (of_p : scope.tasks ≡ p.tasks) (own : scope.futures ≡ all) where
    wait_fits : (o : Option Declared) (join : Bool) (into : Option ℕ) → WaitFits scope o join into → IsDeclaredAs o join
    wait_fits None join into h = absurd h
    wait_fits (Some d) join into h = h.0

    mutual
      operations_fit : (s : Statement) → StatementFits scope s → AtNumbers (futures_of s) → OperationsFit p all s
      operations_fit (Block point body) fits at = all_operations_fit body fits at
      operations_fit (If point arms) fits at = arms_operations_fit arms fits at
      operations_fit (While point condition body place) fits at = all_operations_fit body fits.1 at
      operations_fit (Make point future task args spawned future_place place) fits at =
          (at.0, subst (λ (tasks : List Decl). TakesArguments (slice_get tasks task) (count_of args)) of_p fits.0)
      operations_fit (Wait point future join into place) fits at =
          subst (λ (list : List Declared). IsDeclaredAs (slice_get list future) join) own (wait_fits (slice_get scope.futures future) join into fits)
      operations_fit (Let point var value) fits at = tt
      operations_fit (Set point var value) fits at = tt
      operations_fit (SetCell point cell value place) fits at = tt
      operations_fit (SetArray point array index value place) fits at = tt
      operations_fit (SetGrid point array row column value place) fits at = tt
      operations_fit (Return point value) fits at = tt
      operations_fit (Print point value place) fits at = tt
      operations_fit (Call point method args place) fits at = tt

      all_operations_fit : (stmts : Statements) → StatementsFit scope stmts → AtNumbers (futures_of_all stmts) → AllOperationsFit p all stmts
      all_operations_fit no_more fits at = tt
      all_operations_fit (statement first others) fits at = (
        operations_fit first fits.0 (front (futures_of first) (futures_of_all others) at),
        all_operations_fit others fits.1 (back (futures_of first) (futures_of_all others) at),
      )

      arms_operations_fit : (arms : Arms) → ArmsFit scope arms → AtNumbers (futures_of_arms arms) → ArmsOperationsFit p all arms
      arms_operations_fit no_else fits at = tt
      arms_operations_fit (otherwise body) fits at = all_operations_fit body fits at
      arms_operations_fit (arm condition body others) fits at = (
        all_operations_fit body fits.1 (front (futures_of_all body) (futures_of_arms others) at),
        arms_operations_fit others fits.2 (back (futures_of_all body) (futures_of_arms others) at),
      )

-- the operations of a body whose futures are numbered, and which fits
pub body_operations_fit : (p : Program) (scope : Scope) (body : Statements) → scope.tasks ≡ p.tasks → scope.futures ≡ futures_of_all body
    → CountUp 0 (map (λ d. d.future) (futures_of_all body)) → StatementsFit scope body → AllOperationsFit p (futures_of_all body) body
body_operations_fit p scope body of_p own count fits =
    let all = futures_of_all body in
    all_operations_fit all p scope of_p own body fits
    (counted all all 0 (λ i d is. let same : 0 + i ≡ i = omega arith in ap (slice_get all) same ∙ is) count)
