-- The operations of what is left fit, step by step.
use Rattle.std.proofs.Common.{ℕ, zero, suc, List, inl, inr, sym, subst}
use Rattle.twe_program.specs.Numbering.{Declared}
use Rattle.twe_program.specs.Program.{Program}
use Rattle.twe_program.specs.Statement.{Block, Let, Set, SetCell, SetArray, SetGrid, If, While, Return, Print, Call, Make, Wait, Statements, no_more, statement, Arms, arm, otherwise, no_else}
use Rattle.cover_flow.specs.ControlPath.{Path}
use Rattle.cover_flow.specs.Steps.{followed_by, IsBranch, Steps, StepsFar}
use Rattle.machine_state.specs.segment_laws.Passes.{Quietly}
use Rattle.machine_state.specs.segment_laws.Ready.{AllOperationsFit, ArmsOperationsFit}

module _ (p : Program) (futures : List Declared) where
  abbrev Fit : Statements → Type 0
  Fit stmts = AllOperationsFit p futures stmts

  fit_both : (a b : Statements) → Fit a → Fit b → Fit (followed_by a b)
  fit_both no_more b ha hb = hb
  fit_both (statement first others) b ha hb = (ha.0, fit_both others b ha.1 hb)

  branch_fits : (arms : Arms) (taken : Statements) → ArmsOperationsFit p futures arms → IsBranch arms taken → Fit taken
  branch_fits no_else taken h is = subst Fit (sym is) tt
  branch_fits (otherwise body) taken h is = subst Fit (sym is) h
  branch_fits (arm condition body others) taken h is =
      elim is [
        | inl here ↦ subst Fit (sym here) h.0
        | inr there ↦ branch_fits others taken h.1 there
      ]

  step_fits : (from left : Statements) (path later : Path) → Steps from path left later → Fit from → Fit left
  step_fits no_more left path later s h = absurd s
  step_fits (statement (Block point body) others) left path later s h = subst Fit (sym s.0) (fit_both body others h.0 h.1)
  step_fits (statement (If point arms) others) left path later s h = subst Fit (sym s.2) (fit_both s.0 others (branch_fits arms s.0 h.0 s.1) h.1)
  step_fits (statement (While point condition body place) others) left path later s h =
      elim s.0 [
        | inl past ↦ subst Fit (sym past) h.1
        | inr turn ↦ subst Fit (sym turn) (fit_both body (statement (While point condition body place) others) h.0 h)
      ]
  step_fits (statement (Return point value) others) left path later s h = subst Fit (sym s.0) tt
  step_fits (statement (Let point var value) others) left path later s h = subst Fit (sym s.0) h.1
  step_fits (statement (Set point var value) others) left path later s h = subst Fit (sym s.0) h.1
  step_fits (statement (SetCell point cell value place) others) left path later s h = subst Fit (sym s.0) h.1
  step_fits (statement (SetArray point array index value place) others) left path later s h = subst Fit (sym s.0) h.1
  step_fits (statement (SetGrid point array row column value place) others) left path later s h = subst Fit (sym s.0) h.1
  step_fits (statement (Print point value place) others) left path later s h = subst Fit (sym s.0) h.1
  step_fits (statement (Call point method args place) others) left path later s h = subst Fit (sym s.0) h.1
  step_fits (statement (Make point future task args spawned future_place place) others) left path later s h = subst Fit (sym s.0) h.1
  step_fits (statement (Wait point future join into place) others) left path later s h = subst Fit (sym s.0) h.1

  far_fits : (n : ℕ) (from left : Statements) (path later : Path) → StepsFar n from path left later → Fit from → Fit left
  far_fits zero from left path later s h = subst Fit (sym s.0) h
  far_fits (suc n) from left path later s h = far_fits n s.0 left s.1 later s.3 (step_fits from s.0 path s.1 s.2 h)

  pub quietly_fits : (from left : Statements) (path later : Path) → Quietly from path left later → Fit from → Fit left
  quietly_fits from left path later q h = far_fits q.steps from left path later q.far h
