-- What holds for a declaration of an accepted program, and for the parts of its body.
use Rattle.std.proofs.Common.{◌≡◌, ℕ, zero, suc, List, [], ◌∷◌, ◌++◌, Some, inl, inr, arith}
use Rattle.std.specs.Prelude.{slice_get}
use Rattle.twe_program.specs.declared.program.Decl.{Decl}
use Rattle.twe_program.specs.Program.{Program}
use Rattle.twe_program.specs.Statement.{Statement, Statements, Arms}
use Rattle.twe_program.specs.Fitting.{StatementFits, StatementsFit, ArmsFit}
use Rattle.twe_program.specs.WellFormed.{IsWellFormed, DeclFits, MethodFits, scope_of}
use Rattle.effect_check.specs.declared.act.Act.{Act}
use Rattle.effect_check.specs.Acts.{acts_in, acts_in_all, acts_in_one}
use Rattle.effect_check.proofs.Members.{IsIn, in-contains, all-in, all-front, all-back}
use Rattle.isolation_laws.specs.soundness.KeepsEffects.{KeepsEffects}
use Rattle.isolation_laws.proofs.soundness.Assigned.{AssignsFrom, AllAssignFrom, ArmsAssignFrom, counted_from, all_assign}
use Rattle.isolation_laws.proofs.soundness.Static.{ActDeclared, AllDeclared, task_declares, method_declares}

-- what holds for a statement, for statements and for arms of a declaration's body
pub record Fine (p : Program) (decl : Decl) (stmt : Statement) : Type 0 where
  pub declares : AllDeclared p decl (acts_in p stmt)
  pub fits : StatementFits (scope_of p decl) stmt
  pub assigns : AssignsFrom decl.params stmt

pub record AllFine (p : Program) (decl : Decl) (stmts : Statements) : Type 0 where
  pub declares : AllDeclared p decl (acts_in_all p stmts)
  pub fits : StatementsFit (scope_of p decl) stmts
  pub assigns : AllAssignFrom decl.params stmts

pub record ArmsFine (p : Program) (decl : Decl) (point : ℕ) (arms : Arms) : Type 0 where
  pub declares : AllDeclared p decl (acts_in_one p point arms)
  pub fits : ArmsFit (scope_of p decl) arms
  pub assigns : ArmsAssignFrom decl.params arms

pub record Sound (p : Program) (decl : Decl) : Type 0 where
  pub fits : DeclFits p decl
  pub body : AllFine p decl decl.body.block

pub declared_front : (p : Program) (decl : Decl) (xs ys : List Act) → AllDeclared p decl (xs ++ ys) → AllDeclared p decl xs
declared_front p decl xs ys h = all-front (λ (act : Act). ActDeclared p decl act.kind) xs ys h

pub declared_back : (p : Program) (decl : Decl) (xs ys : List Act) → AllDeclared p decl (xs ++ ys) → AllDeclared p decl ys
declared_back p decl xs ys h = all-back (λ (act : Act). ActDeclared p decl act.kind) xs ys h

-- an element at a place of a list is a member of the list
pub got-in : {X : Type 0} (xs : List X) (i : ℕ) (x : X) → slice_get xs i ≡ Some x → IsIn x xs
got-in [] i x e = absurd (cc)
got-in (y ∷ ys) zero x e = inl (cc)
got-in (y ∷ ys) (suc i) x e = inr (got-in ys i x e)

module _ (p : Program) (wf : IsWellFormed p) (effects : KeepsEffects p) where
  body_assigns : (decl : Decl) → DeclFits p decl → AllAssignFrom decl.params decl.body.block
  body_assigns decl fits = all_assign decl.params decl.body.block fits.assigned (counted_from decl.params decl.params _ (omega arith) fits.numbered.locals)

  pub task_sound : (i : ℕ) (decl : Decl) → slice_get p.tasks i ≡ Some decl → Sound p decl
  task_sound i decl found =
      let here = got-in p.tasks i decl found in
      let there = in-contains p.tasks decl here in
      let fits : DeclFits p decl = all-in (DeclFits p) p.tasks wf.tasks decl here in record {
        fits = fits;
        body = record { declares = task_declares p effects decl there; fits = fits.body; assigns = body_assigns decl fits };
      }

  pub method_sound : (i : ℕ) (decl : Decl) → slice_get p.methods i ≡ Some decl → Sound p decl
  method_sound i decl found =
      let here = got-in p.methods i decl found in
      let there = in-contains p.methods decl here in
      let fits : MethodFits p decl = all-in (MethodFits p) p.methods wf.methods decl here in record {
        fits = fits.fits;
        body = record { declares = method_declares p effects decl there; fits = fits.fits.body; assigns = body_assigns decl fits.fits };
      }
