-- The rest of a body accesses only what its declaration declares, since each of its statements is one of the body.
use Rattle.std.proofs.Common.{◌≡◌, ℕ, zero, suc, ℤ, List, [], ◌∷◌, ◌++◌, length, Option, None, Some}
use Rattle.std.specs.Prelude.{slice_get}
use Rattle.effect_sets.specs.declared.effects.Effect.{Effect}
use Rattle.twe_program.specs.declared.program.Decl.{Decl}
use Rattle.twe_program.specs.Program.{Program}
use Rattle.twe_program.specs.Statement.{Statement, Block, Let, Set, SetCell, SetArray, SetGrid, If, While, Return, Print, Call, Make, Wait, Statements, no_more, statement, Arms, arm, otherwise, no_else}
use Rattle.twe_program.specs.WellFormed.{IsWellFormed}
use Rattle.seg_meaning.specs.declared.frame.Position.{Position}
use Rattle.seg_meaning.specs.Meaning.{Below, stopped_at}
use Rattle.seg_meaning.specs.Remaining.{after_first, last_of_first, branch_of, block_of, block_at, turned_again, resumed}
use Rattle.seg_meaning.specs.Store.{Store, Flow}
use Rattle.effect_check.specs.Acts.{acts_of, acts_in, acts_in_all, acts_in_one}
use Rattle.isolation_laws.proofs.soundness.Sound.{Sound, Fine, AllFine, ArmsFine, declared_front, declared_back}
use Rattle.isolation_laws.proofs.soundness.Expressions.{Kept, FlowKeeps, DeclaredIn, BelowKeeps}
use Rattle.isolation_laws.proofs.soundness.Statements.{go_kept, stopped_kept, all_kept}

module _ (p : Program) (decl : Decl) where
  -- a statement, if there is one, is one of the body
  abbrev pub FineIf : Option Statement → Type 0
  FineIf None = Unit {0}
  FineIf (Some stmt) = Fine p decl stmt

  none_fine : AllFine p decl no_more
  none_fine = record { declares = tt; fits = tt; assigns = tt }

  first_fine : (first : Statement) (others : Statements) → AllFine p decl (statement first others) → Fine p decl first
  first_fine first others fine = record {
    declares = declared_front p decl (acts_in p first) (acts_in_all p others) fine.declares;
    fits = fine.fits.0;
    assigns = fine.assigns.0;
  }

  others_fine : (first : Statement) (others : Statements) → AllFine p decl (statement first others) → AllFine p decl others
  others_fine first others fine = record {
    declares = declared_back p decl (acts_in p first) (acts_in_all p others) fine.declares;
    fits = fine.fits.1;
    assigns = fine.assigns.1;
  }

  pub after_fine : (n : ℕ) (stmts : Statements) → AllFine p decl stmts → AllFine p decl (after_first n stmts)
  after_fine zero stmts fine = fine
  after_fine (suc n) no_more fine = fine
  after_fine (suc n) (statement first others) fine = after_fine n others (others_fine first others fine)

  pub last_fine : (n : ℕ) (stmts : Statements) → AllFine p decl stmts → FineIf (last_of_first n stmts)
  last_fine zero stmts fine = tt
  last_fine (suc n) no_more fine = tt
  last_fine (suc zero) (statement first others) fine = first_fine first others fine
  last_fine (suc (suc n)) (statement first others) fine = last_fine (suc n) others (others_fine first others fine)

  branch_fine : (n point : ℕ) (arms : Arms) → ArmsFine p decl point arms → AllFine p decl (branch_of n arms)
  branch_fine zero point (arm condition body others) fine =
      let after = declared_back p decl (acts_of p point condition) (acts_in_all p body ++ acts_in_one p point others) fine.declares in
      record { declares = declared_front p decl (acts_in_all p body) (acts_in_one p point others) after; fits = fine.fits.1; assigns = fine.assigns.0 }
  branch_fine (suc n) point (arm condition body others) fine =
      let after = declared_back p decl (acts_of p point condition) (acts_in_all p body ++ acts_in_one p point others) fine.declares in
      branch_fine n point others
      (record { declares = declared_back p decl (acts_in_all p body) (acts_in_one p point others) after; fits = fine.fits.2; assigns = fine.assigns.1 })
  branch_fine zero point (otherwise body) fine = record { declares = fine.declares; fits = fine.fits; assigns = fine.assigns }
  branch_fine (suc n) point (otherwise body) fine = record { declares = fine.declares; fits = fine.fits; assigns = fine.assigns }
  branch_fine zero point no_else fine = none_fine
  branch_fine (suc n) point no_else fine = none_fine

  pub block_fine : (n : ℕ) (o : Option Statement) → FineIf o → AllFine p decl (block_of n o)
  block_fine n None fine = none_fine
  block_fine n (Some (Block point body)) fine = record { declares = fine.declares; fits = fine.fits; assigns = fine.assigns }
  block_fine n (Some (Let point var value)) fine = none_fine
  block_fine n (Some (Set point var value)) fine = none_fine
  block_fine n (Some (SetCell point cell value place)) fine = none_fine
  block_fine n (Some (SetArray point array index value place)) fine = none_fine
  block_fine n (Some (SetGrid point array row column value place)) fine = none_fine
  block_fine n (Some (If point arms)) fine = branch_fine n point arms (record { declares = fine.declares; fits = fine.fits; assigns = fine.assigns })
  block_fine n (Some (While point condition body place)) fine = record {
    declares = declared_back p decl (acts_of p point condition) (acts_in_all p body) fine.declares;
    fits = fine.fits.1;
    assigns = fine.assigns;
  }
  block_fine n (Some (Return point value)) fine = none_fine
  block_fine n (Some (Print point value place)) fine = none_fine
  block_fine n (Some (Call point method args place)) fine = none_fine
  block_fine n (Some (Make point future task args spawned future_place place)) fine = none_fine
  block_fine n (Some (Wait point future join into place)) fine = none_fine

module _ (p : Program) (wf : IsWellFormed p) (methods : (i : ℕ) (decl : Decl) → slice_get p.methods i ≡ Some decl → Sound p decl)
    (below : Below) (keeps : BelowKeeps p below)
    (decl : Decl) (sound : Sound p decl) (args : List ℤ) (count : decl.params ≡ length args) (es : List Effect) (within : DeclaredIn p decl args es) where
  turned_again_kept : (positions : List Position) (o : Option Statement) → FineIf p decl o → (f : Flow) → FlowKeeps p decl es args f → FlowKeeps p decl es args (turned_again below positions o f)
  turned_again_kept [] o fine f h = h
  turned_again_kept (position ∷ inner) None fine f h = h
  turned_again_kept (position ∷ inner) (Some (While point condition body place)) fine f h =
      go_kept p decl es args f (below (While point condition body place)) h (λ s kept. keeps decl sound args count es within (While point condition body place) fine s kept)
  turned_again_kept (position ∷ inner) (Some (Block point body)) fine f h = h
  turned_again_kept (position ∷ inner) (Some (Let point var value)) fine f h = h
  turned_again_kept (position ∷ inner) (Some (Set point var value)) fine f h = h
  turned_again_kept (position ∷ inner) (Some (SetCell point cell value place)) fine f h = h
  turned_again_kept (position ∷ inner) (Some (SetArray point array index value place)) fine f h = h
  turned_again_kept (position ∷ inner) (Some (SetGrid point array row column value place)) fine f h = h
  turned_again_kept (position ∷ inner) (Some (If point arms)) fine f h = h
  turned_again_kept (position ∷ inner) (Some (Return point value)) fine f h = h
  turned_again_kept (position ∷ inner) (Some (Print point value place)) fine f h = h
  turned_again_kept (position ∷ inner) (Some (Call point method args place)) fine f h = h
  turned_again_kept (position ∷ inner) (Some (Make point future task args spawned future_place place)) fine f h = h
  turned_again_kept (position ∷ inner) (Some (Wait point future join into place)) fine f h = h

  pub resumed_kept : (stmts : Statements) → AllFine p decl stmts → (positions : List Position) (s : Store) → Kept p es args s → FlowKeeps p decl es args (resumed below p stmts positions s)
  resumed_kept stmts fine [] s kept = kept
  resumed_kept stmts fine (position ∷ inner) s kept =
      let last = last_of_first position.after stmts in
      let here : FineIf p decl last = last_fine p decl position.after stmts fine in
      let inside = resumed below p (block_of (block_at inner) last) inner s in
      go_kept p decl es args (stopped_at position.block position.after (turned_again below inner last inside)) _
      (stopped_kept p decl es args position.block position.after (turned_again below inner last inside)
      (turned_again_kept inner last here inside (resumed_kept (block_of (block_at inner) last) (block_fine p decl (block_at inner) last here) inner s kept)))
      (λ s1 kept1. all_kept p wf methods below keeps decl sound args count es within position.block position.after (after_first position.after stmts) (after_fine p decl position.after stmts fine) s1 kept1)
