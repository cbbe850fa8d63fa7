-- Steps that find, in the order of sequential code, the values that their segments found in the journal.
use Rattle.std.proofs.Common.{◌≡◌, ◌++◌, ℕ, ℤ, IsTrue, List, [], ◌∷◌, refl, sym, ap, ◌∙◌, subst}
use Rattle.std.specs.Prelude.{slice_get}
use Rattle.std.proofs.lemmas.List.{append_assoc}
use Rattle.seg_journal.specs.declared.journal.Entry.{Entry}
use Rattle.twe_base.specs.Limits.{Bounds}
use Rattle.twe_program.specs.Program.{Program}
use Rattle.seg_meaning.specs.Access.{Access, Agrees, after}
use Rattle.seg_meaning.proofs.Determined.{segment_agrees}
use Rattle.determinism_laws.specs.Orders.{SegmentAccesses, accesses_cell, after_all}
use Rattle.determinism_laws.specs.Segments.{state_before}
use Rattle.determinism_laws.specs.numbering.Played.{FindTheSame, PlayedStep, cells_after, step_accesses}
use Rattle.determinism_laws.specs.theorem.Steps.{AreSteps}
use Rattle.determinism_laws.proofs.SameValues.{agrees_alike}

after_joined : (cells : List ℤ) (before : List SegmentAccesses) (s : SegmentAccesses) → after_all cells (before ++ s ∷ []) ≡ after (after_all cells before) s.accesses
after_joined cells [] s = refl
after_joined cells (first ∷ before) s = after_joined (after cells first.accesses) before s

module _ (p : Program) (lim : Bounds) (journal : List Entry) (cells : List ℤ) where
  -- each segment finds the values of the journal
  abbrev pub Finds : List SegmentAccesses → Type 0
  Finds ordered =
      (s : SegmentAccesses) (before later : List SegmentAccesses) → ordered ≡ before ++ s ∷ later → (cell : ℕ) → IsTrue (accesses_cell cell s)
      → slice_get (after_all cells before) cell ≡ slice_get (state_before p lim journal s.key).cells cell

  finds_from : (ordered : List SegmentAccesses) → Finds ordered → (segments before : List SegmentAccesses) → ordered ≡ before ++ segments → (steps : List PlayedStep)
      → AreSteps p lim journal segments steps → FindTheSame p steps (after_all cells before)
  finds_from ordered finds [] before split [] same = tt
  finds_from ordered finds [] before split (step ∷ steps) same = absurd same
  finds_from ordered finds (s ∷ segments) before split [] same = absurd same
  finds_from ordered finds (s ∷ segments) before split (step ∷ steps) same =
      let now = after_all cells before in
      let own : Agrees step.cells s.accesses = subst (Agrees step.cells) same.1 (segment_agrees p step.frame step.cells).agrees in
      let here : Agrees now s.accesses =
      agrees_alike step.cells now s.accesses (λ cell accessed. finds s before segments split cell accessed ∙ ap (λ (l : List ℤ). slice_get l cell) (sym same.0)) own in
      let rest = finds_from ordered finds segments (before ++ s ∷ []) (split ∙ sym (append_assoc before (s ∷ []) segments)) steps same.3 in
      let next : after_all cells (before ++ s ∷ []) ≡ after now (step_accesses p step) = after_joined cells before s ∙ ap (after now) (sym same.1) in
      (subst (Agrees now) (sym same.1) here, subst (FindTheSame p steps) next rest)

  pub steps_find : (ordered : List SegmentAccesses) → Finds ordered → (steps : List PlayedStep) → AreSteps p lim journal ordered steps → FindTheSame p steps cells
  steps_find ordered finds steps same = finds_from ordered finds ordered [] refl steps same

-- and they leave the same cells
pub steps_leave : (p : Program) (lim : Bounds) (journal : List Entry) (segments : List SegmentAccesses) (steps : List PlayedStep) (cells : List ℤ) → AreSteps p lim journal segments steps
    → cells_after p steps cells ≡ after_all cells segments
steps_leave p lim journal [] [] cells same = refl
steps_leave p lim journal [] (step ∷ steps) cells same = absurd same
steps_leave p lim journal (s ∷ segments) [] cells same = absurd same
steps_leave p lim journal (s ∷ segments) (step ∷ steps) cells same =
    ap (λ (accesses : List Access). cells_after p steps (after cells accesses)) same.1 ∙ steps_leave p lim journal segments steps (after cells s.accesses) same.3
