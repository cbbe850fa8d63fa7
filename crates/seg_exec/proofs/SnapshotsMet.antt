-- How a segment met its fault, by a run of the evaluator over a list of cells.
use Rattle.std.proofs.Common.{◌≡◌, ℤ, pos, List, [], Some, sym, ap, ◌∙◌}
use Rattle.twe_program.specs.Program.{Program}
use Rattle.seg_meaning.specs.declared.frame.Frame.{Frame}
use Rattle.seg_exec.specs.declared.steps.machine.Machine.{Machine}
use Rattle.seg_exec.specs.declared.steps.request.Ending.{Ending}
use Rattle.seg_exec.specs.declared.steps.request.Ending.TheVariants.{Returned, Faulted}
use Rattle.seg_meaning.specs.Plain.{list_ways}
use Rattle.seg_exec.specs.Snapshots.{snapshot_of}
use Rattle.seg_meaning.specs.Segment.{flow_of}
use Rattle.seg_meaning.specs.Store.{Store, Flow, goes, returns, fails, stops}
use Rattle.seg_exec.specs.inner.Faulting.{snapshot_at}
use Rattle.seg_exec.specs.inner.steps.Calls.{calls_of}
use Rattle.seg_exec.specs.inner.steps.Endings.{suspended_at}
use Rattle.seg_exec.specs.inner.steps.Reached.{Finishes, over, standing}
use Rattle.seg_exec.specs.inner.steps.Runs.{Over, store_of}
use Rattle.seg_exec.specs.inner.steps.Unfolded.{config_at}
use Rattle.seg_exec.specs.inner.steps.Views.{config_of}
use Rattle.seg_exec.proofs.steps.Whole.{once, outcome_of}
use Rattle.seg_meaning.proofs.PlainLists.{list_follows}
use Rattle.seg_exec.proofs.Segments.{flow_so, is_over}

module _ (p : Program) where
  snapshot_so : (f : Flow) (ending : Ending) (s : Store) → outcome_of p f ≡ Over ending s → snapshot_of f ≡ snapshot_at ending s.vars s.calls s.cells
  snapshot_so (goes s0) ending s e = let a : Returned (pos 0) ≡ ending = cc in ap (λ (x : Ending). snapshot_at x s.vars s.calls s.cells) a
  snapshot_so (returns value s0) ending s e = let a : Returned value ≡ ending = cc in ap (λ (x : Ending). snapshot_at x s.vars s.calls s.cells) a
  snapshot_so (fails cause place s0) ending s e =
      let a : Faulted cause place ≡ ending = cc in let b : s0 ≡ s = cc in
      ap (λ (x : Store). snapshot_at (Faulted cause place) x.vars x.calls x.cells) b ∙ ap (λ (x : Ending). snapshot_at x s.vars s.calls s.cells) a
  snapshot_so (stops operation positions s0) ending s e =
      let a : suspended_at operation positions ≡ ending = cc in ap (λ (x : Ending). snapshot_at x s.vars s.calls s.cells) a

  -- what is there at the end of a run is what was there at the fault
  pub snapshot_met : (frame : Frame) (from to : Machine) (cells new_cells prints new_prints : List ℤ) (ending : Ending) → config_at p frame frame.body ≡ Some (config_of from)
      → Finishes p list_ways (standing from cells prints) ending (standing to new_cells new_prints)
      → snapshot_at ending to.vars.active (calls_of to.work) new_cells ≡ snapshot_of (flow_of p frame frame.body cells)
  snapshot_met frame from to cells new_cells prints new_prints ending is f =
      let l = list_follows cells f.accesses new_cells f.follows in
      let ends = f.ends cells l.0 in
      let flow = flow_of p frame frame.body cells in
      let other = flow_so p frame frame.body (config_of from) cells is in
      let s : Store = store_of (over (config_of to) cells f.accesses) in
      ap (λ (xs : List ℤ). snapshot_at ending to.vars.active (calls_of to.work) xs) l.1
      ∙ sym (snapshot_so flow ending s (once p other.0 ends.0 (over (config_of from) cells []) (outcome_of p flow) (Over ending s) (is_over p flow) tt other.1 ends.1))
