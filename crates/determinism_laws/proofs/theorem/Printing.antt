-- What the steps of an execution print.
use Rattle.std.proofs.Common.{◌≡◌, ◌++◌, ℤ, Bool, true, false, cond, List, [], ◌∷◌, refl, sym, ap, ◌∙◌}
use Rattle.std.specs.Prelude.{filter}
use Rattle.std.specs.List.{list_any}
use Rattle.seg_journal.specs.declared.journal.Entry.{Entry}
use Rattle.twe_base.specs.Limits.{Bounds}
use Rattle.twe_program.specs.Program.{Program}
use Rattle.seg_meaning.specs.declared.frame.Frame.{Frame}
use Rattle.seg_meaning.specs.Access.{Access, Reads, Writes, Prints, printed}
use Rattle.seg_meaning.specs.Segment.{flow_of, stopped_by}
use Rattle.seg_meaning.specs.Store.{Flow, goes, returns, fails, stops}
use Rattle.determinism_laws.specs.Orders.{PrintAlike, SegmentAccesses, is_print, prints}
use Rattle.determinism_laws.specs.numbering.Played.{PlayedStep, played_prints, step_accesses, step_prints}
use Rattle.determinism_laws.specs.theorem.Steps.{AreSteps, printed_by}

-- a segment's prints follow those of its frame
stopped_prints : (p : Program) (frame : Frame) (f : Flow) → (stopped_by p frame f).frame.prints ≡ frame.prints ++ printed (stopped_by p frame f).accesses
stopped_prints p frame (goes s) = refl
stopped_prints p frame (returns value s) = refl
stopped_prints p frame (fails kind place s) = refl
stopped_prints p frame (stops operation positions s) = refl

pub step_prints_its : (p : Program) (step : PlayedStep) → step.frame.prints ≡ [] → step_prints p step ≡ printed (step_accesses p step)
step_prints_its p step bare =
    stopped_prints p step.frame (flow_of p step.frame step.frame.body step.cells) ∙ ap (λ (l : List ℤ). l ++ printed (step_accesses p step)) bare

pub steps_print : (p : Program) (lim : Bounds) (journal : List Entry) (segments : List SegmentAccesses) (steps : List PlayedStep) → AreSteps p lim journal segments steps
    → played_prints p steps ≡ printed_by segments
steps_print p lim journal [] [] same = refl
steps_print p lim journal [] (step ∷ steps) same = absurd same
steps_print p lim journal (s ∷ segments) [] same = absurd same
steps_print p lim journal (s ∷ segments) (step ∷ steps) same =
    ap (λ (l : List ℤ). l ++ played_prints p steps) (step_prints_its p step same.2 ∙ ap printed same.1)
    ∙ ap (λ (l : List ℤ). printed s.accesses ++ l) (steps_print p lim journal segments steps same.3)

-- segments that print nothing do not matter
none_printed : (accesses : List Access) → list_any is_print accesses ≡ false → printed accesses ≡ []
none_printed [] none = refl
none_printed (Reads cell value ∷ earlier) none = none_printed earlier none
none_printed (Writes cell value ∷ earlier) none = none_printed earlier none
none_printed (Prints value ∷ earlier) none = absurd (cc (none))

filtered_by : (is : Bool) (s : SegmentAccesses) (others : List SegmentAccesses) → prints s ≡ is → printed_by (filter prints others) ≡ printed_by others
    → printed_by (cond is (s ∷ filter prints others) (filter prints others)) ≡ printed s.accesses ++ printed_by others
filtered_by true s others e rest = ap (λ (l : List ℤ). printed s.accesses ++ l) rest
filtered_by false s others e rest = rest ∙ sym (ap (λ (l : List ℤ). l ++ printed_by others) (none_printed s.accesses e))

filtered : (segments : List SegmentAccesses) → printed_by (filter prints segments) ≡ printed_by segments
filtered [] = refl
filtered (s ∷ others) = filtered_by (prints s) s others refl (filtered others)

pub printed_alike : (xs ys : List SegmentAccesses) → PrintAlike xs ys → printed_by xs ≡ printed_by ys
printed_alike xs ys alike = sym (filtered xs) ∙ ap printed_by alike ∙ filtered ys
