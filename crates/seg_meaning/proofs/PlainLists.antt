-- Accesses to a plain list of cells.
use Rattle.std.proofs.Common.{◌≡◌, ℤ, List, [], ◌∷◌, length, sym, ap, ◌∙◌}
use Rattle.std.specs.Prelude.{slice_get, slice_set}
use Rattle.twe_program.specs.Program.{Program}
use Rattle.seg_meaning.specs.declared.frame.Frame.{Frame}
use Rattle.seg_meaning.specs.declared.stop.Stop.{Stop}
use Rattle.seg_meaning.specs.Access.{Access, Reads, Writes, Prints, Agrees, Follows, after, value_in}
use Rattle.seg_meaning.specs.Plain.{ListFollows}
use Rattle.seg_meaning.specs.Segment.{Stopped, CarriesOut, IsSegment}
use Rattle.seg_meaning.proofs.CellsAfter.{after_length}

-- a list that follows accesses agrees with them, and is what they leave
pub list_follows : (old : List ℤ) (accesses : List Access) (new : List ℤ) → Follows ListFollows old accesses new → Agrees old accesses × (new ≡ after old accesses)
list_follows old [] new h = (tt, h)
list_follows old (Reads cell value ∷ earlier) new h =
    let before = list_follows old earlier h.0 h.1 in
    ((before.0, ap (λ (l : List ℤ). value_in (slice_get l cell)) (sym before.1) ∙ h.2.1), h.2.0 ∙ before.1)
list_follows old (Writes cell value ∷ earlier) new h =
    let before = list_follows old earlier h.0 h.1 in
    (before.0, h.2 ∙ ap (λ (l : List ℤ). slice_set l cell value) before.1)
list_follows old (Prints value ∷ earlier) new h = list_follows old earlier new h

pub plain_segment : (p : Program) (frame new_frame : Frame) (cells new_cells : List ℤ) (stop : Stop) → CarriesOut p ListFollows frame cells stop new_frame new_cells
    → IsSegment p frame cells stop new_frame new_cells
plain_segment p frame new_frame cells new_cells stop h =
    let l = list_follows cells h.accesses new_cells h.follows in
    let e = h.means cells l.0 in
    (ap (λ (r : Stopped). r.frame) e, ap (λ (r : Stopped). r.cells) e ∙ sym l.1, ap (λ (r : Stopped). r.stop) e)

-- the list keeps its length
pub plain_length : (p : Program) (frame new_frame : Frame) (cells new_cells : List ℤ) (stop : Stop) → CarriesOut p ListFollows frame cells stop new_frame new_cells
    → length new_cells ≡ length cells
plain_length p frame new_frame cells new_cells stop h =
    ap (λ (l : List ℤ). length l) (list_follows cells h.accesses new_cells h.follows).1 ∙ after_length cells h.accesses
