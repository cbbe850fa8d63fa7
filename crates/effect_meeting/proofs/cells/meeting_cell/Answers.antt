use Rattle.std.proofs.Common.{◌≡◌, ℕ, List, IfNone, subst, rules}
use Rattle.std.proofs.lemmas.Result.{IfOk-weaker}
use Rattle.region_paths.specs.declared.elements.Elem.{Elem}
use Rattle.effect_meeting.specs.Cells.{IsNeverMet, index_bounds}
use Rattle.effect_meeting.specs.inner.CellLines.{IsNeverMetWithin}
use Rattle.effect_meeting.proofs.Along.{if-none}
use Rattle.effect_meeting.proofs.cells.meeting_cell.Goals as goal

-- they meet at no cell of the declaration where they meet at none in its path with indexes below its bounds
pub returns-clause-none : goal.returns-clause-none
returns-clause-none c =
    let p = c.args.first.now in
    let q = c.args.second.now in
    let decl = c.args.decl.now in
    let elems : c.as_slice-declared.result.now ≡ decl.path.elems = search rules in
    let bounds : c.as_slice.result.now ≡ index_bounds decl.dims = search rules in
    let within = IsNeverMetWithin c.args.shared p q in
    IfOk-weaker c.meeting_within.result (λ found. IfNone found (within c.as_slice-declared.result.now c.as_slice.result.now))
    (λ found. IfNone found (IsNeverMet c.args.shared p q decl))
    (λ found none. if-none found _ _ (λ never.
    let at_elems : within decl.path.elems c.as_slice.result.now = subst (λ (es : List Elem). within es c.as_slice.result.now) elems never in
    subst (λ (ns : List ℕ). within decl.path.elems ns) bounds at_elems) none)
    c.meeting_within.ensures.none
