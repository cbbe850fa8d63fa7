use Rattle.std.proofs.Common.{ap}
use Rattle.std.proofs.lemmas.Bool.Decides.{Decides-and, Decides-eqb, Decides-like}
use Rattle.std.proofs.lemmas.Slice.Eq.{slice_eq-Decides}
use Rattle.seg_meaning.specs.declared.frame.Position.{Position}
use Rattle.state_copies.proofs.frames.same_positions.Goals as goal

pub returns : goal.returns
returns c =
    slice_eq-Decides
    (λ (a b : Position). Decides-like _ (λ same. λ i. record { block = same.0 i; after = same.1 i }) (λ e. (ap (λ (p : Position). p.block) e, ap (λ (p : Position). p.after) e))
    (Decides-and _ _ (Decides-eqb a.block b.block) (Decides-eqb a.after b.after)))
    _ _ _ c.eq.ensures
