use Rattle.std.proofs.Common.{◌≡◌, true, false, sym, ◌∙◌, arith}
use Rattle.span_profile.proofs.TrailSteps.{passed_by}
use Rattle.span_profile.proofs.trail.ChainTrail.follow.Goals.{then-over-via-then-over, then-over-via-else-over+then-not-is_next}
use Rattle.span_profile.proofs.trail.ChainTrail.follow.Goals as goal

pub returns-then-over-clause-trail : goal.returns-then-over-clause-trail
returns-then-over-clause-trail c = λ p are strands b e shows many is going. elim c.then-over.branch [
  | then-over-via-then-over w ↦ (let never : true ≡ false = sym w.if-over.true ∙ going in absurd (cc))
  | then-over-via-else-over+then-not-is_next w ↦ passed_by p are.nodes strands b c.args.number many c.args.self.now is
      (λ next. let yes = w.is_next.ensures.1 next in let no = w.if-not-is_next.true in grind (arith, yes, no))
]
