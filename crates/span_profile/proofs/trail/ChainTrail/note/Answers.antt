use Rattle.std.proofs.Common.{◌≡◌, ◌<◌, List, Some, refl, sym, ◌∙◌, arith}
use Rattle.span_profile.specs.declared.heaviest_chain.key.Key.{Key}
use Rattle.span_profile.specs.declared.heaviest_chain.top.Top.{Top}
use Rattle.span_profile.specs.heaviest_chain.inner.Fronts.{front_at}
use Rattle.span_profile.specs.inner.Deeds.{given, node_of}
use Rattle.span_profile.proofs.TrailSteps.{followed, low_now, marked_now}
use Rattle.span_profile.proofs.trail.ChainTrail.note.Goals as goal

-- the entry is the last one now
pub returns-clause-trail : goal.returns-clause-trail
returns-clause-trail c = λ p are strands b e shows many is.
    let old = c.args.self.now in
    let deed = c.args.deed.now in
    let places = c.args.places.now in
    let watched = c.args.watched.now in
    let number = c.args.number in
    let new = c.give_all.new.self in
    let keys = c.as_slice-2.result.now in
    let low : (key : Key) (top : Top) → front_at old.fronts key ≡ Some top → (top.weight ≡ top.node) × (top.node < number) = λ key top at.
    let l = is.low key top at in
    (l.0, let less = l.1 in omega (arith, less, many)) in
    let are_given : keys ≡ (node_of places deed watched).gives =
    c.as_slice-2.ensures ∙ (c.in_ok-gives.ensures ∙ λ i. given places deed (c.as_slice-reads.ensures i) (c.as_slice.ensures i)) in
    let reason = c.reason-reason.ensures p are strands b e is in
    followed p are.nodes strands b number many old is _ (record { entry = number; task = deed.task; reason = c.reason-reason.result }) c.last_of.result refl c.in_ok-push.ensures.ok refl c.requires.next refl (sym e.task)
    reason c.last_of.ensures.number
    (record { task = c.last_of.ensures.task ∙ sym e.task; made = c.last_of.ensures.made ∙ sym e.made; done = c.last_of.ensures.done ∙ sym e.done })
    (low_now old.fronts new keys number low c.in_ok-give_all.ensures)
    (marked_now old.fronts new keys number low c.in_ok-give_all.ensures are.nodes (node_of places deed watched) b shows are_given)
