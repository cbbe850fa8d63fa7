use Rattle.std.proofs.Common.{◌≡◌, ◌++◌, List, [], ◌∷◌, sym, subst}
use Rattle.flat_sched.specs.declared.ending.WholeRun.{WholeRun}
use Rattle.flat_sched.specs.RunEnds.{outcome_of}
use Rattle.all_runs.specs.Explored.{AreFound, IsFoundEnd}
use Rattle.all_runs.specs.inner.Growing.{Grows}
use Rattle.all_runs.proofs.Growing.{either_way, found_with_ended, grows_by_ended, grows_by_none, if_ok, last_ends}
use Rattle.all_runs.proofs.exploring.Exploration.add_ended.Goals as goal

pub returns-clause-found : goal.returns-clause-found
returns-clause-found c p lim found over =
    let old = c.args.self.now in
    let kept : List WholeRun → Type 0 = λ (ended : List WholeRun). AreFound p lim old.going ended in
    either_way c.push.result (kept c.push.new.self)
    (λ (is : c.push.new.self ≡ old.ended ++ c.args.next ∷ []).
    subst kept (sym is)
    (found_with_ended p lim old.going old.ended found c.args.next over
    (λ there.
    let yes = c.is_found_end.ensures.1 (subst (λ (ended : List WholeRun). IsFoundEnd ended c.args.next.state (outcome_of c.args.next.end)) (sym c.as_slice.ensures) there) in
    cc (yes, c.if-is_found_end.false))))
    (λ (is : c.push.new.self ≡ old.ended). subst kept (sym is) found)
    c.push.ensures.ok c.push.ensures.err

pub returns-clause-grows : goal.returns-clause-grows
returns-clause-grows c =
    let old = c.args.self.now in
    let grown : List WholeRun → Type 0 = λ (ended : List WholeRun). Grows old.going old.ended old.going ended in
    either_way c.push.result (grown c.push.new.self)
    (λ (is : c.push.new.self ≡ old.ended ++ c.args.next ∷ []). subst grown (sym is) (grows_by_ended old.going old.ended c.args.next))
    (λ (is : c.push.new.self ≡ old.ended). subst grown (sym is) (grows_by_none old.going old.ended))
    c.push.ensures.ok c.push.ensures.err

pub returns-clause-answered : goal.returns-clause-answered
returns-clause-answered c =
    let old = c.args.self.now in
    if_ok c.push.result
    (λ (is : c.push.new.self ≡ old.ended ++ c.args.next ∷ []).
    subst (λ (ended : List WholeRun). IsFoundEnd ended c.args.next.state (outcome_of c.args.next.end)) (sym is) (last_ends old.ended c.args.next))
    c.push.ensures.ok
