use Rattle.std.proofs.Common.{◌≡◌, ◌++◌, List, [], ◌∷◌, sym, subst}
use Rattle.all_runs.specs.declared.found.FoundRun.{FoundRun}
use Rattle.all_runs.specs.Explored.{AreFound, IsSeen}
use Rattle.all_runs.specs.inner.Growing.{Grows}
use Rattle.all_runs.proofs.Growing.{either_way, found_with_going, grows_by_going, grows_by_none, if_ok, last_seen}
use Rattle.all_runs.proofs.exploring.Exploration.add_going.Goals as goal

pub returns-clause-found : goal.returns-clause-found
returns-clause-found c p lim found can =
    let old = c.args.self.now in
    let kept : List FoundRun → Type 0 = λ (going : List FoundRun). AreFound p lim going old.ended in
    either_way c.push.result (kept c.push.new.self)
    (λ (is : c.push.new.self ≡ old.going ++ c.args.next ∷ []).
    subst kept (sym is) (found_with_going p lim old.going old.ended found c.args.next can))
    (λ (is : c.push.new.self ≡ old.going). subst kept (sym is) found)
    c.push.ensures.ok c.push.ensures.err

pub returns-clause-grows : goal.returns-clause-grows
returns-clause-grows c =
    let old = c.args.self.now in
    let grown : List FoundRun → Type 0 = λ (going : List FoundRun). Grows old.going old.ended going old.ended in
    either_way c.push.result (grown c.push.new.self)
    (λ (is : c.push.new.self ≡ old.going ++ c.args.next ∷ []). subst grown (sym is) (grows_by_going old.going old.ended c.args.next))
    (λ (is : c.push.new.self ≡ old.going). subst grown (sym is) (grows_by_none old.going old.ended))
    c.push.ensures.ok c.push.ensures.err

pub returns-clause-seen : goal.returns-clause-seen
returns-clause-seen c =
    let old = c.args.self.now in
    if_ok c.push.result
    (λ (is : c.push.new.self ≡ old.going ++ c.args.next ∷ []).
    subst (λ (going : List FoundRun). IsSeen going c.args.next.state) (sym is) (last_seen old.going c.args.next))
    c.push.ensures.ok
