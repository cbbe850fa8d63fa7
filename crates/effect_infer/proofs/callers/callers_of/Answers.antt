use Rattle.std.proofs.Common.{◌≡◌, ◌+◌, Some, length, refl, sym, ◌∙◌, subst, arith}
use Rattle.std.specs.Prelude.{slice_get}
use Rattle.std.proofs.lemmas.Option.{slice_get_read}
use Rattle.effect_infer.proofs.RowItems.{ListsSome, lists-more, lists-same, lists-skip, lists-all}
use Rattle.effect_infer.proofs.callers.callers_of.Goals.{then-not-stands_before+then-callee-len+in_ok-push_to, else-not-stands_before, else-not-stands_before-via-then-not-stands_before+else-callee-len, else-not-stands_before-via-else-not-stands_before}
use Rattle.effect_infer.proofs.callers.callers_of.Goals as goal

-- one place more, unless an equal call stands before it
pub loop-place-preserved : goal.loop-place-preserved
loop-place-preserved c =
    let methods = c.args.methods in
    let calls = c.args.calls.now in
    let place = c.loop-place.place in
    let callers = c.loop-place.callers in
    let call = c.index-calls-place.result in
    let so_far = c.loop-place.invariant in
    let at : slice_get calls place ≡ Some call = slice_get_read calls (length calls) place call refl c.loop-place-test.true c.index-calls-place.is in
    elim c.if-not-stands_before.branch [
      | then-not-stands_before+then-callee-len+in_ok-push_to w ↦
          subst (ListsSome methods calls (place + 1)) (sym (w.callers-is ∙ w.in_ok-push_to.ensures))
          (lists-more methods calls place callers call at (let below = w.if-callee-len.true in let long : w.len.result ≡ length callers = w.len.ensures in omega (arith, below, long)) so_far)
      | else-not-stands_before w ↦ subst (ListsSome methods calls (place + 1)) (sym w.callers-is) (elim w.else-not-stands_before.branch [
        | else-not-stands_before-via-then-not-stands_before+else-callee-len w' ↦
            lists-skip methods calls place callers call at (let past = w'.if-callee-len.false in let long : w'.len.result ≡ length callers = w'.len.ensures in omega (arith, past, long)) so_far
        | else-not-stands_before-via-else-not-stands_before w' ↦
            let stands = c.stands_before.ensures w'.if-not-stands_before.false in
            lists-same methods calls place c.in_ok-first.first callers call at stands.0 stands.1 so_far
      ])
    ]

pub returns : goal.returns
returns c = lists-all c.args.methods c.args.calls.now c.loop-place.place c.loop-place.callers c.loop-place-test.false c.loop-place.invariant
