use Rattle.std.proofs.Common.{◌∷◌, [], ◌++◌, List, take, sym, ap, ◌∙◌, subst}
use Rattle.std.proofs.lemmas.List.{take_more}
use Rattle.refusal_notes.specs.declared.mends.Mend.{Mend}
use Rattle.refusal_notes.specs.Mends.{AreTried}
use Rattle.refusal_notes.proofs.Trying.{one_tried_more}
use Rattle.refusal_notes.proofs.mends.try_mends.Goals as goal

-- none is tried yet
pub loop-mend-init : goal.loop-mend-init
loop-mend-init c = AreTried.none c.args.remarks.now

-- one more is tried
pub loop-mend-preserved : goal.loop-mend-preserved
loop-mend-preserved c =
    let mends = c.args.mends.now in
    let i = c.loop-mend.mend-index in
    let mend = c.mend-item.result in
    let front = take i mends in
    let more = take_more mends i mend c.loop-mend-test.true ∙ ap (λ (m : Mend). front ++ m ∷ []) (sym c.mend-item.is) in
    subst (λ (ms : List Mend). AreTried ms c.args.remarks.now c.try_mend.new.remarks) (sym more)
    (one_tried_more front mend c.args.remarks.now c.loop-mend.remarks c.try_mend.new.remarks c.loop-mend.invariant c.in_ok-try_mend.ensures)
