-- The item once more.
use Rattle.std.proofs.Common.{List, [], ◌∷◌, ◌++◌, replicate, ap, ◌∙◌}
use Rattle.std.proofs.lemmas.List.{append_assoc, replicate_more}
use Rattle.seg_meaning.proofs.short_list.ShortList.push_times.Goals as goal

pub loop-preserved : goal.loop-preserved
loop-preserved g c =
    c.in_ok-push.ensures ∙ ap (λ (xs : List g.row.T.Denot). xs ++ c.args.item ∷ []) c.loop.invariant
    ∙ append_assoc c.args.self.now (replicate c.loop.counter c.args.item) (c.args.item ∷ [])
    ∙ ap (λ (times : List g.row.T.Denot). c.args.self.now ++ times) (replicate_more c.loop.counter c.args.item)
