-- One list more.
use Rattle.std.proofs.Common.{ℕ, [], ◌∷◌, ◌++◌, List, map, replicate, ap, ◌∙◌}
use Rattle.std.proofs.lemmas.List.{map-append, replicate_more}
use Rattle.effect_tree.proofs.children.empty_lists.Goals as goal

pub loop-preserved : goal.loop-preserved
loop-preserved c =
    ap (map (λ v. v.items)) c.in_ok-push.ensures.items
    ∙ map-append (λ v. v.items) c.loop.lists.items (c.new.result ∷ [])
    ∙ ap (λ (ls : List (List ℕ)). ls ++ c.new.result.items ∷ []) c.loop.invariant
    ∙ ap (λ (l : List ℕ). replicate c.loop.counter [] ++ l ∷ []) c.new.ensures.items
    ∙ replicate_more c.loop.counter []
