use Rattle.std.proofs.Common.{◌++◌, ◌∷◌, [], ◌∙◌, List, ℕ, ap, append_assoc}
use Rattle.std.proofs.lemmas.List.{replicate_more}
use Rattle.explain_pages.specs.places.Excerpt.{blanks}
use Rattle.explain_pages.proofs.places.excerpt.push_blanks.Goals as goal

-- one more blank is appended
pub loop-preserved : goal.loop-preserved
loop-preserved c =
    let old = c.args.text.now in
    c.in_ok-push.ensures.ok ∙ ap (λ (t : List ℕ). t ++ 32 ∷ []) c.loop.invariant
    ∙ append_assoc old (blanks c.loop.counter) (32 ∷ [])
    ∙ ap (λ (t : List ℕ). old ++ t) (replicate_more c.loop.counter 32)
