use Rattle.std.proofs.Common.{◌≡◌, ◌++◌, ◌∷◌, ◌-◌, [], ℕ, List, length, take, ap, ◌∙◌, arith, length-append}
use Rattle.std.proofs.Math.Seq.{take-append_seam}
use Rattle.explain_pages.specs.Page.{check_text}
use Rattle.explain_pages.proofs.page.check_text.Goals as goal

-- what is left of a text without its last byte
without_end : (text cut before : List ℕ) (size count : ℕ) → text ≡ before ++ 10 ∷ [] → size ≡ length text → count ≡ size - 1
    → cut ≡ take count text → cut ≡ before
without_end text cut before size count is long one_less taken =
    let count_is : count ≡ length before = omega (arith, one_less, long, ap length is, length-append before (10 ∷ [])) in
    taken ∙ ap (λ (n : ℕ). take n text) count_is ∙ ap (take (length before)) is ∙ take-append_seam before (10 ∷ [])

-- the line without its end
pub returns : goal.returns
returns c = without_end _ _ (check_text c.args.refusal) c.len-size.result c.saturating_sub.result c.in_ok-text.ensures c.len-size.ensures c.saturating_sub.ensures c.truncate.ensures
