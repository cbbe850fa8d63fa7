use Rattle.std.proofs.Common.{◌≡◌, ◌<◌, ◌≤◌, ◌+◌, ℕ, Bool, false, List, [], ◌∷◌, length, drop, get_or, inl, inr, sym, ap, ◌∙◌, arith}
use Rattle.std.specs.Prelude.{nat_lt}
use Rattle.std.proofs.lemmas.Bool.{cases_lt, lt-ltb, le-ltb}
use Rattle.std.proofs.lemmas.List.{drop_more, drop_all}
use Rattle.region_paths.specs.declared.elements.Elem.{Elem}
use Rattle.region_paths.specs.declared.elements.Elem.TheVariants.{AnyIndex}
use Rattle.summary_texts.specs.Order.{comes_before}
use Rattle.summary_texts.proofs.order.comes_before.Goals as goal

-- nothing comes before what is left if something is left
empty-before : (n : ℕ) (xs : List Elem) → nat_lt n (length xs) ≡ comes_before [] (drop n xs)
empty-before n xs = elim (cases_lt n (length xs)) [
  | inl below ↦ lt-ltb n (length xs) below ∙ sym (ap (comes_before []) (drop_more xs n AnyIndex below))
  | inr past ↦ le-ltb n (length xs) past ∙ sym (ap (comes_before []) (drop_all n xs past))
]

-- the second path has ended, and the first has not
pub returns-in_default : goal.returns-in_default
returns-in_default c =
    let first = c.args.first.now in
    let second = c.args.second.now in
    let at = c.loop-at.at in
    let past : length second ≤ at = c.in_default.ensures.lookup.3 in
    let left : comes_before (drop at first) (drop at second) ≡ false =
    ap (λ xs. comes_before xs (drop at second)) (drop_more first at AnyIndex c.loop-at-test.true)
    ∙ ap (comes_before (get_or first at AnyIndex ∷ drop (at + 1) first)) (drop_all at second past) in
    sym left ∙ c.loop-at.invariant

-- the first path has ended
pub returns : goal.returns
returns c =
    let first = c.args.first.now in
    let second = c.args.second.now in
    let at = c.loop-at.at in
    let end : length first ≡ at = omega arith in
    ap (λ n. nat_lt n (length second)) end ∙ empty-before at second
    ∙ sym (ap (λ xs. comes_before xs (drop at second)) (drop_all at first c.loop-at-test.false)) ∙ c.loop-at.invariant
