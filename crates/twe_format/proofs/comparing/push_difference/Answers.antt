use Rattle.std.proofs.Common.{◌≡◌, ◌+◌, ◌-◌, ℕ, true, List, ◌∷◌, ◌++◌, length, take, drop, sym, ap, ◌∙◌, append_assoc, arith}
use Rattle.std.specs.List.{flat_map}
use Rattle.std.proofs.lemmas.Bool.{cond-true}
use Rattle.std.proofs.lemmas.List.{drop-drop, length-drop, take_all}
use Rattle.twe_format.specs.declared.lines.Line.{Line}
use Rattle.twe_format.specs.Differences.{removed_line, added_line, count_ahead, stands_first, differing}
use Rattle.twe_format.proofs.comparing.push_difference.Goals as goal

-- the line of the text is the next one of the layout
same_line : (text new : List ℕ) (line : Line) (lines laid : List Line) (n : ℕ) → n ≡ count_ahead line laid → new ≡ text ++ flat_map added_line (take n laid)
    → stands_first line (take (length laid - n) (drop n laid)) ≡ true → text ++ differing (line ∷ lines) laid ≡ new ++ differing lines (drop (n + 1) laid)
same_line text new line lines laid n count is first =
    let ahead = count_ahead line laid in
    let whole : take (length laid - n) (drop n laid) ≡ drop n laid = take_all (length laid - n) (drop n laid) (omega (arith, length-drop n laid)) in
    let others : drop ahead laid ≡ drop n laid = ap (λ (k : ℕ). drop k laid) (sym count) in
    let here : stands_first line (drop ahead laid) ≡ true = ap (stands_first line) (others ∙ sym whole) ∙ first in
    let rest : drop 1 (drop ahead laid) ≡ drop (n + 1) laid = ap (λ (those : List Line). drop 1 those) others ∙ drop-drop 1 n laid in
    let front = flat_map added_line (take ahead laid) in
    let tail = differing lines (drop 1 (drop ahead laid)) in
    ap (λ (more : List ℕ). text ++ (front ++ more)) (cond-true (stands_first line (drop ahead laid)) tail (removed_line line ++ differing lines (drop ahead laid)) here)
    ∙ sym (append_assoc text front tail)
    ∙ (λ i. (text ++ flat_map added_line (take (sym count i) laid)) ++ differing lines (rest i))
    ∙ ap (λ (written : List ℕ). written ++ differing lines (drop (n + 1) laid)) (sym is)

pub returns-then-stands_first-clause-differs : goal.returns-then-stands_first-clause-differs
returns-then-stands_first-clause-differs c lines =
    same_line c.args.text.now c.push_added.new.text c.args.line.now lines c.args.laid.now c.count_ahead-ahead.result c.count_ahead-ahead.ensures.count c.in_ok-push_added.ensures
    (sym c.stands_first.ensures ∙ c.if-stands_first.true)
