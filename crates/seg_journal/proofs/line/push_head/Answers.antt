use Rattle.std.proofs.Common.{◌≡◌, ℕ, List, ◌++◌, Result, Ok, Err, OnOk, ap, ◌∙◌, append_assoc, codes, decimal}
use Rattle.seg_journal.specs.Spelling.{tasks_part}
use Rattle.seg_journal.proofs.line.push_head.Goals as goal

-- three parts, one after another, the last of which may have found no memory
pushed : {T E : Type 0} (result : Result T E) (old first second third new a b : List ℕ) → first ≡ old ++ a → second ≡ first ++ b
    → OnOk result (new ≡ second ++ third) → OnOk result (new ≡ old ++ (a ++ (b ++ third)))
pushed (Ok done) old first second third new a b p q r =
    r ∙ ap (λ (xs : List ℕ). xs ++ third) (q ∙ ap (λ (xs : List ℕ). xs ++ b) p ∙ append_assoc old a b)
    ∙ append_assoc old (a ++ b) third ∙ ap (λ (xs : List ℕ). old ++ xs) (append_assoc a b third)
pushed (Err e) old first second third new a b p q r = tt

pub returns : goal.returns
returns c =
    let limits = c.limits.inside in
    rw (← c.limits.view_is)
    (pushed c.push_tasks.result c.args.text.now c.push_all.new.self c.push_number.new.text (tasks_part limits.tasks) c.push_tasks.new.text
    (codes "twe-journal 2 fuel ") (decimal limits.fuel) c.in_ok-push_all.ensures.ok c.in_ok-push_number.ensures c.push_tasks.ensures)
