use Rattle.std.proofs.Common.{◌≡◌, ◌++◌, ◌∙◌, ℕ, List, OnOk, ap, append_assoc, subst}
use Rattle.twe_explain.specs.Alone.{journal_status, run_status}
use Rattle.twe_explain.proofs.alone.push_replay.Goals as goal

-- each status is appended
pub returns : goal.returns
returns c =
    let old : List ℕ = c.args.text.now in
    subst (λ (text : List ℕ). OnOk c.push_all-2.result (c.push_all-2.new.self ≡ text))
    (ap (λ (text : List ℕ). text ++ run_status) c.in_ok-push_all.ensures.ok ∙ append_assoc old journal_status run_status)
    c.push_all-2.ensures.ok
