use Rattle.std.proofs.Common.{◌≡◌, ◌++◌, ◌∙◌, ℕ, List, OnOk, ap, append_assoc, subst}
use Rattle.twe_explain.specs.Alone.{call_alone, call_of_run, call_of_text}
use Rattle.twe_explain.proofs.alone.push_call.Goals as goal

-- each call is appended
pub returns : goal.returns
returns c =
    let old : List ℕ = c.args.text.now in
    subst (λ (text : List ℕ). OnOk c.push_all-3.result (c.push_all-3.new.self ≡ text))
    (ap (λ (text : List ℕ). text ++ call_alone)
    (c.in_ok-push_all-2.ensures.ok
    ∙ (ap (λ (text : List ℕ). text ++ call_of_run) c.in_ok-push_all.ensures.ok ∙ append_assoc old call_of_text call_of_run))
    ∙ (append_assoc old (call_of_text ++ call_of_run) call_alone
    ∙ ap (λ (text : List ℕ). old ++ text) (append_assoc call_of_text call_of_run call_alone)))
    c.push_all-3.ensures.ok
