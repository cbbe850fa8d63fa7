use Rattle.std.proofs.Common.{◌≡◌, ◌≤◌, false, List, Some, ap, ◌∙◌, sym, subst}
use Rattle.std.proofs.lemmas.Result.{IfOk-weaker}
use Rattle.serde_json.specs.Data.{Data, array, depth}
use Rattle.serde_json.specs.Read.{max_depth}
use Rattle.serde_json.specs.View.{items_of, view}
use Rattle.serde_json.specs.Written.{compact_text, has_float}
use Rattle.twe_draw.specs.Trace.{trace_data}
use Rattle.twe_draw.proofs.Plain.{events_are_plain, events_are_shallow}
use Rattle.twe_draw.proofs.trace.trace_json.Goals as goal

-- the events have no number with a point, so their text is known
pub returns-clause-text : goal.returns-clause-text
returns-clause-text c =
    let is : view c.from.result ≡ trace_data c.args.p.now c.args.bars.now c.args.tasks.now =
    c.from.ensures ∙ ap (λ (ds : List Data). array (items_of ds)) c.in_ok-events.ensures in
    let plain : has_float (view c.from.result) ≡ false =
    ap has_float is ∙ events_are_plain c.args.p.now c.args.tasks.now c.args.tasks.now c.args.bars.now in
    IfOk-weaker c.to_string.result _ _ (λ s text. text plain ∙ ap compact_text is) c.to_string.ensures.text

-- and they nest little, so it reads back
pub returns-clause-read : goal.returns-clause-read
returns-clause-read c =
    let is : view c.from.result ≡ trace_data c.args.p.now c.args.bars.now c.args.tasks.now =
    c.from.ensures ∙ ap (λ (ds : List Data). array (items_of ds)) c.in_ok-events.ensures in
    let shallow : depth (view c.from.result) ≤ max_depth =
    subst (λ (d : Data). depth d ≤ max_depth) (sym is) (events_are_shallow c.args.p.now c.args.tasks.now c.args.bars.now) in
    IfOk-weaker c.to_string.result _ _ (λ s reads. reads shallow ∙ ap (λ (d : Data). Some d) is) c.to_string.ensures.reads_back
