use Rattle.std.proofs.Common.{◌≡◌, ◌≤◌, false, Some, map, ap, ◌∙◌, sym, subst}
use Rattle.std.proofs.lemmas.Result.{IfOk-weaker}
use Rattle.serde_json.specs.Data.{Data, depth}
use Rattle.serde_json.specs.Read.{max_depth}
use Rattle.serde_json.specs.View.{view}
use Rattle.serde_json.specs.Written.{compact_text, has_float}
use Rattle.twe_explore.specs.Json.{explored_data}
use Rattle.twe_explore.proofs.Plain.{explored_is_plain, explored_is_shallow}
use Rattle.twe_explore.proofs.json.explored_json.Goals as goal

-- the data has no number with a point, so its text is known
pub returns-clause-text : goal.returns-clause-text
returns-clause-text c =
    let results = map view c.args.values.items in
    let is : view c.in_ok-explored.explored ≡ explored_data c.args.whole results c.args.states = c.in_ok-explored.ensures in
    let plain : has_float (view c.in_ok-explored.explored) ≡ false =
    ap has_float is ∙ explored_is_plain c.args.whole results c.args.states c.requires.plain in
    IfOk-weaker c.to_string.result _ _ (λ s text. text plain ∙ ap compact_text is) c.to_string.ensures.text

-- and it nests little, so it reads back
pub returns-clause-read : goal.returns-clause-read
returns-clause-read c =
    let results = map view c.args.values.items in
    let is : view c.in_ok-explored.explored ≡ explored_data c.args.whole results c.args.states = c.in_ok-explored.ensures in
    let shallow : depth (view c.in_ok-explored.explored) ≤ max_depth =
    subst (λ (d : Data). depth d ≤ max_depth) (sym is) (explored_is_shallow c.args.whole results c.args.states c.requires.shallow) in
    IfOk-weaker c.to_string.result _ _ (λ s reads. reads shallow ∙ ap (λ (d : Data). Some d) is) c.to_string.ensures.reads_back
