use Rattle.std.proofs.Common.{◌≡◌, ◌≤◌, false, List, sym, subst}
use Rattle.serde_json.specs.Data.{Data, items_depth}
use Rattle.serde_json.specs.View.{items_of}
use Rattle.serde_json.specs.Written.{items_have_float}
use Rattle.twe_explore.proofs.Plain.{results_are_plain, results_nest}
use Rattle.twe_explore.proofs.json.json_line.Goals as goal

pub explored_json-requires-clause-plain : goal.explored_json-requires-clause-plain
explored_json-requires-clause-plain c =
    subst (λ (ds : List Data). items_have_float (items_of ds) ≡ false) (sym c.in_ok-values.ensures)
    (results_are_plain c.args.lim c.args.runs.now c.args.answers.now)

pub explored_json-requires-clause-shallow : goal.explored_json-requires-clause-shallow
explored_json-requires-clause-shallow c =
    subst (λ (ds : List Data). items_depth (items_of ds) ≤ 1) (sym c.in_ok-values.ensures)
    (results_nest c.args.lim c.args.runs.now c.args.answers.now)
