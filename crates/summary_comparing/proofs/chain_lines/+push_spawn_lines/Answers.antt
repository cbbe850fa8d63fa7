use Rattle.std.proofs.Common.{◌≡◌, ◌∷◌}
use Rattle.std.proofs.lemmas.Result.{on_ok_weaker}
use Rattle.summary_comparing.proofs.SpawnLines.{spawn-more}
use Rattle.summary_comparing.proofs.chain_lines.+push_spawn_lines.Goals as goal

-- one line, and the others
pub returns : goal.returns
returns t c =
    let effects : c.args.effects.now ≡ c.in-Some.effect.now ∷ c.in-Some.others.now = c.in-Some.ensures.cases.0 in
    let places : c.args.places.now ≡ c.in-Some-split_first.place.now ∷ c.in-Some-split_first.rest.now = c.in-Some-split_first.ensures.cases.0 in
    on_ok_weaker c.push_spawn_lines.result
    (λ is. spawn-more c.args.regions.now c.args.params.now c.args.effects.now c.in-Some.others.now c.in-Some.effect.now
    c.args.places.now c.in-Some-split_first.rest.now c.in-Some-split_first.place.now c.args.text.now c.push_spawn_line.new.text
    c.push_spawn_lines.new.text effects places c.in_ok-push_spawn_line.ensures is)
    c.push_spawn_lines.ensures
