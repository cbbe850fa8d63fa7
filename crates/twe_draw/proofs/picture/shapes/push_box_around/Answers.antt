use Rattle.std.proofs.lemmas.Result.{on_ok_weaker}
use Rattle.twe_draw.proofs.picture.Boxes.{around_in_parts}
use Rattle.twe_draw.proofs.picture.shapes.push_box_around.Goals as goal

pub returns : goal.returns
returns c =
    on_ok_weaker c.push_all-4.result
    (λ closes. around_in_parts c.args.class.now c.args.inside.now c.args.text.now c.push_all.new.self
    c.push_box_attributes.new.text
    c.push_all-2.new.self c.push_all-3.new.self c.push_all-4.new.self c.args.left c.args.top c.args.width
    c.in_ok-push_all.ensures.ok c.in_ok-push_box_attributes.ensures c.in_ok-push_all-2.ensures.ok
    c.in_ok-push_all-3.ensures.ok closes)
    c.push_all-4.ensures.ok
