use Rattle.std.proofs.Common.{◌≡◌, ℕ, List, None, Some, arith, subst}
use Rattle.std.specs.Str.{bytes_eq}
use Rattle.std.specs.Map.{update}
use Rattle.std.specs.BTreeMap.{get_by_text}
use Rattle.std.proofs.lemmas.Map.Text.{btree_map_updates_text}
use Rattle.name_check.proofs.FirstPlaces.{updated_drops}
use Rattle.name_check.proofs.firsts.drop_first.Goals as goal

pub returns-then-eq : goal.returns-then-eq
returns-then-eq c =
    let sets = btree_map_updates_text c.as_str.result.now c.args.firsts.now c.remove.new.self _ c.remove.ensures.updates in
    let same : c.as_str.result.now ≡ c.args.text.now = c.as_str.ensures in
    let some : get_by_text c.args.firsts.now c.args.text.now ≡ Some c.args.place = grind arith in
    updated_drops c.args.text.now c.args.place c.args.firsts.now c.remove.new.self some (subst (λ t. (q : List ℕ) → get_by_text c.remove.new.self q ≡ update bytes_eq (get_by_text c.args.firsts.now) t None q) same sets)
