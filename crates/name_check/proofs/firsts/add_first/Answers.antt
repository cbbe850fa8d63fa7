use Rattle.std.proofs.Common.{◌≡◌, ℕ, List, None, Some, string_bytes, arith, subst}
use Rattle.std.specs.Str.{bytes_eq}
use Rattle.std.specs.Map.{update}
use Rattle.std.specs.BTreeMap.{get_by_text}
use Rattle.std.proofs.lemmas.Map.Text.{btree_map_updates_text}
use Rattle.name_check.proofs.FirstPlaces.{updated_adds}
use Rattle.name_check.proofs.firsts.add_first.Goals as goal

pub returns-clause-ok : goal.returns-clause-ok
returns-clause-ok c =
    let sets = btree_map_updates_text (string_bytes c.into_string-key.result) c.args.firsts.now c.insert.new.self _ c.in_ok-insert.ensures.updates in
    let same : string_bytes c.into_string-key.result ≡ c.args.text.now = grind arith in
    let none : get_by_text c.args.firsts.now c.args.text.now ≡ None = grind arith in
    updated_adds c.args.text.now c.args.place c.args.firsts.now c.insert.new.self none (subst (λ t. (q : List ℕ) → get_by_text c.insert.new.self q ≡ update bytes_eq (get_by_text c.args.firsts.now) t (Some c.args.place) q) same sets)
