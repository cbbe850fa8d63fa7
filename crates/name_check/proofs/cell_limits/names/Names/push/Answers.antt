-- The map has the new name under the number that was the count of the others.
use Rattle.std.proofs.Common.{◌≡◌, ◌++◌, ◌∷◌, [], string_bytes, arith}
use Rattle.std.proofs.lemmas.Map.Text.{btree_map_updates_text}
use Rattle.name_check.proofs.cell_limits.NumberingLemmas.{numbering_push}
use Rattle.name_check.proofs.cell_limits.names.Names.push.Goals as goal

pub invariant_of-self-2 : goal.invariant_of-self-2
invariant_of-self-2 c =
    let sets = btree_map_updates_text (string_bytes c.into_string-key.result) c.self.inside.numbers c.insert.new.self _ c.in_ok-insert.ensures.updates in
    let end : c.push.new.self.items ≡ c.self.inside.words.items ++ c.args.name.now ∷ [] = grind arith in
    let same : string_bytes c.into_string-key.result ≡ c.args.name.now = grind arith in
    numbering_push c.self.inside.numbers c.insert.new.self c.self.inside.words.items _ c.args.name.now _ _ end same (grind arith) (rw c.self.view_is c.requires) c.self.invariant sets
