use Rattle.refusal_causes.proofs.explained.explain_tree.Goals as goal

-- the tree was parsed from a text
pub resolve-requires : goal.resolve-requires
resolve-requires c =
    let parsed = c.requires.parsed in
    c.parsed_trees_are_from_texts.ensures c.args.text.now parsed.tokens c.args.tree c.requires.countable parsed.cut parsed.writes parsed.keeps

pub unresolved-requires-clause-readable : goal.unresolved-requires-clause-readable
unresolved-requires-clause-readable c =
    let parsed = c.requires.parsed in
    c.parsed_trees_are_from_texts.ensures c.args.text.now parsed.tokens c.args.tree c.requires.countable parsed.cut parsed.writes parsed.keeps

-- no rule of names fails
pub explain_program-requires-clause-meant : goal.explain_program-requires-clause-meant
explain_program-requires-clause-meant c = record {
  tree = c.args.tree;
  parsed = c.requires.parsed;
  keeps = c.in-Ok.ensures.accepted;
  meaning = c.in-Ok.ensures.meant;
}
