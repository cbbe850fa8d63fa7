use Rattle.std.proofs.Common.{subst}
use Rattle.twe_names.specs.Resolves.{ResolveHasCause}
use Rattle.twe_names.specs.declared.fail.NameFail.{NameFail}
use Rattle.twe_frontend.specs.meaning.Meaning.{of_names}
use Rattle.twe_frontend.proofs.meaning.read.read_meaning.Goals as goal

-- the tree was parsed from a text
pub resolve-requires : goal.resolve-requires
resolve-requires c =
    let parsed = c.in_ok-tree.ensures.tree in
    c.parsed_trees_are_from_texts.ensures c.args.text.now parsed.tokens c.in_ok-tree.tree c.in_ok-tree.ensures.countable parsed.cut parsed.writes parsed.keeps

-- the resolver's refusal
pub returns-in-Err-Names-clause-refused : goal.returns-in-Err-Names-clause-refused
returns-in-Err-Names-clause-refused c =
    of_names c.in_ok-tree.tree c.in-Err-Names.rule c.in-Err-Names.place c.in_ok-tree.ensures.tree
    (subst (λ (fail : NameFail). ResolveHasCause c.in_ok-tree.tree fail) c.in-Err-Names.field-0-is c.in-Err-Names.ensures.refused)
