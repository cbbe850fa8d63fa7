use Rattle.std.proofs.Common.{◌+◌, ◌<◌, ◌^◌, length, sym, subst, arith}
use Rattle.twe_program.specs.WellFormed.{IsWellFormed}
use Rattle.run_theorem.proofs.accepted.accepted_programs_are_well_formed.Goals as goal

-- the program is what the tree of the text means
pub returns-clause-well_formed : goal.returns-clause-well_formed
returns-clause-well_formed c text p short accepted =
    let meant = accepted.meant in
    let parsed = meant.parsed in
    let few : length text + 1 < 2 ^ 32 = omega (arith, short) in
    let tree = c.parsed_trees_are_from_texts.ensures text parsed.tokens meant.tree few parsed.cut parsed.writes parsed.keeps in
    subst IsWellFormed (sym meant.meaning) (c.meaning_is_well_formed.ensures meant.tree tree meant.keeps)

pub returns-clause-keeps : goal.returns-clause-keeps
returns-clause-keeps c text p accepted = accepted.keeps
