use Rattle.std.proofs.Common.{refl}
use Rattle.twe_frontend.specs.Accepted.{IsRefusal}
use Rattle.refusal_causes.proofs.explained.misnamed.Goals as goal

-- the tree is that of a text
pub name_cause-requires-clause-countable : goal.name_cause-requires-clause-countable
name_cause-requires-clause-countable c = c.requires.readable.countable

-- the rule fails
pub name_cause-requires-clause-fails : goal.name_cause-requires-clause-fails
name_cause-requires-clause-fails c = c.requires.first.fails

-- it has this cause
pub returns : goal.returns
returns c = (
  IsRefusal.of_names c.args.tree c.args.rule c.args.place c.requires.parsed c.requires.first,
  refl,
  c.requires.parsed,
  c.in_ok-cause.ensures,
)
