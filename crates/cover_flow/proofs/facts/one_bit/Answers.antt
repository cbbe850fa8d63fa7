use Rattle.std.proofs.lemmas.Nat.{one_shl}
use Rattle.cover_flow.proofs.facts.one_bit.Goals as goal

pub returns : goal.returns
returns c = one_shl c.args.bit 128 c.requires
