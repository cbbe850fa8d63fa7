use Rattle.std.proofs.lemmas.Nat.{one_shl}
use Rattle.effect_check.proofs.marks.one_bit.Goals as goal

pub returns : goal.returns
returns c = one_shl c.args.bit 128 c.requires
