use Rattle.std.proofs.Common.{refl}
use Rattle.floor_laws.proofs.rule.laws.segments_may_make_their_accesses.Goals as goal

pub returns : goal.returns
returns c p f i t turn ready cells access has may own makes =
    record { turn = turn; has = has; ready = ready; may = may; made = record { cells = cells; made = access; makes = makes; same = refl }; own = own }
