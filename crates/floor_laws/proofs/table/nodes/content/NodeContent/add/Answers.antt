use Rattle.std.proofs.Common.{subst}
use Rattle.floor_laws.specs.admission.admission_core.States.{IsAmong}
use Rattle.floor_laws.proofs.table.nodes.Contents.{among_reversed, distinct_last}
use Rattle.floor_laws.proofs.table.nodes.content.NodeContent.add.Goals as goal

pub invariant_of-self-2 : goal.invariant_of-self-2
invariant_of-self-2 c =
    rw c.in_ok-push.ensures.items
    (distinct_last _ _ c.self.invariant
    (λ among. c.requires (subst (IsAmong c.args.added) c.self.view_is ((among_reversed c.args.added c.self.inside.records.items).0 among))))
