use Rattle.std.proofs.Common.{List, reverse, ap, subst, sym, ◌∙◌}
use Rattle.floor_laws.specs.admission.admission_core.States.{IsAmong, Record}
use Rattle.floor_laws.specs.rule.nodes.Fitting.{IsDistinct}
use Rattle.floor_laws.specs.table.nodes.Without.{without_record}
use Rattle.floor_laws.proofs.table.nodes.Contents.{among_reversed, distinct_without, without_reversed}
use Rattle.floor_laws.proofs.table.nodes.content.NodeContent.remove.Goals as goal

pub invariant_of-self : goal.invariant_of-self
invariant_of-self c =
    let r : Record = record { task = c.args.task; effect = c.args.effect.now; node = c.args.node } in
    subst IsDistinct (sym c.remove_record.ensures.rest) (distinct_without r c.self.inside.records.items c.self.invariant)

pub returns-clause-found : goal.returns-clause-found
returns-clause-found c =
    let r : Record = record { task = c.args.task; effect = c.args.effect.now; node = c.args.node } in
    let both = among_reversed r c.self.inside.records.items in (
      λ is. subst (IsAmong r) c.self.view_is (both.0 (c.remove_record.ensures.found.0 is)),
      λ among. c.remove_record.ensures.found.1 (both.1 (subst (IsAmong r) (sym c.self.view_is) among)),
    )

pub returns-clause-rest : goal.returns-clause-rest
returns-clause-rest c =
    let r : Record = record { task = c.args.task; effect = c.args.effect.now; node = c.args.node } in
    ap (λ (l : List Record). reverse l) c.remove_record.ensures.rest ∙ (without_reversed r c.self.inside.records.items ∙ ap (without_record r) c.self.view_is)
