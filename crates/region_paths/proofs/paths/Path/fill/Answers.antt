-- The filled path is `fill` of the one before, so it has no variable where each has an argument without one.
use Rattle.std.proofs.Common.{◌≡◌, map, ap, ◌∙◌, rules}
use Rattle.std.proofs.lemmas.Bool.{and_parts, and_from}
use Rattle.region_paths.specs.Written.{WrittenPath}
use Rattle.region_paths.specs.Filled.{fill_elem, no_var, fill}
use Rattle.region_paths.proofs.Filling.{no_var-fill, fill-filled}
use Rattle.region_paths.proofs.paths.Path.fill.Goals as goal

pub returns-clause-complete : goal.returns-clause-complete
returns-clause-complete c = λ below plain.
    let args = c.args.args.now in
    let elems : c.from.result ≡ map (fill_elem args) c.args.self.now.elems = search rules in
    let tail : c.from-2.result ≡ map (fill_elem args) c.args.self.now.tail = search rules in
    let parts = and_parts _ _ below in
    and_from _ _ (ap no_var elems ∙ no_var-fill args c.args.self.now.elems parts.0 plain) (ap no_var tail ∙ no_var-fill args c.args.self.now.tail parts.1 plain)

pub returns-clause-kept : goal.returns-clause-kept
returns-clause-kept c = λ plain.
    let path : WrittenPath = record { elems = c.from.result; star = c.self.inside.star; tail = c.from-2.result } in
    let exact : path ≡ fill c.args.args.now c.args.self.now = search rules in
    exact ∙ fill-filled c.args.args.now c.args.self.now plain
