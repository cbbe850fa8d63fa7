use Rattle.std.proofs.Common.{◌≡◌, ◌++◌, ◌∷◌, [], arith, refl, sym, subst}
use Rattle.name_check.specs.declared.scope.LocalName.{LocalName as Entry}
use Rattle.name_check.specs.inner.Firsts.{AreFirsts}
use Rattle.name_check.proofs.FirstPlaces.{firsts_push}
use Rattle.name_check.proofs.scope.Locals.push.Goals as goal

pub invariant_of-self-2 : goal.invariant_of-self-2
invariant_of-self-2 c =
    let entry : Entry = record { text = c.args.text.now; local = c.args.local } in
    let end : c.push.new.self.items ≡ c.self.inside.entries.items ++ entry ∷ [] = grind arith in
    subst (λ xs. AreFirsts (λ (e : Entry). e.text) xs c.add_first.new.firsts) (sym end)
    (firsts_push (λ (e : Entry). e.text) c.self.inside.entries.items entry c.self.inside.firsts c.add_first.new.firsts c.args.text.now _ refl (grind arith) c.self.invariant (c.in_ok-add_first.ensures.ok))
