use Rattle.std.proofs.Common.{◌≡◌, None, Some, arith, sym, ◌∙◌}
use Rattle.std.specs.List.{position}
use Rattle.std.specs.Str.{bytes_eq}
use Rattle.name_check.specs.declared.names.GlobalName.{GlobalName as Entry}
use Rattle.name_check.proofs.FirstPlaces.{place_below, first_global_none, first_global_some}
use Rattle.name_check.proofs.names.Globals.global.Goals as goal

pub index-requires : goal.index-requires
index-requires c =
    let at : position (λ (e : Entry). bytes_eq c.args.text.now e.text) c.self.inside.entries.items ≡ Some c.in-Some.place
    = sym (c.self.invariant c.args.text.now) ∙ (sym c.index_of_first.ensures ∙ c.in-Some.is) in
    let below = place_below (λ (e : Entry). bytes_eq c.args.text.now e.text) c.self.inside.entries.items c.in-Some.place at in
    omega arith

pub returns-in-None : goal.returns-in-None
returns-in-None c =
    let at : position (λ (e : Entry). bytes_eq c.args.text.now e.text) c.self.inside.entries.items ≡ None
    = sym (c.self.invariant c.args.text.now) ∙ (sym c.index_of_first.ensures ∙ c.in-None.is) in
    let found = first_global_none c.args.text.now c.self.inside.entries.items at in
    grind (arith, found)

pub returns-in-Some : goal.returns-in-Some
returns-in-Some c =
    let at : position (λ (e : Entry). bytes_eq c.args.text.now e.text) c.self.inside.entries.items ≡ Some c.in-Some.place
    = sym (c.self.invariant c.args.text.now) ∙ (sym c.index_of_first.ensures ∙ c.in-Some.is) in
    let found = first_global_some c.args.text.now c.self.inside.entries.items c.in-Some.place c.index.result.now at (sym c.index.ensures) in
    grind (arith, found)
