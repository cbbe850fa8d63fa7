use Rattle.std.proofs.Common.{◌≡◌, List, None, Some, sym, ◌∙◌, subst}
use Rattle.std.specs.List.{position}
use Rattle.std.specs.Str.{bytes_eq}
use Rattle.name_check.specs.declared.names.GlobalName.{GlobalName as Entry}
use Rattle.name_check.proofs.FirstPlaces.{any_before_some, any_before_none}
use Rattle.name_check.proofs.names.Globals.stands_among_first.Goals as goal

pub returns-in-Some : goal.returns-in-Some
returns-in-Some c =
    let at : position (λ (e : Entry). bytes_eq c.args.text.now e.text) c.args.self.now ≡ Some c.in-Some.place
    = subst (λ (xs : List Entry). position (λ (e : Entry). bytes_eq c.args.text.now e.text) xs ≡ Some c.in-Some.place) c.self.view_is (sym (c.self.invariant c.args.text.now) ∙ (sym c.index_of_first.ensures ∙ c.in-Some.is)) in
    any_before_some (λ (e : Entry). bytes_eq c.args.text.now e.text) c.args.self.now c.args.count c.in-Some.place c.requires at

pub returns-in-None : goal.returns-in-None
returns-in-None c =
    let at : position (λ (e : Entry). bytes_eq c.args.text.now e.text) c.args.self.now ≡ None
    = subst (λ (xs : List Entry). position (λ (e : Entry). bytes_eq c.args.text.now e.text) xs ≡ None) c.self.view_is (sym (c.self.invariant c.args.text.now) ∙ (sym c.index_of_first.ensures ∙ c.in-None.is)) in
    any_before_none (λ (e : Entry). bytes_eq c.args.text.now e.text) c.args.self.now c.args.count c.requires at
