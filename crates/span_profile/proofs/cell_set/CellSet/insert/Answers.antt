use Rattle.std.proofs.Common.{◌≡◌, ◌<◌, ◌++◌, ℕ, Bool, true, false, List, [], ◌∷◌, Some, length, length-set, get_or, sym, ap, ◌∙◌, arith}
use Rattle.std.specs.Prelude.{slice_get}
use Rattle.std.proofs.lemmas.Option.{slice_get-get_or}
use Rattle.span_profile.specs.inner.Sets.{NumberSet, has_found, is_in}
use Rattle.span_profile.proofs.NumberSets.{added_set, inserted, same_set, there_already}
use Rattle.span_profile.proofs.cell_set.CellSet.insert.Goals as goal

pub invariant_of-self : goal.invariant_of-self
invariant_of-self c =
    let has = c.self.inside.has in
    let size = ap (λ (s : NumberSet). s.size) c.self.view_is in
    let below : c.args.cell < length has = omega (arith, c.requires, size) in
    let none : slice_get has c.args.cell ≡ Some false =
    slice_get-get_or has c.args.cell false below ∙ ap Some (ap (λ (l : List Bool). get_or l c.args.cell false) (sym c.as_slice.ensures) ∙ c.if-not-as_slice-at.true) in
    same_set _ _ _ _ _ _ c.set.ensures c.push_reserved.ensures.items c.push_reserved.ensures.capacity (added_set has c.self.inside.cells.items _ c.args.cell c.self.invariant none below)

pub returns-then-not-as_slice-at : goal.returns-then-not-as_slice-at
returns-then-not-as_slice-at c =
    let has = c.self.inside.has in
    let size = ap (λ (s : NumberSet). s.size) c.self.view_is in
    let items = ap (λ (s : NumberSet). s.items) c.self.view_is in
    let below : c.args.cell < length has = omega (arith, c.requires, size) in
    let none = ap has_found (slice_get-get_or has c.args.cell false below) ∙ (ap (λ (l : List Bool). get_or l c.args.cell false) (sym c.as_slice.ensures) ∙ c.if-not-as_slice-at.true) in
    inserted c.args.self.now c.args.cell (ap (λ (l : List ℕ). is_in l c.args.cell) (sym items) ∙ (sym (c.self.invariant.listed c.args.cell) ∙ none)) (length c.set.new.self) c.push_reserved.new.self.items
    (ap (λ (l : List Bool). length l) c.set.ensures ∙ (length-set has c.args.cell true ∙ size))
    (c.push_reserved.ensures.items ∙ ap (λ (l : List ℕ). l ++ c.args.cell ∷ []) items)

pub returns-else-not-as_slice-at : goal.returns-else-not-as_slice-at
returns-else-not-as_slice-at c =
    let has = c.self.inside.has in
    let size = ap (λ (s : NumberSet). s.size) c.self.view_is in
    let items = ap (λ (s : NumberSet). s.items) c.self.view_is in
    let below : c.args.cell < length has = omega (arith, c.requires, size) in
    let found = ap has_found (slice_get-get_or has c.args.cell false below) ∙ (ap (λ (l : List Bool). get_or l c.args.cell false) (sym c.as_slice.ensures) ∙ c.if-not-as_slice-at.false) in
    there_already c.args.self.now c.args.cell (ap (λ (l : List ℕ). is_in l c.args.cell) (sym items) ∙ (sym (c.self.invariant.listed c.args.cell) ∙ found))
