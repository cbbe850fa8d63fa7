-- Each mark of a list is that of one of the effects that were numbered.
use Rattle.std.proofs.Common.{◌≡◌, ◌<◌, ◌+◌, ◌++◌, ℕ, List, [], ◌∷◌, length, get_or, map, take, Option, None, Some, inl, inr, refl, sym, ap, ◌∙◌, subst, arith}
use Rattle.std.specs.Prelude.{IsTrue, slice_get}
use Rattle.std.specs.List.{Contains}
use Rattle.std.proofs.lemmas.List.{map-append, take_more}
use Rattle.std.proofs.lemmas.Option.{slice_get-get_or, slice_get_read, slice_get_within}
use Rattle.std.proofs.lemmas.Bool.{false≢true}
use Rattle.twe_base.proofs.Members.{contains-in, flat_map-in, in-contains}
use Rattle.effect_sets.specs.Filled.{all_filled}
use Rattle.effect_sets.specs.declared.effects.Effect.{Effect}
use Rattle.machine_state.specs.declared.state.TaskRow.{TaskRow}
use Rattle.held_span.proofs.Longer.{listed-row}
use Rattle.held_span.specs.Marks.{AreMarksOf, left_by, left_marks, seen_by, seen_marks}
use Rattle.held_span.specs.Rivals.{AreNumbersOf, EffectList, IsNumberOf, interferes_found}
use Rattle.held_span.specs.Tables.{numbers_in}
use Rattle.held_span.specs.declared.marks.EffectMark.{EffectMark}
use Rattle.held_span.specs.declared.marks.EffectMark.TheVariants.{Own, Rival}
use Rattle.held_span.specs.declared.marks.EffectMarks.{EffectMarks}
use Rattle.span_profile.proofs.Lists.{contains_cases, map_contains, zip_first}
use Rattle.held_span.specs.inner.Keys.{effect_of}
use Rattle.held_span.specs.inner.Spanning.{effect_lists}

found_below : (effects : EffectList) (effect : Effect) (number : ℕ) (found : Option Effect) → slice_get effects number ≡ found → IsTrue (interferes_found effect found) → number < length effects
found_below effects effect number None is interfere = absurd (false≢true interfere)
found_below effects effect number (Some other) is interfere = slice_get_within effects number other is

module _ (lists : List EffectList) (marks : EffectMarks) (are : AreMarksOf lists marks) where
  number_below : (t number : ℕ) → Contains (numbers_in marks.lists t) number → number < length marks.rivals
  number_below t number has =
      let row = listed-row marks.lists t number has in
      let list = zip_first (AreNumbersOf are.effects) marks.lists lists t row.0 are.lists_are row.1 in
      let at = slice_get-get_or row.0 row.2.0 number row.2.1 ∙ ap Some row.2.2 in
      let effect = zip_first (IsNumberOf are.effects) row.0 list.0 row.2.0 number list.2 at in
      let below = slice_get_within are.effects number effect.0 effect.2 in
      let many = are.as_many in
      omega (arith, below, many)

  rival_below : (effect number : ℕ) → Contains (numbers_in marks.rivals effect) number → number < length marks.rivals
  rival_below effect number has =
      let rivals = are.sound effect number has in
      let below = found_below are.effects rivals.first number (slice_get are.effects number) refl rivals.interfere in
      let many = are.as_many in
      omega (arith, below, many)

  in_left : (t effect : ℕ) (mark : EffectMark) → Contains (numbers_in marks.lists t) effect → Contains (left_marks marks effect) mark → effect_of mark < length marks.rivals
  in_left t effect mark has left = elim (contains_cases (Own effect) mark (map (λ rival. Rival rival) (numbers_in marks.rivals effect)) left) [
    | inl same ↦ subst (λ (m : EffectMark). effect_of m < length marks.rivals) same (number_below t effect has)
    | inr rest ↦
        let one = map_contains (λ rival. Rival rival) (numbers_in marks.rivals effect) mark rest in
        subst (λ (m : EffectMark). effect_of m < length marks.rivals) one.2 (rival_below effect one.0 one.1)
  ]

  in_seen : (t effect : ℕ) (mark : EffectMark) → Contains (numbers_in marks.lists t) effect → Contains (seen_marks marks effect) mark → effect_of mark < length marks.rivals
  in_seen t effect mark has seen = elim (contains_cases (Rival effect) mark (map (λ rival. Own rival) (numbers_in marks.rivals effect)) seen) [
    | inl same ↦ subst (λ (m : EffectMark). effect_of m < length marks.rivals) same (number_below t effect has)
    | inr rest ↦
        let one = map_contains (λ rival. Own rival) (numbers_in marks.rivals effect) mark rest in
        subst (λ (m : EffectMark). effect_of m < length marks.rivals) one.2 (rival_below effect one.0 one.1)
  ]

  pub left_below : (t : ℕ) (mark : EffectMark) → Contains (left_by marks t) mark → effect_of mark < length marks.rivals
  left_below t mark has =
      let one = flat_map-in (left_marks marks) (numbers_in marks.lists t) mark (contains-in (left_by marks t) mark has) in
      in_left t one.0 mark (in-contains (numbers_in marks.lists t) one.0 one.1) (in-contains (left_marks marks one.0) mark one.2)

  pub seen_below : (t : ℕ) (mark : EffectMark) → Contains (seen_by marks t) mark → effect_of mark < length marks.rivals
  seen_below t mark has =
      let one = flat_map-in (seen_marks marks) (numbers_in marks.lists t) mark (contains-in (seen_by marks t) mark has) in
      in_seen t one.0 mark (in-contains (numbers_in marks.lists t) one.0 one.1) (in-contains (seen_marks marks one.0) mark one.2)

-- the effects of one task more
pub lists_more : (rows : List TaskRow) (i : ℕ) (row : TaskRow) → i < length rows → row ≡ get_or rows i row → effect_lists (take (i + 1) rows) ≡ effect_lists (take i rows) ++ row.effects.effects ∷ []
lists_more rows i row below is =
    ap effect_lists (take_more rows i row below ∙ ap (λ (r : TaskRow). take i rows ++ r ∷ []) (sym is)) ∙ map-append (λ (r : TaskRow). r.effects.effects) (take i rows) (row ∷ [])

-- no effect of a row has a variable
pub filled_there : (rows : List TaskRow) (i : ℕ) (row : TaskRow) (list : EffectList) → ((t : ℕ) (r : TaskRow) → slice_get rows t ≡ Some r → IsTrue (all_filled r.effects.effects))
    → i < length rows → row ≡ get_or rows i row → list ≡ row.effects.effects → IsTrue (all_filled list)
filled_there rows i row list filled below is same =
    subst (λ (l : EffectList). IsTrue (all_filled l)) (sym same) (filled i row (slice_get_read rows (length rows) i row refl below is))
