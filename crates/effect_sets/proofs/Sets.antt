-- For filled effects the tests say how the sets of their paths lie.
use Rattle.std.proofs.Common.{◌≡◌, ◌↔◌, ◌<◌, ℕ, Bool, true, false, not, IsTrue, ◌||◌, List, [], ◌∷◌, length, slice_index_or, Any, refl, sym, ap, ◌∙◌, zero, suc, arith}
use Rattle.std.specs.List.{list_any}
use Rattle.std.proofs.lemmas.Bool.{false≢true, and_parts, and_from, not-true, not_from_false}
use Rattle.std.proofs.lemmas.List.Folds.{Any-from_list_any, list_any-from_Any}
use Rattle.region_paths.specs.Apart.{apart}
use Rattle.region_paths.specs.Inside.{inside}
use Rattle.region_paths.specs.Filled.{filled}
use Rattle.region_paths.proofs.Exactness.{meet-exact, inside-exact}
use Rattle.effect_sets.specs.declared.effects.Effect.{Effect}
use Rattle.effect_sets.specs.Filled.{all_filled}
use Rattle.effect_sets.specs.Covers.{EffectWithin, effect_covers}
use Rattle.effect_sets.specs.Interference.{one_writes, statically_interferes, Interferes, SomeInterfere}

pub interferes-exact : (a b : Effect) (answer : Bool) → answer ≡ statically_interferes a b → IsTrue (filled a.path) → IsTrue (filled b.path) → IsTrue answer ↔ Interferes a b
interferes-exact a b answer is a_filled b_filled =
    let meet = meet-exact a.path b.path (apart a.path b.path) refl a_filled b_filled in (
      λ h. let parts = and_parts (one_writes a b) _ (sym is ∙ h) in (parts.0, meet.0 (not-true _ parts.1)),
      λ i. is ∙ and_from (one_writes a b) _ i.0 (not_from_false _ (meet.1 i.1)),
    )

-- an effect of a filled list is filled
filled_at : (es : List Effect) (k : ℕ) (e : Effect) → IsTrue (all_filled es) → k < length es → slice_index_or es k e ≡ e → IsTrue (filled e.path)
filled_at [] k e h below read = absurd (omega arith)
filled_at (x ∷ es) zero e h below read = ap (λ (y : Effect). filled y.path) (sym read) ∙ (and_parts _ _ h).0
filled_at (x ∷ es) (suc k) e h below read = filled_at es k e (and_parts _ _ h).1 (omega arith) read

abbrev with_some : List Effect → Effect → Bool
with_some t a = list_any (λ b. statically_interferes a b) t

with_some-exact : (a : Effect) (t : List Effect) → IsTrue (filled a.path) → IsTrue (all_filled t) → IsTrue (with_some t a) ↔ Any (λ b. Interferes a b) t
with_some-exact a t a_filled t_filled = (
  λ h.
      let found = Any-from_list_any (λ b. statically_interferes a b) t h in
      let b_filled = filled_at t found.0 found.1 t_filled found.2 found.3 in
      (found.0, found.1, found.2, found.3, (interferes-exact a found.1 _ refl a_filled b_filled).0 found.4),
  λ i.
      let b_filled = filled_at t i.0 i.1 t_filled i.2 i.3 in
      list_any-from_Any (λ b. statically_interferes a b) t (i.0, i.1, i.2, i.3, (interferes-exact a i.1 _ refl a_filled b_filled).1 i.4),
)

pub some_interfere-exact : (s t : List Effect) (answer : Bool) → answer ≡ list_any (with_some t) s → IsTrue (all_filled s) → IsTrue (all_filled t) → IsTrue answer ↔ SomeInterfere s t
some_interfere-exact s t answer is s_filled t_filled = (
  λ h.
      let found = Any-from_list_any (with_some t) s (sym is ∙ h) in
      let a_filled = filled_at s found.0 found.1 s_filled found.2 found.3 in
      (found.0, found.1, found.2, found.3, (with_some-exact found.1 t a_filled t_filled).0 found.4),
  λ i.
      let a_filled = filled_at s i.0 i.1 s_filled i.2 i.3 in
      is ∙ list_any-from_Any (with_some t) s (i.0, i.1, i.2, i.3, (with_some-exact i.1 t a_filled t_filled).1 i.4),
)

pub writes_too : (e d : Bool) → (not e || d) ≡ true → e ≡ true → d ≡ true
writes_too true d h w = h
writes_too false d h w = absurd (false≢true w)

writes_if : (e d : Bool) → (e ≡ true → d ≡ true) → (not e || d) ≡ true
writes_if true d h = h refl
writes_if false d h = refl

effect_covers-exact : (d e : Effect) → IsTrue (filled d.path) → IsTrue (filled e.path) → IsTrue (effect_covers d e) ↔ EffectWithin d e
effect_covers-exact d e d_filled e_filled =
    let within = inside-exact e.path d.path (inside e.path d.path) refl e_filled d_filled in (
      λ h. let parts = and_parts (inside e.path d.path) _ h in (writes_too e.write d.write parts.1, within.0 parts.0),
      λ x. and_from (inside e.path d.path) _ (within.1 x.1) (writes_if e.write d.write x.0),
    )

pub covers-exact : (s : List Effect) (e : Effect) (answer : Bool) → answer ≡ list_any (λ d. effect_covers d e) s → IsTrue (all_filled s) → IsTrue (filled e.path) → IsTrue answer ↔ Any (λ d. EffectWithin d e) s
covers-exact s e answer is s_filled e_filled = (
  λ h.
      let found = Any-from_list_any (λ d. effect_covers d e) s (sym is ∙ h) in
      let d_filled = filled_at s found.0 found.1 s_filled found.2 found.3 in
      (found.0, found.1, found.2, found.3, (effect_covers-exact found.1 e d_filled e_filled).0 found.4),
  λ i.
      let d_filled = filled_at s i.0 i.1 s_filled i.2 i.3 in
      is ∙ list_any-from_Any (λ d. effect_covers d e) s (i.0, i.1, i.2, i.3, (effect_covers-exact i.1 e d_filled e_filled).1 i.4),
)
