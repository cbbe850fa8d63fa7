-- Effects that interfere: an effect that interferes with another interferes with each one that covers this other, and the
-- places of two effects that interfere lie above one another.
use Rattle.std.proofs.Common.{◌≡◌, ◌<◌, ℕ, Bool, true, false, IsTrue, ◌||◌, List, [], ◌∷◌, length, slice_index_or, refl, sym, ap, ◌∙◌, zero, suc, arith, ◌⊎◌, inl, inr, ⊎_elim}
use Rattle.std.specs.Prelude.{Contains}
use Rattle.std.proofs.lemmas.Bool.{and_parts}
use Rattle.region_paths.specs.declared.elements.Elem.{Elem}
use Rattle.region_paths.specs.Inside.{inside}
use Rattle.region_paths.specs.Filled.{filled}
use Rattle.region_paths.proofs.Exactness.{inside-exact}
use Rattle.effect_sets.specs.declared.effects.Effect.{Effect}
use Rattle.effect_sets.specs.Filled.{all_filled}
use Rattle.effect_sets.specs.Covers.{effect_covers}
use Rattle.effect_sets.specs.Interference.{Interferes, SomeInterfere}
use Rattle.effect_sets.proofs.Sets.{writes_too}
use Rattle.prefix_tree.specs.Nodes.{path_of, IsTreeOfPaths}
use Rattle.effect_tree.specs.Place.{IsSolid}
use Rattle.effect_tree.proofs.PlaceLemmas.{place-one, place-meeting, place-solid, place-inside}
use Rattle.floor_laws.specs.admission.admission_core.States.{IsAbove, IsPlaceOf}

writes_back : (a b : Bool) → (a || b) ≡ true → (b || a) ≡ true
writes_back true true h = refl
writes_back true false h = refl
writes_back false true h = refl
writes_back false false h = h

writes_more : (a b d : Bool) → (b ≡ true → d ≡ true) → (a || b) ≡ true → (a || d) ≡ true
writes_more true b d more h = refl
writes_more false b d more h = more h

pub mutual_interference : (a b : Effect) → Interferes a b → Interferes b a
mutual_interference a b i = (writes_back a.write b.write i.0, (i.1.0, i.1.2, i.1.1))

filled_at : (es : List Effect) (k : ℕ) (e : Effect) → IsTrue (all_filled es) → k < length es → slice_index_or es k e ≡ e → IsTrue (filled e.path)
filled_at [] k e h below read = absurd (omega arith)
filled_at (x ∷ es) zero e h below read = ap (λ (y : Effect). filled y.path) (sym read) ∙ (and_parts _ _ h).0
filled_at (x ∷ es) (suc k) e h below read = filled_at es k e (and_parts _ _ h).1 (omega arith) read

pub filled_among : (es : List Effect) (e : Effect) → IsTrue (all_filled es) → Contains es e → IsTrue (filled e.path)
filled_among es e h among = filled_at es among.0 e h among.1 among.2

pub covered_more : (x d e : Effect) → IsTrue (filled d.path) → IsTrue (filled e.path) → IsTrue (effect_covers d e) → Interferes x e → Interferes x d
covered_more x d e d_filled e_filled covers i =
    let parts = and_parts (inside e.path d.path) _ covers in
    let within = (inside-exact e.path d.path (inside e.path d.path) refl e_filled d_filled).0 parts.0 in
    (writes_more x.write e.write d.write (writes_too e.write d.write parts.1) i.0, (i.1.0, i.1.1, within i.1.0 i.1.2))

pub some_interfere : (es fs : List Effect) (e f : Effect) → Contains es e → Contains fs f → Interferes e f → SomeInterfere es fs
some_interfere es fs e f first second i = (first.0, e, first.1, first.2, (second.0, f, second.1, second.2, i))

pub some_parts : (es fs : List Effect) → SomeInterfere es fs → (e : Effect) × (f : Effect) × Contains es e × Contains fs f × Interferes e f
some_parts es fs some = (some.1, some.4.1, (some.0, some.2, some.3), (some.4.0, some.4.2, some.4.3), some.4.4)

module _ (nodes : List (List Elem)) (tree : IsTreeOfPaths nodes) where
  pub one_place : (e : Effect) (m n : ℕ) → IsPlaceOf nodes e m → IsPlaceOf nodes e n → m ≡ n
  one_place e m n at_m at_n = tree.once m n at_m.there at_n.there (place-one nodes e.path (path_of nodes m) (path_of nodes n) at_m.place at_n.place)

  pub meeting_places : (e f : Effect) (m n : ℕ) → IsPlaceOf nodes e m → IsPlaceOf nodes f n → Interferes e f → IsAbove nodes m n ⊎ IsAbove nodes n m
  meeting_places e f m n at_m at_n i =
      ⊎_elim
      (λ up. inl (record { upper = at_m.there; lower = at_n.there; prefix = up }))
      (λ down. inr (record { upper = at_n.there; lower = at_m.there; prefix = down }))
      (place-meeting nodes e.path f.path (path_of nodes m) (path_of nodes n) at_m.place at_n.place i.1)

  -- what interferes with a solid effect is placed above it
  pub solid_place : (e f : Effect) (m n : ℕ) → IsSolid e.path → IsPlaceOf nodes e m → IsPlaceOf nodes f n → Interferes e f → IsAbove nodes n m
  solid_place e f m n solid at_m at_n i = record {
    upper = at_n.there;
    lower = at_m.there;
    prefix = place-solid nodes e.path f.path (path_of nodes m) (path_of nodes n) solid at_m.place at_n.place i.1;
  }

  -- what covers an effect is placed above it
  pub covering_place : (e d : Effect) (m n : ℕ) → IsPlaceOf nodes e m → IsPlaceOf nodes d n → IsTrue (effect_covers d e) → IsAbove nodes n m
  covering_place e d m n at_m at_n covers = record {
    upper = at_n.there;
    lower = at_m.there;
    prefix = place-inside nodes e.path d.path (path_of nodes m) (path_of nodes n) at_m.place at_n.place (and_parts (inside e.path d.path) _ covers).0;
  }
