-- The rivals of all effects.
use Rattle.std.proofs.Common.{◌≡◌, ◌⊎◌, ◌<◌, ◌+◌, inl, inr, ℕ, List, [], ◌∷◌, ◌++◌, length, get_or, Option, None, Some, IsTrue, true, refl, sym, ap, ◌∙◌, subst, arith}
use Rattle.std.specs.Prelude.{slice_get}
use Rattle.std.specs.List.{Contains}
use Rattle.std.proofs.lemmas.Bool.{false≢true}
use Rattle.std.proofs.lemmas.List.{length_push}
use Rattle.std.proofs.lemmas.Option.{slice_get_within, slice_get-get_or}
use Rattle.effect_sets.specs.declared.effects.Effect.{Effect}
use Rattle.effect_sets.specs.Interference.{Interferes, statically_interferes}
use Rattle.effect_sets.proofs.Sets.{interferes-exact}
use Rattle.prefix_tree.specs.Nodes.{path_of}
use Rattle.prefix_tree.specs.Prefix.{IsPrefix}
use Rattle.effect_tree.proofs.PlaceLemmas.{place-meeting}
use Rattle.held_span.specs.Gathering.{ArePlaced, AreRivalsFrom, IsPlacedAt}
use Rattle.held_span.specs.Rivals.{AreRivals, EffectList, IsNumberOf, interferes_found, is_rival}
use Rattle.held_span.specs.Tables.{IsListed}
use Rattle.held_span.specs.declared.placed.Placed.{Placed}
use Rattle.held_span.proofs.Longer.{found, get-cases, listed-row, row-listed}
use Rattle.held_span.proofs.Sharing.{interferes-back}

-- the effects up to here have their rivals
pub record HaveRivals (placed : Placed) (count : ℕ) (rivals : List (List ℕ)) : Type 0 where
  pub many : length rivals ≡ count
  pub rows : (a place : ℕ) (effect : Effect) (list : List ℕ) → slice_get rivals a ≡ Some list → IsNumberOf placed.effects a effect
      → IsPlacedAt placed a place → AreRivalsFrom placed effect place list

pub rivals-none : (placed : Placed) → HaveRivals placed 0 []
rivals-none placed = record { many = refl; rows = λ a place effect list is. absurd (cc (is)) }

pub rivals-more : (placed : Placed) (count : ℕ) (rivals more : List (List ℕ)) (list : List ℕ) (effect : Effect) (place : ℕ) → HaveRivals placed count rivals → more ≡ rivals ++ list ∷ [] → IsNumberOf placed.effects count effect → IsPlacedAt placed count place → AreRivalsFrom placed effect place list → HaveRivals placed (count + 1) more
rivals-more placed count rivals more list effect place h grown is at from = record {
  many = ap length grown ∙ (length_push rivals list ∙ ap (λ (n : ℕ). n + 1) h.many);
  rows = λ a spot other others here is_other at_spot. elim (get-cases rivals list a others (subst (λ (ls : List (List ℕ)). slice_get ls a ≡ Some others) grown here)) [
    | inl old ↦ h.rows a spot other others old is_other at_spot
    | inr last ↦
        let last_is : a ≡ count = last.0 ∙ h.many in
        let is_last : slice_get placed.effects count ≡ Some other = subst (λ (n : ℕ). IsNumberOf placed.effects n other) last_is is_other in
        let at_last : slice_get placed.places count ≡ Some spot = subst (λ (n : ℕ). IsPlacedAt placed n spot) last_is at_spot in
        let same : effect ≡ other = cc (is, is_last) in
        let spot_is : place ≡ spot = cc (at, at_last) in
        subst (AreRivalsFrom placed other spot) (sym last.1)
        (subst (λ (n : ℕ). AreRivalsFrom placed other n list) spot_is (subst (λ (e : Effect). AreRivalsFrom placed e place list) same from))
  ];
}

-- the place that is read for an effect
pub at-index : (placed : Placed) → ArePlaced placed → (effects : EffectList) → effects ≡ placed.effects → (places : List ℕ) → places ≡ placed.places → (index count : ℕ) → index < length effects → count ≡ index → IsPlacedAt placed index (get_or places count 0)
at-index placed are effects same_effects places same_places index count below counted =
    let there : index < length placed.places = omega (arith, ap length same_effects, are.places, below) in
    slice_get-get_or placed.places index 0 there
    ∙ ap Some (sym (ap (λ (ps : List ℕ). get_or ps count 0) same_places ∙ ap (λ (n : ℕ). get_or placed.places n 0) counted))

-- the effect that was found
rival-found : (effect : Effect) (other : Option Effect) → IsTrue (interferes_found effect other) → (e : Effect) × (other ≡ Some e) × IsTrue (statically_interferes effect e)
rival-found effect None h = absurd (false≢true h)
rival-found effect (Some e) h = (e, refl, h)

module _ (placed : Placed) (are : ArePlaced placed) (rivals : List (List ℕ)) (have : HaveRivals placed (length placed.effects) rivals) where
  pub rivals-sound : (a b : ℕ) → IsListed rivals a b → AreRivals placed.effects a b
  rivals-sound a b h =
      let r = listed-row rivals a b h in
      let within = slice_get_within rivals a r.0 r.1 in
      let effect = found placed.effects a (omega (arith, within, have.many)) in
      let place = found placed.places a (omega (arith, within, have.many, are.places)) in
      record {
        first = effect.0;
        at_first = effect.1;
        interfere = (have.rows a place.0 effect.0 r.0 r.1 effect.1 place.1).sound b r.2;
      }

  -- what interferes with an effect, and is placed where it is or above, is in its row
  in-row : (a b : ℕ) (x y : Effect) (m n : ℕ) → IsNumberOf placed.effects a x → IsNumberOf placed.effects b y → IsPlacedAt placed a m → IsPlacedAt placed b n → IsTrue (statically_interferes x y) → IsPrefix (path_of placed.shape n) (path_of placed.shape m) → IsListed rivals a b
  in-row a b x y m n is_x is_y at_m at_n static above =
      let within = slice_get_within placed.effects a x is_x in
      let r = found rivals a (omega (arith, within, have.many)) in
      row-listed rivals a b r.0 r.1 ((have.rows a m x r.0 r.1 is_x at_m).complete b n at_n above (ap (interferes_found x) is_y ∙ static))

  pub rivals-complete : (a b : ℕ) → AreRivals placed.effects a b → IsListed rivals a b ⊎ IsListed rivals b a
  rivals-complete a b h =
      let x = h.first in
      let is_x = h.at_first in
      let y = rival-found x (slice_get placed.effects b) h.interfere in
      let m = found placed.places a (let within = slice_get_within placed.effects a x is_x in omega (arith, are.places)) in
      let n = found placed.places b (let within = slice_get_within placed.effects b y.0 y.1 in omega (arith, are.places)) in
      let filled_x = are.filled a x is_x in
      let filled_y = are.filled b y.0 y.1 in
      let forth : Interferes x y.0 = (interferes-exact x y.0 (statically_interferes x y.0) refl filled_x filled_y).0 y.2 in
      let back = (interferes-exact y.0 x (statically_interferes y.0 x) refl filled_y filled_x).1 (interferes-back x y.0 forth) in
      elim (place-meeting placed.shape x.path y.0.path (path_of placed.shape m.0) (path_of placed.shape n.0) (are.placed_at a m.0 x is_x m.1) (are.placed_at b n.0 y.0 y.1 n.1) forth.1) [
        | inl higher ↦ inr (in-row b a y.0 x n.0 m.0 y.1 is_x n.1 m.1 back higher)
        | inr lower ↦ inl (in-row a b x y.0 m.0 n.0 is_x y.1 m.1 n.1 y.2 lower)
      ]
