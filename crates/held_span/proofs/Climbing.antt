-- The climb from a node to the root, which gathers the rivals of an effect.
use Rattle.std.proofs.Common.{◌≡◌, ◌⊎◌, ◌↔◌, ◌<◌, ◌+◌, inl, inr, ℕ, List, [], ◌∷◌, ◌++◌, length, Option, None, Some, IsTrue, true, refl, sym, ap, ◌∙◌, subst, arith}
use Rattle.std.specs.Prelude.{IfSome, IsNone}
use Rattle.std.specs.List.{Contains, filter}
use Rattle.std.proofs.lemmas.List.{length_push}
use Rattle.std.proofs.lemmas.List.Elements.{All-contains, Contains-append_cases, Contains-append_left, Contains-append_right, filter_passes}
use Rattle.region_paths.specs.declared.elements.Elem.{Elem}
use Rattle.effect_sets.specs.declared.effects.Effect.{Effect}
use Rattle.prefix_tree.specs.Nodes.{IsParent, path_of}
use Rattle.prefix_tree.specs.Prefix.{IsPrefix}
use Rattle.prefix_tree.proofs.PrefixLemmas.{IsPrefix-nil, IsPrefix-refl, IsPrefix-snoc}
use Rattle.held_span.specs.Gathering.{ArePlaced, AreRivalsFrom, IsPlacedAt}
use Rattle.held_span.specs.Rivals.{is_rival}
use Rattle.held_span.specs.Tables.{IsListed, numbers_in}
use Rattle.held_span.specs.declared.placed.Placed.{Placed}
use Rattle.held_span.proofs.Longer.{filter-has}

-- the climb has not passed this node
abbrev pub IsAhead : List (List Elem) → Option ℕ → ℕ → Type 0
IsAhead shape at place = (n : ℕ) × (at ≡ Some n) × IsPrefix (path_of shape place) (path_of shape n)

-- the rivals that were passed are found, and the others are ahead
pub record IsClimbed (placed : Placed) (effect : Effect) (node : ℕ) (at : Option ℕ) (rivals : List ℕ) : Type 0 where
  pub there : (n : ℕ) → at ≡ Some n → n < length placed.shape
  pub sound : (number : ℕ) → Contains rivals number → IsTrue (is_rival placed.effects effect number)
  pub complete : (number place : ℕ) → IsPlacedAt placed number place
      → IsPrefix (path_of placed.shape place) (path_of placed.shape node) → IsTrue (is_rival placed.effects effect number)
      → Contains rivals number ⊎ IsAhead placed.shape at place

-- how many nodes the climb still has to pass
abbrev pub steps_left : List (List Elem) → Option ℕ → ℕ
steps_left shape None = 0
steps_left shape (Some n) = length (path_of shape n) + 1

pub climbs : (shape : List (List Elem)) (n : ℕ) (above : Option ℕ) → IfSome above (λ m. IsParent shape m n) → steps_left shape above < length (path_of shape n) + 1
climbs shape n None h = omega arith
climbs shape n (Some m) h = omega (arith, ap length h.2.1 ∙ length_push (path_of shape m) h.2.0)

module _ (placed : Placed) (are : ArePlaced placed) (effect : Effect) (node : ℕ) where
  pub climb-begins : node < length placed.shape → IsClimbed placed effect node (Some node) []
  climb-begins there = record {
    there = λ n is. let same : node ≡ n = cc (is) in subst (λ (m : ℕ). m < length placed.shape) same there;
    sound = λ number c. absurd (omega (arith, c.1));
    complete = λ number place at above rival. inr (node, refl, above);
  }

  -- a node at or above this one is this one, or ahead of its parent
  climb-one : (n : ℕ) → n < length placed.shape → (above : Option ℕ) → IfSome above (λ m. IsParent placed.shape m n) → (IsNone above ↔ (n ≡ 0)) → (place : ℕ) → place < length placed.shape → IsPrefix (path_of placed.shape place) (path_of placed.shape n) → (place ≡ n) ⊎ IsAhead placed.shape above place
  climb-one n there None is root place below prefix =
      let empty : path_of placed.shape n ≡ [] = ap (path_of placed.shape) (root.0 refl) ∙ are.tree.root in
      let none = IsPrefix-nil (path_of placed.shape place) (subst (λ (path : List Elem). IsPrefix (path_of placed.shape place) path) empty prefix) in
      inl (are.tree.once place n below there (none ∙ sym empty))
  climb-one n there (Some m) is root place below prefix =
      let split = IsPrefix-snoc (path_of placed.shape place) (path_of placed.shape m) is.2.0 in
      elim (split.0 (subst (λ (path : List Elem). IsPrefix (path_of placed.shape place) path) is.2.1 prefix)) [
        | inl higher ↦ inr (m, refl, higher)
        | inr same ↦ inl (are.tree.once place n below there (same ∙ sym is.2.1))
      ]

  pub climb-goes : (n : ℕ) (at above : Option ℕ) (rivals more : List ℕ) → IsClimbed placed effect node at rivals → at ≡ Some n → IfSome above (λ m. IsParent placed.shape m n) → (IsNone above ↔ (n ≡ 0)) → more ≡ rivals ++ filter (is_rival placed.effects effect) (numbers_in placed.at_nodes n) → IsClimbed placed effect node above more
  climb-goes n at above rivals more h is parent root grown =
      let added = filter (is_rival placed.effects effect) (numbers_in placed.at_nodes n) in
      let there = h.there n is in
      record {
        there = λ m next. (subst (λ (o : Option ℕ). IfSome o (λ m. IsParent placed.shape m n)) next parent).0;
        sound = λ number c. elim (Contains-append_cases rivals added number (subst (λ (l : List ℕ). Contains l number) grown c)) [
          | inl old ↦ h.sound number old
          | inr new ↦ All-contains (λ x. is_rival placed.effects effect x ≡ true) added number (filter_passes (is_rival placed.effects effect) (numbers_in placed.at_nodes n)) new
        ];
        complete = λ number place at_place prefix rival. elim (h.complete number place at_place prefix rival) [
          | inl old ↦ inl (subst (λ (l : List ℕ). Contains l number) (sym grown) (Contains-append_left rivals added number old))
          | inr ahead ↦
              let same : ahead.0 ≡ n = cc (ahead.1, is) in
              let here = subst (λ (k : ℕ). IsPrefix (path_of placed.shape place) (path_of placed.shape k)) same ahead.2 in
              elim (climb-one n there above parent root place (are.there number place at_place) here) [
                | inl now ↦
                    let listed = subst (λ (k : ℕ). IsListed placed.at_nodes k number) now (are.listed number place at_place) in
                    inl (subst (λ (l : List ℕ). Contains l number) (sym grown)
                    (Contains-append_right rivals added number (filter-has (is_rival placed.effects effect) (numbers_in placed.at_nodes n) number listed rival)))
                | inr later ↦ inr later
              ]
        ];
      }

  pub climb-ends : (at : Option ℕ) (rivals : List ℕ) → at ≡ None → IsClimbed placed effect node at rivals → AreRivalsFrom placed effect node rivals
  climb-ends at rivals over h = record {
    sound = h.sound;
    complete = λ number place at_place prefix rival. elim (h.complete number place at_place prefix rival) [
      | inl has ↦ has
      | inr ahead ↦ absurd (cc (over, ahead.1))
    ];
  }
