-- What is computed of two records decides whether they are the same, and `without` leaves the others.
use Rattle.std.proofs.Common.{◌≡◌, ◌≢◌, Bool, true, false, List, [], ◌∷◌, refl, sym, ap, ◌∙◌, inl, inr, ⊎_elim, if◌then◌else◌}
use Rattle.std.specs.Bool.{Decides}
use Rattle.std.proofs.lemmas.Bool.Decides.{Decides-and, Decides-eqb, Decides-int_eq, Decides-like, not_from_Decides}
use Rattle.region_paths.specs.declared.elements.Elem.{Elem}
use Rattle.region_paths.specs.declared.elements.Elem.TheVariants.{Name, Index, Var, AnyIndex}
use Rattle.region_paths.specs.Written.{WrittenPath}
use Rattle.effect_sets.specs.declared.effects.Effect.{Effect}
use Rattle.floor_laws.specs.admission.admission_core.States.{Record, IsAmong}
use Rattle.floor_laws.specs.rule.nodes.RecordSteps.{IsWithout}
use Rattle.floor_laws.specs.table.nodes.Without.{same_effect, same_elem, same_elems, same_path, same_record, same_truth, without_record}

no_answer : false ≡ true → ⊥
no_answer h = cc

truths_decided : (a b : Bool) → Decides (same_truth a b) (a ≡ b)
truths_decided true true = (λ h. refl, λ h. refl)
truths_decided true false = (λ h. absurd (no_answer h), λ h. absurd (no_answer (sym h)))
truths_decided false true = (λ h. absurd (no_answer h), λ h. absurd (no_answer h))
truths_decided false false = (λ h. refl, λ h. refl)

elems_apart : (a b : Elem) → a ≢ b → Decides false (a ≡ b)
elems_apart a b other = (λ h. absurd (no_answer h), λ same. absurd (other same))

elem_decided : (a b : Elem) → Decides (same_elem a b) (a ≡ b)
elem_decided (Name n) (Name m) = Decides-like _ (λ h. ap Name h) (λ h. cc) (Decides-eqb n m)
elem_decided (Name n) (Index j) = elems_apart (Name n) (Index j) (λ h. cc (h))
elem_decided (Name n) (Var l) = elems_apart (Name n) (Var l) (λ h. cc (h))
elem_decided (Name n) AnyIndex = elems_apart (Name n) AnyIndex (λ h. cc (h))
elem_decided (Index i) (Name m) = elems_apart (Index i) (Name m) (λ h. cc (h))
elem_decided (Index i) (Index j) = Decides-like _ (λ h. ap Index h) (λ h. cc) (Decides-int_eq i j)
elem_decided (Index i) (Var l) = elems_apart (Index i) (Var l) (λ h. cc (h))
elem_decided (Index i) AnyIndex = elems_apart (Index i) AnyIndex (λ h. cc (h))
elem_decided (Var k) (Name m) = elems_apart (Var k) (Name m) (λ h. cc (h))
elem_decided (Var k) (Index j) = elems_apart (Var k) (Index j) (λ h. cc (h))
elem_decided (Var k) (Var l) = Decides-like _ (λ h. ap Var h) (λ h. cc) (Decides-eqb k l)
elem_decided (Var k) AnyIndex = elems_apart (Var k) AnyIndex (λ h. cc (h))
elem_decided AnyIndex (Name m) = elems_apart AnyIndex (Name m) (λ h. cc (h))
elem_decided AnyIndex (Index j) = elems_apart AnyIndex (Index j) (λ h. cc (h))
elem_decided AnyIndex (Var l) = elems_apart AnyIndex (Var l) (λ h. cc (h))
elem_decided AnyIndex AnyIndex = (λ h. refl, λ h. refl)

cons_nil : (a : Elem) (xs : List Elem) → a ∷ xs ≡ [] → ⊥
cons_nil a xs h = cc

heads : (a b : Elem) (xs ys : List Elem) → a ∷ xs ≡ b ∷ ys → a ≡ b
heads a b xs ys h = cc

tails : (a b : Elem) (xs ys : List Elem) → a ∷ xs ≡ b ∷ ys → xs ≡ ys
tails a b xs ys h = cc

elems_decided : (xs ys : List Elem) → Decides (same_elems xs ys) (xs ≡ ys)
elems_decided [] [] = (λ h. refl, λ h. refl)
elems_decided [] (b ∷ ys) = (λ h. absurd (no_answer h), λ h. absurd (cons_nil b ys (sym h)))
elems_decided (a ∷ xs) [] = (λ h. absurd (no_answer h), λ h. absurd (cons_nil a xs h))
elems_decided (a ∷ xs) (b ∷ ys) =
    Decides-like _ (λ both. λ k. both.0 k ∷ both.1 k) (λ h. (heads a b xs ys h, tails a b xs ys h))
    (Decides-and (same_elem a b) (same_elems xs ys) (elem_decided a b) (elems_decided xs ys))

path_decided : (a b : WrittenPath) → Decides (same_path a b) (a ≡ b)
path_decided a b =
    Decides-like _ (λ all. λ k. record { elems = all.0 k; star = all.1.0 k; tail = all.1.1 k })
    (λ h. (ap (λ (x : WrittenPath). x.elems) h, (ap (λ (x : WrittenPath). x.star) h, ap (λ (x : WrittenPath). x.tail) h)))
    (Decides-and (same_elems a.elems b.elems) _ (elems_decided a.elems b.elems)
    (Decides-and (same_truth a.star b.star) (same_elems a.tail b.tail) (truths_decided a.star b.star) (elems_decided a.tail b.tail)))

effect_decided : (a b : Effect) → Decides (same_effect a b) (a ≡ b)
effect_decided a b =
    Decides-like _ (λ both. λ k. record { write = both.0 k; path = both.1 k }) (λ h. (ap (λ (x : Effect). x.write) h, ap (λ (x : Effect). x.path) h))
    (Decides-and (same_truth a.write b.write) (same_path a.path b.path) (truths_decided a.write b.write) (path_decided a.path b.path))

pub record_decided : (r s : Record) → Decides (same_record r s) (r ≡ s)
record_decided r s =
    Decides-like _ (λ all. λ k. record { task = all.0 k; effect = all.1.0 k; node = all.1.1 k })
    (λ h. (ap (λ (x : Record). x.task) h, (ap (λ (x : Record). x.effect) h, ap (λ (x : Record). x.node) h)))
    (Decides-and _ _ (Decides-eqb r.task s.task) (Decides-and (same_effect r.effect s.effect) _ (effect_decided r.effect s.effect) (Decides-eqb r.node s.node)))

-- what is left of a list has all others
pub without_is : (r : Record) (l : List Record) → IsWithout r l (without_record r l)
without_is r [] y = (λ among. absurd among, λ pair. absurd pair.0)
without_is r (x ∷ xs) y = by (without_is r xs y) (same_record x r) refl
  where
    by : (IsAmong y (without_record r xs) → IsAmong y xs × (y ≢ r)) × (IsAmong y xs × (y ≢ r) → IsAmong y (without_record r xs)) → (b : Bool) → same_record x r ≡ b
        → (IsAmong y (if b then without_record r xs else x ∷ without_record r xs) → IsAmong y (x ∷ xs) × (y ≢ r))
        × (IsAmong y (x ∷ xs) × (y ≢ r) → IsAmong y (if b then without_record r xs else x ∷ without_record r xs))
    by rest true is =
        let same : x ≡ r = (record_decided x r).0 is in (
          λ among. let was = rest.0 among in (inr was.0, was.1),
          λ pair. ⊎_elim (λ (first : y ≡ x). absurd (pair.1 (first ∙ same))) (λ (later : IsAmong y xs). rest.1 (later, pair.1)) pair.0,
        )
    by rest false is =
        let other : x ≢ r = not_from_Decides (same_record x r) (record_decided x r) is in (
          λ among.
              ⊎_elim (λ (first : y ≡ x). (inl first, λ same. other (sym first ∙ same)))
              (λ (later : IsAmong y (without_record r xs)). let was = rest.0 later in (inr was.0, was.1)) among,
          λ pair. ⊎_elim (λ (first : y ≡ x). inl first) (λ (later : IsAmong y xs). inr (rest.1 (later, pair.1))) pair.0,
        )
