-- What a seat does with the slots of tasks, on a table of the floor and on one with nodes.
use Rattle.std.proofs.Common.{◌≡◌, ◌<◌, ◌≤◌, ℕ, zero, suc, List, [], ◌∷◌, length, map, Option, refl, sym, ap, subst, ◌∙◌, arith, length-set}
use Rattle.std.specs.Prelude.{slice_set, take}
use mathlib.Core.Option as core
use mathlib.Core.Option.{some-injective, some-ne-none}
use lib.ListN.{get_elem?}
use Rattle.atomic_table.specs.Table.{Act, Valid, carried_after, chain, gives, homes_after, keeps, takes}
use Rattle.floor_laws.specs.declared.rule.view.TaskSlot.{TaskSlot}
use Rattle.floor_laws.proofs.table.Elements.{at_else}
use Rattle.floor_laws.specs.declared.table.nodes.slot.TreeSlot.{TreeSlot}
use Rattle.floor_laws.specs.declared.table.nodes.slot.TreeSlot.TheVariants as kinds
use Rattle.floor_laws.specs.table.nodes.FloorSeats.{HasTaskSlots, as_slot, tasks_out}
use Rattle.floor_laws.specs.table.nodes.TreeOf.{task_home}
use Rattle.floor_laws.proofs.table.nodes.Elements.{map_put}

abbrev pub lift : Act (Option TaskSlot) → Act TreeSlot
lift keeps = keeps
lift (takes k y) = takes k (kinds.Task y)
lift gives = gives
lift (chain a b) = chain (lift a) (lift b)

-- the slots are those of the first n tasks
abbrev pub AreBelow : ℕ → List (ℕ × Option TaskSlot) → Type 0
AreBelow n [] = Unit {0}
AreBelow n (x ∷ xs) = (x.0 < n) × AreBelow n xs

abbrev pub floor_homes : ℕ → List (core.Option TreeSlot) → List (core.Option (Option TaskSlot))
floor_homes n hs = map task_home (take n hs)

pub take_put : {A : Type 0} (l : List A) (n i : ℕ) (x : A) → take n (slice_set l i x) ≡ slice_set (take n l) i x
take_put [] zero i x = refl
take_put [] (suc n) i x = refl
take_put (y ∷ l) zero zero x = refl
take_put (y ∷ l) zero (suc i) x = refl
take_put (y ∷ l) (suc n) zero x = refl
take_put {A} (y ∷ l) (suc n) (suc i) x = ap (λ (t : List A). y ∷ t) (take_put l n i x)

homes_put : (n k : ℕ) (hs : List (core.Option TreeSlot)) (y : core.Option TreeSlot) → floor_homes n (slice_set hs k y) ≡ slice_set (floor_homes n hs) k (task_home y)
homes_put n k hs y = ap (map task_home) (take_put hs n k y) ∙ map_put task_home (take n hs) k y

task_is : (home : core.Option TreeSlot) (y : Option TaskSlot) → task_home home ≡ core.some y → home ≡ core.some (kinds.Task y)
task_is core.none y is = absurd (some-ne-none y (sym is))
task_is (core.some (kinds.Task x)) y is = ap (λ (z : Option TaskSlot). core.some (kinds.Task z)) (some-injective x y is)
task_is (core.some (kinds.Node records)) y is = absurd (some-ne-none y (sym is))
task_is (core.some (kinds.Errand errand)) y is = absurd (some-ne-none y (sym is))

task_there : (n k : ℕ) (hs : List (core.Option TreeSlot)) (y : Option TaskSlot) → get_elem? (floor_homes n hs) k ≡ core.some (core.some y) → (k < n) × (get_elem? hs k ≡ core.some (core.some (kinds.Task y)))
task_there zero k hs y is = absurd (some-ne-none (core.some y) (sym is))
task_there (suc n) k [] y is = absurd (some-ne-none (core.some y) (sym is))
task_there (suc n) zero (h ∷ hs) y is = (omega arith, ap core.some (task_is h y (some-injective (task_home h) (core.some y) is)))
task_there (suc n) (suc k) (h ∷ hs) y is = let rest = task_there n k hs y is in let low = rest.0 in (omega (arith, low), rest.1)

-- what a lifted act does
pub record IsLifted (n : ℕ) (a : Act (Option TaskSlot)) (hs : List (core.Option TreeSlot)) (c : List (ℕ × Option TaskSlot)) : Type 0 where
  pub valid : Valid hs (map as_slot c) (lift a)
  pub homes : floor_homes n (homes_after hs (map as_slot c) (lift a)) ≡ homes_after (floor_homes n hs) c a
  pub carried : carried_after (map as_slot c) (lift a) ≡ map as_slot (carried_after c a)
  pub below : AreBelow n (carried_after c a)
  pub stay : (k : ℕ) → n ≤ k → get_elem? (homes_after hs (map as_slot c) (lift a)) k ≡ get_elem? hs k
  pub size : length (homes_after hs (map as_slot c) (lift a)) ≡ length hs

chained : (n : ℕ) (a b : Act (Option TaskSlot)) (hs : List (core.Option TreeSlot)) (c : List (ℕ × Option TaskSlot)) → (one : IsLifted n a hs c)
    → (IsLifted n a hs c → IsLifted n b (homes_after hs (map as_slot c) (lift a)) (carried_after c a)) → IsLifted n (chain a b) hs c
chained n a b hs c one next =
    let two = next one in
    let then_homes : List (core.Option TreeSlot) = homes_after hs (map as_slot c) (lift a) in
    record {
      valid = (one.valid, subst (λ (l : List (ℕ × TreeSlot)). Valid then_homes l (lift b)) (sym one.carried) two.valid);
      homes = ap (λ (l : List (ℕ × TreeSlot)). floor_homes n (homes_after then_homes l (lift b))) one.carried
          ∙ (two.homes ∙ ap (λ (l : List (core.Option (Option TaskSlot))). homes_after l (carried_after c a) b) one.homes);
      carried = ap (λ (l : List (ℕ × TreeSlot)). carried_after l (lift b)) one.carried ∙ two.carried;
      below = two.below;
      stay = λ k past. ap (λ (l : List (ℕ × TreeSlot)). get_elem? (homes_after then_homes l (lift b)) k) one.carried ∙ (two.stay k past ∙ one.stay k past);
      size = ap (λ (l : List (ℕ × TreeSlot)). length (homes_after then_homes l (lift b))) one.carried ∙ (two.size ∙ one.size);
    }

pub lifted : (n : ℕ) (a : Act (Option TaskSlot)) (hs : List (core.Option TreeSlot)) (c : List (ℕ × Option TaskSlot)) → AreBelow n c → Valid (floor_homes n hs) c a → IsLifted n a hs c
lifted n keeps hs c below valid = record { valid = tt; homes = refl; carried = refl; below = below; stay = λ k past. refl; size = refl }
lifted n (takes k y) hs c below valid =
    let there = task_there n k hs y valid in
    let low = there.0 in
    record {
      valid = there.1;
      homes = homes_put n k hs core.none;
      carried = refl;
      below = (there.0, below);
      stay = λ j past. at_else hs k j core.none (λ same. omega (arith, same, low, past));
      size = length-set hs k core.none;
    }
lifted n gives hs [] below valid = record { valid = tt; homes = refl; carried = refl; below = tt; stay = λ k past. refl; size = refl }
lifted n gives hs (x ∷ c) below valid =
    let low = below.0 in
    record {
      valid = tt;
      homes = homes_put n x.0 hs (core.some (kinds.Task x.1));
      carried = refl;
      below = below.1;
      stay = λ j past. at_else hs x.0 j (core.some (kinds.Task x.1)) (λ same. omega (arith, same, low, past));
      size = length-set hs x.0 (core.some (kinds.Task x.1));
    }
lifted n (chain a b) hs c below valid =
    chained n a b hs c (lifted n a hs c below valid.0)
    (λ one.
    lifted n b (homes_after hs (map as_slot c) (lift a)) (carried_after c a) one.below
    (subst (λ (l : List (core.Option (Option TaskSlot))). Valid l (carried_after c a) b) (sym one.homes) valid.1))

-- slots of tasks alone
pub out_again : (n : ℕ) (mine : List (ℕ × TreeSlot)) → HasTaskSlots n mine → mine ≡ map as_slot (tasks_out mine)
out_again n [] has = refl
out_again n ((k, kinds.Task y) ∷ mine) has = ap (λ (l : List (ℕ × TreeSlot)). (k, kinds.Task y) ∷ l) (out_again n mine has.1)
out_again n ((k, kinds.Node records) ∷ mine) has = absurd has
out_again n ((k, kinds.Errand errand) ∷ mine) has = absurd has

pub out_below : (n : ℕ) (mine : List (ℕ × TreeSlot)) → HasTaskSlots n mine → AreBelow n (tasks_out mine)
out_below n [] has = tt
out_below n ((k, kinds.Task y) ∷ mine) has = (has.0, out_below n mine has.1)
out_below n ((k, kinds.Node records) ∷ mine) has = absurd has
out_below n ((k, kinds.Errand errand) ∷ mine) has = absurd has
