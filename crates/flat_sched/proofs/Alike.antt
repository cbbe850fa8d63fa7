-- Tasks that write one concrete path interfere, and groups of them stay so.
use Rattle.std.proofs.Common.{◌≡◌, ◌≢◌, ◌⊎◌, ◌||◌, inl, inr, ℕ, Bool, true, List, Option, Any, sym, ap, subst}
use Rattle.std.specs.Prelude.{slice_get}
use Rattle.std.proofs.lemmas.Bool.{cases_eq}
use Rattle.region_paths.specs.Concrete.{ConcretePath}
use Rattle.effect_sets.specs.declared.effects.Effect.{Effect}
use Rattle.effect_sets.specs.Covers.{EffectWithin}
use Rattle.effect_sets.specs.Interference.{Interferes}
use Rattle.machine_state.specs.declared.state.State.{State}
use Rattle.machine_state.specs.declared.state.TaskRow.{TaskRow}
use Rattle.machine_state.specs.Legal.{Interfere}
use Rattle.machine_state.specs.Rows.{IsRow}
use Rattle.machine_state.proofs.lists.Places.{got_one}
use Rattle.flat_sched.specs.declared.groups.Group.{Group}
use Rattle.flat_sched.specs.inner.Groups.{AreAlike, AreGroups, HasGroup, IsKey, IsMember, MayWriteAt, WritesPath}
use Rattle.flat_sched.specs.inner.Lists.{IsReady}

or_left : (a b : Bool) → a ≡ true → (a || b) ≡ true
or_left a b e = ap (λ (x : Bool). x || b) e

both_interfere : (d e : Effect) (c : ConcretePath) → WritesPath c d → WritesPath c e → Interferes d e
both_interfere d e c a b = (or_left d.write e.write a.0, (c, a.1, b.1))

pub both_write : (st : State) (s t : ℕ) (c : ConcretePath) → MayWriteAt st s c → MayWriteAt st t c → Interfere st s t
both_write st s t c a b =
    let one = a.2 in
    let other = b.2 in
    (a.0, b.0, a.1, b.1, (one.0, one.1, one.2, one.3, (other.0, other.1, other.2, other.3, both_interfere one.1 other.1 c one.4 other.4)))

-- effects that cover the key write its path
pub covered_write : (st : State) (t : ℕ) (row : TaskRow) (key : Effect) (c : ConcretePath) → IsRow st t row → IsKey c key
    → Any (λ d. EffectWithin d key) row.effects.effects → MayWriteAt st t c
covered_write st t row key c here is h = (row, here, (h.0, h.1, h.2, h.3, (h.4.0 is.1.0, h.4.1 c is.1.1)))

-- one task more in a group, and fewer
pub alike_more : (st : State) (g : Group) (members : List ℕ) (t : ℕ) (a : AreAlike st g) → MayWriteAt st t a.path
    → ((x : ℕ) → IsReady members x → IsReady g.members x ⊎ (x ≡ t)) → AreAlike st (record g { members = members })
alike_more st g members t a writes back = record {
  path = a.path;
  key = a.key;
  members = λ x h. elim (back x h) [ inl was ↦ a.members x was | inr is ↦ subst (λ (n : ℕ). MayWriteAt st n a.path) (sym is) writes ];
}

pub alike_fewer : (st : State) (g : Group) (members : List ℕ) → AreAlike st g → ((x : ℕ) → IsReady members x → IsReady g.members x)
    → AreAlike st (record g { members = members })
alike_fewer st g members a back = record { path = a.path; key = a.key; members = λ x h. a.members x (back x h) }

-- there is one group of a task
pub one_group : (groups : List (Option Group)) (u : ℕ) (g h : Group) → HasGroup groups u g → HasGroup groups u h → g ≡ h
one_group groups u g h a b = let both = got_one (slice_get groups u) a b in cc (both)

pub member_of : (groups : List (Option Group)) (u x : ℕ) (g : Group) → HasGroup groups u g → IsMember groups u x → IsReady g.members x
member_of groups u x g here h = subst (λ (k : Group). IsReady k.members x) (one_group groups u h.0 g h.1 here) h.2

-- if groups are put elsewhere, those of others stay
pub members_kept : (old new : List (Option Group)) (at : ℕ) → ((u : ℕ) (g : Group) → u ≢ at → HasGroup old u g → HasGroup new u g)
    → (u x : ℕ) → u ≢ at → IsMember old u x → IsMember new u x
members_kept old new at kept u x ne h = (h.0, kept u h.0 ne h.1, h.2)

-- the groups that were there are those of alike tasks, and so is one that is put at a place
pub groups_put : (st : State) (old new : List (Option Group)) (at : ℕ) (g : Group) → AreGroups st old → AreAlike st g → HasGroup new at g
    → ((u : ℕ) (k : Group) → u ≢ at → HasGroup new u k → HasGroup old u k) → AreGroups st new
groups_put st old new at g are alike there back u k has =
    elim (cases_eq u at) [
      | inl is ↦ subst (λ (x : Group). AreAlike st x) (one_group new at g k there (subst (λ (n : ℕ). HasGroup new n k) is has)) alike
      | inr ne ↦ are u k (back u k ne has)
    ]

pub groups_back : (st : State) (old new : List (Option Group)) → AreGroups st old → ((u : ℕ) (k : Group) → HasGroup new u k → HasGroup old u k) → AreGroups st new
groups_back st old new are back u k has = are u k (back u k has)
