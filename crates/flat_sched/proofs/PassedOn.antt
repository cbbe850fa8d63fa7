-- A group that is released or passed on, and what the books say then.
use Rattle.std.proofs.Common.{◌≡◌, ◌⊎◌, ◌<◌, inl, inr, ℕ, List, Option, refl, sym, subst}
use Rattle.std.proofs.lemmas.Bool.{cases_eq}
use Rattle.machine_state.specs.declared.state.State.{State}
use Rattle.machine_state.specs.declared.state.TaskStatus.TheVariants.{Made}
use Rattle.machine_state.specs.Rows.{HasStatus}
use Rattle.flat_sched.specs.declared.books.Books.{Books}
use Rattle.flat_sched.specs.declared.groups.Group.{Group}
use Rattle.flat_sched.specs.inner.Books.{Passed, Released}
use Rattle.flat_sched.specs.inner.Groups.{AreKept, HasGroup, IsMember, OthersAreKept}
use Rattle.flat_sched.specs.inner.Lists.{IsReady}
use Rattle.flat_sched.proofs.Alike.{alike_fewer, both_write, groups_back, groups_put, member_of, members_kept}

-- those of a group are woken, or there is no group
pub released_group : (u : ℕ) (b : Books) (taken : List (Option Group)) (ready : List ℕ) (g : Group) → HasGroup b.groups u g → OthersAreKept u b.groups taken
    → AreKept taken b.groups → ((x : ℕ) → IsReady g.members x → IsReady ready x) → ((x : ℕ) → IsReady b.ready x → IsReady ready x)
    → Released u b (record b { groups = taken; ready = ready })
released_group u b taken ready g has kept back woken more = record {
  ready = more;
  woken = λ x h. woken x (member_of b.groups u x g has h);
  members = λ v x ne h. members_kept b.groups taken u kept v x ne h;
  back = back;
  held = refl;
  waiters = refl;
  enabled = refl;
}

module _ (st : State) (t : ℕ) (b : Books) (taken : List (Option Group)) (g : Group) (has : HasGroup b.groups t g) (kept : OthersAreKept t b.groups taken) (back : AreKept taken b.groups) where
  -- no task of the group waits for its admission
  pub passed_empty : ((x : ℕ) → HasStatus st x Made → ¬ IsReady g.members x) → Passed st t b (record b { groups = taken })
  passed_empty none = record {
    ready = λ x h. h;
    members = λ u x ne h. inl (members_kept b.groups taken t kept u x ne h);
    passed = λ are x h made. absurd (none x made (member_of b.groups t x g has h));
    groups = λ are. groups_back st b.groups taken are back;
    held = refl;
    waiters = refl;
    enabled = refl;
  }

  -- The lowest task of the group that waits for its admission becomes ready, its own group is released, and it gets this one.
  module _ (heir : ℕ) (members : List ℕ) (made : HasStatus st heir Made) (there : IsReady g.members heir)
      (lower : (u : ℕ) → HasStatus st u Made → IsReady g.members u → (u ≡ heir) ⊎ (heir < u))
      (rest : (u : ℕ) → HasStatus st u Made → IsReady g.members u → (u ≡ heir) ⊎ IsReady members u)
      (fewer : (u : ℕ) → IsReady members u → IsReady g.members u)
      (ready : List ℕ) (added : IsReady ready heir) (more : (x : ℕ) → IsReady b.ready x → IsReady ready x)
      (mid : Books) (released : Released heir (record b { groups = taken; ready = ready }) mid)
      (groups : List (Option Group)) (put : HasGroup groups heir (record g { members = members }))
      (others : OthersAreKept heir mid.groups groups) (from : OthersAreKept heir groups mid.groups) where
    looked : IsReady mid.ready heir
    looked = released.ready heir added

    pub passed_on : Passed st t b (record mid { groups = groups })
    passed_on = record {
      ready = λ x h. released.ready x (more x h);
      members = λ u x ne h.
          let still = members_kept b.groups taken t kept u x ne h in
          elim (cases_eq u heir) [
            | inl is ↦ inr (released.woken x (subst (λ (n : ℕ). IsMember taken n x) is still))
            | inr away ↦ inl (members_kept mid.groups groups heir others u x away (released.members u x away still))
          ];
      passed = λ are x h has_made.
          let alike = are t g has in
          let inside = member_of b.groups t x g has h in
          elim (rest x has_made inside) [
            | inl is ↦ inl (subst (λ (n : ℕ). IsReady mid.ready n) (sym is) looked)
            | inr stays ↦ elim (lower x has_made inside) [
              | inl is ↦ inl (subst (λ (n : ℕ). IsReady mid.ready n) (sym is) looked)
              | inr above ↦ inr (record {
                lower = heir;
                made = made;
                looks = looked;
                below = above;
                both = both_write st heir x alike.path (alike.members heir there) (alike.members x inside);
                member = (record g { members = members }, put, stays);
              })
            ]
          ];
      groups = λ are.
          groups_put st mid.groups groups heir (record g { members = members })
          (groups_back st b.groups mid.groups are (λ u k h. back u k (released.back u k h)))
          (alike_fewer st g members (are t g has) fewer) put from;
      held = released.held;
      waiters = released.waiters;
      enabled = released.enabled;
    }
