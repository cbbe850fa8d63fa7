-- What the books say of the tasks that are looked at.
use Rattle.std.proofs.Common.{◌≢◌, ◌⊎◌, ◌≤◌, ◌+◌, inl, inr, ℕ, List, sym, ◌∙◌, subst, arith}
use Rattle.std.proofs.lemmas.Bool.{cases_eq}
use Rattle.seg_journal.specs.declared.moves.Kind.{Kind}
use Rattle.seg_journal.specs.declared.moves.Kind.TheVariants.{Admit, Run}
use Rattle.machine_state.proofs.links.LinksAgree.{status_of}
use Rattle.twe_machine.specs.declared.enabled_tasks.EnabledTasks.{EnabledTasks}
use Rattle.machine_state.specs.declared.state.State.{State}
use Rattle.machine_state.specs.declared.state.TaskStatus.TheVariants.{Made, Enabled}
use Rattle.machine_state.specs.Legal.{IsBar, MayRun, MayTake}
use Rattle.twe_machine.specs.Listings.{IsListing}
use Rattle.machine_state.specs.Rows.{HasStatus}
use Rattle.flat_sched.specs.inner.Books.{HeldMore, IsBehind, IsHeldBack, IsUnder, Keeps, KeepsBy, KeepsFrom, Looked, Released}
use Rattle.flat_sched.specs.inner.Groups.{IsMember}
use Rattle.flat_sched.specs.inner.Lists.{IsListed, IsReady, IsReadyFrom}
use Rattle.flat_sched.specs.declared.books.Books.{Books}
use Rattle.flat_sched.proofs.Alike.{groups_back}

-- a task with a legal move is to be looked at, or a lower one is
pub ready_of : (Looks : ℕ → Type 0) (st : State) (b : Books) → KeepsBy Looks st b → (kind : Kind) (t : ℕ) → MayTake st kind t → (u : ℕ) × (u ≤ t) × Looks u
ready_of Looks st b keeps Admit t may =
    elim (keeps.made t may.0) [
      | inl look ↦ (t, omega arith, look)
      | inr other ↦ elim other [
        | inl held ↦ let bar = held.bar in absurd (bar.3 (may.1 held.holder bar.0 bar.1 bar.2))
        | inr behind ↦ let below = behind.below in (behind.lower, omega arith, behind.looks)
      ]
    ]
ready_of Looks st b keeps Run t may = (t, omega arith, keeps.runs t may)

-- a bar was admitted
bar_not_made : (st : State) (s t : ℕ) → IsBar st s t → ¬ HasStatus st s Made
bar_not_made st s t bar made = let enabled = bar.1 in let one = status_of st s made.0 Enabled enabled made.1 in cc (one, made.2)

-- the tasks from 0 on are all tasks
pub keeps_all : (st : State) (b : Books) → Keeps st b → KeepsFrom 0 st b
keeps_all st b keeps = record {
  runs = λ u run. (omega arith, keeps.runs u run);
  made = λ u made. elim (keeps.made u made) [
    | inl look ↦ inl (omega arith, look)
    | inr other ↦ elim other [
      | inl held ↦ inr (inl held)
      | inr behind ↦ inr (inr (record {
        lower = behind.lower;
        made = behind.made;
        looks = (omega arith, behind.looks);
        below = behind.below;
        both = behind.both;
        member = behind.member;
      }))
    ]
  ];
  waits = keeps.waits;
  groups = keeps.groups;
  listing = keeps.listing;
}

pub keeps_some : (from : ℕ) (st : State) (b : Books) → KeepsFrom from st b → Keeps st b
keeps_some from st b keeps = record {
  runs = λ u run. (keeps.runs u run).1;
  made = λ u made. elim (keeps.made u made) [
    | inl look ↦ inl look.1
    | inr other ↦ elim other [
      | inl held ↦ inr (inl held)
      | inr behind ↦ inr (inr (record {
        lower = behind.lower;
        made = behind.made;
        looks = behind.looks.1;
        below = behind.below;
        both = behind.both;
        member = behind.member;
      }))
    ]
  ];
  waits = keeps.waits;
  groups = keeps.groups;
  listing = keeps.listing;
}

-- those below the number need not be looked at
pub keeps_dropped : (from : ℕ) (st : State) (b : Books) (ready : List ℕ) → KeepsFrom from st b
    → ((u : ℕ) → IsReadyFrom from b.ready u → IsReadyFrom from ready u) → KeepsFrom from st (record b { ready = ready })
keeps_dropped from st b ready keeps kept = record {
  runs = λ u run. kept u (keeps.runs u run);
  made = λ u made. elim (keeps.made u made) [
    | inl look ↦ inl (kept u look)
    | inr other ↦ elim other [
      | inl held ↦ inr (inl (record { holder = held.holder; bar = held.bar; under = held.under }))
      | inr behind ↦ inr (inr (record {
        lower = behind.lower;
        made = behind.made;
        looks = kept behind.lower behind.looks;
        below = behind.below;
        both = behind.both;
        member = behind.member;
      }))
    ]
  ];
  waits = keeps.waits;
  groups = keeps.groups;
  listing = keeps.listing;
}

module _ (from : ℕ) (st : State) (b after : Books) (t : ℕ) (looked : Looked st t b after) (least : (u : ℕ) → IsReadyFrom from b.ready u → t ≤ u) where
  looks_on : (u : ℕ) → u ≢ t → IsReadyFrom from b.ready u → IsReadyFrom (t + 1) after.ready u
  looks_on u ne h = let low = least u h in (omega arith, looked.ready u h.1)

  under_on : (u x : ℕ) → (u ≢ t) ⊎ ¬ HasStatus st t Made → IsUnder b u x → IsUnder after u x
  under_on u x away (inl listed) = inl (looked.held u x listed)
  under_on u x away (inr member) = inr (looked.members u x away member)

  held_on : (u : ℕ) → IsHeldBack st b u → IsHeldBack st after u
  held_on u h =
      let away : (h.holder ≢ t) ⊎ ¬ HasStatus st t Made =
      elim (cases_eq h.holder t) [
        | inl is ↦ inr (λ made. bar_not_made st h.holder u h.bar (subst (λ (n : ℕ). HasStatus st n Made) (sym is) made))
        | inr ne ↦ inl ne
      ] in
      record { holder = h.holder; bar = h.bar; under = under_on h.holder u away h.under }

  behind_on : (u : ℕ) → IsBehind (IsReadyFrom from b.ready) st b u
      → IsReadyFrom (t + 1) after.ready u ⊎ (IsHeldBack st after u ⊎ IsBehind (IsReadyFrom (t + 1) after.ready) st after u)
  behind_on u h =
      let below = h.below in
      elim (cases_eq h.lower t) [
        | inl is ↦
            inl (omega arith, looked.behind u (subst (λ (n : ℕ). HasStatus st n Made) is h.made) (subst (λ (n : ℕ). IsMember b.groups n u) is h.member))
        | inr ne ↦ inr (inr (record {
          lower = h.lower;
          made = h.made;
          looks = looks_on h.lower ne h.looks;
          below = below;
          both = h.both;
          member = looked.members h.lower u (inl ne) h.member;
        }))
      ]

  -- a task without a legal move that was looked at need not be looked at again
  pub keeps_past : KeepsFrom from st b → KeepsFrom (t + 1) st after
  keeps_past keeps = record {
    runs = λ u run. elim (cases_eq u t) [
      | inl is ↦ absurd (looked.still Run (subst (λ (n : ℕ). MayRun st n) is run))
      | inr ne ↦ looks_on u ne (keeps.runs u run)
    ];
    made = λ u made. elim (cases_eq u t) [
      | inl is ↦ inr (inl (subst (λ (n : ℕ). IsHeldBack st after n) (sym is) (looked.held_back (subst (λ (n : ℕ). HasStatus st n Made) is made))))
      | inr ne ↦ elim (keeps.made u made) [
        | inl look ↦ inl (looks_on u ne look)
        | inr other ↦ elim other [ inl held ↦ inr (inl (held_on u held)) | inr behind ↦ behind_on u behind ]
      ]
    ];
    waits = λ s u wait. subst (λ (lists : List (List ℕ)). IsListed lists u s) (sym looked.waiters) (keeps.waits s u wait);
    groups = looked.groups keeps.groups;
    listing = subst (λ (e : EnabledTasks). IsListing st e) (sym looked.enabled) keeps.listing;
  }

-- a task with a bar may not be admitted, and one that was made may not run
pub barred : (st : State) (s t : ℕ) → HasStatus st t Made → IsBar st s t → (kind : Kind) → ¬ MayTake st kind t
barred st s t made bar Admit may = bar.3 (may.1 s bar.0 bar.1 bar.2)
barred st s t made bar Run may = let one = status_of st t made.0 Enabled may.0 made.1 in cc (one, made.2)

-- if t is held by a bar and its group is released, it was looked at
pub looked_held : (st : State) (s t : ℕ) (b mid after : Books) → HasStatus st t Made → IsBar st s t → IsUnder mid s t → HeldMore st b mid → Released t mid after → Looked st t b after
looked_held st s t b mid after made bar under more released = record {
  still = barred st s t made bar;
  held_back = λ has. record { holder = s; bar = bar; under = under_after s t bar.0 under };
  ready = λ x h. released.ready x (subst (λ (ready : List ℕ). IsReady ready x) (sym more.ready) h);
  held = λ u x h. subst (λ (lists : List (List ℕ)). IsListed lists u x) (sym released.held) (more.held u x h);
  members = λ u x away h. elim away [ inl ne ↦ released.members u x ne (more.members u x h) | inr other ↦ absurd (other made) ];
  behind = λ x has h. released.woken x (more.members t x h);
  groups = λ are. groups_back st mid.groups after.groups more.groups released.back;
  waiters = released.waiters ∙ more.waiters;
  enabled = released.enabled ∙ more.enabled;
} where
  under_after : (u x : ℕ) → u ≢ t → IsUnder mid u x → IsUnder after u x
  under_after u x ne (inl listed) = inl (subst (λ (lists : List (List ℕ)). IsListed lists u x) (sym released.held) listed)
  under_after u x ne (inr member) = inr (released.members u x ne member)
