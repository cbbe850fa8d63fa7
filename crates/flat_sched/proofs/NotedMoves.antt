-- What the books say after a move was noted.
use Rattle.std.proofs.Common.{◌≡◌, ◌≢◌, ◌⊎◌, ◌<◌, ◌≤◌, ◌+◌, inl, inr, ℕ, List, length, Option, None, sym, ap, ◌∙◌, subst, arith}
use Rattle.std.proofs.lemmas.Bool.{cases_eq, cases_lt, false≢true}
use Rattle.std.proofs.lemmas.List.{get_or_past}
use Rattle.seg_journal.specs.declared.moves.Move.{Move}
use Rattle.wait_graph.specs.declared.tasks.Link.{Link}
use Rattle.wait_graph.specs.Link.{link_of, new_link}
use Rattle.wait_graph.specs.Waiting.{IsDone, WaitsFor}
use Rattle.twe_machine.specs.declared.enabled_tasks.EnabledTasks.{EnabledTasks}
use Rattle.machine_state.specs.declared.state.State.{State}
use Rattle.flat_sched.specs.inner.Books.{Freed, Grown, IsEndOf, Noted, Woken}
use Rattle.flat_sched.specs.inner.Groups.{AreGroups, IsMember}
use Rattle.flat_sched.specs.inner.Lists.{IsListed, IsReady}
use Rattle.flat_sched.specs.declared.books.Books.{Books}
use Rattle.flat_sched.specs.declared.groups.Group.{Group}

-- who waits is there
pub waiter_there : (links : List Link) (s u : ℕ) → WaitsFor links s u → s < length links
waiter_there links s u wait =
    elim (cases_lt s (length links)) [
      | inl below ↦ below
      | inr past ↦
          let none : (link_of links s).waits ≡ None = ap (λ (l : Link). l.waits) (get_or_past links s (new_link None) past) in
          let some = wait.waits in
          absurd (cc (none, some))
    ]

-- who is waited for is another task than one that is done
undone_or_other : (st : State) (t u s : ℕ) → WaitsFor st.links s u → (u ≢ t) ⊎ ¬ IsDone st.links t
undone_or_other st t u s wait =
    elim (cases_eq u t) [
      | inl is ↦ inr (λ done. false≢true (sym wait.undone ∙ subst (λ (n : ℕ). IsDone st.links n) (sym is) done))
      | inr ne ↦ inl ne
    ]

-- One step and then another: once the list of the enabled tasks is up to date, the new task is entered, and then what the mover
-- has done is noted.
pub noted_then : (st : State) (mv : Move) (before : ℕ) (b mid after : Books) (enabled : EnabledTasks) → length st.links ≡ length st.tasks → length st.tasks ≤ before + 1
    → Grown (record b { enabled = enabled }) mid → (before < length st.tasks → IsReady mid.ready before)
    → ((u : ℕ) → before < length st.tasks → WaitsFor st.links before u → IsListed mid.waiters u before)
    → Noted st mv (length st.tasks) mid after → Noted st mv before b after
noted_then st mv before b mid after enabled linked one grown ready waits noted = record {
  ready = λ x h. noted.ready x (grown.ready x h);
  waiters = λ u x ne h. noted.waiters u x ne (grown.waiters u x h);
  held = λ u x ne h. noted.held u x ne (grown.held u x h);
  woken = λ x done h. noted.woken x done (grown.waiters mv.task x h);
  freed = λ x over h. noted.freed x over (grown.held mv.task x h);
  members = λ u x ne h. noted.members u x ne (subst (λ (groups : List (Option Group)). IsMember groups u x) (sym grown.groups) h);
  passed = λ are x over h made.
      noted.passed (subst (λ (groups : List (Option Group)). AreGroups st groups) (sym grown.groups) are) x over
      (subst (λ (groups : List (Option Group)). IsMember groups mv.task x) (sym grown.groups) h) made;
  groups = λ are. noted.groups (subst (λ (groups : List (Option Group)). AreGroups st groups) (sym grown.groups) are);
  waiting = noted.waiting;
  end = noted.end;
  is_end = noted.is_end;
  new_ready = λ c new below.
      let is : before ≡ c = omega arith in
      let low : before < length st.tasks = omega arith in
      noted.ready c (subst (λ (n : ℕ). IsReady mid.ready n) is (ready low));
  new_waits = λ c u new wait.
      let below = waiter_there st.links c u wait in
      let is : before ≡ c = omega arith in
      let low : before < length st.tasks = omega arith in
      let own = subst (λ (n : ℕ). WaitsFor st.links n u) (sym is) wait in
      subst (λ (n : ℕ). IsListed after.waiters u n) is (noted.waiters u before (undone_or_other st mv.task u before own) (waits u low own));
}

-- what has become of the mover: it waits, was admitted, is done, or is no longer enabled
pub noted_mover : (st : State) (mv : Move) (b waited woken after : Books) → length st.links ≡ length st.tasks
    → Grown b waited → ((u : ℕ) → WaitsFor st.links mv.task u → IsListed waited.waiters u mv.task) → ((e : ℕ) × IsEndOf st mv.task waited e)
    → Woken st mv.task waited woken → Freed st mv.task woken after → Noted st mv (length st.tasks) b after
noted_mover st mv b waited woken after linked one waits end wakes frees =
    let t = mv.task in
    let ready : (x : ℕ) → IsReady waited.ready x → IsReady after.ready x = λ x h. frees.ready x (wakes.ready x h) in
    let to_waiters : (u x : ℕ) → (u ≢ t) ⊎ ¬ IsDone st.links t → IsListed waited.waiters u x → IsListed after.waiters u x =
    λ u x ne h. subst (λ (lists : List (List ℕ)). IsListed lists u x) (sym frees.waiters) (wakes.waiters u x ne h) in
    let to_held : (u x : ℕ) → IsListed b.held u x → IsListed woken.held u x =
    λ u x h. subst (λ (lists : List (List ℕ)). IsListed lists u x) (sym wakes.held) (one.held u x h) in
    let same : woken.groups ≡ b.groups = wakes.groups ∙ one.groups in
    record {
      ready = λ x h. ready x (one.ready x h);
      waiters = λ u x ne h. to_waiters u x ne (one.waiters u x h);
      held = λ u x ne h. frees.held u x ne (to_held u x h);
      woken = λ x done h. frees.ready x (wakes.woken x done (one.waiters t x h));
      freed = λ x over h. frees.freed x over (to_held t x h);
      members = λ u x ne h. frees.members u x ne (subst (λ (groups : List (Option Group)). IsMember groups u x) (sym same) h);
      passed = λ are x over h made.
          frees.passed (subst (λ (groups : List (Option Group)). AreGroups st groups) (sym same) are) x over
          (subst (λ (groups : List (Option Group)). IsMember groups t x) (sym same) h) made;
      groups = λ are. frees.groups (subst (λ (groups : List (Option Group)). AreGroups st groups) (sym same) are);
      waiting = λ u undone wait. to_waiters u t (inr undone) (waits u wait);
      end = end.0;
      is_end = record {
        chain = end.1.chain;
        last = end.1.last;
        ready = elim end.1.ready [ inl look ↦ inl (ready end.0 look) | inr own ↦ inr own ];
      };
      new_ready = λ c new below. absurd (omega arith);
      new_waits = λ c u new wait. absurd (let below = waiter_there st.links c u wait in omega arith);
    }
