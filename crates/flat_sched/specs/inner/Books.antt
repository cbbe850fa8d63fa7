-- What the books of a run say of its state.
use Rattle.std.specs.Prelude.{◌≡◌, ◌≢◌, ◌⊎◌, ◌<◌, ◌≤◌, ℕ, length}
use Rattle.wait_graph.specs.Waiting.{IsDone, WaitsFor, WaitsForNobody, WaitsOn}
use Rattle.seg_journal.specs.declared.moves.Kind.{Kind}
use Rattle.seg_journal.specs.declared.moves.Move.{Move}
use Rattle.machine_state.specs.declared.state.State.{State}
use Rattle.machine_state.specs.declared.state.TaskStatus.TheVariants.{Made, Enabled}
use Rattle.machine_state.specs.Legal.{Interfere, IsBar, MayRun, MayTake}
use Rattle.twe_machine.specs.Listings.{IsListing}
use Rattle.machine_state.specs.Rows.{HasStatus}
use Rattle.flat_sched.specs.declared.books.Books.{Books}
use Rattle.flat_sched.specs.inner.Groups.{AreGroups, AreKept, IsMember}
use Rattle.flat_sched.specs.inner.Lists.{IsListed, IsReady, IsReadyFrom}

-- t is on the list of u, or in its group
abbrev pub IsUnder : Books → ℕ → ℕ → Type 0
IsUnder b u t = IsListed b.held u t ⊎ IsMember b.groups u t

-- a bar to t has it on its list or in its group
pub record IsHeldBack (st : State) (b : Books) (t : ℕ) : Type 0 where
  pub holder : ℕ
  pub bar : IsBar st holder t
  pub under : IsUnder b holder t

-- t is in the group of a lower task that was not admitted yet, with which it interferes, and which is to be looked at
pub record IsBehind (Looks : ℕ → Type 0) (st : State) (b : Books) (t : ℕ) : Type 0 where
  pub lower : ℕ
  pub made : HasStatus st lower Made
  pub looks : Looks lower
  pub below : lower < t
  pub both : Interfere st lower t
  pub member : IsMember b.groups lower t

-- The books are in step with the state, if those tasks are looked at for which `Looks` holds: a task with a legal move is
-- one of them, and so is one that was made, is held back by no bar, and is not behind one of them; who waits for a task is
-- on its list; the tasks of each group are alike; and the enabled tasks are those of the state.
pub record KeepsBy (Looks : ℕ → Type 0) (st : State) (b : Books) : Type 0 where
  pub runs : (t : ℕ) → MayRun st t → Looks t
  pub made : (t : ℕ) → HasStatus st t Made → Looks t ⊎ (IsHeldBack st b t ⊎ IsBehind Looks st b t)
  pub waits : (s u : ℕ) → WaitsFor st.links s u → IsListed b.waiters u s
  pub groups : AreGroups st b.groups
  pub listing : IsListing st b.enabled

-- the books are in step with the state
abbrev pub Keeps : State → Books → Type 0
Keeps st b = KeepsBy (IsReady b.ready) st b

-- the books are in step with the state, and no task below this number is to be looked at
abbrev pub KeepsFrom : ℕ → State → Books → Type 0
KeepsFrom from st b = KeepsBy (IsReadyFrom from b.ready) st b

-- How the books change if t is looked at and has no legal move: if it was made it is held back, and those of its group
-- are to be looked at.
pub record Looked (st : State) (t : ℕ) (b after : Books) : Type 0 where
  pub still : (kind : Kind) → ¬ MayTake st kind t
  pub held_back : HasStatus st t Made → IsHeldBack st after t
  pub ready : (x : ℕ) → IsReady b.ready x → IsReady after.ready x
  pub held : (u x : ℕ) → IsListed b.held u x → IsListed after.held u x
  pub members : (u x : ℕ) → (u ≢ t) ⊎ ¬ HasStatus st t Made → IsMember b.groups u x → IsMember after.groups u x
  pub behind : (x : ℕ) → HasStatus st t Made → IsMember b.groups t x → IsReady after.ready x
  pub groups : AreGroups st b.groups → AreGroups st after.groups
  pub waiters : after.waiters ≡ b.waiters
  pub enabled : after.enabled ≡ b.enabled

-- the chain of waits from t ends at this task, which is t itself or is to be looked at
pub record IsEndOf (st : State) (t : ℕ) (b : Books) (end : ℕ) : Type 0 where
  pub chain : WaitsOn st.links t end
  pub last : WaitsForNobody st.links end
  pub ready : IsReady b.ready end ⊎ (end ≡ t)

-- more tasks are on lists or in groups, and nothing else changes
pub record HeldMore (st : State) (b after : Books) : Type 0 where
  pub held : (u x : ℕ) → IsListed b.held u x → IsListed after.held u x
  pub members : (u x : ℕ) → IsMember b.groups u x → IsMember after.groups u x
  pub groups : AreGroups st after.groups
  pub ready : after.ready ≡ b.ready
  pub waiters : after.waiters ≡ b.waiters
  pub enabled : after.enabled ≡ b.enabled

-- those in the group of u are to be looked at
pub record Released (u : ℕ) (b after : Books) : Type 0 where
  pub ready : (x : ℕ) → IsReady b.ready x → IsReady after.ready x
  pub woken : (x : ℕ) → IsMember b.groups u x → IsReady after.ready x
  pub members : (v x : ℕ) → v ≢ u → IsMember b.groups v x → IsMember after.groups v x
  pub back : AreKept after.groups b.groups
  pub held : after.held ≡ b.held
  pub waiters : after.waiters ≡ b.waiters
  pub enabled : after.enabled ≡ b.enabled

-- nothing is taken out of the books
pub record Grown (b after : Books) : Type 0 where
  pub ready : (x : ℕ) → IsReady b.ready x → IsReady after.ready x
  pub waiters : (u x : ℕ) → IsListed b.waiters u x → IsListed after.waiters u x
  pub held : (u x : ℕ) → IsListed b.held u x → IsListed after.held u x
  pub groups : after.groups ≡ b.groups
  pub enabled : after.enabled ≡ b.enabled

-- Those who waited for t are to be looked at if it is done in this state.
pub record Woken (st : State) (t : ℕ) (b after : Books) : Type 0 where
  pub ready : (x : ℕ) → IsReady b.ready x → IsReady after.ready x
  pub waiters : (u x : ℕ) → (u ≢ t) ⊎ ¬ IsDone st.links t → IsListed b.waiters u x → IsListed after.waiters u x
  pub woken : (x : ℕ) → IsDone st.links t → IsListed b.waiters t x → IsReady after.ready x
  pub held : after.held ≡ b.held
  pub groups : after.groups ≡ b.groups
  pub enabled : after.enabled ≡ b.enabled

-- The group of t goes to the lowest of its tasks that was not admitted yet, which is to be looked at. Who was in the group of
-- that one is to be looked at.
pub record Passed (st : State) (t : ℕ) (b after : Books) : Type 0 where
  pub ready : (x : ℕ) → IsReady b.ready x → IsReady after.ready x
  pub members : (u x : ℕ) → u ≢ t → IsMember b.groups u x → IsMember after.groups u x ⊎ IsReady after.ready x
  pub passed : AreGroups st b.groups → (x : ℕ) → IsMember b.groups t x → HasStatus st x Made
      → IsReady after.ready x ⊎ IsBehind (IsReady after.ready) st after x
  pub groups : AreGroups st b.groups → AreGroups st after.groups
  pub held : after.held ≡ b.held
  pub waiters : after.waiters ≡ b.waiters
  pub enabled : after.enabled ≡ b.enabled

-- Those whom t held are to be looked at if it is not enabled in this state, and its group is passed on.
pub record Freed (st : State) (t : ℕ) (b after : Books) : Type 0 where
  pub ready : (x : ℕ) → IsReady b.ready x → IsReady after.ready x
  pub held : (u x : ℕ) → (u ≢ t) ⊎ HasStatus st t Enabled → IsListed b.held u x → IsListed after.held u x
  pub freed : (x : ℕ) → ¬ HasStatus st t Enabled → IsListed b.held t x → IsReady after.ready x
  pub members : (u x : ℕ) → (u ≢ t) ⊎ HasStatus st t Enabled → IsMember b.groups u x
      → IsMember after.groups u x ⊎ IsReady after.ready x
  pub passed : AreGroups st b.groups → (x : ℕ) → ¬ HasStatus st t Enabled → IsMember b.groups t x → HasStatus st x Made
      → IsReady after.ready x ⊎ IsBehind (IsReady after.ready) st after x
  pub groups : AreGroups st b.groups → AreGroups st after.groups
  pub waiters : after.waiters ≡ b.waiters
  pub enabled : after.enabled ≡ b.enabled

-- How the books change after a move, in the state after it. If its task is done, those who waited for it are to be
-- looked at, and if it is no longer enabled, those whom it held, or the lowest of its group before the others. If it waits, so is
-- the task at which its chain of waits ends. The tasks from `before` on are new.
pub record Noted (st : State) (mv : Move) (before : ℕ) (b after : Books) : Type 0 where
  pub ready : (x : ℕ) → IsReady b.ready x → IsReady after.ready x
  pub waiters : (u x : ℕ) → (u ≢ mv.task) ⊎ ¬ IsDone st.links mv.task → IsListed b.waiters u x → IsListed after.waiters u x
  pub held : (u x : ℕ) → (u ≢ mv.task) ⊎ HasStatus st mv.task Enabled → IsListed b.held u x → IsListed after.held u x
  pub woken : (x : ℕ) → IsDone st.links mv.task → IsListed b.waiters mv.task x → IsReady after.ready x
  pub freed : (x : ℕ) → ¬ HasStatus st mv.task Enabled → IsListed b.held mv.task x → IsReady after.ready x
  pub members : (u x : ℕ) → (u ≢ mv.task) ⊎ HasStatus st mv.task Enabled → IsMember b.groups u x
      → IsMember after.groups u x ⊎ IsReady after.ready x
  pub passed : AreGroups st b.groups → (x : ℕ) → ¬ HasStatus st mv.task Enabled → IsMember b.groups mv.task x
      → HasStatus st x Made → IsReady after.ready x ⊎ IsBehind (IsReady after.ready) st after x
  pub groups : AreGroups st b.groups → AreGroups st after.groups
  pub waiting : (u : ℕ) → ¬ IsDone st.links mv.task → WaitsFor st.links mv.task u → IsListed after.waiters u mv.task
  pub end : ℕ
  pub is_end : IsEndOf st mv.task after end
  pub new_ready : (c : ℕ) → before ≤ c → c < length st.tasks → IsReady after.ready c
  pub new_waits : (c u : ℕ) → before ≤ c → WaitsFor st.links c u → IsListed after.waiters u c
