-- What is noted of an entry to know what frees later admissions, and what frees its own.
use Rattle.std.specs.Prelude.{◌≡◌, ◌<◌, ◌+◌, ◌^◌, ◌++◌, ◌↔◌, ◌⊎◌, ℕ, List, [], Option, None, Some, length, map, slice_set}
use Rattle.std.specs.List.{Contains}
use Rattle.seg_journal.specs.declared.journal.End.{End}
use Rattle.seg_journal.specs.declared.journal.End.TheVariants as ends
use Rattle.wait_graph.specs.Link.{link_of}
use Rattle.machine_state.specs.declared.state.State.{State}
use Rattle.held_span.specs.Marks.{left_by, seen_by}
use Rattle.held_span.specs.declared.marks.EffectMark.{EffectMark}
use Rattle.held_span.specs.declared.marks.EffectMarks.{EffectMarks}
use Rattle.span_profile.specs.declared.heaviest_chain.key.Key.{Key}
use Rattle.span_profile.specs.declared.heaviest_chain.key.Key.TheVariants.{Task}
use Rattle.span_profile.specs.declared.recording.EntryKeys.{EntryKeys}
use Rattle.held_span.specs.declared.freeing.Freeing.{Freeing}
use Rattle.held_span.specs.declared.holders.Holders.{Holders}
use Rattle.held_span.specs.declared.ways.Ways.{Ways}
use Rattle.held_span.specs.inner.Holding.{Holds, HoldsOne, IsLowestOf}
use Rattle.held_span.specs.inner.Keys.{effect_of, mark_key}
use Rattle.held_span.specs.inner.Walking.{IsWalk, entered}

-- 32 bits number the tasks and the effects together, and each mark of a task is that of an effect
pub record AreNumbered (marks : EffectMarks) : Type 0 where
  pub few : length marks.lists + length marks.rivals < 2 ^ 32
  pub left : (t : ℕ) (mark : EffectMark) → Contains (left_by marks t) mark → effect_of mark < length marks.rivals
  pub seen : (t : ℕ) (mark : EffectMark) → Contains (seen_by marks t) mark → effect_of mark < length marks.rivals

-- the keys of these marks
abbrev pub mark_keys : EffectMarks → List EffectMark → List Key
mark_keys marks list = map (mark_key (length marks.lists)) list

-- the task leaves these marks, too
abbrev pub HaveEntered : Holders → Holders → ℕ → List EffectMark → Type 0
HaveEntered old new t marks = (m : EffectMark) (u : ℕ) → Holds new m u ↔ (Holds old m u ⊎ ((u ≡ t) × Contains marks m))

-- the task does not leave these marks any more
abbrev pub HaveLeft : Holders → Holders → ℕ → List EffectMark → Type 0
HaveLeft old new t marks = (m : EffectMark) (u : ℕ) → Holds new m u ↔ (Holds old m u × ¬ ((u ≡ t) × Contains marks m))

-- the task was made with a parent, and leaves these marks, or without one, and then nothing changes
abbrev pub EnteredIf : Option ℕ → Holders → Holders → ℕ → List EffectMark → Type 0
EnteredIf None old new t marks = new ≡ old
EnteredIf (Some parent) old new t marks = HaveEntered old new t marks

-- from t the walk goes back to the lowest of those that hold it, if there is one, and is noted
abbrev pub Walks : Ways → Ways → Option ℕ → ℕ → List ℕ → Type 0
Walks old new None t walk = (walk ≡ []) × (new ≡ old)
Walks old new (Some s) t walk = IsWalk old s t walk × (new ≡ record { makers = old.makers; firsts = slice_set old.firsts t s })

-- These keys are added for the admission of t, of which this is the lowest holder: those of the marks that it sees, and those of
-- the tasks that the walk passes.
pub record IsFreed (marks : EffectMarks) (holders : Holders) (old new : Ways) (t : ℕ) (before after : List Key) (low : Option ℕ)
    : Type 0 where
  pub lowest : IsLowestOf (HoldsOne holders (seen_by marks t)) low
  pub walk : List ℕ
  pub walks : Walks old new low t walk
  pub keys : after ≡ (before ++ mark_keys marks (seen_by marks t)) ++ map (λ task. Task task) walk

-- what is noted of a move of t with this end, after which the state is this, and of which this is the lowest holder if it is an
-- admission
abbrev pub IsNotedBy : EffectMarks → State → ℕ → Option ℕ → Freeing → Freeing → EntryKeys → EntryKeys → End → Type 0
IsNotedBy marks st t low old new before after ends.Admitted =
    IsFreed marks old.holders old.ways new.ways t before.asks after.asks low × (after.gives ≡ before.gives)
    × HaveEntered old.holders new.holders t (left_by marks t)
IsNotedBy marks st t low old new before after (ends.Made child) =
    (after.asks ≡ before.asks) × (after.gives ≡ before.gives) × (new.ways ≡ entered old.ways t)
    × EnteredIf (link_of st.links child).parent old.holders new.holders child (left_by marks child)
IsNotedBy marks st t low old new before after (ends.Waits on) =
    (after.asks ≡ before.asks) × (after.gives ≡ before.gives) × (new ≡ old)
IsNotedBy marks st t low old new before after (ends.Joins on) =
    (after.asks ≡ before.asks) × (after.gives ≡ before.gives) × (new ≡ old)
IsNotedBy marks st t low old new before after (ends.Done value) =
    (after.asks ≡ before.asks) × (after.gives ≡ before.gives ++ mark_keys marks (left_by marks t)) × (new.ways ≡ old.ways)
    × HaveLeft old.holders new.holders t (left_by marks t)
IsNotedBy marks st t low old new before after (ends.Fault kind place) =
    (after.asks ≡ before.asks) × (after.gives ≡ before.gives) × (new.ways ≡ old.ways)
    × HaveLeft old.holders new.holders t (left_by marks t)
