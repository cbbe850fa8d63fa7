-- A worker that walks below a node: what it has before each child, and what it may do.
use Rattle.std.proofs.Common.{◌≡◌, ◌≢◌, ◌<◌, ◌+◌, ℕ, List, [], ◌∷◌, length, get_or, Some, None, refl, sym, ap, subst, ◌∙◌, inl, ⊎_elim}
use Rattle.std.specs.List.Sorted.{IsStrictlyIncreasing}
use Rattle.std.proofs.lemmas.Bool.{cases_eq}
use mathlib.Core.Option as core
use Rattle.region_paths.specs.declared.elements.Elem.{Elem}
use Rattle.effect_sets.specs.declared.effects.Effect.{Effect}
use Rattle.effect_tree.specs.Place.{IsSolid}
use Rattle.prefix_tree.specs.Nodes.{IsParent, IsTreeOfPaths}
use Rattle.twe_base.specs.Limits.{Bounds}
use Rattle.floor_laws.specs.admission.admission_core.States.{Activity, Admit, Child, Remove, ActivityIsOver, Leaves, Purpose, Record}
use Rattle.floor_laws.proofs.admission.admission_core.TreeLemmas.{over_above, parent_other, parent_over}
use Rattle.floor_laws.specs.admission.admission_core.Events.{AllFinishedOrApart}
use Rattle.floor_laws.specs.declared.table.nodes.slot.Errand.{Errand}
use Rattle.floor_laws.specs.declared.table.nodes.slot.ErrandKind.{ErrandKind}
use Rattle.floor_laws.specs.declared.table.nodes.slot.ErrandKind.TheVariants.{Admission}
use Rattle.floor_laws.specs.declared.table.nodes.slot.TreeSlot.{TreeSlot}
use Rattle.floor_laws.specs.declared.table.nodes.view.TreeView.{TreeView}
use Rattle.floor_laws.specs.table.nodes.Seats.{GaveNode, MayGoOn, MayLock, MayPass, MayStop, TreeSeat, passed_view, left_to_give, purpose_for, unlocked_view}
use Rattle.floor_laws.specs.table.nodes.TreeOf.{content_in}
use Rattle.tree_admit.specs.ways.Ways.{AreReached}
use Rattle.tree_admit.specs.Going.{HasLeft, HasLocked, HasNode, HasOnlyFollowed, HasOnlyLearned}
use Rattle.tree_admit.specs.Errands.{AllPass}
use Rattle.tree_admit.specs.Descents.{HasWalkedBelow, MayWalkBelow, walking}
use Rattle.tree_admit.proofs.Contents.{content_else, content_here}
use Rattle.tree_admit.proofs.Entering.{effect_is}
use Rattle.tree_admit.proofs.Learning.{pass_kept}
use Rattle.tree_admit.proofs.Steps.{followed_has, gave_left, left_has, locked_has, may_stop, may_walk_down, may_walk_up, passed_learned, unlocked_learned, walked_has}
use Rattle.tree_admit.proofs.Finishing.{HasWalked, all_walked, child_at, next_is_unfinished, none_below_next, nothing_walked, walked_more}

pub passes_kept : (v w : TreeView) (purpose : Purpose) (content : List Record) → HasOnlyLearned v w → AllPass v.waits purpose content → AllPass w.waits purpose content
passes_kept v w (Admit t e) content h pass = λ r among. pass_kept v w t e r h (pass r among)
passes_kept v w (Child t e) content h pass = λ r among. tt
passes_kept v w (Remove t e) content h pass = λ r among. tt

-- what is left to do after a walk is the same, wherever the walk has come to
pub same_left : (errand : Errand) (e : Effect) (s t u w : List ℕ) (stack : List ℕ) → left_to_give (walking errand e s t) stack ≡ left_to_give (walking errand e u w) stack
same_left errand e s t u w [] = refl
same_left errand e s t u w (n ∷ others) = refl

-- The seat has walked below the first k children of node n, which it holds.
pub record HasWalkedPart (nodes : List (List Elem)) (lim : Bounds) (earlier : TreeView) (rest : List (ℕ × TreeSlot)) (errand : Errand) (e : Effect) (n : ℕ) (stack done children : List ℕ) (k : ℕ) (content : List Record) (me : TreeSeat) : Type 0 where
  pub after : List ℕ
  pub has : HasNode lim earlier rest (walking errand e (n ∷ stack) after) n content me
  pub pass : AllPass me.0.waits (purpose_for errand.kind errand.task e) content
  pub walked : HasWalked nodes children k done after
  pub unheld : (m : ℕ) → ActivityIsOver nodes n m → content_in me.0.kept m ≡ None

module _ (nodes : List (List Elem)) (tree : IsTreeOfPaths nodes) (lim : Bounds) (earlier : TreeView) (rest : List (ℕ × TreeSlot)) (errand : Errand) (e : Effect) (n : ℕ) (stack done : List ℕ) (content : List Record)
    (start : TreeSeat) (may : MayWalkBelow nodes lim earlier rest errand e n stack done content start) where
  -- The node itself.
  module _ (me : TreeSeat) (only : HasOnlyFollowed start me) where
    pub looked_has : HasNode lim earlier rest (walking errand e (n ∷ stack) done) n content me
    looked_has = followed_has lim earlier rest (walking errand e (n ∷ stack) done) n content start may.has me only

    pub looked_stops : MayStop me.0 n (left_to_give (walking errand e (n ∷ stack) done) stack)
    looked_stops = may_stop lim earlier rest (walking errand e (n ∷ stack) done) n content me looked_has stack refl

    pub looked_left : (final : TreeSeat) → GaveNode me n (left_to_give (walking errand e (n ∷ stack) done) stack) rest final
        → HasLeft earlier rest (left_to_give (walking errand e (n ∷ stack) done) stack) final
    looked_left final gave = gave_left lim earlier rest (walking errand e (n ∷ stack) done) n content me looked_has (left_to_give (walking errand e (n ∷ stack) done) stack) final may.none gave

    module _ (children : List ℕ) (each : AreReached nodes e n children) (rising : IsStrictlyIncreasing children) where
      pub none_walked : AllPass me.0.waits (purpose_for errand.kind errand.task e) content → HasWalkedPart nodes lim earlier rest errand e n stack done children 0 content me
      none_walked pass = record {
        after = done;
        has = looked_has;
        pass = pass;
        walked = nothing_walked nodes tree e n children each rising done may.unfinished;
        unheld = λ m over. ap (λ kept. content_in kept m) only.kept ∙ may.unheld m over;
      }

  -- The next child.
  module _ (children : List ℕ) (each : AreReached nodes e n children) (rising : IsStrictlyIncreasing children) (k : ℕ) (within : k < length children) (me : TreeSeat)
      (part : HasWalkedPart nodes lim earlier rest errand e n stack done children k content me) where
    abbrev pub child : ℕ
    child = get_or children k 0

    abbrev pub at_child : Activity
    at_child = walking errand e (child ∷ n ∷ stack) part.after

    parent : IsParent nodes n child
    parent = child_at nodes tree e n children each rising done may.unfinished k within

    other : child ≢ n
    other same = parent_other nodes tree n child parent (sym same)

    pub may_lock_child : errand.kind ≡ Admission → ¬ IsSolid e.path → MayLock nodes me.0 core.none child at_child
    may_lock_child kind wild =
        may_walk_down lim earlier rest (walking errand e (n ∷ stack) part.after) n content me part.has nodes errand.task e child stack part.after
        (ap (λ (k : ErrandKind). purpose_for k errand.task e) kind) refl wild parent
        (next_is_unfinished nodes tree e n children each rising done may.unfinished k within part.after part.walked) part.pass

    -- It was passed by.
    abbrev pub passed_child : Activity
    passed_child = walking errand e (n ∷ stack) (child ∷ part.after)

    pub may_pass_child : ((m : ℕ) → ¬ IsParent nodes child m) → MayPass nodes me.0 child passed_child
    may_pass_child lowest = record {
      activity = walking errand e (n ∷ stack) part.after;
      node = n;
      stack = stack;
      done = part.after;
      may = record { active = part.has.active; stage = refl; child = parent; lowest = lowest };
      goes = refl;
    }

    pub one_passed : ((m : ℕ) → ¬ IsParent nodes child m) → (final : TreeSeat) → final ≡ (passed_view me.0 passed_child, me.1) → HasWalkedPart nodes lim earlier rest errand e n stack done children (k + 1) content final
    one_passed lowest final is =
        subst (HasWalkedPart nodes lim earlier rest errand e n stack done children (k + 1) content) (sym is)
        (record {
          after = child ∷ part.after;
          has = record {
            active = refl;
            known = part.has.known;
            others = part.has.others;
            slots = part.has.slots;
            learned = passed_learned earlier me.0 passed_child part.has.learned;
          };
          pass = part.pass;
          walked = walked_more nodes tree e n children each rising done may.unfinished k within part.after part.walked part.after
              (record { all = λ c lies. absurd (lowest c lies); kept = λ m h. h; below = λ m h. inl h });
          unheld = part.unheld;
        })

    module _ (below : List Record) (locked_me : TreeSeat) (locked : HasLocked lim me child at_child below locked_me) where
      pub may_walk_child : MayWalkBelow nodes lim me.0 me.1 errand e child (n ∷ stack) part.after below locked_me
      may_walk_child = record {
        has = locked_has lim me child at_child below locked_me locked;
        unfinished = none_below_next nodes tree e n children each rising done may.unfinished k within part.after part.walked;
        unheld = λ m over.
            let down : ActivityIsOver nodes n m = over_above nodes tree n child m (parent_over nodes tree n child parent) over.above in
            (locked_has lim me child at_child below locked_me locked).others m (λ same. over.other (sym same)) ∙ part.unheld m down;
        none = part.unheld child (parent_over nodes tree n child parent);
      }

      -- It was walked.
      module _ (content_then : List Record) (then : TreeSeat) (walk : HasWalkedBelow nodes lim me.0 me.1 errand e child (n ∷ stack) part.after content_then then) where
        abbrev pub back_at_node : Activity
        back_at_node = walking errand e (n ∷ stack) (child ∷ walk.after)

        pub may_leave_child : MayGoOn nodes then.0 child back_at_node
        may_leave_child =
            may_walk_up lim me.0 me.1 (walking errand e (child ∷ n ∷ stack) walk.after) child content_then then walk.has nodes n stack walk.after refl
            (subst (λ (x : Effect). AllFinishedOrApart nodes x child walk.after) (sym (effect_is errand.kind errand.task e)) walk.finished.all) walk.pass

        pub one_more : (final : TreeSeat) → GaveNode then child (Some back_at_node) me.1 final → HasWalkedPart nodes lim earlier rest errand e n stack done children (k + 1) content final
        one_more final gave =
            let had = walked_has lim earlier rest (walking errand e (n ∷ stack) part.after) n content me part.has child (walking errand e (child ∷ n ∷ stack) walk.after) back_at_node content_then then final other
            (part.unheld child (parent_over nodes tree n child parent)) walk.has gave in
            let learned : HasOnlyLearned me.0 final.0 =
            subst (λ (w : TreeSeat). HasOnlyLearned me.0 w.0) (sym gave) (unlocked_learned me.0 then.0 child (Some back_at_node) walk.has.learned) in
            record {
              after = child ∷ walk.after;
              has = had;
              pass = passes_kept me.0 final.0 (purpose_for errand.kind errand.task e) content learned part.pass;
              walked = walked_more nodes tree e n children each rising done may.unfinished k within part.after part.walked walk.after walk.finished;
              unheld = λ m over.
                  subst (λ (w : TreeSeat). content_in w.0.kept m ≡ None) (sym gave)
                  (⊎_elim
                  (λ (here : m ≡ child). subst (λ (i : ℕ). content_in (unlocked_view then.0 child (Some back_at_node)).kept i ≡ None) (sym here) (content_here child None then.0.kept))
                  (λ (else : m ≢ child). content_else m child None then.0.kept else ∙ (walk.has.others m else ∙ part.unheld m over))
                  (cases_eq m child));
            }

      -- A bar stood below.
      module _ (then : TreeSeat) (left : HasLeft me.0 me.1 (left_to_give at_child (n ∷ stack)) then) where
        abbrev pub giving : Activity
        giving = record at_child { stage = Leaves (n ∷ stack) }

        pub back_has : HasNode lim earlier rest giving n content then
        back_has = left_has lim earlier rest (walking errand e (n ∷ stack) part.after) n content me part.has giving then left

        pub back_stops : MayStop then.0 n (left_to_give (walking errand e (n ∷ stack) done) stack)
        back_stops =
            subst (MayStop then.0 n) (same_left errand e (child ∷ n ∷ stack) part.after (n ∷ stack) done stack)
            (may_stop lim earlier rest giving n content then back_has stack refl)

        pub back_left : (final : TreeSeat) → GaveNode then n (left_to_give (walking errand e (n ∷ stack) done) stack) rest final
            → HasLeft earlier rest (left_to_give (walking errand e (n ∷ stack) done) stack) final
        back_left final gave = gave_left lim earlier rest giving n content then back_has (left_to_give (walking errand e (n ∷ stack) done) stack) final may.none gave

  -- All of these children were walked.
  pub whole_walk : (children : List ℕ) → AreReached nodes e n children → IsStrictlyIncreasing children → (k : ℕ) → k ≡ length children → (me : TreeSeat)
      → HasWalkedPart nodes lim earlier rest errand e n stack done children k content me → HasWalkedBelow nodes lim earlier rest errand e n stack done content me
  whole_walk children each rising k all me part = record {
    after = part.after;
    has = part.has;
    pass = part.pass;
    finished = all_walked nodes tree e n children each rising done may.unfinished part.after (subst (λ (i : ℕ). HasWalked nodes children i done part.after) all part.walked);
  }
