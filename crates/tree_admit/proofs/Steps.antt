-- What a seat has after each step on its way.
use Rattle.std.proofs.Common.{◌≡◌, ◌≢◌, ℕ, List, ◌∷◌, Option, Some, None, refl, sym, ap, subst, ◌∙◌, ⊎_elim}
use Rattle.std.proofs.lemmas.Bool.{cases_eq}
use mathlib.Core.Option as core
use Rattle.region_paths.specs.declared.elements.Elem.{Elem}
use Rattle.effect_sets.specs.declared.effects.Effect.{Effect}
use Rattle.effect_tree.specs.Place.{IsSolid}
use Rattle.prefix_tree.specs.Nodes.{IsParent}
use Rattle.twe_base.specs.Limits.{Bounds}
use Rattle.floor_laws.specs.admission.admission_core.States.{Activity, Admit, Descends, IsAbove, IsAmong, Record, Stage, Steps, Walks, held, record_effect}
use Rattle.floor_laws.specs.admission.admission_core.Events.{AllFinishedOrApart, HasCome}
use Rattle.floor_laws.specs.rule.nodes.LockSteps.{SeesPass}
use Rattle.floor_laws.specs.declared.table.nodes.slot.TreeSlot.{TreeSlot}
use Rattle.floor_laws.specs.declared.table.nodes.slot.TreeSlot.TheVariants as kinds
use Rattle.floor_laws.specs.declared.table.nodes.view.TreeView.{TreeView}
use Rattle.floor_laws.proofs.table.Added.{grown_by, grown_then}
use Rattle.floor_laws.specs.table.nodes.Layout.{content_place}
use Rattle.floor_laws.specs.table.nodes.Seats.{GaveNode, MayGoOn, MayLock, MayStop, TreeSeat, gives_parent, goes_down, left_to_give, locked_view, passed_view, tree_seen, unlocked_view, walks_down, walks_up}
use Rattle.floor_laws.specs.table.nodes.TreeOf.{content_in}
use Rattle.tree_admit.specs.Going.{HasLeft, HasLocked, HasNode, HasOnlyFollowed, HasOnlyLearned}
use Rattle.tree_admit.specs.Errands.{AllPass}
use Rattle.tree_admit.proofs.Contents.{content_else, content_here}
use Rattle.tree_admit.proofs.Learning.{learned_refl, learned_trans}

-- locking and unlocking teach nothing
locked_learned : (v u : TreeView) (n : ℕ) (content : List Record) (next : Activity) → HasOnlyLearned v u → HasOnlyLearned v (locked_view u n content next)
locked_learned v u n content next h = record {
  floor = h.floor;
  done = h.done;
  waits = h.waits;
  placed = h.placed;
  removed = h.removed;
  fresh = h.fresh;
  clear = h.clear;
  kept = grown_then v.kept u.kept (locked_view u n content next).kept h.kept (grown_by (record { node = n; content = Some content }) u.kept (locked_view u n content next).kept refl);
  looks = h.looks;
}

pub unlocked_learned : (v u : TreeView) (n : ℕ) (next : Option Activity) → HasOnlyLearned v u → HasOnlyLearned v (unlocked_view u n next)
unlocked_learned v u n next h = record {
  floor = h.floor;
  done = h.done;
  waits = h.waits;
  placed = h.placed;
  removed = h.removed;
  fresh = h.fresh;
  clear = h.clear;
  kept = grown_then v.kept u.kept (unlocked_view u n next).kept h.kept (grown_by (record { node = n; content = None }) u.kept (unlocked_view u n next).kept refl);
  looks = h.looks;
}

-- so does passing by
pub passed_learned : (v u : TreeView) (next : Activity) → HasOnlyLearned v u → HasOnlyLearned v (passed_view u next)
passed_learned v u next h = record {
  floor = h.floor;
  done = h.done;
  waits = h.waits;
  placed = h.placed;
  removed = h.removed;
  fresh = h.fresh;
  clear = h.clear;
  kept = h.kept;
  looks = h.looks;
}

-- who has locked a first node, or one more, has it
pub locked_has : (lim : Bounds) (before : TreeSeat) (n : ℕ) (next : Activity) (content : List Record) (after : TreeSeat) → HasLocked lim before n next content after
    → HasNode lim before.0 before.1 next n content after
locked_has lim before n next content after is =
    subst (HasNode lim before.0 before.1 next n content) (sym is)
    (record {
      active = refl;
      known = content_here n (Some content) before.0.kept;
      others = λ m other. content_else m n (Some content) before.0.kept other;
      slots = refl;
      learned = locked_learned before.0 before.0 n content next (learned_refl before.0);
    })

module _ (lim : Bounds) (earlier : TreeView) (rest : List (ℕ × TreeSlot)) (a : Activity) (n : ℕ) (content : List Record) (me : TreeSeat)
    (h : HasNode lim earlier rest a n content me) where
  sees : AllPass me.0.waits a.purpose content → SeesPass (tree_seen me.0) 0 a.purpose n
  sees pass = record { records = content; has = h.known; pass = pass }

  -- who follows waits has the node still
  pub followed_has : (after : TreeSeat) → HasOnlyFollowed me after → HasNode lim earlier rest a n content after
  followed_has after k = record {
    active = k.activity ∙ h.active;
    known = ap (λ kept. content_in kept n) k.kept ∙ h.known;
    others = λ m other. ap (λ kept. content_in kept m) k.kept ∙ h.others m other;
    slots = k.slots ∙ h.slots;
    learned = learned_trans earlier me.0 after.0 h.learned k.learned;
  }

  -- Going down.
  module _ (nodes : List (List Elem)) where
    pub may_go_down : (c : ℕ) → a.stage ≡ Descends n → IsParent nodes n c → IsAbove nodes c a.place → AllPass me.0.waits a.purpose content
        → MayLock nodes me.0 core.none c (record a { stage = Steps n c })
    may_go_down c stage child way pass =
        goes_down a n (record { active = h.active; stage = stage; child = child; way = way; pass = sees pass }) refl

    pub may_walk_down : (t : ℕ) (e : Effect) (c : ℕ) (stack done : List ℕ) → a.purpose ≡ Admit t e → a.stage ≡ Walks (n ∷ stack) done → ¬ IsSolid e.path → IsParent nodes n c
        → ¬ IsAmong c done → AllPass me.0.waits a.purpose content → MayLock nodes me.0 core.none c (record a { stage = Walks (c ∷ n ∷ stack) done })
    may_walk_down t e c stack done purpose stage wild child unfinished pass =
        walks_down a t e n stack done
        (record { active = h.active; purpose = purpose; stage = stage; wild = wild; child = child; unfinished = unfinished; pass = sees pass }) refl

    pub may_walk_up : (m : ℕ) (stack done : List ℕ) → a.stage ≡ Walks (n ∷ m ∷ stack) done → AllFinishedOrApart nodes (record_effect a.purpose) n done → AllPass me.0.waits a.purpose content
        → MayGoOn nodes me.0 n (record a { stage = Walks (m ∷ stack) (n ∷ done) })
    may_walk_up m stack done stage below pass =
        walks_up a m stack done (record { active = h.active; stage = stage; pass = sees pass; below = below }) refl

    -- the parent may be left once its child is locked
    pub may_leave_parent : (c : ℕ) (next : Stage) (below : List Record) (after : TreeSeat) → HasLocked lim me c (record a { stage = Steps n c }) below after → HasCome a.place c next
        → MayGoOn nodes after.0 n (record a { stage = next })
    may_leave_parent c next below after is come =
        subst (λ (w : TreeSeat). MayGoOn nodes w.0 n (record a { stage = next })) (sym is)
        (gives_parent (record a { stage = Steps n c }) c next (record { active = refl; at = refl; come = come }) refl)

  -- what is known of the parent then
  pub parent_known : (c : ℕ) (next : Activity) (below : List Record) (after : TreeSeat) → n ≢ c → HasLocked lim me c next below after → content_in after.0.kept n ≡ Some content
  parent_known c next below after other is =
      subst (λ (w : TreeSeat). content_in w.0.kept n ≡ Some content) (sym is) (content_else n c (Some below) me.0.kept other ∙ h.known)

  -- and the slots that are out
  pub parent_slots : (c : ℕ) (next : Activity) (below : List Record) (after : TreeSeat) → HasLocked lim me c next below after
      → after.1 ≡ (content_place lim c, kinds.Task None) ∷ (content_place lim n, kinds.Task None) ∷ rest
  parent_slots c next below after is = ap (λ (w : TreeSeat). w.1) is ∙ ap (λ slots. (content_place lim c, kinds.Task None) ∷ slots) h.slots

  -- once the parent is left, the child is had alone
  pub child_alone : (c : ℕ) (first next : Activity) (below : List Record) (after final : TreeSeat) → n ≢ c → content_in earlier.kept n ≡ None → HasLocked lim me c first below after
      → GaveNode after n (Some next) ((content_place lim c, kinds.Task None) ∷ rest) final → HasNode lim earlier rest next c below final
  child_alone c first next below after final other none is gave =
      let before = locked_has lim me c first below after is in
      subst (HasNode lim earlier rest next c below) (sym gave)
      (record {
        active = refl;
        known = content_else c n None after.0.kept (λ same. other (sym same)) ∙ before.known;
        others = λ m apart.
            ⊎_elim
            (λ (here : m ≡ n). subst (λ (k : ℕ). content_in (record { node = n; content = None } ∷ after.0.kept) k ≡ content_in earlier.kept k) (sym here) (content_here n None after.0.kept ∙ sym none))
            (λ (else : m ≢ n). content_else m n None after.0.kept else ∙ (before.others m apart ∙ h.others m else))
            (cases_eq m n);
        slots = refl;
        learned = unlocked_learned earlier after.0 n (Some next) (learned_trans earlier me.0 after.0 h.learned before.learned);
      })

  -- Walking below a node that stays locked: whoever has finished a child has the node as before.
  pub walked_has : (c : ℕ) (b next : Activity) (below : List Record) (after final : TreeSeat) → c ≢ n → content_in me.0.kept c ≡ None → HasNode lim me.0 me.1 b c below after
      → GaveNode after c (Some next) me.1 final → HasNode lim earlier rest next n content final
  walked_has c b next below after final other none k gave =
      subst (HasNode lim earlier rest next n content) (sym gave)
      (record {
        active = refl;
        known = content_else n c None after.0.kept (λ same. other (sym same)) ∙ (k.others n (λ same. other (sym same)) ∙ h.known);
        others = λ m apart.
            ⊎_elim
            (λ (here : m ≡ c).
            subst (λ (i : ℕ). content_in (record { node = c; content = None } ∷ after.0.kept) i ≡ content_in earlier.kept i) (sym here)
            (content_here c None after.0.kept ∙ (sym none ∙ h.others c other)))
            (λ (else : m ≢ c). content_else m c None after.0.kept else ∙ (k.others m else ∙ h.others m apart))
            (cases_eq m c);
        slots = h.slots;
        learned = unlocked_learned earlier after.0 c (Some next) (learned_trans earlier me.0 after.0 h.learned k.learned);
      })

  -- and so has whoever has given the child back
  pub left_has : (b : Activity) (after : TreeSeat) → HasLeft me.0 me.1 (Some b) after → HasNode lim earlier rest b n content after
  left_has b after k = record {
    active = k.left;
    known = k.kept n ∙ h.known;
    others = λ m other. k.kept m ∙ h.others m other;
    slots = k.slots ∙ h.slots;
    learned = learned_trans earlier me.0 after.0 h.learned k.learned;
  }

  -- Giving back.
  pub may_stop : (others : List ℕ) → held a.stage ≡ n ∷ others → MayStop me.0 n (left_to_give a others)
  may_stop others holds = record { activity = a; active = h.active; others = others; holds = holds; goes = refl }

  pub gave_left : (next : Option Activity) (final : TreeSeat) → content_in earlier.kept n ≡ None → GaveNode me n next rest final → HasLeft earlier rest next final
  gave_left next final none gave =
      subst (HasLeft earlier rest next) (sym gave)
      (record {
        left = refl;
        kept = λ m.
            ⊎_elim
            (λ (here : m ≡ n). subst (λ (k : ℕ). content_in (record { node = n; content = None } ∷ me.0.kept) k ≡ content_in earlier.kept k) (sym here) (content_here n None me.0.kept ∙ sym none))
            (λ (else : m ≢ n). content_else m n None me.0.kept else ∙ h.others m else)
            (cases_eq m n);
        slots = refl;
        learned = unlocked_learned earlier me.0 n next h.learned;
      })
