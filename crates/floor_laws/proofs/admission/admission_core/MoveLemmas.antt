-- The events in which locks are taken and given, and no record changes, keep the invariant.
use Rattle.std.proofs.Common.{◌≡◌, ◌≢◌, ℕ, List, [], ◌∷◌, Some, refl, sym, ap, subst, ◌∙◌, ◌⊎◌, inl, inr, ⊎_elim}
use Rattle.std.proofs.lemmas.Bool.{cases_eq}
use Rattle.region_paths.specs.declared.elements.Elem.{Elem}
use Rattle.effect_sets.specs.Interference.{Interferes}
use Rattle.prefix_tree.specs.Nodes.{IsParent, IsTreeOfPaths}
use Rattle.floor_laws.specs.admission.admission_core.Tasks.{Tasks}
use Rattle.floor_laws.specs.admission.admission_core.States.{IsAmong, IsAbove, ActivityIsOver, IsApartBelow, Record, Purpose, Admit, Child, Remove, record_effect, Stage, Descends, Steps, Walks, Leaves, held, finished, Activity, State, HoldsNode, NodeIsFree, PassesFor, AllPassAt, with_activity, with_stage}
use Rattle.floor_laws.specs.admission.admission_core.Events.{HasCome, AllFinishedOrApart, Begins}
use Rattle.floor_laws.proofs.admission.admission_core.TreeLemmas.{above_refl, above_trans, above_antisym, apart_lower, parent_above, parent_other, parent_one, above_parent, over_parent, over_above, child_toward, root_above, root_lowest, root_alone}
use Rattle.floor_laws.proofs.admission.admission_core.StackLemmas.{stack_above}
use Rattle.floor_laws.proofs.admission.admission_core.Invariant.{Kept}
use Rattle.floor_laws.proofs.admission.admission_core.PutLemmas.{some_one, IsFresh, put_keeps}

-- a record whose effect does not interfere passes, whatever the purpose
apart_passes : (ts : Tasks) (purpose : Purpose) (r : Record) → ¬ Interferes r.effect (record_effect purpose) → PassesFor ts purpose r
apart_passes ts (Admit t e) r apart = λ live i. absurd (apart i)
apart_passes ts (Child t e) r apart = tt
apart_passes ts (Remove t e) r apart = tt

module _ (nodes : List (List Elem)) (tree : IsTreeOfPaths nodes) (s : State) (kept : Kept nodes s) (w : ℕ) where
  -- a free child of a node that w holds is fresh, if w hasn't finished it
  pub fresh_child : (a : Activity) (n c : ℕ) → s.activities w ≡ Some a → IsAmong n (held a.stage) → IsParent nodes n c → NodeIsFree s c → ¬ IsAmong c (finished a.stage) → IsFresh nodes s c
  fresh_child a n c active holds child free unfinished = record {
    free = free;
    clear = λ v b f is fin above.
        let lower : IsApartBelow nodes (record_effect b.purpose) n → IsApartBelow nodes (record_effect b.purpose) c =
        apart_lower nodes tree (record_effect b.purpose) n c (parent_above nodes tree n c child) in
        ⊎_elim
        (λ (same : f ≡ c).
        let done = subst (λ (x : ℕ). IsAmong x (finished b.stage)) same fin in
        let rim = (kept.going v b is).rim c done in
        let parent = parent_one nodes tree rim.0 n c rim.1 child in
        ⊎_elim
        (λ (own : IsAmong rim.0 (held b.stage)).
        let worker = kept.owner v w n (b, is, subst (λ (x : ℕ). IsAmong x (held b.stage)) parent own) (a, active, holds) in
        let one = some_one (sym is ∙ ap s.activities worker ∙ active) in
        absurd (unfinished (subst (λ (x : Activity). IsAmong c (finished x.stage)) one done)))
        (λ (low : (g : ℕ) × IsAmong g (finished b.stage) × IsAbove nodes g rim.0).
        lower (kept.shut v w b low.0 n is low.1 (subst (λ (x : ℕ). IsAbove nodes low.0 x) parent low.2) (a, active, holds)))
        rim.2)
        (λ (other : f ≢ c).
        lower (kept.shut v w b f n is fin (above_parent nodes tree f n c child above other) (a, active, holds)))
        (cases_eq f c);
  }

  pub fresh_root : NodeIsFree s 0 → IsFresh nodes s 0
  fresh_root free = record {
    free = free;
    clear = λ v b f is fin above.
        let rim = (kept.going v b is).rim f fin in
        absurd (root_alone nodes tree rim.0 (subst (λ (x : ℕ). IsParent nodes rim.0 x) (root_lowest nodes tree f above) rim.1));
  }

  pub down : (a : Activity) (n c : ℕ) → s.activities w ≡ Some (record a { stage = Descends n }) → IsParent nodes n c → IsAbove nodes c a.place → NodeIsFree s c → AllPassAt s a.purpose n → Kept nodes (with_stage s w a (Steps n c))
  down a n c active child way free pass =
      let before : Activity = record a { stage = Descends n } in
      let g = kept.going w before active in
      let fresh = fresh_child before n c active (inl refl) child free (λ none. none) in
      put_keeps nodes s w (record a { stage = Steps n c }) kept
      (λ x h.
      ⊎_elim
      (λ (same : x ≡ c). inr (subst (λ (y : ℕ). IsFresh nodes s y) (sym same) fresh))
      (λ (old : (x ≡ n) ⊎ ⊥). inl (before, active, old))
      h)
      (record {
        place = g.place;
        way = (child, way);
        mine = g.mine;
        seen = λ r among past.
            ⊎_elim
            (λ (same : r.node ≡ n). pass r among same)
            (λ (over : ActivityIsOver nodes r.node n). g.seen r among over)
            (over_parent nodes tree r.node n c child past);
        rim = λ f none. absurd none;
      })
      (λ f x none above. absurd none)

  give_above : (a : Activity) (n c : ℕ) → s.activities w ≡ Some (record a { stage = Steps n c }) → c ≢ a.place → Kept nodes (with_stage s w a (Descends c))
  give_above a n c active other =
      let before : Activity = record a { stage = Steps n c } in
      let g = kept.going w before active in
      put_keeps nodes s w (record a { stage = Descends c }) kept
      (λ x h. ⊎_elim (λ (same : x ≡ c). inl (before, active, inl same)) (λ none. absurd none) h)
      (record {
        place = g.place;
        way = record { above = g.way.1; other = other };
        mine = g.mine;
        seen = λ r among past. g.seen r among past;
        rim = λ f none. absurd none;
      })
      (λ f x none above. absurd none)

  give_there : (a : Activity) (n c : ℕ) → s.activities w ≡ Some (record a { stage = Steps n c }) → c ≡ a.place → Kept nodes (with_stage s w a (Walks (c ∷ []) []))
  give_there a n c active same =
      let before : Activity = record a { stage = Steps n c } in
      let g = kept.going w before active in
      put_keeps nodes s w (record a { stage = Walks (c ∷ []) [] }) kept
      (λ x h. ⊎_elim (λ (same : x ≡ c). inl (before, active, inl same)) (λ none. absurd none) h)
      (record {
        place = g.place;
        way = same;
        mine = g.mine;
        seen = λ r among past. ⊎_elim (λ (over : ActivityIsOver nodes r.node c). g.seen r among over) (λ (low : (f : ℕ) × ⊥ × IsAbove nodes f r.node). absurd low.1) past;
        rim = λ f none. absurd none;
      })
      (λ f x none above. absurd none)

  pub give : (a : Activity) (n c : ℕ) (stage : Stage) → s.activities w ≡ Some (record a { stage = Steps n c }) → HasCome a.place c stage → Kept nodes (with_stage s w a stage)
  give a n c stage active (inl on_way) = subst (λ (x : Stage). Kept nodes (with_stage s w a x)) (sym on_way.1) (give_above a n c active on_way.0)
  give a n c stage active (inr there) = subst (λ (x : Stage). Kept nodes (with_stage s w a x)) (sym there.1) (give_there a n c active there.0)

  pub walk_down : (a : Activity) (n c : ℕ) (stack done : List ℕ) → s.activities w ≡ Some (record a { stage = Walks (n ∷ stack) done }) → IsParent nodes n c → NodeIsFree s c → ¬ IsAmong c done → AllPassAt s a.purpose n → Kept nodes (with_stage s w a (Walks (c ∷ n ∷ stack) done))
  walk_down a n c stack done active child free unfinished pass =
      let before : Activity = record a { stage = Walks (n ∷ stack) done } in
      let g = kept.going w before active in
      let fresh = fresh_child before n c active (inl refl) child free unfinished in
      put_keeps nodes s w (record a { stage = Walks (c ∷ n ∷ stack) done }) kept
      (λ x h.
      ⊎_elim
      (λ (same : x ≡ c). inr (subst (λ (y : ℕ). IsFresh nodes s y) (sym same) fresh))
      (λ (old : IsAmong x (n ∷ stack)). inl (before, active, old))
      h)
      (record {
        place = g.place;
        way = (child, g.way);
        mine = g.mine;
        seen = λ r among past.
            ⊎_elim
            (λ (over : ActivityIsOver nodes r.node c).
            ⊎_elim
            (λ (same : r.node ≡ n). pass r among same)
            (λ (higher : ActivityIsOver nodes r.node n). g.seen r among (inl higher))
            (over_parent nodes tree r.node n c child over))
            (λ (low : (f : ℕ) × IsAmong f done × IsAbove nodes f r.node). g.seen r among (inr low))
            past;
        rim = λ f fin.
            let rim = g.rim f fin in
            (rim.0, rim.1, ⊎_elim (λ (h : IsAmong rim.0 (n ∷ stack)). inl (inr h)) (λ (low : (g : ℕ) × IsAmong g done × IsAbove nodes g rim.0). inr low) rim.2);
      })
      (λ f x fin above. (
        λ h.
            ⊎_elim
            (λ (same : x ≡ c).
            subst (λ (y : ℕ). IsApartBelow nodes (record_effect a.purpose) y) (sym same) (fresh.clear w before f active fin (subst (λ (y : ℕ). IsAbove nodes f y) same above)))
            (λ (old : IsAmong x (n ∷ stack)). kept.shut w w before f x active fin above (before, active, old))
            h,
        λ v other holds. kept.shut w v before f x active fin above holds,
      ))

  pub walk_up : (a : Activity) (c n : ℕ) (stack done : List ℕ) → s.activities w ≡ Some (record a { stage = Walks (c ∷ n ∷ stack) done }) → AllPassAt s a.purpose c → AllFinishedOrApart nodes (record_effect a.purpose) c done → Kept nodes (with_stage s w a (Walks (n ∷ stack) (c ∷ done)))
  walk_up a c n stack done active pass below =
      let before : Activity = record a { stage = Walks (c ∷ n ∷ stack) done } in
      let g = kept.going w before active in
      put_keeps nodes s w (record a { stage = Walks (n ∷ stack) (c ∷ done) }) kept
      (λ x h. inl (before, active, inr h))
      (record {
        place = g.place;
        way = g.way.1;
        mine = g.mine;
        seen = λ r among past.
            ⊎_elim
            (λ (over : ActivityIsOver nodes r.node n). g.seen r among (inl (over_above nodes tree r.node n c over (parent_above nodes tree n c g.way.0))))
            (λ (low : (f : ℕ) × ((f ≡ c) ⊎ IsAmong f done) × IsAbove nodes f r.node).
            ⊎_elim
            (λ (here : low.0 ≡ c).
            let above = subst (λ (y : ℕ). IsAbove nodes y r.node) here low.2 in
            ⊎_elim
            (λ (same : c ≡ r.node). pass r among (sym same))
            (λ (other : c ≢ r.node).
            let next = child_toward nodes tree c r.node (record { above = above; other = other }) in
            ⊎_elim
            (λ (fin : IsAmong next.0 done). g.seen r among (inr (next.0, fin, next.2)))
            (λ (apart : IsApartBelow nodes (record_effect a.purpose) next.0). apart_passes s.tasks a.purpose r (apart r.effect r.node (kept.home r among).place next.2))
            (below next.0 next.1))
            (cases_eq c r.node))
            (λ (old : IsAmong low.0 done). g.seen r among (inr (low.0, old, low.2)))
            low.1)
            past;
        rim = λ f fin.
            ⊎_elim
            (λ (here : f ≡ c). (n, subst (λ (y : ℕ). IsParent nodes n y) (sym here) g.way.0, inl (inl refl)))
            (λ (old : IsAmong f done).
            let rim = g.rim f old in (
              rim.0,
              rim.1,
              ⊎_elim
                  (λ (h : IsAmong rim.0 (c ∷ n ∷ stack)).
                  ⊎_elim
                  (λ (same : rim.0 ≡ c). inr (c, inl refl, subst (λ (y : ℕ). IsAbove nodes c y) (sym same) (above_refl nodes tree c g.way.0.1)))
                  (λ (rest : IsAmong rim.0 (n ∷ stack)). inl rest)
                  h)
                  (λ (low : (g : ℕ) × IsAmong g done × IsAbove nodes g rim.0). inr (low.0, inr low.1, low.2))
                  rim.2,
            ))
            fin;
      })
      (λ f x fin above. (
        λ h.
            ⊎_elim
            (λ (here : f ≡ c).
            let low = subst (λ (y : ℕ). IsAbove nodes y x) here above in
            let high = stack_above nodes tree a.place g.place.there n stack x g.way.1 h in
            absurd (parent_other nodes tree n c g.way.0 (above_antisym nodes tree n c (parent_above nodes tree n c g.way.0) (above_trans nodes tree c x n low high))))
            (λ (old : IsAmong f done). kept.shut w w before f x active old above (before, active, inr h))
            fin,
        λ v other holds.
            ⊎_elim
            (λ (here : f ≡ c).
            let low = subst (λ (y : ℕ). IsAbove nodes y x) here above in
            ⊎_elim
            (λ (same : c ≡ x). absurd (other (kept.owner v w x holds (before, active, inl (sym same)))))
            (λ (differs : c ≢ x).
            let next = child_toward nodes tree c x (record { above = low; other = differs }) in
            ⊎_elim
            (λ (ended : IsAmong next.0 done). kept.shut w v before next.0 x active ended next.2 holds)
            (λ (apart : IsApartBelow nodes (record_effect a.purpose) next.0). apart_lower nodes tree (record_effect a.purpose) next.0 x next.2 apart)
            (below next.0 next.1))
            (cases_eq c x))
            (λ (old : IsAmong f done). kept.shut w v before f x active old above holds)
            fin,
      ))

  -- a child at and below which nothing stands and no lock is held is finished
  pub pass_by : (a : Activity) (n c : ℕ) (stack done : List ℕ) → s.activities w ≡ Some (record a { stage = Walks (n ∷ stack) done }) → IsParent nodes n c → ((m : ℕ) → IsAbove nodes c m → NodeIsFree s m)
      → ((r : Record) → IsAmong r s.records → ¬ IsAbove nodes c r.node) → Kept nodes (with_stage s w a (Walks (n ∷ stack) (c ∷ done)))
  pass_by a n c stack done active child free bare =
      let before : Activity = record a { stage = Walks (n ∷ stack) done } in
      let g = kept.going w before active in
      let held_free : (f x v : ℕ) → f ≡ c → IsAbove nodes f x → ¬ HoldsNode s.activities v x =
      λ f x v here above holds. free x (subst (λ (y : ℕ). IsAbove nodes y x) here above) v holds in
      put_keeps nodes s w (record a { stage = Walks (n ∷ stack) (c ∷ done) }) kept
      (λ x h. inl (before, active, h))
      (record {
        place = g.place;
        way = g.way;
        mine = g.mine;
        seen = λ r among past.
            ⊎_elim
            (λ (over : ActivityIsOver nodes r.node n). g.seen r among (inl over))
            (λ (low : (f : ℕ) × ((f ≡ c) ⊎ IsAmong f done) × IsAbove nodes f r.node).
            ⊎_elim
            (λ (here : low.0 ≡ c). absurd (bare r among (subst (λ (y : ℕ). IsAbove nodes y r.node) here low.2)))
            (λ (old : IsAmong low.0 done). g.seen r among (inr (low.0, old, low.2)))
            low.1)
            past;
        rim = λ f fin.
            ⊎_elim
            (λ (here : f ≡ c). (n, subst (λ (y : ℕ). IsParent nodes n y) (sym here) child, inl (inl refl)))
            (λ (old : IsAmong f done).
            let rim = g.rim f old in
            (rim.0, rim.1, ⊎_elim (λ (h : IsAmong rim.0 (n ∷ stack)). inl h) (λ (low : (g : ℕ) × IsAmong g done × IsAbove nodes g rim.0). inr (low.0, inr low.1, low.2)) rim.2))
            fin;
      })
      (λ f x fin above. (
        λ h.
            ⊎_elim
            (λ (here : f ≡ c). absurd (held_free f x w here above (before, active, h)))
            (λ (old : IsAmong f done). kept.shut w w before f x active old above (before, active, h))
            fin,
        λ v other holds.
            ⊎_elim
            (λ (here : f ≡ c). absurd (held_free f x v here above holds))
            (λ (old : IsAmong f done). kept.shut w v before f x active old above holds)
            fin,
      ))

  pub leave : (a : Activity) (ns : List ℕ) → s.activities w ≡ Some a → ((n : ℕ) → IsAmong n ns → IsAmong n (held a.stage)) → Kept nodes (with_stage s w a (Leaves ns))
  leave a ns active fewer =
      let g = kept.going w a active in
      put_keeps nodes s w (record a { stage = Leaves ns }) kept
      (λ x h. inl (a, active, fewer x h))
      (record { place = g.place; way = tt; mine = tt; seen = λ r among none. absurd none; rim = λ f none. absurd none })
      (λ f x none above. absurd none)

  begin_above : (a : Activity) → Begins nodes s w a → 0 ≢ a.place → Kept nodes (with_stage s w a (Descends 0))
  begin_above a b other =
      put_keeps nodes s w (record a { stage = Descends 0 }) kept
      (λ x h. ⊎_elim (λ (same : x ≡ 0). inr (subst (λ (y : ℕ). IsFresh nodes s y) (sym same) (fresh_root b.free))) (λ none. absurd none) h)
      (record {
        place = b.place;
        way = record { above = root_above nodes tree a.place b.place.there; other = other };
        mine = b.task;
        seen = λ r among past. absurd (past.other (root_lowest nodes tree r.node past.above));
        rim = λ f none. absurd none;
      })
      (λ f x none above. absurd none)

  begin_there : (a : Activity) → Begins nodes s w a → 0 ≡ a.place → Kept nodes (with_stage s w a (Walks (0 ∷ []) []))
  begin_there a b same =
      put_keeps nodes s w (record a { stage = Walks (0 ∷ []) [] }) kept
      (λ x h. ⊎_elim (λ (same : x ≡ 0). inr (subst (λ (y : ℕ). IsFresh nodes s y) (sym same) (fresh_root b.free))) (λ none. absurd none) h)
      (record {
        place = b.place;
        way = same;
        mine = b.task;
        seen = λ r among past.
            ⊎_elim
            (λ (over : ActivityIsOver nodes r.node 0). absurd (over.other (root_lowest nodes tree r.node over.above)))
            (λ (low : (f : ℕ) × ⊥ × IsAbove nodes f r.node). absurd low.1)
            past;
        rim = λ f none. absurd none;
      })
      (λ f x none above. absurd none)

  pub begin : (a : Activity) → Begins nodes s w a → Kept nodes (with_activity s w (Some a))
  begin a b =
      ⊎_elim
      (λ (on_way : (0 ≢ a.place) × (a.stage ≡ Descends 0)). subst (λ (x : Stage). Kept nodes (with_stage s w a x)) (sym on_way.1) (begin_above a b on_way.0))
      (λ (there : (0 ≡ a.place) × (a.stage ≡ Walks (0 ∷ []) [])). subst (λ (x : Stage). Kept nodes (with_stage s w a x)) (sym there.1) (begin_there a b there.0))
      b.stage
