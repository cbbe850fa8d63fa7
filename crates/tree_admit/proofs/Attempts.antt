-- What a seat knows of the records of a task after one errand more for one of its effects.
use Rattle.std.proofs.Common.{◌≡◌, ◌≢◌, ◌⊎◌, ◌<◌, ◌+◌, ℕ, Bool, true, false, List, [], ◌∷◌, Some, None, Result, Ok, if◌then◌else◌, length, get_or, refl, sym, ap, subst, ◌∙◌, inl, inr, ⊎_elim, arith}
use Rattle.std.specs.Prelude.{◌==◌, ◌&&◌, ◌↔◌, Contains, slice_get}
use Rattle.std.proofs.lemmas.Bool.{cases_eq}
use Rattle.std.proofs.lemmas.Bool.Decides.{Decides-and, Decides-eqb}
use Rattle.std.proofs.lemmas.List.Elements.{Contains-get_or}
use Rattle.std.proofs.lemmas.Option.{get_or_from_slice_get, slice_get-get_or, slice_get_read, slice_get_within}
use Rattle.region_paths.specs.declared.elements.Elem.{Elem}
use Rattle.effect_sets.specs.declared.effects.Effect.{Effect}
use Rattle.prefix_tree.specs.Nodes.{IsTreeOfPaths}
use Rattle.twe_base.specs.Limits.{Bounds}
use Rattle.twe_program.specs.Program.{Program}
use Rattle.floor_laws.specs.declared.rule.view.HeldTurn.{HeldTurn}
use Rattle.floor_laws.specs.declared.table.view.View.{View}
use Rattle.floor_laws.proofs.table.Added.{grown_then}
use Rattle.floor_laws.specs.table.FloorOf.{turn_in}
use Rattle.floor_laws.specs.admission.admission_core.States.{IsAmong, IsPlaceOf, Record}
use Rattle.floor_laws.proofs.admission.admission_core.EffectLemmas.{one_place}
use Rattle.floor_laws.specs.rule.nodes.FactSteps.{HasPlacedAll}
use Rattle.floor_laws.specs.rule.nodes.RecordSteps.{not_clear}
use Rattle.floor_laws.specs.rule.nodes.TurnSteps.{IsClearOf}
use Rattle.floor_laws.proofs.rule.nodes.Records.{clear_among}
use Rattle.floor_laws.specs.declared.table.nodes.slot.Errand.{Errand}
use Rattle.floor_laws.specs.declared.table.nodes.slot.ErrandKind.{ErrandKind}
use Rattle.floor_laws.specs.declared.table.nodes.view.TreeView.{TreeView}
use Rattle.floor_laws.specs.table.nodes.Seats.{TreeSeat, tree_seen, turns_seen}
use Rattle.floor_laws.specs.table.nodes.Without.{without_record}
use Rattle.floor_laws.proofs.table.nodes.Withouts.{without_is}
use Rattle.twe_base.specs.declared.memory.Memory.{Memory}
use Rattle.tree_admit.specs.declared.admitting.Admittance.{Admittance}
use Rattle.tree_admit.specs.declared.admitting.Admittance.TheVariants.{Held}
use Rattle.tree_admit.specs.declared.bars.Bar.{Bar}
use Rattle.tree_admit.specs.declared.bars.Attempt.{Attempt}
use Rattle.tree_admit.specs.declared.bars.Attempt.TheVariants.{Barred, Placed, Stood}
use Rattle.tree_admit.specs.declared.placing.Obstacle.{Obstacle}
use Rattle.tree_admit.specs.declared.placing.Obstacle.TheVariants.{InTheWay, NoMemory}
use Rattle.tree_admit.specs.Attempts.{HasMet, HasPlacedEach, HasPlacedFirst, HasPlacedNone, HasTakenOutFirst, HasTurnWith, IsObstacle, IsOneOfFirst, IsRecordOf, KeepsAllElse, MayTryToAdmit, RecordStands, WasBarredFor}
use Rattle.tree_admit.specs.Descents.{HasTakenOut, HasTried}
use Rattle.tree_admit.specs.Errands.{KnowsErrand, MaySetOutFor, record_of, with_clear, with_placed, with_removed}
use Rattle.tree_admit.specs.Going.{HasLeft, IsOutside}
use Rattle.tree_admit.specs.Outcomes.{HasPlaced, IsTakenOut, missing, placed, removed, stood}
use Rattle.tree_admit.specs.Alone.{MayNotAdmitIfAlone}
use Rattle.tree_admit.specs.inner.Served.{HasOnlyServed}
use Rattle.tree_admit.proofs.Alone.{forbids}
use Rattle.tree_admit.proofs.Learning.{barred_kept, barred_since}

-- Lists of records.

same_list : (x : Record) (l m : List Record) → l ≡ m → (IsAmong x l ↔ IsAmong x m)
same_list x l m same = (subst (IsAmong x) same, subst (IsAmong x) (sym same))

-- the records of other tasks stay
others_stay : (t n : ℕ) (x : Record) (l : List Record) → x.task ≢ t → IsAmong x l → IsAmong x (not_clear t n l)
others_stay t n x [] other among = absurd among
others_stay t n x (r ∷ l) other among = by (others_stay t n x l other) ((r.task == t) && (r.node == n)) refl among
  where
    by : (IsAmong x l → IsAmong x (not_clear t n l)) → (b : Bool) → ((r.task == t) && (r.node == n)) ≡ b → (x ≡ r) ⊎ IsAmong x l
        → IsAmong x (if b then not_clear t n l else r ∷ not_clear t n l)
    by rest true is (inl first) =
        absurd (other (ap (λ (y : Record). y.task) first ∙ ((Decides-and (r.task == t) (r.node == n) (Decides-eqb r.task t) (Decides-eqb r.node n)).0 is).0))
    by rest true is (inr later) = rest later
    by rest false is (inl first) = inl first
    by rest false is (inr later) = inr (rest later)

module _ (t : ℕ) (r x : Record) (own : r.task ≡ t) (other : x.task ≢ t) where
  not_this : x ≢ r
  not_this same = other (ap (λ (y : Record). y.task) same ∙ own)

  other_behind : (l : List Record) → (IsAmong x (r ∷ l) ↔ IsAmong x l)
  other_behind l = (λ among. ⊎_elim (λ (first : x ≡ r). absurd (not_this first)) (λ (later : IsAmong x l). later) among, λ among. inr among)

  other_clear : (n : ℕ) (l : List Record) → (IsAmong x (not_clear r.task n l) ↔ IsAmong x l)
  other_clear n l = (
    λ among. (clear_among r.task n x l among).0,
    λ among. others_stay r.task n x l (λ same. other (same ∙ own)) among,
  )

  other_without : (l : List Record) → (IsAmong x (without_record r l) ↔ IsAmong x l)
  other_without l = (λ among. ((without_is r l x).0 among).0, λ among. (without_is r l x).1 (among, not_this))

over : (x : Record) (l m k : List Record) → l ≡ m → (IsAmong x m ↔ IsAmong x k) → (IsAmong x l ↔ IsAmong x k)
over x l m k same h = subst (λ (n : List Record). IsAmong x n ↔ IsAmong x k) (sym same) h

-- One errand.

module _ (t : ℕ) (before after : TreeSeat) (outside : IsOutside before.0) where
  pub left_keeps : HasLeft before.0 before.1 None after → KeepsAllElse t before after
  left_keeps h = record {
    outside = record { idle = h.left; none = λ n. h.kept n ∙ outside.none n };
    slots = h.slots;
    floor = h.learned.floor;
    done = h.learned.done;
    waits = h.learned.waits;
    kept = h.learned.kept;
    looks = h.learned.looks;
    fresh = λ x other. same_list x after.0.fresh before.0.fresh h.learned.fresh;
    clear = λ x other. same_list x after.0.clear before.0.clear h.learned.clear;
  }

  module _ (r : Record) (own : r.task ≡ t) where
    now_placed : HasLeft (with_placed r before.0) before.1 None after → KeepsAllElse t before after
    now_placed h = record {
      outside = record { idle = h.left; none = λ n. h.kept n ∙ outside.none n };
      slots = h.slots;
      floor = h.learned.floor;
      done = h.learned.done;
      waits = h.learned.waits;
      kept = h.learned.kept;
      looks = h.learned.looks;
      fresh = λ x other. over x after.0.fresh (r ∷ before.0.fresh) before.0.fresh h.learned.fresh (other_behind t r x own other before.0.fresh);
      clear = λ x other.
          over x after.0.clear (not_clear r.task r.node before.0.clear) before.0.clear h.learned.clear (other_clear t r x own other r.node before.0.clear);
    }

    now_removed : HasLeft (with_removed r before.0) before.1 None after → KeepsAllElse t before after
    now_removed h = record {
      outside = record { idle = h.left; none = λ n. h.kept n ∙ outside.none n };
      slots = h.slots;
      floor = h.learned.floor;
      done = h.learned.done;
      waits = h.learned.waits;
      kept = h.learned.kept;
      looks = h.learned.looks;
      fresh = λ x other. over x after.0.fresh (without_record r before.0.fresh) before.0.fresh h.learned.fresh (other_without t r x own other before.0.fresh);
      clear = λ x other. over x after.0.clear (r ∷ before.0.clear) before.0.clear h.learned.clear (other_behind t r x own other before.0.clear);
    }

    now_clear : HasLeft (with_clear r before.0) before.1 None after → KeepsAllElse t before after
    now_clear h = record {
      outside = record { idle = h.left; none = λ n. h.kept n ∙ outside.none n };
      slots = h.slots;
      floor = h.learned.floor;
      done = h.learned.done;
      waits = h.learned.waits;
      kept = h.learned.kept;
      looks = h.learned.looks;
      fresh = λ x other. same_list x after.0.fresh before.0.fresh h.learned.fresh;
      clear = λ x other. over x after.0.clear (r ∷ before.0.clear) before.0.clear h.learned.clear (other_behind t r x own other before.0.clear);
    }

    pub placed_keeps : HasPlaced before r after → KeepsAllElse t before after
    placed_keeps (placed h) = now_placed h
    placed_keeps (stood among h) = left_keeps h

    pub taken_keeps : IsTakenOut before r after → KeepsAllElse t before after
    taken_keeps (removed h) = now_removed h
    taken_keeps (missing none h) = now_clear h

-- what is fresh and what is clear once a record was placed
placed_there : (before after : TreeSeat) (r : Record) → HasPlaced before r after
    → IsAmong r after.0.fresh × ((x : Record) → (IsAmong x after.0.fresh → (x ≡ r) ⊎ IsAmong x before.0.fresh) × (IsAmong x before.0.fresh → IsAmong x after.0.fresh))
placed_there before after r (placed h) = (
  subst (IsAmong r) (sym h.learned.fresh) (inl refl),
  λ x. (subst (IsAmong x) h.learned.fresh, λ among. subst (IsAmong x) (sym h.learned.fresh) (inr among)),
)
placed_there before after r (stood among h) = (
  subst (IsAmong r) (sym h.learned.fresh) among,
  λ x. (λ there. inr (subst (IsAmong x) h.learned.fresh there), subst (IsAmong x) (sym h.learned.fresh)),
)

-- what is fresh once a record was taken out
taken_fresh : (before after : TreeSeat) (r : Record) → IsTakenOut before r after
    → (¬ IsAmong r after.0.fresh) × ((x : Record) → IsAmong x after.0.fresh → IsAmong x before.0.fresh)
taken_fresh before after r (removed h) = (
  λ among. ((without_is r before.0.fresh r).0 (subst (IsAmong r) h.learned.fresh among)).1 refl,
  λ x among. ((without_is r before.0.fresh x).0 (subst (IsAmong x) h.learned.fresh among)).0,
)
taken_fresh before after r (missing none h) = (
  λ among. none (subst (IsAmong r) h.learned.fresh among),
  λ x among. subst (IsAmong x) h.learned.fresh among,
)

-- and what is clear
taken_clear : (before after : TreeSeat) (r : Record) → IsTakenOut before r after
    → IsAmong r after.0.clear × ((x : Record) → IsAmong x before.0.clear → IsAmong x after.0.clear)
taken_clear before after r (removed h) =
    (subst (IsAmong r) (sym h.learned.clear) (inl refl), λ x among. subst (IsAmong x) (sym h.learned.clear) (inr among))
taken_clear before after r (missing none h) =
    (subst (IsAmong r) (sym h.learned.clear) (inl refl), λ x among. subst (IsAmong x) (sym h.learned.clear) (inr among))

-- What keeps all else.

pub keeps_trans : (t : ℕ) (a b c : TreeSeat) → KeepsAllElse t a b → KeepsAllElse t b c → KeepsAllElse t a c
keeps_trans t a b c h k = record {
  outside = k.outside;
  slots = k.slots ∙ h.slots;
  floor = k.floor ∙ ap (λ (f : View). record f { done = c.0.floor.done }) h.floor;
  done = λ fact among. k.done fact (h.done fact among);
  waits = λ fact among. k.waits fact (h.waits fact among);
  kept = grown_then a.0.kept b.0.kept c.0.kept h.kept k.kept;
  looks = grown_then a.0.looks b.0.looks c.0.looks h.looks k.looks;
  fresh = λ x other. (λ among. (h.fresh x other).0 ((k.fresh x other).0 among), λ among. (k.fresh x other).1 ((h.fresh x other).1 among));
  clear = λ x other. (λ among. (h.clear x other).0 ((k.clear x other).0 among), λ among. (k.clear x other).1 ((h.clear x other).1 among));
}

pub turn_still : (t u : ℕ) (effects : List Effect) (turn : HeldTurn) (before after : TreeSeat) → HasTurnWith before.0 u effects turn → KeepsAllElse t before after
    → HasTurnWith after.0 u effects turn
turn_still t u effects turn before after h k = record { has = ap (λ (f : View). turn_in f.turns u) k.floor ∙ h.has; its = h.its }

-- what an attempt is held by
pub held_by : (a b : Bar) → ◌≡◌ {A = Result Admittance Memory} (Ok (Held a)) (Ok (Held b)) → a ≡ b
held_by a b same = cc

-- Effects and their records.

some_one : (e f : Effect) → Some e ≡ Some f → e ≡ f
some_one e f same = cc

module _ (nodes : List (List Elem)) (t : ℕ) (effects : List Effect) where
  -- one of the first effects is the last of them, or is one of those before it
  last_or_before : (k : ℕ) (x : Record) → IsOneOfFirst nodes t effects (k + 1) x → IsRecordOf nodes t effects k x ⊎ IsOneOfFirst nodes t effects k x
  last_or_before k x (j, less, is) =
      ⊎_elim
      (λ (same : j ≡ k). inl (subst (λ (i : ℕ). IsRecordOf nodes t effects i x) same is))
      (λ (other : j ≢ k). inr (j, omega (arith, less, other), is))
      (cases_eq j k)

  one_more : (k : ℕ) (x : Record) → IsOneOfFirst nodes t effects k x → IsOneOfFirst nodes t effects (k + 1) x
  one_more k x (j, less, is) = (j, omega (arith, less), is)

  module _ (tree : IsTreeOfPaths nodes) where
    -- each effect has one record
    one_record : (k : ℕ) (x r : Record) → IsRecordOf nodes t effects k x → IsRecordOf nodes t effects k r → x ≡ r
    one_record k x r h g =
        let effect : x.effect ≡ r.effect = some_one x.effect r.effect (sym h.effect ∙ g.effect) in
        let node : x.node ≡ r.node = one_place nodes tree r.effect x.node r.node (subst (λ (e : Effect). IsPlaceOf nodes e x.node) effect h.place) g.place in
        let task : x.task ≡ r.task = h.task ∙ sym g.task in
        λ i. record { task = task i; effect = effect i; node = node i }

    pub taken_more : (k : ℕ) (before middle after : TreeSeat) (r : Record) → HasTakenOutFirst nodes t effects k before middle → IsRecordOf nodes t effects k r
        → IsTakenOut middle r after → HasTakenOutFirst nodes t effects (k + 1) before after
    taken_more k before middle after r h is done =
        let fresh = taken_fresh middle after r done in
        let clear = taken_clear middle after r done in
        record {
          keeps = keeps_trans t before middle after h.keeps (taken_keeps t middle after h.keeps.outside r is.task done);
          each = λ x one.
              ⊎_elim
              (λ (last : IsRecordOf nodes t effects k x). subst (λ (y : Record). IsAmong y after.0.clear) (sym (one_record k x r last is)) clear.0)
              (λ (earlier : IsOneOfFirst nodes t effects k x). clear.1 x (h.each x earlier))
              (last_or_before k x one);
          gone = λ x one among.
              ⊎_elim
              (λ (last : IsRecordOf nodes t effects k x). fresh.0 (subst (λ (y : Record). IsAmong y after.0.fresh) (one_record k x r last is) among))
              (λ (earlier : IsOneOfFirst nodes t effects k x). h.gone x earlier (fresh.1 x among))
              (last_or_before k x one);
          only = λ x among. h.only x (fresh.1 x among);
        }

  pub placed_more : (k : ℕ) (before middle after : TreeSeat) (r : Record) → HasPlacedFirst nodes t effects k before middle → IsRecordOf nodes t effects k r
      → HasPlaced middle r after → HasPlacedFirst nodes t effects (k + 1) before after
  placed_more k before middle after r h is done =
      let there = placed_there middle after r done in
      record {
        keeps = keeps_trans t before middle after h.keeps (placed_keeps t middle after h.keeps.outside r is.task done);
        each = λ j e less at.
            ⊎_elim
            (λ (same : j ≡ k).
            let here : slice_get effects k ≡ Some e = subst (λ (i : ℕ). slice_get effects i ≡ Some e) same at in
            let effect : r.effect ≡ e = some_one r.effect e (sym is.effect ∙ here) in
            let this : r ≡ record { task = t; effect = e; node = r.node } = λ i. record { task = is.task i; effect = effect i; node = r.node } in
            (r.node, subst (λ (f : Effect). IsPlaceOf nodes f r.node) effect is.place, subst (λ (x : Record). IsAmong x after.0.fresh) this there.0))
            (λ (other : j ≢ k).
            let was = h.each j e (omega (arith, less, other)) at in
            (was.0, was.1, (there.1 (record { task = t; effect = e; node = was.0 })).1 was.2))
            (cases_eq j k);
        only = λ x among.
            ⊎_elim
            (λ (same : x ≡ r). inr (k, omega arith, subst (λ (y : Record). IsRecordOf nodes t effects k y) (sym same) is))
            (λ (was : IsAmong x middle.0.fresh).
            ⊎_elim (λ (old : IsAmong x before.0.fresh). inl old) (λ (one : IsOneOfFirst nodes t effects k x). inr (one_more k x one)) (h.only x was))
            ((there.1 x).0 among);
      }

  -- before the first effect it has placed no record of the task, if it had placed none
  pub none_before : (k : ℕ) (before middle : TreeSeat) → k ≡ 0 → HasPlacedNone before.0 t → HasPlacedFirst nodes t effects k before middle → HasPlacedNone middle.0 t
  none_before k before middle start none first = λ r among.
      ⊎_elim (λ (old : IsAmong r before.0.fresh). none r old)
      (λ (new : IsOneOfFirst nodes t effects k r). let low = new.1 in absurd (omega (arith, low, start))) (first.only r among)

  -- whoever met an obstacle has placed what it had placed
  pub placed_still : (k : ℕ) (before middle after : TreeSeat) → HasPlacedFirst nodes t effects k before middle → HasLeft middle.0 middle.1 None after
      → HasPlacedFirst nodes t effects k before after
  placed_still k before middle after h left = record {
    keeps = keeps_trans t before middle after h.keeps (left_keeps t middle after h.keeps.outside left);
    each = λ j e less at.
        let was = h.each j e less at in
        (was.0, was.1, subst (IsAmong (record { task = t; effect = e; node = was.0 })) (sym left.learned.fresh) was.2);
    only = λ x among. h.only x (subst (IsAmong x) left.learned.fresh among);
  }

  -- All effects.

  contained : (e : Effect) → Contains effects e → (j : ℕ) × (j < length effects) × (slice_get effects j ≡ Some e)
  contained e there = (there.0, there.1, slice_get-get_or effects there.0 e there.1 ∙ ap (λ (f : Effect). Some f) there.2)

  pub each_placed : (before after : TreeSeat) → HasPlacedFirst nodes t effects (length effects) before after → HasPlacedEach nodes after.0 t effects
  each_placed before after h e contains = let there = contained e contains in h.each there.0 e there.1 there.2

  pub each_clear : (before after : TreeSeat) → HasTakenOutFirst nodes t effects (length effects) before after → IsClearOf nodes (tree_seen after.0) 0 t effects
  each_clear before after h e n contains place =
      let there = contained e contains in
      h.each (record { task = t; effect = e; node = n }) (there.0, there.1, record { task = refl; effect = there.2; place = place })

  -- who has placed a record for each effect of a task that is to be admitted may draw its admission
  pub placed_all : (before after : TreeSeat) → MayTryToAdmit before.0 t effects → HasPlacedFirst nodes t effects (length effects) before after
      → HasPlacedAll nodes (turns_seen after.0) (tree_seen after.0) 0 t
  placed_all before after may h = record {
    turn = may.turn;
    has = (turn_still t t effects may.turn before after may.has h.keeps).has;
    taken = may.taken;
    made = may.made;
    all = λ e contains. each_placed before after h e (subst (λ (l : List Effect). Contains l e) may.has.its contains);
  }

  -- what was placed was taken out again
  pub backed_out : (k : ℕ) (before middle after : TreeSeat) → HasPlacedNone before.0 t → HasPlacedFirst nodes t effects k before middle
      → HasTakenOutFirst nodes t effects k middle after → HasPlacedNone after.0 t
  backed_out k before middle after none h out r among own =
      ⊎_elim
      (λ (old : IsAmong r before.0.fresh). none r old own)
      (λ (one : IsOneOfFirst nodes t effects k r). out.gone r one among)
      (h.only r (out.only r among))

  -- of the floor it knows what it knew
  kept_served : (a b : TreeSeat) → KeepsAllElse t a b → HasOnlyServed t a.0.floor b.0.floor
  kept_served a b keeps = record {
    kind = ap (λ (f : View). f.kind) keeps.floor;
    out = ap (λ (f : View). f.out) keeps.floor;
    part = ap (λ (f : View). f.part) keeps.floor;
    turns = λ w other. ap (λ (f : View). turn_in f.turns w) keeps.floor;
    own = λ turn has. ap (λ (f : View). turn_in f.turns t) keeps.floor ∙ has;
  }

  -- what was in the way of the only seat forbids the admission
  pub barred_forbids : (p : Program) (lim : Bounds) (v w : TreeView) (bar : Bar) → MayTryToAdmit v t effects → WasBarredFor p lim v w t effects bar → bar.by < lim.tasks → MayNotAdmitIfAlone p lim v.floor t
  barred_forbids p lim v w bar may (e, contains, (content, added, (r, among, is))) low st alone only =
      forbids p lim v.floor st t r e may.turn (is.alone low st alone only) is.other may.has.has (subst (λ (es : List Effect). Contains es e) (sym may.has.its) contains) is.meets

  -- what was in the way was so
  pub barred_still : (p : Program) (lim : Bounds) (since before after : TreeSeat) (bar : Bar) → KeepsAllElse t before after → WasBarredFor p lim since.0 before.0 t effects bar → WasBarredFor p lim since.0 after.0 t effects bar
  barred_still p lim since before after bar keeps (e, contains, was) =
      (e, contains, barred_kept p lim t e since.0 before.0 after.0 bar (record { waits = keeps.waits; kept = keeps.kept; looks = keeps.looks }) was)

  -- what was met now was met since any seat before
  pub met_since : (p : Program) (lim : Bounds) (kind : ErrandKind) (a b c : TreeSeat) (by : Obstacle) → KeepsAllElse t a b → IsObstacle p lim kind b.0 c.0 t effects by → IsObstacle p lim kind a.0 c.0 t effects by
  met_since p lim kind a b c (InTheWay bar) keeps (is, (e, contains, was)) = (is, (e, contains, barred_since p lim t e a.0 b.0 c.0 bar keeps.kept keeps.looks (kept_served a b keeps) was))
  met_since p lim kind a b c (NoMemory memory) keeps is = tt

  -- One effect.

  pub effect_at : (k : ℕ) (e : Effect) → k < length effects → e ≡ get_or effects k e → slice_get effects k ≡ Some e
  effect_at k e within is = slice_get_read effects (length effects) k e refl within is

  module _ (kind : ErrandKind) (k place : ℕ) (e : Effect) (at : slice_get effects k ≡ Some e) (there : IsPlaceOf nodes e place) where
    -- the errand for the effect, and its record
    abbrev pub errand : Errand
    errand = record { kind = kind; task = t; effect = k; place = place }

    record_is : IsRecordOf nodes t effects k (record_of errand e)
    record_is = record { task = refl; effect = at; place = there }

    contains : Contains effects e
    contains = subst (Contains effects) (get_or_from_slice_get effects k e e at) (Contains-get_or effects k e (slice_get_within effects k e at))

    pub errand_for : (P : HeldTurn → Type 0) (v : TreeView) (turn : HeldTurn) → HasTurnWith v t effects turn → MaySetOutFor kind turn → P turn
        → (knows : KnowsErrand nodes v errand e) × P knows.turn
    errand_for P v turn has may more = (
      record { turn = turn; has = has.has; effect = ap (λ (l : List Effect). slice_get l k) has.its ∙ at; place = there; may = may },
      more,
    )

    pub placed_of : (p : Program) (lim : Bounds) (before after : TreeSeat) (attempt : Attempt) → attempt ≡ Placed → HasTried p lim before.0 before.1 errand e attempt after → RecordStands nodes t effects k before after
    placed_of p lim before after attempt is came = (record_of errand e, record_is, placed (subst (λ (a : Attempt). HasTried p lim before.0 before.1 errand e a after) is came))

    pub stood_of : (p : Program) (lim : Bounds) (before after : TreeSeat) (attempt : Attempt) → attempt ≡ Stood → HasTried p lim before.0 before.1 errand e attempt after → RecordStands nodes t effects k before after
    stood_of p lim before after attempt is came =
        let found = subst (λ (a : Attempt). HasTried p lim before.0 before.1 errand e a after) is came in
        (record_of errand e, record_is, stood found.1 found.0)

    pub barred_of : (p : Program) (lim : Bounds) (before after : TreeSeat) (attempt : Attempt) (bar : Bar) → attempt ≡ Barred bar → HasTried p lim before.0 before.1 errand e attempt after
        → HasMet p lim kind t effects (InTheWay bar) before after
    barred_of p lim before after attempt bar is came =
        let found = subst (λ (a : Attempt). HasTried p lim before.0 before.1 errand e a after) is came in
        (found.0, (found.1, (e, contains, found.2)))

    pub taken_out_of : (before after : TreeSeat) (taken : Bool) → HasTakenOut before.0 before.1 errand e taken after
        → (r : Record) × IsRecordOf nodes t effects k r × IsTakenOut before r after
    taken_out_of before after true out = (record_of errand e, record_is, removed out)
    taken_out_of before after false out = (record_of errand e, record_is, missing out.1 out.0)
