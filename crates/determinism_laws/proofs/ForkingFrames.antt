-- The frames of a sequential execution of a deterministic declaration: they spawn deterministic tasks and join their own
-- unjoined children, and do nothing else that has to do with tasks.
use Rattle.std.proofs.Common.{◌≡◌, ◌≢◌, ◌⊎◌, ◌<◌, ◌≤◌, ◌+◌, ◌==◌, ◌||◌, not, ℕ, zero, suc, ℤ, Bool, true, false, IsTrue, List, [], ◌∷◌, length, replicate, Contains, Option, None, Some, inl, inr, refl, sym, ap, ◌∙◌, subst, arith, eq-eqb, eqb-true}
use Rattle.std.specs.Prelude.{slice_get}
use Rattle.std.specs.List.{list_any}
use Rattle.std.proofs.lemmas.Bool.{cases_Bool, cases_eq, false≢true}
use Rattle.std.proofs.lemmas.Option.{slice_get_within}
use Rattle.twe_base.specs.declared.place.Place.{Place}
use Rattle.twe_base.specs.Limits.{Bounds}
use Rattle.effect_sets.specs.declared.effects.Summary.{Summary}
use Rattle.twe_program.specs.declared.program.Body.{Body}
use Rattle.twe_program.specs.declared.program.Decl.{Decl}
use Rattle.twe_program.specs.Program.{Program}
use Rattle.twe_program.specs.Statement.{Statement, Statements, Make, Wait, no_more, statement}
use Rattle.twe_program.specs.WellFormed.{IsWellFormed}
use Rattle.cover_flow.specs.ControlPath.{ControlPath, Path, end_of, point_of}
use Rattle.cover_flow.specs.Out.{out_after}
use Rattle.cover_flow.specs.Steps.{Steps, StepsFar}
use Rattle.cover_flow.proofs.SteppingBack.{steps-back}
use Rattle.effect_check.specs.declared.rule.ERule.TheVariants.{E4}
use Rattle.effect_check.specs.Acts.{is_deterministic, wait}
use Rattle.effect_check.specs.FailsEffect.{joined}
use Rattle.effect_check.proofs.Members.{IsIn, both-true, contains-in, in-contains, in-left, in-right}
use Rattle.seg_meaning.specs.declared.frame.Frame.{Frame}
use Rattle.seg_meaning.specs.declared.frame.Next.{Next}
use Rattle.seg_meaning.specs.declared.frame.Next.TheVariants.{Get, Join}
use Rattle.seg_meaning.specs.declared.stop.Stop.{Stop}
use Rattle.seg_meaning.specs.declared.stop.Stop.TheVariants as stops
use Rattle.seg_meaning.specs.Entry.{entry_frame}
use Rattle.seg_meaning.specs.Giving.{given, without}
use Rattle.seg_meaning.specs.Meaning.{body_of}
use Rattle.seg_meaning.specs.Segment.{Stopped, segment, task_of}
use Rattle.isolation_laws.specs.soundness.KeepsEffects.{KeepsEffects}
use Rattle.machine_state.specs.segment_laws.Keeps.{IsClosing, NextAfter, SegmentKeeps}
use Rattle.machine_state.specs.segment_laws.Left.{body_left, left_of}
use Rattle.machine_state.specs.segment_laws.Operations.{ComesToMake, ComesToWait}
use Rattle.machine_state.specs.segment_laws.Passes.{Passes}
use Rattle.machine_state.specs.segment_laws.Ready.{IsReady, futures_at}
use Rattle.machine_state.proofs.segment_laws.BeingReady.{entry_ready, ready_declared, ready_given, ready_later, ready_made, ready_same}
use Rattle.machine_state.proofs.segment_laws.Following.{given_left, gets_follow, joins_follow, makes_follow}
use Rattle.machine_state.proofs.segment_laws.SegmentKept.{segment_keeps}
use Rattle.machine_state.specs.Moves.{frame_without_prints, making_frame}
use Rattle.machine_state.proofs.lists.Members.{contains_in, in_contains, in_without}
use Rattle.isolation_laws.proofs.frames.Frames.{given_futures, given_none, given_out, still_out}
use Rattle.isolation_laws.proofs.paths.FuturesOut.{Reached, out-quiet, reached_more, reached_start}
use Rattle.isolation_laws.proofs.paths.MakesInBodies.{make_act, reached_acts}
use Rattle.isolation_laws.proofs.rows.ListElements.{get_set_other, get_set_within}
use Rattle.isolation_laws.proofs.soundness.Given.{given_decl}
use Rattle.isolation_laws.proofs.soundness.Sound.{got-in}
use Rattle.determinism_laws.specs.elision.Elision.{first_frame, is_child}
use Rattle.determinism_laws.proofs.BodyRules.{gets_nothing, spawns_only}

-- The future stands for an unjoined child of the frame.
abbrev pub StandsNow : Frame → ℕ → Type 0
StandsNow frame f = (u : ℕ) × (slice_get frame.futures f ≡ Some (Some u)) × IsIn u frame.out.items

-- A control path leads to what is left of the frame's body, and each future that is out after it stands for such a child.
pub record OutNow (p : Program) (frame : Frame) : Type 0 where
  pub path : Path
  pub reached : Reached (body_of (slice_get p.tasks frame.decl)) (left_of p frame) path
  pub children : (f : ℕ) → IsTrue (out_after f path) → StandsNow frame f

-- A frame of a deterministic declaration that may run its next segment. Its futures stand for different tasks, all with
-- numbers below this one.
pub record Forking (p : Program) (frame : Frame) (count : ℕ) : Type 0 where
  pub flag : IsTrue (is_deterministic (slice_get p.tasks frame.decl))
  pub ready : IsReady p frame
  pub below : (f u : ℕ) → slice_get frame.futures f ≡ Some (Some u) → u < count
  pub apart : (f g u : ℕ) → slice_get frame.futures f ≡ Some (Some u) → slice_get frame.futures g ≡ Some (Some u) → f ≡ g
  pub out : ¬ (frame.body ≡ None) → OutNow p frame

pub forking_later : (p : Program) (frame : Frame) (count more : ℕ) → count ≤ more → Forking p frame count → Forking p frame more
forking_later p frame count more le forking = record {
  flag = forking.flag;
  ready = forking.ready;
  below = λ f u stands. let less = forking.below f u stands in omega (arith, less, le);
  apart = forking.apart;
  out = forking.out;
}

no_future : (n f u : ℕ) → slice_get (replicate {A = Option ℕ} n None) f ≡ Some (Some u) → ⊥
no_future zero f u e = absurd (cc (e))
no_future (suc n) zero u e = absurd (cc (e))
no_future (suc n) (suc f) u e = no_future n f u e

-- before its first segment
pub first_forking : (p : Program) → IsWellFormed p → (lim : Bounds) (number task : ℕ) (args : List ℤ) (count : ℕ) → IsTrue (is_deterministic (slice_get p.tasks task))
    → Forking p (first_frame lim number (entry_frame p task args)) count
first_forking p wf lim number task args count flag = record {
  flag = flag;
  ready = ready_same p (entry_frame p task args) (first_frame lim number (entry_frame p task args)) refl refl refl (entry_ready p wf task args);
  below = λ f u stands. absurd (no_future _ f u stands);
  apart = λ f g u stands other. absurd (no_future _ f u stands);
  out = λ some. record {
    path = [];
    reached = reached_start (body_of (slice_get p.tasks task));
    children = λ f out. absurd (false≢true out);
  };
}

-- Where no statement is left, no operation is reached.

no_steps : (n : ℕ) (first : Statement) (others : Statements) (path later : Path) → StepsFar n no_more path (statement first others) later → ⊥
no_steps zero first others path later far = let same = far.0 in absurd (cc)
no_steps (suc n) first others path later far = absurd far.2

no_passes : (from : Statements) (path : Path) (operation : Statement) (others : Statements) (later : Path) → from ≡ no_more → Passes from path operation others later → ⊥
no_passes from path operation others later none passes =
    no_steps passes.steps operation others path later (subst (λ (x : Statements). StepsFar passes.steps x path (statement operation others) later) none passes.far)

control_path : (body : Body) (first : Statement) (others : Statements) (path : Path) → Reached body.block (statement first others) path → ControlPath body (point_of first) path
control_path body first others path reached =
    elim (steps-back (end_of body) (point_of first) path reached.steps body.block [] (statement first others) reached.far refl) [
      | inl within ↦ inl within
      | inr through ↦ inr through
    ]

others_in : (u on : ℕ) (out : List ℕ) → u ≢ on → IsIn u out → IsIn u (without on out)
others_in u on out differ h =
    contains-in (without on out) u (in_contains (without on out) u (in_without out on u differ (contains_in out u (in-contains out u h))))

any_here : (a b : Bool) → a ≡ true → (a || b) ≡ true
any_here true b e = refl
any_here false b e = absurd (cc (e))

any_more : (a b : Bool) → b ≡ true → (a || b) ≡ true
any_more true b e = refl
any_more false b e = e

is_in_any : (child : ℕ) (out : List ℕ) → IsIn child out → list_any (λ c. c == child) out ≡ true
is_in_any child [] there = absurd there
is_in_any child (first ∷ others) (inl here) = any_here (first == child) (list_any (λ c. c == child) others) (eq-eqb first child (sym here))
is_in_any child (first ∷ others) (inr later) = any_more (first == child) (list_any (λ c. c == child) others) (is_in_any child others later)

declared_by : (o : Option Decl) → IsTrue (is_deterministic o) → (decl : Decl) × (o ≡ Some decl) × IsTrue decl.deterministic
declared_by None flag = absurd (false≢true flag)
declared_by (Some decl) flag = (decl, refl, flag)

-- One segment.
module _ (p : Program) (wf : IsWellFormed p) (keeps : KeepsEffects p) (frame : Frame) (cells : List ℤ) (count : ℕ) (forking : Forking p frame count) where
  abbrev left : Stopped
  left = segment p frame cells

  abbrev ended : Frame
  ended = left.frame

  abbrev bare : Frame
  bare = frame_without_prints ended

  abbrev rest : Statements
  rest = left_of p ended

  abbrev body : Statements
  body = body_of (slice_get p.tasks frame.decl)

  kept : SegmentKeeps frame cells left
  kept = segment_keeps p frame cells

  decl : (decl : Decl) × (slice_get p.tasks frame.decl ≡ Some decl) × IsTrue decl.deterministic
  decl = declared_by (slice_get p.tasks frame.decl) forking.flag

  listed : Contains p.tasks decl.0
  listed = in-contains p.tasks decl.0 (got-in p.tasks frame.decl decl.0 decl.1)

  pub has_body : (operation : Statement) (path later : Path) → Passes (left_of p frame) path operation rest later → ¬ (frame.body ≡ None)
  has_body operation path later passes none = no_passes (left_of p frame) path operation rest later (ap (body_left p frame.decl) none) passes

  module _ (on_path : OutNow p frame) (operation : Statement) (later : Path) (passes : Passes (left_of p frame) on_path.path operation rest later) where
    reached_there : Reached body (statement operation rest) later
    reached_there = reached_more body (left_of p frame) (statement operation rest) on_path.path later passes.steps on_path.reached passes.far

    reached_body : Reached (decl.0).body.block (statement operation rest) later
    reached_body = subst (λ (o : Option Decl). Reached (body_of o) (statement operation rest) later) decl.1 reached_there

    past_it : Steps (statement operation rest) later rest (operation ∷ later) → Reached body rest (operation ∷ later)
    past_it step = reached_more body (statement operation rest) rest later (operation ∷ later) 1 reached_there (rest, operation ∷ later, step, (refl, refl))

    -- a future that is out at the operation stands for a child
    child_there : (f : ℕ) → IsTrue (out_after f later) → (u : ℕ) × (slice_get frame.futures f ≡ Some (Some u)) × IsIn u ended.out.items
    child_there f out =
        let before : IsTrue (out_after f on_path.path) = sym (ap (out_after f) passes.same ∙ out-quiet f passes.passed on_path.path passes.quiet) ∙ out in
        let child = on_path.children f before in
        (child.0, child.1, subst (IsIn child.0) (sym kept.out) child.2)

  -- It gets no value.
  pub never_gets : (on : ℕ) (into : Option ℕ) → ¬ (ended.next ≡ Get on into)
  never_gets on into next =
      let first = gets_follow p frame cells [] on into next in
      let on_path = forking.out (has_body _ [] first.later first.passes) in
      let comes = gets_follow p frame cells on_path.path on into next in
      let operation = Wait comes.point comes.future false into comes.place in
      let act = reached_acts p (decl.0).body.block (statement operation rest) comes.later (wait comes.point comes.future false comes.place)
      (reached_body on_path operation comes.later comes.passes) (inl refl) in
      gets_nothing p keeps decl.0 listed decl.2 comes.point comes.future comes.place act

  -- A make.

  module _ (child : Frame) (args : List ℤ) (effects : Summary) (spawned : Bool) (future : ℕ) (place : Place) (stop : left.stop ≡ stops.Make child args effects spawned future place) where
    abbrev make_path : OutNow p frame
    make_path = let first = makes_follow p frame cells [] child args effects spawned future place stop in forking.out (has_body _ [] first.later first.passes)

    abbrev making : ComesToMake p frame ended make_path.path child args effects spawned future place
    making = makes_follow p frame cells make_path.path child args effects spawned future place stop

    abbrev make : Statement
    make = Make making.point future making.task making.given spawned making.future_place place

    -- it spawns a deterministic task
    pub only_spawns : (spawned ≡ true) × IsTrue (is_deterministic (slice_get p.tasks making.task))
    only_spawns =
        let act = make_act (decl.0).body.block making.point future making.task making.given spawned making.future_place place rest making.later
        (reached_body make_path make making.later making.passes) p in
        spawns_only p keeps decl.0 listed decl.2 making.point future making.task making.given making.future_place place spawned act

    pub child_forking : (lim : Bounds) (number more : ℕ) → Forking p (first_frame lim number child) more
    child_forking lim number more =
        subst (λ (f : Frame). Forking p (first_frame lim number f) more) (sym making.child_is) (first_forking p wf lim number making.task args more only_spawns.1)

  module _ (number : ℕ) (least : count ≤ number) (child : Frame) (args : List ℤ) (effects : Summary) (future : ℕ) (place : Place)
      (stop : left.stop ≡ stops.Make child args effects true future place) where
    abbrev maker : Frame
    maker = making_frame future true number bare

    abbrev spawn_path : OutNow p frame
    spawn_path = make_path child args effects true future place stop

    abbrev spawning : ComesToMake p frame ended spawn_path.path child args effects true future place
    spawning = makes_follow p frame cells spawn_path.path child args effects true future place stop

    abbrev spawn : Statement
    spawn = Make spawning.point future spawning.task spawning.given true spawning.future_place place

    room : future < length ended.futures
    room =
        let declared = ready_declared p frame cells forking.ready child args effects true future place stop in
        let below : future < length (futures_at p frame.decl) = slice_get_within _ future _ declared.declared in
        let many = forking.ready.futures in
        let same = ap (λ (fs : List (Option ℕ)). length fs) kept.futures in
        omega arith

    at_future : slice_get maker.futures future ≡ Some (Some number)
    at_future = get_set_within ended.futures future (Some number) room

    elsewhere : (f : ℕ) → f ≢ future → slice_get maker.futures f ≡ slice_get frame.futures f
    elsewhere f other = get_set_other ended.futures future f (Some number) other ∙ ap (λ (fs : List (Option ℕ)). slice_get fs f) kept.futures

    child_of_maker : (f : ℕ) (same : Bool) → (future == f) ≡ same → (same || out_after f spawning.later) ≡ true → StandsNow maker f
    child_of_maker f true e out =
        let is : future ≡ f = eqb-true future f e in
        (number, subst (λ (n : ℕ). slice_get maker.futures n ≡ Some (Some number)) is at_future, in-right number ended.out.items (number ∷ []) (inl refl))
    child_of_maker f false e out =
        let old = child_there spawn_path spawn spawning.later spawning.passes f out in
        let other : f ≢ future = λ is. let equal = eq-eqb future f (sym is) in cc (equal, e) in
        (old.0, elsewhere f other ∙ old.1, in-left old.0 ended.out.items (number ∷ []) old.2)

    one_number : (f u : ℕ) → f ≡ future → slice_get maker.futures f ≡ Some (Some u) → u ≡ number
    one_number f u is stands = let here = subst (λ (n : ℕ). slice_get maker.futures n ≡ Some (Some u)) is stands in cc (here, at_future)

    old_number : (f u : ℕ) → f ≢ future → slice_get maker.futures f ≡ Some (Some u) → u < count
    old_number f u other stands = forking.below f u (sym (elsewhere f other) ∙ stands)

    maker_below : (f u : ℕ) → slice_get maker.futures f ≡ Some (Some u) → u < number + 1
    maker_below f u stands =
        elim (cases_eq f future) [
          | inl is ↦ let same = one_number f u is stands in omega (arith, same)
          | inr other ↦ let less = old_number f u other stands in omega (arith, less, least)
        ]

    maker_apart : (f g u : ℕ) → slice_get maker.futures f ≡ Some (Some u) → slice_get maker.futures g ≡ Some (Some u) → f ≡ g
    maker_apart f g u one two =
        elim (cases_eq f future) [
          | inl is ↦ elim (cases_eq g future) [
            | inl too ↦ is ∙ sym too
            | inr other ↦ let same = one_number f u is one in let less = old_number g u other two in absurd (omega (arith, same, less, least))
          ]
          | inr other ↦ elim (cases_eq g future) [
            | inl is ↦ let same = one_number g u is two in let less = old_number f u other one in absurd (omega (arith, same, less, least))
            | inr neither ↦ forking.apart f g u (sym (elsewhere f other) ∙ one) (sym (elsewhere g neither) ∙ two)
          ]
        ]

    -- the frame after the spawn
    pub maker_forking : Forking p maker (number + 1)
    maker_forking = record {
      flag = subst (λ (n : ℕ). IsTrue (is_deterministic (slice_get p.tasks n))) (sym kept.decl) forking.flag;
      ready = ready_same p (record ended { futures = maker.futures; out = maker.out }) maker refl refl refl
          (ready_made p frame cells forking.ready child args effects true future place stop number maker.out);
      below = maker_below;
      apart = maker_apart;
      out = λ some. record {
        path = spawn ∷ spawning.later;
        reached = subst (λ (n : ℕ). Reached (body_of (slice_get p.tasks n)) rest (spawn ∷ spawning.later)) (sym kept.decl) (past_it spawn_path spawn spawning.later spawning.passes (refl, refl));
        children = λ f out. child_of_maker f (future == f) refl out;
      };
    }

  -- A join.

  module _ (on : ℕ) (into : Option ℕ) (next : ended.next ≡ Join on into) where
    join_path : OutNow p frame
    join_path = let first = joins_follow p frame cells [] on into next in forking.out (has_body _ [] first.later first.passes)

    abbrev comes : ComesToWait p frame ended join_path.path true on into
    comes = joins_follow p frame cells join_path.path on into next

    abbrev operation : Statement
    operation = Wait comes.point comes.future true into comes.place

    reached_join : Reached (decl.0).body.block (statement operation rest) comes.later
    reached_join = reached_body join_path operation comes.later comes.passes

    surely_out : IsTrue (out_after comes.future comes.later)
    surely_out =
        let act = reached_acts p (decl.0).body.block (statement operation rest) comes.later (wait comes.point comes.future true comes.place) reached_join (inl refl) in
        elim (cases_Bool (out_after comes.future comes.later)) [
          | inl out ↦ out
          | inr not_out ↦
              absurd (keeps E4 comes.place
              (inl (
                decl.0,
                listed,
                joined comes.point comes.future comes.place (in-contains _ _ act)
                    (λ surely. false≢true (sym not_out ∙ surely comes.later (control_path (decl.0).body operation rest comes.later reached_join))),
              )))
        ]

    -- the child that is joined is out
    the_child : (slice_get frame.futures comes.future ≡ Some (Some on)) × IsIn on ended.out.items
    the_child =
        let child = child_there join_path operation comes.later comes.passes comes.future surely_out in
        let same : on ≡ child.0 = comes.on_is ∙ ap task_of child.1 in
        (subst (λ (n : ℕ). slice_get frame.futures comes.future ≡ Some (Some n)) (sym same) child.1, subst (λ (n : ℕ). IsIn n ended.out.items) (sym same) child.2)

    -- another future stands for another child
    other_child : (f u : ℕ) → not (comes.future == f) ≡ true → slice_get frame.futures f ≡ Some (Some u) → u ≢ on
    other_child f u other stands_f same =
        let here : slice_get frame.futures f ≡ Some (Some on) = subst (λ (n : ℕ). slice_get frame.futures f ≡ Some (Some n)) same stands_f in
        let one : f ≡ comes.future = forking.apart f comes.future on here the_child.0 in
        let equal : (comes.future == f) ≡ true = eq-eqb comes.future f (sym one) in
        false≢true (sym (ap not equal) ∙ other)

    -- and the others stay out
    out_after_join : (value : ℤ) → OutNow p (given bare value)
    out_after_join value =
        let same_left : left_of p (given bare value) ≡ rest = given_left p bare value in
        let same_decl : (given bare value).decl ≡ frame.decl = given_decl bare value ∙ kept.decl in
        record {
          path = operation ∷ comes.later;
          reached = subst (λ (n : ℕ). Reached (body_of (slice_get p.tasks n)) (left_of p (given bare value)) (operation ∷ comes.later)) (sym same_decl)
              (subst (λ (x : Statements). Reached body x (operation ∷ comes.later)) (sym same_left) (past_it join_path operation comes.later comes.passes (refl, refl)));
          children = λ f out.
              let both = both-true (not (comes.future == f)) (out_after f comes.later) out in
              let child = child_there join_path operation comes.later comes.passes f both.1 in
              let out_is : (given bare value).out.items ≡ without on ended.out.items = given_out bare value ∙ ap (λ (n : Next). still_out n ended.out.items) next in (
                child.0,
                ap (λ (fs : List (Option ℕ)). slice_get fs f) (given_futures bare value ∙ kept.futures) ∙ child.1,
                subst (IsIn child.0) (sym out_is) (others_in child.0 on ended.out.items (other_child f child.0 both.0 child.1) child.2),
              );
        }

  -- a join at the end of the body, or a written one
  abbrev Joining : ℕ → Type 0
  Joining on = ((into : Option ℕ) × (ended.next ≡ Join on into)) ⊎ IsClosing ended on

  joins_listed : (on : ℕ) → Joining on → IsIn on ended.out.items
  joins_listed on (inl join) = (the_child on join.0 join.1).1
  joins_listed on (inr closing) = subst (IsIn on) (sym closing.out) (inl refl)

  joins_out : (on : ℕ) (value : ℤ) → Joining on → ¬ ((given bare value).body ≡ None) → OutNow p (given bare value)
  joins_out on value (inl join) some = out_after_join on join.0 join.1 value
  joins_out on value (inr closing) some = absurd (some (given_none bare value closing.body))

  module _ (on : ℕ) (stop : left.stop ≡ stops.Joins on) where
    joining : Joining on
    joining = subst (λ (s : Stop). NextAfter s ended) stop kept.next

    -- it joins an unjoined child of its own
    pub joins_child : is_child on bare ≡ true
    joins_child = is_in_any on ended.out.items (joins_listed on joining)

    not_made : (child : Frame) (args : List ℤ) (effects : Summary) (spawned : Bool) (future : ℕ) (place : Place) → left.stop ≡ stops.Make child args effects spawned future place → ⊥
    not_made child args effects spawned future place make = let clash : stops.Joins on ≡ stops.Make child args effects spawned future place = sym stop ∙ make in absurd (cc (clash))

    -- the frame after it has taken the child's value
    pub joined_forking : (value : ℤ) → Forking p (given bare value) count
    joined_forking value =
        let same : (given bare value).futures ≡ frame.futures = given_futures bare value ∙ kept.futures in
        let old : (f u : ℕ) → slice_get (given bare value).futures f ≡ Some (Some u) → slice_get frame.futures f ≡ Some (Some u) =
        λ f u stands. ap (λ (fs : List (Option ℕ)). slice_get fs f) (sym same) ∙ stands in
        record {
          flag = subst (λ (n : ℕ). IsTrue (is_deterministic (slice_get p.tasks n))) (sym (given_decl bare value ∙ kept.decl)) forking.flag;
          ready = ready_given p bare value (ready_same p ended bare refl refl refl (ready_later p frame cells forking.ready not_made));
          below = λ f u stands. forking.below f u (old f u stands);
          apart = λ f g u one two. forking.apart f g u (old f u one) (old g u two);
          out = joins_out on value joining;
        }
