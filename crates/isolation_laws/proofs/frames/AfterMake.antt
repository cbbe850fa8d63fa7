-- After a segment that makes a task, the frame is on its control path past that statement. The future of a spawned task
-- is out and stands for the task, and the futures of the other children stand for these as before.
use Rattle.std.proofs.Common.{◌≡◌, ◌≢◌, ◌⊎◌, ◌<◌, ◌==◌, ◌&&◌, ◌||◌, ℕ, ℤ, Bool, true, false, IsTrue, List, [], ◌∷◌, length, Contains, Option, None, Some, inl, inr, refl, sym, ap, ◌∙◌, subst, arith, eq-eqb}
use Rattle.std.specs.Prelude.{slice_get, slice_set}
use Rattle.std.proofs.lemmas.Bool.{and_from, cases_Bool}
use Rattle.std.proofs.lemmas.Option.{slice_get_within}
use Rattle.twe_base.specs.declared.place.Place.{Place}
use Rattle.effect_sets.specs.declared.effects.Summary.{Summary}
use Rattle.effect_sets.specs.Interference.{SomeInterfere}
use Rattle.twe_program.specs.declared.program.Decl.{Decl}
use Rattle.twe_program.specs.Numbering.{Declared}
use Rattle.twe_program.specs.Program.{Program}
use Rattle.twe_program.specs.Statement.{Statement, Statements, Make, statement}
use Rattle.cover_flow.specs.ControlPath.{Path}
use Rattle.cover_flow.specs.Out.{MayBeOut, out_after}
use Rattle.seg_meaning.specs.declared.frame.Frame.{Frame}
use Rattle.seg_meaning.specs.declared.frame.Next.{Next}
use Rattle.seg_meaning.specs.declared.frame.Next.TheVariants.{Go}
use Rattle.seg_meaning.specs.declared.stop.Stop.TheVariants as ends
use Rattle.seg_meaning.specs.Entry.{effects_at}
use Rattle.seg_meaning.specs.Giving.{given}
use Rattle.seg_meaning.specs.Meaning.{body_of}
use Rattle.seg_meaning.specs.Segment.{segment}
use Rattle.effect_check.specs.Acts.{acts_in_all, make}
use Rattle.effect_check.proofs.Members.{IsIn, in-cases, in-contains}
use Rattle.isolation_laws.specs.soundness.KeepsEffects.{KeepsEffects}
use Rattle.isolation_laws.proofs.soundness.Sound.{got-in}
use Rattle.machine_state.specs.segment_laws.Left.{left_of}
use Rattle.machine_state.specs.segment_laws.Operations.{ComesToMake}
use Rattle.machine_state.specs.segment_laws.Ready.{IsDeclaredAs, IsReady, MakesDeclared, futures_at}
use Rattle.machine_state.proofs.segment_laws.BeingReady.{ready_declared, ready_given}
use Rattle.machine_state.proofs.segment_laws.Following.{makes_follow}
use Rattle.machine_state.specs.declared.state.State.{State}
use Rattle.machine_state.specs.declared.state.TaskRow.{TaskRow}
use Rattle.machine_state.specs.Moves.{making_frame, out_with}
use Rattle.machine_state.specs.Rows.{IsRow}
use Rattle.isolation_laws.proofs.soundness.Given.{given_decl}
use Rattle.isolation_laws.proofs.frames.AfterSegment.{after, after_decl, after_futures, after_out, child_later, reached_at, still_out_at}
use Rattle.isolation_laws.proofs.frames.Frames.{ChildOut, OnPath, given_futures, still_out}
use Rattle.isolation_laws.proofs.rows.ListElements.{get_set_other, get_set_within}
use Rattle.isolation_laws.proofs.paths.MakesInBodies.{make_act}
use Rattle.isolation_laws.proofs.paths.FuturesOut.{Reached, reached_more, reached_out}
use Rattle.isolation_laws.proofs.paths.Spawns.{not_out_again, spawned_apart}

-- a future is declared either for spawned tasks or for others
not_both : (o : Option Declared) (declared : Declared) → o ≡ Some declared → declared.spawned ≡ false → IsDeclaredAs o true → ⊥
not_both None declared found plain spawned = spawned
not_both (Some d) declared found plain spawned =
    let same : d ≡ declared = cc in
    let no : true ≡ false = sym spawned ∙ (ap (λ (x : Declared). x.spawned) same ∙ plain) in
    absurd (cc)

or_true : (a b : Bool) → IsTrue b → IsTrue (a || b)
or_true true b h = refl
or_true false b h = h

or_first : (a b : Bool) → IsTrue a → IsTrue (a || b)
or_first true b h = refl
or_first false b h = absurd (cc)

-- a segment of a frame, which has taken its value, makes a task
module _ (p : Program) (keeps : KeepsEffects p) (decl : Decl) (st : State) (frame : Frame) (found : slice_get p.tasks frame.decl ≡ Some decl)
    (value : ℤ) (cells : List ℤ) (ready : IsReady p frame) (on_path : OnPath p st.tasks frame) where
  is_task : Contains p.tasks decl
  is_task = in-contains p.tasks decl (got-in p.tasks frame.decl decl found)

  abbrev left : Statements
  left = left_of p (after p frame value cells)

  module _ (child : Frame) (args : List ℤ) (effects : Summary) (spawned : Bool) (future : ℕ) (place : Place)
      (stop : (segment p (given frame value) cells).stop ≡ ends.Make child args effects spawned future place) where
    comes : ComesToMake p (given frame value) (after p frame value cells) on_path.path child args effects spawned future place
    comes = makes_follow p (given frame value) cells on_path.path child args effects spawned future place stop

    declared : MakesDeclared p (given frame value) child args effects spawned future
    declared = ready_declared p (given frame value) cells (ready_given p frame value ready) child args effects spawned future place stop

    abbrev operation : Statement
    operation = Make comes.point future comes.task comes.given spawned comes.future_place place

    reached : Reached (body_of (slice_get p.tasks frame.decl)) (statement operation left) comes.later
    reached = reached_at p st frame value on_path operation left comes.later comes.passes

    -- the same, said of the body of the declaration
    in_body : Reached decl.body.block (statement operation left) comes.later
    in_body = subst (λ (o : Option Decl). Reached (body_of o) (statement operation left) comes.later) found reached

    -- the future of a child that is out may be out at this point
    may_be_out : (u : ℕ) (old : Summary) → (c : ChildOut p frame.decl frame.futures on_path.path u old) → MayBeOut decl.body comes.point c.future
    may_be_out u old c =
        reached_out decl.body operation left comes.later c.future in_body (still_out_at p st frame value on_path operation left comes.later comes.passes c.future c.out)

    -- a future of `executeLater` does not stand for a spawned child
    plain_future : spawned ≡ false → (f : ℕ) → IsDeclaredAs (slice_get (futures_at p frame.decl) f) true → f ≢ future
    plain_future plain f is_spawned same =
        let there = subst (λ (n : ℕ). slice_get (futures_at p n) future ≡ Some (record { future = future; task = declared.task; spawned = spawned })) (given_decl frame value) declared.declared in
        not_both (slice_get (futures_at p frame.decl) future) _ there plain (subst (λ (x : ℕ). IsDeclaredAs (slice_get (futures_at p frame.decl) x) true) same is_spawned)

    -- the future of the new task is one of the frame's futures
    room : future < length (after p frame value cells).futures
    room =
        let below : future < length (futures_at p (given frame value).decl) = slice_get_within _ future _ declared.declared in
        let many = (ready_given p frame value ready).futures in
        let same = ap (λ (fs : List (Option ℕ)). length fs) (after_futures p frame value cells ∙ sym (given_futures frame value)) in
        omega arith

    past : Path
    past = operation ∷ comes.later

    reached_past : Reached (body_of (slice_get p.tasks frame.decl)) left past
    unfolding past
    reached_past =
        reached_more (body_of (slice_get p.tasks frame.decl)) (statement operation left) left comes.later (operation ∷ comes.later) 1 reached
        (left, operation ∷ comes.later, (refl, refl), (refl, refl))

    still_past : (f : ℕ) → IsTrue (out_after f comes.later) → IsTrue (out_after f past)
    unfolding past
    still_past f h = or_true (spawned && (future == f)) (out_after f comes.later) h

    -- a child that was out stays out, unless its own future is the one that is set
    old_child : (number u : ℕ) (old new : Summary) → new ≡ old → (c : ChildOut p frame.decl frame.futures on_path.path u old) → c.future ≢ future
        → ChildOut p (after p frame value cells).decl (slice_set (after p frame value cells).futures future (Some number)) past u new
    old_child number u old new same c other =
        let futures = (after p frame value cells).futures in
        child_later p frame.decl (after p frame value cells).decl frame.futures (slice_set futures future (Some number)) on_path.path past u old new
        (after_decl p frame value cells) same c
        (get_set_other futures future c.future (Some number) other
        ∙ (ap (λ (fs : List (Option ℕ)). slice_get fs c.future) (after_futures p frame value cells) ∙ c.stands))
        (still_past c.future (still_out_at p st frame value on_path operation left comes.later comes.passes c.future c.out))

    -- the task is spawned
    module _ (is_spawned : spawned ≡ true) where
      own_act : IsIn (make p comes.point future comes.task comes.given true comes.future_place place) (acts_in_all p (body_of (slice_get p.tasks frame.decl)))
      own_act =
          let body = body_of (slice_get p.tasks frame.decl) in
          subst (λ (b : Bool). IsIn (make p comes.point future comes.task comes.given b comes.future_place place) (acts_in_all p body)) is_spawned
          (make_act body comes.point future comes.task comes.given spawned comes.future_place place left comes.later reached p)

      act_in_body : IsIn (make p comes.point future comes.task comes.given true comes.future_place place) (acts_in_all p decl.body.block)
      act_in_body =
          subst (λ (o : Option Decl). IsIn (make p comes.point future comes.task comes.given true comes.future_place place) (acts_in_all p (body_of o))) found own_act

      child_in_body : (u : ℕ) (old : Summary) → (c : ChildOut p frame.decl frame.futures on_path.path u old)
          → IsIn (make p c.point c.future c.task c.given true c.future_place c.place) (acts_in_all p decl.body.block)
      child_in_body u old c =
          subst (λ (o : Option Decl). IsIn (make p c.point c.future c.task c.given true c.future_place c.place) (acts_in_all p (body_of o))) found c.act

      -- no child that is out has the same future
      not_again : (u : ℕ) (old : Summary) → (c : ChildOut p frame.decl frame.futures on_path.path u old) → c.future ≢ future
      not_again u old c same =
          not_out_again p keeps decl is_task comes.point future comes.task comes.given comes.future_place place act_in_body
          (subst (MayBeOut decl.body comes.point) same (may_be_out u old c))

      -- the effects of the new task interfere with those of no child that is out
      pub apart_from : (u : ℕ) (old : Summary) → ChildOut p frame.decl frame.futures on_path.path u old → ¬ SomeInterfere effects.effects old.effects
      apart_from u old c some =
          spawned_apart p keeps decl is_task comes.point future comes.task comes.given comes.future_place place act_in_body
          c.point c.future c.task c.given c.future_place c.place (child_in_body u old c) (may_be_out u old c) args c.values comes.values c.may_have
          (subst (λ (x : Summary). SomeInterfere x.effects (effects_at p c.task c.values).effects) comes.effects_are
          (subst (λ (x : Summary). SomeInterfere effects.effects x.effects) c.same some))

      new_child : (number : ℕ) (new : Summary) → new ≡ effects
          → ChildOut p (after p frame value cells).decl (slice_set (after p frame value cells).futures future (Some number)) past number new
      unfolding past
      new_child number new same =
          subst (λ (n : ℕ). ChildOut p n (slice_set (after p frame value cells).futures future (Some number)) past number new) (sym (after_decl p frame value cells)) (record {
            future = future;
            stands = get_set_within (after p frame value cells).futures future (Some number) room;
            out = or_first (spawned && (future == future)) (out_after future comes.later) (and_from spawned (future == future) is_spawned (eq-eqb future future refl));
            point = comes.point;
            task = comes.task;
            given = comes.given;
            future_place = comes.future_place;
            place = place;
            values = args;
            act = own_act;
            declared =
                subst (λ (o : Option Declared). IsDeclaredAs o true)
                (sym (subst (λ (n : ℕ). slice_get (futures_at p n) future ≡ Some (record { future = future; task = declared.task; spawned = spawned })) (given_decl frame value) declared.declared))
                is_spawned;
            may_have = comes.values;
            same = same ∙ comes.effects_are;
          })

    module _ (new : State) (number : ℕ) (go : (after p frame value cells).next ≡ Go)
        (rows : (u : ℕ) (b : TaskRow) → IsRow new u b → ((u ≡ number) × (b.effects ≡ effects)) ⊎ ((a : TaskRow) × IsRow st u a × (b.effects ≡ a.effects)))
        (fresh : (a : TaskRow) → ¬ IsRow st number a)
        (there : (u : ℕ) → IsIn u (still_out frame.next frame.out.items) → (a : TaskRow) × IsRow st u a) where
      abbrev made : Frame
      made = making_frame future spawned number (after p frame value cells)

      other_future : (u : ℕ) (old : Summary) (c : ChildOut p frame.decl frame.futures on_path.path u old) → c.future ≢ future
      other_future u old c = elim (cases_Bool spawned) [
        | inl is_spawned ↦ not_again is_spawned u old c
        | inr plain ↦ plain_future plain c.future c.declared
      ]

      -- a child that was out before
      of_old : (u : ℕ) (b : TaskRow) → IsIn u (after p frame value cells).out.items → IsRow new u b → ChildOut p made.decl made.futures past u b.effects
      of_old u b here is =
          let inside = subst (IsIn u) (after_out p frame value cells) here in
          elim (rows u b is) [
            | inl new_row ↦ let a = there u inside in absurd (fresh a.0 (subst (λ (x : ℕ). IsRow st x a.0) new_row.0 a.1))
            | inr old ↦
                let c = on_path.children u old.0 inside old.1 in
                old_child number u old.0.effects b.effects old.2 c (other_future u old.0.effects c)
          ]

      of_new : (u : ℕ) (b : TaskRow) → spawned ≡ true → u ≡ number → IsRow new u b → ChildOut p made.decl made.futures past u b.effects
      of_new u b is_spawned same is = elim (rows u b is) [
        | inl new_row ↦ subst (λ (x : ℕ). ChildOut p made.decl made.futures past x b.effects) (sym same) (new_child is_spawned number b.effects new_row.1)
        | inr old ↦ absurd (fresh old.0 (subst (λ (x : ℕ). IsRow st x old.0) same old.1))
      ]

      in_out : (b : Bool) (u : ℕ) (out : List ℕ) → IsIn u (out_with b number out) → IsIn u out ⊎ ((b ≡ true) × (u ≡ number))
      in_out false u out h = inl h
      in_out true u out h = elim (in-cases u out (number ∷ []) h) [
        | inl front ↦ inl front
        | inr last ↦ elim last [ inl same ↦ inr (refl, same) | inr nothing ↦ absurd nothing ]
      ]

      pub made_on_path : OnPath p new.tasks made
      made_on_path = record {
        path = past;
        reached = subst (λ (n : ℕ). Reached (body_of (slice_get p.tasks n)) left past) (sym (after_decl p frame value cells)) reached_past;
        children = λ u b here is.
            let inside = subst (λ (n : Next). IsIn u (still_out n made.out.items)) go here in
            elim (in_out spawned u (after p frame value cells).out.items inside) [
              | inl old ↦ of_old u b old is
              | inr last ↦ of_new u b last.0 last.1 is
            ];
      }
