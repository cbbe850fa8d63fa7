-- A hold by a task that interferes with the held one counts for a pair.
use Rattle.std.proofs.Common.{◌≡◌, ◌∙◌, ◌<◌, ◌≤◌, ◌⊎◌, inl, inr, ◌∷◌, [], ℕ, ℤ, zero, suc, Bool, true, List, length, map, Option, None, Some, get_or, refl, sym, ap, subst, arith}
use Rattle.std.specs.Prelude.{Any, cond, position, slice_get}
use Rattle.std.specs.List.{list_any, position_or_len}
use Rattle.std.proofs.lemmas.Bool.{cases_lt, false≢true, lt-ltb}
use Rattle.std.proofs.lemmas.List.Folds.{Any-from_list_any}
use Rattle.std.proofs.lemmas.List.Sums.{fails_before_first, passes_at_first}
use Rattle.std.proofs.lemmas.Option.{none-some, same_Some, slice_get-get_or, slice_get-map}
use Rattle.std.specs.Option.{option_map}
use Rattle.region_paths.specs.declared.elements.Elem.{Elem}
use Rattle.region_paths.specs.declared.elements.Elem.TheVariants.{Index}
use Rattle.region_paths.specs.Filled.{filled}
use Rattle.effect_sets.specs.declared.effects.Effect.{Effect}
use Rattle.effect_sets.specs.declared.effects.Summary.{Summary}
use Rattle.effect_sets.specs.Filled.{all_filled, fill_effect}
use Rattle.effect_sets.specs.Interference.{SomeInterfere, statically_interferes}
use Rattle.effect_sets.proofs.Sets.{interferes-exact, some_interfere-exact}
use Rattle.twe_base.proofs.Members.{both-true}
use Rattle.twe_base.specs.Limits.{Bounds}
use Rattle.twe_program.specs.declared.program.Decl.{Decl}
use Rattle.twe_program.specs.Program.{Program}
use Rattle.twe_program.specs.WellFormed.{IsWellFormed}
use Rattle.seg_meaning.specs.Entry.{effects_of}
use Rattle.machine_state.specs.declared.state.State.{State}
use Rattle.machine_state.specs.declared.state.TaskRow.{TaskRow}
use Rattle.machine_state.specs.Runs.{IsReached}
use Rattle.machine_state.proofs.standing.ReachedStands.{reached_stands}
use Rattle.machine_state.proofs.tasks.Filled.{reached_filled}
use Rattle.held_span.specs.OfHolds.{IsDeclared, IsOfHold}
use Rattle.held_span.specs.Pairs.{interferes_with_one, pair_of}
use Rattle.held_span.specs.declared.pair.EffectPair.{EffectPair}
use Rattle.held_span.specs.declared.hold.Hold.{Hold}

-- the first element that passes
record IsFirst {X : Type 0} (p : X → Bool) (xs : List X) : Type 0 where
  n : ℕ
  x : X
  position_is : position p xs ≡ Some n
  there : slice_get xs n ≡ Some x
  passes : p x ≡ true

-- if one passes, there is a first one
first_passing : {X : Type 0} (p : X → Bool) (xs : List X) → list_any p xs ≡ true → IsFirst p xs
first_passing {X} p xs some =
    let found = Any-from_list_any p xs some in
    let first = position_or_len p xs in
    let below : first < length xs = by_order found (cases_lt found.0 first) in record {
      n = first;
      x = get_or xs first found.1;
      position_is = ap (λ (b : Bool). cond b (Some first) None) (lt-ltb first (length xs) below);
      there = slice_get-get_or xs first found.1 below;
      passes = passes_at_first p xs found.1 below;
    } where
      by_order : (found : Any (λ x. p x ≡ true) xs) → (found.0 < position_or_len p xs) ⊎ (position_or_len p xs ≤ found.0)
          → position_or_len p xs < length xs
      by_order found (inl before) =
          let fails = fails_before_first p xs found.0 found.1 before in
          absurd (false≢true (sym fails ∙ ap p found.3 ∙ found.4))
      by_order found (inr after) = omega (arith, found.2)

-- an effect of a filled list is filled
filled_there : (es : List Effect) (k : ℕ) (e : Effect) → all_filled es ≡ true → slice_get es k ≡ Some e → filled e.path ≡ true
filled_there [] k e all there = absurd (cc)
filled_there (x ∷ es) zero e all there = let same : x ≡ e = cc in subst (λ (y : Effect). filled y.path ≡ true) same (both-true _ _ all).0
filled_there (x ∷ es) (suc k) e all there = filled_there es k e (both-true _ _ all).1 there

-- the arguments of a task as elements of paths
abbrev values_in : List ℤ → List Elem
values_in args = map (λ value. Index value) args

-- an effect of a task is that of its declaration, filled with the task's arguments
declared_at : (p : Program) (row : TaskRow) (n : ℕ) (effect : Effect) (found : Option Decl) → found ≡ slice_get p.tasks row.decl
    → slice_get (effects_of found row.args).effects n ≡ Some effect → IsDeclared p row (record { decl = row.decl; effect = n }) effect
declared_at p row n effect None is there = absurd (cc)
declared_at p row n effect (Some decl) is there =
    by_effect (slice_get decl.summary.effects n) refl (sym (slice_get-map (fill_effect (values_in row.args)) decl.summary.effects n) ∙ there) where
      by_effect : (declared : Option Effect) → declared ≡ slice_get decl.summary.effects n
          → option_map (fill_effect (values_in row.args)) (slice_get decl.summary.effects n) ≡ Some effect
          → IsDeclared p row (record { decl = row.decl; effect = n }) effect
      by_effect None none at = absurd (none-some effect (ap (option_map (fill_effect (values_in row.args))) none ∙ at))
      by_effect (Some declared) some at = record {
        decl_is = refl;
        decl = decl;
        at_decl = sym is;
        declared = declared;
        at_effect = sym some;
        filled = sym (same_Some (fill_effect (values_in row.args) declared) effect (ap (option_map (fill_effect (values_in row.args))) some ∙ at));
      }

module _ (p : Program) (well : IsWellFormed p) (lim : Bounds) (st : State) (reached : IsReached p lim st) (hold : Hold)
    (holder held : TaskRow) (at_holder : slice_get st.tasks hold.holder ≡ Some holder) (at_held : slice_get st.tasks hold.task ≡ Some held) where
  declared_of : (t : ℕ) (row : TaskRow) → slice_get st.tasks t ≡ Some row → (n : ℕ) (effect : Effect)
      → slice_get row.effects.effects n ≡ Some effect → IsDeclared p row (record { decl = row.decl; effect = n }) effect
  declared_of t row there n effect at =
      let stands = (reached_stands p lim st well reached).rows t row there in
      declared_at p row n effect (slice_get p.tasks row.decl) refl
      (subst (λ (s : Summary). slice_get s.effects n ≡ Some effect) stands.effects at)

  -- the hold counts for a pair
  pub counts : SomeInterfere holder.effects.effects held.effects.effects
      → (pair : EffectPair) × (pair_of st.tasks hold ≡ Some pair) × IsOfHold p st.tasks hold pair
  counts interfere =
      let effects = holder.effects.effects in
      let others = held.effects.effects in
      let filled_effects = reached_filled p lim st well reached hold.holder holder at_holder in
      let filled_others = reached_filled p lim st well reached hold.task held at_held in
      let some : list_any (interferes_with_one others) effects ≡ true =
      (some_interfere-exact effects others (list_any (interferes_with_one others) effects) refl filled_effects filled_others).1 interfere in
      let first = first_passing (interferes_with_one others) effects some in
      let second = first_passing (statically_interferes first.x) others first.passes in
      let pair : EffectPair =
      record { holder = record { decl = holder.decl; effect = first.n }; held = record { decl = held.decl; effect = second.n } } in (
        pair,
        pair_is first second,
        record {
          holder = holder;
          held = held;
          at_holder = at_holder;
          at_held = at_held;
          effect = first.x;
          other = second.x;
          of_holder = declared_of hold.holder holder at_holder first.n first.x first.there;
          of_held = declared_of hold.task held at_held second.n second.x second.there;
          interfere =
              (interferes-exact first.x second.x (statically_interferes first.x second.x) refl
              (filled_there effects first.n first.x filled_effects first.there)
              (filled_there others second.n second.x filled_others second.there)).0 second.passes;
        },
      ) where
        pair_is : (first : IsFirst (interferes_with_one held.effects.effects) holder.effects.effects)
            (second : IsFirst (statically_interferes first.x) held.effects.effects)
            → pair_of st.tasks hold
            ≡ Some (record { holder = record { decl = holder.decl; effect = first.n }; held = record { decl = held.decl; effect = second.n } })
        pair_is first second = rw (at_holder, at_held, first.position_is, first.there, second.position_is)
