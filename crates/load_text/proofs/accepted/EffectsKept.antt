-- The tasks keep the rules on effects.
use Rattle.std.proofs.Common.{◌≡◌, ℕ, ◌+◌, ◌*◌, ◌<◌, ◌≤◌, zero, suc, Bool, true, false, not, List, [], ◌∷◌, ◌++◌, inl, inr, None, slice_get, refl, sym, ap, ◌∙◌, subst, arith}
use Rattle.std.specs.Prelude.{pos}
use Rattle.std.specs.List.{flat_map}
use Rattle.std.specs.Ordering.{int_eq}
use Rattle.std.proofs.lemmas.Bool.{false≢true}
use Rattle.std.proofs.lemmas.Bool.Decides.{Decides-int_eq}
use Rattle.twe_base.specs.declared.place.Place.{Place}
use Rattle.region_paths.specs.declared.elements.Elem.{Elem}
use Rattle.effect_sets.specs.declared.effects.Effect.{Effect}
use Rattle.effect_sets.specs.declared.effects.Summary.{Summary}
use Rattle.effect_sets.specs.Covers.{covers}
use Rattle.twe_program.specs.declared.program.Body.{Body}
use Rattle.twe_program.specs.declared.program.Decl.{Decl}
use Rattle.twe_program.specs.Program.{Program}
use Rattle.twe_program.specs.Statement.{Statement, Make, Wait}
use Rattle.twe_program.specs.Expression.{no_more}
use Rattle.cover_flow.specs.ControlPath.{Path, ControlPath}
use Rattle.cover_flow.specs.Out.{MayBeOut, SurelyOut, out_after}
use Rattle.name_check.specs.declared.names.GlobalName.{GlobalName}
use Rattle.name_check.specs.declared.scope.BodyScope.{BodyScope}
use Rattle.name_check.specs.Names.{globals_of}
use Rattle.name_check.specs.BodyScope.{after}
use Rattle.twe_names.specs.BodyMeaning.{statements_of}
use Rattle.twe_names.specs.Meaning.{decl_of, methods_of_item, tasks_of_item, program_of}
use Rattle.effect_check.specs.declared.act.Act.{Act}
use Rattle.effect_check.specs.declared.act.ActKind.{ActKind}
use Rattle.effect_check.specs.declared.act.ActKind.TheVariants as acts
use Rattle.effect_check.specs.declared.rule.ERule.{ERule}
use Rattle.effect_check.specs.Standing.{elements_from}
use Rattle.effect_check.specs.Acts.{acts_in_all, filled_summary, is_deterministic}
use Rattle.effect_check.specs.Covered.{Does, CoveredAt}
use Rattle.effect_check.specs.FailsEffect.{TaskFails, access, called, spawned, joined, spawned_again, made_later, waited, not_deterministic, FailsEffect}
use Rattle.twe_base.proofs.Members.{IsIn, contains-in}
use Rattle.load_text.proofs.accepted.Bindings.{Bound, bound}
use Rattle.load_text.proofs.accepted.NamesKept.{at_body_start}
use Rattle.load_text.proofs.accepted.Trees.{Places, later, start, starts, main_decl, items_from, load_tree}
use Rattle.load_text.proofs.accepted.Meanings.{cell_elems, sum_elems, effect_on, child_summary, parent_summary, child_task, parent_task, child_means, parent_means, cell_path, child_effects}

same_index : (i : ℕ) → int_eq (pos i) (pos i) ≡ true
same_index i = (Decides-int_eq (pos i) (pos i)).1 refl

child_covers : (write : Bool) (i : ℕ) → covers (child_summary i) (effect_on write (cell_elems i)) ≡ true
child_covers true i = rw (same_index i) refl
child_covers false i = rw (same_index i) refl

parent_covers : (write : Bool) (i : ℕ) → covers (parent_summary i) (effect_on write (cell_elems i)) ≡ true
parent_covers true i = rw (same_index i) refl
parent_covers false i = rw (same_index i) refl

sum_covers : (write : Bool) (i : ℕ) → covers (parent_summary i) (effect_on write sum_elems) ≡ true
sum_covers true i = refl
sum_covers false i = refl

-- what the rules look at in the program
record Tells (p : Program) (i : ℕ) : Type 0 where
  sum : elements_from (slice_get p.cells 0) ≡ sum_elems
  cell : elements_from (slice_get p.cells (suc i)) ≡ cell_elems i
  child : filled_summary (slice_get p.tasks (2 * i)) [] ≡ child_summary i

abbrev done : ℕ → ActKind → Act
done point kind = record { point = point; kind = kind }

-- the parent spawns the child, joins it, and then reads the cell, and reads and writes the cell `s`
data ParentAct (at : Places) (i : ℕ) : ℕ → ActKind → Type 0 where
  spawns : (deterministic : Bool) → ParentAct at i 0 (acts.Make 0 true deterministic (child_summary i) (at 15) (at 17))
  joins : ParentAct at i 1 (acts.Wait 0 true (at 23))
  sums : (write : Bool) (place : Place) → ParentAct at i 2 (acts.Touch (effect_on write sum_elems) place)
  reads : (place : Place) → ParentAct at i 2 (acts.Touch (effect_on false (cell_elems i)) place)

module _ (p : Program) (at : Places) (i : ℕ) (tells : Tells p i) where
  -- the child reads and writes its cell
  child_acts : acts_in_all p (child_task at i).body.block
      ≡ done 0 (acts.Touch (effect_on true (cell_elems i)) (at 13)) ∷ done 0 (acts.Touch (effect_on false (cell_elems i)) (at 15)) ∷ []
  child_acts = rw tells.cell refl

  child_does : (point : ℕ) (kind : ActKind) → Does p (child_task at i) point kind
      → (place : Place) × (write : Bool) × (point ≡ 0) × (kind ≡ acts.Touch (effect_on write (cell_elems i)) place)
  child_does point kind does =
      elim (subst (λ (list : List Act). IsIn (done point kind) list) child_acts
      (contains-in (acts_in_all p (child_task at i).body.block) (done point kind) does)) [
        | inl is ↦ (at 13, true, ap (λ (a : Act). a.point) is, ap (λ (a : Act). a.kind) is)
        | inr (inl is) ↦ (at 15, false, ap (λ (a : Act). a.point) is, ap (λ (a : Act). a.kind) is)
        | inr (inr none) ↦ absurd none
      ]

  child_keeps : (rule : ERule) (place : Place) → ¬ TaskFails p (child_task at i) rule place
  child_keeps rule place (access point effect here does not) =
      let it = child_does point _ does in
      let same : effect ≡ effect_on it.1 (cell_elems i) = cc (it.3) in
      not (record {
        declared = ap (covers (child_summary i)) same ∙ child_covers it.1 i;
        free = λ from future deterministic effects future_place place makes out other there. (let made = (child_does from _ makes).3 in absurd cc);
      })
  child_keeps rule place (called point effects effect here does there not) = let it = (child_does point _ does).3 in cc
  child_keeps rule place (spawned point future deterministic effects effect future_place here does there not) = let it = (child_does point _ does).3 in cc
  child_keeps rule place (joined point future here does not) = let it = (child_does point _ does).3 in cc
  child_keeps rule place (spawned_again point future deterministic effects future_place here does out) = let it = (child_does point _ does).3 in cc
  child_keeps rule place (made_later point future deterministic effects future_place here does is) = let it = (child_does point _ does).3 in cc
  child_keeps rule place (waited point future here does is) = let it = (child_does point _ does).3 in cc
  child_keeps rule place (not_deterministic point future effects future_place here does is) = let it = (child_does point _ does).3 in cc

  as_act : (point its : ℕ) (kind their : ActKind) → ParentAct at i its their → done point kind ≡ done its their → ParentAct at i point kind
  as_act point its kind their act is = subst (λ (a : Act). ParentAct at i a.point a.kind) (sym is) act

  abbrev spawns_deterministic : Bool
  spawns_deterministic = is_deterministic (slice_get p.tasks (2 * i))

  parent_does : (point : ℕ) (kind : ActKind) → Does p (parent_task at i) point kind → ParentAct at i point kind
  parent_does point kind does =
      elim (contains-in (acts_in_all p (parent_task at i).body.block) (done point kind) does) [
        | inl is ↦ as_act point 0 kind _ (spawns spawns_deterministic)
            (is ∙ ap (λ (s : Summary). done 0 (acts.Make 0 true spawns_deterministic s (at 15) (at 17))) tells.child)
        | inr (inl is) ↦ as_act point 1 kind _ joins is
        | inr (inr (inl is)) ↦ as_act point 2 kind _ (sums true (at 29))
            (is ∙ ap (λ (e : List Elem). done 2 (acts.Touch (effect_on true (e ++ [])) (at 29))) tells.sum)
        | inr (inr (inr (inl is))) ↦ as_act point 2 kind _ (sums false (at 31))
            (is ∙ ap (λ (e : List Elem). done 2 (acts.Touch (effect_on false (e ++ [])) (at 31))) tells.sum)
        | inr (inr (inr (inr (inl is)))) ↦ as_act point 2 kind _ (reads (at 33))
            (is ∙ ap (λ (e : List Elem). done 2 (acts.Touch (effect_on false (e ++ [])) (at 33))) tells.cell)
        | inr (inr (inr (inr (inr none)))) ↦ absurd none
      ]

  abbrev body : Body
  body = (parent_task at i).body

  abbrev spawn : Statement
  spawn = Make 0 0 (2 * i) no_more true (at 15) (at 17)

  abbrev join : Statement
  join = Wait 1 0 true None (at 23)

  -- the control paths to its points
  path_to_start : (path : Path) → ControlPath body 0 path → path ≡ []
  path_to_start path (inl (inl here)) = here.1
  path_to_start path (inl (inr (between, through, inl here))) = absurd (omega (arith, here.0))
  path_to_start path (inl (inr (between, through, inr (second, also, inl here)))) = absurd (omega (arith, here.0))
  path_to_start path (inl (inr (between, through, inr (second, also, inr (third, last, none))))) = absurd none
  path_to_start path (inr ended) = absurd (omega (arith, ended.0))

  path_to_join : (path : Path) → ControlPath body 1 path → path ≡ spawn ∷ []
  path_to_join path (inl (inl here)) = absurd (omega (arith, here.0))
  path_to_join path (inl (inr (between, through, inl here))) = here.1 ∙ through
  path_to_join path (inl (inr (between, through, inr (second, also, inl here)))) = absurd (omega (arith, here.0))
  path_to_join path (inl (inr (between, through, inr (second, also, inr (third, last, none))))) = absurd none
  path_to_join path (inr ended) = absurd (omega (arith, ended.0))

  path_to_sum : (path : Path) → ControlPath body 2 path → path ≡ join ∷ spawn ∷ []
  path_to_sum path (inl (inl here)) = absurd (omega (arith, here.0))
  path_to_sum path (inl (inr (between, through, inl here))) = absurd (omega (arith, here.0))
  path_to_sum path (inl (inr (between, through, inr (second, also, inl here)))) = here.1 ∙ also ∙ ap (λ (earlier : Path). join ∷ earlier) through
  path_to_sum path (inl (inr (between, through, inr (second, also, inr (third, last, none))))) = absurd none
  path_to_sum path (inr ended) = absurd (omega (arith, ended.0))

  not_at_start : ¬ MayBeOut body 0 0
  not_at_start (path, control, out) = false≢true (sym (ap (out_after 0) (path_to_start path control)) ∙ out)

  not_at_sum : ¬ MayBeOut body 2 0
  not_at_sum (path, control, out) = false≢true (sym (ap (out_after 0) (path_to_sum path control)) ∙ out)

  out_at_join : SurelyOut body 1 0
  out_at_join path control = ap (out_after 0) (path_to_join path control)

  -- the only future is that of the spawn
  only_future : (point future : ℕ) (deterministic : Bool) (effects : Summary) (future_place place : Place)
      → ParentAct at i point (acts.Make future true deterministic effects future_place place) → future ≡ 0
  only_future point future deterministic effects future_place place (spawns _) = refl

  covered_where : (point : ℕ) (effect : Effect) → ¬ MayBeOut body point 0 → covers (parent_summary i) effect ≡ true
      → CoveredAt p (parent_task at i) point effect
  covered_where point effect none declared = record {
    declared = declared;
    free = λ from future deterministic effects future_place place makes out other there.
        absurd (none (subst (λ (f : ℕ). MayBeOut body point f)
        (only_future from future deterministic effects future_place place (parent_does from _ makes)) out));
  }

  touch_covered : (point : ℕ) (effect : Effect) (place : Place) → ParentAct at i point (acts.Touch effect place) → CoveredAt p (parent_task at i) point effect
  touch_covered point effect place (sums write _) = covered_where 2 effect not_at_sum (sum_covers write i)
  touch_covered point effect place (reads _) = covered_where 2 effect not_at_sum (parent_covers false i)

  spawn_covered : (point future : ℕ) (deterministic : Bool) (effects : Summary) (effect : Effect) (future_place place : Place)
      → ParentAct at i point (acts.Make future true deterministic effects future_place place) → IsIn effect effects.effects → CoveredAt p
      (parent_task at i) point effect
  spawn_covered point future deterministic effects effect future_place place (spawns _) (inl is) =
      covered_where 0 effect not_at_start (ap (covers (parent_summary i)) is ∙ parent_covers true i)
  spawn_covered point future deterministic effects effect future_place place (spawns _) (inr none) = absurd none

  join_out : (point future : ℕ) (place : Place) → ParentAct at i point (acts.Wait future true place) → SurelyOut body point future
  join_out point future place joins = out_at_join

  spawn_not_out : (point future : ℕ) (deterministic : Bool) (effects : Summary) (future_place place : Place)
      → ParentAct at i point (acts.Make future true deterministic effects future_place place) → ¬ MayBeOut body point future
  spawn_not_out point future deterministic effects future_place place (spawns _) = not_at_start

  no_call : (point : ℕ) (effects : Summary) (place : Place) → ParentAct at i point (acts.Call effects place) → ⊥
  no_call point effects place act = elim act [ ]

  parent_keeps : (rule : ERule) (place : Place) → ¬ TaskFails p (parent_task at i) rule place
  parent_keeps rule place (access point effect here does not) = not (touch_covered point effect here (parent_does point _ does))
  parent_keeps rule place (called point effects effect here does there not) = no_call point effects here (parent_does point _ does)
  parent_keeps rule place (spawned point future deterministic effects effect future_place here does there not) =
      not (spawn_covered point future deterministic effects effect future_place here (parent_does point _ does) (contains-in effects.effects effect there))
  parent_keeps rule place (joined point future here does not) = not (join_out point future here (parent_does point _ does))
  parent_keeps rule place (spawned_again point future deterministic effects future_place here does out) =
      spawn_not_out point future deterministic effects future_place here (parent_does point _ does) out
  parent_keeps rule place (made_later point future deterministic effects future_place here does is) = false≢true is
  parent_keeps rule place (waited point future here does is) = false≢true is
  parent_keeps rule place (not_deterministic point future effects future_place here does is) = false≢true is

-- `main` makes tasks by `executeLater`, and does nothing else
data MainAct : ActKind → Type 0 where
  makes : (future : ℕ) (deterministic : Bool) (effects : Summary) (future_place place : Place)
      → MainAct (acts.Make future false deterministic effects future_place place)

starts_do : (p : Program) (globals : List GlobalName) (count i : ℕ) (at : Places) (here : BodyScope) (act : Act)
    → IsIn act (acts_in_all p (statements_of globals here (starts at i count))) → MainAct act.kind
starts_do p globals zero i at here act there = absurd there
starts_do p globals (suc count) i at here act (inl is) = subst (λ (a : Act). MainAct a.kind) (sym is) (makes _ _ _ _ _)
starts_do p globals (suc count) i at here act (inr there) = starts_do p globals count (suc i) (later 9 at) (after globals here (start at i)) act there

module _ (p : Program) (globals : List GlobalName) (at : Places) (n : ℕ) where
  abbrev main_task : Decl
  main_task = decl_of globals false (main_decl at n)

  main_does : (point : ℕ) (kind : ActKind) → Does p main_task point kind → MainAct kind
  main_does point kind does =
      starts_do p globals n 0 (later 7 at) at_body_start (done point kind) (contains-in (acts_in_all p main_task.body.block) (done point kind) does)

  no_touch : (effect : Effect) (place : Place) → MainAct (acts.Touch effect place) → ⊥
  no_touch effect place act = elim act [ ]

  no_call_here : (effects : Summary) (place : Place) → MainAct (acts.Call effects place) → ⊥
  no_call_here effects place act = elim act [ ]

  no_spawn : (future : ℕ) (deterministic : Bool) (effects : Summary) (future_place place : Place)
      → MainAct (acts.Make future true deterministic effects future_place place) → ⊥
  no_spawn future deterministic effects future_place place act = elim act [ ]

  no_wait : (future : ℕ) (join : Bool) (place : Place) → MainAct (acts.Wait future join place) → ⊥
  no_wait future join place act = elim act [ ]

  main_keeps : (rule : ERule) (place : Place) → ¬ TaskFails p main_task rule place
  main_keeps rule place (access point effect here does not) = no_touch effect here (main_does point _ does)
  main_keeps rule place (called point effects effect here does there not) = no_call_here effects here (main_does point _ does)
  main_keeps rule place (spawned point future deterministic effects effect future_place here does there not) =
      no_spawn future deterministic effects future_place here (main_does point _ does)
  main_keeps rule place (joined point future here does not) = no_wait future true here (main_does point _ does)
  main_keeps rule place
      (spawned_again point future deterministic effects future_place here does out) = no_spawn future deterministic effects future_place here
      (main_does point _ does)
  main_keeps rule place (made_later point future deterministic effects future_place here does is) = false≢true is
  main_keeps rule place (waited point future here does is) = false≢true is
  main_keeps rule place (not_deterministic point future effects future_place here does is) = false≢true is

module _ (p : Program) (globals : List GlobalName) (n : ℕ) (bindings : Bound globals n) (tells : (i : ℕ) → i < n → Tells p i) where
  tasks_keep : (count i : ℕ) (at : Places) → i + count ≡ n → (task : Decl) → IsIn task (flat_map (tasks_of_item globals) (items_from at i count n))
      → (rule : ERule) (place : Place) → ¬ TaskFails p task rule place
  tasks_keep zero i at all task (inl is) rule place = subst (λ (t : Decl). ¬ TaskFails p t rule place) (sym is) (main_keeps p globals at n rule place)
  tasks_keep zero i at all task (inr none) rule place = absurd none
  tasks_keep (suc count) i at all task (inl is) rule place =
      let below : i < n = omega arith in
      subst (λ (t : Decl). ¬ TaskFails p t rule place) (sym (is ∙ child_means globals n bindings (later 11 at) i below))
      (child_keeps p (later 11 at) i (tells i below) rule place)
  tasks_keep (suc count) i at all task (inr (inl is)) rule place =
      let below : i < n = omega arith in
      subst (λ (t : Decl). ¬ TaskFails p t rule place) (sym (is ∙ parent_means globals n bindings (later 33 at) i below))
      (parent_keeps p (later 33 at) i (tells i below) rule place)
  tasks_keep (suc count) i at all task (inr (inr there)) rule place = tasks_keep count (suc i) (later 69 at) (omega arith) task there rule place

no_methods : (globals : List GlobalName) (n count i : ℕ) (at : Places) (method : Decl)
    → IsIn method (flat_map (methods_of_item globals) (items_from at i count n)) → ⊥
no_methods globals n zero i at method there = there
no_methods globals n (suc count) i at method there = no_methods globals n count (suc i) (later 69 at) method there

-- the program of the tree keeps every rule on effects
pub keeps_effects : (at : Places) (end : Place) (n : ℕ) → n ≤ 2000 → (rule : ERule) (place : Place)
    → ¬ FailsEffect (program_of (load_tree at end n)) rule place
keeps_effects at end n most rule place (inl (task, there, fails)) =
    let p = program_of (load_tree at end n) in
    let globals = globals_of (load_tree at end n) in
    let bindings = bound at end n most in
    tasks_keep p globals n bindings
    (λ i below. record {
      sum = refl;
      cell = cell_path globals n bindings n 0 i i 1 (later 10 at) (omega arith) below;
      child = child_effects globals n bindings n 0 i i (later 10 at) (omega arith) below (omega arith);
    })
    n 0 (later 10 at) (omega arith) task (contains-in p.tasks task there) rule place fails
keeps_effects at end n most rule place (inr (method, there, fails)) =
    let p = program_of (load_tree at end n) in
    no_methods (globals_of (load_tree at end n)) n n 0 (later 10 at) method (contains-in p.methods method there)
