-- No effect of a task has a variable: its summary is filled with as many arguments as its declaration has parameters.
use Rattle.std.proofs.Common.{◌≡◌, ℕ, ℤ, zero, suc, true, List, [], ◌∷◌, length, map, Option, None, Some, IsTrue, refl, sym, ap, ◌∙◌, subst}
use Rattle.std.specs.Prelude.{slice_get}
use Rattle.std.specs.List.{AllByRecursion}
use Rattle.std.proofs.lemmas.Bool.{and_from, lt-ltb}
use Rattle.std.proofs.lemmas.List.{length-map}
use Rattle.twe_base.specs.Limits.{Bounds}
use Rattle.region_paths.specs.declared.elements.Elem.{Elem}
use Rattle.region_paths.specs.declared.elements.Elem.TheVariants.{Name, Index, Var, AnyIndex}
use Rattle.region_paths.specs.Filled.{no_var, vars_below}
use Rattle.effect_sets.specs.declared.effects.Effect.{Effect}
use Rattle.effect_sets.specs.Filled.{all_filled, all_have_args}
use Rattle.effect_sets.proofs.Filling.{all_filled-fill}
use Rattle.twe_program.specs.declared.program.Decl.{Decl}
use Rattle.twe_program.specs.Fitting.{TakesArguments}
use Rattle.twe_program.specs.Program.{Program}
use Rattle.twe_program.specs.WellFormed.{IsWellFormed, DeclFits, ElementFits, PathFits}
use Rattle.seg_meaning.specs.Entry.{effects_of}
use Rattle.machine_state.specs.declared.state.State.{State}
use Rattle.machine_state.specs.declared.state.TaskRow.{TaskRow}
use Rattle.machine_state.specs.Rows.{EffectsAreFilled}
use Rattle.machine_state.specs.Runs.{IsReached}
use Rattle.machine_state.proofs.standing.ReachedStands.{reached_stands}
use Rattle.machine_state.proofs.standing.Standing.{RowStands}

-- what holds of each element holds of the one at a place
all_at : {A : Type 0} (P : A → Type 0) (xs : List A) (i : ℕ) (x : A) → slice_get xs i ≡ Some x → AllByRecursion P xs → P x
all_at P [] i x e h = absurd (cc)
all_at P (y ∷ ys) zero x e h = let same : y ≡ x = cc in subst P same h.0
all_at P (y ∷ ys) (suc i) x e h = all_at P ys i x e h.1

no_var_numbers : (args : List ℤ) → no_var (map (λ value. Index value) args) ≡ true
no_var_numbers [] = refl
no_var_numbers (value ∷ values) = no_var_numbers values

below_fits : (regions n : ℕ) (es : List Elem) → AllByRecursion (ElementFits regions n) es → vars_below n es ≡ true
below_fits regions n [] fits = refl
below_fits regions n (Name region ∷ es) fits = below_fits regions n es fits.1
below_fits regions n (Index index ∷ es) fits = below_fits regions n es fits.1
below_fits regions n (Var k ∷ es) fits = and_from _ _ (lt-ltb k n fits.0) (below_fits regions n es fits.1)
below_fits regions n (AnyIndex ∷ es) fits = below_fits regions n es fits.1

have_args : (regions : ℕ) (args : List Elem) (es : List Effect) → AllByRecursion (λ (e : Effect). PathFits regions (length args) e.path) es → all_have_args args es ≡ true
have_args regions args [] fits = refl
have_args regions args (e ∷ es) fits =
    and_from _ _ (and_from _ _ (below_fits regions (length args) e.path.elems fits.0.elems) (below_fits regions (length args) e.path.tail fits.0.tail)) (have_args regions args es fits.1)

filled_of : (p : Program) (o : Option Decl) (number : ℕ) (args : List ℤ) → IsWellFormed p → slice_get p.tasks number ≡ o → TakesArguments o (length args)
    → all_filled (effects_of o args).effects ≡ true
filled_of p None number args well found takes = refl
filled_of p (Some decl) number args well found takes =
    let fits = all_at (DeclFits p) p.tasks number decl found well.tasks in
    let literals : List Elem = map (λ value. Index value) args in
    let as_many : decl.params ≡ length literals = takes ∙ sym (length-map args (λ value. Index value)) in
    all_filled-fill literals decl.summary.effects
    (have_args (length p.regions) literals decl.summary.effects
    (subst (λ (n : ℕ). AllByRecursion (λ (e : Effect). PathFits (length p.regions) n e.path) decl.summary.effects) as_many fits.summary.effects))
    (no_var_numbers args)

pub row_filled : (p : Program) (lim : Bounds) (rows : List TaskRow) (t : ℕ) (row : TaskRow) → IsWellFormed p → RowStands p lim rows t row → IsTrue (all_filled row.effects.effects)
row_filled p lim rows t row well stands =
    ap (λ summary. all_filled summary.effects) stands.effects ∙ filled_of p (slice_get p.tasks row.decl) row.decl row.args well refl stands.count

pub reached_filled : (p : Program) (lim : Bounds) (st : State) → IsWellFormed p → IsReached p lim st → EffectsAreFilled st
reached_filled p lim st well reached t row here = row_filled p lim st.tasks t row well ((reached_stands p lim st well reached).rows t row here)
