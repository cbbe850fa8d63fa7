-- A number of each row, at each place: how replacing a row, joining a child and adding a row change it.
use Rattle.std.proofs.Common.{◌≡◌, ◌≢◌, ◌+◌, ◌==◌, ℕ, zero, suc, Bool, List, [], ◌∷◌, ◌++◌, Option, Some, None, cond, refl, sym, ap, ◌∙◌, subst, ⊎_elim, arith}
use Rattle.std.specs.Prelude.{slice_get, slice_set}
use Rattle.std.proofs.lemmas.Bool.{cases_eq, eq-eqb, ne_eqb}
use Rattle.machine_state.specs.declared.state.State.{State}
use Rattle.machine_state.specs.declared.state.TaskRow.{TaskRow}
use Rattle.machine_state.specs.Moves.{state_after_join, joined_row, joined_rows}

-- the number of the row that stands at a place, and 0 if none does
abbrev pub number_at : (TaskRow → ℕ) → Option TaskRow → ℕ
number_at f None = 0
number_at f (Some row) = f row

-- n at the place t, and 0 at each other
abbrev pub hits : ℕ → ℕ → ℕ → ℕ
hits zero zero n = n
hits zero (suc u) n = 0
hits (suc t) zero n = 0
hits (suc t) (suc u) n = hits t u n

hits_same : (t n : ℕ) → hits t t n ≡ n
hits_same zero n = refl
hits_same (suc t) n = hits_same t n

hits_other : (t u n : ℕ) → t ≢ u → hits t u n ≡ 0
hits_other zero zero n other = absurd (other refl)
hits_other zero (suc u) n other = refl
hits_other (suc t) zero n other = refl
hits_other (suc t) (suc u) n other = hits_other t u n (λ e. other (ap (λ (k : ℕ). suc k) e))

-- so it is n if the places are equal, and else 0
pub hits_is : (t u n : ℕ) → hits t u n ≡ cond (t == u) n 0
hits_is t u n =
    ⊎_elim
    (λ e. subst (λ (v : ℕ). hits t v n ≡ n) e (hits_same t n) ∙ sym (ap (λ (b : Bool). cond b n 0) (eq-eqb t u e)))
    (λ other. hits_other t u n other ∙ sym (ap (λ (b : Bool). cond b n 0) (ne_eqb t u other)))
    (cases_eq t u)

pub hits_none : (t u : ℕ) → hits t u 0 ≡ 0
hits_none zero zero = refl
hits_none zero (suc u) = refl
hits_none (suc t) zero = refl
hits_none (suc t) (suc u) = hits_none t u

module _ (f : TaskRow → ℕ) where
  -- a row takes the place of another whose number is less by n
  pub number_set : (rows : List TaskRow) (t u n : ℕ) (row new : TaskRow) → slice_get rows t ≡ Some row → f new ≡ f row + n
      → number_at f (slice_get (slice_set rows t new) u) ≡ number_at f (slice_get rows u) + hits t u n
  number_set [] t u n row new found more = absurd (cc)
  number_set (r ∷ rows) zero zero n row new found more = let same : r ≡ row = cc in more ∙ ap (λ (x : TaskRow). f x + n) (sym same)
  number_set (r ∷ rows) zero (suc u) n row new found more = omega arith
  number_set (r ∷ rows) (suc t) zero n row new found more = omega arith
  number_set (r ∷ rows) (suc t) (suc u) n row new found more = number_set rows t u n row new found more

  -- a row is added whose number is 0
  pub number_added : (rows : List TaskRow) (u : ℕ) (new : TaskRow) → f new ≡ 0 → number_at f (slice_get (rows ++ new ∷ []) u) ≡ number_at f (slice_get rows u)
  number_added [] zero new none = none
  number_added [] (suc u) new none = refl
  number_added (r ∷ rows) zero new none = refl
  number_added (r ∷ rows) (suc u) new none = number_added rows u new none

  module _ (joins : (row : TaskRow) → f (joined_row row) ≡ f row) where
    -- joining a child keeps each number
    number_joined_rows : (rows : List TaskRow) (c u : ℕ) (child : Option TaskRow) → slice_get rows c ≡ child → number_at f (slice_get (joined_rows rows c child) u) ≡ number_at f (slice_get rows u)
    number_joined_rows rows c u None there = refl
    number_joined_rows rows c u (Some r) there =
        number_set rows c u 0 r (joined_row r) there (joins r ∙ omega arith) ∙ omega (arith, hits_none c u)

    pub number_joined : (st : State) (child : Option ℕ) (u : ℕ) → number_at f (slice_get (state_after_join st child).tasks u) ≡ number_at f (slice_get st.tasks u)
    number_joined st None u = refl
    number_joined st (Some c) u = number_joined_rows st.tasks c u (slice_get st.tasks c) refl

    -- its row is still there
    pub joined_there : (rows : List TaskRow) (c t : ℕ) (child : Option TaskRow) (row : TaskRow) → slice_get rows c ≡ child → slice_get rows t ≡ Some row
        → (x : TaskRow) × (slice_get (joined_rows rows c child) t ≡ Some x) × (f x ≡ f row)
    joined_there rows c t None row there found = (row, found, refl)
    joined_there [] c t (Some r) row there found = absurd (cc)
    joined_there (y ∷ rows) zero zero (Some r) row there found =
        let same : r ≡ row = cc in
        (joined_row r, refl, joins r ∙ ap f same)
    joined_there (y ∷ rows) zero (suc t) (Some r) row there found = (row, found, refl)
    joined_there (y ∷ rows) (suc c) zero (Some r) row there found = (row, found, refl)
    joined_there (y ∷ rows) (suc c) (suc t) (Some r) row there found = joined_there rows c t (Some r) row there found

    -- a row takes the place of one that was there before the join
    pub number_settled : (st : State) (child : Option ℕ) (t u n : ℕ) (row new : TaskRow) → slice_get st.tasks t ≡ Some row → f new ≡ f row + n
        → number_at f (slice_get (slice_set (state_after_join st child).tasks t new) u) ≡ number_at f (slice_get st.tasks u) + hits t u n
    number_settled st None t u n row new found more = number_set st.tasks t u n row new found more
    number_settled st (Some c) t u n row new found more =
        let x = joined_there st.tasks c t (slice_get st.tasks c) row refl found in
        number_set (state_after_join st (Some c)).tasks t u n x.0 new x.1 (more ∙ ap (λ (k : ℕ). k + n) (sym x.2))
        ∙ ap (λ (k : ℕ). k + hits t u n) (number_joined st (Some c) u)
