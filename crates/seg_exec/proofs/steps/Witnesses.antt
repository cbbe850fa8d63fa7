-- There is always a list of cells that agrees with what was read so far.
use Rattle.std.proofs.Common.{◌≡◌, ℕ, zero, suc, ◌<◌, ◌≤◌, ℤ, pos, Bool, true, false, cond, ◌||◌, ◌⊎◌, inl, inr, List, [], ◌∷◌, length, Option, Some, refl, sym, ap, ◌∙◌, subst, arith}
use Rattle.std.specs.Prelude.{nat_eq, slice_get, slice_set}
use Rattle.std.proofs.lemmas.Bool.{eqb-true, eqb-false, eq-eqb}
use Rattle.seg_meaning.specs.Access.{Access, Reads, Writes, Prints, Agrees, KnowsNow, after, value_in}
use Rattle.seg_exec.specs.inner.steps.Reached.{Witness, is_accessed}
use Rattle.seg_meaning.proofs.CellsAfter.{after_length}

-- a list with a value put at a place, with zeros before it where the list is too short
put : List ℤ → ℕ → ℤ → List ℤ
put [] zero v = v ∷ []
put (x ∷ xs) zero v = v ∷ xs
put [] (suc k) v = pos 0 ∷ put [] k v
put (x ∷ xs) (suc k) v = x ∷ put xs k v

put_here : (xs : List ℤ) (k : ℕ) (v : ℤ) → slice_get (put xs k v) k ≡ Some v
unfolding put
put_here [] zero v = refl
put_here (x ∷ xs) zero v = refl
put_here [] (suc k) v = put_here [] k v
put_here (x ∷ xs) (suc k) v = put_here xs k v

put_else : (xs : List ℤ) (k j : ℕ) (v : ℤ) → (j ≡ k → ⊥) → value_in (slice_get (put xs k v) j) ≡ value_in (slice_get xs j)
unfolding put
put_else [] zero zero v ne = absurd (ne refl)
put_else [] zero (suc j) v ne = refl
put_else (x ∷ xs) zero zero v ne = absurd (ne refl)
put_else (x ∷ xs) zero (suc j) v ne = refl
put_else [] (suc k) zero v ne = refl
put_else [] (suc k) (suc j) v ne = put_else [] k j v (λ e. ne (ap suc e))
put_else (x ∷ xs) (suc k) zero v ne = refl
put_else (x ∷ xs) (suc k) (suc j) v ne = put_else xs k j v (λ e. ne (ap suc e))

put_within : (xs : List ℤ) (k : ℕ) (v : ℤ) → k < length (put xs k v)
unfolding put
put_within [] zero v = omega arith
put_within (x ∷ xs) zero v = omega arith
put_within [] (suc k) v = omega (arith, put_within [] k v)
put_within (x ∷ xs) (suc k) v = omega (arith, put_within xs k v)

put_longer : (xs : List ℤ) (k : ℕ) (v : ℤ) → length xs ≤ length (put xs k v)
unfolding put
put_longer [] zero v = omega arith
put_longer (x ∷ xs) zero v = omega arith
put_longer [] (suc k) v = omega arith
put_longer (x ∷ xs) (suc k) v = omega (arith, put_longer xs k v)

set_here : (xs : List ℤ) (k : ℕ) (v : ℤ) → k < length xs → slice_get (slice_set xs k v) k ≡ Some v
set_here [] k v h = absurd (omega (arith, h))
set_here (x ∷ xs) zero v h = refl
set_here (x ∷ xs) (suc k) v h = set_here xs k v (omega (arith, h))

set_else : (xs : List ℤ) (k j : ℕ) (v : ℤ) → (j ≡ k → ⊥) → slice_get (slice_set xs k v) j ≡ slice_get xs j
set_else [] k j v ne = refl
set_else (x ∷ xs) zero zero v ne = absurd (ne refl)
set_else (x ∷ xs) zero (suc j) v ne = refl
set_else (x ∷ xs) (suc k) zero v ne = refl
set_else (x ∷ xs) (suc k) (suc j) v ne = set_else xs k j v (λ e. ne (ap suc e))

-- what an access says of the cells that are accessed
or_first : (a b : Bool) → a ≡ true → (a || b) ≡ true
or_first true b e = refl
or_first false b e = absurd (cc)

or_second : (a b : Bool) → b ≡ true → (a || b) ≡ true
or_second true b e = refl
or_second false b e = e

or_cases : (a b : Bool) → (a || b) ≡ true → (a ≡ true) ⊎ (b ≡ true)
or_cases true b e = inl refl
or_cases false b e = inr e

or_neither : (a b : Bool) → (a || b) ≡ false → (a ≡ false) × (b ≡ false)
or_neither true b e = absurd (cc)
or_neither false b e = (refl, e)

-- a cell that was not accessed is as it was
after_same : (cells : List ℤ) (accesses : List Access) (k : ℕ) → is_accessed k accesses ≡ false → slice_get (after cells accesses) k ≡ slice_get cells k
after_same cells [] k no_access = refl
after_same cells (Reads cell value ∷ earlier) k no_access = after_same cells earlier k (or_neither (nat_eq k cell) (is_accessed k earlier) no_access).1
after_same cells (Writes cell value ∷ earlier) k no_access =
    let n = or_neither (nat_eq k cell) (is_accessed k earlier) no_access in
    set_else (after cells earlier) cell k value (eqb-false k cell n.0) ∙ after_same cells earlier k n.1
after_same cells (Prints value ∷ earlier) k no_access = after_same cells earlier k no_access

abbrev Within : List ℤ → List Access → Type 0
Within cells accesses = (k : ℕ) → is_accessed k accesses ≡ true → k < length cells

-- a value put at one cell changes no other
after_else : (cells : List ℤ) (accesses : List Access) (k j : ℕ) (v : ℤ) → Within cells accesses → (j ≡ k → ⊥)
    → value_in (slice_get (after (put cells k v) accesses) j) ≡ value_in (slice_get (after cells accesses) j)
after_else cells [] k j v within ne = put_else cells k j v ne
after_else cells (Reads cell value ∷ earlier) k j v within ne =
    after_else cells earlier k j v (λ i h. within i (or_second (nat_eq i cell) (is_accessed i earlier) h)) ne
after_else cells (Writes cell value ∷ earlier) k j v within ne =
    let within' : Within cells earlier = λ i h. within i (or_second (nat_eq i cell) (is_accessed i earlier) h) in
    let room : cell < length cells = within cell (or_first (nat_eq cell cell) (is_accessed cell earlier) (eq-eqb cell cell refl)) in
    let old = after cells earlier in
    let new = after (put cells k v) earlier in
    let in_old : cell < length old = omega (arith, after_length cells earlier) in
    let in_new : cell < length new = omega (arith, after_length (put cells k v) earlier, put_longer cells k v) in
    by_place old new cell j value in_old in_new (after_else cells earlier k j v within' ne) (nat_eq j cell) refl
  where
    by_place : (old new : List ℤ) (cell j : ℕ) (value : ℤ) → cell < length old → cell < length new → value_in (slice_get new j) ≡ value_in (slice_get old j)
        → (b : Bool) → nat_eq j cell ≡ b → value_in (slice_get (slice_set new cell value) j) ≡ value_in (slice_get (slice_set old cell value) j)
    by_place old new cell j value in_old in_new e true is =
        let same : cell ≡ j = sym (eqb-true j cell is) in
        subst (λ (i : ℕ). value_in (slice_get (slice_set new cell value) i) ≡ value_in (slice_get (slice_set old cell value) i)) same
        (ap value_in (set_here new cell value in_new) ∙ sym (ap value_in (set_here old cell value in_old)))
    by_place old new cell j value in_old in_new e false is =
        ap value_in (set_else new cell j value (eqb-false j cell is)) ∙ e ∙ sym (ap value_in (set_else old cell j value (eqb-false j cell is)))
after_else cells (Prints value ∷ earlier) k j v within ne = after_else cells earlier k j v within ne

agrees_put : (cells : List ℤ) (accesses : List Access) (k : ℕ) (v : ℤ) → Within cells accesses → is_accessed k accesses ≡ false → Agrees cells accesses → Agrees (put cells k v) accesses
agrees_put cells [] k v within no_access agrees = tt
agrees_put cells (Reads cell value ∷ earlier) k v within no_access agrees =
    let n = or_neither (nat_eq k cell) (is_accessed k earlier) no_access in
    let within' : Within cells earlier = λ i h. within i (or_second (nat_eq i cell) (is_accessed i earlier) h) in
    (agrees_put cells earlier k v within' n.1 agrees.0, after_else cells earlier k cell v within' (λ e. eqb-false k cell n.0 (sym e)) ∙ agrees.1)
agrees_put cells (Writes cell value ∷ earlier) k v within no_access agrees =
    agrees_put cells earlier k v (λ i h. within i (or_second (nat_eq i cell) (is_accessed i earlier) h)) (or_neither (nat_eq k cell) (is_accessed k earlier) no_access).1 agrees
agrees_put cells (Prints value ∷ earlier) k v within no_access agrees = agrees_put cells earlier k v within no_access agrees

-- a witness in which a cell has a place, and a given value where it was not accessed
record Room (known : ℕ → Option ℤ) (accesses : List Access) (cell : ℕ) (value : ℤ) : Type 0 where
  witness : Witness known accesses
  place : cell < length witness.cells
  has : is_accessed cell accesses ≡ false → value_in (slice_get (after witness.cells accesses) cell) ≡ value

room_by : (known : ℕ → Option ℤ) (accesses : List Access) (cell : ℕ) (value : ℤ) → Witness known accesses → (b : Bool) → is_accessed cell accesses ≡ b → Room known accesses cell value
room_by known accesses cell value w true is = record { witness = w; place = w.within cell is; has = λ e. absurd (cc) }
room_by known accesses cell value w false is = record {
  witness = record {
    cells = put w.cells cell value;
    agrees = agrees_put w.cells accesses cell value w.within is w.agrees;
    within = λ k h. omega (arith, w.within k h, put_longer w.cells cell value);
    knows = λ k h.
        let ne : k ≡ cell → ⊥ = λ e. let here : is_accessed cell accesses ≡ true = subst (λ (i : ℕ). is_accessed i accesses ≡ true) e h in absurd (cc) in
        w.knows k h ∙ ap Some (sym (after_else w.cells accesses cell k value w.within ne));
  };
  place = put_within w.cells cell value;
  has = λ e. ap value_in (after_same (put w.cells cell value) accesses cell is ∙ put_here w.cells cell value);
}

room : (known : ℕ → Option ℤ) (accesses : List Access) (cell : ℕ) (value : ℤ) → Witness known accesses → Room known accesses cell value
room known accesses cell value w = room_by known accesses cell value w (is_accessed cell accesses) refl

known_here : (old new : ℕ → Option ℤ) (cell : ℕ) (value : ℤ) → KnowsNow old cell value new → new cell ≡ Some value
known_here old new cell value h = h cell ∙ ap (λ (b : Bool). cond b (Some value) (old cell)) (eq-eqb cell cell refl)

known_else : (old new : ℕ → Option ℤ) (cell k : ℕ) (value : ℤ) → KnowsNow old cell value new → nat_eq k cell ≡ false → new k ≡ old k
known_else old new cell k value h ne = h k ∙ ap (λ (b : Bool). cond b (Some value) (old k)) ne

-- the value that a witness has at the cell that is read
read_value : (known : ℕ → Option ℤ) (accesses : List Access) (cell : ℕ) (value : ℤ) (r : Room known accesses cell value) → ((v : ℤ) → known cell ≡ Some v → value ≡ v)
    → (b : Bool) → is_accessed cell accesses ≡ b → value_in (slice_get (after r.witness.cells accesses) cell) ≡ value
read_value known accesses cell value r answer true is = sym (answer _ (r.witness.knows cell is))
read_value known accesses cell value r answer false is = r.has is

pub witness_read : (old new : ℕ → Option ℤ) (accesses : List Access) (cell : ℕ) (value : ℤ) → Witness old accesses → ((v : ℤ) → old cell ≡ Some v → value ≡ v)
    → KnowsNow old cell value new → Witness new (Reads cell value ∷ accesses)
witness_read old new accesses cell value w answer now =
    let r = room old accesses cell value w in
    let has = read_value old accesses cell value r answer (is_accessed cell accesses) refl in
    record {
      cells = r.witness.cells;
      agrees = (r.witness.agrees, has);
      within = λ k h. within_by r k (nat_eq k cell) refl h;
      knows = λ k h. knows_by r has k (nat_eq k cell) refl h;
    }
  where
    within_by : (r : Room old accesses cell value) (k : ℕ) (b : Bool) → nat_eq k cell ≡ b → (nat_eq k cell || is_accessed k accesses) ≡ true → k < length r.witness.cells
    within_by r k true is h = let same : k ≡ cell = eqb-true k cell is in omega (arith, same, r.place)
    within_by r k false is h = r.witness.within k (subst (λ (b : Bool). (b || is_accessed k accesses) ≡ true) is h)

    knows_by : (r : Room old accesses cell value) → value_in (slice_get (after r.witness.cells accesses) cell) ≡ value → (k : ℕ) (b : Bool) → nat_eq k cell ≡ b
        → (nat_eq k cell || is_accessed k accesses) ≡ true → new k ≡ Some (value_in (slice_get (after r.witness.cells accesses) k))
    knows_by r has k true is h =
        let same : cell ≡ k = sym (eqb-true k cell is) in
        subst (λ (i : ℕ). new i ≡ Some (value_in (slice_get (after r.witness.cells accesses) i))) same (known_here old new cell value now ∙ ap Some (sym has))
    knows_by r has k false is h =
        known_else old new cell k value now is ∙ r.witness.knows k (subst (λ (b : Bool). (b || is_accessed k accesses) ≡ true) is h)

pub witness_written : (old new : ℕ → Option ℤ) (accesses : List Access) (cell : ℕ) (value : ℤ) → Witness old accesses → KnowsNow old cell value new → Witness new (Writes cell value ∷ accesses)
witness_written old new accesses cell value w now =
    let r = room old accesses cell (pos 0) w in
    record {
      cells = r.witness.cells;
      agrees = r.witness.agrees;
      within = λ k h. within_by r k (nat_eq k cell) refl h;
      knows = λ k h. knows_by r k (nat_eq k cell) refl h;
    }
  where
    within_by : (r : Room old accesses cell (pos 0)) (k : ℕ) (b : Bool) → nat_eq k cell ≡ b → (nat_eq k cell || is_accessed k accesses) ≡ true → k < length r.witness.cells
    within_by r k true is h = let same : k ≡ cell = eqb-true k cell is in omega (arith, same, r.place)
    within_by r k false is h = r.witness.within k (subst (λ (b : Bool). (b || is_accessed k accesses) ≡ true) is h)

    knows_by : (r : Room old accesses cell (pos 0)) → (k : ℕ) (b : Bool) → nat_eq k cell ≡ b
        → (nat_eq k cell || is_accessed k accesses) ≡ true → new k ≡ Some (value_in (slice_get (slice_set (after r.witness.cells accesses) cell value) k))
    knows_by r k true is h =
        let same : cell ≡ k = sym (eqb-true k cell is) in
        let inside : cell < length (after r.witness.cells accesses) = omega (arith, after_length r.witness.cells accesses, r.place) in
        subst (λ (i : ℕ). new i ≡ Some (value_in (slice_get (slice_set (after r.witness.cells accesses) cell value) i))) same
        (known_here old new cell value now ∙ ap Some (sym (ap value_in (set_here (after r.witness.cells accesses) cell value inside))))
    knows_by r k false is h =
        known_else old new cell k value now is ∙ r.witness.knows k (subst (λ (b : Bool). (b || is_accessed k accesses) ≡ true) is h)
        ∙ ap Some (sym (ap value_in (set_else (after r.witness.cells accesses) cell k value (eqb-false k cell is))))

pub witness_printed : (known : ℕ → Option ℤ) (accesses : List Access) (value : ℤ) → Witness known accesses → Witness known (Prints value ∷ accesses)
witness_printed known accesses value w = record { cells = w.cells; agrees = w.agrees; within = w.within; knows = w.knows }

pub no_witness_needed : (known : ℕ → Option ℤ) → Witness known []
no_witness_needed known = record { cells = []; agrees = tt; within = λ k h. absurd (cc); knows = λ k h. absurd (cc) }
