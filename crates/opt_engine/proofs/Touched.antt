-- What a segment reads and writes, over other cells too.
use Rattle.std.proofs.Common.{◌≡◌, ◌<◌, ℕ, ℤ, Bool, true, false, List, [], ◌∷◌, ◌++◌, length, map, Option, None, Some, refl, sym, ap, ◌∙◌, subst, inl, inr, arith, length-set}
use Rattle.std.specs.Prelude.{◌||◌, if◌then◌else◌, is_some, nat_eq, slice_get, slice_set}
use Rattle.std.proofs.lemmas.Bool.{eqb-true, false≢true, or_cases}
use Rattle.std.proofs.lemmas.Bool.Decides.{eqb_tells}
use Rattle.seg_meaning.specs.Access.{Access, Reads, Writes, Prints, Agrees, MayAll, after, value_in}
use Rattle.seg_meaning.specs.Plain.{list_ways}
use Rattle.machine_state.proofs.lists.Places.{below_there, set_other, set_same}
use Rattle.opt_engine.specs.declared.touch.CellValue.{CellValue}
use Rattle.opt_engine.specs.inner.Noting.{value_at}
use Rattle.opt_engine.specs.Drafts.{StandsIn}
use Rattle.opt_engine.specs.Touches.{first_reads, is_touched, last_write, last_writes, last_written, with_writes, written_cells}
use Rattle.opt_engine.proofs.Places.{Each, each_map, each_push, each_pushed, each_weaker, if_false, if_true, map_same, neither, or_false, or_true, same_list}

-- What a cell has after accesses.

pub length_after : (cells : List ℤ) (accesses : List Access) → length (after cells accesses) ≡ length cells
length_after cells [] = refl
length_after cells (Reads cell value ∷ earlier) = length_after cells earlier
length_after cells (Writes cell value ∷ earlier) = length-set (after cells earlier) cell value ∙ length_after cells earlier
length_after cells (Prints value ∷ earlier) = length_after cells earlier

-- what stands in a place once it was set, and there is such a place
pub set_there : (cells : List ℤ) (cell : ℕ) (value : ℤ) → cell < length cells → slice_get (slice_set cells cell value) cell ≡ Some value
set_there cells cell value below = let was = below_there cells cell below in set_same cells cell was.0 value was.1

-- a cell has its last written value, or else the value that it had
abbrev pub last_or : Option ℤ → Option ℤ → Option ℤ
last_or written before = if is_some written then Some (value_in written) else before

last_or_chosen : (b : Bool) (value : ℤ) (written before : Option ℤ) → b ≡ true → Some value ≡ last_or (if b then Some value else written) before
last_or_chosen true value written before is = refl
last_or_chosen false value written before is = absurd (false≢true is)

last_or_not : (b : Bool) (value : ℤ) (written before : Option ℤ) → b ≡ false → last_or written before ≡ last_or (if b then Some value else written) before
last_or_not true value written before is = absurd (false≢true (sym is))
last_or_not false value written before is = refl

pub after_get : (cells : List ℤ) (accesses : List Access) (k : ℕ) → k < length cells → slice_get (after cells accesses) k ≡ last_or (last_written accesses k) (slice_get cells k)
after_get cells [] k lt = refl
after_get cells (Reads cell value ∷ earlier) k lt = after_get cells earlier k lt
after_get cells (Writes cell value ∷ earlier) k lt =
    let now = after cells earlier in
    let long = length_after cells earlier in
    elim (eqb_tells cell k) [
      | inl same ↦ (
          let own : slice_get (slice_set now cell value) k ≡ Some value =
          subst (λ (n : ℕ). slice_get (slice_set now n value) k ≡ Some value) (sym same.1) (set_there now k value (omega arith)) in
          own ∙ last_or_chosen (nat_eq cell k) value (last_written earlier k) (slice_get cells k) same.0
          )
      | inr other ↦ set_other now cell k value (λ e. other.1 (sym e)) ∙ (after_get cells earlier k lt ∙ last_or_not (nat_eq cell k) value (last_written earlier k) (slice_get cells k) other.0)
    ]
after_get cells (Prints value ∷ earlier) k lt = after_get cells earlier k lt

-- The written cells have last written values.

some_by : (b : Bool) (value : ℤ) (written : Option ℤ) → is_some written ≡ true → is_some (if b then Some value else written) ≡ true
some_by true value written is = refl
some_by false value written is = is

some_own : (b : Bool) (value : ℤ) (written : Option ℤ) → b ≡ true → is_some (if b then Some value else written) ≡ true
some_own true value written is = refl
some_own false value written is = absurd (false≢true is)

-- the cell is one of n cells, and was written
abbrev pub IsWrittenOf : ℕ → List Access → ℕ → Type 0
IsWrittenOf n accesses cell = (is_some (last_written accesses cell) ≡ true) × (cell < n)

pub written_each : (cells : List ℤ) (accesses : List Access) → MayAll list_ways cells accesses → Each (IsWrittenOf (length cells) accesses) (written_cells accesses)
written_each cells [] may = tt
written_each cells (Reads cell value ∷ earlier) may = written_each cells earlier may.1
written_each cells (Writes cell value ∷ earlier) may =
    by
    (each_weaker (IsWrittenOf (length cells) earlier) (IsWrittenOf (length cells) (Writes cell value ∷ earlier)) (written_cells earlier)
    (λ k is. (some_by (nat_eq cell k) value (last_written earlier k) is.0, is.1)) (written_each cells earlier may.1))
    (is_some (last_written earlier cell)) where
      by : Each (IsWrittenOf (length cells) (Writes cell value ∷ earlier)) (written_cells earlier)
          → (b : Bool) → Each (IsWrittenOf (length cells) (Writes cell value ∷ earlier)) (if b then written_cells earlier else written_cells earlier ++ cell ∷ [])
      by kept true = kept
      by kept false = each_push (IsWrittenOf (length cells) (Writes cell value ∷ earlier)) (written_cells earlier) cell kept
          (elim (eqb_tells cell cell) [ inl same ↦ some_own (nat_eq cell cell) value (last_written earlier cell) same.0 | inr other ↦ absurd (other.1 refl) ], may.0)
written_each cells (Prints value ∷ earlier) may = written_each cells earlier may

last_or_some : (written before : Option ℤ) → is_some written ≡ true → value_in (last_or written before) ≡ value_in written
last_or_some None before is = absurd (false≢true is)
last_or_some (Some value) before is = refl

-- each written cell has its last written value afterwards
pub values_are : (cells : List ℤ) (accesses : List Access) → MayAll list_ways cells accesses → map (value_at (after cells accesses)) (written_cells accesses) ≡ last_writes accesses
values_are cells accesses may =
    map_same (value_at (after cells accesses)) (last_write accesses) (written_cells accesses)
    (each_weaker (IsWrittenOf (length cells) accesses) (λ (k : ℕ). value_at (after cells accesses) k ≡ last_write accesses k) (written_cells accesses)
    (λ k is. ap (λ (v : ℤ). record { cell = k; value = v }) (ap value_in (after_get cells accesses k is.1) ∙ last_or_some (last_written accesses k) (slice_get cells k) is.0))
    (written_each cells accesses may))

-- so the writes are of cells that there are
pub writes_below : (cells : List ℤ) (accesses : List Access) → MayAll list_ways cells accesses → Each (λ (w : CellValue). w.cell < length cells) (last_writes accesses)
writes_below cells accesses may =
    each_map (λ (w : CellValue). w.cell < length cells) (last_write accesses) (written_cells accesses)
    (each_weaker (IsWrittenOf (length cells) accesses) (λ (k : ℕ). k < length cells) (written_cells accesses) (λ k is. is.1) (written_each cells accesses may))

pub reads_below : (cells : List ℤ) (accesses : List Access) → MayAll list_ways cells accesses → Each (λ (r : CellValue). r.cell < length cells) (first_reads accesses)
reads_below cells [] may = tt
reads_below cells (Reads cell value ∷ earlier) may = by (reads_below cells earlier may.1) (is_touched earlier cell) where
  by : Each (λ (r : CellValue). r.cell < length cells) (first_reads earlier) → (b : Bool) → Each (λ (r : CellValue). r.cell < length cells) (if b then first_reads earlier else first_reads earlier ++ record { cell = cell; value = value } ∷ [])
  by kept true = kept
  by kept false = each_push (λ (r : CellValue). r.cell < length cells) (first_reads earlier) (record { cell = cell; value = value }) kept may.0
reads_below cells (Writes cell value ∷ earlier) may = reads_below cells earlier may.1
reads_below cells (Prints value ∷ earlier) may = reads_below cells earlier may

-- Making the writes leads to the cells after the accesses.

-- the cell is in the list
abbrev pub has : List ℕ → ℕ → Bool
has [] k = false
has (x ∷ xs) k = nat_eq x k || has xs k

has_push : (xs : List ℕ) (x k : ℕ) → has (xs ++ x ∷ []) k ≡ (has xs k || nat_eq x k)
has_push [] x k = or_false (nat_eq x k)
has_push (y ∷ ys) x k = ap (λ (b : Bool). nat_eq y k || b) (has_push ys x k) ∙ or_assoc (nat_eq y k) (has ys k) (nat_eq x k) where
  or_assoc : (a b c : Bool) → (a || (b || c)) ≡ ((a || b) || c)
  or_assoc true b c = refl
  or_assoc false b c = refl

-- exactly the cells with a last written value are among the written ones
pub has_written : (accesses : List Access) (k : ℕ) → has (written_cells accesses) k ≡ is_some (last_written accesses k)
has_written [] k = refl
has_written (Reads cell value ∷ earlier) k = has_written earlier k
has_written (Writes cell value ∷ earlier) k = by (has_written earlier k) (is_some (last_written earlier cell)) refl where
  by : has (written_cells earlier) k ≡ is_some (last_written earlier k) → (b : Bool) → is_some (last_written earlier cell) ≡ b
      → has (if b then written_cells earlier else written_cells earlier ++ cell ∷ []) k ≡ is_some (if nat_eq cell k then Some value else last_written earlier k)
  by before true was =
      elim (eqb_tells cell k) [
        | inl same ↦ (
            let at : is_some (last_written earlier k) ≡ true = subst (λ (n : ℕ). is_some (last_written earlier n) ≡ true) same.1 was in
            before ∙ (at ∙ sym (some_own (nat_eq cell k) value (last_written earlier k) same.0))
            )
        | inr other ↦ before ∙ sym (ap (λ (o : Option ℤ). is_some o) (if_false (nat_eq cell k) (Some value) (last_written earlier k) other.0))
      ]
  by before false was =
      has_push (written_cells earlier) cell k
      ∙ elim (eqb_tells cell k) [
        | inl same ↦ ap (λ (b : Bool). has (written_cells earlier) k || b) same.0 ∙ (or_true (has (written_cells earlier) k) ∙ sym (some_own (nat_eq cell k) value (last_written earlier k) same.0))
        | inr other ↦ (
            ap (λ (b : Bool). has (written_cells earlier) k || b) other.0
            ∙ (or_false (has (written_cells earlier) k)
            ∙ (before ∙ sym (ap (λ (o : Option ℤ). is_some o) (if_false (nat_eq cell k) (Some value) (last_written earlier k) other.0))))
            )
      ]
has_written (Prints value ∷ earlier) k = has_written earlier k

pub length_written : (cells : List ℤ) (writes : List CellValue) → length (with_writes cells writes) ≡ length cells
length_written cells [] = refl
length_written cells (w ∷ ws) = length_written (slice_set cells w.cell w.value) ws ∙ length-set cells w.cell w.value

pub both_same : {A : Type 0} (b : Bool) (x y : A) → y ≡ x → (if b then x else y) ≡ x
both_same true x y e = refl
both_same false x y e = e

-- a cell has the value that was written to it, or else the one that it had
written_get : (g : ℕ → ℤ) (cells : List ℤ) (writes : List ℕ) (k : ℕ) → k < length cells
    → slice_get (with_writes cells (map (λ (n : ℕ). record { cell = n; value = g n }) writes)) k ≡ (if has writes k then Some (g k) else slice_get cells k)
written_get g cells [] k lt = refl
written_get g cells (x ∷ xs) k lt =
    let now = slice_set cells x (g x) in
    let long : length now ≡ length cells = length-set cells x (g x) in
    let later = written_get g now xs k (omega arith) in
    elim (eqb_tells x k) [
      | inl same ↦ (
          let own : slice_get now k ≡ Some (g k) = subst (λ (n : ℕ). slice_get (slice_set cells n (g n)) k ≡ Some (g k)) (sym same.1) (set_there cells k (g k) lt) in
          later ∙ (both_same (has xs k) (Some (g k)) (slice_get now k) own
          ∙ sym (if_true (nat_eq x k || has xs k) (Some (g k)) (slice_get cells k) (ap (λ (b : Bool). b || has xs k) same.0)))
          )
      | inr other ↦ (
          later ∙ (ap (λ (o : Option ℤ). if has xs k then Some (g k) else o) (set_other cells x k (g x) (λ e. other.1 (sym e)))
          ∙ sym (ap (λ (b : Bool). if (b || has xs k) then Some (g k) else slice_get cells k) other.0))
          )
    ]

pub writes_make : (cells : List ℤ) (accesses : List Access) → with_writes cells (last_writes accesses) ≡ after cells accesses
writes_make cells accesses =
    same_list (with_writes cells (last_writes accesses)) (after cells accesses) (length_written cells (last_writes accesses) ∙ sym (length_after cells accesses))
    (λ k lt.
    let below : k < length cells = let long = length_written cells (last_writes accesses) in omega arith in
    written_get (λ (n : ℕ). value_in (last_written accesses n)) cells (written_cells accesses) k below
    ∙ (ap (λ (b : Bool). if b then Some (value_in (last_written accesses k)) else slice_get cells k) (has_written accesses k)
    ∙ sym (after_get cells accesses k below)))

-- Other cells that have the values that were read agree with the accesses.

pub untouched_unwritten : (accesses : List Access) (k : ℕ) → is_touched accesses k ≡ false → last_written accesses k ≡ None
untouched_unwritten [] k is = refl
untouched_unwritten (Reads cell value ∷ earlier) k is = untouched_unwritten earlier k (neither (nat_eq cell k) (is_touched earlier k) is).1
untouched_unwritten (Writes cell value ∷ earlier) k is =
    let parts = neither (nat_eq cell k) (is_touched earlier k) is in
    if_false (nat_eq cell k) (Some value) (last_written earlier k) parts.0 ∙ untouched_unwritten earlier k parts.1
untouched_unwritten (Prints value ∷ earlier) k is = untouched_unwritten earlier k is

-- a cell that there is has the value that is read there
has_value : (cells : List ℤ) (k : ℕ) (value : ℤ) → k < length cells → value_in (slice_get cells k) ≡ value → slice_get cells k ≡ Some value
has_value cells k value lt is =
    let there = below_there cells k lt in
    there.1 ∙ ap (λ (v : ℤ). Some v) (ap value_in (sym there.1) ∙ is)

-- the cells agree with the accesses, and each touched cell is then the same as after them over the first cells
abbrev AgreesToo : List ℤ → List ℤ → List Access → Type 0
AgreesToo cells other accesses =
    Agrees other accesses × ((k : ℕ) → k < length cells → is_touched accesses k ≡ true → slice_get (after other accesses) k ≡ slice_get (after cells accesses) k)

module _ (cells other : List ℤ) (long : length other ≡ length cells) where
  read_agrees : (cell : ℕ) (value : ℤ) (earlier : List Access) → cell < length cells → value_in (slice_get (after cells earlier) cell) ≡ value
      → AgreesToo cells other earlier → slice_get (after other earlier) cell ≡ Some value → AgreesToo cells other (Reads cell value ∷ earlier)
  read_agrees cell value earlier below gave before is = ((before.0, ap value_in is), same) where
    same : (k : ℕ) → k < length cells → (nat_eq cell k || is_touched earlier k) ≡ true → slice_get (after other earlier) k ≡ slice_get (after cells earlier) k
    same k lt touched =
        elim (or_cases (nat_eq cell k) (is_touched earlier k) touched) [
          | inl own ↦ (
              let size = length_after cells earlier in
              let own_value : slice_get (after cells earlier) cell ≡ Some value = has_value (after cells earlier) cell value (omega arith) gave in
              subst (λ (n : ℕ). slice_get (after other earlier) n ≡ slice_get (after cells earlier) n) (eqb-true cell k own) (is ∙ sym own_value)
              )
          | inr older ↦ before.1 k lt older
        ]

  pub agrees_too : (accesses : List Access) → Agrees cells accesses → MayAll list_ways cells accesses → Each (StandsIn other) (first_reads accesses) → AgreesToo cells other accesses
  agrees_too [] agrees may stands = (tt, λ k lt touched. absurd (false≢true touched))
  agrees_too (Reads cell value ∷ earlier) agrees may stands = by (agrees_too earlier agrees.0 may.1) (is_touched earlier cell) refl stands where
    by : (Each (StandsIn other) (first_reads earlier) → AgreesToo cells other earlier) → (b : Bool) → is_touched earlier cell ≡ b → Each (StandsIn other) (if b then first_reads earlier else first_reads earlier ++ record { cell = cell; value = value } ∷ [])
        → AgreesToo cells other (Reads cell value ∷ earlier)
    by earlier_too true touched each =
        let before = earlier_too each in
        let size = length_after cells earlier in
        read_agrees cell value earlier may.0 agrees.1 before
        (before.1 cell may.0 touched ∙ has_value (after cells earlier) cell value (let below : cell < length cells = may.0 in omega arith) agrees.1)
    by earlier_too false untouched each =
        let parts = each_pushed (StandsIn other) (first_reads earlier) (record { cell = cell; value = value }) each in
        let before = earlier_too parts.0 in
        let below : cell < length other = (let lt : cell < length cells = may.0 in omega arith) in
        read_agrees cell value earlier may.0 agrees.1 before
        (after_get other earlier cell below ∙ (ap (λ (o : Option ℤ). last_or o (slice_get other cell)) (untouched_unwritten earlier cell untouched) ∙ parts.1))
  agrees_too (Writes cell value ∷ earlier) agrees may stands =
      let before = agrees_too earlier agrees may.1 stands in (before.0, same before) where
        same : AgreesToo cells other earlier → (k : ℕ) → k < length cells → (nat_eq cell k || is_touched earlier k) ≡ true
            → slice_get (slice_set (after other earlier) cell value) k ≡ slice_get (slice_set (after cells earlier) cell value) k
        same before k lt touched =
            let size = length_after cells earlier in
            let other_size = length_after other earlier in
            elim (eqb_tells cell k) [
              | inl own ↦ (
                  let here : slice_get (slice_set (after other earlier) k value) k ≡ slice_get (slice_set (after cells earlier) k value) k =
                  set_there (after other earlier) k value (omega arith) ∙ sym (set_there (after cells earlier) k value (omega arith)) in
                  subst (λ (n : ℕ). slice_get (slice_set (after other earlier) n value) k ≡ slice_get (slice_set (after cells earlier) n value) k) (sym own.1) here
                  )
              | inr another ↦ (
                  let older : is_touched earlier k ≡ true = sym (ap (λ (b : Bool). b || is_touched earlier k) another.0) ∙ touched in
                  set_other (after other earlier) cell k value (λ e. another.1 (sym e))
                  ∙ (before.1 k lt older ∙ sym (set_other (after cells earlier) cell k value (λ e. another.1 (sym e))))
                  )
            ]
  agrees_too (Prints value ∷ earlier) agrees may stands = agrees_too earlier agrees may stands
