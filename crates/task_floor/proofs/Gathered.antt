-- The records that are gathered row by row are those of the enabled tasks.
use Rattle.std.proofs.Common.{◌≡◌, ◌≢◌, ◌⊎◌, ◌+◌, ◌++◌, ◌||◌, ◌<◌, ◌≤◌, ℕ, zero, suc, Bool, true, false, List, [], ◌∷◌, length, take, Some, refl, sym, ap, subst, ◌∙◌, inl, inr, ⊎_elim, if◌then◌else◌, arith}
use Rattle.std.specs.Prelude.{slice_get, Contains}
use Rattle.std.specs.List.{list_any}
use Rattle.std.proofs.Math.Seq.{drop-append_seam}
use Rattle.std.proofs.lemmas.Bool.{cases_eq}
use Rattle.std.proofs.lemmas.Bool.Decides.{not_from_Decides}
use Rattle.std.proofs.lemmas.List.Elements.{Contains-append_left, Contains-push, Contains-push_cases}
use Rattle.region_paths.specs.declared.elements.Elem.{Elem}
use Rattle.effect_sets.specs.declared.effects.Effect.{Effect}
use Rattle.machine_state.specs.declared.state.State.{State}
use Rattle.machine_state.specs.declared.state.TaskRow.{TaskRow}
use Rattle.machine_state.specs.declared.state.TaskStatus.{TaskStatus}
use Rattle.machine_state.specs.declared.state.TaskStatus.TheVariants as status
use Rattle.floor_laws.proofs.rule.Puts.{none_some, some_one}
use Rattle.floor_laws.specs.admission.admission_core.States.{IsAmong, IsPlaceOf, Record}
use Rattle.floor_laws.specs.rule.nodes.Fitting.{IsDistinct}
use Rattle.floor_laws.specs.rule.nodes.Starts.{AreOfEnabled, IsOfEnabled}
use Rattle.floor_laws.specs.table.nodes.Without.{same_record}
use Rattle.floor_laws.proofs.table.nodes.Withouts.{record_decided}
use Rattle.task_floor.specs.inner.Recording.{AreRecordsOf, IsRecordOf, live_by, live_effects, with_record}

-- Lists.

module _ {X : Type 0} where
  pub among_left : (x : X) (xs ys : List X) → IsAmong x xs → IsAmong x (xs ++ ys)
  among_left x [] ys among = absurd among
  among_left x (y ∷ xs) ys (inl same) = inl same
  among_left x (y ∷ xs) ys (inr later) = inr (among_left x xs ys later)

  pub among_right : (x : X) (xs ys : List X) → IsAmong x ys → IsAmong x (xs ++ ys)
  among_right x [] ys among = among
  among_right x (y ∷ xs) ys among = inr (among_right x xs ys among)

  pub among_either : (x : X) (xs ys : List X) → IsAmong x (xs ++ ys) → IsAmong x xs ⊎ IsAmong x ys
  among_either x [] ys among = inr among
  among_either x (y ∷ xs) ys (inl same) = inl (inl same)
  among_either x (y ∷ xs) ys (inr later) = ⊎_elim (λ left. inl (inr left)) (λ right. inr right) (among_either x xs ys later)

  distinct_both : (xs ys : List X) → IsDistinct xs → IsDistinct ys → ((x : X) → IsAmong x xs → IsAmong x ys → ⊥) → IsDistinct (xs ++ ys)
  distinct_both [] ys one two apart = two
  distinct_both (x ∷ xs) ys one two apart = (
    λ among. ⊎_elim (λ left. one.0 left) (λ right. apart x (inl refl) right) (among_either x xs ys among),
    distinct_both xs ys one.1 two (λ y left right. apart y (inr left) right),
  )

-- Whether a record is among others.

or_cases : (a b : Bool) → (a || b) ≡ true → (a ≡ true) ⊎ (b ≡ true)
or_cases true b is = inl refl
or_cases false b is = inr is

or_left : (a b : Bool) → (a || b) ≡ false → a ≡ false
or_left true b is = absurd (cc (is))
or_left false b is = refl

or_right : (a b : Bool) → (a || b) ≡ false → b ≡ false
or_right true b is = absurd (cc (is))
or_right false b is = is

is_among : (r : Record) (l : List Record) → list_any (λ (s : Record). same_record s r) l ≡ true → IsAmong r l
is_among r [] is = absurd (cc (is))
is_among r (x ∷ l) is =
    ⊎_elim (λ (here : same_record x r ≡ true). inl (sym ((record_decided x r).0 here))) (λ (later : list_any (λ (s : Record). same_record s r) l ≡ true). inr (is_among r l later))
    (or_cases (same_record x r) (list_any (λ (s : Record). same_record s r) l) is)

is_not_among : (r : Record) (l : List Record) → list_any (λ (s : Record). same_record s r) l ≡ false → ¬ IsAmong r l
is_not_among r [] is among = absurd among
is_not_among r (x ∷ l) is (inl same) =
    not_from_Decides (same_record x r) (record_decided x r) (or_left (same_record x r) (list_any (λ (s : Record). same_record s r) l) is) (sym same)
is_not_among r (x ∷ l) is (inr later) = is_not_among r l (or_right (same_record x r) (list_any (λ (s : Record). same_record s r) l) is) later

-- The records of one task.

-- the records, and this one behind them if it is not among them
abbrev with_new : Record → List Record → List Record
with_new r more = if list_any (λ (s : Record). same_record s r) more then more else more ++ r ∷ []

with_new_behind : (old : List Record) (r : Record) (more : List Record) → with_record (length old) r (old ++ more) ≡ old ++ with_new r more
with_new_behind old r more =
    ap (λ (l : List Record). if list_any (λ (s : Record). same_record s r) l then old ++ more else (old ++ more) ++ r ∷ []) (drop-append_seam old more)
    ∙ by (list_any (λ (s : Record). same_record s r) more)
  where
    by : (b : Bool) → (if b then old ++ more else (old ++ more) ++ r ∷ []) ≡ old ++ (if b then more else more ++ r ∷ [])
    by true = refl
    by false = append_three old more
      where
        append_three : (a c : List Record) → (a ++ c) ++ r ∷ [] ≡ a ++ (c ++ r ∷ [])
        append_three [] c = refl
        append_three (x ∷ a) c = ap (λ (l : List Record). x ∷ l) (append_three a c)

module _ (nodes : List (List Elem)) (t : ℕ) where
  module _ (effects : List Effect) (e : Effect) (n : ℕ) (place : IsPlaceOf nodes e n) (more : List Record) (are : AreRecordsOf nodes t effects more) where
    abbrev new : Record
    new = record { task = t; effect = e; node = n }

    was : (r : Record) → IsAmong r more → IsRecordOf nodes t (effects ++ e ∷ []) r
    was r among =
        let old = are.only r among in
        record { task = old.task; effect = Contains-append_left effects (e ∷ []) r.effect old.effect; place = old.place }

    is_new : IsRecordOf nodes t (effects ++ e ∷ []) new
    is_new = record { task = refl; effect = Contains-push effects e; place = place }

    all_with : (l : List Record) → ((r : Record) → IsAmong r more → IsAmong r l) → IsAmong new l → (f : Effect) → Contains (effects ++ e ∷ []) f
        → (k : ℕ) × IsPlaceOf nodes f k × IsAmong (record { task = t; effect = f; node = k }) l
    all_with l kept there f has =
        ⊎_elim
        (λ (old : Contains effects f). let found = are.all f old in (found.0, found.1, kept (record { task = t; effect = f; node = found.0 }) found.2))
        (λ (same : e ≡ f). (n, subst (λ (g : Effect). IsPlaceOf nodes g n) same place, subst (λ (g : Effect). IsAmong (record { task = t; effect = g; node = n }) l) same there))
        (Contains-push_cases effects e f has)

    one_more : (b : Bool) → list_any (λ (s : Record). same_record s new) more ≡ b → AreRecordsOf nodes t (effects ++ e ∷ []) (if b then more else more ++ new ∷ [])
    one_more true is = record { once = are.once; only = was; all = all_with more (λ r among. among) (is_among new more is) }
    one_more false is = record {
      once = distinct_both more (new ∷ []) are.once (λ among. absurd among, tt)
          (λ x left right. ⊎_elim (λ (same : x ≡ new). is_not_among new more is (subst (λ (y : Record). IsAmong y more) same left)) (λ none. absurd none) right);
      only = λ r among.
          ⊎_elim (was r)
          (λ (right : IsAmong r (new ∷ [])).
          ⊎_elim (λ (same : r ≡ new). subst (IsRecordOf nodes t (effects ++ e ∷ [])) (sym same) is_new) (λ none. absurd none) right)
          (among_either r more (new ∷ []) among);
      all = all_with (more ++ new ∷ []) (λ r among. among_left r more (new ∷ []) among) (among_right new more (new ∷ []) (inl refl));
    }

    -- one effect more
    pub effect_added : (old records after : List Record) (start : ℕ) → start ≡ length old → records ≡ old ++ more → after ≡ with_record start new records
        → (l : List Record) × (after ≡ old ++ l) × AreRecordsOf nodes t (effects ++ e ∷ []) l
    effect_added old records after start start_is before is = (
      with_new new more,
      is ∙ (ap (λ (k : ℕ). with_record k new records) start_is ∙ (ap (with_record (length old) new) before ∙ with_new_behind old new more)),
      one_more (list_any (λ (s : Record). same_record s new) more) refl,
    )

-- The records of all tasks.

-- the state with its first n tasks alone
abbrev pub first_tasks : State → ℕ → State
first_tasks st n = record st { tasks = take n st.tasks }

row_kept : (rows : List TaskRow) (n t : ℕ) (row : TaskRow) → slice_get (take n rows) t ≡ Some row → (t < n) × (slice_get rows t ≡ Some row)
row_kept rows zero t row is = absurd (none_some is)
row_kept [] (suc n) t row is = absurd (none_some is)
row_kept (x ∷ rows) (suc n) zero row is = (omega arith, is)
row_kept (x ∷ rows) (suc n) (suc t) row is = let rest = row_kept rows n t row is in let low = rest.0 in (omega (arith, low), rest.1)

row_taken : (rows : List TaskRow) (n t : ℕ) (row : TaskRow) → t < n → slice_get rows t ≡ Some row → slice_get (take n rows) t ≡ Some row
row_taken rows zero t row low is = absurd (omega (arith, low))
row_taken [] (suc n) t row low is = absurd (none_some is)
row_taken (x ∷ rows) (suc n) zero row low is = is
row_taken (x ∷ rows) (suc n) (suc t) row low is = row_taken rows n t row (omega (arith, low)) is

-- a task whose effects stand is enabled
live_enabled : (s : TaskStatus) (effects : List Effect) (e : Effect) → Contains (live_by s effects) e → (s ≡ status.Enabled) × Contains effects e
live_enabled status.Made effects e has = let below = has.1 in absurd (omega (arith, below))
live_enabled status.Enabled effects e has = (refl, has)
live_enabled status.Done effects e has = let below = has.1 in absurd (omega (arith, below))
live_enabled status.Faulted effects e has = let below = has.1 in absurd (omega (arith, below))

enabled_live : (row : TaskRow) (e : Effect) → row.status ≡ status.Enabled → Contains row.effects.effects e → Contains (live_effects row) e
enabled_live row e is has = subst (λ (s : TaskStatus). Contains (live_by s row.effects.effects) e) (sym is) has

module _ (nodes : List (List Elem)) (st : State) where
  pub no_task_yet : AreOfEnabled nodes (first_tasks st 0) []
  no_task_yet = record { once = tt; only = λ r among. absurd among; all = λ t row e there is has. absurd (none_some there) }

  module _ (k : ℕ) (row : TaskRow) (here : slice_get st.tasks k ≡ Some row) (records more : List Record) (before : AreOfEnabled nodes (first_tasks st k) records)
      (are : AreRecordsOf nodes k (live_effects row) more) where
    abbrev after : State
    after = first_tasks st (k + 1)

    below_next : (t : ℕ) (other : TaskRow) → slice_get (take k st.tasks) t ≡ Some other → slice_get (take (k + 1) st.tasks) t ≡ Some other
    below_next t other is = let was = row_kept st.tasks k t other is in let low = was.0 in row_taken st.tasks (k + 1) t other (omega (arith, low)) was.1

    apart : (r : Record) → IsAmong r records → IsAmong r more → ⊥
    apart r left right =
        let low = (row_kept st.tasks k r.task (before.only r left).placed.row (before.only r left).placed.there).0 in
        let same = (are.only r right).task in
        omega (arith, low, same)

    old_one : (r : Record) → IsAmong r records → IsOfEnabled nodes (first_tasks st (k + 1)) r
    old_one r among =
        let was = before.only r among in
        record {
          placed = record { place = was.placed.place; row = was.placed.row; there = below_next r.task was.placed.row was.placed.there; effect = was.placed.effect };
          enabled = was.enabled;
        }

    new_one : (r : Record) → IsAmong r more → IsOfEnabled nodes (first_tasks st (k + 1)) r
    new_one r among =
        let is = are.only r among in
        let live = live_enabled row.status row.effects.effects r.effect is.effect in
        record {
          placed = record {
            place = is.place;
            row = row;
            there = subst (λ (t : ℕ). slice_get (take (k + 1) st.tasks) t ≡ Some row) (sym is.task) (row_taken st.tasks (k + 1) k row (omega arith) here);
            effect = live.1;
          };
          enabled = live.0;
        }

    all_of : (t : ℕ) (other : TaskRow) (e : Effect) → slice_get (take (k + 1) st.tasks) t ≡ Some other → other.status ≡ status.Enabled → Contains other.effects.effects e
        → (n : ℕ) × IsPlaceOf nodes e n × IsAmong (record { task = t; effect = e; node = n }) (records ++ more)
    all_of t other e there is has =
        let was = row_kept st.tasks (k + 1) t other there in
        let low = was.0 in
        ⊎_elim
        (λ (same : t ≡ k).
        let one : other ≡ row = some_one (sym was.1 ∙ (ap (slice_get st.tasks) same ∙ here)) in
        let live : Contains (live_effects row) e = subst (λ (x : TaskRow). Contains (live_effects x) e) one (enabled_live other e is has) in
        let found = are.all e live in (
          found.0,
          found.1,
          among_right (record { task = t; effect = e; node = found.0 }) records more
              (subst (λ (i : ℕ). IsAmong (record { task = i; effect = e; node = found.0 }) more) (sym same) found.2),
        ))
        (λ (differ : t ≢ k).
        let found = before.all t other e (row_taken st.tasks k t other (omega (arith, low, differ)) was.1) is has in
        (found.0, found.1, among_left (record { task = t; effect = e; node = found.0 }) records more found.2))
        (cases_eq t k)

    -- one task more
    pub task_added : AreOfEnabled nodes (first_tasks st (k + 1)) (records ++ more)
    task_added = record {
      once = distinct_both records more before.once are.once apart;
      only = λ r among. ⊎_elim (old_one r) (new_one r) (among_either r records more among);
      all = all_of;
    }

  -- all of them
  pub all_tasks : (n : ℕ) (records : List Record) → length st.tasks ≤ n → AreOfEnabled nodes (first_tasks st n) records → AreOfEnabled nodes st records
  all_tasks n records past are = subst (λ (rows : List TaskRow). AreOfEnabled nodes (record st { tasks = rows }) records) (whole n st.tasks past) are
    where
      whole : (m : ℕ) (rows : List TaskRow) → length rows ≤ m → take m rows ≡ rows
      whole zero [] low = refl
      whole zero (x ∷ rows) low = absurd (omega (arith, low))
      whole (suc m) [] low = refl
      whole (suc m) (x ∷ rows) low = ap (λ (l : List TaskRow). x ∷ l) (whole m rows (omega (arith, low)))
