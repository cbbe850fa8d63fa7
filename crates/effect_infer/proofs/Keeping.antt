-- The table keeps the widest needs, from the highest rank down.
use Rattle.std.proofs.Common.{◌≡◌, ◌⊎◌, ◌<◌, ◌≤◌, ℕ, ◌+◌, true, false, not, List, [], ◌∷◌, ◌++◌, length, take, get_or, inl, inr, sym, ap, ◌∙◌, subst, arith}
use Rattle.std.specs.Prelude.{nat_lt}
use Rattle.std.specs.List.{Contains}
use Rattle.std.proofs.lemmas.Bool.{cases_eq, cases_lt, false≢true, and_parts, and_cases, ltb-true, ltb-false, not-false, not-true}
use Rattle.std.proofs.lemmas.List.{length-append, take_all}
use Rattle.std.proofs.lemmas.List.Elements.{Contains-push, Contains-push_cases}
use Rattle.effect_sets.specs.Covers.{effect_covers}
use Rattle.effect_infer.specs.declared.needs.need.Need.{Need}
use Rattle.effect_infer.specs.needs.Needs.{Widens, effect_of}
use Rattle.effect_infer.proofs.needs.Inside.{covers-refl, covers-trans}
use Rattle.twe_base.proofs.Members.{contains-in, in-contains, list_any-in, in-list_any}
use Rattle.effect_infer.specs.declared.found.FoundNeed.{FoundNeed}
use Rattle.effect_infer.specs.Rows.{row, no_rows, with_item}
use Rattle.effect_infer.specs.Kept.{method_rank, some_cover, AreDistinct, most_kept, is_wanted, KeepsNeeds}
use Rattle.effect_infer.proofs.Ranks.{rank-most}
use Rattle.effect_infer.proofs.RowItems.{row-none, length-none, length-with, row-here, row-other, stays}
use Rattle.effect_infer.proofs.Growth.{none-taken, taken-cases}

-- one of the needs that cover it
pub cover-found : (needs : List Need) (need : Need) → some_cover needs need ≡ true → (wide : Need) × Contains needs wide × Widens wide need
cover-found needs need h =
    let found = list_any-in (λ wide. effect_covers (effect_of wide) (effect_of need)) needs h in
    (found.0, in-contains needs found.0 found.1, found.2)

pub found-cover : (needs : List Need) (need wide : Need) → Contains needs wide → Widens wide need → some_cover needs need ≡ true
found-cover needs need wide there h = in-list_any (λ w. effect_covers (effect_of w) (effect_of need)) needs wide (contains-in needs wide there) h

-- what covers a need covers each need that it covers
pub cover-wider : (needs : List Need) (need wide : Need) → some_cover needs wide ≡ true → Widens wide need → some_cover needs need ≡ true
cover-wider needs need wide h k =
    let found = cover-found needs wide h in
    found-cover needs need found.0 found.1 (covers-trans need (effect_of wide) (effect_of found.0) k found.2)

-- one need more, which is not there
distinct-push : (needs : List Need) (need : Need) → AreDistinct needs → ¬ Contains needs need → AreDistinct (needs ++ need ∷ [])
distinct-push [] need h new = (λ c. none-in c, tt) where
  none-in : Contains {X = Need} [] need → ⊥
  none-in c = let below = c.1 in omega (arith, below)
distinct-push (n ∷ needs) need h new = (
  λ c. elim (Contains-push_cases needs need n c) [
    | inl before ↦ h.0 before
    | inr e ↦ new (0, omega arith, sym e)
  ],
  distinct-push needs need h.1 (λ c. new (in-contains (n ∷ needs) need (inr (contains-in needs need c)))),
)

-- what is wanted has room, and is not covered
wanted-room : (needs : List Need) (need : Need) → is_wanted needs need ≡ true → length needs < most_kept
wanted-room needs need h = ltb-true _ _ (and_parts (nat_lt (length needs) most_kept) (not (some_cover needs need)) h).0

wanted-new : (needs : List Need) (need : Need) → is_wanted needs need ≡ true → some_cover needs need ≡ true → ⊥
wanted-new needs need h k =
    let no = not-true (some_cover needs need) (and_parts (nat_lt (length needs) most_kept) (not (some_cover needs need)) h).1 in
    false≢true (sym no ∙ k)

-- what is not wanted has no room, or is covered
unwanted : (needs : List Need) (need : Need) → length needs ≤ most_kept → is_wanted needs need ≡ false → (length needs ≡ most_kept) ⊎ (some_cover needs need ≡ true)
unwanted needs need few h = elim (and_cases (nat_lt (length needs) most_kept) (not (some_cover needs need)) h) [
  | inl full ↦ let past = ltb-false (length needs) most_kept full in inl (omega (arith, few, past))
  | inr covered ↦ inr (not-false (some_cover needs need) covered)
]

module _ (methods : ℕ) (all : List FoundNeed) where
  pub keeps-start : (IsDone : FoundNeed → Type 0) → ((f : FoundNeed) → Contains all f → IsDone f → ⊥) → KeepsNeeds methods all (no_rows methods) IsDone
  keeps-start IsDone none = record {
    long = length-none Need methods;
    found = λ m need c. absurd (empty m need c);
    widest = λ m need other c there is h. absurd (empty m need c);
    ahead = λ m need other c there is h. absurd (empty m need c);
    once = λ m. subst AreDistinct (sym (row-none methods m)) tt;
    few = λ m. subst (λ xs. length xs ≤ most_kept) (sym (row-none methods m)) (omega arith);
    all_done = λ f there done below. absurd (none f there done);
  } where
    empty : (m : ℕ) (need : Need) → Contains (row (no_rows methods) m) need → ⊥
    empty m need c = let below = (subst (λ (xs : List Need). Contains xs need) (row-none methods m) c).1 in omega (arith, below)

  -- more needs are done with, which are covered already, or have no room
  pub keeps-as : (table : List (List Need)) (IsDone IsMore : FoundNeed → Type 0) → KeepsNeeds methods all table IsDone
      → ((f : FoundNeed) → Contains all f → IsMore f → f.method < methods → IsDone f ⊎ ((length (row table f.method) ≡ most_kept) ⊎ (some_cover (row table f.method) f.need ≡ true)))
      → KeepsNeeds methods all table IsMore
  keeps-as table IsDone IsMore k more = record {
    long = k.long;
    found = k.found;
    widest = k.widest;
    ahead = k.ahead;
    once = k.once;
    few = k.few;
    all_done = λ f there done below. elim (more f there done below) [ inl before ↦ k.all_done f there before below | inr now ↦ now ];
  }

  -- a wanted need is kept, if all of higher rank are done with
  module _ (table : List (List Need)) (IsDone IsMore : FoundNeed → Type 0) (k : KeepsNeeds methods all table IsDone) (new : FoundNeed) (there : Contains all new) (below : new.method < length table)
      (wanted : is_wanted (row table new.method) new.need ≡ true) (higher : (f : FoundNeed) → method_rank new.need < method_rank f.need → IsDone f)
      (more : (f : FoundNeed) → Contains all f → IsMore f → IsDone f ⊎ (f ≡ new)) where
    here : row (with_item table new.method new.need) new.method ≡ row table new.method ++ new.need ∷ []
    here = row-here table new.method new.need below

    -- a need in the table is an old one, or the new one
    cases : (m : ℕ) (need : Need) → Contains (row (with_item table new.method new.need) m) need → Contains (row table m) need ⊎ ((m ≡ new.method) × (need ≡ new.need))
    cases m need c = elim (cases_eq m new.method) [
      | inl e ↦ elim (Contains-push_cases (row table new.method) new.need need
          (subst (λ xs. Contains xs need) (row-here table new.method new.need below) (subst (λ n. Contains (row (with_item table new.method new.need) n) need) e c))) [
            | inl old ↦ inl (subst (λ n. Contains (row table n) need) (sym e) old)
            | inr is ↦ inr (e, sym is)
          ]
      | inr differ ↦ inl (subst (λ xs. Contains xs need) (row-other table new.method m new.need differ) c)
    ]

    -- what is of a higher rank than the new one is covered, since all of it is done with, and there was room
    new-ahead : (other : FoundNeed) → Contains all other → other.method ≡ new.method → method_rank new.need < method_rank other.need
        → some_cover (row table new.method) other.need ≡ true
    new-ahead other found is above =
        let long = k.long in
        let within : other.method < methods = omega (arith, is, below, long) in
        elim (k.all_done other found (higher other above) within) [
          | inl full ↦
              let room = wanted-room (row table new.method) new.need wanted in
              let same : length (row table new.method) ≡ most_kept = subst (λ n. length (row table n) ≡ most_kept) is full in
              absurd (omega (arith, room, same))
          | inr covered ↦ subst (λ n. some_cover (row table n) other.need ≡ true) is covered
        ]

    -- nothing that was found covers the new one
    new-widest : (other : FoundNeed) → Contains all other → other.method ≡ new.method → Widens other.need new.need → other.need ≡ new.need
    new-widest other found is h =
        let most = rank-most other.need new.need h in
        elim (cases_lt (method_rank new.need) (method_rank other.need)) [
          | inl above ↦ absurd (wanted-new (row table new.method) new.need wanted (cover-wider (row table new.method) new.need other.need (new-ahead other found is above) h))
          | inr upto ↦ most.same (let low = most.below in omega (arith, upto, low))
        ]

    distinct : (m : ℕ) → AreDistinct (row (with_item table new.method new.need) m)
    distinct m = elim (cases_eq m new.method) [
      | inl e ↦ subst (λ n. AreDistinct (row (with_item table new.method new.need) n)) (sym e) (subst AreDistinct (sym (row-here table new.method new.need below))
          (distinct-push (row table new.method) new.need (k.once new.method)
          (λ c. wanted-new (row table new.method) new.need wanted (found-cover (row table new.method) new.need new.need c (covers-refl new.need)))))
      | inr differ ↦ subst AreDistinct (sym (row-other table new.method m new.need differ)) (k.once m)
    ]

    short : (m : ℕ) → length (row (with_item table new.method new.need) m) ≤ most_kept
    short m = elim (cases_eq m new.method) [
      | inl e ↦
          let room = wanted-room (row table new.method) new.need wanted in
          let longer = length-append (row table new.method) (new.need ∷ []) in
          subst (λ n. length (row (with_item table new.method new.need) n) ≤ most_kept) (sym e)
          (subst (λ (xs : List Need). length xs ≤ most_kept) (sym (row-here table new.method new.need below)) (omega (arith, room, longer)))
      | inr differ ↦ subst (λ (xs : List Need). length xs ≤ most_kept) (sym (row-other table new.method m new.need differ)) (k.few m)
    ]

    -- a list that is full stays as it is, since the new one had room
    full-stays : (m : ℕ) → length (row table m) ≡ most_kept → length (row (with_item table new.method new.need) m) ≡ most_kept
    full-stays m full = elim (cases_eq m new.method) [
      | inl e ↦
          let room = wanted-room (row table new.method) new.need wanted in
          let same : length (row table new.method) ≡ most_kept = subst (λ n. length (row table n) ≡ most_kept) e full in
          absurd (omega (arith, room, same))
      | inr differ ↦ ap (λ (xs : List Need). length xs) (row-other table new.method m new.need differ) ∙ full
    ]

    cover-stays : (m : ℕ) (need : Need) → some_cover (row table m) need ≡ true → some_cover (row (with_item table new.method new.need) m) need ≡ true
    cover-stays m need h =
        let found = cover-found (row table m) need h in
        found-cover (row (with_item table new.method new.need) m) need found.0 (stays table new.method new.need below m found.0 found.1) found.2

    new-cover : (f : FoundNeed) → f ≡ new → some_cover (row (with_item table new.method new.need) f.method) f.need ≡ true
    new-cover f e =
        subst (λ (g : FoundNeed). some_cover (row (with_item table new.method new.need) g.method) g.need ≡ true) (sym e)
        (found-cover (row (with_item table new.method new.need) new.method) new.need new.need
        (subst (λ xs. Contains xs new.need) (sym (row-here table new.method new.need below)) (Contains-push (row table new.method) new.need)) (covers-refl new.need))

    pub keeps-push : KeepsNeeds methods all (with_item table new.method new.need) IsMore
    keeps-push = record {
      long = length-with table new.method new.need ∙ k.long;
      found = λ m need c. elim (cases m need c) [
        | inl old ↦ k.found m need old
        | inr is ↦
            let same : new ≡ record { method = m; need = need } = ap (λ (n : ℕ). record { method = n; need = new.need }) (sym is.0) ∙ ap (λ (x : Need). record { method = m; need = x }) (sym is.1) in
            subst (Contains all) same there
      ];
      widest = λ m need other c found is h. elim (cases m need c) [
        | inl old ↦ k.widest m need other old found is h
        | inr new_one ↦ new-widest other found (is ∙ new_one.0) (subst (Widens other.need) new_one.1 h) ∙ sym new_one.1
      ];
      ahead = λ m need other c found is above. elim (cases m need c) [
        | inl old ↦ cover-stays m other.need (k.ahead m need other old found is above)
        | inr new_one ↦ cover-stays m other.need (subst (λ n. some_cover (row table n) other.need ≡ true) (sym new_one.0)
            (new-ahead other found (is ∙ new_one.0) (subst (λ (x : Need). method_rank x < method_rank other.need) new_one.1 above)))
      ];
      once = distinct;
      few = short;
      all_done = λ f found done within. elim (more f found done) [
        | inl before ↦ elim (k.all_done f found before within) [
          | inl full ↦ inl (full-stays f.method full)
          | inr covered ↦ inr (cover-stays f.method f.need covered)
        ]
        | inr e ↦ inr (new-cover f e)
      ];
    }

  -- the needs of one rank, one after the other
  abbrev pub DoneUpTo : ℕ → ℕ → FoundNeed → Type 0
  DoneUpTo this i f = (this < method_rank f.need) ⊎ ((method_rank f.need ≡ this) × Contains (take i all) f)

  pub rank-start : (this : ℕ) (table : List (List Need)) → KeepsNeeds methods all table (λ f. this < method_rank f.need) → KeepsNeeds methods all table (DoneUpTo this 0)
  rank-start this table k = keeps-as table (λ f. this < method_rank f.need) (DoneUpTo this 0) k (λ f there done below. elim done [ inl high ↦ inl high | inr low ↦ absurd (none-taken all f low.1) ])

  module _ (this i : ℕ) (table : List (List Need)) (k : KeepsNeeds methods all table (DoneUpTo this i)) (f : FoundNeed) (below : i < length all) (is : get_or all i f ≡ f) where
    done-cases : (g : FoundNeed) → DoneUpTo this (i + 1) g → DoneUpTo this i g ⊎ (g ≡ f)
    done-cases g done = elim done [
      | inl high ↦ inl (inl high)
      | inr low ↦ elim (taken-cases all i f g below is low.1) [ inl before ↦ inl (inr (low.0, before)) | inr e ↦ inr (sym e) ]
    ]

    -- a need of another rank, and one of a method that is not there
    pub rank-other : ((method_rank f.need ≡ this) → f.method < methods → ⊥) → KeepsNeeds methods all table (DoneUpTo this (i + 1))
    rank-other differ = keeps-as table (DoneUpTo this i) (DoneUpTo this (i + 1)) k (λ g there done within. elim done [
      | inl high ↦ inl (inl high)
      | inr low ↦ elim (taken-cases all i f g below is low.1) [
        | inl before ↦ inl (inr (low.0, before))
        | inr e ↦ absurd (differ (ap (λ (h : FoundNeed). method_rank h.need) e ∙ low.0) (subst (λ (h : FoundNeed). h.method < methods) (sym e) within))
      ]
    ])

    pub rank-unwanted : is_wanted (row table f.method) f.need ≡ false → KeepsNeeds methods all table (DoneUpTo this (i + 1))
    rank-unwanted refused = keeps-as table (DoneUpTo this i) (DoneUpTo this (i + 1)) k (λ g there done within. elim (done-cases g done) [
      | inl before ↦ inl before
      | inr e ↦ inr (subst (λ (h : FoundNeed). (length (row table h.method) ≡ most_kept) ⊎ (some_cover (row table h.method) h.need ≡ true)) (sym e)
          (unwanted (row table f.method) f.need (k.few f.method) refused))
    ])

    pub rank-wanted : method_rank f.need ≡ this → Contains all f → f.method < length table → is_wanted (row table f.method) f.need ≡ true
        → KeepsNeeds methods all (with_item table f.method f.need) (DoneUpTo this (i + 1))
    rank-wanted same there within wanted =
        keeps-push table (DoneUpTo this i) (DoneUpTo this (i + 1)) k f there within wanted (λ g high. inl (omega (arith, same, high))) (λ g found done. done-cases g done)

  pub rank-end : (this i : ℕ) (table : List (List Need)) → length all ≤ i → KeepsNeeds methods all table (DoneUpTo this i) → KeepsNeeds methods all table (λ f. this ≤ method_rank f.need)
  rank-end this i table enough k = keeps-as table (DoneUpTo this i) (λ f. this ≤ method_rank f.need) k (λ f there done below. inl (elim (cases_lt this (method_rank f.need)) [
    | inl high ↦ inl high
    | inr low ↦ inr (omega (arith, done, low), subst (λ (xs : List FoundNeed). Contains xs f) (sym (take_all i all enough)) there)
  ]))
