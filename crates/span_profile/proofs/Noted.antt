-- The cells of the sets come in the order in which they were first accessed.
use Rattle.std.proofs.Common.{◌≡◌, ◌<◌, ◌≤◌, ◌⊎◌, inl, inr, ℕ, zero, suc, Bool, true, false, List, [], ◌∷◌, ◌++◌, length, Option, None, Some, refl, sym, ap, ◌∙◌, subst, arith, length-append}
use Rattle.std.specs.Prelude.{slice_get, if◌then◌else◌}
use Rattle.std.specs.List.{Contains}
use Rattle.std.proofs.lemmas.Bool.{cases_lt}
use Rattle.seg_meaning.specs.Access.{Access, Reads, Writes, Prints}
use Rattle.span_profile.specs.Reasons.{read_cell, written_cell}
use Rattle.span_profile.specs.inner.Sets.{NumberSet, is_in, no_cells, with_cell}
use Rattle.span_profile.specs.inner.Watch.{read_by, written_by}
use Rattle.span_profile.proofs.Lists.{contains_cases, contains_none}
use Rattle.span_profile.proofs.NumberSets.{in_contains}
use Rattle.span_profile.proofs.Numbers.{get_at, get_left}

-- a number more, unless it is there
abbrev added : Option ℕ → List ℕ → List ℕ
added None items = items
added (Some n) items = if is_in items n then items else items ++ n ∷ []

-- the cells of the accesses of one kind, each once
abbrev pub noted : (Access → Option ℕ) → List Access → List ℕ
noted pick [] = []
noted pick (x ∷ earlier) = added (pick x) (noted pick earlier)

with_added : (n : ℕ) (set : NumberSet) → (with_cell n set).items ≡ added (Some n) set.items
with_added n set = by_test (is_in set.items n)
  where
    by_test : (t : Bool) → (if t then set else record set { items = set.items ++ n ∷ [] }).items ≡ (if t then set.items else set.items ++ n ∷ [])
    by_test true = refl
    by_test false = refl

pub reads_noted : (accesses : List Access) (size : ℕ) → (read_by accesses (no_cells size)).items ≡ noted read_cell accesses
reads_noted [] size = refl
reads_noted (Reads cell value ∷ earlier) size = with_added cell (read_by earlier (no_cells size)) ∙ ap (added (Some cell)) (reads_noted earlier size)
reads_noted (Writes cell value ∷ earlier) size = reads_noted earlier size
reads_noted (Prints value ∷ earlier) size = reads_noted earlier size

pub writes_noted : (accesses : List Access) (size : ℕ) → (written_by accesses (no_cells size)).items ≡ noted written_cell accesses
writes_noted [] size = refl
writes_noted (Reads cell value ∷ earlier) size = writes_noted earlier size
writes_noted (Writes cell value ∷ earlier) size = with_added cell (written_by earlier (no_cells size)) ∙ ap (added (Some cell)) (writes_noted earlier size)
writes_noted (Prints value ∷ earlier) size = writes_noted earlier size

-- a number stands at a place
abbrev pub StandsIn : List ℕ → ℕ → Type 0
StandsIn items n = (j : ℕ) × (slice_get items j ≡ Some n)

abbrev pub StandsBefore : List ℕ → ℕ → ℕ → Type 0
StandsBefore items k n = (j : ℕ) × (j < k) × (slice_get items j ≡ Some n)

get_below : (items : List ℕ) (j n : ℕ) → slice_get items j ≡ Some n → j < length items
get_below [] j n is = absurd (cc)
get_below (x ∷ xs) zero n is = omega arith
get_below (x ∷ xs) (suc j) n is = let rest = get_below xs j n is in omega (arith, rest)

stands_on : (items : List ℕ) (o : Option ℕ) (n : ℕ) → StandsIn items n → StandsIn (added o items) n
stands_on items None n stands = stands
stands_on items (Some m) n stands = by_test (is_in items m)
  where
    by_test : (t : Bool) → StandsIn (if t then items else items ++ m ∷ []) n
    by_test true = stands
    by_test false = (stands.0, get_left items (m ∷ []) stands.0 (get_below items stands.0 n stands.1) ∙ stands.1)

contains_stands : (items : List ℕ) (n : ℕ) → Contains items n → StandsIn items n
contains_stands [] n has = absurd (contains_none n has)
contains_stands (x ∷ xs) n has = elim (contains_cases x n xs has) [
  | inl same ↦ (0, ap Some same)
  | inr later ↦ (let rest = contains_stands xs n later in (suc rest.0, rest.1))
]

stands_now : (items : List ℕ) (n : ℕ) → StandsIn (added (Some n) items) n
stands_now items n = by_test (is_in items n) refl
  where
    by_test : (t : Bool) → is_in items n ≡ t → StandsIn (if t then items else items ++ n ∷ []) n
    by_test true e = contains_stands items n (in_contains items n e)
    by_test false e = (length items, get_at items n (length items) refl)

-- each access of the kind is noted
pub noted_has : (pick : Access → Option ℕ) (accesses : List Access) (x : Access) (cell : ℕ) → Contains accesses x → pick x ≡ Some cell → StandsIn (noted pick accesses) cell
noted_has pick [] x cell has is = absurd (contains_none x has)
noted_has pick (y ∷ earlier) x cell has is = elim (contains_cases y x earlier has) [
  | inl same ↦ subst (λ (o : Option ℕ). StandsIn (added o (noted pick earlier)) cell) (sym (ap pick same ∙ is)) (stands_now (noted pick earlier) cell)
  | inr later ↦ stands_on (noted pick earlier) (pick y) cell (noted_has pick earlier x cell later is)
]

-- The access by which a cell came in, and those before it, whose cells stand before that cell.
pub record CameIn (pick : Access → Option ℕ) (accesses : List Access) (items : List ℕ) (k cell : ℕ) : Type 0 where
  pub later : List Access
  pub this : Access
  pub earlier : List Access
  pub split : accesses ≡ later ++ this ∷ earlier
  pub picks : pick this ≡ Some cell
  pub before : (x : Access) (other : ℕ) → Contains earlier x → pick x ≡ Some other → StandsBefore items k other

came_later : (pick : Access → Option ℕ) (y : Access) (accesses : List Access) (items : List ℕ) (k cell : ℕ) → CameIn pick accesses items k cell → CameIn pick (y ∷ accesses) items k cell
came_later pick y accesses items k cell came = record {
  later = y ∷ came.later;
  this = came.this;
  earlier = came.earlier;
  split = ap (λ (l : List Access). y ∷ l) came.split;
  picks = came.picks;
  before = came.before;
}

came_with : (pick : Access → Option ℕ) (y : Access) (accesses : List Access) (items : List ℕ) (k cell n : ℕ) → k < length items → CameIn pick accesses items k cell
    → CameIn pick (y ∷ accesses) (items ++ n ∷ []) k cell
came_with pick y accesses items k cell n below came = record {
  later = y ∷ came.later;
  this = came.this;
  earlier = came.earlier;
  split = ap (λ (l : List Access). y ∷ l) came.split;
  picks = came.picks;
  before = λ x other has is. moved other (came.before x other has is);
} where
  moved : (other : ℕ) → StandsBefore items k other → StandsBefore (items ++ n ∷ []) k other
  moved other b = (b.0, b.1, get_left items (n ∷ []) b.0 (let less = b.1 in omega (arith, less, below)) ∙ b.2)

came_now : (pick : Access → Option ℕ) (y : Access) (accesses : List Access) (k cell n : ℕ) → pick y ≡ Some n → n ≡ cell → k ≡ length (noted pick accesses)
    → CameIn pick (y ∷ accesses) (noted pick accesses ++ n ∷ []) k cell
came_now pick y accesses k cell n is same at = record {
  later = [];
  this = y;
  earlier = accesses;
  split = refl;
  picks = is ∙ ap Some same;
  before = λ x other has picks. moved other (noted_has pick accesses x other has picks);
} where
  moved : (other : ℕ) → StandsIn (noted pick accesses) other → StandsBefore (noted pick accesses ++ n ∷ []) k other
  moved other s =
      let below = get_below (noted pick accesses) s.0 other s.1 in
      (s.0, omega (arith, below, at), get_left (noted pick accesses) (n ∷ []) s.0 below ∙ s.1)

pub came_in : (pick : Access → Option ℕ) (accesses : List Access) (k cell : ℕ) → slice_get (noted pick accesses) k ≡ Some cell → CameIn pick accesses (noted pick accesses) k cell
came_in pick [] k cell is = absurd (cc)
came_in pick (y ∷ earlier) k cell is = by_pick (came_in pick earlier k cell) (pick y) refl is
  where
    by_place : (slice_get (noted pick earlier) k ≡ Some cell → CameIn pick earlier (noted pick earlier) k cell) → (n : ℕ) → pick y ≡ Some n → slice_get (noted pick earlier ++ n ∷ []) k ≡ Some cell → CameIn pick (y ∷ earlier) (noted pick earlier ++ n ∷ []) k cell
    by_place again n e found = elim (cases_lt k (length (noted pick earlier))) [
      | inl less ↦ came_with pick y earlier (noted pick earlier) k cell n less (again (sym (get_left (noted pick earlier) (n ∷ []) k less) ∙ found))
      | inr past ↦ (
          let below = get_below (noted pick earlier ++ n ∷ []) k cell found in
          let at : k ≡ length (noted pick earlier) = omega (arith, past, below, length-append (noted pick earlier) (n ∷ [])) in
          let same : n ≡ cell = let two : Some n ≡ Some cell = sym (get_at (noted pick earlier) n k at) ∙ found in cc in
          came_now pick y earlier k cell n e same at
          )
    ]

    by_test : (slice_get (noted pick earlier) k ≡ Some cell → CameIn pick earlier (noted pick earlier) k cell) → (n : ℕ) → pick y ≡ Some n → (t : Bool) → slice_get (if t then noted pick earlier else noted pick earlier ++ n ∷ []) k ≡ Some cell
        → CameIn pick (y ∷ earlier) (if t then noted pick earlier else noted pick earlier ++ n ∷ []) k cell
    by_test again n e true found = came_later pick y earlier (noted pick earlier) k cell (again found)
    by_test again n e false found = by_place again n e found

    by_pick : (slice_get (noted pick earlier) k ≡ Some cell → CameIn pick earlier (noted pick earlier) k cell) → (o : Option ℕ) → pick y ≡ o → slice_get (added o (noted pick earlier)) k ≡ Some cell → CameIn pick (y ∷ earlier) (added o (noted pick earlier)) k cell
    by_pick again None e found = came_later pick y earlier (noted pick earlier) k cell (again found)
    by_pick again (Some n) e found = by_test again n e (is_in (noted pick earlier) n) found
