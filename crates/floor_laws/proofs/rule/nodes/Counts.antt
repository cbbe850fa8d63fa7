-- The counts of placings and removals once a seat has placed or removed a record.
use Rattle.std.proofs.Common.{◌≡◌, ◌≢◌, ◌+◌, ◌++◌, ◌≤◌, ◌<◌, ℕ, zero, suc, Bool, cond, List, [], ◌∷◌, refl, ap, ◌∙◌, ⊎_elim, arith}
use Rattle.std.specs.Prelude.{count_by}
use Rattle.std.proofs.lemmas.Bool.{cases_eq}
use Rattle.std.proofs.lemmas.List.Sums.{sum_by-append}
use Rattle.floor_laws.specs.rule.Floors.{put}
use Rattle.floor_laws.proofs.rule.Puts.{put_else, put_here}
use Rattle.floor_laws.specs.admission.admission_core.States.{Record}
use Rattle.floor_laws.specs.rule.nodes.Fitting.{AreCounted, counted_records}
use Rattle.floor_laws.proofs.rule.nodes.Lists.{TakenOut, count_cons, taken_count}

-- what one record adds to a count
abbrev one_more : (Record → Bool) → Record → ℕ
one_more test r = cond {A = ℕ} (test r) 1 0

module _ (test : Record → Bool) (lists : ℕ → List Record) where
  -- seats whose lists are empty add nothing
  counted_beyond : (n k : ℕ) → ((i : ℕ) → n ≤ i → lists i ≡ []) → counted_records test lists (k + n) ≡ counted_records test lists n
  counted_beyond n zero empty = ap (counted_records test lists) (omega arith)
  counted_beyond n (suc k) empty =
      let here : count_by test (lists (k + n)) ≡ 0 = ap (count_by test) (empty (k + n) (omega arith)) in
      let rest : counted_records test lists (k + n) ≡ counted_records test lists n = counted_beyond n k empty in
      let step : suc k + n ≡ suc (k + n) = omega arith in
      ap (counted_records test lists) step ∙ sum_of (count_by test (lists (k + n))) (counted_records test lists (k + n)) (counted_records test lists n) here rest
    where
      sum_of : (a b c : ℕ) → a ≡ 0 → b ≡ c → a + b ≡ c
      sum_of a b c first second = omega (arith, first, second)

  -- a list that was set beyond the seats does not count
  counted_apart : (i : ℕ) (x : List Record) (n : ℕ) → n ≤ i → counted_records test (put lists i x) n ≡ counted_records test lists n
  counted_apart i x zero below = refl
  counted_apart i x (suc n) below =
      let other : n ≢ i = λ same. omega (arith, below, same) in
      let rest : counted_records test (put lists i x) n ≡ counted_records test lists n = counted_apart i x n (omega (arith, below)) in
      ap (λ (l : List Record). count_by test l + counted_records test (put lists i x) n) (put_else lists i n x other) ∙ ap (λ (m : ℕ). count_by test (lists n) + m) rest

  -- a list that was set counts in place of the one before
  pub counted_set : (i : ℕ) (x : List Record) (n : ℕ) → i < n → counted_records test (put lists i x) n + count_by test (lists i) ≡ counted_records test lists n + count_by test x
  counted_set i x zero within = absurd (omega (arith, within))
  counted_set i x (suc n) within =
      ⊎_elim
      (λ (same : n ≡ i).
      let low : n ≤ i = omega (arith, same) in
      let here : count_by test (put lists i x n) ≡ count_by test x = ap (λ (m : ℕ). count_by test (put lists i x m)) same ∙ ap (count_by test) (put_here lists i x) in
      let old : count_by test (lists n) ≡ count_by test (lists i) = ap (λ (m : ℕ). count_by test (lists m)) same in
      sum_here (count_by test (put lists i x n)) (counted_records test (put lists i x) n) (count_by test x) (count_by test (lists n)) (counted_records test lists n) (count_by test (lists i))
      here (counted_apart i x n low) old)
      (λ (other : n ≢ i).
      let more : i < n = omega (arith, within, other) in
      sum_rest (count_by test (put lists i x n)) (counted_records test (put lists i x) n) (count_by test x) (count_by test (lists n)) (counted_records test lists n) (count_by test (lists i))
      (ap (count_by test) (put_else lists i n x other)) (counted_set i x n more))
      (cases_eq n i)
    where
      sum_here : (a b m c d e : ℕ) → a ≡ m → b ≡ d → c ≡ e → (a + b) + e ≡ (c + d) + m
      sum_here a b m c d e first second third = omega (arith, first, second, third)

      sum_rest : (a b m c d e : ℕ) → a ≡ c → b + e ≡ d + m → (a + b) + e ≡ (c + d) + m
      sum_rest a b m c d e first second = omega (arith, first, second)

  -- one record more in the list of a seat counts once
  counted_more : (i : ℕ) (r : Record) (n : ℕ) → i < n → counted_records test (put lists i (r ∷ lists i)) n ≡ one_more test r + counted_records test lists n
  counted_more i r n within =
      sums (counted_records test (put lists i (r ∷ lists i)) n) (count_by test (lists i)) (counted_records test lists n) (one_more test r) (count_by test (r ∷ lists i))
      (counted_set i (r ∷ lists i) n within) (count_cons test r (lists i))
    where
      sums : (a b c m l : ℕ) → a + b ≡ c + l → l ≡ m + b → a ≡ m + c
      sums a b c m l first second = omega (arith, first, second)

empty_put : (lists : ℕ → List Record) (i k n : ℕ) (x : List Record) → i < k → ((j : ℕ) → n ≤ j → lists j ≡ []) → n ≤ k → (j : ℕ) → k ≤ j → put lists i x j ≡ []
empty_put lists i k n x within empty below j past =
    let other : j ≢ i = λ same. omega (arith, within, past, same) in
    put_else lists i j x other ∙ empty j (omega (arith, below, past))

module _ (standing : List Record) (placed removed : ℕ → List Record) (counts : AreCounted standing placed removed) (i : ℕ) (r : Record) where
  -- enough seats, seat i among them
  abbrev enough : ℕ
  enough = suc i + counts.seats

  placed_before : (test : Record → Bool) → counted_records test placed enough ≡ counted_records test placed counts.seats
  placed_before test = counted_beyond test placed counts.seats (suc i) (λ j past. (counts.beyond j past).0)

  removed_before : (test : Record → Bool) → counted_records test removed enough ≡ counted_records test removed counts.seats
  removed_before test = counted_beyond test removed counts.seats (suc i) (λ j past. (counts.beyond j past).1)

  within : i < enough
  within = omega arith

  below : counts.seats ≤ enough
  below = omega arith

  pub counts_placed : AreCounted (r ∷ standing) (put placed i (r ∷ placed i)) removed
  counts_placed = record {
    seats = enough;
    beyond = λ j past. (
      empty_put placed i enough counts.seats (r ∷ placed i) within (λ k far. (counts.beyond k far).0) below j past,
      (counts.beyond j (omega (arith, below, past))).1,
    );
    balance = λ test.
        sums (one_more test r) (counted_records test (put placed i (r ∷ placed i)) enough) (counted_records test placed enough) (counted_records test placed counts.seats) (counted_records test removed enough)
        (counted_records test removed counts.seats) (count_by test standing) (count_by test (r ∷ standing))
        (counted_more test placed i r enough within) (placed_before test) (removed_before test) (counts.balance test) (count_cons test r standing);
  }
    where
      sums : (m a b c d e s more : ℕ) → a ≡ m + b → b ≡ c → d ≡ e → c ≡ e + s → more ≡ m + s → a ≡ d + more
      sums m a b c d e s more first second third fourth fifth = omega (arith, first, second, third, fourth, fifth)

  pub counts_removed : (left : List Record) → TakenOut r standing left → AreCounted left placed (put removed i (r ∷ removed i))
  counts_removed left out = record {
    seats = enough;
    beyond = λ j past. (
      (counts.beyond j (omega (arith, below, past))).0,
      empty_put removed i enough counts.seats (r ∷ removed i) within (λ k far. (counts.beyond k far).1) below j past,
    );
    balance = λ test.
        sums (one_more test r) (counted_records test (put removed i (r ∷ removed i)) enough) (counted_records test removed enough) (counted_records test removed counts.seats) (counted_records test placed enough)
        (counted_records test placed counts.seats) (count_by test standing) (count_by test left)
        (counted_more test removed i r enough within) (removed_before test) (placed_before test) (counts.balance test) (taken_count test out);
  }
    where
      sums : (m a b c d e s less : ℕ) → a ≡ m + b → b ≡ c → d ≡ e → e ≡ c + s → s ≡ m + less → d ≡ a + less
      sums m a b c d e s less first second third fourth fifth = omega (arith, first, second, third, fourth, fifth)

-- A seat is joined to another.

-- the records of seat j are with those of seat i
abbrev moved : (ℕ → List Record) → ℕ → ℕ → ℕ → List Record
moved lists i j = put (put lists i (lists i ++ lists j)) j []

module _ (test : Record → Bool) (lists : ℕ → List Record) (i j n : ℕ) (other : j ≢ i) (first : i < n) (second : j < n) where
  counted_moved : counted_records test (moved lists i j) n ≡ counted_records test lists n
  counted_moved =
      let both : List Record = lists i ++ lists j in
      let added = counted_set test lists i both n first in
      let cleared = counted_set test (put lists i both) j [] n second in
      let kept : count_by test (put lists i both j) ≡ count_by test (lists j) = ap (count_by test) (put_else lists i j both other) in
      let sum : count_by test both ≡ count_by test (lists i) + count_by test (lists j) = sum_by-append (λ (y : Record). cond {A = ℕ} (test y) 1 0) (lists i) (lists j) in
      sums (counted_records test (put lists i both) n) (count_by test (lists i)) (counted_records test lists n) (count_by test both) (counted_records test (moved lists i j) n)
      (count_by test (put lists i both j)) (count_by test (lists j)) added cleared kept sum
    where
      sums : (c1 a c0 ab c2 b1 b : ℕ) → c1 + a ≡ c0 + ab → c2 + b1 ≡ c1 + 0 → b1 ≡ b → ab ≡ a + b → c2 ≡ c0
      sums c1 a c0 ab c2 b1 b added cleared kept sum = omega (arith, added, cleared, kept, sum)

module _ (standing : List Record) (placed removed : ℕ → List Record) (counts : AreCounted standing placed removed) (i j : ℕ) (other : j ≢ i) where
  abbrev all_seats : ℕ
  all_seats = (suc i + suc j) + counts.seats

  all_before : (test : Record → Bool) (lists : ℕ → List Record) → ((k : ℕ) → counts.seats ≤ k → lists k ≡ []) → counted_records test lists all_seats ≡ counted_records test lists counts.seats
  all_before test lists empty = counted_beyond test lists counts.seats (suc i + suc j) empty

  moved_empty : (lists : ℕ → List Record) → ((k : ℕ) → counts.seats ≤ k → lists k ≡ []) → (k : ℕ) → all_seats ≤ k → moved lists i j k ≡ []
  moved_empty lists empty k past =
      let not_i : k ≢ i = λ same. omega (arith, past, same) in
      let not_j : k ≢ j = λ same. omega (arith, past, same) in
      put_else (put lists i (lists i ++ lists j)) j k [] not_j ∙ (put_else lists i k (lists i ++ lists j) not_i ∙ empty k (omega (arith, past)))

  pub counts_joined : AreCounted standing (put (put placed i (placed i ++ placed j)) j []) (put (put removed i (removed i ++ removed j)) j [])
  counts_joined = record {
    seats = all_seats;
    beyond = λ k past. (
      moved_empty placed (λ m far. (counts.beyond m far).0) k past,
      moved_empty removed (λ m far. (counts.beyond m far).1) k past,
    );
    balance = λ test.
        sums (counted_records test (moved placed i j) all_seats) (counted_records test placed all_seats) (counted_records test placed counts.seats)
        (counted_records test (moved removed i j) all_seats) (counted_records test removed all_seats) (counted_records test removed counts.seats) (count_by test standing)
        (counted_moved test placed i j all_seats other (omega arith) (omega arith)) (all_before test placed (λ m far. (counts.beyond m far).0))
        (counted_moved test removed i j all_seats other (omega arith) (omega arith)) (all_before test removed (λ m far. (counts.beyond m far).1)) (counts.balance test);
  }
    where
      sums : (a b c d e f s : ℕ) → a ≡ b → b ≡ c → d ≡ e → e ≡ f → c ≡ f + s → a ≡ d + s
      sums a b c d e f s first second third fourth fifth = omega (arith, first, second, third, fourth, fifth)
