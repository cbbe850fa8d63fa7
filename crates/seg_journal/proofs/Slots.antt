-- Entries in the slots of their numbers: if each number occurs once, the slots have each entry at its number.
use Rattle.std.proofs.Common.{◌≡◌, ◌≢◌, ◌⊎◌, ◌+◌, ◌++◌, ◌<◌, ◌≤◌, ℕ, zero, suc, Bool, cond, List, [], ◌∷◌, length, drop, get_or, Option, None, Some, Result, Ok, Err, IfOk, ℤ, refl, sym, ap, subst, ◌∙◌, inl, inr, ⊎_elim, eq-eqb, ne_eqb, arith}
use Rattle.std.specs.Prelude.{slice_get, slice_set, count_by, Contains}
use Rattle.std.specs.Borrow.{Bor}
use Rattle.std.proofs.lemmas.Bool.{cases_eq}
use Rattle.std.proofs.lemmas.List.{length-set}
use Rattle.std.proofs.lemmas.List.Sums.{sum_by-append}
use Rattle.std.proofs.lemmas.List.Elements.{Contains-append_left, Contains-append_right}
use Rattle.std.proofs.lemmas.Option.{slice_get-get_or}
use Rattle.std.proofs.Math.Seq.{drop-cons}
use Rattle.seg_journal.specs.declared.journal.Entry.{Entry}
use Rattle.seg_journal.specs.declared.numbered.NumberedEntry.{NumberedEntry}
use Rattle.seg_journal.specs.Merging.{AreNumbered, IsMergeOf, all_of, has_number, journal_of, prints_of}
use Rattle.seg_journal.specs.inner.Placing.{lying, placed, present}

-- e is in the list
abbrev pub IsIn : NumberedEntry → List NumberedEntry → Type 0
IsIn e [] = ⊥
IsIn e (x ∷ xs) = (x ≡ e) ⊎ IsIn e xs

pub in_contains : (xs : List NumberedEntry) (e : NumberedEntry) → IsIn e xs → Contains xs e
in_contains [] e none = absurd none
in_contains (x ∷ xs) e (inl same) = (0, omega arith, same)
in_contains (x ∷ xs) e (inr later) = let rest = in_contains xs e later in (suc rest.0, (let below = rest.1 in omega (arith, below)), rest.2)

in_at : (xs : List NumberedEntry) (k : ℕ) (d e : NumberedEntry) → k < length xs → get_or xs k d ≡ e → IsIn e xs
in_at [] k d e below is = absurd (omega (arith, below))
in_at (x ∷ xs) zero d e below is = inl is
in_at (x ∷ xs) (suc k) d e below is = inr (in_at xs k d e (omega (arith, below)) is)

pub contains_in : (xs : List NumberedEntry) (e : NumberedEntry) → Contains xs e → IsIn e xs
contains_in xs e (k, below, is) = in_at xs k e e below is

pub placed_length : (entries : List NumberedEntry) (slots : List (Option NumberedEntry)) → length (placed slots entries) ≡ length slots
placed_length [] slots = refl
placed_length (e ∷ entries) slots = placed_length entries (slice_set slots e.number (Some e)) ∙ length-set slots e.number (Some e)

pub placed_append : (first rest : List NumberedEntry) (slots : List (Option NumberedEntry)) → placed slots (first ++ rest) ≡ placed (placed slots first) rest
placed_append [] rest slots = refl
placed_append (e ∷ first) rest slots = placed_append first rest (slice_set slots e.number (Some e))

-- an entry of a part is one of all
pub of_all : (parts : List (List NumberedEntry)) (i : ℕ) (part : List NumberedEntry) (e : NumberedEntry) → slice_get parts i ≡ Some part → Contains part e → Contains (all_of parts) e
of_all [] i part e at has = absurd (cc)
of_all (x ∷ parts) zero part e at has = let same : x ≡ part = cc in Contains-append_left x (all_of parts) e (subst (λ (l : List NumberedEntry). Contains l e) (sym same) has)
of_all (x ∷ parts) (suc i) part e at has = Contains-append_right x (all_of parts) e (of_all parts i part e at has)

set_here : (slots : List (Option NumberedEntry)) (n : ℕ) (o : Option NumberedEntry) → n < length slots → slice_get (slice_set slots n o) n ≡ Some o
set_here [] n o below = absurd (omega (arith, below))
set_here (x ∷ slots) zero o below = refl
set_here (x ∷ slots) (suc n) o below = set_here slots n o (omega (arith, below))

set_else : (slots : List (Option NumberedEntry)) (n k : ℕ) (o : Option NumberedEntry) → k ≢ n → slice_get (slice_set slots n o) k ≡ slice_get slots k
set_else [] n k o other = refl
set_else (x ∷ slots) zero zero o other = absurd (other refl)
set_else (x ∷ slots) zero (suc k) o other = refl
set_else (x ∷ slots) (suc n) zero o other = refl
set_else (x ∷ slots) (suc n) (suc k) o other = set_else slots n k o (λ same. other (ap suc same))

-- how often a number occurs in a list with one entry more in front
count_front : (e : NumberedEntry) (entries : List NumberedEntry) (n : ℕ) → e.number ≡ n → count_by (has_number n) (e ∷ entries) ≡ 1 + count_by (has_number n) entries
count_front e entries n is =
    sum_by-append (λ (x : NumberedEntry). cond {A = ℕ} (has_number n x) 1 0) (e ∷ []) entries
    ∙ ap (λ (b : Bool). (0 + cond {A = ℕ} b 1 0) + count_by (has_number n) entries) (eq-eqb e.number n is)

count_other : (e : NumberedEntry) (entries : List NumberedEntry) (n : ℕ) → e.number ≢ n → count_by (has_number n) (e ∷ entries) ≡ count_by (has_number n) entries
count_other e entries n other =
    sum_by-append (λ (x : NumberedEntry). cond {A = ℕ} (has_number n x) 1 0) (e ∷ []) entries
    ∙ (ap (λ (b : Bool). (0 + cond {A = ℕ} b 1 0) + count_by (has_number n) entries) (ne_eqb e.number n other) ∙ omega arith)

-- a slot whose number doesn't occur stays
stays : (entries : List NumberedEntry) (slots : List (Option NumberedEntry)) (n : ℕ) → count_by (has_number n) entries ≡ 0 → slice_get (placed slots entries) n ≡ slice_get slots n
stays [] slots n none = refl
stays (e ∷ entries) slots n none =
    ⊎_elim
    (λ (here : e.number ≡ n). let one = count_front e entries n here in absurd (omega (arith, one, none)))
    (λ (other : e.number ≢ n).
    stays entries (slice_set slots e.number (Some e)) n (sym (count_other e entries n other) ∙ none)
    ∙ set_else slots e.number n (Some e) (λ same. other (sym same)))
    (cases_eq e.number n)

-- an entry that is in the list counts
counts : (entries : List NumberedEntry) (e : NumberedEntry) → IsIn e entries → 1 ≤ count_by (has_number e.number) entries
counts [] e none = absurd none
counts (x ∷ entries) e (inl same) = let one = count_front x entries e.number (ap (λ (y : NumberedEntry). y.number) same) in omega (arith, one)
counts (x ∷ entries) e (inr later) =
    ⊎_elim
    (λ (here : x.number ≡ e.number). let one = count_front x entries e.number here in omega (arith, one))
    (λ (other : x.number ≢ e.number). let rest = counts entries e later in let same = count_other x entries e.number other in omega (arith, rest, same))
    (cases_eq x.number e.number)

-- an entry whose number occurs once lies in its slot
pub lies : (entries : List NumberedEntry) (slots : List (Option NumberedEntry)) (e : NumberedEntry) → IsIn e entries → count_by (has_number e.number) entries ≡ 1 → e.number < length slots
    → slice_get (placed slots entries) e.number ≡ Some (Some e)
lies [] slots e none once below = absurd none
lies (x ∷ entries) slots e (inl same) once below =
    let number : x.number ≡ e.number = ap (λ (y : NumberedEntry). y.number) same in
    let one = count_front x entries e.number number in
    let none : count_by (has_number e.number) entries ≡ 0 = omega (arith, one, once) in
    stays entries (slice_set slots x.number (Some x)) e.number none
    ∙ (ap (λ (y : NumberedEntry). slice_get (slice_set slots y.number (Some y)) e.number) same ∙ set_here slots e.number (Some e) below)
lies (x ∷ entries) slots e (inr later) once below =
    let rest = counts entries e later in
    let other : x.number ≢ e.number = λ same. let one = count_front x entries e.number same in omega (arith, one, once, rest) in
    lies entries (slice_set slots x.number (Some x)) e later (sym (count_other x entries e.number other) ∙ once) (let size = length-set slots x.number (Some x) in omega (arith, size, below))

-- a number that occurs is that of an entry
pub occurs : (entries : List NumberedEntry) (n : ℕ) → count_by (has_number n) entries ≡ 1 → (e : NumberedEntry) × IsIn e entries × (e.number ≡ n)
occurs [] n once = absurd (omega (arith, once))
occurs (x ∷ entries) n once =
    ⊎_elim
    (λ (here : x.number ≡ n). (x, inl refl, here))
    (λ (other : x.number ≢ n). let rest = occurs entries n (sym (count_other x entries n other) ∙ once) in (rest.0, inr rest.1, rest.2))
    (cases_eq x.number n)

-- if each slot has an entry, the entries of the slots are all of them, in order
pub present_at : (slots : List (Option NumberedEntry)) → ((n : ℕ) → n < length slots → (e : NumberedEntry) × (slice_get slots n ≡ Some (Some e)))
    → (length (present slots) ≡ length slots) × ((n : ℕ) (e : NumberedEntry) → slice_get slots n ≡ Some (Some e) → slice_get (present slots) n ≡ Some e)
present_at [] full = (refl, λ n e is. absurd (cc (is)))
present_at (None ∷ slots) full = let first = full 0 (omega arith) in absurd (cc (first.1))
present_at (Some x ∷ slots) full =
    let rest = present_at slots (λ n below. full (suc n) (omega (arith, below))) in
    (ap suc rest.0, at rest.1)
  where
    at : ((n : ℕ) (e : NumberedEntry) → slice_get slots n ≡ Some (Some e) → slice_get (present slots) n ≡ Some e) → (n : ℕ) (e : NumberedEntry)
        → slice_get (Some x ∷ slots) n ≡ Some (Some e) → slice_get (x ∷ present slots) n ≡ Some e
    at later zero e is = let same : x ≡ e = cc in ap Some same
    at later (suc n) e is = later n e is

-- the entries of the slots are a merge of the parts
pub merges : (parts : List (List NumberedEntry)) (slots : List (Option NumberedEntry)) → AreNumbered parts → length slots ≡ length (all_of parts)
    → IsMergeOf parts (present (placed slots (all_of parts)))
merges parts slots numbered size =
    let all : List NumberedEntry = all_of parts in
    let length_is : length (placed slots (all_of parts)) ≡ length (all_of parts) = placed_length (all_of parts) slots ∙ size in
    let found = present_at (placed slots (all_of parts)) (λ n below.
    let at : n < length (all_of parts) = omega (arith, below, length_is) in
    let once = numbered.once n at in
    let e = occurs (all_of parts) n once in
    let there : slice_get (placed slots (all_of parts)) (e.0).number ≡ Some (Some e.0) =
    lies (all_of parts) slots e.0 e.1 (ap (λ (k : ℕ). count_by (has_number k) (all_of parts)) e.2 ∙ once) (let number = e.2 in omega (arith, number, at, size)) in
    (e.0, ap (slice_get (placed slots (all_of parts))) (sym e.2) ∙ there)) in
    record {
      size = found.0 ∙ length_is;
      entries = λ e has.
          let below = numbered.within e has in
          found.1 e.number e (lies (all_of parts) slots e (contains_in (all_of parts) e has) (numbered.once e.number below) (omega (arith, below, size)));
    }

-- Loops over the parts and over the entries of one.

pub item_in : (xs : List NumberedEntry) (i : ℕ) (x : NumberedEntry) → i < length xs → x ≡ get_or xs i x → Contains xs x
item_in xs i x below is = (i, below, sym is)

drop_all : {A : Type 0} (xs : List A) (n : ℕ) → length xs ≤ n → drop n xs ≡ []
drop_all [] zero past = refl
drop_all [] (suc n) past = refl
drop_all (x ∷ xs) zero past = absurd (omega (arith, past))
drop_all (x ∷ xs) (suc n) past = drop_all xs n (omega (arith, past))

-- the entries of the part at this place have numbers below the number of slots
pub part_within : (parts : List (List NumberedEntry)) (i : ℕ) (part : List NumberedEntry) (count : ℕ) → AreNumbered parts → i < length parts → part ≡ get_or parts i part
    → count ≡ length (all_of parts) → (e : NumberedEntry) → Contains part e → e.number < count
part_within parts i part count numbered below is size e has =
    let at : slice_get parts i ≡ Some part = slice_get-get_or parts i part below ∙ ap Some (sym is) in
    let within = numbered.within e (of_all parts i part e at has) in
    omega (arith, within, size)

-- one part more was placed
pub part_placed : (parts : List (List NumberedEntry)) (i : ℕ) (part : List NumberedEntry) (old new : List (Option NumberedEntry)) (whole : List (Option NumberedEntry))
    → i < length parts → part ≡ get_or parts i part → new ≡ placed old part → placed old (all_of (drop i parts)) ≡ whole → placed new (all_of (drop (i + 1) parts)) ≡ whole
part_placed parts i part old new whole below is placed_now before =
    let rest : List (List NumberedEntry) = drop (suc i) parts in
    let front : drop i parts ≡ part ∷ rest = drop-cons parts i part below ∙ ap (λ (p : List NumberedEntry). p ∷ rest) (sym is) in
    let number : i + 1 ≡ suc i = omega arith in
    let next : drop (i + 1) parts ≡ rest = ap (λ (n : ℕ). drop n parts) number in
    ap (λ (l : List (List NumberedEntry)). placed new (all_of l)) next
    ∙ (ap (λ (s : List (Option NumberedEntry)). placed s (all_of rest)) placed_now
    ∙ (sym (placed_append part (all_of rest) old) ∙ (ap (λ (l : List (List NumberedEntry)). placed old (all_of l)) (sym front) ∙ before)))

-- all parts were placed
pub all_placed : (parts : List (List NumberedEntry)) (i : ℕ) (slots whole : List (Option NumberedEntry)) → length parts ≤ i → placed slots (all_of (drop i parts)) ≡ whole → slots ≡ whole
all_placed parts i slots whole past is = sym (ap (λ (l : List (List NumberedEntry)). placed slots (all_of l)) (drop_all parts i past)) ∙ is

-- what was collected from the slots is the merge
pub collected : {E : Type 0} (r : Result (List Entry × List ℤ) E) (parts : List (List NumberedEntry)) (slots initial : List (Option NumberedEntry)) → AreNumbered parts
    → length initial ≡ length (all_of parts) → slots ≡ placed initial (all_of parts) → IfOk r (λ m. m.0 ≡ journal_of (present slots)) → IfOk r (λ m. m.1 ≡ prints_of (present slots))
    → IfOk r (λ m. (log : List NumberedEntry) × IsMergeOf parts log × (m.0 ≡ journal_of log) × (m.1 ≡ prints_of log))
collected (Ok m) parts slots initial numbered size is journal prints =
    let log : List NumberedEntry = present slots in
    let merge = subst (λ (s : List (Option NumberedEntry)). IsMergeOf parts (present s)) (sym is) (merges parts initial numbered size) in
    (log, merge, journal, prints)
collected (Err e) parts slots initial numbered size is journal prints = tt

pub lying_length : (slots : List (Option (Bor NumberedEntry))) → length (lying slots) ≡ length slots
lying_length [] = refl
lying_length (x ∷ slots) = ap suc (lying_length slots)

-- one entry more was placed
pub entry_placed : (part : List NumberedEntry) (i : ℕ) (e : NumberedEntry) (old new : List (Option (Bor NumberedEntry))) (whole : List (Option NumberedEntry))
    → i < length part → e ≡ get_or part i e → lying new ≡ slice_set (lying old) e.number (Some e) → placed (lying old) (drop i part) ≡ whole → placed (lying new) (drop (i + 1) part) ≡ whole
entry_placed part i e old new whole below is set_now before =
    let rest : List NumberedEntry = drop (suc i) part in
    let front : drop i part ≡ e ∷ rest = drop-cons part i e below ∙ ap (λ (x : NumberedEntry). x ∷ rest) (sym is) in
    let number : i + 1 ≡ suc i = omega arith in
    ap (λ (n : ℕ). placed (lying new) (drop n part)) number
    ∙ (ap (λ (s : List (Option NumberedEntry)). placed s rest) set_now
    ∙ (ap (placed (lying old)) (sym front) ∙ before))

-- two parts with the entries 1 and 0
pub two_parts : (one two : List NumberedEntry) (a b : NumberedEntry) → one ≡ a ∷ [] → two ≡ b ∷ [] → a.number ≡ 1 → b.number ≡ 0 → AreNumbered (one ∷ two ∷ [])
two_parts one two a b is_one is_two number_a number_b =
    subst (λ (l : List NumberedEntry). AreNumbered (l ∷ two ∷ [])) (sym is_one)
    (subst (λ (l : List NumberedEntry). AreNumbered ((a ∷ []) ∷ l ∷ [])) (sym is_two)
    (record {
      within = λ e has. within_two e (contains_in (a ∷ b ∷ []) e has);
      once = once_two;
    }))
  where
    within_two : (e : NumberedEntry) → IsIn e (a ∷ b ∷ []) → e.number < 2
    within_two e (inl same) = let number = ap (λ (x : NumberedEntry). x.number) same in omega (arith, number, number_a)
    within_two e (inr (inl same)) = let number = ap (λ (x : NumberedEntry). x.number) same in omega (arith, number, number_b)
    within_two e (inr (inr none)) = absurd none

    once_two : (n : ℕ) → n < 2 → count_by (has_number n) (a ∷ b ∷ []) ≡ 1
    once_two zero below =
        let first = count_other a (b ∷ []) 0 (λ same. omega (arith, same, number_a)) in
        let last = count_front b [] 0 number_b in
        omega (arith, first, last)
    once_two (suc zero) below =
        let first = count_front a (b ∷ []) 1 number_a in
        let last = count_other b [] 1 (λ same. omega (arith, same, number_b)) in
        omega (arith, first, last)
    once_two (suc (suc n)) below = absurd (omega (arith, below))
