-- The steps of a chain as its entries come.
use Rattle.std.proofs.Common.{◌≡◌, ◌≢◌, ◌<◌, ◌≤◌, ◌+◌, ◌⊎◌, inl, inr, ℕ, zero, suc, Bool, true, false, List, [], ◌∷◌, ◌++◌, length, Option, None, Some, refl, sym, ap, ◌∙◌, subst, arith, length-append, nat_lt}
use Rattle.std.specs.Prelude.{◌==◌, ◌||◌, ◌&&◌, ◌↔◌, IsTrue, if◌then◌else◌, slice_get}
use Rattle.std.specs.List.{Contains, list_any}
use Rattle.std.proofs.lemmas.Bool.{cases_lt, eq-eqb, lt-ltb, ne_eqb}
use Rattle.prefix_tree.specs.declared.part.Part.{Part}
use Rattle.machine_state.specs.Runs.{is_done}
use Rattle.twe_program.specs.Program.{Program}
use Rattle.span_profile.specs.Reasons.{IsReasonFor, IsReasonAt, IsStepAt}
use Rattle.span_profile.specs.Strands.{Strand, made_task}
use Rattle.span_profile.specs.declared.heaviest_chain.fronts.Fronts.{Fronts}
use Rattle.span_profile.specs.declared.heaviest_chain.key.Key.{Key}
use Rattle.span_profile.specs.declared.heaviest_chain.key.Key.TheVariants.{Task, Value, Write, Access}
use Rattle.span_profile.specs.declared.heaviest_chain.top.Top.{Top}
use Rattle.span_profile.specs.declared.reasons.LinkReason.{LinkReason}
use Rattle.span_profile.specs.declared.reasons.LinkReason.TheVariants.{First}
use Rattle.span_profile.specs.declared.reasons.ChainStep.{ChainStep}
use Rattle.span_profile.specs.declared.trail.Last.{Last}
use Rattle.span_profile.specs.declared.trail.ChainTrail.{ChainTrail}
use Rattle.span_profile.specs.heaviest_chain.BestChains.{key_eq}
use Rattle.span_profile.specs.heaviest_chain.Nodes.{Node}
use Rattle.span_profile.specs.heaviest_chain.inner.Fronts.{front_after, front_at, no_fronts}
use Rattle.span_profile.specs.heaviest_chain.inner.Tops.{higher, is_topped}
use Rattle.span_profile.specs.inner.Shows.{HasAccess, Shows}
use Rattle.span_profile.specs.inner.Trails.{Ascends, IsKnownLast, IsLast, IsMarked, IsTrail, gave, is_node}
use Rattle.span_profile.proofs.Numbers.{get_at, get_left}
use Rattle.span_profile.proofs.heaviest_chain.Adding.{any_contains, contains_any}

-- an element that is found stands below the length, and stays if the list grows
pub found_below : {X : Type 0} (xs : List X) (i : ℕ) (x : X) → slice_get xs i ≡ Some x → i < length xs
found_below [] i x is = absurd (cc)
found_below (y ∷ ys) zero x is = omega arith
found_below (y ∷ ys) (suc i) x is = let rest = found_below ys i x is in omega (arith, rest)

stays : {X : Type 0} (xs : List X) (y : X) (i : ℕ) (x : X) → slice_get xs i ≡ Some x → slice_get (xs ++ y ∷ []) i ≡ Some x
stays xs y i x is = get_left xs (y ∷ []) i (found_below xs i x is) ∙ is

-- steps stay if more entries come
reason_stays : (p : Program) (strands : List Strand) (more : Strand) (chain : List ℕ) (k : ℕ) (b : Strand) (reason : LinkReason) → IsReasonAt p strands chain k b reason → IsReasonAt p (strands ++ more ∷ []) chain k b reason
reason_stays p strands more chain zero b reason is = is
reason_stays p strands more chain (suc k) b reason is = (is.0, is.1, is.2, stays strands more is.0 is.1 is.3, is.4)

step_stays : (p : Program) (strands : List Strand) (more : Strand) (chain : List ℕ) (k : ℕ) (step : ChainStep) → IsStepAt p strands chain k step → IsStepAt p (strands ++ more ∷ []) chain k step
step_stays p strands more chain k step is = record {
  entry = is.entry;
  strand = is.strand;
  there = stays strands more step.entry is.strand is.there;
  task = is.task;
  reason = reason_stays p strands more chain k is.strand step.reason is.reason;
}

-- The fronts after an entry that comes after all others.
module _ (fronts new : Fronts) (gives : List Key) (number : ℕ) (low : (key : Key) (top : Top) → front_at fronts key ≡ Some top → (top.weight ≡ top.node) × (top.node < number))
    (given : (key : Key) → front_at new key ≡ front_after (list_any (key_eq key) gives) (front_at fronts key) (record { weight = number; node = number })) where
  abbrev this : Top
  this = record { weight = number; node = number }

  above : (before : Option Top) → ((top : Top) → before ≡ Some top → (top.weight ≡ top.node) × (top.node < number)) → higher before (Some this) ≡ Some this
  above None under = refl
  above (Some top) under =
      let u = under top refl in
      let less : top.weight < number = let e = u.0 in let l = u.1 in omega (arith, e, l) in
      ap (λ (t : Bool). if t || ((top.weight == number) && nat_lt number top.node) then Some this else Some top) (lt-ltb top.weight number less)

  other : (before : Option Top) → ((top : Top) → before ≡ Some top → (top.weight ≡ top.node) × (top.node < number)) → is_node before number ≡ false
  other None under = refl
  other (Some top) under = let l = (under top refl).1 in ne_eqb top.node number (λ same. omega (arith, same, l))

  front_by : (key : Key) (t : Bool) → list_any (key_eq key) gives ≡ t → front_at new key ≡ (if t then Some this else front_at fronts key)
  front_by key true e = given key ∙ (ap (λ (t : Bool). front_after t (front_at fronts key) this) e ∙ above (front_at fronts key) (low key))
  front_by key false e = given key ∙ ap (λ (t : Bool). front_after t (front_at fronts key) this) e

  gave_by : (key : Key) (t : Bool) → list_any (key_eq key) gives ≡ t → gave new key number ≡ t
  gave_by key true e = ap (λ (o : Option Top). is_node o number) (front_by key true e) ∙ eq-eqb number number refl
  gave_by key false e = ap (λ (o : Option Top). is_node o number) (front_by key false e) ∙ other (front_at fronts key) (low key)

  pub gave_now : (key : Key) → gave new key number ≡ list_any (key_eq key) gives
  gave_now key = gave_by key (list_any (key_eq key) gives) refl

  low_by : (key : Key) (t : Bool) → list_any (key_eq key) gives ≡ t → (top : Top) → front_at new key ≡ Some top → (top.weight ≡ top.node) × (top.node < number + 1)
  low_by key true e top is =
      let same : this ≡ top = let two : Some this ≡ Some top = sym (front_by key true e) ∙ is in cc in
      (sym (ap (λ (t : Top). t.weight) same) ∙ ap (λ (t : Top). t.node) same, let n = ap (λ (t : Top). t.node) same in omega (arith, n))
  low_by key false e top is = let l = low key top (sym (front_by key false e) ∙ is) in (l.0, let less = l.1 in omega (arith, less))

  pub low_now : (key : Key) (top : Top) → front_at new key ≡ Some top → (top.weight ≡ top.node) × (top.node < number + 1)
  low_now key top is = low_by key (list_any (key_eq key) gives) refl top is

  -- they tell what the entry accessed
  pub marked_now : (tree : List (List Part)) (node : Node) (b : Strand) → Shows tree node b → gives ≡ node.gives → IsMarked tree new number b
  marked_now tree node b shows are = record {
    writes = λ place. (
      λ g. (shows.gives (Write place)).0 (subst (λ (l : List Key). Contains l (Write place)) are (any_contains (Write place) gives (sym (gave_now (Write place)) ∙ g))),
      λ h. gave_now (Write place) ∙ contains_any (Write place) gives (subst (λ (l : List Key). Contains l (Write place)) (sym are) ((shows.gives (Write place)).1 h)),
    );
    accesses = λ place. (
      λ g. (shows.gives (Access place)).0 (subst (λ (l : List Key). Contains l (Access place)) are (any_contains (Access place) gives (sym (gave_now (Access place)) ∙ g))),
      λ h. gave_now (Access place) ∙ contains_any (Access place) gives (subst (λ (l : List Key). Contains l (Access place)) (sym are) ((shows.gives (Access place)).1 h)),
    );
  }

module _ (p : Program) (tree : List (List Part)) (strands : List Strand) (b : Strand) (number : ℕ) (many : length strands ≡ number) (trail : ChainTrail) (is : IsTrail p tree strands trail) where
  abbrev all : List Strand
  all = strands ++ b ∷ []

  longer : length all ≡ number + 1
  longer = length-append strands (b ∷ []) ∙ (let e = many in omega (arith, e))

  -- an entry that is not the next of the chain
  last_stays : (last : Option Last) → IsKnownLast tree strands trail last → IsKnownLast tree all trail last
  last_stays None l = l
  last_stays (Some last) l = (l.0, l.1, l.2, l.3, stays strands b last.number l.1 l.4, l.5, l.6)

  low_on : (key : Key) (top : Top) → front_at trail.fronts key ≡ Some top → (top.weight ≡ top.node) × (top.node < length all)
  low_on key top e = let l = is.low key top e in (l.0, let less = l.1 in omega (arith, less, many, longer))

  -- the entries of the chain up to this one
  reached : (next : ¬ (slice_get trail.chain (length trail.steps) ≡ Some number)) → Ascends trail.chain → (k n : ℕ) → slice_get trail.chain k ≡ Some n → n < length all → k < length trail.steps
  reached next up k n at below = elim (cases_lt n (length strands)) [
    | inl old ↦ is.all up k n at old
    | inr now ↦ elim (cases_lt k (length trail.steps)) [
      | inl less ↦ less
      | inr past ↦ absurd (at_end (let e = longer in omega (arith, now, below, e, many)) past)
    ]
  ] where
    at_end : n ≡ number → length trail.steps ≤ k → ⊥
    at_end same past = elim (cases_lt (length trail.steps) k) [
      | inl less ↦ earlier (first_of_them less)
      | inr over ↦ next (subst (λ (j : ℕ). slice_get trail.chain j ≡ Some number) (let e : k ≡ length trail.steps = omega (arith, past, over) in e) (at ∙ ap Some same))
    ] where
      first_of_them : length trail.steps < k → (m : ℕ) × (slice_get trail.chain (length trail.steps) ≡ Some m)
      first_of_them less = found_at trail.chain (length trail.steps) (let b = found_below trail.chain k n at in omega (arith, b, less))
        where
          found_at : (xs : List ℕ) (i : ℕ) → i < length xs → (m : ℕ) × (slice_get xs i ≡ Some m)
          found_at [] i l = absurd (omega (arith, l))
          found_at (x ∷ xs) zero l = (x, refl)
          found_at (x ∷ xs) (suc i) l = found_at xs i (omega (arith, l))

      earlier : (m : ℕ) × (slice_get trail.chain (length trail.steps) ≡ Some m) → ⊥
      earlier m = elim (cases_lt (length trail.steps) k) [
        | inl less ↦ (
            let small = up (length trail.steps) k m.0 n less m.1 at in
            let no = is.all up (length trail.steps) m.0 m.1 (omega (arith, small, same, many)) in
            omega (arith, no)
            )
        | inr over ↦ next (subst (λ (j : ℕ). slice_get trail.chain j ≡ Some number) (let e : k ≡ length trail.steps = omega (arith, past, over) in e) (at ∙ ap Some same))
      ]

  pub passed_by : ¬ (slice_get trail.chain (length trail.steps) ≡ Some number) → IsTrail p tree all trail
  passed_by next = record {
    low = low_on;
    each = λ k step at. step_stays p strands b trail.chain k step (is.each k step at);
    all = reached next;
    last = last_stays trail.last is.last;
  }

  -- the next entry of the chain
  module _ (new : ChainTrail) (step : ChainStep) (last : Last) (chain_is : new.chain ≡ trail.chain) (steps_are : new.steps ≡ trail.steps ++ step ∷ []) (last_is : new.last ≡ Some last)
      (next : slice_get trail.chain (length trail.steps) ≡ Some number) (entry : step.entry ≡ number) (task : step.task ≡ b.task) (reason : IsReasonAt p strands trail.chain (length trail.steps) b step.reason)
      (last_number : last.number ≡ number) (last_so : IsLast last b) (low : (key : Key) (top : Top) → front_at new.fronts key ≡ Some top → (top.weight ≡ top.node) × (top.node < number + 1))
      (marked : IsMarked tree new.fronts number b) where
    there : slice_get all number ≡ Some b
    there = get_at strands b number (sym many)

    step_now : IsStepAt p all trail.chain (length trail.steps) step
    step_now = record {
      entry = next ∙ ap Some (sym entry);
      strand = b;
      there = ap (slice_get all) entry ∙ there;
      task = task;
      reason = reason_stays p strands b trail.chain (length trail.steps) b step.reason reason;
    }

    count : length new.steps ≡ length trail.steps + 1
    count = ap (λ (l : List ChainStep). length l) steps_are ∙ (length-append trail.steps (step ∷ []) ∙ (omega arith))

    each_now : (k : ℕ) (s : ChainStep) → slice_get (trail.steps ++ step ∷ []) k ≡ Some s → IsStepAt p all trail.chain k s
    each_now k s at = elim (cases_lt k (length trail.steps)) [
      | inl less ↦ step_stays p strands b trail.chain k s (is.each k s (sym (get_left trail.steps (step ∷ []) k less) ∙ at))
      | inr past ↦ (
          let below = found_below (trail.steps ++ step ∷ []) k s at in
          let here : k ≡ length trail.steps = omega (arith, past, below, length-append trail.steps (step ∷ [])) in
          let same : step ≡ s = let two : Some step ≡ Some s = sym (get_at trail.steps step k here) ∙ at in cc in
          subst (λ (j : ℕ). IsStepAt p all trail.chain j s) (sym here) (subst (IsStepAt p all trail.chain (length trail.steps)) same step_now)
          )
    ]

    all_now : Ascends trail.chain → (k n : ℕ) → slice_get trail.chain k ≡ Some n → n < length all → k < length trail.steps + 1
    all_now up k n at below = elim (cases_lt (length trail.steps) k) [
      | inl more ↦ (let big = up (length trail.steps) k number n more next at in absurd (let e = longer in omega (arith, big, below, e)))
      | inr fits ↦ omega (arith, fits)
    ]

    pub followed : IsTrail p tree all new
    followed = record {
      low = λ key top e. let l = low key top e in (l.0, let less = l.1 in let e = longer in omega (arith, less, e));
      each = λ k s at. subst (λ (chain : List ℕ). IsStepAt p all chain k s) (sym chain_is) (each_now k s (ap (λ (l : List ChainStep). slice_get l k) (sym steps_are) ∙ at));
      all = λ up k n at below.
          let less = all_now (subst Ascends chain_is up) k n (ap (λ (l : List ℕ). slice_get l k) (sym chain_is) ∙ at) below in
          omega (arith, less, count);
      last = subst (IsKnownLast tree all new) (sym last_is) (
        length trail.steps,
        b,
        count ∙ (omega arith),
        ap (λ (l : List ℕ). slice_get l (length trail.steps)) chain_is ∙ (next ∙ ap Some (sym last_number)),
        ap (slice_get all) last_number ∙ there,
        last_so,
        subst (λ (n : ℕ). IsMarked tree new.fronts n b) (sym last_number) marked,
      );
    }

-- no entry has come
pub trail_start : (p : Program) (tree : List (List Part)) (trail : ChainTrail) → ((key : Key) → front_at trail.fronts key ≡ None) → trail.steps ≡ [] → trail.last ≡ None → IsTrail p tree [] trail
trail_start p tree trail empty no_steps no_last = record {
  low = λ key top e. let none : None ≡ Some top = sym (empty key) ∙ e in absurd (cc);
  each = λ k step at. let none : None ≡ Some step = nothing k step at in absurd (cc);
  all = λ up k n at below. absurd (omega (arith, below));
  last = subst (IsKnownLast tree [] trail) (sym no_last) (ap (λ (l : List ChainStep). length l) no_steps);
} where
  nothing : (k : ℕ) (step : ChainStep) → slice_get trail.steps k ≡ Some step → None ≡ Some step
  nothing k step at = sym (ap (λ (l : List ChainStep). slice_get l k) no_steps) ∙ at

empty_fronts : (key : Key) → front_at no_fronts key ≡ None
empty_fronts (Task n) = refl
empty_fronts (Value n) = refl
empty_fronts (Write n) = refl
empty_fronts (Access n) = refl

pub trail_new : (p : Program) (tree : List (List Part)) (trail : ChainTrail) → trail.fronts ≡ no_fronts → trail.steps ≡ [] → trail.last ≡ None → IsTrail p tree [] trail
trail_new p tree trail none no_steps no_last =
    trail_start p tree trail (λ key. ap (λ (f : Fronts). front_at f key) none ∙ empty_fronts key) no_steps no_last

-- why the next entry follows the last one
pub first_reason : (p : Program) (tree : List (List Part)) (strands : List Strand) (trail : ChainTrail) (b : Strand) → IsKnownLast tree strands trail None → IsReasonAt p strands trail.chain (length trail.steps) b First
first_reason p tree strands trail b none = subst (λ (k : ℕ). IsReasonAt p strands trail.chain k b First) (sym none) refl

pub next_reason : (p : Program) (tree : List (List Part)) (strands : List Strand) (trail : ChainTrail) (b : Strand) (last : Last) (reason : LinkReason) → IsKnownLast tree strands trail (Some last)
    → ((a : Strand) → IsLast last a → IsMarked tree trail.fronts last.number a → IsReasonFor p a b reason) → IsReasonAt p strands trail.chain (length trail.steps) b reason
next_reason p tree strands trail b last reason l by =
    subst (λ (k : ℕ). IsReasonAt p strands trail.chain k b reason) (sym l.2) (last.number, l.1, l.3, l.4, by l.1 l.5 l.6)
