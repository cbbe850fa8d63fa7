-- What the calls of the base ask for, and what follows of the numbers that they give.
use Rattle.std.proofs.Common.{◌≡◌, ℕ, zero, suc, ◌<◌, ◌≤◌, min, true, [], ◌∷◌, length, get_or, Some, refl, sym, ap, ◌∙◌, subst, length-append, arith}
use Rattle.std.specs.List.{All, slice_get}
use Rattle.std.proofs.Math.Seq.{get_or-append_seam}
use Rattle.std.proofs.lemmas.Option.{none-some, same_Some}
use Rattle.std.proofs.lemmas.List.Elements.{All-nil}
use Rattle.crossbeam_deque.specs.Tasks.{Pushes, Takes, Finds, FindsFew, Forks}
use Rattle.steal_pool.specs.declared.law.Hand.{Hand}
use Rattle.steal_pool.specs.Hand.{owner_of, guest_of, spent, sharing, pushing, taking}
use Rattle.steal_pool.specs.Stands.{numbers_of, Knows, Stands, Joins, Leaves, WasEmpty}
use Rattle.steal_pool.proofs.ListLemmas.{found}
use Rattle.steal_pool.proofs.RuleLemmas.{leaves, joins, shares}

only_pass : (bound pass : ℕ) (known : Hand) → slice_get (owner_of bound 1 ∷ []) pass ≡ Some known → Knows (owner_of bound 1) [] pass known
only_pass bound zero known e =
    subst (λ (h : Hand). Knows (owner_of bound 1) [] 0 h) (same_Some (owner_of bound 1) known e)
    (record { took = refl; bound = omega arith; pushed = λ _. refl; takers = λ other. absurd (other refl); spent = λ _. refl })
only_pass bound (suc pass) known e = absurd (none-some known e)

-- a new deck keeps the rule
pub begins : (bound : ℕ) → Stands [] (owner_of bound 1 ∷ [])
begins bound = record {
  owner = owner_of bound 1;
  owner_is = refl;
  owner_takes = refl;
  takers = refl;
  gone = [];
  in_order = refl;
  each = only_pass bound;
  no_others = λ _ _. refl;
  each_once = λ _. refl;
  below = All-nil (λ y. y < bound);
}

owner_pushes : (old : Hand) (number : ℕ) → number < old.bound → Pushes Stands 0 old (number ∷ []) (Joins old (number ∷ []))
owner_pushes old number small held passes was at =
    let mine = found passes 0 old at in
    let new = pushing old (number ∷ []) in
    let is = joins number held passes old mine small was in
    (new, is, (refl, (held, record { passes = passes; pass = 0; mine = mine; was = was; is = is })))

pub pushes : (pass : ℕ) → pass ≡ 0 → (old : Hand) (number : ℕ) → number < old.bound → Pushes Stands pass old (number ∷ []) (Joins old (number ∷ []))
pushes pass is old number small = subst (λ (n : ℕ). Pushes Stands n old (number ∷ []) (Joins old (number ∷ []))) (sym is) (owner_pushes old number small)

pub takes : (pass : ℕ) (old : Hand) → old.takes ≡ true → Takes Stands pass old 1 (Leaves old)
takes pass old may [] held passes some one was at = absurd (omega arith)
takes pass old may (number ∷ []) held passes some one was at =
    let mine = found passes pass old at in
    let new = taking old (number ∷ []) in
    let is = leaves number held passes pass old mine may was in
    (new, is, (refl, (held, record { passes = passes; pass = pass; mine = mine; was = was; is = is })))
takes pass old may (number ∷ next ∷ rest) held passes some one was at = absurd (omega arith)

pub finds : (pass : ℕ) (old : Hand) → Finds Stands pass old (WasEmpty old)
finds pass old passes was at = record { passes = passes; pass = pass; mine = found passes pass old at; was = was }

finds_none : (pass : ℕ) (old : Hand) → FindsFew Stands 0 pass old (WasEmpty old)
finds_none pass old [] passes few was at = finds pass old passes was at
finds_none pass old (number ∷ rest) passes few was at = absurd (omega arith)

-- the same in a deck that is first in, first out
pub finds_few : (flavor : ℕ) → flavor ≡ 0 → (pass : ℕ) (old : Hand) → FindsFew Stands (min flavor 1) pass old (WasEmpty old)
finds_few flavor fifo pass old = subst (λ (n : ℕ). FindsFew Stands (min n 1) pass old (WasEmpty old)) (sym fifo) (finds_none pass old)

-- the bound of a new deck is set
pub sets_bound : (high low : ℕ) → low ≤ high → Forks Stands 0 (owner_of high 1) (owner_of low 1) (spent low)
sets_bound high low less held passes was at =
    shares held passes (owner_of high 1) (owner_of low 1) (spent low) (found passes 0 (owner_of high 1) at) was
    refl refl refl less (All-nil (λ y. y < low)) refl refl refl (omega arith) (omega arith)

owner_shares : (old : Hand) → Forks Stands 0 old (sharing old) (guest_of old.bound)
owner_shares old held passes was at =
    let mine = found passes 0 old at in
    let same : was.owner ≡ old = same_Some was.owner old (sym was.owner_is ∙ mine) in
    shares held passes old (sharing old) (guest_of old.bound) mine was
    refl refl refl (omega arith) (subst (λ (h : Hand). All (λ y. y < h.bound) h.pushed) same was.below) refl refl refl (omega arith) refl

-- another worker gets a pass
pub forks : (pass : ℕ) → pass ≡ 0 → (old : Hand) → Forks Stands pass old (sharing old) (guest_of old.bound)
forks pass is old = subst (λ (n : ℕ). Forks Stands n old (sharing old) (guest_of old.bound)) (sym is) (owner_shares old)

-- a number that left is below the bound that the pass knows
pub leaves_below : (old new : Hand) (number : ℕ) → Leaves old (number ∷ []) new → number < old.bound
leaves_below old new number step =
    let was = step.1.1.was in
    let held = step.1.0 in
    let before = numbers_of was.gone in
    let here = get_or-append_seam before number held 0 in
    let order = ap (λ xs. get_or xs (length before) 0) was.in_order in
    let long = ap length was.in_order in
    let small = was.below (length before) 0 (omega (arith, length-append before (number ∷ held))) in
    let known = was.each step.1.1.pass old step.1.1.mine in
    omega (arith, known.bound)
