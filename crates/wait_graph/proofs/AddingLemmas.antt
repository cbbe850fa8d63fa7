-- What the waits, the spawn edges and their chains are once a task was added.
use Rattle.std.proofs.Common.{◌≡◌, ◌≢◌, ℕ, ◌<◌, ◌↔◌, List, [], ◌∷◌, ◌++◌, length, Option, Some, refl, sym, ap, subst, ◌∙◌, ◌⊎◌, inl, inr, ⊎_elim, arith}
use Rattle.std.proofs.lemmas.Bool.{cases_eq, cases_lt}
use Rattle.std.specs.Option.{ForSome}
use Rattle.wait_graph.specs.declared.tasks.Link.{Link}
use Rattle.wait_graph.specs.Link.{IsOrdered, new_link}
use Rattle.wait_graph.specs.Waiting.{WaitsFor, WaitsForNobody, WaitsOn, IsDone, WaitsOnUnlessDone, SpawnedBy, DescendsFrom, YieldsTo}
use Rattle.wait_graph.specs.Chain.{none, more}
use Rattle.wait_graph.proofs.ChainLemmas.{Chain-arrives, Chain-map}
use Rattle.wait_graph.proofs.LinkLemmas.{link_of-past, link_of-append_same, link_of-append_other, kept_by_append}
use Rattle.wait_graph.proofs.WaitingLemmas.{WaitsFor-same, WaitsOn-same, WaitsOnUnlessDone-same, YieldsTo-alone}

-- the links once a task with this parent was added
abbrev added : List Link → Option ℕ → List Link
added links parent = links ++ new_link parent ∷ []

pub WaitsFor-added : (links : List Link) (parent : Option ℕ) (s u : ℕ) → WaitsFor (links ++ new_link parent ∷ []) s u ↔ WaitsFor links s u
WaitsFor-added links parent s u =
    WaitsFor-same (kept_by_append (λ l. l.waits) links (new_link parent) refl) (kept_by_append (λ l. l.done) links (new_link parent) refl) s u

pub WaitsOn-added : (links : List Link) (parent : Option ℕ) (s u : ℕ) → WaitsOn (links ++ new_link parent ∷ []) s u ↔ WaitsOn links s u
WaitsOn-added links parent s u = WaitsOn-same (λ x y. WaitsFor-added links parent x y) s u

pub WaitsOnUnlessDone-added : (links : List Link) (parent : Option ℕ) (s u : ℕ) → WaitsOnUnlessDone (links ++ new_link parent ∷ []) s u ↔ WaitsOnUnlessDone links s u
WaitsOnUnlessDone-added links parent s u =
    WaitsOnUnlessDone-same (kept_by_append (λ l. l.waits) links (new_link parent) refl) (kept_by_append (λ l. l.done) links (new_link parent) refl) s u

pub IsDone-added : (links : List Link) (parent : Option ℕ) (u : ℕ) → IsDone (links ++ new_link parent ∷ []) u ↔ IsDone links u
IsDone-added links parent u =
    let same = kept_by_append (λ l. l.done) links (new_link parent) refl u in
    (λ d. sym same ∙ d, λ d. same ∙ d)

-- a task that isn't there has no parent
unparented : (links : List Link) (p : ℕ) → ¬ SpawnedBy links (length links) p
unparented links p w =
    let past = ap (λ l. l.parent) (link_of-past links (length links) (omega arith)) in
    let parent = w.parent in
    cc

other_parent : (links : List Link) (parent : Option ℕ) (c p : ℕ) → c ≢ length links → SpawnedBy (added links parent) c p ↔ SpawnedBy links c p
other_parent links parent c p other =
    let same = link_of-append_other links (new_link parent) c other in (
      λ w. record { parent = sym (ap (λ l. l.parent) same) ∙ w.parent; unjoined = sym (ap (λ l. l.joined) same) ∙ w.unjoined },
      λ w. record { parent = ap (λ l. l.parent) same ∙ w.parent; unjoined = ap (λ l. l.joined) same ∙ w.unjoined },
    )

own_parent : (links : List Link) (parent : Option ℕ) (p : ℕ) → SpawnedBy (added links parent) (length links) p ↔ (parent ≡ Some p)
own_parent links parent p =
    let same = link_of-append_same links (new_link parent) in (
      λ w. sym (ap (λ l. l.parent) same) ∙ w.parent,
      λ e. record { parent = ap (λ l. l.parent) same ∙ e; unjoined = ap (λ l. l.joined) same },
    )

pub SpawnedBy-added : (links : List Link) (parent : Option ℕ) (c p : ℕ) → SpawnedBy (links ++ new_link parent ∷ []) c p ↔ (SpawnedBy links c p ⊎ ((c ≡ length links) × (parent ≡ Some p)))
SpawnedBy-added links parent c p = (
  λ w.
      ⊎_elim
      (λ e. inr (e, (own_parent links parent p).0 (subst (λ (x : ℕ). SpawnedBy (added links parent) x p) e w)))
      (λ other. inl ((other_parent links parent c p other).0 w))
      (cases_eq c (length links)),
  λ h.
      ⊎_elim
      (λ w. (other_parent links parent c p (λ e. unparented links p (subst (λ (x : ℕ). SpawnedBy links x p) e w))).1 w)
      (λ own. subst (λ (x : ℕ). SpawnedBy (added links parent) x p) (sym own.0) ((own_parent links parent p).1 own.1))
      h,
)

-- who has a parent is there
child_there : (links : List Link) (c p : ℕ) → SpawnedBy links c p → c < length links
child_there links c p w =
    ⊎_elim
    (λ there. there)
    (λ past. let none_there = ap (λ l. l.parent) (link_of-past links c past) in let parent = w.parent in cc)
    (cases_lt c (length links))

keeps_parent : (links : List Link) (parent : Option ℕ) (c p : ℕ) → SpawnedBy links c p → SpawnedBy (added links parent) c p
keeps_parent links parent c p w = (SpawnedBy-added links parent c p).1 (inl w)

had_ancestors : (links : List Link) (parent : Option ℕ) {c u : ℕ} → IsOrdered links → c ≢ length links → DescendsFrom (added links parent) c u → DescendsFrom links c u
had_ancestors links parent ordered other none = none
had_ancestors links parent {c} ordered other (more {b = p} w chain) =
    let first = (other_parent links parent c p other).0 w in
    let below = ordered.parent_down c p first.parent in
    let there = child_there links c p first in
    let away : p ≢ length links = omega arith in
    more first (had_ancestors links parent ordered away chain)

pub DescendsFrom-added : (links : List Link) (parent : Option ℕ) (c u : ℕ) → IsOrdered links → c ≢ length links → DescendsFrom (links ++ new_link parent ∷ []) c u ↔ DescendsFrom links c u
DescendsFrom-added links parent c u ordered other =
    (had_ancestors links parent ordered other, Chain-map (keeps_parent links parent))

pub YieldsTo-added : (links : List Link) (parent : Option ℕ) (s c : ℕ) → IsOrdered links → c ≢ length links → YieldsTo (links ++ new_link parent ∷ []) s c ↔ YieldsTo links s c
YieldsTo-added links parent s c ordered other = (
  λ y. (y.0, (WaitsOn-added links parent s y.0).0 y.1, (DescendsFrom-added links parent c y.0 ordered other).0 y.2),
  λ y. (y.0, (WaitsOn-added links parent s y.0).1 y.1, (DescendsFrom-added links parent c y.0 ordered other).1 y.2),
)

-- the added task

pub WaitsForNobody-added : (links : List Link) (parent : Option ℕ) → WaitsForNobody (links ++ new_link parent ∷ []) (length links)
WaitsForNobody-added links parent u w =
    let same = ap (λ l. l.waits) (link_of-append_same links (new_link parent)) in
    let wait = w.waits in
    cc

pub unawaited-added : (links : List Link) (parent : Option ℕ) (s : ℕ) → IsOrdered links → ¬ WaitsFor (links ++ new_link parent ∷ []) s (length links)
unawaited-added links parent s ordered w =
    let up = (ordered.waits_up s (length links) ((WaitsFor-added links parent s (length links)).0 w).waits).1 in
    omega arith

pub from_added : (links : List Link) (parent : Option ℕ) {c u : ℕ} → IsOrdered links → ForSome parent (λ p. p < length links) → c ≡ length links → DescendsFrom (added links parent) c u → (u ≡ length links) ⊎ ((p : ℕ) × (parent ≡ Some p) × DescendsFrom links p u)
from_added links parent ordered below same none = inl same
from_added links parent ordered below same (more {b = p} w chain) =
    let spawned = (own_parent links parent p).0 (subst (λ (x : ℕ). SpawnedBy (added links parent) x p) same w) in
    let lower : p < length links = below p spawned in
    let away : p ≢ length links = omega arith in
    inr (p, spawned, had_ancestors links parent ordered away chain)

pub DescendsFrom-added_same : (links : List Link) (parent : Option ℕ) (u : ℕ) → IsOrdered links → ForSome parent (λ p. p < length links) → DescendsFrom (links ++ new_link parent ∷ []) (length links) u ↔ ((u ≡ length links) ⊎ ((p : ℕ) × (parent ≡ Some p) × DescendsFrom links p u))
DescendsFrom-added_same links parent u ordered below = (
  from_added links parent ordered below refl,
  λ h.
      ⊎_elim
      (λ e. subst (λ (x : ℕ). DescendsFrom (added links parent) (length links) x) (sym e) none)
      (λ up. more ((own_parent links parent up.0).1 up.1) (Chain-map (keeps_parent links parent) up.2))
      h,
)

-- nobody descends from the added task but itself
pub childless-added : (links : List Link) (parent : Option ℕ) (c : ℕ) → IsOrdered links → ForSome parent (λ p. p < length links) → ¬ SpawnedBy (added links parent) c (length links)
childless-added links parent c ordered below w =
    ⊎_elim
    (λ (old : SpawnedBy links c (length links)).
    let down = ordered.parent_down c (length links) old.parent in
    let there = child_there links c (length links) old in
    omega arith)
    (λ (own : (c ≡ length links) × (parent ≡ Some (length links))). let lower = below (length links) own.1 in omega arith)
    ((SpawnedBy-added links parent c (length links)).0 w)

pub YieldsTo-added_from : (links : List Link) (parent : Option ℕ) (t : ℕ) → IsOrdered links → ForSome parent (λ p. p < length links) → YieldsTo (links ++ new_link parent ∷ []) (length links) t ↔ (t ≡ length links)
YieldsTo-added_from links parent t ordered below = (
  λ y.
      Chain-arrives (λ c. childless-added links parent c ordered below)
      (YieldsTo-alone (WaitsForNobody-added links parent) y),
  λ e. (length links, none, subst (λ (x : ℕ). DescendsFrom (added links parent) x (length links)) (sym e) none),
)

pub YieldsTo-added_to : (links : List Link) (parent : Option ℕ) (s : ℕ) → IsOrdered links → ForSome parent (λ p. p < length links) → YieldsTo (links ++ new_link parent ∷ []) s (length links) ↔ ((s ≡ length links) ⊎ ((p : ℕ) × (parent ≡ Some p) × YieldsTo links s p))
YieldsTo-added_to links parent s ordered below = (
  λ y.
      ⊎_elim
      (λ e.
      inl
      (Chain-arrives (λ a. unawaited-added links parent a ordered)
      (subst (λ (x : ℕ). WaitsOn (added links parent) s x) e y.1)))
      (λ up. inr (up.0, up.1, (y.0, (WaitsOn-added links parent s y.0).0 y.1, up.2)))
      ((DescendsFrom-added_same links parent y.0 ordered below).0 y.2),
  λ h.
      ⊎_elim
      (λ e. (length links, subst (λ (x : ℕ). WaitsOn (added links parent) x (length links)) (sym e) none, none))
      (λ up. (
        up.2.0,
        (WaitsOn-added links parent s up.2.0).1 up.2.1,
        (DescendsFrom-added_same links parent up.2.0 ordered below).1 (inr (up.0, up.1, up.2.2)),
      ))
      h,
)
