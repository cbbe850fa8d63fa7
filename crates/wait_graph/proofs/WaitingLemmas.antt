-- A task waits for one task at most and has one parent, so each walk has one way to go.
use Rattle.std.proofs.Common.{◌≡◌, ℕ, ◌≤◌, ◌↔◌, List, Some, sym, subst, ◌∙◌, inl, inr, ⊎_elim, arith}
use Rattle.std.proofs.lemmas.Bool.{cases_Bool, false≢true}
use Rattle.std.specs.Option.{ForSome}
use Rattle.wait_graph.specs.declared.tasks.Link.{Link}
use Rattle.wait_graph.specs.Chain.{none, more}
use Rattle.wait_graph.specs.Link.{IsOrdered, link_of}
use Rattle.wait_graph.specs.Waiting.{WaitsFor, WaitsForNobody, WaitsOn, IsDone, WaitsOnUnlessDone, SpawnedBy, DescendsFrom, YieldsTo}
use Rattle.wait_graph.proofs.ChainLemmas.{Chain-push, Chain-stays, Chain-rest, Chain-map}

-- nobody waits for two tasks
pub WaitsFor-one : {links : List Link} {s u v : ℕ} → WaitsFor links s u → WaitsFor links s v → v ≡ u
WaitsFor-one a b = let p = a.waits in let q = b.waits in cc

-- nobody has two parents
pub SpawnedBy-one : {links : List Link} {c p q : ℕ} → SpawnedBy links c p → SpawnedBy links c q → q ≡ p
SpawnedBy-one a b = let p = a.parent in let q = b.parent in cc

-- a chain of waits leads upwards
pub WaitsOn-up : {links : List Link} {s u : ℕ} → IsOrdered links → WaitsOn links s u → s ≤ u
WaitsOn-up ordered none = omega arith
WaitsOn-up {s = s} ordered (more {b = v} wait chain) =
    let first = (ordered.waits_up s v wait.waits).0 in
    let others = WaitsOn-up ordered chain in
    omega arith

-- a chain of descent leads downwards
pub DescendsFrom-down : {links : List Link} {t u : ℕ} → IsOrdered links → DescendsFrom links t u → u ≤ t
DescendsFrom-down ordered none = omega arith
DescendsFrom-down {t = t} ordered (more {b = p} child chain) =
    let first = ordered.parent_down t p child.parent in
    let others = DescendsFrom-down ordered chain in
    omega arith

-- if s is neither t nor an ancestor of t and yields to t, the task that s waits for yields to t
pub YieldsTo-next : {links : List Link} {s t next : ℕ} → WaitsFor links s next → ¬ DescendsFrom links t s → YieldsTo links s t → YieldsTo links next t
YieldsTo-next {links} {s} {t} wait apart yield =
    (yield.0, Chain-rest (λ c w. WaitsFor-one wait w) (λ e. apart (subst (λ (x : ℕ). DescendsFrom links t x) (sym e) yield.2)) yield.1, yield.2)

-- who waits for nobody yields only to itself and to its spawn descendants
pub YieldsTo-alone : {links : List Link} {s t : ℕ} → WaitsForNobody links s → YieldsTo links s t → DescendsFrom links t s
YieldsTo-alone {links} {s} {t} nobody yield =
    subst (λ (x : ℕ). DescendsFrom links t x) (sym (Chain-stays nobody yield.1)) yield.2

-- to a task without a parent those alone yield that wait on it
pub YieldsTo-rootless : {links : List Link} {s t : ℕ} → ((p : ℕ) → ¬ SpawnedBy links t p) → YieldsTo links s t → WaitsOn links s t
YieldsTo-rootless {links} {s} {t} alone yield =
    subst (λ (x : ℕ). WaitsOn links s x) (sym (Chain-stays alone yield.2)) yield.1

-- nobody waits for a done task
pub WaitsFor-done : {links : List Link} {s t : ℕ} → IsDone links t → ¬ WaitsFor links s t
WaitsFor-done done wait = false≢true (sym wait.undone ∙ done)

-- a chain that leads to u unless u is done goes on by a wait that u has
pub WaitsOnUnlessDone-push : {links : List Link} {s u v : ℕ} → WaitsOnUnlessDone links s u → ¬ IsDone links u → (link_of links u).waits ≡ Some v → WaitsOnUnlessDone links s v
WaitsOnUnlessDone-push {links} {s} {u} {v} (inl chain) live wait =
    ⊎_elim (λ done. inr done) (λ undone. inl (Chain-push chain (record { waits = wait; undone = undone }))) (cases_Bool (link_of links v).done)
WaitsOnUnlessDone-push (inr done) live wait = absurd (live done)

-- waits and done tasks are what the links say of them
pub WaitsFor-same : {links news : List Link} → ((x : ℕ) → (link_of news x).waits ≡ (link_of links x).waits) → ((x : ℕ) → (link_of news x).done ≡ (link_of links x).done) → (s u : ℕ) → WaitsFor news s u ↔ WaitsFor links s u
WaitsFor-same waits done s u = (
  λ w. record { waits = sym (waits s) ∙ w.waits; undone = sym (done u) ∙ w.undone },
  λ w. record { waits = waits s ∙ w.waits; undone = done u ∙ w.undone },
)

-- who has no wait, or one of a done task, waits for nobody
pub WaitsForNobody-waits : (links : List Link) (t : ℕ) → WaitsForNobody links t ↔ ForSome (link_of links t).waits (IsDone links)
WaitsForNobody-waits links t = (
  λ nobody u e. ⊎_elim (λ done. done) (λ undone. absurd (nobody u (record { waits = e; undone = undone }))) (cases_Bool (link_of links u).done),
  λ done u w. WaitsFor-done (done u w.waits) w,
)

-- so chains of waits are, too
pub WaitsOn-same : {links news : List Link} → ((s u : ℕ) → WaitsFor news s u ↔ WaitsFor links s u) → (s u : ℕ) → WaitsOn news s u ↔ WaitsOn links s u
WaitsOn-same same s u = (Chain-map (λ x y. (same x y).0), Chain-map (λ x y. (same x y).1))

-- and chains that lead to a task unless it is done
pub WaitsOnUnlessDone-same : {links news : List Link} → ((x : ℕ) → (link_of news x).waits ≡ (link_of links x).waits) → ((x : ℕ) → (link_of news x).done ≡ (link_of links x).done) → (s u : ℕ) → WaitsOnUnlessDone news s u ↔ WaitsOnUnlessDone links s u
WaitsOnUnlessDone-same waits done s u =
    let chains = WaitsOn-same (WaitsFor-same waits done) s u in (
      λ h. ⊎_elim (λ chain. inl (chains.0 chain)) (λ d. inr (sym (done u) ∙ d)) h,
      λ h. ⊎_elim (λ chain. inl (chains.1 chain)) (λ d. inr (done u ∙ d)) h,
    )

-- spawn edges are what the links say of them
pub SpawnedBy-same : {links news : List Link} → ((x : ℕ) → (link_of news x).parent ≡ (link_of links x).parent) → ((x : ℕ) → (link_of news x).joined ≡ (link_of links x).joined) → (c p : ℕ) → SpawnedBy news c p ↔ SpawnedBy links c p
SpawnedBy-same parent joined c p = (
  λ w. record { parent = sym (parent c) ∙ w.parent; unjoined = sym (joined c) ∙ w.unjoined },
  λ w. record { parent = parent c ∙ w.parent; unjoined = joined c ∙ w.unjoined },
)

-- so chains of descent are, too
pub DescendsFrom-same : {links news : List Link} → ((c p : ℕ) → SpawnedBy news c p ↔ SpawnedBy links c p) → (c u : ℕ) → DescendsFrom news c u ↔ DescendsFrom links c u
DescendsFrom-same same c u = (Chain-map (λ x y. (same x y).0), Chain-map (λ x y. (same x y).1))
