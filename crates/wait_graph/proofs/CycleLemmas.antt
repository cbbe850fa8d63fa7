-- The edges of a round of the walk make a cycle.
use Rattle.std.proofs.Common.{◌≡◌, ◌≢◌, ℕ, zero, suc, ◌<◌, ◌≤◌, List, [], ◌∷◌, ◌++◌, length, get_or, map, take, drop, Option, refl, sym, ap, ◌∙◌, subst, ⊎_elim, arith}
use Rattle.std.specs.List.{All}
use Rattle.std.proofs.lemmas.Bool.{cases_eq}
use Rattle.std.proofs.lemmas.List.{length-map, get_or-map}
use Rattle.std.proofs.lemmas.List.Elements.{All-from_get_or, All-map}
use Rattle.wait_graph.specs.declared.tasks.Link.{Link}
use Rattle.wait_graph.specs.declared.stuck.Edge.{Edge}
use Rattle.wait_graph.specs.Link.{IsOrdered}
use Rattle.wait_graph.specs.Walk.{walk}
use Rattle.wait_graph.specs.inner.Again.{after}
use Rattle.wait_graph.specs.StuckCycle.{IsCycle, IsUndone, AllAreHeldUp, IsTrueEdge, IsClosed, HasEachOnce, BeginsLowest, edge_from, next_of}
use Rattle.wait_graph.proofs.WalkLemmas.{walk-push, length-walk, get_or-walk}
use Rattle.wait_graph.proofs.RoundLemmas.{IsRound, IsRound-distinct}
use Rattle.wait_graph.proofs.EdgeLemmas.{from-edge_from, GoesOn-undone}

-- each task that a walk comes to isn't done
pub IsUndone-after : (links : List Link) (held : List (Option ℕ)) (n t : ℕ) → IsOrdered links → AllAreHeldUp links held → IsUndone links t → IsUndone links (after (next_of links held) n t)
IsUndone-after links held zero t ordered alone undone = undone
IsUndone-after links held (suc n) t ordered alone undone =
    IsUndone-after links held n (next_of links held t) ordered alone (GoesOn-undone links held t ordered alone undone).onward

pub IsUndone-walk : (links : List Link) (held : List (Option ℕ)) (n t : ℕ) → IsOrdered links → AllAreHeldUp links held → IsUndone links t → All (IsUndone links) (walk (next_of links held) n t)
IsUndone-walk links held n t ordered alone undone =
    All-from_get_or (IsUndone links) (walk (next_of links held) n t) 0
    (λ i h.
    let k : i < n = let l = length-walk (next_of links held) n t in omega arith in
    subst (λ (u : ℕ). IsUndone links u) (sym (get_or-walk (next_of links held) n t i 0 k)) (IsUndone-after links held i t ordered alone undone))

-- the edges of the first n tasks of the walk from t
abbrev pub edges_of : List Link → List (Option ℕ) → ℕ → ℕ → List Edge
edges_of links held n t = map (edge_from links held) (walk (next_of links held) n t)

length-edges_of : (links : List Link) (held : List (Option ℕ)) (n t : ℕ) → length (edges_of links held n t) ≡ n
length-edges_of links held n t = length-map (walk (next_of links held) n t) (edge_from links held) ∙ length-walk (next_of links held) n t

-- where they begin, and where they end
from-edges_of : (links : List Link) (held : List (Option ℕ)) (n t : ℕ) → map (λ (e : Edge). e.from) (edges_of links held n t) ≡ walk (next_of links held) n t
from-edges_of links held zero t = refl
from-edges_of links held (suc n) t =
    ap (λ u. u ∷ map (λ (e : Edge). e.from) (edges_of links held n (next_of links held t))) (from-edge_from links held t)
    ∙ ap (λ ts. t ∷ ts) (from-edges_of links held n (next_of links held t))

to-edges_of : (links : List Link) (held : List (Option ℕ)) (n t : ℕ) → map (λ (e : Edge). e.to) (edges_of links held n t) ≡ walk (next_of links held) n (next_of links held t)
to-edges_of links held zero t = refl
to-edges_of links held (suc n) t = ap (λ ts. next_of links held t ∷ ts) (to-edges_of links held n (next_of links held t))

at-edges_of : (links : List Link) (held : List (Option ℕ)) (n t i : ℕ) (d : Edge) → i < n → (get_or (edges_of links held n t) i d).from ≡ after (next_of links held) i t
at-edges_of links held n t i d h =
    let k : i < length (walk (next_of links held) n t) = let l = length-walk (next_of links held) n t in omega arith in
    ap (λ (e : Edge). e.from) (get_or-map (edge_from links held) (walk (next_of links held) n t) i 0 d k)
    ∙ from-edge_from links held (get_or (walk (next_of links held) n t) i 0) ∙ get_or-walk (next_of links held) n t i 0 h

-- a round goes on where it began
round_closed : (next : ℕ → ℕ) (p t : ℕ) → IsRound next p t → walk next p (next t) ≡ drop 1 (walk next p t) ++ take 1 (walk next p t)
round_closed next zero t r = absurd (let s = r.some in omega arith)
round_closed next (suc p) t r = walk-push next p (next t) ∙ ap (λ u. walk next p (next t) ++ u ∷ []) r.back

closed : (links : List Link) (held : List (Option ℕ)) (p t : ℕ) → IsRound (next_of links held) p t → IsClosed (edges_of links held p t)
closed links held p t r =
    to-edges_of links held p t ∙ round_closed (next_of links held) p t r
    ∙ sym (ap (λ ts. drop 1 ts ++ take 1 ts) (from-edges_of links held p t))

once : (links : List Link) (held : List (Option ℕ)) (p t : ℕ) → IsRound (next_of links held) p t → HasEachOnce (edges_of links held p t)
once links held p t r = λ i j d h k.
    let low : j < p = let l = length-edges_of links held p t in omega arith in
    λ e. IsRound-distinct (next_of links held) p t i j r h low
    (sym (at-edges_of links held p t i d (omega arith)) ∙ e ∙ at-edges_of links held p t j d low)

true_edges : (links : List Link) (held : List (Option ℕ)) (p t : ℕ) → IsOrdered links → AllAreHeldUp links held → IsUndone links t → All (IsTrueEdge links held) (edges_of links held p t)
true_edges links held p t ordered alone undone =
    All-map (IsTrueEdge links held) (λ u. edge_from links held u) (walk (next_of links held) p t)
    (λ k d h. (GoesOn-undone links held (get_or (walk (next_of links held) p t) k d) ordered alone (IsUndone-walk links held p t ordered alone undone k d h)).true_edge)

-- from the lowest number on, the others of a round are higher
begins_lowest : (links : List Link) (held : List (Option ℕ)) (p t : ℕ) → IsRound (next_of links held) p t → ((i : ℕ) → i < p → t ≤ after (next_of links held) i t) → BeginsLowest (edges_of links held p t)
begins_lowest links held zero t r low = tt
begins_lowest links held (suc p) t r low = λ k d h.
    let next = next_of links held in
    let first = from-edge_from links held t in
    let size : k < p = let l = length-edges_of links held p (next t) in omega arith in
    let place : ℕ = after next k (next t) in
    let other : (get_or (edges_of links held p (next t)) k d).from ≡ place = at-edges_of links held p (next t) k d size in
    let least : t ≤ place = low (suc k) (omega arith) in
    let differs : place ≢ t = r.first (suc k) (omega arith) (omega arith) in
    let above : t < place = ⊎_elim (λ e. absurd (differs e)) (λ n. omega arith) (cases_eq place t) in
    omega arith

pub IsCycle-edges_of : (links : List Link) (held : List (Option ℕ)) (p t : ℕ) → IsOrdered links → AllAreHeldUp links held → IsUndone links t → IsRound (next_of links held) p t → ((i : ℕ) → i < p → t ≤ after (next_of links held) i t) → IsCycle links held (edges_of links held p t)
IsCycle-edges_of links held p t ordered alone undone r low = record {
  some = let l = length-edges_of links held p t in let s = r.some in omega arith;
  true_edges = true_edges links held p t ordered alone undone;
  closed = closed links held p t r;
  once = once links held p t r;
  begins_lowest = begins_lowest links held p t r low;
}
