-- The round that a walk was found to end in is the one that the stuck cycle is made of.
use Rattle.std.proofs.Common.{◌≡◌, ℕ, suc, ◌+◌, ◌-◌, ◌≤◌, List, length, map, drop, Option, sym, ap, ◌∙◌, subst, arith}
use Rattle.wait_graph.specs.declared.tasks.Link.{Link}
use Rattle.wait_graph.specs.declared.stuck.Edge.{Edge}
use Rattle.wait_graph.specs.Link.{IsOrdered}
use Rattle.wait_graph.specs.Walk.{walk, first_round, walk_turned, lowest_place}
use Rattle.wait_graph.specs.inner.Again.{after, ComesAgain}
use Rattle.wait_graph.specs.StuckCycle.{IsCycle, IsUndone, AllAreHeldUp, edge_from, next_of, lowest_undone, stuck_cycle}
use Rattle.wait_graph.proofs.WalkLemmas.{drop-walk}
use Rattle.wait_graph.proofs.RoundLemmas.{IsRound, IsRound-again}
use Rattle.wait_graph.proofs.FirstRoundLemmas.{first_round-walk}
use Rattle.wait_graph.proofs.TurnedLemmas.{IsTurned-round}
use Rattle.wait_graph.proofs.CycleLemmas.{IsUndone-after, IsCycle-edges_of}

-- what a walk found: its tasks, and the place of the one that it came to again, within so many steps
pub record IsFound (next : ℕ → ℕ) (start m size : ℕ) (tasks : List ℕ) : Type 0 where
  pub tasks_are : tasks ≡ walk next (length tasks) start
  pub again : ComesAgain next m (length tasks) start
  pub within : length tasks ≤ size

pub IsFound-from : (next : ℕ → ℕ) (start m size n : ℕ) (tasks : List ℕ) → length tasks ≡ n → tasks ≡ walk next n start → ComesAgain next m n start → n ≤ size → IsFound next start m size tasks
IsFound-from next start m size n tasks len walked again within = record {
  tasks_are = walked ∙ ap (λ k. walk next k start) (sym len);
  again = subst (λ (k : ℕ). ComesAgain next m k start) (sym len) again;
  within = omega arith;
}

-- the round begins at a number of the walk
pub record IsRoundOf (next : ℕ → ℕ) (start m size : ℕ) (ts : List ℕ) : Type 0 where
  pub period : ℕ
  pub walked : ts ≡ walk next period (after next m start)
  pub round : IsRound next period (after next m start)
  pub first : first_round (walk next (suc size) start) ≡ ts

found_parts : (next : ℕ → ℕ) (start m p more : ℕ) → ComesAgain next m (m + p) start → IsRoundOf next start m (m + p + more) (drop m (walk next (m + p) start))
found_parts next start m p more c = record {
  period = p;
  walked = drop-walk next m p start;
  round = IsRound-again next m p start c;
  first = first_round-walk next m p more start c ∙ sym (drop-walk next m p start);
}

pub IsRoundOf-found : (next : ℕ → ℕ) (start m size : ℕ) (tasks : List ℕ) → IsFound next start m size tasks → IsRoundOf next start m size (drop m tasks)
IsRoundOf-found next start m size tasks f =
    let n = length tasks in
    let before = f.again.before in
    let within = f.within in
    let parts : m + (n - m) ≡ n = omega arith in
    let whole : m + (n - m) + (size - n) ≡ size = omega arith in
    let c : ComesAgain next m (m + (n - m)) start = subst (λ (k : ℕ). ComesAgain next m k start) (sym parts) f.again in
    let same : drop m (walk next (m + (n - m)) start) ≡ drop m tasks = ap (λ k. drop m (walk next k start)) parts ∙ ap (drop m) (sym f.tasks_are) in
    subst (λ (ts : List ℕ). IsRoundOf next start m size ts) same
    (subst (λ (k : ℕ). IsRoundOf next start m k (drop m (walk next (m + (n - m)) start))) whole
    (found_parts next start m (n - m) (size - n) c))

-- the edges of the turned round are the stuck cycle
pub stuck_cycle-round : (links : List Link) (held : List (Option ℕ)) (m : ℕ) (round : List ℕ) → IsRoundOf (next_of links held) (lowest_undone links) m (length links) round → map (edge_from links held) (walk_turned round) ≡ stuck_cycle links held
unfolding stuck_cycle
stuck_cycle-round links held m round r = ap (λ ts. map (edge_from links held) (walk_turned ts)) (sym r.first)

-- and they make a cycle
pub IsCycle-round : (links : List Link) (held : List (Option ℕ)) (start m size : ℕ) (round : List ℕ) → IsOrdered links → AllAreHeldUp links held → IsUndone links start → IsRoundOf (next_of links held) start m size round → IsCycle links held (map (edge_from links held) (walk_turned round))
IsCycle-round links held start m size round ordered alone undone r =
    let next = next_of links held in
    let t = after next m start in
    let b = lowest_place (walk next r.period t) in
    let turn = IsTurned-round next r.period t r.round in
    let there = IsUndone-after links held b t ordered alone (IsUndone-after links held m start ordered alone undone) in
    subst (λ (es : List Edge). IsCycle links held es) (ap (map (edge_from links held)) (sym (ap walk_turned r.walked ∙ turn.value)))
    (IsCycle-edges_of links held r.period (after next b t) ordered alone there turn.round turn.lowest)
