-- Who has made whom, and the waits along it: a task waits only for tasks that it has made, so the waiters of a task are among
-- those that made one another down to it.
use Rattle.std.proofs.Common.{◌≡◌, ◌≢◌, ◌<◌, ◌≤◌, ◌⊎◌, inl, inr, ℕ, List, refl, subst, arith}
use Rattle.std.proofs.lemmas.Bool.{cases_eq}
use Rattle.wait_graph.specs.Chain.{Chain, none, more}
use Rattle.wait_graph.specs.declared.tasks.Link.{Link}
use Rattle.wait_graph.specs.Waiting.{WaitsFor, WaitsOn}
use Rattle.wait_graph.proofs.ChainLemmas.{Chain-map}
use Rattle.held_span.specs.declared.ways.Ways.{Ways}
use Rattle.held_span.specs.inner.Walking.{AreWays, IsMakerOf}

-- a chain that has a step has a last one
before_last : {Step : ℕ → ℕ → Type 0} {a b c : ℕ} → Step a b → Chain Step b c → (d : ℕ) × Chain Step a d × Step d c
before_last {a = a} first none = (a, none, first)
before_last first (more second chain) = let rest = before_last second chain in (rest.0, more first rest.1, rest.2)

pub first_step : {Step : ℕ → ℕ → Type 0} {a c : ℕ} → Chain Step a c → a ≢ c → (b : ℕ) × Step a b
first_step none other = absurd (other refl)
first_step (more {b = b} first chain) other = (b, first)

module _ (ways : Ways) (are : AreWays ways) where
  abbrev pub Descends : ℕ → ℕ → Type 0
  Descends = Chain (IsMakerOf ways.makers)

  pub one_maker : (a b c : ℕ) → IsMakerOf ways.makers a c → IsMakerOf ways.makers b c → a ≡ b
  one_maker a b c first second = cc (first.there, second.there)

  pub made_up : (a b : ℕ) → IsMakerOf ways.makers a b → a < b
  made_up a b made = are.lower b a made.there made.some

  pub descends_up : {a b : ℕ} → Descends a b → a ≤ b
  descends_up none = omega arith
  descends_up {a = a} {b = c} (more {b = b} first chain) = let one = made_up a b first in let others = descends_up chain in omega (arith, one, others)

  pub last_step : {a c : ℕ} → Descends a c → a ≢ c → (d : ℕ) × Descends a d × IsMakerOf ways.makers d c
  last_step none other = absurd (other refl)
  last_step (more first chain) other = before_last first chain

  -- of two tasks from which a third descends the one descends from the other
  meeting_by : {a b r : ℕ} → IsMakerOf ways.makers a b → Descends b r ⊎ Descends r b → Descends a r ⊎ Descends r a
  meeting_by first (inl chain) = inl (more first chain)
  meeting_by first (inr none) = inl (more first none)
  meeting_by {a} {b} {r} first (inr (more second chain)) =
      let last = before_last second chain in inr (subst (λ (x : ℕ). Descends r x) (one_maker last.0 a b last.2 first) last.1)

  pub meeting : {a b c : ℕ} → Descends a c → Descends b c → Descends a b ⊎ Descends b a
  meeting none other = inr other
  meeting (more first chain) other = meeting_by first (meeting chain other)

  module _ (links : List Link) (wait : (s u : ℕ) → WaitsFor links s u → IsMakerOf ways.makers s u) where
    pub waits_descend : {s u : ℕ} → WaitsOn links s u → Descends s u
    waits_descend chain = Chain-map wait chain

    -- the waiter before a task on the way is before it
    next_below : (s b w m : ℕ) → IsMakerOf ways.makers s b → Descends b m → Descends w m → s ≤ w → s ≢ w → b ≤ w
    next_below s b w m first chain down above other = elim (meeting chain down) [
      | inl forth ↦ descends_up forth
      | inr back ↦ elim (cases_eq w b) [
        | inl same ↦ omega (arith, same)
        | inr ne ↦
            let last = last_step back ne in
            let far = descends_up (subst (λ (x : ℕ). Descends w x) (one_maker last.0 s b last.2 first) last.1) in
            absurd (omega (arith, far, above, other))
      ]
    ]

    -- from whom a task descends on the way waits, and is waited for
    pub between : {s m : ℕ} → WaitsOn links s m → (w : ℕ) → Descends w m → s ≤ w → WaitsOn links s w × WaitsOn links w m
    between {s} {m} none w down above =
        let below = descends_up down in
        let same : s ≡ w = omega (arith, below, above) in
        (subst (λ (x : ℕ). WaitsOn links s x) same none, subst (λ (x : ℕ). WaitsOn links x m) same none)
    between {s} {m} (more {b = b} first chain) w down above = elim (cases_eq s w) [
      | inl same ↦ (subst (λ (x : ℕ). WaitsOn links s x) same none, subst (λ (x : ℕ). WaitsOn links x m) same (more first chain))
      | inr other ↦
          let rest = between chain w down (next_below s b w m (wait s b first) (waits_descend chain) down above other) in
          (more first rest.0, rest.1)
    ]
