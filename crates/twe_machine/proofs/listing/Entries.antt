-- The entries of a queue after one was added at the end, and after the last ones were taken out.
use Rattle.std.proofs.Common.{◌≡◌, ◌≢◌, ◌≤◌, ◌<◌, ◌-◌, inl, inr, ℕ, zero, suc, List, [], ◌∷◌, ◌++◌, length, take, Some, refl, sym, ap, ◌∙◌, subst, arith}
use Rattle.std.specs.Prelude.{slice_get}
use Rattle.std.proofs.lemmas.Bool.{cases_eq, cases_lt}
use Rattle.std.proofs.lemmas.List.{length-take-le}
use Rattle.std.proofs.lemmas.Option.{slice_get_within}
use Rattle.wait_graph.specs.declared.tasks.Link.{Link}
use Rattle.twe_machine.specs.declared.queue.Queued.{Queued}
use Rattle.twe_machine.specs.Queues.{DecidesAt, FirstKeepWaiting, IsQueued, IsDecided, MayName}
use Rattle.machine_state.proofs.lists.Places.{got_one, put_before, put_cases, put_last}

pub got_before : {A : Type 0} (xs : List A) (n i : ℕ) (a : A) → i < n → slice_get xs i ≡ Some a → slice_get (take n xs) i ≡ Some a
got_before [] n i a low e = absurd (cc (e))
got_before (x ∷ xs) zero i a low e = absurd (omega (arith, low))
got_before (x ∷ xs) (suc n) zero a low e = e
got_before (x ∷ xs) (suc n) (suc i) a low e = let less : i < n = omega (arith, low) in got_before xs n i a less e

pub got_taken : {A : Type 0} (xs : List A) (n i : ℕ) (a : A) → slice_get (take n xs) i ≡ Some a → slice_get xs i ≡ Some a
got_taken [] zero i a e = absurd (cc (e))
got_taken [] (suc n) i a e = absurd (cc (e))
got_taken (x ∷ xs) zero i a e = absurd (cc (e))
got_taken (x ∷ xs) (suc n) zero a e = e
got_taken (x ∷ xs) (suc n) (suc i) a e = got_taken xs n i a e

-- the last entry is taken out, and no other task is lost
pub task_taken : (entries : List Queued) (n s : ℕ) → 0 < length entries → n ≡ length entries - 1 → ((e : Queued) → slice_get entries n ≡ Some e → e.task ≢ s)
    → IsQueued entries s → IsQueued (take n entries) s
task_taken entries n s some last ne h =
    elim (cases_lt h.0 n) [
      | inl low ↦ (h.0, h.1, got_before entries n h.0 h.1 low h.2, h.3)
      | inr high ↦
          let below = slice_get_within entries h.0 h.1 h.2 in
          let is : h.0 ≡ n = omega (arith, below, last, high, some) in
          absurd (ne h.1 (subst (λ (m : ℕ). slice_get entries m ≡ Some h.1) is h.2) h.3)
    ]

-- the last entry is of its task
pub task_put : (entries : List Queued) (e : Queued) → IsQueued (entries ++ e ∷ []) e.task
task_put entries e = (length entries, e, put_last entries e (length entries) refl, refl)

-- the tasks before it stay
pub task_before : (entries : List Queued) (e : Queued) (s : ℕ) → IsQueued entries s → IsQueued (entries ++ e ∷ []) s
task_before entries e s h = (h.0, h.1, put_before entries e h.0 h.1 h.2, h.3)

pub some_same : (a b : ℕ) → Some a ≡ Some b → a ≡ b
some_same a b e = cc

-- the last entry is made another one of its task
pub task_late : (entries : List Queued) (n s : ℕ) (e f : Queued) → 0 < length entries → n ≡ length entries - 1 → slice_get entries n ≡ Some e → f.task ≡ e.task
    → IsQueued entries s → IsQueued (take n entries ++ f ∷ []) s
task_late entries n s e f some last at same h =
    elim (cases_eq s e.task) [
      | inl is ↦ subst (IsQueued (take n entries ++ f ∷ [])) (same ∙ sym is) (task_put (take n entries) f)
      | inr ne ↦
          task_before (take n entries) f s
          (task_taken entries n s some last
          (λ g there own. let one : g ≡ e = got_one (slice_get entries n) there at in ne (sym own ∙ ap (λ (x : Queued). x.task) one)) h)
    ]

module _ (links : List Link) where
  first_put : (entries : List Queued) (e : Queued) (d u : ℕ) → d ≤ length entries → FirstKeepWaiting links entries d u → FirstKeepWaiting links (entries ++ e ∷ []) d u
  first_put entries e d u within old j g low at =
      elim (put_cases entries e j g at) [
        | inl before ↦ old j g low before
        | inr last ↦ absurd (omega (arith, within, low, last.0))
      ]

  decides_put : (entries : List Queued) (e : Queued) (d : ℕ) → d < length entries → DecidesAt links entries d → DecidesAt links (entries ++ e ∷ []) d
  decides_put entries e d within old f at =
      elim (put_cases entries e d f at) [
        | inl before ↦ first_put entries e d f.task (omega (arith, within)) (old f before)
        | inr last ↦ absurd (omega (arith, within, last.0))
      ]

  named_put : (entries : List Queued) (e : Queued) (d : ℕ) → MayName links entries e.task d → (d ≤ length entries) × DecidesAt links (entries ++ e ∷ []) d
  named_put entries e d may =
      elim may [
        | inl own ↦ (
          omega (arith, own.0),
          λ f at.
              elim (put_cases entries e d f at) [
                | inl before ↦ absurd (let low = slice_get_within entries d f before in omega (arith, low, own.0))
                | inr last ↦
                    subst (λ (g : Queued). FirstKeepWaiting links (entries ++ e ∷ []) d g.task) last.1
                    (first_put entries e d e.task (omega (arith, own.0)) own.1)
              ],
        )
        | inr other ↦ (omega (arith, other.0), decides_put entries e d other.0 other.1)
      ]

  -- an entry that names what it may
  pub decided_put : (entries : List Queued) (e : Queued) → IsDecided links entries → ((d : ℕ) → e.decider ≡ Some d → MayName links entries e.task d)
      → IsDecided links (entries ++ e ∷ [])
  decided_put entries e old may i d g at names =
      elim (put_cases entries e i g at) [
        | inl before ↦
            let h = old i d g before names in
            let low = slice_get_within entries i g before in
            (h.0, decides_put entries e d (omega (arith, h.0, low)) h.1)
        | inr last ↦
            let h = named_put entries e d (may d (subst (λ (f : Queued). f.decider ≡ Some d) (sym last.1) names)) in
            (omega (arith, h.0, last.0), h.1)
      ]

  -- fewer entries
  pub decided_taken : (entries : List Queued) (n : ℕ) → IsDecided links entries → IsDecided links (take n entries)
  decided_taken entries n old i d e at names =
      let h = old i d e (got_taken entries n i e at) names in
      (h.0, λ f there j g low here. h.1 f (got_taken entries n d f there) j g low (got_taken entries n j g here))

  -- the last entry decides from now on, if those before it lead to its task
  pub decided_late : (entries : List Queued) (n task : ℕ) → n < length entries → IsDecided links entries → FirstKeepWaiting links entries n task
      → IsDecided links (take n entries ++ record { task = task; decider = Some n } ∷ [])
  decided_late entries n task within old lead =
      let long : length (take n entries) ≡ n = length-take-le n entries (omega (arith, within)) in
      decided_put (take n entries) (record { task = task; decider = Some n }) (decided_taken entries n old)
      (λ d names.
      let own : n ≡ d = some_same n d names in
      inl (omega (arith, own, long), λ j g low at. lead j g (omega (arith, low, own)) (got_taken entries n j g at)))
