-- Splitting and joining seats keeps the rule on nodes.
use Rattle.std.proofs.Common.{◌≡◌, ◌≢◌, ◌++◌, ℕ, List, [], ◌∷◌, None, sym, ap, ◌∙◌, inl, inr, ⊎_elim, ◌⊎◌}
use Rattle.region_paths.specs.declared.elements.Elem.{Elem}
use Rattle.wait_graph.specs.Waiting.{WaitsOnUnlessDone}
use Rattle.twe_base.specs.Limits.{Bounds}
use Rattle.twe_program.specs.Program.{Program}
use Rattle.machine_state.specs.Runs.{state_after}
use Rattle.seg_journal.specs.declared.numbered.NumberedEntry.{NumberedEntry}
use Rattle.seg_journal.specs.Merging.{journal_of}
use Rattle.floor_laws.specs.rule.Floors.{Floor, put}
use Rattle.floor_laws.specs.rule.Steps.{after_join, after_split}
use Rattle.floor_laws.proofs.rule.Puts.{none_some, put_all, put_else}
use Rattle.floor_laws.specs.admission.admission_core.States.{State, IsAmong}
use Rattle.floor_laws.specs.rule.nodes.Fitting.{Activities, LockFits}
use Rattle.floor_laws.specs.rule.nodes.Rule.{KeepsNodes}
use Rattle.floor_laws.specs.rule.nodes.Trees.{LockWord, Unlocked, Locked, Tree, WaitFact}
use Rattle.floor_laws.specs.rule.nodes.TurnSteps.{after_joining}
use Rattle.floor_laws.proofs.rule.nodes.Counts.{counts_joined}

among_both : {X : Type 0} (x : X) (xs ys : List X) → IsAmong x (xs ++ ys) → IsAmong x xs ⊎ IsAmong x ys
among_both x [] ys among = inr among
among_both x (y ∷ xs) ys (inl same) = inl (inl same)
among_both x (y ∷ xs) ys (inr among) = ⊎_elim (λ left. inl (inr left)) (λ right. inr right) (among_both x xs ys among)

-- the worker of a seat that holds nothing may be any
lock_split : (workers : ℕ → ℕ) (activities : Activities) (i worker n : ℕ) → activities i ≡ None → (word : LockWord) → LockFits workers activities n word
    → LockFits (put workers i worker) activities n word
lock_split workers activities i worker n idle Unlocked free = free
lock_split workers activities i worker n idle (Locked named) by =
    let other : by.0 ≢ i = λ same. none_some (sym idle ∙ (ap activities (sym same) ∙ by.1.1)) in
    (by.0, by.1, put_else workers i by.0 worker other ∙ by.2)

module _ (nodes : List (List Elem)) (p : Program) (lim : Bounds) (log : List NumberedEntry) (f : Floor) (tree : Tree) (core : State)
    (keep : KeepsNodes nodes p lim log f tree core) where
  pub splits : (i worker : ℕ) → tree.activities i ≡ None → KeepsNodes nodes p lim log (after_split f i worker) tree core
  splits i worker idle = record {
    reached = keep.reached;
    tasks = keep.tasks;
    activities = keep.activities;
    locks = record {
      words = λ n. lock_split f.workers tree.activities i worker n idle (tree.locks n) (keep.locks.words n);
      once = keep.locks.once;
    };
    contents = keep.contents;
    records = keep.records;
    known = keep.known;
  }

  abbrev IsTrueWait : WaitFact → Type 0
  IsTrueWait fact = WaitsOnUnlessDone (state_after p lim (journal_of log)).links fact.waiter fact.awaited

  pub joins : (i j : ℕ) → j ≢ i → KeepsNodes nodes p lim log (after_join f i j) (after_joining tree i j) core
  joins i j other = record {
    reached = keep.reached;
    tasks = keep.tasks;
    activities = keep.activities;
    locks = keep.locks;
    contents = keep.contents;
    records = record { once = keep.records.once; counts = counts_joined core.records tree.placed tree.removed keep.records.counts i j other };
    known = record {
      owned = keep.known.owned;
      first_fresh = keep.known.first_fresh;
      fresh_stand = keep.known.fresh_stand;
      clear_are = keep.known.clear_are;
      waits_hold =
          put_all (λ (k : ℕ) (facts : List WaitFact). (fact : WaitFact) → IsAmong fact facts → IsTrueWait fact) (put tree.waits i (tree.waits i ++ tree.waits j)) j []
          (λ fact among. absurd among)
          (λ k differ.
          put_all (λ (m : ℕ) (facts : List WaitFact). (fact : WaitFact) → IsAmong fact facts → IsTrueWait fact) tree.waits i (tree.waits i ++ tree.waits j)
          (λ fact among.
          ⊎_elim (λ first. keep.known.waits_hold i fact first) (λ second. keep.known.waits_hold j fact second) (among_both fact (tree.waits i) (tree.waits j) among))
          (λ m apart. keep.known.waits_hold m)
          k);
    };
  }
