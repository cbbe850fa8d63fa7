-- What an activity that has been past a node holds or has finished.
use Rattle.std.proofs.Common.{ℕ, ◌<◌, List, [], ◌∷◌, length, refl, sym, subst, ◌⊎◌, inl, inr, ⊎_elim}
use Rattle.region_paths.specs.declared.elements.Elem.{Elem}
use Rattle.prefix_tree.specs.Nodes.{IsTreeOfPaths}
use Rattle.floor_laws.specs.admission.admission_core.Tasks.{Tasks}
use Rattle.floor_laws.specs.admission.admission_core.States.{IsAmong, IsAbove, ActivityIsOver, Purpose, Stage, Descends, Steps, Walks, Leaves, held, finished}
use Rattle.floor_laws.specs.admission.admission_core.Events.{MayBegin}
use Rattle.floor_laws.proofs.admission.admission_core.TreeLemmas.{above_antisym, above_refl, over_above, above_over, over_parent}
use Rattle.floor_laws.proofs.admission.admission_core.StackLemmas.{stack_has}
use Rattle.floor_laws.proofs.admission.admission_core.Invariant.{IsStack, IsOnWay, IsPast, IsMine}

-- x lies at or below a finished node
abbrev pub IsUnderFinished : List (List Elem) → Stage → ℕ → Type 0
IsUnderFinished nodes stage x = (f : ℕ) × IsAmong f (finished stage) × IsAbove nodes f x

pub past_mine : (nodes : List (List Elem)) (ts : Tasks) (w : ℕ) (purpose : Purpose) (stage : Stage) (x : ℕ) → IsMine ts w purpose stage → IsPast nodes stage x → MayBegin ts w purpose
past_mine nodes ts w purpose (Descends n) x mine past = mine
past_mine nodes ts w purpose (Steps n c) x mine past = mine
past_mine nodes ts w purpose (Walks stack done) x mine past = mine
past_mine nodes ts w purpose (Leaves ns) x mine past = absurd past

-- it holds a node below x from which the way goes on to its place, or which is its place
abbrev pub HoldsOnWay : List (List Elem) → ℕ → Stage → ℕ → Type 0
HoldsOnWay nodes place stage x = (h : ℕ) × IsAmong h (held stage) × ActivityIsOver nodes x h × IsAbove nodes h place

module _ (nodes : List (List Elem)) (tree : IsTreeOfPaths nodes) where
  -- what lies strictly above the last node of a stack is in the stack, or lies strictly above its place
  stack_past : (place n : ℕ) (stack : List ℕ) (x : ℕ) → IsStack nodes place (n ∷ stack) → ActivityIsOver nodes x n → IsAmong x (n ∷ stack) ⊎ (IsAmong place (n ∷ stack) × ActivityIsOver nodes x place)
  stack_past place n [] x h over = inr (inl (sym h), subst (λ (y : ℕ). ActivityIsOver nodes x y) h over)
  stack_past place n (m ∷ rest) x h over =
      ⊎_elim
      (λ same. inl (inr (inl same)))
      (λ higher. ⊎_elim (λ there. inl (inr there)) (λ past. inr (inr past.0, past.1)) (stack_past place m rest x h.1 higher))
      (over_parent nodes tree x m n h.0 over)

  -- it holds x, or a node below x on the way to its place, or x lies under a finished node
  pub past_holds : (place : ℕ) (stage : Stage) (x : ℕ) → place < length nodes → IsOnWay nodes place stage → IsPast nodes stage x → IsAmong x (held stage) ⊎ (HoldsOnWay nodes place stage x ⊎ IsUnderFinished nodes stage x)
  past_holds place (Descends n) x there way past = inr (inl (n, inl refl, past, way.above))
  past_holds place (Steps n c) x there way past = inr (inl (c, inl refl, past, way.1))
  past_holds place (Walks [] done) x there way past = absurd past
  past_holds place (Walks (n ∷ stack) done) x there way (inl over) =
      ⊎_elim
      (λ among. inl among)
      (λ past. inr (inl (place, past.0, past.1, above_refl nodes tree place there)))
      (stack_past place n stack x way over)
  past_holds place (Walks (n ∷ stack) done) x there way (inr low) = inr (inr low)
  past_holds place (Leaves ns) x there way past = absurd past

  -- what lies above x has been passed too, or x lies under a finished node
  pub past_higher : (stage : Stage) (x y : ℕ) → IsAbove nodes y x → IsPast nodes stage x → IsPast nodes stage y ⊎ IsUnderFinished nodes stage x
  past_higher (Descends n) x y above past = inl (above_over nodes tree y x n above past)
  past_higher (Steps n c) x y above past = inl (above_over nodes tree y x c above past)
  past_higher (Walks [] done) x y above past = absurd past
  past_higher (Walks (n ∷ stack) done) x y above (inl over) = inl (inl (above_over nodes tree y x n above over))
  past_higher (Walks (n ∷ stack) done) x y above (inr low) = inr low
  past_higher (Leaves ns) x y above past = absurd past

  beyond : (place x n : ℕ) → IsAbove nodes place x → ActivityIsOver nodes x n → IsAbove nodes n place → ⊥
  beyond place x n low over way =
      let whole = over_above nodes tree x n place over way in
      whole.other (above_antisym nodes tree x place whole.above low)

  -- of what it has been past, it holds what lies at or below its place, or that lies under a finished node
  pub past_place : (place : ℕ) (stage : Stage) (x : ℕ) → place < length nodes → IsOnWay nodes place stage → IsAbove nodes place x → IsPast nodes stage x → IsAmong x (held stage) ⊎ IsUnderFinished nodes stage x
  past_place place (Descends n) x there way low past = absurd (beyond place x n low past way.above)
  past_place place (Steps n c) x there way low past = absurd (beyond place x c low past way.1)
  past_place place (Walks [] done) x there way low past = absurd past
  past_place place (Walks (n ∷ stack) done) x there way low (inl over) = inl (stack_has nodes tree place there n stack x way low over.above)
  past_place place (Walks (n ∷ stack) done) x there way low (inr under) = inr under
  past_place place (Leaves ns) x there way low past = absurd past
