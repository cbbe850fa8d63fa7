-- The tables of a tree once a node was added.
use Rattle.std.proofs.Common.{◌≡◌, ℕ, ◌+◌, ◌-◌, ◌^◌, ◌<◌, ◌≤◌, true, false, cond, List, [], ◌∷◌, ◌++◌, length, length-append, Option, Some, None, IsSome, refl, sym, ap, subst, ◌∙◌, ◌⊎◌, inl, inr, ⊎_elim, arith}
use Rattle.std.proofs.Math.Seq.{get_or-append_seam}
use Rattle.std.proofs.lemmas.Bool.{cases_lt, cases_Bool}
use Rattle.std.proofs.lemmas.List.{get_or_append_left}
use Rattle.std.specs.HashMap.{get}
use Rattle.prefix_tree.specs.declared.step.Step.{Step}
use Rattle.prefix_tree.specs.inner.Same.{step_eq}
use Rattle.prefix_tree.specs.inner.Tables.{Tables, step_of, IsTree}
use Rattle.prefix_tree.proofs.StepLemmas.{step_from_eq, step_itself}
use Rattle.prefix_tree.proofs.TreeLemmas.{step_there}

-- the steps, and one more

pub step_of-old : (steps : List (Option Step)) (s : Option Step) (n : ℕ) → n < length steps → step_of (steps ++ s ∷ []) n ≡ step_of steps n
step_of-old steps s n there = get_or_append_left steps (s ∷ []) None n there

pub step_of-new : (steps : List (Option Step)) (s : Option Step) → step_of (steps ++ s ∷ []) (length steps) ≡ s
step_of-new steps s = get_or-append_seam steps s [] None

-- a step of the longer list is one of the shorter, or the new one
pub step_of-cases : (steps : List (Option Step)) (s t : Step) (n : ℕ) → step_of (steps ++ Some s ∷ []) n ≡ Some t → (step_of steps n ≡ Some t) ⊎ ((n ≡ length steps) × (s ≡ t))
step_of-cases steps s t n e =
    let there = step_there (steps ++ Some s ∷ []) n t e in
    let more : length (steps ++ Some s ∷ []) ≡ length steps + 1 = length-append steps (Some s ∷ []) in
    ⊎_elim
    (λ (below : n < length steps). inl (sym (step_of-old steps (Some s) n below) ∙ e))
    (λ (past : length steps ≤ n).
    let last : n ≡ length steps = omega arith in
    let new = step_of-new steps (Some s) in
    let at = ap (step_of (steps ++ Some s ∷ [])) last in
    inr (last, cc))
    (cases_lt n (length steps))

-- the tables once a node was added: the steps have one more, and the map has its node
pub record IsAdded (old new : Tables) (s : Step) : Type 0 where
  pub steps : new.steps ≡ old.steps ++ Some s ∷ []
  pub map : (t : Step) → get step_eq new.children t ≡ cond (step_eq s t) (Some (length old.steps)) (get step_eq old.children t)

found-old : (old new : Tables) (s : Step) → IsTree old → IsAdded old new s → get step_eq old.children s ≡ None → (n : ℕ) (t : Step) → step_eq s t ≡ false → get step_eq new.children t ≡ get step_eq old.children t
found-old old new s is added absent n t other =
    added.map t ∙ ap (λ b. cond b (Some (length old.steps)) (get step_eq old.children t)) other

found-new : (old new : Tables) (s : Step) → IsAdded old new s → (t : Step) → step_eq s t ≡ true → get step_eq new.children t ≡ Some (length old.steps)
found-new old new s added t same =
    added.map t ∙ ap (λ b. cond b (Some (length old.steps)) (get step_eq old.children t)) same

found_to : (old new : Tables) (s : Step) → IsTree old → IsAdded old new s → get step_eq old.children s ≡ None → (n : ℕ) (t : Step) → get step_eq new.children t ≡ Some n → step_of new.steps n ≡ Some t
found_to old new s is added absent n t h =
    let steps = ap (λ (ss : List (Option Step)). step_of ss n) added.steps in
    ⊎_elim
    (λ (same : step_eq s t ≡ true).
    let one = step_from_eq s t same in
    let here = found-new old new s added t same in
    let number : length old.steps ≡ n = cc in
    let new_step = step_of-new old.steps (Some s) in
    let at = ap (step_of (old.steps ++ Some s ∷ [])) number in
    cc)
    (λ (other : step_eq s t ≡ false).
    let was = sym (found-old old new s is added absent n t other) ∙ h in
    let step = (is.found n t).0 was in
    steps ∙ step_of-old old.steps (Some s) n (step_there old.steps n t step) ∙ step)
    (cases_Bool (step_eq s t))

found_from : (old new : Tables) (s : Step) → IsTree old → IsAdded old new s → get step_eq old.children s ≡ None → (n : ℕ) (t : Step) → step_of new.steps n ≡ Some t → get step_eq new.children t ≡ Some n
found_from old new s is added absent n t h =
    let steps = ap (λ (ss : List (Option Step)). step_of ss n) added.steps in
    ⊎_elim
    (λ (was : step_of old.steps n ≡ Some t).
    let had = (is.found n t).1 was in
    ⊎_elim
    (λ (same : step_eq s t ≡ true).
    let one = ap (get step_eq old.children) (step_from_eq s t same) in
    cc)
    (λ (other : step_eq s t ≡ false). found-old old new s is added absent n t other ∙ had)
    (cases_Bool (step_eq s t)))
    (λ last.
    found-new old new s added t (subst (λ (u : Step). step_eq s u ≡ true) last.1 (step_itself s))
    ∙ ap Some (sym last.0))
    (step_of-cases old.steps s t n (sym steps ∙ h))

-- a tree stays one
pub IsTree-added : (old new : Tables) (s : Step) → IsTree old → s.from < length old.steps → get step_eq old.children s ≡ None → length old.steps < 2 ^ 32 - 1 → IsAdded old new s → IsTree new
IsTree-added old new s is from_there absent room added =
    let more = ap length added.steps ∙ length-append old.steps (Some s ∷ []) in
    let some_old = is.some in
    record {
      some = omega arith;
      root = ap (λ (ss : List (Option Step)). step_of ss 0) added.steps ∙ step_of-old old.steps (Some s) 0 is.some ∙ is.root;
      others = λ n above there.
          let steps = ap (λ (ss : List (Option Step)). step_of ss n) added.steps in
          ⊎_elim
          (λ (below : n < length old.steps).
          subst (λ (o : Option Step). IsSome o) (sym (steps ∙ step_of-old old.steps (Some s) n below)) (is.others n above below))
          (λ (past : length old.steps ≤ n).
          let last : n ≡ length old.steps = omega arith in
          subst (λ (o : Option Step). IsSome o) (sym (steps ∙ ap (step_of (old.steps ++ Some s ∷ [])) last ∙ step_of-new old.steps (Some s))) refl)
          (cases_lt n (length old.steps));
      down = λ n t h.
          let steps = ap (λ (ss : List (Option Step)). step_of ss n) added.steps in
          ⊎_elim
          (λ was. is.down n t was)
          (λ last. let lower = ap (λ (u : Step). u.from) last.1 in let at = last.0 in omega arith)
          (step_of-cases old.steps s t n (sym steps ∙ h));
      found = λ n t. (found_to old new s is added absent n t, found_from old new s is added absent n t);
      numbered = omega arith;
    }
