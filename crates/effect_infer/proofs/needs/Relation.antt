-- Acts and steps of one body, each found from the other.
use Rattle.std.proofs.Common.{◌≡◌, ◌⊎◌, ◌<◌, ℕ, Bool, true, false, List, [], ◌∷◌, ◌++◌, map, length, Option, None, Some, zero, suc, inl, inr, refl, sym, ap, ◌∙◌, subst, arith}
use Rattle.std.specs.Prelude.{slice_get, ◌&&◌}
use Rattle.std.specs.List.{Contains}
use Rattle.twe_base.specs.declared.place.Place.{Place}
use Rattle.region_paths.specs.declared.elements.Elem.{Elem}
use Rattle.effect_sets.specs.declared.effects.Effect.{Effect}
use Rattle.effect_sets.specs.declared.effects.Summary.{Summary}
use Rattle.twe_program.specs.declared.program.Decl.{Decl}
use Rattle.twe_program.specs.Program.{Program}
use Rattle.effect_check.specs.declared.act.Act.{Act}
use Rattle.effect_check.specs.declared.act.ActKind.{ActKind}
use Rattle.effect_check.specs.declared.act.ActKind.TheVariants as acts
use Rattle.effect_check.specs.Acts.{filled_summary, acts_in_all}
use Rattle.effect_check.specs.Covered.{Does}
use Rattle.effect_infer.specs.declared.needs.need.Need.{Need}
use Rattle.effect_infer.specs.declared.needs.need.BodyStep.{BodyStep}
use Rattle.effect_infer.specs.declared.needs.need.BodyStep.TheVariants as steps
use Rattle.effect_infer.specs.needs.Steps.{steps_in_all}
use Rattle.effect_infer.specs.needs.Needs.{effect_of}
use Rattle.effect_infer.specs.needs.Choices.{with_each}
use Rattle.twe_base.proofs.Members.{IsIn, in-left, in-right, in-cases, contains-in, in-contains, both-true}
use Rattle.effect_infer.proofs.needs.Within.{are_indexes}
use Rattle.effect_infer.proofs.needs.Steps.{Seen, touched, called, seen_of, seen, shown, seen-statements, is_regular, regular, regular-statements}

-- what one act shows is among what all show
in-seen : (as' : List Act) (a : Act) (s : Seen) → IsIn a as' → IsIn s (seen_of a.kind) → IsIn s (seen as')
in-seen [] a s there h = absurd there
in-seen (b ∷ others) a s (inl e) h = in-left s (seen_of b.kind) (seen others) (subst (λ (c : Act). IsIn s (seen_of c.kind)) e h)
in-seen (b ∷ others) a s (inr there) h = in-right s (seen_of b.kind) (seen others) (in-seen others a s there h)

seen-in : (as' : List Act) (s : Seen) → IsIn s (seen as') → (a : Act) × IsIn a as' × IsIn s (seen_of a.kind)
seen-in [] s h = absurd h
seen-in (b ∷ others) s h = elim (in-cases s (seen_of b.kind) (seen others) h) [
  | inl here ↦ (b, inl refl, here)
  | inr later ↦ let found = seen-in others s later in (found.0, inr found.1, found.2)
]

in-map : (q : Program) (ss : List BodyStep) (s : BodyStep) → IsIn s ss → IsIn (shown q s) (map (shown q) ss)
in-map q [] s h = absurd h
in-map q (t ∷ others) s (inl e) = inl (ap (shown q) e)
in-map q (t ∷ others) s (inr h) = inr (in-map q others s h)

map-in : (q : Program) (ss : List BodyStep) (x : Seen) → IsIn x (map (shown q) ss) → (s : BodyStep) × IsIn s ss × (x ≡ shown q s)
map-in q [] x h = absurd h
map-in q (t ∷ others) x (inl e) = (t, inl refl, e)
map-in q (t ∷ others) x (inr h) = let found = map-in q others x h in (found.0, inr found.1, found.2)

-- a step that is shown as a read or a write is one, and one that is shown as a call is one
touch-shown : (q : Program) (effect : Effect) (s : BodyStep) → touched effect ≡ shown q s → (need : Need) × (s ≡ steps.Touch need) × (effect ≡ effect_of need)
touch-shown q effect (steps.Touch need) e = (need, refl, cc)
touch-shown q effect (steps.Call method args) e = absurd (cc)

call-shown : (q : Program) (effects : Summary) (s : BodyStep) → called effects ≡ shown q s
    → (method : ℕ) × (args : List Elem) × (s ≡ steps.Call method args) × (effects ≡ filled_summary (slice_get q.methods method) args)
call-shown q effects (steps.Touch need) e = absurd (cc)
call-shown q effects (steps.Call method args) e = (method, args, refl, cc)

-- the other way round
touch-seen : (effect : Effect) (kind : ActKind) → IsIn (touched effect) (seen_of kind) → (place : Place) × (kind ≡ acts.Touch effect place)
touch-seen effect (acts.Touch other place) (inl e) = (place, let same : effect ≡ other = cc in ap (λ (x : Effect). acts.Touch x place) (sym same))
touch-seen effect (acts.Touch other place) (inr none) = absurd none
touch-seen effect (acts.Call effects place) (inl e) = absurd (cc)
touch-seen effect (acts.Call effects place) (inr none) = absurd none
touch-seen effect (acts.Make future spawned deterministic effects future_place place) h = absurd h
touch-seen effect (acts.Wait future join place) h = absurd h

call-seen : (effects : Summary) (kind : ActKind) → IsIn (called effects) (seen_of kind) → (place : Place) × (kind ≡ acts.Call effects place)
call-seen effects (acts.Touch other place) (inl e) = absurd (cc)
call-seen effects (acts.Touch other place) (inr none) = absurd none
call-seen effects (acts.Call other place) (inl e) = (place, let same : effects ≡ other = cc in ap (λ (x : Summary). acts.Call x place) (sym same))
call-seen effects (acts.Call other place) (inr none) = absurd none
call-seen effects (acts.Make future spawned deterministic other future_place place) h = absurd h
call-seen effects (acts.Wait future join place) h = absurd h

module _ (q : Program) (decl : Decl) where
  body_steps : List BodyStep
  body_steps = steps_in_all q.cells decl.body.block

  act-shows : (point : ℕ) (kind : ActKind) (x : Seen) → Does q decl point kind → IsIn x (seen_of kind) → (s : BodyStep) × IsIn s (steps_in_all q.cells decl.body.block) × (x ≡ shown q s)
  act-shows point kind x does h =
      let act : Act = record { point = point; kind = kind } in
      let among = in-seen (acts_in_all q decl.body.block) act x (contains-in (acts_in_all q decl.body.block) act does) h in
      map-in q (steps_in_all q.cells decl.body.block) x (subst (IsIn x) (seen-statements q decl.body.block) among)

  step-shows : (s : BodyStep) → IsIn s (steps_in_all q.cells decl.body.block) → (a : Act) × Does q decl a.point a.kind × IsIn (shown q s) (seen_of a.kind)
  step-shows s there =
      let among = in-map q (steps_in_all q.cells decl.body.block) s there in
      let found = seen-in (acts_in_all q decl.body.block) (shown q s) (subst (IsIn (shown q s)) (sym (seen-statements q decl.body.block)) among) in
      (found.0, in-contains (acts_in_all q decl.body.block) found.0 found.1, found.2)

  -- a read or a write of the body is a step of it
  pub touch-step : (point : ℕ) (effect : Effect) (place : Place) → Does q decl point (acts.Touch effect place)
      → (need : Need) × Contains (steps_in_all q.cells decl.body.block) (steps.Touch need) × (effect ≡ effect_of need)
  touch-step point effect place does =
      let found = act-shows point (acts.Touch effect place) (touched effect) does (inl refl) in
      let is = touch-shown q effect found.0 found.2 in
      (is.0, in-contains _ _ (subst (λ s. IsIn s (steps_in_all q.cells decl.body.block)) is.1 found.1), is.2)

  -- and a call is one
  pub call-step : (point : ℕ) (effects : Summary) (place : Place) → Does q decl point (acts.Call effects place)
      → (method : ℕ) × (args : List Elem) × Contains (steps_in_all q.cells decl.body.block) (steps.Call method args) × (effects ≡ filled_summary (slice_get q.methods method) args)
  call-step point effects place does =
      let found = act-shows point (acts.Call effects place) (called effects) does (inl refl) in
      let is = call-shown q effects found.0 found.2 in
      (is.0, is.1, in-contains _ _ (subst (λ s. IsIn s (steps_in_all q.cells decl.body.block)) is.2 found.1), is.3)

  -- the steps of the body are done in it
  pub step-touch : (need : Need) → Contains (steps_in_all q.cells decl.body.block) (steps.Touch need) → (point : ℕ) × (place : Place) × Does q decl point (acts.Touch (effect_of need) place)
  step-touch need there =
      let found = step-shows (steps.Touch need) (contains-in _ _ there) in
      let is = touch-seen (effect_of need) found.0.kind found.2 in
      (found.0.point, is.0, subst (Does q decl found.0.point) is.1 found.1)

  pub step-call : (method : ℕ) (args : List Elem) → Contains (steps_in_all q.cells decl.body.block) (steps.Call method args)
      → (point : ℕ) × (place : Place) × Does q decl point (acts.Call (filled_summary (slice_get q.methods method) args) place)
  step-call method args there =
      let found = step-shows (steps.Call method args) (contains-in _ _ there) in
      let is = call-seen (filled_summary (slice_get q.methods method) args) found.0.kind found.2 in
      (found.0.point, is.0, subst (Does q decl found.0.point) is.1 found.1)

-- the arguments of a call are indexes
regular-in : (ss : List BodyStep) (s : BodyStep) → regular ss ≡ true → IsIn s ss → is_regular s ≡ true
regular-in [] s h there = absurd there
regular-in (t ∷ others) s h (inl e) = subst (λ u. is_regular u ≡ true) (sym e) (both-true (is_regular t) (regular others) h).0
regular-in (t ∷ others) s h (inr there) = regular-in others s (both-true (is_regular t) (regular others) h).1 there

pub arguments-indexes : (q : Program) (decl : Decl) (method : ℕ) (args : List Elem) → Contains (steps_in_all q.cells decl.body.block) (steps.Call method args) → are_indexes args ≡ true
arguments-indexes q decl method args there =
    regular-in (steps_in_all q.cells decl.body.block) (steps.Call method args) (regular-statements q.cells decl.body.block) (contains-in _ _ there)

-- declarations with other summaries
abbrev pub with_one : Decl → Summary → Decl
with_one decl summary = record decl { summary = summary }

pub with_each-get : (summaries : List Summary) (decls : List Decl) (m : ℕ) (decl : Decl) (summary : Summary) → slice_get decls m ≡ Some decl → slice_get summaries m ≡ Some summary
    → slice_get (with_each summaries decls) m ≡ Some (with_one decl summary)
with_each-get summaries [] m decl summary e f = absurd (cc)
with_each-get [] (d ∷ decls) m decl summary e f = absurd (cc)
with_each-get (s ∷ summaries) (d ∷ decls) zero decl summary e f =
    let same : d ≡ decl = cc in
    let also : s ≡ summary = cc in
    ap (λ (x : Decl). Some (with_one x s)) same ∙ ap (λ (x : Summary). Some (with_one decl x)) also
with_each-get (s ∷ summaries) (d ∷ decls) (suc m) decl summary e f = with_each-get summaries decls m decl summary e f

-- each declaration with its other summary comes from one with its own
pub with_each-in : (summaries : List Summary) (decls : List Decl) (found : Decl) → length summaries ≡ length decls → IsIn found (with_each summaries decls)
    → (m : ℕ) × (decl : Decl) × (summary : Summary) × (slice_get decls m ≡ Some decl) × (slice_get summaries m ≡ Some summary) × (found ≡ with_one decl summary)
with_each-in summaries [] found e h = absurd h
with_each-in [] (d ∷ decls) found e h = absurd (omega (arith, e))
with_each-in (s ∷ summaries) (d ∷ decls) found e (inl is) = (0, d, s, refl, refl, is)
with_each-in (s ∷ summaries) (d ∷ decls) found e (inr h) =
    let later = with_each-in summaries decls found (omega (arith, e)) h in
    (suc later.0, later.1, later.2, later.3, later.4, later.5)

-- and so does the one at a number
pub with_each-got : (summaries : List Summary) (decls : List Decl) (m : ℕ) (found : Decl) → length summaries ≡ length decls → slice_get (with_each summaries decls) m ≡ Some found
    → (decl : Decl) × (summary : Summary) × (slice_get decls m ≡ Some decl) × (slice_get summaries m ≡ Some summary) × (found ≡ with_one decl summary)
with_each-got summaries [] m found e h = absurd (cc)
with_each-got [] (d ∷ decls) m found e h = absurd (omega (arith, e))
with_each-got (s ∷ summaries) (d ∷ decls) zero found e h = (d, s, refl, refl, cc)
with_each-got (s ∷ summaries) (d ∷ decls) (suc m) found e h = with_each-got summaries decls m found (omega (arith, e)) h

pub get-in : {X : Type 0} (xs : List X) (m : ℕ) (x : X) → slice_get xs m ≡ Some x → IsIn x xs
get-in [] m x e = absurd (cc)
get-in (y ∷ ys) zero x e = inl (cc)
get-in (y ∷ ys) (suc m) x e = inr (get-in ys m x e)

-- two lists of one length have elements at the same numbers
pub get-some : {X Y : Type 0} (xs : List X) (ys : List Y) (m : ℕ) (y : Y) → length xs ≡ length ys → slice_get ys m ≡ Some y → (x : X) × (slice_get xs m ≡ Some x)
get-some xs [] m y e h = absurd (cc)
get-some [] (z ∷ ys) m y e h = absurd (omega (arith, e))
get-some (x ∷ xs) (z ∷ ys) zero y e h = (x, refl)
get-some (x ∷ xs) (z ∷ ys) (suc m) y e h = get-some xs ys m y (omega (arith, e)) h
