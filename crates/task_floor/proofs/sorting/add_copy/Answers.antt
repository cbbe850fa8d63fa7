-- The record does not lie at its node yet, and lies in front of the others there then.
use Rattle.std.proofs.Common.{◌≡◌, ◌∷◌, [], ℕ, List, Some, sym, ap, subst, ◌∙◌}
use Rattle.std.specs.Prelude.{Result, Ok, Err, OnOk, slice_get, slice_set}
use Rattle.std.proofs.lemmas.Option.{get_or_from_slice_get}
use Rattle.effect_sets.specs.declared.effects.Effect.{Effect}
use Rattle.floor_laws.specs.admission.admission_core.States.{IsAmong, Record}
use Rattle.task_floor.specs.inner.Recording.{with_added}
use Rattle.task_floor.proofs.sorting.add_copy.Goals as goal

once_ok : {A E : Type 0} (P Q : Type 0) (r : Result A E) → (P → Q) → OnOk r P → OnOk r Q
once_ok P Q (Ok x) f h = f h
once_ok P Q (Err x) f h = h

-- the content of the record's node with the record in front
in_front : (contents : List (List Record)) (r : Record) (content now : List Record) → slice_get contents r.node ≡ Some content → now ≡ r ∷ content
    → slice_set contents r.node now ≡ with_added r contents
in_front contents r content now there is =
    ap (λ (l : List Record). slice_set contents r.node l) (is ∙ ap (λ (l : List Record). r ∷ l) (sym (get_or_from_slice_get contents r.node content [] there)))

copied : (r : Record) (t n : ℕ) (e : Effect) → t ≡ r.task → e ≡ r.effect → n ≡ r.node → record { task = t; effect = e; node = n } ≡ r
copied r t n e task effect node = λ k. record { task = task k; effect = effect k; node = node k }

pub add-requires : goal.add-requires
add-requires c = λ among.
    let r : Record = c.args.standing.now in
    let same = c.new-copy.ensures ∙ copied r c.task.result c.node.result c.in_ok-effect.effect c.task.ensures (c.in_ok-effect.ensures ∙ c.effect.ensures) c.node.ensures in
    let place : slice_get c.args.contents.now r.node ≡ Some c.item_mut.result.now =
    ap (λ (n : ℕ). slice_get c.args.contents.now n) (sym c.node-2.ensures) ∙ c.item_mut.ensures.value in
    c.requires.added c.item_mut.result.now place (subst (λ (x : Record). IsAmong x c.item_mut.result.now) same among)

pub returns : goal.returns
returns c =
    let r : Record = c.args.standing.now in
    let same = c.new-copy.ensures ∙ copied r c.task.result c.node.result c.in_ok-effect.effect c.task.ensures (c.in_ok-effect.ensures ∙ c.effect.ensures) c.node.ensures in
    let place : slice_get c.args.contents.now r.node ≡ Some c.item_mut.result.now =
    ap (λ (n : ℕ). slice_get c.args.contents.now n) (sym c.node-2.ensures) ∙ c.item_mut.ensures.value in
    once_ok _ _ c.add.result
    (λ is.
    ap (λ (n : ℕ). slice_set c.args.contents.now n c.add.new.self) c.node-2.ensures
    ∙ in_front c.args.contents.now r c.item_mut.result.now c.add.new.self place (is ∙ ap (λ (x : Record). x ∷ c.item_mut.result.now) same)) c.add.ensures.ok
