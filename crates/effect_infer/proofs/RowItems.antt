-- The lists of methods, and one item more in one of them.
use Rattle.std.proofs.Common.{◌≡◌, ◌<◌, ◌≤◌, ℕ, zero, suc, ◌+◌, true, false, eqb-true, List, [], ◌∷◌, ◌++◌, length, None, Some, inl, inr, refl, sym, ap, ◌∙◌, subst, arith}
use Rattle.std.specs.Prelude.{◌&&◌, ◌==◌, slice_get}
use Rattle.std.specs.List.{Contains}
use Rattle.std.proofs.lemmas.Bool.{and_parts, and_from, cases_eq}
use Rattle.region_paths.specs.declared.elements.Elem.{Elem}
use Rattle.region_paths.specs.Inside.{each_within}
use Rattle.effect_infer.specs.declared.needs.need.Need.{Need}
use Rattle.effect_infer.proofs.Ranks.{widens-same}
use Rattle.std.proofs.lemmas.Option.{same_Some, slice_get_within}
use Rattle.std.proofs.lemmas.List.{length-set, get_or-set_same, get_or-set_other}
use Rattle.std.proofs.lemmas.List.Elements.{Contains-append_left, Contains-push}
use Rattle.effect_infer.specs.declared.found.CallSite.{CallSite}
use Rattle.effect_infer.specs.Rows.{row, no_rows, with_item, same_call, ListsCalls}

pub row-none : {X : Type 0} (count at : ℕ) → row {X = X} (no_rows count) at ≡ []
row-none zero at = refl
row-none (suc count) zero = refl
row-none (suc count) (suc at) = row-none count at

pub length-none : (X : Type 0) (count : ℕ) → length (no_rows {X = X} count) ≡ count
length-none X zero = refl
length-none X (suc count) = ap suc (length-none X count)

pub length-with : {X : Type 0} (lists : List (List X)) (at : ℕ) (item : X) → length (with_item lists at item) ≡ length lists
length-with lists at item = length-set lists at (row lists at ++ item ∷ [])

pub row-here : {X : Type 0} (lists : List (List X)) (at : ℕ) (item : X) → at < length lists → row (with_item lists at item) at ≡ row lists at ++ item ∷ []
row-here lists at item below = get_or-set_same lists at (row lists at ++ item ∷ []) [] below

pub row-other : {X : Type 0} (lists : List (List X)) (at other : ℕ) (item : X) → (other ≡ at → ⊥) → row (with_item lists at item) other ≡ row lists other
row-other lists at other item differ = get_or-set_other lists at other (row lists at ++ item ∷ []) [] differ

-- a place stays in its list
pub stays : {X : Type 0} (lists : List (List X)) (at : ℕ) (item : X) → at < length lists → (other : ℕ) (x : X) → Contains (row lists other) x → Contains (row (with_item lists at item) other) x
stays lists at item below other x there = elim (cases_eq other at) [
  | inl e ↦
      let here = subst (λ o. Contains (row lists o) x) e there in
      subst (λ o. Contains (row (with_item lists at item) o) x) (sym e)
      (subst (λ xs. Contains xs x) (sym (row-here lists at item below)) (Contains-append_left (row lists at) (item ∷ []) x here))
  | inr differ ↦ subst (λ xs. Contains xs x) (sym (row-other lists at other item differ)) there
]

-- calls that pass the test are equal
pub same-calls : (a b : CallSite) → same_call a b ≡ true → a ≡ b
same-calls a b h =
    let first = and_parts (a.callee == b.callee) ((a.caller == b.caller) && ((a.params == b.params) && (each_within a.args b.args && each_within b.args a.args))) h in
    let second = and_parts (a.caller == b.caller) ((a.params == b.params) && (each_within a.args b.args && each_within b.args a.args)) first.1 in
    let third = and_parts (a.params == b.params) (each_within a.args b.args && each_within b.args a.args) second.1 in
    let both = and_parts (each_within a.args b.args) (each_within b.args a.args) third.1 in
    let one : Need = record { write = false; elems = a.args } in
    let other : Need = record { write = false; elems = b.args } in
    let args : a.args ≡ b.args = ap (λ (n : Need). n.elems) (widens-same one other
    (and_from (each_within b.args a.args) true both.1 refl) (and_from (each_within a.args b.args) true both.0 refl)) in
    made a.callee b.callee a.caller b.caller a.params b.params a.args b.args (eqb-true _ _ first.0) (eqb-true _ _ second.0) (eqb-true _ _ third.0) args where
      made : (i j k l m n : ℕ) (xs ys : List Elem) → i ≡ j → k ≡ l → m ≡ n → xs ≡ ys
          → ◌≡◌ {A = CallSite} (record { callee = i; caller = k; params = m; args = xs }) (record { callee = j; caller = l; params = n; args = ys })
      made i j k l m n xs ys e f g h =
          ap (λ (z : ℕ). let c : CallSite = record { callee = z; caller = k; params = m; args = xs } in c) e
          ∙ ap (λ (z : ℕ). let c : CallSite = record { callee = j; caller = z; params = m; args = xs } in c) f
          ∙ ap (λ (z : ℕ). let c : CallSite = record { callee = j; caller = l; params = z; args = xs } in c) g
          ∙ ap (λ (zs : List Elem). let c : CallSite = record { callee = j; caller = l; params = n; args = zs } in c) h

-- an equal call is listed
abbrev pub IsListed : List CallSite → List (List ℕ) → CallSite → Type 0
IsListed calls callers call = (same : ℕ) × (slice_get calls same ≡ Some call) × Contains (row callers call.callee) same

-- the calls so far
pub record ListsSome (methods : ℕ) (calls : List CallSite) (done : ℕ) (callers : List (List ℕ)) : Type 0 where
  pub long : length callers ≡ methods
  pub all : (place : ℕ) (call : CallSite) → place < done → slice_get calls place ≡ Some call → call.callee < methods → IsListed calls callers call

pub lists-start : (methods : ℕ) (calls : List CallSite) → ListsSome methods calls 0 (no_rows methods)
lists-start methods calls = record { long = length-none ℕ methods; all = λ place call below at there. absurd (omega (arith, below)) }

pub lists-more : (methods : ℕ) (calls : List CallSite) (done : ℕ) (callers : List (List ℕ)) (call : CallSite) → slice_get calls done ≡ Some call → call.callee < length callers
    → ListsSome methods calls done callers → ListsSome methods calls (done + 1) (with_item callers call.callee done)
lists-more methods calls done callers call at there so_far = record {
  long = length-with callers call.callee done ∙ so_far.long;
  all = λ place other below is below_methods. elim (cases_eq place done) [
    | inl e ↦
        let same : other ≡ call = same_Some other call (sym is ∙ ap (slice_get calls) e ∙ at) in
        subst (λ (c : CallSite). IsListed calls (with_item callers call.callee done) c) (sym same)
        (done, at, subst (λ xs. Contains xs done) (sym (row-here callers call.callee done there)) (Contains-push (row callers call.callee) done))
    | inr differ ↦
        let before = so_far.all place other (omega (arith, below, differ)) is below_methods in
        (before.0, before.1, stays callers call.callee done there other.callee before.0 before.2)
  ];
}

-- a call whose equal stands before it, and one of a method that is not there
pub lists-same : (methods : ℕ) (calls : List CallSite) (done first : ℕ) (callers : List (List ℕ)) (call : CallSite) → slice_get calls done ≡ Some call → first < done
    → slice_get calls first ≡ Some call → ListsSome methods calls done callers → ListsSome methods calls (done + 1) callers
lists-same methods calls done first callers call at before there so_far = record {
  long = so_far.long;
  all = λ place other below is below_methods. elim (cases_eq place done) [
    | inl e ↦
        let same : other ≡ call = same_Some other call (sym is ∙ ap (slice_get calls) e ∙ at) in
        so_far.all first other before (there ∙ ap Some (sym same)) below_methods
    | inr differ ↦ so_far.all place other (omega (arith, below, differ)) is below_methods
  ];
}

pub lists-skip : (methods : ℕ) (calls : List CallSite) (done : ℕ) (callers : List (List ℕ)) (call : CallSite) → slice_get calls done ≡ Some call → length callers ≤ call.callee
    → ListsSome methods calls done callers → ListsSome methods calls (done + 1) callers
lists-skip methods calls done callers call at past so_far = record {
  long = so_far.long;
  all = λ place other below is below_methods. elim (cases_eq place done) [
    | inl e ↦
        let same : other.callee ≡ call.callee = ap (λ (c : CallSite). c.callee) (same_Some other call (sym is ∙ ap (slice_get calls) e ∙ at)) in
        let long = so_far.long in
        absurd (omega (arith, same, long, past, below_methods))
    | inr differ ↦ so_far.all place other (omega (arith, below, differ)) is below_methods
  ];
}

pub lists-all : (methods : ℕ) (calls : List CallSite) (done : ℕ) (callers : List (List ℕ)) → length calls ≤ done → ListsSome methods calls done callers → ListsCalls methods calls callers
lists-all methods calls done callers enough so_far = record {
  long = so_far.long;
  all = λ place call at there. let within = slice_get_within calls place call at in so_far.all place call (omega (arith, within)) at there;
}

-- a list that is not there has no items
pub row-missing : {X : Type 0} (lists : List (List X)) (at : ℕ) → slice_get lists at ≡ None → (x : X) → Contains (row lists at) x → ⊥
row-missing [] at e x c = let below = c.1 in omega (arith, below)
row-missing (xs ∷ lists) zero e x c = absurd (cc)
row-missing (xs ∷ lists) (suc at) e x c = row-missing lists at e x c
