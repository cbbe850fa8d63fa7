-- Each step keeps the rule of a deck.
use Rattle.std.proofs.Common.{◌≡◌, ◌≢◌, ℕ, zero, suc, ◌+◌, ◌<◌, ◌≤◌, true, true≢false, cond, List, [], ◌∷◌, ◌++◌, length, set, Some, refl, sym, ap, ◌∙◌, subst, ⊎_elim, append_assoc, length-append, arith}
use Rattle.std.specs.List.{All, slice_get}
use Rattle.std.proofs.Math.ListN.{length-set}
use Rattle.std.proofs.lemmas.Option.{none-some, same_Some, slice_get_within}
use Rattle.std.proofs.lemmas.List.Sums.{sum_by-append}
use Rattle.std.proofs.lemmas.List.Elements.{All-nil, All-append, All-cons}
use Rattle.steal_pool.specs.declared.law.Hand.{Hand}
use Rattle.steal_pool.specs.Hand.{pushing, taking}
use Rattle.steal_pool.specs.Stands.{times, numbers_of, Knows, Stands}
use Rattle.steal_pool.proofs.ListLemmas.{set_cases, set_here, longer_cases, longer_first, sum_set}
use Rattle.steal_pool.proofs.GoneLemmas.{taken_here, taken_else, numbers_of-append}

pub times-append : (number : ℕ) (xs ys : List ℕ) → times number (xs ++ ys) ≡ times number xs + times number ys
times-append number xs ys = sum_by-append _ xs ys

abbrev may_take : Hand → ℕ
may_take known = cond known.takes 1 0

abbrev took_of : ℕ → Hand → ℕ
took_of number known = times number known.took

-- what the owner knows after some pass has taken a number
record Owner (passes : List Hand) (owner : Hand) : Type 0 where
  known : Hand
  is : slice_get passes 0 ≡ Some known
  pushed : known.pushed ≡ owner.pushed
  bound : known.bound ≡ owner.bound
  takers : known.takers ≡ owner.takers
  takes : known.takes ≡ owner.takes

owner_after : (passes : List Hand) (pass : ℕ) (old owner : Hand) (numbers : List ℕ) → slice_get passes pass ≡ Some old → slice_get passes 0 ≡ Some owner → Owner (set passes pass (taking old numbers)) owner
owner_after [] pass old owner numbers mine first = absurd (none-some owner first)
owner_after (p ∷ ps) zero old owner numbers mine first =
    let same : old ≡ owner = same_Some old owner (sym mine ∙ first) in
    record {
      known = taking old numbers;
      is = refl;
      pushed = ap (λ (h : Hand). h.pushed) same;
      bound = ap (λ (h : Hand). h.bound) same;
      takers = ap (λ (h : Hand). h.takers) same;
      takes = ap (λ (h : Hand). h.takes) same;
    }
owner_after (p ∷ ps) (suc pass) old owner numbers mine first = record { known = owner; is = first; pushed = refl; bound = refl; takers = refl; takes = refl }

-- the first number leaves by a pass that may take
pub leaves : (number : ℕ) (held : List ℕ) (passes : List Hand) (pass : ℕ) (old : Hand) → slice_get passes pass ≡ Some old → old.takes ≡ true → Stands (number ∷ held) passes → Stands held (set passes pass (taking old (number ∷ [])))
leaves number held passes pass old mine may was =
    let new = taking old (number ∷ []) in
    let owner = owner_after passes pass old was.owner (number ∷ []) mine was.owner_is in
    let gone = was.gone ++ (pass, number) ∷ [] in
    let my = was.each pass old mine in
    let mine_now : Knows owner.known gone pass new = record {
      took = ap (λ xs. xs ++ number ∷ []) my.took ∙ sym (taken_here pass number was.gone);
      bound = omega (arith, owner.bound, my.bound);
      pushed = my.pushed;
      takers = my.takers;
      spent = λ e. absurd (true≢false (sym may ∙ e));
    } in
    let theirs : (j : ℕ) (known : Hand) → j ≢ pass → Knows was.owner was.gone j known → Knows owner.known gone j known = λ j known other k. record {
      took = k.took ∙ sym (taken_else j pass number was.gone other);
      bound = omega (arith, owner.bound, k.bound);
      pushed = k.pushed;
      takers = k.takers;
      spent = k.spent;
    } in
    let long : length (set passes pass new) ≡ length passes = length-set passes pass new in
    record {
      owner = owner.known;
      owner_is = owner.is;
      owner_takes = owner.takes ∙ was.owner_takes;
      takers = (let all = sum_set may_take passes pass old new mine in omega (arith, was.takers, owner.takers));
      gone = gone;
      in_order =
          owner.pushed
          ∙ (was.in_order
          ∙ (sym (append_assoc (numbers_of was.gone) (number ∷ []) held)
          ∙ ap (λ xs. xs ++ held) (sym (numbers_of-append was.gone ((pass, number) ∷ [])))));
      each = λ j known e.
          ⊎_elim
          (λ (t : (j ≡ pass) × (new ≡ known)). subst (λ (x : ℕ × Hand). Knows owner.known gone x.0 x.1) (λ i. (sym t.0 i, t.1 i)) mine_now)
          (λ (t : (j ≢ pass) × (slice_get passes j ≡ Some known)). theirs j known t.0 (was.each j known t.1))
          (set_cases passes pass j new known e);
      no_others = λ j far.
          let there = slice_get_within passes pass old mine in
          let other : j ≢ pass = omega arith in
          taken_else j pass number was.gone other ∙ was.no_others j (omega arith);
      each_once = λ x.
          let pushed = ap (times x) owner.pushed in
          let all = sum_set (took_of x) passes pass old new mine in
          omega (arith, was.each_once x, times-append x old.took (number ∷ []), times-append x (number ∷ []) held);
      below = subst (λ (p : List ℕ × ℕ). All (λ y. y < p.1) p.0) (λ i. (sym owner.pushed i, sym owner.bound i)) was.below;
    }

-- a number below the bound joins by the owner's pass
pub joins : (number : ℕ) (held : List ℕ) (passes : List Hand) (old : Hand) → slice_get passes 0 ≡ Some old → number < old.bound → Stands held passes → Stands (held ++ number ∷ []) (set passes 0 (pushing old (number ∷ [])))
joins number held passes old mine small was =
    let new = pushing old (number ∷ []) in
    let same : was.owner ≡ old = same_Some was.owner old (sym was.owner_is ∙ mine) in
    let least = ap (λ (h : Hand). h.bound) same in
    let my = was.each 0 old mine in
    let mine_now : Knows new was.gone 0 new = record {
      took = my.took;
      bound = omega arith;
      pushed = λ other. absurd (other refl);
      takers = λ other. absurd (other refl);
      spent = my.spent;
    } in
    let theirs : (j : ℕ) (known : Hand) → Knows was.owner was.gone j known → Knows new was.gone j known = λ j known k. record {
      took = k.took;
      bound = omega (arith, k.bound);
      pushed = k.pushed;
      takers = k.takers;
      spent = k.spent;
    } in
    let long : length (set passes 0 new) ≡ length passes = length-set passes 0 new in
    record {
      owner = new;
      owner_is = set_here passes 0 old new mine;
      owner_takes = ap (λ (h : Hand). h.takes) (sym same) ∙ was.owner_takes;
      takers = (let all = sum_set may_take passes 0 old new mine in let before = ap (λ (h : Hand). h.takers) same in omega (arith, was.takers));
      gone = was.gone;
      in_order = ap (λ (h : Hand). h.pushed ++ number ∷ []) (sym same) ∙ (ap (λ xs. xs ++ number ∷ []) was.in_order ∙ append_assoc (numbers_of was.gone) held (number ∷ []));
      each = λ j known e.
          ⊎_elim
          (λ (t : (j ≡ 0) × (new ≡ known)). subst (λ (x : ℕ × Hand). Knows new was.gone x.0 x.1) (λ i. (sym t.0 i, t.1 i)) mine_now)
          (λ (t : (j ≢ 0) × (slice_get passes j ≡ Some known)). theirs j known (was.each j known t.1))
          (set_cases passes 0 j new known e);
      no_others = λ j far. was.no_others j (omega arith);
      each_once = λ x.
          let before = ap (λ (h : Hand). times x h.pushed) same in
          let all = sum_set (took_of x) passes 0 old new mine in
          omega (arith, was.each_once x, times-append x old.pushed (number ∷ []), times-append x held (number ∷ []));
      below = All-append (λ y. y < old.bound) old.pushed (number ∷ []) (subst (λ (h : Hand). All (λ y. y < h.bound) h.pushed) same was.below) (All-cons (λ y. y < old.bound) number [] small (All-nil (λ y. y < old.bound)));
    }

-- The owner's pass is changed and a pass that took nothing comes. What the owner pushed and took stays; its bound may fall where that keeps every number below it
pub shares : (held : List ℕ) (passes : List Hand) (old new guest : Hand) → slice_get passes 0 ≡ Some old → (was : Stands held passes)
    → new.pushed ≡ old.pushed → new.took ≡ old.took → new.takes ≡ old.takes → new.bound ≤ old.bound → All (λ y. y < new.bound) new.pushed
    → guest.pushed ≡ [] → guest.took ≡ [] → guest.takers ≡ 0 → new.bound ≤ guest.bound → new.takers ≡ old.takers + cond guest.takes 1 0
    → Stands held (set passes 0 new ++ guest ∷ [])
shares held passes old new guest mine was pushed took takes less below none nothing no_takers bound more =
    let same : was.owner ≡ old = same_Some was.owner old (sym was.owner_is ∙ mine) in
    let least = ap (λ (h : Hand). h.bound) same in
    let my = was.each 0 old mine in
    let changed = set passes 0 new in
    let long : length changed ≡ length passes = length-set passes 0 new in
    let mine_now : Knows new was.gone 0 new = record {
      took = took ∙ my.took;
      bound = omega arith;
      pushed = λ other. absurd (other refl);
      takers = λ other. absurd (other refl);
      spent = λ e. took ∙ my.spent (sym takes ∙ e);
    } in
    let theirs : (j : ℕ) (known : Hand) → Knows was.owner was.gone j known → Knows new was.gone j known = λ j known k. record {
      took = k.took;
      bound = omega (arith, k.bound);
      pushed = k.pushed;
      takers = k.takers;
      spent = k.spent;
    } in
    let guest_now : Knows new was.gone (length changed) guest = record {
      took = nothing ∙ sym (was.no_others (length changed) (omega arith));
      bound = bound;
      pushed = λ _. none;
      takers = λ _. no_takers;
      spent = λ _. nothing;
    } in
    record {
      owner = new;
      owner_is = longer_first changed guest new (set_here passes 0 old new mine);
      owner_takes = takes ∙ (ap (λ (h : Hand). h.takes) (sym same) ∙ was.owner_takes);
      takers =
          (let all = sum_set may_take passes 0 old new mine in
          let longer = sum_by-append may_take changed (guest ∷ []) in
          let as_before = ap (λ b. cond {A = ℕ} b 1 0) takes in
          let before = ap (λ (h : Hand). h.takers) same in
          omega (arith, was.takers));
      gone = was.gone;
      in_order = pushed ∙ (ap (λ (h : Hand). h.pushed) (sym same) ∙ was.in_order);
      each = λ j known e.
          ⊎_elim
          (λ (t : slice_get changed j ≡ Some known).
          ⊎_elim
          (λ (s : (j ≡ 0) × (new ≡ known)). subst (λ (x : ℕ × Hand). Knows new was.gone x.0 x.1) (λ i. (sym s.0 i, s.1 i)) mine_now)
          (λ (s : (j ≢ 0) × (slice_get passes j ≡ Some known)). theirs j known (was.each j known s.1))
          (set_cases passes 0 j new known t))
          (λ (t : (j ≡ length changed) × (guest ≡ known)). subst (λ (x : ℕ × Hand). Knows new was.gone x.0 x.1) (λ i. (sym t.0 i, t.1 i)) guest_now)
          (longer_cases changed guest known j e);
      no_others = λ j far. was.no_others j (omega (arith, length-append changed (guest ∷ [])));
      each_once = λ x.
          let before = ap (λ (h : Hand). times x h.pushed) same in
          let now = ap (times x) pushed in
          let took_before = ap (times x) took in
          let took_nothing = ap (times x) nothing in
          let all = sum_set (took_of x) passes 0 old new mine in
          omega (arith, was.each_once x, sum_by-append (took_of x) changed (guest ∷ []));
      below = below;
    }
