-- The tasks that are chosen: none yet, one more, and enough.
use Rattle.std.proofs.Common.{◌≡◌, ◌≢◌, ◌<◌, ◌≤◌, ◌+◌, ℕ, suc, max, min, Bool, true, false, List, length, refl, sym, ap, ◌∙◌, subst, inl, inr, arith}
use Rattle.std.specs.Prelude.{slice_set}
use Rattle.std.proofs.lemmas.Bool.{cases_eq}
use Rattle.twe_draw.specs.picture.Choice.{AreShown, IsHeavier, how_many, is_flagged}
use Rattle.twe_draw.specs.picture.inner.Best.{IsFirstLeft}
use Rattle.twe_draw.specs.picture.inner.Chosen.{AreChosen}
use Rattle.twe_draw.proofs.picture.SetFlags.{all_are_set, few_are_set, one_more_set, others_stay, set_keeps_length, that_is_set}

-- at first those that are needed
pub needed_chosen : (most : ℕ) (works : List ℕ) (needed : List Bool) → length needed ≡ length works
    → AreChosen most works needed needed (how_many needed)
needed_chosen most works needed each = record {
  each = each;
  needed_are = λ task set. set;
  heaviest = λ first second set unset below left. let clash : true ≡ false = sym set ∙ unset in absurd (cc clash);
  count_is = refl;
  no_more = omega arith;
  no_fewer = omega arith;
}

-- one more: the first of those that are left
pub one_more_chosen : (most : ℕ) (works : List ℕ) (needed shown : List Bool) (count task : ℕ) → count < most
    → AreChosen most works needed shown count → IsFirstLeft works shown (length works) task
    → AreChosen most works needed (slice_set shown task true) (count + 1)
one_more_chosen most works needed shown count task fewer chosen best =
    let below : task < length shown = let each = chosen.each in let within = best.within in omega arith in
    record {
      each = set_keeps_length shown task ∙ chosen.each;
      needed_are = λ t set. elim (cases_eq t task) [
        | inl same ↦ ap (is_flagged (slice_set shown task true)) same ∙ that_is_set shown task below
        | inr differ ↦ others_stay shown task t differ ∙ chosen.needed_are t set
      ];
      heaviest = λ first second set unneeded under unset. elim (cases_eq second task) [
        | inl is_that ↦
            let clash : true ≡ false =
            sym (that_is_set shown task below) ∙ (ap (is_flagged (slice_set shown task true)) (sym is_that) ∙ unset) in
            absurd (cc clash)
        | inr apart ↦
            let left : is_flagged shown second ≡ false = sym (others_stay shown task second apart) ∙ unset in
            elim (cases_eq first task) [
              | inl same ↦ subst (λ (t : ℕ). IsHeavier works t second) (sym same) (best.first second under left apart)
              | inr differ ↦
                  chosen.heaviest first second (sym (others_stay shown task first differ) ∙ set) unneeded under left
            ]
      ];
      count_is = one_more_set shown task below best.left ∙ let is = chosen.count_is in omega arith;
      no_more = omega arith;
      no_fewer = let few = chosen.no_fewer in omega arith;
    }

-- all that there are
pub all_chosen : (most : ℕ) (works : List ℕ) (needed shown : List Bool) (count : ℕ) → count < most
    → AreChosen most works needed shown count → ((task : ℕ) → task < length works → is_flagged shown task ≡ true)
    → AreShown most works needed shown
all_chosen most works needed shown count fewer chosen all =
    let whole : how_many shown ≡ length shown =
    all_are_set shown (λ task below. all task (let each = chosen.each in omega arith)) in
    record {
      each = chosen.each;
      needed_are = chosen.needed_are;
      heaviest = chosen.heaviest;
      count = let each = chosen.each in let is = chosen.count_is in omega arith;
    }

-- enough
pub enough_chosen : (most : ℕ) (works : List ℕ) (needed shown : List Bool) (count : ℕ) → most ≤ count
    → AreChosen most works needed shown count → AreShown most works needed shown
enough_chosen most works needed shown count no_fewer chosen = record {
  each = chosen.each;
  needed_are = chosen.needed_are;
  heaviest = chosen.heaviest;
  count =
      let each = chosen.each in
      let is = chosen.count_is in
      let few = few_are_set shown in
      let at_most = chosen.no_more in
      let at_least = chosen.no_fewer in
      omega arith;
}
