use Rattle.std.proofs.Common.{◌+◌, ℕ, Bool, List, None, true, length, sym, subst, ap, ◌∙◌}
use Rattle.std.specs.Prelude.{slice_set}
use Rattle.twe_draw.specs.picture.inner.Best.{IsBest, IsFirstLeft}
use Rattle.twe_draw.specs.picture.inner.Chosen.{AreChosen}
use Rattle.twe_draw.proofs.picture.Chosen.{all_chosen, enough_chosen, one_more_chosen}
use Rattle.twe_draw.proofs.picture.choosing.choose_rows.Goals as goal

-- all tasks are shown
pub returns-in-None : goal.returns-in-None
returns-in-None c =
    all_chosen c.args.most c.args.works.now c.args.needed.now c.choosing.shown c.choosing.count c.choosing-test.true
    c.choosing.invariant
    (subst (λ (shown : List Bool). IsBest c.args.works.now shown (length c.args.works.now) None)
    c.as_slice.ensures c.in-None.ensures)

-- one task more is shown
pub choosing-preserved : goal.choosing-preserved
choosing-preserved c =
    subst (λ (shown : List Bool). AreChosen c.args.most c.args.works.now c.args.needed.now shown (c.choosing.count + 1))
    (sym c.set.ensures)
    (one_more_chosen c.args.most c.args.works.now c.args.needed.now c.choosing.shown c.choosing.count c.in-Some.task
    c.choosing-test.true c.choosing.invariant
    (subst (λ (shown : List Bool). IsFirstLeft c.args.works.now shown (length c.args.works.now) c.in-Some.task)
    c.as_slice.ensures c.in-Some.ensures))

-- enough are
pub returns : goal.returns
returns c =
    enough_chosen c.args.most c.args.works.now c.args.needed.now c.choosing.shown c.choosing.count c.choosing-test.false
    c.choosing.invariant
