use Rattle.std.proofs.Common.{◌<◌, length, refl, arith}
use Rattle.std.proofs.lemmas.Option.{slice_get_read, slice_get_within}
use Rattle.state_copies.proofs.MatchedRows.{more_match}
use Rattle.state_copies.proofs.rows.rows_match.Goals as goal

-- one more pair was compared
pub loop-t-preserved : goal.loop-t-preserved
loop-t-preserved c =
    let a = c.args.a.now in
    let b = c.args.b.now in
    let t = c.loop-t.t in
    let below : t < length a = omega (arith, c.loop-t-test.true, c.loop-t.auto.t-end) in
    let also : t < length b = omega (arith, below, c.if-a-b.false) in
    more_match a b t c.index-a-t.result c.index-b-t.result (slice_get_read a (length a) t c.index-a-t.result refl below c.index-a-t.is)
    (slice_get_read b (length b) t c.index-b-t.result refl also c.index-b-t.is) (c.row_matches.ensures.0 c.if-not-row_matches.false) c.loop-t.invariant

-- all pairs match
pub returns : goal.returns
returns c = (
  λ yes. record {
    count = omega (arith, c.if-a-b.false);
    each = λ k row other here there.
        let within = slice_get_within c.args.a.now k row here in c.loop-t.invariant k row other (omega (arith, within, c.loop-t-test.false, c.loop-t.auto.t-end)) here there;
  },
  λ match. refl,
)
