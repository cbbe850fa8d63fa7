use Rattle.std.proofs.Common.{refl}
use Rattle.twe_draw.proofs.picture.Drawn.{drawn_start}
use Rattle.twe_draw.proofs.picture.drawing.Drawing.start.Goals as goal

pub returns-clause-drawn : goal.returns-clause-drawn
returns-clause-drawn c =
    drawn_start c.args.p.now c.args.lim c.args.times.now.starts c.args.times.now.ends _ c.in_ok-start.ensures c.new-2.ensures refl c.new-3.ensures.none c.new-3.ensures.known
    (c.in_ok-new.ensures.start c.args.p.now c.args.lim)
