use Rattle.held_span.proofs.gathered.Gathered.into_marks.Goals as goal

pub all_rivals-requires : goal.all_rivals-requires
all_rivals-requires c = c.requires.1.placed

pub returns : goal.returns
returns c = λ lists h. record {
  effects = c.args.self.placed.effects;
  filled = h.placed.filled;
  lists_are = h.lists_are;
  as_many = c.in_ok-rivals.ensures.as_many;
  sound = c.in_ok-rivals.ensures.sound;
  complete = c.in_ok-rivals.ensures.complete;
}
