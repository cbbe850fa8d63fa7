use Rattle.task_floor.proofs.floor.Floor.rest.Goals as goal

pub read_rest-rest-requires-clause-ended : goal.read_rest-rest-requires-clause-ended
read_rest-rest-requires-clause-ended g c = record {
  view = c.args.stand.me.0.floor;
  entries = c.requires.parts;
  ended = c.in_ok-table.ensures.ended;
}
