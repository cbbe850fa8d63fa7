use Rattle.std.proofs.Common.{refl, ap, ◌∙◌}
use Rattle.span_profile.specs.inner.Sets.{no_cells}
use Rattle.span_profile.proofs.recording.Recorder.new.Goals as goal

pub returns : goal.returns
returns c =
    let places = c.in_ok-number_places.ensures in
    (places.nodes, record { places = places; numbers = refl; reads = c.in_ok-new.ensures ∙ ap no_cells c.requires; writes = c.in_ok-new-2.ensures ∙ ap no_cells c.requires })
