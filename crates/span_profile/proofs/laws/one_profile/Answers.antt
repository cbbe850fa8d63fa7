use Rattle.span_profile.proofs.OneProfile.{one_profile_of}
use Rattle.span_profile.proofs.laws.one_profile.Goals as goal

pub returns : goal.returns
returns c = one_profile_of
