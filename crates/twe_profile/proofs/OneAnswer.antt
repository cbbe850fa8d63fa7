-- The answer to legal moves is one.
use Rattle.std.proofs.Common.{◌≡◌, ℕ, List}
use Rattle.seg_journal.specs.declared.moves.Move.{Move}
use Rattle.twe_base.specs.Limits.{Bounds}
use Rattle.twe_program.specs.Program.{Program}
use Rattle.machine_state.specs.declared.why.Why.{Why}
use Rattle.machine_state.specs.Replays.{IsFirstIllegal}
use Rattle.machine_state.proofs.replays.Replayed.{never_both}
use Rattle.span_profile.specs.Profiles.{IsProfile}
use Rattle.twe_io.specs.declared.answer.Answer.{Answer}
use Rattle.twe_io.specs.Answers.{on_out}
use Rattle.twe_io.specs.declared.status.Status.TheVariants.{Done}
use Rattle.twe_profile.specs.Answers.{ProfileGiven}
use Rattle.twe_profile.specs.Texts.{profile_text}

-- moves with a profile are all legal
pub all_legal : (p : Program) (lim : Bounds) (moves : List Move) (answer : Answer) (n : ℕ) (why : Why) → ProfileGiven p lim moves answer → ¬ IsFirstIllegal p lim moves n why
all_legal p lim moves answer n why (ProfileGiven.profiled work span chain is) first = never_both p lim moves n why (is.journal, is.legal, is.has) first

-- moves have one profile
pub one_given : ((p : Program) (lim : Bounds) (moves : List Move) (work span : ℕ) (chain : List ℕ) (other_work other_span : ℕ) (other_chain : List ℕ)
    → IsProfile p lim moves work span chain → IsProfile p lim moves other_work other_span other_chain → (work ≡ other_work) × (span ≡ other_span) × (chain ≡ other_chain))
    → (p : Program) (lim : Bounds) (moves : List Move) (answer other : Answer) → ProfileGiven p lim moves answer → ProfileGiven p lim moves other → answer ≡ other
one_given one_profile p lim moves answer other (ProfileGiven.profiled work span chain is) (ProfileGiven.profiled other_work other_span other_chain also) =
    let one = one_profile p lim moves work span chain other_work other_span other_chain is also in
    λ i. on_out Done (profile_text (one.0 i) (one.1 i) (one.2 i))
