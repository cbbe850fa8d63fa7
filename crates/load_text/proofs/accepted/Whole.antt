-- The text is accepted.
use Rattle.std.proofs.Common.{ℕ, ◌≤◌, refl}
use Rattle.twe_lexer.specs.Places.{place_after}
use Rattle.twe_names.specs.Meaning.{program_of}
use Rattle.twe_frontend.specs.Accepted.{Accepted}
use Rattle.load_text.specs.Text.{load_text_of}
use Rattle.load_text.proofs.accepted.Read.{load_places, read_tree, is_tree_of}
use Rattle.load_text.proofs.accepted.NameRules.{keeps_names}
use Rattle.load_text.proofs.accepted.EffectsKept.{keeps_effects}

pub text_accepted : (n : ℕ) → n ≤ 2000 → Accepted (load_text_of n) (program_of (read_tree n))
text_accepted n most = record {
  meant = record {
    tree = read_tree n;
    parsed = is_tree_of n most;
    keeps = keeps_names (load_places n)
        (place_after (load_text_of n)) n most;
    meaning = refl;
  };
  keeps = keeps_effects (load_places n) (place_after (load_text_of n)) n most;
}
