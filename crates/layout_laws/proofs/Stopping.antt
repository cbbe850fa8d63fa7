-- In a text that fails no rule, each byte is allowed and each comment has an end: it can be cut into its pieces.
use Rattle.std.proofs.Common.{◌≡◌, ℕ, ◌+◌, ◌<◌, List, [], ◌∷◌, ◌++◌, length, take, drop, get_or, refl, sym, ap, ◌∙◌, append_assoc, arith}
use Rattle.std.proofs.lemmas.List.{length-append, take-append-drop, drop_more}
use Rattle.twe_base.specs.declared.memory.Memory.{Memory}
use Rattle.twe_base.specs.declared.place.Place.{Place}
use Rattle.twe_lexer.specs.declared.lexeme.LexemeFail.{LexemeFail}
use Rattle.twe_lexer.specs.declared.lexeme.LexemeFail.TheVariants as fails
use Rattle.twe_lexer.specs.Front.{StopsAt, Hinders}
use Rattle.twe_lexer.specs.Lexeme.{IsUnclosedComment}
use Rattle.twe_lexer.specs.Places.{place_after}
use Rattle.twe_lexer.specs.Tokens.{AreFirstLexemes, tokens_from}
use Rattle.twe_parser.specs.declared.fail.SRule.{SRule}
use Rattle.twe_parser.specs.declared.fail.SRule.TheVariants.{S1, S6}
use Rattle.twe_parser.specs.Fails.{Fails, byte, unclosed}
use Rattle.twe_parser.specs.inner.Reading.{concat}
use Rattle.twe_parser.proofs.Cuts.{cut_split}
use Rattle.text_pieces.specs.Pieces.{StopsCut}

-- a list before and after one of its items
parted : (bytes : List ℕ) (at : ℕ) → at < length bytes → bytes ≡ take at bytes ++ get_or bytes at 0 ∷ drop (at + 1) bytes
parted bytes at within = sym (take-append-drop at bytes) ∙ ap (λ (more : List ℕ). take at bytes ++ more) (drop_more bytes at 0 within)

module _ (text : List ℕ) (keeps : (rule : SRule) (place : Place) → ¬ Fails text rule place) (rest : List ℕ) (front : List (List ℕ)) (cut : AreFirstLexemes front text rest) where
  never_at : (at : ℕ) → ¬ StopsAt at rest
  never_at at stops =
      let lengths : length rest ≡ length stops.bytes + length stops.rest = ap length stops.first.split ∙ length-append stops.bytes stops.rest in
      let below : at < length rest = omega (arith, lengths, stops.within) in
      let split : text ≡ (concat front ++ take at rest) ++ get_or rest at 0 ∷ drop (at + 1) rest =
      cut_split front text rest cut ∙ ap (λ (more : List ℕ). concat front ++ more) (parted rest at below) ∙ sym (append_assoc (concat front) (take at rest) (get_or rest at 0 ∷ drop (at + 1) rest)) in
      keeps S1 (place_after (concat front ++ take at rest)) (byte (concat front ++ take at rest) (drop (at + 1) rest) (get_or rest at 0) split stops.here)

  closed_ever : ¬ IsUnclosedComment rest
  closed_ever comment =
      keeps S6 (place_after (concat front)) (unclosed (concat front) rest (tokens_from [] front) (cut_split front text rest cut) (record { lexemes = front; cut = cut; same = refl }) comment)

  by_fail : (fail : LexemeFail) → Hinders fail rest → (memory : Memory) × (fail ≡ fails.OutOfMemory memory)
  by_fail (fails.NotAllowed at) stops = absurd (never_at at stops)
  by_fail fails.Unclosed comment = absurd (closed_ever comment)
  by_fail (fails.OutOfMemory memory) none = (memory, refl)

pub only_memory : (text : List ℕ) (fail : LexemeFail) → ((rule : SRule) (place : Place) → ¬ Fails text rule place) → StopsCut fail text → (memory : Memory) × (fail ≡ fails.OutOfMemory memory)
only_memory text fail keeps stops = by_fail text keeps stops.rest stops.lexemes stops.cut fail stops.here
