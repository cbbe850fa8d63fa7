-- In a text that fails no rule, each byte is allowed and each comment has an end.
use Rattle.std.proofs.Common.{◌≡◌, ℕ, ◌+◌, ◌<◌, List, [], ◌∷◌, ◌++◌, length, take, drop, get_or, refl, sym, ap, ◌∙◌, append_assoc, arith}
use Rattle.std.proofs.lemmas.List.{length-append, take-append-drop, drop_more}
use Rattle.twe_base.specs.declared.place.Place.{Place}
use Rattle.twe_lexer.specs.Front.{StopsAt}
use Rattle.twe_lexer.specs.Lexeme.{IsUnclosedComment}
use Rattle.twe_lexer.specs.Places.{place_after}
use Rattle.twe_lexer.specs.Tokens.{AreFirstLexemes, tokens_from}
use Rattle.twe_parser.specs.declared.fail.SRule.{SRule}
use Rattle.twe_parser.specs.declared.fail.SRule.TheVariants.{S1, S6}
use Rattle.twe_parser.specs.Fails.{Fails, byte, unclosed}
use Rattle.twe_parser.specs.inner.Reading.{concat}
use Rattle.twe_parser.proofs.Cuts.{cut_split}

abbrev pub FailsNoRule : List ℕ → Type 0
FailsNoRule text = (rule : SRule) (place : Place) → ¬ Fails text rule place

-- a list before and after one of its items
parted : (bytes : List ℕ) (at : ℕ) → at < length bytes → bytes ≡ take at bytes ++ get_or bytes at 0 ∷ drop (at + 1) bytes
parted bytes at within = sym (take-append-drop at bytes) ∙ ap (λ (more : List ℕ). take at bytes ++ more) (drop_more bytes at 0 within)

pub stops_never : (text rest : List ℕ) (front : List (List ℕ)) → FailsNoRule text → AreFirstLexemes front text rest → (at : ℕ) → ¬ StopsAt at rest
stops_never text rest front accepted cut at stops =
    let lengths : length rest ≡ length stops.bytes + length stops.rest = ap length stops.first.split ∙ length-append stops.bytes stops.rest in
    let below : at < length rest = omega (arith, lengths, stops.within) in
    let split : text ≡ (concat front ++ take at rest) ++ get_or rest at 0 ∷ drop (at + 1) rest =
    cut_split front text rest cut ∙ ap (λ (more : List ℕ). concat front ++ more) (parted rest at below) ∙ sym (append_assoc (concat front) (take at rest) (get_or rest at 0 ∷ drop (at + 1) rest)) in
    accepted S1 (place_after (concat front ++ take at rest)) (byte (concat front ++ take at rest) (drop (at + 1) rest) (get_or rest at 0) split stops.here)

pub closed_ever : (text rest : List ℕ) (front : List (List ℕ)) → FailsNoRule text → AreFirstLexemes front text rest → ¬ IsUnclosedComment rest
closed_ever text rest front accepted cut comment =
    accepted S6 (place_after (concat front)) (unclosed (concat front) rest (tokens_from [] front) (cut_split front text rest cut) (record { lexemes = front; cut = cut; same = refl }) comment)
