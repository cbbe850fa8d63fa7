-- For filled paths the two tests say how their sets lie.
use Rattle.std.proofs.Common.{◌≡◌, ◌↔◌, pos, Bool, IsTrue, IsFalse, sym, ◌∙◌, subst}
use Rattle.std.proofs.lemmas.Bool.{false_from_ne_true}
use Rattle.region_paths.specs.Written.{WrittenPath}
use Rattle.region_paths.specs.Inside.{inside}
use Rattle.region_paths.specs.Apart.{apart}
use Rattle.region_paths.specs.Filled.{Valuation, under, filled}
use Rattle.region_paths.specs.Sets.{SetWithin, SetsApart, SetsMeet}
use Rattle.region_paths.proofs.Soundness.{inside-within, apart-apart}
use Rattle.region_paths.proofs.Outside.{within-inside}
use Rattle.region_paths.proofs.Meeting.{not_apart-meet, sets_apart-apart}
use Rattle.region_paths.proofs.Filling.{under-filled}

-- a valuation, since a filled path is the same under each
abbrev zeros : Valuation
zeros k = pos 0

pub inside-filled : (p q : WrittenPath) → IsTrue (filled p) → IsTrue (filled q) → IsTrue (inside p q) → SetWithin p q
inside-filled p q p_filled q_filled h =
    let P : WrittenPath → Type 0 = λ r. SetWithin r q in
    let Q : WrittenPath → Type 0 = λ r. SetWithin (under zeros p) r in
    subst P (under-filled zeros p p_filled) (subst Q (under-filled zeros q q_filled) (inside-within p q h zeros))

pub apart-filled : (p q : WrittenPath) → IsTrue (filled p) → IsTrue (filled q) → IsTrue (apart p q) → SetsApart p q
apart-filled p q p_filled q_filled h =
    let P : WrittenPath → Type 0 = λ r. SetsApart r q in
    let Q : WrittenPath → Type 0 = λ r. SetsApart (under zeros p) r in
    subst P (under-filled zeros p p_filled) (subst Q (under-filled zeros q q_filled) (apart-apart p q h zeros))

-- what an answer says of the sets that is `inside`
pub inside-exact : (p q : WrittenPath) (answer : Bool) → answer ≡ inside p q → IsTrue (filled p) → IsTrue (filled q) → IsTrue answer ↔ SetWithin p q
inside-exact p q answer is p_filled q_filled =
    (λ h. inside-filled p q p_filled q_filled (sym is ∙ h), λ s. is ∙ within-inside p q p_filled s)

-- what an answer says of the sets that is `apart`
pub apart-exact : (p q : WrittenPath) (answer : Bool) → answer ≡ apart p q → IsTrue (filled p) → IsTrue (filled q) → IsTrue answer ↔ SetsApart p q
apart-exact p q answer is p_filled q_filled =
    (λ h. apart-filled p q p_filled q_filled (sym is ∙ h), λ s. is ∙ sets_apart-apart p q p_filled q_filled s)

pub meet-exact : (p q : WrittenPath) (answer : Bool) → answer ≡ apart p q → IsTrue (filled p) → IsTrue (filled q) → IsFalse answer ↔ SetsMeet p q
meet-exact p q answer is p_filled q_filled = (
  λ h. not_apart-meet p q p_filled q_filled (sym is ∙ h),
  λ m. false_from_ne_true _ (λ h. apart-filled p q p_filled q_filled (sym is ∙ h) m.0 m.1 m.2),
)
