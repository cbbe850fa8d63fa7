-- Of a future: whether it is seen out, or seen not out.
use Rattle.std.proofs.Common.{◌≡◌, Bool, true, false, not, ◌&&◌, ◌||◌, ◌⊎◌, inl, inr, refl, sym, ap, ◌∙◌, if◌then◌else◌}
use Rattle.std.proofs.lemmas.Bool.{false≢true, or_cases}
use Rattle.cover_flow.specs.declared.facts.Fact.{Fact}
use Rattle.cover_flow.specs.inner.After.{nowhere, joined, put_out, taken_in}

-- it is seen out, or it is seen not out
abbrev pub has : Bool → Fact → Bool
has true seen = seen.out
has false seen = seen.not_out

pub nowhere-has : (b : Bool) → has b nowhere ≡ true → ⊥
nowhere-has true h = false≢true h
nowhere-has false h = false≢true h

pub or_left : (a b : Bool) → a ≡ true → (a || b) ≡ true
or_left a b h = ap (λ x. x || b) h

pub or_right : (a b : Bool) → b ≡ true → (a || b) ≡ true
or_right true b h = refl
or_right false b h = h

pub joined_left : (b : Bool) (x y : Fact) → has b x ≡ true → has b (joined x y) ≡ true
joined_left true x y h = or_left _ _ h
joined_left false x y h = or_left _ _ h

pub joined_right : (b : Bool) (x y : Fact) → has b y ≡ true → has b (joined x y) ≡ true
joined_right true x y h = or_right _ _ h
joined_right false x y h = or_right _ _ h

pub joined_from : (b : Bool) (x y : Fact) → has b (joined x y) ≡ true → (has b x ≡ true) ⊎ (has b y ≡ true)
joined_from true x y h = or_cases _ _ h
joined_from false x y h = or_cases _ _ h

-- what is seen after a statement that puts the future out, takes it in, or does nothing to it
abbrev pub stepped : Bool → Bool → Fact → Fact
stepped puts takes seen = if puts then put_out seen else (if takes then taken_in seen else seen)

-- whether it is out after such a statement
abbrev pub step : Bool → Bool → Bool → Bool
step puts takes b = puts || (not takes && b)

either_way : (b : Bool) (seen : Fact) → has b seen ≡ true → (seen.out || seen.not_out) ≡ true
either_way true seen h = or_left _ _ h
either_way false seen h = or_right _ _ h

pub stepped-has : (puts takes b : Bool) (seen : Fact) → has b seen ≡ true → has (step puts takes b) (stepped puts takes seen) ≡ true
stepped-has true takes b seen h = either_way b seen h
stepped-has false true b seen h = either_way b seen h
stepped-has false false b seen h = h

-- it was seen before, as it has to be for this
pub stepped-from : (puts takes b : Bool) (seen : Fact) → has b (stepped puts takes seen) ≡ true → (was : Bool) × (has was seen ≡ true) × (step puts takes was ≡ b)
stepped-from true takes true seen h =
    elim (or_cases _ _ h) [ inl out ↦ (true, out, refl) | inr not_out ↦ (false, not_out, refl) ]
stepped-from true takes false seen h = absurd (false≢true h)
stepped-from false true true seen h = absurd (false≢true h)
stepped-from false true false seen h =
    elim (or_cases _ _ h) [ inl out ↦ (true, out, refl) | inr not_out ↦ (false, not_out, refl) ]
stepped-from false false b seen h = (b, h, refl)

pub both : (x : Bool) → (x ≡ true) ⊎ (x ≡ false)
both true = inl refl
both false = inr refl

is_nowhere : (seen : Fact) → ((b : Bool) → has b seen ≡ true → ⊥) → seen ≡ nowhere
is_nowhere seen empty =
    let made : Bool → Bool → Fact = λ o i. record { out = o; not_out = i } in
    let out : seen.out ≡ false = elim (both seen.out) [ inl t ↦ absurd (empty true t) | inr f ↦ f ] in
    let not_out : seen.not_out ≡ false = elim (both seen.not_out) [ inl t ↦ absurd (empty false t) | inr f ↦ f ] in
    ap (λ o. made o seen.not_out) out ∙ ap (made false) not_out

module _ (g : Fact → Fact) (strict : (b : Bool) → has b (g nowhere) ≡ true → ⊥) where
  -- one turn makes all of it seen, or nothing new
  turned : (o i : Bool) → let seen : Fact = record { out = o; not_out = i } in ((b : Bool) → has b (joined seen (g seen)) ≡ true) ⊎ (joined seen (g seen) ≡ seen)
  turned true true = inr refl
  turned true false =
      let seen : Fact = record { out = true; not_out = false } in
      elim (both (g seen).not_out) [
        | inl all ↦ inl (λ b. elim b as (λ x. has x (joined seen (g seen)) ≡ true) [ true ↦ refl | false ↦ all ])
        | inr same ↦ inr (let made : Bool → Fact = λ x. record { out = true; not_out = x } in ap made same)
      ]
  turned false true =
      let seen : Fact = record { out = false; not_out = true } in
      elim (both (g seen).out) [
        | inl all ↦ inl (λ b. elim b as (λ x. has x (joined seen (g seen)) ≡ true) [ true ↦ all | false ↦ refl ])
        | inr same ↦ inr (let made : Bool → Fact = λ x. record { out = x; not_out = true } in ap made same)
      ]
  turned false false = inr (is_nowhere (g nowhere) strict)

  -- so a second turn shows nothing that the first did not
  pub turn_again : (seen : Fact) (b : Bool) → has b (g (joined seen (g seen))) ≡ true → has b (joined seen (g seen)) ≡ true
  turn_again seen b h =
      elim (turned seen.out seen.not_out) [
        | inl all ↦ all b
        | inr same ↦ joined_right b seen (g seen) (ap (λ x. has b (g x)) (sym same) ∙ h)
      ]
