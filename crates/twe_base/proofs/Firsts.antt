-- The first failure of one list after another.
use Rattle.std.proofs.Common.{◌≡◌, ◌⊎◌, ℕ, Bool, true, false, if◌then◌else◌, List, [], ◌∷◌, ◌++◌, Option, None, Some, inl, inr, refl, sym, subst}
use Rattle.std.proofs.lemmas.Bool.{false≢true}
use Rattle.std.specs.Option.{MatchOption}
use Rattle.twe_base.specs.declared.place.Place.{Place}
use Rattle.twe_base.specs.declared.failure.Failure.{Failure}
use Rattle.twe_base.specs.Order.{IsFirstOf, IsFirstFailure}
use Rattle.twe_base.specs.First.{first_from, earlier, is_before, failure_if}
use Rattle.twe_base.proofs.Members.{IsIn}
use Rattle.twe_base.proofs.Order.{ComesFirst, before-first, not_before-first, first_trans, first_itself}

module _ {R : Type 0} (number_of : R → ℕ) where
  pub first_from-append : (first : Option (Failure R)) (xs ys : List (Failure R)) → first_from number_of first (xs ++ ys) ≡ first_from number_of (first_from number_of first xs) ys
  first_from-append first [] ys = refl
  first_from-append first (x ∷ xs) ys = first_from-append (earlier number_of first x) xs ys

  -- the first of some failures is the first of the same ones said otherwise
  pub first-same : (P Q : Failure R → Type 0) → ((f : Failure R) → P f → Q f) → ((f : Failure R) → Q f → P f) → (o : Option (Failure R)) → IsFirstOf number_of P o → IsFirstOf number_of Q o
  first-same P Q to from None h = λ f q. h f (from f q)
  first-same P Q to from (Some a) h = (to a h.0, λ f q. h.1 f (from f q))

  earlier-first : (P : Failure R → Type 0) (first : Option (Failure R)) (x : Failure R) → IsFirstOf number_of P first → IsFirstOf number_of (λ f. P f ⊎ (f ≡ x)) (earlier number_of first x)
  earlier-first P None x h = (inr refl, λ f q. elim q [ inl is ↦ absurd (h f is) | inr e ↦ first_itself number_of x f e ])
  earlier-first P (Some a) x h = chosen (is_before number_of x a) refl where
    chosen : (b : Bool) → is_before number_of x a ≡ b → IsFirstOf number_of (λ f. P f ⊎ (f ≡ x)) (if b then Some x else Some a)
    chosen true e = (inr refl, λ f q. elim q [ inl is ↦ first_trans number_of x a f (before-first number_of x a e) (h.1 f is) | inr same ↦ first_itself number_of x f same ])
    chosen false e = (inl h.0, λ f q. elim q [ inl is ↦ h.1 f is | inr same ↦ subst (ComesFirst number_of a) (sym same) (not_before-first number_of a x e) ])

  -- the first so far and these failures give the first of all
  pub first_from-first : (P : Failure R → Type 0) (first : Option (Failure R)) (xs : List (Failure R)) → IsFirstOf number_of P first → IsFirstOf number_of (λ f. P f ⊎ IsIn f xs) (first_from number_of first xs)
  first_from-first P first [] h = first-same P (λ f. P f ⊎ ⊥) (λ f is. inl is) (λ f q. elim q [ inl is ↦ is | inr none ↦ absurd none ]) first h
  first_from-first P first (x ∷ xs) h =
      first-same (λ f. (P f ⊎ (f ≡ x)) ⊎ IsIn f xs) (λ f. P f ⊎ ((f ≡ x) ⊎ IsIn f xs))
      (λ f q. elim q [ inl r ↦ elim r [ inl is ↦ inl is | inr e ↦ inr (inl e) ] | inr i ↦ inr (inr i) ])
      (λ f q. elim q [ inl is ↦ inl (inl is) | inr r ↦ elim r [ inl e ↦ inl (inr e) | inr i ↦ inr i ] ])
      (first_from number_of (earlier number_of first x) xs) (first_from-first (λ f. P f ⊎ (f ≡ x)) (earlier number_of first x) xs (earlier-first P first x h))

  -- the first of the failures of a relation, said of rules and places
  pub first-said : (Fails : R → Place → Type 0) (first : Option (Failure R)) → IsFirstOf number_of (λ f. Fails f.rule f.place) first
      → MatchOption first ((rule : R) (place : Place) → ¬ Fails rule place) (λ f. IsFirstFailure number_of Fails f.rule f.place)
  first-said Fails None h = λ rule place. h (record { rule = rule; place = place })
  first-said Fails (Some f) h = record { fails = h.0; first = λ rule place. h.1 (record { rule = rule; place = place }) }

-- a failure that is reported under a condition
pub if-in : {R : Type 0} (b : Bool) (rule : R) (place : Place) (f : Failure R) → IsIn f (failure_if b rule place) → (b ≡ true) × (f ≡ record { rule = rule; place = place })
if-in true rule place f (inl e) = (refl, e)
if-in true rule place f (inr h) = absurd h
if-in false rule place f h = absurd h

pub in-if : {R : Type 0} (b : Bool) (rule : R) (place : Place) → b ≡ true → IsIn (record { rule = rule; place = place }) (failure_if b rule place)
in-if true rule place e = inl refl
in-if false rule place e = absurd (false≢true e)
