-- A step at one end, as a step of the worker that has the end among others.
use Rattle.std.proofs.Common.{◌≡◌, ℕ, ◌+◌, ◌<◌, ◌≤◌, List, [], ◌∷◌, length, get_or, set, map, Option, Some, None, refl, sym, ap, ◌∙◌, subst, ⊎_elim, arith}
use Rattle.std.specs.List.{insert}
use Rattle.std.specs.Option.{IfSome, IfNone}
use Rattle.std.proofs.lemmas.Option.{IfSome_then}
use Rattle.std.proofs.Math.Numerals.{add-one}
use Rattle.std.proofs.lemmas.List.{get_or-map, length-map, map-set, set-get_or}
use Rattle.std.proofs.Math.Seq.{map-set_same}
use Rattle.std.proofs.lemmas.List.Edits.{length-insert, get_or-insert_at, get_or-insert_below, get_or-insert_above}
use Rattle.steal_pool.specs.declared.law.Hand.{Hand}
use Rattle.steal_pool.specs.Hand.{pushing, taking, guest_of}
use Rattle.steal_pool.specs.Stands.{Joins, Leaves, WasEmpty}
use Rattle.steal_pool.specs.DeckEnds.{DeckEnds, hand_at, with_hand, Pushed, Taken, FoundEmpty}
use Rattle.steal_pool.specs.inner.Single.{DeckEnd, ends_of, AgreeOnBound, IsAt}
use Rattle.steal_pool.proofs.CallLemmas.{leaves_below}
use Rattle.steal_pool.proofs.PlaceLemmas.{set-insert_here, set-insert_before, set-insert_after}

-- what the pass of this deck knows was and becomes so
taken_so : (old new : DeckEnds) (deck number : ℕ) (known known' : Hand) → hand_at old deck ≡ known → known.bound ≡ old.bound → new ≡ with_hand old deck known' → Leaves known (number ∷ []) known' → Taken old new deck number
taken_so old new deck number known known' here bound now step =
    let then : known' ≡ taking (hand_at old deck) (number ∷ []) = step.0 ∙ ap (λ (h : Hand). taking h (number ∷ [])) (sym here) in (
      now ∙ ap (λ (h : Hand). with_hand old deck h) then,
      subst (λ (p : Hand × Hand). Leaves p.0 (number ∷ []) p.1) (λ i. (sym here i, then i)) step,
      omega (arith, leaves_below known known' number step),
    )

pushed_so : (old new : DeckEnds) (number : ℕ) (known known' : Hand) → hand_at old old.number ≡ known → new ≡ with_hand old old.number known' → Joins known (number ∷ []) known' → Pushed old new number
pushed_so old new number known known' here now step =
    let then : known' ≡ pushing (hand_at old old.number) (number ∷ []) = step.0 ∙ ap (λ (h : Hand). pushing h (number ∷ [])) (sym here) in (
      now ∙ ap (λ (h : Hand). with_hand old old.number h) then,
      subst (λ (p : Hand × Hand). Joins p.0 (number ∷ []) p.1) (λ i. (sym here i, then i)) step,
    )

module _ (n : ℕ) (own own' : DeckEnd) (others : List DeckEnd) (agree : AgreeOnBound n own others) where
  within : n ≤ length (map (λ (other : DeckEnd). other.hand) others)
  within = omega (arith, agree.0, length-map others (λ (other : DeckEnd). other.hand))

  own_hand : hand_at (ends_of n own others) n ≡ own.hand
  own_hand = get_or-insert_at (map (λ other. other.hand) others) n own.hand (guest_of own.hand.bound) within

  own_changed : own'.deck ≡ own.deck → own'.hand.bound ≡ own.hand.bound → ends_of n own' others ≡ with_hand (ends_of n own others) n own'.hand
  own_changed deck bound =
      λ i. record {
        number = n;
        bound = bound i;
        decks = insert (map (λ other. other.deck) others) n (deck i);
        hands = sym (set-insert_here (map (λ other. other.hand) others) n own.hand own'.hand within) i;
      }

  pub pops : (old : DeckEnds) (deck : ℕ) (r : Option ℕ) → ends_of n own others ≡ old → deck ≡ n → own'.deck ≡ own.deck → IfSome r (λ number. Leaves own.hand (number ∷ []) own'.hand) → IfSome r (Taken old (ends_of n own' others) deck)
  pops old deck r is at same step =
      subst (λ (p : DeckEnds × ℕ). IfSome r (Taken p.0 (ends_of n own' others) p.1)) (λ i. (is i, sym at i))
      (IfSome_then r step (λ number left.
      let bound = ap (λ (h : Hand). h.bound) left.0 in
      let now = own_changed same bound in
      taken_so (ends_of n own others) (ends_of n own' others) n number own.hand own'.hand own_hand refl now left))

  pub pushes_own : (old : DeckEnds) (number : ℕ) → ends_of n own others ≡ old → own'.deck ≡ own.deck → Joins own.hand (number ∷ []) own'.hand → Pushed old (ends_of n own' others) number
  pushes_own old number is same step =
      subst (λ (e : DeckEnds). Pushed e (ends_of n own' others) number) is
      (let bound = ap (λ (h : Hand). h.bound) step.0 in
      let now = own_changed same bound in
      pushed_so (ends_of n own others) (ends_of n own' others) number own.hand own'.hand own_hand now step)

none_then : {P Q : Type 0} (r : Option ℕ) → IfNone r P → (P → Q) → IfNone r Q
none_then None p then = then p
none_then (Some x) p then = tt

-- where a deck's end stands there is one
pub end_there : (n : ℕ) (own : DeckEnd) (others : List DeckEnd) (old : DeckEnds) (deck k : ℕ) → AgreeOnBound n own others → ends_of n own others ≡ old → deck < length old.hands → IsAt n deck k → k < length others
end_there n own others old deck k agree is less at =
    let hands = map (λ (end : DeckEnd). end.hand) others in
    let long = length-map others (λ (end : DeckEnd). end.hand) in
    let all = ap (λ (e : DeckEnds). length e.hands) is in
    omega (arith, agree.0, at, length-insert hands n own.hand (omega (arith, agree.0)))

module _ (n : ℕ) (own : DeckEnd) (others : List DeckEnd) (agree : AgreeOnBound n own others) (deck k : ℕ) (at : IsAt n deck k) (there : k < length others) (other other' : DeckEnd) (is : other ≡ get_or others k other) (same : other'.deck ≡ other.deck) where
  long : length (map (λ (end : DeckEnd). end.hand) others) ≡ length others
  long = length-map others (λ (end : DeckEnd). end.hand)

  hand_there : get_or (map (λ (end : DeckEnd). end.hand) others) k (guest_of own.hand.bound) ≡ other.hand
  hand_there = get_or-map (λ (end : DeckEnd). end.hand) others k other (guest_of own.hand.bound) there ∙ ap (λ (end : DeckEnd). end.hand) (sym is)

  other_hand : hand_at (ends_of n own others) deck ≡ other.hand
  other_hand =
      let hands = map (λ (end : DeckEnd). end.hand) others in
      let rest = guest_of own.hand.bound in
      ⊎_elim
      (λ (t : (deck < n) × (deck ≡ k)). get_or-insert_below hands n own.hand rest deck t.0 (omega (arith, agree.0, long)) ∙ (ap (λ j. get_or hands j rest) t.1 ∙ hand_there))
      (λ (t : (n < deck) × (deck ≡ k + 1)). ap (λ j. get_or (insert hands n own.hand) j rest) t.1 ∙ (get_or-insert_above hands n own.hand rest k (omega arith) (omega (arith, agree.0, long)) ∙ hand_there))
      at

  hands_changed : (hand : Hand) → insert (set (map (λ (end : DeckEnd). end.hand) others) k hand) n own.hand ≡ set (insert (map (λ (end : DeckEnd). end.hand) others) n own.hand) deck hand
  hands_changed hand =
      let hands = map (λ (end : DeckEnd). end.hand) others in
      ⊎_elim
      (λ (t : (deck < n) × (deck ≡ k)). sym (set-insert_before hands n k own.hand hand (omega arith) (omega (arith, agree.0, long))) ∙ ap (λ j. set (insert hands n own.hand) j hand) (sym t.1))
      (λ (t : (n < deck) × (deck ≡ k + 1)). sym (set-insert_after hands n k own.hand hand (omega arith)) ∙ ap (λ j. set (insert hands n own.hand) j hand) (sym (t.1 ∙ add-one k)))
      at

  other_changed : ends_of n own (set others k other') ≡ with_hand (ends_of n own others) deck other'.hand
  other_changed =
      let decks = map-set_same (λ (end : DeckEnd). end.deck) others k other' other (same ∙ ap (λ (end : DeckEnd). end.deck) is) in
      let hands = ap (λ hs. insert hs n own.hand) (map-set (λ (end : DeckEnd). end.hand) others k other') ∙ hands_changed other'.hand in
      λ i. record {
        number = n;
        bound = own.hand.bound;
        decks = insert (decks i) n own.deck;
        hands = hands i;
      }

  pub steals : (old : DeckEnds) (r : Option ℕ) → ends_of n own others ≡ old → IfSome r (λ number. Leaves other.hand (number ∷ []) other'.hand) → IfSome r (Taken old (ends_of n own (set others k other')) deck)
  steals old r was step =
      subst (λ (e : DeckEnds). IfSome r (Taken e (ends_of n own (set others k other')) deck)) was
      (IfSome_then r step (λ number left.
      let bound = ap (λ (end : DeckEnd). end.hand.bound) is ∙ agree.1 k other there in
      taken_so (ends_of n own others) (ends_of n own (set others k other')) deck number other.hand other'.hand other_hand bound other_changed left))

  pub steals_none : (old : DeckEnds) (r : Option ℕ) → ends_of n own others ≡ old → IfNone r ((other'.hand ≡ other.hand) × WasEmpty other.hand) → IfNone r (FoundEmpty old (ends_of n own (set others k other')) deck)
  steals_none old r was none =
      subst (λ (e : DeckEnds). IfNone r (FoundEmpty e (ends_of n own (set others k other')) deck)) was
      (none_then r none (λ found.
      let unchanged : other' ≡ get_or others k other = (λ i. record { deck = same i; hand = found.0 i }) ∙ is in
      (ap (λ ends. ends_of n own ends) (ap (λ end. set others k end) unchanged ∙ set-get_or others k other), subst WasEmpty (sym other_hand) found.1)))
