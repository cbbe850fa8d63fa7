-- What goes on through statements adds the same from every trail. Of what is added, a spawn or a join of the future decides alone.
use Rattle.std.proofs.Common.{◌≡◌, ◌≤◌, ℕ, zero, suc, Bool, true, false, not, ◌&&◌, ◌||◌, List, [], ◌∷◌, ◌++◌, length, inl, inr, refl, sym, ap, ◌∙◌, subst, append_assoc, if◌then◌else◌, arith}
use Rattle.std.specs.Prelude.{option_to_list}
use Rattle.std.proofs.lemmas.Bool.{false≢true}
use Rattle.std.proofs.lemmas.List.{length-append}
use Rattle.twe_base.specs.declared.place.Place.{Place}
use Rattle.twe_program.specs.Statement.{Statement, Block, If, While, Return, Statements, no_more, statement, Arms, arm, otherwise, no_else}
use Rattle.cover_flow.specs.ControlPath.{Path, Repeated}
use Rattle.cover_flow.specs.Out.{puts_out, takes_in, out_after}
use Rattle.refusal_causes.specs.Trail.{Goes, GoesAll, GoesOne}
use Rattle.refusal_causes.specs.Ways.{places_since, settles, shown_at}

-- what is added to the trail can be added to any
abbrev pub Adds : (Path → Path → Type 0) → Path → Path → Type 0
Adds Go trail later = (added : Path) × (later ≡ added ++ trail) × ((other : Path) → Go other (added ++ other))

repeated-adds : (Step : Path → Path → Type 0) → ((before after : Path) → Step before after → Adds Step before after)
    → (n : ℕ) (trail later : Path) → Repeated Step n trail later → Adds (Repeated Step n) trail later
repeated-adds Step one zero trail later r = ([], r, λ other. refl)
repeated-adds Step one (suc n) trail later r =
    let first = one trail r.0 r.1 in
    let rest = repeated-adds Step one n r.0 later r.2 in (
      rest.0 ++ first.0,
      rest.1 ∙ (ap (λ t. rest.0 ++ t) first.1 ∙ sym (append_assoc rest.0 first.0 trail)),
      λ other. (
        first.0 ++ other,
        first.2 other,
        subst (λ t. Repeated Step n (first.0 ++ other) t) (sym (append_assoc rest.0 first.0 other)) (rest.2 (first.0 ++ other)),
      ),
    )

mutual
  goes-adds : (s : Statement) (trail later : Path) → Goes s trail later → Adds (Goes s) trail later
  goes-adds (Block point body) trail later g = goes_all-adds body trail later g
  goes-adds (If point arms) trail later g = goes_one-adds arms trail later g
  goes-adds (While point condition body place) trail later g =
      let s : Statement = While point condition body place in
      let turns = repeated-adds (λ before. GoesAll body (s ∷ before)) (λ before after go.
      let turn = goes_all-adds body (s ∷ before) after go in (
        turn.0 ++ s ∷ [],
        turn.1 ∙ sym (append_assoc turn.0 (s ∷ []) before),
        λ other. subst (λ t. GoesAll body (s ∷ other) t) (sym (append_assoc turn.0 (s ∷ []) other)) (turn.2 (s ∷ other)),
      )) g.0 trail later g.1 in
      (turns.0, turns.1, λ other. (g.0, turns.2 other))
  goes-adds (Return point value) trail later g = absurd g
  goes-adds s trail later g = (s ∷ [], g, λ other. refl)

  pub goes_all-adds : (body : Statements) (trail later : Path) → GoesAll body trail later → Adds (GoesAll body) trail later
  goes_all-adds no_more trail later g = ([], g, λ other. refl)
  goes_all-adds (statement first others) trail later g =
      let here = goes-adds first trail g.0 g.1 in
      let rest = goes_all-adds others g.0 later g.2 in (
        rest.0 ++ here.0,
        rest.1 ∙ (ap (λ t. rest.0 ++ t) here.1 ∙ sym (append_assoc rest.0 here.0 trail)),
        λ other. (
          here.0 ++ other,
          here.2 other,
          subst (λ t. GoesAll others (here.0 ++ other) t) (sym (append_assoc rest.0 here.0 other)) (rest.2 (here.0 ++ other)),
        ),
      )

  goes_one-adds : (arms : Arms) (trail later : Path) → GoesOne arms trail later → Adds (GoesOne arms) trail later
  goes_one-adds (arm condition body others) trail later g = elim g [
    | inl here ↦ let adds = goes_all-adds body trail later here in (adds.0, adds.1, λ other. inl (adds.2 other))
    | inr rest ↦ let adds = goes_one-adds others trail later rest in (adds.0, adds.1, λ other. inr (adds.2 other))
  ]
  goes_one-adds (otherwise body) trail later g = goes_all-adds body trail later g
  goes_one-adds no_else trail later g = ([], g, λ other. refl)

-- one of these statements spawns into the future, or joins it
abbrev pub some_settles : ℕ → Path → Bool
some_settles f [] = false
some_settles f (s ∷ earlier) = settles f s || some_settles f earlier

same_by : (puts takes some : Bool) (a b : Bool) (here xs ys : List Place) → ((puts || takes) || some) ≡ true → (some ≡ true → (a ≡ b) × (xs ≡ ys))
    → ((puts || (not takes && a)) ≡ (puts || (not takes && b)))
    × (here ++ (if puts || takes then [] else xs) ≡ here ++ (if puts || takes then [] else ys))
same_by true takes some a b here xs ys h rest = (refl, refl)
same_by false true some a b here xs ys h rest = (refl, refl)
same_by false false some a b here xs ys h rest = let same = rest h in (same.0, ap (λ zs. here ++ zs) same.1)

-- if one of those added does, it does not matter what came before
pub same-after : (f : ℕ) (added trail other : Path) → some_settles f added ≡ true
    → (out_after f (added ++ trail) ≡ out_after f (added ++ other)) × (places_since f (added ++ trail) ≡ places_since f (added ++ other))
same-after f [] trail other h = absurd (false≢true h)
same-after f (s ∷ added) trail other h =
    same_by (puts_out f s) (takes_in f s) (some_settles f added) (out_after f (added ++ trail)) (out_after f (added ++ other))
    (option_to_list (shown_at s)) (places_since f (added ++ trail)) (places_since f (added ++ other)) h (same-after f added trail other)

none_by : (puts takes some : Bool) (a b : Bool) (here xs ys : List Place) → ((puts || takes) || some) ≡ false → (some ≡ false → (a ≡ b) × (length xs ≤ length ys))
    → ((puts || (not takes && a)) ≡ b) × (length xs ≤ length (here ++ (if puts || takes then [] else ys)))
none_by true takes some a b here xs ys h rest = absurd (false≢true (sym h))
none_by false true some a b here xs ys h rest = absurd (false≢true (sym h))
none_by false false some a b here xs ys h rest =
    let fewer = (rest h).1 in
    let long = length-append here ys in
    ((rest h).0, omega (arith, fewer, long))

-- if none does, the future is as before, and there are no fewer places
pub none-after : (f : ℕ) (added trail : Path) → some_settles f added ≡ false
    → (out_after f (added ++ trail) ≡ out_after f trail) × (length (places_since f trail) ≤ length (places_since f (added ++ trail)))
none-after f [] trail h = (refl, omega (arith))
none-after f (s ∷ added) trail h =
    none_by (puts_out f s) (takes_in f s) (some_settles f added) (out_after f (added ++ trail)) (out_after f trail)
    (option_to_list (shown_at s)) (places_since f trail) (places_since f (added ++ trail)) h (none-after f added trail)
