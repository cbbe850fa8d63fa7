-- Transfer functions are linear: what they do to a fact is known from what they do if the future is out, and if it is not.
use Rattle.std.proofs.Common.{◌≡◌, ℕ, Bool, true, false, ◌&&◌, ◌||◌, if◌then◌else◌, refl, sym, ap, ◌∙◌}
use Rattle.twe_program.specs.Statement.{Statement, Block, If, While, Return, Statements, no_more, statement, Arms, arm, otherwise, no_else}
use Rattle.cover_flow.specs.declared.facts.Fact.{Fact}
use Rattle.cover_flow.specs.Out.{puts_out, takes_in}
use Rattle.cover_flow.specs.inner.After.{nowhere, joined, put_out, taken_in, after, after_all, after_one}
use Rattle.cover_flow.proofs.WordLaws.{fact, halves}

or_swap : (a b c d : Bool) → ((a || b) || (c || d)) ≡ ((a || c) || (b || d))
or_swap true b c d = refl
or_swap false true true d = refl
or_swap false true false d = refl
or_swap false false c d = refl

joined-swap : (w x y z : Fact) → joined (joined w x) (joined y z) ≡ joined (joined w y) (joined x z)
joined-swap w x y z =
    halves ((w.out || x.out) || (y.out || z.out)) ((w.out || y.out) || (x.out || z.out))
    ((w.not_out || x.not_out) || (y.not_out || z.not_out)) ((w.not_out || y.not_out) || (x.not_out || z.not_out))
    (or_swap w.out x.out y.out z.out) (or_swap w.not_out x.not_out y.not_out z.not_out)

put_out-joined : (x y : Fact) → put_out (joined x y) ≡ joined (put_out x) (put_out y)
put_out-joined x y =
    halves ((x.out || y.out) || (x.not_out || y.not_out)) ((x.out || x.not_out) || (y.out || y.not_out)) false false
    (or_swap x.out y.out x.not_out y.not_out) refl

taken_in-joined : (x y : Fact) → taken_in (joined x y) ≡ joined (taken_in x) (taken_in y)
taken_in-joined x y =
    halves false false ((x.out || y.out) || (x.not_out || y.not_out)) ((x.out || x.not_out) || (y.out || y.not_out))
    refl (or_swap x.out y.out x.not_out y.not_out)

step-joined : (puts takes : Bool) (x y : Fact)
    → (if puts then put_out (joined x y) else (if takes then taken_in (joined x y) else joined x y))
    ≡ joined (if puts then put_out x else (if takes then taken_in x else x)) (if puts then put_out y else (if takes then taken_in y else y))
step-joined true takes x y = put_out-joined x y
step-joined false true x y = taken_in-joined x y
step-joined false false x y = refl

step-nowhere : (puts takes : Bool) → (if puts then put_out nowhere else (if takes then taken_in nowhere else nowhere)) ≡ nowhere
step-nowhere true takes = refl
step-nowhere false true = refl
step-nowhere false false = refl

module _ (f : ℕ) where
  -- of two facts that are joined
  both_ways : (x y p q r s : Fact) → x ≡ joined p q → y ≡ joined r s → joined x y ≡ joined (joined p r) (joined q s)
  both_ways x y p q r s e h = ap (λ z. joined z y) e ∙ ap (joined (joined p q)) h ∙ joined-swap p q r s

  mutual
    after-joined : (s : Statement) (x y : Fact) → after f s (joined x y) ≡ joined (after f s x) (after f s y)
    after-joined (Block point body) x y = after_all-joined body x y
    after-joined (If point arms) x y = after_one-joined arms x y
    after-joined (While point condition body place) x y =
        both_ways (joined x y) (after_all f body (joined x y)) x y (after_all f body x) (after_all f body y) refl (after_all-joined body x y)
    after-joined (Return point value) x y = refl
    after-joined s x y = step-joined (puts_out f s) (takes_in f s) x y

    pub after_all-joined : (body : Statements) (x y : Fact) → after_all f body (joined x y) ≡ joined (after_all f body x) (after_all f body y)
    after_all-joined no_more x y = refl
    after_all-joined (statement s others) x y =
        ap (after_all f others) (after-joined s x y) ∙ after_all-joined others (after f s x) (after f s y)

    after_one-joined : (arms : Arms) (x y : Fact) → after_one f arms (joined x y) ≡ joined (after_one f arms x) (after_one f arms y)
    after_one-joined (arm condition body others) x y =
        both_ways (after_all f body (joined x y)) (after_one f others (joined x y)) (after_all f body x) (after_all f body y)
        (after_one f others x) (after_one f others y) (after_all-joined body x y) (after_one-joined others x y)
    after_one-joined (otherwise body) x y = after_all-joined body x y
    after_one-joined no_else x y = refl

  mutual
    after-nowhere : (s : Statement) → after f s nowhere ≡ nowhere
    after-nowhere (Block point body) = after_all-nowhere body
    after-nowhere (If point arms) = after_one-nowhere arms
    after-nowhere (While point condition body place) = ap (joined nowhere) (after_all-nowhere body)
    after-nowhere (Return point value) = refl
    after-nowhere s = step-nowhere (puts_out f s) (takes_in f s)

    after_all-nowhere : (body : Statements) → after_all f body nowhere ≡ nowhere
    after_all-nowhere no_more = refl
    after_all-nowhere (statement s others) = ap (after_all f others) (after-nowhere s) ∙ after_all-nowhere others

    after_one-nowhere : (arms : Arms) → after_one f arms nowhere ≡ nowhere
    after_one-nowhere (arm condition body others) =
        ap (λ z. joined z (after_one f others nowhere)) (after_all-nowhere body) ∙ ap (joined nowhere) (after_one-nowhere others)
    after_one-nowhere (otherwise body) = after_all-nowhere body
    after_one-nowhere no_else = refl

-- what is made of a fact, from what is made of the two
abbrev pub mixed : Fact → Fact → Fact → Fact
mixed p q x = fact ((x.out && p.out) || (x.not_out && q.out)) ((x.out && p.not_out) || (x.not_out && q.not_out))

or_none : (a : Bool) → (a || false) ≡ a
or_none true = refl
or_none false = refl

pub mixed-all : (f : ℕ) (body : Statements) (out not_out : Bool)
    → mixed (after_all f body (fact true false)) (after_all f body (fact false true)) (fact out not_out) ≡ after_all f body (fact out not_out)
mixed-all f body true true = sym (after_all-joined f body (fact true false) (fact false true))
mixed-all f body true false =
    let p = after_all f body (fact true false) in halves (p.out || false) p.out (p.not_out || false) p.not_out (or_none p.out) (or_none p.not_out)
mixed-all f body false true = refl
mixed-all f body false false = sym (after_all-nowhere f body)
