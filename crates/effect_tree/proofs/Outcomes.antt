-- Facts of what is in an `Ok` or a `Some`.
use Rattle.std.proofs.Common.{Result, Ok, Err, IfOk, Option, Some, None, IfSome}
use Rattle.std.specs.Prelude.{MatchOption}

-- two facts of what is in an Ok give a third
pub ok_both : {T E : Type 0} (r : Result T E) (P Q R : T → Type 0) → ((x : T) → P x → Q x → R x) → IfOk r P → IfOk r Q → IfOk r R
ok_both (Ok x) P Q R f p q = f x p q
ok_both (Err e) P Q R f p q = p

-- a fact of what is in a Some gives another
pub some_weaker : {T : Type 0} (o : Option T) (P Q : T → Type 0) → ((x : T) → P x → Q x) → IfSome o P → IfSome o Q
some_weaker None P Q f h = h
some_weaker (Some x) P Q f h = f x h

-- so do facts of what is in a Some, or else of none
pub match_weaker : {T : Type 0} (o : Option T) (A B : Type 0) (P Q : T → Type 0) → (A → B) → ((x : T) → P x → Q x) → MatchOption o A P → MatchOption o B Q
match_weaker None A B P Q g f h = g h
match_weaker (Some x) A B P Q g f h = f x h
