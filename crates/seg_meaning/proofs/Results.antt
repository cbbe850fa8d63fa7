-- What holds of the value of a result, if there is one.
use Rattle.std.proofs.Common.{Result, Ok, Err, IfOk}

pub if_ok_map : {T E : Type 0} {P Q : T → Type 0} (r : Result T E) → ((x : T) → P x → Q x) → IfOk r P → IfOk r Q
if_ok_map (Ok x) so holds = so x holds
if_ok_map (Err fail) so holds = tt
