-- Programs that are all answered.
use Rattle.std.proofs.Common.{◌≡◌, ℕ, List, [], ◌∷◌, map, Result, Ok, Err, IfOk, sym, subst}
use Rattle.std.specs.List.{AllZip}
use Rattle.twe_base.specs.declared.memory.Memory.{Memory}
use Rattle.twe_io.specs.declared.answer.Answer.{Answer}

-- the answers in results that are all there
all-there : (R : List ℕ → Answer → Type 0) (texts : List (List ℕ)) (answers : List Answer)
    → AllZip (λ text made. IfOk made (R text)) texts (map (λ (a : Answer). let made : Result Answer Memory = Ok a in made) answers) → AllZip R texts answers
all-there R [] [] h = h
all-there R [] (a ∷ answers) h = h
all-there R (text ∷ texts) [] h = h
all-there R (text ∷ texts) (a ∷ answers) h = (h.0, all-there R texts answers h.1)

pub all-answered : (R : List ℕ → Answer → Type 0) (texts : List (List ℕ)) (made : List (Result Answer Memory)) (answers : List Answer)
    → made ≡ map Ok answers → AllZip (λ text result. IfOk result (R text)) texts made → AllZip R texts answers
all-answered R texts made answers same h = all-there R texts answers (subst (AllZip (λ text result. IfOk result (R text)) texts) same h)
