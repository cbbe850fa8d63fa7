-- The control paths of a body whose places are moved are those of the body, with their places moved.
use Rattle.twe_base.specs.declared.place.Place.{Place}
use Rattle.std.proofs.Common.{◌≡◌, ℕ, Bool, [], ◌∷◌, map, zero, suc, inl, inr, refl, sym, ap, ◌∙◌, subst}
use Rattle.std.specs.Prelude.{not, ◌&&◌, ◌||◌}
use Rattle.twe_program.specs.declared.program.Body.{Body}
use Rattle.twe_program.specs.Statement.{Statement, Block, Let, Set, SetCell, SetArray, SetGrid, If, While, Return, Print, Call, Make, Wait, Statements, no_more, statement, Arms, arm, otherwise, no_else}
use Rattle.cover_flow.specs.ControlPath.{Path, Repeated, Through, ThroughAll, ThroughOne, IsAt, Comes, ComesAll, ComesOne, ControlPath, end_of}
use Rattle.cover_flow.specs.Out.{puts_out, takes_in, out_after, MayBeOut, SurelyOut}
use Rattle.moved_places.specs.MovedProgram.{moved_statement, moved_statements, moved_arms, moved_body}

abbrev moved_path : (Place → Place) → Path → Path
moved_path move path = map (moved_statement move) path

module _ (move : Place → Place) where
  -- a path that is this one with its places moved
  abbrev Comes_from : (Path → Type 0) → Path → Type 0
  Comes_from P moved = (path : Path) × P path × (moved_path move path ≡ moved)

  repeated-to : (Step Moved : Path → Path → Type 0) → ((path later : Path) → Step path later → Moved (moved_path move path) (moved_path move later))
      → (turns : ℕ) (path later : Path) → Repeated Step turns path later → Repeated Moved turns (moved_path move path) (moved_path move later)
  repeated-to Step Moved step zero path later h = ap (moved_path move) h
  repeated-to Step Moved step (suc turns) path later h = (moved_path move h.0, step path h.0 h.1, repeated-to Step Moved step turns h.0 later h.2)

  repeated-from : (Step Moved : Path → Path → Type 0) → ((path later : Path) → Moved (moved_path move path) later → Comes_from (Step path) later)
      → (turns : ℕ) (path later : Path) → Repeated Moved turns (moved_path move path) later → Comes_from (Repeated Step turns path) later
  repeated-from Step Moved step zero path later h = (path, refl, sym h)
  repeated-from Step Moved step (suc turns) path later h =
      let one = step path h.0 h.1 in
      let others = repeated-from Step Moved step turns one.0 later (subst (λ (between : Path). Repeated Moved turns between later) (sym one.2) h.2) in
      (others.0, (one.0, one.1, others.1), others.2)

  mutual
    through-to : (s : Statement) (path later : Path) → Through s path later → Through (moved_statement move s) (moved_path move path) (moved_path move later)
    through-to (Block point body) path later h = all-to body path later h
    through-to (Let point var value) path later h = ap (moved_path move) h
    through-to (Set point var value) path later h = ap (moved_path move) h
    through-to (SetCell point cell value place) path later h = ap (moved_path move) h
    through-to (SetArray point array index value place) path later h = ap (moved_path move) h
    through-to (SetGrid point array row column value place) path later h = ap (moved_path move) h
    through-to (If point arms) path later h = one-to arms path later h
    through-to (While point condition body place) path later h =
        (h.0, repeated-to (ThroughAll body) (ThroughAll (moved_statements move body)) (λ from to k. all-to body from to k) h.0 path later h.1)
    through-to (Return point value) path later h = absurd h
    through-to (Print point value place) path later h = ap (moved_path move) h
    through-to (Call point method args place) path later h = ap (moved_path move) h
    through-to (Make point future task args is_spawn future_place place) path later h = ap (moved_path move) h
    through-to (Wait point future join into place) path later h = ap (moved_path move) h

    all-to : (ss : Statements) (path later : Path) → ThroughAll ss path later → ThroughAll (moved_statements move ss) (moved_path move path) (moved_path move later)
    all-to no_more path later h = ap (moved_path move) h
    all-to (statement first others) path later h = (moved_path move h.0, through-to first path h.0 h.1, all-to others h.0 later h.2)

    one-to : (arms : Arms) (path later : Path) → ThroughOne arms path later → ThroughOne (moved_arms move arms) (moved_path move path) (moved_path move later)
    one-to (arm condition body others) path later (inl h) = inl (all-to body path later h)
    one-to (arm condition body others) path later (inr h) = inr (one-to others path later h)
    one-to (otherwise body) path later h = all-to body path later h
    one-to no_else path later h = ap (moved_path move) h

  mutual
    through-from : (s : Statement) (path later : Path) → Through (moved_statement move s) (moved_path move path) later → Comes_from (Through s path) later
    through-from (Block point body) path later h = all-from body path later h
    through-from (Let point var value) path later h = (Let point var value ∷ path, refl, sym h)
    through-from (Set point var value) path later h = (Set point var value ∷ path, refl, sym h)
    through-from (SetCell point cell value place) path later h = (SetCell point cell value place ∷ path, refl, sym h)
    through-from (SetArray point array index value place) path later h = (SetArray point array index value place ∷ path, refl, sym h)
    through-from (SetGrid point array row column value place) path later h = (SetGrid point array row column value place ∷ path, refl, sym h)
    through-from (If point arms) path later h = one-from arms path later h
    through-from (While point condition body place) path later h =
        let turned = repeated-from (ThroughAll body) (ThroughAll (moved_statements move body)) (λ from to k. all-from body from to k) h.0 path later h.1 in
        (turned.0, (h.0, turned.1), turned.2)
    through-from (Return point value) path later h = absurd h
    through-from (Print point value place) path later h = (Print point value place ∷ path, refl, sym h)
    through-from (Call point method args place) path later h = (Call point method args place ∷ path, refl, sym h)
    through-from (Make point future task args is_spawn future_place place) path later h = (Make point future task args is_spawn future_place place ∷ path, refl, sym h)
    through-from (Wait point future join into place) path later h = (Wait point future join into place ∷ path, refl, sym h)

    all-from : (ss : Statements) (path later : Path) → ThroughAll (moved_statements move ss) (moved_path move path) later → Comes_from (ThroughAll ss path) later
    all-from no_more path later h = (path, refl, sym h)
    all-from (statement first others) path later h =
        let one = through-from first path h.0 h.1 in
        let more = all-from others one.0 later (subst (λ (between : Path). ThroughAll (moved_statements move others) between later) (sym one.2) h.2) in
        (more.0, (one.0, one.1, more.1), more.2)

    one-from : (arms : Arms) (path later : Path) → ThroughOne (moved_arms move arms) (moved_path move path) later → Comes_from (ThroughOne arms path) later
    one-from (arm condition body others) path later (inl h) = let found = all-from body path later h in (found.0, inl found.1, found.2)
    one-from (arm condition body others) path later (inr h) = let found = one-from others path later h in (found.0, inr found.1, found.2)
    one-from (otherwise body) path later h = all-from body path later h
    one-from no_else path later h = (path, refl, sym h)

  at-to : (point to : ℕ) (path later : Path) → IsAt point to path later → IsAt point to (moved_path move path) (moved_path move later)
  at-to point to path later h = (h.0, ap (moved_path move) h.1)

  at-from : (point to : ℕ) (path later : Path) → IsAt point to (moved_path move path) later → Comes_from (IsAt point to path) later
  at-from point to path later h = (path, (h.0, refl), sym h.1)

  mutual
    comes-to : (end : ℕ) (s : Statement) (to : ℕ) (path later : Path) → Comes end s to path later → Comes end (moved_statement move s) to (moved_path move path) (moved_path move later)
    comes-to end (Block point body) to path later (inl h) = inl (at-to point to path later h)
    comes-to end (Block point body) to path later (inr h) = inr (comes_all-to end body to path later h)
    comes-to end (Let point var value) to path later h = at-to point to path later h
    comes-to end (Set point var value) to path later h = at-to point to path later h
    comes-to end (SetCell point cell value place) to path later h = at-to point to path later h
    comes-to end (SetArray point array index value place) to path later h = at-to point to path later h
    comes-to end (SetGrid point array row column value place) to path later h = at-to point to path later h
    comes-to end (If point arms) to path later (inl h) = inl (at-to point to path later h)
    comes-to end (If point arms) to path later (inr h) = inr (comes_one-to end arms to path later h)
    comes-to end (While point condition body place) to path later (turned, through, inl h) =
        (moved_path move turned, through-to (While point condition body place) path turned through, inl (at-to point to turned later h))
    comes-to end (While point condition body place) to path later (turned, through, inr h) =
        (moved_path move turned, through-to (While point condition body place) path turned through, inr (comes_all-to end body to turned later h))
    comes-to end (Return point value) to path later (inl h) = inl (at-to point to path later h)
    comes-to end (Return point value) to path later (inr h) = inr (at-to end to path later h)
    comes-to end (Print point value place) to path later h = at-to point to path later h
    comes-to end (Call point method args place) to path later h = at-to point to path later h
    comes-to end (Make point future task args is_spawn future_place place) to path later h = at-to point to path later h
    comes-to end (Wait point future join into place) to path later h = at-to point to path later h

    comes_all-to : (end : ℕ) (ss : Statements) (to : ℕ) (path later : Path) → ComesAll end ss to path later → ComesAll end (moved_statements move ss) to (moved_path move path) (moved_path move later)
    comes_all-to end no_more to path later h = absurd h
    comes_all-to end (statement first others) to path later (inl h) = inl (comes-to end first to path later h)
    comes_all-to end (statement first others) to path later (inr h) =
        inr (moved_path move h.0, through-to first path h.0 h.1, comes_all-to end others to h.0 later h.2)

    comes_one-to : (end : ℕ) (arms : Arms) (to : ℕ) (path later : Path) → ComesOne end arms to path later → ComesOne end (moved_arms move arms) to (moved_path move path) (moved_path move later)
    comes_one-to end (arm condition body others) to path later (inl h) = inl (comes_all-to end body to path later h)
    comes_one-to end (arm condition body others) to path later (inr h) = inr (comes_one-to end others to path later h)
    comes_one-to end (otherwise body) to path later h = comes_all-to end body to path later h
    comes_one-to end no_else to path later h = absurd h

  mutual
    comes-from : (end : ℕ) (s : Statement) (to : ℕ) (path later : Path) → Comes end (moved_statement move s) to (moved_path move path) later → Comes_from (Comes end s to path) later
    comes-from end (Block point body) to path later (inl h) = let found = at-from point to path later h in (found.0, inl found.1, found.2)
    comes-from end (Block point body) to path later (inr h) = let found = comes_all-from end body to path later h in (found.0, inr found.1, found.2)
    comes-from end (Let point var value) to path later h = at-from point to path later h
    comes-from end (Set point var value) to path later h = at-from point to path later h
    comes-from end (SetCell point cell value place) to path later h = at-from point to path later h
    comes-from end (SetArray point array index value place) to path later h = at-from point to path later h
    comes-from end (SetGrid point array row column value place) to path later h = at-from point to path later h
    comes-from end (If point arms) to path later (inl h) = let found = at-from point to path later h in (found.0, inl found.1, found.2)
    comes-from end (If point arms) to path later (inr h) = let found = comes_one-from end arms to path later h in (found.0, inr found.1, found.2)
    comes-from end (While point condition body place) to path later (turned, through, inl h) =
        let one = through-from (While point condition body place) path turned through in
        let found = at-from point to one.0 later (subst (λ (from : Path). IsAt point to from later) (sym one.2) h) in
        (found.0, (one.0, one.1, inl found.1), found.2)
    comes-from end (While point condition body place) to path later (turned, through, inr h) =
        let one = through-from (While point condition body place) path turned through in
        let found = comes_all-from end body to one.0 later (subst (λ (from : Path). ComesAll end (moved_statements move body) to from later) (sym one.2) h) in
        (found.0, (one.0, one.1, inr found.1), found.2)
    comes-from end (Return point value) to path later (inl h) = let found = at-from point to path later h in (found.0, inl found.1, found.2)
    comes-from end (Return point value) to path later (inr h) = let found = at-from end to path later h in (found.0, inr found.1, found.2)
    comes-from end (Print point value place) to path later h = at-from point to path later h
    comes-from end (Call point method args place) to path later h = at-from point to path later h
    comes-from end (Make point future task args is_spawn future_place place) to path later h = at-from point to path later h
    comes-from end (Wait point future join into place) to path later h = at-from point to path later h

    comes_all-from : (end : ℕ) (ss : Statements) (to : ℕ) (path later : Path) → ComesAll end (moved_statements move ss) to (moved_path move path) later → Comes_from (ComesAll end ss to path) later
    comes_all-from end no_more to path later h = absurd h
    comes_all-from end (statement first others) to path later (inl h) = let found = comes-from end first to path later h in (found.0, inl found.1, found.2)
    comes_all-from end (statement first others) to path later (inr h) =
        let one = through-from first path h.0 h.1 in
        let more = comes_all-from end others to one.0 later (subst (λ (between : Path). ComesAll end (moved_statements move others) to between later) (sym one.2) h.2) in
        (more.0, inr (one.0, one.1, more.1), more.2)

    comes_one-from : (end : ℕ) (arms : Arms) (to : ℕ) (path later : Path) → ComesOne end (moved_arms move arms) to (moved_path move path) later → Comes_from (ComesOne end arms to path) later
    comes_one-from end (arm condition body others) to path later (inl h) = let found = comes_all-from end body to path later h in (found.0, inl found.1, found.2)
    comes_one-from end (arm condition body others) to path later (inr h) = let found = comes_one-from end others to path later h in (found.0, inr found.1, found.2)
    comes_one-from end (otherwise body) to path later h = comes_all-from end body to path later h
    comes_one-from end no_else to path later h = absurd h

  path-to : (body : Body) (to : ℕ) (path : Path) → ControlPath body to path → ControlPath (moved_body move body) to (moved_path move path)
  path-to body to path (inl h) = inl (comes_all-to (end_of body) body.block to [] path h)
  path-to body to path (inr h) = inr (h.0, all-to body.block [] path h.1)

  path-from : (body : Body) (to : ℕ) (path : Path) → ControlPath (moved_body move body) to path → Comes_from (ControlPath body to) path
  path-from body to path (inl h) = let found = comes_all-from (end_of body) body.block to [] path h in (found.0, inl found.1, found.2)
  path-from body to path (inr h) = let found = all-from body.block [] path h.1 in (found.0, inr (h.0, found.1), found.2)

  -- whether a future is out does not depend on places
  same_puts : (f : ℕ) (s : Statement) → puts_out f (moved_statement move s) ≡ puts_out f s
  same_puts f (Block point body) = refl
  same_puts f (Let point var value) = refl
  same_puts f (Set point var value) = refl
  same_puts f (SetCell point cell value place) = refl
  same_puts f (SetArray point array index value place) = refl
  same_puts f (SetGrid point array row column value place) = refl
  same_puts f (If point arms) = refl
  same_puts f (While point condition body place) = refl
  same_puts f (Return point value) = refl
  same_puts f (Print point value place) = refl
  same_puts f (Call point method args place) = refl
  same_puts f (Make point future task args is_spawn future_place place) = refl
  same_puts f (Wait point future join into place) = refl

  same_takes : (f : ℕ) (s : Statement) → takes_in f (moved_statement move s) ≡ takes_in f s
  same_takes f (Block point body) = refl
  same_takes f (Let point var value) = refl
  same_takes f (Set point var value) = refl
  same_takes f (SetCell point cell value place) = refl
  same_takes f (SetArray point array index value place) = refl
  same_takes f (SetGrid point array row column value place) = refl
  same_takes f (If point arms) = refl
  same_takes f (While point condition body place) = refl
  same_takes f (Return point value) = refl
  same_takes f (Print point value place) = refl
  same_takes f (Call point method args place) = refl
  same_takes f (Make point future task args is_spawn future_place place) = refl
  same_takes f (Wait point future join into place) = refl

  same_out : (f : ℕ) (path : Path) → out_after f (moved_path move path) ≡ out_after f path
  same_out f [] = refl
  same_out f (s ∷ earlier) =
      ap (λ (b : Bool). b || (not (takes_in f (moved_statement move s)) && out_after f (moved_path move earlier))) (same_puts f s)
      ∙ ap (λ (b : Bool). puts_out f s || (not b && out_after f (moved_path move earlier))) (same_takes f s)
      ∙ ap (λ (b : Bool). puts_out f s || (not (takes_in f s) && b)) (same_out f earlier)

  pub may-to : (body : Body) (point f : ℕ) → MayBeOut body point f → MayBeOut (moved_body move body) point f
  may-to body point f h = (moved_path move h.0, path-to body point h.0 h.1, same_out f h.0 ∙ h.2)

  pub may-from : (body : Body) (point f : ℕ) → MayBeOut (moved_body move body) point f → MayBeOut body point f
  may-from body point f h =
      let found = path-from body point h.0 h.1 in
      (found.0, found.1, sym (same_out f found.0) ∙ ap (out_after f) found.2 ∙ h.2)

  pub surely-to : (body : Body) (point f : ℕ) → SurelyOut body point f → SurelyOut (moved_body move body) point f
  surely-to body point f out path control =
      let found = path-from body point path control in
      ap (out_after f) (sym found.2) ∙ same_out f found.0 ∙ out found.0 found.1

  pub surely-from : (body : Body) (point f : ℕ) → SurelyOut (moved_body move body) point f → SurelyOut body point f
  surely-from body point f out path control = sym (same_out f path) ∙ out (moved_path move path) (path-to body point path control)
