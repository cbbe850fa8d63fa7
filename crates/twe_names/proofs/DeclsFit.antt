-- What a declaration means fits, where it keeps the rules of names.
use Rattle.std.proofs.Common.{◌≡◌, ◌≤◌, ℕ, ◌+◌, Bool, true, false, List, [], ◌∷◌, ◌++◌, length, refl, sym, ap₂, ◌∙◌, arith, append-nil, length-append}
use Rattle.std.specs.List.{AllByRecursion, flat_map}
use Rattle.std.proofs.lemmas.List.{length-map}
use Rattle.std.proofs.lemmas.Bool.{and_parts, false≢true}
use Rattle.twe_base.specs.Language.{max_effects, max_parameters, max_path_elements}
use Rattle.twe_ast.specs.declared.item.Clause.{Clause}
use Rattle.twe_ast.specs.declared.item.Decl.{Decl}
use Rattle.twe_ast.specs.declared.name.Name.{Name}
use Rattle.twe_ast.specs.declared.path.Path.{Path}
use Rattle.twe_ast.specs.Statement.{Statement, Block, Let, Set, SetArray, SetGrid, If, While, Return, Print, Call, Make, Wait, LetWait, Statements, end_of_block, statement, Arms, arm, otherwise, no_else}
use Rattle.twe_program.specs.Program.{Program}
use Rattle.twe_program.specs.Numbering.{Declared, futures_of_all}
use Rattle.twe_program.specs.WellFormed.{IsNumbered, DeclFits, MethodFits}
use Rattle.name_check.specs.declared.names.GlobalName.{GlobalName}
use Rattle.name_check.specs.declared.scope.BodyScope.{BodyScope}
use Rattle.name_check.specs.BodyScope.{counted_binding, after, after_all, after_arms, after_block, params_from, params_of}
use Rattle.name_check.specs.Sites.{sites_at, sites_of_params, sites_in_all, sites_of_decl, at_body, asks_of_clause}
use Rattle.name_check.specs.Limits.{paths_of}
use Rattle.twe_names.specs.FromText.{makes_none, all_make_none, arms_make_none}
use Rattle.twe_names.specs.PathMeaning.{effects_of_clause}
use Rattle.twe_names.specs.BodyMeaning.{statements_of}
use Rattle.twe_names.specs.Meaning.{returns_value, declared_body, decl_of}
use Rattle.twe_names.proofs.Lists.{all-front, all-back}
use Rattle.twe_names.proofs.Numbered.{numbered_all}
use Rattle.twe_names.proofs.Clean.{SiteClean, AllClean, asks-clean}
use Rattle.twe_names.proofs.There.{GlobalsThere, AllLocalsThere}
use Rattle.twe_names.proofs.PathsFit.{clauses-fit}
use Rattle.twe_names.proofs.StatementsFit.{statements-fit}
use Rattle.twe_names.proofs.Assigned.{params-free, all-set}
use Rattle.twe_names.proofs.Waits.{params-made, all-follow}

-- a declaration keeps the limits on parameters, effects and the elements of paths
pub record KeepsLimits (decl : Decl) : Type 0 where
  pub params : length decl.params ≤ max_parameters
  pub effects : length (paths_of decl) ≤ max_effects
  pub paths : AllByRecursion (λ (path : Path). length path.elems ≤ max_path_elements) (paths_of decl)

params-there : (p : Program) (vars : ℕ) (futures : List Declared) (number : ℕ) (names : List Name) → number + length names ≤ vars
    → AllLocalsThere p vars futures (params_from number names)
params-there p vars futures number [] h = tt
params-there p vars futures number (name ∷ names) h = (omega arith, params-there p vars futures (number + 1) names (omega arith))

module _ (globals : List GlobalName) where
  effects-length : (decl : Decl) (clauses : List Clause)
      → length (flat_map (effects_of_clause globals (params_of decl)) clauses) ≡ length (flat_map (λ (clause : Clause). clause.paths) clauses)
  effects-length decl [] = refl
  effects-length decl (clause ∷ clauses) =
      let one = effects_of_clause globals (params_of decl) clause in
      let more = flat_map (effects_of_clause globals (params_of decl)) clauses in
      let others = flat_map (λ (c : Clause). c.paths) clauses in
      length-append one more ∙ ap₂ (λ a b. a + b) (length-map clause.paths _) (effects-length decl clauses) ∙ sym (length-append clause.paths others)

  mutual
    made-none : (here : BodyScope) (s : Statement) → makes_none s ≡ true → (after globals here s).futures ≡ here.futures
    made-none here (Block body) h = made-none_all (counted_binding here) body h
    made-none here (Let is_final local_type name value) h = refl
    made-none here (Set name value) h = refl
    made-none here (SetArray array index value) h = refl
    made-none here (SetGrid array row column value) h = refl
    made-none here (If arms) h = made-none_arms (counted_binding here) arms h
    made-none here (While place condition body) h = made-none_all (counted_binding here) body h
    made-none here (Return place value) h = refl
    made-none here (Print place value) h = refl
    made-none here (Call method args) h = refl
    made-none here (Make future task spawned args) h = absurd (false≢true h)
    made-none here (Wait wait) h = refl
    made-none here (LetWait is_final name wait) h = refl

    made-none_all : (here : BodyScope) (s : Statements) → all_make_none s ≡ true → (after_all globals here s).futures ≡ here.futures
    made-none_all here (end_of_block close) h = refl
    made-none_all here (statement first others) h =
        let both = and_parts (makes_none first) (all_make_none others) h in
        made-none_all (after globals here first) others both.1 ∙ made-none here first both.0

    made-none_arms : (here : BodyScope) (s : Arms) → arms_make_none s ≡ true → (after_arms globals here s).futures ≡ here.futures
    made-none_arms here (arm condition body others) h =
        let both = and_parts (all_make_none body) (arms_make_none others) h in
        made-none_arms (after_block globals here body) others both.1 ∙ made-none_all here body both.0
    made-none_arms here (otherwise body) h = made-none_all here body h
    made-none_arms here no_else h = refl

  body-numbered : (decl : Decl) → IsNumbered (length decl.params) (declared_body globals decl)
  body-numbered decl =
      let n = numbered_all globals (at_body decl) decl.body in
      record {
        points = n.points_up;
        point_count = omega (arith, n.points_end);
        locals = n.locals_up;
        var_count = n.locals_end;
        futures = n.futures_up;
        future_count = omega (arith, n.futures_end);
      }

  module _ (p : Program) (globals_there : GlobalsThere p globals) where
    pub decl-fits : (deterministic : Bool) (decl : Decl) → KeepsLimits decl → AllClean globals (sites_of_decl globals decl)
        → DeclFits p (decl_of globals deterministic decl)
    decl-fits deterministic decl limits clean =
        let P = SiteClean globals in
        let params = sites_of_params decl.returns [] 0 decl.params in
        let asks = flat_map asks_of_clause decl.effects in
        let effects = sites_at (params_of decl) decl.returns asks in
        let body = sites_in_all globals decl.returns (at_body decl) decl.body in
        let later = all-back P params (effects ++ body) clean in
        let end = after_all globals (at_body decl) decl.body in
        let futures = futures_of_all (statements_of globals (at_body decl) decl.body) in
        let n = numbered_all globals (at_body decl) decl.body in
        let clean_body = all-back P effects body later in
        let enough : 0 + length decl.params ≤ end.vars = omega (arith, n.locals_end) in
        record {
          few = limits.params;
          summary = record {
            effects =
                clauses-fit p globals globals_there (params_of decl) (length decl.params) (params-there p (length decl.params) [] 0 decl.params (omega arith)) decl.returns
                decl.effects limits.paths (asks-clean globals (params_of decl) decl.returns asks (all-front P effects body later));
            few = omega (arith, effects-length decl decl.effects, limits.effects);
          };
          numbered = body-numbered decl;
          body =
              statements-fit p end.vars futures (returns_value decl.returns) globals globals_there decl.returns refl (at_body decl) decl.body
              (params-there p end.vars futures 0 decl.params enough)
              (record { vars_fit = omega arith; before = []; after = []; list = sym (append-nil futures); many = refl })
              clean_body;
          assigned =
              all-set globals decl.returns (length decl.params) (at_body decl) decl.body (params-free (length decl.params) 0 decl.params) (omega arith) clean_body;
          waits = all-follow globals decl.returns (λ f. false) (at_body decl) decl.body (params-made (λ f. false) 0 decl.params) clean_body;
        }

    pub method-fits : (decl : Decl) → KeepsLimits decl → AllClean globals (sites_of_decl globals decl) → all_make_none decl.body ≡ true
        → MethodFits p (decl_of globals false decl)
    method-fits decl limits clean none = record {
      fits = decl-fits false decl limits clean;
      no_futures = made-none_all (at_body decl) decl.body none;
      plain = refl;
    }
