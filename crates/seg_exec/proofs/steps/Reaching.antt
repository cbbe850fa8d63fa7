-- Steps of the evaluator over cells of any kind, one after another.
use Rattle.std.proofs.Common.{◌≡◌, ℕ, suc, ℤ, List, [], ◌∷◌, ◌++◌, None, Some, refl, sym, ap, ◌∙◌, subst, append_assoc, zero, arith}
use Rattle.std.proofs.lemmas.List.{append-nil}
use Rattle.twe_program.specs.Program.{Program}
use Rattle.seg_exec.specs.declared.steps.request.Request.{Request}
use Rattle.seg_exec.specs.declared.steps.request.Request.TheVariants.{Nothing, Read, Write, Print, End}
use Rattle.seg_exec.specs.declared.steps.request.Ending.{Ending}
use Rattle.seg_meaning.specs.Access.{Access, Reads, Writes, Prints, MayAll, MaySame, Ways, after, printed}
use Rattle.seg_meaning.specs.Store.{Store}
use Rattle.seg_exec.specs.inner.steps.Continuations.{Config, with_operand}
use Rattle.seg_exec.specs.inner.steps.Steps.{Step, step_of}
use Rattle.seg_exec.specs.inner.steps.Runs.{Moment, Over, Comes, run, served, stepped, store_of}
use Rattle.seg_exec.specs.inner.steps.Reached.{Standing, Served, Advances, MayRequest, MayGoOn, MayStep, Reaches, Finishes, over}
use Rattle.seg_exec.proofs.steps.Whole.{over_from}
use Rattle.seg_exec.proofs.steps.Witnesses.{no_witness_needed, witness_printed, witness_read, witness_written}
use Rattle.seg_exec.proofs.steps.Simulation.{stays, onward}

module _ {C : Type 0} (p : Program) (ways : Ways C) where
  pub reaches_none : (start : Standing C) → Reaches p ways start start
  reaches_none start = record {
    accesses = [];
    follows = refl;
    prints = sym (append-nil start.prints);
    same = record { read = λ k. (λ h. h, λ h. h); write = λ k. (λ h. h, λ h. h) };
    witness = no_witness_needed (ways.known start.cells);
    comes = λ cells agrees. stays p (over start.config cells []);
  }

  may_same : (a b c : C) → MaySame ways a b → MaySame ways b c → MaySame ways a c
  may_same a b c first second = record {
    read = λ k. (λ h. (second.read k).0 ((first.read k).0 h), λ h. (first.read k).1 ((second.read k).1 h));
    write = λ k. (λ h. (second.write k).0 ((first.write k).0 h), λ h. (first.write k).1 ((second.write k).1 h));
  }

  -- one step more, over a list of cells
  step_on : (from : Moment) (config : Config) (cells : List ℤ) (accesses : List Access) (step : Step) (to : Moment) → step_of p config ≡ step
      → Comes p from (over config cells accesses) → ((k : ℕ) → stepped (run p k) step (over config cells accesses) ≡ run p k to) → Comes p from to
  step_on from config cells accesses step to is comes e =
      onward p from (over config cells accesses) to comes (record { by = λ k. (suc k, omega arith, ap (λ (s : Step). stepped (run p k) s (over config cells accesses)) is ∙ e k) })

  on_served : (old mid new : Standing C) (request : Request) (config : Config) → Reaches p ways old mid → step_of p mid.config ≡ (request, config)
      → Served ways request (record mid { config = config }) None new → Reaches p ways old new
  on_served old mid new Nothing config r is h =
      subst (λ (s : Standing C). Reaches p ways old s) (sym h.1) (record {
        accesses = r.accesses;
        follows = r.follows;
        prints = r.prints;
        same = r.same;
        witness = r.witness;
        comes = λ cells agrees. step_on _ mid.config cells r.accesses (Nothing, config) (over config cells r.accesses) is (r.comes cells agrees) (λ k. refl);
      })
  on_served old mid new (Read cell) config r is h =
      let all = Reads cell h.0 ∷ r.accesses in
      record {
        accesses = all;
        follows = (mid.cells, r.follows, h.3.rule);
        prints = h.4 ∙ r.prints;
        same = may_same old.cells mid.cells new.cells r.same h.3.same;
        witness = witness_read (ways.known mid.cells) (ways.known new.cells) r.accesses cell h.0 r.witness h.3.answer h.3.known;
        comes = λ cells agrees.
            subst (λ (c : Config). Comes p (over old.config cells []) (over c cells all)) (sym h.2)
            (step_on _ mid.config cells r.accesses (Read cell, config) (over (with_operand h.0 config) cells all) is (r.comes cells agrees.0)
            (λ k. ap (λ (v : ℤ). run p k (record { config = with_operand v config; cells = after cells r.accesses; accesses = Reads cell v ∷ r.accesses })) agrees.1));
      }
  on_served old mid new (Write cell value) config r is h =
      let all = Writes cell value ∷ r.accesses in
      record {
        accesses = all;
        follows = (mid.cells, r.follows, h.2.rule);
        prints = h.3 ∙ r.prints;
        same = may_same old.cells mid.cells new.cells r.same h.2.same;
        witness = witness_written (ways.known mid.cells) (ways.known new.cells) r.accesses cell value r.witness h.2.known;
        comes = λ cells agrees.
            subst (λ (c : Config). Comes p (over old.config cells []) (over c cells all)) (sym h.1)
            (step_on _ mid.config cells r.accesses (Write cell value, config) (over config cells all) is (r.comes cells agrees) (λ k. refl));
      }
  on_served old mid new (Print value) config r is h =
      subst (λ (s : Standing C). Reaches p ways old s) (sym h.1) (record {
        accesses = Prints value ∷ r.accesses;
        follows = r.follows;
        prints = ap (λ (prints : List ℤ). prints ++ value ∷ []) r.prints ∙ append_assoc old.prints (printed r.accesses) (value ∷ []);
        same = r.same;
        witness = witness_printed (ways.known mid.cells) r.accesses value r.witness;
        comes = λ cells agrees. step_on _ mid.config cells r.accesses (Print value, config) (over config cells (Prints value ∷ r.accesses)) is (r.comes cells agrees) (λ k. refl);
      })
  on_served old mid new (End last) config r is h = let none = h.0 in absurd (cc)

  pub reaches_on : (old mid new : Standing C) → Reaches p ways old mid → Advances p ways mid None new → Reaches p ways old new
  reaches_on old mid new r h = on_served old mid new (step_of p mid.config).0 (step_of p mid.config).1 r refl h

  end_served : (old mid new : Standing C) (ending : Ending) (request : Request) (config : Config) → Reaches p ways old mid → step_of p mid.config ≡ (request, config)
      → Served ways request (record mid { config = config }) (Some ending) new → Finishes p ways old ending new
  end_served old mid new ending (End last) config r is h =
      let same : last ≡ ending = cc in
      subst (λ (s : Standing C). Finishes p ways old ending s) (sym h.1) (record {
        accesses = r.accesses;
        follows = r.follows;
        prints = r.prints;
        ends = λ cells agrees.
            let x = (r.comes cells agrees).by 1 in
            (x.0, x.2 ∙ ap (λ (s : Step). stepped (run p 0) s (over mid.config cells r.accesses)) is ∙ ap (λ (e : Ending). Over e (store_of (over config cells r.accesses))) same);
      })
  end_served old mid new ending Nothing config r is h = let none = h.0 in absurd (cc)
  end_served old mid new ending (Read cell) config r is h = let none = h.1 in absurd (cc)
  end_served old mid new ending (Write cell value) config r is h = let none = h.0 in absurd (cc)
  end_served old mid new ending (Print value) config r is h = let none = h.0 in absurd (cc)

  pub finishes : (old mid new : Standing C) (ending : Ending) → Reaches p ways old mid → Advances p ways mid (Some ending) new → Finishes p ways old ending new
  finishes old mid new ending r h = end_served old mid new ending (step_of p mid.config).0 (step_of p mid.config).1 r refl h

  -- the accesses so far are among those up to the end
  earlier_served : (cells : C) (n : ℕ) → ((m : Moment) (ending : Ending) (end : Store) → run p n m ≡ Over ending end → MayAll ways cells end.accesses → MayAll ways cells m.accesses)
      → (request : Request) (m : Moment) (ending : Ending) (end : Store) → served (run p n) request m ≡ Over ending end → MayAll ways cells end.accesses → MayAll ways cells m.accesses
  earlier_served cells n before Nothing m ending end e h = before m ending end e h
  earlier_served cells n before (Read cell) m ending end e h = (before _ ending end e h).1
  earlier_served cells n before (Write cell value) m ending end e h = (before _ ending end e h).1
  earlier_served cells n before (Print value) m ending end e h = before _ ending end e h
  earlier_served cells n before (End last) m ending end e h =
      let same : store_of m ≡ end = cc in
      subst (λ (s : Store). MayAll ways cells s.accesses) (sym same) h

  earlier : (cells : C) (n : ℕ) (m : Moment) (ending : Ending) (end : Store) → run p n m ≡ Over ending end → MayAll ways cells end.accesses → MayAll ways cells m.accesses
  earlier cells zero m ending end e h = absurd (cc)
  earlier cells (suc n) m ending end e h =
      earlier_served cells n (earlier cells n) (step_of p m.config).0 (record m { config = (step_of p m.config).1 }) ending end e h

  -- what the next step asks for is among them
  next_served : (cells : C) (n : ℕ) (request : Request) (m : Moment) (ending : Ending) (end : Store) → served (run p n) request m ≡ Over ending end → MayAll ways cells end.accesses → MayRequest ways cells request
  next_served cells n Nothing m ending end e h = tt
  next_served cells n (Read cell) m ending end e h = (earlier cells n _ ending end e h).0
  next_served cells n (Write cell value) m ending end e h = (earlier cells n _ ending end e h).0
  next_served cells n (Print value) m ending end e h = tt
  next_served cells n (End last) m ending end e h = tt

  next_may : (cells : C) (n : ℕ) (m : Moment) (ending : Ending) (end : Store) → run p n m ≡ Over ending end → MayAll ways cells end.accesses → MayRequest ways cells (step_of p m.config).0
  next_may cells zero m ending end e h = absurd (cc)
  next_may cells (suc n) m ending end e h = next_served cells n (step_of p m.config).0 (record m { config = (step_of p m.config).1 }) ending end e h

  ask_later : (old new : C) (request : Request) → MaySame ways old new → MayRequest ways old request → MayRequest ways new request
  ask_later old new Nothing same h = tt
  ask_later old new (Read cell) same h = (same.read cell).0 h
  ask_later old new (Write cell value) same h = (same.write cell).0 h
  ask_later old new (Print value) same h = tt
  ask_later old new (End last) same h = tt

  pub may_step : (old mid : Standing C) → MayGoOn p ways old → Reaches p ways old mid → MayStep p ways mid
  may_step old mid may r =
      let cells = r.witness.cells in
      let m = may cells in
      let over_there = over_from p (over old.config cells []) (over mid.config cells r.accesses) m.0 (Over m.1 m.2) tt (r.comes cells r.witness.agrees) m.3 in
      ask_later old.cells mid.cells (step_of p mid.config).0 r.same (next_may old.cells m.0 (over mid.config cells r.accesses) m.1 m.2 over_there m.4)
