-- Each state that a node comes to is safe, where all that follow its beginning are so under each oracle: the values
-- that it was
-- given are those of one.
use Rattle.std.proofs.Common.{◌≡◌, ℕ, suc, ◌+◌, ◌<◌, List, [], ◌∷◌, ◌++◌, Option, Some, None, true, slice_get, refl, sym, ap, ◌∙◌, subst, arith}
use Rattle.std.proofs.lemmas.List.{map-append}
use Rattle.sc_base.specs.declared.value.Place.{Place}
use Rattle.sc_base.specs.declared.value.Value.{Value}
use Rattle.sc_base.specs.declared.value.Value.TheVariants.{Null}
use Rattle.sc_isa.specs.declared.access.Access.{Access}
use Rattle.sc_isa.specs.declared.access.Access.TheVariants as access
use Rattle.sc_isa.specs.declared.access.Track.TheVariants as tracks
use Rattle.sc_isa.specs.declared.code.FnRow.{FnRow}
use Rattle.sc_isa.specs.declared.op.Op.{Op}
use Rattle.sc_isa.specs.declared.op.Op.TheVariants as op
use Rattle.sc_isa.specs.Fitting.{fits, fits_all}
use Rattle.sc_isa.specs.State.{Flight, State, reads_on, without_reads_on, landed}
use Rattle.sc_isa.specs.Moves.{After, GoesOn, Ends, Sticks, Move, Comes, Issues, Waits, Meets, Says}
use Rattle.sc_isa.specs.Table.{step_of}
use Rattle.sc_isa.specs.Begin.{entry, begin, begins_at}
use Rattle.sc_isa.specs.Sound.{Leads, IsAfter, Reached, begun, then_, CanGoOn, IsDone, IsPlacedMove}
use Rattle.emit_laws.proofs.Parts.{Setup}
use Rattle.emit_laws.proofs.Ghosts.{Token, on_counter}
use Rattle.emit_laws.proofs.Masks.{flight_of, flights, reads_flights, without_flights}
use Rattle.code_soundness.proofs.Nexts.{flown_by, LeadsTo, AfterIs, MoveIs, instr_is}
use Rattle.code_soundness.proofs.Safe.{Been, issued_by, waited_by, SafeAfter, SafeMove, Safe}
use Rattle.code_soundness.proofs.Landings.{Rising, OutOf, FitIn, raised, added, rising_without, out_without, out_on, out_more, given_to, given_else, fit_yet, lands_given, fit_landed, fit_front, fit_last, fit_with, some_fits}

abbrev Any : ℕ → Type 0
Any x = Unit {0}

leads_anywhere : (next : ℕ) (o : Op) → LeadsTo Any next o
leads_anywhere next (op.Zero target) = (tt, tt)
leads_anywhere next op.Turn = λ x. tt
leads_anywhere next (op.Call function) = λ x. tt
leads_anywhere next op.Ret = λ x. tt
leads_anywhere next _ = tt

-- they agree on the reads that have landed
abbrev pub Agrees : (value other : ℕ → Value) → Been → Type 0
Agrees value other b = (n : ℕ) → n < b.accesses → OutOf n b.flying → other n ≡ value n

module _ (c : Setup) where
  -- `Keeps` holds for an oracle, and for each that agrees with it on the reads that have landed, where those in
  -- flight fit
  pub record Chosen (b : Been) (Keeps : (other : ℕ → Value) → ℕ → Type 0) : Type 0 where
    pub rising : Rising 0 b.accesses b.flying
    pub value : ℕ → Value
    pub fit : FitIn c.here.layout value b.flying
    pub kept : (other : ℕ → Value) → Agrees value other b → FitIn c.here.layout other b.flying → (n : ℕ) → Keeps other n

  pub itself : (b : Been) (Keeps : (other : ℕ → Value) → ℕ → Type 0) (h : Chosen b Keeps) (n : ℕ) → Keeps h.value n
  itself b Keeps h n = h.kept h.value (λ m lt out. refl) h.fit n

  pub record Stage (s : State) : Type 0 where
    pub been : Been
    pub same : s.flying ≡ flights been.flying
    pub chosen : Chosen been (λ other n. Safe c other n been s)

  -- ---- an access

  read_with : (b : Been) (place : Place) (counter : ℕ) (after : After) (v : Value) → fits c.here.layout place v ≡ true
      → Chosen b (λ other n. SafeMove c other (Safe c other n) b
      (Issues (access.Read place (tracks.Counter counter)) after))
      → Chosen (issued_by (access.Read place (tracks.Counter counter)) b)
      (λ other n. SafeAfter c other (Safe c other n) (issued_by (access.Read place (tracks.Counter counter)) b) after)
  read_with b place counter after v fit h =
      let t : Token = record { order = b.accesses; counter = counter; place = place } in record {
        rising = added 0 b.accesses b.flying t refl h.rising;
        value = given_to (t ∷ []) (v ∷ []) h.value;
        fit = fit_with c.here.layout h.value 0 b.accesses b.flying t v refl h.rising fit h.fit;
        kept = λ other agree fits_ n.
            (h.kept other
            (λ m lt out.
            let apart : (m ≡ b.accesses → ⊥) = λ e. omega (arith, e, lt) in
            agree m (omega (arith, lt)) (out_more m b.flying t apart out) ∙ given_else (t ∷ []) (v ∷ []) h.value m
            (apart, tt))
            (fit_front c.here.layout other b.flying t fits_) n).1
            (fit_last c.here.layout other b.flying t fits_);
      }

  read_chosen : (b : Been) (place : Place) (counter : ℕ) (after : After)
      → Chosen b (λ other n. SafeMove c other (Safe c other n) b
      (Issues (access.Read place (tracks.Counter counter)) after))
      → Chosen (issued_by (access.Read place (tracks.Counter counter)) b)
      (λ other n. SafeAfter c other (Safe c other n) (issued_by (access.Read place (tracks.Counter counter)) b) after)
  read_chosen b place counter after h =
      let here = (itself b (λ other n. SafeMove c other (Safe c other n) b
      (Issues (access.Read place (tracks.Counter counter)) after)) h 0).0 in
      let v = some_fits c.here.layout place here in
      read_with b place counter after v.0 v.1 h

  -- no value is read
  abbrev Made : Been → Been
  Made b = record { accesses = suc b.accesses; flying = b.flying }

  made_chosen : (b : Been) (Keeps Other : (other : ℕ → Value) → ℕ → Type 0)
      → ((other : ℕ → Value) (n : ℕ) → Keeps other n → Other other n)
      → Chosen b Keeps → Chosen (Made b) Other
  made_chosen b Keeps Other f h = record {
    rising = raised 0 b.accesses b.flying h.rising;
    value = h.value;
    fit = h.fit;
    kept = λ other agree fits_ n. f other n (h.kept other (λ m lt out. agree m (omega (arith, lt)) out) fits_ n);
  }

  issue_chosen : (b : Been) (a : Access) (after : After)
      → Chosen b (λ other n. SafeMove c other (Safe c other n) b (Issues a after))
      → Chosen (issued_by a b) (λ other n. SafeAfter c other (Safe c other n) (issued_by a b) after)
  issue_chosen b (access.Read place (tracks.Counter counter)) after h = read_chosen b place counter after h
  issue_chosen b (access.Read place tracks.Covered) after h = made_chosen b _ _ (λ other n k. k.1 tt) h
  issue_chosen b (access.Read place tracks.Store) after h = made_chosen b _ _ (λ other n k. k.1 tt) h
  issue_chosen b (access.Write place v track) after h = made_chosen b _ _ (λ other n k. k.1 tt) h
  issue_chosen b (access.Copy from to cells track) after h = made_chosen b _ _ (λ other n k. k.1 tt) h

  flown_same : (b : Been) (a : Access) (flying : List Flight) → flying ≡ flights b.flying
      → flown_by a flying ≡ flights (issued_by a b).flying
  flown_same b (access.Read place (tracks.Counter counter)) flying e =
      let t : Token = record { order = b.accesses; counter = counter; place = place } in
      ap (λ fl. fl ++ flight_of t ∷ []) e ∙ sym (map-append flight_of b.flying (t ∷ []))
  flown_same b (access.Read place tracks.Covered) flying e = e
  flown_same b (access.Read place tracks.Store) flying e = e
  flown_same b (access.Write place v track) flying e = e
  flown_same b (access.Copy from to cells track) flying e = e

  -- ---- a wait

  wait_chosen : (b : Been) (counter : ℕ) (s : State) (vs : List Value) → s.flying ≡ flights b.flying
      → fits_all c.here.layout (reads_on counter s.flying) vs ≡ true
      → Chosen b (λ other n. SafeMove c other (Safe c other n) b (Waits counter s)) → Stage (landed counter vs s)
  wait_chosen b counter s vs same fit h =
      let places = ap (reads_on counter) same ∙ reads_flights counter b.flying in
      let fit_on = subst (λ ps. fits_all c.here.layout ps vs ≡ true) places fit in
      record {
        been = waited_by counter b;
        same = ap (without_reads_on counter) same ∙ without_flights counter b.flying;
        chosen = record {
          rising = rising_without counter 0 b.accesses b.flying h.rising;
          value = given_to (on_counter counter b.flying) vs h.value;
          fit = fit_yet c.here.layout h.value counter 0 b.accesses vs b.flying h.rising h.fit;
          kept = λ other agree rest n.
              let lands = lands_given c.here.layout h.value other counter b.accesses vs b.flying h.rising fit_on
              agree in
              subst (λ us. Safe c other n (waited_by counter b) (landed counter us s)) lands
              (h.kept other
              (λ m lt out. agree m lt (out_without m counter b.flying out)
              ∙ given_else (on_counter counter b.flying) vs h.value m (out_on m counter b.flying out))
              (fit_landed c.here.layout other counter vs b.flying fit_on lands rest) n
              (subst (λ us. fits_all c.here.layout (reads_on counter s.flying) us ≡ true) (sym lands) fit));
        };
      }

  -- ---- a step

  stage_of : (b : Been) (s next : State) → next ≡ s → s.flying ≡ flights b.flying
      → Chosen b (λ other n. Safe c other n b s) → Stage next
  stage_of b s next e same h = subst Stage (sym e) (record { been = b; same = same; chosen = h })

  after_stage : (b : Been) (flying : List Flight) (after : After) (next : State) → flying ≡ flights b.flying
      → AfterIs Any flying after
      → IsAfter after next → Chosen b (λ other n. SafeAfter c other (Safe c other n) b after) → Stage next
  after_stage b flying (GoesOn s) next e is leads h = stage_of b s next leads (is.1 ∙ e) h
  after_stage b flying (Ends end) next e is leads h = absurd leads
  after_stage b flying Sticks next e is leads h = absurd leads

  move_stage : (b : Been) (flying : List Flight) (move : Move) (next : State) → flying ≡ flights b.flying
      → MoveIs Any flying move
      → Leads c.here.layout move next → Chosen b (λ other n. SafeMove c other (Safe c other n) b move) → Stage next
  move_stage b flying (Comes after) next e is leads h = after_stage b flying after next e is leads h
  move_stage b flying (Issues a after) next e is leads h =
      after_stage (issued_by a b) (flown_by a flying) after next (flown_same b a flying e) is leads
      (issue_chosen b a after h)
  move_stage b flying (Waits counter s) next e is leads h =
      subst Stage (sym leads.next_is) (wait_chosen b counter s leads.values (is.1 ∙ e) leads.fit h)
  move_stage b flying (Meets stores s) next e is leads h = stage_of b s next leads (is.1 ∙ e) h
  move_stage b flying (Says text s) next e is leads h = stage_of b s next leads (is.1 ∙ e) h

  step_chosen : (s : State) (t : Stage s)
      → Chosen t.been (λ other n. SafeMove c other (Safe c other n) t.been (step_of c.code c.here.layout c.here.node s))
  step_chosen s t = record {
    rising = t.chosen.rising;
    value = t.chosen.value;
    fit = t.chosen.fit;
    kept = λ other agree fits_ n. t.chosen.kept other agree fits_ (suc n);
  }

  stage_on : (s next : State) → Stage s → Leads c.here.layout (step_of c.code c.here.layout c.here.node s) next
      → Stage next
  stage_on s next t leads =
      move_stage t.been s.flying (step_of c.code c.here.layout c.here.node s) next t.same
      (instr_is Any c.code c.here.layout c.here.node (slice_get c.code.instrs s.frame.at) s
      (λ i e. leads_anywhere (s.frame.at + 1) i.op))
      leads (step_chosen s t)

  -- ---- what is kept

  after_goes : (b : Been) (after : After) (value : ℕ → Value) → SafeAfter c value (Safe c value 0) b after
      → CanGoOn after
  after_goes b (GoesOn s) value h = tt
  after_goes b (Ends end) value h = tt
  after_goes b Sticks value h = absurd h

  move_done : (b : Been) (move : Move) → Chosen b (λ other n. SafeMove c other (Safe c other n) b move) → IsDone move
  move_done b (Comes after) h = after_goes b after h.value
      (itself b (λ other n. SafeMove c other (Safe c other n) b (Comes after)) h 0)
  move_done b (Issues a after) h =
      let k = issue_chosen b a after h in
      after_goes (issued_by a b) after k.value
      (itself (issued_by a b) (λ other n. SafeAfter c other (Safe c other n) (issued_by a b) after) k 0)
  move_done b (Waits counter s) h = tt
  move_done b (Meets stores s) h = tt
  move_done b (Says text s) h = tt

  move_placed : (b : Been) (move : Move) → Chosen b (λ other n. SafeMove c other (Safe c other n) b move)
      → IsPlacedMove c.here.layout move
  move_placed b (Comes after) h = tt
  move_placed b (Issues a after) h = (itself b (λ other n. SafeMove c other (Safe c other n) b (Issues a after)) h 0).0
  move_placed b (Waits counter s) h = tt
  move_placed b (Meets stores s) h = tt
  move_placed b (Says text s) h = tt

  module _ (budget : ℕ) (safe : (value : ℕ → Value) (n : ℕ)
      → Safe c value n (record { accesses = 0; flying = [] }) (begin c.code budget)) where
    begins_flying : (outside : ℕ) (row : Option FnRow) → (begins_at budget outside row).flying ≡ []
    begins_flying outside None = refl
    begins_flying outside (Some row) = refl

    first_stage : Stage (begin c.code budget)
    first_stage = record {
      been = record { accesses = 0; flying = [] };
      same = begins_flying _ (entry c.code);
      chosen = record { rising = omega arith; value = λ n. Null; fit = tt; kept = λ other agree fits_ n. safe other n };
    }

    stage : (s : State) → Reached c.code c.here.layout c.here.node budget s → Stage s
    stage s (begun s' e) = subst Stage (sym e) first_stage
    stage s (then_ before s' r leads) = stage_on before s (stage before r) leads

    pub goes_on : (s : State) → Reached c.code c.here.layout c.here.node budget s
        → IsDone (step_of c.code c.here.layout c.here.node s)
    goes_on s r = let t = stage s r in move_done t.been (step_of c.code c.here.layout c.here.node s) (step_chosen s t)

    pub placed : (s : State) → Reached c.code c.here.layout c.here.node budget s
        → IsPlacedMove c.here.layout (step_of c.code c.here.layout c.here.node s)
    placed s r = let t = stage s r in move_placed t.been (step_of c.code c.here.layout c.here.node s) (step_chosen s t)
