-- An instruction goes on in the code's run.
use Rattle.std.proofs.Common.{◌≡◌, Bool, ℕ, suc, ◌+◌, List, [], ◌++◌, refl, sym, ap, subst, ◌∙◌, append_assoc, arith}
use Rattle.std.proofs.lemmas.List.{append-nil}
use Rattle.resumption.specs.Resumption.{RunOf, Makes, Stops, after_text, run_of}
use Rattle.sc_base.specs.declared.value.End.{End}
use Rattle.sc_layout.specs.Layout.{Arrangement}
use Rattle.sc_isa.specs.declared.access.Access.{Access}
use Rattle.sc_isa.specs.declared.code.Code.{Code}
use Rattle.sc_isa.specs.State.{State, Flight}
use Rattle.sc_isa.specs.Moves as table
use Rattle.sc_isa.specs.Table.{step_of}
use Rattle.sc_isa.specs.Run.{Ask, Issue, Answer, Halt, Finish, NodeDoing, comes_to, asked_by, asks_from, code_run}
use Rattle.node_machine.specs.declared.machine.After.{After}
use Rattle.node_machine.specs.declared.machine.After.TheVariants as after
use Rattle.node_machine.specs.declared.machine.Machine.{Machine}
use Rattle.node_machine.specs.declared.machine.Move.{Move}
use Rattle.node_machine.specs.declared.machine.Move.TheVariants as move
use Rattle.node_machine.specs.declared.node.Standing.{Standing}
use Rattle.node_machine.proofs.Flies.{step_flies}
use Rattle.node_machine.specs.Flights.{flown_by, AfterFlies, MoveFlies}
use Rattle.node_machine.specs.View.{state_of, Counts, Stands, AfterDone, Stepped, IsAsBefore}
use Rattle.node_machine.specs.Course.{after as having, HasDone}
use Rattle.node_machine.specs.Standings.{rest_after, rest_of, StandsAfter, StandsBy, between, standing_by, standing_of, FliesAfter, FliesBy}

module _ (code : Code) (layout : Arrangement) (own : ℕ) where
  abbrev go : ℕ → State → NodeDoing
  go many s = asks_from code layout own many s

  -- what the machine comes to is what the table comes to
  record Came (comes : table.After) (made : After) (new : Machine) : Type 0 where
    pub state : State
    pub stands : StandsAfter made new state
    pub flies : (flying : List Flight) → AfterFlies flying comes → FliesAfter made flying state
    pub same : (many : ℕ) → comes_to (go many) comes ≡ rest_after code layout own made state many

  came : (comes : table.After) (made : After) (new : Machine) (else_ : State) → AfterDone comes made new
      → Came comes made new
  came (table.GoesOn s) after.GoesOn new else_ h =
      record { state = s; stands = h; flies = λ flying f. f; same = λ many. refl }
  came (table.GoesOn s) (after.Ends e) new else_ h = absurd h
  came (table.GoesOn s) after.Sticks new else_ h = absurd h
  came (table.Ends end) after.GoesOn new else_ h = absurd h
  came (table.Ends end) (after.Ends e) new else_ h =
      record { state = else_; stands = tt; flies = λ flying f. tt; same = λ many. ap (λ (x : End). Stops (Finish x)) h }
  came (table.Ends end) after.Sticks new else_ h = absurd h
  came table.Sticks after.GoesOn new else_ h = absurd h
  came table.Sticks (after.Ends e) new else_ h = absurd h
  came table.Sticks after.Sticks new else_ h =
      record { state = else_; stands = tt; flies = λ flying f. tt; same = λ many. refl }

  -- what was said by a move, and the state and the run that it leads to
  pub record Moved (next : table.Move) (made : Move) (new : Machine) (before now : List ℕ) : Type 0 where
    pub said : List ℕ
    pub state : State
    pub stands : StandsBy (standing_of made) new state
    pub flies : (flying : List Flight) → MoveFlies flying next → FliesBy (standing_of made) flying state
    pub text : now ≡ before ++ said
    pub same : (many : ℕ) (more : List Answer) → run_of (asked_by layout (go many) next) more
        ≡ after_text said (run_of (rest_of code layout own (standing_of made) state many) more)

  stands_by : (made : After) (new : Machine) (s : State) → StandsAfter made new s → StandsBy (standing_by made) new s
  stands_by after.GoesOn new s h = h
  stands_by (after.Ends e) new s h = tt
  stands_by after.Sticks new s h = tt

  flies_by : (made : After) (flying : List Flight) (s : State) → FliesAfter made flying s
      → FliesBy (standing_by made) flying s
  flies_by after.GoesOn flying s h = h
  flies_by (after.Ends e) flying s h = tt
  flies_by after.Sticks flying s h = tt

  rest_by : (made : After) (s : State) (many : ℕ) → rest_after code layout own made s many
      ≡ rest_of code layout own (standing_by made) s many
  rest_by after.GoesOn s many = refl
  rest_by (after.Ends e) s many = refl
  rest_by after.Sticks s many = refl

  silent : (before now : List ℕ) → now ≡ before → now ≡ before ++ []
  silent before now e = e ∙ sym (append-nil before)

  just_comes : (comes : table.After) (made : After) (new : Machine) (before now : List ℕ) → Came comes made new → now ≡ before
      → Moved (table.Comes comes) (move.Comes made) new before now
  just_comes comes made new before now c e = record {
    said = [];
    state = c.state;
    stands = stands_by made new c.state c.stands;
    flies = λ flying f. flies_by made flying c.state (c.flies flying f);
    text = silent before now e;
    same = λ many more. ap (λ (d : NodeDoing). run_of d more) (c.same many ∙ rest_by made c.state many);
  }

  issues : (access other : Access) (comes : table.After) (made : After) (new : Machine) (before now : List ℕ)
      → access ≡ other → Came comes made new → now ≡ before
      → Moved (table.Issues access comes) (move.Issues other made) new before now
  issues access other comes made new before now a c e = record {
    said = [];
    state = c.state;
    stands = c.stands;
    flies = λ flying f. subst (λ (x : Access). FliesAfter made (flown_by x flying) c.state) a (c.flies (flown_by access flying) f);
    text = silent before now e;
    same = λ many more.
        ap (λ (x : Access). run_of (asked_by layout (go many) (table.Issues x comes)) more) a
        ∙ ap (λ (d : NodeDoing). run_of (Makes (Issue other) d) more) (c.same many);
  }

  waits : (counter other : ℕ) (s : State) (new : Machine) (before now : List ℕ) → counter ≡ other → Stands new s → now ≡ before
      → Moved (table.Waits counter s) (move.Waits other) new before now
  waits counter other s new before now a h e = record {
    said = [];
    state = s;
    stands = h;
    flies = λ flying f. f;
    text = silent before now e;
    same = λ many more. ap (λ (c : ℕ). run_of (asked_by layout (go many) (table.Waits c s)) more) a;
  }

  meets : (stores other : Bool) (s : State) (new : Machine) (before now : List ℕ) → stores ≡ other → Stands new s → now ≡ before
      → Moved (table.Meets stores s) (move.Meets other) new before now
  meets stores other s new before now a h e = record {
    said = [];
    state = s;
    stands = h;
    flies = λ flying f. f;
    text = silent before now e;
    same = λ many more. ap (λ (b : Bool). run_of (asked_by layout (go many) (table.Meets b s)) more) a;
  }

  moved : (next : table.Move) (made : Move) (new : Machine) (before now : List ℕ) (else_ : State)
      → Stepped next made new before now → Moved next made new before now
  moved (table.Comes a) (move.Comes b) new before now else_ h = just_comes a b new before now (came a b new else_ h.0) h.1
  moved (table.Comes a) (move.Issues access b) new before now else_ h = absurd h.0
  moved (table.Comes a) (move.Waits counter) new before now else_ h = absurd h.0
  moved (table.Comes a) (move.Meets stores) new before now else_ h = absurd h.0
  moved (table.Issues access a) (move.Comes b) new before now else_ h = absurd h.0
  moved (table.Issues access a) (move.Issues other b) new before now else_ h =
      issues access other a b new before now h.0.0 (came a b new else_ h.0.1) h.1
  moved (table.Issues access a) (move.Waits counter) new before now else_ h = absurd h.0
  moved (table.Issues access a) (move.Meets stores) new before now else_ h = absurd h.0
  moved (table.Waits counter s) (move.Comes b) new before now else_ h = absurd h.0
  moved (table.Waits counter s) (move.Issues access b) new before now else_ h = absurd h.0
  moved (table.Waits counter s) (move.Waits other) new before now else_ h = waits counter other s new before now h.0.0 h.0.1 h.1
  moved (table.Waits counter s) (move.Meets stores) new before now else_ h = absurd h.0
  moved (table.Meets stores s) (move.Comes b) new before now else_ h = absurd h.0
  moved (table.Meets stores s) (move.Issues access b) new before now else_ h = absurd h.0
  moved (table.Meets stores s) (move.Waits counter) new before now else_ h = absurd h.0
  moved (table.Meets stores s) (move.Meets other) new before now else_ h = meets stores other s new before now h.0.0 h.0.1 h.1
  moved (table.Says text s) (move.Comes after.GoesOn) new before now else_ h = record {
    said = text;
    state = s;
    stands = h.0;
    flies = λ flying f. f;
    text = h.1;
    same = λ many more. refl;
  }
  moved (table.Says text s) (move.Comes (after.Ends e)) new before now else_ h = absurd h
  moved (table.Says text s) (move.Comes after.Sticks) new before now else_ h = absurd h
  moved (table.Says text s) (move.Issues access b) new before now else_ h = absurd h
  moved (table.Says text s) (move.Waits counter) new before now else_ h = absurd h
  moved (table.Says text s) (move.Meets stores) new before now else_ h = absurd h

  -- ---- the course

  said_after : (asked : List Ask) (before said now : List ℕ) (run : RunOf Ask Halt) → now ≡ before ++ said
      → having asked before (after_text said run) ≡ having asked now run
  said_after asked before said now run e =
      ap (λ (text : List ℕ). record { events = asked ++ run.events; text = text; end = run.end })
      (sym (append_assoc before said run.text) ∙ ap (λ (t : List ℕ). t ++ run.text) (sym e))

  one_on : (n many : ℕ) → n + 1 + many ≡ n + suc many
  one_on n many = omega arith

  module _ (budget : ℕ) (answers : List Answer) (asked : List Ask) where
    pub advanced : (s : State) (made : Move) (new : Machine) (before now : List ℕ)
        → HasDone code layout own budget answers asked before (λ many. go many s)
        → (m : Moved (step_of code layout own s) made new before now)
        → HasDone code layout own budget answers asked now (rest_of code layout own (standing_of made) m.state)
    advanced s made new before now h m = record {
      instructions = h.instructions + 1;
      run = λ many more.
          ap (λ (n : ℕ). code_run code layout own budget n (answers ++ more)) (one_on h.instructions many)
          ∙ h.run (suc many) more ∙ ap (having asked before) (m.same many more)
          ∙ said_after asked before m.said now (run_of (rest_of code layout own (standing_of made) m.state many) more) m.text;
    }

    pub from_between : (st : Standing) (s : State) (text : List ℕ) → st ≡ between
        → HasDone code layout own budget answers asked text (rest_of code layout own st s)
        → HasDone code layout own budget answers asked text (λ many. go many s)
    from_between st s text e h =
        subst (λ (x : Standing). HasDone code layout own budget answers asked text (rest_of code layout own x s)) e h

  pub step_moved : (old : Machine) (s : State) (made : Move) (new : Machine) (before now : List ℕ) → Stands old s
      → ((flying : List Flight) → Counts old.reads flying
      → Stepped (step_of code layout own (state_of old flying)) made new before now)
      → Moved (step_of code layout own s) made new before now
  step_moved old s made new before now h d =
      moved (step_of code layout own s) made new before now s
      (subst (λ (x : State). Stepped (step_of code layout own x) made new before now) (sym h.state) (d s.flying h.counts))

pub stands_between : (st : Standing) (m : Machine) (s : State) → st ≡ between → StandsBy st m s → Stands m s
stands_between st m s e h = subst (λ (x : Standing). StandsBy x m s) e h

pub by_between : (st : Standing) (m : Machine) (s : State) → st ≡ between → Stands m s → StandsBy st m s
by_between st m s e h = subst (λ (x : Standing). StandsBy x m s) (sym e) h

pub stands_before : (old new : Machine) (s : State) → IsAsBefore old new → Stands old s → Stands new s
stands_before old new s b h = record {
  state = h.state ∙ sym (b.same s.flying);
  counts = subst (λ (numbers : List ℕ). Counts numbers s.flying) (sym b.reads) h.counts;
}

pub flies_between : (st : Standing) (flying : List Flight) (s : State) → st ≡ between → FliesBy st flying s
    → s.flying ≡ flying
flies_between st flying s e h = subst (λ (x : Standing). FliesBy x flying s) e h

pub between_flies : (st : Standing) (flying : List Flight) (s : State) → st ≡ between → s.flying ≡ flying
    → FliesBy st flying s
between_flies st flying s e h = subst (λ (x : Standing). FliesBy x flying s) (sym e) h

-- the reads on their way after the next move
pub move_flies : (code : Code) (layout : Arrangement) (own : ℕ) (flying : List Flight) (s : State) → s.flying ≡ flying
    → MoveFlies flying (step_of code layout own s)
move_flies code layout own flying s e =
    subst (λ (fl : List Flight). MoveFlies fl (step_of code layout own s)) e (step_flies code layout own s)
