-- What the waits of code are answered: values that fit the reads on the counter that are on their way.
use Rattle.std.proofs.Common.{◌≡◌, ◌⊎◌, inl, inr, ℕ, zero, suc, ◌+◌, List, [], ◌∷◌, ◌++◌, Option, Some, None, true, slice_get, refl, sym, ap, ◌∙◌, subst}
use Rattle.resumption.specs.Resumption.{Asks, Makes, Says, Stops}
use Rattle.sc_base.specs.declared.value.Value.{Value}
use Rattle.sc_layout.specs.Layout.{Arrangement}
use Rattle.sc_isa.specs.declared.access.Access.{Access}
use Rattle.sc_isa.specs.declared.access.Access.TheVariants as access
use Rattle.sc_isa.specs.declared.access.Track.TheVariants.{Counter, Store, Covered}
use Rattle.sc_isa.specs.declared.code.Code.{Code}
use Rattle.sc_isa.specs.declared.op.Instr.{Instr}
use Rattle.sc_isa.specs.declared.op.Op.{Op}
use Rattle.sc_isa.specs.declared.op.Op.TheVariants as op
use Rattle.sc_isa.specs.Fitting.{fits_all}
use Rattle.sc_isa.specs.State.{State, Flight, at_instr, reads_on, without_reads_on, landed}
use Rattle.sc_isa.specs.Moves.{Move, After, Comes, GoesOn, Ends, Sticks, Issues, Waits, Meets, Says as Tells}
use Rattle.sc_isa.specs.Run.{Issue, Wait, Arrive, Pass, Answer, Landed, Passed, Broken, fits_wait, landed_by, fits_pass}
use Rattle.sc_isa.specs.Table.{step_of, does_op, does_instr}
use Rattle.site_graph.specs.declared.plan.Plan.{Plan}
use Rattle.node_emit.specs.Spelled.{Piece}
use Rattle.node_emit.specs.Stands.{stands_at}
use Rattle.node_emit.specs.Pointed.{PointedAsking, Asked, Came, entered_at, marked, come_all, comes_to, asked_by, passed_by, points_from}
use Rattle.forgotten_marks.proofs.Steps.{AfterTo, MoveTo, Led, move_more, op_leads}

abbrev pub flights_by : Access → List Flight → List Flight
flights_by (access.Read place (Counter counter)) fl = fl ++ record { counter = counter; place = place } ∷ []
flights_by _ fl = fl

-- a read is on a counter
abbrev pub IsTracked : Access → Type 0
IsTracked (access.Read place Store) = ⊥
IsTracked (access.Read place Covered) = ⊥
IsTracked _ = Unit {0}

abbrev pub IsAnswer : Arrangement → List Flight → ℕ → Answer → Type 0
IsAnswer layout fl counter answer = (values : List Value) × (answer ≡ Landed values) × (fits_all layout (reads_on counter fl) values ≡ true)

-- It asks for waits and passes alone; a wait is answered by values that fit the reads that are on their way on its counter.
unfoldable pub Counted : Arrangement → List Flight → PointedAsking → Type 0
Counted layout fl (Makes (Came u) rest) = Counted layout fl rest
Counted layout fl (Makes (Asked (Issue a)) rest) = IsTracked a × Counted layout (flights_by a fl) rest
Counted layout fl (Makes (Asked (Arrive stores)) rest) = Counted layout fl rest
Counted layout fl (Asks (Asked (Wait counter)) fits go) =
    (answer : Answer) → fits answer ≡ true → IsAnswer layout fl counter answer × Counted layout (without_reads_on counter fl) (go answer)
Counted layout fl (Asks (Asked Pass) fits go) =
    (answer : Answer) → fits answer ≡ true → ((answer ≡ Passed) ⊎ (answer ≡ Broken)) × Counted layout fl (go answer)
Counted layout fl (Says text rest) = Counted layout fl rest
Counted layout fl (Stops halt) = Unit {0}
Counted layout fl _ = ⊥

abbrev pub Flies : List Flight → State → Type 0
Flies fl s = s.flying ≡ fl

led_flies : (code : Code) (o : Op) (s : State) (fl : List Flight) (next : State) → Led code o s fl next → Flies fl next
led_flies code (op.Jump target) s fl next h = h.flying_is
led_flies code (op.Zero target) s fl next (inl h) = h.flying_is
led_flies code (op.Zero target) s fl next (inr h) = h.flying_is
led_flies code (op.Call f) s fl next h = h.flying_is
led_flies code op.Ret s fl next h = h.flying_is
led_flies code o s fl next h = h.flying_is

module _ (code : Code) (layout : Arrangement) (node : ℕ) where
  instr_flies : (s : State) (o : Option Instr) → MoveTo Flies s.flying (does_instr code layout node o s)
  instr_flies s None = tt
  instr_flies s (Some i) =
      let s' = at_instr (s.frame.at + 1) s in
      move_more (Led code i.op s') Flies (λ fl next h. led_flies code i.op s' fl next h) s.flying (does_op code layout node i.op i.line s')
      (op_leads code layout node i.op i.line s')

  counted_come : (ts : List ℕ) (fl : List Flight) (rest : PointedAsking) → Counted layout fl rest → Counted layout fl (come_all ts rest)
  unfolding Counted
  counted_come [] fl rest h = h
  counted_come (t ∷ ts) fl rest h = counted_come ts fl rest h

  counted_marked : (between : ℕ → ℕ → List ℕ) (now : ℕ) (o : Option ℕ) (fl : List Flight) (go : ℕ → PointedAsking) → ((t : ℕ) → Counted layout fl (go t))
      → Counted layout fl (marked between now o go)
  counted_marked between now None fl go h = h now
  counted_marked between now (Some t) fl go h = counted_come (between now t ++ t ∷ []) fl (go t) (h t)

  module _ (go : State → PointedAsking) (next : (s : State) → Counted layout s.flying (go s)) where
    counted_after : (after : After) (fl : List Flight) → AfterTo (Flies fl) after → Counted layout fl (comes_to go after)
    unfolding Counted
    counted_after (GoesOn s) fl h = subst (λ f. Counted layout f (go s)) h (next s)
    counted_after (Ends end) fl h = tt
    counted_after Sticks fl h = tt

    counted_wait : (counter : ℕ) (s : State) (fl : List Flight) → Flies fl s → (answer : Answer) → fits_wait layout counter s answer ≡ true
        → IsAnswer layout fl counter answer × Counted layout (without_reads_on counter fl) (go (landed_by counter s answer))
    counted_wait counter s fl h (Landed values) e = (
      (values, refl, ap (λ f. fits_all layout (reads_on counter f) values) (sym h) ∙ e),
      subst (λ f. Counted layout (without_reads_on counter f) (go (landed counter values s))) h (next (landed counter values s)),
    )
    counted_wait counter s fl h Passed e = absurd (cc)
    counted_wait counter s fl h Broken e = absurd (cc)

    counted_pass : (s : State) (fl : List Flight) → Flies fl s → (answer : Answer) → fits_pass answer ≡ true
        → ((answer ≡ Passed) ⊎ (answer ≡ Broken)) × Counted layout fl (passed_by answer (go s))
    unfolding Counted
    counted_pass s fl h (Landed values) e = absurd (cc)
    counted_pass s fl h Passed e = (inl refl, subst (λ f. Counted layout f (go s)) h (next s))
    counted_pass s fl h Broken e = (inr refl, tt)

    counted_move : (move : Move) (fl : List Flight) → MoveTo Flies fl move → Counted layout fl (asked_by layout go move)
    unfolding Counted
    counted_move (Comes after) fl h = counted_after after fl h
    counted_move (Issues (access.Read place (Counter counter)) after) fl h =
        (tt, counted_after after (fl ++ record { counter = counter; place = place } ∷ []) h)
    counted_move (Issues (access.Read place Store) after) fl h = absurd h
    counted_move (Issues (access.Read place Covered) after) fl h = absurd h
    counted_move (Issues (access.Write place value track) after) fl h = (tt, counted_after after fl h)
    counted_move (Issues (access.Copy from to cells track) after) fl h = (tt, counted_after after fl h)
    counted_move (Waits counter s) fl h = λ answer e. counted_wait counter s fl h answer e
    counted_move (Meets stores s) fl h = λ answer e. counted_pass s fl h answer e
    counted_move (Tells text s) fl h = subst (λ f. Counted layout f (go s)) h (next s)

  pub counted_from : (plan : Plan) (pieces : List Piece) (between : ℕ → ℕ → List ℕ) (many now : ℕ) (s : State)
      → Counted layout s.flying (points_from code layout plan pieces between node many now s)
  unfolding Counted
  counted_from plan pieces between zero now s = tt
  counted_from plan pieces between (suc many) now s =
      counted_marked between now (entered_at (stands_at plan pieces s.frame.at)) s.flying
      (λ t. asked_by layout (points_from code layout plan pieces between node many t) (step_of code layout node s))
      (λ t. counted_move (points_from code layout plan pieces between node many t) (λ s. counted_from plan pieces between many t s)
      (step_of code layout node s) s.flying (instr_flies s (slice_get code.instrs s.frame.at)))
