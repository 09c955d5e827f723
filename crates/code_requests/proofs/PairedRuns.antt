-- In code's runs each arrival is followed by its pass, and no read is a store.
use Rattle.std.proofs.Common.{ℕ, zero, suc, ◌+◌, List, [], ◌∷◌, ◌++◌, Option, Some, None, Bool, true, false, if◌then◌else◌, slice_get, sym, subst}
use Rattle.resumption.specs.Resumption.{Asks, Makes, Says, Stops, RunOf, unanswered, after_event}
use Rattle.sc_base.specs.declared.value.End.TheVariants.{Waiting}
use Rattle.sc_layout.specs.Layout.{Arrangement}
use Rattle.sc_isa.specs.declared.access.Access.{Access}
use Rattle.sc_isa.specs.declared.access.Access.TheVariants as access
use Rattle.sc_isa.specs.declared.access.Track.TheVariants.{Counter, Store, Covered}
use Rattle.sc_isa.specs.declared.code.Code.{Code}
use Rattle.sc_isa.specs.declared.op.Instr.{Instr}
use Rattle.sc_isa.specs.State.{State, Flight, at_instr}
use Rattle.sc_isa.specs.Moves.{After, GoesOn, Ends as EndsBy, Sticks, Move, Comes, Issues, Waits, Meets, Says as Tells}
use Rattle.sc_isa.specs.Run.{Ask, Issue, Wait, Arrive, Pass, Answer, Landed, Passed, Broken, Halt, Finish, Stuck, UsedUp, landed_by}
use Rattle.sc_isa.specs.Table.{step_of, does_op, does_instr}
use Rattle.site_graph.specs.declared.plan.Plan.{Plan}
use Rattle.node_emit.specs.Spelled.{Piece}
use Rattle.node_emit.specs.Stands.{stands_at}
use Rattle.node_emit.specs.Pointed.{PointedAsking, Asked, Came, entered_at, marked, come_all, comes_to, asked_by, passed_by, points_from}
use Rattle.forgotten_marks.proofs.Steps.{MoveTo, Led, move_more, op_leads}
use Rattle.code_requests.proofs.Played.{IsOver, run_by, not_over, over_fits}
use Rattle.code_requests.proofs.SourceAnswers.{IsPaired}

unfoldable pub Pairs : PointedAsking → Type 0
Pairs (Makes (Came t) rest) = Pairs rest
Pairs (Makes (Asked (Issue (access.Read place Store))) rest) = ⊥
Pairs (Makes (Asked (Issue a)) rest) = Pairs rest
Pairs (Makes (Asked (Arrive stores)) (Asks (Asked Pass) fits go)) = (answer : Answer) → Pairs (go answer)
Pairs (Asks (Asked (Wait counter)) fits go) = (answer : Answer) → Pairs (go answer)
Pairs (Says text rest) = Pairs rest
Pairs (Stops halt) = Unit {0}
Pairs _ = ⊥

pairs_come : (ts : List ℕ) (rest : PointedAsking) → Pairs rest → Pairs (come_all ts rest)
unfolding Pairs
pairs_come [] rest h = h
pairs_come (t ∷ ts) rest h = pairs_come ts rest h

pairs_marked : (between : ℕ → ℕ → List ℕ) (now : ℕ) (o : Option ℕ) (go : ℕ → PointedAsking) → ((t : ℕ) → Pairs (go t)) → Pairs (marked between now o go)
pairs_marked between now None go h = h now
pairs_marked between now (Some t) go h = pairs_come (between now t ++ t ∷ []) (go t) (h t)

pairs_stop : (halt : Halt) → Pairs (Stops halt)
unfolding Pairs
pairs_stop halt = tt

abbrev pub Any : List Flight → State → Type 0
Any fl s = Unit {0}

module _ (layout : Arrangement) (go : State → PointedAsking) (next : (s : State) → Pairs (go s)) where
  pairs_after : (after : After) → Pairs (comes_to go after)
  pairs_after (GoesOn s) = next s
  pairs_after (EndsBy end) = pairs_stop (Finish end)
  pairs_after Sticks = pairs_stop Stuck

  pairs_pass : (answer : Answer) (s : State) → Pairs (passed_by answer (go s))
  pairs_pass (Landed values) s = next s
  pairs_pass Passed s = next s
  pairs_pass Broken s = pairs_stop (Finish Waiting)

  pairs_move : (move : Move) (fl : List Flight) → MoveTo Any fl move → Pairs (asked_by layout go move)
  unfolding Pairs
  pairs_move (Comes after) fl h = pairs_after after
  pairs_move (Issues (access.Read place (Counter k)) after) fl h = pairs_after after
  pairs_move (Issues (access.Read place Store) after) fl h = absurd h
  pairs_move (Issues (access.Read place Covered) after) fl h = absurd h
  pairs_move (Issues (access.Write place v track) after) fl h = pairs_after after
  pairs_move (Issues (access.Copy from to cells track) after) fl h = pairs_after after
  pairs_move (Waits counter s) fl h = λ answer. next (landed_by counter s answer)
  pairs_move (Meets stores s) fl h = λ answer. pairs_pass answer s
  pairs_move (Tells text s) fl h = next s

instr_any : (code : Code) (layout : Arrangement) (node : ℕ) (s : State) (o : Option Instr) → MoveTo Any s.flying (does_instr code layout node o s)
instr_any code layout node s None = tt
instr_any code layout node s (Some i) =
    let s' = at_instr (s.frame.at + 1) s in
    move_more (Led code i.op s') Any (λ fl x h. tt) s.flying (does_op code layout node i.op i.line s') (op_leads code layout node i.op i.line s')

pub pairs_from : (code : Code) (layout : Arrangement) (plan : Plan) (pieces : List Piece) (between : ℕ → ℕ → List ℕ) (node many now : ℕ) (s : State)
    → Pairs (points_from code layout plan pieces between node many now s)
pairs_from code layout plan pieces between node zero now s = pairs_stop UsedUp
pairs_from code layout plan pieces between node (suc many) now s =
    pairs_marked between now (entered_at (stands_at plan pieces s.frame.at))
    (λ t. asked_by layout (points_from code layout plan pieces between node many t) (step_of code layout node s))
    (λ t. pairs_move layout (points_from code layout plan pieces between node many t) (λ s. pairs_from code layout plan pieces between node many t s)
    (step_of code layout node s) s.flying (instr_any code layout node s (slice_get code.instrs s.frame.at)))

issue_pairs : (a : Access) (es : List Ask) (rest : PointedAsking) → Pairs (Makes (Asked (Issue a)) rest) → (Pairs rest → IsPaired es) → IsPaired (Issue a ∷ es)
unfolding Pairs
issue_pairs (access.Read place (Counter k)) es rest p h = h p
issue_pairs (access.Read place Store) es rest p h = absurd p
issue_pairs (access.Read place Covered) es rest p h = h p
issue_pairs (access.Write place v track) es rest p h = h p
issue_pairs (access.Copy from to cells track) es rest p h = h p

over_rest : (b : Bool) (ask : Ask) (run : RunOf Ask Halt) → IsOver (if b then after_event ask run else unanswered ask) → IsOver run
over_rest true ask run h = h
over_rest false ask run h = absurd (not_over ask h)

pub paired_run : (d : PointedAsking) (given : List Answer) → Pairs d → IsOver (run_by d given) → IsPaired (run_by d given).events
unfolding Pairs
paired_run (Makes (Came t) rest) given p o = paired_run rest given p o
paired_run (Makes (Asked (Issue a)) rest) given p o = issue_pairs a (run_by rest given).events rest p (λ q. paired_run rest given q o)
paired_run (Makes (Asked (Arrive stores)) (Asks (Asked Pass) fits go)) [] p o = absurd (not_over Pass o)
paired_run (Makes (Asked (Arrive stores)) (Asks (Asked Pass) fits go)) (a ∷ given) p o =
    let fit = over_fits (fits a) Pass (run_by (go a) given) o in
    subst (λ b. IsPaired (Arrive stores ∷ (if b then after_event Pass (run_by (go a) given) else unanswered Pass).events)) (sym fit)
    (paired_run (go a) given (p a) (over_rest (fits a) Pass (run_by (go a) given) o))
paired_run (Asks (Asked (Wait counter)) fits go) [] p o = absurd (not_over (Wait counter) o)
paired_run (Asks (Asked (Wait counter)) fits go) (a ∷ given) p o =
    let fit = over_fits (fits a) (Wait counter) (run_by (go a) given) o in
    subst (λ b. IsPaired (if b then after_event (Wait counter) (run_by (go a) given) else unanswered (Wait counter)).events) (sym fit)
    (paired_run (go a) given (p a) (over_rest (fits a) (Wait counter) (run_by (go a) given) o))
paired_run (Says text rest) given p o = paired_run rest given p o
paired_run (Stops halt) given p o = tt
paired_run d given p o = absurd p
