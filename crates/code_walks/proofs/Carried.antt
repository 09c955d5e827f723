-- The code of a source carries its flow and its plan.
use Rattle.std.proofs.Common.{◌≡◌, inl, ℕ, zero, suc, ◌<◌, List, [], ◌∷◌, length, Option, Some, None, Bool, true, false, slice_get, refl, sym, ap, ◌∙◌, subst, arith}
use Rattle.std.specs.Option.{option_map_or}
use Rattle.std.specs.List.{All}
use Rattle.std.proofs.lemmas.List.Elements.{All-head, All-tail, All-nil, All-cons}
use Rattle.resumption.specs.Resumption.{Asks, Makes, Says, Stops}
use Rattle.sc_base.specs.declared.value.Value.TheVariants.{Null}
use Rattle.sc_layout.specs.Layout.{Arrangement}
use Rattle.sc_isa.specs.declared.access.Access.{Access}
use Rattle.sc_isa.specs.declared.access.Access.TheVariants as access
use Rattle.sc_isa.specs.declared.access.Track.TheVariants.{Counter, Store, Covered}
use Rattle.sc_isa.specs.declared.code.Code.{Code}
use Rattle.sc_isa.specs.declared.code.FnRow.{FnRow}
use Rattle.sc_isa.specs.declared.op.Instr.{Instr}
use Rattle.sc_isa.specs.declared.op.Op.{Op}
use Rattle.sc_isa.specs.Run.{Issue, Wait, Arrive, Pass}
use Rattle.sc_isa.specs.Begin.{entry, begin, begins_at}
use Rattle.sc_isa.specs.Sound.{begun}
use Rattle.sc_core.specs.Core.{Program}
use Rattle.value_soundness.specs.Laws.{IsLaidSource}
use Rattle.site_graph.specs.declared.plan.Plan.{Plan}
use Rattle.site_graph.specs.declared.point.Point.{Point}
use Rattle.site_graph.specs.declared.point.PointKind.TheVariants as point
use Rattle.site_graph.specs.Graph.{Graph, kind_at, is_barrier}
use Rattle.site_graph.specs.Ways.{Goes}
use Rattle.site_graph.specs.Plans.{waits_at, IsFirst, IsPlan, WaitsInTime}
use Rattle.flow_form.specs.FlowOf.{flow_of, start}
use Rattle.node_emit.specs.Sources.{IsCodeOf}
use Rattle.node_emit.specs.Spelled.{IsRunFor}
use Rattle.node_emit.specs.Stands.{Stands, stands_at, flat}
use Rattle.node_emit.specs.Carries.{Follows, run_length, Carries}
use Rattle.node_emit.specs.Walks.{Walks, WalksFromStart, MayWait, others, own_after}
use Rattle.node_emit.specs.Pointed.{PointedAsking, Asked, Came, code_points}
use Rattle.node_emit.specs.Law.{BeginsInMain}
use Rattle.forgotten_marks.proofs.Counted.{Counted, counted_from}
use Rattle.forgotten_marks.proofs.Promised.{all_objects, fits_names, promised}
use Rattle.emit_laws.proofs.Parts.{Setup}
use Rattle.emit_laws.proofs.Items.{stands_are, functions_are, functions_items}
use Rattle.emit_laws.proofs.Openings.{waits_within}
use Rattle.emit_laws.proofs.Setups.{setup, timely}
use Rattle.emit_laws.proofs.Standing.{Now, asked_on}
use Rattle.emit_laws.proofs.Whole.{at_beginning}
use Rattle.code_laws.proofs.Compiled.{pieces_of, runs_of, between_of, IsCompiled}
use Rattle.code_laws.proofs.Compilation.{code_is_compiled}
use Rattle.code_walks.specs.Laws.{CodeCarriesItsFlow}
use Rattle.code_walks.proofs.Chains.{IsEntry}
use Rattle.code_walks.proofs.Follow.{IsLaid, place, runs_in_order, begins_at_first, reached_returns}
use Rattle.code_walks.proofs.RunsIn.{are_runs, are_long}
use Rattle.code_walks.proofs.Edges.{WaitNext, after_on, come_on, made_by, walks_on, under_at}
use Rattle.code_walks.proofs.AllEdges.{Edges, all_edges}
use Rattle.code_walks.proofs.AsksAt.{Kinds, PlaceAt, placed_at, empty_is_none, kinds_from}

-- ---- places of lists

get_within : {A : Type 0} (xs : List A) (k : ℕ) (x : A) → slice_get xs k ≡ Some x → k < length xs
get_within [] k x e = absurd (cc)
get_within (y ∷ xs) zero x e = omega arith
get_within (y ∷ xs) (suc k) x e = let h = get_within xs k x e in omega (arith, h)

within_get : {A : Type 0} (xs : List A) (k : ℕ) → k < length xs → (x : A) × (slice_get xs k ≡ Some x)
within_get [] k lt = absurd (omega (arith, lt))
within_get (y ∷ xs) zero lt = (y, refl)
within_get (y ∷ xs) (suc k) lt = within_get xs k (omega (arith, lt))

-- ---- the walk, from its edges and its kinds

at_made : (a : Access) (h : Now) → (made_by a h).at ≡ h.at
at_made (access.Read place (Counter counter)) h = refl
at_made (access.Read place Store) h = refl
at_made (access.Read place Covered) h = refl
at_made (access.Write place value track) h = refl
at_made (access.Copy from to cells track) h = refl

left_made : (a : Access) (h : Now) → (made_by a h).left ≡ h.left
left_made (access.Read place (Counter counter)) h = refl
left_made (access.Read place Store) h = refl
left_made (access.Read place Covered) h = refl
left_made (access.Write place value track) h = refl
left_made (access.Copy from to cells track) h = refl

own_made : (a : Access) (h : Now) → (made_by a h).own ≡ false
own_made (access.Read place (Counter counter)) h = refl
own_made (access.Read place Store) h = refl
own_made (access.Read place Covered) h = refl
own_made (access.Write place value track) h = refl
own_made (access.Copy from to cells track) h = refl

may_wait : (graph : Graph) (t : ℕ) (left : List ℕ) (own : Bool) (counter : ℕ) → WaitNext left own counter → (counter ≡ 0 → kind_at graph t ≡ point.Sync) → MayWait graph t left own counter
may_wait graph t [] own counter h k = (h.0, h.1, k h.1)
may_wait graph t (x ∷ xs) own counter h k = h

own_stays : (left : List ℕ) (own : Bool) → own ≡ false → own_after left own ≡ false
own_stays [] own e = refl
own_stays (x ∷ xs) own e = e

module _ (c : Setup) (graph : Graph) (plan : Plan) (len : ℕ → ℕ) (goes : (a b : ℕ) → c.Goes a b → Goes graph a b) (waits : (t : ℕ) → c.waits t ≡ waits_at plan t) where
  walk_of : (d : PointedAsking) (h : Now) (met : Bool) (t : ℕ) (left : List ℕ) (own : Bool) → h.at ≡ t → h.left ≡ left → h.own ≡ own → Edges c h d → Kinds graph plan len t met d
      → (met ≡ true → own ≡ false) → Walks graph plan t left own d
  unfolding Edges Kinds Walks
  walk_of (Makes (Came u) rest) h met t left own at_ left_ own_ e k m = (
    sym left_ ∙ e.0,
    subst (λ a. Goes graph a u) at_ (goes h.at u e.1),
    (λ b. m (k.0 b)),
    walk_of rest (come_on u (c.waits u) h) false u (waits_at plan u) true refl (waits u) refl e.2 k.1 (λ f. absurd (cc)),
  )
  walk_of (Makes (Asked (Issue a)) rest) h met t left own at_ left_ own_ e k m = (
    sym left_ ∙ e.0,
    sym own_ ∙ e.1,
    k.0,
    walk_of rest (made_by a h) met t [] false (at_made a h ∙ at_) (left_made a h ∙ e.0) (own_made a h) e.2 k.1 (λ f. refl),
  )
  walk_of (Makes (Asked (Arrive stores)) rest) h met t left own at_ left_ own_ e k m =
      (sym left_ ∙ e.0, sym own_ ∙ e.1, k.0, walk_of rest (asked_on h) true t [] false at_ e.0 refl e.2 k.1 (λ f. refl))
  walk_of (Makes (Asked (Wait counter)) rest) h met t left own at_ left_ own_ e k m = absurd e
  walk_of (Makes (Asked Pass) rest) h met t left own at_ left_ own_ e k m = absurd e
  walk_of (Asks (Asked (Wait counter)) fits_ go) h met t left own at_ left_ own_ e k m =
      let w : WaitNext left own counter = subst (λ l. WaitNext l own counter) left_ (subst (λ o. WaitNext h.left o counter) own_ e.0) in (
        may_wait graph t left own counter w k.0,
        λ answer f.
            walk_of (go answer) (after_on counter h) met t (others left) (own_after left own) at_ (ap others left_)
            (ap (λ l. own_after l h.own) left_ ∙ ap (own_after left) own_) (e.1 answer f) (k.1 answer f) (λ g. own_stays left own (m g)),
      )
  walk_of (Asks (Asked Pass) fits_ go) h met t left own at_ left_ own_ e k m =
      λ answer f. walk_of (go answer) h met t left own at_ left_ own_ (e answer f) (k answer f) m
  walk_of (Asks (Asked (Issue a)) fits_ go) h met t left own at_ left_ own_ e k m = absurd e
  walk_of (Asks (Asked (Arrive stores)) fits_ go) h met t left own at_ left_ own_ e k m = absurd e
  walk_of (Asks (Came u) fits_ go) h met t left own at_ left_ own_ e k m = absurd e
  walk_of (Says text rest) h met t left own at_ left_ own_ e k m = walk_of rest h met t left own at_ left_ own_ e k m
  walk_of (Stops halt) h met t left own at_ left_ own_ e k m = tt

-- ---- all of it

all_more : (P Q : ℕ → Type 0) (xs : List ℕ) → ((x : ℕ) → P x → Q x) → All P xs → All Q xs
all_more P Q [] f h = All-nil Q
all_more P Q (x ∷ xs) f h = All-cons Q x xs (f x (All-head P x xs h)) (all_more P Q xs f (All-tail P x xs h))

begin_flies : (budget outside : ℕ) (o : Option FnRow) → (begins_at budget outside o).flying ≡ []
begin_flies budget outside None = refl
begin_flies budget outside (Some row) = refl

module _ (layout : Arrangement) (program : Program) (plan : Plan) (code : Code) (source_ : IsLaidSource layout program) (is_plan : IsPlan (flow_of layout.nodes program) plan)
    (in_time : WaitsInTime (flow_of layout.nodes program) plan) (of_ : IsCodeOf plan program code) (begins : BeginsInMain program code) (it : IsCompiled layout program plan code) where
  abbrev graph_ : Graph
  graph_ = flow_of layout.nodes program

  abbrev runs_ : List (List Op)
  runs_ = runs_of plan program

  abbrev len_ : ℕ → ℕ
  len_ = run_length plan runs_

  pub laid : IsLaid code program.functions plan len_
  laid = record {
    instrs = of_.instrs ∙ sym (functions_are plan program.functions 1 0 0);
    rows = of_.functions;
    long = are_long plan runs_ (functions_items plan program.functions 1 0 0) (are_runs plan runs_ (functions_items plan program.functions 1 0 0) it.spelled.ordered);
  }

  abbrev at_place : ℕ → Option Stands
  at_place pc = place code program.functions plan len_ laid pc

  pub same : (pc : ℕ) → stands_at plan (pieces_of plan program) pc ≡ at_place pc
  same pc = ap (λ l. flat (slice_get l pc)) (stands_are plan 0 (functions_items plan program.functions 1 0 0))

  pub enters : (budget : ℕ) → IsEntry plan len_ (at_place (begin code budget).frame.at)
  enters budget =
      let f = it.functions 0 program.main it.main it.is_main in
      begins_at_first code program.functions plan len_ laid layout 0 budget program.main f.row begins f.is_row

  point_of : (t : ℕ) (run : List Op) → slice_get runs_ t ≡ Some run → (p : Point) × (kind_at graph_ t ≡ p.kind) × IsRunFor graph_ plan t p p.kind run
  point_of t run e =
      let lt = get_within runs_ t run e in
      let p = within_get graph_.points t (let c = it.spelled.count in omega (arith, lt, c)) in
      (p.0, ap (λ (o : Option Point). option_map_or (λ p. p.kind) o point.Plain) p.1, it.spelled.right t p.0 run p.1 e)

  there : (pc : ℕ) (i : Instr) → slice_get code.instrs pc ≡ Some i → PlaceAt graph_ plan len_ (at_place pc) i.op
  there pc i e =
      placed_at graph_ plan len_ runs_ point_of (λ t w i. let h = waits_within graph_ plan t w is_plan.on_sites i in omega (arith, h.0)) (functions_items plan program.functions 1 0 0)
      laid.long (are_runs plan runs_ (functions_items plan program.functions 1 0 0) it.spelled.ordered) it.spelled.others pc i (ap (λ is. slice_get is pc) (sym laid.instrs) ∙ e)

  none_met : (now next : ℕ) → All (λ t. is_barrier (kind_at graph_ t) ≡ true → ⊥) (between_of layout program now next)
  none_met now next =
      all_more (λ t. slice_get runs_ t ≡ Some []) (λ t. is_barrier (kind_at graph_ t) ≡ true → ⊥) (between_of layout program now next)
      (λ t e b. let p = point_of t [] e in empty_is_none graph_ plan len_ t p.0 p.0.kind p.1 p.2 b) (it.are_empty now next)

  first_is : IsFirst graph_ 0
  first_is p e = let same : (start program).point ≡ p = cc in inl (sym (ap (λ (q : Point). q.kind) same))

  abbrev first_now : Now
  first_now = record { at = 0; left = []; own = true; accesses = 0; flying = [] }

  module _ (node budget many : ℕ) (below : node < layout.nodes) where
    abbrev setup_ : Setup
    setup_ = setup layout program plan code (pieces_of plan program) (between_of layout program) node

    abbrev points_ : PointedAsking
    points_ = code_points code layout plan (pieces_of plan program) (between_of layout program) node budget many

    edges : Edges setup_ first_now points_
    edges =
        all_edges setup_ points_ first_now (record { rising = omega arith; some = λ n. Null; fit = tt })
        (subst (λ fl. Counted layout fl points_) (begin_flies budget (length code.instrs) (entry code))
        (counted_from code layout node plan (pieces_of plan program) (between_of layout program) many 0 (begin code budget)))
        (λ value fit. under_at setup_ plan (pieces_of plan program) (λ pc. refl) (all_objects layout program) (fits_names layout program) value first_now (begin code budget) _
        (at_beginning setup_ (timely layout program plan code (pieces_of plan program) (between_of layout program) node is_plan in_time it.sites of_.texts it.tells_empty)
        (it.functions node) it.main it.is_main it.no_params it.goes begins value
        (walks_on setup_ plan (pieces_of plan program) (λ pc. refl) (all_objects layout program) (fits_names layout program) value) budget)
        [] (promised layout program node budget source_ below) many)

    kinds : Kinds graph_ plan len_ 0 false points_
    kinds =
        kinds_from graph_ code program.functions plan len_ laid there layout node (between_of layout program) none_met (pieces_of plan program) same many 0 false (begin code budget)
        (record {
          inside = λ st e some. absurd (some (subst (IsEntry plan len_) e (enters budget)));
          left = λ entry b. absurd (cc);
          returns = reached_returns code program.functions plan len_ laid layout node budget (begin code budget) (begun (begin code budget) refl);
        })

    pub walks : WalksFromStart graph_ plan points_
    walks =
        walk_of setup_ graph_ plan len_ (λ a b g. g) (λ t. refl) points_ first_now false 0 (waits_at plan 0) true refl (sym (is_plan.none_first 0 first_is)) refl edges kinds
        (λ f. absurd (cc))

  abbrev pub carried : Carries code layout graph_ plan
  carried = record {
    pieces = pieces_of plan program;
    runs = runs_;
    spelled = it.spelled;
    begins = λ budget. subst (λ o. Follows len_ None o) (sym (same (begin code budget).frame.at)) (enters budget);
    in_runs = λ node budget s next below reached leads.
        subst (λ o. Follows len_ o (stands_at plan (pieces_of plan program) next.frame.at)) (sym (same s.frame.at))
        (subst (λ o. Follows len_ (at_place s.frame.at) o) (sym (same next.frame.at))
        (runs_in_order code program.functions plan len_ laid layout node budget s next reached leads));
    between = between_of layout program;
    are_empty = it.are_empty;
    walks = λ node budget many below. walks node budget many below;
  }

pub code_carries_its_flow : CodeCarriesItsFlow
code_carries_its_flow layout program plan code source_ is_plan in_time of_ begins =
    carried layout program plan code source_ is_plan in_time of_ begins (code_is_compiled layout program plan code source_ is_plan in_time of_ begins)
