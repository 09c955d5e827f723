-- What is kept where a step is passed along an edge, and where a request is one of the last point passed, holds of what a
-- source makes a node do from Start. What comes after a part holds from each of the points from which the flow goes on
-- behind the part.
use Rattle.std.proofs.Common.{◌≡◌, inl, ℕ, zero, suc, ◌+◌, ◌-◌, ◌<◌, List, [], ◌∷◌, ◌++◌, length, Option, Some, None, Bool, true, false, slice_get, refl, sym, ◌∙◌, subst, arith}
use Rattle.std.specs.Prelude.{pos, negsuc}
use Rattle.std.specs.Option.{option_map_or}
use Rattle.std.proofs.lemmas.Option.{slice_get_within}
use Rattle.resumption.specs.Resumption.{Asks, Makes, Says, Stops}
use Rattle.sc_base.specs.declared.limits.TheConstants.{LIMITS}
use Rattle.sc_base.specs.declared.value.End.TheVariants.{Ended, Fault, Cut, Waiting}
use Rattle.sc_base.specs.declared.value.FaultKind.TheVariants.{PendingUse, Depth}
use Rattle.sc_base.specs.declared.value.Value.{Value}
use Rattle.sc_base.specs.declared.value.Value.TheVariants.{Int, Null, Ptr}
use Rattle.sc_isa.specs.Elements.{Outcome, gives, fails, wrong}
use Rattle.sc_isa.specs.Pure.{truth, computed}
use Rattle.sc_isa.specs.Deeds.{Made, makes, faults, stuck, uses, sets, reads, writes, calls, Done, lets_go, ends, sticks, clears, prints, fills, gets, misses, puts, sends, copies, waits, meets}
use Rattle.sc_core.specs.declared.operation.Operation.{Operation}
use Rattle.sc_core.specs.declared.operation.Operation.TheVariants as op
use Rattle.sc_core.specs.declared.operation.Action.{Action}
use Rattle.sc_core.specs.declared.operation.Action.TheVariants as acts
use Rattle.sc_core.specs.Core.{Core, constant, step, choice, update, Arguments, none, argument, Does, nothing, break, continue, then_, act, choose, loop, return, Function}
use Rattle.sc_core.specs.Table.{made_of, done_of}
use Rattle.sc_core.specs.Statements.{zero_of}
use Rattle.sc_meaning.specs.declared.request.Request.{Request}
use Rattle.sc_meaning.specs.declared.request.Request.TheVariants as request
use Rattle.sc_meaning.specs.Asking.{PointedDoing, Requested, Answer, Shown, Landed, Passed, Broken, Halt, Finishes, Breaks, fits_read, fits_sync, fits_barrier}
use Rattle.sc_meaning.specs.Memory.{Slot, has, awaits, Memory, top, slot, with_slot, with_get, places, synced, entered, pushed, popped}
use Rattle.sc_meaning.specs.Points.{size, sizes, size_of, first_from, first_point}
use Rattle.sc_meaning.specs.Steps.{Rest, Calls, shown_or_zero, landed_or_none, unless_broken, used, none_awaits, counted, decided_by, decided_as, decided, perform, mode_of, enact}
use Rattle.sc_meaning.specs.Meaning.{Setting, pass, constant_of, Jumps, rounds, performed, taken_back, value, values, does, in_body, body_of, entering, calls_by, begun}
use Rattle.site_graph.specs.declared.point.PointKind.TheVariants.{Plain, Return, Access}
use Rattle.site_graph.specs.declared.site.Site.{Site}
use Rattle.site_graph.specs.Graph.{Graph}
use Rattle.site_graph.specs.Ways.{Goes}
use Rattle.flow_form.specs.Within.{Within, Placed}
use Rattle.flow_form.specs.Accesses.{accesses, accesses_all, accesses_by, accesses_in}
use Rattle.flow_form.specs.Occurring.{mark, occurring, occurring_all, occurring_by}
use Rattle.flow_form.specs.Exits.{behind, behind_back, exits, exits_all, fetched, fetched_all, fetched_by, leaves, returns_in}
use Rattle.flow_form.specs.Steps.{callee_of, bare, step_at, action_at}
use Rattle.flow_form.specs.Expressions.{points, points_all, points_back, test_at}
use Rattle.flow_form.specs.Statements.{points_in, points_of, returns_of, end_of, in_loop}
use Rattle.flow_form.specs.FlowOf.{points_from, all_points, flow_of, within, returns}
use Rattle.flow_form.specs.Walk.{IsAccess, IsMadeAt}
use Rattle.flow_form.proofs.Rises.{Each, In, in_left, in_right, each_of}
use Rattle.flow_laws.proofs.Deeds.{IsOf, made_is, IsOfAction, done_is}
use Rattle.flow_laws.proofs.Facts.{Facts, facts}

-- P holds of what is stopped, and is kept by each step
pub record Keeps (graph : Graph) (P : (last : ℕ) → PointedDoing → Type 0) : Type 0 where
  pub stops : (t : ℕ) (halt : Halt) → P t (Stops halt)
  pub says : (t : ℕ) (text : List ℕ) (doing : PointedDoing) → P t doing → P t (Says text doing)
  pub asks : (t : ℕ) (request : Request) (fits : Answer → Bool) (go : Answer → PointedDoing) → IsMadeAt graph t request
      → ((answer : Answer) → P t (go answer)) → P t (Asks (Requested request) fits go)
  pub requests : (t : ℕ) (request : Request) (doing : PointedDoing) → IsMadeAt graph t request → P t doing
      → P t (Makes (Requested request) doing)
  pub passes : (t u : ℕ) (doing : PointedDoing) → Goes graph t u → P u doing → P t (pass u doing)

pub each_left : {A : Type 0} (P : A → Type 0) (xs ys : List A) → Each P (xs ++ ys) → Each P xs
each_left P [] ys h = tt
each_left P (x ∷ xs) ys h = (h.0, each_left P xs ys h.1)

pub each_right : {A : Type 0} (P : A → Type 0) (xs ys : List A) → Each P (xs ++ ys) → Each P ys
each_right P [] ys h = h
each_right P (x ∷ xs) ys h = each_right P xs ys h.1

module _ (here : Setting) (P : (last : ℕ) → PointedDoing → Type 0)
    (k : Keeps (flow_of here.layout.nodes here.program) P) where
  abbrev graph : Graph
  graph = flow_of here.layout.nodes here.program

  abbrev Has : Placed → Type 0
  Has p = Facts here.layout.nodes here.program p

  -- what comes after holds from each of these points
  abbrev Holds : (froms : List ℕ) → Rest → Type 0
  Holds froms after = (t : ℕ) → In t froms → (m : Memory) (left : ℕ) → P t (after m left)

  -- ---- tests

  module _ (t : ℕ) where
    used_holds : (line : ℕ) (s : Slot) (go : Value → PointedDoing) → ((v : Value) → P t (go v)) → P t (used line s go)
    used_holds line (has v) go h = h v
    used_holds line awaits go h = k.stops t (Finishes (Fault PendingUse line))

    none_holds : (line : ℕ) (slots : List Slot) (doing : PointedDoing) → P t doing → P t (none_awaits line slots doing)
    none_holds line [] doing h = h
    none_holds line (has v ∷ slots) doing h = none_holds line slots doing h
    none_holds line (awaits ∷ slots) doing h = k.stops t (Finishes (Fault PendingUse line))

    by_holds : (v : Value) (on off : PointedDoing) → P t on → P t off → P t (decided_by v on off)
    by_holds (Int (pos zero)) on off h l = l
    by_holds (Int (pos (suc i))) on off h l = h
    by_holds (Int (negsuc i)) on off h l = h
    by_holds Null on off h l = k.stops t Breaks
    by_holds (Ptr object node offset) on off h l = k.stops t Breaks

    as_holds : (o : Outcome) (on off : PointedDoing) → P t on → P t off → P t (decided_as o on off)
    as_holds (gives v) on off h l = by_holds v on off h l
    as_holds (fails kind) on off h l = k.stops t Breaks
    as_holds wrong on off h l = k.stops t Breaks

    decided_holds : (of_pointer : Bool) (v : Value) (on off : PointedDoing) → P t on → P t off
        → P t (decided here.layout here.node of_pointer v on off)
    decided_holds false v on off h l = by_holds v on off h l
    decided_holds true v on off h l = as_holds (computed here.layout here.node truth (v ∷ [])) on off h l

    counted_holds : (left : ℕ) (go : ℕ → PointedDoing) → ((l : ℕ) → P t (go l)) → P t (counted left go)
    counted_holds zero go h = k.stops t (Finishes Cut)
    counted_holds (suc l) go h = h l

    broken_holds : (answer : Answer) (doing : PointedDoing) → P t doing → P t (unless_broken answer doing)
    broken_holds Broken doing h = k.stops t (Finishes Waiting)
    broken_holds Passed doing h = h
    broken_holds (Shown v) doing h = h
    broken_holds (Landed vs) doing h = h

  -- ---- the access of a point

  an_access : (p : Placed) → Has p → (number : ℕ) (x : Site) → p.point.kind ≡ Access number → p.site ≡ Some x
      → IsAccess graph p.at x.kind x.line
  an_access p f number x e same = record {
    number = number;
    is_at = f.kind ∙ e;
    site = x;
    is_site = f.site number x e same;
    same_kind = refl;
    same_line = refl;
  }

  -- ---- single steps

  -- a call keeps P where an edge leads to the function
  abbrev CallHolds : Calls → Type 0
  CallHolds calling =
      (f : ℕ) (vs : List Value) (line : ℕ) (go : Value → Rest) (t : ℕ)
      → (f < length here.program.functions → Goes graph t (first_point here.program.functions f))
      → ((v : Value) → Holds (returns here.program.functions f) (go v)) → (m : Memory) (left : ℕ) → P t (calling f vs line go m left)

  module _ (calling : Calls) (call_holds : CallHolds calling) (w : Within)
      (same : (f : ℕ) → w.returns f ≡ returns here.program.functions f) where
    perform_holds : (operation : Operation) (arguments : Arguments) (line t s : ℕ) (froms takes locals : List ℕ)
        → Has (step_at w operation arguments line t s froms takes locals)
        → (made : Made) → IsOf operation made → (go : Value → Rest)
        → ((v : Value) → Holds (behind w.returns (callee_of operation) t) (go v)) → (m : Memory) (left : ℕ)
        → P t (perform here.layout calling made line go m left)
    perform_holds operation arguments line t s froms takes locals f (makes v) o go h m left =
        h v t (subst (λ c. In t (behind w.returns c t)) (sym o) (inl refl)) m left
    perform_holds operation arguments line t s froms takes locals f (faults kind) o go h m left = k.stops t (Finishes (Fault kind line))
    perform_holds operation arguments line t s froms takes locals f stuck o go h m left = k.stops t Breaks
    perform_holds operation arguments line t s froms takes locals f (uses x) o go h m left =
        used_holds t line (slot m x) (λ v. go v m left)
        (λ v. h v t (subst (λ c. In t (behind w.returns c t)) (sym o) (inl refl)) m left)
    perform_holds operation arguments line t s froms takes locals f (sets x v) o go h m left =
        used_holds t line (slot m x) (λ old. go v (with_slot m x (has v)) left)
        (λ old. h v t (subst (λ c. In t (behind w.returns c t)) (sym o) (inl refl)) (with_slot m x (has v)) left)
    perform_holds operation arguments line t s froms takes locals f (reads place) o go h m left =
        let own = subst (λ c. Has (step_at w c arguments line t s froms takes locals)) o f in
        k.asks t (request.Read place line) (fits_read here.layout place) (λ answer. go (shown_or_zero answer) m left)
        (an_access (step_at w op.Read arguments line t s froms takes locals) own (suc s) _ refl refl)
        (λ answer. h (shown_or_zero answer) t
        (subst (λ (c : Operation). In t (behind w.returns (callee_of c) t)) (sym o) (inl refl)) m left)
    perform_holds operation arguments line t s froms takes locals f (writes place v) o go h m left =
        let own = subst (λ c. Has (step_at w c arguments line t s froms takes locals)) o f in
        k.requests t (request.Write place v line) (go v m left)
        (an_access (step_at w op.Write arguments line t s froms takes locals) own (suc s) _ refl refl)
        (h v t (subst (λ (c : Operation). In t (behind w.returns (callee_of c) t)) (sym o) (inl refl)) m left)
    perform_holds operation arguments line t s froms takes locals f (calls g vs) o go h m left =
        call_holds g vs line go t (f.calls g o)
        (λ v u i. h v u (subst (λ c. In u (behind w.returns c t)) (sym o) (subst (λ ns. In u ns) (sym (same g)) i))) m left

    performs : (operation : Operation) (arguments : Arguments) (line t s : ℕ) (froms takes locals : List ℕ)
        → Has (step_at w operation arguments line t s froms takes locals)
        → (vs : List Value) (go : Value → Rest) → ((v : Value) → Holds (behind w.returns (callee_of operation) t) (go v))
        → Holds froms (λ m left. pass t (performed here calling operation vs line go m left))
    performs operation arguments line t s froms takes locals f vs go h u i m left =
        k.passes u t (performed here calling operation vs line go m left) (f.enters u i)
        (perform_holds operation arguments line t s froms takes locals f (made_of here.layout here.node operation vs)
        (made_is here.layout here.node operation vs) go h m left)

    -- ---- expressions

    back_holds : (undo : Option Operation) (line t s : ℕ) (locals : List ℕ) → Each Has (points_back w undo line t s locals)
        → (go : Value → Rest) → ((v : Value) → Holds (behind_back w.returns undo t) (go v))
        → (v : Value) → Holds (t ∷ []) (taken_back here calling undo (t + 1) line go v)
    back_holds None line t s locals f go h v = h v
    back_holds (Some operation) line t s locals f go h v =
        performs operation none line (t + 1) s (t ∷ []) [] locals f.0 (v ∷ Int (pos 1) ∷ []) go h

    mutual
      value_holds : (e : Core) (at s : ℕ) (froms : List ℕ) → Each Has (points w e at s froms)
          → (go : Value → Rest) → ((v : Value) → Holds (exits w.returns e at froms) (go v)) → Holds froms (value here calling e at go)
      value_holds (constant c) at s froms f go h = h (constant_of here c)
      value_holds (step operation arguments line) at s froms f go h =
          let t = at + sizes arguments in
          values_holds arguments at s froms (each_left Has (points_all w arguments at s froms) _ f)
          (λ vs m left. pass t (performed here calling operation vs line go m left))
          (λ vs. performs operation arguments line t (s + accesses_all arguments) (exits_all w.returns arguments at froms)
          (fetched_all arguments s) (occurring_all w.params arguments ++ occurring_by w.params operation)
          (each_right Has (points_all w arguments at s froms) _ f).0 vs go h)
      value_holds (choice of_pointer test on off) at s froms f go h =
          let t = at + size test in
          let s' = s + accesses test in
          let ons = points w on (t + 1) s' (t ∷ []) in
          let tests = points w test at s froms in
          let f_off = each_right Has (tests ++ test_at w test at s froms ∷ ons) (points w off (t + 1 + size on) (s' + accesses on) (t ∷ [])) f in
          let f_test = each_left Has (tests ++ test_at w test at s froms ∷ ons) (points w off (t + 1 + size on) (s' + accesses on) (t ∷ [])) f in
          let f_own = each_right Has tests (test_at w test at s froms ∷ ons) f_test in
          let left_exits = exits w.returns on (t + 1) (t ∷ []) in
          let right_exits = exits w.returns off (t + 1 + size on) (t ∷ []) in
          value_holds test at s froms (each_left Has tests (test_at w test at s froms ∷ ons) f_test)
          (λ v m left. pass t (decided here.layout here.node of_pointer v
          (value here calling on (t + 1) go m left) (value here calling off (t + 1 + size on) go m left)))
          (λ v u i m left. k.passes u t _ (f_own.0.enters u i)
          (decided_holds t of_pointer v _ _
          (value_holds on (t + 1) s' (t ∷ []) f_own.1 go (λ v u i. h v u (in_left u left_exits right_exits i)) t (inl refl) m left)
          (value_holds off (t + 1 + size on) (s' + accesses on) (t ∷ []) f_off go
          (λ v u i. h v u (in_right u left_exits right_exits i)) t (inl refl) m left)))
      value_holds (update pointer operation right undo line) at s froms f go h =
          let t = at + size pointer in
          let u = t + 1 + size right in
          let read = s + accesses pointer in
          let join = read + 1 + accesses right in
          let write = join + accesses_by operation in
          let place = argument pointer none in
          let locals = occurring w.params (update pointer operation right undo line) in
          let reading = step_at w op.Read place line t read (exits w.returns pointer at froms) (fetched pointer s)
          (occurring w.params pointer ++ mark) in
          let rights = points w right (t + 1) (read + 1) (t ∷ []) in
          let joining = step_at w operation none line u join (exits w.returns right (t + 1) (t ∷ []))
          (suc read ∷ fetched right (read + 1)) locals in
          let writing = step_at w op.Write place line (u + 1) write (behind w.returns (callee_of operation) u)
          (fetched pointer s ++ fetched_by operation join) locals in
          let backs = points_back w undo line (u + 1) (write + 1) locals in
          let before = points w pointer at s froms in
          let f_front = each_left Has (before ++ reading ∷ rights) (joining ∷ writing ∷ backs) f in
          let f_back = each_right Has (before ++ reading ∷ rights) (joining ∷ writing ∷ backs) f in
          let f_read = each_right Has before (reading ∷ rights) f_front in
          let same_point : u + 1 + 1 ≡ u + 2 = omega arith in
          value_holds pointer at s froms (each_left Has before (reading ∷ rights) f_front) _
          (λ p. performs op.Read place line t read (exits w.returns pointer at froms) (fetched pointer s) (occurring w.params pointer ++ mark)
          f_read.0 (p ∷ []) _
          (λ old. value_holds right (t + 1) (read + 1) (t ∷ []) f_read.1 _
          (λ by. performs operation none line u join (exits w.returns right (t + 1) (t ∷ [])) (suc read ∷ fetched right (read + 1)) locals
          f_back.0 (old ∷ by ∷ []) _
          (λ new. performs op.Write place line (u + 1) write (behind w.returns (callee_of operation) u)
          (fetched pointer s ++ fetched_by operation join) locals f_back.1.0 (p ∷ new ∷ []) (taken_back here calling undo (u + 2) line go)
          (λ v. subst (λ n. Holds ((u + 1) ∷ []) (taken_back here calling undo n line go v)) same_point
          (back_holds undo line (u + 1) (write + 1) locals f_back.1.1 go h v))))))

      values_holds : (arguments : Arguments) (at s : ℕ) (froms : List ℕ) → Each Has (points_all w arguments at s froms)
          → (go : List Value → Rest) → ((vs : List Value) → Holds (exits_all w.returns arguments at froms) (go vs))
          → Holds froms (values here calling arguments at go)
      values_holds none at s froms f go h = h []
      values_holds (argument e more) at s froms f go h =
          let es = points w e at s froms in
          let mores = points_all w more (at + size e) (s + accesses e) (exits w.returns e at froms) in
          value_holds e at s froms (each_left Has es mores f) (λ v. values here calling more (at + size e) (λ vs. go (v ∷ vs)))
          (λ v. values_holds more (at + size e) (s + accesses e) (exits w.returns e at froms) (each_right Has es mores f)
          (λ vs. go (v ∷ vs)) (λ vs. h (v ∷ vs)))

  -- ---- statements, in a function that returns at these points

  module _ (calling : Calls) (call_holds : CallHolds calling) (back_points : List ℕ) where
    action_holds : (w : Within) (action : Action) (arguments : Arguments) (line t s : ℕ) (froms takes locals : List ℕ)
        → Has (action_at w action arguments line t s froms takes locals) → (done : Done) → IsOfAction action done
        → (after : Rest) → Holds (t ∷ []) after → (m : Memory) (left : ℕ) → P t (enact here.layout (mode_of action) done line after m left)
    action_holds w action arguments line t s froms takes locals f lets_go o after h m left = h t (inl refl) m left
    action_holds w action arguments line t s froms takes locals f (ends kind) o after h m left = k.stops t (Finishes (Fault kind line))
    action_holds w action arguments line t s froms takes locals f sticks o after h m left = k.stops t Breaks
    action_holds w action arguments line t s froms takes locals f (clears x v) o after h m left =
        used_holds t line (slot m x) (λ old. after (with_slot m x (has v)) left) (λ old. h t (inl refl) (with_slot m x (has v)) left)
    action_holds w action arguments line t s froms takes locals f (prints text) o after h m left =
        k.says t text (after m left) (h t (inl refl) m left)
    action_holds w action arguments line t s froms takes locals f (fills x place) o after h m left =
        let own = subst (λ c. Has (action_at w c arguments line t s froms takes locals)) o f in
        k.asks t (request.Read place line) (fits_read here.layout place) _
        (an_access (action_at w (acts.Fill x) arguments line t s froms takes locals) own (suc s) _ refl refl)
        (λ answer. used_holds t line (slot m x) (λ old. after (with_slot m x (has (shown_or_zero answer))) left)
        (λ old. h t (inl refl) (with_slot m x (has (shown_or_zero answer))) left))
    action_holds w action arguments line t s froms takes locals f (gets x place) o after h m left =
        let own = subst (λ c. Has (action_at w c arguments line t s froms takes locals)) o f in
        used_holds t line (slot m x) (λ old. Makes (Requested (request.Get place line)) (after (with_get m x place) left))
        (λ old. k.requests t (request.Get place line) (after (with_get m x place) left)
        (an_access (action_at w (acts.Get x) arguments line t s froms takes locals) own (suc s) _ refl refl)
        (h t (inl refl) (with_get m x place) left))
    action_holds w action arguments line t s froms takes locals f (misses x kind) o after h m left =
        used_holds t line (slot m x) (λ old. Stops (Finishes (Fault kind line))) (λ old. k.stops t (Finishes (Fault kind line)))
    action_holds w action arguments line t s froms takes locals f (puts place v) o after h m left =
        let own = subst (λ c. Has (action_at w c arguments line t s froms takes locals)) o f in
        k.requests t (request.Put place v line) (after m left)
        (an_access (action_at w acts.Put arguments line t s froms takes locals) own (suc s) _ refl refl) (h t (inl refl) m left)
    action_holds w action arguments line t s froms takes locals f (sends place v) o after h m left =
        let own = subst (λ c. Has (action_at w c arguments line t s froms takes locals)) o f in
        k.requests t (request.Store place v line) (after m left)
        (an_access (action_at w acts.Send arguments line t s froms takes locals) own (suc s) _ refl refl) (h t (inl refl) m left)
    action_holds w action arguments line t s froms takes locals f (copies from to cells) o after h m left =
        let own = subst (λ c. Has (action_at w c arguments line t s froms takes locals)) o.1 f in
        let access = an_access (action_at w (acts.Copy o.0) arguments line t s froms takes locals) own (suc s) _ refl refl in
        k.requests t (request.Copy from to cells (mode_of action) line) (after m left)
        (subst (λ (c : Action). IsMadeAt graph t (request.Copy from to cells (mode_of c) line)) (sym o.1) access) (h t (inl refl) m left)
    action_holds w action arguments line t s froms takes locals f (waits counter) o after h m left =
        let own = subst (λ c. Has (action_at w c arguments line t s froms takes locals)) o f in
        k.asks t (request.Sync line) (fits_sync here.layout (places m)) (λ answer. after (synced (landed_or_none answer) m) left)
        own.kind (λ answer. h t (inl refl) (synced (landed_or_none answer) m) left)
    action_holds w action arguments line t s froms takes locals f (meets true) o after h m left =
        let own = subst (λ c. Has (action_at w c arguments line t s froms takes locals)) o f in
        k.asks t (request.AllStoreSync line) fits_barrier (λ answer. unless_broken answer (after m left))
        own.kind (λ answer. broken_holds t answer (after m left) (h t (inl refl) m left))
    action_holds w action arguments line t s froms takes locals f (meets false) o after h m left =
        let own = subst (λ c. Has (action_at w c arguments line t s froms takes locals)) o f in
        k.asks t (request.Barrier line) fits_barrier (λ answer. unless_broken answer (after m left))
        own.kind (λ answer. broken_holds t answer (after m left) (h t (inl refl) m left))

    -- what is gone on with behind a statement that is left so
    record JumpsHold (breaks continues : List ℕ) (j : Jumps) : Type 0 where
      pub back : (v : Value) → Holds back_points (j.back v)
      pub out : Holds breaks j.out
      pub again : Holds continues j.again

    IsAll : List ℕ → Type 0
    IsAll ns = (t : ℕ) → In t ns → In t back_points

    rounds_hold : (n t : ℕ) (froms falls : List ℕ) (before turning : Rest → Rest)
        → ((u : ℕ) → In u falls → Goes graph u t)
        → ((after : Rest) → Holds falls after → Holds froms (before after))
        → ((after : Rest) → Holds froms after → Holds (t ∷ []) (turning after))
        → Holds froms (rounds t n before turning)
    rounds_hold zero t froms falls before turning goes b r = λ u i m left. k.stops u (Finishes Cut)
    rounds_hold (suc n) t froms falls before turning goes b r =
        b (λ m left. pass t (counted left (λ left. turning (rounds t n before turning) m left)))
        (λ u i m left. k.passes u t _ (goes u i)
        (counted_holds t left _ (λ l. r (rounds t n before turning) (rounds_hold n t froms falls before turning goes b r) t (inl refl) m l)))

    does_holds : (w : Within) → ((f : ℕ) → w.returns f ≡ returns here.program.functions f) → (d : Does) (at s : ℕ) (froms : List ℕ)
        → Each Has (points_in w d at s froms) → ((t : ℕ) → In t (returns_in d at) → In t back_points) → (j : Jumps) (after : Rest)
        → JumpsHold (leaves w.returns d at froms).breaks (leaves w.returns d at froms).continues j
        → Holds (leaves w.returns d at froms).falls after → Holds froms (does here calling d at j after)
    does_holds w same nothing at s froms f r j after jumps h = h
    does_holds w same break at s froms f r j after jumps h = jumps.out
    does_holds w same continue at s froms f r j after jumps h = jumps.again
    does_holds w same (then_ first second) at s froms f r j after jumps h =
        let a = leaves w.returns first at froms in
        let k' = at + size_of first in
        let b = leaves w.returns second k' a.falls in
        let firsts = points_in w first at s froms in
        let seconds = points_in w second k' (s + accesses_in first) a.falls in
        does_holds w same first at s froms (each_left Has firsts seconds f)
        (λ t i. r t (in_left t (returns_in first at) (returns_in second k') i)) j (does here calling second k' j after)
        (record {
          back = jumps.back;
          out = λ t i. jumps.out t (in_left t a.breaks b.breaks i);
          again = λ t i. jumps.again t (in_left t a.continues b.continues i);
        })
        (does_holds w same second k' (s + accesses_in first) a.falls (each_right Has firsts seconds f)
        (λ t i. r t (in_right t (returns_in first at) (returns_in second k') i)) j after
        (record {
          back = jumps.back;
          out = λ t i. jumps.out t (in_right t a.breaks b.breaks i);
          again = λ t i. jumps.again t (in_right t a.continues b.continues i);
        }) h)
    does_holds w same (act action arguments line) at s froms f r j after jumps h =
        let t = at + sizes arguments in
        let alls = points_all w arguments at s froms in
        let own = (each_right Has alls _ f).0 in
        values_holds calling call_holds w same arguments at s froms (each_left Has alls _ f) _
        (λ vs u i m left. k.passes u t _ (own.enters u i)
        (action_holds w action arguments line t (s + accesses_all arguments) (exits_all w.returns arguments at froms)
        (fetched_all arguments s) (occurring_all w.params arguments) own
        (done_of here.layout here.program.texts action vs) (done_is here.layout here.program.texts action vs) after h m left))
    does_holds w same (choose of_pointer test on off) at s froms f r j after jumps h =
        let t = at + size test in
        let s' = s + accesses test in
        let u = t + 1 + size_of on in
        let tests = points w test at s froms in
        let ons = points_in w on (t + 1) s' (t ∷ []) in
        let offs = points_in w off u (s' + accesses_in on) (t ∷ []) in
        let f_front = each_left Has (tests ++ test_at w test at s froms ∷ ons) offs f in
        let f_off = each_right Has (tests ++ test_at w test at s froms ∷ ons) offs f in
        let f_own = each_right Has tests (test_at w test at s froms ∷ ons) f_front in
        let a = leaves w.returns on (t + 1) (t ∷ []) in
        let b = leaves w.returns off u (t ∷ []) in
        value_holds calling call_holds w same test at s froms (each_left Has tests (test_at w test at s froms ∷ ons) f_front) _
        (λ v x i m left. k.passes x t _ (f_own.0.enters x i)
        (decided_holds t of_pointer v _ _
        (does_holds w same on (t + 1) s' (t ∷ []) f_own.1 (λ y i. r y (in_left y (returns_in on (t + 1)) (returns_in off u) i)) j after
        (record {
          back = jumps.back;
          out = λ y i. jumps.out y (in_left y a.breaks b.breaks i);
          again = λ y i. jumps.again y (in_left y a.continues b.continues i);
        })
        (λ y i. h y (in_left y a.falls b.falls i)) t (inl refl) m left)
        (does_holds w same off u (s' + accesses_in on) (t ∷ []) f_off (λ y i. r y (in_right y (returns_in on (t + 1)) (returns_in off u) i)) j after
        (record {
          back = jumps.back;
          out = λ y i. jumps.out y (in_right y a.breaks b.breaks i);
          again = λ y i. jumps.again y (in_right y a.continues b.continues i);
        })
        (λ y i. h y (in_right y a.falls b.falls i)) t (inl refl) m left)))
    does_holds w same (loop mine before body next) at s froms f r j after jumps h =
        let t = at + size_of before in
        let u = t + 1 + size_of body in
        let s' = s + accesses_in before in
        let w' = in_loop w mine before body in
        let b = leaves w.returns body (t + 1) (t ∷ []) in
        let into_after = b.falls ++ b.continues in
        let c = leaves w.returns next u into_after in
        let into_before = froms ++ c.falls in
        let a = leaves w.returns before at into_before in
        let befores = points_in w before at s into_before in
        let turning = bare w Plain t a.falls [] [] in
        let bodies = points_in w' body (t + 1) s' (t ∷ []) in
        let afters = points_in w next u (s' + accesses_in body) into_after in
        let f_front = each_left Has (befores ++ turning ∷ bodies) afters f in
        let f_after = each_right Has (befores ++ turning ∷ bodies) afters f in
        let f_turn = each_right Has befores (turning ∷ bodies) f_front in
        let around : Jumps = record { back = j.back; out = after; again = j.again } in
        let front_returns = returns_in before at ++ returns_in body (t + 1) in
        let after_returns = returns_in next u in
        λ x i m left. rounds_hold (suc left) t into_before a.falls _ _ (λ y i. f_turn.0.enters y i)
        (λ round holds. does_holds w same before at s into_before (each_left Has befores (turning ∷ bodies) f_front)
        (λ y i. r y (in_left y front_returns after_returns (in_left y (returns_in before at) (returns_in body (t + 1)) i))) around round
        (record {
          back = jumps.back;
          out = λ y i. h y (in_left y (a.breaks ++ b.breaks) c.breaks (in_left y a.breaks b.breaks i));
          again = λ y i. jumps.again y (in_left y a.continues c.continues i);
        }) holds)
        (λ round holds.
        let more = does_holds w same next u (s' + accesses_in body) into_after f_after
        (λ y i. r y (in_right y front_returns after_returns i)) around round
        (record {
          back = jumps.back;
          out = λ y i. h y (in_right y (a.breaks ++ b.breaks) c.breaks i);
          again = λ y i. jumps.again y (in_right y a.continues c.continues i);
        })
        (λ y i. holds y (in_right y froms c.falls i)) in
        does_holds w' same body (t + 1) s' (t ∷ []) f_turn.1
        (λ y i. r y (in_left y front_returns after_returns (in_right y (returns_in before at) (returns_in body (t + 1)) i)))
        (record { back = j.back; out = after; again = does here calling next u around round }) (does here calling next u around round)
        (record {
          back = jumps.back;
          out = λ y i. h y (in_left y (a.breaks ++ b.breaks) c.breaks (in_right y a.breaks b.breaks i));
          again = λ y i. more y (in_right y b.falls b.continues i);
        })
        (λ y i. more y (in_left y b.falls b.continues i)))
        x (in_left x froms c.falls i) m left
    does_holds w same (return e line) at s froms f r j after jumps h =
        let t = at + size e in
        let es = points w e at s froms in
        let own = (each_right Has es _ f).0 in
        value_holds calling call_holds w same e at s froms (each_left Has es _ f) _
        (λ v u i m left. k.passes u t _ (own.enters u i)
        (none_holds t line (top m.frames) _ (jumps.back v t (r t (inl refl)) m left)))

    body_holds : (w : Within) → ((f : ℕ) → w.returns f ≡ returns here.program.functions f) → (f : Function) (at s : ℕ)
        → Each Has (points_of w f at s) → ((t : ℕ) → In t (returns_of f at) → In t back_points)
        → (going_back : Value → Rest) → ((v : Value) → Holds back_points (going_back v))
        → (u : ℕ) → Goes graph u at → (m : Memory) (left : ℕ) → P u (body_of here calling at f going_back m left)
    body_holds w same f at s has_points r going_back h u goes m left =
        let bodies = points_in w f.body (at + 1) s (at ∷ []) in
        let l = leaves w.returns f.body (at + 1) (at ∷ []) in
        let ended = bare w Return (end_of f at) l.falls [] [] in
        let own = (each_right Has bodies (ended ∷ []) has_points.1).0 in
        k.passes u at _ goes
        (does_holds w same f.body (at + 1) s (at ∷ []) (each_left Has bodies (ended ∷ []) has_points.1)
        (λ t i. r t (in_left t (returns_in f.body (at + 1)) (end_of f at ∷ []) i)) (in_body here going_back) _
        (record { back = h; out = λ t i m left. k.stops t Breaks; again = λ t i m left. k.stops t Breaks })
        (λ t i m left. k.passes t (end_of f at) _ (own.enters t i)
        (none_holds (end_of f at) f.line (top m.frames) _
        (h (constant_of here (zero_of f.result)) (end_of f at) (r (end_of f at) (in_right (end_of f at) (returns_in f.body (at + 1)) (end_of f at ∷ []) (inl refl))) m left)))
        at (inl refl) m left)

  -- ---- functions

  abbrev functions : List Function
  functions = here.program.functions

  -- the points of the function with this number are points of the flow
  abbrev Stands : (n first : ℕ) → Function → Type 0
  Stands n first g = (s : ℕ) × Each Has (points_of (within here.layout.nodes (returns functions) n g) g first s)

  function_stands : (all : List Function) (n at s f : ℕ) (g : Function)
      → Each Has (points_from here.layout.nodes (returns functions) n at s all) → slice_get all f ≡ Some g
      → (i : ℕ) × Stands i (first_from at all f) g
  function_stands [] n at s f g h e = absurd cc
  function_stands (x ∷ more) n at s zero g h e =
      let same : x ≡ g = cc in
      let own = points_of (within here.layout.nodes (returns functions) n x) x at s in
      subst (λ y. (i : ℕ) × Stands i at y) same (n, (s, each_left Has own _ h))
  function_stands (x ∷ more) n at s (suc f) g h e =
      let own = points_of (within here.layout.nodes (returns functions) n x) x at s in
      function_stands more (suc n) (at + size_of x.body + 2) (s + accesses_in x.body) f g (each_right Has own _ h) e

  all_facts : Each Has (all_points here.layout.nodes here.program)
  all_facts = each_of Has (all_points here.layout.nodes here.program) (λ p i. facts here.layout.nodes here.program p i)

  return_points : (f : ℕ) (g : Function) → slice_get functions f ≡ Some g → (t : ℕ)
      → In t (returns_of g (first_point functions f)) → In t (returns functions f)
  return_points f g e t i =
      subst (λ (o : Option Function). In t (option_map_or (λ (h : Function). returns_of h (first_point functions f)) o [])) (sym e) i

  begins : (calling : Calls) → CallHolds calling → (f : ℕ) (g : Function) → slice_get functions f ≡ Some g
      → (going_back : Value → Rest) → ((v : Value) → Holds (returns functions f) (going_back v))
      → (u : ℕ) → Goes graph u (first_point functions f) → (m : Memory) (left : ℕ)
      → P u (body_of here calling (first_point functions f) g going_back m left)
  begins calling call_holds f g e going_back h u goes m left =
      let st = function_stands functions 0 1 0 f g all_facts.1 e in
      body_holds calling call_holds (returns functions f) (within here.layout.nodes (returns functions) st.0 g) (λ f. refl) g
      (first_point functions f) st.1.0 st.1.1 (return_points f g e) going_back h u goes m left

  entering_holds : (calling : Calls) → CallHolds calling → (f : ℕ) (o : Option Function) → slice_get functions f ≡ o
      → (vs : List Value) (go : Value → Rest) → ((v : Value) → Holds (returns functions f) (go v))
      → (t : ℕ) → (f < length functions → Goes graph t (first_point functions f)) → (m : Memory) (left : ℕ)
      → P t (entering here calling (first_point functions f) o vs go m left)
  entering_holds calling call_holds f None e vs go h t goes m left = k.stops t Breaks
  entering_holds calling call_holds f (Some g) e vs go h t goes m left =
      begins calling call_holds f g e _ (λ v u i m left. h v u i (popped m) left) t (goes (slice_get_within functions f g e))
      (pushed (entered vs (length g.others)) m) left

  calls_hold : (frames : ℕ) → CallHolds (calls_by here frames)
  calls_hold zero f vs line go t goes h m left = counted_holds t left _ (λ l. k.stops t (Finishes (Fault Depth line)))
  calls_hold (suc frames) f vs line go t goes h m left =
      counted_holds t left _ (λ l. entering_holds (calls_by here frames) (calls_hold frames) f (slice_get functions f) refl vs go h t goes m l)

  begun_holds : (o : Option Function) → slice_get functions here.program.main ≡ o → (budget : ℕ) → P 0 (begun here o budget)
  begun_holds None e budget = k.stops 0 Breaks
  begun_holds (Some g) e budget =
      begins (calls_by here (LIMITS.frames - 1)) (calls_hold (LIMITS.frames - 1)) here.program.main g e _
      (λ v u i m left. k.stops u (Finishes Ended)) 0
      (all_facts.0.calls here.program.main refl (slice_get_within functions here.program.main g e)) _ budget

  -- behind Start
  pub begun_keeps : (budget : ℕ) → P 0 (begun here (slice_get functions here.program.main) budget)
  begun_keeps budget = begun_holds (slice_get functions here.program.main) refl budget
