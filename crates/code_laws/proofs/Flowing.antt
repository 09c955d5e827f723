-- What the flow of a source has of each part of a function's body, and that the part is formed as its code wants it.
use Rattle.std.proofs.Common.{◌≡◌, ◌⊎◌, inl, inr, ℕ, suc, ◌+◌, ◌<◌, List, [], ◌∷◌, ◌++◌, length, Option, Some, None, Bool, true, false, slice_get, refl, sym, ap, ◌∙◌, subst, arith}
use Rattle.std.specs.Prelude.{ltb, nat_lt, if◌then◌else◌}
use Rattle.std.specs.List.{Contains}
use Rattle.std.proofs.lemmas.Option.{slice_get_within}
use Rattle.sc_layout.specs.Layout.{Arrangement}
use Rattle.sc_isa.specs.declared.code.Code.{Code}
use Rattle.sc_isa.specs.declared.code.FnRow.{FnRow}
use Rattle.sc_core.specs.declared.operation.Operation.{Operation}
use Rattle.sc_core.specs.declared.operation.Operation.TheVariants as does
use Rattle.sc_core.specs.declared.operation.Action.{Action}
use Rattle.sc_core.specs.declared.operation.Action.TheVariants as acts
use Rattle.sc_core.specs.Core.{Core, constant, step, choice, update, Arguments, none, argument, Does, nothing, break, continue, then_, act, choose, loop, return, Function, Program}
use Rattle.sc_meaning.specs.Points.{size, sizes, size_of}
use Rattle.meaning_laws.specs.StepTable.{HasSite, IsAtSite, ActsAtSite, HasRow}
use Rattle.site_graph.specs.declared.plan.Plan.{Plan}
use Rattle.site_graph.specs.declared.point.PointKind.TheVariants.{Plain, Access}
use Rattle.site_graph.specs.declared.site.Site.{Site}
use Rattle.site_graph.specs.Graph.{Graph, site_at}
use Rattle.site_graph.specs.Rising.{rising}
use Rattle.site_graph.specs.Plans.{waits_at, takes, names}
use Rattle.flow_form.specs.Within.{Within, Placed}
use Rattle.flow_form.specs.Accesses.{accesses, accesses_all, accesses_by, accesses_in}
use Rattle.flow_form.specs.Written.{set_by, set_by_action}
use Rattle.flow_form.specs.Occurring.{mark, local, occurring, occurring_all, occurring_by, occurring_back}
use Rattle.flow_form.specs.Exits.{behind, exits, exits_all, fetched, fetched_all, fetched_by, leaves, returns_in}
use Rattle.flow_form.specs.Steps.{callee_of, bare, step_at, action_at}
use Rattle.flow_form.specs.Expressions.{points, points_all, points_back, test_at}
use Rattle.flow_form.specs.Statements.{points_in, mine_in}
use Rattle.flow_form.specs.FlowOf.{flow_of, returns}
use Rattle.flow_form.proofs.Rises.{Each, In as Among, contains_of as contains, in_left, in_right, in_rising, numbers_same}
use Rattle.flow_laws.proofs.Facts.{facts}
use Rattle.flow_laws.proofs.Passing.{each_left, each_right}
use Rattle.node_emit.specs.Runs.{goes_one_way}
use Rattle.node_emit.specs.Spelled.{Piece}
use Rattle.emit_laws.proofs.Parts.{Setup, In, named, touched, count_of, Enter, Takes, CallOf, FetchesBy, Touches, FlowStep, FillsBy, FlowAct, FlowBack, Flow, FlowAll, Flows}
use Rattle.emit_laws.proofs.Openings.{contains_of}
use Rattle.emit_laws.proofs.Setups.{setup}
use Rattle.emit_laws.proofs.Placed.{StepFormed, ActFormed, BackFormed, Formed, FormedAll}
use Rattle.emit_laws.proofs.PlacedStatements.{FormedIn}
use Rattle.code_laws.proofs.Bodies.{Is, Has, its_point}
use Rattle.code_laws.proofs.Shapes.{Callable, StepShaped, ActShaped, BackShaped, Shaped, ShapedAll, ShapedIn}

pub among : (x : ℕ) (xs : List ℕ) → In x xs → Among x xs
among x [] i = absurd i
among x (y ∷ ys) (inl e) = inl (sym e)
among x (y ∷ ys) (inr i) = inr (among x ys i)

pub is_in : (x : ℕ) (xs : List ℕ) → Among x xs → In x xs
is_in x [] i = absurd i
is_in x (y ∷ ys) (inl e) = inl (sym e)
is_in x (y ∷ ys) (inr i) = inr (is_in x ys i)

rises_with : (x : ℕ) (xs : List ℕ) → Among x xs → Contains (rising ltb xs) x
rises_with x xs i = contains x (rising ltb xs) (in_rising ltb numbers_same x xs i)

in_local : (b : Bool) (x : ℕ) → Among x (if b then x ∷ mark else x ∷ [])
in_local true x = inl refl
in_local false x = inl refl

-- the step reads or sets the local that it names
step_touches : (params : ℕ) (operation : Operation) (reads : List ℕ) → ((x : ℕ) → Among x (occurring_by params operation) → Among x reads)
    → (x : ℕ) → In x (named operation) → Contains (rising ltb reads) x ⊎ (set_by operation ≡ Some x)
step_touches params (does.Use y) reads all x (inl e) =
    inl (rises_with x reads (all x (subst (λ z. Among z (local params y)) (sym e) (in_local (nat_lt y params) y))))
step_touches params (does.Use y) reads all x (inr i) = absurd i
step_touches params (does.Set y) reads all x (inl e) = inr (ap Some (sym e))
step_touches params (does.Set y) reads all x (inr i) = absurd i
step_touches params operation reads all x i = absurd i

act_touches : (action : Action) (x : ℕ) → In x (touched action) → set_by_action action ≡ Some x
act_touches (acts.Begin y) x (inl e) = ap Some (sym e)
act_touches (acts.Begin y) x (inr i) = absurd i
act_touches (acts.Clear y pointer) x (inl e) = ap Some (sym e)
act_touches (acts.Clear y pointer) x (inr i) = absurd i
act_touches (acts.Fill y) x (inl e) = ap Some (sym e)
act_touches (acts.Fill y) x (inr i) = absurd i
act_touches (acts.Get y) x (inl e) = ap Some (sym e)
act_touches (acts.Get y) x (inr i) = absurd i
act_touches action x i = absurd i

-- the rows of the code have as many parameters as the functions
abbrev pub HaveRows : Program → Code → Type 0
HaveRows program code =
    (f : ℕ) (g : Function) → slice_get program.functions f ≡ Some g
    → (row : FnRow) × (slice_get code.functions f ≡ Some row) × (row.params ≡ length g.params)

module _ (layout : Arrangement) (program : Program) (plan : Plan) (code : Code) (pieces : List Piece) (between : ℕ → ℕ → List ℕ) (node : ℕ)
    (sites : length (flow_of layout.nodes program).sites ≡ code.sites) (rows : HaveRows program code)
    (fn params locals : ℕ) (room : (setup layout program plan code pieces between node).locals fn ≡ locals) where
  abbrev c : Setup
  c = setup layout program plan code pieces between node

  abbrev graph : Graph
  graph = flow_of layout.nodes program

  abbrev waits : (t : ℕ) → c.waits t ≡ waits_at plan t
  waits t = refl

  abbrev one_way : (site : ℕ) → c.one_way site ≡ goes_one_way plan site
  one_way site = refl

  -- the function, as a part of it sees it behind loops
  abbrev w : (mines : List ℕ) → Within
  w mines = record { nodes = layout.nodes; returns = returns program.functions; function = fn; params = params; mines = mines }

  abbrev I : Placed → Type 0
  I p = Is layout program p

  abbrev H : Placed → Type 0
  H p = Has layout program p

  -- ---- single points

  pub enter_of : (p : Placed) → I p → Enter c p.froms p.at
  enter_of p i f j = (facts layout.nodes program p i).enters f (among f p.froms j)

  take_of : (p : Placed) → I p → Takes c p.at p.point.takes
  take_of p i a j = takes p.point (its_point layout program p i) (contains_of p.point.takes a j)

  touch_of : (p : Placed) → I p → p.point.function ≡ fn → (x : ℕ) → x < locals → Contains p.point.reads x ⊎ (p.point.writes ≡ Some x)
      → Touches c fn p.at x
  touch_of p i own x lt touched = record {
    within = subst (λ n. x < n) (sym room) lt;
    demands = λ a f. names f.what x f.at f.point p.point f.is_site f.fills f.is_at f.is_point (its_point layout program p i) (f.function_is ∙ sym own) touched;
  }

  site_of_point : (p : Placed) → I p → (s : ℕ) (x : Site) → p.point.kind ≡ Access (suc s) → p.site ≡ Some x → site_at graph (suc s) ≡ Some x
  site_of_point p i s x e same = (facts layout.nodes program p i).site (suc s) x e same

  has_site : (p : Placed) → I p → (s : ℕ) (x : Site) → p.point.kind ≡ Access (suc s) → p.site ≡ Some x → HasSite code (suc s)
  has_site p i s x e same =
      let lt = slice_get_within graph.sites s x (site_of_point p i s x e same) in
      record { from_one = omega arith; within = omega (arith, lt, sites) }

  -- ---- steps

  module _ (mines : List ℕ) where
    step_fetches : (operation : Operation) (arguments : Arguments) (line t s : ℕ) (froms taking reads : List ℕ)
        → I (step_at (w mines) operation arguments line t s froms taking reads) → FetchesBy c operation t (suc s)
    step_fetches does.Read arguments line t s froms taking reads i =
        let p = step_at (w mines) does.Read arguments line t s froms taking reads in
        record { what = _; is_site = site_of_point p i s _ refl refl; reads = refl; is_at = (facts layout.nodes program p i).kind }
    step_fetches operation arguments line t s froms taking reads i = tt

    step_calls : (operation : Operation) (arguments : Arguments) (line t s : ℕ) (froms taking reads : List ℕ)
        → I (step_at (w mines) operation arguments line t s froms taking reads) → Callable program.functions locals operation → CallOf c (callee_of operation) t
    step_calls (does.Call f n) arguments line t s froms taking reads i called =
        let p = step_at (w mines) (does.Call f n) arguments line t s froms taking reads in
        ((facts layout.nodes program p i).calls f refl (slice_get_within program.functions f called.0 called.1), (called.0, called.1))
    step_calls operation arguments line t s froms taking reads i called = tt

    step_sites : (operation : Operation) (arguments : Arguments) (line t s : ℕ) (froms taking reads : List ℕ)
        → I (step_at (w mines) operation arguments line t s froms taking reads) → IsAtSite code (suc s) operation
    step_sites does.Read arguments line t s froms taking reads i =
        has_site (step_at (w mines) does.Read arguments line t s froms taking reads) i s _ refl refl
    step_sites does.Write arguments line t s froms taking reads i =
        has_site (step_at (w mines) does.Write arguments line t s froms taking reads) i s _ refl refl
    step_sites operation arguments line t s froms taking reads i = tt

    step_row : (operation : Operation) → Callable program.functions locals operation → HasRow code operation
    step_row (does.Call f n) called =
        let r = rows f called.0 called.1 in (r.0, r.1, r.2 ∙ called.2)
    step_row operation called = tt

    step_both : (operation : Operation) (arguments : Arguments) (line t s : ℕ) (froms taking reads : List ℕ) (count : ℕ)
        → H (step_at (w mines) operation arguments line t s froms taking reads) → StepShaped program.functions locals operation count
        → ((x : ℕ) → Among x (occurring_by params operation) → Among x reads)
        → FlowStep c fn operation t (suc s) froms taking × StepFormed c plan waits one_way operation count t (suc s)
    step_both operation arguments line t s froms taking reads count h shape all =
        let p = step_at (w mines) operation arguments line t s froms taking reads in (
          record {
            enter = enter_of p h.0;
            taken = take_of p h.0;
            touches = λ x i. touch_of p h.0 refl x (shape.within x i) (step_touches params operation reads all x i);
            fetches = step_fetches operation arguments line t s froms taking reads h.0;
            called = step_calls operation arguments line t s froms taking reads h.0 shape.called;
          },
          (shape.counted, step_sites operation arguments line t s froms taking reads h.0, step_row operation shape.called, h.1),
        )

    act_fills : (action : Action) (arguments : Arguments) (line t s : ℕ) (froms taking reads : List ℕ)
        → I (action_at (w mines) action arguments line t s froms taking reads) → FillsBy c fn action t (suc s)
    act_fills (acts.Fill x) arguments line t s froms taking reads i =
        let p = action_at (w mines) (acts.Fill x) arguments line t s froms taking reads in
        let at = (facts layout.nodes program p i).kind in
        let site = site_of_point p i s _ refl refl in (
          record { what = _; is_site = site; reads = refl; is_at = at },
          record { what = _; is_site = site; fills = refl; at = t; is_at = at; point = p.point; is_point = its_point layout program p i; function_is = refl },
        )
    act_fills action arguments line t s froms taking reads i = tt

    act_sites : (action : Action) (arguments : Arguments) (line t s : ℕ) (froms taking reads : List ℕ)
        → I (action_at (w mines) action arguments line t s froms taking reads) → ActsAtSite code (suc s) action
    act_sites (acts.Fill x) arguments line t s froms taking reads i =
        has_site (action_at (w mines) (acts.Fill x) arguments line t s froms taking reads) i s _ refl refl
    act_sites (acts.Get x) arguments line t s froms taking reads i =
        has_site (action_at (w mines) (acts.Get x) arguments line t s froms taking reads) i s _ refl refl
    act_sites acts.Put arguments line t s froms taking reads i =
        has_site (action_at (w mines) acts.Put arguments line t s froms taking reads) i s _ refl refl
    act_sites acts.Send arguments line t s froms taking reads i =
        has_site (action_at (w mines) acts.Send arguments line t s froms taking reads) i s _ refl refl
    act_sites (acts.Copy mode) arguments line t s froms taking reads i =
        has_site (action_at (w mines) (acts.Copy mode) arguments line t s froms taking reads) i s _ refl refl
    act_sites action arguments line t s froms taking reads i = tt

    act_both : (action : Action) (arguments : Arguments) (line t s : ℕ) (froms taking reads : List ℕ) (count : ℕ)
        → H (action_at (w mines) action arguments line t s froms taking reads) → ActShaped program.functions locals action count
        → FlowAct c fn action t (suc s) froms taking × ActFormed c plan waits one_way action count t (suc s)
    act_both action arguments line t s froms taking reads count h shape =
        let p = action_at (w mines) action arguments line t s froms taking reads in (
          record {
            enter = enter_of p h.0;
            taken = take_of p h.0;
            touches = λ x i. touch_of p h.0 refl x (shape.within x i) (inr (act_touches action x i));
            fills = act_fills action arguments line t s froms taking reads h.0;
          },
          (shape.counted, act_sites action arguments line t s froms taking reads h.0, h.1),
        )

    back_both : (undo : Option Operation) (line t s : ℕ) (reads : List ℕ) → Each H (points_back (w mines) undo line t s reads)
        → BackShaped program.functions locals undo → ((x : ℕ) → Among x (occurring_back params undo) → Among x reads)
        → FlowBack c fn undo t (t + 1) s × BackFormed c plan waits one_way undo (t + 1) s
    back_both None line t s reads h shape all = (tt, tt)
    back_both (Some operation) line t s reads h shape all = step_both operation none line (t + 1) s (t ∷ []) [] reads 2 h.0 shape all

    -- ---- expressions

    mutual
      both : (e : Core) (k s : ℕ) (froms : List ℕ) → Each H (points (w mines) e k s froms) → Shaped program.functions locals e
          → Flow c fn e k s froms × Formed c plan waits one_way e k s
      both (constant v) k s froms h shape = (tt, tt)
      both (step operation arguments line) k s froms h shape =
          let alls = points_all (w mines) arguments k s froms in
          let a = both_all arguments k s froms (each_left H alls _ h) shape.0 in
          let b = step_both operation arguments line (k + sizes arguments) (s + accesses_all arguments)
          (exits_all (returns program.functions) arguments k froms) (fetched_all arguments s)
          (occurring_all params arguments ++ occurring_by params operation) (count_of arguments)
          (each_right H alls _ h).0 shape.1 (λ x i. in_right x (occurring_all params arguments) (occurring_by params operation) i) in
          ((a.0, b.0), (a.1, b.1))
      both (choice of_pointer test on off) k s froms h shape =
          let t = k + size test in
          let s' = s + accesses test in
          let tests = points (w mines) test k s froms in
          let own = test_at (w mines) test k s froms in
          let ons = points (w mines) on (t + 1) s' (t ∷ []) in
          let offs = points (w mines) off (t + 1 + size on) (s' + accesses on) (t ∷ []) in
          let h_front = each_left H (tests ++ own ∷ ons) offs h in
          let h_own = each_right H tests (own ∷ ons) h_front in
          let a = both test k s froms (each_left H tests (own ∷ ons) h_front) shape.0 in
          let b = both on (t + 1) s' (t ∷ []) h_own.1 shape.1 in
          let d = both off (t + 1 + size on) (s' + accesses on) (t ∷ []) (each_right H (tests ++ own ∷ ons) offs h) shape.2 in
          ((a.0, enter_of own h_own.0.0, take_of own h_own.0.0, b.0, d.0), (a.1, h_own.0.1, b.1, d.1))
      both (update pointer operation right undo line) k s froms h shape =
          let t = k + size pointer in
          let u = t + 1 + size right in
          let read = s + accesses pointer in
          let join = read + 1 + accesses right in
          let write = join + accesses_by operation in
          let place = argument pointer none in
          let before = occurring params pointer ++ mark ++ occurring params right in
          let reads = before ++ occurring_by params operation ++ occurring_back params undo in
          let befores = points (w mines) pointer k s froms in
          let reading = step_at (w mines) does.Read place line t read (exits (returns program.functions) pointer k froms) (fetched pointer s)
          (occurring params pointer ++ mark) in
          let rights = points (w mines) right (t + 1) (read + 1) (t ∷ []) in
          let joining = step_at (w mines) operation none line u join (exits (returns program.functions) right (t + 1) (t ∷ []))
          (suc read ∷ fetched right (read + 1)) reads in
          let writing = step_at (w mines) does.Write place line (u + 1) write (behind (returns program.functions) (callee_of operation) u)
          (fetched pointer s ++ fetched_by operation join) reads in
          let backs = points_back (w mines) undo line (u + 1) (write + 1) reads in
          let h_front = each_left H (befores ++ reading ∷ rights) (joining ∷ writing ∷ backs) h in
          let h_back = each_right H (befores ++ reading ∷ rights) (joining ∷ writing ∷ backs) h in
          let h_read = each_right H befores (reading ∷ rights) h_front in
          let read_shape : StepShaped program.functions locals does.Read 1 = record { counted = refl; called = tt; within = λ x i. absurd i } in
          let write_shape : StepShaped program.functions locals does.Write 2 = record { counted = refl; called = tt; within = λ x i. absurd i } in
          let by_join = λ (x : ℕ) (i : Among x (occurring_by params operation)).
          in_left x (before ++ occurring_by params operation) (occurring_back params undo) (in_right x before (occurring_by params operation) i) in
          let by_back = λ (x : ℕ) (i : Among x (occurring_back params undo)).
          in_right x (before ++ occurring_by params operation) (occurring_back params undo) i in
          let a = both pointer k s froms (each_left H befores (reading ∷ rights) h_front) shape.0 in
          let r = step_both does.Read place line t read (exits (returns program.functions) pointer k froms) (fetched pointer s)
          (occurring params pointer ++ mark) 1 h_read.0 read_shape (λ x i. in_right x (occurring params pointer) mark i) in
          let b = both right (t + 1) (read + 1) (t ∷ []) h_read.1 shape.1 in
          let j = step_both operation none line u join (exits (returns program.functions) right (t + 1) (t ∷ []))
          (suc read ∷ fetched right (read + 1)) reads 2 h_back.0 shape.2 by_join in
          let v = step_both does.Write place line (u + 1) write (behind (returns program.functions) (callee_of operation) u)
          (fetched pointer s ++ fetched_by operation join) reads 2 h_back.1.0 write_shape (λ x i. absurd i) in
          let same_point : u + 1 + 1 ≡ u + 2 = omega arith in
          let z = subst (λ n. FlowBack c fn undo (u + 1) n (write + 1) × BackFormed c plan waits one_way undo n (write + 1)) same_point
          (back_both undo line (u + 1) (write + 1) reads h_back.1.1 shape.3 by_back) in
          ((a.0, r.0, b.0, j.0, v.0, z.0), (a.1, r.1, b.1, j.1, v.1, z.1))

      both_all : (arguments : Arguments) (k s : ℕ) (froms : List ℕ) → Each H (points_all (w mines) arguments k s froms)
          → ShapedAll program.functions locals arguments → FlowAll c fn arguments k s froms × FormedAll c plan waits one_way arguments k s
      both_all none k s froms h shape = (tt, tt)
      both_all (argument e more) k s froms h shape =
          let es = points (w mines) e k s froms in
          let a = both e k s froms (each_left H es _ h) shape.0 in
          let b = both_all more (k + size e) (s + accesses e) (exits (returns program.functions) e k froms) (each_right H es _ h) shape.1 in
          ((a.0, b.0), (a.1, b.1))

  -- ---- statements

  -- the statement returns only where its function does
  abbrev Returns : Does → ℕ → Type 0
  Returns d k = (t : ℕ) → Among t (returns_in d k) → Among t (returns program.functions fn)

  pub both_in : (mines : List ℕ) (breaks continues : Bool) (d : Does) (k s : ℕ) (froms : List ℕ) → Each H (points_in (w mines) d k s froms)
      → ShapedIn program.functions locals breaks continues d → Returns d k
      → Flows c fn d k s froms × FormedIn c plan waits one_way d k s
  both_in mines bs cs nothing k s froms h shape r = (tt, tt)
  both_in mines bs cs break k s froms h shape r = (tt, tt)
  both_in mines bs cs continue k s froms h shape r = (tt, tt)
  both_in mines bs cs (then_ first second) k s froms h shape r =
      let k' = k + size_of first in
      let firsts = points_in (w mines) first k s froms in
      let a = both_in mines bs cs first k s froms (each_left H firsts _ h) shape.0 (λ t i. r t (in_left t (returns_in first k) (returns_in second k') i)) in
      let b = both_in mines bs cs second k' (s + accesses_in first) (leaves (returns program.functions) first k froms).falls (each_right H firsts _ h) shape.1
      (λ t i. r t (in_right t (returns_in first k) (returns_in second k') i)) in
      ((a.0, b.0), (a.1, b.1))
  both_in mines bs cs (act action arguments line) k s froms h shape r =
      let alls = points_all (w mines) arguments k s froms in
      let a = both_all mines arguments k s froms (each_left H alls _ h) shape.0 in
      let b = act_both mines action arguments line (k + sizes arguments) (s + accesses_all arguments)
      (exits_all (returns program.functions) arguments k froms) (fetched_all arguments s) (occurring_all params arguments)
      (count_of arguments) (each_right H alls _ h).0 shape.1 in
      ((a.0, b.0), (a.1, b.1))
  both_in mines bs cs (choose of_pointer test on off) k s froms h shape r =
      let t = k + size test in
      let u = t + 1 + size_of on in
      let s' = s + accesses test in
      let tests = points (w mines) test k s froms in
      let own = test_at (w mines) test k s froms in
      let ons = points_in (w mines) on (t + 1) s' (t ∷ []) in
      let offs = points_in (w mines) off u (s' + accesses_in on) (t ∷ []) in
      let h_front = each_left H (tests ++ own ∷ ons) offs h in
      let h_own = each_right H tests (own ∷ ons) h_front in
      let a = both mines test k s froms (each_left H tests (own ∷ ons) h_front) shape.0 in
      let b = both_in mines bs cs on (t + 1) s' (t ∷ []) h_own.1 shape.1 (λ x i. r x (in_left x (returns_in on (t + 1)) (returns_in off u) i)) in
      let d = both_in mines bs cs off u (s' + accesses_in on) (t ∷ []) (each_right H (tests ++ own ∷ ons) offs h) shape.2
      (λ x i. r x (in_right x (returns_in on (t + 1)) (returns_in off u) i)) in
      ((a.0, enter_of own h_own.0.0, take_of own h_own.0.0, b.0, d.0), (a.1, h_own.0.1, b.1, d.1))
  both_in mines bs cs (loop mine before body after) k s froms h shape r =
      let t = k + size_of before in
      let u = t + 1 + size_of body in
      let s' = s + accesses_in before in
      let rs = returns program.functions in
      let inner = mine_in mine before body ++ mines in
      let b_left = leaves rs body (t + 1) (t ∷ []) in
      let into_after = b_left.falls ++ b_left.continues in
      let into_before = froms ++ (leaves rs after u into_after).falls in
      let befores = points_in (w mines) before k s into_before in
      let turning = bare (w mines) Plain t (leaves rs before k into_before).falls [] [] in
      let bodies = points_in (w inner) body (t + 1) s' (t ∷ []) in
      let afters = points_in (w mines) after u (s' + accesses_in body) into_after in
      let h_front = each_left H (befores ++ turning ∷ bodies) afters h in
      let h_turn = each_right H befores (turning ∷ bodies) h_front in
      let front_returns = returns_in before k ++ returns_in body (t + 1) in
      let a = both_in mines true false before k s into_before (each_left H befores (turning ∷ bodies) h_front) shape.0
      (λ x i. r x (in_left x front_returns (returns_in after u) (in_left x (returns_in before k) (returns_in body (t + 1)) i))) in
      let b = both_in inner true true body (t + 1) s' (t ∷ []) h_turn.1 shape.1
      (λ x i. r x (in_left x front_returns (returns_in after u) (in_right x (returns_in before k) (returns_in body (t + 1)) i))) in
      let d = both_in mines true false after u (s' + accesses_in body) into_after (each_right H (befores ++ turning ∷ bodies) afters h) shape.2
      (λ x i. r x (in_right x front_returns (returns_in after u) i)) in
      ((a.0, enter_of turning h_turn.0.0, b.0, d.0), (a.1, h_turn.0.1, b.1, d.1))
  both_in mines bs cs (return e line) k s froms h shape r =
      let es = points (w mines) e k s froms in
      let own = (each_right H es _ h).0 in
      let a = both mines e k s froms (each_left H es _ h) shape in
      ((a.0, enter_of _ own.0, take_of _ own.0, is_in (k + size e) (returns program.functions fn) (r (k + size e) (inl refl))), (a.1, own.1))
