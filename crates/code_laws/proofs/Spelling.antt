-- The run of each point of a source is one of the kind of the point, and so its code is spelled by its pieces.
use Rattle.std.proofs.Common.{◌≡◌, ◌⊎◌, inl, inr, ℕ, suc, ◌+◌, ◌<◌, ◌≤◌, List, [], ◌∷◌, ◌++◌, length, Option, Some, None, Bool, true, false, slice_get, refl, sym, ap, ◌∙◌, subst, arith, append_assoc}
use Rattle.std.proofs.lemmas.List.{append-nil}
use Rattle.std.proofs.lemmas.List.Elements.{All-from_recursion}
use Rattle.sc_layout.specs.Layout.{Arrangement}
use Rattle.sc_isa.specs.declared.op.Op.{Op}
use Rattle.sc_isa.specs.declared.op.Op.TheVariants as op
use Rattle.sc_core.specs.declared.operation.Operation.{Operation}
use Rattle.sc_core.specs.declared.operation.Operation.TheVariants as does
use Rattle.sc_core.specs.declared.operation.Action.{Action}
use Rattle.sc_core.specs.declared.operation.Action.TheVariants as acts
use Rattle.sc_core.specs.Core.{Core, constant, step, choice, update, Arguments, none, argument, Does, nothing, break, continue, then_, act, choose, loop, return, Function, Program}
use Rattle.sc_core.specs.Statements.{zero_of}
use Rattle.sc_core.specs.Table.{ops_of, ops_of_action, write_op}
use Rattle.sc_meaning.specs.Points.{size, sizes, size_of, first_point}
use Rattle.flow_form.specs.Within.{Within, Placed}
use Rattle.flow_form.specs.Accesses.{accesses, accesses_all, accesses_by, accesses_in}
use Rattle.flow_form.specs.Occurring.{mark, occurring, occurring_all, occurring_by}
use Rattle.flow_form.specs.Exits.{behind, exits, exits_all, fetched, fetched_all, fetched_by, leaves}
use Rattle.flow_form.specs.Steps.{callee_of, bare, step_at, action_at, kind_of, kind_of_action}
use Rattle.flow_form.specs.Expressions.{points, points_all, points_back, test_at}
use Rattle.flow_form.specs.Statements.{points_in, points_of, mine_in}
use Rattle.flow_form.specs.FlowOf.{flow_of, returns}
use Rattle.flow_form.proofs.Rises.{Each, each_weaker}
use Rattle.flow_form.proofs.Run.{runs_in as points_run}
use Rattle.flow_laws.proofs.Facts.{facts}
use Rattle.site_graph.specs.declared.plan.Plan.{Plan}
use Rattle.site_graph.specs.declared.point.PointKind.TheVariants.{Start, Plain}
use Rattle.site_graph.specs.Graph.{Graph}
use Rattle.node_emit.specs.Runs.{goes_one_way, run_width, constant_op, test_ops, test_width}
use Rattle.node_emit.specs.Widths.{width, width_in}
use Rattle.node_emit.specs.Spelled.{is_plain, IsPlainRun, IsRunFor}
use Rattle.emit_laws.proofs.Items.{Item, glue, runs, item_of, step_items, back_items, items, items_all, items_in, function_items}
use Rattle.emit_laws.proofs.Placed.{IsSome_, ops_some, actions_some, tests_some}
use Rattle.emit_laws.proofs.FunctionCodes.{sites_before}
use Rattle.flow_laws.proofs.Passing.{each_left, each_right}
use Rattle.code_laws.proofs.Compiled.{runs_in}
use Rattle.code_laws.proofs.Bodies.{each_both, within_run, Is, Has, its_point, view, body_of}
use Rattle.code_laws.proofs.Firsts.{first_is_first, none_is_first}

module _ (layout : Arrangement) (program : Program) (plan : Plan) where
  abbrev graph : Graph
  graph = flow_of layout.nodes program

  -- the run is that of the point
  abbrev pub Runs : Placed → List Op → Type 0
  Runs p run = IsRunFor graph plan p.at p.point p.point.kind run

  -- ---- items beside points: each run is that of its point

  abbrev Match : List Item → List Placed → Type 0
  Match [] [] = Unit {0}
  Match [] (p ∷ ps) = ⊥
  Match (glue o ∷ is) ps = Match is ps
  Match (runs t line o more ∷ is) [] = ⊥
  Match (runs t line o more ∷ is) (p ∷ ps) = Runs p (o ∷ more) × Match is ps

  match_on : (a b : List Item) (ps qs : List Placed) → Match a ps → Match b qs → Match (a ++ b) (ps ++ qs)
  match_on [] b [] qs h i = i
  match_on [] b (p ∷ ps) qs h i = absurd h
  match_on (glue o ∷ a) b ps qs h i = match_on a b ps qs h i
  match_on (runs t line o more ∷ a) b [] qs h i = absurd h
  match_on (runs t line o more ∷ a) b (p ∷ ps) qs h i = (h.0, match_on a b ps qs h.1 i)

  match_one : (t line : ℕ) (ops : List Op) (p : Placed) → IsSome_ ops → Runs p ops → Match (item_of t line ops) (p ∷ [])
  match_one t line [] p some h = absurd some
  match_one t line (o ∷ more) p some h = (h, tt)

  regroup : {A : Type 0} (a b c d : List A) → a ++ ((b ++ c) ++ d) ≡ ((a ++ b) ++ c) ++ d
  regroup a b c d = sym (append_assoc a (b ++ c) d) ∙ ap (λ l. l ++ d) (sym (append_assoc a b c))

  -- a part, a point, and a part behind it
  joined : (a b d : List Item) (ps : List Placed) (p : Placed) (qs : List Placed) → Match a ps → Match b (p ∷ []) → Match d qs
      → Match ((a ++ b) ++ d) (ps ++ p ∷ qs)
  joined a b d ps p qs h i j = subst (λ is. Match is (ps ++ p ∷ qs)) (sym (append_assoc a b d)) (match_on a (b ++ d) ps (p ∷ qs) h (match_on b d (p ∷ []) qs i j))

  -- ---- single steps of one function

  module _ (fn : ℕ) (f : Function) (is_function : slice_get program.functions fn ≡ Some f) (params : ℕ) where
    abbrev w : (mines : List ℕ) → Within
    w mines = record { nodes = layout.nodes; returns = returns program.functions; function = fn; params = params; mines = mines }

    abbrev Later : Placed → Type 0
    Later p = Is layout program p × (first_point program.functions fn < p.at)

    plain_run : (p : Placed) (o : Op) (more : List Op) → Later p → p.point.function ≡ fn → (p.point.kind ≡ Start → ⊥)
        → Each (λ o. is_plain o ≡ true) (o ∷ more) → IsPlainRun graph p.at (o ∷ more)
    plain_run p o more h own other each = record {
      first = λ i. absurd (none_is_first layout program fn f p.at p.point is_function h.1 (its_point layout program p h.0) own other i);
      some = λ n e. cc;
      plain = All-from_recursion (λ o. is_plain o ≡ true) (o ∷ more) each;
    }

    none_starts : Plain ≡ Start → ⊥
    none_starts e = cc

    module _ (mines : List ℕ) where
      step_plain : (operation : Operation) (arguments : Arguments) (line t s : ℕ) (froms taking reads : List ℕ) (o : Op) (more : List Op)
          → Later (step_at (w mines) operation arguments line t s froms taking reads) → kind_of operation (suc s) ≡ Plain
          → Each (λ o. is_plain o ≡ true) (o ∷ more) → IsPlainRun graph t (o ∷ more)
      step_plain operation arguments line t s froms taking reads o more h e each =
          plain_run (step_at (w mines) operation arguments line t s froms taking reads) o more h refl (λ k. none_starts (sym e ∙ k)) each

      step_runs : (operation : Operation) (arguments : Arguments) (line t s : ℕ) (froms taking reads : List ℕ)
          → Later (step_at (w mines) operation arguments line t s froms taking reads)
          → Runs (step_at (w mines) operation arguments line t s froms taking reads) (ops_of (goes_one_way plan (suc s)) (suc s) operation)
      step_runs (does.Use x) arguments line t s froms taking reads h =
          step_plain (does.Use x) arguments line t s froms taking reads _ _ h refl (refl, tt)
      step_runs (does.Element o n plain) arguments line t s froms taking reads h =
          step_plain (does.Element o n plain) arguments line t s froms taking reads _ _ h refl (refl, tt)
      step_runs (does.Address o n) arguments line t s froms taking reads h =
          step_plain (does.Address o n) arguments line t s froms taking reads _ _ h refl (refl, tt)
      step_runs does.Own arguments line t s froms taking reads h =
          step_plain does.Own arguments line t s froms taking reads _ _ h refl (refl, tt)
      step_runs does.Convert arguments line t s froms taking reads h =
          step_plain does.Convert arguments line t s froms taking reads _ _ h refl (refl, tt)
      step_runs (does.Forward star) arguments line t s froms taking reads h =
          step_plain (does.Forward star) arguments line t s froms taking reads _ _ h refl (refl, tt)
      step_runs (does.Back star) arguments line t s froms taking reads h =
          step_plain (does.Back star) arguments line t s froms taking reads _ _ h refl (refl, (refl, tt))
      step_runs (does.Binary operator) arguments line t s froms taking reads h =
          step_plain (does.Binary operator) arguments line t s froms taking reads _ _ h refl (refl, tt)
      step_runs (does.Unary operator) arguments line t s froms taking reads h =
          step_plain (does.Unary operator) arguments line t s froms taking reads _ _ h refl (refl, tt)
      step_runs does.Same arguments line t s froms taking reads h =
          step_plain does.Same arguments line t s froms taking reads _ _ h refl (refl, tt)
      step_runs does.Differ arguments line t s froms taking reads h =
          step_plain does.Differ arguments line t s froms taking reads _ _ h refl (refl, (refl, tt))
      step_runs does.IsNull arguments line t s froms taking reads h =
          step_plain does.IsNull arguments line t s froms taking reads _ _ h refl (refl, (refl, tt))
      step_runs does.ToGlobal arguments line t s froms taking reads h =
          step_plain does.ToGlobal arguments line t s froms taking reads _ _ h refl (refl, tt)
      step_runs does.ToProc arguments line t s froms taking reads h =
          step_plain does.ToProc arguments line t s froms taking reads _ _ h refl (refl, tt)
      step_runs does.ToLocal arguments line t s froms taking reads h =
          step_plain does.ToLocal arguments line t s froms taking reads _ _ h refl (refl, tt)
      step_runs (does.Set x) arguments line t s froms taking reads h =
          step_plain (does.Set x) arguments line t s froms taking reads _ _ h refl (refl, tt)
      step_runs (does.Call g n) arguments line t s froms taking reads h = (g, refl)
      step_runs does.Read arguments line t s froms taking reads h =
          let p = step_at (w mines) does.Read arguments line t s froms taking reads in
          record { what = _; is_site = (facts layout.nodes program p h.0).site (suc s) _ refl refl; only = _; run_is = refl; is_its = refl }
      step_runs does.Write arguments line t s froms taking reads h =
          let p = step_at (w mines) does.Write arguments line t s froms taking reads in
          record {
            what = _;
            is_site = (facts layout.nodes program p h.0).site (suc s) _ refl refl;
            only = write_op (goes_one_way plan (suc s)) (suc s);
            run_is = refl;
            is_its = by_way (goes_one_way plan (suc s));
          }
        where
          by_way : (b : Bool) → ((write_op b (suc s) ≡ op.Store (suc s)) × (b ≡ true)) ⊎ ((write_op b (suc s) ≡ op.Write (suc s)) × (b ≡ false))
          by_way true = inl (refl, refl)
          by_way false = inr (refl, refl)

      step_match : (operation : Operation) (arguments : Arguments) (line t t' s : ℕ) (froms taking reads : List ℕ)
          → Later (step_at (w mines) operation arguments line t s froms taking reads)
          → Match (step_items plan operation line t' s) (step_at (w mines) operation arguments line t s froms taking reads ∷ [])
      step_match operation arguments line t t' s froms taking reads h =
          match_one t' line (ops_of (goes_one_way plan (suc s)) (suc s) operation) (step_at (w mines) operation arguments line t s froms taking reads)
          (ops_some (goes_one_way plan (suc s)) (suc s) operation).0 (step_runs operation arguments line t s froms taking reads h)

      act_plain : (action : Action) (arguments : Arguments) (line t s : ℕ) (froms taking reads : List ℕ) (o : Op) (more : List Op)
          → Later (action_at (w mines) action arguments line t s froms taking reads) → kind_of_action action (suc s) ≡ Plain
          → Each (λ o. is_plain o ≡ true) (o ∷ more) → IsPlainRun graph t (o ∷ more)
      act_plain action arguments line t s froms taking reads o more h e each =
          plain_run (action_at (w mines) action arguments line t s froms taking reads) o more h refl (λ k. none_starts (sym e ∙ k)) each

      act_runs : (action : Action) (arguments : Arguments) (line t s : ℕ) (froms taking reads : List ℕ)
          → Later (action_at (w mines) action arguments line t s froms taking reads)
          → Runs (action_at (w mines) action arguments line t s froms taking reads) (ops_of_action (suc s) action)
      act_runs acts.Drop arguments line t s froms taking reads h =
          act_plain acts.Drop arguments line t s froms taking reads _ _ h refl (refl, tt)
      act_runs (acts.Begin x) arguments line t s froms taking reads h =
          act_plain (acts.Begin x) arguments line t s froms taking reads _ _ h refl (refl, (refl, tt))
      act_runs (acts.Clear x pointer) arguments line t s froms taking reads h =
          act_plain (acts.Clear x pointer) arguments line t s froms taking reads _ _ h refl (refl, tt)
      act_runs (acts.Print text n) arguments line t s froms taking reads h =
          act_plain (acts.Print text n) arguments line t s froms taking reads _ _ h refl (refl, tt)
      act_runs (acts.Fill x) arguments line t s froms taking reads h =
          let p = action_at (w mines) (acts.Fill x) arguments line t s froms taking reads in
          record { what = _; is_site = (facts layout.nodes program p h.0).site (suc s) _ refl refl; only = _; run_is = refl; is_its = refl }
      act_runs (acts.Get x) arguments line t s froms taking reads h =
          let p = action_at (w mines) (acts.Get x) arguments line t s froms taking reads in
          record { what = _; is_site = (facts layout.nodes program p h.0).site (suc s) _ refl refl; only = _; run_is = refl; is_its = (x, refl, refl) }
      act_runs acts.Put arguments line t s froms taking reads h =
          let p = action_at (w mines) acts.Put arguments line t s froms taking reads in
          record { what = _; is_site = (facts layout.nodes program p h.0).site (suc s) _ refl refl; only = _; run_is = refl; is_its = refl }
      act_runs acts.Send arguments line t s froms taking reads h =
          let p = action_at (w mines) acts.Send arguments line t s froms taking reads in
          record { what = _; is_site = (facts layout.nodes program p h.0).site (suc s) _ refl refl; only = _; run_is = refl; is_its = refl }
      act_runs (acts.Copy mode) arguments line t s froms taking reads h =
          let p = action_at (w mines) (acts.Copy mode) arguments line t s froms taking reads in
          record { what = _; is_site = (facts layout.nodes program p h.0).site (suc s) _ refl refl; only = _; run_is = refl; is_its = refl }
      act_runs acts.Sync arguments line t s froms taking reads h = refl
      act_runs acts.Barrier arguments line t s froms taking reads h = refl
      act_runs acts.AllStoreSync arguments line t s froms taking reads h = refl

      test_runs : (of_pointer : Bool) (target : ℕ) (test : Core) (k s : ℕ) (froms : List ℕ) → Later (test_at (w mines) test k s froms)
          → Runs (test_at (w mines) test k s froms) (test_ops of_pointer target)
      test_runs false target test k s froms h = plain_run (test_at (w mines) test k s froms) _ _ h refl none_starts (refl, tt)
      test_runs true target test k s froms h = plain_run (test_at (w mines) test k s froms) _ _ h refl none_starts (refl, (refl, tt))

      test_match : (of_pointer : Bool) (target : ℕ) (test : Core) (k s : ℕ) (froms : List ℕ) → Later (test_at (w mines) test k s froms)
          → Match (item_of (k + size test) 0 (test_ops of_pointer target)) (test_at (w mines) test k s froms ∷ [])
      test_match of_pointer target test k s froms h =
          match_one (k + size test) 0 (test_ops of_pointer target) (test_at (w mines) test k s froms) (tests_some of_pointer target).0 (test_runs of_pointer target test k s froms h)

      back_match : (undo : Option Operation) (line t t' s : ℕ) (reads : List ℕ) → Each Later (points_back (w mines) undo line t s reads)
          → Match (back_items plan undo line t' s) (points_back (w mines) undo line t s reads)
      back_match None line t t' s reads h = tt
      back_match (Some operation) line t t' s reads h = step_match operation none line (t + 1) t' s (t ∷ []) [] reads h.0

      -- ---- expressions

      mutual
        match : (e : Core) (k s pc : ℕ) (froms : List ℕ) → Each Later (points (w mines) e k s froms) → Match (items plan e k s pc) (points (w mines) e k s froms)
        match (constant v) k s pc froms h = tt
        match (step operation arguments line) k s pc froms h =
            let alls = points_all (w mines) arguments k s froms in
            match_on (items_all plan arguments k s pc) (step_items plan operation line (k + sizes arguments) (s + accesses_all arguments)) alls _
            (match_all arguments k s pc froms (each_left Later alls _ h))
            (step_match operation arguments line (k + sizes arguments) (k + sizes arguments) (s + accesses_all arguments)
            (exits_all (returns program.functions) arguments k froms) (fetched_all arguments s)
            (occurring_all params arguments ++ occurring_by params operation) (each_right Later alls _ h).0)
        match (choice of_pointer test on off) k s pc froms h =
            let t = k + size test in
            let s' = s + accesses test in
            let at_on = pc + width plan test k + run_width plan t (test_width of_pointer) in
            let at_off = at_on + width plan on (t + 1) + 1 in
            let end = at_off + width plan off (t + 1 + size on) in
            let test_points = points (w mines) test k s froms in
            let own_point = test_at (w mines) test k s froms in
            let on_points = points (w mines) on (t + 1) s' (t ∷ []) in
            let off_points = points (w mines) off (t + 1 + size on) (s' + accesses on) (t ∷ []) in
            let h_front = each_left Later (test_points ++ own_point ∷ on_points) off_points h in
            let h_own = each_right Later test_points (own_point ∷ on_points) h_front in
            let tests = items plan test k s pc in
            let own = item_of t 0 (test_ops of_pointer at_off) in
            let ons = items plan on (t + 1) s' at_on in
            let offs = glue (op.Jump end) ∷ items plan off (t + 1 + size on) (s' + accesses on) at_off in
            match_on ((tests ++ own) ++ ons) offs (test_points ++ own_point ∷ on_points) off_points
            (joined tests own ons test_points own_point on_points (match test k s pc froms (each_left Later test_points (own_point ∷ on_points) h_front))
            (test_match of_pointer at_off test k s froms h_own.0) (match on (t + 1) s' at_on (t ∷ []) h_own.1))
            (match off (t + 1 + size on) (s' + accesses on) at_off (t ∷ []) (each_right Later (test_points ++ own_point ∷ on_points) off_points h))
        match (update pointer operation right undo line) k s pc froms h =
            let t = k + size pointer in
            let u = t + 1 + size right in
            let read = s + accesses pointer in
            let join = read + 1 + accesses right in
            let write = join + accesses_by operation in
            let at_right = pc + width plan pointer k + 1 + run_width plan t 1 in
            let place = argument pointer none in
            let reads = occurring params (update pointer operation right undo line) in
            let befores = points (w mines) pointer k s froms in
            let reading = step_at (w mines) does.Read place line t read (exits (returns program.functions) pointer k froms) (fetched pointer s)
            (occurring params pointer ++ mark) in
            let rights = points (w mines) right (t + 1) (read + 1) (t ∷ []) in
            let joining = step_at (w mines) operation none line u join (exits (returns program.functions) right (t + 1) (t ∷ []))
            (suc read ∷ fetched right (read + 1)) reads in
            let writing = step_at (w mines) does.Write place line (u + 1) write (behind (returns program.functions) (callee_of operation) u)
            (fetched pointer s ++ fetched_by operation join) reads in
            let backs = points_back (w mines) undo line (u + 1) (write + 1) reads in
            let h_front = each_left Later (befores ++ reading ∷ rights) (joining ∷ writing ∷ backs) h in
            let h_back = each_right Later (befores ++ reading ∷ rights) (joining ∷ writing ∷ backs) h in
            let h_read = each_right Later befores (reading ∷ rights) h_front in
            let a1 = items plan pointer k s pc in
            let a2 = glue op.Dup ∷ item_of t line (op.Read (suc read) ∷ []) in
            let a3 = items plan right (t + 1) (read + 1) at_right in
            let a4 = step_items plan operation line u join in
            let a5 = item_of (u + 1) line (write_op (goes_one_way plan (suc write)) (suc write) ∷ []) in
            let a6 = back_items plan undo line (u + 2) (write + 1) in
            let front = joined a1 a2 a3 befores reading rights (match pointer k s pc froms (each_left Later befores (reading ∷ rights) h_front))
            (step_match does.Read place line t t read (exits (returns program.functions) pointer k froms) (fetched pointer s) (occurring params pointer ++ mark) h_read.0)
            (match right (t + 1) (read + 1) at_right (t ∷ []) h_read.1) in
            let back = match_on (a4 ++ a5) a6 (joining ∷ writing ∷ []) backs
            (match_on a4 a5 (joining ∷ []) (writing ∷ [])
            (step_match operation none line u u join (exits (returns program.functions) right (t + 1) (t ∷ [])) (suc read ∷ fetched right (read + 1)) reads h_back.0)
            (step_match does.Write place line (u + 1) (u + 1) write (behind (returns program.functions) (callee_of operation) u)
            (fetched pointer s ++ fetched_by operation join) reads h_back.1.0))
            (back_match undo line (u + 1) (u + 2) (write + 1) reads h_back.1.1) in
            subst (λ is. Match is (points (w mines) (update pointer operation right undo line) k s froms)) (regroup ((a1 ++ a2) ++ a3) a4 a5 a6)
            (match_on ((a1 ++ a2) ++ a3) ((a4 ++ a5) ++ a6) (befores ++ reading ∷ rights) (joining ∷ writing ∷ backs) front back)

        match_all : (arguments : Arguments) (k s pc : ℕ) (froms : List ℕ) → Each Later (points_all (w mines) arguments k s froms)
            → Match (items_all plan arguments k s pc) (points_all (w mines) arguments k s froms)
        match_all none k s pc froms h = tt
        match_all (argument e more) k s pc froms h =
            let es = points (w mines) e k s froms in
            match_on (items plan e k s pc) (items_all plan more (k + size e) (s + accesses e) (pc + width plan e k)) es _
            (match e k s pc froms (each_left Later es _ h))
            (match_all more (k + size e) (s + accesses e) (pc + width plan e k) (exits (returns program.functions) e k froms) (each_right Later es _ h))

    -- ---- statements

    match_in : (mines : List ℕ) (d : Does) (k s out again pc : ℕ) (froms : List ℕ) → Each Later (points_in (w mines) d k s froms)
        → Match (items_in plan d k s out again pc) (points_in (w mines) d k s froms)
    match_in mines nothing k s out again pc froms h = tt
    match_in mines break k s out again pc froms h = tt
    match_in mines continue k s out again pc froms h = tt
    match_in mines (then_ first second) k s out again pc froms h =
        let firsts = points_in (w mines) first k s froms in
        match_on (items_in plan first k s out again pc) (items_in plan second (k + size_of first) (s + accesses_in first) out again (pc + width_in plan first k)) firsts _
        (match_in mines first k s out again pc froms (each_left Later firsts _ h))
        (match_in mines second (k + size_of first) (s + accesses_in first) out again (pc + width_in plan first k)
        (leaves (returns program.functions) first k froms).falls (each_right Later firsts _ h))
    match_in mines (act action arguments line) k s out again pc froms h =
        let t = k + sizes arguments in
        let s' = s + accesses_all arguments in
        let alls = points_all (w mines) arguments k s froms in
        let own = action_at (w mines) action arguments line t s' (exits_all (returns program.functions) arguments k froms) (fetched_all arguments s)
        (occurring_all params arguments) in
        match_on (items_all plan arguments k s pc) (item_of t line (ops_of_action (suc s') action)) alls (own ∷ [])
        (match_all mines arguments k s pc froms (each_left Later alls _ h))
        (match_one t line (ops_of_action (suc s') action) own (actions_some (suc s') action).0
        (act_runs mines action arguments line t s' (exits_all (returns program.functions) arguments k froms) (fetched_all arguments s) (occurring_all params arguments)
        (each_right Later alls _ h).0))
    match_in mines (choose of_pointer test on off) k s out again pc froms h =
        let t = k + size test in
        let u = t + 1 + size_of on in
        let s' = s + accesses test in
        let at_on = pc + width plan test k + run_width plan t (test_width of_pointer) in
        let at_off = at_on + width_in plan on (t + 1) + 1 in
        let end = at_off + width_in plan off u in
        let test_points = points (w mines) test k s froms in
        let own_point = test_at (w mines) test k s froms in
        let on_points = points_in (w mines) on (t + 1) s' (t ∷ []) in
        let off_points = points_in (w mines) off u (s' + accesses_in on) (t ∷ []) in
        let h_front = each_left Later (test_points ++ own_point ∷ on_points) off_points h in
        let h_own = each_right Later test_points (own_point ∷ on_points) h_front in
        let tests = items plan test k s pc in
        let own = item_of t 0 (test_ops of_pointer at_off) in
        let ons = items_in plan on (t + 1) s' out again at_on in
        let offs = glue (op.Jump end) ∷ items_in plan off u (s' + accesses_in on) out again at_off in
        match_on ((tests ++ own) ++ ons) offs (test_points ++ own_point ∷ on_points) off_points
        (joined tests own ons test_points own_point on_points (match mines test k s pc froms (each_left Later test_points (own_point ∷ on_points) h_front))
        (test_match mines of_pointer at_off test k s froms h_own.0) (match_in mines on (t + 1) s' out again at_on (t ∷ []) h_own.1))
        (match_in mines off u (s' + accesses_in on) out again at_off (t ∷ []) (each_right Later (test_points ++ own_point ∷ on_points) off_points h))
    match_in mines (loop mine before body after) k s out again pc froms h =
        let t = k + size_of before in
        let u = t + 1 + size_of body in
        let s_body = s + accesses_in before in
        let rs = returns program.functions in
        let inner = mine_in mine before body ++ mines in
        let b_left = leaves rs body (t + 1) (t ∷ []) in
        let into_after = b_left.falls ++ b_left.continues in
        let into_before = froms ++ (leaves rs after u into_after).falls in
        let befores = points_in (w mines) before k s into_before in
        let turning = bare (w mines) Plain t (leaves rs before k into_before).falls [] [] in
        let bodies = points_in (w inner) body (t + 1) s_body (t ∷ []) in
        let afters = points_in (w mines) after u (s_body + accesses_in body) into_after in
        let h_front = each_left Later (befores ++ turning ∷ bodies) afters h in
        let h_turn = each_right Later befores (turning ∷ bodies) h_front in
        let at_body = pc + width_in plan before k + run_width plan t 1 in
        let at_after = at_body + width_in plan body (t + 1) in
        let end = at_after + width_in plan after u + 1 in
        let a1 = items_in plan before k s end again pc in
        let a2 = item_of t 0 (op.Turn ∷ []) in
        let a3 = items_in plan body (t + 1) s_body end at_after at_body in
        let a4 = items_in plan after u (s_body + accesses_in body) end again at_after in
        let a5 = glue (op.Jump pc) ∷ [] in
        subst (λ is. Match is (points_in (w mines) (loop mine before body after) k s froms)) (sym (append_assoc ((a1 ++ a2) ++ a3) a4 a5))
        (match_on ((a1 ++ a2) ++ a3) (a4 ++ a5) (befores ++ turning ∷ bodies) afters
        (joined a1 a2 a3 befores turning bodies (match_in mines before k s end again pc into_before (each_left Later befores (turning ∷ bodies) h_front))
        (plain_run turning op.Turn [] h_turn.0 refl none_starts (refl, tt), tt)
        (match_in inner body (t + 1) s_body end at_after at_body (t ∷ []) h_turn.1))
        (subst (Match (a4 ++ a5)) (append-nil afters)
        (match_on a4 a5 afters [] (match_in mines after u (s_body + accesses_in body) end again at_after into_after (each_right Later (befores ++ turning ∷ bodies) afters h)) tt)))
    match_in mines (return e line) k s out again pc froms h =
        let es = points (w mines) e k s froms in
        match_on (items plan e k s pc) (item_of (k + size e) line (op.Ret ∷ [])) es _
        (match mines e k s pc froms (each_left Later es _ h)) (refl, tt)

  -- ---- functions

  abbrev pub Pairs : List Placed → List (List Op) → Type 0
  Pairs [] [] = Unit {0}
  Pairs [] (r ∷ rs) = ⊥
  Pairs (p ∷ ps) [] = ⊥
  Pairs (p ∷ ps) (r ∷ rs) = Runs p r × Pairs ps rs

  pub pairs_on : (ps qs : List Placed) (rs ss : List (List Op)) → Pairs ps rs → Pairs qs ss → Pairs (ps ++ qs) (rs ++ ss)
  pairs_on [] qs [] ss h i = i
  pairs_on [] qs (r ∷ rs) ss h i = absurd h
  pairs_on (p ∷ ps) qs [] ss h i = absurd h
  pairs_on (p ∷ ps) qs (r ∷ rs) ss h i = (h.0, pairs_on ps qs rs ss h.1 i)

  pairs_of : (is : List Item) (ps : List Placed) → Match is ps → Pairs ps (runs_in is)
  pairs_of [] [] h = tt
  pairs_of [] (p ∷ ps) h = absurd h
  pairs_of (glue o ∷ is) ps h = pairs_of is ps h
  pairs_of (runs t line o more ∷ is) [] h = absurd h
  pairs_of (runs t line o more ∷ is) (p ∷ ps) h = (h.0, pairs_of is ps h.1)

  pub function_pairs : (f : ℕ) (g : Function) (pc : ℕ) → slice_get program.functions f ≡ Some g
      → Pairs (points_of (view layout program f g) g (first_point program.functions f) (sites_before 0 program.functions f))
      ([] ∷ runs_in (function_items plan g (first_point program.functions f) (sites_before 0 program.functions f) pc))
  function_pairs f g pc e =
      let k = first_point program.functions f in
      let s = sites_before 0 program.functions f in
      let v = view layout program f g in
      let body = body_of layout program f g e in
      let bodies = points_in v g.body (k + 1) s (k ∷ []) in
      let t = k + 1 + size_of g.body in
      let own = each_weaker (λ p. Has layout program p × ((k + 1 ≤ p.at) × (p.at < k + 1 + size_of g.body))) (Later f g e (length g.params)) bodies
      (λ p h. let a = h.1.0 in (h.0.0, omega (arith, a)))
      (each_both (Has layout program) (λ p. (k + 1 ≤ p.at) × (p.at < k + 1 + size_of g.body)) bodies body.body
      (within_run bodies (k + 1) s _ _ (points_run v g.body (k + 1) s (k ∷ [])))) in
      let i = first_is_first layout program f g e in (
        record { first = λ j. refl; some = λ n. absurd (n i); plain = All-from_recursion (λ o. is_plain o ≡ true) [] tt },
        pairs_of (function_items plan g k s pc) _
            (match_on (items_in plan g.body (k + 1) s 0 0 pc) (glue (constant_op (zero_of g.result)) ∷ item_of t g.line (op.Ret ∷ [])) bodies _
            (match_in f g e (length g.params) [] g.body (k + 1) s 0 0 pc (k ∷ []) own) (refl, tt)),
      )
