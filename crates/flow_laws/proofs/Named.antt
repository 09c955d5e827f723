-- The flow of a typed source names only objects that are declared.
use Rattle.std.proofs.Common.{◌≡◌, ℕ, zero, suc, ◌+◌, ◌<◌, List, [], ◌∷◌, ◌++◌, length, Option, Some, None, Bool, true, false, refl, sym, subst}
use Rattle.std.specs.Prelude.{filter_map, ltb, IfSome}
use Rattle.std.specs.List.{cons_option}
use Rattle.std.proofs.lemmas.List.Elements.{All-from_recursion, recursion_from_All}
use Rattle.std.proofs.lemmas.Option.{slice_get_within}
use Rattle.sc_core.specs.declared.operation.Operation.{Operation}
use Rattle.sc_core.specs.declared.operation.Operation.TheVariants as op
use Rattle.sc_core.specs.declared.operation.Action.{Action}
use Rattle.sc_core.specs.declared.operation.Action.TheVariants as acts
use Rattle.sc_core.specs.Core.{Core, constant, step, choice, update, Arguments, none, argument, Does, nothing, break, continue, then_, act, choose, loop, return, Function}
use Rattle.sc_core.specs.Forms.{form_of, exposed_by, exposes, exposes_all, exposes_in, exposes_of}
use Rattle.sc_core.specs.Kinds.{Kind, Scope, Computes, forward, back, binary, Takes, use_, element, address, own_pointer, own_cell, convert, computes, unary, same, differ, is_null, to_global, to_proc, to_local, set, call, read, write}
use Rattle.sc_core.specs.Typed.{Has, Have, after, IsMineLoop, IsTypedDoes, IsTypedFunction, scope_of}
use Rattle.sc_meaning.specs.Points.{size, size_of}
use Rattle.site_graph.specs.declared.site.Site.{Site}
use Rattle.site_graph.specs.Kept.{NamesForm, NamesSite}
use Rattle.flow_form.specs.Within.{Within, Placed}
use Rattle.flow_form.specs.Accesses.{accesses, accesses_by, accesses_in}
use Rattle.flow_form.specs.Forms.{form_by, form_at}
use Rattle.flow_form.specs.Exits.{exits, leaves}
use Rattle.flow_form.specs.Steps.{site_of, site_of_action}
use Rattle.flow_form.specs.Expressions.{points, points_all, points_back}
use Rattle.flow_form.specs.Statements.{points_in, points_of, in_loop}
use Rattle.flow_form.specs.FlowOf.{points_from, all_points, within, returns}
use Rattle.flow_form.specs.Laws.{FlowsNameObjects}
use Rattle.flow_form.proofs.Rises.{Each, each_append, each_flat, each_rising, each_weaker}

-- ---- what the parts of a source name

module _ (n : ℕ) where
  abbrev NamesOf : Operation → Type 0
  NamesOf (op.Element o count plain) = o < n
  NamesOf (op.Address o count) = o < n
  NamesOf _ = Unit {0}

  abbrev mutual
    Named : Core → Type 0
    Named (constant c) = Unit {0}
    Named (step operation arguments line) = NamesOf operation × NamedAll arguments
    Named (choice of_pointer test on off) = Named test × Named on × Named off
    Named (update pointer operation right undo line) = Named pointer × Named right

    NamedAll : Arguments → Type 0
    NamedAll none = Unit {0}
    NamedAll (argument e more) = Named e × NamedAll more

  abbrev NamedIn : Does → Type 0
  NamedIn (then_ first second) = NamedIn first × NamedIn second
  NamedIn (act action arguments line) = NamedAll arguments
  NamedIn (choose of_pointer test on off) = Named test × NamedIn on × NamedIn off
  NamedIn (loop mine before body next) = NamedIn before × NamedIn body × NamedIn next
  NamedIn (return e line) = Named e
  NamedIn _ = Unit {0}

  -- ---- exposed objects

  by_exposes : (operation : Operation) → NamesOf operation → Each (λ o. o < n) (exposed_by operation)
  by_exposes (op.Address o count) h = (h, tt)
  by_exposes operation h = tt

  mutual
    exposes_named : (e : Core) → Named e → Each (λ o. o < n) (exposes e)
    exposes_named (constant c) h = tt
    exposes_named (step operation arguments line) h =
        each_append (λ o. o < n) (exposes_all arguments) _ (exposes_all_named arguments h.1) (by_exposes operation h.0)
    exposes_named (choice of_pointer test on off) h =
        each_append (λ o. o < n) (exposes test ++ exposes on) (exposes off)
        (each_append (λ o. o < n) (exposes test) (exposes on) (exposes_named test h.0) (exposes_named on h.1)) (exposes_named off h.2)
    exposes_named (update pointer operation right undo line) h =
        each_append (λ o. o < n) (exposes pointer) _ (exposes_named pointer h.0) (exposes_named right h.1)

    exposes_all_named : (arguments : Arguments) → NamedAll arguments → Each (λ o. o < n) (exposes_all arguments)
    exposes_all_named none h = tt
    exposes_all_named (argument e more) h =
        each_append (λ o. o < n) (exposes e) _ (exposes_named e h.0) (exposes_all_named more h.1)

  exposes_in_named : (d : Does) → NamedIn d → Each (λ o. o < n) (exposes_in d)
  exposes_in_named nothing h = tt
  exposes_in_named break h = tt
  exposes_in_named continue h = tt
  exposes_in_named (then_ first second) h =
      each_append (λ o. o < n) (exposes_in first) _ (exposes_in_named first h.0) (exposes_in_named second h.1)
  exposes_in_named (act action arguments line) h = exposes_all_named arguments h
  exposes_in_named (choose of_pointer test on off) h =
      each_append (λ o. o < n) (exposes test ++ exposes_in on) (exposes_in off)
      (each_append (λ o. o < n) (exposes test) (exposes_in on) (exposes_named test h.0) (exposes_in_named on h.1)) (exposes_in_named off h.2)
  exposes_in_named (loop mine before body next) h =
      each_append (λ o. o < n) (exposes_in before ++ exposes_in body) (exposes_in next)
      (each_append (λ o. o < n) (exposes_in before) (exposes_in body) (exposes_in_named before h.0) (exposes_in_named body h.1))
      (exposes_in_named next h.2)
  exposes_in_named (return e line) h = exposes_named e h

  -- ---- sites

  abbrev Own : Placed → Type 0
  Own p = IfSome p.site (NamesSite n)

  form_named : (w : Within) (e : Core) → Named e → NamesForm n (form_by w (form_of e))
  form_named w (step op.Own (argument (step (op.Element o count plain) indices at) none) line) h = h.1.0.0
  form_named w (step (op.Element o count plain) indices line) h = h.0
  form_named w e h = tt

  form_at_named : (w : Within) (arguments : Arguments) (i : ℕ) → NamedAll arguments → NamesForm n (form_at w arguments i)
  form_at_named w none i h = tt
  form_at_named w (argument e more) zero h = form_named w e h.0
  form_at_named w (argument e more) (suc i) h = form_at_named w more i h.1

  site_named : (w : Within) (operation : Operation) (arguments : Arguments) (line : ℕ) → NamedAll arguments
      → IfSome (site_of w operation arguments line) (NamesSite n)
  site_named w op.Read arguments line h = (form_at_named w arguments 0 h, tt)
  site_named w op.Write arguments line h = (tt, form_at_named w arguments 0 h)
  site_named w operation arguments line h = tt

  action_named : (w : Within) (action : Action) (arguments : Arguments) (line : ℕ) → NamedAll arguments
      → IfSome (site_of_action w action arguments line) (NamesSite n)
  action_named w (acts.Fill x) arguments line h = (form_at_named w arguments 0 h, tt)
  action_named w (acts.Get x) arguments line h = (form_at_named w arguments 0 h, tt)
  action_named w acts.Put arguments line h = (tt, form_at_named w arguments 0 h)
  action_named w acts.Send arguments line h = (tt, form_at_named w arguments 0 h)
  action_named w (acts.Copy mode) arguments line h = (form_at_named w arguments 1 h, form_at_named w arguments 0 h)
  action_named w action arguments line h = tt

  back_named : (w : Within) (undo : Option Operation) (line t s : ℕ) (reads : List ℕ) → Each Own (points_back w undo line t s reads)
  back_named w None line t s reads = tt
  back_named w (Some operation) line t s reads = (site_named w operation none line tt, tt)

  module _ (w : Within) where
    mutual
      points_named : (e : Core) (k s : ℕ) (froms : List ℕ) → Named e → Each Own (points w e k s froms)
      points_named (constant c) k s froms h = tt
      points_named (step operation arguments line) k s froms h =
          each_append Own (points_all w arguments k s froms) _ (all_named arguments k s froms h.1)
          (site_named w operation arguments line h.1, tt)
      points_named (choice of_pointer test on off) k s froms h =
          let t = k + size test in
          let s' = s + accesses test in
          each_append Own _ (points w off (t + 1 + size on) (s' + accesses on) (t ∷ []))
          (each_append Own (points w test k s froms) _ (points_named test k s froms h.0) (tt, points_named on (t + 1) s' (t ∷ []) h.1))
          (points_named off (t + 1 + size on) (s' + accesses on) (t ∷ []) h.2)
      points_named (update pointer operation right undo line) k s froms h =
          let t = k + size pointer in
          let u = t + 1 + size right in
          let read = s + accesses pointer in
          let join = read + 1 + accesses right in
          let write = join + accesses_by operation in
          let place = argument pointer none in
          each_append Own _ _
          (each_append Own (points w pointer k s froms) _ (points_named pointer k s froms h.0)
          (site_named w op.Read place line (h.0, tt), points_named right (t + 1) (read + 1) (t ∷ []) h.1))
          (site_named w operation none line tt, (site_named w op.Write place line (h.0, tt), back_named w undo line (u + 1) (write + 1) _))

      all_named : (arguments : Arguments) (k s : ℕ) (froms : List ℕ) → NamedAll arguments → Each Own (points_all w arguments k s froms)
      all_named none k s froms h = tt
      all_named (argument e more) k s froms h =
          each_append Own (points w e k s froms) _ (points_named e k s froms h.0)
          (all_named more (k + size e) (s + accesses e) (exits w.returns e k froms) h.1)

  in_named : (w : Within) (d : Does) (k s : ℕ) (froms : List ℕ) → NamedIn d → Each Own (points_in w d k s froms)
  in_named w nothing k s froms h = tt
  in_named w break k s froms h = tt
  in_named w continue k s froms h = tt
  in_named w (then_ first second) k s froms h =
      each_append Own (points_in w first k s froms) _ (in_named w first k s froms h.0)
      (in_named w second (k + size_of first) (s + accesses_in first) (leaves w.returns first k froms).falls h.1)
  in_named w (act action arguments line) k s froms h =
      each_append Own (points_all w arguments k s froms) _ (all_named w arguments k s froms h)
      (action_named w action arguments line h, tt)
  in_named w (choose of_pointer test on off) k s froms h =
      let t = k + size test in
      let s' = s + accesses test in
      each_append Own _ (points_in w off (t + 1 + size_of on) (s' + accesses_in on) (t ∷ []))
      (each_append Own (points w test k s froms) _ (points_named w test k s froms h.0) (tt, in_named w on (t + 1) s' (t ∷ []) h.1))
      (in_named w off (t + 1 + size_of on) (s' + accesses_in on) (t ∷ []) h.2)
  in_named w (loop mine before body next) k s froms h =
      let t = k + size_of before in
      let u = t + 1 + size_of body in
      let s' = s + accesses_in before in
      let from_body = leaves w.returns body (t + 1) (t ∷ []) in
      let into_after = from_body.falls ++ from_body.continues in
      let into_before = froms ++ (leaves w.returns next u into_after).falls in
      each_append Own _ (points_in w next u (s' + accesses_in body) into_after)
      (each_append Own (points_in w before k s into_before) _ (in_named w before k s into_before h.0)
      (tt, in_named (in_loop w mine before body) body (t + 1) s' (t ∷ []) h.1))
      (in_named w next u (s' + accesses_in body) into_after h.2)
  in_named w (return e line) k s froms h =
      each_append Own (points w e k s froms) _ (points_named w e k s froms h) (tt, tt)

  from_named : (nodes : ℕ) (returns : ℕ → List ℕ) (i k s : ℕ) (functions : List Function) → Each (λ f. NamedIn f.body) functions
      → Each Own (points_from nodes returns i k s functions)
  from_named nodes returns i k s [] h = tt
  from_named nodes returns i k s (f ∷ more) h =
      let w = within nodes returns i f in
      each_append Own (points_of w f k s) (points_from nodes returns (suc i) (k + size_of f.body + 2) (s + accesses_in f.body) more)
      (tt, each_append Own (points_in w f.body (k + 1) s (k ∷ [])) _ (in_named w f.body (k + 1) s (k ∷ []) h.0) (tt, tt))
      (from_named nodes returns (suc i) (k + size_of f.body + 2) (s + accesses_in f.body) more h.1)

  one_more : (o : Option Site) (more : List Site) → IfSome o (NamesSite n) → Each (NamesSite n) more → Each (NamesSite n) (cons_option o more)
  one_more None more h all = all
  one_more (Some x) more h all = (h, all)

  sites_named : (ps : List Placed) → Each Own ps → Each (NamesSite n) (filter_map (λ p. p.site) ps)
  sites_named [] h = tt
  sites_named (p ∷ ps) h = one_more p.site _ h.0 (sites_named ps h.1)

-- ---- what typed parts name

computes_named : {operation : Operation} {kinds : List Kind} {kind : Kind} (n : ℕ) → Computes operation kinds kind → NamesOf n operation
computes_named n forward = tt
computes_named n back = tt
computes_named n binary = tt

takes_named : {scope : Scope} {operation : Operation} {kinds : List Kind} {kind : Kind} → Takes scope operation kinds kind
    → NamesOf (length scope.objects) operation
takes_named (use_ b) = tt
takes_named {scope} (element {o} e m) = slice_get_within scope.objects o _ e
takes_named {scope} (address {o} e m) = slice_get_within scope.objects o _ e
takes_named own_pointer = tt
takes_named own_cell = tt
takes_named convert = tt
takes_named {scope} (computes c) = computes_named (length scope.objects) c
takes_named unary = tt
takes_named same = tt
takes_named differ = tt
takes_named is_null = tt
takes_named to_global = tt
takes_named to_proc = tt
takes_named to_local = tt
takes_named (set b) = tt
takes_named (call e) = tt
takes_named (read p) = tt
takes_named (write p) = tt

module _ (n : ℕ) where
  mutual
    has_named : (scope : Scope) → length scope.objects ≡ n → (e : Core) (kind : Kind) → Has scope e kind → Named n e
    has_named scope l (constant c) kind h = tt
    has_named scope l (step operation arguments line) kind h =
        (subst (λ m. NamesOf m operation) l (takes_named h.2), have_named scope l arguments h.0 h.1)
    has_named scope l (choice false test on off) kind h =
        (has_named scope l test _ h.1, has_named scope l on kind h.2, has_named scope l off kind h.3)
    has_named scope l (choice true test on off) kind h =
        (has_named scope l test _ h.2, has_named scope l on kind h.3, has_named scope l off kind h.4)
    has_named scope l (update pointer operation right undo line) kind h =
        (has_named scope l pointer _ h.5, has_named scope l right _ h.6)

    have_named : (scope : Scope) → length scope.objects ≡ n → (arguments : Arguments) (kinds : List Kind) → Have scope arguments kinds
        → NamedAll n arguments
    have_named scope l none kinds h = tt
    have_named scope l (argument e more) [] h = absurd h
    have_named scope l (argument e more) (kind ∷ kinds) h = (has_named scope l e kind h.0, have_named scope l more kinds h.1)

  mine_named : (scope : Scope) → length scope.objects ≡ n → (x : ℕ) (first before next : Does) → IsMineLoop scope x first before next
      → NamedIn n first × NamedIn n before × NamedIn n next
  mine_named scope l x first before next m =
      let bound = has_named scope l m.bound _ m.bounded in (
        subst (NamedIn n) (sym m.begins_at) ((tt, (tt, tt)), tt),
        subst (NamedIn n) (sym m.tests) ((tt, ((tt, tt), (bound, tt))), tt, tt),
        subst (NamedIn n) (sym m.goes_on) ((tt, ((tt, ((tt, tt), (tt, tt))), tt)), tt),
      )

  typed_named : (scope : Scope) → length scope.objects ≡ n → (result : Kind) (breaks continues : Bool) (d : Does)
      → IsTypedDoes scope result breaks continues d → NamedIn n d
  typed_named scope l result breaks continues nothing h = tt
  typed_named scope l result breaks continues break h = tt
  typed_named scope l result breaks continues continue h = tt
  typed_named scope l result breaks continues (then_ first (then_ (loop (Some x) before body next) more)) h =
      let m = mine_named scope l x first before next h.0 in
      (m.0, ((m.1, typed_named scope l result true true body h.1, m.2), typed_named scope l result breaks continues more h.2))
  typed_named scope l result breaks continues (then_ first second) h =
      (typed_named scope l result breaks continues first h.0, typed_named (after scope first) l result breaks continues second h.1)
  typed_named scope l result breaks continues (act action arguments line) h = have_named scope l arguments h.0 h.1
  typed_named scope l result breaks continues (choose false test on off) h =
      (has_named scope l test _ h.0, typed_named scope l result breaks continues on h.1, typed_named scope l result breaks continues off h.2)
  typed_named scope l result breaks continues (choose true test on off) h =
      (has_named scope l test _ h.1, typed_named scope l result breaks continues on h.2, typed_named scope l result breaks continues off h.3)
  typed_named scope l result breaks continues (loop None before body next) h = (
    typed_named scope l result true false before h.0,
    typed_named scope l result true true body h.1,
    typed_named scope l result true false next h.2,
  )
  typed_named scope l result breaks continues (loop (Some x) before body next) h = absurd h
  typed_named scope l result breaks continues (return e line) h = has_named scope l e result h

pub flows_name_objects : FlowsNameObjects
flows_name_objects nodes objects program typed =
    let n = length objects in
    let named = each_weaker (IsTypedFunction objects program) (λ f. NamedIn n f.body) program.functions
    (λ f h. typed_named n (scope_of objects program f) refl _ false false f.body h)
    (recursion_from_All (IsTypedFunction objects program) program.functions typed.functions) in
    record {
      sites = All-from_recursion (NamesSite n) _ (sites_named n (all_points nodes program)
          (tt, from_named n nodes (returns program.functions) 0 1 0 program.functions named));
      exposed = All-from_recursion (λ o. o < n) _ (each_rising ltb (λ o. o < n) (exposes_of program)
          (each_flat (λ o. o < n) (λ f. exposes_in f.body) program.functions
          (each_weaker (λ f. NamedIn n f.body) (λ f. Each (λ o. o < n) (exposes_in f.body)) program.functions
          (λ f h. exposes_in_named n f.body h) named)));
    }
