-- Each function of a typed source has its flow, and its code lies where its row says.
use Rattle.std.proofs.Common.{◌≡◌, inl, ℕ, zero, suc, ◌+◌, List, [], ◌∷◌, ◌++◌, length, map, Option, Some, Bool, true, false, slice_get, refl, sym, ap, ◌∙◌, subst}
use Rattle.std.specs.Option.{option_map_or}
use Rattle.std.proofs.lemmas.List.{length-append, length-map}
use Rattle.std.proofs.lemmas.List.Elements.{recursion_from_All}
use Rattle.std.proofs.lemmas.Option.{slice_get_within}
use Rattle.sc_base.specs.declared.shape.Shape.{Shape}
use Rattle.sc_layout.specs.Layout.{Arrangement}
use Rattle.sc_isa.specs.declared.code.Code.{Code}
use Rattle.sc_isa.specs.declared.code.FnRow.{FnRow}
use Rattle.sc_core.specs.Core.{Does, nothing, break, continue, then_, act, choose, loop, return, Function, Program}
use Rattle.sc_core.specs.Kinds.{kind_of_type}
use Rattle.sc_core.specs.Typed.{scope_of, IsTypedFunction, IsTyped}
use Rattle.sc_meaning.specs.Points.{size, size_of, first_from, first_point}
use Rattle.site_graph.specs.declared.plan.Plan.{Plan}
use Rattle.site_graph.specs.Graph.{Graph}
use Rattle.site_graph.specs.Plans.{waits_at, IsPlan}
use Rattle.flow_form.specs.Accesses.{accesses_in}
use Rattle.flow_form.specs.Exits.{leaves, returns_in}
use Rattle.flow_form.specs.Statements.{returns_of, end_of}
use Rattle.flow_form.specs.FlowOf.{flow_of, returns}
use Rattle.flow_form.proofs.Rises.{Each, In as Among, in_left, in_right}
use Rattle.node_emit.specs.Runs.{goes_one_way}
use Rattle.node_emit.specs.Widths.{width_of}
use Rattle.node_emit.specs.Sources.{locals_of, rows_from, IsCodeOf}
use Rattle.emit_laws.proofs.Parts.{Setup, Flows, FunctionAt}
use Rattle.emit_laws.proofs.Items.{functions_are}
use Rattle.emit_laws.proofs.Placed.{HasItems}
use Rattle.emit_laws.proofs.PlacedStatements.{FormedIn}
use Rattle.emit_laws.proofs.FunctionCodes.{sites_before, FunctionFormed, AllFormed, codes_at}
use Rattle.emit_laws.proofs.Standings.{items_stand}
use Rattle.emit_laws.proofs.Setups.{setup}
use Rattle.code_laws.proofs.Compiled.{source_items, pieces_of}
use Rattle.code_laws.proofs.Bodies.{first_empty, body_of}
use Rattle.code_laws.proofs.Shapes.{ShapedIn, typed_shaped}
use Rattle.code_laws.proofs.Flowing.{HaveRows, is_in, enter_of, both_in}
use Rattle.code_laws.proofs.Firsts.{first_is_first}

each_got : {A : Type 0} (P : A → Type 0) (xs : List A) (i : ℕ) (x : A) → Each P xs → slice_get xs i ≡ Some x → P x
each_got P [] i x h e = absurd (cc)
each_got P (y ∷ ys) zero x h e = let same : y ≡ x = cc in subst P same h.0
each_got P (y ∷ ys) (suc i) x h e = each_got P ys i x h.1 e

-- the rows of the code have as many parameters as the functions
rows_have : (plan : Plan) (fs : List Function) (k pc f : ℕ) (g : Function) → slice_get fs f ≡ Some g
    → (row : FnRow) × (slice_get (rows_from plan fs k pc) f ≡ Some row) × (row.params ≡ length g.params)
rows_have plan [] k pc f g e = absurd (cc)
rows_have plan (x ∷ more) k pc zero g e =
    let same : x ≡ g = cc in (_, refl, ap (λ (y : Function). length y.params) same)
rows_have plan (x ∷ more) k pc (suc f) g e = rows_have plan more (k + size_of x.body + 2) (pc + width_of plan x k) f g e

pub have_rows : (plan : Plan) (program : Program) (code : Code) → IsCodeOf plan program code → HaveRows program code
have_rows plan program code of f g e =
    let r = rows_have plan program.functions 1 0 f g e in
    (r.0, ap (λ rows. slice_get rows f) of.functions ∙ r.1, r.2)

-- ---- a body is left by no `break` or `continue`

none_of_both : (xs ys : List ℕ) → xs ≡ [] → ys ≡ [] → xs ++ ys ≡ []
none_of_both xs ys e f = ap (λ l. l ++ ys) e ∙ f

module _ (functions : List Function) (locals : ℕ) (r : ℕ → List ℕ) where
  no_breaks_in : (cs : Bool) (d : Does) (k : ℕ) (froms : List ℕ) → ShapedIn functions locals false cs d → (leaves r d k froms).breaks ≡ []
  no_breaks_in cs nothing k froms h = refl
  no_breaks_in cs break k froms h = absurd (cc)
  no_breaks_in cs continue k froms h = refl
  no_breaks_in cs (then_ first second) k froms h =
      let a = leaves r first k froms in
      none_of_both a.breaks _ (no_breaks_in cs first k froms h.0) (no_breaks_in cs second (k + size_of first) a.falls h.1)
  no_breaks_in cs (act action arguments line) k froms h = refl
  no_breaks_in cs (choose of_pointer test on off) k froms h =
      let t = k + size test in
      none_of_both (leaves r on (t + 1) (t ∷ [])).breaks _ (no_breaks_in cs on (t + 1) (t ∷ []) h.1) (no_breaks_in cs off (t + 1 + size_of on) (t ∷ []) h.2)
  no_breaks_in cs (loop mine before body after) k froms h = refl
  no_breaks_in cs (return e line) k froms h = refl

  no_continues_in : (bs : Bool) (d : Does) (k : ℕ) (froms : List ℕ) → ShapedIn functions locals bs false d → (leaves r d k froms).continues ≡ []
  no_continues_in bs nothing k froms h = refl
  no_continues_in bs break k froms h = refl
  no_continues_in bs continue k froms h = absurd (cc)
  no_continues_in bs (then_ first second) k froms h =
      let a = leaves r first k froms in
      none_of_both a.continues _ (no_continues_in bs first k froms h.0) (no_continues_in bs second (k + size_of first) a.falls h.1)
  no_continues_in bs (act action arguments line) k froms h = refl
  no_continues_in bs (choose of_pointer test on off) k froms h =
      let t = k + size test in
      none_of_both (leaves r on (t + 1) (t ∷ [])).continues _
      (no_continues_in bs on (t + 1) (t ∷ []) h.1) (no_continues_in bs off (t + 1 + size_of on) (t ∷ []) h.2)
  no_continues_in bs (loop mine before body after) k froms h =
      let t = k + size_of before in
      let u = t + 1 + size_of body in
      let b = leaves r body (t + 1) (t ∷ []) in
      let c = leaves r after u (b.falls ++ b.continues) in
      none_of_both (leaves r before k (froms ++ c.falls)).continues c.continues
      (no_continues_in true before k (froms ++ c.falls) h.0) (no_continues_in true after u (b.falls ++ b.continues) h.2)
  no_continues_in bs (return e line) k froms h = refl

-- ---- functions

pub function_shaped : (objects : List Shape) (program : Program) → IsTyped objects program → (f : ℕ) (g : Function) → slice_get program.functions f ≡ Some g
    → ShapedIn program.functions (locals_of g) false false g.body
function_shaped objects program typed f g e =
    let l : length (map kind_of_type (g.params ++ g.others)) ≡ locals_of g = length-map (g.params ++ g.others) kind_of_type ∙ length-append g.params g.others in
    typed_shaped program.functions (locals_of g) (scope_of objects program g) refl l (kind_of_type g.result) false false g.body
    (each_got (IsTypedFunction objects program) program.functions f g (recursion_from_All (IsTypedFunction objects program) program.functions typed.functions) e)

module _ (layout : Arrangement) (objects : List Shape) (program : Program) (plan : Plan) (code : Code) (between : ℕ → ℕ → List ℕ) (node : ℕ)
    (typed : IsTyped objects program) (of : IsCodeOf plan program code) (sites : length (flow_of layout.nodes program).sites ≡ code.sites) where
  abbrev c : Setup
  c = setup layout program plan code (pieces_of plan program) between node

  abbrev graph : Graph
  graph = flow_of layout.nodes program

  abbrev waits : (t : ℕ) → c.waits t ≡ waits_at plan t
  waits t = refl

  abbrev one_way : (site : ℕ) → c.one_way site ≡ goes_one_way plan site
  one_way site = refl

  room : (f : ℕ) (g : Function) → slice_get program.functions f ≡ Some g → c.locals f ≡ locals_of g
  room f g e = ap (λ (o : Option Function). option_map_or locals_of o 0) e

  return_points : (f : ℕ) (g : Function) → slice_get program.functions f ≡ Some g → (t : ℕ)
      → Among t (returns_of g (first_point program.functions f)) → Among t (returns program.functions f)
  return_points f g e t i =
      subst (λ (o : Option Function). Among t (option_map_or (λ (h : Function). returns_of h (first_point program.functions f)) o [])) (sym e) i

  -- its body has its flow, and is formed
  body_both : (f : ℕ) (g : Function) → slice_get program.functions f ≡ Some g
      → Flows c f g.body (first_point program.functions f + 1) (sites_before 0 program.functions f) (first_point program.functions f ∷ [])
      × FormedIn c plan waits one_way g.body (first_point program.functions f + 1) (sites_before 0 program.functions f)
  body_both f g e =
      let k = first_point program.functions f in
      both_in layout program plan code (pieces_of plan program) between node sites (have_rows plan program code of) f (length g.params) (locals_of g) (room f g e)
      [] false false g.body (k + 1) (sites_before 0 program.functions f) (k ∷ []) (body_of layout program f g e).body (function_shaped objects program typed f g e)
      (λ t i. return_points f g e t (in_left t (returns_in g.body (k + 1)) (end_of g k ∷ []) i))

  formed_of : (f : ℕ) (g : Function) → slice_get program.functions f ≡ Some g
      → FunctionFormed c plan waits one_way g (first_point program.functions f) (sites_before 0 program.functions f)
  formed_of f g e = ((body_both f g e).1, (body_of layout program f g e).last.1)

  all_formed : (fs : List Function) (k s : ℕ)
      → ((f : ℕ) (g : Function) → slice_get fs f ≡ Some g → FunctionFormed c plan waits one_way g (first_from k fs f) (sites_before s fs f))
      → AllFormed c plan waits one_way fs k s
  all_formed [] k s h = tt
  all_formed (x ∷ more) k s h = (h 0 x refl, all_formed more (k + size_of x.body + 2) (s + accesses_in x.body) (λ f g e. h (suc f) g e))

  pub has_items : HasItems c plan waits one_way 0 (source_items plan program)
  has_items =
      items_stand c plan waits one_way (source_items plan program) (of.instrs ∙ sym (functions_are plan program.functions 1 0 0)) (λ pc. refl)

  pub function_lies : IsPlan graph plan → (f : ℕ) (g : Function) → slice_get program.functions f ≡ Some g → FunctionAt c f g
  function_lies is_plan f g e =
      let k = first_point program.functions f in
      let s = sites_before 0 program.functions f in
      let r = codes_at c plan waits one_way program.functions 1 0 0 f g (all_formed program.functions 1 0 formed_of) has_items e in
      let row = r.0 in
      let it = r.2 in
      let shape = function_shaped objects program typed f g e in
      let body = body_of layout program f g e in
      let rs = returns program.functions in
      record {
        is_function = e;
        row = row;
        is_row = ap (λ rows. slice_get rows f) of.functions ∙ r.1;
        params = it.params;
        room = it.room;
        locals = room f g e ∙ sym it.room;
        sites = s;
        end = it.end;
        last = it.last;
        over = it.over;
        no_waits = is_plan.none_first k (first_is_first layout program f g e);
        no_run = first_empty program f (slice_get_within program.functions f g e);
        flows = (body_both f g e).0;
        lies = it.lies;
        zero_at = it.zero_at;
        falls = enter_of layout program plan code (pieces_of plan program) between node sites (have_rows plan program code of) f (length g.params) (locals_of g) (room f g e)
            _ body.last.0;
        no_breaks = no_breaks_in program.functions (locals_of g) rs false g.body (k + 1) (k ∷ []) shape;
        no_continues = no_continues_in program.functions (locals_of g) rs false g.body (k + 1) (k ∷ []) shape;
        return_at = it.return_at;
        returns = is_in (k + 1 + size_of g.body) (rs f) (return_points f g e (end_of g k) (in_right (end_of g k) (returns_in g.body (k + 1)) (end_of g k ∷ []) (inl refl)));
      }
