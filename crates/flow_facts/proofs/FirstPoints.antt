-- Start and the first points of functions do nothing, and no other point is the first of a function; they are entered from calls only.
use Rattle.std.proofs.Common.{◌≡◌, ◌⊎◌, inl, inr, ⊎_elim, ℕ, zero, suc, ◌+◌, ◌<◌, ◌≤◌, List, [], ◌∷◌, length, map, Option, Some, None, Bool, true, false, slice_get, refl, sym, ap, ◌∙◌, subst, arith}
use Rattle.std.specs.Prelude.{if◌then◌else◌, ltb, flat_map}
use Rattle.std.proofs.lemmas.Bool.{ltb-true}
use Rattle.std.proofs.lemmas.List.Elements.{All-from_recursion}
use Rattle.std.proofs.lemmas.Option.{slice_get_within}
use Rattle.sc_layout.specs.Layout.{Arrangement}
use Rattle.sc_core.specs.declared.operation.Operation.{Operation}
use Rattle.sc_core.specs.declared.operation.Operation.TheVariants as op
use Rattle.sc_core.specs.declared.operation.Action.{Action}
use Rattle.sc_core.specs.declared.operation.Action.TheVariants as acts
use Rattle.sc_core.specs.Core.{Function, Program}
use Rattle.sc_meaning.specs.Points.{size_of, first_point}
use Rattle.site_graph.specs.declared.flow.Edge.{Edge}
use Rattle.site_graph.specs.declared.point.Point.{Point}
use Rattle.site_graph.specs.declared.point.PointKind.{PointKind}
use Rattle.site_graph.specs.declared.point.PointKind.TheVariants.{Start, Plain, Access, Return}
use Rattle.site_graph.specs.Graph.{Graph, kind_at, IsAt}
use Rattle.site_graph.specs.Plans.{IsFirst}
use Rattle.site_graph.specs.Rising.{edge_before}
use Rattle.site_graph.specs.Ways.{Goes}
use Rattle.flow_form.specs.Within.{Placed}
use Rattle.flow_form.specs.Steps.{callee_of, kind_of, kind_of_action, bare}
use Rattle.flow_form.specs.Exits.{leaves}
use Rattle.flow_form.specs.Statements.{points_in, points_of, end_of}
use Rattle.flow_form.specs.FlowOf.{edge, edges_called, edges_at, flow_of, returns}
use Rattle.flow_form.proofs.Rises.{Each, In, each_append, each_weaker, each_at, each_of, each_map, each_flat, each_rising}
use Rattle.flow_form.proofs.Run.{runs_in, points_stand_in_order}
use Rattle.flow_laws.proofs.Facts.{facts}
use Rattle.sync_place.specs.Laws.{FirstPointsAreIdle}
use Rattle.sync_place.specs.Plain.{FirstsFollowNoAccess}
use Rattle.node_emit.specs.Law.{is_empty}
use Rattle.emit_laws.proofs.FunctionCodes.{sites_before}
use Rattle.code_laws.proofs.Compiled.{called_by, callee_at}
use Rattle.code_laws.proofs.Bodies.{each_both, within_run, first_empty, all, Is, Has, all_are, its_point, view, body_of, all_hold}
use Rattle.code_laws.proofs.Firsts.{mapped_at, none_is_first}
use Rattle.code_laws.proofs.Between.{told, has_one}
use Rattle.flow_facts.proofs.EachPart.{Bares, Steps, Actions, each_in}

-- ---- single points

-- it is not Start, and where it is an access it calls nothing
abbrev Calm : PointKind → (callee : Option ℕ) → Type 0
Calm kind callee = (kind ≡ Start → ⊥) × ((number : ℕ) → kind ≡ Access number → callee ≡ None)

abbrev Own : ℕ → Placed → Type 0
Own f p = (p.point.function ≡ f) × Calm p.point.kind p.callee

bare_calm : (kind : PointKind) → (kind ≡ Plain) ⊎ (kind ≡ Return) → kind ≡ Start → ⊥
bare_calm kind (inl p) e = let h : Plain ≡ Start = sym p ∙ e in cc
bare_calm kind (inr p) e = let h : Return ≡ Start = sym p ∙ e in cc

step_calm : (operation : Operation) (s : ℕ) → Calm (kind_of operation s) (callee_of operation)
step_calm op.Read s = (λ e. absurd (cc), λ number e. refl)
step_calm op.Write s = (λ e. absurd (cc), λ number e. refl)
step_calm (op.Call f n) s = (λ e. absurd (cc), λ number e. absurd (cc))
step_calm operation s = (λ e. absurd (cc), λ number e. refl)

action_calm : (action : Action) (s : ℕ) → kind_of_action action s ≡ Start → ⊥
action_calm (acts.Fill x) s e = absurd (cc)
action_calm (acts.Get x) s e = absurd (cc)
action_calm acts.Put s e = absurd (cc)
action_calm acts.Send s e = absurd (cc)
action_calm (acts.Copy mode) s e = absurd (cc)
action_calm acts.Sync s e = absurd (cc)
action_calm acts.Barrier s e = absurd (cc)
action_calm acts.AllStoreSync s e = absurd (cc)
action_calm action s e = absurd (cc)

bares_own : (f : ℕ) → Bares f (Own f)
bares_own f w kind t froms takes reads same which = (same, (bare_calm kind which, λ number e. refl))

steps_own : (f : ℕ) → Steps f (Own f)
steps_own f w operation arguments line t s froms takes reads same = (same, step_calm operation (suc s))

actions_own : (f : ℕ) → Actions f (Own f)
actions_own f w action arguments line t s froms takes reads same = (same, (action_calm action (suc s), λ number e. refl))

abbrev Nothing : Point → Type 0
Nothing p = ((p.kind ≡ Start) ⊎ (p.kind ≡ Plain)) × (p.takes ≡ []) × (p.reads ≡ []) × ((local : ℕ) → p.writes ≡ Some local → ⊥)

in_of : {A : Type 0} (xs : List A) (i : ℕ) (x : A) → slice_get xs i ≡ Some x → In x xs
in_of [] i x e = absurd (cc)
in_of (y ∷ ys) zero x e = let same : y ≡ x = cc in inl same
in_of (y ∷ ys) (suc i) x e = inr (in_of ys i x e)

called_of : (o : Option Placed) (f : ℕ) → called_by o ≡ Some f → (p : Placed) × (o ≡ Some p) × (p.callee ≡ Some f)
called_of None f e = absurd (cc)
called_of (Some p) f e = (p, refl, e)

some_or_none : {f : ℕ} {o : Option ℕ} → o ≡ Some f → o ≡ None → ⊥
some_or_none {f} e n = let h : Some f ≡ None = sym e ∙ n in cc

-- ---- the points of a source

module _ (layout : Arrangement) (program : Program) where
  abbrev graph : Graph
  graph = flow_of layout.nodes program

  -- it does nothing, or is not the first of its function
  abbrev Known : Placed → Type 0
  Known p =
      ((number : ℕ) → p.point.kind ≡ Access number → p.callee ≡ None)
      × ((Nothing p.point × (is_empty program p.at ≡ true)) ⊎ ((IsFirst graph p.at → ⊥) × (is_empty program p.at ≡ false)))

  inner_known : (f : ℕ) (g : Function) → slice_get program.functions f ≡ Some g → (p : Placed) → first_point program.functions f < p.at
      → Has layout program p → Own f p → Known p
  inner_known f g e p lt is own =
      (own.1.1, inr (λ first. none_is_first layout program f g p.at p.point e lt (its_point layout program p is.0) own.0 own.1.0 first, is.1))

  known_of : (f : ℕ) (g : Function) → slice_get program.functions f ≡ Some g
      → Each Known (points_of (view layout program f g) g (first_point program.functions f) (sites_before 0 program.functions f))
  known_of f g e =
      let k = first_point program.functions f in
      let s = sites_before 0 program.functions f in
      let w = view layout program f g in
      let b = body_of layout program f g e in
      let left = (leaves (returns program.functions) g.body (k + 1) (k ∷ [])).falls in
      let bodies = points_in w g.body (k + 1) s (k ∷ []) in
      let near = within_run bodies (k + 1) s _ _ (runs_in w g.body (k + 1) s (k ∷ [])) in
      let owns = each_in f (Own f) (bares_own f) (steps_own f) (actions_own f) w refl g.body (k + 1) s (k ∷ []) in (
        (λ number a. refl, inl ((inr refl, refl, refl, λ local a. absurd (cc)), first_empty program f (slice_get_within program.functions f g e))),
        each_append Known bodies _
            (each_weaker (λ p. ((k + 1 ≤ p.at) × (p.at < k + 1 + size_of g.body)) × (Has layout program p × Own f p)) Known bodies
            (λ p h. let le = h.0.0 in inner_known f g e p (omega (arith, le)) h.1.0 h.1.1)
            (each_both (λ p. (k + 1 ≤ p.at) × (p.at < k + 1 + size_of g.body)) (λ p. Has layout program p × Own f p) bodies near
            (each_both (Has layout program) (Own f) bodies b.body owns)))
            (inner_known f g e (bare w Return (end_of g k) left [] []) (omega arith) b.last (bares_own f w Return (end_of g k) left [] [] refl (inr refl)), tt),
      )

  all_known : Each Known (all layout program)
  all_known =
      all_hold layout program Known (λ number a. absurd (cc), inl ((inl refl, refl, refl, λ local a. absurd (cc)), refl)) known_of

  known : (p : Placed) → Is layout program p → Known p
  known p i = each_at Known (all layout program) p all_known i

  pub idle : FirstPointsAreIdle graph
  idle t p first at =
      let r = mapped_at (λ (q : Placed). q.point) (all layout program) t p at in
      let same = points_stand_in_order layout.nodes t program r.0 r.1 in
      ⊎_elim (λ h. subst Nothing r.2 h.0)
      (λ h. absurd (h.0 (subst (IsFirst graph) (sym same) first)))
      (known r.0 r.3).1

  -- ---- edges

  -- the edge leads to a point of the source
  abbrev Leads : Edge → Type 0
  Leads e = (p : Placed) × Is layout program p × (p.at ≡ e.to)

  called_lead : (from : ℕ) (callee : Option ℕ) → Each Leads (edges_called program.functions from callee)
  called_lead from None = tt
  called_lead from (Some f) = by_test (ltb f (length program.functions)) refl
    where
      by_test : (b : Bool) → ltb f (length program.functions) ≡ b → Each Leads (if b then edge from (first_point program.functions f) ∷ [] else [])
      by_test false t = tt
      by_test true t =
          let g = has_one program.functions f (ltb-true f (length program.functions) t) in
          ((_, (body_of layout program f g.0 g.1).first, refl), tt)

  edges_lead : (p : Placed) → Is layout program p → Each Leads (edges_at program.functions p)
  edges_lead p i =
      each_append Leads (map (λ from. edge from p.at) p.froms) (edges_called program.functions p.at p.callee)
      (each_map Leads (λ from. edge from p.at) p.froms (each_of (λ from. Leads (edge from p.at)) p.froms (λ from j. (p, i, refl))))
      (called_lead p.at p.callee)

  leads : (a t : ℕ) → Goes graph a t → Leads (edge a t)
  leads a t h =
      let edges = flat_map (edges_at program.functions) (all layout program) in
      let every = each_flat Leads (edges_at program.functions) (all layout program)
      (each_weaker (Is layout program) (λ p. Each Leads (edges_at program.functions p)) (all layout program) edges_lead (all_are layout program)) in
      subst Leads h.2 (All-from_recursion Leads graph.edges (each_rising edge_before Leads edges every) h.0 (edge a t) h.1)

  full_not_first : (t : ℕ) → is_empty program t ≡ false → Leads (edge 0 t) → IsFirst graph t → ⊥
  full_not_first t full l first =
      ⊎_elim (λ h. let no : true ≡ false = sym h.1 ∙ (ap (is_empty program) l.2 ∙ full) in cc)
      (λ h. h.0 (subst (IsFirst graph) (sym l.2) first))
      (known l.0 l.1).1

  -- a point that is called from is no access
  callers : (a f number : ℕ) → callee_at layout program a ≡ Some f → IsAt graph number a → ⊥
  callers a f number calls at =
      let q = called_of (slice_get (all layout program) a) f calls in
      let i = in_of (all layout program) a q.0 q.1 in
      let same = points_stand_in_order layout.nodes a program q.0 q.1 in
      let kind = (facts layout.nodes program q.0 i).kind in
      some_or_none q.2 ((known q.0 i).0 number (sym kind ∙ (ap (kind_at graph) same ∙ at)))

  pub follow_none : FirstsFollowNoAccess graph
  follow_none t a number first goes at =
      let l = leads a t goes in
      ⊎_elim (λ c. callers a c.f number c.callee at)
      (λ h. full_not_first t h.full (l.0, l.1, l.2) first)
      (told layout program a t goes)
