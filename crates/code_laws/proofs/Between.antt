-- The empty points of a flow lie apart, and which of them lies between two runs is told by what is called.
use Rattle.std.proofs.Common.{◌≡◌, ◌⊎◌, inl, inr, ⊎_elim, ℕ, zero, suc, ◌+◌, ◌<◌, List, [], ◌∷◌, length, map, Option, Some, None, Bool, true, false, slice_get, refl, sym, ap, ◌∙◌, subst, arith}
use Rattle.std.specs.Prelude.{if◌then◌else◌, ltb, flat_map}
use Rattle.std.proofs.lemmas.Bool.{ltb-true, lt-ltb}
use Rattle.std.proofs.lemmas.List.Elements.{All-from_recursion}
use Rattle.sc_layout.specs.Layout.{Arrangement}
use Rattle.sc_core.specs.Core.{Function, Program}
use Rattle.sc_isa.specs.declared.code.Code.{Code}
use Rattle.sc_meaning.specs.Points.{first_point}
use Rattle.site_graph.specs.declared.flow.Edge.{Edge}
use Rattle.site_graph.specs.declared.plan.Plan.{Plan}
use Rattle.site_graph.specs.Graph.{Graph}
use Rattle.site_graph.specs.Rising.{edge_before}
use Rattle.site_graph.specs.Ways.{Goes}
use Rattle.flow_form.specs.Within.{Placed}
use Rattle.flow_form.specs.Statements.{points_in, points_of}
use Rattle.flow_form.specs.FlowOf.{edge, edges_called, edges_at, flow_of}
use Rattle.flow_form.proofs.Rises.{Each, each_append, each_weaker, each_map, each_flat, each_rising}
use Rattle.node_emit.specs.Law.{is_empty}
use Rattle.emit_laws.proofs.FunctionCodes.{sites_before}
use Rattle.code_laws.proofs.Compiled.{callee_at, between_of, EmptyAreTold}
use Rattle.code_laws.proofs.Bodies.{first_empty, all, Is, Has, all_are, its_callee, view, body_of, all_hold, each_both}
use Rattle.code_laws.proofs.Quiet.{Quiet, Enters, all_enter}

pub has_one : {A : Type 0} (xs : List A) (i : ℕ) → i < length xs → (x : A) × (slice_get xs i ≡ Some x)
has_one [] i lt = absurd (omega (arith, lt))
has_one (x ∷ xs) zero lt = (x, refl)
has_one (x ∷ xs) (suc i) lt = has_one xs i (omega (arith, lt))

yes_no : {x : Bool} → x ≡ true → x ≡ false → ⊥
yes_no e f = let h : true ≡ false = sym e ∙ f in cc

module _ (layout : Arrangement) (program : Program) where
  abbrev graph : Graph
  graph = flow_of layout.nodes program

  -- an edge leads from a call to the empty point of what is called, or from a point that calls nothing to one that is not empty
  pub record Calls (e : Edge) : Type 0 where
    pub empty : is_empty program e.to ≡ true
    pub f : ℕ
    pub callee : callee_at layout program e.from ≡ Some f
    pub within : f < length program.functions
    pub to_is : e.to ≡ first_point program.functions f

  pub record Passes (e : Edge) : Type 0 where
    pub full : is_empty program e.to ≡ false
    pub quiet : Quiet layout program e.from

  abbrev Told : Edge → Type 0
  Told e = Calls e ⊎ Passes e

  abbrev Aims : Placed → Type 0
  Aims p = (p.froms ≡ []) ⊎ (is_empty program p.at ≡ false)

  abbrev Entered : Placed → Type 0
  Entered p = Is layout program p × (Enters layout program p × Aims p)

  aims_of : (f : ℕ) (g : Function) → slice_get program.functions f ≡ Some g
      → Each Aims (points_of (view layout program f g) g (first_point program.functions f) (sites_before 0 program.functions f))
  aims_of f g e =
      let k = first_point program.functions f in
      let bodies = points_in (view layout program f g) g.body (k + 1) (sites_before 0 program.functions f) (k ∷ []) in
      let b = body_of layout program f g e in
      (inl refl, each_append Aims bodies _ (each_weaker (Has layout program) Aims bodies (λ p h. inr h.1) b.body) (inr b.last.1, tt))

  all_aim : Each Aims (all layout program)
  all_aim = all_hold layout program Aims (inl refl) aims_of

  from_told : (p : Placed) → Enters layout program p → Aims p → Each Told (map (λ from. edge from p.at) p.froms)
  from_told p q (inl e) = subst (λ froms. Each Told (map (λ from. edge from p.at) froms)) (sym e) tt
  from_told p q (inr full) =
      each_map Told (λ from. edge from p.at) p.froms
      (each_weaker (Quiet layout program) (λ from. Told (edge from p.at)) p.froms (λ from h. inr (record { full = full; quiet = h })) q)

  called_told : (from : ℕ) (callee : Option ℕ) → callee_at layout program from ≡ callee → Each Told (edges_called program.functions from callee)
  called_told from None e = tt
  called_told from (Some f) e = by_test (ltb f (length program.functions)) refl
    where
      by_test : (b : Bool) → ltb f (length program.functions) ≡ b → Each Told (if b then edge from (first_point program.functions f) ∷ [] else [])
      by_test false t = tt
      by_test true t =
          let lt = ltb-true f (length program.functions) t in
          (inl (record { empty = first_empty program f lt; f = f; callee = e; within = lt; to_is = refl }), tt)

  edges_told : (p : Placed) → Entered p → Each Told (edges_at program.functions p)
  edges_told p h =
      each_append Told (map (λ from. edge from p.at) p.froms) (edges_called program.functions p.at p.callee)
      (from_told p h.1.0 h.1.1) (called_told p.at p.callee (its_callee layout program p h.0))

  all_told : Each Told (flat_map (edges_at program.functions) (all layout program))
  all_told =
      each_flat Told (edges_at program.functions) (all layout program)
      (each_weaker Entered (λ p. Each Told (edges_at program.functions p)) (all layout program) edges_told
      (each_both (Is layout program) (λ p. Enters layout program p × Aims p) (all layout program) (all_are layout program)
      (each_both (Enters layout program) Aims (all layout program) (all_enter layout program) all_aim)))

  pub told : (p t : ℕ) → Goes graph p t → Told (edge p t)
  told p t h =
      let edges = flat_map (edges_at program.functions) (all layout program) in
      subst Told h.2 (All-from_recursion Told graph.edges (each_rising edge_before Told edges all_told) h.0 (edge p t) h.1)

  between_none : (p t : ℕ) → Quiet layout program p → between_of layout program p t ≡ []
  between_none p t q = ap (λ o. map (λ (e : Edge). e.to) (edges_called program.functions p o)) q

  one_called : (p f : ℕ) → f < length program.functions
      → map (λ (e : Edge). e.to) (edges_called program.functions p (Some f)) ≡ first_point program.functions f ∷ []
  one_called p f lt =
      ap (λ b. map (λ (e : Edge). e.to) (if b then edge p (first_point program.functions f) ∷ [] else [])) (lt-ltb f (length program.functions) lt)

  between_one : (p t : ℕ) (e : Edge) → e.from ≡ p → Calls e → between_of layout program p t ≡ e.to ∷ []
  between_one p t e from h =
      ap (λ q. map (λ (e : Edge). e.to) (edges_called program.functions p (callee_at layout program q))) (sym from)
      ∙ ap (λ o. map (λ (e : Edge). e.to) (edges_called program.functions p o)) h.callee ∙ one_called p h.f h.within
      ∙ ap (λ n. n ∷ []) (sym h.to_is)

  first_quiet : (f : ℕ) → f < length program.functions → Quiet layout program (first_point program.functions f)
  first_quiet f lt =
      let g = has_one program.functions f lt in
      its_callee layout program _ (body_of layout program f g.0 g.1).first

  some_or_none : {f : ℕ} {o : Option ℕ} → o ≡ Some f → o ≡ None → ⊥
  some_or_none {f} e n = let h : Some f ≡ None = sym e ∙ n in cc

  pub empty_are_told : (plan : Plan) (code : Code) → EmptyAreTold layout program plan code
  empty_are_told plan code = record {
    direct = λ p t goes full. ⊎_elim (λ c. absurd (yes_no c.empty full)) (λ h. between_none p t h.quiet) (told p t goes);
    through = λ p e t goes empty on full. ⊎_elim (λ c. between_one p t (edge p e) refl c) (λ h. absurd (yes_no empty h.full)) (told p e goes);
    apart = λ p e t goes empty on also. ⊎_elim
        (λ c. ⊎_elim
        (λ d. some_or_none d.callee (subst (Quiet layout program) (sym c.to_is) (first_quiet c.f c.within)))
        (λ h. yes_no also h.full) (told e t on))
        (λ h. yes_no empty h.full) (told p e goes);
  }
