-- Steps and chains of steps, and choices and tests, as they are drawn.
use Rattle.std.proofs.Common.{◌≡◌, refl, sym, ap, ◌∙◌, ℕ, ◌+◌, Bool, List, [], ◌∷◌, ◌++◌, length, None, arith, append_assoc}
use Rattle.std.specs.Prelude.{ltb, map, flat_map, filter_map}
use Rattle.std.proofs.lemmas.List.{append-nil, map-append}
use Rattle.std.proofs.lemmas.List.Elements.{filter_map-append}
use Rattle.std.proofs.lemmas.Grind.{flat_map-append}
use Rattle.sc_core.specs.declared.operation.Operation.{Operation}
use Rattle.sc_core.specs.Core.{Core, step, choice, Arguments, argument}
use Rattle.sc_core.specs.View.{Linked, linked}
use Rattle.sc_core.proofs.ViewCoreLaws.{linked-more}
use Rattle.sc_meaning.specs.Points.{size, sizes}
use Rattle.site_graph.specs.declared.point.PointKind.TheVariants.{Plain}
use Rattle.site_graph.specs.Rising.{rising}
use Rattle.flow_form.specs.declared.scan.Entry.{Entry}
use Rattle.flow_form.specs.Within.{Within, Placed}
use Rattle.flow_form.specs.Accesses.{accesses, accesses_all}
use Rattle.flow_form.specs.Occurring.{occurring, occurring_all, occurring_by}
use Rattle.flow_form.specs.Exits.{fetched, fetched_all, exits, exits_all}
use Rattle.flow_form.specs.Steps.{site_of}
use Rattle.flow_form.specs.Expressions.{points, points_all, test_at}
use Rattle.flow_form.specs.FlowOf.{edge}
use Rattle.flow_form.proofs.Run.{Runs, joined, runs, runs_all}
use Rattle.flow_draw.specs.declared.drawing.Drawing.{Drawing}
use Rattle.flow_draw.specs.Noted.{noted}
use Rattle.flow_draw.specs.Around.{edges_by}
use Rattle.flow_draw.specs.Drawn.{with_points, drawn, drawn_all}
use Rattle.flow_draw.specs.Drawings.{fresh, outer_of, beside, passed, stepped, drawn_link, drawn_links, tested, test_point, turned, met}
use Rattle.flow_draw.proofs.Noting.{noted-append, noted-rising, noted-anew}
use Rattle.flow_draw.proofs.Grown.{Drawing_at, drawing_same, grown-same, points_behind, then-drawn, then-stepped, all-on, drawn-beside}

-- in a drawing begun afresh the numbers are the rising list
pub reads-are : (a b : List ℕ) → rising ltb (a ++ b) ≡ noted b (noted a [])
reads-are a b = sym (noted-rising (a ++ b)) ∙ noted-append a b []

module _ (entries : List Entry) where
  -- ---- steps

  step-fresh : (w : Within) (operation : Operation) (arguments : Arguments) (line : ℕ) (d : Drawing) →
      drawn entries w (step operation arguments line) (fresh d)
      ≡ stepped entries w operation (site_of w operation arguments line) (drawn_all entries w arguments (fresh d))
  unfolding drawn drawn_all fresh
  step-fresh w operation arguments line d =
      let k = length d.points in
      let s = length d.sites in
      sym (then-stepped entries w operation arguments line (points_all w arguments k s d.froms) (exits_all w.returns arguments k d.froms)
      (fetched_all arguments s) (occurring_all w.params arguments) d (k + sizes arguments) (s + accesses_all arguments)
      (occurring_all w.params arguments ++ occurring_by w.params operation) (runs_all w arguments k s d.froms)
      (reads-are (occurring_all w.params arguments) (occurring_by w.params operation)))

  pub drawn-step : (w : Within) (operation : Operation) (arguments : Arguments) (line : ℕ) (d : Drawing) →
      drawn entries w (step operation arguments line) d
      ≡ beside (outer_of d) (stepped entries w operation (site_of w operation arguments line) (drawn_all entries w arguments (fresh d)))
  drawn-step w operation arguments line d =
      drawn-beside entries w (step operation arguments line) d
      ∙ ap (beside (outer_of d)) (step-fresh w operation arguments line d)

  -- ---- chains

  pub links-none : (w : Within) (e : Core) (before : List Linked) (d : Drawing) → drawn_links entries w e before [] d ≡ d
  unfolding drawn_links
  links-none w e before d = refl

  pub links-on : (w : Within) (e : Core) (before : List Linked) (l : Linked) (more : List Linked) (d : Drawing) →
      drawn_links entries w e before (l ∷ more) d
      ≡ drawn_links entries w e (before ++ l ∷ []) more (drawn_link entries w (linked e before) l d)
  unfolding drawn_links
  links-on w e before l more d = refl

  one-link : (w : Within) (e : Core) (l : Linked) (d : Drawing) →
      drawn entries w (linked e (l ∷ [])) (fresh d) ≡ drawn_link entries w e l (drawn entries w e (fresh d))
  unfolding drawn_link
  one-link w e l d =
      step-fresh w l.operation (argument e l.more) l.line d
      ∙ ap (stepped entries w l.operation (site_of w l.operation (argument e l.more) l.line)) (all-on entries w e l.more (fresh d))

  links-from : (w : Within) (e : Core) (before more : List Linked) (d : Drawing) →
      drawn entries w (linked e (before ++ more)) (fresh d)
      ≡ drawn_links entries w e before more (drawn entries w (linked e before) (fresh d))
  unfolding drawn_links
  links-from w e before [] d = ap (λ all. drawn entries w (linked e all) (fresh d)) (append-nil before)
  links-from w e before (l ∷ more) d =
      ap (λ all. drawn entries w (linked e all) (fresh d)) (sym (append_assoc before (l ∷ []) more))
      ∙ links-from w e (before ++ l ∷ []) more d
      ∙ ap (drawn_links entries w e (before ++ l ∷ []) more)
      (ap (λ x. drawn entries w x (fresh d)) (linked-more e before l) ∙ one-link w (linked e before) l d)

  pub drawn-linked : (w : Within) (e : Core) (all : List Linked) (d : Drawing) →
      drawn entries w (linked e all) d ≡ beside (outer_of d) (drawn_links entries w e [] all (drawn entries w e (fresh d)))
  drawn-linked w e all d = drawn-beside entries w (linked e all) d ∙ ap (beside (outer_of d)) (links-from w e [] all d)

  -- ---- tests

  -- the points of a test
  abbrev pub test_points : Within → Core → (k s : ℕ) → (froms : List ℕ) → List Placed
  test_points w e k s froms = points w e k s froms ++ test_at w e k s froms ∷ []

  pub test_runs : (w : Within) (e : Core) (k s : ℕ) (froms : List ℕ)
      → Runs (test_points w e k s froms) k s (k + size e + 1) (s + accesses e)
  test_runs w e k s froms =
      joined (points w e k s froms) (test_at w e k s froms ∷ []) k s (k + size e) (s + accesses e) _ _ (runs w e k s froms)
      (refl, tt, (refl, omega arith))

  pub test_point-is : (w : Within) (e : Core) (d : Drawing) → test_point entries w e d ≡ length d.points + size e
  unfolding test_point drawn fresh
  test_point-is w e d =
      points_behind entries (points w e (length d.points) (length d.sites) d.froms) _ _ _ (fresh d) _ (length d.sites + accesses e)
      (runs w e (length d.points) (length d.sites) d.froms)

  passed-as : (w : Within) (e : Core) (d : Drawing) (t : ℕ) → length (drawn entries w e (fresh d)).points ≡ t →
      beside (outer_of d) (passed w.function Plain None (drawn entries w e (fresh d)))
      ≡ Drawing_at
      ((drawn entries w e (fresh d)).points ++
      record { kind = Plain; function = w.function; takes = fetched e (length d.sites); reads = noted (occurring w.params e) []; writes = None } ∷ [])
      ((drawn entries w e (fresh d)).edges ++ map (λ from. edge from t) (exits w.returns e (length d.points) d.froms))
      (drawn entries w e (fresh d)).sites (t ∷ []) (d.takes ++ []) (noted (noted (occurring w.params e) []) d.occurs)
  unfolding beside outer_of passed drawn with_points fresh
  passed-as w e d t h =
      ap (λ i. Drawing_at
      ((drawn entries w e (fresh d)).points ++
      record { kind = Plain; function = w.function; takes = fetched e (length d.sites); reads = noted (occurring w.params e) []; writes = None } ∷ [])
      ((drawn entries w e (fresh d)).edges ++ map (λ from. edge from i) (exits w.returns e (length d.points) d.froms))
      (drawn entries w e (fresh d)).sites (i ∷ []) (d.takes ++ []) (noted (noted (occurring w.params e) []) d.occurs)) h

  pub tested-is : (w : Within) (e : Core) (d : Drawing) →
      tested entries w e d
      ≡ with_points entries (test_points w e (length d.points) (length d.sites) d.froms) ((length d.points + size e) ∷ []) []
      (occurring w.params e) d
  unfolding tested drawn with_points fresh test_point
  tested-is w e d =
      let k = length d.points in
      let s = length d.sites in
      let ps = points w e k s d.froms in
      let own : Placed = test_at w e k s d.froms in
      passed-as w e d (k + size e) (test_point-is w e d)
      ∙ drawing_same _ _ _ _ _ _ _ _ _ _ _ _
      (ap (λ rs. (d.points ++ map (λ p. p.point) ps) ++ record own.point { reads = rs } ∷ []) (noted-rising (occurring w.params e))
      ∙ append_assoc d.points (map (λ p. p.point) ps) (own.point ∷ [])
      ∙ ap (λ xs. d.points ++ xs) (sym (map-append (λ (p : Placed). p.point) ps (own ∷ []))))
      (append_assoc d.edges (flat_map (edges_by entries) ps) (map (λ from. edge from (k + size e)) (exits w.returns e k d.froms))
      ∙ ap (λ xs. d.edges ++ (flat_map (edges_by entries) ps ++ xs)) (sym (append-nil (map (λ from. edge from (k + size e)) (exits w.returns e k d.froms)))
      ∙ sym (append-nil (edges_by entries own)))
      ∙ ap (λ xs. d.edges ++ xs) (sym (flat_map-append (edges_by entries) ps (own ∷ []))))
      (ap (λ xs. d.sites ++ xs) (sym (append-nil (filter_map (λ p. p.site) ps)) ∙ sym (filter_map-append (λ (p : Placed). p.site) ps (own ∷ []))))
      refl refl (noted-anew (occurring w.params e) d.occurs)

  -- ---- choices

  turned-is : (t : ℕ) (ps : List Placed) (f tk oc : List ℕ) (d : Drawing) →
      turned t (with_points entries ps f tk oc d) ≡ with_points entries ps (t ∷ []) tk oc d
  unfolding turned with_points
  turned-is t ps f tk oc d = refl

  met-is : (ways : List ℕ) (ps : List Placed) (f tk oc : List ℕ) (d : Drawing) →
      met ways (with_points entries ps f tk oc d) ≡ with_points entries ps (ways ++ f) tk oc d
  unfolding met with_points
  met-is ways ps f tk oc d = refl

  froms-are : (ps : List Placed) (f tk oc : List ℕ) (d : Drawing) → (with_points entries ps f tk oc d).froms ≡ f
  unfolding with_points
  froms-are ps f tk oc d = refl

  abbrev met_behind : Within → (off : Core) → (t : ℕ) → Drawing → Drawing
  met_behind w off t d = met d.froms (drawn entries w off (turned t d))

  choice-is : (w : Within) (of_pointer : Bool) (test on off : Core) (d : Drawing) →
      let k = length d.points in
      let s = length d.sites in
      let t = k + size test in
      let s' = s + accesses test in
      drawn entries w (choice of_pointer test on off) d
      ≡ with_points entries ((points w test k s d.froms ++ (test_at w test k s d.froms ∷ points w on (t + 1) s' (t ∷ []))) ++
      points w off (t + 1 + size on) (s' + accesses on) (t ∷ []))
      (exits w.returns on (t + 1) (t ∷ []) ++ exits w.returns off (t + 1 + size on) (t ∷ []))
      (fetched on s' ++ fetched off (s' + accesses on))
      ((occurring w.params test ++ occurring w.params on) ++ occurring w.params off) d
  unfolding drawn
  choice-is w of_pointer test on off d = refl

  pub drawn-choice : (w : Within) (of_pointer : Bool) (test on off : Core) (d : Drawing) →
      drawn entries w (choice of_pointer test on off) d
      ≡ met (drawn entries w on (tested entries w test d)).froms
      (drawn entries w off (turned (test_point entries w test d) (drawn entries w on (tested entries w test d))))
  drawn-choice w of_pointer test on off d =
      let k = length d.points in
      let s = length d.sites in
      let t = k + size test in
      let s' = s + accesses test in
      let tests = test_points w test k s d.froms in
      let ons = points w on (t + 1) s' (t ∷ []) in
      let offs = points w off (t + 1 + size on) (s' + accesses on) (t ∷ []) in
      let ex = exits w.returns on (t + 1) (t ∷ []) in
      let tk = fetched on s' in
      let oc = occurring w.params test ++ occurring w.params on in
      let after_on : drawn entries w on (tested entries w test d) ≡ with_points entries (tests ++ ons) ex tk oc d =
      ap (drawn entries w on) (tested-is w test d)
      ∙ then-drawn entries w on tests (t ∷ []) [] (occurring w.params test) d (t + 1) s' (test_runs w test k s d.froms) in
      let all_run : Runs (tests ++ ons) k s (t + 1 + size on) (s' + accesses on) =
      joined tests ons k s (t + 1) s' _ _ (test_runs w test k s d.froms) (runs w on (t + 1) s' (t ∷ [])) in
      choice-is w of_pointer test on off d
      ∙ grown-same entries _ _ _ _ _ d (ap (λ xs. xs ++ offs) (sym (append_assoc (points w test k s d.froms) (test_at w test k s d.froms ∷ []) ons)))
      ∙ sym (met-is ex ((tests ++ ons) ++ offs) (exits w.returns off (t + 1 + size on) (t ∷ [])) (tk ++ fetched off (s' + accesses on))
      (oc ++ occurring w.params off) d)
      ∙ sym (ap (met ex) (then-drawn entries w off (tests ++ ons) (t ∷ []) tk oc d (t + 1 + size on) (s' + accesses on) all_run))
      ∙ sym (ap (λ x. met ex (drawn entries w off x)) (turned-is t (tests ++ ons) ex tk oc d))
      ∙ sym (ap (λ fs. met fs (drawn entries w off (turned t (with_points entries (tests ++ ons) ex tk oc d)))) (froms-are (tests ++ ons) ex tk oc d))
      ∙ sym (ap (met_behind w off t) after_on)
      ∙ ap (λ i. met_behind w off i (drawn entries w on (tested entries w test d))) (sym (test_point-is w test d))
