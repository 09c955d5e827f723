-- Updates as they are drawn.
use Rattle.std.proofs.Common.{◌≡◌, refl, sym, ap, ◌∙◌, ℕ, suc, ◌+◌, List, [], ◌∷◌, ◌++◌, length, Option, Some, None, append_assoc}
use Rattle.std.specs.Prelude.{ltb}
use Rattle.std.proofs.lemmas.List.{append-nil}
use Rattle.sc_core.specs.declared.operation.Operation.{Operation}
use Rattle.sc_core.specs.declared.operation.Operation.TheVariants as does
use Rattle.sc_core.specs.Core.{Core, update, Arguments, none, argument}
use Rattle.sc_core.specs.Forms.{form_of}
use Rattle.sc_meaning.specs.Points.{size}
use Rattle.site_graph.specs.declared.site.Form.TheVariants.{Exposed}
use Rattle.site_graph.specs.Rising.{rising}
use Rattle.flow_form.specs.declared.scan.Entry.{Entry}
use Rattle.flow_form.specs.Within.{Within, Placed}
use Rattle.flow_form.specs.Accesses.{accesses, accesses_by}
use Rattle.flow_form.specs.Forms.{form_by}
use Rattle.flow_form.specs.Occurring.{mark, occurring, occurring_by, occurring_back}
use Rattle.flow_form.specs.Exits.{fetched, fetched_by, fetched_back, behind, behind_back, exits}
use Rattle.flow_form.specs.Steps.{kind_of, callee_of, site_of, step_at}
use Rattle.flow_form.specs.Expressions.{points, points_back}
use Rattle.flow_form.proofs.Run.{IsCounted, one_site, Runs, joined, runs}
use Rattle.flow_draw.specs.declared.drawing.Drawing.{Drawing}
use Rattle.flow_draw.specs.Noted.{noted}
use Rattle.flow_draw.specs.Drawn.{with_points, drawn}
use Rattle.flow_draw.specs.Drawings as does_draw
use Rattle.flow_draw.specs.Drawings.{fresh, outer_of, beside, noting, taking_first, stepped, site_by, put, backed}
use Rattle.flow_draw.proofs.Noting.{noted-append, noted-rising, noted-swap, noted-again}
use Rattle.flow_draw.proofs.Grown.{grown-same, then-drawn, then-stepped, then-noting, drawn-beside}
use Rattle.flow_draw.proofs.Chained.{reads-are}

-- ---- single steps

step_counted : (w : Within) (operation : Operation) (arguments : Arguments) (line s : ℕ)
    → IsCounted s (site_of w operation arguments line) (kind_of operation (suc s))
step_counted w does.Read arguments line s = refl
step_counted w does.Write arguments line s = refl
step_counted w (does.Call f n) arguments line s = tt
step_counted w operation arguments line s = tt

step_sites : (w : Within) (operation : Operation) (arguments : Arguments) (line : ℕ)
    → one_site (site_of w operation arguments line) ≡ accesses_by operation
step_sites w does.Read arguments line = refl
step_sites w does.Write arguments line = refl
step_sites w operation arguments line = refl

-- from where it is entered, and what it takes and reads, says nothing of numbers
step_runs : (w : Within) (operation : Operation) (arguments : Arguments) (line t s : ℕ)
    → Runs (step_at w operation arguments line t s [] [] [] ∷ []) t s (t + 1) (s + accesses_by operation)
step_runs w operation arguments line t s =
    (refl, step_counted w operation arguments line s, (refl, ap (λ n. s + n) (step_sites w operation arguments line)))

bare_site : (w : Within) (operation : Operation) (line : ℕ) → site_by operation line Exposed ≡ site_of w operation none line
bare_site w does.Read line = refl
bare_site w does.Write line = refl
bare_site w operation line = refl

-- ---- what occurs

-- what is noted twice, of which other numbers may be noted in between
twice : (x by back : List ℕ) → noted by (noted ((x ++ by) ++ back) []) ≡ noted ((x ++ by) ++ back) []
twice x by back =
    let e : noted ((x ++ by) ++ back) [] ≡ noted back (noted by (noted x [])) =
    noted-append (x ++ by) back [] ∙ ap (noted back) (noted-append x by []) in
    ap (noted by) e ∙ noted-swap by back (noted by (noted x [])) ∙ ap (noted back) (noted-again by (noted x [])) ∙ sym e

read_twice : (x by back : List ℕ) → rising ltb ((x ++ by) ++ back) ≡ noted by (noted ((x ++ by) ++ back) [])
read_twice x by back = sym (noted-rising ((x ++ by) ++ back)) ∙ sym (twice x by back)

-- behind the joining step
noted_joined : (x by back : List ℕ) → noted ((((x ++ by) ++ back) ++ by) ++ []) [] ≡ noted ((x ++ by) ++ back) []
noted_joined x by back =
    ap (λ xs. noted xs []) (append-nil (((x ++ by) ++ back) ++ by)) ∙ noted-append ((x ++ by) ++ back) by [] ∙ twice x by back

read_joined : (x by back : List ℕ) → rising ltb ((x ++ by) ++ back) ≡ noted [] (noted (((x ++ by) ++ back) ++ by) [])
unfolding noted
read_joined x by back = read_twice x by back ∙ sym (noted-append ((x ++ by) ++ back) by [])

-- behind the step that takes back
noted_back : (x by back : List ℕ) → noted back (noted ((((x ++ by) ++ back) ++ by) ++ []) []) ≡ noted ((x ++ by) ++ back) []
noted_back x by back =
    let e : noted ((x ++ by) ++ back) [] ≡ noted back (noted (x ++ by) []) = noted-append (x ++ by) back [] in
    ap (noted back) (noted_joined x by back ∙ e) ∙ noted-again back (noted (x ++ by) []) ∙ sym e

read_back : (x by back : List ℕ) → rising ltb ((x ++ by) ++ back) ≡ noted back (noted ((((x ++ by) ++ back) ++ by) ++ []) [])
read_back x by back = sym (noted-rising ((x ++ by) ++ back)) ∙ sym (noted_back x by back)

regroup : {A : Type 0} (ps : List A) (r : A) (rs : List A) (j v : A) (bs : List A) →
    (ps ++ (r ∷ rs)) ++ (j ∷ v ∷ bs) ≡ ((((ps ++ r ∷ []) ++ rs) ++ j ∷ []) ++ v ∷ []) ++ bs
regroup ps r rs j v bs = simp append_assoc

module _ (entries : List Entry) where
  occurs_same : (ps : List Placed) (f tk a b : List ℕ) (d : Drawing) → noted a [] ≡ noted b []
      → with_points entries ps f tk a (fresh d) ≡ with_points entries ps f tk b (fresh d)
  unfolding with_points fresh
  occurs_same ps f tk a b d e = ap (λ xs. record (with_points entries ps f tk a (fresh d)) { occurs = xs }) e

  then_taking : (ps : List Placed) (f tk oc sites : List ℕ) (d : Drawing) →
      taking_first sites (with_points entries ps f tk oc (fresh d)) ≡ with_points entries ps f (sites ++ tk) oc (fresh d)
  unfolding taking_first with_points fresh
  then_taking ps f tk oc sites d = refl

  takes_are : (w : Within) (pointer : Core) (d : Drawing) → (drawn entries w pointer (fresh d)).takes ≡ fetched pointer (length d.sites)
  unfolding drawn with_points fresh
  takes_are w pointer d = refl

  -- an update up to its write, and from there on
  abbrev pub up_to_write : Within → (pointer : Core) → Operation → (right : Core) → Option Operation → (line : ℕ) → Drawing → Drawing
  up_to_write w pointer operation right back line d =
      let form = form_by w (form_of pointer) in
      let x = drawn entries w pointer (fresh d) in
      put entries w x.takes form line
      (does_draw.joined entries w operation back line (drawn entries w right (stepped entries w does.Read (site_by does.Read line form) x)))

  abbrev points_to_write : Within → (pointer : Core) → Operation → (right : Core) → Option Operation → (line k s : ℕ) → (froms : List ℕ) → List Placed
  points_to_write w pointer operation right back line k s froms =
      let t = k + size pointer in
      let u = t + 1 + size right in
      let read = s + accesses pointer in
      let join = read + 1 + accesses right in
      let write = join + accesses_by operation in
      let place = argument pointer none in
      let reads = occurring w.params (update pointer operation right back line) in
      (((points w pointer k s froms ++
      step_at w does.Read place line t read (exits w.returns pointer k froms) (fetched pointer s) (occurring w.params pointer ++ mark) ∷ []) ++
      points w right (t + 1) (read + 1) (t ∷ [])) ++
      step_at w operation none line u join (exits w.returns right (t + 1) (t ∷ [])) (suc read ∷ fetched right (read + 1)) reads ∷ []) ++
      step_at w does.Write place line (u + 1) write (behind w.returns (callee_of operation) u)
      (fetched pointer s ++ fetched_by operation join) reads ∷ []

  written-is : (w : Within) (pointer : Core) (operation : Operation) (right : Core) (back : Option Operation) (line : ℕ) (d : Drawing) →
      let k = length d.points in
      let s = length d.sites in
      let u = k + size pointer + 1 + size right in
      let by = occurring_by w.params operation in
      up_to_write w pointer operation right back line d
      ≡ with_points entries (points_to_write w pointer operation right back line k s d.froms) ((u + 1) ∷ []) []
      ((occurring w.params (update pointer operation right back line) ++ by) ++ []) (fresh d)
  unfolding does_draw.joined put drawn fresh
  written-is w pointer operation right back line d =
      let k = length d.points in
      let s = length d.sites in
      let t = k + size pointer in
      let u = t + 1 + size right in
      let read = s + accesses pointer in
      let join = read + 1 + accesses right in
      let write = join + accesses_by operation in
      let place = argument pointer none in
      let by = occurring_by w.params operation in
      let o_back = occurring_back w.params back in
      let o_right = (occurring w.params pointer ++ mark) ++ occurring w.params right in
      let all = (o_right ++ by) ++ o_back in
      let f_right = exits w.returns right (t + 1) (t ∷ []) in
      let tk_right = suc read ∷ fetched right (read + 1) in
      let l1 = points w pointer k s d.froms in
      let reading = step_at w does.Read place line t read (exits w.returns pointer k d.froms) (fetched pointer s) (occurring w.params pointer ++ mark) in
      let l2 = l1 ++ reading ∷ [] in
      let l3 = l2 ++ points w right (t + 1) (read + 1) (t ∷ []) in
      let joining = step_at w operation none line u join f_right tk_right all in
      let l4 = l3 ++ joining ∷ [] in
      let r1 : Runs l1 k s t read = runs w pointer k s d.froms in
      let r2 : Runs l2 k s (t + 1) (read + 1) = joined l1 (reading ∷ []) k s t read _ _ r1 (step_runs w does.Read place line t read) in
      let r3 : Runs l3 k s u join = joined l2 _ k s _ _ _ _ r2 (runs w right (t + 1) (read + 1) (t ∷ [])) in
      let r4 : Runs l4 k s (u + 1) write = joined l3 (joining ∷ []) k s u join _ _ r3 (step_runs w operation none line u join) in
      let after_join : Drawing → Drawing = λ x. put entries w (fetched pointer s) (form_by w (form_of pointer)) line x in
      let joins : Drawing → Drawing = λ x. does_draw.joined entries w operation back line x in
      ap (λ tk. put entries w tk (form_by w (form_of pointer)) line (joins (drawn entries w right
      (stepped entries w does.Read (site_by does.Read line (form_by w (form_of pointer))) (drawn entries w pointer (fresh d))))))
      (takes_are w pointer d)
      ∙ ap (λ x. after_join (joins (drawn entries w right x)))
      (then-stepped entries w does.Read place line l1 (exits w.returns pointer k d.froms) (fetched pointer s) (occurring w.params pointer) d t read
      (occurring w.params pointer ++ mark) r1 (reads-are (occurring w.params pointer) mark))
      ∙ ap (λ x. after_join (joins x))
      (then-drawn entries w right l2 (t ∷ []) (suc read ∷ []) (occurring w.params pointer ++ mark) (fresh d) (t + 1) (read + 1) r2)
      ∙ ap (λ x. after_join (stepped entries w operation (site_by operation line Exposed) (noting o_back x)))
      (then-noting entries l3 f_right tk_right o_right by (fresh d))
      ∙ ap (λ x. after_join (stepped entries w operation (site_by operation line Exposed) x))
      (then-noting entries l3 f_right tk_right (o_right ++ by) o_back (fresh d))
      ∙ ap (λ site. after_join (stepped entries w operation site (with_points entries l3 f_right tk_right all (fresh d)))) (bare_site w operation line)
      ∙ ap after_join (then-stepped entries w operation none line l3 f_right tk_right all d u join all r3 (read_twice o_right by o_back))
      ∙ ap (stepped entries w does.Write (site_by does.Write line (form_by w (form_of pointer))))
      (then_taking l4 (behind w.returns (callee_of operation) u) (fetched_by operation join) (all ++ by) (fetched pointer s) d)
      ∙ then-stepped entries w does.Write place line l4 (behind w.returns (callee_of operation) u) (fetched pointer s ++ fetched_by operation join)
      (all ++ by) d (u + 1) write all r4 (read_joined o_right by o_back)

  -- what takes the old value back
  backs-are : (w : Within) (back : Option Operation) (line : ℕ) (ps : List Placed) (x by : List ℕ) (d : Drawing) (t s : ℕ) (reads : List ℕ)
      → Runs ps (length d.points) (length d.sites) (t + 1) s → reads ≡ (x ++ by) ++ occurring_back w.params back →
      backed entries w back line (with_points entries ps (t ∷ []) [] ((((x ++ by) ++ occurring_back w.params back) ++ by) ++ []) (fresh d))
      ≡ with_points entries (ps ++ points_back w back line t s reads) (behind_back w.returns back t) (fetched_back back s)
      ((x ++ by) ++ occurring_back w.params back) (fresh d)
  unfolding backed
  backs-are w None line ps x by d t s reads h e =
      grown-same entries ps (ps ++ []) (t ∷ []) [] ((((x ++ by) ++ []) ++ by) ++ []) (fresh d) (sym (append-nil ps))
      ∙ occurs_same (ps ++ []) (t ∷ []) [] ((((x ++ by) ++ []) ++ by) ++ []) ((x ++ by) ++ []) d (noted_joined x by [])
  backs-are w (Some operation) line ps x by d t s reads h e =
      let back = occurring_by w.params operation in
      let all = (x ++ by) ++ back in
      let put_all = (all ++ by) ++ [] in
      let state = with_points entries ps (t ∷ []) [] put_all (fresh d) in
      ap (λ site. stepped entries w operation site state) (bare_site w operation line)
      ∙ then-stepped entries w operation none line ps (t ∷ []) [] put_all d (t + 1) s reads h
      (ap (rising ltb) e ∙ read_back x by back)
      ∙ occurs_same (ps ++ step_at w operation none line (t + 1) s (t ∷ []) [] reads ∷ []) (behind w.returns (callee_of operation) (t + 1))
      (fetched_by operation s) (put_all ++ back) all d (noted-append put_all back [] ∙ noted_back x by back)

  update-is : (w : Within) (pointer : Core) (operation : Operation) (right : Core) (back : Option Operation) (line : ℕ) (d : Drawing) →
      let k = length d.points in
      let s = length d.sites in
      let u = k + size pointer + 1 + size right in
      let write = s + accesses pointer + 1 + accesses right + accesses_by operation in
      let all = occurring w.params (update pointer operation right back line) in
      drawn entries w (update pointer operation right back line) (fresh d)
      ≡ with_points entries (points_to_write w pointer operation right back line k s d.froms ++ points_back w back line (u + 1) (write + 1) all)
      (behind_back w.returns back (u + 1)) (fetched_back back (write + 1)) all (fresh d)
  unfolding drawn fresh
  update-is w pointer operation right back line d =
      let k = length d.points in
      let s = length d.sites in
      let t = k + size pointer in
      let u = t + 1 + size right in
      let read = s + accesses pointer in
      let join = read + 1 + accesses right in
      let write = join + accesses_by operation in
      let place = argument pointer none in
      let all = occurring w.params (update pointer operation right back line) in
      grown-same entries _ _ _ _ _ (fresh d)
      (regroup (points w pointer k s d.froms)
      (step_at w does.Read place line t read (exits w.returns pointer k d.froms) (fetched pointer s) (occurring w.params pointer ++ mark))
      (points w right (t + 1) (read + 1) (t ∷ []))
      (step_at w operation none line u join (exits w.returns right (t + 1) (t ∷ [])) (suc read ∷ fetched right (read + 1)) all)
      (step_at w does.Write place line (u + 1) write (behind w.returns (callee_of operation) u) (fetched pointer s ++ fetched_by operation join) all)
      (points_back w back line (u + 1) (write + 1) all))

  runs-to-write : (w : Within) (pointer : Core) (operation : Operation) (right : Core) (back : Option Operation) (line k s : ℕ) (froms : List ℕ) →
      Runs (points_to_write w pointer operation right back line k s froms) k s (k + size pointer + 1 + size right + 1 + 1)
      (s + accesses pointer + 1 + accesses right + accesses_by operation + 1)
  runs-to-write w pointer operation right back line k s froms =
      let t = k + size pointer in
      let u = t + 1 + size right in
      let read = s + accesses pointer in
      let join = read + 1 + accesses right in
      let write = join + accesses_by operation in
      let place = argument pointer none in
      joined _ _ k s (u + 1) write _ _
      (joined _ _ k s u join _ _
      (joined _ _ k s (t + 1) (read + 1) _ _
      (joined (points w pointer k s froms) _ k s t read _ _ (runs w pointer k s froms) (step_runs w does.Read place line t read))
      (runs w right (t + 1) (read + 1) (t ∷ [])))
      (step_runs w operation none line u join))
      (step_runs w does.Write place line (u + 1) write)

  pub drawn-update : (w : Within) (pointer : Core) (operation : Operation) (right : Core) (back : Option Operation) (line : ℕ) (d : Drawing) →
      drawn entries w (update pointer operation right back line) d
      ≡ beside (outer_of d) (backed entries w back line (up_to_write w pointer operation right back line d))
  drawn-update w pointer operation right back line d =
      let k = length d.points in
      let s = length d.sites in
      let u = k + size pointer + 1 + size right in
      let write = s + accesses pointer + 1 + accesses right + accesses_by operation in
      let by = occurring_by w.params operation in
      let o_right = (occurring w.params pointer ++ mark) ++ occurring w.params right in
      let all = occurring w.params (update pointer operation right back line) in
      drawn-beside entries w (update pointer operation right back line) d
      ∙ ap (beside (outer_of d))
      (update-is w pointer operation right back line d
      ∙ sym (backs-are w back line (points_to_write w pointer operation right back line k s d.froms) o_right by d (u + 1) (write + 1) all
      (runs-to-write w pointer operation right back line k s d.froms) refl)
      ∙ sym (ap (backed entries w back line) (written-is w pointer operation right back line d)))

-- the site of a step whose first argument is the place
pub site-at : (w : Within) (operation : Operation) (place : Core) (more : Arguments) (line : ℕ) →
    site_by operation line (form_by w (form_of place)) ≡ site_of w operation (argument place more) line
site-at w does.Read place more line = refl
site-at w does.Write place more line = refl
site-at w operation place more line = refl

pub site-none : (w : Within) (operation : Operation) (line : ℕ) → site_by operation line Exposed ≡ site_of w operation none line
site-none w operation line = bare_site w operation line
