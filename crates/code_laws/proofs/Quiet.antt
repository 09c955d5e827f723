-- Evaluation goes on from points that call nothing: behind a call it goes on from where the function returns.
use Rattle.std.proofs.Common.{◌≡◌, ℕ, suc, ◌+◌, List, [], ◌∷◌, ◌++◌, Option, Some, None, slice_get, refl, subst}
use Rattle.std.specs.Option.{option_map_or}
use Rattle.sc_layout.specs.Layout.{Arrangement}
use Rattle.sc_core.specs.declared.operation.Operation.{Operation}
use Rattle.sc_core.specs.declared.operation.Operation.TheVariants as op
use Rattle.sc_core.specs.Core.{Core, constant, step, choice, update, Arguments, none, argument, Does, nothing, break, continue, then_, act, choose, loop, return, Function, Program}
use Rattle.sc_meaning.specs.Points.{size, sizes, size_of, first_point}
use Rattle.site_graph.specs.declared.point.PointKind.TheVariants.{Plain}
use Rattle.flow_form.specs.Within.{Within, Placed}
use Rattle.flow_form.specs.Accesses.{accesses, accesses_all, accesses_by, accesses_in}
use Rattle.flow_form.specs.Occurring.{mark, occurring, occurring_all, occurring_by}
use Rattle.flow_form.specs.Exits.{behind, behind_back, exits, exits_all, fetched, fetched_all, fetched_by, Left, leaves, returns_in}
use Rattle.flow_form.specs.Steps.{callee_of, bare, step_at}
use Rattle.flow_form.specs.Expressions.{points, points_all, points_back, test_at}
use Rattle.flow_form.specs.Statements.{points_in, points_of, returns_of, end_of, in_loop}
use Rattle.flow_form.specs.FlowOf.{returns}
use Rattle.flow_form.proofs.Rises.{Each, each_append}
use Rattle.emit_laws.proofs.FunctionCodes.{sites_before}
use Rattle.flow_laws.proofs.Passing.{each_left, each_right}
use Rattle.code_laws.proofs.Compiled.{callee_at}
use Rattle.code_laws.proofs.Bodies.{all, Is, Has, its_callee, view, body_of, all_hold}

module _ (layout : Arrangement) (program : Program) where
  abbrev pub Quiet : ℕ → Type 0
  Quiet t = callee_at layout program t ≡ None

  abbrev Quiets : List ℕ → Type 0
  Quiets froms = Each Quiet froms

  abbrev H : Placed → Type 0
  H = Has layout program

  -- it is entered from such points
  abbrev pub Enters : Placed → Type 0
  Enters p = Quiets p.froms

  abbrev Own : Placed → Type 0
  Own p = Is layout program p

  own : (p : Placed) → Own p → p.callee ≡ None → Quiet p.at
  own p i e = subst (λ o. callee_at layout program p.at ≡ o) e (its_callee layout program p i)

  -- ---- where a function returns

  returns_quiet : (w : Within) (d : Does) (k s : ℕ) (froms : List ℕ) → Each H (points_in w d k s froms) → Quiets (returns_in d k)
  returns_quiet w nothing k s froms h = tt
  returns_quiet w break k s froms h = tt
  returns_quiet w continue k s froms h = tt
  returns_quiet w (act action arguments line) k s froms h = tt
  returns_quiet w (then_ first second) k s froms h =
      let firsts = points_in w first k s froms in
      each_append Quiet (returns_in first k) _ (returns_quiet w first k s froms (each_left H firsts _ h))
      (returns_quiet w second (k + size_of first) (s + accesses_in first) (leaves w.returns first k froms).falls (each_right H firsts _ h))
  returns_quiet w (choose of_pointer test on off) k s froms h =
      let t = k + size test in
      let s' = s + accesses test in
      let tests = points w test k s froms in
      let ons = points_in w on (t + 1) s' (t ∷ []) in
      let offs = points_in w off (t + 1 + size_of on) (s' + accesses_in on) (t ∷ []) in
      let f_front = each_left H (tests ++ test_at w test k s froms ∷ ons) offs h in
      each_append Quiet (returns_in on (t + 1)) _
      (returns_quiet w on (t + 1) s' (t ∷ []) (each_right H tests (test_at w test k s froms ∷ ons) f_front).1)
      (returns_quiet w off (t + 1 + size_of on) (s' + accesses_in on) (t ∷ []) (each_right H (tests ++ test_at w test k s froms ∷ ons) offs h))
  returns_quiet w (loop mine before body after) k s froms h =
      let t = k + size_of before in
      let u = t + 1 + size_of body in
      let s' = s + accesses_in before in
      let w' = in_loop w mine before body in
      let b = leaves w.returns body (t + 1) (t ∷ []) in
      let into_after = b.falls ++ b.continues in
      let into_before = froms ++ (leaves w.returns after u into_after).falls in
      let befores = points_in w before k s into_before in
      let turning = bare w Plain t (leaves w.returns before k into_before).falls [] [] in
      let bodies = points_in w' body (t + 1) s' (t ∷ []) in
      let afters = points_in w after u (s' + accesses_in body) into_after in
      let f_front = each_left H (befores ++ turning ∷ bodies) afters h in
      each_append Quiet (returns_in before k ++ returns_in body (t + 1)) (returns_in after u)
      (each_append Quiet (returns_in before k) (returns_in body (t + 1))
      (returns_quiet w before k s into_before (each_left H befores (turning ∷ bodies) f_front))
      (returns_quiet w' body (t + 1) s' (t ∷ []) (each_right H befores (turning ∷ bodies) f_front).1))
      (returns_quiet w after u (s' + accesses_in body) into_after (each_right H (befores ++ turning ∷ bodies) afters h))
  returns_quiet w (return e line) k s froms h =
      (own _ (each_right H (points w e k s froms) _ h).0.0 refl, tt)

  few_by : (f : ℕ) (o : Option Function) → slice_get program.functions f ≡ o
      → Quiets (option_map_or (λ (g : Function). returns_of g (first_point program.functions f)) o [])
  few_by f None e = tt
  few_by f (Some g) e =
      let k = first_point program.functions f in
      let b = body_of layout program f g e in
      each_append Quiet (returns_in g.body (k + 1)) (end_of g k ∷ [])
      (returns_quiet (view layout program f g) g.body (k + 1) (sites_before 0 program.functions f) (k ∷ []) b.body) (own _ b.last.0 refl, tt)

  pub few : (f : ℕ) → Quiets (returns program.functions f)
  few f = few_by f (slice_get program.functions f) refl

  -- ---- where evaluation goes on, and from where points are entered

  module _ (w : Within) (same : (f : ℕ) → Quiets (w.returns f)) where
    behind_quiet : (callee : Option ℕ) (t : ℕ) → callee_at layout program t ≡ callee → Quiets (behind w.returns callee t)
    behind_quiet None t e = (e, tt)
    behind_quiet (Some f) t e = same f

    step_quiet : (operation : Operation) (arguments : Arguments) (line t s : ℕ) (froms takes reads : List ℕ)
        → H (step_at w operation arguments line t s froms takes reads) → Quiets (behind w.returns (callee_of operation) t)
    step_quiet operation arguments line t s froms takes reads h =
        behind_quiet (callee_of operation) t (its_callee layout program (step_at w operation arguments line t s froms takes reads) h.0)

    back_quiet : (undo : Option Operation) (line t s : ℕ) (reads : List ℕ) → Each H (points_back w undo line t s reads) → Quiet t
        → Quiets (behind_back w.returns undo t)
    back_quiet None line t s reads h q = (q, tt)
    back_quiet (Some operation) line t s reads h q = step_quiet operation none line (t + 1) s (t ∷ []) [] reads h.0

    back_enters : (undo : Option Operation) (line t s : ℕ) (reads : List ℕ) → Quiet t → Each Enters (points_back w undo line t s reads)
    back_enters None line t s reads q = tt
    back_enters (Some operation) line t s reads q = ((q, tt), tt)

    mutual
      exits_quiet : (e : Core) (k s : ℕ) (froms : List ℕ) → Each H (points w e k s froms) → Quiets froms → Quiets (exits w.returns e k froms)
      exits_quiet (constant c) k s froms h q = q
      exits_quiet (step operation arguments line) k s froms h q =
          step_quiet operation arguments line (k + sizes arguments) (s + accesses_all arguments) (exits_all w.returns arguments k froms)
          (fetched_all arguments s) (occurring_all w.params arguments ++ occurring_by w.params operation)
          (each_right H (points_all w arguments k s froms) _ h).0
      exits_quiet (choice of_pointer test on off) k s froms h q =
          let t = k + size test in
          let s' = s + accesses test in
          let tests = points w test k s froms in
          let ons = points w on (t + 1) s' (t ∷ []) in
          let offs = points w off (t + 1 + size on) (s' + accesses on) (t ∷ []) in
          let f_front = each_left H (tests ++ test_at w test k s froms ∷ ons) offs h in
          let f_own = each_right H tests (test_at w test k s froms ∷ ons) f_front in
          let one : Quiets (t ∷ []) = (own (test_at w test k s froms) f_own.0.0 refl, tt) in
          each_append Quiet (exits w.returns on (t + 1) (t ∷ [])) _
          (exits_quiet on (t + 1) s' (t ∷ []) f_own.1 one)
          (exits_quiet off (t + 1 + size on) (s' + accesses on) (t ∷ []) (each_right H (tests ++ test_at w test k s froms ∷ ons) offs h) one)
      exits_quiet (update pointer operation right undo line) k s froms h q =
          let t = k + size pointer in
          let u = t + 1 + size right in
          let read = s + accesses pointer in
          let join = read + 1 + accesses right in
          let write = join + accesses_by operation in
          let place = argument pointer none in
          let reads = occurring w.params (update pointer operation right undo line) in
          let before = points w pointer k s froms in
          let reading = step_at w op.Read place line t read (exits w.returns pointer k froms) (fetched pointer s)
          (occurring w.params pointer ++ mark) in
          let rights = points w right (t + 1) (read + 1) (t ∷ []) in
          let joining = step_at w operation none line u join (exits w.returns right (t + 1) (t ∷ []))
          (suc read ∷ fetched right (read + 1)) reads in
          let writing = step_at w op.Write place line (u + 1) write (behind w.returns (callee_of operation) u)
          (fetched pointer s ++ fetched_by operation join) reads in
          let backs = points_back w undo line (u + 1) (write + 1) reads in
          let f_back = each_right H (before ++ reading ∷ rights) (joining ∷ writing ∷ backs) h in
          back_quiet undo line (u + 1) (write + 1) reads f_back.1.1 (own writing f_back.1.0.0 refl)

      exits_all_quiet : (arguments : Arguments) (k s : ℕ) (froms : List ℕ) → Each H (points_all w arguments k s froms) → Quiets froms
          → Quiets (exits_all w.returns arguments k froms)
      exits_all_quiet none k s froms h q = q
      exits_all_quiet (argument e more) k s froms h q =
          let es = points w e k s froms in
          exits_all_quiet more (k + size e) (s + accesses e) (exits w.returns e k froms) (each_right H es _ h)
          (exits_quiet e k s froms (each_left H es _ h) q)

    mutual
      enters : (e : Core) (k s : ℕ) (froms : List ℕ) → Each H (points w e k s froms) → Quiets froms → Each Enters (points w e k s froms)
      enters (constant c) k s froms h q = tt
      enters (step operation arguments line) k s froms h q =
          let alls = points_all w arguments k s froms in
          let front = each_left H alls _ h in
          each_append Enters alls _ (enters_all arguments k s froms front q) (exits_all_quiet arguments k s froms front q, tt)
      enters (choice of_pointer test on off) k s froms h q =
          let t = k + size test in
          let s' = s + accesses test in
          let tests = points w test k s froms in
          let ons = points w on (t + 1) s' (t ∷ []) in
          let offs = points w off (t + 1 + size on) (s' + accesses on) (t ∷ []) in
          let f_front = each_left H (tests ++ test_at w test k s froms ∷ ons) offs h in
          let f_test = each_left H tests (test_at w test k s froms ∷ ons) f_front in
          let f_own = each_right H tests (test_at w test k s froms ∷ ons) f_front in
          let one : Quiets (t ∷ []) = (own (test_at w test k s froms) f_own.0.0 refl, tt) in
          each_append Enters (tests ++ test_at w test k s froms ∷ ons) offs
          (each_append Enters tests (test_at w test k s froms ∷ ons) (enters test k s froms f_test q)
          (exits_quiet test k s froms f_test q, enters on (t + 1) s' (t ∷ []) f_own.1 one))
          (enters off (t + 1 + size on) (s' + accesses on) (t ∷ []) (each_right H (tests ++ test_at w test k s froms ∷ ons) offs h) one)
      enters (update pointer operation right undo line) k s froms h q =
          let t = k + size pointer in
          let u = t + 1 + size right in
          let read = s + accesses pointer in
          let join = read + 1 + accesses right in
          let write = join + accesses_by operation in
          let place = argument pointer none in
          let reads = occurring w.params (update pointer operation right undo line) in
          let before = points w pointer k s froms in
          let reading = step_at w op.Read place line t read (exits w.returns pointer k froms) (fetched pointer s)
          (occurring w.params pointer ++ mark) in
          let rights = points w right (t + 1) (read + 1) (t ∷ []) in
          let joining = step_at w operation none line u join (exits w.returns right (t + 1) (t ∷ []))
          (suc read ∷ fetched right (read + 1)) reads in
          let writing = step_at w op.Write place line (u + 1) write (behind w.returns (callee_of operation) u)
          (fetched pointer s ++ fetched_by operation join) reads in
          let backs = points_back w undo line (u + 1) (write + 1) reads in
          let f_front = each_left H (before ++ reading ∷ rights) (joining ∷ writing ∷ backs) h in
          let f_back = each_right H (before ++ reading ∷ rights) (joining ∷ writing ∷ backs) h in
          let f_pointer = each_left H before (reading ∷ rights) f_front in
          let f_read = each_right H before (reading ∷ rights) f_front in
          let one : Quiets (t ∷ []) = (own reading f_read.0.0 refl, tt) in
          each_append Enters (before ++ reading ∷ rights) (joining ∷ writing ∷ backs)
          (each_append Enters before (reading ∷ rights) (enters pointer k s froms f_pointer q)
          (exits_quiet pointer k s froms f_pointer q, enters right (t + 1) (read + 1) (t ∷ []) f_read.1 one)) (
            exits_quiet right (t + 1) (read + 1) (t ∷ []) f_read.1 one,
            (
              step_quiet operation none line u join (exits w.returns right (t + 1) (t ∷ [])) (suc read ∷ fetched right (read + 1)) reads f_back.0,
              back_enters undo line (u + 1) (write + 1) reads (own writing f_back.1.0.0 refl),
            ),
          )

      enters_all : (arguments : Arguments) (k s : ℕ) (froms : List ℕ) → Each H (points_all w arguments k s froms) → Quiets froms
          → Each Enters (points_all w arguments k s froms)
      enters_all none k s froms h q = tt
      enters_all (argument e more) k s froms h q =
          let es = points w e k s froms in
          each_append Enters es _ (enters e k s froms (each_left H es _ h) q)
          (enters_all more (k + size e) (s + accesses e) (exits w.returns e k froms) (each_right H es _ h)
          (exits_quiet e k s froms (each_left H es _ h) q))

  -- ---- statements

  record LeftQuiet (r : ℕ → List ℕ) (left : Left r) : Type 0 where
    falls : Quiets left.falls
    breaks : Quiets left.breaks
    continues : Quiets left.continues

  leaves_quiet : (w : Within) → ((f : ℕ) → Quiets (w.returns f)) → (d : Does) (k s : ℕ) (froms : List ℕ) → Each H (points_in w d k s froms)
      → Quiets froms → LeftQuiet w.returns (leaves w.returns d k froms)
  leaves_quiet w same nothing k s froms h q = record { falls = q; breaks = tt; continues = tt }
  leaves_quiet w same break k s froms h q = record { falls = tt; breaks = q; continues = tt }
  leaves_quiet w same continue k s froms h q = record { falls = tt; breaks = tt; continues = q }
  leaves_quiet w same (then_ first second) k s froms h q =
      let a = leaves w.returns first k froms in
      let b = leaves w.returns second (k + size_of first) a.falls in
      let firsts = points_in w first k s froms in
      let ha = leaves_quiet w same first k s froms (each_left H firsts _ h) q in
      let hb = leaves_quiet w same second (k + size_of first) (s + accesses_in first) a.falls (each_right H firsts _ h) ha.falls in
      record {
        falls = hb.falls;
        breaks = each_append Quiet a.breaks b.breaks ha.breaks hb.breaks;
        continues = each_append Quiet a.continues b.continues ha.continues hb.continues;
      }
  leaves_quiet w same (act action arguments line) k s froms h q =
      let one : Quiets ((k + sizes arguments) ∷ []) = (own _ (each_right H (points_all w arguments k s froms) _ h).0.0 refl, tt) in
      record { falls = one; breaks = tt; continues = tt }
  leaves_quiet w same (choose of_pointer test on off) k s froms h q =
      let t = k + size test in
      let s' = s + accesses test in
      let tests = points w test k s froms in
      let ons = points_in w on (t + 1) s' (t ∷ []) in
      let offs = points_in w off (t + 1 + size_of on) (s' + accesses_in on) (t ∷ []) in
      let f_front = each_left H (tests ++ test_at w test k s froms ∷ ons) offs h in
      let f_own = each_right H tests (test_at w test k s froms ∷ ons) f_front in
      let one : Quiets (t ∷ []) = (own (test_at w test k s froms) f_own.0.0 refl, tt) in
      let a = leaves w.returns on (t + 1) (t ∷ []) in
      let b = leaves w.returns off (t + 1 + size_of on) (t ∷ []) in
      let ha = leaves_quiet w same on (t + 1) s' (t ∷ []) f_own.1 one in
      let hb = leaves_quiet w same off (t + 1 + size_of on) (s' + accesses_in on) (t ∷ []) (each_right H (tests ++ test_at w test k s froms ∷ ons) offs h) one in
      record {
        falls = each_append Quiet a.falls b.falls ha.falls hb.falls;
        breaks = each_append Quiet a.breaks b.breaks ha.breaks hb.breaks;
        continues = each_append Quiet a.continues b.continues ha.continues hb.continues;
      }
  leaves_quiet w same (loop mine before body after) k s froms h q =
      let t = k + size_of before in
      let u = t + 1 + size_of body in
      let s' = s + accesses_in before in
      let w' = in_loop w mine before body in
      let b = leaves w.returns body (t + 1) (t ∷ []) in
      let into_after = b.falls ++ b.continues in
      let c = leaves w.returns after u into_after in
      let into_before = froms ++ c.falls in
      let a = leaves w.returns before k into_before in
      let befores = points_in w before k s into_before in
      let turning = bare w Plain t a.falls [] [] in
      let bodies = points_in w' body (t + 1) s' (t ∷ []) in
      let afters = points_in w after u (s' + accesses_in body) into_after in
      let f_front = each_left H (befores ++ turning ∷ bodies) afters h in
      let f_after = each_right H (befores ++ turning ∷ bodies) afters h in
      let f_before = each_left H befores (turning ∷ bodies) f_front in
      let f_turn = each_right H befores (turning ∷ bodies) f_front in
      let one : Quiets (t ∷ []) = (own turning f_turn.0.0 refl, tt) in
      let hb = leaves_quiet w' same body (t + 1) s' (t ∷ []) f_turn.1 one in
      let hc = leaves_quiet w same after u (s' + accesses_in body) into_after f_after (each_append Quiet b.falls b.continues hb.falls hb.continues) in
      let ha = leaves_quiet w same before k s into_before f_before (each_append Quiet froms c.falls q hc.falls) in
      record {
        falls = each_append Quiet (a.breaks ++ b.breaks) c.breaks (each_append Quiet a.breaks b.breaks ha.breaks hb.breaks) hc.breaks;
        breaks = tt;
        continues = each_append Quiet a.continues c.continues ha.continues hc.continues;
      }
  leaves_quiet w same (return e line) k s froms h q = record { falls = tt; breaks = tt; continues = tt }

  enters_in : (w : Within) → ((f : ℕ) → Quiets (w.returns f)) → (d : Does) (k s : ℕ) (froms : List ℕ) → Each H (points_in w d k s froms)
      → Quiets froms → Each Enters (points_in w d k s froms)
  enters_in w same nothing k s froms h q = tt
  enters_in w same break k s froms h q = tt
  enters_in w same continue k s froms h q = tt
  enters_in w same (then_ first second) k s froms h q =
      let firsts = points_in w first k s froms in
      let ha = leaves_quiet w same first k s froms (each_left H firsts _ h) q in
      each_append Enters firsts _ (enters_in w same first k s froms (each_left H firsts _ h) q)
      (enters_in w same second (k + size_of first) (s + accesses_in first) (leaves w.returns first k froms).falls (each_right H firsts _ h) ha.falls)
  enters_in w same (act action arguments line) k s froms h q =
      let alls = points_all w arguments k s froms in
      let front = each_left H alls _ h in
      each_append Enters alls _ (enters_all w same arguments k s froms front q) (exits_all_quiet w same arguments k s froms front q, tt)
  enters_in w same (choose of_pointer test on off) k s froms h q =
      let t = k + size test in
      let s' = s + accesses test in
      let tests = points w test k s froms in
      let ons = points_in w on (t + 1) s' (t ∷ []) in
      let offs = points_in w off (t + 1 + size_of on) (s' + accesses_in on) (t ∷ []) in
      let f_front = each_left H (tests ++ test_at w test k s froms ∷ ons) offs h in
      let f_test = each_left H tests (test_at w test k s froms ∷ ons) f_front in
      let f_own = each_right H tests (test_at w test k s froms ∷ ons) f_front in
      let one : Quiets (t ∷ []) = (own (test_at w test k s froms) f_own.0.0 refl, tt) in
      each_append Enters (tests ++ test_at w test k s froms ∷ ons) offs
      (each_append Enters tests (test_at w test k s froms ∷ ons) (enters w same test k s froms f_test q)
      (exits_quiet w same test k s froms f_test q, enters_in w same on (t + 1) s' (t ∷ []) f_own.1 one))
      (enters_in w same off (t + 1 + size_of on) (s' + accesses_in on) (t ∷ []) (each_right H (tests ++ test_at w test k s froms ∷ ons) offs h) one)
  enters_in w same (loop mine before body after) k s froms h q =
      let t = k + size_of before in
      let u = t + 1 + size_of body in
      let s' = s + accesses_in before in
      let w' = in_loop w mine before body in
      let b = leaves w.returns body (t + 1) (t ∷ []) in
      let into_after = b.falls ++ b.continues in
      let c = leaves w.returns after u into_after in
      let into_before = froms ++ c.falls in
      let a = leaves w.returns before k into_before in
      let befores = points_in w before k s into_before in
      let turning = bare w Plain t a.falls [] [] in
      let bodies = points_in w' body (t + 1) s' (t ∷ []) in
      let afters = points_in w after u (s' + accesses_in body) into_after in
      let f_front = each_left H (befores ++ turning ∷ bodies) afters h in
      let f_after = each_right H (befores ++ turning ∷ bodies) afters h in
      let f_before = each_left H befores (turning ∷ bodies) f_front in
      let f_turn = each_right H befores (turning ∷ bodies) f_front in
      let one : Quiets (t ∷ []) = (own turning f_turn.0.0 refl, tt) in
      let hb = leaves_quiet w' same body (t + 1) s' (t ∷ []) f_turn.1 one in
      let q_after = each_append Quiet b.falls b.continues hb.falls hb.continues in
      let hc = leaves_quiet w same after u (s' + accesses_in body) into_after f_after q_after in
      let q_before = each_append Quiet froms c.falls q hc.falls in
      let ha = leaves_quiet w same before k s into_before f_before q_before in
      each_append Enters (befores ++ turning ∷ bodies) afters
      (each_append Enters befores (turning ∷ bodies) (enters_in w same before k s into_before f_before q_before)
      (ha.falls, enters_in w' same body (t + 1) s' (t ∷ []) f_turn.1 one))
      (enters_in w same after u (s' + accesses_in body) into_after f_after q_after)
  enters_in w same (return e line) k s froms h q =
      let es = points w e k s froms in
      let front = each_left H es _ h in
      each_append Enters es _ (enters w same e k s froms front q) (exits_quiet w same e k s froms front q, tt)

  -- ---- the whole

  enters_of : (f : ℕ) (g : Function) → slice_get program.functions f ≡ Some g
      → Each Enters (points_of (view layout program f g) g (first_point program.functions f) (sites_before 0 program.functions f))
  enters_of f g e =
      let k = first_point program.functions f in
      let s = sites_before 0 program.functions f in
      let w = view layout program f g in
      let b = body_of layout program f g e in
      let one : Quiets (k ∷ []) = (own _ b.first refl, tt) in (
        tt,
        each_append Enters (points_in w g.body (k + 1) s (k ∷ [])) _ (enters_in w few g.body (k + 1) s (k ∷ []) b.body one)
            ((leaves_quiet w few g.body (k + 1) s (k ∷ []) b.body one).falls, tt),
      )

  -- each point is entered from points that call nothing
  pub all_enter : Each Enters (all layout program)
  all_enter = all_hold layout program Enters tt enters_of
