-- The pieces of a source are the runs of its points in order, with what stands outside between them.
use Rattle.std.proofs.Common.{◌≡◌, ℕ, suc, ◌+◌, List, [], ◌∷◌, ◌++◌, length, map, Option, Some, None, true, refl, sym, ap, ◌∙◌, subst, arith, append_assoc}
use Rattle.std.proofs.lemmas.List.{length-append}
use Rattle.sc_isa.specs.declared.op.Op.{Op}
use Rattle.sc_isa.specs.declared.op.Op.TheVariants as op
use Rattle.sc_core.specs.declared.operation.Constant.{Constant}
use Rattle.sc_core.specs.declared.operation.Constant.TheVariants as constants
use Rattle.sc_core.specs.declared.operation.Operation.{Operation}
use Rattle.sc_core.specs.Core.{Core, constant, step, choice, update, Arguments, none, argument, Does, nothing, break, continue, then_, act, choose, loop, return, Function}
use Rattle.sc_core.specs.Statements.{zero_of}
use Rattle.sc_core.specs.Table.{ops_of, ops_of_action, write_op}
use Rattle.sc_meaning.specs.Points.{one_if_some, size, sizes, size_of}
use Rattle.flow_form.specs.Accesses.{accesses, accesses_all, accesses_by, accesses_in}
use Rattle.flow_form.proofs.Rises.{Each, each_append}
use Rattle.flow_form.proofs.Run.{last_from}
use Rattle.site_graph.specs.declared.plan.Plan.{Plan}
use Rattle.node_emit.specs.Runs.{goes_one_way, run_width, constant_op, test_ops, test_width}
use Rattle.node_emit.specs.Widths.{width, width_in, width_of}
use Rattle.node_emit.specs.Kinds.{is_outside}
use Rattle.node_emit.specs.Spelled.{Piece, Outside, Opens, Within, of_points, in_order, run_of_point, IsOutsidePiece}
use Rattle.emit_laws.proofs.Items.{Item, glue, runs, item_of, all_pieces, step_items, back_items, items, items_all, items_in, function_items, functions_items}
use Rattle.emit_laws.proofs.Placed.{IsSome_, ops_some, actions_some, tests_some}
use Rattle.code_laws.proofs.Compiled.{runs_in, function_runs}

-- ---- the items count the points, and what stands outside of runs may stand there

abbrev pub Counts : List Item → (k l : ℕ) → Type 0
Counts [] k l = k ≡ l
Counts (glue o ∷ is) k l = (is_outside o ≡ true) × Counts is k l
Counts (runs t line o more ∷ is) k l = (t ≡ k) × Counts is (k + 1) l

counts_on : (a b : List Item) (k l m : ℕ) → Counts a k l → Counts b l m → Counts (a ++ b) k m
counts_on [] b k l m h i = subst (λ n. Counts b n m) (sym h) i
counts_on (glue o ∷ a) b k l m h i = (h.0, counts_on a b k l m h.1 i)
counts_on (runs t line o more ∷ a) b k l m h i = (h.0, counts_on a b (k + 1) l m h.1 i)

counts_end : (a : List Item) (k l m : ℕ) → l ≡ m → Counts a k l → Counts a k m
counts_end a k l m e h = subst (λ n. Counts a k n) e h

item_counts : (t line : ℕ) (ops : List Op) → IsSome_ ops → Counts (item_of t line ops) t (t + 1)
item_counts t line [] h = absurd h
item_counts t line (o ∷ more) h = (refl, refl)

constant_outside : (c : Constant) → is_outside (constant_op c) ≡ true
constant_outside (constants.Number n) = refl
constant_outside constants.Null = refl
constant_outside constants.Mine = refl
constant_outside constants.Procs = refl

module _ (plan : Plan) where
  step_counts : (o : Operation) (line t s : ℕ) → Counts (step_items plan o line t s) t (t + 1)
  step_counts o line t s =
      item_counts t line (ops_of (goes_one_way plan (suc s)) (suc s) o) (ops_some (goes_one_way plan (suc s)) (suc s) o).0

  back_counts : (undo : Option Operation) (line t s : ℕ) → Counts (back_items plan undo line t s) t (t + one_if_some undo)
  back_counts None line t s = omega arith
  back_counts (Some o) line t s = (refl, step_counts o line t s)

  mutual
    counts : (e : Core) (k s pc : ℕ) → Counts (items plan e k s pc) k (k + size e)
    counts (constant v) k s pc = (constant_outside v, omega arith)
    counts (step o arguments line) k s pc =
        counts_end _ k (k + sizes arguments + 1) _ (omega arith)
        (counts_on (items_all plan arguments k s pc) _ k (k + sizes arguments) _ (counts_all arguments k s pc) (step_counts o line (k + sizes arguments) (s + accesses_all arguments)))
    counts (choice of_pointer test on off) k s pc =
        let t = k + size test in
        let s' = s + accesses test in
        let at_on = pc + width plan test k + run_width plan t (test_width of_pointer) in
        let at_off = at_on + width plan on (t + 1) + 1 in
        let end = at_off + width plan off (t + 1 + size on) in
        let tests = items plan test k s pc in
        let own = item_of t 0 (test_ops of_pointer at_off) in
        let ons = items plan on (t + 1) s' at_on in
        let offs = glue (op.Jump end) ∷ items plan off (t + 1 + size on) (s' + accesses on) at_off in
        counts_end (((tests ++ own) ++ ons) ++ offs) k (t + 1 + size on + size off) _ (omega arith)
        (counts_on ((tests ++ own) ++ ons) offs k (t + 1 + size on) _
        (counts_on (tests ++ own) ons k (t + 1) _
        (counts_on tests own k t _ (counts test k s pc) (item_counts t 0 (test_ops of_pointer at_off) (tests_some of_pointer at_off).0))
        (counts on (t + 1) s' at_on))
        (refl, counts off (t + 1 + size on) (s' + accesses on) at_off))
    counts (update pointer o right undo line) k s pc =
        let t = k + size pointer in
        let u = t + 1 + size right in
        let read = s + accesses pointer in
        let join = read + 1 + accesses right in
        let write = join + accesses_by o in
        let at_right = pc + width plan pointer k + 1 + run_width plan t 1 in
        let a1 = items plan pointer k s pc in
        let a2 = glue op.Dup ∷ item_of t line (op.Read (suc read) ∷ []) in
        let a3 = items plan right (t + 1) (read + 1) at_right in
        let a4 = step_items plan o line u join in
        let a5 = item_of (u + 1) line (write_op (goes_one_way plan (suc write)) (suc write) ∷ []) in
        let a6 = back_items plan undo line (u + 2) (write + 1) in
        let two : u + 1 + 1 ≡ u + 2 = omega arith in
        counts_end (((((a1 ++ a2) ++ a3) ++ a4) ++ a5) ++ a6) k (u + 2 + one_if_some undo) _ (omega arith)
        (counts_on ((((a1 ++ a2) ++ a3) ++ a4) ++ a5) a6 k (u + 2) _
        (counts_on (((a1 ++ a2) ++ a3) ++ a4) a5 k (u + 1) _
        (counts_on ((a1 ++ a2) ++ a3) a4 k u _
        (counts_on (a1 ++ a2) a3 k (t + 1) _
        (counts_on a1 a2 k t _ (counts pointer k s pc) (refl, (refl, refl)))
        (counts right (t + 1) (read + 1) at_right))
        (step_counts o line u join))
        (refl, two))
        (back_counts undo line (u + 2) (write + 1)))

    counts_all : (arguments : Arguments) (k s pc : ℕ) → Counts (items_all plan arguments k s pc) k (k + sizes arguments)
    counts_all none k s pc = omega arith
    counts_all (argument e more) k s pc =
        counts_end _ k (k + size e + sizes more) _ (omega arith)
        (counts_on (items plan e k s pc) _ k (k + size e) _ (counts e k s pc) (counts_all more (k + size e) (s + accesses e) (pc + width plan e k)))

  counts_in : (d : Does) (k s out again pc : ℕ) → Counts (items_in plan d k s out again pc) k (k + size_of d)
  counts_in nothing k s out again pc = omega arith
  counts_in break k s out again pc = (refl, omega arith)
  counts_in continue k s out again pc = (refl, omega arith)
  counts_in (then_ a b) k s out again pc =
      counts_end _ k (k + size_of a + size_of b) _ (omega arith)
      (counts_on (items_in plan a k s out again pc) _ k (k + size_of a) _ (counts_in a k s out again pc)
      (counts_in b (k + size_of a) (s + accesses_in a) out again (pc + width_in plan a k)))
  counts_in (act a arguments line) k s out again pc =
      let t = k + sizes arguments in
      let site = suc (s + accesses_all arguments) in
      counts_end _ k (t + 1) _ (omega arith)
      (counts_on (items_all plan arguments k s pc) _ k t _ (counts_all arguments k s pc) (item_counts t line (ops_of_action site a) (actions_some site a).0))
  counts_in (choose of_pointer test on off) k s out again pc =
      let t = k + size test in
      let s' = s + accesses test in
      let at_on = pc + width plan test k + run_width plan t (test_width of_pointer) in
      let at_off = at_on + width_in plan on (t + 1) + 1 in
      let end = at_off + width_in plan off (t + 1 + size_of on) in
      let tests = items plan test k s pc in
      let own = item_of t 0 (test_ops of_pointer at_off) in
      let ons = items_in plan on (t + 1) s' out again at_on in
      let offs = glue (op.Jump end) ∷ items_in plan off (t + 1 + size_of on) (s' + accesses_in on) out again at_off in
      counts_end (((tests ++ own) ++ ons) ++ offs) k (t + 1 + size_of on + size_of off) _ (omega arith)
      (counts_on ((tests ++ own) ++ ons) offs k (t + 1 + size_of on) _
      (counts_on (tests ++ own) ons k (t + 1) _
      (counts_on tests own k t _ (counts test k s pc) (item_counts t 0 (test_ops of_pointer at_off) (tests_some of_pointer at_off).0))
      (counts_in on (t + 1) s' out again at_on))
      (refl, counts_in off (t + 1 + size_of on) (s' + accesses_in on) out again at_off))
  counts_in (loop mine before body after) k s out again pc =
      let t = k + size_of before in
      let u = t + 1 + size_of body in
      let s_body = s + accesses_in before in
      let at_body = pc + width_in plan before k + run_width plan t 1 in
      let at_after = at_body + width_in plan body (t + 1) in
      let end = at_after + width_in plan after u + 1 in
      let a1 = items_in plan before k s end again pc in
      let a2 = item_of t 0 (op.Turn ∷ []) in
      let a3 = items_in plan body (t + 1) s_body end at_after at_body in
      let a4 = items_in plan after u (s_body + accesses_in body) end again at_after in
      let a5 = glue (op.Jump pc) ∷ [] in
      counts_end ((((a1 ++ a2) ++ a3) ++ a4) ++ a5) k (u + size_of after) _ (omega arith)
      (counts_on (((a1 ++ a2) ++ a3) ++ a4) a5 k (u + size_of after) _
      (counts_on ((a1 ++ a2) ++ a3) a4 k u _
      (counts_on (a1 ++ a2) a3 k (t + 1) _
      (counts_on a1 a2 k t _ (counts_in before k s end again pc) (refl, refl))
      (counts_in body (t + 1) s_body end at_after at_body))
      (counts_in after u (s_body + accesses_in body) end again at_after))
      (refl, refl))
  counts_in (return e line) k s out again pc =
      counts_end _ k (k + size e + 1) _ (omega arith)
      (counts_on (items plan e k s pc) (item_of (k + size e) line (op.Ret ∷ [])) k (k + size e) _ (counts e k s pc) (refl, refl))

  -- behind the function's first point
  function_counts : (f : Function) (k s pc : ℕ) → Counts (function_items plan f k s pc) (k + 1) (k + size_of f.body + 2)
  function_counts f k s pc =
      let t = k + 1 + size_of f.body in
      counts_end _ (k + 1) (t + 1) _ (omega arith)
      (counts_on (items_in plan f.body (k + 1) s 0 0 pc) (glue (constant_op (zero_of f.result)) ∷ item_of t f.line (op.Ret ∷ [])) (k + 1) t _
      (counts_in f.body (k + 1) s 0 0 pc) (constant_outside (zero_of f.result), (refl, refl)))

  -- ---- runs in order

  points_on : (a b : List Piece) → of_points (a ++ b) ≡ of_points a ++ of_points b
  points_on [] b = refl
  points_on (Outside o ∷ a) b = points_on a b
  points_on (Opens t o ∷ a) b = ap (λ l. Opens t o ∷ l) (points_on a b)
  points_on (Within t o ∷ a) b = ap (λ l. Within t o ∷ l) (points_on a b)

  within_points : (t : ℕ) (more : List Op) → of_points (map (Within t) more) ≡ map (Within t) more
  within_points t [] = refl
  within_points t (o ∷ more) = ap (λ l. Within t o ∷ l) (within_points t more)

  pub runs_long : (is : List Item) (k l : ℕ) → Counts is k l → k + length (runs_in is) ≡ l
  runs_long [] k l h = omega (arith, h)
  runs_long (glue o ∷ is) k l h = runs_long is k l h.1
  runs_long (runs t line o more ∷ is) k l h = let r = runs_long is (k + 1) l h.1 in omega (arith, r)

  runs_ordered : (is : List Item) (k l : ℕ) → Counts is k l → of_points (all_pieces plan is) ≡ in_order k (runs_in is)
  runs_ordered [] k l h = refl
  runs_ordered (glue o ∷ is) k l h = runs_ordered is k l h.1
  runs_ordered (runs t line o more ∷ is) k l h =
      ap (λ l. Opens t o ∷ l) (points_on (map (Within t) more) (all_pieces plan is)
      ∙ ap (λ l. l ++ of_points (all_pieces plan is)) (within_points t more)
      ∙ ap (λ l. map (Within t) more ++ l) (runs_ordered is (k + 1) l h.1))
      ∙ ap (λ n. run_of_point n (o ∷ more) ++ in_order (k + 1) (runs_in is)) h.0

  in_order_on : (a b : List (List Op)) (k m : ℕ) → m ≡ k + length a → in_order k (a ++ b) ≡ in_order k a ++ in_order m b
  in_order_on [] b k m e = let h : k ≡ m = omega (arith, e) in ap (λ n. in_order n b) h
  in_order_on (r ∷ a) b k m e =
      ap (λ l. run_of_point k r ++ l) (in_order_on a b (k + 1) m (omega (arith, e)))
      ∙ sym (append_assoc (run_of_point k r) (in_order (k + 1) a) (in_order m b))

  pieces_on : (a b : List Item) → all_pieces plan (a ++ b) ≡ all_pieces plan a ++ all_pieces plan b
  pieces_on [] b = refl
  pieces_on (glue o ∷ a) b = ap (λ l. Outside o ∷ l) (pieces_on a b)
  pieces_on (runs t line o more ∷ a) b =
      ap (λ l. Opens t o ∷ (map (Within t) more ++ l)) (pieces_on a b)
      ∙ ap (λ l. Opens t o ∷ l) (sym (append_assoc (map (Within t) more) (all_pieces plan a) (all_pieces plan b)))

  pub functions_long : (fs : List Function) (k s pc : ℕ) → k + length (function_runs plan fs k s pc) ≡ last_from k fs
  functions_long [] k s pc = omega arith
  functions_long (f ∷ more) k s pc =
      let own = runs_long (function_items plan f k s pc) (k + 1) (k + size_of f.body + 2) (function_counts f k s pc) in
      let rest = functions_long more (k + size_of f.body + 2) (s + accesses_in f.body) (pc + width_of plan f k) in
      let l = length-append ([] ∷ runs_in (function_items plan f k s pc)) (function_runs plan more (k + size_of f.body + 2) (s + accesses_in f.body) (pc + width_of plan f k)) in
      omega (arith, own, rest, l)

  pub functions_ordered : (fs : List Function) (k s pc : ℕ) → of_points (all_pieces plan (functions_items plan fs k s pc)) ≡ in_order k (function_runs plan fs k s pc)
  functions_ordered [] k s pc = refl
  functions_ordered (f ∷ more) k s pc =
      let own = function_items plan f k s pc in
      let k' = k + size_of f.body + 2 in
      let rest = functions_items plan more k' (s + accesses_in f.body) (pc + width_of plan f k) in
      let others = function_runs plan more k' (s + accesses_in f.body) (pc + width_of plan f k) in
      let l = runs_long own (k + 1) k' (function_counts f k s pc) in
      ap of_points (pieces_on own rest) ∙ points_on (all_pieces plan own) (all_pieces plan rest)
      ∙ ap (λ l. l ++ of_points (all_pieces plan rest)) (runs_ordered own (k + 1) k' (function_counts f k s pc))
      ∙ ap (λ l. in_order (k + 1) (runs_in own) ++ l) (functions_ordered more k' (s + accesses_in f.body) (pc + width_of plan f k))
      ∙ sym (in_order_on ([] ∷ runs_in own) others k k' (omega (arith, l)))

  -- ---- what stands outside

  within_outside : (t : ℕ) (more : List Op) → Each IsOutsidePiece (map (Within t) more)
  within_outside t [] = tt
  within_outside t (o ∷ more) = (tt, within_outside t more)

  are_outside : (is : List Item) (k l : ℕ) → Counts is k l → Each IsOutsidePiece (all_pieces plan is)
  are_outside [] k l h = tt
  are_outside (glue o ∷ is) k l h = (h.0, are_outside is k l h.1)
  are_outside (runs t line o more ∷ is) k l h =
      (tt, each_append IsOutsidePiece (map (Within t) more) (all_pieces plan is) (within_outside t more) (are_outside is (k + 1) l h.1))

  pub functions_outside : (fs : List Function) (k s pc : ℕ) → Each IsOutsidePiece (all_pieces plan (functions_items plan fs k s pc))
  functions_outside [] k s pc = tt
  functions_outside (f ∷ more) k s pc =
      let own = function_items plan f k s pc in
      let k' = k + size_of f.body + 2 in
      let rest = functions_items plan more k' (s + accesses_in f.body) (pc + width_of plan f k) in
      subst (Each IsOutsidePiece) (sym (pieces_on own rest))
      (each_append IsOutsidePiece (all_pieces plan own) (all_pieces plan rest) (are_outside own (k + 1) k' (function_counts f k s pc))
      (functions_outside more k' (s + accesses_in f.body) (pc + width_of plan f k)))
