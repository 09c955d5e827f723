-- Jumps of emitted code lead to where items begin or end, and only the last instruction of a run leads elsewhere than to the
-- next one.
use Rattle.std.proofs.Common.{◌≡◌, ◌⊎◌, inl, inr, ℕ, zero, suc, ◌+◌, List, [], ◌∷◌, ◌++◌, length, Option, Some, None, Bool, true, false, slice_get, refl, sym, ap, ◌∙◌, subst, arith}
use Rattle.sc_isa.specs.declared.op.Op.{Op}
use Rattle.sc_isa.specs.declared.op.Op.TheVariants as op
use Rattle.sc_isa.specs.declared.code.FnRow.{FnRow}
use Rattle.sc_core.specs.declared.operation.Constant.{Constant}
use Rattle.sc_core.specs.declared.operation.Constant.TheVariants as constants
use Rattle.sc_core.specs.declared.operation.Operation.{Operation}
use Rattle.sc_core.specs.declared.operation.Operation.TheVariants as does
use Rattle.sc_core.specs.declared.operation.Action.{Action}
use Rattle.sc_core.specs.declared.operation.Action.TheVariants as acts
use Rattle.sc_core.specs.Core.{Core, constant, step, choice, update, Arguments, none, argument, Does, nothing, break, continue, then_, act, choose, loop, return, Function}
use Rattle.sc_core.specs.Statements.{zero_of}
use Rattle.sc_core.specs.Table.{ops_of, ops_of_action, write_op}
use Rattle.sc_meaning.specs.Points.{size, sizes, size_of}
use Rattle.flow_form.specs.Accesses.{accesses, accesses_all, accesses_by, accesses_in}
use Rattle.site_graph.specs.declared.plan.Plan.{Plan}
use Rattle.node_emit.specs.Runs.{goes_one_way, run_width, constant_op, test_ops, test_width}
use Rattle.node_emit.specs.Widths.{width, width_in, width_of}
use Rattle.node_emit.specs.Sources.{locals_of, rows_from}
use Rattle.emit_laws.proofs.Items.{Item, glue, runs, item_of, item_width, total, total_append, step_items, back_items, items, items_all, items_in, function_items, functions_items}
use Rattle.emit_laws.proofs.Placed.{tests_some, sum2, item_total, total_is}
use Rattle.emit_laws.proofs.PlacedStatements.{total_in}

-- it leads to the next instruction, if it leads anywhere
abbrev pub IsStraight : Op → Type 0
IsStraight (op.Jump target) = ⊥
IsStraight (op.Zero target) = ⊥
IsStraight (op.Call f) = ⊥
IsStraight op.Ret = ⊥
IsStraight _ = Unit {0}

module _ (Ok : ℕ → Type 0) where
  -- outside of the runs
  abbrev pub GlueOk : Op → Type 0
  GlueOk (op.Jump target) = Ok target
  GlueOk (op.Zero target) = ⊥
  GlueOk (op.Call f) = ⊥
  GlueOk op.Ret = ⊥
  GlueOk _ = Unit {0}

  -- at the end of a run
  abbrev pub LastOk : Op → Type 0
  LastOk (op.Jump target) = Ok target
  LastOk (op.Zero target) = Ok target
  LastOk _ = Unit {0}

  abbrev pub OpsOk : Op → List Op → Type 0
  OpsOk o [] = LastOk o
  OpsOk o (next ∷ more) = IsStraight o × OpsOk next more

  abbrev pub ItemOk : Item → Type 0
  ItemOk (glue o) = GlueOk o
  ItemOk (runs t line o more) = OpsOk o more

  abbrev pub AllOk : List Item → Type 0
  AllOk [] = Unit {0}
  AllOk (i ∷ is) = ItemOk i × AllOk is

  both_ok : (a b : List Item) → AllOk a → AllOk b → AllOk (a ++ b)
  both_ok [] b h k = k
  both_ok (i ∷ a) b h k = (h.0, both_ok a b h.1 k)

  -- the run of a point
  abbrev pub RunOk : List Op → Type 0
  RunOk [] = Unit {0}
  RunOk (o ∷ more) = OpsOk o more

  run_ok : (t line : ℕ) (ops : List Op) → RunOk ops → AllOk (item_of t line ops)
  run_ok t line [] h = tt
  run_ok t line (o ∷ more) h = (h, tt)

  write_ok : (b : Bool) (site : ℕ) → LastOk (write_op b site)
  write_ok true site = tt
  write_ok false site = tt

  step_ok : (b : Bool) (site : ℕ) (o : Operation) → RunOk (ops_of b site o)
  step_ok b site (does.Use x) = tt
  step_ok b site (does.Element o n plain) = tt
  step_ok b site (does.Address o n) = tt
  step_ok b site does.Own = tt
  step_ok b site does.Convert = tt
  step_ok b site (does.Forward star) = tt
  step_ok b site (does.Back star) = (tt, tt)
  step_ok b site (does.Binary operator) = tt
  step_ok b site (does.Unary operator) = tt
  step_ok b site does.Same = tt
  step_ok b site does.Differ = (tt, tt)
  step_ok b site does.IsNull = (tt, tt)
  step_ok b site does.ToGlobal = tt
  step_ok b site does.ToProc = tt
  step_ok b site does.ToLocal = tt
  step_ok b site (does.Set x) = tt
  step_ok b site (does.Call f n) = tt
  step_ok b site does.Read = tt
  step_ok b site does.Write = write_ok b site

  act_ok : (site : ℕ) (a : Action) → RunOk (ops_of_action site a)
  act_ok site acts.Drop = tt
  act_ok site (acts.Begin x) = (tt, tt)
  act_ok site (acts.Clear x pointer) = tt
  act_ok site (acts.Fill x) = tt
  act_ok site (acts.Get x) = tt
  act_ok site acts.Put = tt
  act_ok site acts.Send = tt
  act_ok site (acts.Copy mode) = tt
  act_ok site (acts.Print text n) = tt
  act_ok site acts.Sync = tt
  act_ok site acts.Barrier = tt
  act_ok site acts.AllStoreSync = tt

  test_ok : (of_pointer : Bool) (target : ℕ) → Ok target → RunOk (test_ops of_pointer target)
  test_ok true target h = (tt, h)
  test_ok false target h = h

  constant_ok : (v : Constant) → GlueOk (constant_op v)
  constant_ok (constants.Number n) = tt
  constant_ok constants.Null = tt
  constant_ok constants.Mine = tt
  constant_ok constants.Procs = tt

module _ (plan : Plan) where
  -- an item begins there, or the last ends there
  abbrev pub Boundary : (pc : ℕ) → List Item → (q : ℕ) → Type 0
  Boundary pc [] q = q ≡ pc
  Boundary pc (i ∷ is) q = (q ≡ pc) ⊎ Boundary (pc + item_width plan i) is q

  pub at_first : (pc q : ℕ) (is : List Item) → q ≡ pc → Boundary pc is q
  at_first pc q [] e = e
  at_first pc q (i ∷ is) e = inl e

  pub at_end : (pc q : ℕ) (is : List Item) → q ≡ pc + total plan is → Boundary pc is q
  at_end pc q [] e = omega (arith, e)
  at_end pc q (i ∷ is) e = inr (at_end (pc + item_width plan i) q is (omega (arith, e)))

  pub in_front : (pc q : ℕ) (a b : List Item) → Boundary pc a q → Boundary pc (a ++ b) q
  in_front pc q [] b h = at_first pc q b h
  in_front pc q (i ∷ a) b (inl e) = inl e
  in_front pc q (i ∷ a) b (inr h) = inr (in_front (pc + item_width plan i) q a b h)

  pub in_back : (pc p q : ℕ) (a b : List Item) → p ≡ pc + total plan a → Boundary p b q → Boundary pc (a ++ b) q
  in_back pc p q [] b e h = let f : p ≡ pc = omega (arith, e) in subst (λ n. Boundary n b q) f h
  in_back pc p q (i ∷ a) b e h = inr (in_back (pc + item_width plan i) p q a b (omega (arith, e)) h)

  module _ (Ok : ℕ → Type 0) where
    -- where its items begin and end it may be led to
    abbrev pub Sub : (pc : ℕ) → List Item → Type 0
    Sub pc is = (q : ℕ) → Boundary pc is q → Ok q

    front : (pc : ℕ) (a b : List Item) → Sub pc (a ++ b) → Sub pc a
    front pc a b h q i = h q (in_front pc q a b i)

    back : (pc p : ℕ) (a b : List Item) → p ≡ pc + total plan a → Sub pc (a ++ b) → Sub p b
    back pc p a b e h q i = h q (in_back pc p q a b e i)

    rest : (pc : ℕ) (i : Item) (is : List Item) → Sub pc (i ∷ is) → Sub (pc + item_width plan i) is
    rest pc i is h q b = h q (inr b)

    back_ok : (b : Option Operation) (line t s : ℕ) → AllOk Ok (back_items plan b line t s)
    back_ok None line t s = tt
    back_ok (Some o) line t s = (tt, run_ok Ok t line (ops_of (goes_one_way plan (suc s)) (suc s) o) (step_ok Ok (goes_one_way plan (suc s)) (suc s) o))

    step_items_ok : (o : Operation) (line t s : ℕ) → AllOk Ok (step_items plan o line t s)
    step_items_ok o line t s = run_ok Ok t line (ops_of (goes_one_way plan (suc s)) (suc s) o) (step_ok Ok (goes_one_way plan (suc s)) (suc s) o)

    mutual
      items_ok : (e : Core) (k s pc : ℕ) → Sub pc (items plan e k s pc) → AllOk Ok (items plan e k s pc)
      items_ok (constant v) k s pc h = (constant_ok Ok v, tt)
      items_ok (step o arguments line) k s pc h =
          both_ok Ok _ _ (all_ok arguments k s pc (front pc _ _ h)) (step_items_ok o line (k + sizes arguments) (s + accesses_all arguments))
      items_ok (choice of_pointer test on off) k s pc h =
          let t = k + size test in
          let s' = s + accesses test in
          let at_on = pc + width plan test k + run_width plan t (test_width of_pointer) in
          let at_off = at_on + width plan on (t + 1) + 1 in
          let to = at_off + width plan off (t + 1 + size on) in
          let v = at_on + width plan on (t + 1) in
          let r = tests_some of_pointer at_off in
          let a1 = items plan test k s pc in
          let a2 = item_of t 0 (test_ops of_pointer at_off) in
          let a3 = items plan on (t + 1) s' at_on in
          let a5 = items plan off (t + 1 + size on) (s' + accesses on) at_off in
          let a4 = glue (op.Jump to) ∷ a5 in
          let e1 = total_is plan test k s pc in
          let e2 = item_total plan t 0 (test_ops of_pointer at_off) r.0 ∙ ap (run_width plan t) r.1 in
          let e3 = total_is plan on (t + 1) s' at_on in
          let e5 = total_is plan off (t + 1 + size on) (s' + accesses on) at_off in
          let f12 = total_append plan a1 a2 in
          let f123 = total_append plan (a1 ++ a2) a3 in
          let h123 = front pc ((a1 ++ a2) ++ a3) a4 h in
          let h12 = front pc (a1 ++ a2) a3 h123 in
          let h5 = rest v (glue (op.Jump to)) a5 (back pc v ((a1 ++ a2) ++ a3) a4 (omega (arith, e1, e2, e3, f12, f123)) h) in
          both_ok Ok ((a1 ++ a2) ++ a3) a4
          (both_ok Ok (a1 ++ a2) a3
          (both_ok Ok a1 a2 (items_ok test k s pc (front pc a1 a2 h12)) (run_ok Ok t 0 (test_ops of_pointer at_off) (test_ok Ok of_pointer at_off (h5 at_off (at_first at_off at_off a5 refl)))))
          (items_ok on (t + 1) s' at_on (back pc at_on (a1 ++ a2) a3 (omega (arith, e1, e2, f12)) h123)))
          (h5 to (at_end at_off to a5 (ap (λ n. at_off + n) (sym e5))), items_ok off (t + 1 + size on) (s' + accesses on) at_off h5)
      items_ok (update pointer o right b line) k s pc h =
          let t = k + size pointer in
          let u = t + 1 + size right in
          let read = s + accesses pointer in
          let join = read + 1 + accesses right in
          let write = join + accesses_by o in
          let at_right = pc + width plan pointer k + 1 + run_width plan t 1 in
          let a1 = items plan pointer k s pc in
          let a2 = glue op.Dup ∷ item_of t line (op.Read (suc read) ∷ []) in
          let a3 = items plan right (t + 1) (read + 1) at_right in
          let a4 = step_items plan o line u join in
          let a5 = item_of (u + 1) line (write_op (goes_one_way plan (suc write)) (suc write) ∷ []) in
          let a6 = back_items plan b line (u + 2) (write + 1) in
          let e1 = total_is plan pointer k s pc in
          let e2 = item_total plan t line (op.Read (suc read) ∷ []) tt in
          let f2 = total_append plan a1 a2 in
          let h5 = front pc ((((a1 ++ a2) ++ a3) ++ a4) ++ a5) a6 h in
          let h4 = front pc (((a1 ++ a2) ++ a3) ++ a4) a5 h5 in
          let h3 = front pc ((a1 ++ a2) ++ a3) a4 h4 in
          let h2 = front pc (a1 ++ a2) a3 h3 in
          both_ok Ok ((((a1 ++ a2) ++ a3) ++ a4) ++ a5) a6
          (both_ok Ok (((a1 ++ a2) ++ a3) ++ a4) a5
          (both_ok Ok ((a1 ++ a2) ++ a3) a4
          (both_ok Ok (a1 ++ a2) a3
          (both_ok Ok a1 a2 (items_ok pointer k s pc (front pc a1 a2 h2)) (tt, run_ok Ok t line (op.Read (suc read) ∷ []) tt))
          (items_ok right (t + 1) (read + 1) at_right (back pc at_right (a1 ++ a2) a3 (omega (arith, e1, e2, f2)) h3)))
          (step_items_ok o line u join))
          (run_ok Ok (u + 1) line (write_op (goes_one_way plan (suc write)) (suc write) ∷ []) (write_ok Ok (goes_one_way plan (suc write)) (suc write))))
          (back_ok b line (u + 2) (write + 1))

      all_ok : (es : Arguments) (k s pc : ℕ) → Sub pc (items_all plan es k s pc) → AllOk Ok (items_all plan es k s pc)
      all_ok none k s pc h = tt
      all_ok (argument e more) k s pc h =
          both_ok Ok _ _ (items_ok e k s pc (front pc _ _ h))
          (all_ok more (k + size e) (s + accesses e) (pc + width plan e k) (back pc (pc + width plan e k) (items plan e k s pc) _ (ap (λ n. pc + n) (sym (total_is plan e k s pc))) h))

    in_ok : (d : Does) (k s out again pc : ℕ) → Ok out → Ok again → Sub pc (items_in plan d k s out again pc) → AllOk Ok (items_in plan d k s out again pc)
    in_ok nothing k s out again pc o g h = tt
    in_ok break k s out again pc o g h = (o, tt)
    in_ok continue k s out again pc o g h = (g, tt)
    in_ok (then_ first second) k s out again pc o g h =
        both_ok Ok _ _ (in_ok first k s out again pc o g (front pc _ _ h))
        (in_ok second (k + size_of first) (s + accesses_in first) out again (pc + width_in plan first k) o g
        (back pc (pc + width_in plan first k) (items_in plan first k s out again pc) _ (ap (λ n. pc + n) (sym (total_in plan first k s out again pc))) h))
    in_ok (act a arguments line) k s out again pc o g h =
        both_ok Ok _ _ (all_ok arguments k s pc (front pc _ _ h))
        (run_ok Ok (k + sizes arguments) line (ops_of_action (suc (s + accesses_all arguments)) a) (act_ok Ok (suc (s + accesses_all arguments)) a))
    in_ok (choose of_pointer test on off) k s out again pc o g h =
        let t = k + size test in
        let s' = s + accesses test in
        let at_on = pc + width plan test k + run_width plan t (test_width of_pointer) in
        let at_off = at_on + width_in plan on (t + 1) + 1 in
        let to = at_off + width_in plan off (t + 1 + size_of on) in
        let v = at_on + width_in plan on (t + 1) in
        let r = tests_some of_pointer at_off in
        let a1 = items plan test k s pc in
        let a2 = item_of t 0 (test_ops of_pointer at_off) in
        let a3 = items_in plan on (t + 1) s' out again at_on in
        let a5 = items_in plan off (t + 1 + size_of on) (s' + accesses_in on) out again at_off in
        let a4 = glue (op.Jump to) ∷ a5 in
        let e1 = total_is plan test k s pc in
        let e2 = item_total plan t 0 (test_ops of_pointer at_off) r.0 ∙ ap (run_width plan t) r.1 in
        let e3 = total_in plan on (t + 1) s' out again at_on in
        let e5 = total_in plan off (t + 1 + size_of on) (s' + accesses_in on) out again at_off in
        let f12 = total_append plan a1 a2 in
        let f123 = total_append plan (a1 ++ a2) a3 in
        let h123 = front pc ((a1 ++ a2) ++ a3) a4 h in
        let h12 = front pc (a1 ++ a2) a3 h123 in
        let h5 = rest v (glue (op.Jump to)) a5 (back pc v ((a1 ++ a2) ++ a3) a4 (omega (arith, e1, e2, e3, f12, f123)) h) in
        both_ok Ok ((a1 ++ a2) ++ a3) a4
        (both_ok Ok (a1 ++ a2) a3
        (both_ok Ok a1 a2 (items_ok test k s pc (front pc a1 a2 h12)) (run_ok Ok t 0 (test_ops of_pointer at_off) (test_ok Ok of_pointer at_off (h5 at_off (at_first at_off at_off a5 refl)))))
        (in_ok on (t + 1) s' out again at_on o g (back pc at_on (a1 ++ a2) a3 (omega (arith, e1, e2, f12)) h123)))
        (h5 to (at_end at_off to a5 (ap (λ n. at_off + n) (sym e5))), in_ok off (t + 1 + size_of on) (s' + accesses_in on) out again at_off o g h5)
    in_ok (loop mine before body after) k s out again pc o g h =
        let t = k + size_of before in
        let u = t + 1 + size_of body in
        let s_body = s + accesses_in before in
        let p = pc + width_in plan before k in
        let at_body = pc + width_in plan before k + run_width plan t 1 in
        let at_after = at_body + width_in plan body (t + 1) in
        let v = at_after + width_in plan after u in
        let end = at_after + width_in plan after u + 1 in
        let a1 = items_in plan before k s end again pc in
        let a2 = item_of t 0 (op.Turn ∷ []) in
        let a3 = items_in plan body (t + 1) s_body end at_after at_body in
        let a4 = items_in plan after u (s_body + accesses_in body) end again at_after in
        let a5 = glue (op.Jump pc) ∷ [] in
        let e1 = total_in plan before k s end again pc in
        let e2 = item_total plan t 0 (op.Turn ∷ []) tt in
        let e3 = total_in plan body (t + 1) s_body end at_after at_body in
        let e4 = total_in plan after u (s_body + accesses_in body) end again at_after in
        let f12 = total_append plan a1 a2 in
        let f123 = total_append plan (a1 ++ a2) a3 in
        let f1234 = total_append plan ((a1 ++ a2) ++ a3) a4 in
        let h1234 = front pc (((a1 ++ a2) ++ a3) ++ a4) a5 h in
        let h123 = front pc ((a1 ++ a2) ++ a3) a4 h1234 in
        let h12 = front pc (a1 ++ a2) a3 h123 in
        let h1 = front pc a1 a2 h12 in
        let h4 = back pc at_after ((a1 ++ a2) ++ a3) a4 (omega (arith, e1, e2, e3, f12, f123)) h1234 in
        let h5 = back pc v (((a1 ++ a2) ++ a3) ++ a4) a5 (omega (arith, e1, e2, e3, e4, f12, f123, f1234)) h in
        let end_ok = h5 end (at_end v end a5 refl) in
        let after_ok = h4 at_after (at_first at_after at_after a4 refl) in
        both_ok Ok (((a1 ++ a2) ++ a3) ++ a4) a5
        (both_ok Ok ((a1 ++ a2) ++ a3) a4
        (both_ok Ok (a1 ++ a2) a3
        (both_ok Ok a1 a2 (in_ok before k s end again pc end_ok g h1) (run_ok Ok t 0 (op.Turn ∷ []) tt))
        (in_ok body (t + 1) s_body end at_after at_body end_ok after_ok (back pc at_body (a1 ++ a2) a3 (omega (arith, e1, e2, f12)) h123)))
        (in_ok after u (s_body + accesses_in body) end again at_after end_ok g h4))
        (h1 pc (at_first pc pc a1 refl), tt)
    in_ok (return e line) k s out again pc o g h =
        both_ok Ok _ _ (items_ok e k s pc (front pc _ _ h)) (run_ok Ok (k + size e) line (op.Ret ∷ []) tt)

    function_ok : (f : Function) (k s pc : ℕ) → Ok 0 → Sub pc (function_items plan f k s pc) → AllOk Ok (function_items plan f k s pc)
    function_ok f k s pc z h =
        both_ok Ok _ _ (in_ok f.body (k + 1) s 0 0 pc z z (front pc _ _ h))
        (constant_ok Ok (zero_of f.result), run_ok Ok (k + 1 + size_of f.body) f.line (op.Ret ∷ []) tt)

    function_total : (g : Function) (k s pc : ℕ) → total plan (function_items plan g k s pc) ≡ width_of plan g k
    function_total g k s pc =
        let t = k + 1 + size_of g.body in
        let h : total plan (function_items plan g k s pc) ≡ width_in plan g.body (k + 1) + (1 + run_width plan t 1) =
        sum2 plan _ _ _ _ (total_in plan g.body (k + 1) s 0 0 pc) (ap (λ n. 1 + n) (item_total plan t g.line (op.Ret ∷ []) tt)) in
        omega (arith, h)

    functions_ok : (fs : List Function) (k s pc : ℕ) → Ok 0 → Sub pc (functions_items plan fs k s pc) → AllOk Ok (functions_items plan fs k s pc)
    functions_ok [] k s pc z h = tt
    functions_ok (f ∷ more) k s pc z h =
        both_ok Ok _ _ (function_ok f k s pc z (front pc _ _ h))
        (functions_ok more (k + size_of f.body + 2) (s + accesses_in f.body) (pc + width_of plan f k) z
        (back pc (pc + width_of plan f k) (function_items plan f k s pc) _ (ap (λ n. pc + n) (sym (function_total f k s pc))) h))

    -- each function begins where an item does
    rows_ok : (fs : List Function) (k s pc f : ℕ) (row : FnRow) → Sub pc (functions_items plan fs k s pc) → slice_get (rows_from plan fs k pc) f ≡ Some row → Ok row.start
    rows_ok [] k s pc f row h e = absurd (cc)
    rows_ok (x ∷ more) k s pc zero row h e =
        let same : record { start = pc; params = length x.params; locals = locals_of x } ≡ row = cc in
        subst (λ (r : FnRow). Ok r.start) same (h pc (at_first pc pc (functions_items plan (x ∷ more) k s pc) refl))
    rows_ok (x ∷ more) k s pc (suc f) row h e =
        rows_ok more (k + size_of x.body + 2) (s + accesses_in x.body) (pc + width_of plan x k) f row
        (back pc (pc + width_of plan x k) (function_items plan x k s pc) _ (ap (λ n. pc + n) (sym (function_total x k s pc))) h) e

  -- the items of a source
  abbrev pub IsBoundary : List Function → (q : ℕ) → Type 0
  IsBoundary fs q = Boundary 0 (functions_items plan fs 1 0 0) q

  pub source_ok : (fs : List Function) → AllOk (IsBoundary fs) (functions_items plan fs 1 0 0)
  source_ok fs = functions_ok (IsBoundary fs) fs 1 0 0 (at_first 0 0 (functions_items plan fs 1 0 0) refl) (λ q b. b)

  pub starts_ok : (fs : List Function) (f : ℕ) (row : FnRow) → slice_get (rows_from plan fs 1 0) f ≡ Some row → IsBoundary fs row.start
  starts_ok fs f row e = rows_ok (IsBoundary fs) fs 1 0 0 f row (λ q b. b) e
