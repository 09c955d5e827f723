-- The code of statements and of functions lies as their runs want it.
use Rattle.std.proofs.Common.{◌≡◌, ℕ, suc, ◌+◌, List, [], ◌∷◌, ◌++◌, false, refl, sym, ap, ◌∙◌, subst, arith}
use Rattle.sc_isa.specs.declared.op.Op.TheVariants as op
use Rattle.sc_core.specs.Core.{Core, Does, nothing, break, continue, then_, act, choose, loop, return}
use Rattle.sc_core.specs.Table.{ops_of_action}
use Rattle.sc_meaning.specs.Points.{size, sizes, size_of}
use Rattle.flow_form.specs.Accesses.{accesses, accesses_all, accesses_in}
use Rattle.site_graph.specs.declared.plan.Plan.{Plan}
use Rattle.site_graph.specs.Plans.{waits_at}
use Rattle.node_emit.specs.Runs.{goes_one_way, run_width, test_ops, test_width}
use Rattle.node_emit.specs.Widths.{width, widths, width_in}
use Rattle.node_emit.specs.Law.{is_empty}
use Rattle.emit_laws.proofs.Parts.{Setup, Lie, count_of}
use Rattle.emit_laws.proofs.Items.{Item, glue, item_of, total, total_append, items, items_all, items_in}
use Rattle.emit_laws.proofs.Placed.{actions_some, tests_some, sum2, item_total, total_is, totals_are, HasItems, front, back, ActFormed, Formed, FormedAll, run_of, act_lies, jump_lies, lies, all_lie}

module _ (plan : Plan) where
  pub total_in : (d : Does) (k s out again pc : ℕ) → total plan (items_in plan d k s out again pc) ≡ width_in plan d k
  total_in nothing k s out again pc = refl
  total_in break k s out again pc = refl
  total_in continue k s out again pc = refl
  total_in (then_ a b) k s out again pc = sum2 plan _ _ _ _ (total_in a k s out again pc) (total_in b _ _ out again _)
  total_in (act a arguments line) k s out again pc =
      let r = actions_some (suc (s + accesses_all arguments)) a in
      sum2 plan _ _ _ _ (totals_are plan arguments k s pc)
      (item_total plan (k + sizes arguments) line (ops_of_action (suc (s + accesses_all arguments)) a) r.0 ∙ ap (run_width plan (k + sizes arguments)) r.1)
  total_in (choose of_pointer test on off) k s out again pc =
      let t = k + size test in
      let s' = s + accesses test in
      let at_on = pc + width plan test k + run_width plan t (test_width of_pointer) in
      let at_off = at_on + width_in plan on (t + 1) + 1 in
      let r = tests_some of_pointer at_off in
      let f = total_in off (t + 1 + size_of on) (s' + accesses_in on) out again at_off in
      let h : total plan (items_in plan (choose of_pointer test on off) k s out again pc)
      ≡ width plan test k + run_width plan t (test_width of_pointer) + width_in plan on (t + 1) + (1 + width_in plan off (t + 1 + size_of on)) =
      sum2 plan _ _ _ _ (sum2 plan _ _ _ _ (sum2 plan _ _ _ _ (total_is plan test k s pc) (item_total plan t 0 (test_ops of_pointer at_off) r.0 ∙ ap (run_width plan t) r.1))
      (total_in on (t + 1) s' out again at_on)) (ap (λ n. 1 + n) f) in
      omega (arith, h)
  total_in (loop mine before body after) k s out again pc =
      let t = k + size_of before in
      let u = t + 1 + size_of body in
      let s_body = s + accesses_in before in
      let at_body = pc + width_in plan before k + run_width plan t 1 in
      let at_after = at_body + width_in plan body (t + 1) in
      let end = at_after + width_in plan after u + 1 in
      sum2 plan _ _ _ _ (sum2 plan _ _ _ _ (sum2 plan _ _ _ _ (sum2 plan _ _ _ _ (total_in before k s end again pc) (item_total plan t 0 (op.Turn ∷ []) tt))
      (total_in body (t + 1) s_body end at_after at_body)) (total_in after u (s_body + accesses_in body) end again at_after)) refl
  total_in (return e line) k s out again pc = sum2 plan _ _ _ _ (total_is plan e k s pc) (item_total plan (k + size e) line (op.Ret ∷ []) tt)

module _ (c : Setup) (plan : Plan) (waits : (t : ℕ) → c.waits t ≡ waits_at plan t) (one_way : (site : ℕ) → c.one_way site ≡ goes_one_way plan site) where
  abbrev H : ℕ → List Item → Type 0
  H = HasItems c plan waits one_way

  abbrev F : Core → (k s : ℕ) → Type 0
  F = Formed c plan waits one_way

  abbrev Full : ℕ → Type 0
  Full t = is_empty c.here.program t ≡ false

  -- the statement is formed as its code wants it
  abbrev pub FormedIn : Does → (k s : ℕ) → Type 0
  FormedIn nothing k s = Unit {0}
  FormedIn break k s = Unit {0}
  FormedIn continue k s = Unit {0}
  FormedIn (then_ a b) k s = FormedIn a k s × FormedIn b (k + size_of a) (s + accesses_in a)
  FormedIn (act a arguments line) k s =
      FormedAll c plan waits one_way arguments k s
      × ActFormed c plan waits one_way a (count_of arguments) (k + sizes arguments) (suc (s + accesses_all arguments))
  FormedIn (choose of_pointer test on off) k s =
      let t = k + size test in
      let s' = s + accesses test in
      F test k s × Full t × FormedIn on (t + 1) s' × FormedIn off (t + 1 + size_of on) (s' + accesses_in on)
  FormedIn (loop mine before body after) k s =
      let t = k + size_of before in
      let u = t + 1 + size_of body in
      let s_body = s + accesses_in before in
      FormedIn before k s × Full t × FormedIn body (t + 1) s_body × FormedIn after u (s_body + accesses_in body)
  FormedIn (return e line) k s = F e k s × Full (k + size e)

  fr : (pc : ℕ) (a b : List Item) → H pc (a ++ b) → H pc a
  fr = front c plan waits one_way

  bk : (pc q : ℕ) (a b : List Item) → q ≡ pc + total plan a → H pc (a ++ b) → H q b
  bk = back c plan waits one_way

  pub lie : (d : Does) (k s out again pc end : ℕ) → FormedIn d k s → H pc (items_in plan d k s out again pc) → end ≡ pc + width_in plan d k
      → Lie c d k s out again pc end
  lie nothing k s out again pc end formed h e = omega (arith, e)
  lie break k s out again pc end formed h e = (jump_lies c plan waits one_way pc out out refl h.0, e)
  lie continue k s out again pc end formed h e = (jump_lies c plan waits one_way pc again again refl h.0, e)
  lie (then_ a b) k s out again pc end formed h e =
      let p = pc + width_in plan a k in
      let x = items_in plan a k s out again pc in
      let y = items_in plan b (k + size_of a) (s + accesses_in a) out again p in (
        p,
        lie a k s out again pc p formed.0 (fr pc x y h) refl,
        lie b (k + size_of a) (s + accesses_in a) out again p end formed.1 (bk pc p x y (ap (λ n. pc + n) (sym (total_in plan a k s out again pc))) h) (omega (arith, e)),
      )
  lie (act a arguments line) k s out again pc end formed h e =
      let p = pc + widths plan arguments k in
      let t = k + sizes arguments in
      let site = suc (s + accesses_all arguments) in
      let x = items_all plan arguments k s pc in
      let y = item_of t line (ops_of_action site a) in (
        p,
        all_lie c plan waits one_way arguments k s pc p formed.0 (fr pc x y h) refl,
        act_lies c plan waits one_way a (count_of arguments) t site p line end formed.1 (bk pc p x y (ap (λ n. pc + n) (sym (totals_are plan arguments k s pc))) h) (omega (arith, e)),
      )
  lie (choose of_pointer test on off) k s out again pc end formed h e =
      let t = k + size test in
      let s' = s + accesses test in
      let at_on = pc + width plan test k + run_width plan t (test_width of_pointer) in
      let at_off = at_on + width_in plan on (t + 1) + 1 in
      let to = at_off + width_in plan off (t + 1 + size_of on) in
      let p = pc + width plan test k in
      let v = at_on + width_in plan on (t + 1) in
      let r = tests_some of_pointer at_off in
      let a1 = items plan test k s pc in
      let a2 = item_of t 0 (test_ops of_pointer at_off) in
      let a3 = items_in plan on (t + 1) s' out again at_on in
      let a4 = glue (op.Jump to) ∷ items_in plan off (t + 1 + size_of on) (s' + accesses_in on) out again at_off in
      let e1 = total_is plan test k s pc in
      let e2 = item_total plan t 0 (test_ops of_pointer at_off) r.0 ∙ ap (run_width plan t) r.1 in
      let e3 = total_in plan on (t + 1) s' out again at_on in
      let f12 = total_append plan a1 a2 in
      let f123 = total_append plan (a1 ++ a2) a3 in
      let h123 = fr pc ((a1 ++ a2) ++ a3) a4 h in
      let h12 = fr pc (a1 ++ a2) a3 h123 in
      let h4 = bk pc v ((a1 ++ a2) ++ a3) a4 (omega (arith, e1, e2, e3, f12, f123)) h in (
        p,
        at_on,
        at_off,
        v,
        lies c plan waits one_way test k s pc p formed.0 (fr pc a1 a2 h12) refl,
        run_of c plan waits one_way t 0 p at_on (test_ops of_pointer at_off) r.0 formed.1 (bk pc p a1 a2 (omega (arith, e1)) h12) (ap (λ n. p + run_width plan t n) (sym r.1)),
        lie on (t + 1) s' out again at_on v formed.2 (bk pc at_on (a1 ++ a2) a3 (omega (arith, e1, e2, f12)) h123) refl,
        jump_lies c plan waits one_way v to end (omega (arith, e)) h4.0,
        lie off (t + 1 + size_of on) (s' + accesses_in on) out again at_off end formed.3 h4.1 (omega (arith, e)),
      )
  lie (loop mine before body after) k s out again pc end formed h e =
      let t = k + size_of before in
      let u = t + 1 + size_of body in
      let s_body = s + accesses_in before in
      let at_body = pc + width_in plan before k + run_width plan t 1 in
      let at_after = at_body + width_in plan body (t + 1) in
      let over = at_after + width_in plan after u + 1 in
      let p = pc + width_in plan before k in
      let v = at_after + width_in plan after u in
      let same : over ≡ end = omega (arith, e) in
      let h' : H pc (items_in plan (loop mine before body after) k s out again pc) = h in
      let a1 = items_in plan before k s over again pc in
      let a2 = item_of t 0 (op.Turn ∷ []) in
      let a3 = items_in plan body (t + 1) s_body over at_after at_body in
      let a4 = items_in plan after u (s_body + accesses_in body) over again at_after in
      let a5 = glue (op.Jump pc) ∷ [] in
      let e1 = total_in plan before k s over again pc in
      let e2 = item_total plan t 0 (op.Turn ∷ []) tt in
      let e3 = total_in plan body (t + 1) s_body over at_after at_body in
      let e4 = total_in plan after u (s_body + accesses_in body) over again at_after in
      let f2 = total_append plan a1 a2 in
      let f3 = total_append plan (a1 ++ a2) a3 in
      let f4 = total_append plan ((a1 ++ a2) ++ a3) a4 in
      let h4 = fr pc (((a1 ++ a2) ++ a3) ++ a4) a5 h in
      let h3 = fr pc ((a1 ++ a2) ++ a3) a4 h4 in
      let h2 = fr pc (a1 ++ a2) a3 h3 in
      let h5 = bk pc v (((a1 ++ a2) ++ a3) ++ a4) a5 (omega (arith, e1, e2, e3, e4, f2, f3, f4)) h in
      subst (λ x. Lie c (loop mine before body after) k s out again pc x) same (
        p,
        at_body,
        at_after,
        v,
        lie before k s over again pc p formed.0 (fr pc a1 a2 h2) refl,
        run_of c plan waits one_way t 0 p at_body (op.Turn ∷ []) tt formed.1 (bk pc p a1 a2 (omega (arith, e1)) h2) refl,
        lie body (t + 1) s_body over at_after at_body at_after formed.2 (bk pc at_body (a1 ++ a2) a3 (omega (arith, e1, e2, f2)) h3) refl,
        lie after u (s_body + accesses_in body) over again at_after v formed.3 (bk pc at_after ((a1 ++ a2) ++ a3) a4 (omega (arith, e1, e2, e3, f2, f3)) h4) refl,
        jump_lies c plan waits one_way v pc pc refl h5.0,
      )
  lie (return e line) k s out again pc end formed h eq =
      let p = pc + width plan e k in
      let a = items plan e k s pc in
      let b = item_of (k + size e) line (op.Ret ∷ []) in (
        p,
        lies c plan waits one_way e k s pc p formed.0 (fr pc a b h) refl,
        run_of c plan waits one_way (k + size e) line p end (op.Ret ∷ []) tt formed.1 (bk pc p a b (ap (λ n. pc + n) (sym (total_is plan e k s pc))) h) (omega (arith, eq)),
      )
