-- The code lies as its runs want it: from the items that stand in the code.
use Rattle.std.proofs.Common.{◌≡◌, ℕ, suc, ◌+◌, List, [], ◌∷◌, ◌++◌, length, Option, Some, None, Bool, true, false, refl, sym, ap, ◌∙◌, subst, arith}
use Rattle.sc_isa.specs.declared.op.Op.{Op}
use Rattle.sc_isa.specs.declared.op.Op.TheVariants as op
use Rattle.sc_core.specs.declared.operation.Operation.{Operation}
use Rattle.sc_core.specs.declared.operation.Operation.TheVariants as does
use Rattle.sc_core.specs.declared.operation.Action.{Action}
use Rattle.sc_core.specs.declared.operation.Action.TheVariants as acts
use Rattle.sc_core.specs.Core.{Core, constant, step, choice, update, Arguments, none, argument}
use Rattle.sc_core.specs.Table.{ops_of, ops_of_action, write_op}
use Rattle.sc_meaning.specs.Points.{size, sizes}
use Rattle.meaning_laws.specs.StepTable.{arguments_of, arguments_of_action, IsAtSite, ActsAtSite, HasRow}
use Rattle.flow_form.specs.Accesses.{accesses, accesses_all, accesses_by}
use Rattle.site_graph.specs.declared.plan.Plan.{Plan}
use Rattle.site_graph.specs.Plans.{waits_at}
use Rattle.node_emit.specs.Runs.{goes_one_way, run_width, constant_op, test_ops, test_width}
use Rattle.node_emit.specs.Widths.{ops_width, action_width, back_width, width, widths}
use Rattle.node_emit.specs.Law.{is_empty}
use Rattle.emit_laws.proofs.Parts.{Setup, RunAt, PointAt, OutsideAt, JumpAt, StepAt, ActAt, BackAt, Lies, LieAll, count_of}
use Rattle.emit_laws.proofs.Items.{Item, glue, runs, item_of, item_width, total, total_append, step_items, back_items, items, items_all}

abbrev pub IsSome_ : List Op → Type 0
IsSome_ [] = ⊥
IsSome_ (o ∷ ops) = Unit {0}

pub ops_some : (b : Bool) (site : ℕ) (o : Operation) → IsSome_ (ops_of b site o) × (length (ops_of b site o) ≡ ops_width o)
ops_some b site (does.Use x) = (tt, refl)
ops_some b site (does.Element o n plain) = (tt, refl)
ops_some b site (does.Address o n) = (tt, refl)
ops_some b site does.Own = (tt, refl)
ops_some b site does.Convert = (tt, refl)
ops_some b site (does.Forward star) = (tt, refl)
ops_some b site (does.Back star) = (tt, refl)
ops_some b site (does.Binary operator) = (tt, refl)
ops_some b site (does.Unary operator) = (tt, refl)
ops_some b site does.Same = (tt, refl)
ops_some b site does.Differ = (tt, refl)
ops_some b site does.IsNull = (tt, refl)
ops_some b site does.ToGlobal = (tt, refl)
ops_some b site does.ToProc = (tt, refl)
ops_some b site does.ToLocal = (tt, refl)
ops_some b site (does.Set x) = (tt, refl)
ops_some b site (does.Call f n) = (tt, refl)
ops_some b site does.Read = (tt, refl)
ops_some b site does.Write = (tt, refl)

pub actions_some : (site : ℕ) (a : Action) → IsSome_ (ops_of_action site a) × (length (ops_of_action site a) ≡ action_width a)
actions_some site acts.Drop = (tt, refl)
actions_some site (acts.Begin x) = (tt, refl)
actions_some site (acts.Clear x pointer) = (tt, refl)
actions_some site (acts.Fill x) = (tt, refl)
actions_some site (acts.Get x) = (tt, refl)
actions_some site acts.Put = (tt, refl)
actions_some site acts.Send = (tt, refl)
actions_some site (acts.Copy mode) = (tt, refl)
actions_some site (acts.Print text n) = (tt, refl)
actions_some site acts.Sync = (tt, refl)
actions_some site acts.Barrier = (tt, refl)
actions_some site acts.AllStoreSync = (tt, refl)

pub tests_some : (of_pointer : Bool) (target : ℕ) → IsSome_ (test_ops of_pointer target) × (length (test_ops of_pointer target) ≡ test_width of_pointer)
tests_some true target = (tt, refl)
tests_some false target = (tt, refl)

module _ (plan : Plan) where
  pub sum2 : (a b : List Item) (x y : ℕ) → total plan a ≡ x → total plan b ≡ y → total plan (a ++ b) ≡ x + y
  sum2 a b x y e f = let h = total_append plan a b in omega (arith, h, e, f)

  pub item_total : (t line : ℕ) (ops : List Op) → IsSome_ ops → total plan (item_of t line ops) ≡ run_width plan t (length ops)
  item_total t line [] h = absurd h
  item_total t line (o ∷ more) h = omega arith

  pub step_total : (o : Operation) (line t s : ℕ) → total plan (step_items plan o line t s) ≡ run_width plan t (ops_width o)
  step_total o line t s =
      let h = ops_some (goes_one_way plan (suc s)) (suc s) o in
      item_total t line (ops_of (goes_one_way plan (suc s)) (suc s) o) h.0 ∙ ap (run_width plan t) h.1

  back_total : (back : Option Operation) (line t s : ℕ) → total plan (back_items plan back line t s) ≡ back_width plan back t
  back_total None line t s = refl
  back_total (Some o) line t s = ap (λ n. 1 + n) (step_total o line t s)

  mutual
    pub total_is : (e : Core) (k s pc : ℕ) → total plan (items plan e k s pc) ≡ width plan e k
    total_is (constant v) k s pc = refl
    total_is (step o arguments line) k s pc = sum2 _ _ _ _ (totals_are arguments k s pc) (step_total o line _ _)
    total_is (choice of_pointer test on off) k s pc =
        let t = k + size test in
        let s' = s + accesses test in
        let at_on = pc + width plan test k + run_width plan t (test_width of_pointer) in
        let at_off = at_on + width plan on (t + 1) + 1 in
        let r = tests_some of_pointer at_off in
        let f = total_is off (t + 1 + size on) (s' + accesses on) at_off in
        let h : total plan (items plan (choice of_pointer test on off) k s pc)
        ≡ width plan test k + run_width plan t (test_width of_pointer) + width plan on (t + 1) + (1 + width plan off (t + 1 + size on)) =
        sum2 _ _ _ _ (sum2 _ _ _ _ (sum2 _ _ _ _ (total_is test k s pc) (item_total t 0 (test_ops of_pointer at_off) r.0 ∙ ap (run_width plan t) r.1)) (total_is on (t + 1) s' at_on))
        (ap (λ n. 1 + n) f) in
        omega (arith, h)
    total_is (update pointer o right back line) k s pc =
        let t = k + size pointer in
        let u = t + 1 + size right in
        let read = s + accesses pointer in
        let join = read + 1 + accesses right in
        let write = join + accesses_by o in
        let at_right = pc + width plan pointer k + 1 + run_width plan t 1 in
        let h : total plan (items plan (update pointer o right back line) k s pc)
        ≡ width plan pointer k + (1 + run_width plan t 1) + width plan right (t + 1) + run_width plan u (ops_width o) + run_width plan (u + 1) 1 + back_width plan back (u + 2) =
        sum2 _ _ _ _ (sum2 _ _ _ _ (sum2 _ _ _ _ (sum2 _ _ _ _ (sum2 _ _ _ _ (total_is pointer k s pc) (ap (λ n. 1 + n) (item_total t line (op.Read (suc read) ∷ []) tt)))
        (total_is right (t + 1) (read + 1) at_right)) (step_total o line u join)) (item_total (u + 1) line (write_op (goes_one_way plan (suc write)) (suc write) ∷ []) tt))
        (back_total back line (u + 2) (write + 1)) in
        omega (arith, h)

    pub totals_are : (es : Arguments) (k s pc : ℕ) → total plan (items_all plan es k s pc) ≡ widths plan es k
    totals_are none k s pc = refl
    totals_are (argument e more) k s pc = sum2 _ _ _ _ (total_is e k s pc) (totals_are more _ _ _)

module _ (c : Setup) (plan : Plan) (waits : (t : ℕ) → c.waits t ≡ waits_at plan t) (one_way : (site : ℕ) → c.one_way site ≡ goes_one_way plan site) where
  -- the items stand in the code from here on
  abbrev pub ItemAt : ℕ → Item → Type 0
  ItemAt pc (glue o) = OutsideAt c pc o (pc + 1)
  ItemAt pc (runs t line o more) = RunAt c t 0 pc (waits_at plan t) (o ∷ more) line (pc + run_width plan t (length (o ∷ more)))

  abbrev pub HasItems : ℕ → List Item → Type 0
  HasItems pc [] = Unit {0}
  HasItems pc (i ∷ is) = ItemAt pc i × HasItems (pc + item_width plan i) is

  pub front : (pc : ℕ) (a b : List Item) → HasItems pc (a ++ b) → HasItems pc a
  front pc [] b h = tt
  front pc (i ∷ a) b h = (h.0, front (pc + item_width plan i) a b h.1)

  pub back : (pc q : ℕ) (a b : List Item) → q ≡ pc + total plan a → HasItems pc (a ++ b) → HasItems q b
  back pc q [] b e h = let f : pc ≡ q = omega (arith, e) in subst (λ n. HasItems n b) f h
  back pc q (i ∷ a) b e h = back (pc + item_width plan i) q a b (omega (arith, e)) h.1

  -- the part is formed as its code wants it
  abbrev pub StepFormed : Operation → (count t site : ℕ) → Type 0
  StepFormed o count t site = (count ≡ arguments_of o) × IsAtSite c.code site o × HasRow c.code o × (is_empty c.here.program t ≡ false)

  abbrev pub ActFormed : Action → (count t site : ℕ) → Type 0
  ActFormed a count t site = (count ≡ arguments_of_action a) × ActsAtSite c.code site a × (is_empty c.here.program t ≡ false)

  abbrev pub BackFormed : Option Operation → (t s : ℕ) → Type 0
  BackFormed None t s = Unit {0}
  BackFormed (Some o) t s = StepFormed o 2 t (suc s)

  abbrev mutual
    pub Formed : Core → (k s : ℕ) → Type 0
    Formed (constant v) k s = Unit {0}
    Formed (step o arguments line) k s = FormedAll arguments k s × StepFormed o (count_of arguments) (k + sizes arguments) (suc (s + accesses_all arguments))
    Formed (choice of_pointer test on off) k s =
        let t = k + size test in
        let s' = s + accesses test in
        Formed test k s × (is_empty c.here.program t ≡ false) × Formed on (t + 1) s' × Formed off (t + 1 + size on) (s' + accesses on)
    Formed (update pointer o right back line) k s =
        let t = k + size pointer in
        let u = t + 1 + size right in
        let read = s + accesses pointer in
        let join = read + 1 + accesses right in
        let write = join + accesses_by o in
        Formed pointer k s × StepFormed does.Read 1 t (suc read) × Formed right (t + 1) (read + 1) × StepFormed o 2 u (suc join)
        × StepFormed does.Write 2 (u + 1) (suc write) × BackFormed back (u + 2) (write + 1)

    pub FormedAll : Arguments → (k s : ℕ) → Type 0
    FormedAll none k s = Unit {0}
    FormedAll (argument e more) k s = Formed e k s × FormedAll more (k + size e) (s + accesses e)

  pub run_of : (t line pc end : ℕ) (ops : List Op) → IsSome_ ops → is_empty c.here.program t ≡ false → HasItems pc (item_of t line ops)
      → end ≡ pc + run_width plan t (length ops) → PointAt c t pc ops line end
  run_of t line pc end [] some full h e = absurd some
  run_of t line pc end (o ∷ more) some full h e = record {
    full = full;
    run = subst (λ ws. RunAt c t 0 pc ws (o ∷ more) line end) (sym (waits t)) (subst (λ e. RunAt c t 0 pc (waits_at plan t) (o ∷ more) line e) (sym e) h.0);
  }

  pub step_lies : (o : Operation) (count t s pc line end : ℕ) → StepFormed o count t (suc s) → HasItems pc (step_items plan o line t s)
      → end ≡ pc + run_width plan t (ops_width o) → StepAt c o count t (suc s) pc line end
  step_lies o count t s pc line end formed h e =
      let r = ops_some (goes_one_way plan (suc s)) (suc s) o in
      let ops = ops_of (goes_one_way plan (suc s)) (suc s) o in
      record {
        counted = formed.0;
        at_site = formed.1;
        row = formed.2;
        run = subst (λ b. PointAt c t pc (ops_of b (suc s) o) line end) (sym (one_way (suc s)))
            (run_of t line pc end ops r.0 formed.3 h (e ∙ ap (λ n. pc + run_width plan t n) (sym r.1)));
      }

  pub act_lies : (a : Action) (count t site pc line end : ℕ) → ActFormed a count t site → HasItems pc (item_of t line (ops_of_action site a))
      → end ≡ pc + run_width plan t (action_width a) → ActAt c a count t site pc line end
  act_lies a count t site pc line end formed h e =
      let r = actions_some site a in
      record {
        counted = formed.0;
        at_site = formed.1;
        run = run_of t line pc end (ops_of_action site a) r.0 formed.2 h (e ∙ ap (λ n. pc + run_width plan t n) (sym r.1));
      }

  pub outside_lies : (pc end : ℕ) (o : Op) → OutsideAt c pc o (pc + 1) → end ≡ pc + 1 → OutsideAt c pc o end
  outside_lies pc end o h e = subst (λ e. OutsideAt c pc o e) (sym e) h

  pub jump_lies : (pc target target' : ℕ) → target ≡ target' → OutsideAt c pc (op.Jump target) (pc + 1) → JumpAt c pc target'
  jump_lies pc target target' e h = subst (λ to. JumpAt c pc to) e (record { none = h.none; is = h.is })

  back_lies : (b : Option Operation) (t s pc line end : ℕ) → BackFormed b t s → HasItems pc (back_items plan b line t s) → end ≡ pc + back_width plan b t
      → BackAt c b t s pc line end
  back_lies None t s pc line end formed h e = omega (arith, e)
  back_lies (Some o) t s pc line end formed h e = (pc + 1, h.0, step_lies o 2 t s (pc + 1) line end formed h.1 (omega (arith, e)))

  mutual
    pub lies : (e : Core) (k s pc end : ℕ) → Formed e k s → HasItems pc (items plan e k s pc) → end ≡ pc + width plan e k → Lies c e k s pc end
    lies (constant v) k s pc end formed h e = outside_lies pc end (constant_op v) h.0 e
    lies (step o arguments line) k s pc end formed h e =
        let p = pc + widths plan arguments k in
        let first = items_all plan arguments k s pc in
        let rest = step_items plan o line (k + sizes arguments) (s + accesses_all arguments) in (
          p,
          all_lie arguments k s pc p formed.0 (front pc first rest h) refl,
          step_lies o (count_of arguments) (k + sizes arguments) (s + accesses_all arguments) p line end formed.1
              (back pc p first rest (ap (λ n. pc + n) (sym (totals_are plan arguments k s pc))) h) (omega (arith, e)),
        )
    lies (choice of_pointer test on off) k s pc end formed h e =
        let t = k + size test in
        let s' = s + accesses test in
        let at_on = pc + width plan test k + run_width plan t (test_width of_pointer) in
        let at_off = at_on + width plan on (t + 1) + 1 in
        let to = at_off + width plan off (t + 1 + size on) in
        let p = pc + width plan test k in
        let v = at_on + width plan on (t + 1) in
        let r = tests_some of_pointer at_off in
        let a1 = items plan test k s pc in
        let a2 = item_of t 0 (test_ops of_pointer at_off) in
        let a3 = items plan on (t + 1) s' at_on in
        let a4 = glue (op.Jump to) ∷ items plan off (t + 1 + size on) (s' + accesses on) at_off in
        let e1 = total_is plan test k s pc in
        let e2 = item_total plan t 0 (test_ops of_pointer at_off) r.0 ∙ ap (run_width plan t) r.1 in
        let e3 = total_is plan on (t + 1) s' at_on in
        let f12 = total_append plan a1 a2 in
        let f123 = total_append plan (a1 ++ a2) a3 in
        let h123 = front pc ((a1 ++ a2) ++ a3) a4 h in
        let h12 = front pc (a1 ++ a2) a3 h123 in
        let h4 = back pc v ((a1 ++ a2) ++ a3) a4 (omega (arith, e1, e2, e3, f12, f123)) h in (
          p,
          at_on,
          at_off,
          v,
          lies test k s pc p formed.0 (front pc a1 a2 h12) refl,
          run_of t 0 p at_on (test_ops of_pointer at_off) r.0 formed.1 (back pc p a1 a2 (omega (arith, e1)) h12) (ap (λ n. p + run_width plan t n) (sym r.1)),
          lies on (t + 1) s' at_on v formed.2 (back pc at_on (a1 ++ a2) a3 (omega (arith, e1, e2, f12)) h123) refl,
          jump_lies v to end (omega (arith, e)) h4.0,
          lies off (t + 1 + size on) (s' + accesses on) at_off end formed.3 h4.1 (omega (arith, e)),
        )
    lies (update pointer o right b line) k s pc end formed h e =
        let t = k + size pointer in
        let u = t + 1 + size right in
        let read = s + accesses pointer in
        let join = read + 1 + accesses right in
        let write = join + accesses_by o in
        let p = pc + width plan pointer k in
        let at_right = p + 1 + run_width plan t 1 in
        let v = at_right + width plan right (t + 1) in
        let x = v + run_width plan u (ops_width o) in
        let y = x + run_width plan (u + 1) 1 in
        let a1 = items plan pointer k s pc in
        let a2 = glue op.Dup ∷ item_of t line (op.Read (suc read) ∷ []) in
        let a3 = items plan right (t + 1) (read + 1) at_right in
        let a4 = step_items plan o line u join in
        let a5 = item_of (u + 1) line (write_op (goes_one_way plan (suc write)) (suc write) ∷ []) in
        let a6 = back_items plan b line (u + 2) (write + 1) in
        let e1 = total_is plan pointer k s pc in
        let e2 = item_total plan t line (op.Read (suc read) ∷ []) tt in
        let e3 = total_is plan right (t + 1) (read + 1) at_right in
        let e4 = step_total plan o line u join in
        let e5 = item_total plan (u + 1) line (write_op (goes_one_way plan (suc write)) (suc write) ∷ []) tt in
        let f2 = total_append plan a1 a2 in
        let f3 = total_append plan (a1 ++ a2) a3 in
        let f4 = total_append plan ((a1 ++ a2) ++ a3) a4 in
        let f5 = total_append plan (((a1 ++ a2) ++ a3) ++ a4) a5 in
        let h5 = front pc ((((a1 ++ a2) ++ a3) ++ a4) ++ a5) a6 h in
        let h4 = front pc (((a1 ++ a2) ++ a3) ++ a4) a5 h5 in
        let h3 = front pc ((a1 ++ a2) ++ a3) a4 h4 in
        let h2 = front pc (a1 ++ a2) a3 h3 in
        let g2 = back pc p a1 a2 (omega (arith, e1)) h2 in (
          p,
          p + 1,
          at_right,
          v,
          x,
          y,
          lies pointer k s pc p formed.0 (front pc a1 a2 h2) refl,
          g2.0,
          step_lies does.Read 1 t read (p + 1) line at_right formed.1 g2.1 refl,
          lies right (t + 1) (read + 1) at_right v formed.2 (back pc at_right (a1 ++ a2) a3 (omega (arith, e1, e2, f2)) h3) refl,
          step_lies o 2 u join v line x formed.3 (back pc v ((a1 ++ a2) ++ a3) a4 (omega (arith, e1, e2, e3, f2, f3)) h4) refl,
          step_lies does.Write 2 (u + 1) write x line y formed.4 (back pc x (((a1 ++ a2) ++ a3) ++ a4) a5 (omega (arith, e1, e2, e3, e4, f2, f3, f4)) h5) refl,
          back_lies b (u + 2) (write + 1) y line end formed.5 (back pc y ((((a1 ++ a2) ++ a3) ++ a4) ++ a5) a6 (omega (arith, e1, e2, e3, e4, e5, f2, f3, f4, f5)) h) (omega (arith, e)),
        )

    pub all_lie : (es : Arguments) (k s pc end : ℕ) → FormedAll es k s → HasItems pc (items_all plan es k s pc) → end ≡ pc + widths plan es k → LieAll c es k s pc end
    all_lie none k s pc end formed h e = omega (arith, e)
    all_lie (argument x more) k s pc end formed h e =
        let p = pc + width plan x k in
        let a = items plan x k s pc in
        let b = items_all plan more (k + size x) (s + accesses x) p in (
          p,
          lies x k s pc p formed.0 (front pc a b h) refl,
          all_lie more (k + size x) (s + accesses x) p end formed.1 (back pc p a b (ap (λ n. pc + n) (sym (total_is plan x k s pc))) h) (omega (arith, e)),
        )
