-- The code of an expression leads forward only: where numbers fall from each of its instructions to each behind it,
-- its steps
-- make them fall.
use Rattle.std.proofs.Common.{◌≡◌, ℕ, suc, ◌+◌, ◌<◌, ◌≤◌, List, [], ◌∷◌, ◌++◌, length, map, Option, Some, None, Bool, true, false, refl, subst, arith}
use Rattle.sc_isa.specs.declared.op.Instr.{Instr}
use Rattle.sc_isa.specs.declared.op.Op.{Op}
use Rattle.sc_isa.specs.declared.op.Op.TheVariants as op
use Rattle.sc_isa.specs.Sound.{is_bounded}
use Rattle.sc_core.specs.declared.operation.Constant.{Constant}
use Rattle.sc_core.specs.declared.operation.Constant.TheVariants as constants
use Rattle.sc_core.specs.declared.operation.Operation.{Operation}
use Rattle.sc_core.specs.declared.operation.Operation.TheVariants as does
use Rattle.sc_core.specs.declared.operation.Action.{Action}
use Rattle.sc_core.specs.declared.operation.Action.TheVariants as acts
use Rattle.sc_core.specs.Core.{Core, constant, step, choice, update, Arguments, none, argument}
use Rattle.sc_core.specs.Table.{ops_of, ops_of_action, write_op}
use Rattle.sc_meaning.specs.Points.{size, sizes}
use Rattle.flow_form.specs.Accesses.{accesses, accesses_all, accesses_by}
use Rattle.site_graph.specs.declared.plan.Plan.{Plan}
use Rattle.site_graph.specs.Plans.{waits_at}
use Rattle.node_emit.specs.Runs.{goes_one_way, instr, outside, run, run_width, constant_op, test_ops, test_width}
use Rattle.node_emit.specs.Widths.{ops_width, action_width, back_width, width, widths}
use Rattle.node_emit.specs.Expressions.{step_code, back_code, code, code_all}
use Rattle.node_emit.proofs.Lengths.{length-ops, length-action}
use Rattle.code_soundness.proofs.Nexts.{LeadsTo}

-- it leads to the next instruction of the text, or is a turn, a call or a return
abbrev pub IsPlain : Op → Type 0
IsPlain (op.Jump target) = ⊥
IsPlain (op.Zero target) = ⊥
IsPlain _ = Unit {0}

abbrev pub ArePlain : List Op → Type 0
ArePlain [] = Unit {0}
ArePlain (o ∷ ops) = IsPlain o × ArePlain ops

write_plain : (w : Bool) (site : ℕ) → ArePlain (write_op w site ∷ [])
write_plain true site = (tt, tt)
write_plain false site = (tt, tt)

ops_plain : (w : Bool) (site : ℕ) (operation : Operation) → ArePlain (ops_of w site operation)
ops_plain w site (does.Back star) = (tt, (tt, tt))
ops_plain w site does.Differ = (tt, (tt, tt))
ops_plain w site does.IsNull = (tt, (tt, tt))
ops_plain w site does.Write = write_plain w site
ops_plain w site _ = (tt, tt)

action_plain : (site : ℕ) (a : Action) → ArePlain (ops_of_action site a)
action_plain site (acts.Begin x) = (tt, (tt, tt))
action_plain site _ = (tt, tt)

constant_plain : (v : Constant) → IsPlain (constant_op v)
constant_plain (constants.Number n) = tt
constant_plain constants.Null = tt
constant_plain constants.Mine = tt
constant_plain constants.Procs = tt

module _ (numbers : ℕ → ℕ) where
  -- the instruction makes the numbers fall, if it is no turn, call or return
  abbrev pub Falls : (pc : ℕ) → Op → Type 0
  Falls pc o = is_bounded o ≡ false → LeadsTo (λ x. numbers x < numbers pc) (pc + 1) o

  abbrev pub FallsFrom : (pc : ℕ) → List Instr → Type 0
  FallsFrom pc [] = Unit {0}
  FallsFrom pc (i ∷ more) = Falls pc i.op × FallsFrom (pc + 1) more

  -- the instructions reach from pc to the end, and each makes the numbers fall
  pub record Over (pc end : ℕ) (some : List Instr) : Type 0 where
    pub reach : end ≡ pc + length some
    pub fall : FallsFrom pc some

  pub over_none : (pc : ℕ) → Over pc pc []
  over_none pc = record { reach = omega arith; fall = tt }

  pub over_more : (pc end : ℕ) (i : Instr) (more : List Instr) → Falls pc i.op → Over (pc + 1) end more
      → Over pc end (i ∷ more)
  over_more pc end i more h o = record { reach = omega (arith, o.reach); fall = (h, o.fall) }

  pub over_on : (pc q end : ℕ) (a b : List Instr) → Over pc q a → Over q end b → Over pc end (a ++ b)
  over_on pc q end [] b o h = let same : q ≡ pc = omega (arith, o.reach) in
      record { reach = omega (arith, o.reach, h.reach); fall = subst_fall same h.fall }
    where
      subst_fall : q ≡ pc → FallsFrom q b → FallsFrom pc b
      subst_fall e h = subst (λ n. FallsFrom n b) e h
  over_on pc q end (i ∷ a) b o h =
      over_more pc end i (a ++ b) o.fall.0 (over_on (pc + 1) q end a b
      (record { reach = omega (arith, o.reach); fall = o.fall.1 }) h)

  pub over_to : (pc end other : ℕ) (a : List Instr) → end ≡ other → Over pc end a → Over pc other a
  over_to pc end other a e o = record { reach = omega (arith, e, o.reach); fall = o.fall }

  -- from each instruction the numbers fall to each behind it, up to the end
  abbrev pub Down : (pc end : ℕ) → Type 0
  Down pc end = (x y : ℕ) → pc ≤ x → x < y → y ≤ end → numbers y < numbers x

  pub within : (pc end p q : ℕ) → pc ≤ p → q ≤ end → Down pc end → Down p q
  within pc end p q a b down x y c d e = down x y (omega (arith, a, c)) d (omega (arith, b, e))

  -- ---- runs

  pub plain_falls : (pc : ℕ) (o : Op) → IsPlain o → numbers (pc + 1) < numbers pc → Falls pc o
  plain_falls pc (op.Jump t) p h b = absurd p
  plain_falls pc (op.Zero t) p h b = absurd p
  plain_falls pc op.Turn p h b = absurd (cc)
  plain_falls pc (op.Call f) p h b = absurd (cc)
  plain_falls pc op.Ret p h b = absurd (cc)
  plain_falls pc _ p h b = h

  pub bounded_falls : (pc : ℕ) (o : Op) → is_bounded o ≡ true → Falls pc o
  bounded_falls pc o bounded b = absurd (cc)

  ops_over : (line pc end : ℕ) (ops : List Op) → ArePlain ops → end ≡ pc + length ops → Down pc end
      → Over pc end (map (instr line) ops)
  ops_over line pc end [] plain e down = over_to pc pc end [] (omega (arith, e)) (over_none pc)
  ops_over line pc end (o ∷ ops) plain e down =
      over_more pc end (instr line o) (map (instr line) ops)
      (plain_falls pc o plain.0 (down pc (pc + 1) (omega arith) (omega arith) (omega (arith, e))))
      (ops_over line (pc + 1) end ops plain.1 (omega (arith, e))
      (within pc end (pc + 1) end (omega arith) (omega arith) down))

  waits_over : (line pc end : ℕ) (waits : List ℕ) → end ≡ pc + length waits → Down pc end
      → Over pc end (map (λ site. instr line (op.Wait site)) waits)
  waits_over line pc end [] e down = over_to pc pc end [] (omega (arith, e)) (over_none pc)
  waits_over line pc end (w ∷ waits) e down =
      over_more pc end (instr line (op.Wait w)) (map (λ site. instr line (op.Wait site)) waits)
      (λ b. down pc (pc + 1) (omega arith) (omega arith) (omega (arith, e)))
      (waits_over line (pc + 1) end waits (omega (arith, e))
      (within pc end (pc + 1) end (omega arith) (omega arith) down))

  module _ (plan : Plan) where
    -- the run of plain instructions
    pub run_over : (t line pc end : ℕ) (ops : List Op) → ArePlain ops → end ≡ pc + run_width plan t (length ops)
        → Down pc end
        → Over pc end (run plan t line ops)
    run_over t line pc end ops plain e down =
        let q = pc + length (waits_at plan t) in
        over_on pc q end _ _
        (waits_over line pc q (waits_at plan t) refl (within pc end pc q (omega arith) (omega (arith, e)) down))
        (ops_over line q end ops plain (omega (arith, e)) (within pc end q end (omega arith) (omega arith) down))

    -- the run of a turn, a call or a return, whose own step need not make the numbers fall
    pub last_over : (t line pc last end : ℕ) (o : Op) → is_bounded o ≡ true → end ≡ pc + run_width plan t 1
        → last + 1 ≡ end → Down pc last
        → Over pc end (run plan t line (o ∷ []))
    last_over t line pc last end o bounded e f down =
        let q = pc + length (waits_at plan t) in
        over_on pc q end _ _
        (waits_over line pc q (waits_at plan t) refl (within pc last pc q (omega arith) (omega (arith, e, f)) down))
        (over_more q end (instr line o) [] (bounded_falls q o bounded)
        (over_to (q + 1) (q + 1) end [] (omega (arith, e)) (over_none (q + 1))))

    -- the run of a test, from which the numbers fall to the target
    pub test_over : (of_pointer : Bool) (target t pc end : ℕ) → end ≡ pc + run_width plan t (test_width of_pointer)
        → Down pc end
        → ((x : ℕ) → pc ≤ x → x < end → numbers target < numbers x)
        → Over pc end (run plan t 0 (test_ops of_pointer target))
    test_over true target t pc end e down low =
        let q = pc + length (waits_at plan t) in
        over_on pc q end _ _
        (waits_over 0 pc q (waits_at plan t) refl (within pc end pc q (omega arith) (omega (arith, e)) down))
        (over_more q end _ _ (λ b. down q (q + 1) (omega arith) (omega arith) (omega (arith, e)))
        (over_more (q + 1) end _ _
        (λ b. (
          low (q + 1) (omega arith) (omega (arith, e)),
          down (q + 1) (q + 1 + 1) (omega arith) (omega arith)
              (omega (arith, e)),
        ))
        (over_to (q + 1 + 1) (q + 1 + 1) end [] (omega (arith, e)) (over_none (q + 1 + 1)))))
    test_over false target t pc end e down low =
        let q = pc + length (waits_at plan t) in
        over_on pc q end _ _
        (waits_over 0 pc q (waits_at plan t) refl (within pc end pc q (omega arith) (omega (arith, e)) down))
        (over_more q end _ _ (λ b. (
          low q (omega arith) (omega (arith, e)),
          down q (q + 1) (omega arith)
              (omega arith) (omega (arith, e)),
        ))
        (over_to (q + 1) (q + 1) end [] (omega (arith, e)) (over_none (q + 1))))

    step_over : (operation : Operation) (line t s pc end : ℕ) → end ≡ pc + run_width plan t (ops_width operation)
        → Down pc end
        → Over pc end (step_code plan operation line t s)
    step_over operation line t s pc end e down =
        let w = goes_one_way plan (suc s) in
        let same = length-ops w (suc s) operation in
        run_over t line pc end (ops_of w (suc s) operation) (ops_plain w (suc s) operation)
        (omega (arith, e, same)) down

    pub action_over : (action : Action) (site line t pc end : ℕ) → end ≡ pc + run_width plan t (action_width action)
        → Down pc end
        → Over pc end (run plan t line (ops_of_action site action))
    action_over action site line t pc end e down =
        let same = length-action site action in
        run_over t line pc end (ops_of_action site action) (action_plain site action) (omega (arith, e, same)) down

    pub outside_over : (pc : ℕ) (v : Constant) → numbers (pc + 1) < numbers pc
        → Over pc (pc + 1) (outside (constant_op v) ∷ [])
    outside_over pc v h = over_more pc (pc + 1) _ [] (plain_falls pc (constant_op v) (constant_plain v) h)
        (over_none (pc + 1))

    back_over : (back : Option Operation) (line t s pc end : ℕ) → end ≡ pc + back_width plan back t → Down pc end
        → Over pc end (back_code plan back line t s)
    back_over None line t s pc end e down = over_to pc pc end [] (omega (arith, e)) (over_none pc)
    back_over (Some operation) line t s pc end e down =
        over_more pc end _ _ (λ b. down pc (pc + 1) (omega arith) (omega arith) (omega (arith, e)))
        (step_over operation line t s (pc + 1) end (omega (arith, e))
        (within pc end (pc + 1) end (omega arith) (omega arith) down))

    mutual
      pub code_over : (e : Core) (k s pc end : ℕ) → end ≡ pc + width plan e k → Down pc end
          → Over pc end (code plan e k s pc)
      code_over (constant v) k s pc end e down =
          over_to pc (pc + 1) end _ (omega (arith, e))
          (outside_over pc v (down pc (pc + 1) (omega arith) (omega arith) (omega (arith, e))))
      code_over (step operation arguments line) k s pc end e down =
          let p = pc + widths plan arguments k in
          over_on pc p end _ _
          (all_over arguments k s pc p refl (within pc end pc p (omega arith) (omega (arith, e)) down))
          (step_over operation line (k + sizes arguments) (s + accesses_all arguments) p end (omega (arith, e))
          (within pc end p end (omega arith) (omega arith) down))
      code_over (choice of_pointer test on off) k s pc end e down =
          let t = k + size test in
          let s' = s + accesses test in
          let p = pc + width plan test k in
          let at_on = p + run_width plan t (test_width of_pointer) in
          let v = at_on + width plan on (t + 1) in
          let at_off = v + 1 in
          let to = at_off + width plan off (t + 1 + size on) in
          over_on pc v end _ _
          (over_on pc at_on v _ _
          (over_on pc p at_on _ _
          (code_over test k s pc p refl (within pc end pc p (omega arith) (omega (arith, e)) down))
          (test_over of_pointer at_off t p at_on refl (within pc end p at_on (omega arith) (omega (arith, e)) down)
          (λ x a b. down x at_off (omega (arith, a)) (omega (arith, b)) (omega (arith, e)))))
          (code_over on (t + 1) s' at_on v refl (within pc end at_on v (omega arith) (omega (arith, e)) down)))
          (over_more v end (outside (op.Jump to)) (code plan off (t + 1 + size on) (s' + accesses on) at_off)
          (λ b. down v to (omega arith) (omega arith) (omega (arith, e)))
          (code_over off (t + 1 + size on) (s' + accesses on) at_off end (omega (arith, e))
          (within pc end at_off end (omega arith) (omega arith) down)))
      code_over (update pointer operation right back line) k s pc end e down =
          let t = k + size pointer in
          let u = t + 1 + size right in
          let read = s + accesses pointer in
          let join = read + 1 + accesses right in
          let write = join + accesses_by operation in
          let p = pc + width plan pointer k in
          let at_right = p + 1 + run_width plan t 1 in
          let v = at_right + width plan right (t + 1) in
          let x = v + run_width plan u (ops_width operation) in
          let y = x + run_width plan (u + 1) 1 in
          let narrow = λ (a b : ℕ) (from : pc ≤ a) (to : b ≤ end). within pc end a b from to down in
          over_on pc y end _ _
          (over_on pc x y _ _
          (over_on pc v x _ _
          (over_on pc at_right v _ _
          (over_on pc p at_right _ _
          (code_over pointer k s pc p refl (narrow pc p (omega arith) (omega (arith, e))))
          (over_more p at_right (outside op.Dup) (run plan t line (op.Read (suc read) ∷ []))
          (λ b. down p (p + 1) (omega arith) (omega arith) (omega (arith, e)))
          (run_over t line (p + 1) at_right (op.Read (suc read) ∷ []) (tt, tt) refl
          (narrow (p + 1) at_right (omega arith) (omega (arith, e))))))
          (code_over right (t + 1) (read + 1) at_right v refl (narrow at_right v (omega arith) (omega (arith, e)))))
          (step_over operation line u join v x refl (narrow v x (omega arith) (omega (arith, e)))))
          (run_over (u + 1) line x y (write_op (goes_one_way plan (suc write)) (suc write) ∷ [])
          (write_plain (goes_one_way plan (suc write)) (suc write)) refl
          (narrow x y (omega arith) (omega (arith, e)))))
          (back_over back line (u + 2) (write + 1) y end (omega (arith, e)) (narrow y end (omega arith) (omega arith)))

      pub all_over : (all : Arguments) (k s pc end : ℕ) → end ≡ pc + widths plan all k → Down pc end
          → Over pc end (code_all plan all k s pc)
      all_over none k s pc end e down = over_to pc pc end [] (omega (arith, e)) (over_none pc)
      all_over (argument x more) k s pc end e down =
          let p = pc + width plan x k in
          over_on pc p end _ _
          (code_over x k s pc p refl (within pc end pc p (omega arith) (omega (arith, e)) down))
          (all_over more (k + size x) (s + accesses x) p end (omega (arith, e))
          (within pc end p end (omega arith) (omega arith) down))
