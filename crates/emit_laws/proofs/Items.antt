-- Emitted code as items: instructions outside of the runs, and runs of points. From the items follow the instructions, the
-- pieces, and where each instruction stands.
use Rattle.std.proofs.Common.{◌≡◌, ℕ, suc, ◌+◌, List, [], ◌∷◌, ◌++◌, length, map, Option, Some, None, Bool, true, false, refl, sym, ap, ◌∙◌, arith}
use Rattle.std.specs.Prelude.{pos}
use Rattle.std.proofs.lemmas.List.{map-append}
use Rattle.sc_isa.specs.declared.op.Op.{Op}
use Rattle.sc_isa.specs.declared.op.Op.TheVariants as op
use Rattle.sc_isa.specs.declared.op.Instr.{Instr}
use Rattle.sc_core.specs.declared.operation.Operation.{Operation}
use Rattle.sc_core.specs.declared.operation.Operation.TheVariants as does
use Rattle.sc_core.specs.declared.operation.Action.{Action}
use Rattle.sc_core.specs.declared.operation.Action.TheVariants as acts
use Rattle.sc_core.specs.Core.{Core, constant, step, choice, update, Arguments, none, argument, Does, nothing, break, continue, then_, act, choose, loop, return, Function}
use Rattle.sc_core.specs.Statements.{zero_of}
use Rattle.sc_core.specs.Table.{ops_of, ops_of_action, write_op}
use Rattle.sc_meaning.specs.Points.{size, sizes, size_of}
use Rattle.flow_form.specs.Accesses.{accesses, accesses_all, accesses_by, accesses_in}
use Rattle.site_graph.specs.declared.plan.Plan.{Plan}
use Rattle.site_graph.specs.Plans.{waits_at}
use Rattle.node_emit.specs.Runs.{goes_one_way, instr, outside, run, run_width, constant_op, test_ops, test_width}
use Rattle.node_emit.specs.Widths.{width, width_in, width_of}
use Rattle.node_emit.specs.Expressions.{back_code, code, code_all}
use Rattle.node_emit.specs.Statements.{code_in}
use Rattle.node_emit.specs.Sources.{function_code, functions_code}
use Rattle.node_emit.specs.Spelled.{Piece, Outside, Opens, Within, spelled}
use Rattle.node_emit.specs.Stands.{Stands, waits_from, stands_from}

-- a run has its first instruction and further ones
pub data Item : Type 0 where
  glue : Op → Item
  runs : (t line : ℕ) → (first : Op) → (more : List Op) → Item

abbrev pub item_of : (t line : ℕ) → List Op → List Item
item_of t line [] = []
item_of t line (o ∷ more) = runs t line o more ∷ []

module _ (plan : Plan) where
  -- ---- what follows from items

  abbrev pub instrs_of : Item → List Instr
  instrs_of (glue o) = outside o ∷ []
  instrs_of (runs t line o more) = run plan t line (o ∷ more)

  abbrev pub all_instrs : List Item → List Instr
  all_instrs [] = []
  all_instrs (i ∷ is) = instrs_of i ++ all_instrs is

  abbrev pub stands_ops : (t n : ℕ) → List Op → List (Option Stands)
  stands_ops t n [] = []
  stands_ops t n (o ∷ more) = Some (record { point = t; number = n }) ∷ stands_ops t (n + 1) more

  abbrev pub stands_of : Item → List (Option Stands)
  stands_of (glue o) = None ∷ []
  stands_of (runs t line o more) = waits_from t 0 (waits_at plan t) ++ stands_ops t (length (waits_at plan t)) (o ∷ more)

  abbrev pub all_stands : List Item → List (Option Stands)
  all_stands [] = []
  all_stands (i ∷ is) = stands_of i ++ all_stands is

  abbrev pub pieces_of : Item → List Piece
  pieces_of (glue o) = Outside o ∷ []
  pieces_of (runs t line o more) = Opens t o ∷ map (Within t) more

  abbrev pub all_pieces : List Item → List Piece
  all_pieces [] = []
  all_pieces (i ∷ is) = pieces_of i ++ all_pieces is

  abbrev pub item_width : Item → ℕ
  item_width (glue o) = 1
  item_width (runs t line o more) = run_width plan t (length (o ∷ more))

  abbrev pub total : List Item → ℕ
  total [] = 0
  total (i ∷ is) = item_width i + total is

  append_all : {A : Type 0} (xs ys zs : List A) → (xs ++ ys) ++ zs ≡ xs ++ (ys ++ zs)
  append_all [] ys zs = refl
  append_all (x ∷ xs) ys zs = ap (λ l. x ∷ l) (append_all xs ys zs)

  within_stands : (t n : ℕ) (more : List Op) (rest : List Piece) → stands_from plan n (map (Within t) more ++ rest) ≡ stands_ops t n more ++ stands_from plan (n + length more) rest
  within_stands t n [] rest = let z : n ≡ n + 0 = omega arith in ap (λ k. stands_from plan k rest) z
  within_stands t n (o ∷ more) rest =
      let up : n + 1 + length more ≡ n + suc (length more) = omega arith in
      ap (λ l. Some (record { point = t; number = n }) ∷ l) (within_stands t (n + 1) more rest ∙ ap (λ k. stands_ops t (n + 1) more ++ stands_from plan k rest) up)

  -- the pieces say where each instruction stands
  pub stands_are : (n : ℕ) (is : List Item) → stands_from plan n (all_pieces is) ≡ all_stands is
  stands_are n [] = refl
  stands_are n (glue o ∷ is) = ap (λ l. None ∷ l) (stands_are n is)
  stands_are n (runs t line o more ∷ is) =
      let k = length (waits_at plan t) in
      ap (λ l. waits_from t 0 (waits_at plan t) ++ Some (record { point = t; number = k }) ∷ l)
      (within_stands t (k + 1) more (all_pieces is) ∙ ap (λ l. stands_ops t (k + 1) more ++ l) (stands_are (k + 1 + length more) is))
      ∙ sym (append_all (waits_from t 0 (waits_at plan t)) (stands_ops t k (o ∷ more)) (all_stands is))

  op_of : Instr → Op
  op_of i = i.op

  waits_spelled : (line : ℕ) (ws : List ℕ) → map (λ (i : Instr). i.op) (map (λ site. instr line (op.Wait site)) ws) ≡ map op.Wait ws
  waits_spelled line [] = refl
  waits_spelled line (w ∷ ws) = ap (λ l. op.Wait w ∷ l) (waits_spelled line ws)

  ops_spelled : (line : ℕ) (ops : List Op) → map (λ (i : Instr). i.op) (map (instr line) ops) ≡ ops
  ops_spelled line [] = refl
  ops_spelled line (o ∷ ops) = ap (λ l. o ∷ l) (ops_spelled line ops)

  within_spelled : (t : ℕ) (more : List Op) (rest : List Piece) → spelled plan (map (Within t) more ++ rest) ≡ more ++ spelled plan rest
  within_spelled t [] rest = refl
  within_spelled t (o ∷ more) rest = ap (λ l. o ∷ l) (within_spelled t more rest)

  -- and spell the instructions
  pub spells_are : (is : List Item) → map (λ (i : Instr). i.op) (all_instrs is) ≡ spelled plan (all_pieces is)
  spells_are [] = refl
  spells_are (glue o ∷ is) = ap (λ l. o ∷ l) (spells_are is)
  spells_are (runs t line o more ∷ is) =
      let F : List Instr → List Op = λ l. map (λ (i : Instr). i.op) l in
      let ws = map (λ site. instr line (op.Wait site)) (waits_at plan t) in
      map-append (λ (i : Instr). i.op) (ws ++ map (instr line) (o ∷ more)) (all_instrs is)
      ∙ ap (λ l. l ++ F (all_instrs is)) (map-append (λ (i : Instr). i.op) ws (map (instr line) (o ∷ more)))
      ∙ ap (λ l. (l ++ F (map (instr line) (o ∷ more))) ++ F (all_instrs is)) (waits_spelled line (waits_at plan t))
      ∙ ap (λ l. (map op.Wait (waits_at plan t) ++ l) ++ F (all_instrs is)) (ops_spelled line (o ∷ more))
      ∙ append_all (map op.Wait (waits_at plan t)) (o ∷ more) (F (all_instrs is))
      ∙ ap (λ l. map op.Wait (waits_at plan t) ++ o ∷ (more ++ l)) (spells_are is)
      ∙ ap (λ l. map op.Wait (waits_at plan t) ++ o ∷ l) (sym (within_spelled t more (all_pieces is)))

  pub total_append : (a b : List Item) → total (a ++ b) ≡ total a + total b
  total_append [] b = omega arith
  total_append (i ∷ a) b = let h = total_append a b in omega (arith, h)

  instrs_append : (a b : List Item) → all_instrs (a ++ b) ≡ all_instrs a ++ all_instrs b
  instrs_append [] b = refl
  instrs_append (i ∷ a) b = ap (λ l. instrs_of i ++ l) (instrs_append a b) ∙ sym (append_all (instrs_of i) (all_instrs a) (all_instrs b))

  join : (a b : List Item) (x y : List Instr) → all_instrs a ≡ x → all_instrs b ≡ y → all_instrs (a ++ b) ≡ x ++ y
  join a b x y e f = instrs_append a b ∙ ap (λ l. l ++ all_instrs b) e ∙ ap (λ l. x ++ l) f

  -- ---- the items of each part

  abbrev pub step_items : Operation → (line t s : ℕ) → List Item
  step_items o line t s = item_of t line (ops_of (goes_one_way plan (suc s)) (suc s) o)

  abbrev pub back_items : Option Operation → (line t s : ℕ) → List Item
  back_items None line t s = []
  back_items (Some o) line t s = glue (op.Push (pos 1)) ∷ step_items o line t s

  abbrev mutual
    pub items : Core → (k s pc : ℕ) → List Item
    items (constant v) k s pc = glue (constant_op v) ∷ []
    items (step o arguments line) k s pc =
        items_all arguments k s pc ++ step_items o line (k + sizes arguments) (s + accesses_all arguments)
    items (choice of_pointer test on off) k s pc =
        let t = k + size test in
        let s' = s + accesses test in
        let at_on = pc + width plan test k + run_width plan t (test_width of_pointer) in
        let at_off = at_on + width plan on (t + 1) + 1 in
        let end = at_off + width plan off (t + 1 + size on) in
        items test k s pc ++ item_of t 0 (test_ops of_pointer at_off) ++ items on (t + 1) s' at_on ++
        glue (op.Jump end) ∷ items off (t + 1 + size on) (s' + accesses on) at_off
    items (update pointer o right back line) k s pc =
        let t = k + size pointer in
        let u = t + 1 + size right in
        let read = s + accesses pointer in
        let join = read + 1 + accesses right in
        let write = join + accesses_by o in
        let at_right = pc + width plan pointer k + 1 + run_width plan t 1 in
        items pointer k s pc ++ glue op.Dup ∷ item_of t line (op.Read (suc read) ∷ []) ++
        items right (t + 1) (read + 1) at_right ++ step_items o line u join ++
        item_of (u + 1) line (write_op (goes_one_way plan (suc write)) (suc write) ∷ []) ++
        back_items back line (u + 2) (write + 1)

    pub items_all : Arguments → (k s pc : ℕ) → List Item
    items_all none k s pc = []
    items_all (argument e more) k s pc = items e k s pc ++ items_all more (k + size e) (s + accesses e) (pc + width plan e k)

  abbrev pub items_in : Does → (k s out again pc : ℕ) → List Item
  items_in nothing k s out again pc = []
  items_in break k s out again pc = glue (op.Jump out) ∷ []
  items_in continue k s out again pc = glue (op.Jump again) ∷ []
  items_in (then_ first second) k s out again pc =
      items_in first k s out again pc ++ items_in second (k + size_of first) (s + accesses_in first) out again (pc + width_in plan first k)
  items_in (act a arguments line) k s out again pc =
      items_all arguments k s pc ++ item_of (k + sizes arguments) line (ops_of_action (suc (s + accesses_all arguments)) a)
  items_in (choose of_pointer test on off) k s out again pc =
      let t = k + size test in
      let s' = s + accesses test in
      let at_on = pc + width plan test k + run_width plan t (test_width of_pointer) in
      let at_off = at_on + width_in plan on (t + 1) + 1 in
      let end = at_off + width_in plan off (t + 1 + size_of on) in
      items test k s pc ++ item_of t 0 (test_ops of_pointer at_off) ++ items_in on (t + 1) s' out again at_on ++
      glue (op.Jump end) ∷ items_in off (t + 1 + size_of on) (s' + accesses_in on) out again at_off
  items_in (loop mine before body after) k s out again pc =
      let t = k + size_of before in
      let u = t + 1 + size_of body in
      let s_body = s + accesses_in before in
      let at_body = pc + width_in plan before k + run_width plan t 1 in
      let at_after = at_body + width_in plan body (t + 1) in
      let end = at_after + width_in plan after u + 1 in
      items_in before k s end again pc ++ item_of t 0 (op.Turn ∷ []) ++ items_in body (t + 1) s_body end at_after at_body ++
      items_in after u (s_body + accesses_in body) end again at_after ++ glue (op.Jump pc) ∷ []
  items_in (return e line) k s out again pc = items e k s pc ++ item_of (k + size e) line (op.Ret ∷ [])

  abbrev pub function_items : Function → (k s pc : ℕ) → List Item
  function_items f k s pc =
      items_in f.body (k + 1) s 0 0 pc ++ glue (constant_op (zero_of f.result)) ∷ item_of (k + 1 + size_of f.body) f.line (op.Ret ∷ [])

  abbrev pub functions_items : List Function → (k s pc : ℕ) → List Item
  functions_items [] k s pc = []
  functions_items (f ∷ more) k s pc =
      function_items f k s pc ++ functions_items more (k + size_of f.body + 2) (s + accesses_in f.body) (pc + width_of plan f k)

  -- ---- they are the code

  append_none : {A : Type 0} (xs : List A) → xs ++ [] ≡ xs
  append_none [] = refl
  append_none (x ∷ xs) = ap (λ l. x ∷ l) (append_none xs)

  step_is : (b : Bool) (site : ℕ) (o : Operation) (line t : ℕ) → all_instrs (item_of t line (ops_of b site o)) ≡ run plan t line (ops_of b site o)
  step_is b site (does.Use x) line t = append_none _
  step_is b site (does.Element o n plain) line t = append_none _
  step_is b site (does.Address o n) line t = append_none _
  step_is b site does.Own line t = append_none _
  step_is b site does.Convert line t = append_none _
  step_is b site (does.Forward star) line t = append_none _
  step_is b site (does.Back star) line t = append_none _
  step_is b site (does.Binary operator) line t = append_none _
  step_is b site (does.Unary operator) line t = append_none _
  step_is b site does.Same line t = append_none _
  step_is b site does.Differ line t = append_none _
  step_is b site does.IsNull line t = append_none _
  step_is b site does.ToGlobal line t = append_none _
  step_is b site does.ToProc line t = append_none _
  step_is b site does.ToLocal line t = append_none _
  step_is b site (does.Set x) line t = append_none _
  step_is b site (does.Call f n) line t = append_none _
  step_is b site does.Read line t = append_none _
  step_is b site does.Write line t = append_none _

  act_is : (site : ℕ) (a : Action) (line t : ℕ) → all_instrs (item_of t line (ops_of_action site a)) ≡ run plan t line (ops_of_action site a)
  act_is site acts.Drop line t = append_none _
  act_is site (acts.Begin x) line t = append_none _
  act_is site (acts.Clear x pointer) line t = append_none _
  act_is site (acts.Fill x) line t = append_none _
  act_is site (acts.Get x) line t = append_none _
  act_is site acts.Put line t = append_none _
  act_is site acts.Send line t = append_none _
  act_is site (acts.Copy mode) line t = append_none _
  act_is site (acts.Print text n) line t = append_none _
  act_is site acts.Sync line t = append_none _
  act_is site acts.Barrier line t = append_none _
  act_is site acts.AllStoreSync line t = append_none _

  test_is : (of_pointer : Bool) (target t : ℕ) → all_instrs (item_of t 0 (test_ops of_pointer target)) ≡ run plan t 0 (test_ops of_pointer target)
  test_is true target t = append_none _
  test_is false target t = append_none _

  back_is : (back : Option Operation) (line t s : ℕ) → all_instrs (back_items back line t s) ≡ back_code plan back line t s
  back_is None line t s = refl
  back_is (Some o) line t s = ap (λ l. outside (op.Push (pos 1)) ∷ l) (step_is (goes_one_way plan (suc s)) (suc s) o line t)

  mutual
    pub code_is : (e : Core) (k s pc : ℕ) → all_instrs (items e k s pc) ≡ code plan e k s pc
    code_is (constant v) k s pc = refl
    code_is (step o arguments line) k s pc = join _ _ _ _ (all_is arguments k s pc) (step_is _ _ o line (k + sizes arguments))
    code_is (choice of_pointer test on off) k s pc =
        let t = k + size test in
        let s' = s + accesses test in
        let at_on = pc + width plan test k + run_width plan t (test_width of_pointer) in
        let at_off = at_on + width plan on (t + 1) + 1 in
        let end = at_off + width plan off (t + 1 + size on) in
        join _ _ _ _ (join _ _ _ _ (join _ _ _ _ (code_is test k s pc) (test_is of_pointer at_off t)) (code_is on (t + 1) s' at_on))
        (ap (λ l. outside (op.Jump end) ∷ l) (code_is off (t + 1 + size on) (s' + accesses on) at_off))
    code_is (update pointer o right back line) k s pc =
        join _ _ _ _ (join _ _ _ _ (join _ _ _ _ (join _ _ _ _ (join _ _ _ _ (code_is pointer k s pc) (ap (λ l. outside op.Dup ∷ l) (append_none _))) (code_is right _ _ _))
        (step_is _ _ o line _)) (append_none _)) (back_is back line _ _)

    pub all_is : (es : Arguments) (k s pc : ℕ) → all_instrs (items_all es k s pc) ≡ code_all plan es k s pc
    all_is none k s pc = refl
    all_is (argument e more) k s pc = join _ _ _ _ (code_is e k s pc) (all_is more _ _ _)

  pub in_is : (d : Does) (k s out again pc : ℕ) → all_instrs (items_in d k s out again pc) ≡ code_in plan d k s out again pc
  in_is nothing k s out again pc = refl
  in_is break k s out again pc = refl
  in_is continue k s out again pc = refl
  in_is (then_ a b) k s out again pc = join _ _ _ _ (in_is a k s out again pc) (in_is b _ _ out again _)
  in_is (act a arguments line) k s out again pc = join _ _ _ _ (all_is arguments k s pc) (act_is _ a line _)
  in_is (choose of_pointer test on off) k s out again pc =
      let t = k + size test in
      let s' = s + accesses test in
      let at_on = pc + width plan test k + run_width plan t (test_width of_pointer) in
      let at_off = at_on + width_in plan on (t + 1) + 1 in
      let end = at_off + width_in plan off (t + 1 + size_of on) in
      join _ _ _ _ (join _ _ _ _ (join _ _ _ _ (code_is test k s pc) (test_is of_pointer at_off t)) (in_is on (t + 1) s' out again at_on))
      (ap (λ l. outside (op.Jump end) ∷ l) (in_is off (t + 1 + size_of on) (s' + accesses_in on) out again at_off))
  in_is (loop mine before body after) k s out again pc =
      join _ _ _ _ (join _ _ _ _ (join _ _ _ _ (join _ _ _ _ (in_is before k s _ again pc) (append_none _)) (in_is body _ _ _ _ _)) (in_is after _ _ _ again _)) refl
  in_is (return e line) k s out again pc = join _ _ _ _ (code_is e k s pc) (append_none _)

  function_is : (f : Function) (k s pc : ℕ) → all_instrs (function_items f k s pc) ≡ function_code plan f k s pc
  function_is f k s pc = join _ _ _ _ (in_is f.body (k + 1) s 0 0 pc) (ap (λ l. outside (constant_op (zero_of f.result)) ∷ l) (append_none _))

  pub functions_are : (fs : List Function) (k s pc : ℕ) → all_instrs (functions_items fs k s pc) ≡ functions_code plan fs k s pc
  functions_are [] k s pc = refl
  functions_are (f ∷ more) k s pc = join _ _ _ _ (function_is f k s pc) (functions_are more _ _ _)
