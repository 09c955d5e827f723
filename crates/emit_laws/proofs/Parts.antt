-- What the flow and the code of a source have of each part of its core tree. k is the number of the part's first point, s says
-- how many sites come before it, and `froms` are the points from which it is entered.
use Rattle.std.specs.Prelude.{◌≡◌, ◌⊎◌, ℕ, suc, ◌+◌, ◌<◌, List, [], ◌∷◌, ◌++◌, length, Option, Some, None, Bool, true, false, slice_get, pos}
use Rattle.sc_isa.specs.declared.code.Code.{Code}
use Rattle.sc_isa.specs.declared.code.FnRow.{FnRow}
use Rattle.sc_isa.specs.declared.op.Op.{Op}
use Rattle.sc_isa.specs.declared.op.Op.TheVariants as op
use Rattle.sc_core.specs.declared.operation.Operation.{Operation}
use Rattle.sc_core.specs.declared.operation.Operation.TheVariants as does
use Rattle.sc_core.specs.declared.operation.Action.{Action}
use Rattle.sc_core.specs.declared.operation.Action.TheVariants as acts
use Rattle.sc_core.specs.Core.{Core, constant, step, choice, update, Arguments, none, argument, Does, nothing, break, continue, then_, act, choose, loop, return, Function}
use Rattle.sc_core.specs.Statements.{zero_of}
use Rattle.sc_core.specs.Table.{ops_of, ops_of_action}
use Rattle.sc_meaning.specs.Meaning.{Setting}
use Rattle.sc_meaning.specs.Points.{size, sizes, size_of, first_point}
use Rattle.meaning_laws.specs.StepTable.{arguments_of, arguments_of_action, IsAtSite, ActsAtSite, HasRow}
use Rattle.flow_form.specs.Accesses.{accesses, accesses_all, accesses_by, accesses_in}
use Rattle.flow_form.specs.Exits.{fetched, fetched_all, fetched_by, behind, exits, exits_all, leaves}
use Rattle.flow_form.specs.Steps.{callee_of}
use Rattle.node_emit.specs.Runs.{instr, outside, constant_op, test_ops}
use Rattle.node_emit.specs.Stands.{Stands}
use Rattle.node_emit.specs.Law.{is_empty}

abbrev pub In : ℕ → List ℕ → Type 0
In y [] = ⊥
In y (x ∷ xs) = (y ≡ x) ⊎ In y xs

-- A source with its flow, its plan and its code, as the proofs see them.
pub record Setup : Type 1 where
  pub here : Setting
  pub code : Code
  -- the plan: where code waits, and which writes are sent one-way
  pub waits : (point : ℕ) → List ℕ
  pub one_way : (site : ℕ) → Bool
  -- the flow: edges, what a point uses that was fetched, the points of reads, the locals that sites fill, and where a function
  -- returns
  pub Goes : ℕ → ℕ → Type 0
  pub Demand : (point site : ℕ) → Type 0
  pub Fetches : (point site : ℕ) → Type 0
  pub Fills : (function local site : ℕ) → Type 0
  pub returns : (function : ℕ) → List ℕ
  -- where an instruction stands in the runs
  pub stands : (pc : ℕ) → Option Stands
  -- the points with empty runs between the point `now` and the next whose run is entered
  pub between : (now next : ℕ) → List ℕ
  -- how many locals a function has
  pub locals : (function : ℕ) → ℕ

-- the local that a step names, and that which an action does
abbrev pub named : Operation → List ℕ
named (does.Use x) = x ∷ []
named (does.Set x) = x ∷ []
named _ = []

abbrev pub touched : Action → List ℕ
touched (acts.Begin x) = x ∷ []
touched (acts.Clear x pointer) = x ∷ []
touched (acts.Fill x) = x ∷ []
touched (acts.Get x) = x ∷ []
touched _ = []

abbrev pub count_of : Arguments → ℕ
count_of none = 0
count_of (argument e more) = suc (count_of more)

module _ (c : Setup) where
  -- ---- the flow

  abbrev pub Enter : List ℕ → ℕ → Type 0
  Enter froms t = (f : ℕ) → In f froms → c.Goes f t

  abbrev pub Takes : ℕ → List ℕ → Type 0
  Takes t sites = (a : ℕ) → In a sites → c.Demand t a

  -- a call of a function of the source, to which the flow leads
  abbrev pub CallOf : Option ℕ → ℕ → Type 0
  CallOf None t = Unit {0}
  CallOf (Some f) t =
      c.Goes t (first_point c.here.program.functions f) × ((g : Function) × (slice_get c.here.program.functions f ≡ Some g))

  abbrev pub FetchesBy : Operation → (t site : ℕ) → Type 0
  FetchesBy does.Read t site = c.Fetches t site
  FetchesBy operation t site = Unit {0}

  module _ (fn : ℕ) where
    -- the point uses all that was fetched into the local, which its function has
    pub record Touches (t x : ℕ) : Type 0 where
      pub within : x < c.locals fn
      pub demands : (a : ℕ) → c.Fills fn x a → c.Demand t a

    pub record FlowStep (operation : Operation) (t site : ℕ) (froms takes : List ℕ) : Type 0 where
      pub enter : Enter froms t
      pub taken : Takes t takes
      pub touches : (x : ℕ) → In x (named operation) → Touches t x
      pub fetches : FetchesBy operation t site
      pub called : CallOf (callee_of operation) t

    abbrev pub FillsBy : Action → (t site : ℕ) → Type 0
    FillsBy (acts.Fill x) t site = c.Fetches t site × c.Fills fn x site
    FillsBy action t site = Unit {0}

    pub record FlowAct (action : Action) (t site : ℕ) (froms takes : List ℕ) : Type 0 where
      pub enter : Enter froms t
      pub taken : Takes t takes
      pub touches : (x : ℕ) → In x (touched action) → Touches t x
      pub fills : FillsBy action t site

    -- what takes back the old value, at the point t behind the point `from`
    abbrev pub FlowBack : Option Operation → (from t s : ℕ) → Type 0
    FlowBack None from t s = Unit {0}
    FlowBack (Some operation) from t s = FlowStep operation t (suc s) (from ∷ []) []

    abbrev mutual
      pub Flow : Core → (k s : ℕ) → (froms : List ℕ) → Type 0
      Flow (constant v) k s froms = Unit {0}
      Flow (step operation arguments line) k s froms =
          FlowAll arguments k s froms
          × FlowStep operation (k + sizes arguments) (suc (s + accesses_all arguments)) (exits_all c.returns arguments k froms)
          (fetched_all arguments s)
      Flow (choice of_pointer test on off) k s froms =
          let t = k + size test in
          let s' = s + accesses test in
          Flow test k s froms × Enter (exits c.returns test k froms) t × Takes t (fetched test s)
          × Flow on (t + 1) s' (t ∷ []) × Flow off (t + 1 + size on) (s' + accesses on) (t ∷ [])
      Flow (update pointer operation right back line) k s froms =
          let t = k + size pointer in
          let u = t + 1 + size right in
          let read = s + accesses pointer in
          let join = read + 1 + accesses right in
          let write = join + accesses_by operation in
          Flow pointer k s froms × FlowStep does.Read t (suc read) (exits c.returns pointer k froms) (fetched pointer s)
          × Flow right (t + 1) (read + 1) (t ∷ [])
          × FlowStep operation u (suc join) (exits c.returns right (t + 1) (t ∷ [])) (suc read ∷ fetched right (read + 1))
          × FlowStep does.Write (u + 1) (suc write) (behind c.returns (callee_of operation) u)
          (fetched pointer s ++ fetched_by operation join)
          × FlowBack back (u + 1) (u + 2) (write + 1)

      pub FlowAll : Arguments → (k s : ℕ) → (froms : List ℕ) → Type 0
      FlowAll none k s froms = Unit {0}
      FlowAll (argument e more) k s froms =
          Flow e k s froms × FlowAll more (k + size e) (s + accesses e) (exits c.returns e k froms)

    abbrev pub Flows : Does → (k s : ℕ) → (froms : List ℕ) → Type 0
    Flows nothing k s froms = Unit {0}
    Flows break k s froms = Unit {0}
    Flows continue k s froms = Unit {0}
    Flows (then_ first second) k s froms =
        Flows first k s froms
        × Flows second (k + size_of first) (s + accesses_in first) (leaves c.returns first k froms).falls
    Flows (act action arguments line) k s froms =
        FlowAll arguments k s froms
        × FlowAct action (k + sizes arguments) (suc (s + accesses_all arguments)) (exits_all c.returns arguments k froms)
        (fetched_all arguments s)
    Flows (choose of_pointer test on off) k s froms =
        let t = k + size test in
        let s' = s + accesses test in
        Flow test k s froms × Enter (exits c.returns test k froms) t × Takes t (fetched test s)
        × Flows on (t + 1) s' (t ∷ []) × Flows off (t + 1 + size_of on) (s' + accesses_in on) (t ∷ [])
    Flows (loop mine before body after) k s froms =
        let t = k + size_of before in
        let u = t + 1 + size_of body in
        let s_body = s + accesses_in before in
        let from_body = leaves c.returns body (t + 1) (t ∷ []) in
        let into_after = from_body.falls ++ from_body.continues in
        let into_before = froms ++ (leaves c.returns after u into_after).falls in
        Flows before k s into_before × Enter (leaves c.returns before k into_before).falls t
        × Flows body (t + 1) s_body (t ∷ []) × Flows after u (s_body + accesses_in body) into_after
    Flows (return e line) k s froms =
        Flow e k s froms × Enter (exits c.returns e k froms) (k + size e) × Takes (k + size e) (fetched e s)
        × In (k + size e) (c.returns fn)

  -- ---- the code

  -- from the instruction with the number n of the run of t on: waits, and then the instructions of the step
  abbrev pub RunAt : (t n pc : ℕ) → (waits : List ℕ) → List Op → (line end : ℕ) → Type 0
  RunAt t n pc [] [] line end = end ≡ pc
  RunAt t n pc [] (o ∷ ops) line end =
      (c.stands pc ≡ Some (record { point = t; number = n })) × (slice_get c.code.instrs pc ≡ Some (instr line o))
      × RunAt t (n + 1) (pc + 1) [] ops line end
  RunAt t n pc (w ∷ ws) ops line end =
      (c.stands pc ≡ Some (record { point = t; number = n })) × (slice_get c.code.instrs pc ≡ Some (instr line (op.Wait w)))
      × RunAt t (n + 1) (pc + 1) ws ops line end

  -- the run of a point
  pub record PointAt (t pc : ℕ) (ops : List Op) (line end : ℕ) : Type 0 where
    pub full : is_empty c.here.program t ≡ false
    pub run : RunAt t 0 pc (c.waits t) ops line end

  -- an instruction that belongs to no point
  pub record OutsideAt (pc : ℕ) (o : Op) (end : ℕ) : Type 0 where
    pub none : c.stands pc ≡ None
    pub is : slice_get c.code.instrs pc ≡ Some (outside o)
    pub ends : end ≡ pc + 1

  pub record JumpAt (pc target : ℕ) : Type 0 where
    pub none : c.stands pc ≡ None
    pub is : slice_get c.code.instrs pc ≡ Some (outside (op.Jump target))

  -- the run of a step that has so many arguments
  pub record StepAt (operation : Operation) (count t site pc line end : ℕ) : Type 0 where
    pub counted : count ≡ arguments_of operation
    pub at_site : IsAtSite c.code site operation
    pub row : HasRow c.code operation
    pub run : PointAt t pc (ops_of (c.one_way site) site operation) line end

  pub record ActAt (action : Action) (count t site pc line end : ℕ) : Type 0 where
    pub counted : count ≡ arguments_of_action action
    pub at_site : ActsAtSite c.code site action
    pub run : PointAt t pc (ops_of_action site action) line end

  abbrev pub BackAt : Option Operation → (t s pc line end : ℕ) → Type 0
  BackAt None t s pc line end = pc ≡ end
  BackAt (Some operation) t s pc line end =
      (p : ℕ) × OutsideAt pc (op.Push (pos 1)) p × StepAt operation 2 t (suc s) p line end

  abbrev mutual
    -- the code of the expression lies from pc up to end
    pub Lies : Core → (k s pc end : ℕ) → Type 0
    Lies (constant v) k s pc end = OutsideAt pc (constant_op v) end
    Lies (step operation arguments line) k s pc end =
        (p : ℕ) × LieAll arguments k s pc p
        × StepAt operation (count_of arguments) (k + sizes arguments) (suc (s + accesses_all arguments)) p line end
    Lies (choice of_pointer test on off) k s pc end =
        let t = k + size test in
        let s' = s + accesses test in
        (p q r v : ℕ) × Lies test k s pc p × PointAt t p (test_ops of_pointer r) 0 q × Lies on (t + 1) s' q v × JumpAt v end
        × Lies off (t + 1 + size on) (s' + accesses on) r end
    Lies (update pointer operation right back line) k s pc end =
        let t = k + size pointer in
        let u = t + 1 + size right in
        let read = s + accesses pointer in
        let join = read + 1 + accesses right in
        let write = join + accesses_by operation in
        (p q r v x y : ℕ) × Lies pointer k s pc p × OutsideAt p op.Dup q × StepAt does.Read 1 t (suc read) q line r
        × Lies right (t + 1) (read + 1) r v × StepAt operation 2 u (suc join) v line x
        × StepAt does.Write 2 (u + 1) (suc write) x line y × BackAt back (u + 2) (write + 1) y line end

    pub LieAll : Arguments → (k s pc end : ℕ) → Type 0
    LieAll none k s pc end = pc ≡ end
    LieAll (argument e more) k s pc end = (p : ℕ) × Lies e k s pc p × LieAll more (k + size e) (s + accesses e) p end

  -- the code of the statement, from which `break` and `continue` lead to `out` and `again`
  abbrev pub Lie : Does → (k s out again pc end : ℕ) → Type 0
  Lie nothing k s out again pc end = pc ≡ end
  Lie break k s out again pc end = JumpAt pc out × (end ≡ pc + 1)
  Lie continue k s out again pc end = JumpAt pc again × (end ≡ pc + 1)
  Lie (then_ first second) k s out again pc end =
      (p : ℕ) × Lie first k s out again pc p × Lie second (k + size_of first) (s + accesses_in first) out again p end
  Lie (act action arguments line) k s out again pc end =
      (p : ℕ) × LieAll arguments k s pc p
      × ActAt action (count_of arguments) (k + sizes arguments) (suc (s + accesses_all arguments)) p line end
  Lie (choose of_pointer test on off) k s out again pc end =
      let t = k + size test in
      let s' = s + accesses test in
      (p q r v : ℕ) × Lies test k s pc p × PointAt t p (test_ops of_pointer r) 0 q × Lie on (t + 1) s' out again q v
      × JumpAt v end × Lie off (t + 1 + size_of on) (s' + accesses_in on) out again r end
  Lie (loop mine before body after) k s out again pc end =
      let t = k + size_of before in
      let u = t + 1 + size_of body in
      let s_body = s + accesses_in before in
      (p q r v : ℕ) × Lie before k s end again pc p × PointAt t p (op.Turn ∷ []) 0 q × Lie body (t + 1) s_body end r q r
      × Lie after u (s_body + accesses_in body) end again r v × JumpAt v pc
  Lie (return e line) k s out again pc end =
      (p : ℕ) × Lies e k s pc p × PointAt (k + size e) p (op.Ret ∷ []) line end

  -- A function: an empty first point, the body, and behind it the value and the return at its end.
  pub record FunctionAt (fn : ℕ) (f : Function) : Type 0 where
    pub is_function : slice_get c.here.program.functions fn ≡ Some f
    pub row : FnRow
    pub is_row : slice_get c.code.functions fn ≡ Some row
    pub params : row.params ≡ length f.params
    pub room : row.locals ≡ length f.params + length f.others
    pub locals : c.locals fn ≡ row.locals
    pub sites : ℕ
    pub end : ℕ
    pub last : ℕ
    pub over : ℕ
    pub no_waits : c.waits (first_point c.here.program.functions fn) ≡ []
    pub no_run : is_empty c.here.program (first_point c.here.program.functions fn) ≡ true
    pub flows : Flows fn f.body (first_point c.here.program.functions fn + 1) sites (first_point c.here.program.functions fn ∷ [])
    pub lies : Lie f.body (first_point c.here.program.functions fn + 1) sites 0 0 row.start end
    pub zero_at : OutsideAt end (constant_op (zero_of f.result)) last
    pub falls : Enter (leaves c.returns f.body (first_point c.here.program.functions fn + 1) (first_point c.here.program.functions fn ∷ [])).falls
        (first_point c.here.program.functions fn + 1 + size_of f.body)
    pub no_breaks : (leaves c.returns f.body (first_point c.here.program.functions fn + 1) (first_point c.here.program.functions fn ∷ [])).breaks ≡ []
    pub no_continues : (leaves c.returns f.body (first_point c.here.program.functions fn + 1) (first_point c.here.program.functions fn ∷ [])).continues ≡ []
    pub return_at : PointAt (first_point c.here.program.functions fn + 1 + size_of f.body) last (op.Ret ∷ []) f.line over
    pub returns : In (first_point c.here.program.functions fn + 1 + size_of f.body) (c.returns fn)
