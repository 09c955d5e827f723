-- What a source makes a node do, over its core tree. Each step is passed at its point; points are numbered as the text
-- is evaluated, a `for`'s third expression behind its body. k is the number of the first point.
use Rattle.std.specs.Prelude.{ℕ, zero, suc, ◌+◌, ◌-◌, pos, Option, Some, None, List, [], ◌∷◌, length, slice_get}
use Rattle.resumption.specs.Resumption.{Makes, Stops}
use Rattle.sc_base.specs.declared.limits.TheConstants.{LIMITS}
use Rattle.sc_base.specs.declared.value.End.TheVariants.{Ended, Fault, Cut}
use Rattle.sc_base.specs.declared.value.FaultKind.TheVariants.{Depth}
use Rattle.sc_base.specs.declared.value.Value.{Value}
use Rattle.sc_base.specs.declared.value.Value.TheVariants.{Int, Null}
use Rattle.sc_layout.specs.Layout.{Arrangement}
use Rattle.sc_isa.specs.Elements.{Outcome, gives}
use Rattle.sc_isa.specs.Pure.{computed}
use Rattle.sc_core.specs.declared.operation.Constant.{Constant}
use Rattle.sc_core.specs.declared.operation.Operation.{Operation}
use Rattle.sc_core.specs.declared.operation.Operation.TheVariants.{Read, Write}
use Rattle.sc_core.specs.Core.{Core, constant, step, choice, update, Arguments, none, argument, Does, nothing, break, continue, then_, act, choose, loop, return, Function, Program}
use Rattle.sc_core.specs.Table.{made_of, done_of, pure_of}
use Rattle.sc_core.specs.Statements.{zero_of}
use Rattle.sc_meaning.specs.Asking.{PointedDoing, SourceDoing, Came, Finishes, Breaks, without_points}
use Rattle.sc_meaning.specs.Memory.{top, entered, pushed, popped}
use Rattle.sc_meaning.specs.Points.{size, sizes, size_of, first_point}
use Rattle.sc_meaning.specs.Steps.{Rest, Calls, none_awaits, counted, decided, perform, mode_of, enact}
use Rattle.sc_meaning.specs.declared.request.Request.TheVariants.{Sync}

-- what a node knows from its beginning: where the cells lie, its own number, and the source
pub record Setting : Type 0 where
  pub layout : Arrangement
  pub node : ℕ
  pub program : Program

-- a step is passed, and then the rest
abbrev pub pass : (point : ℕ) → PointedDoing → PointedDoing
pass point rest = Makes (Came point) rest

-- the value of a constant, which is what its instruction gives
abbrev pub given : Outcome → Value
given (gives v) = v
given _ = Null

abbrev pub constant_of : Setting → Constant → Value
constant_of here c = given (computed here.layout here.node (pure_of c) [])

-- what a statement goes on with where it returns, or leaves or repeats the loop around it
pub record Jumps : Type 0 where
  pub back : Value → Rest
  pub out : Rest
  pub again : Rest

-- The turns of a loop; n is more than the budget leaves.
abbrev pub rounds : (point n : ℕ) → (before : Rest → Rest) → (turn : Rest → Rest) → Rest
rounds point zero before turn m left = Stops (Finishes Cut)
rounds point (suc n) before turn m left =
    before (λ m left. pass point (counted left (λ left. turn (rounds point n before turn) m left))) m left

module _ (here : Setting) (call : Calls) where
  abbrev pub performed : Operation → List Value → (line : ℕ) → (Value → Rest) → Rest
  performed operation vs line go = perform here.layout call (made_of here.layout here.node operation vs) line go

  -- 1 is taken back from what was written
  abbrev pub taken_back : Option Operation → (point line : ℕ) → (Value → Rest) → Value → Rest
  taken_back None point line go v m left = go v m left
  taken_back (Some operation) point line go v m left =
      pass point (performed operation (v ∷ Int (pos 1) ∷ []) line go m left)

  abbrev mutual
    -- the value of an expression
    pub value : Core → (k : ℕ) → (Value → Rest) → Rest
    value (constant c) k go m left = go (constant_of here c) m left
    value (step operation arguments line) k go m left =
        values arguments k (λ vs m left. pass (k + sizes arguments) (performed operation vs line go m left)) m left
    value (choice of_pointer test on off) k go m left =
        let t = k + size test in
        value test k (λ v m left. pass t (decided here.layout here.node of_pointer v
        (value on (t + 1) go m left) (value off (t + 1 + size on) go m left))) m left
    value (update pointer operation right back line) k go m left =
        let t = k + size pointer in
        let u = t + 1 + size right in
        value pointer k (λ p m left. pass t (performed Read (p ∷ []) line (λ old.
        value right (t + 1) (λ by m left. pass u (performed operation (old ∷ by ∷ []) line (λ new m left.
        pass (u + 1) (performed Write (p ∷ new ∷ []) line (taken_back back (u + 2) line go) m left)) m left)))
        m left)) m left

    pub values : Arguments → (k : ℕ) → (List Value → Rest) → Rest
    values none k go m left = go [] m left
    values (argument e more) k go m left = value e k (λ v. values more (k + size e) (λ vs. go (v ∷ vs))) m left

  abbrev pub does : Does → (k : ℕ) → Jumps → Rest → Rest
  does nothing k j rest m left = rest m left
  does break k j rest m left = j.out m left
  does continue k j rest m left = j.again m left
  does (then_ a b) k j rest m left = does a k j (does b (k + size_of a) j rest) m left
  does (act action arguments line) k j rest m left =
      values arguments k (λ vs m left. pass (k + sizes arguments)
      (enact here.layout (mode_of action) (done_of here.layout here.program.texts action vs) line rest m left)) m left
  does (choose of_pointer test on off) k j rest m left =
      let t = k + size test in
      value test k (λ v m left. pass t (decided here.layout here.node of_pointer v
      (does on (t + 1) j rest m left) (does off (t + 1 + size_of on) j rest m left))) m left
  does (loop mine before body next) k j rest m left =
      let t = k + size_of before in
      let u = t + 1 + size_of body in
      let around : Jumps = record { back = j.back; out = rest; again = j.again } in
      rounds t (suc left) (does before k around)
      (λ round. does body (t + 1) (record { back = j.back; out = rest; again = does next u around round })
      (does next u around round)) m left
  does (return e line) k j rest m left =
      value e k (λ v m left. pass (k + size e) (none_awaits line (top m.frames) (j.back v m left))) m left

module _ (here : Setting) where
  -- the point at which a body ends
  abbrev pub end_point : ℕ → Function → ℕ
  end_point first f = first + 1 + size_of f.body

  -- no loop is around a body
  abbrev pub in_body : (Value → Rest) → Jumps
  in_body back = record { back = back; out = λ m left. Stops Breaks; again = λ m left. Stops Breaks }

  -- what a function does that was entered; a body that ends without `return` gives 0 or null
  abbrev pub body_of : Calls → (first : ℕ) → Function → (Value → Rest) → Rest
  body_of call first f back m left =
      pass first (does here call f.body (first + 1) (in_body back)
      (λ m left. pass (end_point first f)
      (none_awaits f.line (top m.frames) (back (constant_of here (zero_of f.result)) m left))) m left)

  abbrev pub entering : Calls → (first : ℕ) → Option Function → List Value → (Value → Rest) → Rest
  entering call first None vs go m left = Stops Breaks
  entering call first (Some f) vs go m left =
      body_of call first f (λ v m left. go v (popped m) left) (pushed (entered vs (length f.others)) m) left

  -- A call where so many more frames may stand: it is counted, and then it is a fault where none may.
  abbrev pub calls_by : (frames : ℕ) → Calls
  calls_by zero f vs line go m left = counted left (λ left. Stops (Finishes (Fault Depth line)))
  calls_by (suc frames) f vs line go m left =
      counted left (λ left. entering (calls_by frames) (first_point here.program.functions f)
      (slice_get here.program.functions f) vs go m left)

  abbrev pub begun : Option Function → (budget : ℕ) → PointedDoing
  begun None budget = Stops Breaks
  begun (Some f) budget =
      body_of (calls_by (LIMITS.frames - 1)) (first_point here.program.functions here.program.main) f
      (λ v m left. Stops (Finishes Ended))
      (record { frames = entered [] (length f.others) ∷ []; getting = [] }) budget

  -- What the source makes the node do under the budget, with the points. The start of `splitc_main` is no call.
  abbrev pub pointed : (budget : ℕ) → PointedDoing
  pointed budget = pass 0 (begun (slice_get here.program.functions here.program.main) budget)

  -- and without them
  abbrev pub meaning : (budget : ℕ) → SourceDoing
  meaning budget = without_points (Sync 0) (pointed budget)
