-- How many instructions the code of each part of a core tree has. k is the number of the part's first point.
use Rattle.std.specs.Prelude.{ℕ, ◌+◌, List, length, Option, Some, None, false}
use Rattle.sc_core.specs.declared.operation.Operation.{Operation}
use Rattle.sc_core.specs.declared.operation.Action.{Action}
use Rattle.sc_core.specs.Core.{Core, constant, step, choice, update, Arguments, none, argument, Does, nothing, break, continue, then_, act, choose, loop, return, Function}
use Rattle.sc_core.specs.Table.{ops_of, ops_of_action}
use Rattle.sc_meaning.specs.Points.{size, sizes, size_of}
use Rattle.site_graph.specs.declared.plan.Plan.{Plan}
use Rattle.node_emit.specs.Runs.{run_width, test_width}

-- how many instructions a step has, at whatever site
abbrev pub ops_width : Operation → ℕ
ops_width operation = length (ops_of false 0 operation)

abbrev pub action_width : Action → ℕ
action_width action = length (ops_of_action 0 action)

module _ (plan : Plan) where
  -- 1 is taken back by the step at the point
  abbrev pub back_width : Option Operation → (point : ℕ) → ℕ
  back_width None t = 0
  back_width (Some operation) t = 1 + run_width plan t (ops_width operation)

  abbrev mutual
    pub width : Core → (k : ℕ) → ℕ
    width (constant c) k = 1
    width (step operation arguments line) k =
        widths arguments k + run_width plan (k + sizes arguments) (ops_width operation)
    width (choice of_pointer test on off) k =
        let t = k + size test in
        width test k + run_width plan t (test_width of_pointer) + width on (t + 1) + 1 + width off (t + 1 + size on)
    width (update pointer operation right back line) k =
        let t = k + size pointer in
        let u = t + 1 + size right in
        width pointer k + 1 + run_width plan t 1 + width right (t + 1) + run_width plan u (ops_width operation)
        + run_width plan (u + 1) 1 + back_width back (u + 2)

    pub widths : Arguments → (k : ℕ) → ℕ
    widths none k = 0
    widths (argument e more) k = width e k + widths more (k + size e)

  abbrev pub width_in : Does → (k : ℕ) → ℕ
  width_in nothing k = 0
  width_in break k = 1
  width_in continue k = 1
  width_in (then_ first second) k = width_in first k + width_in second (k + size_of first)
  width_in (act action arguments line) k =
      widths arguments k + run_width plan (k + sizes arguments) (action_width action)
  width_in (choose of_pointer test on off) k =
      let t = k + size test in
      width test k + run_width plan t (test_width of_pointer) + width_in on (t + 1) + 1 + width_in off
      (t + 1 + size_of on)
  width_in (loop mine before body after) k =
      let t = k + size_of before in
      width_in before k + run_width plan t 1 + width_in body (t + 1) + width_in after (t + 1 + size_of body) + 1
  width_in (return e line) k = width e k + run_width plan (k + size e) 1

  -- the body, and the value and the return at its end; k is the function's first point
  abbrev pub width_of : Function → (k : ℕ) → ℕ
  width_of f k = width_in f.body (k + 1) + 1 + run_width plan (k + 1 + size_of f.body) 1
