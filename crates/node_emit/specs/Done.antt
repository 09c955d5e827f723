-- What statements add to code while it is written. The jumps of `break` and `continue` lead to 0 until their loop is
-- written; their places are kept.
use Rattle.std.specs.Prelude.{◌+◌, ◌-◌, ℕ, List, [], ◌∷◌, ◌++◌, length}
use Rattle.sc_core.specs.Core.{Does, break, continue, then_, choose, loop}
use Rattle.sc_core.specs.ViewStatements.{Armed}
use Rattle.sc_meaning.specs.Points.{size, size_of}
use Rattle.flow_form.specs.Accesses.{accesses_in}
use Rattle.site_graph.specs.declared.plan.Plan.{Plan}
use Rattle.node_emit.specs.Runs.{run_width, test_width}
use Rattle.node_emit.specs.Widths.{width, width_in}
use Rattle.node_emit.specs.Statements.{code_in}
use Rattle.node_emit.specs.Drafts.{Written, grown, turned, tested, emitted}

unfoldable pub done : Plan → Does → Written → Written
done plan s d = grown d (code_in plan s d.point d.sites 0 0 (length d.instrs)) (size_of s) (accesses_in s)

module _ (plan : Plan) where
  -- the places of the jumps out of the loop around the statement, whose first instruction is pc
  abbrev pub breaks_in : Does → (k pc : ℕ) → List ℕ
  breaks_in break k pc = pc ∷ []
  breaks_in (then_ first second) k pc =
      breaks_in first k pc ++ breaks_in second (k + size_of first) (pc + width_in plan first k)
  breaks_in (choose of_pointer test on off) k pc =
      let t = k + size test in
      let at_on = pc + width plan test k + run_width plan t (test_width of_pointer) in
      breaks_in on (t + 1) at_on ++ breaks_in off (t + 1 + size_of on) (at_on + width_in plan on (t + 1) + 1)
  breaks_in _ k pc = []

  -- and of those on with it
  abbrev pub continues_in : Does → (k pc : ℕ) → List ℕ
  continues_in continue k pc = pc ∷ []
  continues_in (then_ first second) k pc =
      continues_in first k pc ++ continues_in second (k + size_of first) (pc + width_in plan first k)
  continues_in (choose of_pointer test on off) k pc =
      let t = k + size test in
      let at_on = pc + width plan test k + run_width plan t (test_width of_pointer) in
      continues_in on (t + 1) at_on ++ continues_in off (t + 1 + size_of on) (at_on + width_in plan on (t + 1) + 1)
  continues_in (loop mine before body after) k pc =
      let t = k + size_of before in
      let at_body = pc + width_in plan before k + run_width plan t 1 in
      continues_in before k pc ++ continues_in after (t + 1 + size_of body) (at_body + width_in plan body (t + 1))
  continues_in _ k pc = []

unfoldable pub breaks_of : Plan → Does → Written → List ℕ
breaks_of plan s d = breaks_in plan s d.point (length d.instrs)

unfoldable pub continues_of : Plan → Does → Written → List ℕ
continues_of plan s d = continues_in plan s d.point (length d.instrs)

-- ---- arms of an `if`

-- behind the arm's test
unfoldable pub entered : Plan → Armed → Written → Written
entered plan a d = tested plan a.of_pointer (emitted plan a.test d)

unfoldable pub arm_put : Plan → Armed → Written → Written
arm_put plan a d = turned (length (entered plan a d).instrs - 1) (done plan a.body (entered plan a d))

-- the place of the jump behind the arm
unfoldable pub arm_jump : Plan → Armed → Written → ℕ
arm_jump plan a d = length (done plan a.body (entered plan a d)).instrs

unfoldable pub arms_put : Plan → List Armed → Written → Written
arms_put plan [] d = d
arms_put plan (a ∷ more) d = arms_put plan more (arm_put plan a d)

unfoldable pub arms_jumps : Plan → List Armed → Written → List ℕ
arms_jumps plan [] d = []
arms_jumps plan (a ∷ more) d = arm_jump plan a d ∷ arms_jumps plan more (arm_put plan a d)

unfoldable pub arms_breaks : Plan → List Armed → Written → List ℕ
arms_breaks plan [] d = []
arms_breaks plan (a ∷ more) d = breaks_of plan a.body (entered plan a d) ++ arms_breaks plan more (arm_put plan a d)

unfoldable pub arms_continues : Plan → List Armed → Written → List ℕ
arms_continues plan [] d = []
arms_continues plan (a ∷ more) d = continues_of plan a.body (entered plan a d)
    ++ arms_continues plan more (arm_put plan a d)
