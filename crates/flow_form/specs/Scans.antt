-- Where functions begin and return, and how many points and sites they have.
use Rattle.std.specs.Prelude.{ℕ, ◌+◌, List, [], ◌∷◌, ◌++◌}
use Rattle.sc_core.specs.Core.{Core, Arguments, Does, Function}
use Rattle.sc_core.specs.ViewStatements.{Armed}
use Rattle.sc_meaning.specs.Points.{size_of}
use Rattle.flow_form.specs.declared.count.Count.{Count}
use Rattle.flow_form.specs.declared.scan.Whole.{Whole}
use Rattle.flow_form.specs.declared.scan.Scan.{Scan}
use Rattle.flow_form.specs.Accesses.{accesses_in}
use Rattle.flow_form.specs.Exits.{returns_in}
use Rattle.flow_form.specs.Statements.{returns_of}
use Rattle.flow_form.specs.Counts.{with_more, counted, counted_all, counted_in}

-- behind a statement, of which the points at which it returns are noted
unfoldable pub scanned : Does → Scan → Scan
scanned d s = record { count = counted_in d s.count; returns = s.returns ++ returns_in d s.count.points }

-- ---- what a statement is scanned by

unfoldable pub scan_more : (points sites : ℕ) → Scan → Scan
scan_more points sites s = record s { count = with_more points sites s.count }

unfoldable pub scan_value : Core → Scan → Scan
scan_value e s = record s { count = counted e s.count }

unfoldable pub scan_values : Arguments → Scan → Scan
scan_values arguments s = record s { count = counted_all arguments s.count }

-- the next point returns
unfoldable pub scan_returns : Scan → Scan
scan_returns s = record s { returns = s.returns ++ s.count.points ∷ [] }

unfoldable pub scan_block : List Does → Scan → Scan
scan_block [] s = s
scan_block (d ∷ more) s = scan_block more (scanned d s)

unfoldable pub scan_arm : Armed → Scan → Scan
scan_arm a s = scanned a.body (scan_more 1 0 (scan_value a.test s))

unfoldable pub scan_arms : List Armed → Scan → Scan
scan_arms [] s = s
scan_arms (a ∷ more) s = scan_arms more (scan_arm a s)

-- ---- functions

unfoldable pub scan_from : Count → Scan
scan_from c = record { count = c; returns = [] }

-- the function that begins at the next point
unfoldable pub function_scan : Function → Count → Scan
function_scan f c =
    record { count = with_more (size_of f.body + 2) (accesses_in f.body) c; returns = returns_of f c.points }

-- with a function that begins at this point and was scanned so
unfoldable pub with_entry : (first : ℕ) → Scan → Whole → Whole
with_entry first s w =
    record { entries = w.entries ++ record { first = first; returns = s.returns } ∷ []; count = s.count }

unfoldable pub with_function : Function → Whole → Whole
with_function f w = with_entry w.count.points (function_scan f w.count) w

unfoldable pub with_functions : List Function → Whole → Whole
with_functions [] w = w
with_functions (f ∷ more) w = with_functions more (with_function f w)

-- the first function begins at point 1, behind Start
unfoldable pub whole_of : List Function → Whole
whole_of functions = with_functions functions (record { entries = []; count = record { points = 1; sites = 0 } })
