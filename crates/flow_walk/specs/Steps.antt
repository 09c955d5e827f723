-- What a statement is drawn by, one step at a time.
use Rattle.std.specs.Prelude.{ℕ, suc, List, [], ◌∷◌, ◌++◌, length, None}
use Rattle.sc_core.specs.declared.operation.Action.{Action}
use Rattle.sc_core.specs.Core.{Core, Arguments, Does}
use Rattle.sc_core.specs.ViewStatements.{Armed}
use Rattle.site_graph.specs.declared.point.PointKind.{PointKind}
use Rattle.site_graph.specs.declared.point.PointKind.TheVariants.{Plain}
use Rattle.flow_form.specs.declared.count.Count.{Count}
use Rattle.flow_form.specs.declared.scan.Entry.{Entry}
use Rattle.flow_form.specs.Within.{Within}
use Rattle.flow_form.specs.Written.{set_by_action}
use Rattle.flow_form.specs.Steps.{kind_of_action, site_of_action, fetched_into}
use Rattle.flow_draw.specs.declared.drawing.Drawing.{Drawing}
use Rattle.flow_draw.specs.Drawn.{drawn, drawn_all}
use Rattle.flow_draw.specs.Drawings.{fresh, passed, sited, noting}
use Rattle.flow_walk.specs.declared.walk.Walk.{Walk}
use Rattle.flow_walk.specs.Walked.{walked}

-- ---- points, behind which stands again what was taken and occurred before

unfoldable pub restored : (outer : Drawing) → Drawing → Drawing
restored outer d = record d { takes = outer.takes; occurs = outer.occurs }

-- a point alone
unfoldable pub pointed : Within → PointKind → Drawing → Drawing
pointed w kind d = restored d (passed w.function kind None (fresh d))

-- an expression, and the point that takes its value
unfoldable pub valued : List Entry → Within → PointKind → Core → Drawing → Drawing
valued entries w kind e d = restored d (passed w.function kind None (drawn entries w e (fresh d)))

-- the point of an action behind its arguments
unfoldable pub acted_at : Within → Action → Arguments → (line : ℕ) → Drawing → Drawing
acted_at w action arguments line d =
    sited (site_of_action w action arguments line)
    (passed w.function (kind_of_action action (suc (length d.sites))) (set_by_action action)
    (noting (fetched_into action) d))

unfoldable pub acted : List Entry → Within → Action → Arguments → (line : ℕ) → Drawing → Drawing
acted entries w action arguments line d =
    restored d (acted_at w action arguments line (drawn_all entries w arguments (fresh d)))

-- ---- statements

unfoldable pub walk_point : Within → PointKind → Walk → Walk
walk_point w kind x = record x { drawing = pointed w kind x.drawing }

unfoldable pub walk_value : List Entry → Within → PointKind → Core → Walk → Walk
walk_value entries w kind e x = record x { drawing = valued entries w kind e x.drawing }

unfoldable pub walk_act : List Entry → Within → Action → Arguments → (line : ℕ) → Walk → Walk
walk_act entries w action arguments line x = record x { drawing = acted entries w action arguments line x.drawing }

-- evaluation goes on from there
unfoldable pub walk_from : (froms : List ℕ) → Walk → Walk
walk_from froms x = record x { drawing = record x.drawing { froms = froms } }

unfoldable pub walk_break : Walk → Walk
walk_break x = record (walk_from [] x) { breaks = x.breaks ++ x.drawing.froms }

unfoldable pub walk_continue : Walk → Walk
walk_continue x = record (walk_from [] x) { continues = x.continues ++ x.drawing.froms }

unfoldable pub walk_block : List Entry → Within → List Does → Walk → Walk
walk_block entries w [] x = x
walk_block entries w (d ∷ more) x = walk_block entries w more (walked entries w d x)

-- ---- an `if`

-- before its arms
unfoldable pub walk_opened : Walk → Walk
walk_opened x = record x { ends = [] }

-- an arm, behind whose test evaluation goes on at the next one too
unfoldable pub walk_end : (test : List ℕ) → Walk → Walk
walk_end test x = record (walk_from test x) { ends = x.ends ++ x.drawing.froms }

unfoldable pub walk_arm : List Entry → Within → Armed → Walk → Walk
walk_arm entries w a x =
    let t = walk_value entries w Plain a.test x in
    walk_end t.drawing.froms (walked entries w a.body t)

unfoldable pub walk_arms : List Entry → Within → List Armed → Walk → Walk
walk_arms entries w [] x = x
walk_arms entries w (a ∷ more) x = walk_arms entries w more (walk_arm entries w a x)

-- behind it, in an `if` whose arms so far end there
unfoldable pub walk_joined : (outer : List ℕ) → Walk → Walk
walk_joined outer x = record (walk_from (x.ends ++ x.drawing.froms) x) { ends = outer }

-- ---- a loop

unfoldable pub count_of : Walk → Count
count_of x = record { points = length x.drawing.points; sites = length x.drawing.sites }

-- before it, to which evaluation comes back from these points
unfoldable pub walk_enter : (again : List ℕ) → Walk → Walk
walk_enter again x = record (walk_from (x.drawing.froms ++ again) x) { breaks = []; continues = [] }

-- before its turn
unfoldable pub walk_turn : Walk → Walk
walk_turn x = record x { continues = [] }

-- behind its body
unfoldable pub walk_again : Walk → Walk
walk_again x = record (walk_from (x.drawing.froms ++ x.continues) x) { continues = [] }

-- behind it, where `break` and `continue` led on from these points before it, and from its part before the turn
unfoldable pub walk_closed : (breaks continues before : List ℕ) → Walk → Walk
walk_closed breaks continues before x =
    record (walk_from x.breaks x) { breaks = breaks; continues = continues ++ (before ++ x.continues) }
