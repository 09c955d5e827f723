-- What single points add to a flow that is drawn, and how an expression is drawn by them.
use Rattle.std.specs.Prelude.{ℕ, suc, List, [], ◌∷◌, ◌++◌, length, map, reverse, option_to_list, Option, Some, None}
use Rattle.sc_core.specs.declared.operation.Operation.{Operation}
use Rattle.sc_core.specs.declared.operation.Operation.TheVariants as does
use Rattle.sc_core.specs.Core.{Core, argument}
use Rattle.sc_core.specs.View.{Linked, linked, Tested}
use Rattle.site_graph.specs.declared.point.PointKind.{PointKind}
use Rattle.site_graph.specs.declared.point.PointKind.TheVariants.{Plain}
use Rattle.site_graph.specs.declared.site.Form.{Form}
use Rattle.site_graph.specs.declared.site.Form.TheVariants.{Exposed}
use Rattle.site_graph.specs.declared.site.Site.{Site}
use Rattle.site_graph.specs.declared.site.SiteKind.TheVariants.{Read, Write}
use Rattle.flow_form.specs.declared.scan.Entry.{Entry}
use Rattle.flow_form.specs.Within.{Within}
use Rattle.flow_form.specs.Written.{set_by}
use Rattle.flow_form.specs.Occurring.{occurring_by, occurring_back}
use Rattle.flow_form.specs.Exits.{fetched_by}
use Rattle.flow_form.specs.Steps.{kind_of, callee_of, site_with, site_of}
use Rattle.flow_form.specs.FlowOf.{edge}
use Rattle.flow_draw.specs.declared.drawing.Drawing.{Drawing}
use Rattle.flow_draw.specs.declared.drawing.Outer.{Outer}
use Rattle.flow_draw.specs.Noted.{noted}
use Rattle.flow_draw.specs.Around.{edges_to}
use Rattle.flow_draw.specs.Drawn.{drawn, drawn_all}

-- ---- lists of a drawing

-- before the arguments of a step
unfoldable pub fresh : Drawing → Drawing
fresh d = record d { takes = []; occurs = [] }

unfoldable pub outer_of : Drawing → Outer
outer_of d = record { takes = d.takes; occurs = d.occurs }

-- what was taken and occurred before comes first
unfoldable pub beside : Outer → Drawing → Drawing
beside o d = record d { takes = o.takes ++ d.takes; occurs = noted d.occurs o.occurs }

unfoldable pub noting : List ℕ → Drawing → Drawing
noting numbers d = record d { occurs = noted numbers d.occurs }

unfoldable pub taking : List ℕ → Drawing → Drawing
taking sites d = record d { takes = d.takes ++ sites }

unfoldable pub taking_first : List ℕ → Drawing → Drawing
taking_first sites d = record d { takes = sites ++ d.takes }

unfoldable pub sited : Option Site → Drawing → Drawing
sited site d = record d { sites = d.sites ++ option_to_list site }

-- ---- points

-- the next point, to which evaluation comes from `froms`; it takes what was fetched, and reads what occurs
unfoldable pub passed : (function : ℕ) → PointKind → (writes : Option ℕ) → Drawing → Drawing
passed function kind writes d =
    let t = length d.points in
    record d {
      points = d.points ++
          record { kind = kind; function = function; takes = d.takes; reads = d.occurs; writes = writes } ∷ [];
      edges = d.edges ++ map (λ from. edge from t) d.froms;
      froms = t ∷ [];
      takes = [];
    }

-- the point t, behind which evaluation goes on, calls this function or none
unfoldable pub called : List Entry → Within → (t : ℕ) → (callee : Option ℕ) → Drawing → Drawing
called entries w t None d = d
called entries w t (Some f) d =
    record d { edges = d.edges ++ edges_to entries t (Some f); froms = w.returns f }

-- the site of an operation whose first argument has this form
abbrev pub site_by : Operation → (line : ℕ) → Form → Option Site
site_by does.Read line form = site_with Read line (Some form) None None
site_by does.Write line form = site_with Write line None (Some form) None
site_by _ line form = None

-- the step of an operation behind its arguments
unfoldable pub stepped : List Entry → Within → Operation → Option Site → Drawing → Drawing
stepped entries w operation site d =
    let s = length d.sites in
    called entries w (length d.points) (callee_of operation)
    (taking (fetched_by operation s) (sited site
    (passed w.function (kind_of operation (suc s)) (set_by operation) (noting (occurring_by w.params operation) d))))

-- ---- chains

unfoldable pub drawn_link : List Entry → Within → Core → Linked → Drawing → Drawing
drawn_link entries w e l d =
    stepped entries w l.operation (site_of w l.operation (argument e l.more) l.line) (drawn_all entries w l.more d)

-- the steps `more` of the chain of e, of which these come before
unfoldable pub drawn_links : List Entry → Within → Core → (before more : List Linked) → Drawing → Drawing
drawn_links entries w e before [] d = d
drawn_links entries w e before (l ∷ more) d =
    drawn_links entries w e (before ++ l ∷ []) more (drawn_link entries w (linked e before) l d)

-- ---- tests

-- the expression, and behind it the point of its test, from which alone evaluation goes on
unfoldable pub tested : List Entry → Within → Core → Drawing → Drawing
tested entries w e d = beside (outer_of d) (passed w.function Plain None (drawn entries w e (fresh d)))

-- the number of that point
unfoldable pub test_point : List Entry → Within → Core → Drawing → ℕ
test_point entries w e d = length (drawn entries w e (fresh d)).points

-- evaluation goes on from the point t
unfoldable pub turned : (t : ℕ) → Drawing → Drawing
turned t d = record d { froms = t ∷ [] }

-- and from these too
unfoldable pub met : List ℕ → Drawing → Drawing
met ways d = record d { froms = ways ++ d.froms }

-- and, the last first, from these
unfoldable pub met_after : List ℕ → Drawing → Drawing
met_after ways d = record d { froms = d.froms ++ reverse ways }

-- operands of `&&`, of which those before led on from these points; and of `||`
unfoldable pub every_from : List Entry → Within → (ways : List ℕ) → List Tested → Drawing → Drawing
every_from entries w ways [] d = met_after ways d
every_from entries w ways (t ∷ more) d =
    every_from entries w (ways ++ test_point entries w t.e d ∷ []) more (tested entries w t.e d)

unfoldable pub any_from : List Entry → Within → (ways : List ℕ) → List Tested → Drawing → Drawing
any_from entries w ways [] d = met ways d
any_from entries w ways (t ∷ more) d =
    any_from entries w (ways ++ test_point entries w t.e d ∷ []) more (tested entries w t.e d)

-- ---- updates

-- what takes back the old value
unfoldable pub backed : List Entry → Within → Option Operation → (line : ℕ) → Drawing → Drawing
backed entries w None line d = d
backed entries w (Some operation) line d = stepped entries w operation (site_by operation line Exposed) d

-- the right side is joined to what was read; all that occurs in the update is noted before
unfoldable pub joined : List Entry → Within → Operation → (back : Option Operation) → (line : ℕ) →
    Drawing → Drawing
joined entries w operation back line d =
    stepped entries w operation (site_by operation line Exposed)
    (noting (occurring_back w.params back) (noting (occurring_by w.params operation) d))

-- the cell behind a pointer of this form, whose value may be fetched at these sites, becomes the value
unfoldable pub put : List Entry → Within → (takes : List ℕ) → Form → (line : ℕ) → Drawing → Drawing
put entries w takes form line d =
    stepped entries w does.Write (site_by does.Write line form) (taking_first takes d)
