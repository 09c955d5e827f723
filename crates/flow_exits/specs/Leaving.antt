-- What comes before a statement on the way through a function, and behind it: the points from which evaluation goes
-- on, and those from which `break` and `continue` lead. `ends` are those from which evaluation comes to the end of the
-- innermost `if`, over the arms so far.
use Rattle.std.specs.Prelude.{ℕ, ◌+◌, List, [], ◌∷◌, ◌++◌}
use Rattle.sc_core.specs.Core.{Core, Arguments, Does}
use Rattle.sc_core.specs.ViewStatements.{Armed}
use Rattle.sc_meaning.specs.Points.{size, size_of}
use Rattle.flow_form.specs.declared.count.Count.{Count}
use Rattle.flow_form.specs.Counts.{with_more, counted, counted_all, counted_in}
use Rattle.flow_form.specs.Exits.{leaves}
use Rattle.flow_exits.specs.declared.leaving.Leaving.{Leaving}

-- where functions return says nothing of how statements are left
abbrev pub nowhere : (function : ℕ) → List ℕ
nowhere f = []

unfoldable pub left : Does → Leaving → Leaving
left d l =
    let x = leaves nowhere d l.count.points l.froms in
    record {
      count = counted_in d l.count;
      froms = x.falls;
      breaks = l.breaks ++ x.breaks;
      continues = l.continues ++ x.continues;
      ends = l.ends;
    }

-- the points from which a loop's turn is begun again, where this comes before the loop
unfoldable pub again_from : (before body after : Does) → Count → List ℕ
again_from before body after c =
    let t = c.points + size_of before in
    let b = leaves nowhere body (t + 1) (t ∷ []) in
    (leaves nowhere after (t + 1 + size_of body) (b.falls ++ b.continues)).falls

-- ---- what a statement is left by

unfoldable pub left_value : Core → Leaving → Leaving
left_value e l = record l { count = counted e l.count }

unfoldable pub left_values : Arguments → Leaving → Leaving
left_values arguments l = record l { count = counted_all arguments l.count }

-- over the next point alone, which has so many sites
unfoldable pub left_point : (sites : ℕ) → Leaving → Leaving
left_point sites l = record l { count = with_more 1 sites l.count; froms = l.count.points ∷ [] }

-- not at all, at a point that returns
unfoldable pub left_return : Leaving → Leaving
left_return l = record l { count = with_more 1 0 l.count; froms = [] }

unfoldable pub left_break : Leaving → Leaving
left_break l = record l { froms = []; breaks = l.breaks ++ l.froms }

unfoldable pub left_continue : Leaving → Leaving
left_continue l = record l { froms = []; continues = l.continues ++ l.froms }

unfoldable pub left_block : List Does → Leaving → Leaving
left_block [] l = l
left_block (d ∷ more) l = left_block more (left d l)

-- ---- an `if`

-- before its arms
unfoldable pub opened : Leaving → Leaving
opened l = record l { ends = [] }

-- an arm, behind which the test at t leads to the next
unfoldable pub left_end : (t : ℕ) → Leaving → Leaving
left_end t l = record l { froms = t ∷ []; ends = l.ends ++ l.froms }

unfoldable pub left_arm : Armed → Leaving → Leaving
left_arm a l = left_end (l.count.points + size a.test) (left a.body (left_point 0 (left_value a.test l)))

unfoldable pub left_arms : List Armed → Leaving → Leaving
left_arms [] l = l
left_arms (a ∷ more) l = left_arms more (left_arm a l)

-- behind it, in an `if` whose arms so far end there
unfoldable pub joined : (outer : List ℕ) → Leaving → Leaving
joined outer l = record l { froms = l.ends ++ l.froms; ends = outer }

-- ---- a loop

unfoldable pub leaving_from : Count → (froms : List ℕ) → Leaving
leaving_from c froms = record { count = c; froms = froms; breaks = []; continues = []; ends = [] }

-- in its body, before which its turn is the next point
unfoldable pub inside : Count → Leaving
inside c = leaving_from (with_more 1 0 c) (c.points ∷ [])

-- behind its body
unfoldable pub on_again : Leaving → Leaving
on_again l = record l { froms = l.froms ++ l.continues; continues = [] }

-- before its turn, to which evaluation comes from these too
unfoldable pub back_to : Leaving → (froms : List ℕ) → Leaving
back_to l froms = leaving_from l.count (l.froms ++ froms)

-- behind it: by a `break` in what comes before its turn or in what comes behind it
unfoldable pub closed : (before inner : Leaving) → Leaving → Leaving
closed before inner l = record l {
  count = inner.count;
  froms = before.breaks ++ inner.breaks;
  continues = l.continues ++ (before.continues ++ inner.continues);
}
