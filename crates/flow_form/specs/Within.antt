-- Where a part of a core tree stands, and a point of the flow with what belongs to it.
use Rattle.std.specs.Prelude.{ℕ, List, Option}
use Rattle.site_graph.specs.declared.point.Point.{Point}
use Rattle.site_graph.specs.declared.site.Site.{Site}

-- What a part's flow depends on beside the part.
pub record Within : Type 0 where
  pub nodes : ℕ  -- how many nodes there are, which is what `PROCS` gives
  pub returns : (function : ℕ) → List ℕ  -- the points at which the function returns
  pub function : ℕ  -- the number of the function around the part
  pub params : ℕ  -- how many parameters it has; the first locals are these
  pub mines : List ℕ  -- the locals that here leave the remainder `MYPROC` when they are divided by `PROCS`

pub record Placed : Type 0 where
  pub at : ℕ  -- its number
  pub froms : List ℕ  -- the points from which evaluation goes on here, but for calls
  pub callee : Option ℕ  -- the function whose first point comes next
  pub point : Point
  pub site : Option Site  -- what it accesses
