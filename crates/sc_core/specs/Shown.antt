-- What a step shows to the analysis of a source: what kind of point it is, which locals it reads and writes, whether
-- its value was fetched, and whether it depends on the node that executes it.
use Rattle.std.specs.Prelude.{ℕ, Bool, true, false, Option, Some, None, List, [], ◌∷◌, nat_lt}
use Rattle.sc_base.specs.declared.value.CopyMode.{CopyMode}
use Rattle.sc_core.specs.declared.operation.Operation.{Operation}
use Rattle.sc_core.specs.declared.operation.Operation.TheVariants.{Use, Element, Address, Own, Convert, Forward, Back, Binary, Unary, Same, Differ, IsNull, ToGlobal, ToProc, ToLocal, Set, Call, Read, Write}
use Rattle.sc_core.specs.declared.operation.Action.{Action}
use Rattle.sc_core.specs.declared.operation.Action.TheVariants as acts

-- what a point is: a site that accesses cells, by its kind; a point at which a node waits; a call; or any other
pub data Shows : Type 0 where
  plain : Shows
  reads writes gets puts stores : Shows
  copies : CopyMode → Shows
  syncs : Shows
  meets : (stores : Bool) → Shows
  calls : (function : ℕ) → Shows

abbrev pub shows : Operation → Shows
shows Read = reads
shows Write = writes
shows (Call f n) = calls f
shows _ = plain

abbrev pub action_shows : Action → Shows
action_shows (acts.Fill x) = reads
action_shows (acts.Get x) = gets
action_shows acts.Put = puts
action_shows acts.Send = stores
action_shows (acts.Copy mode) = copies mode
action_shows acts.Sync = syncs
action_shows acts.Barrier = meets false
action_shows acts.AllStoreSync = meets true
action_shows _ = plain

-- the step's value is one that a site fetches
abbrev pub fetches : Operation → Bool
fetches Read = true
fetches _ = false

-- the local that the step uses
abbrev pub local_used : Operation → Option ℕ
local_used (Use x) = Some x
local_used _ = None

-- the local that it sets, a filled one and that of a get included
abbrev pub local_set : Operation → Option ℕ
local_set (Set x) = Some x
local_set _ = None

abbrev pub local_set_by : Action → Option ℕ
local_set_by (acts.Begin x) = Some x
local_set_by (acts.Clear x pointer) = Some x
local_set_by (acts.Fill x) = Some x
local_set_by (acts.Get x) = Some x
local_set_by _ = None

-- The step's value may differ from node to node whatever its arguments are: a conversion of a local pointer, a read of
-- memory, a parameter, a call, or a call of the library. So may a constant, where it is the node itself.
abbrev pub depends_on_node : (params : ℕ) → Operation → Bool
depends_on_node params (Use x) = nat_lt x params
depends_on_node params Own = true
depends_on_node params Convert = true
depends_on_node params ToGlobal = true
depends_on_node params ToProc = true
depends_on_node params ToLocal = true
depends_on_node params (Call f n) = true
depends_on_node params Read = true
depends_on_node params _ = false

-- so may what a get brings
abbrev pub action_depends_on_node : Action → Bool
action_depends_on_node (acts.Get x) = true
action_depends_on_node _ = false
