-- A run: its items with their moments, what it waits for, and the story that it tells. Blocking and split accesses,
-- syncs and barriers are those of "Introduction to Split-C" (Culler and others, 1995).
use Rattle.std.specs.Prelude.{◌≡◌, ◌⊎◌, ℕ, ◌<◌, ◌≤◌, List, [], ◌∷◌, Bool, true, false}
use Rattle.effect_order.specs.Effect.{Effect}
use Rattle.effect_order.specs.Flow.{Flow}
use Rattle.effect_order.specs.Items.{items_conflict}
use Rattle.effect_order.specs.Levels.{level_at}
use Rattle.effect_order.specs.Order.{Story}

-- E: own steps of nodes, effects and releases. A blocking read or write is one item, an effect. S: the points of the
-- code. Moments are numbered in order. A release has a node number of its own, that of no node.
pub record Run (E S : Type 0) : Type 1 where
  pub Member : E → Type 0  -- the items of this run
  pub is_effect : E → Bool  -- it reads or writes a cell
  pub is_release : E → Bool  -- it lets all nodes pass a barrier
  pub node : E → ℕ  -- the node that does it
  pub step : E → ℕ  -- the number of its own step on that node; an effect has that of its issue
  pub issue : E → ℕ  -- the moment of its own step
  pub time : E → ℕ  -- the moment at which it takes effect
  pub point : E → S  -- the point of the code of its own step
  pub releases : ℕ → Bool  -- a release happens at this moment
  pub does : E → List Effect  -- its effects on cells, the newest first
  pub flow : Flow S  -- the points of the code

-- the level of a moment
abbrev pub level : {E S : Type 0} → Run E S → ℕ → ℕ
level r t = level_at r.releases t

-- an effect of a blocking access
abbrev pub IsBlocking : {E S : Type 0} → Run E S → E → Type 0
IsBlocking r e = (r.is_effect e ≡ true) × (r.flow.is_blocking (r.point e) ≡ true)

-- an effect of a split access
abbrev pub IsSplit : {E S : Type 0} → Run E S → E → Type 0
IsSplit r e = (r.is_effect e ≡ true) × (r.flow.is_split (r.point e) ≡ true)

-- an effect of a store: of an access that is neither
abbrev pub IsStore : {E S : Type 0} → Run E S → E → Type 0
IsStore r e =
    (r.is_effect e ≡ true) × (r.flow.is_blocking (r.point e) ≡ false) × (r.flow.is_split (r.point e) ≡ false)

-- an own step that is no effect, before a later item of its node
abbrev pub OwnStep : {E S : Type 0} → Run E S → E → E → Type 0
OwnStep r e f =
    (r.is_effect e ≡ false) × (r.is_release e ≡ false) × (r.is_release f ≡ false) × (r.node e ≡ r.node f) ×
    (r.step e < r.step f)

-- an own step that is a sync
abbrev pub Sync : {E S : Type 0} → Run E S → E → Type 0
Sync r s = (r.is_effect s ≡ false) × (r.is_release s ≡ false) × (r.flow.is_sync (r.point s) ≡ true)

-- a split effect, before a later sync of its node and what follows that
pub record Synced {E S : Type 0} (r : Run E S) (e f : E) : Type 0 where
  -- the first item is an effect
  pub effect : r.is_effect e ≡ true
  -- its access is split
  pub splits : r.flow.is_split (r.point e) ≡ true
  -- the sync
  pub sync : E
  -- the sync is of this run
  pub member : r.Member sync
  -- it is a sync
  pub is_sync : Sync r sync
  -- it is of the effect's node
  pub node : r.node e ≡ r.node sync
  -- it is a later step
  pub step : r.step e < r.step sync
  -- the second item is of that node too
  pub node_to : r.node sync ≡ r.node f
  -- it is the sync or later
  pub step_to : r.step sync ≤ r.step f
  -- it is no release
  pub no_release_to : r.is_release f ≡ false

-- of one own step, in the order of the run, the later an effect
abbrev pub InOneStep : {E S : Type 0} → Run E S → E → E → Type 0
InOneStep r e f =
    (r.is_effect f ≡ true) × (r.is_release e ≡ false) × (r.node e ≡ r.node f) × (r.step e ≡ r.step f) ×
    (r.time e < r.time f)

-- the reading and the writing part of one cell of a copy
abbrev pub Copies : {E S : Type 0} → Run E S → E → E → Type 0
Copies r e f =
    (r.node e ≡ r.node f) × (r.step e ≡ r.step f) × (read write : Effect) × (r.does e ≡ read ∷ []) ×
    (r.does f ≡ write ∷ []) × (read.wrote ≡ false) × (write.wrote ≡ true) × (read.cell ≡ write.cell)

-- in the order of the run, one of them a release
abbrev pub Released : {E S : Type 0} → Run E S → E → E → Type 0
Released r e f = ((r.is_release e ≡ true) ⊎ (r.is_release f ≡ true)) × (r.time e < r.time f)

-- they have effects of the same place, of which one writes
abbrev pub Conflict : {E S : Type 0} → Run E S → E → E → Type 0
Conflict r e f = items_conflict r.does e f ≡ true

-- an effect whose site blocks
abbrev pub blocking : Bool → Bool → Bool
blocking true b = b
blocking false b = false

-- the run as a story
abbrev pub story : {E S : Type 0} → Run E S → Story E S
story r = record {
  Member = r.Member;
  node = r.node;
  step = r.step;
  time = r.time;
  level = λ e. level r (r.time e);
  site = r.point;
  is_effect = r.is_effect;
  is_blocking = λ e. blocking (r.is_effect e) (r.flow.is_blocking (r.point e));
  Done = λ e f. OwnStep r e f ⊎ Synced r e f;
  Within = InOneStep r;
  Release = Released r;
  Conflict = Conflict r;
  flow = r.flow;
}

-- an item that is no release
abbrev pub Step : {E S : Type 0} → Run E S → E → Type 0
Step r e = r.Member e × (r.is_release e ≡ false)
