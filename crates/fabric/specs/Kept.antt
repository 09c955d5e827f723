-- What a fabric keeps: its memory, its messages in flight and its books are those of its journal, which is one that it
-- allows.
use Rattle.std.specs.Prelude.{◌≡◌, ◌==◌, ℕ, ◌+◌, ◌<◌, ◌≤◌, List, [], ◌∷◌, length, map, Some, None, false}
use Rattle.sc_base.specs.declared.value.Value.{Value}
use Rattle.sc_base.specs.declared.value.Place.{Place}
use Rattle.effect_order.specs.Effect.{Effect, held}
use Rattle.effect_order.specs.Lists.{Each}
use Rattle.effect_order.specs.Transfer.{part_value}
use Rattle.sc_layout.specs.Layout.{Arrangement}
use Rattle.sc_layout.specs.Place.{IsPlace, Fits}
use Rattle.sc_isa.specs.declared.access.Access.TheVariants.{Read}
use Rattle.sc_isa.specs.declared.access.Track.TheVariants.{Counter}
use Rattle.sc_isa.specs.declared.journal.Entry.{Entry}
use Rattle.msg_pool.specs.declared.message.Message.{Message}
use Rattle.msg_pool.specs.declared.message.Part.{Part}
use Rattle.msg_pool.specs.declared.message.Part.TheVariants as part
use Rattle.msg_pool.specs.Pool.{of_issuer}
use Rattle.node_memory.specs.Memory.{Holds}
use Rattle.fabric.specs.declared.reads.Awaited.{Awaited}
use Rattle.fabric.specs.Access.{any_track}
use Rattle.fabric.specs.Effects.{access_at, awaited, effects, or_zero}
use Rattle.fabric.specs.Outstanding.{outstanding}
use Rattle.fabric.specs.Flight.{in_flight}
use Rattle.fabric.specs.Wired.{Wired}
use Rattle.fabric.specs.Books.{Counts, Stands}
use Rattle.fabric.specs.Reads.{Waiting, reads_on}
use Rattle.fabric.specs.State.{State, messages_of, start_of, nodes_of, IsTrack, type_at}

-- the journal is one that the fabric allows, and memory, messages and books are those of the journal
pub record IsOfJournal (state : State) : Type 0 where
  pub wired : Wired (start_of state) (nodes_of state) state.past
  pub memory : Holds state.memory (λ place. held (start_of state) place (effects (start_of state) state.past))
  pub messages : messages_of state.pool ≡ in_flight (start_of state) state.past
  pub counts : Counts (in_flight (start_of state) state.past) state.book
  pub stands : Stands state.past state.book
  pub rows : length state.book.nodes ≡ nodes_of state
  pub pool_nodes : state.pool.nodes ≡ nodes_of state

-- each node has as many pending messages as it has issued cells, over all tracks, whose last part has not occurred
abbrev pub OpenCellsPend : State → Type 0
OpenCellsPend state =
    (node : ℕ) → length (of_issuer node state.pool.pending) ≡ outstanding (start_of state)
    (λ other. other == node) any_track state.past

-- ---- what serves the calls to come

-- the part lies in the layout, and what it writes fits
abbrev pub PartReady : Arrangement → Part → Type 0
PartReady layout (part.Read from None) = IsPlace layout from
PartReady layout (part.Read from (Some to)) =
    IsPlace layout from × IsPlace layout to × (type_at layout from ≡ type_at layout to)
PartReady layout (part.Write to value) = IsPlace layout to × Fits layout to value

pub record IsReady (layout : Arrangement) (sites : ℕ) (m : Message) : Type 0 where
  pub issuer_within : m.issuer < layout.nodes
  pub track : IsTrack sites m.track
  pub part : PartReady layout m.part

-- how many deliveries a message and what it becomes still take
abbrev pub deliveries_of : Part → ℕ
deliveries_of (part.Read from (Some to)) = 2
deliveries_of _ = 1

abbrev pub deliveries : List Message → ℕ
deliveries [] = 0
deliveries (m ∷ ms) = deliveries_of m.part + deliveries ms

-- the read is an access of the past, and has its value as far as it is known
pub record IsRead (past : List Entry) (earlier : List Effect) (read : Awaited) : Type 0 where
  pub place : Place
  pub issued : access_at read.node read.number past ≡ Some (Read place (Counter read.counter))
  pub value : read.value ≡ or_zero (part_value read.node read.number 0 false earlier)

-- the reads are those that waits will answer
pub record AreAwaited (start : Place → Value) (past : List Entry) (reads : List Awaited) : Type 0 where
  pub numbers : (node counter : ℕ) → map (λ (read : Awaited). read.number)
      (reads_on node counter reads) ≡ awaited node counter past
  pub each : Each (IsRead past (effects start past)) reads

-- what a fabric keeps, with the reads that waits will answer, the number of nodes of its journal and its room for
-- entries
pub record IsFabric (state : State) (reads : Waiting) (nodes room : ℕ) : Type 0 where
  pub of_journal : IsOfJournal state
  pub ready : Each (IsReady state.memory.layout state.book.sites) (messages_of state.pool)
  pub awaited_are : AreAwaited (start_of state) state.past reads.reads
  pub log_nodes : nodes ≡ nodes_of state
  pub entries_fit : state.spare + deliveries (messages_of state.pool) ≤ room
  pub puts_fit : state.spare ≤ state.pool.spare
  pub reads_fit : state.spare ≤ reads.spare
  pub few_puts : state.pool.puts ≤ length state.past + length (messages_of state.pool)
