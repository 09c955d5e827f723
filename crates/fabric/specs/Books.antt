-- When books are those of a journal: their counts are of the messages in flight, and each node stands in them where the
-- journal has it. A past is a list of entries, the newest first.
use Rattle.std.specs.Prelude.{◌≡◌, ℕ, ◌+◌, ◌<◌, ◌≤◌, List, [], ◌∷◌, length, is_some, Bool, true, false, ◌==◌, nat_le, if◌then◌else◌}
use Rattle.sc_isa.specs.declared.journal.Entry.{Entry}
use Rattle.sc_isa.specs.declared.journal.Entry.TheVariants.{Arrived as Arrives}
use Rattle.msg_pool.specs.declared.message.Message.{Message}
use Rattle.sync_book.specs.declared.standing.Standing.{Standing}
use Rattle.sync_book.specs.declared.standing.Standing.TheVariants.{Away, Arrived, Released}
use Rattle.sync_book.specs.Book.{Book, node_at, outstanding, all_outstanding}
use Rattle.fabric.specs.Access.{is_counter, is_store, is_covered}
use Rattle.fabric.specs.Barriers.{arrivals, passes, released, finished}
use Rattle.fabric.specs.Flight.{flying_count}

-- the node's newest arrival waits for stores
abbrev pub with_stores : (node : ℕ) → List Entry → Bool
with_stores node [] = false
with_stores node (Arrives other stores ∷ past) = if other == node then stores else with_stores node past
with_stores node (_ ∷ past) = with_stores node past

-- where the node stands between barriers
abbrev pub standing_of : (node : ℕ) → List Entry → Standing
standing_of node past =
    if arrivals node past == passes node past then Away
    else if nat_le (arrivals node past) (released past) then Released
    else Arrived (with_stores node past)

-- the books count these messages
pub record Counts (messages : List Message) (book : Book) : Type 0 where
  pub counters : (node counter : ℕ) → node < length book.nodes → counter ≤ book.sites
      → outstanding book node counter ≡ flying_count (λ other. other == node) (is_counter counter) messages
  pub stores : book.stores ≡ flying_count (λ other. true) is_store messages
  pub covered : book.covered ≡ flying_count (λ other. true) is_covered messages
  pub all : all_outstanding book ≡ length messages
  pub lists : (node : ℕ) → node < length book.nodes → length (node_at book node).counters ≡ book.sites + 1

-- the nodes stand in the books as the past has it
pub record Stands (past : List Entry) (book : Book) : Type 0 where
  pub standing : (node : ℕ) → node < length book.nodes → (node_at book node).standing ≡ standing_of node past
  pub ended : (node : ℕ) → node < length book.nodes →
      (node_at book node).finished ≡ is_some (finished node past)
