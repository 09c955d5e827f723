-- The reads that waits will answer, in order of issue, each with its value as far as that is known.
use Rattle.std.specs.Prelude.{ℕ, List, Bool, not, ◌==◌, ◌&&◌, if◌then◌else◌, map}
use Rattle.std.specs.List.{filter}
use Rattle.sc_base.specs.declared.value.Value.{Value}
use Rattle.fabric.specs.declared.reads.Awaited.{Awaited}

-- the reads, and for how many more there is room
pub record Waiting : Type 0 where
  pub reads : List Awaited
  pub spare : ℕ

-- the read is the node's, on the counter
abbrev pub is_on : (node counter : ℕ) → Awaited → Bool
is_on node counter read = (read.node == node) && (read.counter == counter)

-- those of the node on the counter
abbrev pub reads_on : (node counter : ℕ) → List Awaited → List Awaited
reads_on node counter reads = filter (is_on node counter) reads

-- the others
abbrev pub reads_off : (node counter : ℕ) → List Awaited → List Awaited
reads_off node counter reads = filter (λ read. not (is_on node counter read)) reads

-- what their values are
abbrev pub values_in : List Awaited → List Value
values_in reads = map (λ (read : Awaited). read.value) reads

-- the read with the value, if it is this access
abbrev pub filled : (node number : ℕ) → Value → Awaited → Awaited
filled node number value read = if (read.node == node) && (read.number == number)
    then record read { value = value } else read
