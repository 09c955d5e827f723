-- The first flat index of an object that may be on a node, and the first of some indices from there on.
use Rattle.std.specs.Prelude.{ℕ, ◌+◌, ◌-◌, ◌*◌, ◌%◌, if◌then◌else◌}
use Rattle.sc_layout.specs.Layout.{LaidObject, block_of}
use Rattle.alias_conflicts.specs.declared.region.Indices.{Indices}
use Rattle.alias_conflicts.specs.declared.region.Indices.TheVariants.{Any, One, Remainder}

abbrev pub first_index : LaidObject → (node : ℕ) → ℕ
first_index o node = if o.shape.spread then node * block_of o else 0

abbrev pub next_index : (nodes first : ℕ) → Indices → ℕ
next_index nodes first Any = first
next_index nodes first (One i) = i
next_index nodes first (Remainder r) = first + (r + nodes - first % nodes) % nodes
