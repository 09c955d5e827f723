-- What compiling a source answers: its parts, or the first refusal, in the order of lexing, parsing, layout, check,
-- flow and code.
use Rattle.std.specs.Prelude.{◌≡◌, ℕ, ◌<◌, ◌≤◌, List, Result, Ok, Err}
use Rattle.sc_base.specs.declared.limits.TheConstants.{LIMITS}
use Rattle.sc_tree.specs.Names.{Text}
use Rattle.sc_tree.specs.PlainTypedTree.{PlainTypedTree}
use Rattle.sc_layout.specs.Layout.{Arrangement}
use Rattle.front_end.specs.Accepted.{IsAccepted}
use Rattle.front_end.specs.Accepted as accepting
use Rattle.front_end.specs.declared.refusal.Refusal.{Refusal}
use Rattle.front_end.specs.declared.refusal.Refusal.TheVariants as refusal
use Rattle.front_end.specs.declared.refusal.CompileError.{CompileError}
use Rattle.front_end.specs.declared.refusal.CompileError.TheVariants.{Refused, OutOfMemory}
use Rattle.sc_core.specs.Lowering.{core_of}
use Rattle.flow_form.specs.Accesses.{accesses_of}
use Rattle.node_emit.specs.Sources.{IsFirstOver}
use Rattle.node_emit.specs.Whole.{AreWithin}
use Rattle.splitc_compile.specs.Compiled.{Parts, AreParts}

-- the source is compiled to these parts on so many nodes
pub record IsCompiled (source : List ℕ) (nodes : ℕ) (parts : Parts) : Type 0 where
  pub accepted : IsAccepted source nodes parts.names parts.typed parts.layout
  pub are_parts : AreParts parts

-- the source is accepted, and has more accesses than the limit: so many
pub record HasManySites (source : List ℕ) (nodes count : ℕ) : Type 0 where
  pub names : List Text
  pub typed : PlainTypedTree
  pub layout : Arrangement
  pub accepted : IsAccepted source nodes names typed layout
  pub over : LIMITS.sites < accesses_of (core_of typed)
  pub count_is : count ≡ accesses_of (core_of typed)

-- the source is accepted and has no more accesses than that, and in a function more locals than the limit
pub record HasManyLocals (source : List ℕ) (nodes count : ℕ) : Type 0 where
  pub names : List Text
  pub typed : PlainTypedTree
  pub layout : Arrangement
  pub accepted : IsAccepted source nodes names typed layout
  pub few_sites : accesses_of (core_of typed) ≤ LIMITS.sites
  pub over : IsFirstOver (core_of typed) count

-- the source has code: it is accepted and keeps the limits on accesses and locals
pub record IsCompilable (source : List ℕ) (nodes : ℕ) : Type 0 where
  pub names : List Text
  pub typed : PlainTypedTree
  pub layout : Arrangement
  pub accepted : IsAccepted source nodes names typed layout
  pub few_sites : accesses_of (core_of typed) ≤ LIMITS.sites
  pub few_locals : AreWithin (core_of typed)

-- what a refusal says of a source for so many nodes
abbrev pub Says : List ℕ → (nodes : ℕ) → Refusal → Type 0
Says source nodes (refusal.TooManySites count) = HasManySites source nodes count
Says source nodes (refusal.TooManyLocals count) = HasManyLocals source nodes count
Says source nodes r = accepting.Says source nodes r

-- why there is no answer. Want of memory may come at any time.
abbrev pub Excuses : List ℕ → (nodes : ℕ) → CompileError → Type 0
Excuses source nodes (Refused r) = Says source nodes r
Excuses source nodes OutOfMemory = Unit {0}
