-- What the machine's answers stand for in the instruction table.
use Rattle.std.specs.Prelude.{ℕ, pos}
use Rattle.sc_base.specs.declared.value.Value.{Value}
use Rattle.sc_base.specs.declared.value.Value.TheVariants.{Int, Null}
use Rattle.sc_layout.specs.Layout.{Arrangement}
use Rattle.sc_isa.specs.Elements.{gives, fails, wrong}
use Rattle.sc_isa.specs.Elements as code
use Rattle.sc_isa.specs.Deeds.{found, missing, nowhere, Done, lets_go, ends, sticks, copies}
use Rattle.sc_isa.specs.Deeds as deed
use Rattle.sc_isa.specs.Pure.{Pure, null, step, glob, to_local, to_proc, to_global, un, same, truth}
use Rattle.sc_isa.specs.declared.op.Op.{Op}
use Rattle.sc_isa.specs.declared.op.Op.TheVariants as op
use Rattle.node_values.specs.declared.computing.Outcome.{Outcome}
use Rattle.node_values.specs.declared.computing.Outcome.TheVariants.{Gives, Fails, Wrong}
use Rattle.node_values.specs.declared.copying.Copying.{Copying}
use Rattle.node_values.specs.declared.copying.Copying.TheVariants as copying
use Rattle.node_values.specs.declared.places.Spotted.{Spotted}
use Rattle.node_values.specs.declared.places.Spotted.TheVariants.{Found, Missing, Nowhere}

abbrev pub plain : Outcome → code.Outcome
plain (Gives value) = gives value
plain (Fails kind) = fails kind
plain Wrong = wrong

abbrev pub plain_spot : Spotted → deed.Spotted
plain_spot (Found place) = found place
plain_spot (Missing kind) = missing kind
plain_spot Nowhere = nowhere

abbrev pub plain_copy : Copying → Done
plain_copy copying.Nothing = lets_go
plain_copy (copying.Copies from to cells) = copies from to cells
plain_copy (copying.Fails kind) = ends kind
plain_copy copying.Wrong = sticks

abbrev pub pushed_of : Op → Value
pushed_of (op.Push n) = Int n
pushed_of _ = Null

-- the constants
abbrev pub constant_of : Arrangement → (own : ℕ) → Op → Value
constant_of layout own (op.Push n) = Int n
constant_of layout own op.Mine = Int (pos own)
constant_of layout own op.Procs = Int (pos layout.nodes)
constant_of layout own _ = Null

-- the operations on one value, and those on two but of numbers
abbrev pub one_of : Op → Pure
one_of op.Glob = glob
one_of op.ToLocal = to_local
one_of op.ToProc = to_proc
one_of (op.Un operator) = un operator
one_of op.Truth = truth
one_of _ = null

abbrev pub two_of : Op → Pure
two_of (op.Step star) = step star
two_of op.ToGlobal = to_global
two_of op.Same = same
two_of _ = null
