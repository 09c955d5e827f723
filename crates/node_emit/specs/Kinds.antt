-- The kinds of instructions that a flow tells apart.
use Rattle.std.specs.Prelude.{Bool, true, false}
use Rattle.sc_isa.specs.declared.op.Op.{Op}
use Rattle.sc_isa.specs.declared.op.Op.TheVariants as op

-- what stands between the runs of points and in them
abbrev pub is_outside : Op → Bool
is_outside (op.Push n) = true
is_outside op.Null = true
is_outside op.Mine = true
is_outside op.Procs = true
is_outside (op.Jump to) = true
is_outside op.Dup = true
is_outside op.Swap = true
is_outside _ = false

-- an access
abbrev pub is_access : Op → Bool
is_access (op.Read site) = true
is_access (op.Fill site local) = true
is_access (op.Write site) = true
is_access (op.Store site) = true
is_access (op.Get site local) = true
is_access (op.Put site) = true
is_access (op.Send site) = true
is_access (op.Copy site mode) = true
is_access _ = false

-- a wait, on a site or for explicit accesses, or a barrier
abbrev pub is_meeting : Op → Bool
is_meeting (op.Wait counter) = true
is_meeting op.Barrier = true
is_meeting op.AllSync = true
is_meeting _ = false

abbrev pub is_call : Op → Bool
is_call (op.Call f) = true
is_call _ = false

abbrev pub is_return : Op → Bool
is_return op.Ret = true
is_return _ = false
