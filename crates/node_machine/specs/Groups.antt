-- Groups of instructions.
use Rattle.std.specs.Prelude.{ℕ, ◌+◌, ◌<◌, ◌^◌, List, slice_index}
use Rattle.sc_isa.specs.declared.op.Op.{Op}
use Rattle.sc_isa.specs.declared.op.Op.TheVariants as op

-- the site of an instruction that issues an access
abbrev pub site_of : Op → ℕ
site_of (op.Read site) = site
site_of (op.Fill site local) = site
site_of (op.Write site) = site
site_of (op.Store site) = site
site_of (op.Get site local) = site
site_of (op.Put site) = site
site_of (op.Send site) = site
site_of (op.Copy site mode) = site
site_of _ = 0

abbrev pub IsAccess : Op → Type 0
IsAccess (op.Read site) = Unit {0}
IsAccess (op.Fill site local) = Unit {0}
IsAccess (op.Write site) = Unit {0}
IsAccess (op.Store site) = Unit {0}
IsAccess (op.Get site local) = Unit {0}
IsAccess (op.Put site) = Unit {0}
IsAccess (op.Send site) = Unit {0}
IsAccess (op.Copy site mode) = Unit {0}
IsAccess _ = ⊥

-- it calls nothing and prints nothing, and its indices can be counted
abbrev pub IsPlain : Op → Type 0
IsPlain (op.Elem object count) = count + 1 < 2 ^ 32
IsPlain (op.Call function) = ⊥
IsPlain (op.Print text count) = ⊥
IsPlain _ = Unit {0}

-- one more read can be counted
abbrev pub HasRoom : Op → List ℕ → Type 0
HasRoom (op.Read site) numbers = slice_index numbers site + 1 < 2 ^ 64
HasRoom (op.Fill site local) numbers = slice_index numbers site + 1 < 2 ^ 64
HasRoom (op.Get site local) numbers = slice_index numbers 0 + 1 < 2 ^ 64
HasRoom _ numbers = Unit {0}

-- its indices can be counted
abbrev pub HasFewIndices : Op → Type 0
HasFewIndices (op.Elem object count) = count + 1 < 2 ^ 32
HasFewIndices _ = Unit {0}
