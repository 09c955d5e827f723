-- The listing of code: a line for each instruction, and one before the first instruction of each function. The texts
-- are this project's own.
use Rattle.std.specs.Prelude.{ℕ, ◌+◌, ◌==◌, ℤ, pos, Option, Some, None, List, [], ◌∷◌, ◌++◌, if◌then◌else◌, codes}
use Rattle.std.specs.Fmt.{decimal, signed_decimal}
use Rattle.sc_base.specs.declared.operator.Binary.{Binary}
use Rattle.sc_base.specs.declared.operator.Binary.TheVariants as binary
use Rattle.sc_base.specs.declared.operator.Unary.{Unary}
use Rattle.sc_base.specs.declared.operator.Unary.TheVariants.{Minus, Not, Invert}
use Rattle.sc_base.specs.declared.shape.Star.{Star}
use Rattle.sc_base.specs.declared.shape.Star.TheVariants.{Local, Global, Spread}
use Rattle.sc_isa.specs.declared.code.Code.{Code}
use Rattle.sc_isa.specs.declared.code.FnRow.{FnRow}
use Rattle.sc_isa.specs.declared.op.Instr.{Instr}
use Rattle.sc_isa.specs.declared.op.Op.{Op}
use Rattle.sc_isa.specs.declared.op.Op.TheVariants.{Push, Null, Mine, Procs, Elem, Step, Glob, ToLocal, ToProc, ToGlobal, Load, Set, Clear, Dup, Drop, Swap}
use Rattle.sc_isa.specs.declared.op.Op.TheVariants.{Bin, Un, Same, Truth, Jump, Zero, Turn, Call, Ret, Print, Read, Fill, Write, Store, Get, Put, Send, Copy, Wait, Barrier, AllSync}
use Rattle.sc_isa.specs.Begin.{names}

-- the number of an operator in the order of its kind
abbrev pub binary_number : Binary → ℕ
binary_number binary.Add = 0
binary_number binary.Sub = 1
binary_number binary.Mul = 2
binary_number binary.Div = 3
binary_number binary.Rem = 4
binary_number binary.Shl = 5
binary_number binary.Shr = 6
binary_number binary.And = 7
binary_number binary.Or = 8
binary_number binary.Xor = 9
binary_number binary.Eq = 10
binary_number binary.Ne = 11
binary_number binary.Lt = 12
binary_number binary.Le = 13
binary_number binary.Gt = 14
binary_number binary.Ge = 15

abbrev pub unary_number : Unary → ℕ
unary_number Minus = 0
unary_number Not = 1
unary_number Invert = 2

abbrev pub step_name : Star → List ℕ
step_name Local = codes "step local"
step_name Global = codes "step global"
step_name Spread = codes "step spread"

abbrev pub op_name : Op → List ℕ
op_name (Push n) = codes "push"
op_name Null = codes "null"
op_name Mine = codes "mine"
op_name Procs = codes "procs"
op_name (Elem object count) = codes "elem"
op_name (Step star) = step_name star
op_name Glob = codes "glob"
op_name ToLocal = codes "tolocal"
op_name ToProc = codes "toproc"
op_name ToGlobal = codes "toglobal"
op_name (Load local) = codes "load"
op_name (Set local) = codes "set"
op_name (Clear local pointer) = codes "clear"
op_name Dup = codes "dup"
op_name Drop = codes "drop"
op_name Swap = codes "swap"
op_name (Bin op) = codes "bin"
op_name (Un op) = codes "un"
op_name Same = codes "same"
op_name Truth = codes "truth"
op_name (Jump target) = codes "jump"
op_name (Zero target) = codes "zero"
op_name Turn = codes "turn"
op_name (Call function) = codes "call"
op_name Ret = codes "ret"
op_name (Print text count) = codes "print"
op_name (Read site) = codes "read"
op_name (Fill site local) = codes "fill"
op_name (Write site) = codes "write"
op_name (Store site) = codes "store"
op_name (Get site local) = codes "get"
op_name (Put site) = codes "put"
op_name (Send site) = codes "send"
op_name (Copy site mode) = codes "copy"
op_name (Wait counter) = codes "wait"
op_name Barrier = codes "barrier"
op_name AllSync = codes "allsync"

-- the numbers that stand behind its name: the first, and the second
abbrev pub first_argument : Op → Option ℤ
first_argument (Push n) = Some n
first_argument (Elem object count) = Some (pos object)
first_argument (Load local) = Some (pos local)
first_argument (Set local) = Some (pos local)
first_argument (Clear local pointer) = Some (pos local)
first_argument (Bin op) = Some (pos (binary_number op))
first_argument (Un op) = Some (pos (unary_number op))
first_argument (Jump target) = Some (pos target)
first_argument (Zero target) = Some (pos target)
first_argument (Call function) = Some (pos function)
first_argument (Print text count) = Some (pos text)
first_argument (Read site) = Some (pos site)
first_argument (Fill site local) = Some (pos site)
first_argument (Write site) = Some (pos site)
first_argument (Store site) = Some (pos site)
first_argument (Get site local) = Some (pos site)
first_argument (Put site) = Some (pos site)
first_argument (Send site) = Some (pos site)
first_argument (Copy site mode) = Some (pos site)
first_argument (Wait counter) = Some (pos counter)
first_argument _ = None

abbrev pub second_argument : Op → Option ℤ
second_argument (Elem object count) = Some (pos count)
second_argument (Print text count) = Some (pos count)
second_argument (Fill site local) = Some (pos local)
second_argument (Get site local) = Some (pos local)
second_argument _ = None

-- a number with a blank before it
abbrev pub spaced : Option ℤ → List ℕ
spaced None = []
spaced (Some n) = 32 ∷ signed_decimal n

abbrev pub op_text : Op → List ℕ
op_text op = op_name op ++ spaced (first_argument op) ++ spaced (second_argument op)

-- the instruction with its number, counted from 0
abbrev pub instr_line : ℕ → Instr → List ℕ
instr_line at instr = decimal at ++ 32 ∷ [] ++ op_text instr.op ++ 10 ∷ []

abbrev pub function_line : List ℕ → List ℕ
function_line name = codes "function " ++ name ++ 10 ∷ []

abbrev pub heading_if : (name : List ℕ) → ℕ → FnRow → List ℕ
heading_if name at row = if row.start == at then function_line name else []

-- the lines of the functions whose first instruction is the one with this number
abbrev pub headings : ℕ → List FnRow → List (List ℕ) → List ℕ
headings at (row ∷ rows) (name ∷ more) = heading_if name at row ++ headings at rows more
headings at _ _ = []

-- the lines from this instruction on
abbrev pub lines_from : List FnRow → List (List ℕ) → ℕ → List Instr → List ℕ
lines_from rows functions at [] = []
lines_from rows functions at (instr ∷ instrs) =
    headings at rows functions ++ instr_line at instr ++ lines_from rows functions (at + 1) instrs

abbrev pub listing_of : Code → List ℕ
listing_of code = lines_from code.functions (names code) 0 code.instrs
