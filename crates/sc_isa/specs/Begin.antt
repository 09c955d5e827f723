-- Where a node begins.
use Rattle.std.specs.Prelude.{ℕ, ◌-◌, if◌then◌else◌, Option, Some, None, List, [], ◌∷◌, length, codes, drop}
use Rattle.std.specs.Str.{bytes_eq}
use Rattle.sc_isa.specs.declared.code.Code.{Code}
use Rattle.sc_isa.specs.declared.code.FnRow.{FnRow}
use Rattle.sc_isa.specs.State.{State, entered_with}

-- the names of the functions, which are the last texts
abbrev pub names : Code → List (List ℕ)
names code = drop (length code.texts - length code.functions) code.texts

-- the first function of that name
abbrev pub row_named : List ℕ → List FnRow → List (List ℕ) → Option FnRow
row_named name (row ∷ rows) (other ∷ others) = if bytes_eq name other then Some row else row_named name rows others
row_named name _ _ = None

abbrev pub entry : Code → Option FnRow
entry code = row_named (codes "splitc_main") code.functions (names code)

abbrev pub begins_at : (budget outside : ℕ) → Option FnRow → State
begins_at budget outside (Some row) =
    record {
      frame = record { at = row.start; stack = []; locals = entered_with [] row.locals };
      callers = [];
      left = budget;
      flying = [];
    }
begins_at budget outside None =
    record { frame = record { at = outside; stack = []; locals = [] }; callers = []; left = budget; flying = [] }

-- a node begins in `splitc_main`; without that function it stands outside the code
abbrev pub begin : Code → (budget : ℕ) → State
begin code budget = begins_at budget (length code.instrs) (entry code)
