-- The rules on arguments, each true where it is kept: there are as many arguments as the callee wants, and each fits.
use Rattle.std.specs.Prelude.{ℕ, Bool, true, false, ◌&&◌, Option, Some, None, List, [], ◌∷◌, take, drop, replicate}
use Rattle.std.specs.Prelude.{slice_get, if◌then◌else◌}
use Rattle.sc_base.specs.declared.shape.Star.{Star}
use Rattle.sc_base.specs.declared.shape.Star.TheVariants as star
use Rattle.sc_base.specs.declared.shape.Ty.{Ty}
use Rattle.sc_typing.specs.declared.calls.Given.{Given}
use Rattle.sc_typing.specs.declared.file.Definition.{Definition}
use Rattle.sc_typing.specs.declared.library.Library.{Library}
use Rattle.sc_typing.specs.declared.library.Library.TheVariants as lib
use Rattle.sc_typing.specs.declared.rule.Rule.{Rule}
use Rattle.sc_typing.specs.declared.rule.Rule.TheVariants as rules
use Rattle.sc_typing.specs.Types.{int, pointer, element, last_star, is_pointer, is_wide}
use Rattle.sc_typing.specs.Known.{Valued, Judgement}
use Rattle.sc_typing.specs.Rules
use Rattle.sc_typing.specs.Source.{Source, directives_of}

-- as many arguments as are wanted, and each fits
abbrev pub fit_all : (wanted : List Ty) → List Judgement → Bool
fit_all [] [] = true
fit_all [] (_ ∷ _) = false
fit_all (_ ∷ _) [] = false
fit_all (ty ∷ wanted) (j ∷ js) = Rules.fit j.known ty && fit_all wanted js

-- Rule 19: a call has as many arguments as the function has parameters, and each fits.
abbrev pub params_of : Option Definition → List Ty
params_of None = []
params_of (Some d) = d.params

abbrev pub arguments_kept : Source → (function : ℕ) → List Judgement → Bool
arguments_kept c function js = fit_all (params_of (slice_get c.definitions function)) js

-- the type that the first argument of a pointer type that is not `NULL` reaches, and int where there is none
abbrev pub element_or : Option Valued → Ty → Ty
element_or None otherwise = otherwise
element_or (Some v) otherwise = if is_pointer v.ty then (if v.is_null then otherwise else element v.ty) else otherwise

abbrev pub element_among : List Judgement → Ty
element_among [] = int
element_among (j ∷ js) = element_or j.known (element_among js)

abbrev pub type_or_int : Option Valued → Ty
type_or_int None = int
type_or_int (Some v) = v.ty

abbrev pub first_known : List Judgement → Option Valued
first_known [] = None
first_known (j ∷ _) = j.known

abbrev pub format_directives : Source → Option Given → Option ℕ
format_directives c None = None
format_directives c (Some g) = directives_of c g.format

-- Rule 22: a format is exactly the first argument of `printf`; each `%` in it is followed by `d` or `%`, and as many
-- int arguments follow as there are `%d`.
abbrev pub ints_wanted : Option ℕ → List Ty
ints_wanted None = []
ints_wanted (Some n) = replicate n int

abbrev pub pointers_wanted : Ty → (to from : Star) → List Ty
pointers_wanted ty to from = pointer ty to ∷ pointer ty from ∷ int ∷ []

abbrev pub to_global_wanted : List Judgement → List Ty
to_global_wanted js = int ∷ pointer (element_among (take 1 (drop 1 js))) star.Local ∷ []

-- Rule 23: `toglobal` takes an int and a `T *`; `toproc` and `tolocal` take a global or spread pointer; `bulk_read` and
-- `bulk_get` take a `T *`, a `T *global` and an int; `bulk_write`, `bulk_put` and `bulk_store` take a `T *global`, a
-- `T *` and an int; and the others take nothing.
abbrev pub library_wanted : Source → Option Given → List Judgement → Library → List Ty
library_wanted c given js lib.Printf = ints_wanted (format_directives c given)
library_wanted c given js lib.Sync = []
library_wanted c given js lib.Barrier = []
library_wanted c given js lib.AllStoreSync = []
library_wanted c given js lib.ToGlobal = to_global_wanted js
library_wanted c given js lib.ToProc = type_or_int (first_known js) ∷ []
library_wanted c given js lib.ToLocal = type_or_int (first_known js) ∷ []
library_wanted c given js lib.BulkRead = pointers_wanted (element_among (take 2 js)) star.Local star.Global
library_wanted c given js lib.BulkGet = pointers_wanted (element_among (take 2 js)) star.Local star.Global
library_wanted c given js lib.BulkWrite = pointers_wanted (element_among (take 2 js)) star.Global star.Local
library_wanted c given js lib.BulkPut = pointers_wanted (element_among (take 2 js)) star.Global star.Local
library_wanted c given js lib.BulkStore = pointers_wanted (element_among (take 2 js)) star.Global star.Local

-- what the rule asks besides
abbrev pub is_some : Option ℕ → Bool
is_some None = false
is_some (Some _) = true

abbrev pub are_wide : Option Valued → Bool
are_wide known = Rules.passes (λ v. is_wide (last_star v.ty)) known

abbrev pub library_asks : Source → Option Given → List Judgement → Library → Bool
library_asks c given js lib.Printf = is_some (format_directives c given)
library_asks c given js lib.ToProc = are_wide (first_known js)
library_asks c given js lib.ToLocal = are_wide (first_known js)
library_asks c given js _ = true

-- Rules 22 and 23: a call of the library has the arguments that it wants.
abbrev pub library_kept : Source → Library → Option Given → List Judgement → Bool
library_kept c library given js = fit_all (library_wanted c given js library) js && library_asks c given js library

abbrev pub library_rule : Library → Rule
library_rule lib.Printf = rules.Format
library_rule _ = rules.LibraryArguments

-- the token at which the rule is broken: the format, or the name
abbrev pub library_token : Library → Option Given → (at : ℕ) → ℕ
library_token lib.Printf (Some g) at = g.at
library_token _ given at = at
