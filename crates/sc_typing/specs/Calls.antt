-- The typed calls, made of judged arguments where the rule on them is kept and each has a type.
use Rattle.std.specs.Prelude.{ℕ, Bool, true, false, ◌&&◌, Option, Some, None, List, [], ◌∷◌, take, drop, slice_get}
use Rattle.std.specs.Prelude.{if◌then◌else◌}
use Rattle.std.specs.Option.{option_map}
use Rattle.std.specs.List.{list_all}
use Rattle.sc_base.specs.declared.shape.Star.TheVariants as star
use Rattle.sc_base.specs.declared.shape.Ty.{Ty}
use Rattle.sc_tree.specs.declared.typed.Named.TheVariants as named
use Rattle.sc_tree.specs.PlainTyped as typed
use Rattle.sc_tree.specs.PlainTyped.{TypedExpression, TypedForm}
use Rattle.sc_tree.specs.ViewTyped.{typed_expressions_of}
use Rattle.sc_typing.specs.declared.calls.Given.{Given}
use Rattle.sc_typing.specs.declared.file.Definition.{Definition}
use Rattle.sc_typing.specs.declared.file.Meaning.{Meaning}
use Rattle.sc_typing.specs.declared.file.Meaning.TheVariants as means
use Rattle.sc_typing.specs.declared.library.Library.{Library}
use Rattle.sc_typing.specs.declared.library.Library.TheVariants as lib
use Rattle.sc_typing.specs.declared.known.Spot.{Spot}
use Rattle.sc_typing.specs.declared.places.PlaceKind.TheVariants.{NoPlace}
use Rattle.sc_typing.specs.Arguments.{params_of, element_among, type_or_int, first_known, library_wanted}
use Rattle.sc_typing.specs.Arguments.{arguments_kept, library_kept}
use Rattle.sc_typing.specs.Types.{int, nothing, pointer, element}
use Rattle.sc_typing.specs.Known.{Valued, valued, Judgement, judged, is_used, met_expression}
use Rattle.sc_typing.specs.Source.{Source}

-- each argument as one of the type that is wanted
abbrev pub met_all : (wanted : List Ty) → List Judgement → List TypedExpression
met_all [] js = []
met_all (_ ∷ _) [] = []
met_all (ty ∷ wanted) (j ∷ js) = met_expression j ty ∷ met_all wanted js

-- each argument has a type, and none is void
abbrev pub all_used : List Judgement → Bool
all_used js = list_all is_used js

abbrev pub result_of : Option Definition → Ty
result_of None = int
result_of (Some d) = d.result

-- the type of the call
abbrev pub library_type : List Judgement → Library → Ty
library_type js lib.ToGlobal = pointer (element_among (take 1 (drop 1 js))) star.Global
library_type js lib.ToLocal = pointer (element (type_or_int (first_known js))) star.Local
library_type js lib.ToProc = int
library_type js _ = nothing

abbrev pub given_format : Option Given → ℕ
given_format None = 0
given_format (Some g) = g.format

-- the call of these arguments, where they are as many as it takes
abbrev pub of_one : {A : Type 0} → (TypedExpression → A) → List TypedExpression → Option A
of_one f (a ∷ []) = Some (f a)
of_one f _ = None

abbrev pub of_two : {A : Type 0} → (TypedExpression → TypedExpression → A) → List TypedExpression → Option A
of_two f (a ∷ b ∷ []) = Some (f a b)
of_two f _ = None

abbrev pub of_three : {A : Type 0} → (TypedExpression → TypedExpression → TypedExpression → A) →
    List TypedExpression → Option A
of_three f (a ∷ b ∷ d ∷ []) = Some (f a b d)
of_three f _ = None

abbrev pub copy_form : Library → TypedExpression → TypedExpression → TypedExpression → TypedForm
copy_form lib.BulkRead to from bytes = typed.bulk_read to from bytes
copy_form lib.BulkWrite to from bytes = typed.bulk_write to from bytes
copy_form lib.BulkGet to from bytes = typed.bulk_get to from bytes
copy_form lib.BulkPut to from bytes = typed.bulk_put to from bytes
copy_form _ to from bytes = typed.bulk_store to from bytes

abbrev pub library_form : Option Given → Library → List TypedExpression → Option TypedForm
library_form given lib.Printf es = Some (typed.printf (given_format given) (typed_expressions_of es))
library_form given lib.Sync es = Some typed.sync
library_form given lib.Barrier es = Some typed.barrier
library_form given lib.AllStoreSync es = Some typed.all_store_sync
library_form given lib.ToGlobal es = of_two typed.to_global es
library_form given lib.ToProc es = of_one typed.to_proc es
library_form given lib.ToLocal es = of_one typed.to_local es
library_form given lib.BulkRead es = of_three (copy_form lib.BulkRead) es
library_form given lib.BulkWrite es = of_three (copy_form lib.BulkWrite) es
library_form given lib.BulkGet es = of_three (copy_form lib.BulkGet) es
library_form given lib.BulkPut es = of_three (copy_form lib.BulkPut) es
library_form given lib.BulkStore es = of_three (copy_form lib.BulkStore) es

abbrev pub call_value : Spot → Ty → TypedForm → Valued
call_value spot ty form = valued form ty false spot

-- the form, where the rule is kept and each argument has a type
abbrev pub form_if : Bool → Option TypedForm → Option TypedForm
form_if kept form = if kept then form else None

abbrev pub library_value : Source → Library → Option Given → List Judgement → Spot → Option Valued
library_value c library given js spot =
    option_map (call_value spot (library_type js library))
    (form_if (library_kept c library given js && all_used js)
    (library_form given library (met_all (library_wanted c given js library) js)))

unfoldable pub library_call : Source → Library → Option Given → List Judgement → Spot → Judgement
library_call c library given js spot = judged spot NoPlace (library_value c library given js spot)

abbrev pub call_form : ℕ → List TypedExpression → TypedForm
call_form function es = typed.call (named.Function function) (typed_expressions_of es)

abbrev pub function_value : Source → ℕ → List Judgement → Spot → Option Valued
function_value c function js spot =
    option_map (call_value spot (result_of (slice_get c.definitions function)))
    (form_if (arguments_kept c function js && all_used js)
    (Some (call_form function (met_all (params_of (slice_get c.definitions function)) js))))

unfoldable pub function_call : Source → ℕ → List Judgement → Spot → Judgement
function_call c function js spot = judged spot NoPlace (function_value c function js spot)

-- A name that means no function gives no value.
unfoldable pub call_of : Source → Option Meaning → Option Given → List Judgement → Spot → Judgement
call_of c None given js spot = judged spot NoPlace None
call_of c (Some (means.Library library)) given js spot = library_call c library given js spot
call_of c (Some (means.Function function)) given js spot = function_call c function js spot
call_of c (Some (means.Object _)) given js spot = judged spot NoPlace None
call_of c (Some means.Nothing) given js spot = judged spot NoPlace None
