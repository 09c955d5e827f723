-- The code of functions and of whole sources.
use Rattle.std.proofs.Common.{◌≡◌, refl, sym, ap, ◌∙◌, ℕ, ◌+◌, ◌<◌, ◌≤◌, pos, Bool, true, false, List, [], ◌∷◌, ◌++◌, length, map, fold, slice_get, get_or, subst, Some, arith, append_assoc, length-append}
use Rattle.std.proofs.lemmas.List.{length-map, append-nil}
use Rattle.std.proofs.lemmas.Option.{slice_get-map, slice_get_read, slice_get_within}
use Rattle.std.specs.Option.{option_map}
use borrow.Author.Count.{below_more}
use Rattle.sc_core.specs.declared.statement.CoreFunction.{CoreFunction}
use Rattle.sc_core.specs.ViewStatements.{plain_function}
use Rattle.sc_base.specs.declared.shape.Ty.{Ty}
use Rattle.sc_base.specs.declared.shape.Star.{Star}
use Rattle.sc_base.specs.declared.limits.TheConstants.{LIMITS}
use Rattle.sc_isa.specs.declared.op.Instr.{Instr}
use Rattle.sc_isa.specs.declared.op.Op.{Op}
use Rattle.sc_isa.specs.declared.op.Op.TheVariants.{Ret}
use Rattle.sc_isa.specs.declared.code.Code.{Code}
use Rattle.sc_core.specs.declared.operation.Constant.{Constant}
use Rattle.sc_core.specs.declared.operation.Constant.TheVariants as constants
use Rattle.sc_core.specs.Core.{Function, Program}
use Rattle.sc_core.specs.Places.{last_of, is_pointer}
use Rattle.sc_core.specs.Statements.{zero_of}
use Rattle.sc_meaning.specs.Points.{size_of}
use Rattle.flow_form.specs.Accesses.{accesses_in}
use Rattle.site_graph.specs.declared.plan.Plan.{Plan}
use Rattle.node_emit.specs.Runs.{outside, run, constant_op}
use Rattle.node_emit.specs.Widths.{width_of}
use Rattle.node_emit.specs.Statements.{code_in}
use Rattle.node_emit.specs.Sources.{function_code, functions_code, locals_of, rows_from, IsCodeOf, IsFirstOver}
use Rattle.node_emit.specs.Drafts.{Written, grown, put, passed, ran}
use Rattle.node_emit.specs.Done.{done}
use Rattle.node_emit.specs.Whole.{function_put, functions_put, row_of, rows_of}
use Rattle.node_emit.proofs.Lengths.{length-in}
use Rattle.node_emit.proofs.Emitted.{grown-same, put-grown}
use Rattle.node_emit.proofs.Turns.{done-grown, ran-grown, code_in-same}

pub function-is : (plan : Plan) (f : Function) (d : Written) →
    function_put plan f d ≡ ran plan f.line (Ret ∷ []) (put (constant_op (zero_of f.result)) (done plan f.body (passed d)))
unfolding function_put passed
function-is plan f d =
    let k : ℕ = d.point in let n : ℕ = d.sites in let pc : ℕ = length d.instrs in
    let c : List Instr = code_in plan f.body (k + 1) n 0 0 pc in
    let o : Op = constant_op (zero_of f.result) in
    let r : List Instr = run plan (k + 1 + size_of f.body) f.line (Ret ∷ []) in
    let e1 : done plan f.body (grown d [] 1 0) ≡ grown d c (1 + size_of f.body) (accesses_in f.body) =
    done-grown plan f.body d [] 1 0
    ∙ grown-same d _ _ _ _ _ _ (code_in-same plan f.body _ _ _ _ _ _ refl (omega arith) (omega arith)) refl (omega arith) in
    let p : k + (1 + size_of f.body) ≡ k + 1 + size_of f.body = omega arith in
    sym (ap (λ x. ran plan f.line (Ret ∷ []) (put o x)) e1
    ∙ ap (ran plan f.line (Ret ∷ [])) (put-grown o d c _ _)
    ∙ ran-grown plan f.line (Ret ∷ []) d (c ++ outside o ∷ []) _ _
    ∙ grown-same d _ _ _ _ _ _ (ap (λ t. (c ++ outside o ∷ []) ++ run plan t f.line (Ret ∷ [])) p ∙ append_assoc c (outside o ∷ []) r) (omega arith) refl)

pub ruleset functions = (function-is)

pub put-none : (plan : Plan) (d : Written) → functions_put plan [] d ≡ d
unfolding functions_put
put-none plan d = refl

pub put-on : (plan : Plan) (f : Function) (more : List Function) (d : Written) →
    functions_put plan (f ∷ more) d ≡ functions_put plan more (function_put plan f d)
unfolding functions_put
put-on plan f more d = refl

pub rows-none : (plan : Plan) (d : Written) → rows_of plan [] d ≡ []
unfolding rows_of
rows-none plan d = refl

pub rows-on : (plan : Plan) (f : Function) (more : List Function) (d : Written) →
    rows_of plan (f ∷ more) d ≡ row_of f d ∷ rows_of plan more (function_put plan f d)
unfolding rows_of
rows-on plan f more d = refl

pub ruleset lists = (put-none, put-on, rows-none, rows-on)

length-function : (plan : Plan) (f : Function) (k n pc : ℕ) → length (function_code plan f k n pc) ≡ width_of plan f k
length-function plan f k n pc = simp (length-append, length-map) (omega (arith, length-in plan f.body))

place-function : (plan : Plan) (f : Function) (d : Written) →
    length (function_put plan f d).instrs ≡ length d.instrs + width_of plan f d.point
unfolding function_put grown
place-function plan f d =
    let a = length-append d.instrs (function_code plan f d.point d.sites (length d.instrs)) in
    let b = length-function plan f d.point d.sites (length d.instrs) in
    omega (arith, a, b)

point-function : (plan : Plan) (f : Function) (d : Written) → (function_put plan f d).point ≡ d.point + size_of f.body + 2
unfolding function_put grown
point-function plan f d = omega arith

instrs-function : (plan : Plan) (f : Function) (d : Written) →
    (function_put plan f d).instrs ≡ d.instrs ++ function_code plan f d.point d.sites (length d.instrs)
unfolding function_put grown
instrs-function plan f d = refl

sites-function : (plan : Plan) (f : Function) (d : Written) → (function_put plan f d).sites ≡ d.sites + accesses_in f.body
unfolding function_put grown
sites-function plan f d = refl

functions_code-same : (plan : Plan) (fs : List Function) (k k' n n' pc pc' : ℕ) → k ≡ k' → n ≡ n' → pc ≡ pc' →
    functions_code plan fs k n pc ≡ functions_code plan fs k' n' pc'
functions_code-same plan fs k k' n n' pc pc' a b c =
    ap (λ x. functions_code plan fs x n pc) a ∙ ap (λ x. functions_code plan fs k' x pc) b ∙ ap (functions_code plan fs k' n') c

instrs-written : (plan : Plan) (fs : List Function) (d : Written) →
    (functions_put plan fs d).instrs ≡ d.instrs ++ functions_code plan fs d.point d.sites (length d.instrs)
unfolding functions_put
instrs-written plan [] d = sym (append-nil d.instrs)
instrs-written plan (f ∷ more) d =
    instrs-written plan more (function_put plan f d)
    ∙ ap (λ xs. xs ++ functions_code plan more (function_put plan f d).point (function_put plan f d).sites (length (function_put plan f d).instrs)) (instrs-function plan f d)
    ∙ append_assoc d.instrs (function_code plan f d.point d.sites (length d.instrs)) _
    ∙ ap (λ xs. d.instrs ++ (function_code plan f d.point d.sites (length d.instrs) ++ xs))
    (functions_code-same plan more _ _ _ _ _ _ (point-function plan f d) (sites-function plan f d) (place-function plan f d))

sites-written : (plan : Plan) (fs : List Function) (d : Written) →
    (functions_put plan fs d).sites ≡ fold (λ a f. a + accesses_in f.body) d.sites fs
unfolding functions_put
sites-written plan [] d = refl
sites-written plan (f ∷ more) d =
    sites-written plan more (function_put plan f d)
    ∙ ap (λ n. fold (λ a f. a + accesses_in f.body) n more) (sites-function plan f d)

rows-written : (plan : Plan) (fs : List Function) (d : Written) → rows_of plan fs d ≡ rows_from plan fs d.point (length d.instrs)
unfolding rows_of row_of
rows-written plan [] d = refl
rows-written plan (f ∷ more) d =
    ap (λ rows. row_of f d ∷ rows)
    (rows-written plan more (function_put plan f d)
    ∙ ap (λ k. rows_from plan more k (length (function_put plan f d).instrs)) (point-function plan f d)
    ∙ ap (rows_from plan more (d.point + size_of f.body + 2)) (place-function plan f d))

-- before the first function
abbrev pub at_first : Written
at_first = record { instrs = []; point = 1; sites = 0 }

pub code-written : (plan : Plan) (program : Program) (code : Code) →
    code.functions ≡ rows_of plan program.functions at_first →
    code.instrs ≡ (functions_put plan program.functions at_first).instrs → code.texts ≡ program.texts →
    code.sites ≡ (functions_put plan program.functions at_first).sites → IsCodeOf plan program code
code-written plan program code a b c e = record {
  functions = a ∙ rows-written plan program.functions at_first;
  instrs = b ∙ instrs-written plan program.functions at_first;
  texts = c;
  sites = e ∙ sites-written plan program.functions at_first;
}

pub ruleset wholes = (code-written)

-- ---- the results of functions

by_star : Bool → Constant
by_star true = constants.Null
by_star false = constants.Number (pos 0)

zero-by : (ty : Ty) → zero_of ty ≡ by_star (is_pointer (last_of ty.stars))
unfolding by_star
zero-by ty = elim (is_pointer (last_of ty.stars)) as (λ b. elim b as (λ _. Constant) [ true ↦ constants.Null | false ↦ constants.Number (pos 0) ] ≡ by_star b) [ true ↦ refl | false ↦ refl ]

star-none : (stars : List Star) → length stars ≡ 0 → is_pointer (last_of stars) ≡ false
star-none [] h = refl
star-none (s ∷ more) h = absurd (omega (arith, h))

star-some : (s : Star) (more : List Star) → is_pointer (last_of (s ∷ more)) ≡ true
star-some s [] = refl
star-some s (u ∷ more) = star-some u more

stars-some : (stars : List Star) → (length stars ≡ 0 → ⊥) → is_pointer (last_of stars) ≡ true
stars-some [] h = absurd (h refl)
stars-some (s ∷ more) h = star-some s more

pub zero-nil : (ty : Ty) → length ty.stars ≡ 0 → zero_of ty ≡ constants.Number (pos 0)
unfolding by_star
zero-nil ty h = zero-by ty ∙ ap by_star (star-none ty.stars h)

pub zero-some : (ty : Ty) → (length ty.stars ≡ 0 → ⊥) → zero_of ty ≡ constants.Null
unfolding by_star
zero-some ty h = zero-by ty ∙ ap by_star (stars-some ty.stars h)

-- ---- too many locals

pub function-there : (fs : List CoreFunction) (i : ℕ) (x : CoreFunction) → i < length fs → x ≡ get_or fs i x →
    slice_get (map plain_function fs) i ≡ Some (plain_function x)
function-there fs i x h e =
    slice_get-map plain_function fs i ∙ ap (option_map plain_function) (slice_get_read fs (length fs) i x refl h e)

pub first-over : (program : Program) (i : ℕ) (f : Function) (count : ℕ) → slice_get program.functions i ≡ Some f →
    count ≡ locals_of f → LIMITS.locals < count →
    ((n : ℕ) (g : Function) → n < i → slice_get program.functions n ≡ Some g → locals_of g ≤ LIMITS.locals) → IsFirstOver program count
first-over program i f count there count_is over before = record {
  number = i;
  over = f;
  is_there = there;
  is_over = omega arith;
  count_is = count_is;
  before = λ n g h e o. let b = before n g h e in omega (arith, b, o);
}

one-within : (fs : List Function) (i : ℕ) (f g : Function) → slice_get fs i ≡ Some f → slice_get fs i ≡ Some g →
    locals_of f ≤ LIMITS.locals → locals_of g ≤ LIMITS.locals
one-within fs i f g a b h =
    let e : f ≡ g = cc in
    let P : Function → Type 0 = λ x. locals_of x ≤ LIMITS.locals in subst P e h

pub within-more : (fs : List Function) (i : ℕ) (f : Function) → slice_get fs i ≡ Some f → locals_of f ≤ LIMITS.locals →
    ((n : ℕ) (g : Function) → n < i → slice_get fs n ≡ Some g → locals_of g ≤ LIMITS.locals) →
    (n : ℕ) (g : Function) → n < i + 1 → slice_get fs n ≡ Some g → locals_of g ≤ LIMITS.locals
within-more fs i f there h before n g less e =
    let P : ℕ → Type 0 = λ k. (x : Function) → slice_get fs k ≡ Some x → locals_of x ≤ LIMITS.locals in
    below_more P i (λ k l x y. before k x l y) (λ x y. one-within fs i f x there y h) n less g e

pub all-within : (fs : List CoreFunction) (i : ℕ) → length fs ≤ i →
    ((n : ℕ) (g : Function) → n < i → slice_get (map plain_function fs) n ≡ Some g → locals_of g ≤ LIMITS.locals) →
    (n : ℕ) (g : Function) → slice_get (map plain_function fs) n ≡ Some g → locals_of g ≤ LIMITS.locals
all-within fs i h before n g e =
    let a = slice_get_within (map plain_function fs) n g e in
    let b = length-map fs plain_function in
    before n g (omega (arith, a, b)) e
