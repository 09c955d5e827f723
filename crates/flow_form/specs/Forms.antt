-- Which cells an access may reach, as far as its text tells. The index of a spread array with one dimension is known
-- where it is an affine expression of `MYPROC`, such an expression `% PROCS`, or the local of a `for_my_1d` plus or
-- minus a number.
use Rattle.std.specs.Prelude.{ℕ, zero, suc, ℤ, pos, ◌+ℤ◌, ◌-ℤ◌, ◌*ℤ◌, neg_ℤ, Bool, true, ◌&&◌, ◌==◌, Option, Some, None, List, if◌then◌else◌}
use Rattle.std.specs.List.{list_any}
use Rattle.sc_base.specs.declared.operator.Binary.TheVariants.{Add, Sub, Mul, Rem}
use Rattle.sc_isa.specs.Fitting.{fits_int}
use Rattle.sc_core.specs.declared.operation.Constant.TheVariants.{Number, Null, Mine, Procs}
use Rattle.sc_core.specs.declared.operation.Operation.{Operation}
use Rattle.sc_core.specs.declared.operation.Operation.TheVariants.{Use, Binary}
use Rattle.sc_core.specs.Core.{Core, constant, step, choice, update, Arguments, none, argument}
use Rattle.sc_core.specs.Forms.{PlaceForm, own_object, element, own_exposed, exposed, form_of}
use Rattle.site_graph.specs.declared.site.IndexForm.{IndexForm}
use Rattle.site_graph.specs.declared.site.IndexForm.TheVariants as index
use Rattle.site_graph.specs.declared.site.Form.{Form}
use Rattle.site_graph.specs.declared.site.Form.TheVariants.{Element, Own, OwnExposed, Exposed}
use Rattle.flow_form.specs.Within.{Within}

abbrev pub or_else : {A : Type 0} → Option A → Option A → Option A
or_else None other = other
or_else (Some x) other = Some x

-- ---- affine expressions

-- k * MYPROC + c
pub record Affine : Type 0 where
  pub k : ℤ
  pub c : ℤ

abbrev pub affine : ℤ → ℤ → Option Affine
affine k c = Some (record { k = k; c = c })

-- a number or `PROCS`
abbrev pub factor : (nodes : ℕ) → Core → Option ℤ
factor nodes (constant (Number n)) = Some n
factor nodes (constant Procs) = Some (pos nodes)
factor nodes _ = None

abbrev pub scaled : Option ℤ → Option Affine → Option Affine
scaled (Some n) (Some a) = affine (n *ℤ a.k) (n *ℤ a.c)
scaled _ _ = None

abbrev pub joined : Operation → (a b : Option Affine) → (factor_a factor_b : Option ℤ) → Option Affine
joined (Binary Add) (Some a) (Some b) n m = affine (a.k +ℤ b.k) (a.c +ℤ b.c)
joined (Binary Sub) (Some a) (Some b) n m = affine (a.k -ℤ b.k) (a.c -ℤ b.c)
joined (Binary Mul) a b n m = or_else (scaled n b) (scaled m a)
joined _ a b n m = None

-- Numbers, `PROCS` and `MYPROC` joined by `+`, `-` and `*`, where each `*` has a number or `PROCS` on one side.
abbrev mutual
  pub affine_of : (nodes : ℕ) → Core → Option Affine
  affine_of nodes (constant (Number n)) = affine (pos 0) n
  affine_of nodes (constant Procs) = affine (pos 0) (pos nodes)
  affine_of nodes (constant Mine) = affine (pos 1) (pos 0)
  affine_of nodes (constant Null) = None
  affine_of nodes (step operation arguments line) = affine_by nodes operation arguments
  affine_of nodes (choice of_pointer test on off) = None
  affine_of nodes (update pointer operation right back line) = None

  pub affine_by : (nodes : ℕ) → Operation → Arguments → Option Affine
  affine_by nodes operation (argument a (argument b none)) =
      joined operation (affine_of nodes a) (affine_of nodes b) (factor nodes a) (factor nodes b)
  affine_by nodes operation _ = None

-- ---- index forms

-- where k and c have 64 bits with sign
abbrev pub if_fits : (ℤ → ℤ → IndexForm) → Option Affine → Option IndexForm
if_fits form None = None
if_fits form (Some a) = if fits_int a.k && fits_int a.c then Some (form a.k a.c) else None

abbrev pub wrapped : (nodes : ℕ) → Core → Option IndexForm
wrapped nodes (step (Binary Rem) (argument e (argument (constant Procs) none)) line) =
    if_fits index.Wrapped (affine_of nodes e)
wrapped nodes _ = None

-- the local, if it is one of these, plus c
abbrev pub mine_by : (mines : List ℕ) → (local : ℕ) → ℤ → Option IndexForm
mine_by mines x c = if list_any (λ y. x == y) mines then Some (index.Mine c) else None

abbrev pub mine : (mines : List ℕ) → Core → Option IndexForm
mine mines (step (Use x) none line) = mine_by mines x (pos 0)
mine mines (step (Binary Add) (argument (step (Use x) none at) (argument (constant (Number n)) none)) line) =
    mine_by mines x n
mine mines (step (Binary Add) (argument (constant (Number n)) (argument (step (Use x) none at) none)) line) =
    mine_by mines x n
mine mines (step (Binary Sub) (argument (step (Use x) none at) (argument (constant (Number n)) none)) line) =
    mine_by mines x (neg_ℤ n)
mine mines _ = None

abbrev pub known : Option IndexForm → IndexForm
known None = index.Any
known (Some form) = form

-- of the indices of an element, which are written plainly or not
abbrev pub index_form : Within → (plain : Bool) → Arguments → IndexForm
index_form w true (argument e none) =
    known (or_else (mine w.mines e) (or_else (wrapped w.nodes e) (if_fits index.Linear (affine_of w.nodes e))))
index_form w _ _ = index.Any

-- ---- forms of places

abbrev pub form_by : Within → PlaceForm → Form
form_by w (own_object o) = Own o
form_by w (element o plain indices) = Element o (index_form w plain indices)
form_by w own_exposed = OwnExposed
form_by w exposed = Exposed

-- the place that is the argument with this number, from 0
abbrev pub form_at : Within → Arguments → (number : ℕ) → Form
form_at w none n = Exposed
form_at w (argument e more) zero = form_by w (form_of e)
form_at w (argument e more) (suc n) = form_at w more n
