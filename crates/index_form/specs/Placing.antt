-- Forms of places and of indices, by the parts of the outermost step.
use Rattle.std.specs.Prelude.{ℕ, Bool, true, false, ◌&&◌, List, Option, Some, None, if◌then◌else◌}
use Rattle.sc_isa.specs.Fitting.{fits_int}
use Rattle.sc_core.specs.declared.operation.Constant.TheVariants.{Procs}
use Rattle.sc_core.specs.Core.{Core, constant, Arguments}
use Rattle.site_graph.specs.declared.site.IndexForm.{IndexForm}
use Rattle.site_graph.specs.declared.site.IndexForm.TheVariants as index
use Rattle.site_graph.specs.declared.site.Form.{Form}
use Rattle.site_graph.specs.declared.site.Form.TheVariants as form
use Rattle.flow_form.specs.Forms.{Affine, affine_of, or_else, mine, wrapped, if_fits, known}
use Rattle.index_form.specs.declared.form.Narrow.{Narrow}
use Rattle.index_form.specs.declared.offset.Kind.{Kind}
use Rattle.index_form.specs.declared.offset.Kind.TheVariants.{Remainder, Own, Element}
use Rattle.index_form.specs.Outermost.{Stepped, Sides, step_in, one_in, two_in}
use Rattle.index_form.specs.Offsets.{kind}

unfoldable pub narrow_of : Option Affine → Option Narrow
narrow_of None = None
narrow_of (Some a) = if fits_int a.k && fits_int a.c then Some (record { k = a.k; c = a.c }) else None

unfoldable pub linear_known : Option Narrow → IndexForm
linear_known None = index.Any
linear_known (Some a) = index.Linear a.k a.c

unfoldable pub wrapped_known : Option Narrow → Option IndexForm
wrapped_known None = None
wrapped_known (Some a) = Some (index.Wrapped a.k a.c)

-- ---- remainders

unfoldable pub remainder_by : Kind → Option Sides → Option Sides
remainder_by Remainder two = two
remainder_by _ two = None

unfoldable pub remainder_in : Stepped → Option Sides
remainder_in s = remainder_by (kind s.operation) (two_in s.arguments)

unfoldable pub procs_in : Core → Bool
procs_in (constant Procs) = true
procs_in _ = false

-- ---- indices

unfoldable pub indexed : (nodes : ℕ) → (mines : List ℕ) → Core → IndexForm
indexed nodes mines e =
    known (or_else (mine mines e) (or_else (wrapped nodes e) (if_fits index.Linear (affine_of nodes e))))

unfoldable pub index_by : (nodes : ℕ) → (mines : List ℕ) → (plain : Bool) → Option Core → IndexForm
index_by nodes mines plain None = index.Any
index_by nodes mines plain (Some e) = if plain then indexed nodes mines e else index.Any

-- ---- places

unfoldable pub object_by : Kind → Option ℕ
object_by (Element o plain) = Some o
object_by _ = None

unfoldable pub object_at : Option Stepped → Option ℕ
object_at None = None
object_at (Some s) = object_by (kind s.operation)

unfoldable pub object_in : Core → Option ℕ
object_in e = object_at (step_in e)

unfoldable pub own_named : Option ℕ → Form
own_named None = form.OwnExposed
own_named (Some o) = form.Own o

unfoldable pub own_by : Option Core → Form
own_by None = form.OwnExposed
own_by (Some e) = own_named (object_in e)

unfoldable pub placed_by : (nodes : ℕ) → (mines : List ℕ) → Kind → Arguments → Form
placed_by nodes mines Own arguments = own_by (one_in arguments)
placed_by nodes mines (Element o plain) arguments = form.Element o (index_by nodes mines plain (one_in arguments))
placed_by nodes mines _ arguments = form.Exposed

unfoldable pub placed : (nodes : ℕ) → (mines : List ℕ) → Stepped → Form
placed nodes mines s = placed_by nodes mines (kind s.operation) s.arguments
