-- What is known of the value of an expression, and of a chain one step after another.
use Rattle.std.specs.Prelude.{is_some, ℕ, ℤ, ◌+ℤ◌, ◌-ℤ◌, Bool, true, ◌&&◌, List, [], ◌∷◌, Option, Some, None}
use Rattle.std.specs.Option.{option_map}
use Rattle.sc_base.specs.declared.operator.Binary.TheVariants.{Add, Sub, Mul}
use Rattle.sc_core.specs.declared.operation.Operation.{Operation}
use Rattle.sc_core.specs.declared.operation.Operation.TheVariants.{Binary}
use Rattle.sc_core.specs.Core.{Core}
use Rattle.sc_core.specs.View.{Linked}
use Rattle.flow_form.specs.Forms.{Affine, affine, affine_of, factor, scaled, or_else}
use Rattle.index_form.specs.declared.affine.Affine.{Affine as WideAffine}
use Rattle.index_form.specs.declared.affine.Joining.{Joining}
use Rattle.index_form.specs.declared.affine.Joining.TheVariants.{Sum, Difference, Product}
use Rattle.index_form.specs.declared.affine.Known.{Known}
use Rattle.index_form.specs.Outermost.{Sides, one_in}

pub record Seen : Type 0 where
  pub affine : Option Affine
  pub factor : Option ℤ  -- the value of a number or of `PROCS`

unfoldable pub affine_seen : WideAffine → Affine
affine_seen a = record { k = a.k; c = a.c }

unfoldable pub seen : Known → Seen
seen known = record { affine = option_map affine_seen known.affine; factor = known.factor }

unfoldable pub nothing_seen : Seen
nothing_seen = record { affine = None; factor = None }

unfoldable pub seen_in : (nodes : ℕ) → Core → Seen
seen_in nodes e = record { affine = affine_of nodes e; factor = factor nodes e }

-- ---- operators

unfoldable pub seen_sum : (a b : Option Affine) → Option Affine
seen_sum (Some a) (Some b) = affine (a.k +ℤ b.k) (a.c +ℤ b.c)
seen_sum _ _ = None

unfoldable pub seen_difference : (a b : Option Affine) → Option Affine
seen_difference (Some a) (Some b) = affine (a.k -ℤ b.k) (a.c -ℤ b.c)
seen_difference _ _ = None

unfoldable pub seen_product : (a b : Seen) → Option Affine
seen_product a b = or_else (scaled a.factor b.affine) (scaled b.factor a.affine)

-- the operators of affine expressions
unfoldable pub joining : Operation → Option Joining
joining (Binary Add) = Some Sum
joining (Binary Sub) = Some Difference
joining (Binary Mul) = Some Product
joining _ = None

unfoldable pub joined_by : Joining → (a b : Seen) → Option Affine
joined_by Sum a b = seen_sum a.affine b.affine
joined_by Difference a b = seen_difference a.affine b.affine
joined_by Product a b = seen_product a b

unfoldable pub seen_joined : Joining → (a b : Seen) → Seen
seen_joined j a b = record { affine = joined_by j a b; factor = None }

-- ---- chains

unfoldable pub all_join : List Linked → Bool
all_join [] = true
all_join (l ∷ more) = is_some (joining l.operation) && all_join more

unfoldable pub sides_seen : (nodes : ℕ) → Joining → Option Sides → Seen
sides_seen nodes j None = nothing_seen
sides_seen nodes j (Some s) = seen_joined j (seen_in nodes s.left) (seen_in nodes s.right)

unfoldable pub side_seen : (nodes : ℕ) → Joining → Seen → Option Core → Seen
side_seen nodes j a None = nothing_seen
side_seen nodes j a (Some e) = seen_joined j a (seen_in nodes e)

unfoldable pub step_seen : (nodes : ℕ) → Option Joining → Seen → Option Core → Seen
step_seen nodes None a e = nothing_seen
step_seen nodes (Some j) a e = side_seen nodes j a e

unfoldable pub seen_link : (nodes : ℕ) → Seen → Linked → Seen
seen_link nodes a l = step_seen nodes (joining l.operation) a (one_in l.more)

unfoldable pub seen_links : (nodes : ℕ) → Seen → List Linked → Seen
seen_links nodes a [] = a
seen_links nodes a (l ∷ more) = seen_links nodes (seen_link nodes a l) more
