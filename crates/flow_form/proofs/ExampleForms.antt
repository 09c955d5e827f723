-- Index forms, on four nodes, where the local 3 is that of a `for_my_1d`.
use Rattle.std.proofs.Common.{◌≡◌, ℕ, ◌^◌, ◌-◌, pos, negsuc, true, false, Some, None, [], ◌∷◌, refl}
use Rattle.sc_base.specs.declared.operator.Binary.TheVariants.{Add, Sub, Mul, Rem}
use Rattle.sc_base.specs.declared.operator.Unary.TheVariants.{Minus}
use Rattle.sc_core.specs.declared.operation.Constant.TheVariants as of
use Rattle.sc_core.specs.declared.operation.Operation.TheVariants as does
use Rattle.sc_core.specs.declared.operation.Action.TheVariants as acts
use Rattle.sc_core.specs.Core.{Core, constant, none, argument, nothing}
use Rattle.site_graph.specs.declared.site.IndexForm.{IndexForm}
use Rattle.site_graph.specs.declared.site.IndexForm.TheVariants.{Linear, Wrapped, Mine, Any}
use Rattle.flow_form.specs.Within.{Within}
use Rattle.flow_form.specs.Forms.{index_form}
use Rattle.flow_form.specs.Statements.{mine_in}
use Rattle.flow_form.proofs.Parts.{number, one, two, use_, by, own, dropped, acting_on}

abbrev here : Within
here = record { nodes = 4; returns = λ f. []; function = 0; params = 0; mines = 3 ∷ [] }

abbrev form : Core → IndexForm
form e = index_form here true (argument e none)

abbrev mine : Core
mine = constant of.Mine

abbrev procs : Core
procs = constant of.Procs

abbrev most : ℕ
most = 2 ^ 63 - 1

-- 7, PROCS, MYPROC
number_form : form (number 7) ≡ Linear (pos 0) (pos 7)
number_form = refl

procs_form : form procs ≡ Linear (pos 0) (pos 4)
procs_form = refl

mine_form : form mine ≡ Linear (pos 1) (pos 0)
mine_form = refl

-- 2 * MYPROC + PROCS * 3, MYPROC * PROCS - 1, MYPROC * (MYPROC - MYPROC), (1 + 1) * MYPROC
sum_form : form (by Add (by Mul (number 2) mine) (by Mul procs (number 3))) ≡ Linear (pos 2) (pos 12)
sum_form = refl

difference_form : form (by Sub (by Mul mine procs) (number 1)) ≡ Linear (pos 4) (negsuc 0)
difference_form = refl

square_form : form (by Mul mine (by Sub mine mine)) ≡ Any
square_form = refl

no_single_factor : form (by Mul (by Add (number 1) (number 1)) mine) ≡ Any
no_single_factor = refl

-- (MYPROC + 1) % PROCS, (MYPROC + 1) % 4, MYPROC % PROCS + 1
wrapped_form : form (two (does.Binary Rem) (by Add mine (number 1)) procs) ≡ Wrapped (pos 1) (pos 1)
wrapped_form = refl

remainder_by_number : form (by Rem (by Add mine (number 1)) (number 4)) ≡ Any
remainder_by_number = refl

remainder_within : form (by Add (by Rem mine procs) (number 1)) ≡ Any
remainder_within = refl

-- the greatest number, and one more; more than fits on the way and less in the end
greatest : form (by Add (number (2 ^ 63 - 2)) (number 1)) ≡ Linear (pos 0) (pos most)
greatest = refl

too_great : form (by Add (number most) (number 1)) ≡ Any
too_great = refl

too_great_wrapped : form (by Rem (by Mul (number most) (by Mul procs mine)) procs) ≡ Any
too_great_wrapped = refl

great_on_the_way : form (by Sub (by Add (number most) (number 1)) (number 1)) ≡ Linear (pos 0) (pos most)
great_on_the_way = refl

-- i, i + 2, 2 + i, i - 2, i + 1 + 1, 2 - i, i + PROCS, and another local
local_form : form (use_ 3) ≡ Mine (pos 0)
local_form = refl

plus_form : form (by Add (use_ 3) (number 2)) ≡ Mine (pos 2)
plus_form = refl

plus_before : form (by Add (number 2) (use_ 3)) ≡ Mine (pos 2)
plus_before = refl

minus_form : form (by Sub (use_ 3) (number 2)) ≡ Mine (negsuc 1)
minus_form = refl

plus_twice : form (by Add (by Add (use_ 3) (number 1)) (number 1)) ≡ Any
plus_twice = refl

minus_before : form (by Sub (number 2) (use_ 3)) ≡ Any
minus_before = refl

plus_procs : form (by Add (use_ 3) procs) ≡ Any
plus_procs = refl

other_local : form (use_ 2) ≡ Any
other_local = refl

-- what is not written plainly, as -1; two dimensions
negated : form (one (does.Unary Minus) (number 1)) ≡ Any
negated = refl

not_plain : index_form here false (argument (number 1) none) ≡ Any
not_plain = refl

two_indices : index_form here true (argument (number 1) (argument (number 1) none)) ≡ Any
two_indices = refl

-- the local of a loop whose body writes no local, another one, or that local by a get
not_written : mine_in (Some 3) nothing nothing ≡ 3 ∷ []
not_written = refl

other_written : mine_in (Some 3) nothing (dropped (one (does.Set 2) (number 1))) ≡ 3 ∷ []
other_written = refl

written_in_body : mine_in (Some 3) nothing (acting_on (acts.Get 3) (own 0)) ≡ []
written_in_body = refl

written_in_bound : mine_in (Some 3) (dropped (one (does.Set 3) (number 1))) nothing ≡ []
written_in_bound = refl

no_such_loop : mine_in None nothing nothing ≡ []
no_such_loop = refl
