-- Forms of places and of indices, by the parts of an expression.
use Rattle.std.proofs.Common.{◌≡◌, refl, sym, ap, ◌∙◌, ℕ, ℤ, pos, negsuc, Bool, true, false, ◌&&◌, List, Option, Some, None, if◌then◌else◌}
use Rattle.sc_base.specs.declared.operator.Binary.{Binary}
use Rattle.sc_base.specs.declared.operator.Binary.TheVariants.{Add, Sub, Rem}
use Rattle.sc_isa.specs.Fitting.{fits_int}
use Rattle.sc_core.specs.declared.operation.Constant.{Constant}
use Rattle.sc_core.specs.declared.operation.Constant.TheVariants.{Number, Null, Mine, Procs}
use Rattle.sc_core.specs.declared.operation.Operation.TheVariants as does
use Rattle.sc_core.specs.Core.{Core, constant, step, choice, update, Arguments, none, argument}
use Rattle.sc_core.specs.Forms.{PlaceForm, form_of}
use Rattle.sc_core.proofs.ViewCoreLaws.{core_expr-is}
use Rattle.site_graph.specs.declared.site.IndexForm.{IndexForm}
use Rattle.site_graph.specs.declared.site.IndexForm.TheVariants as index
use Rattle.site_graph.specs.declared.site.Form.{Form}
use Rattle.site_graph.specs.declared.site.Form.TheVariants as form
use Rattle.flow_form.specs.Within.{Within}
use Rattle.flow_form.specs.Forms.{Affine, affine_of, mine, wrapped, if_fits, known, index_form, form_by}
use Rattle.wide_integer.specs.Value.{in_64_bits}
use Rattle.index_form.specs.declared.form.Narrow.{Narrow}
use Rattle.index_form.specs.declared.offset.Kind.{Kind}
use Rattle.index_form.specs.declared.offset.Kind.TheVariants.{Local, Sum, Difference, Remainder, Own, Element, Other}
use Rattle.index_form.specs.Readers.{within_of}
use Rattle.index_form.specs.Outermost.{Stepped, Sides, constant_in, step_in, one_in, two_in}
use Rattle.index_form.specs.Offsets.{kind}
use Rattle.index_form.proofs.Chains.{seen}
use Rattle.index_form.specs.Placing.{narrow_of, linear_known, wrapped_known, remainder_by, remainder_in, procs_in, indexed, index_by, object_by, object_at, object_in, own_named, own_by, placed_by, placed}

-- ---- 64 bits

bits : (n : ℤ) → in_64_bits n ≡ (if fits_int n then Some n else None)
bits (pos n) = refl
bits (negsuc n) = refl

narrowly : (k c : ℤ) → Narrow
narrowly k c = record { k = k; c = c }

both_fit : (x y : Bool) (k c a b : ℤ) → (if x then Some k else None) ≡ Some a → (if y then Some c else None) ≡ Some b →
    (if x && y then Some (narrowly k c) else None) ≡ Some (narrowly a b)
unfolding narrowly
both_fit true true k c a b h g = cc
both_fit true false k c a b h g = cc
both_fit false y k c a b h g = cc

first_not : (x y : Bool) (k c : ℤ) → (if x then Some k else None) ≡ None → (if x && y then Some (narrowly k c) else None) ≡ None
first_not true y k c h = cc
first_not false y k c h = refl

second_not : (x y : Bool) (k c : ℤ) → (if y then Some c else None) ≡ None → (if x && y then Some (narrowly k c) else None) ≡ None
second_not true true k c h = cc
second_not true false k c h = refl
second_not false y k c h = refl

pub narrow_none : narrow_of None ≡ None
unfolding narrow_of
narrow_none = refl

pub narrow_some : (k c a b : ℤ) → in_64_bits k ≡ Some a → in_64_bits c ≡ Some b →
    narrow_of (Some (record { k = k; c = c })) ≡ Some (record { k = a; c = b })
unfolding narrow_of narrowly
narrow_some k c a b h g = both_fit (fits_int k) (fits_int c) k c a b (sym (bits k) ∙ h) (sym (bits c) ∙ g)

pub narrow_first : (k c : ℤ) → in_64_bits k ≡ None → narrow_of (Some (record { k = k; c = c })) ≡ None
unfolding narrow_of narrowly
narrow_first k c h = first_not (fits_int k) (fits_int c) k c (sym (bits k) ∙ h)

pub narrow_second : (k c : ℤ) → in_64_bits c ≡ None → narrow_of (Some (record { k = k; c = c })) ≡ None
unfolding narrow_of narrowly
narrow_second k c h = second_not (fits_int k) (fits_int c) k c (sym (bits c) ∙ h)

pub ruleset narrow_reads = (narrow_none, narrow_some, narrow_first, narrow_second)

-- ---- remainders

pub by_remainder : (two : Option Sides) → remainder_by Remainder two ≡ two
unfolding remainder_by
by_remainder two = refl

pub by_local : (x : ℕ) (two : Option Sides) → remainder_by (Local x) two ≡ None
unfolding remainder_by
by_local x two = refl

pub by_sum : (two : Option Sides) → remainder_by Sum two ≡ None
unfolding remainder_by
by_sum two = refl

pub by_difference : (two : Option Sides) → remainder_by Difference two ≡ None
unfolding remainder_by
by_difference two = refl

pub by_own : (two : Option Sides) → remainder_by Own two ≡ None
unfolding remainder_by
by_own two = refl

pub by_element : (o : ℕ) (plain : Bool) (two : Option Sides) → remainder_by (Element o plain) two ≡ None
unfolding remainder_by
by_element o plain two = refl

pub by_other : (two : Option Sides) → remainder_by Other two ≡ None
unfolding remainder_by
by_other two = refl

pub ruleset remainder_reads = (by_remainder, by_local, by_sum, by_difference, by_own, by_element, by_other)

procs_of : Option Constant → Bool
procs_of (Some Procs) = true
procs_of _ = false

procs_by : (e : Core) → procs_in e ≡ procs_of (constant_in e)
unfolding procs_in procs_of constant_in
procs_by (constant (Number n)) = refl
procs_by (constant Null) = refl
procs_by (constant Mine) = refl
procs_by (constant Procs) = refl
procs_by (step operation all line) = refl
procs_by (choice of_pointer test on off) = refl
procs_by (update pointer operation right undo line) = refl

pub procs_none : (e : Core) → constant_in e ≡ None → procs_in e ≡ false
unfolding procs_of
procs_none e h = procs_by e ∙ ap procs_of h

pub procs_procs : (e : Core) → constant_in e ≡ Some Procs → procs_in e ≡ true
unfolding procs_of
procs_procs e h = procs_by e ∙ ap procs_of h

pub procs_number : (e : Core) (n : ℤ) → constant_in e ≡ Some (Number n) → procs_in e ≡ false
unfolding procs_of
procs_number e n h = procs_by e ∙ ap procs_of h

pub procs_null : (e : Core) → constant_in e ≡ Some Null → procs_in e ≡ false
unfolding procs_of
procs_null e h = procs_by e ∙ ap procs_of h

pub procs_mine : (e : Core) → constant_in e ≡ Some Mine → procs_in e ≡ false
unfolding procs_of
procs_mine e h = procs_by e ∙ ap procs_of h

wrapped_sides : (nodes : ℕ) → Option Sides → Option IndexForm
wrapped_sides nodes None = None
wrapped_sides nodes (Some s) = if procs_in s.right then if_fits index.Wrapped (affine_of nodes s.left) else None

wrapped_at : (nodes : ℕ) → Option Stepped → Option IndexForm
wrapped_at nodes None = None
wrapped_at nodes (Some s) = wrapped_sides nodes (remainder_in s)

wrapped_is : (nodes : ℕ) (e : Core) → wrapped nodes e ≡ wrapped_at nodes (step_in e)
unfolding wrapped_at wrapped_sides remainder_in remainder_by procs_in step_in two_in kind
wrapped_is nodes (constant k) = refl
wrapped_is nodes (choice of_pointer test on off) = refl
wrapped_is nodes (update pointer operation right undo line) = refl
wrapped_is nodes (step (does.Binary Rem) none line) = refl
wrapped_is nodes (step (does.Binary Rem) (argument a none) line) = refl
wrapped_is nodes (step (does.Binary Rem) (argument a (argument (constant Procs) none)) line) = refl
wrapped_is nodes (step (does.Binary Rem) (argument a (argument (constant Procs) (argument c more))) line) = refl
wrapped_is nodes (step (does.Binary Rem) (argument a (argument (constant Null) none)) line) = refl
wrapped_is nodes (step (does.Binary Rem) (argument a (argument (constant Null) (argument c more))) line) = refl
wrapped_is nodes (step (does.Binary Rem) (argument a (argument (constant Mine) none)) line) = refl
wrapped_is nodes (step (does.Binary Rem) (argument a (argument (constant Mine) (argument c more))) line) = refl
wrapped_is nodes (step (does.Binary Rem) (argument a (argument (constant (Number n)) none)) line) = refl
wrapped_is nodes (step (does.Binary Rem) (argument a (argument (constant (Number n)) (argument c more))) line) = refl
wrapped_is nodes (step (does.Binary Rem) (argument a (argument (step operation all at) none)) line) = refl
wrapped_is nodes (step (does.Binary Rem) (argument a (argument (step operation all at) (argument c more))) line) = refl
wrapped_is nodes (step (does.Binary Rem) (argument a (argument (choice of_pointer test on off) none)) line) = refl
wrapped_is nodes (step (does.Binary Rem) (argument a (argument (choice of_pointer test on off) (argument c more))) line) = refl
wrapped_is nodes (step (does.Binary Rem) (argument a (argument (update pointer operation right undo at) none)) line) = refl
wrapped_is nodes (step (does.Binary Rem) (argument a (argument (update pointer operation right undo at) (argument c more))) line) = refl
wrapped_is nodes (step (does.Binary _) all line) = refl
wrapped_is nodes (step _ all line) = refl

fitted_wrapped : (a : Option Affine) → if_fits index.Wrapped a ≡ wrapped_known (narrow_of a)
unfolding wrapped_known narrow_of
fitted_wrapped None = refl
fitted_wrapped (Some a) = by (fits_int a.k && fits_int a.c)
  where
    by : (b : Bool) → (if b then Some (index.Wrapped a.k a.c) else None) ≡ wrapped_known (if b then Some (record { k = a.k; c = a.c }) else None)
    by true = refl
    by false = refl

pub wrapped_none : (nodes : ℕ) (e : Core) → step_in e ≡ None → wrapped nodes e ≡ None
unfolding wrapped_at
wrapped_none nodes e h = wrapped_is nodes e ∙ ap (wrapped_at nodes) h

pub wrapped_no_remainder : (nodes : ℕ) (e : Core) (s : Stepped) → step_in e ≡ Some s → remainder_in s ≡ None → wrapped nodes e ≡ None
unfolding wrapped_at wrapped_sides
wrapped_no_remainder nodes e s h r = wrapped_is nodes e ∙ ap (wrapped_at nodes) h ∙ ap (wrapped_sides nodes) r

pub wrapped_other : (nodes : ℕ) (e : Core) (s : Stepped) (two : Sides) → step_in e ≡ Some s → remainder_in s ≡ Some two →
    procs_in two.right ≡ false → wrapped nodes e ≡ None
unfolding wrapped_at wrapped_sides
wrapped_other nodes e s two h r p = wrapped_is nodes e ∙ ap (wrapped_at nodes) h ∙ ap (wrapped_sides nodes) r ∙ rw p refl

pub wrapped_procs : (nodes : ℕ) (e : Core) (s : Stepped) (two : Sides) → step_in e ≡ Some s → remainder_in s ≡ Some two →
    procs_in two.right ≡ true → wrapped nodes e ≡ wrapped_known (narrow_of (affine_of nodes two.left))
unfolding wrapped_at wrapped_sides
wrapped_procs nodes e s two h r p =
    wrapped_is nodes e ∙ ap (wrapped_at nodes) h ∙ ap (wrapped_sides nodes) r ∙ rw p (fitted_wrapped (affine_of nodes two.left))

pub ruleset wrapped_reads = (wrapped_none, wrapped_no_remainder, wrapped_other, wrapped_procs, seen)

-- ---- indices

fitted_linear : (a : Option Affine) → known (if_fits index.Linear a) ≡ linear_known (narrow_of a)
unfolding linear_known narrow_of
fitted_linear None = refl
fitted_linear (Some a) = by (fits_int a.k && fits_int a.c)
  where
    by : (b : Bool) → known (if b then Some (index.Linear a.k a.c) else None) ≡ linear_known (if b then Some (record { k = a.k; c = a.c }) else None)
    by true = refl
    by false = refl

pub indexed_mine : (nodes : ℕ) (mines : List ℕ) (e : Core) (f : IndexForm) → mine mines e ≡ Some f → indexed nodes mines e ≡ f
unfolding indexed
indexed_mine nodes mines e f h = rw h refl

pub indexed_wrapped : (nodes : ℕ) (mines : List ℕ) (e : Core) (f : IndexForm) → mine mines e ≡ None → wrapped nodes e ≡ Some f →
    indexed nodes mines e ≡ f
unfolding indexed
indexed_wrapped nodes mines e f h w = rw (h, w) refl

pub indexed_linear : (nodes : ℕ) (mines : List ℕ) (e : Core) → mine mines e ≡ None → wrapped nodes e ≡ None →
    indexed nodes mines e ≡ linear_known (narrow_of (affine_of nodes e))
unfolding indexed
indexed_linear nodes mines e h w = rw (h, w) (fitted_linear (affine_of nodes e))

pub ruleset index_reads = (indexed_mine, indexed_wrapped, indexed_linear)

pub index_none : (nodes : ℕ) (mines : List ℕ) (plain : Bool) → index_by nodes mines plain None ≡ index.Any
unfolding index_by
index_none nodes mines plain = refl

pub index_some : (nodes : ℕ) (mines : List ℕ) (plain : Bool) (e : Core) →
    index_by nodes mines plain (Some e) ≡ (if plain then indexed nodes mines e else index.Any)
unfolding index_by
index_some nodes mines plain e = refl

pub ruleset element_reads = (index_none, index_some)

index_is : (nodes : ℕ) (mines : List ℕ) (plain : Bool) (all : Arguments) →
    index_form (within_of nodes mines) plain all ≡ index_by nodes mines plain (one_in all)
unfolding index_by one_in indexed
index_is nodes mines true none = refl
index_is nodes mines true (argument e none) = refl
index_is nodes mines true (argument e (argument x more)) = refl
index_is nodes mines false none = refl
index_is nodes mines false (argument e none) = refl
index_is nodes mines false (argument e (argument x more)) = refl

-- ---- places

pub object_none : (e : Core) → step_in e ≡ None → object_in e ≡ None
unfolding object_in object_at
object_none e h = rw h refl

pub object_some : (e : Core) (s : Stepped) → step_in e ≡ Some s → object_in e ≡ object_by (kind s.operation)
unfolding object_in object_at
object_some e s h = rw h refl

pub ruleset part_reads = (procs_none, procs_procs, procs_number, procs_null, procs_mine, object_none, object_some)

pub own_none : own_by None ≡ form.OwnExposed
unfolding own_by
own_none = refl

pub own_some_none : (e : Core) → object_in e ≡ None → own_by (Some e) ≡ form.OwnExposed
unfolding own_by own_named
own_some_none e h = rw h refl

pub own_some_some : (e : Core) (o : ℕ) → object_in e ≡ Some o → own_by (Some e) ≡ form.Own o
unfolding own_by own_named
own_some_some e o h = rw h refl

pub ruleset own_reads = (own_none, own_some_none, own_some_some)

pub placed_own : (nodes : ℕ) (mines : List ℕ) (all : Arguments) → placed_by nodes mines Own all ≡ own_by (one_in all)
unfolding placed_by
placed_own nodes mines all = refl

pub placed_element : (nodes : ℕ) (mines : List ℕ) (o : ℕ) (plain : Bool) (all : Arguments) →
    placed_by nodes mines (Element o plain) all ≡ form.Element o (index_by nodes mines plain (one_in all))
unfolding placed_by
placed_element nodes mines o plain all = refl

pub placed_local : (nodes : ℕ) (mines : List ℕ) (x : ℕ) (all : Arguments) → placed_by nodes mines (Local x) all ≡ form.Exposed
unfolding placed_by
placed_local nodes mines x all = refl

pub placed_sum : (nodes : ℕ) (mines : List ℕ) (all : Arguments) → placed_by nodes mines Sum all ≡ form.Exposed
unfolding placed_by
placed_sum nodes mines all = refl

pub placed_difference : (nodes : ℕ) (mines : List ℕ) (all : Arguments) → placed_by nodes mines Difference all ≡ form.Exposed
unfolding placed_by
placed_difference nodes mines all = refl

pub placed_remainder : (nodes : ℕ) (mines : List ℕ) (all : Arguments) → placed_by nodes mines Remainder all ≡ form.Exposed
unfolding placed_by
placed_remainder nodes mines all = refl

pub placed_other : (nodes : ℕ) (mines : List ℕ) (all : Arguments) → placed_by nodes mines Other all ≡ form.Exposed
unfolding placed_by
placed_other nodes mines all = refl

pub ruleset place_reads = (placed_own, placed_element, placed_local, placed_sum, placed_difference, placed_remainder, placed_other)

placed_at : (nodes : ℕ) (mines : List ℕ) → Option Stepped → Form
placed_at nodes mines None = form.Exposed
placed_at nodes mines (Some s) = placed nodes mines s

kind_cases : (P : Kind → Type 0) (operator : Binary) → P Sum → P Difference → P Remainder → P Other → P (kind (does.Binary operator))
unfolding kind
kind_cases P Add p q r s = p
kind_cases P Sub p q r s = q
kind_cases P Rem p q r s = r
kind_cases P _ p q r s = s

own_operator : (operator : Binary) → form.OwnExposed ≡ own_named (object_by (kind (does.Binary operator)))
unfolding own_named object_by
own_operator operator = kind_cases (λ k. form.OwnExposed ≡ own_named (object_by k)) operator refl refl refl refl

placed_operator : (nodes : ℕ) (mines : List ℕ) (operator : Binary) (all : Arguments) →
    form.Exposed ≡ placed_by nodes mines (kind (does.Binary operator)) all
unfolding placed_by
placed_operator nodes mines operator all =
    kind_cases (λ k. form.Exposed ≡ placed_by nodes mines k all) operator refl refl refl refl

place_is : (nodes : ℕ) (mines : List ℕ) (e : Core) → form_by (within_of nodes mines) (form_of e) ≡ placed_at nodes mines (step_in e)
unfolding placed_at placed placed_by own_by own_named object_in object_at object_by step_in one_in kind
place_is nodes mines (constant k) = refl
place_is nodes mines (choice of_pointer test on off) = refl
place_is nodes mines (update pointer operation right undo line) = refl
place_is nodes mines (step (does.Element o n plain) all line) = ap (form.Element o) (index_is nodes mines plain all)
place_is nodes mines (step does.Own none line) = refl
place_is nodes mines (step does.Own (argument (constant k) none) line) = refl
place_is nodes mines (step does.Own (argument (constant k) (argument b more)) line) = refl
place_is nodes mines (step does.Own (argument (choice of_pointer test on off) none) line) = refl
place_is nodes mines (step does.Own (argument (choice of_pointer test on off) (argument b more)) line) = refl
place_is nodes mines (step does.Own (argument (update pointer operation right undo at) none) line) = refl
place_is nodes mines (step does.Own (argument (update pointer operation right undo at) (argument b more)) line) = refl
place_is nodes mines (step does.Own (argument (step (does.Element o n plain) all at) none) line) = refl
place_is nodes mines (step does.Own (argument (step (does.Element o n plain) all at) (argument b more)) line) = refl
place_is nodes mines (step does.Own (argument (step (does.Binary operator) all at) none) line) = own_operator operator
place_is nodes mines (step does.Own (argument (step operation all at) none) line) = refl
place_is nodes mines (step does.Own (argument (step operation all at) (argument b more)) line) = refl
place_is nodes mines (step (does.Binary operator) all line) = placed_operator nodes mines operator all
place_is nodes mines (step operation all line) = refl

pub whole_none : (nodes : ℕ) (mines : List ℕ) (e : Core) → step_in e ≡ None → form_by (within_of nodes mines) (form_of e) ≡ form.Exposed
unfolding placed_at
whole_none nodes mines e h = place_is nodes mines e ∙ ap (placed_at nodes mines) h

pub whole_some : (nodes : ℕ) (mines : List ℕ) (e : Core) (s : Stepped) → step_in e ≡ Some s →
    form_by (within_of nodes mines) (form_of e) ≡ placed nodes mines s
unfolding placed_at
whole_some nodes mines e s h = place_is nodes mines e ∙ ap (placed_at nodes mines) h

pub ruleset whole_reads = (whole_none, whole_some)

pub ruleset expression_reads = (core_expr-is)

-- a form depends on the nodes and these locals alone
pub form_within : (w : Within) (p : PlaceForm) → form_by (within_of w.nodes w.mines) p ≡ form_by w p
form_within w p = refl
