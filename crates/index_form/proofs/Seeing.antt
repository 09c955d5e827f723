-- What is known of the value of an expression, by its parts.
use Rattle.std.proofs.Common.{◌-◌, take-suc, ◌≤◌, ◌≡◌, refl, sym, ap, ◌∙◌, ℕ, zero, suc, ◌+◌, ◌<◌, ℤ, pos, Bool, true, false, ◌&&◌, List, [], ◌∷◌, ◌++◌, Option, Some, None, is_some, map, take, get_or, length, nat_eq, if◌then◌else◌, arith, add-one}
use Rattle.std.specs.Option.{option_map}
use Rattle.std.proofs.lemmas.List.{map-append}
use Rattle.sc_base.specs.declared.operator.Binary.TheVariants.{Add, Sub, Mul}
use Rattle.sc_core.specs.declared.operation.Constant.TheVariants.{Number}
use Rattle.sc_core.specs.declared.operation.Constant.{Constant}
use Rattle.sc_core.specs.declared.operation.Operation.{Operation}
use Rattle.sc_core.specs.declared.operation.Operation.TheVariants.{Binary}
use Rattle.sc_core.specs.declared.expression.CoreExpr.{CoreExpr, out-CoreExpr}
use Rattle.sc_core.specs.declared.expression.CoreFirst.TheVariants as first
use Rattle.sc_core.specs.declared.expression.CoreLink.{CoreLink, out-CoreLink}
use Rattle.sc_core.specs.declared.expression.CoreTest.{CoreTest}
use Rattle.sc_core.specs.Core.{Core, constant, step, Arguments, none, argument}
use Rattle.sc_core.specs.View.{Linked, linked, plain_core, arguments_of}
use Rattle.sc_core.specs.ViewParts.{plain_core_first, plain_core_link}
use Rattle.sc_core.proofs.ViewCoreLaws.{core_expr-is, core_link-is, core_first-constant, core_first-step, core_first-every, core_first-any, core_first-choice, core_first-update}
use Rattle.flow_form.specs.Forms.{Affine, scaled, joined, or_else}
use Rattle.index_form.specs.declared.affine.Affine.{Affine as WideAffine}
use Rattle.index_form.specs.declared.affine.Joining.{Joining}
use Rattle.index_form.specs.declared.affine.Joining.TheVariants.{Sum, Difference, Product}
use Rattle.index_form.specs.declared.chain.Chain.{Chain}
use Rattle.index_form.specs.Outermost.{Sides, one_in, two_in}
use Rattle.index_form.specs.Chains.{chain_core}
use Rattle.index_form.specs.Seen.{Seen, affine_seen, nothing_seen, seen_in, seen_sum, seen_difference, seen_product, seen_joined, joining, joined_by, all_join, sides_seen, side_seen, step_seen, seen_link, seen_links}

the_seen : Option Affine → Seen
the_seen a = record { affine = a; factor = None }

-- ---- operators

pub joined_sum : (a b : Option Affine) (n m : Option ℤ) → joined (Binary Add) a b n m ≡ seen_sum a b
unfolding seen_sum
joined_sum None b n m = refl
joined_sum (Some a) None n m = refl
joined_sum (Some a) (Some b) n m = refl

pub joined_difference : (a b : Option Affine) (n m : Option ℤ) → joined (Binary Sub) a b n m ≡ seen_difference a b
unfolding seen_difference
joined_difference None b n m = refl
joined_difference (Some a) None n m = refl
joined_difference (Some a) (Some b) n m = refl

by_joining : Option Joining → (a b : Seen) → Option Affine
by_joining None a b = None
by_joining (Some j) a b = joined_by j a b

joined_is : (operation : Operation) (a b : Seen) → joined operation a.affine b.affine a.factor b.factor ≡ by_joining (joining operation) a b
unfolding joining by_joining joined_by seen_product
joined_is (Binary Add) a b = joined_sum a.affine b.affine a.factor b.factor
joined_is (Binary Sub) a b = joined_difference a.affine b.affine a.factor b.factor
joined_is (Binary Mul) a b = refl
joined_is _ a b = refl

pub product_first : (a b : Option Affine) (x : Option WideAffine) → option_map affine_seen x ≡ a → is_some x ≡ true → or_else a b ≡ a
product_first a b None h t = cc
product_first a b (Some x) h t = rw (← h) refl

pub product_second : (a b : Option Affine) (x : Option WideAffine) → option_map affine_seen x ≡ a → is_some x ≡ false → or_else a b ≡ b
product_second a b None h t = rw (← h) refl
product_second a b (Some x) h t = cc

-- ---- where nothing is known

joined_nothing : (j : Joining) (b : Seen) → joined_by j nothing_seen b ≡ None
unfolding joined_by nothing_seen seen_sum seen_difference seen_product
joined_nothing Sum b = refl
joined_nothing Difference b = refl
joined_nothing Product b = scaled_nothing b.factor
  where
    scaled_nothing : (m : Option ℤ) → or_else (scaled None b.affine) (scaled m None) ≡ None
    scaled_nothing None = refl
    scaled_nothing (Some m) = refl

seen_without : (a : Option Affine) → a ≡ None → the_seen a ≡ nothing_seen
unfolding nothing_seen the_seen
seen_without a h = ap the_seen h

step_nothing : (nodes : ℕ) (j : Option Joining) (e : Option Core) → step_seen nodes j nothing_seen e ≡ nothing_seen
unfolding step_seen side_seen seen_joined the_seen
step_nothing nodes None e = refl
step_nothing nodes (Some j) None = refl
step_nothing nodes (Some j) (Some e) = seen_without (joined_by j nothing_seen (seen_in nodes e)) (joined_nothing j (seen_in nodes e))

step_without : (nodes : ℕ) (j : Option Joining) (a : Seen) (e : Option Core) → is_some j ≡ false → step_seen nodes j a e ≡ nothing_seen
unfolding step_seen
step_without nodes None a e h = refl
step_without nodes (Some j) a e h = cc

links_nothing : (nodes : ℕ) (links : List Linked) → seen_links nodes nothing_seen links ≡ nothing_seen
unfolding seen_links seen_link
links_nothing nodes [] = refl
links_nothing nodes (l ∷ more) =
    ap (λ a. seen_links nodes a more) (step_nothing nodes (joining l.operation) (one_in l.more)) ∙ links_nothing nodes more

both_false : (a b : Bool) {P : Type 0} → (a && b) ≡ false → (a ≡ false → P) → (b ≡ false → P) → P
both_false false b h f g = f refl
both_false true b h f g = g h

pub links_not : (nodes : ℕ) (a : Seen) (links : List Linked) → all_join links ≡ false → seen_links nodes a links ≡ nothing_seen
unfolding seen_links seen_link all_join
links_not nodes a [] h = cc
links_not nodes a (l ∷ more) h =
    both_false (is_some (joining l.operation)) (all_join more) h
    (λ t. ap (λ x. seen_links nodes x more) (step_without nodes (joining l.operation) a (one_in l.more) t) ∙ links_nothing nodes more)
    (λ t. links_not nodes (seen_link nodes a l) more t)

-- ---- steps

-- what is known of a step's value is its affine form alone
alone : (nodes : ℕ) (operation : Operation) (a b : Core) (line : ℕ) →
    seen_in nodes (step operation (argument a (argument b none)) line)
    ≡ the_seen (by_joining (joining operation) (seen_in nodes a) (seen_in nodes b))
unfolding seen_in the_seen
alone nodes operation a b line = ap the_seen (joined_is operation (seen_in nodes a) (seen_in nodes b))

two_step : (nodes : ℕ) (j : Option Joining) (a : Seen) (b : Core) → step_seen nodes j a (Some b) ≡ the_seen (by_joining j a (seen_in nodes b))
unfolding step_seen side_seen seen_joined nothing_seen the_seen by_joining
two_step nodes None a b = refl
two_step nodes (Some j) a b = refl

not_two : (nodes : ℕ) (j : Option Joining) (a : Seen) → step_seen nodes j a None ≡ the_seen None
unfolding step_seen side_seen nothing_seen the_seen
not_two nodes None a = refl
not_two nodes (Some j) a = refl

one_alone : (nodes : ℕ) (operation : Operation) (e : Core) (line : ℕ) → the_seen None ≡ seen_in nodes (step operation (argument e none) line)
unfolding the_seen seen_in
one_alone nodes operation e line = refl

three_more : (nodes : ℕ) (operation : Operation) (e b x : Core) (more : Arguments) (line : ℕ) →
    the_seen None ≡ seen_in nodes (step operation (argument e (argument b (argument x more))) line)
unfolding the_seen seen_in
three_more nodes operation e b x more line = refl

side_is : (nodes : ℕ) (operation : Operation) (e : Core) (more : Arguments) (line : ℕ) →
    step_seen nodes (joining operation) (seen_in nodes e) (one_in more) ≡ seen_in nodes (step operation (argument e more) line)
unfolding one_in
side_is nodes operation e none line = not_two nodes (joining operation) (seen_in nodes e) ∙ one_alone nodes operation e line
side_is nodes operation e (argument b none) line =
    two_step nodes (joining operation) (seen_in nodes e) b ∙ sym (alone nodes operation e b line)
side_is nodes operation e (argument b (argument x more)) line =
    not_two nodes (joining operation) (seen_in nodes e) ∙ three_more nodes operation e b x more line

links_are : (nodes : ℕ) (e : Core) (links : List Linked) → seen_links nodes (seen_in nodes e) links ≡ seen_in nodes (linked e links)
unfolding seen_links seen_link
links_are nodes e [] = refl
links_are nodes e (l ∷ more) =
    ap (λ a. seen_links nodes a more) (side_is nodes l.operation e l.more l.line)
    ∙ links_are nodes (step l.operation (argument e l.more) l.line) more

sides_by : (nodes : ℕ) → Option Joining → Arguments → Seen
sides_by nodes None all = nothing_seen
sides_by nodes (Some j) all = sides_seen nodes j (two_in all)

none_by : (nodes : ℕ) (j : Option Joining) (all : Arguments) → two_in all ≡ None → sides_by nodes j all ≡ the_seen None
unfolding sides_by sides_seen the_seen nothing_seen
none_by nodes None all h = refl
none_by nodes (Some j) all h = rw h refl

two_by : (nodes : ℕ) (j : Option Joining) (a b : Core) → sides_by nodes j (argument a (argument b none)) ≡ the_seen (by_joining j (seen_in nodes a) (seen_in nodes b))
unfolding sides_by sides_seen the_seen nothing_seen seen_joined by_joining two_in
two_by nodes None a b = refl
two_by nodes (Some j) a b = refl

sides_are : (nodes : ℕ) (operation : Operation) (all : Arguments) (line : ℕ) → sides_by nodes (joining operation) all ≡ seen_in nodes (step operation all line)
unfolding seen_in the_seen two_in
sides_are nodes operation none line = none_by nodes (joining operation) none refl
sides_are nodes operation (argument a none) line = none_by nodes (joining operation) (argument a none) refl
sides_are nodes operation (argument a (argument b none)) line =
    two_by nodes (joining operation) a b ∙ sym (alone nodes operation a b line)
sides_are nodes operation (argument a (argument b (argument c more))) line =
    none_by nodes (joining operation) (argument a (argument b (argument c more))) refl

-- ---- what comes first

some_left : (n : ℕ) → nat_eq (suc n) 0 ≡ false
some_left n = grind arith

pub first_constant : (nodes : ℕ) (k : Constant) → seen_in nodes (plain_core_first (first.Constant k)) ≡ seen_in nodes (constant k)
first_constant nodes k = rw core_first-constant refl

pub first_step : (nodes : ℕ) (operation : Operation) (all : List CoreExpr) (line : ℕ) (j : Joining) → joining operation ≡ Some j →
    seen_in nodes (plain_core_first (first.Step operation all line)) ≡ sides_seen nodes j (two_in (arguments_of (map plain_core all)))
unfolding sides_by
first_step nodes operation all line j h =
    rw core_first-step
    (sym (sides_are nodes operation (arguments_of (map plain_core all)) line)
    ∙ ap (λ x. sides_by nodes x (arguments_of (map plain_core all))) h)

pub first_not : (nodes : ℕ) (operation : Operation) (all : List CoreExpr) (line : ℕ) → joining operation ≡ None →
    seen_in nodes (plain_core_first (first.Step operation all line)) ≡ nothing_seen
unfolding sides_by
first_not nodes operation all line h =
    rw core_first-step
    (sym (sides_are nodes operation (arguments_of (map plain_core all)) line)
    ∙ ap (λ x. sides_by nodes x (arguments_of (map plain_core all))) h)

pub first_choice : (nodes : ℕ) (of_pointer : Bool) (test on off : CoreExpr) → seen_in nodes (plain_core_first (first.Choice of_pointer test on off)) ≡ nothing_seen
unfolding seen_in nothing_seen
first_choice nodes of_pointer test on off = rw core_first-choice refl

pub first_update : (nodes : ℕ) (pointer : CoreExpr) (operation : Operation) (right : CoreExpr) (undo : Option Operation) (line : ℕ) →
    seen_in nodes (plain_core_first (first.Update pointer operation right undo line)) ≡ nothing_seen
unfolding seen_in nothing_seen
first_update nodes pointer operation right undo line = rw core_first-update refl

pub first_every : (nodes : ℕ) (all : List CoreTest) →
    seen_in nodes (plain_core_first (first.Every all)) ≡ (if nat_eq (length all) 0 then seen_in nodes (constant (Number (pos 1))) else nothing_seen)
unfolding seen_in nothing_seen
first_every nodes [] = rw core_first-every refl
first_every nodes (t ∷ more) = rw (core_first-every, some_left (length more)) refl

pub first_any : (nodes : ℕ) (all : List CoreTest) →
    seen_in nodes (plain_core_first (first.Any all)) ≡ (if nat_eq (length all) 0 then seen_in nodes (constant (Number (pos 0))) else nothing_seen)
unfolding seen_in nothing_seen
first_any nodes [] = rw core_first-any refl
first_any nodes (t ∷ more) = rw (core_first-any, some_left (length more)) refl

-- ---- arguments that stand in lists

pub sides_none : (nodes : ℕ) (j : Joining) → sides_seen nodes j None ≡ nothing_seen
unfolding sides_seen
sides_none nodes j = refl

pub sides_some : (nodes : ℕ) (j : Joining) (s : Sides) →
    sides_seen nodes j (Some s) ≡ seen_joined j (seen_in nodes s.left) (seen_in nodes s.right)
unfolding sides_seen
sides_some nodes j s = refl

pub side_none : (nodes : ℕ) (j : Joining) (a : Seen) → side_seen nodes j a None ≡ nothing_seen
unfolding side_seen
side_none nodes j a = refl

pub side_some : (nodes : ℕ) (j : Joining) (a : Seen) (e : Core) → side_seen nodes j a (Some e) ≡ seen_joined j a (seen_in nodes e)
unfolding side_seen
side_some nodes j a e = refl

pub link_some : (nodes : ℕ) (a : Seen) (l : CoreLink) (j : Joining) → joining (out-CoreLink l).operation ≡ Some j →
    seen_link nodes a (plain_core_link l) ≡ side_seen nodes j a (one_in (arguments_of (map plain_core (out-CoreLink l).more)))
unfolding seen_link step_seen
link_some nodes a l j h = rw (core_link-is l, h) refl

pub link_none : (nodes : ℕ) (a : Seen) (l : CoreLink) → joining (out-CoreLink l).operation ≡ None → seen_link nodes a (plain_core_link l) ≡ nothing_seen
unfolding seen_link step_seen
link_none nodes a l h = rw (core_link-is l, h) refl

pub links_none : (nodes : ℕ) (a : Seen) → seen_links nodes a [] ≡ a
unfolding seen_links
links_none nodes a = refl

pub links_on : (nodes : ℕ) (a : Seen) (l : Linked) (more : List Linked) → seen_links nodes a (l ∷ more) ≡ seen_links nodes (seen_link nodes a l) more
unfolding seen_links
links_on nodes a l more = refl

pub one_exact : (all : List CoreExpr) (a : CoreExpr) → 1 ≤ length all → length all < 2 → a ≡ get_or all 0 a →
    one_in (arguments_of (map plain_core all)) ≡ Some (plain_core a)
unfolding one_in
one_exact [] a h k e = absurd (omega arith)
one_exact (x ∷ []) a h k e = rw e refl
one_exact (x ∷ y ∷ more) a h k e = absurd (omega arith)

pub two_exact : (all : List CoreExpr) (a b : CoreExpr) → 2 ≤ length all → length all < 3 → a ≡ get_or all 0 a → b ≡ get_or all 1 b →
    two_in (arguments_of (map plain_core all)) ≡ Some (record { left = plain_core a; right = plain_core b })
unfolding two_in
two_exact [] a b h k e f = absurd (omega arith)
two_exact (x ∷ []) a b h k e f = absurd (omega arith)
two_exact (x ∷ y ∷ []) a b h k e f = rw (e, f) refl
two_exact (x ∷ y ∷ z ∷ more) a b h k e f = absurd (omega arith)

pub one_few : (all : List CoreExpr) → length all < 1 → one_in (arguments_of (map plain_core all)) ≡ None
unfolding one_in
one_few [] h = refl
one_few (x ∷ more) h = absurd (omega arith)

pub one_many : (all : List CoreExpr) → 2 ≤ length all → one_in (arguments_of (map plain_core all)) ≡ None
unfolding one_in
one_many [] h = refl
one_many (x ∷ []) h = absurd (omega arith)
one_many (x ∷ y ∷ more) h = refl

pub two_few : (all : List CoreExpr) → length all < 2 → two_in (arguments_of (map plain_core all)) ≡ None
unfolding two_in
two_few [] h = refl
two_few (x ∷ []) h = refl
two_few (x ∷ y ∷ more) h = absurd (omega arith)

pub two_many : (all : List CoreExpr) → 3 ≤ length all → two_in (arguments_of (map plain_core all)) ≡ None
unfolding two_in
two_many [] h = refl
two_many (x ∷ []) h = refl
two_many (x ∷ y ∷ []) h = absurd (omega arith)
two_many (x ∷ y ∷ z ∷ more) h = refl

-- ---- for the code

and_end : (b : Bool) → (b && true) ≡ (true && b)
and_end true = refl
and_end false = refl

and_apart : (a b c : Bool) → (a && (b && c)) ≡ ((a && b) && c)
and_apart true b c = refl
and_apart false b c = refl

and_none : (b : Bool) → (b && false) ≡ false
and_none true = refl
and_none false = refl

and_some : (b : Bool) → (b && true) ≡ b
and_some true = refl
and_some false = refl

all_join-pushed : (all : List Linked) (l : Linked) → all_join (all ++ l ∷ []) ≡ (all_join all && is_some (joining l.operation))
unfolding all_join
all_join-pushed [] l = and_end (is_some (joining l.operation))
all_join-pushed (x ∷ all) l =
    ap (λ b. is_some (joining x.operation) && b) (all_join-pushed all l)
    ∙ and_apart (is_some (joining x.operation)) (all_join all) (is_some (joining l.operation))

pub join_at : (links : List CoreLink) (i : ℕ) (l : CoreLink) → i < length links → l ≡ get_or links i l →
    all_join (map plain_core_link (take (i + 1) links)) ≡ (all_join (map plain_core_link (take i links)) && is_some (joining (out-CoreLink l).operation))
join_at links i l h e =
    let more : take (i + 1) links ≡ take i links ++ l ∷ [] = rw add-one (take-suc links i l h ∙ ap (λ x. take i links ++ x ∷ []) (sym e)) in
    rw (more, map-append plain_core_link (take i links) (l ∷ []), all_join-pushed (map plain_core_link (take i links)) (plain_core_link l), core_link-is l) refl

pub join_stops : (links : List CoreLink) (i : ℕ) (l : CoreLink) → 0 < i → i ≤ length links → l ≡ get_or links (i - 1) l →
    is_some (joining (out-CoreLink l).operation) ≡ false → all_join (map plain_core_link (take i links)) ≡ false
join_stops links i l some within e h =
    let back : i - 1 + 1 ≡ i = omega arith in
    ap (λ n. all_join (map plain_core_link (take n links))) (sym back)
    ∙ join_at links (i - 1) l (omega arith) e ∙ rw h (and_none (all_join (map plain_core_link (take (i - 1) links))))

pub join_goes_on : (links : List CoreLink) (i : ℕ) (l : CoreLink) → 0 < i → i ≤ length links → l ≡ get_or links (i - 1) l →
    is_some (joining (out-CoreLink l).operation) ≡ true →
    all_join (map plain_core_link (take (i - 1) links)) ≡ all_join (map plain_core_link (take i links))
join_goes_on links i l some within e h =
    let back : i - 1 + 1 ≡ i = omega arith in
    sym
    (ap (λ n. all_join (map plain_core_link (take n links))) (sym back)
    ∙ join_at links (i - 1) l (omega arith) e ∙ rw h (and_some (all_join (map plain_core_link (take (i - 1) links)))))

pub join_end : (links : List CoreLink) (i : ℕ) → i ≤ 0 → all_join (map plain_core_link (take i links)) ≡ true
unfolding all_join
join_end links zero h = refl
join_end links (suc i) h = absurd (omega arith)

pub ruleset join_reads = (join_stops, join_goes_on, join_end)

pub ruleset product_reads = (product_first, product_second)

pub chain_is : (nodes : ℕ) (c : Chain) (a : Seen) → a ≡ seen_in nodes (plain_core_first c.first.now) →
    seen_links nodes a (map plain_core_link c.links.now) ≡ seen_in nodes (chain_core c)
unfolding chain_core
chain_is nodes c a h = rw h (links_are nodes (plain_core_first c.first.now) (map plain_core_link c.links.now))

pub expression_is : (nodes : ℕ) (e : CoreExpr) →
    seen_links nodes (seen_in nodes (plain_core_first (out-CoreExpr e).first)) (map plain_core_link (out-CoreExpr e).links) ≡ seen_in nodes (plain_core e)
expression_is nodes e = links_are nodes _ _ ∙ ap (seen_in nodes) (sym (core_expr-is e))

pub ruleset walk_reads = (expression_is, links_not, first_constant, first_step, first_not, first_choice, first_update, first_every, first_any, sides_none, sides_some, side_none, side_some, link_some, link_none, links_none, links_on, one_exact, one_few, one_many, two_exact, two_few, two_many)
