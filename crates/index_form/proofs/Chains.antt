-- What a chain's parts say of its constant and of its outermost step.
use Rattle.std.proofs.Common.{is_none, suc, arith, ◌≡◌, refl, sym, ℕ, Bool, true, false, List, [], ◌∷◌, ◌++◌, Option, Some, None, map, length, nat_eq, pos, if◌then◌else◌}
use Rattle.std.specs.Option.{option_map}
use Rattle.std.proofs.lemmas.List.{map-append}
use Rattle.sc_core.specs.declared.operation.Constant.{Constant}
use Rattle.sc_core.specs.declared.operation.Constant.TheVariants.{Number}
use Rattle.sc_core.specs.declared.operation.Operation.{Operation}
use Rattle.sc_core.specs.declared.expression.CoreExpr.{CoreExpr, out-CoreExpr}
use Rattle.sc_core.specs.declared.expression.CoreFirst.TheVariants as first
use Rattle.sc_core.specs.declared.expression.CoreLink.{CoreLink, out-CoreLink}
use Rattle.sc_core.specs.declared.expression.CoreTest.{CoreTest}
use Rattle.sc_core.specs.Core.{Core, step, Arguments, none, argument}
use Rattle.sc_core.specs.View.{Linked, linked, plain_core, arguments_of}
use Rattle.sc_core.specs.ViewParts.{plain_core_first, plain_core_link}
use Rattle.sc_core.proofs.ViewCoreLaws.{core_expr-is, core_link-is, linked-more, core_first-constant, core_first-step, core_first-every, core_first-any, core_first-choice, core_first-update}
use Rattle.index_form.specs.declared.chain.Chain.{Chain}
use Rattle.index_form.specs.Outermost.{constant_in, step_in, one_in, two_in, has_none}
use Rattle.index_form.specs.Chains.{chain_core, behind, seen_two}

-- ---- a chain and its first part

pub chain_of : (c : Chain) (e : CoreExpr) → c.first.now ≡ (out-CoreExpr e).first → c.links.now ≡ (out-CoreExpr e).links →
    chain_core c ≡ plain_core e
unfolding chain_core
chain_of c e first links = rw (first, links) (sym (core_expr-is e))

pub chain-first : (c : Chain) → c.links.now ≡ [] → chain_core c ≡ plain_core_first c.first.now
unfolding chain_core
chain-first c h = rw h refl

-- behind a last link
pub chain-last : (c before : Chain) (l : CoreLink) → c.links.now ≡ before.links.now ++ l ∷ [] → before.first.now ≡ c.first.now →
    chain_core c
    ≡ step (out-CoreLink l).operation (argument (chain_core before) (arguments_of (map plain_core (out-CoreLink l).more))) (out-CoreLink l).line
unfolding chain_core
chain-last c before l h first =
    rw (h, map-append plain_core_link before.links.now (l ∷ []), linked-more, core_link-is l, first) refl

pub stepped_last : (c before : Chain) (l : CoreLink) (more : List CoreExpr) → c.links.now ≡ before.links.now ++ l ∷ [] →
    before.first.now ≡ c.first.now → more ≡ (out-CoreLink l).more →
    Some (record { operation = (out-CoreLink l).operation; arguments = behind (Some before) more }) ≡ step_in (chain_core c)
unfolding step_in behind
stepped_last c before l more h first is_more = rw (chain-last c before l h first, is_more) refl

-- a link is no constant
linked_step : (operation : Operation) (all : Arguments) (line : ℕ) (links : List Linked) → constant_in (linked (step operation all line) links) ≡ None
unfolding constant_in
linked_step operation all line [] = refl
linked_step operation all line (l ∷ more) = linked_step l.operation (argument (step operation all line) l.more) l.line more

no_constant : (e : Core) (links : List CoreLink) → nat_eq (length links) 0 ≡ false → constant_in (linked e (map plain_core_link links)) ≡ None
no_constant e [] t = cc
no_constant e (l ∷ more) t = linked_step (plain_core_link l).operation (argument e (plain_core_link l).more) (plain_core_link l).line (map plain_core_link more)

pub chain_constant : (c : Chain) → nat_eq (length c.links.now) 0 ≡ false → constant_in (chain_core c) ≡ None
unfolding chain_core
chain_constant c t = no_constant (plain_core_first c.first.now) c.links.now t

no_links : (links : List CoreLink) → nat_eq (length links) 0 ≡ true → links ≡ []
no_links [] t = refl
no_links (l ∷ more) t = absurd (grind arith)

pub chain_alone : (c : Chain) → nat_eq (length c.links.now) 0 ≡ true → chain_core c ≡ plain_core_first c.first.now
chain_alone c t = chain-first c (no_links c.links.now t)

pub chain_bare : (c : Chain) → length c.links.now ≡ 0 → chain_core c ≡ plain_core_first c.first.now
chain_bare c h = chain-first c (no_links c.links.now (grind arith))

-- ---- what comes first

pub constant_constant : (k : Constant) → constant_in (plain_core_first (first.Constant k)) ≡ Some k
unfolding constant_in
constant_constant k = rw core_first-constant refl

pub constant_step : (operation : Operation) (all : List CoreExpr) (line : ℕ) → constant_in (plain_core_first (first.Step operation all line)) ≡ None
unfolding constant_in
constant_step operation all line = rw core_first-step refl

pub constant_choice : (of_pointer : Bool) (test on off : CoreExpr) → constant_in (plain_core_first (first.Choice of_pointer test on off)) ≡ None
unfolding constant_in
constant_choice of_pointer test on off = rw core_first-choice refl

pub constant_update : (pointer : CoreExpr) (operation : Operation) (right : CoreExpr) (undo : Option Operation) (line : ℕ) →
    constant_in (plain_core_first (first.Update pointer operation right undo line)) ≡ None
unfolding constant_in
constant_update pointer operation right undo line = rw core_first-update refl

some_left : (n : ℕ) → nat_eq (suc n) 0 ≡ false
some_left n = grind arith

pub constant_every : (all : List CoreTest) →
    constant_in (plain_core_first (first.Every all)) ≡ (if nat_eq (length all) 0 then Some (Number (pos 1)) else None)
unfolding constant_in
constant_every [] = rw core_first-every refl
constant_every (t ∷ more) = rw (core_first-every, some_left (length more)) refl

pub constant_any : (all : List CoreTest) →
    constant_in (plain_core_first (first.Any all)) ≡ (if nat_eq (length all) 0 then Some (Number (pos 0)) else None)
unfolding constant_in
constant_any [] = rw core_first-any refl
constant_any (t ∷ more) = rw (core_first-any, some_left (length more)) refl

pub step_constant : (k : Constant) → step_in (plain_core_first (first.Constant k)) ≡ None
unfolding step_in
step_constant k = rw core_first-constant refl

pub step_step : (operation : Operation) (all : List CoreExpr) (line : ℕ) →
    step_in (plain_core_first (first.Step operation all line)) ≡ Some (record { operation = operation; arguments = arguments_of (map plain_core all) })
unfolding step_in
step_step operation all line = rw core_first-step refl

pub step_choice : (of_pointer : Bool) (test on off : CoreExpr) → step_in (plain_core_first (first.Choice of_pointer test on off)) ≡ None
unfolding step_in
step_choice of_pointer test on off = rw core_first-choice refl

pub step_update : (pointer : CoreExpr) (operation : Operation) (right : CoreExpr) (undo : Option Operation) (line : ℕ) →
    step_in (plain_core_first (first.Update pointer operation right undo line)) ≡ None
unfolding step_in
step_update pointer operation right undo line = rw core_first-update refl

pub step_every : (all : List CoreTest) → step_in (plain_core_first (first.Every all)) ≡ None
unfolding step_in
step_every [] = rw core_first-every refl
step_every (t ∷ more) = rw core_first-every refl

pub step_any : (all : List CoreTest) → step_in (plain_core_first (first.Any all)) ≡ None
unfolding step_in
step_any [] = rw core_first-any refl
step_any (t ∷ more) = rw core_first-any refl

-- ---- arguments

pub behind_none : (more : List CoreExpr) → behind None more ≡ none
unfolding behind
behind_none more = refl

pub behind_some : (e : Chain) (more : List CoreExpr) → behind (Some e) more ≡ argument (chain_core e) (arguments_of (map plain_core more))
unfolding behind
behind_some e more = refl

pub bare_is : (value : Option Chain) (more : List CoreExpr) → has_none (behind value more) ≡ is_none value
unfolding behind has_none
bare_is None more = refl
bare_is (Some e) more = refl

pub one_is : (value : Option Chain) (more : List CoreExpr) →
    one_in (behind value more) ≡ (if nat_eq (length more) 0 then option_map chain_core value else None)
unfolding behind one_in
one_is None [] = refl
one_is None (x ∷ more) = rw (some_left (length more)) refl
one_is (Some e) [] = refl
one_is (Some e) (x ∷ more) = rw (some_left (length more)) refl

pub no_arguments : (all : List CoreExpr) → length all ≡ 0 → arguments_of (map plain_core all) ≡ none
no_arguments [] h = refl
no_arguments (e ∷ more) h = absurd (omega arith)

pub only_none : (all : List CoreExpr) → length all ≡ 0 → one_in (arguments_of (map plain_core all)) ≡ None
unfolding one_in
only_none all h = rw (no_arguments all h) refl

pub only_is : (e : CoreExpr) (more : List CoreExpr) →
    one_in (arguments_of (map plain_core (e ∷ more))) ≡ (if nat_eq (length more) 0 then Some (plain_core e) else None)
unfolding one_in
only_is e [] = refl
only_is e (x ∷ more) = rw (some_left (length more)) refl

pub two_none : (more : List CoreExpr) → two_in (behind None more) ≡ None
unfolding behind two_in
two_none more = refl

pub two_missing : (e : Chain) (more : List CoreExpr) → one_in (arguments_of (map plain_core more)) ≡ None → two_in (behind (Some e) more) ≡ None
unfolding behind two_in one_in
two_missing e [] h = refl
two_missing e (a ∷ []) h = cc
two_missing e (a ∷ b ∷ more) h = refl

pub two_some : (e : Chain) (more : List CoreExpr) (b : Core) → one_in (arguments_of (map plain_core more)) ≡ Some b →
    two_in (behind (Some e) more) ≡ Some (record { left = chain_core e; right = b })
unfolding behind two_in one_in
two_some e [] b h = cc
two_some e (a ∷ []) b h = cc
two_some e (a ∷ x ∷ more) b h = cc

pub seen : (left right : Chain) → seen_two (record { left = left; right = right }) ≡ record { left = chain_core left; right = chain_core right }
unfolding seen_two
seen left right = refl

pub ruleset chain_reads = (chain_of, chain_alone, chain_bare, chain_constant, stepped_last)

pub ruleset first_reads = (constant_constant, constant_step, constant_choice, constant_update, constant_every, constant_any, step_constant, step_step, step_choice, step_update, step_every, step_any)

pub ruleset argument_reads = (behind_none, behind_some, bare_is, one_is, no_arguments, only_none, only_is, two_none, two_missing, two_some, seen)
