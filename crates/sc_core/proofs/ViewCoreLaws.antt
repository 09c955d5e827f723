-- What the plain copy of a core expression is, at each variant, and with one more link.
use Rattle.std.proofs.Common.{◌≡◌, sym, ap, ◌∙◌, refl, ℕ, Bool, List, [], ◌∷◌, ◌++◌, Option, map}
use Rattle.std.proofs.lemmas.List.{map-append}
use Rattle.sc_core.specs.declared.operation.Constant.{Constant}
use Rattle.sc_core.specs.declared.operation.Operation.{Operation}
use Rattle.sc_core.specs.declared.expression.CoreExpr.{CoreExpr, out-CoreExpr, roll-CoreExpr, fold_out-CoreExpr, fold-roll-CoreExpr}
use Rattle.sc_core.specs.declared.expression.CoreFirst.{CoreFirst, fold-roll-CoreFirst}
use Rattle.sc_core.specs.declared.expression.CoreFirst.TheVariants as first
use Rattle.sc_core.specs.declared.expression.CoreLink.{CoreLink, out-CoreLink, roll-CoreLink, fold_out-CoreLink, fold-roll-CoreLink}
use Rattle.sc_core.specs.declared.expression.CoreTest.{CoreTest, out-CoreTest, roll-CoreTest, fold_out-CoreTest, fold-roll-CoreTest}
use Rattle.sc_core.specs.Core.{Core, constant, step, choice, update, argument}
use Rattle.sc_core.specs.View.{Linked, linked, Tested, plain_core, arguments_of, every_of, any_of}
use Rattle.sc_core.specs.ViewParts.{plain_core_first, plain_core_link, plain_core_test}

pub core_first-constant : (c : Constant) → plain_core_first (first.Constant c) ≡ constant c
core_first-constant c = ap plain_core_first (sym (first.rolls-Constant c)) ∙ fold-roll-CoreFirst _ _ _ _ _ _ _ _ _

pub core_first-step : (operation : Operation) (all : List CoreExpr) (line : ℕ) → plain_core_first (first.Step operation all line) ≡ step operation (arguments_of (map plain_core all)) line
core_first-step operation all line = ap plain_core_first (sym (first.rolls-Step operation all line)) ∙ fold-roll-CoreFirst _ _ _ _ _ _ _ _ _

pub core_first-every : (all : List CoreTest) → plain_core_first (first.Every all) ≡ every_of (map plain_core_test all)
core_first-every all = ap plain_core_first (sym (first.rolls-Every all)) ∙ fold-roll-CoreFirst _ _ _ _ _ _ _ _ _

pub core_first-any : (all : List CoreTest) → plain_core_first (first.Any all) ≡ any_of (map plain_core_test all)
core_first-any all = ap plain_core_first (sym (first.rolls-Any all)) ∙ fold-roll-CoreFirst _ _ _ _ _ _ _ _ _

pub core_first-choice : (of_pointer : Bool) (test on off : CoreExpr) → plain_core_first (first.Choice of_pointer test on off) ≡ choice of_pointer (plain_core test) (plain_core on) (plain_core off)
core_first-choice of_pointer test on off = ap plain_core_first (sym (first.rolls-Choice of_pointer test on off)) ∙ fold-roll-CoreFirst _ _ _ _ _ _ _ _ _

pub core_first-update : (pointer : CoreExpr) (operation : Operation) (right : CoreExpr) (taken_back : Option Operation) (line : ℕ) → plain_core_first (first.Update pointer operation right taken_back line) ≡ update (plain_core pointer) operation (plain_core right) taken_back line
core_first-update pointer operation right taken_back line = ap plain_core_first (sym (first.rolls-Update pointer operation right taken_back line)) ∙ fold-roll-CoreFirst _ _ _ _ _ _ _ _ _

pub core_expr-is : (e : CoreExpr) → plain_core e ≡ linked (plain_core_first (out-CoreExpr e).first) (map plain_core_link (out-CoreExpr e).links)
core_expr-is e = fold_out-CoreExpr _ _ _ _ _ _ _ _ e

pub core_expr-made : (f : CoreFirst) (links : List CoreLink) → plain_core (roll-CoreExpr record { first = f; links = links }) ≡ linked (plain_core_first f) (map plain_core_link links)
core_expr-made f links = fold-roll-CoreExpr _ _ _ _ _ _ _ _ _

pub core_link-made : (operation : Operation) (more : List CoreExpr) (line : ℕ) → plain_core_link (roll-CoreLink record { operation = operation; more = more; line = line }) ≡ record { operation = operation; more = arguments_of (map plain_core more); line = line }
core_link-made operation more line = fold-roll-CoreLink _ _ _ _ _ _ _ _ _

pub core_test-made : (of_pointer : Bool) (e : CoreExpr) → plain_core_test (roll-CoreTest record { of_pointer = of_pointer; e = e }) ≡ record { of_pointer = of_pointer; e = plain_core e }
core_test-made of_pointer e = fold-roll-CoreTest _ _ _ _ _ _ _ _ _

pub core_link-is : (l : CoreLink) → plain_core_link l ≡ record { operation = (out-CoreLink l).operation; more = arguments_of (map plain_core (out-CoreLink l).more); line = (out-CoreLink l).line }
core_link-is l = fold_out-CoreLink _ _ _ _ _ _ _ _ l

pub core_test-is : (t : CoreTest) → plain_core_test t ≡ record { of_pointer = (out-CoreTest t).of_pointer; e = plain_core (out-CoreTest t).e }
core_test-is t = fold_out-CoreTest _ _ _ _ _ _ _ _ t

-- one link more
pub linked-more : (e : Core) (all : List Linked) (l : Linked) → linked e (all ++ l ∷ []) ≡ step l.operation (argument (linked e all) l.more) l.line
linked-more e [] l = refl
linked-more e (x ∷ all) l = linked-more (step x.operation (argument e x.more) x.line) all l

linked-on : (e : CoreExpr) (l : CoreLink) (all : List CoreLink) → all ≡ (out-CoreExpr e).links ++ l ∷ [] →
    linked (plain_core_first (out-CoreExpr e).first) (map plain_core_link all) ≡ linked (plain_core e) (plain_core_link l ∷ [])
linked-on e l all h =
    rw (h, map-append plain_core_link (out-CoreExpr e).links (l ∷ []), linked-more, core_expr-is e) refl

pub core_expr-pushed : (e : CoreExpr) (l : CoreLink) (all : List CoreLink) → all ≡ (out-CoreExpr e).links ++ l ∷ [] →
    plain_core (roll-CoreExpr record { first = (out-CoreExpr e).first; links = all }) ≡ linked (plain_core e) (plain_core_link l ∷ [])
core_expr-pushed e l all h = core_expr-made (out-CoreExpr e).first all ∙ linked-on e l all h

-- for the functions that make such trees
pub ruleset core_views = (core_first-constant, core_first-step, core_first-every, core_first-any, core_first-choice, core_first-update, core_expr-made, core_link-made, core_test-made, core_expr-pushed)
