-- An object's cell as a pointer to it.
use Rattle.std.proofs.Common.{◌≡◌, refl, ap, ◌∙◌, sym, ℕ, List, [], ◌∷◌, ◌++◌, map}
use Rattle.std.proofs.lemmas.List.{map-append}
use Rattle.sc_core.specs.declared.operation.Operation.{Operation}
use Rattle.sc_core.specs.declared.operation.Operation.TheVariants as does
use Rattle.sc_core.specs.declared.expression.CoreExpr.{CoreExpr, out-CoreExpr, roll-CoreExpr}
use Rattle.sc_core.specs.declared.expression.CoreFirst.{CoreFirst}
use Rattle.sc_core.specs.declared.expression.CoreLink.{CoreLink}
use Rattle.sc_core.specs.Core.{Core, step, Arguments, argument}
use Rattle.sc_core.specs.Places.{exposed}
use Rattle.core_expr.specs.Exposed.{exposed_operation}
use Rattle.sc_core.specs.View.{Linked, linked, Tested, every_of, any_of, plain_core}
use Rattle.sc_core.specs.ViewParts.{plain_core_first, plain_core_link}
use Rattle.sc_core.proofs.ViewCoreLaws.{linked-more, core_expr-is, core_expr-made}

pub exposed-step : (operation : Operation) (arguments : Arguments) (line : ℕ) →
    exposed (step operation arguments line) ≡ step (exposed_operation operation) arguments line
exposed-step (does.Use x) arguments line = refl
exposed-step (does.Element o count plain) arguments line = refl
exposed-step (does.Address o count) arguments line = refl
exposed-step does.Own arguments line = refl
exposed-step does.Convert arguments line = refl
exposed-step (does.Forward s) arguments line = refl
exposed-step (does.Back s) arguments line = refl
exposed-step (does.Binary op) arguments line = refl
exposed-step (does.Unary op) arguments line = refl
exposed-step does.Same arguments line = refl
exposed-step does.Differ arguments line = refl
exposed-step does.IsNull arguments line = refl
exposed-step does.ToGlobal arguments line = refl
exposed-step does.ToProc arguments line = refl
exposed-step does.ToLocal arguments line = refl
exposed-step (does.Set x) arguments line = refl
exposed-step (does.Call f count) arguments line = refl
exposed-step does.Read arguments line = refl
exposed-step does.Write arguments line = refl

pub exposed-every : (all : List Tested) → exposed (every_of all) ≡ every_of all
exposed-every [] = refl
exposed-every (t ∷ more) = refl

pub exposed-any : (all : List Tested) → exposed (any_of all) ≡ any_of all
exposed-any [] = refl
exposed-any (t ∷ more) = refl

abbrev pub with_exposed : Linked → Linked
with_exposed l = record { operation = exposed_operation l.operation; more = l.more; line = l.line }

-- the last link of a chain
pub exposed-last : (e : Core) (all : List Linked) (l : Linked) → exposed (linked e (all ++ l ∷ [])) ≡ linked e (all ++ with_exposed l ∷ [])
exposed-last e all l =
    ap exposed (linked-more e all l) ∙ exposed-step l.operation (argument (linked e all) l.more) l.line
    ∙ sym (linked-more e all (with_exposed l))

exposed-chain : (e : Core) (before : List CoreLink) (last changed : CoreLink) →
    plain_core_link changed ≡ with_exposed (plain_core_link last) →
    linked e (map plain_core_link (before ++ changed ∷ [])) ≡ exposed (linked e (map plain_core_link (before ++ last ∷ [])))
exposed-chain e before last changed k =
    rw (map-append plain_core_link before (last ∷ []), map-append plain_core_link before (changed ∷ []), k)
    (sym (exposed-last e (map plain_core_link before) (plain_core_link last)))

-- an expression without links, and one with links, whose first part stays
pub exposed-alone : (e : CoreExpr) (f : CoreFirst) (links : List CoreLink) → (out-CoreExpr e).links ≡ [] → links ≡ [] →
    plain_core_first f ≡ exposed (plain_core_first (out-CoreExpr e).first) →
    plain_core (roll-CoreExpr record { first = f; links = links }) ≡ exposed (plain_core e)
exposed-alone e f links none empty h =
    core_expr-made f links ∙ ap (λ l. linked (plain_core_first f) (map plain_core_link l)) empty ∙ h
    ∙ ap exposed (sym (core_expr-is e ∙ ap (λ l. linked (plain_core_first (out-CoreExpr e).first) (map plain_core_link l)) none))

pub exposed-behind : (e : CoreExpr) (links before : List CoreLink) (last changed : CoreLink) → (out-CoreExpr e).links ≡ before ++ last ∷ [] →
    links ≡ before ++ changed ∷ [] → plain_core_link changed ≡ with_exposed (plain_core_link last) →
    plain_core (roll-CoreExpr record { first = (out-CoreExpr e).first; links = links }) ≡ exposed (plain_core e)
exposed-behind e links before last changed h k same =
    let first = plain_core_first (out-CoreExpr e).first in
    core_expr-made (out-CoreExpr e).first links ∙ ap (λ l. linked first (map plain_core_link l)) k
    ∙ exposed-chain first before last changed same
    ∙ ap exposed (sym (core_expr-is e ∙ ap (λ l. linked first (map plain_core_link l)) h))

pub ruleset exposures = (exposed-step, exposed-every, exposed-any, exposed-alone, exposed-behind)
