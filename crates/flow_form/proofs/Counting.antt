-- What the parts of expressions add to the count of points and sites, one form at a time.
use Rattle.std.proofs.Common.{◌≡◌, refl, sym, ap, ◌∙◌, ℕ, ◌+◌, Bool, List, [], ◌∷◌, Option, Some, None, arith}
use Rattle.sc_core.proofs.ViewCoreLaws.{core_expr-is, core_link-is, core_test-is}
use Rattle.sc_core.specs.declared.operation.Constant.{Constant}
use Rattle.sc_core.specs.declared.operation.Operation.{Operation}
use Rattle.sc_core.specs.Core.{Core, constant, step, choice, update, Arguments, none, argument}
use Rattle.sc_core.specs.View.{Linked, linked, Tested, every_of, any_of}
use Rattle.sc_meaning.specs.Points.{size, sizes, one_if_some}
use Rattle.flow_form.specs.declared.count.Count.{Count}
use Rattle.flow_form.specs.Accesses.{accesses, accesses_all, accesses_by, accesses_back}
use Rattle.flow_form.specs.Counts.{with_more, counted, counted_all, counted_link, counted_links, counted_test, counted_tests}

pub ruleset core_reads = (core_expr-is, core_link-is, core_test-is)

abbrev Count_at : (points sites : ℕ) → Count
Count_at points sites = record { points = points; sites = sites }

count_same : (p q s t : ℕ) → p ≡ q → s ≡ t → Count_at p s ≡ Count_at q t
count_same p q s t e f = ap (λ n. Count_at n s) e ∙ ap (Count_at q) f

pub counted-constant : (k : Constant) (c : Count) → counted (constant k) c ≡ c
unfolding counted with_more
counted-constant k c = count_same (c.points + 0) c.points (c.sites + 0) c.sites (omega arith) (omega arith)

pub counted-step : (operation : Operation) (all : Arguments) (line : ℕ) (c : Count) →
    counted (step operation all line) c ≡ with_more 1 (accesses_by operation) (counted_all all c)
unfolding counted with_more counted_all
counted-step operation all line c = count_same _ _ _ _ (omega arith) (omega arith)

pub counted-choice : (of_pointer : Bool) (test on off : Core) (c : Count) →
    counted (choice of_pointer test on off) c ≡ counted off (counted on (with_more 1 0 (counted test c)))
unfolding counted with_more
counted-choice of_pointer test on off c = count_same _ _ _ _ (omega arith) (omega arith)

pub counted-update : (pointer : Core) (operation : Operation) (right : Core) (undo : Option Operation) (line : ℕ) (c : Count) →
    counted (update pointer operation right undo line) c
    ≡ with_more (one_if_some undo) (accesses_back undo) (with_more 1 1 (with_more 1 (accesses_by operation)
    (counted right (with_more 1 1 (counted pointer c)))))
unfolding counted with_more
counted-update pointer operation right undo line c = count_same _ _ _ _ (omega arith) (omega arith)

-- ---- parts in lists

pub all-none : (c : Count) → counted_all none c ≡ c
unfolding counted_all with_more
all-none c = count_same (c.points + 0) c.points (c.sites + 0) c.sites (omega arith) (omega arith)

pub all-on : (e : Core) (more : Arguments) (c : Count) → counted_all (argument e more) c ≡ counted_all more (counted e c)
unfolding counted_all counted with_more
all-on e more c = count_same _ _ _ _ (omega arith) (omega arith)

pub links-none : (c : Count) → counted_links [] c ≡ c
unfolding counted_links
links-none c = refl

pub links-on : (l : Linked) (more : List Linked) (c : Count) → counted_links (l ∷ more) c ≡ counted_links more (counted_link l c)
unfolding counted_links
links-on l more c = refl

pub counted-linked : (e : Core) (all : List Linked) (c : Count) → counted (linked e all) c ≡ counted_links all (counted e c)
unfolding counted_links counted_link
counted-linked e [] c = refl
counted-linked e (l ∷ more) c =
    counted-linked (step l.operation (argument e l.more) l.line) more c
    ∙ ap (counted_links more)
    (counted-step l.operation (argument e l.more) l.line c ∙ ap (with_more 1 (accesses_by l.operation)) (all-on e l.more c))

pub tests-none : (c : Count) → counted_tests [] c ≡ c
unfolding counted_tests
tests-none c = refl

pub tests-on : (t : Tested) (more : List Tested) (c : Count) → counted_tests (t ∷ more) c ≡ counted_tests more (counted_test t c)
unfolding counted_tests
tests-on t more c = refl

pub counted-every : (all : List Tested) (c : Count) → counted (every_of all) c ≡ counted_tests all c
unfolding counted_tests counted_test
counted-every [] c = counted-constant _ c
counted-every (t ∷ more) c =
    counted-choice t.of_pointer t.e (every_of more) _ c ∙ counted-constant _ _ ∙ counted-every more (with_more 1 0 (counted t.e c))

pub counted-any : (all : List Tested) (c : Count) → counted (any_of all) c ≡ counted_tests all c
unfolding counted_tests counted_test
counted-any [] c = counted-constant _ c
counted-any (t ∷ more) c =
    counted-choice t.of_pointer t.e _ (any_of more) c
    ∙ ap (counted (any_of more)) (counted-constant _ (with_more 1 0 (counted t.e c)))
    ∙ counted-any more (with_more 1 0 (counted t.e c))

pub more-none : (c : Count) → with_more (one_if_some None) (accesses_back None) c ≡ c
unfolding with_more
more-none c = count_same (c.points + 0) c.points (c.sites + 0) c.sites (omega arith) (omega arith)

pub ruleset forms = (counted-constant, counted-step, counted-choice, counted-update, counted-every, counted-any)

pub ruleset chains = (all-none, all-on, links-none, links-on, tests-none, tests-on, counted-linked)

pub ruleset backs = (more-none)
