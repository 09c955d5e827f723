-- What is gathered from each form of a part.
use Rattle.std.proofs.Common.{◌≡◌, refl, sym, ap, ◌∙◌, ℕ, Bool, List, [], ◌∷◌, ◌++◌, Option, Some, None, append_assoc}
use Rattle.std.specs.Prelude.{flat_map}
use Rattle.std.specs.Option.{option_to_list}
use Rattle.std.proofs.lemmas.List.{append-nil}
use Rattle.sc_core.specs.declared.operation.Constant.{Constant}
use Rattle.sc_core.specs.declared.operation.Operation.{Operation}
use Rattle.sc_core.specs.declared.operation.Action.{Action}
use Rattle.sc_core.specs.Core.{Core, constant, step, choice, update, Arguments, none, argument, Does, nothing, break, continue, then_, act, choose, loop, return, Function}
use Rattle.sc_core.specs.Forms.{exposed_by, exposes, exposes_all, exposes_in}
use Rattle.sc_core.specs.View.{Linked, linked, Tested, every_of, any_of}
use Rattle.sc_core.specs.ViewStatements.{Armed, block_of, chosen}
use Rattle.flow_form.specs.declared.gather.Wanted.{Wanted}
use Rattle.flow_form.specs.declared.gather.Wanted.TheVariants.{Exposed, Written}
use Rattle.flow_form.specs.Written.{set_by, set_by_action, written, written_all, written_in}
use Rattle.flow_form.specs.Gathers.{wanted_by, wanted_by_action, wanted_of, wanted_of_all, wanted_in, found, gathered, gathered_all, gathered_in, gathered_link, gathered_links, gathered_test, gathered_tests, gathered_block, gathered_arm, gathered_arms, gathered_functions}

two : (xs a b : List ℕ) → xs ++ (a ++ b) ≡ (xs ++ a) ++ b
two xs a b = sym (append_assoc xs a b)

three : (xs a b c : List ℕ) → xs ++ ((a ++ b) ++ c) ≡ ((xs ++ a) ++ b) ++ c
three xs a b c = two xs (a ++ b) c ∙ ap (λ ys. ys ++ c) (two xs a b)

pub found-none : (xs : List ℕ) → found (option_to_list None) xs ≡ xs
unfolding found
found-none xs = append-nil xs

pub ruleset singles = (append-nil)

pub gathered-constant : (wanted : Wanted) (c : Constant) (xs : List ℕ) → gathered wanted (constant c) xs ≡ xs
unfolding gathered wanted_of
gathered-constant Exposed c xs = append-nil xs
gathered-constant Written c xs = append-nil xs

pub gathered-step : (wanted : Wanted) (operation : Operation) (all : Arguments) (line : ℕ) (xs : List ℕ) →
    gathered wanted (step operation all line) xs ≡ found (wanted_by wanted operation) (gathered_all wanted all xs)
unfolding gathered wanted_of found wanted_by gathered_all wanted_of_all
gathered-step Exposed operation all line xs = two xs (exposes_all all) (exposed_by operation)
gathered-step Written operation all line xs = two xs (written_all all) (option_to_list (set_by operation))

pub gathered-choice : (wanted : Wanted) (of_pointer : Bool) (test on off : Core) (xs : List ℕ) →
    gathered wanted (choice of_pointer test on off) xs ≡ gathered wanted off (gathered wanted on (gathered wanted test xs))
unfolding gathered wanted_of
gathered-choice Exposed of_pointer test on off xs = three xs (exposes test) (exposes on) (exposes off)
gathered-choice Written of_pointer test on off xs = three xs (written test) (written on) (written off)

pub gathered-update : (wanted : Wanted) (pointer : Core) (operation : Operation) (right : Core) (undo : Option Operation) (line : ℕ) (xs : List ℕ) →
    gathered wanted (update pointer operation right undo line) xs ≡ gathered wanted right (gathered wanted pointer xs)
unfolding gathered wanted_of
gathered-update Exposed pointer operation right undo line xs = two xs (exposes pointer) (exposes right)
gathered-update Written pointer operation right undo line xs = two xs (written pointer) (written right)

-- ---- parts in lists

pub all-none : (wanted : Wanted) (xs : List ℕ) → gathered_all wanted none xs ≡ xs
unfolding gathered_all wanted_of_all
all-none Exposed xs = append-nil xs
all-none Written xs = append-nil xs

pub all-on : (wanted : Wanted) (e : Core) (more : Arguments) (xs : List ℕ) →
    gathered_all wanted (argument e more) xs ≡ gathered_all wanted more (gathered wanted e xs)
unfolding gathered_all wanted_of_all gathered wanted_of
all-on Exposed e more xs = two xs (exposes e) (exposes_all more)
all-on Written e more xs = two xs (written e) (written_all more)

pub links-none : (wanted : Wanted) (xs : List ℕ) → gathered_links wanted [] xs ≡ xs
unfolding gathered_links
links-none wanted xs = refl

pub links-on : (wanted : Wanted) (l : Linked) (more : List Linked) (xs : List ℕ) →
    gathered_links wanted (l ∷ more) xs ≡ gathered_links wanted more (gathered_link wanted l xs)
unfolding gathered_links
links-on wanted l more xs = refl

pub gathered-linked : (wanted : Wanted) (e : Core) (all : List Linked) (xs : List ℕ) →
    gathered wanted (linked e all) xs ≡ gathered_links wanted all (gathered wanted e xs)
unfolding gathered_links gathered_link
gathered-linked wanted e [] xs = refl
gathered-linked wanted e (l ∷ more) xs =
    gathered-linked wanted (step l.operation (argument e l.more) l.line) more xs
    ∙ ap (gathered_links wanted more)
    (gathered-step wanted l.operation (argument e l.more) l.line xs ∙ ap (found (wanted_by wanted l.operation)) (all-on wanted e l.more xs))

pub tests-none : (wanted : Wanted) (xs : List ℕ) → gathered_tests wanted [] xs ≡ xs
unfolding gathered_tests
tests-none wanted xs = refl

pub tests-on : (wanted : Wanted) (t : Tested) (more : List Tested) (xs : List ℕ) →
    gathered_tests wanted (t ∷ more) xs ≡ gathered_tests wanted more (gathered_test wanted t xs)
unfolding gathered_tests
tests-on wanted t more xs = refl

pub gathered-every : (wanted : Wanted) (all : List Tested) (xs : List ℕ) → gathered wanted (every_of all) xs ≡ gathered_tests wanted all xs
unfolding gathered_tests gathered_test
gathered-every wanted [] xs = gathered-constant wanted _ xs
gathered-every wanted (t ∷ more) xs =
    gathered-choice wanted t.of_pointer t.e (every_of more) _ xs ∙ gathered-constant wanted _ _
    ∙ gathered-every wanted more (gathered wanted t.e xs)

pub gathered-any : (wanted : Wanted) (all : List Tested) (xs : List ℕ) → gathered wanted (any_of all) xs ≡ gathered_tests wanted all xs
unfolding gathered_tests gathered_test
gathered-any wanted [] xs = gathered-constant wanted _ xs
gathered-any wanted (t ∷ more) xs =
    gathered-choice wanted t.of_pointer t.e _ (any_of more) xs
    ∙ ap (gathered wanted (any_of more)) (gathered-constant wanted _ (gathered wanted t.e xs))
    ∙ gathered-any wanted more (gathered wanted t.e xs)

pub ruleset forms = (gathered-constant, gathered-step, gathered-choice, gathered-update, gathered-every, gathered-any)

-- ---- statements

pub in-nothing : (wanted : Wanted) (xs : List ℕ) → gathered_in wanted nothing xs ≡ xs
unfolding gathered_in wanted_in
in-nothing Exposed xs = append-nil xs
in-nothing Written xs = append-nil xs

pub in-break : (wanted : Wanted) (xs : List ℕ) → gathered_in wanted break xs ≡ xs
unfolding gathered_in wanted_in
in-break Exposed xs = append-nil xs
in-break Written xs = append-nil xs

pub in-continue : (wanted : Wanted) (xs : List ℕ) → gathered_in wanted continue xs ≡ xs
unfolding gathered_in wanted_in
in-continue Exposed xs = append-nil xs
in-continue Written xs = append-nil xs

in-then : (wanted : Wanted) (first second : Does) (xs : List ℕ) →
    gathered_in wanted (then_ first second) xs ≡ gathered_in wanted second (gathered_in wanted first xs)
unfolding gathered_in wanted_in
in-then Exposed first second xs = two xs (exposes_in first) (exposes_in second)
in-then Written first second xs = two xs (written_in first) (written_in second)

pub in-act : (wanted : Wanted) (action : Action) (arguments : Arguments) (line : ℕ) (xs : List ℕ) →
    gathered_in wanted (act action arguments line) xs ≡ found (wanted_by_action wanted action) (gathered_all wanted arguments xs)
unfolding gathered_in wanted_in found wanted_by_action gathered_all wanted_of_all
in-act Exposed action arguments line xs = sym (append-nil (xs ++ exposes_all arguments))
in-act Written action arguments line xs = two xs (written_all arguments) (option_to_list (set_by_action action))

in-choose : (wanted : Wanted) (of_pointer : Bool) (test : Core) (on off : Does) (xs : List ℕ) →
    gathered_in wanted (choose of_pointer test on off) xs ≡ gathered_in wanted off (gathered_in wanted on (gathered wanted test xs))
unfolding gathered_in wanted_in gathered wanted_of
in-choose Exposed of_pointer test on off xs = three xs (exposes test) (exposes_in on) (exposes_in off)
in-choose Written of_pointer test on off xs = three xs (written test) (written_in on) (written_in off)

pub in-loop : (wanted : Wanted) (mine : Option ℕ) (before body next : Does) (xs : List ℕ) →
    gathered_in wanted (loop mine before body next) xs ≡ gathered_in wanted next (gathered_in wanted body (gathered_in wanted before xs))
unfolding gathered_in wanted_in
in-loop Exposed mine before body next xs = three xs (exposes_in before) (exposes_in body) (exposes_in next)
in-loop Written mine before body next xs = three xs (written_in before) (written_in body) (written_in next)

pub in-return : (wanted : Wanted) (e : Core) (line : ℕ) (xs : List ℕ) → gathered_in wanted (return e line) xs ≡ gathered wanted e xs
unfolding gathered_in wanted_in gathered wanted_of
in-return Exposed e line xs = refl
in-return Written e line xs = refl

pub block-none : (wanted : Wanted) (xs : List ℕ) → gathered_block wanted [] xs ≡ xs
unfolding gathered_block
block-none wanted xs = refl

pub block-on : (wanted : Wanted) (d : Does) (more : List Does) (xs : List ℕ) →
    gathered_block wanted (d ∷ more) xs ≡ gathered_block wanted more (gathered_in wanted d xs)
unfolding gathered_block
block-on wanted d more xs = refl

pub in-block : (wanted : Wanted) (all : List Does) (xs : List ℕ) → gathered_in wanted (block_of all) xs ≡ gathered_block wanted all xs
unfolding gathered_block
in-block wanted [] xs = in-nothing wanted xs
in-block wanted (d ∷ more) xs = in-then wanted d (block_of more) xs ∙ in-block wanted more (gathered_in wanted d xs)

pub arms-none : (wanted : Wanted) (xs : List ℕ) → gathered_arms wanted [] xs ≡ xs
unfolding gathered_arms
arms-none wanted xs = refl

pub arms-on : (wanted : Wanted) (a : Armed) (more : List Armed) (xs : List ℕ) →
    gathered_arms wanted (a ∷ more) xs ≡ gathered_arms wanted more (gathered_arm wanted a xs)
unfolding gathered_arms
arms-on wanted a more xs = refl

pub in-chosen : (wanted : Wanted) (arms : List Armed) (rest : Does) (xs : List ℕ) →
    gathered_in wanted (chosen arms rest) xs ≡ gathered_in wanted rest (gathered_arms wanted arms xs)
unfolding gathered_arms gathered_arm
in-chosen wanted [] rest xs = refl
in-chosen wanted (a ∷ more) rest xs =
    in-choose wanted a.of_pointer a.test a.body (chosen more rest) xs
    ∙ in-chosen wanted more rest (gathered_in wanted a.body (gathered wanted a.test xs))

pub ruleset statements = (in-nothing, in-break, in-continue, in-act, in-loop, in-return, in-block, in-chosen)

pub functions-none : (wanted : Wanted) (xs : List ℕ) → gathered_functions wanted [] xs ≡ xs
unfolding gathered_functions
functions-none wanted xs = refl

pub functions-on : (wanted : Wanted) (f : Function) (more : List Function) (xs : List ℕ) →
    gathered_functions wanted (f ∷ more) xs ≡ gathered_functions wanted more (gathered_in wanted f.body xs)
unfolding gathered_functions
functions-on wanted f more xs = refl

pub ruleset chains = (all-none, all-on, links-none, links-on, tests-none, tests-on, gathered-linked, block-none, block-on, arms-none, arms-on, functions-none, functions-on)

-- the objects that functions expose
pub exposed_in : (functions : List Function) (xs : List ℕ) →
    gathered_functions Exposed functions xs ≡ xs ++ flat_map (λ f. exposes_in f.body) functions
unfolding gathered_functions gathered_in wanted_in
exposed_in [] xs = sym (append-nil xs)
exposed_in (f ∷ more) xs = exposed_in more (xs ++ exposes_in f.body) ∙ append_assoc xs (exposes_in f.body) _
