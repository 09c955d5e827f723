-- What a jump finds below a piece of work that it drops.
use Rattle.std.proofs.Common.{◌≡◌, ℕ, ◌+◌, Option, Some, None, List, [], ◌∷◌, ◌++◌, length, map, refl, sym, ap, ◌∙◌, arith}
use Rattle.std.specs.Borrow.{Bor}
use Rattle.sc_core.specs.declared.expression.CoreExpr.{CoreExpr}
use Rattle.sc_core.specs.View.{Linked, plain_core, arguments_of}
use Rattle.sc_core.proofs.ViewCoreLaws.{core_link-is, core_test-is}
use Rattle.sc_core.specs.ViewParts.{plain_core_link}
use Rattle.sc_core.specs.declared.expression.CoreLink.{CoreLink, out-CoreLink}
use Rattle.core_machine.specs.Todo.{Todo, takes_each, performs}
use Rattle.core_machine.specs.Links.{unlinked}
use Rattle.core_machine.specs.Moves.{at_work, count, left_by_break, left_by_continue, left_by_return}
use Rattle.core_run.specs.declared.task.Task.{Task}
use Rattle.core_run.specs.declared.task.Task.TheVariants as task
use Rattle.core_run.specs.declared.runner.Runner.{Runner}
use Rattle.core_run.specs.Views.{todos_of, all_of, by, Becomes}

-- so many values are made for the arguments
pub count_is : (es : List CoreExpr) → count (arguments_of (map plain_core es)) ≡ length es
count_is [] = refl
count_is (e ∷ es) = omega (arith, count_is es)

-- ---- behind links a jump finds what lies below them

return_links : (ls : List Linked) (ts : List Todo) → left_by_return (unlinked ls ++ ts) ≡ left_by_return ts
return_links [] ts = refl
return_links (l ∷ ls) ts = return_links ls ts

break_links : (ls : List Linked) (ts : List Todo) → left_by_break (unlinked ls ++ ts) ≡ left_by_break ts
break_links [] ts = refl
break_links (l ∷ ls) ts = break_links ls ts

continue_links : (ls : List Linked) (ts : List Todo) → left_by_continue (unlinked ls ++ ts) ≡ left_by_continue ts
continue_links [] ts = refl
continue_links (l ∷ ls) ts = continue_links ls ts

-- ---- what it finds at each piece of work

abbrev pub return_at : Task → List Todo → Option (List Todo)
return_at (task.Close at_end line) ts = Some ts
return_at _ ts = left_by_return ts

pub return_is : (t : Task) (ts : List Todo) → left_by_return (todos_of t ++ ts) ≡ return_at t ts
return_is (task.Links all) ts = return_links (map plain_core_link all.now) ts
return_is _ ts = refl

abbrev pub break_at : Task → List Todo → Option (List Todo)
break_at (task.Rounds l) ts = Some ts
break_at (task.Turn l) ts = Some ts
break_at (task.After l) ts = Some ts
break_at (task.Close at_end line) ts = None
break_at _ ts = left_by_break ts

pub break_is : (t : Task) (ts : List Todo) → left_by_break (todos_of t ++ ts) ≡ break_at t ts
break_is (task.Links all) ts = break_links (map plain_core_link all.now) ts
break_is _ ts = refl

abbrev pub continue_at : Task → List Todo → Option (List Todo)
continue_at (task.After l) ts = Some (todos_of (task.After l) ++ ts)
continue_at (task.Close at_end line) ts = None
continue_at _ ts = left_by_continue ts

pub continue_is : (t : Task) (ts : List Todo) → left_by_continue (todos_of t ++ ts) ≡ continue_at t ts
continue_is (task.Links all) ts = continue_links (map plain_core_link all.now) ts
continue_is _ ts = refl

-- for the functions that take a tree apart
pub ruleset core_parts = (core_link-is, core_test-is, count_is)

-- the work of one link, by its parts
pub link_parts : (l : CoreLink) (ts : List Todo)
    → takes_each (arguments_of (map plain_core (out-CoreLink l).more)) ∷ performs (out-CoreLink l).operation (length (out-CoreLink l).more + 1) (out-CoreLink l).line ∷ ts
    ≡ unlinked (plain_core_link l ∷ []) ++ ts
link_parts l ts =
    let more = arguments_of (map plain_core (out-CoreLink l).more) in
    ap (λ n. takes_each more ∷ performs (out-CoreLink l).operation (n + 1) (out-CoreLink l).line ∷ ts) (sym (count_is (out-CoreLink l).more))
    ∙ ap (λ k. unlinked (k ∷ []) ++ ts) (sym (core_link-is l))

pub link_on : (old mid : Runner) (l : CoreLink) (count : ℕ) (es : Bor (List CoreExpr)) (ts : List Task)
    → count ≡ length (out-CoreLink l).more + 1 → es.now ≡ (out-CoreLink l).more
    → Becomes old (by old (λ ts. at_work (performs (out-CoreLink l).operation count (out-CoreLink l).line ∷ ts))) mid
    → ts ≡ task.Arguments es ∷ mid.tasks
    → Becomes old (by old (λ ts. at_work (unlinked (plain_core_link l ∷ []) ++ ts))) (record mid { tasks = ts })
link_on old mid l count es ts many are b e =
    let rest : ℕ → List Todo = λ n. performs (out-CoreLink l).operation n (out-CoreLink l).line ∷ all_of old.tasks in
    let args : List CoreExpr → Todo = λ es. takes_each (arguments_of (map plain_core es)) in
    record {
      state = ap (λ ts. at_work (all_of ts) mid.values mid.memory mid.left) e
          ∙ ap (λ s. at_work (args es.now ∷ s.todo) s.values s.memory s.left) b.state
          ∙ ap (λ es. at_work (args es ∷ rest count) old.values old.memory old.left) are
          ∙ ap (λ n. at_work (args (out-CoreLink l).more ∷ rest n) old.values old.memory old.left) many
          ∙ ap (λ ts. at_work ts old.values old.memory old.left) (link_parts l (all_of old.tasks));
      program = b.program;
      layout = b.layout;
      node = b.node;
      printed = b.printed;
    }
