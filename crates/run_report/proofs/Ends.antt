-- What the nodes' ends make of the status.
use Rattle.std.proofs.Common.{◌≡◌, ℕ, zero, suc, ◌+◌, List, [], ◌∷◌, length, Option, Some, Bool, ◌||◌, if◌then◌else◌}
use Rattle.std.proofs.Common.{refl, ap, ap₂, ◌∙◌, add-one}
use Rattle.std.specs.List.{list_any}
use Rattle.sc_base.specs.declared.value.End.{End}
use Rattle.sc_isa.specs.declared.results.NodeResult.{NodeResult}
use Rattle.run_report.specs.Report.{ends_in}
use Rattle.run_report.specs.Status.{some_end, is_fault, is_cut, is_waiting, status_of}
use Rattle.run_report.specs.declared.status.Status.TheVariants.{Ended as AllEnded, Fault as SomeFault}
use Rattle.run_report.specs.declared.status.Status.TheVariants.{Cut as SomeCut, Waiting as SomeWaiting}

shift : (test : Option End → Bool) (ends : ℕ → Option End) (first count : ℕ) →
    some_end test ends (first + 1) count ≡ some_end test (λ n. ends (suc n)) first count
shift test ends first zero = refl
shift test ends first (suc count) = ap₂ (λ e b. test e || b) (ap ends (add-one first))
    (shift test ends (first + 1) count)

-- some node ended so, over the nodes' list
some_end_any : (test : Option End → Bool) (nodes : List NodeResult) →
    some_end test (ends_in nodes) 0 (length nodes) ≡ list_any (λ node. test (Some node.end)) nodes
some_end_any test [] = refl
some_end_any test (node ∷ nodes) =
    ap (λ b. test (Some node.end) || b) (shift test (ends_in (node ∷ nodes)) 0 (length nodes) ∙ some_end_any test nodes)

-- the status by the first that was found
pub status_found : (nodes : List NodeResult) (fault cut waiting : Bool) →
    fault ≡ list_any (λ node. is_fault (Some node.end)) nodes →
    cut ≡ list_any (λ node. is_cut (Some node.end)) nodes →
    waiting ≡ list_any (λ node. is_waiting (Some node.end)) nodes →
    status_of (length nodes) (ends_in nodes) ≡
    (if fault then SomeFault else if cut then SomeCut else if waiting then SomeWaiting else AllEnded)
status_found nodes fault cut waiting f u w =
    rw (some_end_any is_fault nodes, some_end_any is_cut nodes, some_end_any is_waiting nodes, f, u, w) refl
