-- What no legal and complete history goes on from.
use Rattle.std.proofs.Common.{◌≡◌, ℕ, ◌<◌, List, [], ◌∷◌, ◌++◌, Option, Some, None, refl, sym, ap, ◌∙◌, append_assoc}
use Rattle.std.specs.Prelude.{IsSome}
use Rattle.std.proofs.lemmas.List.{append-nil}
use Rattle.resumption.specs.Resumption.{Ends, Short, run_of}
use Rattle.sc_meaning.specs.declared.event.SourceEvent.{SourceEvent}
use Rattle.sc_meaning.specs.Asking.{Answer, Finishes}
use Rattle.sc_meaning.specs.Past.{Processes, ended, answers, and_answer, answer_to, run_so_far}
use Rattle.sc_meaning.specs.History.{Allowed, Legal}
use Rattle.meaning_laws.proofs.Fronts.{end_is_of_the_run}
use Rattle.replay_stages.specs.Courses.{IsStuck}
use Rattle.replay_stages.specs.Stage.{IsDoomed}

legal_before : (processes : Processes) (later past : List SourceEvent) → Legal processes (later ++ past) → Legal processes past
legal_before processes [] past l = l
legal_before processes (e ∷ later) past l = legal_before processes later past l.1

pub not_allowed : (processes : Processes) (event : SourceEvent) (past : List SourceEvent) → (Allowed processes past event → ⊥)
    → IsDoomed processes (event ∷ past)
not_allowed processes event past h later l c = h (legal_before processes later (event ∷ past) l).0

and_more : (given more : List Answer) (o : Option Answer) → (rest : List Answer) × (and_answer (given ++ more) o ≡ given ++ rest)
and_more given more None = (more, refl)
and_more given more (Some a) = (more ++ a ∷ [], append_assoc given more (a ∷ []))

-- further events only add answers
answers_grow : (processes : Processes) (node : ℕ) (later past : List SourceEvent)
    → (more : List Answer) × (answers processes node (later ++ past) ≡ answers processes node past ++ more)
answers_grow processes node [] past = ([], sym (append-nil (answers processes node past)))
answers_grow processes node (e ∷ later) past =
    let h = answers_grow processes node later past in
    let o = answer_to processes node (answers processes node (later ++ past)) (later ++ past) e in
    let m = and_more (answers processes node past) h.0 o in
    (m.0, ap (λ g. and_answer g o) h.1 ∙ m.1)

pub some_of : {A : Type 0} (o : Option A) → IsSome o → (x : A) × (o ≡ Some x)
some_of None h = absurd cc
some_of (Some x) h = (x, refl)

-- a node whose answer does not fit never ends
pub stuck_dooms : (processes : Processes) (node : ℕ) (past : List SourceEvent) → node < processes.nodes
    → IsStuck (processes.starts node) (answers processes node past) → IsDoomed processes past
stuck_dooms processes node past lt stuck later l c =
    let e = some_of (ended node (later ++ past)) (c.all_ended node lt) in
    let over = (end_is_of_the_run processes (later ++ past) node e.0 l e.1).over in
    let g = answers_grow processes node later past in
    let short : (run_so_far processes node (later ++ past)).end ≡ Short =
    ap (λ given. (run_of (processes.starts node) given).end) g.1 ∙ stuck g.0 in
    let apart : Short ≡ Ends (Finishes e.0) = sym short ∙ over in
    absurd cc
