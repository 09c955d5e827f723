-- What is known of what a node does from what its pending work does.
use Rattle.std.proofs.Common.{◌≡◌, ℕ, ◌+◌, Bool, List, [], ◌∷◌, ◌++◌, refl, sym, ap, ◌∙◌, subst, arith}
use Rattle.resumption.specs.Resumption as doing
use Rattle.sc_base.specs.declared.value.Value.{Value}
use Rattle.sc_core.specs.Core.{Core, step, argument}
use Rattle.sc_core.specs.View.{Linked, linked}
use Rattle.sc_meaning.specs.declared.request.Request.{Request}
use Rattle.sc_meaning.specs.Asking.{Answer, Halt, SourceDoing}
use Rattle.sc_meaning.specs.Meaning.{Setting}
use Rattle.sc_meaning.specs.Memory.{Memory}
use Rattle.core_machine.specs.Todo.{Todo, evaluates, takes_each, performs, State, Move, Goes, Asks, Makes, Says, Stops}
use Rattle.core_machine.specs.Moves.{at_work, move_of, count}
use Rattle.core_machine.specs.Runs.{Runs, goes, asks, makes, says, stops}
use Rattle.core_machine.specs.Links.{unlinked}

-- ---- moves are told apart

abbrev tag : Move → ℕ
tag (Goes s) = 0
tag (Asks request fits go) = 1
tag (Makes request s) = 2
tag (Says text s) = 3
tag (Stops halt) = 4

abbrev state_in : State → Move → State
state_in other (Goes s) = s
state_in other (Makes request s) = s
state_in other (Says text s) = s
state_in other _ = other

abbrev go_in : (Answer → State) → Move → Answer → State
go_in other (Asks request fits go) = go
go_in other _ = other

abbrev fits_in : (Answer → Bool) → Move → Answer → Bool
fits_in other (Asks request fits go) = fits
fits_in other _ = other

abbrev request_in : Request → Move → Request
request_in other (Asks request fits go) = request
request_in other (Makes request s) = request
request_in other _ = other

abbrev text_in : List ℕ → Move → List ℕ
text_in other (Says text s) = text
text_in other _ = other

abbrev halt_in : Halt → Move → Halt
halt_in other (Stops halt) = halt
halt_in other _ = other

module _ (here : Setting) (s : State) where
  apart : {A : Type 0} → (a b : Move) → move_of here s ≡ a → move_of here s ≡ b → (tag a ≡ tag b → ⊥) → A
  apart a b e e' differ = absurd (differ (ap tag (sym e ∙ e')))

  -- work that is not seen
  pub goes_on : (next : State) (d : SourceDoing) → move_of here s ≡ Goes next → Runs here s d → Runs here next d
  goes_on next d e (goes e' r) = subst (λ x. Runs here x d) (ap (state_in next) (sym e' ∙ e)) r
  goes_on next d e (asks e' h) = apart _ _ e e' (λ same. absurd (omega (arith, same)))
  goes_on next d e (makes e' r) = apart _ _ e e' (λ same. absurd (omega (arith, same)))
  goes_on next d e (says e' r) = apart _ _ e e' (λ same. absurd (omega (arith, same)))
  goes_on next d e (stops e') = apart _ _ e e' (λ same. absurd (omega (arith, same)))

  abbrev pub Asked : Request → (Answer → Bool) → (Answer → State) → SourceDoing → Type 0
  Asked request fits next (doing.Asks r f g) = (request ≡ r) × (fits ≡ f) × ((answer : Answer) → Runs here (next answer) (g answer))
  Asked request fits next _ = ⊥

  pub asked : (request : Request) (fits : Answer → Bool) (next : Answer → State) (d : SourceDoing)
      → move_of here s ≡ Asks request fits next → Runs here s d → Asked request fits next d
  asked request fits next d e (goes e' r) = apart _ _ e e' (λ same. absurd (omega (arith, same)))
  asked request fits next d e (asks {go = g} e' h) = (
    ap (request_in request) (sym e ∙ e'),
    ap (fits_in fits) (sym e ∙ e'),
    λ answer. subst (λ n. Runs here (n answer) (g answer)) (ap (go_in next) (sym e' ∙ e)) (h answer),
  )
  asked request fits next d e (makes e' r) = apart _ _ e e' (λ same. absurd (omega (arith, same)))
  asked request fits next d e (says e' r) = apart _ _ e e' (λ same. absurd (omega (arith, same)))
  asked request fits next d e (stops e') = apart _ _ e e' (λ same. absurd (omega (arith, same)))

  abbrev pub Made : Request → State → SourceDoing → Type 0
  Made request next (doing.Makes r rest) = (request ≡ r) × Runs here next rest
  Made request next _ = ⊥

  pub made : (request : Request) (next : State) (d : SourceDoing) → move_of here s ≡ Makes request next → Runs here s d → Made request next d
  made request next d e (goes e' r) = apart _ _ e e' (λ same. absurd (omega (arith, same)))
  made request next d e (asks e' h) = apart _ _ e e' (λ same. absurd (omega (arith, same)))
  made request next d e (makes {d = rest} e' r) =
      (ap (request_in request) (sym e ∙ e'), subst (λ x. Runs here x rest) (ap (state_in next) (sym e' ∙ e)) r)
  made request next d e (says e' r) = apart _ _ e e' (λ same. absurd (omega (arith, same)))
  made request next d e (stops e') = apart _ _ e e' (λ same. absurd (omega (arith, same)))

  abbrev pub Said : List ℕ → State → SourceDoing → Type 0
  Said text next (doing.Says t rest) = (text ≡ t) × Runs here next rest
  Said text next _ = ⊥

  pub said : (text : List ℕ) (next : State) (d : SourceDoing) → move_of here s ≡ Says text next → Runs here s d → Said text next d
  said text next d e (goes e' r) = apart _ _ e e' (λ same. absurd (omega (arith, same)))
  said text next d e (asks e' h) = apart _ _ e e' (λ same. absurd (omega (arith, same)))
  said text next d e (makes e' r) = apart _ _ e e' (λ same. absurd (omega (arith, same)))
  said text next d e (says {d = rest} e' r) =
      (ap (text_in text) (sym e ∙ e'), subst (λ x. Runs here x rest) (ap (state_in next) (sym e' ∙ e)) r)
  said text next d e (stops e') = apart _ _ e e' (λ same. absurd (omega (arith, same)))

  abbrev pub Stopped : Halt → SourceDoing → Type 0
  Stopped halt (doing.Stops h) = halt ≡ h
  Stopped halt _ = ⊥

  pub stopped : (halt : Halt) (d : SourceDoing) → move_of here s ≡ Stops halt → Runs here s d → Stopped halt d
  stopped halt d e (goes e' r) = apart _ _ e e' (λ same. absurd (omega (arith, same)))
  stopped halt d e (asks e' h) = apart _ _ e e' (λ same. absurd (omega (arith, same)))
  stopped halt d e (makes e' r) = apart _ _ e e' (λ same. absurd (omega (arith, same)))
  stopped halt d e (says e' r) = apart _ _ e e' (λ same. absurd (omega (arith, same)))
  stopped halt d e (stops e') = ap (halt_in halt) (sym e ∙ e')

-- an expression is what it begins with, and then its links
pub links_lead : (here : Setting) (e : Core) (ls : List Linked) (ts : List Todo) (vs : List Value) (m : Memory) (left : ℕ) (d : SourceDoing)
    → Runs here (at_work (evaluates (linked e ls) ∷ ts) vs m left) d → Runs here (at_work (evaluates e ∷ unlinked ls ++ ts) vs m left) d
links_lead here e [] ts vs m left d r = r
links_lead here e (l ∷ ls) ts vs m left d r =
    goes_on here _ _ d refl (goes_on here _ _ d refl (links_lead here (step l.operation (argument e l.more) l.line) ls ts vs m left d r))
