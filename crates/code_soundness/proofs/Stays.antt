-- A typed statement leaves or repeats no loop that is not around it.
use Rattle.std.proofs.Common.{◌≡◌, ℕ, Some, None, Bool, true, false, refl, sym, subst}
use Rattle.sc_core.specs.Core.{Does, nothing, break, continue, then_, act, choose, loop, return}
use Rattle.sc_core.specs.Kinds.{Kind, Scope}
use Rattle.sc_core.specs.Typed.{IsTypedDoes, IsMineLoop, after}

-- breaks, continues: whether they may stand there
abbrev pub Stays : (breaks continues : Bool) → Does → Type 0
Stays breaks continues nothing = Unit {0}
Stays breaks continues break = breaks ≡ true
Stays breaks continues continue = continues ≡ true
Stays breaks continues (then_ first second) = Stays breaks continues first × Stays breaks continues second
Stays breaks continues (act action arguments line) = Unit {0}
Stays breaks continues (choose of_pointer test on off) = Stays breaks continues on × Stays breaks continues off
Stays breaks continues (loop mine before body next) = Stays true false before × Stays true true body
    × Stays true false next
Stays breaks continues (return e line) = Unit {0}

mine_stays : (scope : Scope) (breaks continues : Bool) (x : ℕ) (first before body next more : Does)
    → IsMineLoop scope x first before next
    → Stays true true body → Stays breaks continues more
    → Stays breaks continues (then_ first (then_ (loop (Some x) before body next) more))
mine_stays scope breaks continues x first before body next more is b m = (
  subst (λ d. Stays breaks continues d) (sym is.begins_at) tt,
  (
    (subst (λ d. Stays true false d) (sym is.tests) (tt, refl), b, subst (λ d. Stays true false d) (sym is.goes_on) tt),
    m,
  ),
)

pub typed_stays : (scope : Scope) (result : Kind) (breaks continues : Bool) (d : Does)
    → IsTypedDoes scope result breaks continues d
    → Stays breaks continues d
typed_stays scope result breaks continues nothing h = tt
typed_stays scope result breaks continues break h = h
typed_stays scope result breaks continues continue h = h
typed_stays scope result breaks continues (then_ first (then_ (loop (Some x) before body next) more)) h =
    mine_stays scope breaks continues x first before body next more h.0 (typed_stays scope result true true body h.1)
    (typed_stays scope result breaks continues more h.2)
typed_stays scope result breaks continues (then_ first second) h = (
  typed_stays scope result breaks continues first h.0,
  typed_stays (after scope first) result breaks continues
      second h.1,
)
typed_stays scope result breaks continues (act action arguments line) h = tt
typed_stays scope result breaks continues (choose false test on off) h =
    (typed_stays scope result breaks continues on h.1, typed_stays scope result breaks continues off h.2)
typed_stays scope result breaks continues (choose true test on off) h =
    (typed_stays scope result breaks continues on h.2, typed_stays scope result breaks continues off h.3)
typed_stays scope result breaks continues (loop None before body next) h = (
  typed_stays scope result true false before h.0,
  typed_stays scope result true true body h.1,
  typed_stays scope
      result true false next h.2,
)
typed_stays scope result breaks continues (loop (Some x) before body next) h = absurd h
typed_stays scope result breaks continues (return e line) h = tt
