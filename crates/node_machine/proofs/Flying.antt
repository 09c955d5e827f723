-- Counts of the reads on their way.
use Rattle.std.proofs.Common.{◌≡◌, ◌≢◌, ℕ, ◌+◌, ◌<◌, ◌==◌, inl, inr, Bool, true, false, if◌then◌else◌, List, [], ◌∷◌, ◌++◌, length, slice_index, slice_set, refl, sym, ap, ◌∙◌, arith, length-append}
use Rattle.std.proofs.lemmas.Bool.{eq-eqb}
use Rattle.std.proofs.lemmas.Bool.Decides.{eqb_tells}
use Rattle.std.proofs.lemmas.List.{get_or-set_same, get_or-set_other, length-set}
use Rattle.sc_base.specs.declared.value.Place.{Place}
use Rattle.sc_isa.specs.State.{Flight, and_on, reads_on, and_not_on, without_reads_on}
use Rattle.node_machine.specs.View.{Counts}

abbrev flight : ℕ → Place → Flight
flight counter place = record { counter = counter; place = place }

passes : (b : Bool) (place : Place) (ys zs : List Place)
    → (if b then place ∷ (ys ++ zs) else ys ++ zs) ≡ (if b then place ∷ ys else ys) ++ zs
passes true place ys zs = refl
passes false place ys zs = refl

reads_append : (counter : ℕ) (flights : List Flight) (last : Flight)
    → reads_on counter (flights ++ last ∷ []) ≡ reads_on counter flights ++ and_on counter last []
reads_append counter [] last = refl
reads_append counter (f ∷ fs) last =
    ap (and_on counter f) (reads_append counter fs last)
    ∙ passes (f.counter == counter) f.place (reads_on counter fs) (and_on counter last [])

one_more : (counter : ℕ) (place : Place) (flights : List Flight)
    → length (reads_on counter (flights ++ flight counter place ∷ [])) ≡ length (reads_on counter flights) + 1
one_more counter place flights =
    ap length (reads_append counter flights (flight counter place)
    ∙ rw (eq-eqb counter counter refl) refl) ∙ length-append (reads_on counter flights) (place ∷ [])

no_more : (other counter : ℕ) (place : Place) (flights : List Flight) → (counter == other) ≡ false
    → length (reads_on other (flights ++ flight counter place ∷ [])) ≡ length (reads_on other flights)
no_more other counter place flights e =
    ap length (reads_append other flights (flight counter place)) ∙ rw e (length-append (reads_on other flights) [] ∙ omega arith)

pub counts_more : (numbers : List ℕ) (flights : List Flight) (counter number : ℕ) (place : Place)
    → Counts numbers flights → counter < length numbers → number ≡ slice_index numbers counter
    → Counts (slice_set numbers counter (number + 1)) (flights ++ record { counter = counter; place = place } ∷ [])
counts_more numbers flights counter number place counts within e =
    λ other h. elim (eqb_tells counter other) [
      | inl t ↦
          rw (← t.1) (get_or-set_same numbers counter (number + 1) 0 within
          ∙ ap (λ n. n + 1) (e ∙ counts counter within) ∙ sym (one_more counter place flights))
      | inr f ↦ get_or-set_other numbers counter other (number + 1) 0 (λ q. f.1 (sym q))
          ∙ counts other (omega (arith, length-set numbers counter (number + 1)))
          ∙ sym (no_more other counter place flights f.0)
    ]

-- ---- after a wait

keeps_none : (counter : ℕ) (f : Flight) (fs : List Flight) (b : Bool) → (f.counter == counter) ≡ b
    → reads_on counter (if b then fs else f ∷ fs) ≡ reads_on counter fs
keeps_none counter f fs true e = refl
keeps_none counter f fs false e = rw e refl

pub none_left : (counter : ℕ) (flights : List Flight) → reads_on counter (without_reads_on counter flights) ≡ []
none_left counter [] = refl
none_left counter (f ∷ fs) =
    keeps_none counter f (without_reads_on counter fs) (f.counter == counter) refl ∙ none_left counter fs

keeps_other : (other counter : ℕ) (f : Flight) (fs all : List Flight) → other ≢ counter
    → reads_on other fs ≡ reads_on other all
    → reads_on other (and_not_on counter f fs) ≡ reads_on other (f ∷ all)
keeps_other other counter f fs all ne ih = elim (eqb_tells f.counter counter) [
  | inl t ↦ elim (eqb_tells f.counter other) [
    | inl u ↦ absurd (ne (sym u.1 ∙ t.1))
    | inr u ↦ rw (t.0, u.0) ih
  ]
  | inr t ↦ rw t.0 (ap (and_on other f) ih)
]

pub others_left : (other counter : ℕ) (flights : List Flight) → other ≢ counter
    → reads_on other (without_reads_on counter flights) ≡ reads_on other flights
others_left other counter [] ne = refl
others_left other counter (f ∷ fs) ne =
    keeps_other other counter f (without_reads_on counter fs) fs ne (others_left other counter fs ne)

pub counts_landed : (numbers : List ℕ) (flights : List Flight) (counter : ℕ) → Counts numbers flights
    → Counts (slice_set numbers counter 0) (without_reads_on counter flights)
counts_landed numbers flights counter counts =
    λ other h. elim (eqb_tells counter other) [
      | inl t ↦
          let within : counter < length numbers = omega (arith, length-set numbers counter 0, t.1) in
          rw (← t.1) (get_or-set_same numbers counter 0 0 within ∙ sym (ap length (none_left counter flights)))
      | inr f ↦ get_or-set_other numbers counter other 0 0 (λ q. f.1 (sym q))
          ∙ counts other (omega (arith, length-set numbers counter 0))
          ∙ sym (ap length (others_left other counter flights (λ q. f.1 (sym q))))
    ]
