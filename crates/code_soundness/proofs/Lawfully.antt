-- What a source asks is lawful, with all objects of the layout taken as exposed: so it is after each answer that fits.
use Rattle.std.proofs.Common.{◌≡◌, inl, inr, ℕ, zero, suc, ◌<◌, ◌≤◌, List, [], ◌∷◌, ◌++◌, length, Option, Some, None, Bool, true, false, ◌&&◌, slice_get, if◌then◌else◌, nat_lt, ◌^◌, refl, sym, subst, arith}
use Rattle.std.specs.List.{All, Contains}
use Rattle.std.proofs.Math.Nat.{eq-or-lt_of_le}
use Rattle.std.proofs.lemmas.Bool.{and_parts}
use Rattle.std.proofs.lemmas.Option.{slice_get_within}
use Rattle.std.proofs.lemmas.List.Elements.{All-nil, All-cons, All-head, All-tail, All-contains_itself, Contains-append_left, Contains-append_right}
use Rattle.resumption.specs.Resumption.{RunOf, Asks, Makes, Says, Stops, run_of, after_event, unanswered}
use Rattle.sc_base.specs.declared.shape.Ty.{Ty}
use Rattle.sc_base.specs.declared.value.Place.{Place}
use Rattle.sc_base.specs.declared.value.Value.{Value}
use Rattle.sc_base.specs.declared.value.Value.TheVariants.{Int, Null, Ptr}
use Rattle.sc_layout.specs.Layout.{Arrangement, LaidObject}
use Rattle.sc_isa.specs.Fitting.{is_pointer_to, object_is, fits_type, fits, fits_all}
use Rattle.sc_core.specs.Core.{Program}
use Rattle.sc_core.specs.Forms.{exposes_of}
use Rattle.sc_core.specs.Typed.{below}
use Rattle.sc_meaning.specs.declared.request.Request.{Request}
use Rattle.sc_meaning.specs.declared.request.Request.TheVariants.{Sync}
use Rattle.sc_meaning.specs.Asking.{PointedDoing, Requested, Breaks, Halt, Answer, without_points}
use Rattle.sc_meaning.specs.Meaning.{pass, pointed, meaning}
use Rattle.value_soundness.specs.Lawful.{NamesOnly, IsLawfulRequest, RunsLawfully, AnswerNamesOnly}
use Rattle.value_soundness.specs.Laws.{IsLaidSource}
use Rattle.value_soundness.proofs.Sources.{promises, runs}

-- ---- all objects of the layout

contains_below : (n k : ℕ) → k < n → Contains (below n) k
contains_below zero k lt = absurd (omega (arith, lt))
contains_below (suc n) k lt =
    elim (eq-or-lt_of_le (within_of n k lt)) [
      | inl e ↦ subst (λ x. Contains (n ∷ below n) x) (sym e)
          (Contains-append_left (n ∷ []) (below n) n (0, omega arith, refl))
      | inr less ↦ Contains-append_right (n ∷ []) (below n) k (contains_below n k less)
    ]
  where
    within_of : (n k : ℕ) → k < suc n → k ≤ n
    within_of n k lt = omega (arith, lt)

-- and those that a source exposes
abbrev pub all_of : Arrangement → Program → List ℕ
all_of layout program = below (length layout.objects) ++ exposes_of program

exposed_there : (layout : Arrangement) (program : Program) → All (Contains (all_of layout program)) (exposes_of program)
exposed_there layout program k d lt =
    Contains-append_right (below (length layout.objects)) (exposes_of program) _
    (All-contains_itself (exposes_of program) k d lt)

module _ (layout : Arrangement) (program : Program) where
  abbrev pub exposed : List ℕ
  exposed = all_of layout program

  -- ---- what fits names objects of the layout

  object_there : (object : ℕ) (test : LaidObject → Bool) (o : Option LaidObject)
      → slice_get layout.objects object ≡ o → object_is test o ≡ true
      → Contains exposed object
  object_there object test None e h = absurd (cc)
  object_there object test (Some o) e h =
      Contains-append_left (below (length layout.objects)) (exposes_of program) object
      (contains_below (length layout.objects) object (slice_get_within layout.objects object o e))

  names_by_type : (ty : Ty) (v : Value) → fits_type layout ty v ≡ true → NamesOnly exposed v
  names_by_type ty (Int n) h = tt
  names_by_type ty Null h = tt
  names_by_type ty (Ptr object node offset) h =
      let test = λ (o : LaidObject). is_pointer_to o.shape.ty ty in
      let more = (and_parts (nat_lt node layout.nodes)
      (nat_lt offset (2 ^ 32) && object_is test (slice_get layout.objects object)) h).1 in
      object_there object test (slice_get layout.objects object) refl
      ((and_parts (nat_lt offset (2 ^ 32)) (object_is test (slice_get layout.objects object)) more).1)

  names_by_object : (v : Value) (o : Option LaidObject) → object_is (λ o. fits_type layout o.shape.ty v) o ≡ true
      → NamesOnly exposed v
  names_by_object v None h = absurd (cc)
  names_by_object v (Some o) h = names_by_type o.shape.ty v h

  pub names_fitting : (place : Place) (v : Value) → fits layout place v ≡ true → NamesOnly exposed v
  names_fitting place v h = names_by_object v (slice_get layout.objects place.object) h

  pub all_names : (places : List Place) (vs : List Value) → fits_all layout places vs ≡ true
      → All (NamesOnly exposed) vs
  all_names [] [] h = All-nil (NamesOnly exposed)
  all_names [] (v ∷ vs) h = absurd (cc)
  all_names (p ∷ places) [] h = absurd (cc)
  all_names (p ∷ places) (v ∷ vs) h =
      let both = and_parts (fits layout p v) (fits_all layout places vs) h in
      All-cons (NamesOnly exposed) v vs (names_fitting p v both.0) (all_names places vs both.1)

  -- ---- what is left of a source is lawful

  abbrev pub Lawful : PointedDoing → Type 0
  Lawful d =
      (given : List Answer) → All (AnswerNamesOnly exposed) given
      → RunsLawfully layout exposed (run_of (without_points (Sync 0) d) given)

  none_given : All (AnswerNamesOnly exposed) []
  none_given = All-nil (AnswerNamesOnly exposed)

  pub lawful_pass : (t : ℕ) (d : PointedDoing) → Lawful (pass t d) → Lawful d
  lawful_pass t d h given names = h given names

  pub lawful_made : (r : Request) (d : PointedDoing) → Lawful (Makes (Requested r) d) → Lawful d
  lawful_made r d h given names =
      let run = h given names in
      let rest = run_of (without_points (Sync 0) d) given in
      record {
        not_broken = run.not_broken;
        requests = All-tail (IsLawfulRequest layout exposed) r rest.events
            run.requests;
      }

  pub made_lawful : (r : Request) (d : PointedDoing) → Lawful (Makes (Requested r) d) → IsLawfulRequest layout exposed r
  made_lawful r d h =
      let rest = run_of (without_points (Sync 0) d) [] in
      All-head (IsLawfulRequest layout exposed) r rest.events (h [] none_given).requests

  pub asked_lawful : (r : Request) (test : Answer → Bool) (go : Answer → PointedDoing)
      → Lawful (Asks (Requested r) test go)
      → IsLawfulRequest layout exposed r
  asked_lawful r test go h = All-head (IsLawfulRequest layout exposed) r [] (h [] none_given).requests

  answered : (b : Bool) (r : Request) (rest : RunOf Request Halt) → b ≡ true
      → RunsLawfully layout exposed (if b then after_event r rest else unanswered r) → RunsLawfully layout exposed rest
  answered true r rest e run = record {
    not_broken = run.not_broken;
    requests = All-tail
        (IsLawfulRequest layout exposed) r rest.events run.requests;
  }
  answered false r rest e run = absurd (cc)

  pub lawful_asked : (r : Request) (test : Answer → Bool) (go : Answer → PointedDoing) (a : Answer) → test a ≡ true
      → AnswerNamesOnly exposed a
      → Lawful (Asks (Requested r) test go) → Lawful (go a)
  lawful_asked r test go a fit name h given names =
      answered (test a) r (run_of (without_points (Sync 0) (go a)) given) fit
      (h (a ∷ given) (All-cons (AnswerNamesOnly exposed) a given name names))

  pub lawful_said : (text : List ℕ) (d : PointedDoing) → Lawful (Says text d) → Lawful d
  lawful_said text d h given names = let run = h given names in record
      { not_broken = run.not_broken; requests = run.requests }

  pub never_breaks : Lawful (Stops Breaks) → ⊥
  never_breaks h = (h [] none_given).not_broken refl

  -- so it is at the beginning
  pub lawful_begun : (node budget : ℕ) → IsLaidSource layout program → node < layout.nodes
      → Lawful (pointed (record { layout = layout; node = node; program = program }) budget)
  lawful_begun node budget source below_nodes given names =
      runs layout exposed (meaning (record { layout = layout; node = node; program = program }) budget) [] given
      (promises layout program exposed node budget source below_nodes (exposed_there layout program)) names
