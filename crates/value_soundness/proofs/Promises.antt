-- What a source promises of all that it does from a moment on, under lawful answers.
use Rattle.std.proofs.Common.{◌≡◌, ℕ, Bool, true, false, List, [], ◌∷◌, ◌++◌}
use Rattle.std.specs.List.{All}
use Rattle.std.proofs.lemmas.Bool.{and_parts}
use Rattle.std.proofs.lemmas.List.Elements.{All-head, All-tail}
use Rattle.resumption.specs.Resumption.{Asks, Makes, Says, Stops}
use Rattle.sc_base.specs.declared.value.Place.{Place}
use Rattle.sc_base.specs.declared.value.Value.{Value}
use Rattle.sc_layout.specs.Layout.{Arrangement}
use Rattle.sc_isa.specs.Fitting.{fits, fits_all}
use Rattle.sc_isa.proofs.Exact.{exact}
use Rattle.sc_meaning.specs.declared.request.Request.{Request}
use Rattle.sc_meaning.specs.declared.request.Request.TheVariants.{Read, Get, Sync, Barrier, AllStoreSync}
use Rattle.sc_meaning.specs.Asking.{Requested, Came, Answer, Finishes, Breaks, PointedDoing, SourceDoing, fits_read, fits_sync, fits_barrier, without_points}
use Rattle.value_soundness.specs.Lawful.{NamesOnly, IsLawfulAt, IsLawfulRequest, AnswerNamesOnly}
use Rattle.value_soundness.proofs.Memories.{AreLawful}

-- the places of the gets whose values the next sync lands, after the request
abbrev pub then_gets : List Place → Request → List Place
then_gets gets (Get place line) = gets ++ place ∷ []
then_gets gets (Sync line) = []
then_gets gets _ = gets

-- a request that has an answer
abbrev pub is_asked : Request → Bool
is_asked (Read place line) = true
is_asked (Sync line) = true
is_asked (Barrier line) = true
is_asked (AllStoreSync line) = true
is_asked _ = false

-- which answers fit it
abbrev pub fits_request : Arrangement → List Place → Request → Answer → Bool
fits_request layout gets (Read place line) answer = fits_read layout place answer
fits_request layout gets (Sync line) answer = fits_sync layout gets answer
fits_request layout gets (Barrier line) answer = fits_barrier answer
fits_request layout gets (AllStoreSync line) answer = fits_barrier answer
fits_request layout gets _ answer = false

module _ (layout : Arrangement) (exposed : List ℕ) where
  pub record IsAsked (gets : List Place) (request : Request) (test : Answer → Bool) : Type 0 where
    pub asked : is_asked request ≡ true
    pub lawful : IsLawfulRequest layout exposed request
    pub fits : (answer : Answer) → test answer ≡ fits_request layout gets request answer

  pub record IsMade (request : Request) : Type 0 where
    pub made : is_asked request ≡ false
    pub lawful : IsLawfulRequest layout exposed request

  -- each request is lawful, whatever is answered that fits and names exposed objects only, and no value of a wrong kind
  -- is met
  abbrev pub Promises : (gets : List Place) → SourceDoing → Type 0
  Promises gets (Asks request test go) =
      IsAsked gets request test
      × ((answer : Answer) → test answer ≡ true → AnswerNamesOnly exposed answer
      → Promises (then_gets gets request) (go answer))
  Promises gets (Makes request rest) = IsMade request × Promises (then_gets gets request) rest
  Promises gets (Says text rest) = Promises gets rest
  Promises gets (Stops (Finishes end)) = Unit {0}
  Promises gets (Stops Breaks) = ⊥

  -- the same, with the points
  abbrev pub PromisesPointed : (gets : List Place) → PointedDoing → Type 0
  PromisesPointed gets (Asks (Requested request) test go) =
      IsAsked gets request test
      × ((answer : Answer) → test answer ≡ true → AnswerNamesOnly exposed answer
      → PromisesPointed (then_gets gets request) (go answer))
  PromisesPointed gets (Asks (Came point) test go) = ⊥
  PromisesPointed gets (Makes (Requested request) rest) = IsMade request × PromisesPointed (then_gets gets request) rest
  PromisesPointed gets (Makes (Came point) rest) = PromisesPointed gets rest
  PromisesPointed gets (Says text rest) = PromisesPointed gets rest
  PromisesPointed gets (Stops (Finishes end)) = Unit {0}
  PromisesPointed gets (Stops Breaks) = ⊥

  pub without : (other : Request) (gets : List Place) (d : PointedDoing) → PromisesPointed gets d
      → Promises gets (without_points other d)
  without other gets (Asks (Requested request) test go) h =
      (h.0, λ answer fit names. without other (then_gets gets request) (go answer) (h.1 answer fit names))
  without other gets (Asks (Came point) test go) h = absurd h
  without other gets (Makes (Requested request) rest) h = (h.0, without other (then_gets gets request) rest h.1)
  without other gets (Makes (Came point) rest) h = without other gets rest h
  without other gets (Says text rest) h = without other gets rest h
  without other gets (Stops (Finishes end)) h = tt
  without other gets (Stops Breaks) h = absurd h

  -- ---- lawful answers

  pub lawful_read : (place : Place) (v : Value) → fits layout place v ≡ true → NamesOnly exposed v
      → IsLawfulAt layout exposed place v
  lawful_read place v fit names = record { fits = (exact layout place v).0 fit; names = names }

  pub lawful_all : (places : List Place) (vs : List Value) → fits_all layout places vs ≡ true
      → All (NamesOnly exposed) vs
      → AreLawful layout exposed places vs
  lawful_all [] [] fit names = tt
  lawful_all [] (v ∷ vs) fit names = absurd (cc)
  lawful_all (p ∷ ps) [] fit names = absurd (cc)
  lawful_all (p ∷ ps) (v ∷ vs) fit names =
      let h = and_parts (fits layout p v) (fits_all layout ps vs) fit in (
        lawful_read p v h.0 (All-head (NamesOnly exposed) v vs names),
        lawful_all ps vs h.1 (All-tail (NamesOnly exposed) v vs names),
      )
