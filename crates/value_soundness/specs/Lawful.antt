-- Lawful values: what may stand in a cell of a typed source, where a pointer leads only to what the source exposes.
-- What a source asks is lawful where it stays in the layout and keeps each cell's value lawful.
use Rattle.std.specs.Prelude.{◌≢◌, ℕ, List}
use Rattle.std.specs.List.{All, Contains}
use Rattle.resumption.specs.Resumption.{RunOf, Ends}
use Rattle.sc_base.specs.declared.value.Place.{Place}
use Rattle.sc_base.specs.declared.value.Value.{Value}
use Rattle.sc_base.specs.declared.value.Value.TheVariants.{Ptr}
use Rattle.sc_layout.specs.Layout.{Arrangement}
use Rattle.sc_layout.specs.Place.{IsPlace, Fits}
use Rattle.sc_isa.specs.Sound.{IsPlacedCopy}
use Rattle.effect_order.specs.Effect.{Effect}
use Rattle.sc_meaning.specs.declared.request.Request.{Request}
use Rattle.sc_meaning.specs.declared.request.Request.TheVariants.{Read, Write, Get, Put, Store, Copy}
use Rattle.sc_meaning.specs.Asking.{Answer, Shown, Landed, Halt, Breaks}

-- where the value is a pointer, it names one of these objects
abbrev pub NamesOnly : (exposed : List ℕ) → Value → Type 0
NamesOnly exposed (Ptr object node offset) = Contains exposed object
NamesOnly exposed _ = Unit {0}

-- the value may stand in the place's cell, where these objects are exposed
pub record IsLawfulAt (layout : Arrangement) (exposed : List ℕ) (place : Place) (value : Value) : Type 0 where
  pub fits : Fits layout place value
  pub names : NamesOnly exposed value

module _ (layout : Arrangement) (exposed : List ℕ) where
  -- the request's places are in the layout, what it writes is lawful there, and what it copies is lawful there too,
  -- since the cells are of one type
  abbrev pub IsLawfulRequest : Request → Type 0
  IsLawfulRequest (Read place line) = IsPlace layout place
  IsLawfulRequest (Write place value line) = IsPlace layout place × IsLawfulAt layout exposed place value
  IsLawfulRequest (Get place line) = IsPlace layout place
  IsLawfulRequest (Put place value line) = IsPlace layout place × IsLawfulAt layout exposed place value
  IsLawfulRequest (Store place value line) = IsPlace layout place × IsLawfulAt layout exposed place value
  IsLawfulRequest (Copy from to cells mode line) = IsPlacedCopy layout from to cells
  IsLawfulRequest _ = Unit {0}

  -- no value of a wrong kind is met, and each request is lawful
  pub record RunsLawfully (run : RunOf Request Halt) : Type 0 where
    pub not_broken : run.end ≢ Ends Breaks
    pub requests : All IsLawfulRequest run.events

  -- the effect is on a cell of the layout, and what is read or written there is lawful
  pub record IsLawfulEffect (effect : Effect) : Type 0 where
    pub placed : IsPlace layout effect.place
    pub lawful : IsLawfulAt layout exposed effect.place effect.value

-- the pointers among the answer's values name these objects only
abbrev pub AnswerNamesOnly : (exposed : List ℕ) → Answer → Type 0
AnswerNamesOnly exposed (Shown value) = NamesOnly exposed value
AnswerNamesOnly exposed (Landed values) = All (NamesOnly exposed) values
AnswerNamesOnly exposed _ = Unit {0}
