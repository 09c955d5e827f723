-- What a node does as a source says it: a resumption over requests, which shows each step as it is passed.
use Rattle.std.specs.Prelude.{ℕ, List, Bool, true, false, Option, Some, None}
use Rattle.resumption.specs.Resumption.{Doing, Asks, Makes, Says, Stops}
use Rattle.resumption.specs.Forgetting.{forget}
use Rattle.sc_base.specs.declared.value.End.{End}
use Rattle.sc_base.specs.declared.value.Place.{Place}
use Rattle.sc_base.specs.declared.value.Value.{Value}
use Rattle.sc_layout.specs.Layout.{Arrangement}
use Rattle.sc_isa.specs.Fitting.{fits, fits_all}
use Rattle.sc_meaning.specs.declared.request.Request.{Request}
use Rattle.sc_meaning.specs.declared.request.Request.TheVariants.{Read}

-- a request, or that a step is passed, which is at this point of the source
pub data Event : Type 0 where
  Requested : Request → Event
  Came : (point : ℕ) → Event

-- a read is shown a value, a sync lands the values of the gets, and a barrier is passed or broken
pub data Answer : Type 0 where
  Shown : Value → Answer
  Landed : List Value → Answer
  Passed : Answer
  Broken : Answer

-- a node ends, or it meets a value of a wrong kind, as no typed source does under answers that fit
pub data Halt : Type 0 where
  Finishes : End → Halt
  Breaks : Halt

-- with the points, and without
abbrev pub PointedDoing : Type 0
PointedDoing = Doing Event Answer Halt

abbrev pub SourceDoing : Type 0
SourceDoing = Doing Request Answer Halt

-- ---- which answers fit

abbrev pub fits_read : Arrangement → Place → Answer → Bool
fits_read layout place (Shown value) = fits layout place value
fits_read layout place _ = false

-- exactly one value for each get, in order of issue, which fits the cell that was read
abbrev pub fits_sync : Arrangement → List Place → Answer → Bool
fits_sync layout places (Landed values) = fits_all layout places values
fits_sync layout places _ = false

abbrev pub fits_barrier : Answer → Bool
fits_barrier Passed = true
fits_barrier Broken = true
fits_barrier _ = false

-- ---- leaving the points out

abbrev pub request_in : Event → Option Request
request_in (Requested request) = Some request
request_in (Came point) = None

-- what is asked has a request; that of the other events is never looked at
abbrev pub request_or : Request → Event → Request
request_or other (Requested request) = request
request_or other (Came point) = other

abbrev pub without_points : Request → PointedDoing → SourceDoing
without_points other doing = forget (request_or other) request_in doing
