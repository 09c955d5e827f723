-- Which reads are on their way, by what was asked.
use Rattle.std.specs.Prelude.{◌≡◌, List, [], ◌∷◌, ◌++◌}
use Rattle.sc_isa.specs.declared.access.Access.{Access}
use Rattle.sc_isa.specs.declared.access.Access.TheVariants as access
use Rattle.sc_isa.specs.declared.access.Track.TheVariants as tracks
use Rattle.sc_isa.specs.State.{Flight, without_reads_on}
use Rattle.sc_isa.specs.Moves.{After, GoesOn, Move, Comes, Issues, Waits, Meets, Says}
use Rattle.sc_isa.specs.Run.{Ask, Issue, Wait}

-- a read on a counter flies from its issue on
abbrev pub flown_by : Access → List Flight → List Flight
flown_by (access.Read place (tracks.Counter counter)) flying =
    flying ++ record { counter = counter; place = place } ∷ []
flown_by _ flying = flying

-- to the next wait on its counter
abbrev pub flights_from : List Flight → List Ask → List Flight
flights_from flying [] = flying
flights_from flying (Issue access ∷ asked) = flights_from (flown_by access flying) asked
flights_from flying (Wait counter ∷ asked) = flights_from (without_reads_on counter flying) asked
flights_from flying (_ ∷ asked) = flights_from flying asked

-- the reads that have not landed, in order of issue
abbrev pub flights_of : List Ask → List Flight
flights_of asked = flights_from [] asked

-- ---- after a move of the table

abbrev pub AfterFlies : List Flight → After → Type 0
AfterFlies flying (GoesOn s) = s.flying ≡ flying
AfterFlies flying _ = Unit {0}

abbrev pub MoveFlies : List Flight → Move → Type 0
MoveFlies flying (Comes after) = AfterFlies flying after
MoveFlies flying (Issues access after) = AfterFlies (flown_by access flying) after
MoveFlies flying (Waits counter s) = s.flying ≡ flying
MoveFlies flying (Meets stores s) = s.flying ≡ flying
MoveFlies flying (Says text s) = s.flying ≡ flying
