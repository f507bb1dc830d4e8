use Rattle.glitch_cone.specs.Places.{ShowsPlaces}
use Rattle.glitch_cone.proofs.places.Places.new.Given as goal

-- the first sources have their numbers
abbrev pub invariant-loop-place : goal.invariant-loop-place
invariant-loop-place l = ShowsPlaces l.nets l.sources l.place l.places
