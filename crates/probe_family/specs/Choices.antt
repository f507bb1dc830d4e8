-- Parts whose sets are lent.
use Rattle.std.specs.Prelude.{List, map}
use Rattle.probe_family.specs.declared.part.Part.{Part}
use Rattle.probe_family.specs.declared.choice.Choice.{Choice}

-- the part that takes as many from the set
abbrev pub part_of_choice : Choice → Part
part_of_choice choice = record { take = choice.take; set = choice.set.now }

-- the parts that the choices stand for
abbrev pub parts_of : List Choice → List Part
parts_of choices = map part_of_choice choices
