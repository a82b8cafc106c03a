-- Places that lose power.
use Rattle.losses.specs.declared.failures.Failing.{Failing}
use Rattle.slots.specs.Memories.{places_in}
use Rattle.slots.specs.Places.{Places}

abbrev pub places_under : Failing → Places
places_under f = places_in f.memory
