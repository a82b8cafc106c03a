-- Places in memory.
use Rattle.slots.specs.declared.memories.Memory.{Memory}
use Rattle.slots.specs.Places.{Places}

abbrev pub places_in : Memory → Places
places_in m = record { first = m.first; second = m.second }
