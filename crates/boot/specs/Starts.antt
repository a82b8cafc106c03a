-- What starting a machine from a disk comes to.
use Rattle.std.specs.Prelude.{ℕ, zero, suc, cond, List, map, length, Some, None, Option, Ok, Err, Result, ◌==◌}
use Rattle.device.specs.declared.digests.Digest.{Digest}
use Rattle.device.specs.declared.refusals.Refusal.{Refusal}
use Rattle.device.specs.declared.refusals.Refusal.TheVariants.{Full, Malformed, NoProgram}
use Rattle.device.specs.Rows.{row}
use Rattle.boot.specs.declared.disks.Name.{Name}
use Rattle.boot.specs.declared.disks.Entry.{Entry}
use Rattle.boot.specs.declared.disks.Batch.{Batch}
use Rattle.boot.specs.declared.machines.Machine.{Machine}
use Rattle.boot.specs.Disks.{unread, program_of, batch_of}
use Rattle.boot.specs.Machines.{switched, load_of, load_all_of}

-- the disk after it, the machine, and whether all was loaded or why the loader stopped
abbrev pub Outcome : Type 0
Outcome = List Entry × (Machine × Result (Unit {0}) Refusal)

abbrev pub further_from : List Entry → Machine → Option Name → (List Entry → Machine → Name → Outcome) → Outcome
further_from es m None f = (es, (m, Ok tt))
further_from es m (Some n) f = f es m n

-- m: before this list; the option: with its programs
abbrev pub loaded_from : List Entry → Machine → Option Machine → Option Name → (List Entry → Machine → Name → Outcome) → Outcome
loaded_from es m None n f = (es, (m, Err Full))
loaded_from es m (Some p) n f = further_from es p n f

abbrev pub batch_from : List Entry → Machine → Option Batch → (List Entry → Machine → Name → Outcome) → Outcome
batch_from es m None f = (es, (m, Err NoProgram))
batch_from es m (Some b) f = loaded_from es m (load_all_of m (row b.programs)) b.further f

-- the list of this name, and up to k lists in all; what was loaded before a refusal stays
unfoldable pub follow : (k : ℕ) → List Entry → Machine → Name → Outcome
follow zero es m n = (es, (m, Err NoProgram))
follow (suc k) es m n = batch_from (batch_of es n).0 m (batch_of es n).1 (λ xs p o. follow k xs p o)

abbrev pub first_from : List Entry → Machine → Option Machine → Name → Outcome
first_from es m None n = (es, (m, Err Full))
first_from es m (Some p) n = follow (length es) es p n

-- switched on, then the first program, then the start list of this name
abbrev pub start_of : Machine → Digest → List Entry → Name → Outcome
start_of m first es n = first_from (map unread es) (switched m) (load_of (switched m) first) n

-- the machine with a further program, or why there is none
abbrev pub Asked : Type 0
Asked = List Entry × Result Machine Refusal

abbrev pub asked_from : List Entry → Option Machine → Asked
asked_from es None = (es, Err Full)
asked_from es (Some p) = (es, Ok p)

abbrev pub program_from : List Entry → Machine → Option Digest → Asked
program_from es m None = (es, Err NoProgram)
program_from es m (Some d) = asked_from es (load_of m d)

-- what runs asks for a further program
abbrev pub ask_of : Machine → List Entry → Name → Asked
ask_of m es n = cond (m.ran.len == 0) (es, Err Malformed) (program_from (program_of es n).0 m (program_of es n).1)
