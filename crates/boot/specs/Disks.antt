-- What reading a disk gives, and what it leaves.
use Rattle.std.specs.Prelude.{ℕ, ◌-◌, Bool, true, false, cond, ◌&&◌, List, [], ◌∷◌, ◌++◌, take, position, Some, None, Option, nat_le, nat_lt, slice_index_or, slice_set}
use Rattle.std.specs.Str.{bytes_eq}
use Rattle.device.specs.declared.digests.Digest.{Digest}
use Rattle.device.specs.declared.registers.Register.{Register}
use Rattle.device.specs.Rows.{empty_register, pushed}
use Rattle.boot.specs.declared.disks.Name.{Name}
use Rattle.boot.specs.declared.disks.StartList.{StartList}
use Rattle.boot.specs.declared.disks.File.{File}
use Rattle.boot.specs.declared.disks.File.TheVariants as file
use Rattle.boot.specs.declared.disks.Entry.{Entry}
use Rattle.boot.specs.declared.disks.Batch.{Batch}

abbrev pub same_name : Name → Name → Bool
same_name m n = bytes_eq m.bytes n.bytes

abbrev pub new_entry : Name → File → File → Entry
new_entry n f g = record { name = n; file = f; swapped = g; read = false; listed = false }

-- one file more, if memory is found
abbrev pub added : Bool → List Entry → Name → File → File → List Entry
added m es n f g = cond m (es ++ new_entry n f g ∷ []) es

abbrev pub unread : Entry → Entry
unread e = new_entry e.name e.file e.swapped

-- where the first entry of this name stands
abbrev pub place : List Entry → Name → Option ℕ
place es n = position (λ e. same_name e.name n) es

-- what a read gives: once the file was read, what was put in its place
abbrev pub shown : Entry → File
shown e = cond e.read e.swapped e.file

abbrev pub marked : Bool → Entry → Entry
marked as_list e = record { name = e.name; file = e.file; swapped = e.swapped; read = true; listed = cond e.listed true as_list }

-- what stands past the end, and is never read
abbrev pub blank : Entry
blank = new_entry (record { bytes = [] }) (file.Program (record { bytes = [] })) (file.Program (record { bytes = [] }))

abbrev pub read_entry : Bool → List Entry → ℕ → Entry → List Entry × Option File
read_entry as_list es i e = cond (cond as_list e.listed false) (es, None) (slice_set es i (marked as_list e), Some (shown e))

abbrev pub read_at : Bool → List Entry → Option ℕ → List Entry × Option File
read_at as_list es None = (es, None)
read_at as_list es (Some i) = read_entry as_list es i (slice_index_or es i blank)

abbrev pub read_of : (as_list : Bool) → List Entry → Name → List Entry × Option File
read_of as_list es n = read_at as_list es (place es n)

-- ---- a start list's programs

abbrev pub as_program : Option File → Option Digest
as_program None = None
as_program (Some (file.Program d)) = Some d
as_program (Some (file.List l)) = None

abbrev pub program_of : List Entry → Name → List Entry × Option Digest
program_of es n = ((read_of false es n).0, as_program (read_of false es n).1)

-- one digest more, if there is one, and room for it
abbrev pub took : Register → Option Digest → Option Register
took r None = None
took r (Some d) = pushed r d

-- all programs of these names, read one after another; none where one is not there
abbrev pub go_on : List Entry → Option Register → (List Entry → Register → List Entry × Option Register) → List Entry × Option Register
go_on es None f = (es, None)
go_on es (Some r) f = f es r

unfoldable pub programs_of : List Entry → Register → List Name → List Entry × Option Register
programs_of es r [] = (es, Some r)
programs_of es r (n ∷ ns) = go_on (program_of es n).0 (took r (program_of es n).1) (λ xs q. programs_of xs q ns)

-- ---- a start list: from one to eight names, the last of which may be that of a further list

abbrev pub readable : StartList → Bool
readable l = nat_lt 0 l.count && nat_le l.count 8

abbrev pub no_name : Name
no_name = record { bytes = [] }

abbrev pub with_further : Option Name → List Entry × Option Register → List Entry × Option Batch
with_further n (es, None) = (es, None)
with_further n (es, Some r) = (es, Some (record { programs = r; further = n }))

-- all its names are programs, or all but the last
abbrev pub listed_of : List Entry → StartList → List Entry × Option Batch
listed_of es l = cond (readable l) (cond l.further (with_further (Some (slice_index_or l.names (l.count - 1) no_name)) (programs_of es empty_register (take (l.count - 1) l.names))) (with_further None (programs_of es empty_register (take l.count l.names)))) (es, None)

abbrev pub batch_in : List Entry × Option File → List Entry × Option Batch
batch_in (es, None) = (es, None)
batch_in (es, Some (file.Program d)) = (es, None)
batch_in (es, Some (file.List l)) = listed_of es l

-- what the list of this name comes to
abbrev pub batch_of : List Entry → Name → List Entry × Option Batch
batch_of es n = batch_in (read_of true es n)
