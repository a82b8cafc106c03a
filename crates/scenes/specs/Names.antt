-- What the names of a script stand for.
use Rattle.std.specs.Prelude.{ℕ, List, ◌++◌, replicate, codes}
use Rattle.device.specs.declared.digests.Data.{Data}
use Rattle.device.specs.declared.digests.Digest.{Digest}
use Rattle.boot.specs.declared.disks.Name.{Name}
use Rattle.script.specs.declared.labels.Label.{Label}
use Rattle.script.specs.Labels.{padded}

abbrev pub wide : Label → List ℕ
wide l = l.bytes ++ replicate 16 0

abbrev pub digest_of : Label → Digest
digest_of l = record { bytes = wide l }

abbrev pub data_of : Label → Data
data_of l = record { bytes = wide l }

abbrev pub name_of : Label → Name
name_of l = record { bytes = l.bytes }

-- the first program
abbrev pub first_of : Digest
first_of = digest_of (padded (codes "first"))

abbrev pub no_target : Label
no_target = padded (codes "nowhere")
