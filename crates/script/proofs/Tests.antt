-- What `==` on texts and on names computes decides that they are the same.
use Rattle.std.proofs.Common.{◌≡◌, ℕ, List, Decides}
use Rattle.std.proofs.lemmas.Slice.Eq.{bytes_eq-Decides}
use Rattle.script.specs.declared.labels.Label.{Label}
use Rattle.script.specs.Texts.{same_text}
use Rattle.script.specs.Labels.{same_label}

pub same_text_decides : (a b : List ℕ) → Decides (same_text a b) (a ≡ b)
same_text_decides a b = bytes_eq-Decides a b

pub same_label_decides : (a b : Label) → Decides (same_label a b) (a.bytes ≡ b.bytes)
same_label_decides a b = bytes_eq-Decides a.bytes b.bytes
