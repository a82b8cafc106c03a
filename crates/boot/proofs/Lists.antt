-- Reading the programs of a start list, one after another.
use Rattle.std.proofs.Common.{◌≡◌, ℕ, ◌+◌, ◌<◌, ◌≤◌, List, [], ◌∷◌, length, get_or, drop, Some, Option, sym, refl, ap, ◌∙◌}
use Rattle.std.proofs.lemmas.List.{drop_more, drop_all}
use Rattle.device.specs.declared.digests.Digest.{Digest}
use Rattle.device.specs.declared.registers.Register.{Register}
use Rattle.boot.specs.declared.disks.Name.{Name}
use Rattle.boot.specs.declared.disks.Entry.{Entry}
use Rattle.boot.specs.Disks.{program_of, took, go_on, programs_of}

programs_cons : (es : List Entry) (r : Register) (n : Name) (ns : List Name) → programs_of es r (n ∷ ns) ≡ go_on (program_of es n).0 (took r (program_of es n).1) (λ xs q. programs_of xs q ns)
unfolding programs_of
programs_cons es r n ns = refl

programs_nil : (es : List Entry) (r : Register) → programs_of es r [] ≡ (es, Some r)
unfolding programs_of
programs_nil es r = refl

-- what is left to read comes to the whole, before a name and after it; t is what was kept of it
pub programs_next : (es xs : List Entry) (r : Register) (names : List Name) (i : ℕ) (d : Name) (o : Option Digest) (t : Option Register) (whole : List Entry × Option Register) → i < length names → (xs, o) ≡ program_of es (get_or names i d) → took r o ≡ t → programs_of es r (drop i names) ≡ whole → go_on xs t (λ ys q. programs_of ys q (drop (i + 1) names)) ≡ whole
programs_next es xs r names i d o t whole below read kept left =
    ap (λ k. go_on xs k (λ ys q. programs_of ys q (drop (i + 1) names))) (sym kept) ∙ ap (λ p. go_on p.0 (took r p.1) (λ ys q. programs_of ys q (drop (i + 1) names))) read ∙ sym (programs_cons es r (get_or names i d) (drop (i + 1) names)) ∙ ap (programs_of es r) (sym (drop_more names i d below)) ∙ left

pub programs_all : (es : List Entry) (r : Register) (names : List Name) (i : ℕ) (whole : List Entry × Option Register) → length names ≤ i → programs_of es r (drop i names) ≡ whole → (es, Some r) ≡ whole
programs_all es r names i whole past left = sym (programs_nil es r) ∙ ap (programs_of es r) (sym (drop_all i names past)) ∙ left
