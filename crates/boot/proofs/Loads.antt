-- Loading programs, one after another.
use Rattle.std.proofs.Common.{◌≡◌, ℕ, ◌+◌, ◌<◌, ◌≤◌, List, [], ◌∷◌, length, get_or, drop, Some, Option, sym, refl, ap, ◌∙◌}
use Rattle.std.proofs.lemmas.List.{drop_more, drop_all}
use Rattle.device.specs.declared.digests.Digest.{Digest}
use Rattle.boot.specs.declared.machines.Machine.{Machine}
use Rattle.boot.specs.Machines.{load_of, go_on, load_all_of}

load_cons : (m : Machine) (d : Digest) (ds : List Digest) → load_all_of m (d ∷ ds) ≡ go_on (load_of m d) (λ n. load_all_of n ds)
unfolding load_all_of
load_cons m d ds = refl

load_nil : (m : Machine) → load_all_of m [] ≡ Some m
unfolding load_all_of
load_nil m = refl

-- what is left to load comes to the whole, before a program and after it; t is what its load comes to
pub load_next : (m : Machine) (ds : List Digest) (i : ℕ) (d : Digest) (t whole : Option Machine) → i < length ds → t ≡ load_of m (get_or ds i d) → load_all_of m (drop i ds) ≡ whole → go_on t (λ n. load_all_of n (drop (i + 1) ds)) ≡ whole
load_next m ds i d t whole below loaded left =
    ap (λ k. go_on k (λ n. load_all_of n (drop (i + 1) ds))) loaded ∙ sym (load_cons m (get_or ds i d) (drop (i + 1) ds)) ∙ ap (load_all_of m) (sym (drop_more ds i d below)) ∙ left

pub load_done : (m : Machine) (ds : List Digest) (i : ℕ) (whole : Option Machine) → length ds ≤ i → load_all_of m (drop i ds) ≡ whole → Some m ≡ whole
load_done m ds i whole past left = sym (load_nil m) ∙ ap (load_all_of m) (sym (drop_all i ds past)) ∙ left
