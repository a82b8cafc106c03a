-- Following start lists, one after another.
use Rattle.std.proofs.Common.{◌≡◌, ℕ, suc, ◌+◌, ◌-◌, ◌<◌, ◌≤◌, List, map, length, Some, None, Option, Err, sym, refl, ap, ◌∙◌, arith}
use Rattle.device.specs.declared.refusals.Refusal.TheVariants.{NoProgram}
use Rattle.device.specs.Rows.{row}
use Rattle.boot.specs.declared.disks.Name.{Name}
use Rattle.boot.specs.declared.disks.Entry.{Entry}
use Rattle.boot.specs.declared.disks.Batch.{Batch}
use Rattle.boot.specs.declared.machines.Machine.{Machine}
use Rattle.device.specs.declared.digests.Digest.{Digest}
use Rattle.boot.specs.Disks.{unread, batch_of}
use Rattle.boot.specs.Machines.{switched, load_of, load_all_of}
use Rattle.boot.specs.Starts.{Outcome, loaded_from, batch_from, follow, first_from, start_of}

follow_suc : (k : ℕ) (es : List Entry) (m : Machine) (n : Name) → follow (suc k) es m n ≡ batch_from (batch_of es n).0 m (batch_of es n).1 (λ xs p o. follow k xs p o)
unfolding follow
follow_suc k es m n = refl

follow_zero : (es : List Entry) (m : Machine) (n : Name) → follow 0 es m n ≡ (es, (m, Err NoProgram))
unfolding follow
follow_zero es m n = refl

-- what is left to follow comes to the whole
abbrev pub Left : (lists turn : ℕ) → List Entry → Machine → Name → Outcome → Type 0
Left lists turn es m n whole = follow (lists - turn) es m n ≡ whole

-- before a list and after it
pub follow_next : (lists turn : ℕ) (es xs : List Entry) (m : Machine) (n : Name) (o : Option Batch) (whole : Outcome) → turn < lists → (xs, o) ≡ batch_of es n → Left lists turn es m n whole → batch_from xs m o (λ ys p q. follow (lists - (turn + 1)) ys p q) ≡ whole
follow_next lists turn es xs m n o whole below is left =
    let one : lists - turn ≡ suc (lists - (turn + 1)) = omega arith in
    ap (λ b. batch_from b.0 m b.1 (λ ys p q. follow (lists - (turn + 1)) ys p q)) is ∙ sym (follow_suc (lists - (turn + 1)) es m n) ∙ ap (λ k. follow k es m n) (sym one) ∙ left

-- where the list could not be read
pub follow_gone : (lists turn : ℕ) (es xs : List Entry) (m : Machine) (n : Name) (o : Option Batch) (whole : Outcome) → turn < lists → (xs, o) ≡ batch_of es n → o ≡ None → Left lists turn es m n whole → (xs, (m, Err NoProgram)) ≡ whole
follow_gone lists turn es xs m n o whole below is none left = ap (λ k. batch_from xs m k (λ ys p q. follow (lists - (turn + 1)) ys p q)) (sym none) ∙ follow_next lists turn es xs m n o whole below is left

-- where it could be read: t is the machine with its programs, and h the name of a further list
pub follow_loaded : (lists turn : ℕ) (es xs : List Entry) (m : Machine) (n : Name) (o : Option Batch) (b : Batch) (t : Option Machine) (h : Option Name) (whole : Outcome) → turn < lists → (xs, o) ≡ batch_of es n → o ≡ Some b → t ≡ load_all_of m (row b.programs) → b.further ≡ h → Left lists turn es m n whole → loaded_from xs m t h (λ ys p q. follow (lists - (turn + 1)) ys p q) ≡ whole
follow_loaded lists turn es xs m n o b t h whole below is some loaded more left =
    ap (λ k. loaded_from xs m k h (λ ys p q. follow (lists - (turn + 1)) ys p q)) loaded ∙ ap (λ k. loaded_from xs m (load_all_of m (row b.programs)) k (λ ys p q. follow (lists - (turn + 1)) ys p q)) (sym more) ∙ ap (λ k. batch_from xs m k (λ ys p q. follow (lists - (turn + 1)) ys p q)) (sym some) ∙ follow_next lists turn es xs m n o whole below is left

pub follow_end : (lists turn : ℕ) (es : List Entry) (m : Machine) (n : Name) (whole : Outcome) → lists ≤ turn → Left lists turn es m n whole → (es, (m, Err NoProgram)) ≡ whole
follow_end lists turn es m n whole past left = let none : lists - turn ≡ 0 = omega arith in sym (follow_zero es m n) ∙ ap (λ k. follow k es m n) (sym none) ∙ left

-- ys: the disk, of which nothing was read yet; o: the machine with the first program
pub started : (m : Machine) (first : Digest) (es ys : List Entry) (n : Name) (o : Option Machine) (p : Machine) (whole : Outcome) → ys ≡ map unread es → o ≡ load_of (switched m) first → o ≡ Some p → whole ≡ follow (length ys) ys p n → whole ≡ start_of m first es n
started m first es ys n o p whole unread-is loaded some is = is ∙ ap (λ k. first_from ys (switched m) k n) (sym some ∙ loaded) ∙ ap (λ l. first_from l (switched m) (load_of (switched m) first) n) unread-is
