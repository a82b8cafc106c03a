-- The steps of the loops that read a number, and the words of a line.
use Rattle.std.proofs.Common.{◌≡◌, ℕ, ◌+◌, ◌<◌, ◌≤◌, false, cond, eqb, ok_or, IfOk, Some, None, arith, List, [], ◌∷◌, ◌++◌, length, get_or, drop, Ok, Err, Option, Result, sym, refl, ap, subst, Iter, ◌∙◌, Bor}
use Rattle.std.proofs.lemmas.List.{at_drop_more, at_drop_all}
use Rattle.std.proofs.lemmas.Bool.Decides.{nat_tests}
use Rattle.std.specs.Slice.Iter.{iter_rest, iter_steps}
use Rattle.script.specs.declared.faults.Fault.{Fault}
use Rattle.script.specs.declared.faults.Fault.TheVariants.{Unknown, Shape, TooLong, NoNumber, TooMany, NoFleet, NotKept, NoMemory}
use Rattle.script.specs.declared.lines.places.Places.{Places}
use Rattle.script.specs.declared.lines.Part.{Part}
use Rattle.script.specs.declared.labels.Label.{Label}
use Rattle.script.specs.Labels.{label_of, labels_of, met}
use Rattle.script.specs.Labels as labels
use Rattle.script.specs.Numbers.{next_of, go_on, digits_of, number_of}
use Rattle.script.proofs.Tries.{and_on, tried}
use Rattle.script.specs.Forms.{Words}
use Rattle.script.specs.Lines.{then_on, put_of, filled}

digits_tried : (limit n : ℕ) (bs : List ℕ) → ok_or (tried (next_of limit) n bs) NoNumber ≡ digits_of limit n bs
unfolding digits_of
digits_tried limit n [] = refl
digits_tried limit n (b ∷ bs) = each (next_of limit n b) (λ m. digits_tried limit m bs)
  where
    each : (o : Option ℕ) → ((m : ℕ) → ok_or (tried (next_of limit) m bs) NoNumber ≡ digits_of limit m bs) → ok_or (and_on o (λ m. tried (next_of limit) m bs)) NoNumber ≡ go_on o (λ m. digits_of limit m bs)
    each None more = refl
    each (Some m) more = more m

-- what the digits come to is the number, and no more than the limit
pub number_is : (limit : ℕ) (bs : List ℕ) (o : Option ℕ) (r : Result ℕ Fault) → false ≡ eqb (length bs) 0 → o ≡ tried (next_of limit) 0 bs → r ≡ ok_or o NoNumber → r ≡ number_of limit bs
number_is limit bs o r e h k = k ∙ ap (λ q. ok_or q NoNumber) h ∙ digits_tried limit 0 bs ∙ ap (λ b. cond b (Err NoNumber) (digits_of limit 0 bs)) e

next_within : (limit n b m : ℕ) → Some m ≡ next_of limit n b → m ≤ limit
next_within limit n b m e = grind (arith, nat_tests)

tried_within : (limit n : ℕ) (bs : List ℕ) (m : ℕ) → n ≤ limit → Some m ≡ tried (next_of limit) n bs → m ≤ limit
tried_within limit n [] m l e = let same : m ≡ n = cc in omega arith
tried_within limit n (b ∷ bs) m l e = each (next_of limit n b) refl e (λ k h i. tried_within limit k bs m h i)
  where
    each : (o : Option ℕ) → o ≡ next_of limit n b → Some m ≡ and_on o (λ k. tried (next_of limit) k bs) → ((k : ℕ) → k ≤ limit → Some m ≡ tried (next_of limit) k bs → m ≤ limit) → m ≤ limit
    each None is i more = cc
    each (Some k) is i more = more k (next_within limit n b k is) i

pub number_within : (limit : ℕ) (bs : List ℕ) (o : Option ℕ) (r : Result ℕ Fault) → o ≡ tried (next_of limit) 0 bs → r ≡ ok_or o NoNumber → IfOk r (λ n. n ≤ limit)
number_within limit bs None r h k = rw k tt
number_within limit bs (Some m) r h k = rw k (tried_within limit 0 bs m (omega arith) h)

filled_here : (p : Places) (q : Part) (qs : List Part) (w : Bor (List ℕ)) (ws : Words) → filled p (q ∷ qs) (w ∷ ws) ≡ then_on (put_of p q w.now) (λ r. filled r qs ws)
unfolding filled
filled_here p q qs w ws = refl

filled_short : (p : Places) (q : Part) (qs : List Part) → filled p (q ∷ qs) [] ≡ Err Shape
unfolding filled
filled_short p q qs = refl

filled_nil : (p : Places) (ws : Words) → filled p [] ws ≡ Ok p
unfolding filled
filled_nil p ws = refl

-- why a missing word is refused
pub why_is : {A : Type 0} (o : Option A) (why : Fault) → o ≡ None → Err why ≡ ok_or o Shape → why ≡ Shape
why_is o why n e = let same : Err why ≡ ok_or {T = _} None Shape = e ∙ ap (λ q. ok_or q Shape) n in cc

-- what `next` takes from the words that are left
pub next_none : (s t : Iter (Bor (List ℕ))) (o : Option (Bor (Bor (List ℕ)))) → o ≡ None → iter_steps s o t → length (iter_rest s) ≡ 0
next_none s t o e h = let k = subst (λ p. iter_steps s p t) e h in k.0

pub next_some : (s t : Iter (Bor (List ℕ))) (o : Option (Bor (Bor (List ℕ)))) (w : Bor (Bor (List ℕ))) → o ≡ Some w → iter_steps s o t → iter_rest s ≡ w.now ∷ iter_rest t
next_some s t o w e h = let k = subst (λ p. iter_steps s p t) e h in k

-- the next part with the next word, no word where a part is left, and no part
pub filled_next : (p : Places) (qs : List Part) (i : ℕ) (q : Part) (w : Bor (List ℕ)) (ws vs : Words) (r t : Result Places Fault) → i < length qs → ws ≡ w ∷ vs → r ≡ put_of p (get_or qs i q) w.now → filled p (drop i qs) ws ≡ t → then_on r (λ m. filled m (drop (i + 1) qs) vs) ≡ t
filled_next p qs i q w ws vs r t l s e inv = ap (λ k. then_on k (λ m. filled m (drop (i + 1) qs) vs)) e ∙ sym (filled_here p (get_or qs i q) (drop (i + 1) qs) w vs) ∙ sym (at_drop_more (λ ys. filled p ys (w ∷ vs)) qs i q l) ∙ sym (ap (filled p (drop i qs)) s) ∙ inv

pub filled_out : (p : Places) (qs : List Part) (i : ℕ) (q : Part) (ws : Words) (t : Result Places Fault) → i < length qs → length ws ≡ 0 → filled p (drop i qs) ws ≡ t → Err Shape ≡ t
filled_out p qs i q [] t l n inv = sym (filled_short p (get_or qs i q) (drop (i + 1) qs)) ∙ sym (at_drop_more (λ ys. filled p ys []) qs i q l) ∙ inv
filled_out p qs i q (w ∷ ws) t l n inv = absurd (omega arith)

pub filled_all : (p : Places) (qs : List Part) (i : ℕ) (ws : Words) (t : Result Places Fault) → length qs ≤ i → filled p (drop i qs) ws ≡ t → Ok p ≡ t
filled_all p qs i ws t l inv = sym (filled_nil p ws) ∙ sym (at_drop_all (λ ys. filled p ys ws) qs i l) ∙ inv

labels_here : (ls : List Label) (w : Bor (List ℕ)) (ws : Words) → labels_of ls (w ∷ ws) ≡ labels.go_on (label_of w.now) (λ l. labels_of (ls ++ l ∷ []) ws)
unfolding labels_of
labels_here ls w ws = refl

labels_nil : (ls : List Label) → labels_of ls [] ≡ Ok ls
unfolding labels_of
labels_nil ls = refl

pub labels_next : (ls : List Label) (ws : Words) (i : ℕ) (w : Bor (List ℕ)) (r : Result Label Fault) (t : Result (List Label) Fault) → i < length ws → r ≡ label_of (get_or ws i w).now → labels_of ls (drop i ws) ≡ t → labels.go_on r (λ l. labels_of (ls ++ l ∷ []) (drop (i + 1) ws)) ≡ t
labels_next ls ws i w r t l e inv = ap (λ q. labels.go_on q (λ l. labels_of (ls ++ l ∷ []) (drop (i + 1) ws))) e ∙ sym (labels_here ls (get_or ws i w) (drop (i + 1) ws)) ∙ sym (at_drop_more (labels_of ls) ws i w l) ∙ inv

pub labels_all : (ls : List Label) (ws : Words) (i : ℕ) (t : Result (List Label) Fault) → length ws ≤ i → labels_of ls (drop i ws) ≡ t → Ok ls ≡ t
labels_all ls ws i t l inv = sym (labels_nil ls) ∙ sym (at_drop_all (labels_of ls) ws i l) ∙ inv

-- a fault is what was to come, or want of memory
pub err_met : (A : Type 0) (e : Fault) (t : Result (List Label) Fault) → Err e ≡ t → Err e ≡ cond (met {A = A} (Err e)) t (Err NoMemory)
err_met A Unknown t h = h
err_met A Shape t h = h
err_met A TooLong t h = h
err_met A NoNumber t h = h
err_met A TooMany t h = h
err_met A NoFleet t h = h
err_met A NotKept t h = h
err_met A NoMemory t h = refl
