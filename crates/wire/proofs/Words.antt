-- Every reader of words is exact.
use Rattle.std.proofs.Common.{◌≡◌, ◌≢◌, ℕ, suc, ◌%◌, ◌<◌, ◌≤◌, Bool, true, false, cond, ◌&&◌, eqb, ltb, List, [], ◌∷◌, ◌++◌, length, get_or, drop, Some, None, Ok, Err, Option, Result, sym, refl, ap, ◌∙◌, subst, arith, w8, ltb-false, eq-eqb, eqb-true}
use mir.Val as val
use Rattle.std.specs.List.{AllByRecursion}
use Rattle.std.specs.Int.Digits.{AllBelowBase}
use Rattle.std.proofs.lemmas.List.{length-append, nil_from_length}
use Rattle.std.proofs.lemmas.Bool.{cond-true, cond-false}
use Rattle.std.proofs.lemmas.Bool.Decides.{nat_tests}
use Rattle.wire.specs.declared.refusals.Refusal.{Refusal}
use Rattle.wire.specs.Layouts.{Field, Part, Form, Number, big, encoded, total, fields, allowed, read_form, read_by, read_of, find, refusing}
use Rattle.wire.specs.Words.{Forms, always, Word, Exact, outcome, Reads}
use Rattle.wire.proofs.Layouts.{grows, total_more, apart, together}

pub true_false : true ≡ false → ⊥
true_false e = let z : ◌≡◌ {A = ℕ} 0 1 = cc in omega arith

-- ---- forms

pub find_kind : (forms : List Form) (k : ℕ) (f : Form) → find forms k ≡ Some f → k ≡ f.kind
find_kind [] k f e = let z : ◌≡◌ {A = ℕ} 0 1 = cc in absurd (omega arith)
find_kind (g ∷ gs) k f e = by (eqb k g.kind) refl (find_kind gs k f) e
  where
    by : (b : Bool) → eqb k g.kind ≡ b → (find gs k ≡ Some f → k ≡ f.kind) → cond b (Some g) (find gs k) ≡ Some f → k ≡ f.kind
    by true t more h = let s : g ≡ f = cc in eqb-true k g.kind t ∙ ap (λ x. x.kind) s
    by false t more h = more h

-- a word that is whole
record Whole (f : Form) (w : List ℕ) (fs : List Field) : Type 0 where
  long : total 1 f.parts w ≡ length w
  good : allowed 1 f.parts w ≡ true
  is : fs ≡ Number 1 f.kind ∷ fields 1 f.parts w

form_whole : (f : Form) (w : List ℕ) (fs : List Field) → read_form f w ≡ Ok fs → Whole f w fs
form_whole f w fs e = by (ltb (length w) (total 1 f.parts w)) (ltb (total 1 f.parts w) (length w)) (allowed 1 f.parts w) refl refl refl e
  where
    by : (a b c : Bool) → ltb (length w) (total 1 f.parts w) ≡ a → ltb (total 1 f.parts w) (length w) ≡ b → allowed 1 f.parts w ≡ c → cond a (Err f.cut) (cond b (Err f.long) (cond c (Ok (Number 1 f.kind ∷ fields 1 f.parts w)) (Err f.over))) ≡ Ok fs → Whole f w fs
    by true b c p q r h = let z : ◌≡◌ {A = ℕ} 0 1 = cc in absurd (omega arith)
    by false true c p q r h = let z : ◌≡◌ {A = ℕ} 0 1 = cc in absurd (omega arith)
    by false false false p q r h = let z : ◌≡◌ {A = ℕ} 0 1 = cc in absurd (omega arith)
    by false false true p q r h =
        let m = ltb-false _ _ p in
        let n = ltb-false _ _ q in
        record { long = omega arith; good = r; is = cc }

pub whole_form : (f : Form) (w : List ℕ) → total 1 f.parts w ≡ length w → allowed 1 f.parts w ≡ true → read_form f w ≡ Ok (Number 1 f.kind ∷ fields 1 f.parts w)
whole_form f w e a =
    let p : ltb (length w) (total 1 f.parts w) ≡ false = grind (arith, nat_tests) in
    let q : ltb (total 1 f.parts w) (length w) ≡ false = grind (arith, nat_tests) in
    cond-false _ _ _ p ∙ cond-false _ _ _ q ∙ cond-true _ _ _ a

-- of one whose every fault is the same
pub faulty : (k : Refusal) (kind : ℕ) (ps : List Part) (w : List ℕ) → (total 1 ps w ≡ length w → allowed 1 ps w ≡ true → ⊥) → read_form (refusing k kind ps) w ≡ Err k
faulty k kind ps w bad = by (ltb (length w) (total 1 ps w)) (ltb (total 1 ps w) (length w)) (allowed 1 ps w) refl refl refl
  where
    by : (a b c : Bool) → ltb (length w) (total 1 ps w) ≡ a → ltb (total 1 ps w) (length w) ≡ b → allowed 1 ps w ≡ c → cond a (Err k) (cond b (Err k) (cond c (Ok (Number 1 kind ∷ fields 1 ps w)) (Err k))) ≡ Err k
    by true b c p q r = refl
    by false true c p q r = refl
    by false false false p q r = refl
    by false false true p q r = let m = ltb-false _ _ p in let n = ltb-false _ _ q in absurd (bad (omega arith) r)

pub refusing_is : (k : Refusal) (kind : ℕ) (ps : List Part) (w : List ℕ) → read_form (refusing k kind ps) w ≡ cond (eqb (total 1 ps w) (length w) && allowed 1 ps w) (Ok (Number 1 kind ∷ fields 1 ps w)) (Err k)
refusing_is k kind ps w = by (eqb (total 1 ps w) (length w)) (allowed 1 ps w) refl refl
  where
    by : (a b : Bool) → eqb (total 1 ps w) (length w) ≡ a → allowed 1 ps w ≡ b → read_form (refusing k kind ps) w ≡ cond (a && b) (Ok (Number 1 kind ∷ fields 1 ps w)) (Err k)
    by true true p q = whole_form (refusing k kind ps) w (eqb-true _ _ p) q
    by true false p q = faulty k kind ps w (λ _ r. let z : true ≡ false = sym r ∙ q in absurd (true_false z))
    by false b p q = faulty k kind ps w (λ e _. let z : true ≡ false = sym (eq-eqb _ _ e) ∙ p in absurd (true_false z))

pub known : (unknown : Refusal) (forms : List Form) (k : ℕ) (f : Form) (w : List ℕ) → get_or w 0 0 ≡ k → find forms k ≡ Some f → read_of unknown forms w ≡ read_form f w
known unknown forms k f w is e = ap (λ o. read_by unknown o w) (ap (find forms) is ∙ e)

-- of a kind that no form has
find_none : (forms : List Form) (k : ℕ) → AllByRecursion (λ f. f.kind ≢ k) forms → find forms k ≡ None
find_none [] k u = refl
find_none (f ∷ fs) k u = by (eqb k f.kind) refl (find_none fs k u.1)
  where
    by : (b : Bool) → eqb k f.kind ≡ b → find fs k ≡ None → cond b (Some f) (find fs k) ≡ None
    by true t more = absurd (u.0 (sym (eqb-true k f.kind t)))
    by false t more = more

pub unknown_kind : (unknown : Refusal) (forms : List Form) (w : List ℕ) → AllByRecursion (λ f. f.kind ≢ get_or w 0 0) forms → read_of unknown forms w ≡ Err unknown
unknown_kind unknown forms w u = ap (λ o. read_by unknown o w) (find_none forms (get_or w 0 0) u)

-- ---- words

-- the form of a word is that of the word with more after it
abbrev pub Stable : Forms → Type 0
Stable forms = (w more : List ℕ) (f : Form) → find (forms w) (get_or w 0 0) ≡ Some f → total 1 f.parts w ≡ length w → find (forms (w ++ more)) (get_or (w ++ more) 0 0) ≡ Some f

record Read (f : Form) (fs : List Field) : Type 0 where
  long : total 1 f.parts (encoded fs) ≡ length (encoded fs)
  reads : read_form f (encoded fs) ≡ Ok fs

read_word : (forms : Forms) (fs : List Field) (word : Word forms fs) → Read word.form fs
unfolding big
read_word forms fs word =
    subst (λ x. Read word.form x) (sym word.is)
    (let f = word.form in
    let w : List ℕ = encoded (Number 1 f.kind ∷ word.rest) in
    let t = apart 1 w word.fit refl (omega arith) in
    record { long = t.long; reads = whole_form f w t.long t.good ∙ (λ i. Ok (Number 1 f.kind ∷ t.same i)) })

gives_back : (unknown : Refusal) (forms : Forms) (fs : List Field) → Word forms fs → read_of unknown (forms (encoded fs)) (encoded fs) ≡ Ok fs
gives_back unknown forms fs word = ap (λ o. read_by unknown o (encoded fs)) word.found ∙ (read_word forms fs word).reads

first_byte : (w : List ℕ) (k : ℕ) → 1 ≤ length w → AllBelowBase 256 w → get_or w 0 0 ≡ k → big 1 k ++ drop 1 w ≡ w
unfolding big
first_byte [] k h u e = absurd (omega arith)
first_byte (x ∷ xs) k h u e =
    let small : x < 256 = u.0 in
    let same : k % 256 ≡ x = omega arith in
    λ i. same i ∷ xs

whole : (unknown : Refusal) (forms : Forms) (w : List ℕ) (fs : List Field) → AllBelowBase 256 w → read_of unknown (forms w) w ≡ Ok fs → (w ≡ encoded fs) × Word forms fs
whole unknown forms w fs u e = by (find (forms w) (get_or w 0 0)) refl e
  where
    by : (o : Option Form) → find (forms w) (get_or w 0 0) ≡ o → read_by unknown o w ≡ Ok fs → (w ≡ encoded fs) × Word forms fs
    by None p h = let z : ◌≡◌ {A = ℕ} 0 1 = cc in absurd (omega arith)
    by (Some f) p h =
        let k = form_whole f w fs h in
        let t = together 1 f.parts w k.long k.good u in
        let g = grows 1 f.parts w in
        let b = first_byte w f.kind (omega arith) u (find_kind (forms w) (get_or w 0 0) f p) in
        let same : encoded fs ≡ w = ap encoded k.is ∙ ap (λ x. big 1 f.kind ++ x) t.same ∙ b in
        (sym same, record { form = f; rest = fields 1 f.parts w; found = subst (λ x. find (forms x) (get_or x 0 0) ≡ Some f) (sym same) p; is = k.is; fit = t.fit })

one_value : (unknown : Refusal) (forms : Forms) (fs gs : List Field) → Word forms fs → Word forms gs → encoded fs ≡ encoded gs → fs ≡ gs
one_value unknown forms fs gs a b e =
    let p = gives_back unknown forms fs a in
    let q = gives_back unknown forms gs b in
    let r = ap (λ x. read_of unknown (forms x) x) e in
    cc

no_beginning : (forms : Forms) → Stable forms → (fs gs : List Field) (more : List ℕ) → Word forms fs → Word forms gs → encoded gs ≡ encoded fs ++ more → more ≡ []
no_beginning forms stable fs gs more a b e =
    let p = read_word forms fs a in
    let q = read_word forms gs b in
    let s = stable (encoded fs) more a.form a.found p.long in
    let same : Some b.form ≡ Some a.form = sym b.found ∙ ap (λ x. find (forms x) (get_or x 0 0)) e ∙ s in
    let f : b.form ≡ a.form = cc in
    let t = total_more 1 a.form.parts (encoded fs) more (omega (arith, p.long)) in
    let l : total 1 a.form.parts (encoded fs ++ more) ≡ length (encoded fs ++ more) = (λ i. total 1 (sym f i).parts (sym e i)) ∙ q.long ∙ ap length e in
    let n = length-append (encoded fs) more in
    nil_from_length more (omega (arith, p.long))

exact : (unknown : Refusal) (forms : Forms) → Stable forms → Exact unknown forms
exact unknown forms stable = record {
  gives_back = gives_back unknown forms;
  whole = whole unknown forms;
  one_value = one_value unknown forms;
  no_beginning = no_beginning forms stable;
}

-- where the forms do not hang on the word, and no kind is 0
same_forms : (forms : List Form) → find forms 0 ≡ None → Stable (always forms)
same_forms forms none [] more f e l = let z : ◌≡◌ {A = ℕ} 0 1 = cc in absurd (omega arith)
same_forms forms none (x ∷ w) more f e l = e

bytes_under : (w : List ℕ) → ((i : ℕ) → val.Fits w8 (get_or w i 0)) → AllBelowBase 256 w
bytes_under [] f = tt
bytes_under (x ∷ w) f = ((f 0).fits, bytes_under w (λ i. f (suc i)))

pub reads_stable : {V : Type 0} (shown : V → List Field) (unknown : Refusal) (forms : Forms) → Stable forms → (w : List ℕ) (r : Result V Refusal) → ((i : ℕ) → val.Fits w8 (get_or w i 0)) → outcome shown r ≡ read_of unknown (forms w) w → Reads shown unknown forms w r
reads_stable shown unknown forms stable w r bytes e = record {
  answers = e;
  only = λ v is. whole unknown forms w (shown v) (bytes_under w bytes) (sym e ∙ ap (outcome shown) is);
  each = λ v word is. e ∙ ap (λ x. read_of unknown (forms x) x) is ∙ gives_back unknown forms (shown v) word;
  laws = exact unknown forms stable;
}

pub reads : {V : Type 0} (shown : V → List Field) (unknown : Refusal) (forms : List Form) → find forms 0 ≡ None → (w : List ℕ) (r : Result V Refusal) → ((i : ℕ) → val.Fits w8 (get_or w i 0)) → outcome shown r ≡ read_of unknown forms w → Reads shown unknown (always forms) w r
reads shown unknown forms none = reads_stable shown unknown (always forms) (same_forms forms none)
