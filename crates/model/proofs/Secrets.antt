-- What outsiders have of what was drawn.
use mathlib.Core.Path.{◌≡◌, refl, sym, ap, subst, subst₂, ◌∙◌}
use mathlib.Core.Bool.{Bool, true, false, true≢false}
use mathlib.Core.Logic.{◌⊎◌, inl, inr}
use mathlib.Core.List.Memᴰ
use mathlib.Core.List.{◌∷◌, Memᴰ}
use Prim.Native.Nat.{ℕ, suc, ◌+◌, ◌*◌}
use native.Mathlib.Omega.{arith}
use Rattle.model.specs.Term.{Term, Nonce, Sealed, Derives, has}
use Rattle.model.specs.World.{Programs, Thing, Machine, Question, World, all_good}
use Rattle.model.specs.Effect.{at, honest, statement, made}
use Rattle.model.specs.Step.{Step, switches, boots, loads, puts_only, loads_only, signs, counts, closes, closes_given, passes_over, opens, opens_told, takes_chip, takes_list, asks, puts_out, falls, accepts}
use Rattle.model.specs.Run.{Run, here, onward, Moment}
use Rattle.model.specs.Promise.{OneMore, Fits, Leaked}
use Rattle.model.proofs.Lists.{keeps, old_or_new, one_more_map}
use Rattle.model.proofs.Knowledge.{Safe, derives_safe, safe_map, derives_more}
use Rattle.model.proofs.Moments.{now, then}
use Rattle.model.proofs.Places.{at_all, at_same}
use Rattle.model.proofs.Draws.{Purpose, Undrawn, ToAsk, ToClose, Draws, Extends, draws_none, draws_one, purposes, purposes_extend}

-- ---- what outsiders may have

-- a nonce that was drawn to ask is said; one that was closed in secret only where it leaked
abbrev pub Public : {pr : Programs} {k : ℕ} {w : World} → Run pr k made w → Purpose → Type 0
Public l Undrawn = ⊥
Public l (ToAsk q) = Unit {0}
Public {pr} l (ToClose a x) = Leaked pr l a x

abbrev pub Heard : {pr : Programs} {k : ℕ} {w : World} → Run pr k made w → (ℕ → Purpose) → ℕ → Type 0
Heard l purpose m = (n : ℕ) → Nonce m ≡ honest n → Public l (purpose n)

-- the chip signed this at a moment of the run, with its register of then, and outsiders had what was to be signed
pub record SignedOn {pr : Programs} {k : ℕ} {w : World} (l : Run pr k made w) (a : ℕ) (t : Term) : Type 0 where
  pub moment : Moment pr l
  pub given : Term
  pub is : t ≡ statement given (moment.world.machines a).register
  pub had : Derives moment.world.heard given

pub record Knows {pr : Programs} {k : ℕ} {w : World} (l : Run pr k made w) : Type 0 where
  pub draws : Draws (λ a. (w.machines a).closed) w.asked w.next
  pub handed_out : (a : ℕ) (x : Thing) → Memᴰ x (w.machines a).closed → Derives w.heard (Sealed a x.number)
  pub given : (a : ℕ) (x : Thing) → Memᴰ x (w.machines a).closed → x.secret ≡ false → Derives w.heard x.what
  pub safe : (t : Term) → Memᴰ t w.heard → Safe (Heard l draws.purpose) (SignedOn l) t

own_heard : {pr : Programs} {k : ℕ} {w : World} (l : Run pr k made w) (purpose : ℕ → Purpose) (n : ℕ) → Heard l purpose (n * 2 + 1)
own_heard l purpose n i e = absurd (grind arith)

-- all that outsiders can work out is safe
pub known_safe : {pr : Programs} {k : ℕ} {w : World} {l : Run pr k made w} (i : Knows l) {t : Term} → Derives w.heard t → Safe (Heard l i.draws.purpose) (SignedOn l) t
known_safe {l = l} i d = derives_safe (Heard l i.draws.purpose) (SignedOn l) (own_heard l i.draws.purpose) i.safe d

-- ---- a longer run: what was public is, what was signed was

public_on : {pr : Programs} {k : ℕ} {w v : World} (l : Run pr k made w) (s : Step pr w v) (p : Purpose) → Public l p → Public (onward l s) p
public_on l s Undrawn h = h
public_on l s (ToAsk q) h = tt
public_on l s (ToClose a x) h = record { moment = then s h.moment; fitted = h.fitted; tainted = h.tainted }

signed_on : {pr : Programs} {k : ℕ} {w v : World} {l : Run pr k made w} (s : Step pr w v) (a : ℕ) (t : Term) → SignedOn l a t → SignedOn (onward l s) a t
signed_on s a t h = record { moment = then s h.moment; given = h.given; is = h.is; had = h.had }

safe_on : {pr : Programs} {k : ℕ} {w v : World} (l : Run pr k made w) (s : Step pr w v) (old new : ℕ → Purpose) → Extends old new → (t : Term) → Safe (Heard l old) (SignedOn l) t → Safe (Heard (onward l s) new) (SignedOn (onward l s)) t
safe_on l s old new more = safe_map (λ m h n e. go n (more n) (h n e)) (signed_on s)
  where
    go : (n : ℕ) → (old n ≡ new n) ⊎ (old n ≡ Undrawn) → Public l (old n) → Public (onward l s) (new n)
    go n (inl e) h = subst (λ p. Public (onward l s) p) e (public_on l s (old n) h)
    go n (inr e) h = absurd (subst (λ p. Public l p) e h)

-- ---- one step more

module _ {pr : Programs} {k : ℕ} {w v : World} {l : Run pr k made w} (s : Step pr w v) (i : Knows l) where
  -- what may be said with these purposes
  abbrev Sayable : (ℕ → Purpose) → Term → Type 0
  Sayable purpose t = Safe (Heard (onward l s) purpose) (SignedOn (onward l s)) t

  -- nothing is forgotten, and what is new may be said
  abbrev Says : (ℕ → Purpose) → Type 0
  Says purpose = ((t : Term) → Memᴰ t w.heard → Memᴰ t v.heard) × ((t : Term) → Memᴰ t v.heard → Memᴰ t w.heard ⊎ Sayable purpose t)

  says_one : (purpose : ℕ → Purpose) {t : Term} → v.heard ≡ t ∷ w.heard → Sayable purpose t → Says purpose
  says_one purpose {t} e safe = (λ u m. subst (λ h. Memᴰ u h) (sym e) (Memᴰ.tail m), λ u m. go u (subst (λ h. Memᴰ u h) e m))
    where
      go : (u : Term) → Memᴰ u (t ∷ w.heard) → Memᴰ u w.heard ⊎ Sayable purpose u
      go u (Memᴰ.head f) = inr (subst (λ z. Sayable purpose z) (sym f) safe)
      go u (Memᴰ.tail m) = inl m

  -- outsiders have the new thing of chip a, and what is in it unless it is secret
  abbrev Handed : ℕ → Thing → Type 0
  Handed a x = Derives v.heard (Sealed a x.number) × (x.secret ≡ false → Derives v.heard x.what)

  knows_on : (d : Draws (λ a. (v.machines a).closed) v.asked v.next) → Extends i.draws.purpose d.purpose → ((a : ℕ) → OneMore (Handed a) (w.machines a).closed (v.machines a).closed) → Says d.purpose → Knows (onward l s)
  knows_on d more closings (grow, says) =
      record {
        draws = d;
        handed_out = λ a x m. handed a x (old_or_new (closings a) m);
        given = λ a x m. gave a x (old_or_new (closings a) m);
        safe = λ t m. said t (says t m);
      }
    where
      handed : (a : ℕ) (x : Thing) → Memᴰ x (w.machines a).closed ⊎ ((y : Thing) × (x ≡ y) × Handed a y) → Derives v.heard (Sealed a x.number)
      handed a x (inl h) = derives_more grow (i.handed_out a x h)
      handed a x (inr (y, e, h)) = subst (λ z. Derives v.heard (Sealed a z.number)) (sym e) h.0

      gave : (a : ℕ) (x : Thing) → Memᴰ x (w.machines a).closed ⊎ ((y : Thing) × (x ≡ y) × Handed a y) → x.secret ≡ false → Derives v.heard x.what
      gave a x (inl h) = λ t. derives_more grow (i.given a x h t)
      gave a x (inr (y, e, h)) = subst (λ z. z.secret ≡ false → Derives v.heard z.what) (sym e) h.1

      said : (t : Term) → Memᴰ t w.heard ⊎ Sayable d.purpose t → Sayable d.purpose t
      said t (inl m) = safe_on l s i.draws.purpose d.purpose more t (i.safe t m)
      said t (inr h) = h

  -- nothing is drawn or closed
  undrawing : ((a : ℕ) → (v.machines a).closed ≡ (w.machines a).closed) → v.asked ≡ w.asked → v.next ≡ w.next → Says i.draws.purpose → Knows (onward l s)
  undrawing same e f says =
      knows_on (draws_none (λ a x m. subst (λ xs. Memᴰ x xs) (sym (same a)) m) (λ a x m _. subst (λ xs. Memᴰ x xs) (same a) m) e f i.draws) (λ _. inl refl) (λ a. inl (same a)) says

  quiet : ((a : ℕ) → (v.machines a).closed ≡ (w.machines a).closed) → v.asked ≡ w.asked → v.next ≡ w.next → v.heard ≡ w.heard → Knows (onward l s)
  quiet same e f g = undrawing same e f (λ t m. subst (λ h. Memᴰ t h) (sym g) m, λ t m. inl (subst (λ h. Memᴰ t h) g m))

  -- chip a closes x, and no other closes anything
  abbrev JustCloses : ℕ → Thing → Type 0
  JustCloses a x = (j : ℕ) → OneMore (λ y. (j ≡ a) × (y ≡ x)) (w.machines j).closed (v.machines j).closed

  -- what was drawn for it is in it, and outsiders have the sealed thing alone
  closing_secret : (a : ℕ) (x : Thing) → JustCloses a x → Memᴰ x (v.machines a).closed → x.secret ≡ true → x.what ≡ honest w.next → v.asked ≡ w.asked → v.next ≡ suc w.next → Says (purposes i.draws (ToClose a x)) → Derives v.heard (Sealed a x.number) → Knows (onward l s)
  closing_secret a x just there secret is e f says sealed =
      knows_on (draws_one i.draws (ToClose a x) f (λ j y m. keeps (just j) m) (λ z m. subst (λ qs. Memᴰ z qs) (sym e) m) (there, secret, is) (λ z m. inl (subst (λ qs. Memᴰ z qs) e m)) (λ j y m _. drawn j y (old_or_new (just j) m))) (purposes_extend i.draws (ToClose a x)) (λ j. one_more_map (handed j) (just j)) says
    where
      drawn : (j : ℕ) (y : Thing) → Memᴰ y (w.machines j).closed ⊎ ((z : Thing) × (y ≡ z) × ((j ≡ a) × (z ≡ x))) → Memᴰ y (w.machines j).closed ⊎ ((y.what ≡ honest w.next) × (ToClose a x ≡ ToClose j y))
      drawn j y (inl m) = inl m
      drawn j y (inr (z, g, (h, t))) = inr (ap (λ y. y.what) (g ∙ t) ∙ is, λ r. ToClose (sym h r) (sym (g ∙ t) r))

      handed : (j : ℕ) (y : Thing) → (j ≡ a) × (y ≡ x) → Handed j y
      handed j y (g, h) = (subst₂ (λ b z. Derives v.heard (Sealed b z.number)) (sym g) (sym h) sealed, λ no-secret. absurd (true≢false (sym (ap (λ y. y.secret) h ∙ secret) ∙ no-secret)))

  -- what outsiders have is in it
  closing_given : (a : ℕ) (x : Thing) → JustCloses a x → x.secret ≡ false → Derives v.heard x.what → v.asked ≡ w.asked → v.next ≡ w.next → Says i.draws.purpose → Derives v.heard (Sealed a x.number) → Knows (onward l s)
  closing_given a x just open-to-all had e f says sealed =
      knows_on (draws_none (λ j y m. keeps (just j) m) (λ j y m t. old j y t (old_or_new (just j) m)) e f i.draws) (λ _. inl refl) (λ j. one_more_map (handed j) (just j)) says
    where
      old : (j : ℕ) (y : Thing) → y.secret ≡ true → Memᴰ y (w.machines j).closed ⊎ ((z : Thing) × (y ≡ z) × ((j ≡ a) × (z ≡ x))) → Memᴰ y (w.machines j).closed
      old j y secret (inl m) = m
      old j y secret (inr (z, g, (_, h))) = absurd (true≢false (sym secret ∙ ap (λ y. y.secret) (g ∙ h) ∙ open-to-all))

      handed : (j : ℕ) (y : Thing) → (j ≡ a) × (y ≡ x) → Handed j y
      handed j y (g, h) = (subst₂ (λ b z. Derives v.heard (Sealed b z.number)) (sym g) (sym h) sealed, λ _. subst (λ z. Derives v.heard z.what) (sym h) had)

  -- what was drawn for a question is said
  asking_it : (q : Question) → v.asked ≡ q ∷ w.asked → q.nonce ≡ w.next → v.next ≡ suc w.next → ((a : ℕ) → (v.machines a).closed ≡ (w.machines a).closed) → v.heard ≡ honest q.nonce ∷ w.heard → Knows (onward l s)
  asking_it q e f g same h =
      knows_on (draws_one i.draws (ToAsk q) g (λ a x m. subst (λ xs. Memᴰ x xs) (sym (same a)) m) (λ z m. subst (λ qs. Memᴰ z qs) (sym e) (Memᴰ.tail m)) (subst (λ qs. Memᴰ q qs) (sym e) (Memᴰ.head refl), f) (λ z m. asked z (subst (λ qs. Memᴰ z qs) e m)) (λ a x m _. inl (subst (λ xs. Memᴰ x xs) (same a) m))) (purposes_extend i.draws (ToAsk q)) (λ a. inl (same a)) (says_one _ h said)
    where
      asked : (z : Question) → Memᴰ z (q ∷ w.asked) → Memᴰ z w.asked ⊎ ((z.nonce ≡ w.next) × (ToAsk q ≡ ToAsk z))
      asked z (Memᴰ.head is) = inr (ap (λ z. z.nonce) is ∙ f, λ r. ToAsk (sym is r))
      asked z (Memᴰ.tail m) = inl m

      said : (n : ℕ) → honest q.nonce ≡ honest n → Public (onward l s) (purposes i.draws (ToAsk q) n)
      said n e =
          let is : w.next ≡ n = grind arith in
          subst (λ m. Public (onward l s) (purposes i.draws (ToAsk q) m)) is (subst (λ p. Public (onward l s) p) (sym (at_same w.next (ToAsk q) i.draws.purpose)) tt)

  -- what outsiders can have may be said again
  still_sayable : {t : Term} → Derives w.heard t → Sayable i.draws.purpose t
  still_sayable {t} d = safe_on l s i.draws.purpose i.draws.purpose (λ _. inl refl) t (known_safe i d)

  -- what is in a thing that fits may be said where a bad program was loaded
  told_sayable : (a : ℕ) (x : Thing) → Fits x (w.machines a) → all_good pr.good (w.machines a).ran ≡ false → Sayable i.draws.purpose x.what
  told_sayable a x fits tainted = go x.secret refl
    where
      leaked : Leaked pr (onward l s) a x
      leaked = record { moment = then s (now l); fitted = fits; tainted = tainted }

      go : (b : Bool) → x.secret ≡ b → Sayable i.draws.purpose x.what
      go true e =
          let (n, is, for) = i.draws.closed_for a x fits.there e in
          subst (λ t. Sayable i.draws.purpose t) (sym is) (λ m f. let same : n ≡ m = grind arith in subst (λ j. Public (onward l s) (i.draws.purpose j)) same (subst (λ p. Public (onward l s) p) (sym for) leaked))
      go false e = still_sayable (i.given a x fits.there e)

-- ---- every step

-- where the machine at a keeps what it closed, all do
same_closed : (f : ℕ → Machine) (a : ℕ) (m : Machine) → m.closed ≡ (f a).closed → (j : ℕ) → (at a m f j).closed ≡ (f j).closed
same_closed f a m e = at_all (λ j n. n.closed ≡ (f j).closed) a m f e (λ j _. refl)

-- where it closes x, the others close nothing
one_closed : (f : ℕ → Machine) (a : ℕ) (x : Thing) (m : Machine) → m.closed ≡ x ∷ (f a).closed → (j : ℕ) → OneMore (λ y. (j ≡ a) × (y ≡ x)) (f j).closed (at a m f j).closed
one_closed f a x m e = at_all (λ j n. OneMore (λ y. (j ≡ a) × (y ≡ x)) (f j).closed n.closed) a m f (inr (x, e, (refl, refl))) (λ j _. inl refl)

new_closed : (f : ℕ → Machine) (a : ℕ) (x : Thing) (m : Machine) → m.closed ≡ x ∷ (f a).closed → Memᴰ x (at a m f a).closed
new_closed f a x m e = subst (λ n. Memᴰ x n.closed) (sym (at_same a m f)) (subst (λ xs. Memᴰ x xs) (sym e) (Memᴰ.head refl))

knows_step : {pr : Programs} {k : ℕ} {w v : World} {l : Run pr k made w} (s : Step pr w v) → Knows l → Knows (onward l s)
knows_step (switches w a) i = quiet (switches w a) i (same_closed w.machines a _ refl) refl refl refl
knows_step (boots w a e) i = quiet (boots w a e) i (same_closed w.machines a _ refl) refl refl refl
knows_step (loads w a p q qs e) i = quiet (loads w a p q qs e) i (same_closed w.machines a _ refl) refl refl refl
knows_step (puts_only w a p t) i = quiet (puts_only w a p t) i (same_closed w.machines a _ refl) refl refl refl
knows_step (loads_only w a p t) i = quiet (loads_only w a p t) i (same_closed w.machines a _ refl) refl refl refl
knows_step {l = l} (signs w a t d) i = undrawing (signs w a t d) i (λ _. refl) refl refl (says_one (signs w a t d) i _ refl (record { moment = then (signs w a t d) (now l); given = t; is = refl; had = d }, (still_sayable _ i d, tt)))
knows_step (counts w a) i = quiet (counts w a) i (same_closed w.machines a _ refl) refl refl refl
knows_step (closes w a r) i = closing_secret (closes w a r) i a _ (one_closed w.machines a _ _ refl) (new_closed w.machines a _ _ refl) refl refl refl refl (says_one (closes w a r) i _ refl tt) (has (Memᴰ.head refl))
knows_step (closes_given w a r t d) i = closing_given (closes_given w a r t d) i a _ (one_closed w.machines a _ _ refl) refl (derives_more (λ u m. Memᴰ.tail m) d) refl refl (says_one (closes_given w a r t d) i _ refl tt) (has (Memᴰ.head refl))
knows_step (passes_over w a) i = quiet (passes_over w a) i (same_closed w.machines a _ refl) refl refl refl
knows_step (opens w a x o c) i = quiet (opens w a x o c) i (λ _. refl) refl refl refl
knows_step (opens_told w a x o t) i = undrawing (opens_told w a x o t) i (λ _. refl) refl refl (says_one (opens_told w a x o t) i _ refl (told_sayable (opens_told w a x o t) i a x (record { there = o.given_out; register_fits = o.target_fits; counter_fits = o.counter_fits }) t))
knows_step (takes_chip w j a) i = quiet (takes_chip w j a) i (λ _. refl) refl refl refl
knows_step (takes_list w j r) i = quiet (takes_list w j r) i (λ _. refl) refl refl refl
knows_step (asks w j a h) i = asking_it (asks w j a h) i _ refl refl refl (λ _. refl) refl
knows_step (puts_out w j newer older q e) i = quiet (puts_out w j newer older q e) i (λ _. refl) refl refl refl
knows_step (falls w j) i = quiet (falls w j) i (λ _. refl) refl refl refl
knows_step (accepts w j newer older q r e h m d) i = quiet (accepts w j newer older q r e h m d) i (λ _. refl) refl refl refl

pub knows : {pr : Programs} {k : ℕ} {w : World} (l : Run pr k made w) → Knows l
knows here = record { draws = record { purpose = λ _. Undrawn; done = λ _. tt; undrawn = λ _ _. refl; asked_for = λ q m. absurd (Memᴰ.not-nil m); closed_for = λ a x m. absurd (Memᴰ.not-nil m) }; handed_out = λ a x m. absurd (Memᴰ.not-nil m); given = λ a x m. absurd (Memᴰ.not-nil m); safe = λ t m. absurd (Memᴰ.not-nil m) }
knows (onward l s) = knows_step s (knows l)
