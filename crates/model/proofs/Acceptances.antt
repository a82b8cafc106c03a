-- The promise on questions and acceptances.
use mathlib.Core.Path.{◌≡◌, refl, sym, ap, subst, ◌∙◌}
use mathlib.Core.Logic.{◌⊎◌, inl, inr}
use mathlib.Core.List.Memᴰ
use mathlib.Core.List.{List, Memᴰ}
use Prim.Native.Nat.{ℕ, suc, ◌*◌, ◌<◌}
use native.Mathlib.Omega.{arith}
use Rattle.model.specs.Term.{Term, Digest, Derives}
use Rattle.model.specs.World.{Programs, Question, Acceptance, World, all_good}
use Rattle.model.specs.Effect.{honest, statement, made}
use Rattle.model.specs.Step.{Step}
use Rattle.model.specs.Run.{Run, onward, Moment}
use Rattle.model.specs.Promise.{Was, Judged, Fresh, Acceptances}
use Rattle.model.proofs.Lists.{keeps, old_or_new, one_more_map, middle, Apart, apart_middle, falling_below}
use Rattle.model.proofs.Machines.{sound}
use Rattle.model.proofs.History.{Asks, Takes, history}
use Rattle.model.proofs.Judges.{Asked, turns, settled}
use Rattle.model.proofs.Moments.{all_along, asked_along, closed_along, since}
use Rattle.model.proofs.Draws.{Purpose, Undrawn, ToAsk, ToClose, Done}
use Rattle.model.proofs.Secrets.{Public, SignedOn, knows, known_safe}

same_given : (s t : Term) (p r : List Digest) → statement s p ≡ statement t r → s ≡ t
same_given s t p r e = cc

same_row : (s t : Term) (p r : List Digest) → statement s p ≡ statement t r → p ≡ r
same_row s t p r e = cc

-- whoever has the nonce of a question, at a moment of the run, has it after it was asked
pub asked_by_then : {pr : Programs} {k : ℕ} {w : World} {l : Run pr k made w} (m : Moment pr l) (q : Question) → Memᴰ q w.asked → Derives m.world.heard (honest q.nonce) → Memᴰ q m.world.asked
asked_by_then {pr} {w = w} {l = l} m q asked d = go ((knows m.reached).draws.purpose q.nonce) refl (known_safe (knows m.reached) d q.nonce refl)
  where
    until : (j : ℕ) × Run pr j m.world w
    until = since m.on_way

    for_it : (knows l).draws.purpose q.nonce ≡ ToAsk q
    for_it = (knows l).draws.asked_for q asked

    done_then : (p : Purpose) → (knows m.reached).draws.purpose q.nonce ≡ p → Done (λ a. (m.world.machines a).closed) m.world.asked q.nonce p
    done_then p e = subst (λ p. Done (λ a. (m.world.machines a).closed) m.world.asked q.nonce p) e ((knows m.reached).draws.done q.nonce)

    go : (p : Purpose) → (knows m.reached).draws.purpose q.nonce ≡ p → Public m.reached ((knows m.reached).draws.purpose q.nonce) → Memᴰ q m.world.asked
    go Undrawn e h = absurd (subst (λ p. Public m.reached p) e h)
    go (ToAsk z) e h =
        let (was, same) = done_then (ToAsk z) e in
        let for_that : (knows l).draws.purpose z.nonce ≡ ToAsk z = (knows l).draws.asked_for z (asked_along z until.1 was) in
        let is : q ≡ z = cc (for_it, for_that, same) in
        Memᴰ.cast is was
    go (ToClose a x) e h =
        let (was, secret, what) = done_then (ToClose a x) e in
        let (n, is, for_that) = (knows l).draws.closed_for a x (closed_along a x until.1 was) secret in
        let twice : n * 2 ≡ q.nonce * 2 = cc (is, what) in
        let same : n ≡ q.nonce = omega arith in
        let contrary : ◌≡◌ {A = ℕ} 0 1 = cc (for_it, for_that, same) in
        absurd (omega arith)

was : {pr : Programs} {k : ℕ} {w v : World} (l : Run pr k made w) (c : Acceptance) → Memᴰ c.question w.asked → Takes w v c → Was pr l c
was {pr} l c asked t =
    record {
      moment = h.moment;
      asked_first = asked_by_then h.moment c.question asked (subst (λ u. Derives h.moment.world.heard u) (sym (same_given (honest c.question.nonce) h.given c.row _ h.is)) h.had);
      register_was = sym row_is;
      ran_was = λ good. (sound h.moment.reached c.question.chip).rows.register_true (ap (all_good pr.good) (sym row_is) ∙ good) ∙ sym row_is;
    }
  where
    h : SignedOn l c.question.chip (statement (honest c.question.nonce) c.row)
    h = (known_safe (knows l) t.signed).0

    row_is : c.row ≡ (h.moment.world.machines c.question.chip).register
    row_is = same_row (honest c.question.nonce) h.given c.row _ h.is

judged : {pr : Programs} {k : ℕ} {w v : World} (l : Run pr k made w) (c : Acceptance) → Takes w v c → Judged pr l c
judged {pr} {w = w} l c t =
    record {
      is_open = subst (λ j. Memᴰ c.question (w.judges j).questions) (sym its.1) opened;
      chip_known = subst (λ j. Memᴰ c.question.chip (w.judges j).chips) (sym its.1) t.chip_known;
      row_listed = subst (λ j. Memᴰ c.row (w.judges j).lists) (sym its.1) t.row_listed;
      row_begins = ((settled l).fair t.judge).lists_begin c.row t.row_listed;
      was = was l c its.0 t;
    }
  where
    opened : Memᴰ c.question (w.judges t.judge).questions
    opened = subst (λ qs. Memᴰ c.question qs) (sym t.was_open) (middle t.newer t.older c.question)

    its : Memᴰ c.question w.asked × (c.question.judge ≡ t.judge)
    its = ((settled l).fair t.judge).open_asked c.question opened

fresh : {pr : Programs} {k : ℕ} {w v : World} (l : Run pr k made w) (q : Question) → Asks w v q → Fresh w q
fresh {w = w} l q a = record { chip_known = a.chip_known; unknown = λ d. subst (λ p. Public l p) ((knows l).draws.undrawn q.nonce a.new) (known_safe (knows l) d q.nonce refl) }

-- q was asked and is not open, and all acceptances of it stand in this list
record Over (pr : Programs) (q : Question) (accepted : List Acceptance) (v : World) : Type 0 where
  steps : ℕ
  reached : Run pr steps made v
  was_asked : Memᴰ q v.asked
  not_open : Memᴰ q (v.judges q.judge).questions → ⊥
  no_more : (c : Acceptance) → Memᴰ c v.accepted → c.question ≡ q → Memᴰ c accepted

over_step : {pr : Programs} (q : Question) (accepted : List Acceptance) (w v : World) → Step pr w v → Over pr q accepted w → Over pr q accepted v
over_step {pr} q accepted w v s o =
    record { steps = suc o.steps; reached = onward o.reached s; was_asked = keeps (history s).asked o.was_asked; not_open = λ m. shut ((turns s q.judge).open_old q m); no_more = λ c m e. none c e (old_or_new (history s).accepted m) }
  where
    shut : Memᴰ q (w.judges q.judge).questions ⊎ Asked w v q.judge q → ⊥
    shut (inl m) = o.not_open m
    shut (inr (new, _, _)) = let below : q.nonce < w.next = falling_below (λ z. z.nonce) _ (settled o.reached).asked_falling o.was_asked in absurd (omega arith)

    none : (c : Acceptance) → c.question ≡ q → Memᴰ c w.accepted ⊎ ((z : Acceptance) × (c ≡ z) × Takes w v z) → Memᴰ c accepted
    none c e (inl m) = o.no_more c m e
    none c e (inr (z, same, t)) =
        let is : z.question ≡ q = ap (λ y. y.question) (sym same) ∙ e in
        absurd (o.not_open (subst (λ p. Memᴰ p (w.judges p.judge).questions) is (judged o.reached z t).is_open))

pub acceptances : {pr : Programs} {k : ℕ} {w : World} (l : Run pr k made w) → Acceptances pr l
acceptances {pr} {k} {w} l =
    record {
      judged = λ v s. one_more_map (λ c t. judged l c t) (history s).accepted;
      once = λ c e newer older is m same. apart_middle (λ c. c.question.nonce) newer older c (subst (λ cs. Apart (λ c. c.question.nonce) cs) is (settled l).apart) m same;
      never_again = λ q asked shut i v r. (all_along (Over pr q w.accepted) (over_step q w.accepted) r (record { steps = k; reached = l; was_asked = asked; not_open = shut; no_more = λ c m _. m })).no_more;
      asks_fresh = λ v s. one_more_map (fresh l) (history s).asked;
    }
