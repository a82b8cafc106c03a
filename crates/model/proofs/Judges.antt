-- What a step does to one judge and to the list of acceptances, and what holds of all judges.
use mathlib.Core.Path.{◌≡◌, refl, sym, ap, subst, ◌∙◌}
use mathlib.Core.Logic.{◌⊎◌, inl, inr}
use mathlib.Core.List.{List, [], ◌∷◌, ◌++◌, Memᴰ}
use Prim.Native.Nat.{ℕ, ◌≤◌, ◌<◌}
use native.Mathlib.Omega.{arith}
use Rattle.model.specs.Term.{Digest}
use Rattle.model.specs.World.{Programs, Question, Judge, Acceptance, World}
use Rattle.model.specs.Effect.{at, made}
use Rattle.model.specs.Step.{Step, switches, boots, loads, puts_only, loads_only, signs, counts, closes, closes_given, passes_over, opens, opens_told, takes_chip, takes_list, asks, puts_out, falls, accepts}
use Rattle.model.specs.Run.{Run, here, onward}
use Rattle.model.specs.Promise.{Begins, OneMore}
use Rattle.model.proofs.Lists.{keeps, old_or_new, middle, uncut, Apart, Falling, falling_up, falling_below, falling_cut, falling_gone, falling_same}
use Rattle.model.proofs.Places.{at_all}
use Rattle.model.proofs.History.{Asks, Takes, History, history}

-- ---- what a step does to judge j

-- a question of this judge that was just asked, with a nonce that was not drawn before
abbrev pub Asked : (w v : World) (j : ℕ) → Question → Type 0
Asked w v j q = (w.next ≤ q.nonce) × (q.judge ≡ j) × Memᴰ q v.asked

-- from w to v, the judge d becomes e: what it has new are rows that begin with the first program, and questions just asked
pub record Turns (pr : Programs) (w v : World) (j : ℕ) (d e : Judge) : Type 0 where
  pub lists_old : (r : List Digest) → Memᴰ r e.lists → Memᴰ r d.lists ⊎ Begins pr r
  pub open_old : (q : Question) → Memᴰ q e.questions → Memᴰ q d.questions ⊎ Asked w v j q
  pub stays_falling : Falling (λ q. q.nonce) w.next d.questions → Falling (λ q. q.nonce) v.next e.questions

-- lists and questions stay
waits : {pr : Programs} {w v : World} {j : ℕ} {d e : Judge} → w.next ≤ v.next → e.lists ≡ d.lists → e.questions ≡ d.questions → Turns pr w v j d e
waits {w = w} {v = v} {d = d} up f g =
    record { lists_old = λ r m. inl (subst (λ l. Memᴰ r l) f m); open_old = λ q m. inl (subst (λ l. Memᴰ q l) g m); stays_falling = λ h. subst (λ l. Falling (λ q. q.nonce) v.next l) (sym g) (falling_up (λ q. q.nonce) _ _ d.questions up h) }

-- a question goes
loses : {pr : Programs} {w v : World} {j : ℕ} {d e : Judge} (newer older : List Question) (q : Question) → w.next ≤ v.next → d.questions ≡ newer ++ (q ∷ older) → e.questions ≡ newer ++ older → e.lists ≡ d.lists → Turns pr w v j d e
loses {w = w} {v = v} newer older q up was is f =
    record { lists_old = λ r m. inl (subst (λ l. Memᴰ r l) f m); open_old = λ p m. inl (subst (λ l. Memᴰ p l) (sym was) (uncut newer older q (subst (λ l. Memᴰ p l) is m))); stays_falling = λ h. subst (λ l. Falling (λ q. q.nonce) v.next l) (sym is) (falling_cut (λ z. z.nonce) _ newer older q (falling_up (λ q. q.nonce) _ _ _ up (subst (λ l. Falling (λ z. z.nonce) w.next l) was h))) }

-- the judge at j turns, and the others wait
one_turns : {pr : Programs} (w v : World) (j : ℕ) (d : Judge) → w.next ≤ v.next → Turns pr w v j (w.judges j) d → (i : ℕ) → Turns pr w v i (w.judges i) (at j d w.judges i)
one_turns {pr} w v j d up h = at_all (λ i e. Turns pr w v i (w.judges i) e) j d w.judges h (λ i _. waits up refl refl)

pub turns : {pr : Programs} {w v : World} → Step pr w v → (j : ℕ) → Turns pr w v j (w.judges j) (v.judges j)
turns (switches w a) = λ _. waits (omega arith) refl refl
turns (boots w a e) = λ _. waits (omega arith) refl refl
turns (loads w a p q qs e) = λ _. waits (omega arith) refl refl
turns (puts_only w a p t) = λ _. waits (omega arith) refl refl
turns (loads_only w a p t) = λ _. waits (omega arith) refl refl
turns (signs w a t d) = λ _. waits (omega arith) refl refl
turns (counts w a) = λ _. waits (omega arith) refl refl
turns (closes w a r) = λ _. waits (omega arith) refl refl
turns (closes_given w a r t d) = λ _. waits (omega arith) refl refl
turns (passes_over w a) = λ _. waits (omega arith) refl refl
turns (opens w a x o c) = λ _. waits (omega arith) refl refl
turns (opens_told w a x o t) = λ _. waits (omega arith) refl refl
turns (takes_chip w j a) = one_turns w _ j _ (omega arith) (waits (omega arith) refl refl)
turns {pr} {v = v} (takes_list w j r) = one_turns w v j _ (omega arith) (record { lists_old = λ s m. elim m [ mathlib.Core.List.Memᴰ.head e ↦ inr (r, e) | mathlib.Core.List.Memᴰ.tail h ↦ inl h ]; open_old = λ q m. inl m; stays_falling = λ h. h })
turns {pr} {v = v} (asks w j a k) = one_turns w v j _ (omega arith) (record { lists_old = λ s m. inl m; open_old = λ q m. elim m [ mathlib.Core.List.Memᴰ.head e ↦ inr (omega (arith, ap (λ z. z.nonce) e), ap (λ z. z.judge) e, mathlib.Core.List.Memᴰ.head e) | mathlib.Core.List.Memᴰ.tail h ↦ inl h ]; stays_falling = λ h. (omega arith, h) })
turns (puts_out w j newer older q e) = one_turns w _ j _ (omega arith) (loses newer older q (omega arith) e refl refl)
turns (falls w j) = one_turns w _ j _ (omega arith) (record { lists_old = λ r m. absurd (mathlib.Core.List.Memᴰ.not-nil m); open_old = λ q m. absurd (mathlib.Core.List.Memᴰ.not-nil m); stays_falling = λ _. tt })
turns (accepts w j newer older q r e k h d) = one_turns w _ j _ (omega arith) (loses newer older q (omega arith) e refl refl)

-- ---- what holds of one judge

-- of judge j, over what was asked and the next nonce
pub record Fair (pr : Programs) (asked : List Question) (next : ℕ) (j : ℕ) (d : Judge) : Type 0 where
  pub lists_begin : (r : List Digest) → Memᴰ r d.lists → Begins pr r
  pub open_asked : (q : Question) → Memᴰ q d.questions → Memᴰ q asked × (q.judge ≡ j)
  pub falling : Falling (λ q. q.nonce) next d.questions

fair_turns : {pr : Programs} {w v : World} {j : ℕ} {d e : Judge} → Turns pr w v j d e → History w v → Fair pr w.asked w.next j d → Fair pr v.asked v.next j e
fair_turns {pr} {w} {v} {j} {d} t h f = record { lists_begin = λ r m. lists r (t.lists_old r m); open_asked = λ q m. opened q (t.open_old q m); falling = t.stays_falling f.falling }
  where
    lists : (r : List Digest) → Memᴰ r d.lists ⊎ Begins pr r → Begins pr r
    lists r (inl m) = f.lists_begin r m
    lists r (inr b) = b

    opened : (q : Question) → Memᴰ q d.questions ⊎ Asked w v j q → Memᴰ q v.asked × (q.judge ≡ j)
    opened q (inl m) = (keeps h.asked (f.open_asked q m).0, (f.open_asked q m).1)
    opened q (inr (_, is, m)) = (m, is)

-- ---- what holds of all judges together

-- what was accepted was asked, is not open, and no two have one nonce
pub record Settled (pr : Programs) (w : World) : Type 0 where
  pub fair : (j : ℕ) → Fair pr w.asked w.next j (w.judges j)
  pub asked_falling : Falling (λ q. q.nonce) w.next w.asked
  pub was_asked : (c : Acceptance) → Memᴰ c w.accepted → Memᴰ c.question w.asked
  pub not_open : (c : Acceptance) → Memᴰ c w.accepted → (j : ℕ) (q : Question) → Memᴰ q (w.judges j).questions → q.nonce ≡ c.question.nonce → ⊥
  pub apart : Apart (λ c. c.question.nonce) w.accepted

settled_step : {pr : Programs} {w v : World} → Step pr w v → Settled pr w → Settled pr v
settled_step {pr} {w} {v} s i =
    record { fair = λ j. fair_turns (turns s j) (history s) (i.fair j); asked_falling = asks_more (history s).asked; was_asked = asked; not_open = shut; apart = no_two (history s).accepted }
  where
    asks_more : OneMore (Asks w v) w.asked v.asked → Falling (λ q. q.nonce) v.next v.asked
    asks_more (inl e) = subst (λ l. Falling (λ q. q.nonce) v.next l) (sym e) (falling_up (λ q. q.nonce) _ _ w.asked (history s).next_up i.asked_falling)
    asks_more (inr (q, e, a)) =
        subst (λ l. Falling (λ q. q.nonce) v.next l) (sym e) (a.used, falling_up (λ q. q.nonce) _ _ w.asked a.new i.asked_falling)

    open_of : (c : Acceptance) (t : Takes w v c) → Memᴰ c.question (w.judges t.judge).questions
    open_of c t = subst (λ l. Memᴰ c.question l) (sym t.was_open) (middle t.newer t.older c.question)

    asked : (c : Acceptance) → Memᴰ c v.accepted → Memᴰ c.question v.asked
    asked c m = go (old_or_new (history s).accepted m)
      where
        go : Memᴰ c w.accepted ⊎ ((e : Acceptance) × (c ≡ e) × Takes w v e) → Memᴰ c.question v.asked
        go (inl h) = keeps (history s).asked (i.was_asked c h)
        go (inr (e, same, t)) = keeps (history s).asked (subst (λ z. Memᴰ z.question w.asked) (sym same) ((i.fair t.judge).open_asked e.question (open_of e t)).0)

    -- what was just accepted is open nowhere
    gone : (z : Acceptance) (t : Takes w v z) (j : ℕ) (q : Question) → Memᴰ q (v.judges j).questions → q.nonce ≡ z.question.nonce → ⊥
    gone z t j q m e = go ((turns s j).open_old q m)
      where
        its : Memᴰ z.question w.asked × (z.question.judge ≡ t.judge)
        its = (i.fair t.judge).open_asked z.question (open_of z t)

        cut : j ≡ t.judge → ⊥
        cut is = falling_gone (λ y. y.nonce) w.next t.newer t.older z.question (subst (λ l. Falling (λ y. y.nonce) w.next l) t.was_open (i.fair t.judge).falling) (subst (λ l. Memᴰ q l) t.closed_by_it (subst (λ k. Memᴰ q (v.judges k).questions) is m)) e

        go : Memᴰ q (w.judges j).questions ⊎ Asked w v j q → ⊥
        go (inl h) =
            let mine : Memᴰ q w.asked × (q.judge ≡ j) = (i.fair j).open_asked q h in
            cut (sym mine.1 ∙ ap (λ y. y.judge) (falling_same (λ y. y.nonce) _ i.asked_falling mine.0 its.0 e) ∙ its.1)
        go (inr (new, _, _)) = let below : z.question.nonce < w.next = falling_below (λ y. y.nonce) _ i.asked_falling its.0 in absurd (omega arith)

    shut : (c : Acceptance) → Memᴰ c v.accepted → (j : ℕ) (q : Question) → Memᴰ q (v.judges j).questions → q.nonce ≡ c.question.nonce → ⊥
    shut c m j q h e = go (old_or_new (history s).accepted m)
      where
        old : Memᴰ c w.accepted → Memᴰ q (w.judges j).questions ⊎ Asked w v j q → ⊥
        old k (inl g) = i.not_open c k j q g e
        old k (inr (new, _, _)) = let below : c.question.nonce < w.next = falling_below (λ z. z.nonce) _ i.asked_falling (i.was_asked c k) in absurd (omega arith)

        go : Memᴰ c w.accepted ⊎ ((z : Acceptance) × (c ≡ z) × Takes w v z) → ⊥
        go (inl k) = old k ((turns s j).open_old q h)
        go (inr (z, same, t)) = gone z t j q h (e ∙ ap (λ y. y.question.nonce) same)

    no_two : OneMore (Takes w v) w.accepted v.accepted → Apart (λ c. c.question.nonce) v.accepted
    no_two (inl e) = subst (λ l. Apart (λ c. c.question.nonce) l) (sym e) i.apart
    no_two (inr (z, e, t)) = subst (λ l. Apart (λ c. c.question.nonce) l) (sym e) ((λ y m h. i.not_open y m t.judge z.question (open_of z t) (sym h)), i.apart)

pub settled : {pr : Programs} {k : ℕ} {w : World} → Run pr k made w → Settled pr w
settled here =
    record { fair = λ j. record { lists_begin = λ r m. absurd (mathlib.Core.List.Memᴰ.not-nil m); open_asked = λ q m. absurd (mathlib.Core.List.Memᴰ.not-nil m); falling = tt }; asked_falling = tt; was_asked = λ c m. absurd (mathlib.Core.List.Memᴰ.not-nil m); not_open = λ c m. absurd (mathlib.Core.List.Memᴰ.not-nil m); apart = tt }
settled (onward l s) = settled_step s (settled l)
