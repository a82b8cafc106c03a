-- What can always be done.
use mathlib.Core.Path.{◌≡◌, refl, sym, ap, subst, ◌∙◌}
use mathlib.Core.List.{List, [], ◌∷◌, ◌++◌, Memᴰ}
use Prim.Native.Nat.{ℕ, suc, ◌+◌}
use native.Mathlib.Omega.{arith}
use lib.ListN.{length}
use Rattle.model.specs.Term.{Digest, has}
use Rattle.model.specs.World.{Programs, Question, World}
use Rattle.model.specs.Effect.{honest, switched, loaded, with_chip, with_list, with_questions, question, asking, acceptance}
use Rattle.model.specs.Step.{Step, switches, boots, loads, signs, takes_chip, takes_list, asks, accepts}
use Rattle.model.specs.Run.{Run, here, onward}
use Rattle.model.specs.Promise.{Can, Runs, Learns, Shows, Liveness}
use Rattle.model.proofs.Places.{at_same}
use Rattle.model.proofs.Moments.{join}

-- the world that a step comes to
abbrev target : {pr : Programs} {w v : World} → Step pr w v → World
target {v = v} s = v

-- ---- running

-- from u, which has all of w but the programs of machine a, to v, where these programs are loaded
runs_by : (w u v : World) (a : ℕ) (p : Digest) {row : List Digest} → v.machines a ≡ loaded p (u.machines a) → v.judges ≡ u.judges → v.accepted ≡ u.accepted → Runs a row w u → Runs a (p ∷ row) w v
runs_by w u v a p e f g h =
    record { ran_is = ap (λ m. m.ran) e ∙ ap (λ l. p ∷ l) h.ran_is; register_is = ap (λ m. m.register) e ∙ ap (λ l. p ∷ l) h.register_is; counter_stays = ap (λ m. m.counter) e ∙ h.counter_stays; closed_stays = ap (λ m. m.closed) e ∙ h.closed_stays; judges_stay = f ∙ h.judges_stay; accepted_stays = g ∙ h.accepted_stays }

-- switched on, the machine runs nothing
runs_none : (pr : Programs) (w : World) (a : ℕ) → Runs a [] w (target {pr = pr} (switches w a))
runs_none pr w a =
    let same = at_same a (switched (w.machines a)) w.machines in
    record { ran_is = ap (λ m. m.ran) same; register_is = ap (λ m. m.register) same; counter_stays = ap (λ m. m.counter) same; closed_stays = ap (λ m. m.closed) same; judges_stay = refl; accepted_stays = refl }

-- a row that begins with the first program is not empty
some_first : (p : Digest) (r : List Digest) → (q : Digest) × (qs : List Digest) × (r ++ (p ∷ []) ≡ q ∷ qs)
some_first p [] = (p, [], refl)
some_first p (q ∷ r) = (q, r ++ (p ∷ []), refl)

runs : (pr : Programs) (w : World) (a : ℕ) (r : List Digest) → Can pr w (length r + 2) (Runs a (r ++ (pr.first ∷ [])) w)
runs pr w a [] =
    let u : World = target {pr = pr} (switches w a) in
    let s : Step pr u _ = boots u a (runs_none pr w a).ran_is in
    (target s, onward (onward here (switches w a)) s, runs_by w u _ a pr.first (at_same a _ u.machines) refl refl (runs_none pr w a))
runs pr w a (p ∷ r) = go (runs pr w a r) (some_first pr.first r)
  where
    go : Can pr w (length r + 2) (Runs a (r ++ (pr.first ∷ [])) w) → (q : Digest) × (qs : List Digest) × (r ++ (pr.first ∷ []) ≡ q ∷ qs) → Can pr w (suc (length r) + 2) (Runs a (p ∷ (r ++ (pr.first ∷ []))) w)
    go (u, l, h) (q, qs, e) =
        let s : Step pr u _ = loads u a p q qs (h.ran_is ∙ e) in
        let more : suc (length r + 2) ≡ suc (length r) + 2 = omega arith in
        (target s, subst (λ n. Run pr n w (target s)) more (onward l s), runs_by w u _ a p (at_same a _ u.machines) refl refl h)

-- ---- showing

learns : (pr : Programs) (w : World) (a j : ℕ) (r : List Digest) → Can pr w 2 (Learns a j (r ++ (pr.first ∷ [])) w)
learns pr w a j r =
    let u : World = target {pr = pr} (takes_list w j r) in
    let s : Step pr u _ = takes_chip u j a in
    let same : (target s).judges j ≡ with_chip a (u.judges j) = at_same j _ u.judges in
    let listed : u.judges j ≡ with_list (r ++ (pr.first ∷ [])) (w.judges j) = at_same j _ w.judges in
    (target s, onward (onward here (takes_list w j r)) s, record { chip_known = subst (λ d. Memᴰ a d.chips) (sym same) (Memᴰ.head refl); row_listed = subst (λ d. Memᴰ (r ++ (pr.first ∷ [])) d.lists) (sym same) (subst (λ d. Memᴰ (r ++ (pr.first ∷ [])) d.lists) (sym listed) (Memᴰ.head refl)); machines_stay = refl; accepted_stays = refl })

shows : (pr : Programs) (w : World) (a j : ℕ) → Memᴰ a (w.judges j).chips → Memᴰ (w.machines a).register (w.judges j).lists → Can pr w 3 (λ v. Shows a j (w.machines a).register w v × (v.machines ≡ w.machines))
shows pr w a j known listed =
    let q : Question = question j a w in
    let asked : World = asking q w in
    let says : Step pr asked _ = signs asked a (honest q.nonce) (has (Memᴰ.head refl)) in
    let same : asked.judges j ≡ with_questions (q ∷ (w.judges j).questions) (w.judges j) = at_same j _ w.judges in
    let s : Step pr (target says) _ = accepts (target says) j [] (w.judges j).questions q (w.machines a).register (ap (λ d. d.questions) same) (subst (λ d. Memᴰ a d.chips) (sym same) known) (subst (λ d. Memᴰ (w.machines a).register d.lists) (sym same) listed) (has (Memᴰ.head refl)) in
    (target s, onward (onward (onward here (asks w j a known)) says) s, (record { acceptance = acceptance q (w.machines a).register; added = refl; judge_is = refl; chip_is = refl; row_is = refl }, refl))

shows_any : (pr : Programs) (w : World) (a j : ℕ) (r : List Digest) → Can pr w (length r + 7) (Shows a j (r ++ (pr.first ∷ [])) w)
shows_any pr w a j r =
    let (u, l, ran) = runs pr w a r in
    let (v, m, knows) = learns pr u a j r in
    let is : (v.machines a).register ≡ r ++ (pr.first ∷ []) = ap (λ f. (f a).register) knows.machines_stay ∙ ran.register_is in
    let (x, n, (shown, _)) = shows pr v a j knows.chip_known (subst (λ row. Memᴰ row (v.judges j).lists) (sym is) knows.row_listed) in
    let all : length r + 2 + 2 + 3 ≡ length r + 7 = omega arith in
    (x, subst (λ k. Run pr k w x) all (join (join l m) n), record { acceptance = shown.acceptance; added = shown.added ∙ ap (λ cs. shown.acceptance ∷ cs) (knows.accepted_stays ∙ ran.accepted_stays); judge_is = shown.judge_is; chip_is = shown.chip_is; row_is = shown.row_is ∙ is })

pub liveness : (pr : Programs) (w : World) → Liveness pr w
liveness pr w = record { runs = runs pr w; learns = learns pr w; shows = shows pr w; shows_any = shows_any pr w }
