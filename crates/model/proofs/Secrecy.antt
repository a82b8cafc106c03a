-- The promise on secrets.
use mathlib.Core.Path.{◌≡◌, refl, sym, ap, subst, ◌∙◌}
use mathlib.Core.Bool.{true, true≢false}
use mathlib.Core.List.{List, Memᴰ}
use Prim.Native.Nat.{ℕ}
use native.Mathlib.Omega.{arith}
use Rattle.model.specs.Term.{Digest, Derives}
use Rattle.model.specs.World.{Programs, For, Nowhere, Thing, World, all_good}
use Rattle.model.specs.Effect.{made}
use Rattle.model.specs.Run.{Run}
use Rattle.model.specs.Promise.{Leaked, Secrecy}
use Rattle.model.proofs.Machines.{sound}
use Rattle.model.proofs.Secrets.{Public, Heard, SignedOn, knows, known_safe}
use Rattle.model.proofs.Knowledge.{Safe, derives_more}
use Rattle.model.proofs.History.{history}
use Rattle.model.proofs.Moments.{all_along}

leaks : {pr : Programs} {k : ℕ} {w : World} (l : Run pr k made w) (a : ℕ) (x : Thing) → Memᴰ x (w.machines a).closed → x.secret ≡ true → Derives w.heard x.what → Leaked pr l a x
leaks {pr} l a x m secret d =
    let (n, is, for) = (knows l).draws.closed_for a x m secret in
    let safe = subst (λ t. Safe (Heard l (knows l).draws.purpose) (SignedOn l) t) is (known_safe (knows l) d) in
    subst (λ p. Public l p) for (safe n refl)

-- it cannot have leaked from a register of good programs alone, as that tells what was loaded
good_unleaked : {pr : Programs} {k : ℕ} {w : World} {l : Run pr k made w} (a : ℕ) (x : Thing) (row : List Digest) → x.target ≡ For row → all_good pr.good row ≡ true → Leaked pr l a x → ⊥
good_unleaked {pr} a x row e good h =
    let same : (h.moment.world.machines a).register ≡ row = cc (e, h.fitted.register_fits) in
    let told : all_good pr.good (h.moment.world.machines a).register ≡ true = ap (all_good pr.good) same ∙ good in
    let ran = (sound h.moment.reached a).rows.register_true told in
    absurd (true≢false (sym (ap (all_good pr.good) ran ∙ told) ∙ h.tainted))

nowhere_unleaked : {pr : Programs} {k : ℕ} {w : World} {l : Run pr k made w} (a : ℕ) (x : Thing) → x.target ≡ Nowhere → Leaked pr l a x → ⊥
nowhere_unleaked a x e h = let contrary : ◌≡◌ {A = ℕ} 0 1 = cc (e, h.fitted.register_fits) in absurd (omega arith)

pub secrecy : {pr : Programs} {k : ℕ} {w : World} (l : Run pr k made w) → Secrecy pr l
secrecy l = record { kept = λ a x m s row e good d. good_unleaked a x row e good (leaks l a x m s d); kept_nowhere = λ a x m s e d. nowhere_unleaked a x e (leaks l a x m s d); handed_out = (knows l).handed_out; unforgotten = λ i v r t d. all_along (λ u. Derives u.heard t) (λ w v s d. derives_more (history s).heard d) r d; leaks_only = leaks l }
