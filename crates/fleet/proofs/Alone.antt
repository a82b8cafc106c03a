-- What an act does where its machine stands alone it does among other machines.
use Rattle.std.proofs.Common.{◌≡◌, ℕ, ◌<◌, Bool, true, false, cond, ltb, ◌∷◌, [], length, set, Some, None, Option, Ok, Err, Result, MutBor, sym, refl, ap, ◌∙◌, subst, arith}
use Rattle.std.proofs.lemmas.Bool.Decides.{nat_tests}
use Rattle.std.specs.List.{IsItemAtMut}
use Rattle.std.proofs.lemmas.List.{set-get_or, get_or_default}
use Rattle.device.specs.declared.chips.Command.TheVariants as command
use Rattle.device.specs.declared.digests.Data.{Data}
use Rattle.device.specs.declared.refusals.Refusal.{Refusal}
use Rattle.device.specs.declared.registers.Register.{Register}
use Rattle.device.specs.Commands as chip
use Rattle.device.specs.Rows.{pushed}
use Rattle.boot.specs.declared.machines.Machine.{Machine}
use Rattle.boot.specs.Machines.{new_machine}
use Rattle.fleet.specs.declared.fleets.Act.{Act}
use Rattle.fleet.specs.declared.fleets.Act.TheVariants.{Switch, Start, Load, Give, Keep, Run, CutCount, CutClose}
use Rattle.fleet.specs.declared.fleets.Fault.{Fault}
use Rattle.fleet.specs.declared.fleets.Report.{Report}
use Rattle.fleet.specs.Sights.{Sight, tainted, opening_told, running, acted, machine_at}

-- the same fleet, with machine x alone and no judge
abbrev pub by_itself : Sight → Machine → Sight
by_itself s x = record { first = s.first; bad = s.bad; machines = x ∷ []; seats = []; disk = s.disk; heard = s.heard; shown = s.shown }

-- that machine put back in its place, among the others
abbrev pub back : ℕ → Sight → Sight × Result Report Fault → Sight × Result Report Fault
back i s p = (record { first = p.0.first; bad = p.0.bad; machines = set s.machines i (machine_at p.0 0); seats = s.seats; disk = p.0.disk; heard = p.0.heard; shown = p.0.shown }, p.1)

module _ (i : ℕ) (s : Sight) where
  abbrev x : Machine
  x = machine_at s i

  unchanged : (f : Fault) → back i s (by_itself s x, Err f) ≡ (s, Err f)
  unchanged f = ap (λ ms. (record { first = s.first; bad = s.bad; machines = ms; seats = s.seats; disk = s.disk; heard = s.heard; shown = s.shown }, Err f)) (set-get_or s.machines i (new_machine 0))

  back_cond : (b : Bool) (p q t u : Sight × Result Report Fault) → back i s p ≡ t → back i s q ≡ u → back i s (cond b p q) ≡ cond b t u
  back_cond true p q t u e f = e
  back_cond false p q t u e f = f

  opening : (b : Bool) (r : Result Data Refusal) → back i s (opening_told b 0 (by_itself s x) x r) ≡ opening_told b i s x r
  opening true (Ok d) = refl
  opening false (Ok d) = refl
  opening b (Err k) = refl

  running_back : (r : Option Register) → back i s (running 0 (by_itself s x) x r) ≡ running i s x r
  running_back (Some r) = refl
  running_back None = unchanged _

  acted_back : (m : Bool) (a : Act) → back i s (acted m 0 (by_itself s x) x a) ≡ acted m i s x a
  acted_back m Switch = refl
  acted_back m (Start n) = refl
  acted_back m (Load n) = refl
  acted_back m (Give (command.Put d)) = back_cond (tainted s x) _ _ _ _ refl (unchanged _)
  acted_back m (Give (command.Sign d)) = back_cond m _ _ _ _ refl (unchanged _)
  acted_back m (Give command.Count) = refl
  acted_back m (Give (command.Close t d)) = refl
  acted_back m (Give (command.Open y)) = back_cond m _ _ _ _ (opening (tainted s x) (chip.opened x.chip y)) (unchanged _)
  acted_back m (Give command.Read) = refl
  acted_back m (Give command.SwitchedOn) = refl
  acted_back m (Keep t d) = refl
  acted_back m (Run d) = back_cond (tainted s x) _ _ _ _ (running_back (pushed x.ran d)) (unchanged _)
  acted_back m (CutCount b) = refl
  acted_back m CutClose = refl

-- the machine x at i became that of p, and what is around it is as in p
pub acted_among : (m : Bool) (i : ℕ) (s : Sight) (a : Act) (o : Option (MutBor Machine)) (x : MutBor Machine) (p none : Sight × Result Report Fault) → IsItemAtMut s.machines i o → o ≡ Some x → p ≡ acted m 0 (by_itself s x.now) x.now a → back i s p ≡ cond (ltb i (length s.machines)) (acted m i s (machine_at s i) a) none
acted_among m i s a o x p none item got e =
    let (below, is) = stands (subst (λ r. IsItemAtMut s.machines i r) got item) in
    let there : ltb i (length s.machines) ≡ true = grind (arith, nat_tests) in
    ap (back i s) (e ∙ ap (λ y. acted m 0 (by_itself s y) y a) is) ∙ acted_back i s m a ∙ sym (ap (λ b. cond b (acted m i s (machine_at s i) a) none) there)
  where
    stands : IsItemAtMut s.machines i (Some x) → (i < length s.machines) × (x.now ≡ machine_at s i)
    stands h = (h.3.0, h.1 ∙ get_or_default s.machines i x.now (new_machine 0) h.3.0)
