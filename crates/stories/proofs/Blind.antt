-- What an event leaves alone: a part of the fleet that machines, disk and what is heard are no part of changes only where a judge does, or, where it has the signatures, where a chip signs.
use Rattle.std.proofs.Common.{◌≡◌, ℕ, Bool, true, false, cond, ltb, ◌⊎◌, List, length, Some, None, Option, Ok, Err, Result, refl, ◌∙◌, inl, inr}
use Rattle.device.specs.declared.chips.Command.TheVariants as command
use Rattle.device.specs.declared.digests.Data.{Data}
use Rattle.device.specs.declared.refusals.Refusal.{Refusal}
use Rattle.device.specs.declared.registers.Register.{Register}
use Rattle.device.specs.Commands as chip
use Rattle.device.specs.Rows.{pushed}
use Rattle.boot.specs.declared.disks.Entry.{Entry}
use Rattle.boot.specs.declared.machines.Machine.{Machine}
use Rattle.fleet.specs.declared.fleets.Act.{Act}
use Rattle.fleet.specs.declared.fleets.Act.TheVariants.{Switch, Start, Load, Give, Keep, Run, CutCount, CutClose}
use Rattle.fleet.specs.declared.fleets.Fault.{Fault}
use Rattle.fleet.specs.declared.fleets.Fault.TheVariants.{Nobody}
use Rattle.fleet.specs.declared.fleets.Report.{Report}
use Rattle.fleet.specs.Sights.{Sight, with_machine, with_disk, hearing, showing, shown_by, tainted, opening_told, running, acted, machine_at}

pub view_cond : {A : Type 0} (f : Sight → A) (x : A) (b : Bool) (p q : Sight × Result Report Fault) → f p.0 ≡ x → f q.0 ≡ x → f (cond b p q).0 ≡ x
view_cond f x true p q e g = e
view_cond f x false p q e g = g

-- after an act at machine i, either f of the fleet is as before, or the chip signed d
abbrev pub Blind : {A : Type 0} → (Sight → A) → Bool → Sight → ℕ → Act → Sight → Type 0
Blind f m s i a t = (f t ≡ f s) ⊎ ((d : Data) × (a ≡ Give (command.Sign d)) × (ltb i (length s.machines) ≡ true) × (m ≡ true) × (t ≡ showing (shown_by (machine_at s i) d) (with_machine i (machine_at s i) s)))

module _ {A : Type 0} (f : Sight → A) (at_machine : (i : ℕ) (x : Machine) (s : Sight) → f (with_machine i x s) ≡ f s) (at_disk : (es : List Entry) (s : Sight) → f (with_disk es s) ≡ f s) (at_heard : (d : Data) (s : Sight) → f (hearing d s) ≡ f s) where
  opening_blind : (b : Bool) (i : ℕ) (s : Sight) (x : Machine) (r : Result Data Refusal) → f (opening_told b i s x r).0 ≡ f s
  opening_blind true i s x (Ok d) = at_heard d _ ∙ at_machine i x s
  opening_blind false i s x (Ok d) = at_machine i x s
  opening_blind b i s x (Err k) = at_machine i x s

  running_blind : (i : ℕ) (s : Sight) (x : Machine) (r : Option Register) → f (running i s x r).0 ≡ f s
  running_blind i s x None = refl
  running_blind i s x (Some r) = at_machine i _ s

  pub act_blind : (m : Bool) (s : Sight) (i : ℕ) (a : Act) (b : Bool) → ltb i (length s.machines) ≡ b → Blind f m s i a (cond b (acted m i s (machine_at s i) a) (s, Err Nobody)).0
  act_blind m s i a false e = inl refl
  act_blind m s i Switch true e = inl (at_machine i _ s)
  act_blind m s i (Start n) true e = inl (at_disk _ _ ∙ at_machine i _ s)
  act_blind m s i (Load n) true e = inl (at_disk _ _ ∙ at_machine i _ s)
  act_blind m s i (Give (command.Put d)) true e = inl (view_cond f (f s) (tainted s (machine_at s i)) _ _ (at_machine i _ s) refl)
  act_blind true s i (Give (command.Sign d)) true e = inr (d, refl, e, refl, refl)
  act_blind false s i (Give (command.Sign d)) true e = inl refl
  act_blind m s i (Give command.Count) true e = inl (at_machine i _ s)
  act_blind m s i (Give (command.Close t d)) true e = inl (at_machine i _ s)
  act_blind m s i (Give (command.Open y)) true e = inl (view_cond f (f s) m _ _ (opening_blind _ i s (machine_at s i) (chip.opened (machine_at s i).chip y)) refl)
  act_blind m s i (Give command.Read) true e = inl (at_machine i _ s)
  act_blind m s i (Give command.SwitchedOn) true e = inl (at_machine i _ s)
  act_blind m s i (Keep t d) true e = inl (at_machine i _ s)
  act_blind m s i (Run d) true e = inl (view_cond f (f s) (tainted s (machine_at s i)) _ _ (running_blind i s (machine_at s i) (pushed (machine_at s i).ran d)) refl)
  act_blind m s i (CutCount c) true e = inl (at_machine i _ s)
  act_blind m s i CutClose true e = inl (at_machine i _ s)
