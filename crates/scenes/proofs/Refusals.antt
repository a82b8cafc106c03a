-- A refused step changes nothing.
use Rattle.std.proofs.Common.{◌≡◌, ℕ, Bool, true, false, List, Some, None, Option, Result, sym, refl, subst}
use Rattle.device.specs.declared.chips.Signature.{Signature}
use Rattle.device.specs.declared.chips.Thing.{Thing}
use Rattle.device.specs.declared.digests.Data.{Data}
use Rattle.device.specs.declared.digests.Digest.{Digest}
use Rattle.script.specs.declared.faults.Fault.{Fault}
use Rattle.scenes.specs.declared.stages.Outcome.{Outcome}
use Rattle.scenes.specs.declared.steps.Step.{Step}
use Rattle.scenes.specs.declared.steps.Step.TheVariants as step
use Rattle.scenes.specs.Kept.{Scene}
use Rattle.scenes.specs.Scenes.{latest, thing_in, signature_in, opened_by, answered_by, taken, Refuses}

opens : (f : Bool) (s : Scene) (i : ℕ) (y : Option Thing) → Refuses s (opened_by f s i y).0 (opened_by f s i y).1
opens f s i None = refl
opens f s i (Some y) = tt

answers : (f : Bool) (s : Scene) (j a : ℕ) (d : Data) (n : ℕ) (g : Option Signature) → Refuses s (answered_by f s j a d n g).0 (answered_by f s j a d n g).1
answers f s j a d n None = refl
answers f s j a d n (Some g) = tt

refuses_at : (m f : Bool) (s : Scene) (x : Step) (ds : List Digest) → Refuses s (taken m f s x ds).0 (taken m f s x ds).1
refuses_at m f s (step.Fleet a b) ds = refl
refuses_at m f s (step.Play e) ds = tt
refuses_at true f s (step.Keep e n) ds = tt
refuses_at false f s (step.Keep e n) ds = refl
refuses_at m f s (step.Open i n) ds = opens f s i (thing_in (latest n s.kept))
refuses_at m f s (step.Answer j a d l n) ds = answers f s j a d l (signature_in (latest n s.kept))
refuses_at m f s (step.Has d) ds = tt

pub refuses : (m f : Bool) (s : Scene) (x : Step) (ds : List Digest) (t : Scene) (r : Result Outcome Fault) → (t, r) ≡ taken m f s x ds → Refuses s t r
refuses m f s x ds t r e = subst (λ q. Refuses s q.0 q.1) (sym e) (refuses_at m f s x ds)
