-- Every signature that outsiders can have was noted when the chip gave it out.
use Rattle.std.proofs.Common.{◌≡◌, ℕ, Bool, true, false, cond, ◌&&◌, ltb, ◌⊎◌, List, [], ◌∷◌, length, Some, None, Option, Ok, Err, Result, sym, refl, ap, subst, inl, inr}
use mathlib.Core.List.{Memᴰ}
use Rattle.model.specs.Term as term
use Rattle.model.specs.Term.{Term}
use Rattle.model.specs.World.{World}
use Rattle.model.specs.Effect as effect
use Rattle.model.proofs.Knowledge.{Safe, safe_map}
use Rattle.device.specs.declared.chips.Command.TheVariants as command
use Rattle.device.specs.declared.digests.Data.{Data}
use Rattle.device.specs.declared.digests.Digest.{Digest}
use Rattle.device.specs.declared.chips.Thing as value
use Rattle.device.specs.declared.refusals.Refusal.{Refusal}
use Rattle.device.specs.Rows.{words}
use Rattle.boot.specs.declared.machines.Machine.{Machine}
use Rattle.boot.specs.Starts.{start_of, ask_of}
use Rattle.boot.specs.Worlds.{after_row}
use Rattle.verifier.specs.declared.judges.Fault.{Fault as JudgeFault}
use Rattle.verifier.specs.declared.judges.Said.{Said}
use Rattle.verifier.specs.declared.judges.Said.TheVariants as said
use Rattle.verifier.specs.declared.judges.Word.{Word}
use Rattle.verifier.specs.declared.judges.Word.TheVariants as word
use Rattle.verifier.specs.Seats.{Seat, office_of, net_of}
use Rattle.fleet.specs.declared.fleets.Act.{Act}
use Rattle.fleet.specs.declared.fleets.Act.TheVariants.{Switch, Start, Load, Give, Keep, Run as RunBad, CutCount, CutClose}
use Rattle.fleet.specs.declared.fleets.Event.{Event}
use Rattle.fleet.specs.declared.fleets.Event.TheVariants.{At, Office, Net, Fall, Write, Wipe}
use Rattle.fleet.specs.declared.fleets.Shown.{Shown}
use Rattle.fleet.specs.Runs.{Allowed, after_at, after}
use Rattle.fleet.specs.Sights.{Sight, machine_at, seat_at, tainted}
use Rattle.fleet.specs.Worlds.{Setting, term_by, term_of, Brought, room, may_count, may_close, fits, ActAllowed, after_load, opened_by, after_act, when_done, after_word, after_net}

abbrev Free : ℕ → Type 0
Free n = Unit {0}

-- what chip a signed was noted
abbrev pub Noted : Setting → List Shown → ℕ → Term → Type 0
Noted o xs a u = (x : Shown) × Memᴰ x xs × (x.signature.chip ≡ a) × (u ≡ effect.statement (term_of o x.signature.«data») (words x.signature.register))

abbrev pub Known : Setting → List Shown → List Term → Type 0
Known o xs heard = (u : Term) → Memᴰ u heard → Safe Free (Noted o xs) u

-- one term more was said at most, and each signature in it was noted
abbrev Adds : Setting → List Shown → World → World → Type 0
Adds o xs w v = (v.heard ≡ w.heard) ⊎ ((u : Term) × (v.heard ≡ u ∷ w.heard) × Safe Free (Noted o xs) u)

adds_cond : (o : Setting) (xs : List Shown) (w : World) (b : Bool) (v u : World) → Adds o xs w v → Adds o xs w u → Adds o xs w (cond b v u)
adds_cond o xs w true v u f g = f
adds_cond o xs w false v u f g = g

heard_cond : (x : List Term) (b : Bool) (v u : World) → v.heard ≡ x → u.heard ≡ x → (cond b v u).heard ≡ x
heard_cond x true v u e f = e
heard_cond x false v u e f = f

-- data alone holds no signature
plain : (o : Setting) (xs : List Shown) (n : Option ℕ) → Safe Free (Noted o xs) (term_by n)
plain o xs (Some n) = tt
plain o xs None = tt

row_heard : (a : ℕ) (ps : List term.Digest) (w : World) → (after_row a ps w).heard ≡ w.heard
row_heard a [] w = refl
row_heard a (p ∷ ps) w = row_heard a ps w

load_heard : (i : ℕ) (r : Result Machine Refusal) (w : World) → (after_load i r w).heard ≡ w.heard
load_heard i (Ok x) w = refl
load_heard i (Err k) w = refl

opened_adds : (o : Setting) (xs : List Shown) (b : Bool) (i : ℕ) (x : Machine) (y : value.Thing) (w : World) (f : Bool) (h : f ≡ true → Brought o i y w) → Adds o xs w (opened_by o b i x y w f h)
opened_adds o xs true i x y w true h = inr ((h refl).thing.what, refl, subst (λ u. Safe Free (Noted o xs) u) (sym (h refl).inside) (plain o xs (o.names y.content.«data».bytes)))
opened_adds o xs false i x y w true h = inl refl
opened_adds o xs b i x y w false h = inl refl

act_adds : (o : Setting) (xs : List Shown) (m : Bool) (i : ℕ) (s : Sight) (x : Machine) (a : Act) (w : World) (h : ActAllowed o m i x a w) → ((d : Data) → a ≡ Give (command.Sign d) → m ≡ true → Noted o xs i (effect.statement (term_of o d) (w.machines i).register)) → Adds o xs w (after_act o m i s x a w h)
act_adds o xs m i s x Switch w h g = inl refl
act_adds o xs m i s x (Start n) w h g = inl (row_heard i (words (start_of x s.first s.disk n).1.0.ran) w)
act_adds o xs m i s x (Load n) w h g = inl (load_heard i (ask_of x s.disk n).1 w)
act_adds o xs m i s x (Give (command.Put d)) w h g = inl (heard_cond w.heard (tainted s x && room x.chip.register) _ _ refl refl)
act_adds o xs true i s x (Give (command.Sign d)) w h g = inr (_, refl, (g d refl refl, (plain o xs (o.names d.bytes), tt)))
act_adds o xs false i s x (Give (command.Sign d)) w h g = inl refl
act_adds o xs m i s x (Give command.Count) w h g = inl (heard_cond w.heard (may_count x) _ _ refl refl)
act_adds o xs m i s x (Give (command.Close t d)) w h g = adds_cond o xs w (may_close x) _ _ (inr (_, refl, tt)) (inl refl)
act_adds o xs true i s x (Give (command.Open y)) w h g = opened_adds o xs (tainted s x) i x y w (fits x y) (h refl)
act_adds o xs false i s x (Give (command.Open y)) w h g = inl refl
act_adds o xs m i s x (Give command.Read) w h g = inl refl
act_adds o xs m i s x (Give command.SwitchedOn) w h g = inl refl
act_adds o xs m i s x (Keep t d) w h g = adds_cond o xs w (may_close x) _ _ (inr (_, refl, tt)) (inl refl)
act_adds o xs m i s x (RunBad d) w h g = inl (heard_cond w.heard (tainted s x && room x.ran) _ _ refl refl)
act_adds o xs m i s x (CutCount b) w h g = inl (heard_cond w.heard (b && may_count x) _ _ refl refl)
act_adds o xs m i s x CutClose w h g = inl (heard_cond w.heard (may_close x) _ _ refl refl)

-- ---- words to a judge

done_heard : (x : Result Said JudgeFault) (v w : World) → v.heard ≡ w.heard → (when_done x v w).heard ≡ w.heard
done_heard (Ok said.Done) v w e = e
done_heard (Ok (said.Asks a q)) v w e = refl
done_heard (Ok (said.Accepted z)) v w e = refl
done_heard (Err k) v w e = refl

word_adds : (o : Setting) (xs : List Shown) (j : ℕ) (d : Seat) (x : Word) (ds : List Digest) (r : Seat × Result Said JudgeFault) (w : World) → Adds o xs w (after_word o j d x ds r w)
word_adds o xs j d (word.Ask a) ds (e, Ok (said.Asks b q)) w = inr (_, refl, tt)
word_adds o xs j d (word.Ask a) ds (e, Ok said.Done) w = inl refl
word_adds o xs j d (word.Ask a) ds (e, Ok (said.Accepted z)) w = inl refl
word_adds o xs j d (word.Ask a) ds (e, Err k) w = inl refl
word_adds o xs j d (word.List n) ds r w = inl (done_heard r.1 _ w refl)
word_adds o xs j d word.Good ds r w = inl refl
word_adds o xs j d (word.Chip a) ds r w = inl (done_heard r.1 _ w refl)
word_adds o xs j d (word.Ticks n) ds r w = inl refl
word_adds o xs j d (word.Answer p) ds (e, Ok said.Done) w = inl refl
word_adds o xs j d (word.Answer p) ds (e, Ok (said.Asks b q)) w = inl refl
word_adds o xs j d (word.Answer p) ds (e, Ok (said.Accepted z)) w = inl refl
word_adds o xs j d (word.Answer p) ds (e, Err k) w = inl refl

net_adds : (o : Setting) (xs : List Shown) (j : ℕ) (d : Seat) (x : Word) (r : Seat × Result Said JudgeFault) (w : World) → Adds o xs w (after_net o j d x r w)
net_adds o xs j d (word.Ask a) r w = inl refl
net_adds o xs j d (word.List n) r w = inl refl
net_adds o xs j d word.Good r w = inl refl
net_adds o xs j d (word.Chip a) r w = inl refl
net_adds o xs j d (word.Ticks n) r w = inl refl
net_adds o xs j d (word.Answer p) r w = word_adds o xs j d (word.Answer p) [] r w

-- ---- every event

-- the signature of this event, if it is one, is noted in xs
abbrev Notes : Setting → List Shown → Bool → Sight → Event → World → Type 0
Notes o xs m s e w = (i : ℕ) (d : Data) → e ≡ At i (Give (command.Sign d)) → ltb i (length s.machines) ≡ true → m ≡ true → Noted o xs i (effect.statement (term_of o d) (w.machines i).register)

event_adds : (o : Setting) (xs : List Shown) (m : Bool) (s : Sight) (e : Event) (ds : List Digest) (w : World) (h : Allowed o m s e ds w) → Notes o xs m s e w → Adds o xs w (after o m s e ds w h)
event_adds o xs m s (At i a) ds w h g = by (ltb i (length s.machines)) refl h
  where
    by : (b : Bool) → ltb i (length s.machines) ≡ b → (h : b ≡ true → ActAllowed o m i (machine_at s i) a w) → Adds o xs w (after_at o m i s a w b h)
    by true e h = act_adds o xs m i s (machine_at s i) a w (h refl) (λ d is found. g i d (ap (At i) is) e found)
    by false e h = inl refl
event_adds o xs m s (Office j x q) ds w h g = adds_cond o xs w (ltb j (length s.seats)) _ _ (adds_cond o xs w m _ _ (word_adds o xs j (seat_at s j) x ds (office_of true (seat_at s j) x ds q) w) (inl refl)) (inl refl)
event_adds o xs m s (Net j x) ds w h g = adds_cond o xs w (ltb j (length s.seats)) _ _ (net_adds o xs j (seat_at s j) x (net_of (seat_at s j) x) w) (inl refl)
event_adds o xs m s (Fall j) ds w h g = adds_cond o xs w (ltb j (length s.seats)) _ w (inl refl) (inl refl)
event_adds o xs m s (Write n f k) ds w h g = inl refl
event_adds o xs m s Wipe ds w h g = inl refl

-- what was noted stays noted, and what is said now is noted
pub known_next : (o : Setting) (xs ys : List Shown) (m : Bool) (s : Sight) (e : Event) (ds : List Digest) (w : World) (h : Allowed o m s e ds w) → ((x : Shown) → Memᴰ x xs → Memᴰ x ys) → Notes o ys m s e w → Known o xs w.heard → Known o ys (after o m s e ds w h).heard
known_next o xs ys m s e ds w h more g old = by (event_adds o ys m s e ds w h g)
  where
    before : Known o ys w.heard
    before u k = safe_map (λ n _. tt) (λ a t (x, there, chip, is). (x, more x there, chip, is)) u (old u k)

    by : Adds o ys w (after o m s e ds w h) → Known o ys (after o m s e ds w h).heard
    by (inl same) = subst (λ hs. Known o ys hs) (sym same) before
    by (inr (u, is, safe)) = subst (λ hs. Known o ys hs) (sym is) each
      where
        each : Known o ys (u ∷ w.heard)
        each t (Memᴰ.head same) = subst (λ z. Safe Free (Noted o ys) z) (sym same) safe
        each t (Memᴰ.tail k) = before t k
