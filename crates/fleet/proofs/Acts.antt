-- Each event at a machine is matched by steps of the world.
use Rattle.std.proofs.Common.{◌≡◌, ℕ, ◌+◌, ◌<◌, Bool, true, false, cond, not, ◌&&◌, eqb, ltb, List, [], ◌∷◌, ◌++◌, map, reverse, length, Some, None, Option, Ok, Err, Result, sym, refl, ap, ◌∙◌, subst, arith}
use mathlib.Core.Bool.{and_assoc, and-true}
use mathlib.Core.List.{reverse-cons}
use Rattle.std.proofs.lemmas.List.{map-append}
use Rattle.model.specs.Term as term
use Rattle.model.specs.Term.{Term, Derives, has}
use Rattle.model.specs.World as world
use Rattle.model.specs.World.{Programs, World, all_good}
use Rattle.model.specs.Effect as effect
use Rattle.model.specs.Effect.{on_machine, honest}
use Rattle.model.specs.Step as step
use Rattle.model.specs.Run.{here, onward}
use Rattle.model.proofs.Places.{at_same, at_other}
use Rattle.model.proofs.Knowledge.{Safe}
use Rattle.device.specs.declared.chips.Chip.{Chip}
use Rattle.device.specs.declared.chips.Command.TheVariants as command
use Rattle.device.specs.declared.chips.Target.{Target}
use Rattle.device.specs.declared.chips.Thing.{Thing}
use Rattle.device.specs.declared.digests.Data.{Data}
use Rattle.device.specs.declared.digests.Digest.{Digest}
use Rattle.device.specs.declared.refusals.Refusal.{Refusal}
use Rattle.device.specs.declared.refusals.Refusal.TheVariants as refusal
use Rattle.device.specs.declared.registers.Register.{Register}
use Rattle.device.specs.Commands as chip
use Rattle.device.specs.Rows.{row, words, pushed, pushed_at}
use Rattle.device.proofs.Rows.{words_more}
use Rattle.device.specs.Things.{same_data, is_row, sealed_by_of}
use Rattle.device.specs.Worlds as chips
use Rattle.device.specs.Worlds.{target_of}
use Rattle.device.proofs.Worlds as steps
use Rattle.boot.specs.declared.disks.Name.{Name}
use Rattle.boot.specs.declared.machines.Machine.{Machine}
use Rattle.boot.specs.Machines as machine
use Rattle.boot.specs.Starts.{start_of, ask_of}
use Rattle.boot.specs.Worlds as boot
use Rattle.boot.proofs.Worlds as boots
use Rattle.verifier.specs.Searches.{some, is_digest}
use Rattle.fleet.specs.declared.fleets.Act.{Act}
use Rattle.fleet.specs.declared.fleets.Act.TheVariants.{Switch, Start, Load, Give, Keep, Run as RunBad, CutCount, CutClose}
use Rattle.fleet.specs.Sights.{Sight, tainted, any_bad_of, with_machine, with_chip, with_disk, showing, or_before, chip_after, opening_told, running, machine_at, acted}
use Rattle.fleet.specs.declared.fleets.Fault.{Fault}
use Rattle.fleet.specs.declared.fleets.Report.{Report}
use Rattle.fleet.specs.declared.fleets.Shown.{Shown}
use Rattle.boot.specs.declared.disks.Entry.{Entry}
use Rattle.fleet.specs.Worlds.{Setting, term_of, FleetStands, Brought, room, may_count, may_close, ActAllowed, after_load, opened_by, after_act, Goes, MachineEvents}
use Rattle.fleet.proofs.News.{Any, no_news}
use Rattle.fleet.proofs.Standing.{moved, Told, told, told_more, told_heard, on_disk, on_shown}

-- ---- registers with room, and rows of good programs

room_at : (r : Register) (d : Digest) (b : Bool) (e : ltb r.len 16 ≡ b) (q : Register) → pushed_at r d b e ≡ Some q → b ≡ true
room_at r d true e q is = refl
room_at r d false e q is = absurd (grind arith)

room_some : (r : Register) (d : Digest) (q : Register) → pushed r d ≡ Some q → room r ≡ true
room_some r d q is = room_at r d (ltb r.len 16) refl q is

room_out : (r : Register) (d : Digest) (b : Bool) (e : ltb r.len 16 ≡ b) → pushed_at r d b e ≡ None → b ≡ false
room_out r d true e is = absurd (grind arith)
room_out r d false e is = refl

room_none : (r : Register) (d : Digest) → pushed r d ≡ None → room r ≡ false
room_none r d is = room_out r d (ltb r.len 16) refl is

good_append : (g : term.Digest → Bool) (xs ys : List term.Digest) → all_good g (xs ++ ys) ≡ (all_good g xs && all_good g ys)
unfolding all_good
good_append g [] ys = refl
good_append g (x ∷ xs) ys = ap (λ b. g x && b) (good_append g xs ys) ∙ sym (and_assoc (g x) (all_good g xs) (all_good g ys))

good_one : (g : term.Digest → Bool) (d : term.Digest) → all_good g (d ∷ []) ≡ g d
unfolding all_good
good_one g d = and-true (g d)

any_cons : (bad : List Digest) (d : Digest) (ds : List Digest) → any_bad_of bad (d ∷ ds) ≡ cond (some (is_digest d) bad) true (any_bad_of bad ds)
unfolding any_bad_of
any_cons bad d ds = refl

any_nil : (bad : List Digest) → any_bad_of bad [] ≡ false
unfolding any_bad_of
any_nil bad = refl

not_either : (a b : Bool) → (not b && not a) ≡ not (cond a true b)
not_either true true = refl
not_either true false = refl
not_either false true = refl
not_either false false = refl

good_none : (g : term.Digest → Bool) → all_good g [] ≡ true
unfolding all_good
good_none g = refl

good_not_bad : (g : term.Digest → Bool) (bad : List Digest) → ((d : Digest) → g d.bytes ≡ not (some (is_digest d) bad)) → (ds : List Digest) → all_good g (map (λ d. d.bytes) (reverse ds)) ≡ not (any_bad_of bad ds)
good_not_bad g bad h [] = good_none g ∙ ap not (sym (any_nil bad))
good_not_bad g bad h (d ∷ ds) =
    ap (λ l. all_good g (map (λ d. d.bytes) l)) (reverse-cons d ds) ∙ ap (all_good g) (map-append (λ d. d.bytes) (reverse ds) (d ∷ [])) ∙ good_append g (map (λ d. d.bytes) (reverse ds)) (d.bytes ∷ []) ∙ (λ i. good_not_bad g bad h ds i && (good_one g d.bytes ∙ h d) i) ∙ not_either (some (is_digest d) bad) (any_bad_of bad ds) ∙ ap not (sym (any_cons bad d ds))

module _ (o : Setting) (s : Sight) (i : ℕ) (w : World) (below : i < length s.machines) (f : FleetStands o s w) where
  abbrev x : Machine
  x = machine_at s i

  st : boot.Stands x w i
  st = f.machines_stand i below

  -- the machine changed in the world at its place alone, and nothing was said
  quiet : (y : Machine) (g : world.Machine → world.Machine) → chips.Stands y.chip (on_machine i g w) i → words y.ran ≡ (g (w.machines i)).ran → FleetStands o (with_machine i y s) (on_machine i g w)
  quiet y g c ran = moved o s i y w (on_machine i g w) s.heard below f (record { chip_stands = c; ran_is = ran ∙ sym (ap (λ m. m.ran) (at_same i (g (w.machines i)) w.machines)) }) (λ j other. at_other i _ w.machines j other) refl (told f)

  -- nothing happened
  same : Goes o (with_machine i x s) w w
  same = record { steps = 0; run = here; stands = moved o s i x w w s.heard below f st (λ j _. refl) refl (told f) }

  -- one step at the machine, by which only its chip changed
  one_step : (c : Chip) (g : world.Machine → world.Machine) → step.Step o.programs w (on_machine i g w) × chips.Stands c (on_machine i g w) i → (g (w.machines i)).ran ≡ (w.machines i).ran → Goes o (with_machine i (with_chip x c) s) w (on_machine i g w)
  one_step c g (t, h) ran = record { steps = 1; run = onward here t; stands = quiet (with_chip x c) g h (st.ran_is ∙ sym ran) }

  switch_goes : Goes o (with_machine i (machine.switched x) s) w (on_machine i effect.switched w)
  switch_goes =
      let (t, h) = (steps.switches x.chip).switches o.programs w i st.chip_stands in
      record { steps = 1; run = onward here t; stands = quiet (machine.switched x) effect.switched h refl }

  abbrev counts : Bool → Result Chip Refusal
  counts b = cond b (Ok (record { id = x.chip.id; register = x.chip.register; counter = x.chip.counter + 1; number = x.chip.number })) (Err refusal.UsedUp)

  count_goes : (b : Bool) → may_count x ≡ b → Goes o (with_machine i (with_chip x (chip_after x.chip (chip.as_counter (counts b)))) s) w (cond b (on_machine i effect.counted w) w)
  count_goes true e = one_step _ effect.counted ((steps.stepped x.chip command.Count _ refl).counts o.programs w i _ _ st.chip_stands (ap (λ b. chip.as_counter (counts b)) e)).0 refl
  count_goes false e = same

  -- ---- something is said that is no news

  -- outsiders have no drawn number but those that the fleet has noted
  abbrev Noted : ℕ → Type 0
  Noted n = (d : Data) → o.names d.bytes ≡ Some n → some (same_data d) s.heard ≡ true

  noted : (n : ℕ) → Derives w.heard (honest n) → Noted n
  noted n h d e = f.had_noted d n e h

  saying : (y : Machine) (v : World) (t : Term) → boot.Stands y v i → ((j : ℕ) → (j ≡ i → ⊥) → v.machines j ≡ w.machines j) → v.judges ≡ w.judges → v.heard ≡ t ∷ w.heard → Safe (λ k. (n : ℕ) → term.Nonce k ≡ honest n → Noted n) Any t → FleetStands o (with_machine i y s) v
  saying y v t h others judges e safe = moved o s i y w v s.heard below f h others judges (subst (λ l. Told o s.heard l) (sym e) (told_more o s.heard w.heard t (told f) safe))

  sign_goes : (d : Data) → Derives w.heard (term_of o d) → Goes o (with_machine i x s) w (effect.saying (term.Sign i (effect.statement (term_of o d) (w.machines i).register)) w)
  sign_goes d h =
      let (t, c) = (steps.stepped x.chip (command.Sign d) _ refl).signs o.programs w i (term_of o d) st.chip_stands h in
      record { steps = 1; run = onward here t; stands = saying x _ _ (record { chip_stands = c; ran_is = st.ran_is }) (λ j _. refl) refl refl (tt, (no_news Noted w.heard (term_of o d) noted h, tt)) }

  -- ---- closing

  abbrev closes : (t : Target) (d : Data) → Bool → Result (Chip × Thing) Refusal
  closes t d b = cond b (Ok (record { id = x.chip.id; register = x.chip.register; counter = x.chip.counter; number = x.chip.number + 1 }, chip.sealed x.chip.id (chip.content x.chip t d))) (Err refusal.UsedUp)

  close_given_goes : (t : Target) (d : Data) (b : Bool) → may_close x ≡ b → (b ≡ true → Derives w.heard (term_of o d)) → Goes o (with_machine i (with_chip x (chip_after x.chip (chip.as_closed (closes t d b)))) s) w (cond b (effect.giving_out i (effect.thing (target_of t) (term_of o d) false (w.machines i)) w) w)
  close_given_goes t d true e h =
      let (z, c) = (steps.stepped x.chip (command.Close t d) _ refl).closes_given o.programs w i (term_of o d) _ _ st.chip_stands (ap (λ b. chip.as_closed (closes t d b)) e) (h refl) in
      record { steps = 1; run = onward here z; stands = saying _ _ _ (record { chip_stands = c; ran_is = st.ran_is ∙ sym (ap (λ m. m.ran) (at_same i _ w.machines)) }) (λ j other. at_other i _ w.machines j other) refl refl tt }
  close_given_goes t d false e h = same

  keep_goes : (t : Target) (d : Data) (b : Bool) → may_close x ≡ b → Goes o (with_machine i (with_chip x (chip_after x.chip (chip.as_closed (closes t d b)))) s) w (cond b (effect.having_drawn (effect.giving_out i (effect.thing (target_of t) (honest w.next) true (w.machines i)) w)) w)
  keep_goes t d true e =
      let (z, c) = (steps.stepped x.chip (command.Close t d) _ refl).closes o.programs w i _ _ st.chip_stands (ap (λ b. chip.as_closed (closes t d b)) e) in
      record { steps = 1; run = onward here z; stands = saying _ _ _ (record { chip_stands = c; ran_is = st.ran_is ∙ sym (ap (λ m. m.ran) (at_same i _ w.machines)) }) (λ j other. at_other i _ w.machines j other) refl refl tt }
  keep_goes t d false e = same

  -- ---- power is lost

  -- after a step of the chip the machine is switched off and on
  cut : (c : Chip) (g : world.Machine → world.Machine) → step.Step o.programs w (on_machine i g w) × chips.Stands c (on_machine i g w) i → Goes o (with_machine i (machine.switched (with_chip x c)) s) w (on_machine i effect.switched (on_machine i g w))
  cut c g (t, h) =
      let (u, k) = (steps.switches c).switches o.programs (on_machine i g w) i h in
      record { steps = 2; run = onward (onward here t) u; stands = moved o s i _ w _ s.heard below f (record { chip_stands = k; ran_is = sym (ap (λ m. m.ran) (at_same i _ (on_machine i g w).machines)) }) (λ j other. at_other i _ (on_machine i g w).machines j other ∙ at_other i _ w.machines j other) refl (told f) }

  cut_close_goes : (t : Target) (d : Data) (b : Bool) → may_close x ≡ b → Goes o (with_machine i (machine.switched (with_chip x (chip_after x.chip (closes t d b)))) s) w (on_machine i effect.switched (cond b (on_machine i effect.passed_over w) w))
  cut_close_goes t d true e = cut _ effect.passed_over ((steps.stepped x.chip (command.Close t d) _ refl).passes_over o.programs w i _ _ st.chip_stands (ap (λ b. chip.as_closed (closes t d b)) e))
  cut_close_goes t d false e = switch_goes

  cut_count_goes : (r b : Bool) → may_count x ≡ b → Goes o (with_machine i (machine.switched (with_chip x (cond r (or_before x.chip (counts b)) x.chip))) s) w (on_machine i effect.switched (cond (r && b) (on_machine i effect.counted w) w))
  cut_count_goes false b e = switch_goes
  cut_count_goes true true e = cut _ effect.counted ((steps.stepped x.chip command.Count _ refl).counts o.programs w i _ _ st.chip_stands (ap (λ b. chip.as_counter (counts b)) e)).0
  cut_count_goes true false e = switch_goes

  -- ---- bad programs

  -- nothing at all happened
  still : Goes o s w w
  still = record { steps = 0; run = here; stands = f }

  -- what the fleet knows of bad programs is so in the world
  taint : (b : Bool) → tainted s x ≡ b → all_good o.programs.good (w.machines i).ran ≡ not b
  taint b e = ap (all_good o.programs.good) (sym st.ran_is) ∙ good_not_bad o.programs.good s.bad f.good_is (row x.ran) ∙ ap not e

  put_goes : (d : Digest) (b : Bool) → tainted s x ≡ b → (p : Option Register) → pushed x.chip.register d ≡ p → Goes o (cond b (with_machine i (with_chip x (chip_after x.chip (chip.as_done (chip.put_by x.chip p)))) s) s) w (cond (b && room x.chip.register) (on_machine i (effect.put_unloaded d.bytes) w) w)
  put_goes d false e p is = still
  put_goes d true e (Some r) is =
      subst (λ k. Goes o (with_machine i (with_chip x (chip.with_register r x.chip)) s) w (cond k (on_machine i (effect.put_unloaded d.bytes) w) w)) (sym (room_some x.chip.register d r is)) (one_step _ (effect.put_unloaded d.bytes) ((steps.stepped x.chip (command.Put d) _ refl).puts_only o.programs w i _ st.chip_stands (ap (λ k. chip.as_done (chip.put_by x.chip k)) is) (taint true e)) refl)
  put_goes d true e None is =
      subst (λ k. Goes o (with_machine i x s) w (cond k (on_machine i (effect.put_unloaded d.bytes) w) w)) (sym (room_none x.chip.register d is)) same

  run_goes : (d : Digest) (b : Bool) → tainted s x ≡ b → (p : Option Register) → pushed x.ran d ≡ p → Goes o (cond b (running i s x p).0 s) w (cond (b && room x.ran) (on_machine i (effect.loaded_unput d.bytes) w) w)
  run_goes d false e p is = still
  run_goes d true e None is = subst (λ k. Goes o s w (cond k (on_machine i (effect.loaded_unput d.bytes) w) w)) (sym (room_none x.ran d is)) still
  run_goes d true e (Some r) is =
      subst (λ k. Goes o (with_machine i (record { chip = x.chip; ran = r }) s) w (cond k (on_machine i (effect.loaded_unput d.bytes) w) w)) (sym (room_some x.ran d r is)) (record { steps = 1; run = onward here (step.loads_only w i d.bytes (taint true e)); stands = quiet (record { chip = x.chip; ran = r }) (effect.loaded_unput d.bytes) (steps.stands x.chip _ i _ (at_same i _ w.machines) st.chip_stands.is (record { register_is = st.chip_stands.like.register_is; counter_is = st.chip_stands.like.counter_is; number_is = st.chip_stands.like.number_is })) (words_more x.ran r d is ∙ ap (λ l. d.bytes ∷ l) st.ran_is) })

  -- ---- starts and loads

  after_else : (ds : List term.Digest) (j : ℕ) → (j ≡ i → ⊥) → (boot.after_row i ds w).machines j ≡ w.machines j
  after_else [] j other = at_other i _ w.machines j other
  after_else (d ∷ ds) j other = at_other i _ (boot.after_row i ds w).machines j other ∙ after_else ds j other

  after_judges : (ds : List term.Digest) → (boot.after_row i ds w).judges ≡ w.judges
  after_judges [] = refl
  after_judges (d ∷ ds) = after_judges ds

  after_heard : (ds : List term.Digest) → (boot.after_row i ds w).heard ≡ w.heard
  after_heard [] = refl
  after_heard (d ∷ ds) = after_heard ds

  start_goes : (n : Name) → Goes o (with_machine i (start_of x s.first s.disk n).1.0 s) w (boot.after_row i (words (start_of x s.first s.disk n).1.0.ran) w)
  start_goes n =
      let ds : List term.Digest = words (start_of x s.first s.disk n).1.0.ran in
      let b = boots.starts x s.first s.disk _ n _ refl o.programs w i st (sym f.first_is) in
      record { steps = _; run = b.run; stands = moved o s i _ w _ s.heard below f b.stands (after_else ds) (after_judges ds) (subst (λ l. Told o s.heard l) (sym (after_heard ds)) (told f)) }

  load_goes : (n : Name) (r : Result Machine Refusal) → r ≡ (ask_of x s.disk n).1 → Goes o (with_machine i (or_before x r) s) w (after_load i r w)
  load_goes n (Ok y) is =
      let (t, h) = (boots.asks x s.disk _ n _ (λ k. ((ask_of x s.disk n).0, is k))).loads o.programs w i y st refl in
      record { steps = 1; run = onward here t; stands = moved o s i y w _ s.heard below f h (λ j other. at_other i _ w.machines j other) refl (told f) }
  load_goes n (Err k) is = same

  -- ---- opening

  abbrev opens : Thing → (b₁ b₂ b₃ : Bool) → Result Data Refusal
  opens y b₁ b₂ b₃ = cond b₁ (cond b₂ (cond b₃ (Ok y.content.«data») (Err refusal.OtherCounter)) (Err refusal.OtherRow)) (Err refusal.BadSeal)

  open_goes : (y : Thing) (b b₁ b₂ b₃ : Bool) → tainted s x ≡ b → chip.opened x.chip y ≡ opens y b₁ b₂ b₃ → (h : cond b₁ (cond b₂ b₃ false) false ≡ true → Brought o i y w) → Goes o (opening_told b i s x (opens y b₁ b₂ b₃)).0 w (opened_by o b i x y w (cond b₁ (cond b₂ b₃ false) false) h)
  open_goes y b false b₂ b₃ e is h = same
  open_goes y b true false b₃ e is h = same
  open_goes y b true true false e is h = same
  open_goes y false true true true e is h =
      let z : Brought o i y w = h refl in
      let (t, c) = (steps.stepped x.chip (command.Open y) _ refl).opens o.programs w i z.thing _ _ st.chip_stands (ap (chip.as_opened x.chip) is) z.holds z.given_out z.at_hand (taint false e) in
      record { steps = 1; run = onward here t; stands = moved o s i x w _ s.heard below f (record { chip_stands = record { is = st.chip_stands.is; like = st.chip_stands.like }; ran_is = st.ran_is }) (λ j _. refl) refl (told f) }
  open_goes y true true true true e is h =
      let z : Brought o i y w = h refl in
      let (t, c) = (steps.stepped x.chip (command.Open y) _ refl).opens_told o.programs w i z.thing _ _ st.chip_stands (ap (chip.as_opened x.chip) is) z.holds z.given_out z.at_hand (taint true e) in
      record { steps = 1; run = onward here t; stands = moved o s i x w _ (y.content.«data» ∷ s.heard) below f (record { chip_stands = record { is = st.chip_stands.is; like = st.chip_stands.like }; ran_is = st.ran_is }) (λ j _. refl) refl (subst (λ u. Told o (y.content.«data» ∷ s.heard) (u ∷ w.heard)) (sym z.inside) (told_heard o s.heard w.heard y.content.«data» (told f))) }

  -- ---- every event

  shown_goes : {t : Sight} {v : World} (z : Shown) → Goes o t w v → Goes o (showing z t) w v
  shown_goes z g = record { steps = g.steps; run = g.run; stands = on_shown z g.stands }

  disk_goes : {t : Sight} {v : World} (es : List Entry) → Goes o t w v → Goes o (with_disk es t) w v
  disk_goes es g = record { steps = g.steps; run = g.run; stands = on_disk es g.stands }

  cond_sight : (b : Bool) (p q : Sight × Result Report Fault) (v : World) → Goes o (cond b p.0 q.0) w v → Goes o (cond b p q).0 w v
  cond_sight true p q v g = g
  cond_sight false p q v g = g

  act_goes : (m : Bool) (a : Act) (h : ActAllowed o m i x a w) → Goes o (acted m i s x a).0 w (after_act o m i s x a w h)
  act_goes m Switch h = switch_goes
  act_goes m (Start n) h = disk_goes _ (start_goes n)
  act_goes m (Load n) h = disk_goes _ (load_goes n (ask_of x s.disk n).1 refl)
  act_goes m (Give (command.Put d)) h = cond_sight (tainted s x) _ _ _ (put_goes d (tainted s x) refl (pushed x.chip.register d) refl)
  act_goes true (Give (command.Sign d)) h = shown_goes _ (sign_goes d (h refl))
  act_goes false (Give (command.Sign d)) h = still
  act_goes m (Give command.Count) h = count_goes (may_count x) refl
  act_goes m (Give (command.Close t d)) h = close_given_goes t d (may_close x) refl h
  act_goes true (Give (command.Open y)) h = open_goes y (tainted s x) (sealed_by_of x.chip.id y) (is_row y.content.target x.chip.register) (eqb y.content.counter x.chip.counter) refl refl (h refl)
  act_goes false (Give (command.Open y)) h = still
  act_goes m (Give command.Read) h = same
  act_goes m (Give command.SwitchedOn) h = same
  act_goes m (Keep t d) h = keep_goes t d (may_close x) refl
  act_goes m (RunBad d) h = cond_sight (tainted s x) _ _ _ (run_goes d (tainted s x) refl (pushed x.ran d) refl)
  act_goes m (CutCount b) h = cut_count_goes b (may_count x) refl
  act_goes m CutClose h = cut_close_goes _ _ (may_close x) refl

pub machine_events : MachineEvents
machine_events o m s i a w h below f = act_goes o s i w below f m a h
