-- Starting and loading are the steps that they say.
use Rattle.std.proofs.Common.{◌≡◌, ℕ, zero, suc, Bool, true, false, cond, eqb, List, [], ◌∷◌, map, length, Some, None, Option, Ok, Err, Result, sym, refl, ap, ◌∙◌, subst, arith}
use Rattle.std.proofs.lemmas.Bool.Decides.{nat_tests}
use Rattle.model.specs.Term as term
use Rattle.model.specs.World.{Programs, World}
use Rattle.model.specs.Effect as effect
use Rattle.model.specs.Step as step
use Rattle.model.specs.Run.{Run, here, onward}
use Rattle.model.specs.Promise.{Begins}
use Rattle.model.proofs.Places.{at_same}
use Rattle.device.specs.declared.chips.Answer.TheVariants.{Done}
use Rattle.device.specs.declared.chips.Command.TheVariants.{Put}
use Rattle.device.specs.declared.digests.Digest.{Digest}
use Rattle.device.specs.declared.refusals.Refusal.{Refusal}
use Rattle.device.specs.declared.refusals.Refusal.TheVariants.{Malformed}
use Rattle.device.specs.declared.registers.Register.{Register}
use Rattle.device.specs.Rows.{row, words, pushed}
use Rattle.device.specs.Commands.{with_register, put_of, put_by, as_done}
use Rattle.device.specs.Worlds as chip
use Rattle.device.proofs.Rows.{words_more, row_length, row_empty, some_is}
use Rattle.device.proofs.Worlds as chips
use Rattle.boot.specs.declared.disks.Name.{Name}
use Rattle.boot.specs.declared.disks.Entry.{Entry}
use Rattle.boot.specs.declared.disks.Batch.{Batch}
use Rattle.boot.specs.declared.machines.Machine.{Machine}
use Rattle.boot.specs.Disks.{unread, program_of, batch_of}
use Rattle.boot.specs.Machines.{switched, put_into, load_of, go_on, load_all_of}
use Rattle.boot.specs.Starts.{further_from, loaded_from, batch_from, follow, first_from, start_of, asked_from, program_from, ask_of}
use Rattle.boot.specs.Worlds.{Stands, after_row, Started, Starts, latest, Asks}

ok_is : {x y : Machine} → ◌≡◌ {A = Result Machine Refusal} (Ok x) (Ok y) → x ≡ y
ok_is e = cc

-- ---- one program more

-- what a load comes to: the digest went into the register, and the program was loaded
record Loads (m : Machine) (d : Digest) (n : Machine) : Type 0 where
  pushed_is : pushed m.chip.register d ≡ Some n.chip.register
  chip_is : put_of m.chip d ≡ Ok n.chip
  ran_is : words n.ran ≡ d.bytes ∷ words m.ran

loads_by : (m : Machine) (d : Digest) (n : Machine) (o p : Option Register) → pushed m.chip.register d ≡ o → pushed m.ran d ≡ p → put_into (put_by m.chip o) p ≡ Some n → Loads m d n
loads_by m d n None p e f is = absurd (grind arith)
loads_by m d n (Some r) None e f is = absurd (grind arith)
loads_by m d n (Some r) (Some q) e f is = by (some_is is)
  where
    by : record { chip = with_register r m.chip; ran = q } ≡ n → Loads m d n
    by same = record { pushed_is = e ∙ ap (λ k. Some k.chip.register) same; chip_is = ap (put_by m.chip) e ∙ ap (λ k. Ok k.chip) same; ran_is = words_more m.ran n.ran d (f ∙ ap (λ k. Some k.ran) same) }

loads_of : (m : Machine) (d : Digest) (n : Machine) → load_of m d ≡ Some n → Loads m d n
loads_of m d n is = loads_by m d n _ _ refl refl is

-- the chip's put, as a step
puts : (m : Machine) (d : Digest) (n : Machine) → Loads m d n → chip.Puts m.chip d (Ok (n.chip, Done))
puts m d n l = subst (λ q. chip.Puts m.chip d (as_done q)) l.chip_is (chips.stepped m.chip (Put d) _ refl)

-- ---- a start

after_ran : (a : ℕ) (ds : List term.Digest) (w : World) → ((after_row a ds w).machines a).ran ≡ ds
after_ran a [] w = ap (λ x. x.ran) (at_same a _ w.machines)
after_ran a (d ∷ ds) w = ap (λ x. x.ran) (at_same a _ (after_row a ds w).machines) ∙ ap (λ l. d ∷ l) (after_ran a ds w)

not_empty : (pr : Programs) (ds : List term.Digest) → Begins pr ds → (q : term.Digest) × (qs : List term.Digest) × (ds ≡ q ∷ qs)
not_empty pr [] ([], e) = absurd (grind arith)
not_empty pr [] (p ∷ r, e) = absurd (grind arith)
not_empty pr (q ∷ qs) b = (q, qs, refl)

-- the machine was switched on, and then just these were loaded, the first program first; the register says so
record Booted (pr : Programs) (w : World) (a : ℕ) (ds : List term.Digest) (m : Machine) : Type 0 where
  run : Run pr (suc (length ds)) w (after_row a ds w)
  chip_stands : chip.Stands m.chip (after_row a ds w) a
  begins : Begins pr ds
  ran_is : words m.ran ≡ ds
  told : words m.chip.register ≡ ds

booted_load : (pr : Programs) (w : World) (a : ℕ) (ds : List term.Digest) (m : Machine) (d : Digest) (n : Machine) → load_of m d ≡ Some n → Booted pr w a ds m → Booted pr w a (d.bytes ∷ ds) n
booted_load pr w a ds m d n is b =
    let l : Loads m d n = loads_of m d n is in
    let (q, qs, e) = not_empty pr ds b.begins in
    let (s, c) = (puts m d n l).loads pr (after_row a ds w) a n.chip q qs b.chip_stands refl (after_ran a ds w ∙ e) in
    record { run = onward b.run s; chip_stands = c; begins = (d.bytes ∷ b.begins.0, ap (λ r. d.bytes ∷ r) b.begins.1); ran_is = l.ran_is ∙ ap (λ r. d.bytes ∷ r) b.ran_is; told = words_more m.chip.register n.chip.register d l.pushed_is ∙ ap (λ r. d.bytes ∷ r) b.told }

-- some row, with which it is booted
abbrev Up : Programs → World → ℕ → Machine → Type 0
Up pr w a m = (ds : List term.Digest) × Booted pr w a ds m

up_all : (pr : Programs) (w : World) (a : ℕ) (m : Machine) (ds : List Digest) (n : Machine) → load_all_of m ds ≡ Some n → Up pr w a m → Up pr w a n
unfolding load_all_of
up_all pr w a m [] n is u = subst (λ k. Up pr w a k) (some_is is) u
up_all pr w a m (d ∷ ds) n is (rs, b) = by (load_of m d) refl is (λ k e h. up_all pr w a k ds n e h)
  where
    by : (o : Option Machine) → load_of m d ≡ o → go_on o (λ k. load_all_of k ds) ≡ Some n → ((k : Machine) → load_all_of k ds ≡ Some n → Up pr w a k → Up pr w a n) → Up pr w a n
    by None e f rest = absurd (grind arith)
    by (Some k) e f rest = rest k f (d.bytes ∷ rs, booted_load pr w a rs m d k e b)

up_follow : (pr : Programs) (w : World) (a k : ℕ) (es : List Entry) (m : Machine) (n : Name) → Up pr w a m → Up pr w a (follow k es m n).1.0
unfolding follow
up_follow pr w a zero es m n u = u
up_follow pr w a (suc k) es m n u = by_batch (batch_of es n).1 (λ xs p o h. up_follow pr w a k xs p o h)
  where
    by_name : (p : Machine) (h : Option Name) → Up pr w a p → ((xs : List Entry) (p : Machine) (o : Name) → Up pr w a p → Up pr w a (follow k xs p o).1.0) → Up pr w a (further_from (batch_of es n).0 p h (λ xs p o. follow k xs p o)).1.0
    by_name p None v rest = v
    by_name p (Some o) v rest = rest (batch_of es n).0 p o v

    by_load : (b : Batch) (t : Option Machine) → load_all_of m (row b.programs) ≡ t → ((xs : List Entry) (p : Machine) (o : Name) → Up pr w a p → Up pr w a (follow k xs p o).1.0) → Up pr w a (loaded_from (batch_of es n).0 m t b.further (λ xs p o. follow k xs p o)).1.0
    by_load b None e rest = u
    by_load b (Some p) e rest = by_name p b.further (up_all pr w a m (row b.programs) p e u) rest

    by_batch : (o : Option Batch) → ((xs : List Entry) (p : Machine) (o : Name) → Up pr w a p → Up pr w a (follow k xs p o).1.0) → Up pr w a (batch_from (batch_of es n).0 m o (λ xs p o. follow k xs p o)).1.0
    by_batch None rest = u
    by_batch (Some b) rest = by_load b (load_all_of m (row b.programs)) refl rest

-- the first program, onto a machine that was just switched on
booted_first : (pr : Programs) (w : World) (a : ℕ) (m : Machine) (first : Digest) (n : Machine) → Stands m w a → first.bytes ≡ pr.first → load_of (switched m) first ≡ Some n → Booted pr w a (pr.first ∷ []) n
booted_first pr w a m first n h e is =
    let l : Loads (switched m) first n = loads_of (switched m) first n is in
    let (s, c) = (chips.switches m.chip).switches pr w a h.chip_stands in
    let (t, b) = (puts (switched m) first n l).boots pr (after_row a [] w) a n.chip c refl (after_ran a [] w) e in
    record { run = onward (onward here s) t; chip_stands = b; begins = ([], refl); ran_is = l.ran_is ∙ ap (λ d. d ∷ []) e; told = words_more (switched m).chip.register n.chip.register first l.pushed_is ∙ ap (λ d. d ∷ []) e }

up_start : (pr : Programs) (w : World) (a : ℕ) (m : Machine) (first : Digest) (es : List Entry) (n : Name) → Stands m w a → first.bytes ≡ pr.first → Up pr w a (start_of m first es n).1.0
up_start pr w a m first es n h e = by (load_of (switched m) first) refl
  where
    by : (o : Option Machine) → load_of (switched m) first ≡ o → Up pr w a (first_from (map unread es) (switched m) o n).1.0
    by None f = absurd (grind arith)
    by (Some p) f = up_follow pr w a _ (map unread es) p n (pr.first ∷ [], booted_first pr w a m first p h e f)

up_started : (pr : Programs) (w : World) (a : ℕ) (n : Machine) → Up pr w a n → Started pr w a n
up_started pr w a n (ds, b) =
    subst (λ rs. Run pr (suc (length rs)) w (after_row a rs w) → Stands n (after_row a rs w) a → Begins pr rs → words n.chip.register ≡ rs → Started pr w a n) b.ran_is (λ run s g t. record { run = run; stands = s; begins = g; told = t }) b.run (record { chip_stands = b.chip_stands; ran_is = b.ran_is ∙ sym (after_ran a ds w) }) b.begins b.told

pub starts : (m : Machine) (first : Digest) (es xs : List Entry) (n : Name) (r : Machine × Result (Unit {0}) Refusal) → (xs, r) ≡ start_of m first es n → Starts m first r
starts m first es xs n r is pr w a h e = subst (λ q. Started pr w a q.0) (sym (ap (λ q. q.1) is)) (up_started pr w a _ (up_start pr w a m first es n h e))

-- ---- a further program

-- machine a loaded what n loaded last
abbrev Loaded : Programs → World → ℕ → Machine → Type 0
Loaded pr w a n = step.Step pr w (effect.on_machine a (effect.loaded (latest (words n.ran))) w) × Stands n (effect.on_machine a (effect.loaded (latest (words n.ran))) w) a

asked : (m : Machine) (es : List Entry) (o : Option Machine) (d : Digest) → load_of m d ≡ o → (m.ran.len ≡ 0 → ⊥) → Asks m (asked_from es o).1
asked m es None d e some = record { loads = λ pr w a n h f. absurd (grind arith) }
asked m es (Some p) d e some = record { loads = λ pr w a n h f. subst (λ k. Loaded pr w a k) (ok_is f) (by pr w a h) }
  where
    l : Loads m d p
    l = loads_of m d p e

    runs : (pr : Programs) (w : World) (a : ℕ) → Stands m w a → (ds : List term.Digest) → words m.ran ≡ ds → (q : term.Digest) × (qs : List term.Digest) × ((w.machines a).ran ≡ q ∷ qs)
    runs pr w a h [] is = absurd (some (sym (row_length m.ran) ∙ row_empty m.ran is))
    runs pr w a h (q ∷ qs) is = (q, qs, sym h.ran_is ∙ is)

    by : (pr : Programs) (w : World) (a : ℕ) → Stands m w a → Loaded pr w a p
    by pr w a h =
        let (q, qs, some_runs) = runs pr w a h (words m.ran) refl in
        let (s, c) = (puts m d p l).loads pr w a p.chip q qs h.chip_stands refl some_runs in
        let is : latest (words p.ran) ≡ d.bytes = ap latest l.ran_is in
        subst (λ x. step.Step pr w (effect.on_machine a (effect.loaded x) w) × Stands p (effect.on_machine a (effect.loaded x) w) a) (sym is) (s, record { chip_stands = c; ran_is = l.ran_is ∙ ap (λ r. d.bytes ∷ r) h.ran_is ∙ sym (ap (λ x. x.ran) (at_same a _ w.machines)) })

asks_at : (m : Machine) (es : List Entry) (n : Name) (b : Bool) → eqb m.ran.len 0 ≡ b → Asks m (cond b (es, Err Malformed) (program_from (program_of es n).0 m (program_of es n).1)).1
asks_at m es n true e = record { loads = λ pr w a n h f. absurd (grind arith) }
asks_at m es n false e = by (program_of es n).1
  where
    by : (o : Option Digest) → Asks m (program_from (program_of es n).0 m o).1
    by None = record { loads = λ pr w a n h f. absurd (grind arith) }
    by (Some d) = asked m (program_of es n).0 (load_of m d) d refl (λ z. absurd (grind (arith, nat_tests)))

pub asks : (m : Machine) (es xs : List Entry) (n : Name) (r : Result Machine Refusal) → (xs, r) ≡ ask_of m es n → Asks m r
asks m es xs n r is = subst (λ q. Asks m q) (sym (ap (λ q. q.1) is)) (asks_at m es n _ refl)
