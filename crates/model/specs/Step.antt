-- Every step that there is; each may come at any time at which what it asks for holds.
use Rattle.std.specs.Prelude.{◌≡◌, true, false, ℕ}
use mathlib.Core.List.{List, [], ◌∷◌, ◌++◌, Memᴰ}
use Rattle.model.specs.Term.{Term, Digest, Sign, Sealed, Derives}
use Rattle.model.specs.World.{Programs, Target, For, Thing, Machine, Question, World, all_good}
use Rattle.model.specs.Effect.{honest, statement, switched, loaded, put_unloaded, loaded_unput, counted, passed_over, thing, new_judge, with_chip, with_list, with_questions, saying, having_drawn, having_accepted, having_opened, on_machine, on_judge, giving_out, opening, question, asking, acceptance}

-- only good programs were loaded since the switch
abbrev pub Clean : Programs → Machine → Type 0
Clean pr m = all_good pr.good m.ran ≡ true

-- a bad one was: from then on `puts_only` and `loads_only` may come, and `opens_told` in the place of `opens`
abbrev pub Tainted : Programs → Machine → Type 0
Tainted pr m = all_good pr.good m.ran ≡ false

-- outsiders can bring chip a the thing x, which it gave out, closed for the register and the counter of now
pub record Opens (a : ℕ) (x : Thing) (w : World) : Type 0 where
  pub given_out : Memᴰ x (w.machines a).closed
  pub at_hand : Derives w.heard (Sealed a x.number)
  pub target_fits : x.target ≡ For (w.machines a).register
  pub counter_fits : x.counter ≡ (w.machines a).counter

pub data Step (pr : Programs) : World → World → Type 0 where
  -- ---- machines
  -- the machine is switched on, or off and on: nothing runs, and the register is empty
  switches : (w : World) (a : ℕ) → Step pr w (on_machine a switched w)
  -- after the switch the first program is the first to be put into the register and to run
  boots : (w : World) (a : ℕ) → (w.machines a).ran ≡ [] → Step pr w (on_machine a (loaded pr.first) w)
  -- what runs puts a program into the register, a good or a bad one, and loads it
  loads : (w : World) (a : ℕ) (p q : Digest) (qs : List Digest) → (w.machines a).ran ≡ q ∷ qs → Step pr w (on_machine a (loaded p) w)
  -- where a bad program was loaded, anything may be put in and not loaded, or loaded and not put in
  puts_only : (w : World) (a : ℕ) (p : Digest) → Tainted pr (w.machines a) → Step pr w (on_machine a (put_unloaded p) w)
  loads_only : (w : World) (a : ℕ) (p : Digest) → Tainted pr (w.machines a) → Step pr w (on_machine a (loaded_unput p) w)
  -- a chip signs whatever outsiders have, with its register, whatever runs
  signs : (w : World) (a : ℕ) (t : Term) → Derives w.heard t → Step pr w (saying (Sign a (statement t (w.machines a).register)) w)
  -- the counter goes up by one, whatever runs
  counts : (w : World) (a : ℕ) → Step pr w (on_machine a counted w)
  -- what somebody just drew, and tells nobody, is closed for a target; outsiders have the sealed thing
  closes : (w : World) (a : ℕ) (r : Target) → Step pr w (having_drawn (giving_out a (thing r (honest w.next) true (w.machines a)) w))
  -- what outsiders have is closed
  closes_given : (w : World) (a : ℕ) (r : Target) (t : Term) → Derives w.heard t → Step pr w (giving_out a (thing r t false (w.machines a)) w)
  -- power is lost while the chip closes: the number is used up, and nothing is given out
  passes_over : (w : World) (a : ℕ) → Step pr w (on_machine a passed_over w)
  -- a good program keeps to itself what it opens, and does not close it again; from a machine with a bad one the outsiders have it
  opens : (w : World) (a : ℕ) (x : Thing) → Opens a x w → Clean pr (w.machines a) → Step pr w (having_opened (opening a x) w)
  opens_told : (w : World) (a : ℕ) (x : Thing) → Opens a x w → Tainted pr (w.machines a) → Step pr w (saying x.what (having_opened (opening a x) w))
  -- ---- judges
  -- the office gives a judge any chip, or any list that begins with the first program, which stands last, as the latest stands first
  takes_chip : (w : World) (j a : ℕ) → Step pr w (on_judge j (with_chip a) w)
  takes_list : (w : World) (j : ℕ) (r : List Digest) → Step pr w (on_judge j (with_list (r ++ (pr.first ∷ []))) w)
  -- a judge draws a nonce and asks a chip that it knows
  asks : (w : World) (j a : ℕ) → Memᴰ a (w.judges j).chips → Step pr w (asking (question j a w) w)
  -- an open question may be put out at any time, by age or by newer ones
  puts_out : (w : World) (j : ℕ) (newer older : List Question) (q : Question) → (w.judges j).questions ≡ newer ++ (q ∷ older) → Step pr w (on_judge j (with_questions (newer ++ older)) w)
  -- a judge falls, and keeps nothing
  falls : (w : World) (j : ℕ) → Step pr w (on_judge j (λ _. new_judge) w)
  -- a judge accepts what the chip that it asked, and still knows, signed: the nonce of an open question, with one of its lists; the question is then no longer open
  accepts : (w : World) (j : ℕ) (newer older : List Question) (q : Question) (r : List Digest) → (w.judges j).questions ≡ newer ++ (q ∷ older) → Memᴰ q.chip (w.judges j).chips → Memᴰ r (w.judges j).lists → Derives w.heard (Sign q.chip (statement (honest q.nonce) r)) →
      Step pr w (having_accepted (acceptance q r) (on_judge j (with_questions (newer ++ older)) w))
