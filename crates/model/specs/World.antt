-- The state of everything: machines, each with its chip, judges, what outsiders have heard, and what ever happened.
use Rattle.std.specs.Prelude.{◌≡◌, Bool, true, ◌&&◌, List, [], ◌∷◌, ℕ}
use Rattle.model.specs.Term.{Term, Digest}

-- what never changes, and nobody in the system knows: which programs are good; and the first program, burnt into every machine, which is a good one
pub record Programs : Type 0 where
  pub good : Digest → Bool
  pub first : Digest
  pub first_good : good first ≡ true

-- what a thing is closed for: a row of programs, or what is no row, for which no chip opens it
pub data Target : Type 0 where
  For : List Digest → Target
  Nowhere : Target

-- what a chip closed: under which number, for which target and counter, and the term inside
-- secret: the term was drawn for this alone, and whoever drew it tells nobody, as a good program does
pub record Thing : Type 0 where
  pub number : ℕ
  pub target : Target
  pub counter : ℕ
  pub what : Term
  pub secret : Bool

-- a machine and its chip
-- ran: the programs loaded since the switch, the latest first; none before the first program runs
-- register: the row of programs put into the chip since the switch, the latest first
-- counter: stays over the switch
-- number: that of the next thing to be closed; stays over the switch, and a power loss may pass one over
-- closed: all that the chip ever closed and gave out, the latest first
pub record Machine : Type 0 where
  pub ran : List Digest
  pub register : List Digest
  pub counter : ℕ
  pub number : ℕ
  pub closed : List Thing

-- the judge asks the chip, with a nonce that it drew for this
pub record Question : Type 0 where
  pub judge : ℕ
  pub chip : ℕ
  pub nonce : ℕ

-- chips and lists: those that the office gave it since it last fell; a list is a row of programs that it would accept
-- questions: those that are open
pub record Judge : Type 0 where
  pub chips : List ℕ
  pub lists : List (List Digest)
  pub questions : List Question

-- the judge that asked accepted that the chip's register was this row
pub record Acceptance : Type 0 where
  pub question : Question
  pub row : List Digest

-- the chip opened the thing
pub record Opening : Type 0 where
  pub chip : ℕ
  pub thing : Thing

-- machines and judges: by their numbers, and a chip has the number of its machine
-- heard: all that outsiders ever heard on the net or read on a disk
-- asked, accepted, opened: all that ever were, the latest first
-- next: the next nonce to be drawn by a judge, or by whoever closes in secret
pub record World : Type 0 where
  pub machines : ℕ → Machine
  pub judges : ℕ → Judge
  pub heard : List Term
  pub asked : List Question
  pub accepted : List Acceptance
  pub opened : List Opening
  pub next : ℕ

-- whether all programs of a row are good, as those of the empty row are
unfoldable pub all_good : (Digest → Bool) → List Digest → Bool
all_good g [] = true
all_good g (p ∷ ps) = g p && all_good g ps
