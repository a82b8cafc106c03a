-- A fleet as it is made.
use Rattle.std.specs.Prelude.{◌≡◌, ℕ, ◌<◌, List, [], length, slice_index_or}
use Rattle.device.specs.declared.digests.Digest.{Digest}
use Rattle.boot.specs.Machines.{new_machine}
use Rattle.verifier.specs.Seats.{new_seat}
use Rattle.fleet.specs.Sights.{Sight}

-- n of them, the one at i being f i
pub record Each {A : Type 0} (f : ℕ → A) (n : ℕ) (xs : List A) : Type 0 where
  pub long : length xs ≡ n
  pub each : (i : ℕ) (d : A) → i < n → slice_index_or xs i d ≡ f i

-- machine i has chip i, and judges know the first program alone; nothing was written, heard or shown
pub record Begins (first : Digest) (bad : List Digest) (machines judges : ℕ) (s : Sight) : Type 0 where
  pub first_is : s.first ≡ first
  pub bad_is : s.bad ≡ bad
  pub machines_are : Each new_machine machines s.machines
  pub seats_are : Each (λ _. new_seat first) judges s.seats
  pub disk_is : s.disk ≡ []
  pub heard_is : s.heard ≡ []
  pub shown_is : s.shown ≡ []
