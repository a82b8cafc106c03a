use Rattle.std.proofs.Common.{◌≡◌, Some}
use Rattle.fleet.specs.Sights.{found, alone}
use Rattle.fleet.proofs.Alone.{acted_among}
use Rattle.fleet.proofs.fleets.Fleet.at.Goals as goal

pub returns : goal.returns
returns c =
    let got : c.get_mut.result ≡ Some c.in_ok-machine.machine = c.in_ok-machine.ensures.ok_part in
    rw (← c.self.view_is) (acted_among (found c.act.result) c.args.i _ c.args.act c.get_mut.result c.in_ok-machine.machine (alone c.act.new.machine c.act.new.self, c.act.result) _ c.get_mut.ensures.item got c.act.ensures)
