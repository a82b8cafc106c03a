use Rattle.std.proofs.Common.{◌≡◌, Some, ap, ◌∙◌, arith}
use Rattle.boot.specs.Machines.{load_of}
use Rattle.boot.proofs.Starts.{started}
use Rattle.boot.proofs.machines.Machine.begin.Goals as goal

pub returns : goal.returns
returns c =
    let some : c.load.result ≡ Some c.in_ok-self.field-0 = grind arith in
    started c.args.self.now c.args.first _ _ c.args.list _ _ _ c.rewind.ensures (c.load.ensures ∙ ap (λ m. load_of m c.args.first) c.switch.ensures) some c.follow_lists.ensures
