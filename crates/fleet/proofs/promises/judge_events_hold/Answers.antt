use Rattle.fleet.proofs.promises.judge_events_hold.Goals as goal
use Rattle.fleet.proofs.Words.{office_words, net_words, judge_falls}

pub returns : goal.returns
returns c = record { office = office_words; net = net_words; falls = judge_falls }
